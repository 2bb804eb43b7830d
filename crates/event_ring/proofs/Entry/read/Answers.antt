-- By what the read of the sixteen bytes answered.
use Rattle.std.proofs.Common.{◌≡◌, ℕ, Bool, true, List, sym, ap, ◌∙◌}
use Rattle.std.proofs.lemmas.Result.{err_from_is_err_and}
use Rattle.std.specs.Prelude.{Ok}
use Rattle.guest.specs.Judge.{judge}
use Rattle.guest.specs.Memory.{Memory, inside, trb_at}
use Rattle.guest.specs.Refusals.{by_number}
use Rattle.guest.specs.Answers.{trb_read}
use Rattle.guest.proofs.Tests.{told}
use Rattle.guest.proofs.Answers.{touching_ok, touching_err}
use Rattle.guest.proofs.Memory.{inside_within}
use Rattle.event_ring.specs.Ring.{entry_of_bytes, entry_at, good_entry}
use Rattle.event_ring.specs.declared.Entry.{Entry}
use Rattle.event_ring.proofs.Laws.{entry_bytes}
use Rattle.event_ring.proofs.Entry.read.Goals as goal

-- where the bytes were read, and e was made of them
module _ (m : Memory) (a : ℕ) (trb : List ℕ) (h : trb_read m a ≡ Ok trb) (e : Entry) (g : e ≡ entry_of_bytes trb) where
  here : inside m a 16 ≡ true
  here = (touching_ok m a 16 (trb_at m a) trb h).within

  entry_is : e ≡ entry_at m a
  entry_is = g ∙ ap entry_of_bytes (touching_ok m a 16 (trb_at m a) trb h).is ∙ entry_bytes m a (inside_within m a 16 here).from

  good : (b : Bool) → b ≡ good_entry m e → b ≡ good_entry m (entry_at m a)
  good b t = t ∙ ap (good_entry m) entry_is

pub returns-in_err-read_trb : goal.returns-in_err-read_trb
unfolding judge by_number
returns-in_err-read_trb c =
    let p = err_from_is_err_and c.from_residual.result c.from_residual.ensures.1 in
    let u = touching_err c.args.mem.now c.args.address 16 _ _ (sym c.read_trb.ensures ∙ c.in_err-read_trb.was) in
    rw (p.1, p.2, u.without, u.is)

pub returns-then-not-good : goal.returns-then-not-good
unfolding judge by_number
returns-then-not-good c =
    let m = c.args.mem.now in
    let a = c.args.address in
    let h = sym c.read_trb.ensures ∙ c.in_ok-read_trb.was in
    rw (here m a _ h _ c.from-e.ensures, told (good m a _ h _ c.from-e.ensures _ c.good.ensures) c.if-not-good.true)

pub returns : goal.returns
unfolding judge
returns c =
    let m = c.args.mem.now in
    let a = c.args.address in
    let h = sym c.read_trb.ensures ∙ c.in_ok-read_trb.was in
    rw (here m a _ h _ c.from-e.ensures, told (good m a _ h _ c.from-e.ensures _ c.good.ensures) c.if-not-good.false)
    (ap Ok (entry_is m a _ h _ c.from-e.ensures))
