-- Each turn rewrites the invariant by the tests that led on, until it is the answer, or the chase from the ring as moved.
use Rattle.std.proofs.Common.{◌≡◌, suc, ◌+◌, ◌-◌, true, List, ℕ, sym, ◌∙◌, arith}
use Rattle.std.proofs.lemmas.Result.{err_from_is_err_and}
use Rattle.std.specs.Prelude.{Result, Ok, Err}
use Rattle.guest.specs.declared.refusal.Refusal.{Refusal}
use Rattle.guest.specs.Refusals.{by_number}
use Rattle.guest.specs.Memory.{Memory, trb_at}
use Rattle.guest.specs.Answers.{trb_read}
use Rattle.guest.proofs.Answers.{touching_ok, touching_err}
use Rattle.guest.proofs.Tests.{told}
use Rattle.trb.specs.Links.{link_of}
use Rattle.linked_ring.specs.Chase.{chase_from, onward, seen, fresh_of}
use Rattle.linked_ring.specs.declared.LinkedRing.{LinkedRing}
use Rattle.linked_ring.specs.declared.Notes.{Notes}
use Rattle.linked_ring.specs.declared.Chase.{Chase}
use Rattle.linked_ring.proofs.LinkedRing.go_on.Goals as goal

-- a turn: `whole` is the chase from here, and t what was read at the ring's place
module _ (m : Memory) (r : LinkedRing) (n : Notes) (whole : Result Chase Refusal) (invariant : chase_from m (256 - n.links) r n ≡ whole)
    (t : Result (List ℕ) Refusal) (read : t ≡ trb_read m r.place) where
  outside : (x : Refusal) → t ≡ Err x → Err x ≡ whole
  unfolding by_number
  outside x h =
      let u = touching_err m r.place 16 (trb_at m r.place) x (sym read ∙ h) in
      rw u.is (rw u.without at invariant)

  sees : (trb : List ℕ) → t ≡ Ok trb → seen true (fresh_of r.cycle trb) (link_of trb) trb r n (onward m (256 - n.links) r n) ≡ whole
  sees trb h =
      let u = touching_ok m r.place 16 (trb_at m r.place) trb (sym read ∙ h) in
      rw u.is (rw u.within at invariant)

-- the turns of the loop that end it

pub returns-in_err-buffer : goal.returns-in_err-buffer
returns-in_err-buffer c =
    let a = c.loop-buffer in
    let p = err_from_is_err_and c.from_residual.result c.from_residual.ensures.1 in
    rw (p.1, p.2) (outside c.args.mem.now a.ring a.notes _ a.invariant _ c.read_trb.ensures _ c.in_err-buffer.was)

pub returns-then-not-fresh : goal.returns-then-not-fresh
returns-then-not-fresh c =
    let a = c.loop-buffer in
    rw (told c.fresh.ensures c.if-not-fresh.true) at (sees c.args.mem.now a.ring a.notes _ a.invariant _ c.read_trb.ensures _ c.in_ok-buffer.was)

pub returns-in_default : goal.returns-in_default
returns-in_default c =
    let a = c.loop-buffer in
    rw (told c.fresh.ensures c.if-not-fresh.false, sym c.parse.ensures ∙ c.in_default.is)
    at (sees c.args.mem.now a.ring a.notes _ a.invariant _ c.read_trb.ensures _ c.in_ok-buffer.was)

pub returns-then-notes-ge-MOST_LINKS : goal.returns-then-notes-ge-MOST_LINKS
unfolding onward
returns-then-notes-ge-MOST_LINKS c =
    let a = c.loop-buffer in
    let none_left : 256 - a.notes.links ≡ 0 = omega arith in
    rw (told c.fresh.ensures c.if-not-fresh.false, sym c.parse.ensures ∙ c.in-Some.is, none_left)
    at (sees c.args.mem.now a.ring a.notes _ a.invariant _ c.read_trb.ensures _ c.in_ok-buffer.was)

-- and the one that goes on

pub loop-buffer-preserved : goal.loop-buffer-preserved
unfolding onward
loop-buffer-preserved c =
    let a = c.loop-buffer in
    let one_less : 256 - a.notes.links ≡ suc (256 - (a.notes.links + 1)) = omega arith in
    rw (c.with-notes.ensures, c.follow-ring.ensures)
    (rw (told c.fresh.ensures c.if-not-fresh.false, sym c.parse.ensures ∙ c.in-Some.is, one_less)
    at (sees c.args.mem.now a.ring a.notes _ a.invariant _ c.read_trb.ensures _ c.in_ok-buffer.was))
