-- By the tests in their order; those of the next slot, which are asked where the slot is fresh, are what `next` answered by.
use Rattle.std.proofs.Common.{◌≡◌, Bool, List, ℕ, refl, sym, ap, ◌∙◌}
use Rattle.std.proofs.lemmas.Result.{MatchResult-at_ok, MatchResult-at_err, err_from_is_err_and}
use mathlib.Core.Bool.{beq}
use Rattle.guest.specs.Judge.{judge}
use Rattle.guest.specs.Memory.{Memory, trb_at}
use Rattle.guest.specs.Refusals.{by_number}
use Rattle.guest.proofs.Tests.{yes, no}
use Rattle.guest.proofs.Judge.{judge_passes}
use Rattle.guest.proofs.Answers.{touching_ok, touching_err}
use Rattle.trb.specs.Trb.{cycle_of}
use Rattle.event_ring.specs.Answers.{taken_as}
use Rattle.event_ring.specs.Ring.{fresh_of, next_tests, take_refused, take}
use Rattle.event_ring.specs.declared.EventRing.{EventRing}
use Rattle.event_ring.proofs.Laws.{stopped_as, next_ok, next_err}
use Rattle.event_ring.proofs.EventReader.take.Goals as goal

-- where sixteen bytes t were read, with the cycle bit b
is_fresh : (m : Memory) (s : EventRing) (t : List ℕ) (b : Bool) → t ≡ trb_at m s.place → b ≡ cycle_of t → beq b s.cycle ≡ fresh_of m s
is_fresh m s t b r e = ap (λ (x : Bool). beq x s.cycle) (e ∙ ap cycle_of r)

pub returns-in_err-ring : goal.returns-in_err-ring
unfolding take judge by_number
returns-in_err-ring c =
    let p = err_from_is_err_and c.from_residual.result c.from_residual.ensures.1 in
    let q = MatchResult-at_err _ _ _ c.in_err-ring.was c.checked.ensures in
    rw (p.1, p.2, q.0, q.1)

pub returns-in_err-trb : goal.returns-in_err-trb
unfolding take judge by_number
returns-in_err-trb c =
    let p = err_from_is_err_and c.from_residual-in_err-trb.result c.from_residual-in_err-trb.ensures.1 in
    let kept = MatchResult-at_ok _ _ _ c.in_ok-ring.was c.checked.ensures in
    let u = touching_err c.args.mem.now c.args.self.state.place 16 _ _ (sym c.read_trb.ensures ∙ c.in_err-trb.was) in
    rw (p.1, p.2, kept.1, u.without, u.is)

pub returns-then-cycle_bit-self : goal.returns-then-cycle_bit-self
unfolding take judge
returns-then-cycle_bit-self c =
    let kept = MatchResult-at_ok _ _ _ c.in_ok-ring.was c.checked.ensures in
    let t = touching_ok c.args.mem.now c.args.self.state.place 16 _ _ (sym c.read_trb.ensures ∙ c.in_ok-trb.was) in
    rw (
      kept.1,
      t.within,
      no (is_fresh c.args.mem.now c.args.self.state _ _ t.is c.cycle_bit.ensures) c.if-cycle_bit-self.true,
    )

pub returns-in_err-state : goal.returns-in_err-state
unfolding take judge
returns-in_err-state c =
    let m = c.args.mem.now in
    let s = c.args.self.state in
    let p = err_from_is_err_and c.from_residual-in_err-state.result c.from_residual-in_err-state.ensures.1 in
    let kept = MatchResult-at_ok _ _ _ c.in_ok-ring.was c.checked.ensures in
    let t = touching_ok m s.place 16 _ _ (sym c.read_trb.ensures ∙ c.in_ok-trb.was) in
    let next = sym c.next.ensures ∙ c.in_err-state.was in
    rw (
      p.1,
      p.2,
      kept.1,
      t.within,
      yes (is_fresh m s _ _ t.is c.cycle_bit.ensures) c.if-cycle_bit-self.false,
    )
    (stopped_as (next_tests m s) _ (next_err m s _ (rw kept.0 at next)) taken_as (take_refused c.args.self) _ (λ n h. refl))

pub returns : goal.returns
unfolding take judge
returns c =
    let m = c.args.mem.now in
    let s = c.args.self.state in
    let kept = MatchResult-at_ok _ _ _ c.in_ok-ring.was c.checked.ensures in
    let t = touching_ok m s.place 16 _ _ (sym c.read_trb.ensures ∙ c.in_ok-trb.was) in
    let next = sym c.next.ensures ∙ c.in_ok-state.was in
    let q = next_ok m s _ (rw kept.0 at next) in
    rw (
      kept.1,
      t.within,
      yes (is_fresh m s _ _ t.is c.cycle_bit.ensures) c.if-cycle_bit-self.false,
      judge_passes (next_tests m s) _ _ q.0,
      t.is,
      q.1,
    )
