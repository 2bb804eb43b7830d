-- By the tests in their order; those of the next slot are what `next` answered by.
use Rattle.std.proofs.Common.{◌≡◌, ℕ, ◌%◌, true, not, eqb, [], ◌∷◌, sym, ap, ◌∙◌, eq-eqb, ne_eqb}
use Rattle.std.proofs.lemmas.Result.{MatchResult-at_ok, MatchResult-at_err, err_from_is_err_and}
use Rattle.std.specs.Prelude.{Ok, Err}
use Rattle.guest.specs.Judge.{judge}
use Rattle.guest.specs.Memory.{Memory, inside}
use Rattle.guest.specs.Refusals.{by_number}
use Rattle.guest.specs.declared.refusal.Refusal.{Refusal}
use Rattle.guest.proofs.Tests.{told}
use Rattle.guest.proofs.Judge.{judge_append}
use Rattle.event_ring.specs.Answers.{moved}
use Rattle.event_ring.specs.Ring.{ok_state, next_tests, next_state, next, full, add_step, refused_at, moved_to}
use Rattle.event_ring.specs.declared.EventRing.{EventRing}
use Rattle.event_ring.proofs.Laws.{judge_then, stopped_as, moved_refuses, next_ok, next_err}
use Rattle.event_ring.proofs.EventRing.add_step.Goals as goal

-- where the tests before pass
module _ (m : Memory) (s : EventRing) (report : ℕ) (ok : ok_state s ≡ true) (even : eqb (report % 16) 0 ≡ true)
    (here : inside m s.place 16 ≡ true) where
  stopped : (d : Refusal) → moved (next m s) ≡ Err d → Err d ≡ moved (add_step m s report)
  unfolding add_step judge
  stopped d e = rw (ok, even, here, judge_append) (stopped_as (next_tests m s) d (next_err m s d e) moved (refused_at s) _ (moved_refuses s))

  rest : (t : EventRing) → moved (next m s) ≡ Ok t
      → add_step m s report ≡ judge ((7, not (eqb t.place report)) ∷ []) (refused_at s) (moved_to t)
  unfolding add_step judge
  rest t e =
      let p = next_ok m s t e in
      rw (ok, even, here)
      (judge_then (next_tests m s) ((7, not (full m s report)) ∷ []) (refused_at s) (moved_to (next_state m s)) p.0
      ∙ ap (λ (x : EventRing). judge ((7, not (eqb x.place report)) ∷ []) (refused_at s) (moved_to x)) (sym p.1))

pub returns-in_err-ring : goal.returns-in_err-ring
unfolding add_step judge by_number
returns-in_err-ring c =
    let p = err_from_is_err_and c.from_residual.result c.from_residual.ensures.1 in
    let q = MatchResult-at_err _ _ _ c.in_err-ring.was c.checked.ensures in
    rw (p.1, p.2, q.0, q.1)

pub returns-then-report-ne0 : goal.returns-then-report-ne0
unfolding add_step judge by_number
returns-then-report-ne0 c =
    let kept = MatchResult-at_ok _ _ _ c.in_ok-ring.was c.checked.ensures in
    rw (kept.1, ne_eqb _ _ c.if-report-ne0.true)

pub returns-then-not-inside : goal.returns-then-not-inside
unfolding add_step judge by_number
returns-then-not-inside c =
    let kept = MatchResult-at_ok _ _ _ c.in_ok-ring.was c.checked.ensures in
    rw (kept.1, eq-eqb _ _ c.if-report-ne0.false, told c.inside.ensures c.if-not-inside.true)

pub returns-in_err-next : goal.returns-in_err-next
returns-in_err-next c =
    let p = err_from_is_err_and c.from_residual-in_err-next.result c.from_residual-in_err-next.ensures.1 in
    let kept = MatchResult-at_ok _ _ _ c.in_ok-ring.was c.checked.ensures in
    let next = sym c.next.ensures ∙ c.in_err-next.was in
    rw (p.1, p.2)
    (stopped c.args.mem.now c.args.self c.args.report kept.1 (eq-eqb _ _ c.if-report-ne0.false)
    (told c.inside.ensures c.if-not-inside.false) _ (rw kept.0 at next))

pub returns-then-next-report : goal.returns-then-next-report
unfolding judge by_number
returns-then-next-report c =
    let kept = MatchResult-at_ok _ _ _ c.in_ok-ring.was c.checked.ensures in
    let next = sym c.next.ensures ∙ c.in_ok-next.was in
    rw (
      rest c.args.mem.now c.args.self c.args.report kept.1 (eq-eqb _ _ c.if-report-ne0.false)
          (told c.inside.ensures c.if-not-inside.false) _ (rw kept.0 at next),
      eq-eqb _ _ c.if-next-report.true,
    )

pub returns : goal.returns
unfolding judge
returns c =
    let kept = MatchResult-at_ok _ _ _ c.in_ok-ring.was c.checked.ensures in
    let next = sym c.next.ensures ∙ c.in_ok-next.was in
    rw (
      rest c.args.mem.now c.args.self c.args.report kept.1 (eq-eqb _ _ c.if-report-ne0.false)
          (told c.inside.ensures c.if-not-inside.false) _ (rw kept.0 at next),
      ne_eqb _ _ c.if-next-report.false,
    )
