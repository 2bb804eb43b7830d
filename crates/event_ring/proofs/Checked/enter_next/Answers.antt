-- By what the read of the next entry answered; an entry past the last address is outside.
use Rattle.std.proofs.Common.{◌≡◌, ℕ, ◌+◌, ◌*◌, ◌^◌, ◌<◌, false, sym, ap, ap₂, ◌∙◌, arith}
use Rattle.std.proofs.lemmas.Result.{err_from_is_err_and}
use Rattle.std.specs.Prelude.{Option, Some, None, Result, Ok, Err, SomeIff, ok_or}
use Rattle.guest.specs.Judge.{judge}
use Rattle.guest.specs.Memory.{Memory, inside}
use Rattle.guest.specs.Refusals.{by_number}
use Rattle.guest.specs.declared.refusal.Refusal.{Refusal}
use Rattle.guest.specs.declared.refusal.Refusal.TheVariants.{Outside}
use Rattle.guest.proofs.Memory.{inside_no}
use Rattle.event_ring.specs.Answers.{moved}
use Rattle.event_ring.specs.Ring.{next_index, next_entry, entry_tests, entry_read, entered, refused_at, moved_to}
use Rattle.event_ring.specs.declared.Entry.{Entry}
use Rattle.event_ring.specs.declared.EventRing.{EventRing}
use Rattle.event_ring.proofs.Laws.{result_ok, result_err, stopped_as, read_numbered, moved_refuses}
use Rattle.event_ring.proofs.Checked.enter_next.Goals as goal

-- what a sum that was tried says
sum_is : (a b n : ℕ) (o : Option ℕ) → SomeIff o (a + b < 2 ^ 64) (a + b) → ok_or o Outside ≡ Ok n → n ≡ a + b
sum_is a b n None s e = absurd (grind arith)
sum_is a b n (Some x) s e = cc s.1

no_sum : (a b : ℕ) (d : Refusal) (o : Option ℕ) → SomeIff o (a + b < 2 ^ 64) (a + b) → ok_or o Outside ≡ Err d → (d ≡ Outside) × (a + b < 2 ^ 64 → ⊥)
no_sum a b d None s e = (cc, s)
no_sum a b d (Some x) s e = absurd (grind arith)

-- what was read at the address that was worked out
read_next : (m : Memory) (s : EventRing) (i a : ℕ) (x : Result Entry Refusal) → i ≡ next_index s → a ≡ s.table + 16 * i → x ≡ entry_read m a
    → x ≡ judge (entry_tests m s) (λ n. Err (by_number n)) (Ok (next_entry m s))
read_next m s i a x index at e = rw (← index, ← at) e

pub returns-in_err-entry : goal.returns-in_err-entry
unfolding judge by_number
returns-in_err-entry c =
    let m = c.args.mem.now in
    let s = c.args.self.ring in
    let p = err_from_is_err_and c.from_residual.result c.from_residual.ensures.1 in
    let q = no_sum s.table (16 * c.from-past.result) _ _ c.checked_add.ensures (sym c.ok_or.ensures.value ∙ c.in_err-entry.was) in
    let past : inside m (s.table + 16 * next_index s) 16 ≡ false =
    inside_no m _ 16 (λ w. q.1 (omega (arith, w.below, c.from-past.ensures, c.next_index-index.ensures))) in
    rw (p.1, p.2, q.0, past)

pub returns-in_err-e : goal.returns-in_err-e
returns-in_err-e c =
    let m = c.args.mem.now in
    let s = c.args.self.ring in
    let p = err_from_is_err_and c.from_residual-in_err-e.result c.from_residual-in_err-e.ensures.1 in
    let at = sum_is s.table (16 * c.from-past.result) _ _ c.checked_add.ensures (sym c.ok_or.ensures.value ∙ c.in_ok-entry.was) in
    let read = read_next m s _ _ _ c.next_index-index.ensures (rw c.from-past.ensures at at) c.read.ensures in
    rw (p.1, p.2)
    (stopped_as (entry_tests m s) _
    (result_err (entry_tests m s) (read_numbered m (s.table + 16 * next_index s)) (next_entry m s) _ (sym read ∙ c.in_err-e.was))
    moved (refused_at s) (moved_to (entered s (next_index s) (next_entry m s))) (moved_refuses s))

pub returns : goal.returns
unfolding judge
returns c =
    let m = c.args.mem.now in
    let s = c.args.self.ring in
    let at = sum_is s.table (16 * c.from-past.result) _ _ c.checked_add.ensures (sym c.ok_or.ensures.value ∙ c.in_ok-entry.was) in
    let read = read_next m s _ _ _ c.next_index-index.ensures (rw c.from-past.ensures at at) c.read.ensures in
    let q = result_ok (entry_tests m s) (next_entry m s) _ (sym read ∙ c.in_ok-e.was) in
    rw (q.0.0, q.0.1.0) (ap Ok (c.enter.ensures ∙ ap₂ (entered s) c.next_index-index.ensures q.1))
