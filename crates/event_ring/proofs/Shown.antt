-- What configure, add and take answer says all that their definitions say: the number, and the ring or the reader afterwards, which a refusal leaves as
-- they were. A definition in specs/Answers.antt that hides or exchanges something, and code that follows it, fails here. Assumes nothing.
use Prim.{tt}
use Rattle.std.proofs.Common.{◌≡◌, ℕ, ◌<◌, Bool, true, false, cond, [], ◌∷◌, ◌++◌, sym, refl, ap, ◌∙◌, lit<}
use Rattle.std.specs.Prelude.{Option, Some, None, Result, Ok, Err}
use Rattle.guest.specs.Judge.{Tests}
use Rattle.guest.specs.Memory.{Memory, trb_at}
use Rattle.guest.specs.Refusals.{number_of, by_number}
use Rattle.guest.specs.declared.refusal.Refusal.{Refusal}
use Rattle.guest.proofs.Numbers.{Listed, judged, numbered, by_number_back, as_result_some}
use Rattle.trb.specs.declared.event.EventTrb.{EventTrb}
use Rattle.event_ring.specs.Answers.{Moved, moved, ReaderMoved, reader_moved, Take, TakeMoved, taken_as}
use Rattle.event_ring.specs.Ring as ring
use Rattle.event_ring.specs.Ring.{last, entry_tests, next_tests, next_state, refused_at, moved_to, configure_tests, started, configured, add_tests, added, of_reader, reader_configured, fresh_of, take_tests, take_refused, nothing_at, taken_at, take}
use Rattle.event_ring.specs.declared.EventRing.{EventRing}
use Rattle.event_ring.specs.declared.EventReader.{EventReader}
use Rattle.event_ring.specs.declared.Taken.{Taken}
use Rattle.event_ring.proofs.Standard.{take_apart}

-- ---- an answer, read by whoever called with the ring s or the reader q

abbrev pub as_moved : EventRing → Result EventRing Refusal → Moved
as_moved s (Ok r) = record { refusal = 0; ring = r }
as_moved s (Err d) = record { refusal = number_of d; ring = s }

abbrev pub as_reader_moved : EventReader → Result EventReader Refusal → ReaderMoved
as_reader_moved q (Ok r) = record { refusal = 0; reader = r }
as_reader_moved q (Err d) = record { refusal = number_of d; reader = q }

abbrev pub as_take : EventReader → Result (Option Taken) Refusal → TakeMoved
as_take q (Ok (Some t)) = record { answer = Take.Event; trb = t.trb; reader = t.reader }
as_take q (Ok None) = nothing_at q
as_take q (Err d) = take_refused q (number_of d)

-- ---- the tests refuse by numbers of refusals

next_listed : (m : Memory) (s : EventRing) → Listed (next_tests m s)
unfolding next_tests
next_listed m s = by (last s)
  where
    by : (b : Bool) → Listed (cond b (entry_tests m s) [])
    by true = (lit< tt, lit< tt, (lit< tt, lit< tt, tt))
    by false = tt

after_listed : (xs ys : Tests) → Listed xs → Listed ys → Listed (xs ++ ys)
after_listed [] ys p q = q
after_listed ((n, b) ∷ xs) ys p q = (p.0, p.1, after_listed xs ys p.2 q)

configure_listed : (m : Memory) (table entries : ℕ) → Listed (configure_tests m table entries)
configure_listed m table entries = (lit< tt, lit< tt, (lit< tt, lit< tt, (lit< tt, lit< tt, (lit< tt, lit< tt, tt))))

add_listed : (m : Memory) (s : EventRing) (e : EventTrb) (report : ℕ) → Listed (add_tests m s e report)
add_listed m s e report =
    (lit< tt, lit< tt, (lit< tt, lit< tt, (lit< tt, lit< tt, (lit< tt, lit< tt, after_listed (next_tests m s) _ (next_listed m s) (lit< tt, lit< tt, tt)))))

take_listed : (m : Memory) (s : EventRing) → Listed (take_tests m s)
take_listed m s = (lit< tt, lit< tt, (lit< tt, lit< tt, by (fresh_of m s)))
  where
    by : (b : Bool) → Listed (cond b (next_tests m s) [])
    by true = next_listed m s
    by false = tt

-- ---- the answers

refused_told : (s : EventRing) (n : ℕ) → (n ≡ 0 → ⊥) → n < 14 → as_moved s (moved (refused_at s n)) ≡ refused_at s n
refused_told s n z l = rw (as_result_some n s z, by_number_back n l z)

pub configured_told : (m : Memory) (s : EventRing) (table entries : ℕ) → as_moved s (moved (configured m s table entries)) ≡ configured m s table entries
unfolding configured
configured_told m s table entries =
    judged (λ (x : Moved). as_moved s (moved x) ≡ x) (configure_tests m table entries) (refused_at s) (moved_to (started m table entries))
    (configure_listed m table entries) (refused_told s) refl

pub added_told : (m : Memory) (s : EventRing) (e : EventTrb) (report : ℕ) → as_moved s (moved (added m s e report)) ≡ added m s e report
unfolding added
added_told m s e report =
    judged (λ (x : Moved). as_moved s (moved x) ≡ x) (add_tests m s e report) (refused_at s) (moved_to (next_state m s))
    (add_listed m s e report) (refused_told s) refl

pub reader_told : (m : Memory) (q : EventReader) (table entries : ℕ)
    → as_reader_moved q (reader_moved (reader_configured m q table entries)) ≡ reader_configured m q table entries
unfolding reader_configured configured
reader_told m q table entries =
    judged (λ (x : Moved). as_reader_moved q (reader_moved (of_reader x)) ≡ of_reader x) (configure_tests m table entries) (refused_at q.state)
    (moved_to (started m table entries)) (configure_listed m table entries)
    (λ n z l. rw (as_result_some n q z, by_number_back n l z)) refl

pub take_told : (m : Memory) (q : EventReader) → as_take q (taken_as (take m q)) ≡ take m q
unfolding take
take_told m q =
    judged (λ (x : TakeMoved). as_take q (taken_as x) ≡ x) (take_tests m q.state) (take_refused q)
    (cond (fresh_of m q.state) (taken_at (trb_at m q.state.place) (next_state m q.state)) (nothing_at q)) (take_listed m q.state)
    (λ n z l. rw (by_number_back n l z)) (by (fresh_of m q.state))
  where
    by : (b : Bool) → as_take q (taken_as (cond b (taken_at (trb_at m q.state.place) (next_state m q.state)) (nothing_at q)))
        ≡ cond b (taken_at (trb_at m q.state.place) (next_state m q.state)) (nothing_at q)
    by true = refl
    by false = refl

-- ---- number and values tell the answers of a take apart: what it answered, without the bytes and the reader that are handed out

abbrev pub bare : Result (Option Taken) Refusal → Result Bool Refusal
bare (Ok (Some t)) = Ok true
bare (Ok None) = Ok false
bare (Err d) = Err d

bare_of : Take → Result Bool Refusal
bare_of Take.Event = Ok true
bare_of Take.Nothing = Ok false
bare_of (Take.Refused n) = Err (by_number n)

bare_back : (q : EventReader) (a : Result (Option Taken) Refusal) → bare_of (as_take q a).answer ≡ bare a
unfolding bare_of
bare_back q (Ok (Some t)) = refl
bare_back q (Ok None) = refl
bare_back q (Err d) = ap Err (numbered d)

pub told_apart : (q : EventReader) (a b : Result (Option Taken) Refusal) → ring.number_of (as_take q a).answer ≡ ring.number_of (as_take q b).answer
    → ring.values_of (as_take q a).answer ≡ ring.values_of (as_take q b).answer → bare a ≡ bare b
told_apart q a b n v = sym (bare_back q a) ∙ ap bare_of (take_apart (as_take q a).answer (as_take q b).answer n v) ∙ bare_back q b
