-- What the ring's limits and answers say, as the proofs of the functions use it. Assumes nothing.
use Prim.{tt}
use Rattle.std.proofs.Common.{◌≡◌, ℕ, ◌+◌, ◌*◌, ◌%◌, ◌<◌, ◌≤◌, Bool, true, false, cond, not, ◌&&◌, eqb, ltb, leb, List, [], ◌∷◌, ◌++◌, sym, refl, ap, ◌∙◌, ap₂, add-zero, arith, lit<, ltb-true, eqb-true, leb-true}
use mathlib.Core.Bool.{beq}
use Rattle.std.specs.Prelude.{Result, Ok, Err}
use Rattle.guest.specs.Judge.{Tests, judge}
use Rattle.guest.specs.Bytes as bytes
use Rattle.guest.specs.Memory.{Memory, inside, le, trb_at, write}
use Rattle.guest.specs.Answers.{write_answer, write_memory}
use Rattle.guest.specs.Fields.{dword, dwords_of}
use Rattle.guest.specs.Refusals.{by_number}
use Rattle.guest.specs.declared.Dwords.{Dwords}
use Rattle.guest.specs.declared.refusal.Refusal.{Refusal}
use Rattle.guest.proofs.Tests.{both}
use Rattle.guest.proofs.Judge.{Passes, Numbered, judge_append, judge_passes, answer_passes, answer_given, answer_stops}
use Rattle.guest.proofs.Bytes.{le_add}
use Rattle.guest.proofs.Memory.{le_part}
use Rattle.guest.proofs.Numbers.{as_result_ok, as_result_err, as_result_some}
use Rattle.event_ring.specs.Ring.{entry_of_bytes, entry_at, read_tests, count_ok, ok_state, last, entry_tests, next_tests, next_state, refused_at, moved_to, next, configure_tests, started, configured, step_tests, add_tests, add_step, added, added_memory}
use Rattle.event_ring.specs.Answers.{Moved, moved}
use Rattle.trb.specs.Events.{event_tests, event_bytes, bytes_answered}
use Rattle.trb.specs.declared.event.EventTrb.{EventTrb}
use Rattle.event_ring.specs.declared.EventRing.{EventRing}

-- the code's `t != c` is c, flipped where t holds
pub flips : (t c : Bool) → not (beq t c) ≡ cond t (not c) c
flips true true = refl
flips true false = refl
flips false true = refl
flips false false = refl

-- ---- limits, as facts on numbers

pub counted : (n : ℕ) → count_ok n ≡ true → (1 ≤ n) × (n ≤ 16)
counted n h = let p = both (leb 1 n) (leb n 16) h in (leb-true _ _ p.0, leb-true _ _ p.1)

pub record Limits (s : EventRing) : Type 0 where
  pub ready : s.ready ≡ true
  pub some : 1 ≤ s.entries
  pub few : s.entries ≤ 16
  pub within : s.index < s.entries
  pub left : 1 ≤ s.remaining
  pub most : s.remaining ≤ 4096
  pub table : s.table % 64 ≡ 0
  pub place : s.place % 16 ≡ 0

pub limits : (s : EventRing) → ok_state s ≡ true → Limits s
unfolding ok_state
limits s h =
    let a = s.ready && count_ok s.entries in
    let b = a && ltb s.index s.entries in
    let c = b && leb 1 s.remaining in
    let d = c && leb s.remaining 4096 in
    let e = d && eqb (s.table % 64) 0 in
    let he = both e _ h in
    let hd = both d _ he.0 in
    let hc = both c _ hd.0 in
    let hb = both b _ hc.0 in
    let ha = both a _ hb.0 in
    let hr = both s.ready _ ha.0 in
    let n = counted s.entries hr.1 in
    record {
      ready = hr.0;
      some = n.0;
      few = n.1;
      within = ltb-true _ _ ha.1;
      left = leb-true _ _ hb.1;
      most = leb-true _ _ hc.1;
      table = eqb-true _ _ hd.1;
      place = eqb-true _ _ he.1;
    }

-- ---- tests

-- the numbers of the tests on the next entry
pub next_numbered : (m : Memory) (s : EventRing) → Numbered (next_tests m s)
unfolding next_tests
next_numbered m s = go (last s)
  where
    go : (b : Bool) → Numbered (cond b (entry_tests m s) [])
    go true = (lit< tt, (lit< tt, tt))
    go false = tt

-- tests after others that pass
pub judge_then : {A : Type 0} (ts us : Tests) (r : ℕ → A) (a : A) → Passes ts → judge (ts ++ us) r a ≡ judge us r a
judge_then ts us r a p = judge_append ts us r a ∙ judge_passes ts r (judge us r a) p

-- what a judgement's Result says of its tests: Ok, that each passes; Err, by which number every judgement by them ends
pub result_ok : {A : Type 0} (ts : Tests) (a x : A) → judge ts (λ n. Err (by_number n)) (Ok a) ≡ Ok x → Passes ts × (x ≡ a)
unfolding judge
result_ok [] a x e = (tt, grind arith)
result_ok ((n, true) ∷ ts) a x e = let p = result_ok ts a x e in ((refl, p.0), p.1)
result_ok ((n, false) ∷ ts) a x e = absurd (grind arith)

pub record Stopped (ts : Tests) (d : Refusal) : Type 1 where
  pub number : ℕ
  pub some : number ≡ 0 → ⊥
  pub is : d ≡ by_number number
  pub ends : {B : Type 0} (r : ℕ → B) (b : B) → judge ts r b ≡ r number

pub result_err : {A : Type 0} (ts : Tests) → Numbered ts → (a : A) (d : Refusal) → judge ts (λ n. Err (by_number n)) (Ok a) ≡ Err d → Stopped ts d
unfolding judge
result_err [] k a d e = absurd (grind arith)
result_err ((n, true) ∷ ts) k a d e =
    let s = result_err ts k.1 a d e in record { number = s.number; some = s.some; is = s.is; ends = λ r b. s.ends r b }
result_err ((n, false) ∷ ts) k a d e = record { number = n; some = λ z. omega arith; is = grind arith; ends = λ r b. refl }

-- and so what f makes of one
pub stopped_as : {A B : Type 0} (ts : Tests) (d : Refusal) → Stopped ts d → (f : B → Result A Refusal) (r : ℕ → B) (b : B)
    → ((n : ℕ) → (n ≡ 0 → ⊥) → f (r n) ≡ Err (by_number n)) → Err d ≡ f (judge ts r b)
stopped_as ts d s f r b g = ap Err s.is ∙ sym (g s.number s.some) ∙ ap f (sym (s.ends r b))

-- the numbers of the tests on an entry as it is read
pub read_numbered : (m : Memory) (a : ℕ) → Numbered (read_tests m a)
read_numbered m a = (lit< tt, (lit< tt, tt))

-- what the ring's move to the next slot answered
module _ (m : Memory) (s : EventRing) (x : Moved) (e : x ≡ next m s) where
  pub next_passes : x.refusal ≡ 0 → Passes (next_tests m s)
  next_passes = answer_passes (λ (r : Moved). r.refusal) (next_tests m s) (next_numbered m s) (refused_at s) (moved_to (next_state m s)) (λ n. refl) refl x e

  pub next_given : x.refusal ≡ 0 → x ≡ moved_to (next_state m s)
  next_given = answer_given (λ (r : Moved). r.refusal) (next_tests m s) (next_numbered m s) (refused_at s) (moved_to (next_state m s)) (λ n. refl) refl x e

  pub next_stops : (x.refusal ≡ 0 → ⊥) → {B : Type 0} (r : ℕ → B) (b : B) → judge (next_tests m s) r b ≡ r x.refusal
  next_stops = answer_stops (λ (r : Moved). r.refusal) (next_tests m s) (next_numbered m s) (refused_at s) (moved_to (next_state m s)) (λ n. refl) refl x e

-- what configure answered of one ring says what it answers of any: a refusal alone shows the ring
configure_numbered : (m : Memory) (table entries : ℕ) → Numbered (configure_tests m table entries)
configure_numbered m table entries = (lit< tt, (lit< tt, (lit< tt, (lit< tt, tt))))

module _ (m : Memory) (s t : EventRing) (table entries : ℕ) (x : Moved) (e : x ≡ configured m s table entries) where
  pub configured_given : x.refusal ≡ 0 → configured m t table entries ≡ x
  unfolding configured
  configured_given h =
      let number : Moved → ℕ = λ (r : Moved). r.refusal in
      let tests = configure_tests m table entries in
      let answer = moved_to (started m table entries) in
      judge_passes tests (refused_at t) answer (answer_passes number tests (configure_numbered m table entries) (refused_at s) answer (λ n. refl) refl x e h)
      ∙ sym (answer_given number tests (configure_numbered m table entries) (refused_at s) answer (λ n. refl) refl x e h)

  pub configured_stops : (x.refusal ≡ 0 → ⊥) → configured m t table entries ≡ refused_at t x.refusal
  unfolding configured
  configured_stops h =
      answer_stops (λ (r : Moved). r.refusal) (configure_tests m table entries) (configure_numbered m table entries)
      (refused_at s) (moved_to (started m table entries)) (λ n. refl) refl x e h (refused_at t) (moved_to (started m table entries))

-- what an event's bytes answered
module _ (ev : EventTrb) (c : Bool) where
  bytes_numbered : Numbered (event_tests ev)
  bytes_numbered = (lit< tt, tt)

  module _ (trb : List ℕ) (e : bytes_answered ev c ≡ Ok trb) where
    pub bytes_passes : Passes (event_tests ev)
    unfolding bytes_answered
    bytes_passes = (result_ok (event_tests ev) (event_bytes ev c) trb e).0

    pub bytes_given : trb ≡ event_bytes ev c
    unfolding bytes_answered
    bytes_given = (result_ok (event_tests ev) (event_bytes ev c) trb e).1

  pub bytes_stops : (d : Refusal) → bytes_answered ev c ≡ Err d → Stopped (event_tests ev) d
  unfolding bytes_answered
  bytes_stops d e = result_err (event_tests ev) bytes_numbered (event_bytes ev c) d e

-- what the step of an add answered
numbered_append : (xs ys : Tests) → Numbered xs → Numbered ys → Numbered (xs ++ ys)
numbered_append [] ys p q = q
numbered_append ((n, b) ∷ xs) ys p q = (p.0, numbered_append xs ys p.1 q)

step_numbered : (m : Memory) (s : EventRing) (report : ℕ) → Numbered (step_tests m s report)
step_numbered m s report = (lit< tt, (lit< tt, (lit< tt, numbered_append (next_tests m s) _ (next_numbered m s) (lit< tt, tt))))

pub add_numbered : (m : Memory) (s : EventRing) (ev : EventTrb) (report : ℕ) → Numbered (add_tests m s ev report)
add_numbered m s ev report = (lit< tt, step_numbered m s report)

module _ (m : Memory) (s : EventRing) (report : ℕ) (x : Moved) (e : x ≡ add_step m s report) where
  pub step_passes : x.refusal ≡ 0 → Passes (step_tests m s report)
  unfolding add_step
  step_passes = answer_passes (λ (r : Moved). r.refusal) (step_tests m s report) (step_numbered m s report) (refused_at s) (moved_to (next_state m s)) (λ n. refl) refl x e

  pub step_stops : (x.refusal ≡ 0 → ⊥) → {B : Type 0} (r : ℕ → B) (b : B) → judge (step_tests m s report) r b ≡ r x.refusal
  unfolding add_step
  step_stops = answer_stops (λ (r : Moved). r.refusal) (step_tests m s report) (step_numbered m s report) (refused_at s) (moved_to (next_state m s)) (λ n. refl) refl x e

-- ---- the same of the Results that the functions answer

pub moved_refuses : (s : EventRing) (n : ℕ) → (n ≡ 0 → ⊥) → moved (refused_at s n) ≡ Err (by_number n)
moved_refuses s n = as_result_some n (refused_at s n).ring

module _ (m : Memory) (s : EventRing) where
  pub next_ok : (t : EventRing) → moved (next m s) ≡ Ok t → Passes (next_tests m s) × (t ≡ next_state m s)
  next_ok t e =
      let p = as_result_ok (next m s).refusal (next m s).ring t e in
      (next_passes m s (next m s) refl p.0, p.1 ∙ ap (λ (x : Moved). x.ring) (next_given m s (next m s) refl p.0))

  pub next_err : (d : Refusal) → moved (next m s) ≡ Err d → Stopped (next_tests m s) d
  next_err d e =
      let p = as_result_err (next m s).refusal (next m s).ring d e in
      record { number = (next m s).refusal; some = p.0; is = p.1; ends = λ r b. next_stops m s (next m s) refl p.0 r b }

  pub step_ok : (report : ℕ) (t : EventRing) → moved (add_step m s report) ≡ Ok t → Passes (step_tests m s report)
  step_ok report t e =
      step_passes m s report (add_step m s report) refl (as_result_ok (add_step m s report).refusal (add_step m s report).ring t e).0

  pub step_err : (report : ℕ) (d : Refusal) → moved (add_step m s report) ≡ Err d → Stopped (step_tests m s report) d
  step_err report d e =
      let x = add_step m s report in
      let p = as_result_err x.refusal x.ring d e in
      record { number = x.refusal; some = p.0; is = p.1; ends = λ r b. step_stops m s report x refl p.0 r b }

-- ---- an add, by what the event's bytes, the ring's step and the write answered

module _ (m : Memory) (s : EventRing) (ev : EventTrb) (report : ℕ) where
  pub add_unwritten : (d : Refusal) → bytes_answered ev s.cycle ≡ Err d
      → (Err d ≡ moved (added m s ev report)) × (m.bytes ≡ (added_memory m s ev report).bytes)
  unfolding added added_memory
  add_unwritten d e =
      let stop = bytes_stops ev s.cycle d e in (
        stopped_as (event_tests ev) d stop moved (refused_at s) _ (moved_refuses s)
            ∙ ap moved (sym (judge_append (event_tests ev) (step_tests m s report) (refused_at s) _)),
        ap (λ (w : Memory). w.bytes)
            (sym (judge_append (event_tests ev) (step_tests m s report) (λ n. m) (write m s.place (event_bytes ev s.cycle)) ∙ stop.ends (λ n. m) _)),
      )

  module _ (trb : List ℕ) (e : bytes_answered ev s.cycle ≡ Ok trb) where
    add_ring : added m s ev report ≡ add_step m s report
    unfolding added add_step
    add_ring = judge_then (event_tests ev) (step_tests m s report) (refused_at s) (moved_to (next_state m s)) (bytes_passes ev s.cycle trb e)

    add_memory : added_memory m s ev report ≡ judge (step_tests m s report) (λ n. m) (write m s.place (event_bytes ev s.cycle))
    unfolding added_memory
    add_memory = judge_then (event_tests ev) (step_tests m s report) (λ n. m) (write m s.place (event_bytes ev s.cycle)) (bytes_passes ev s.cycle trb e)

    pub add_refused : (d : Refusal) → moved (add_step m s report) ≡ Err d
        → (Err d ≡ moved (added m s ev report)) × (m.bytes ≡ (added_memory m s ev report).bytes)
    add_refused d f = (
      sym (ap moved add_ring ∙ f),
      ap (λ (w : Memory). w.bytes) (sym (add_memory ∙ (step_err m s report d f).ends (λ n. m) _)),
    )

    module _ (t : EventRing) (f : moved (add_step m s report) ≡ Ok t) where
      add_inside : inside m s.place 16 ≡ true
      add_inside = (step_ok m s report t f).1.1.0

      pub add_writes_ok : write_answer m s.place ≡ Ok tt
      unfolding judge
      add_writes_ok = rw add_inside

      pub add_accepted : (w : List ℕ) → w ≡ (write_memory m s.place trb).bytes
          → (Ok t ≡ moved (added m s ev report)) × (w ≡ (added_memory m s ev report).bytes)
      unfolding judge
      add_accepted w g = (
        sym (ap moved add_ring ∙ f),
        (rw add_inside at g)
            ∙ ap (λ (l : List ℕ). (write m s.place l).bytes) (bytes_given ev s.cycle trb e)
            ∙ ap (λ (w : Memory). w.bytes)
            (sym (add_memory ∙ judge_passes (step_tests m s report) (λ n. m) (write m s.place (event_bytes ev s.cycle)) (step_ok m s report t f))),
      )

-- ---- the table

-- sixteen bytes of the memory are the entry there
pub entry_bytes : (m : Memory) (a : ℕ) → m.start ≤ a → entry_of_bytes (trb_at m a) ≡ entry_at m a
unfolding entry_at
entry_bytes m a f =
    let base : bytes.le (trb_at m a) 0 8 ≡ le m a 8 = le_part m a 0 f 8 16 (omega arith) ∙ ap (λ (x : ℕ). le m x 8) (add-zero a) in
    ap₂ (λ (x y : ℕ). record { base = x; size = y }) base (le_part m a 8 f 4 16 (omega arith))

-- and so are their dwords
pub entry_split : (m : Memory) (a : ℕ) (trb : List ℕ) (d : Dwords) → m.start ≤ a → trb ≡ trb_at m a → d ≡ dwords_of trb
    → record { base = d.d0 + d.d1 * 0x1_0000_0000; size = d.d2 } ≡ entry_at m a
entry_split m a trb d f b e =
    rw (e, b) (ap (λ (x : ℕ). record { base = x; size = dword (trb_at m a) 2 }) (omega (arith, le_add 4 4 (trb_at m a) 0)) ∙ entry_bytes m a f)
