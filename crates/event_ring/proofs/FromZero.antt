-- Over a window that begins at 0 the event ring is document 01's: its definitions over a list of bytes stand here by themselves, each with a 0
-- to its name, and the window's are equal to them for every slice that can be lent. Assumes nothing.
use Prim.{tt}
use Rattle.std.proofs.Common.{◌≡◌, ℕ, ◌+◌, ◌-◌, ◌*◌, ◌%◌, ◌^◌, ◌<◌, Bool, true, cond, not, ◌&&◌, eqb, ltb, leb, List, [], ◌∷◌, ◌++◌, length, refl, ap, ◌∙◌, ap₂, arith}
use mathlib.Core.Bool.{beq}
use Rattle.guest.specs.Judge.{Tests, judge}
use Rattle.guest.specs.Memory.{window, inside, trb_at, write}
use Rattle.guest.proofs.Judge.{Alike, judge_alike}
use Rattle.guest.proofs.Memory.{inside_within}
use Rattle.guest.proofs.FromZero.{inside₀, le₀, part₀, write₀, inside_zero, le_zero, part_zero, write_zero}
use Rattle.trb.specs.Trb.{cycle_of}
use Rattle.trb.specs.Events.{event_tests, event_bytes}
use Rattle.trb.specs.declared.event.EventTrb.{EventTrb}
use Rattle.event_ring.specs.Ring.{entry_at, good_entry, count_ok, ok_state, last, next_index, entered, next_state, next_tests, refused_at, moved_to, configured, add_tests, added, added_memory, of_reader, reader_configured, fresh_of, take_tests, take_refused, nothing_at, taken_at, take}
use Rattle.event_ring.specs.Answers.{Moved, TakeMoved}
use Rattle.event_ring.specs.Consumer.{Consumer, onward, Consumed, event, none, consume}
use Rattle.event_ring.specs.declared.Entry.{Entry}
use Rattle.event_ring.specs.declared.EventRing.{EventRing}
use Rattle.event_ring.specs.declared.EventReader.{EventReader}

-- ---- document 01's ring

abbrev pub entry_at₀ : List ℕ → ℕ → Entry
entry_at₀ m a = record { base = le₀ m a 8; size = le₀ m (a + 8) 4 }

abbrev pub good_entry₀ : List ℕ → Entry → Bool
good_entry₀ m e = eqb (e.base % 64) 0 && leb 1 e.size && leb e.size 4096 && inside₀ m e.base (16 * e.size)

abbrev pub next_entry₀ : List ℕ → EventRing → Entry
next_entry₀ m s = entry_at₀ m (s.table + 16 * next_index s)

-- the slot after the present one is 16 bytes further, with no remainder
abbrev pub along₀ : EventRing → EventRing
along₀ s =
    record {
      ready = s.ready;
      table = s.table;
      entries = s.entries;
      index = s.index;
      place = s.place + 16;
      remaining = s.remaining - 1;
      cycle = s.cycle;
    }

abbrev pub next_state₀ : List ℕ → EventRing → EventRing
next_state₀ m s = cond (last s) (entered s (next_index s) (next_entry₀ m s)) (along₀ s)

abbrev pub next_tests₀ : List ℕ → EventRing → Tests
next_tests₀ m s = cond (last s) ((1, inside₀ m (s.table + 16 * next_index s) 16) ∷ (5, good_entry₀ m (next_entry₀ m s)) ∷ []) []

abbrev pub configured₀ : List ℕ → EventRing → ℕ → ℕ → Moved
configured₀ m s table entries =
    let e = entry_at₀ m table in
    judge
    ((2, eqb (table % 64) 0) ∷ (3, count_ok entries) ∷ (1, inside₀ m table (16 * entries)) ∷ (5, good_entry₀ m e) ∷ [])
    (refused_at s)
    (moved_to (record { ready = true; table = table; entries = entries; index = 0; place = e.base; remaining = e.size; cycle = true }))

abbrev pub add_tests₀ : List ℕ → EventRing → EventTrb → ℕ → Tests
add_tests₀ m s e report =
    event_tests e
    ++ ((4, ok_state s) ∷ (6, eqb (report % 16) 0) ∷ (1, inside₀ m s.place 16)
    ∷ (next_tests₀ m s ++ ((7, not (eqb (next_state₀ m s).place report)) ∷ [])))

abbrev pub added₀ : List ℕ → EventRing → EventTrb → ℕ → Moved
added₀ m s e report = judge (add_tests₀ m s e report) (refused_at s) (moved_to (next_state₀ m s))

abbrev pub added_memory₀ : List ℕ → EventRing → EventTrb → ℕ → List ℕ
added_memory₀ m s e report = judge (add_tests₀ m s e report) (λ n. m) (write₀ m s.place (event_bytes e s.cycle))

abbrev pub fresh₀ : List ℕ → EventRing → Bool
fresh₀ m s = beq (cycle_of (part₀ m s.place 16)) s.cycle

abbrev pub take₀ : List ℕ → EventReader → TakeMoved
take₀ m r =
    let s = r.state in
    judge ((4, ok_state s) ∷ (1, inside₀ m s.place 16) ∷ cond (fresh₀ m s) (next_tests₀ m s) []) (take_refused r)
    (cond (fresh₀ m s) (taken_at (part₀ m s.place 16) (next_state₀ m s)) (nothing_at r))

abbrev pub consume₀ : List ℕ → ℕ → ℕ → Consumer → Consumed
consume₀ m table entries k =
    let e = entry_at₀ m (table + 16 * k.segment) in
    let trb = part₀ m (e.base + 16 * k.slot) 16 in
    cond (beq (cycle_of trb) k.cycle)
    (event trb
    (cond (ltb (k.slot + 1) e.size)
    (record { segment = k.segment; slot = k.slot + 1; cycle = k.cycle })
    (cond (ltb (k.segment + 1) entries)
    (record { segment = k.segment + 1; slot = 0; cycle = k.cycle })
    (record { segment = 0; slot = 0; cycle = not k.cycle }))))
    none

-- ---- the window that begins at 0

module _ (l : List ℕ) where
  entry_zero : (a : ℕ) → entry_at (window 0 l) a ≡ entry_at₀ l a
  unfolding entry_at
  entry_zero a = ap₂ (λ (b s : ℕ). record { base = b; size = s }) (le_zero l a 8) (le_zero l (a + 8) 4)

  good_zero : (e : Entry) → good_entry (window 0 l) e ≡ good_entry₀ l e
  unfolding good_entry
  good_zero e = rw (inside_zero l e.base (16 * e.size))

  good_entry_zero : (a : ℕ) → good_entry (window 0 l) (entry_at (window 0 l) a) ≡ good_entry₀ l (entry_at₀ l a)
  good_entry_zero a = ap (good_entry (window 0 l)) (entry_zero a) ∙ good_zero (entry_at₀ l a)

  pub configured_zero : (s : EventRing) (table entries : ℕ) → configured (window 0 l) s table entries ≡ configured₀ l s table entries
  unfolding configured
  configured_zero s table entries =
      rw (inside_zero l table (16 * entries), good_entry_zero table) (rw (entry_zero table))

  pub reader_configured_zero : (r : EventReader) (table entries : ℕ)
      → reader_configured (window 0 l) r table entries ≡ of_reader (configured₀ l r.state table entries)
  unfolding reader_configured
  reader_configured_zero r table entries = ap of_reader (configured_zero r.state table entries)

  -- the consumer of xHCI 4.9.4
  pub consume_zero : (table entries : ℕ) (k : Consumer) → consume (window 0 l) table entries k ≡ consume₀ l table entries k
  unfolding onward
  consume_zero table entries k = rw (entry_zero (table + 16 * k.segment), part_zero l ((entry_at₀ l (table + 16 * k.segment)).base + 16 * k.slot) 16)

  tests_zero : (s : EventRing) → next_tests (window 0 l) s ≡ next_tests₀ l s
  unfolding next_tests
  tests_zero s = rw (inside_zero l (s.table + 16 * next_index s) 16, good_entry_zero (s.table + 16 * next_index s))

  -- a slice is shorter than 2 ^ 64 bytes, so that the place after one that is inside needs no remainder
  module _ (short : length l < 2 ^ 64) where
    next_zero : (s : EventRing) → inside (window 0 l) s.place 16 ≡ true → next_state (window 0 l) s ≡ next_state₀ l s
    unfolding next_state
    next_zero s i =
        let e : (s.place + 16) % 2 ^ 64 ≡ s.place + 16 = omega (arith, short, (inside_within (window 0 l) s.place 16 i).fits) in
        rw (e, entry_zero (s.table + 16 * next_index s))

    after_alike : (ts us vs : Tests) → Alike us vs → Alike (ts ++ us) (ts ++ vs)
    after_alike [] us vs h = h
    after_alike ((n, b) ∷ ts) us vs h = (refl, refl, λ _. after_alike ts us vs h)

    add_alike : (s : EventRing) (e : EventTrb) (report : ℕ) → Alike (add_tests₀ l s e report) (add_tests (window 0 l) s e report)
    add_alike s e report = (
      refl,
      refl,
      λ _. (
        refl,
        refl,
        λ _. (
          refl,
          refl,
          λ _. (
            refl,
            inside_zero l s.place 16,
            λ i.
                rw (tests_zero s)
                (after_alike (next_tests₀ l s) _ _ (refl, ap (λ (r : EventRing). not (eqb r.place report)) (next_zero s (inside_zero l s.place 16 ∙ i)), λ _. tt)),
          ),
        ),
      ),
    )

    pub added_zero : (s : EventRing) (e : EventTrb) (report : ℕ) → added (window 0 l) s e report ≡ added₀ l s e report
    unfolding added
    added_zero s e report =
        judge_alike (λ (r : Moved). r) (add_tests₀ l s e report) (add_tests (window 0 l) s e report) (refused_at s) (refused_at s)
        (moved_to (next_state₀ l s)) (moved_to (next_state (window 0 l) s)) (add_alike s e report) (λ n. refl)
        (λ p. ap moved_to (next_zero s (inside_zero l s.place 16 ∙ p.1.1.1.0)))

    pub added_memory_zero : (s : EventRing) (e : EventTrb) (report : ℕ)
        → added_memory (window 0 l) s e report ≡ window 0 (added_memory₀ l s e report)
    unfolding added_memory
    added_memory_zero s e report =
        judge_alike (window 0) (add_tests₀ l s e report) (add_tests (window 0 l) s e report) (λ n. l) (λ n. window 0 l)
        (write₀ l s.place (event_bytes e s.cycle)) (write (window 0 l) s.place (event_bytes e s.cycle))
        (add_alike s e report) (λ n. refl) (λ p. write_zero l s.place (event_bytes e s.cycle))

    pub take_zero : (r : EventReader) → take (window 0 l) r ≡ take₀ l r
    unfolding take
    take_zero r =
        judge_alike (λ (t : TakeMoved). t)
        ((4, ok_state s) ∷ (1, inside₀ l s.place 16) ∷ cond (fresh₀ l s) (next_tests₀ l s) []) (take_tests (window 0 l) s) (take_refused r) (take_refused r)
        (cond (fresh₀ l s) (taken_at (part₀ l s.place 16) (next_state₀ l s)) (nothing_at r))
        (cond (fresh_of (window 0 l) s) (taken_at (trb_at (window 0 l) s.place) (next_state (window 0 l) s)) (nothing_at r))
        (refl, refl, λ _. (refl, inside_zero l s.place 16, λ _. rw (part_zero l s.place 16, tests_zero s) (same (cond (fresh₀ l s) (next_tests₀ l s) []))))
        (λ n. refl)
        (λ p. rw (part_zero l s.place 16, next_zero s (inside_zero l s.place 16 ∙ p.1.0)))
      where
        s : EventRing
        s = r.state

        same : (ts : Tests) → Alike ts ts
        same [] = tt
        same ((n, b) ∷ ts) = (refl, refl, λ _. same ts)
