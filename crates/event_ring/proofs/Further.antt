-- In a window d further up, d a multiple of 64, configure, add and take answer the same, d further up; add and take, which step to the next
-- slot, where the place after the window's last is below 2 ^ 64 too. Assumes nothing.
use Prim.{tt}
use Rattle.std.proofs.Common.{◌≡◌, ℕ, ◌+◌, ◌-◌, ◌*◌, ◌%◌, ◌^◌, ◌<◌, Bool, true, false, cond, not, eqb, List, [], ◌∷◌, ◌++◌, replicate, sym, refl, ap, ◌∙◌, append-nil, arith, eq-eqb, ne_eqb}
use mathlib.Core.Bool.{beq}
use native.Mathlib.Decide.{ℕ_discrete}
use Rattle.guest.specs.Judge.{Tests, judge}
use Rattle.guest.specs.Bytes.{le, part}
use Rattle.guest.specs.Memory.{Memory, window, inside, trb_at, write}
use Rattle.guest.specs.Further.{Further}
use Rattle.guest.proofs.Judge.{Passes, Alike, judge_alike}
use Rattle.guest.proofs.Memory.{inside_less}
use Rattle.guest.proofs.Further.{inside_further}
use Rattle.trb.specs.Trb.{cycle_of}
use Rattle.trb.specs.Events.{event_bytes}
use Rattle.trb.specs.declared.event.EventTrb.{EventTrb}
use Rattle.event_ring.specs.Ring.{entry_at, good_entry, count_ok, ok_state, last, next_index, next_entry, entered, along, next_state, entry_tests, next_tests, refused_at, moved_to, configure_tests, started, configured, full, add_tests, added, added_memory, fresh_of, take_tests, take_refused, nothing_at, taken_at, take}
use Rattle.event_ring.specs.Further.{ring_up, answer_up, reader_up, taken_up, EntryUp, SlotUp}
use Rattle.event_ring.specs.declared.Entry.{Entry}
use Rattle.event_ring.specs.declared.EventRing.{EventRing}
use Rattle.event_ring.specs.declared.EventReader.{EventReader}
use Rattle.event_ring.proofs.Laws.{counted}

-- a test of a number and of one that is d more
eqb_up : (a b d : ℕ) → eqb (a + d) (b + d) ≡ eqb a b
eqb_up a b d = go (ℕ_discrete a b)
  where
    go : Dec (a ≡ b) → eqb (a + d) (b + d) ≡ eqb a b
    go (yes e) = eq-eqb (a + d) (b + d) (omega arith) ∙ sym (eq-eqb a b e)
    go (no n) = ne_eqb (a + d) (b + d) (λ e. n (omega arith)) ∙ sym (ne_eqb a b n)

module _ (d : ℕ) (m m' : Memory) (M : Further d m m') (lines : d % 64 ≡ 0) where
  -- ---- what the tests say

  base_up : (a : ℕ) → eqb ((a + d) % 64) 0 ≡ eqb (a % 64) 0
  base_up a = let e : (a + d) % 64 ≡ a % 64 = omega arith in rw e

  slot_up : (a : ℕ) → eqb ((a + d) % 16) 0 ≡ eqb (a % 16) 0
  slot_up a = let e : (a + d) % 16 ≡ a % 16 = omega arith in rw e

  abbrev entry_up : Entry → Entry
  entry_up e = record { base = e.base + d; size = e.size }

  good_up : (e : Entry) → good_entry m' (entry_up e) ≡ good_entry m e
  unfolding good_entry
  good_up e = rw (base_up e.base, inside_further d m m' M e.base (16 * e.size))

  ok_up : (s : EventRing) → ok_state (ring_up d s) ≡ ok_state s
  unfolding ok_state
  ok_up s = rw (base_up s.table, slot_up s.place)

  -- ---- configure

  pub configure_up : (s : EventRing) (table entries : ℕ) → EntryUp d m m' table
      → configured m' (ring_up d s) (table + d) entries ≡ answer_up d (configured m s table entries)
  unfolding configured
  configure_up s table entries E =
      judge_alike (answer_up d) (configure_tests m table entries) (configure_tests m' (table + d) entries)
      (refused_at s) (refused_at (ring_up d s)) (moved_to (started m table entries)) (moved_to (started m' (table + d) entries)) (
        refl,
        base_up table,
        λ _. (
          refl,
          refl,
          λ c. (refl, inside_further d m m' M table (16 * entries), λ i. (refl, ap (good_entry m') (E (there c i)) ∙ good_up (entry_at m table), λ _. tt)),
        ),
      )
      (λ n. refl)
      (λ p. ap (λ (e : Entry). moved_to (record { ready = true; table = table + d; entries = entries; index = 0; place = e.base; remaining = e.size; cycle = true })) (E (there p.1.0 p.1.1.0)))
    where
      there : count_ok entries ≡ true → inside m table (16 * entries) ≡ true → inside m table 16 ≡ true
      there c i = inside_less m table (16 * entries) 16 i (omega (arith, counted entries c))

  -- ---- the slot after the present one

  module _ (s : EventRing) (room : last s ≡ false → s.place + d + 16 < 2 ^ 64) (E : last s ≡ true → EntryUp d m m' (s.table + 16 * next_index s)) where
    next_index_up : next_index (ring_up d s) ≡ next_index s
    unfolding next_index
    next_index_up = refl

    entry_address : (ring_up d s).table + 16 * next_index (ring_up d s) ≡ s.table + 16 * next_index s + d
    entry_address = rw next_index_up (omega arith)

    entry_up_lem : last s ≡ true → inside m (s.table + 16 * next_index s) 16 ≡ true → next_entry m' (ring_up d s) ≡ entry_up (next_entry m s)
    entry_up_lem h i = rw entry_address (E h i)

    -- in the segment, where the slot is inside
    along_up : last s ≡ false → along (ring_up d s) ≡ ring_up d (along s)
    along_up h =
        let e : (s.place + d + 16) % 2 ^ 64 ≡ (s.place + 16) % 2 ^ 64 + d = omega (arith, room h) in
        ap (λ (p : ℕ). record { ready = s.ready; table = s.table + d; entries = s.entries; index = s.index; place = p; remaining = s.remaining - 1; cycle = s.cycle }) e

    entered_up : last s ≡ true → inside m (s.table + 16 * next_index s) 16 ≡ true
        → entered (ring_up d s) (next_index (ring_up d s)) (next_entry m' (ring_up d s)) ≡ ring_up d (entered s (next_index s) (next_entry m s))
    entered_up h i = rw (entry_up_lem h i, next_index_up)

    next_up : (b : Bool) → last s ≡ b → inside m s.place 16 ≡ true → Passes (cond b (entry_tests m s) [])
        → next_state m' (ring_up d s) ≡ ring_up d (next_state m s)
    unfolding next_state
    next_up true h i p = rw h (entered_up h p.0)
    next_up false h i p = rw h (along_up h)

    -- the tests of the next entry, and those after them, which may ask what the entry's have found
    next_alike : (us vs : Tests) → (Passes (next_tests m s) → Alike us vs) → Alike (next_tests m s ++ us) (next_tests m' (ring_up d s) ++ vs)
    unfolding next_tests
    next_alike us vs rest = go (last s) refl rest
      where
        go : (b : Bool) → last s ≡ b → (Passes (cond b (entry_tests m s) []) → Alike us vs)
            → Alike (cond b (entry_tests m s) [] ++ us) (cond b (entry_tests m' (ring_up d s)) [] ++ vs)
        go true h rest = (
          refl,
          ap (λ (a : ℕ). inside m' a 16) entry_address ∙ inside_further d m m' M (s.table + 16 * next_index s) 16,
          λ i. (refl, ap (good_entry m') (entry_up_lem h i) ∙ good_up (next_entry m s), λ g. rest (i, (g, tt))),
        )
        go false h rest = rest tt

    -- ---- add

    module _ (e : EventTrb) (report : ℕ) where
      full_up : inside m s.place 16 ≡ true → Passes (next_tests m s) → full m' (ring_up d s) (report + d) ≡ full m s report
      unfolding next_tests
      full_up i p = ap (λ (r : EventRing). eqb r.place (report + d)) (next_up (last s) refl i p) ∙ eqb_up (next_state m s).place report d

      add_alike : Alike (add_tests m s e report) (add_tests m' (ring_up d s) e (report + d))
      add_alike = (
        refl,
        refl,
        λ _. (
          refl,
          ok_up s,
          λ _. (
            refl,
            slot_up report,
            λ _. (
              refl,
              inside_further d m m' M s.place 16,
              λ i. next_alike ((7, not (full m s report)) ∷ []) ((7, not (full m' (ring_up d s) (report + d))) ∷ []) (λ p. (refl, ap not (full_up i p), λ _. tt)),
            ),
          ),
        ),
      )

      -- what passes
      abbrev Passed : Type 0
      Passed = Passes (add_tests m s e report)

      passed_next : Passed → Passes (next_tests m s)
      passed_next p = front (next_tests m s) _ p.1.1.1.1
        where
          front : (ts us : Tests) → Passes (ts ++ us) → Passes ts
          front [] us p = tt
          front ((n, b) ∷ ts) us p = (p.0, front ts us p.1)

      pub add_up : added m' (ring_up d s) e (report + d) ≡ answer_up d (added m s e report)
      unfolding added next_tests
      add_up =
          judge_alike (answer_up d) (add_tests m s e report) (add_tests m' (ring_up d s) e (report + d))
          (refused_at s) (refused_at (ring_up d s)) (moved_to (next_state m s)) (moved_to (next_state m' (ring_up d s)))
          add_alike (λ n. refl) (λ p. ap moved_to (next_up (last s) refl p.1.1.1.0 (passed_next p)))

      -- the memory: where the add is accepted, the same sixteen bytes d further up
      pub add_writes_up : added_memory m' (ring_up d s) e (report + d)
          ≡ judge (add_tests m s e report) (λ n. m') (write m' (s.place + d) (event_bytes e s.cycle))
      unfolding added_memory
      add_writes_up =
          judge_alike (λ (w : Memory). w) (add_tests m s e report) (add_tests m' (ring_up d s) e (report + d)) (λ n. m') (λ n. m')
          (write m' (s.place + d) (event_bytes e s.cycle)) (write m' (s.place + d) (event_bytes e s.cycle)) add_alike (λ n. refl) (λ p. refl)

  -- ---- take

  pub take_up : (r : EventReader) → (last r.state ≡ false → r.state.place + d + 16 < 2 ^ 64) → (last r.state ≡ true → EntryUp d m m' (r.state.table + 16 * next_index r.state)) → SlotUp d m m' r.state.place
      → take m' (reader_up d r) ≡ taken_up d (take m r)
  unfolding take next_tests
  take_up r room E S =
      judge_alike (taken_up d) (take_tests m s) (take_tests m' (ring_up d s)) (take_refused r) (take_refused (reader_up d r))
      (cond (fresh_of m s) (taken_at (trb_at m s.place) (next_state m s)) (nothing_at r))
      (cond (fresh_of m' (ring_up d s)) (taken_at (trb_at m' (s.place + d)) (next_state m' (ring_up d s))) (nothing_at (reader_up d r)))
      (refl, ok_up s, λ _. (refl, inside_further d m m' M s.place 16, λ i. tests i))
      (λ n. refl)
      (λ p. gives (fresh_of m s) refl p.1.0 p.1.1)
    where
      s : EventRing
      s = r.state

      fresh_up : inside m s.place 16 ≡ true → fresh_of m' (ring_up d s) ≡ fresh_of m s
      fresh_up i = ap (λ (t : List ℕ). beq (cycle_of t) s.cycle) (S i)

      tests : inside m s.place 16 ≡ true → Alike (cond (fresh_of m s) (next_tests m s) []) (cond (fresh_of m' (ring_up d s)) (next_tests m' (ring_up d s)) [])
      tests i = rw (fresh_up i) (go (fresh_of m s))
        where
          go : (f : Bool) → Alike (cond f (next_tests m s) []) (cond f (next_tests m' (ring_up d s)) [])
          go true = rw (append-nil (next_tests m s), append-nil (next_tests m' (ring_up d s))) at (next_alike s room E [] [] (λ p. tt))
          go false = tt

      gives : (f : Bool) → fresh_of m s ≡ f → inside m s.place 16 ≡ true → Passes (cond (fresh_of m s) (next_tests m s) [])
          → cond (fresh_of m' (ring_up d s)) (taken_at (trb_at m' (s.place + d)) (next_state m' (ring_up d s))) (nothing_at (reader_up d r))
          ≡ taken_up d (cond (fresh_of m s) (taken_at (trb_at m s.place) (next_state m s)) (nothing_at r))
      gives true h i p = rw (fresh_up i, h, S i, next_up s room E (last s) refl i (rw h at p))
      gives false h i p = rw (fresh_up i, h)

-- the premises can be met: a window of a table of one entry, whose segment is one slot after it, at 0 and at 64
abbrev table_to : ℕ → List ℕ
table_to base = base ∷ 0 ∷ 0 ∷ 0 ∷ 0 ∷ 0 ∷ 0 ∷ 0 ∷ 1 ∷ 0 ∷ 0 ∷ 0 ∷ 0 ∷ 0 ∷ 0 ∷ 0 ∷ replicate 64 0

pub record UpMet : Type 0 where
  pub further : Further 64 (window 0 (table_to 64)) (window 64 (table_to 128))
  pub entry : EntryUp 64 (window 0 (table_to 64)) (window 64 (table_to 128)) 0
  pub slot : SlotUp 64 (window 0 (table_to 64)) (window 64 (table_to 128)) 64

pub up_met : UpMet
unfolding entry_at le part
up_met = record { further = record { start = refl; long = refl; below = omega arith }; entry = λ i. refl; slot = λ i. refl }
