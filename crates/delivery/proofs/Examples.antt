-- The premises can be met: a table of one segment in a window that begins high, and one of two in a window that ends at 2 ^ 64, built as
-- bytes. Assumes nothing.
use Prim.Native.Nat.{ℕ, zero, suc, ◌+◌, ◌*◌, ◌-◌, ◌^◌, ◌≤◌, ◌<◌}
use mathlib.Core.Path.{◌≡◌, refl, sym, ◌∙◌, subst}
use mathlib.Core.Logic.{◌≢◌, inl, inr}
use mathlib.Core.List.{List, [], ◌∷◌, ◌++◌}
use native.Mathlib.Omega.{arith}
use lib.ListN.{length, get_or, replicate, get_or-replicate, get_or-append}
use lib.Seq.{get_or-append-add}
use Rattle.guest.specs.Bytes.{le}
use Rattle.guest.specs.Memory.{Memory, window, byte, inside}
use Rattle.event_ring.specs.Ring.{empty, entry_at, reader_at}
use Rattle.delivery.proofs.Demand3.{demand3}
use Rattle.delivery.specs.Demand3.{Setup, base, size, Apart, Segment, Earlier, Premises, Outside, Demand3, Statement}

-- the entry of so many slots, whose base has these bytes
abbrev entry : List ℕ → ℕ → List ℕ
entry base slots = base ++ (slots ∷ 0 ∷ 0 ∷ 0 ∷ 0 ∷ 0 ∷ 0 ∷ 0 ∷ [])

-- a table at the window's start with bytes behind it
abbrev tabled : ℕ → List ℕ → ℕ → ℕ → Memory
tabled start table long value = window start (table ++ replicate long value)

-- zeros behind the table, ring and reader new; the ring was configured in another memory
abbrev setup : ℕ → List ℕ → ℕ → Memory → ℕ → Setup
setup start table zeros before entries =
    record {
      mem = tabled start table zeros 0;
      table = start;
      entries = entries;
      ring = empty;
      ring_mem = before;
      reader = reader_at empty;
      reader_mem = tabled start table zeros 0;
    }

behind : (start : ℕ) (table : List ℕ) (zeros a : ℕ) → start + length table ≤ a → a < start + length table + zeros
    → byte (tabled start table zeros 0) a ≡ 0
behind start table zeros a l u =
    let i = a - start - length table in
    let e : length table + i ≡ a - start = omega arith in
    subst (λ (y : ℕ). get_or (table ++ replicate zeros 0) y 0 ≡ 0) e
    (get_or-append-add table (replicate zeros 0) i 0 ∙ get_or-replicate zeros i 0 0 (omega arith))

-- ---- one segment of two slots, 0x100 after the start; when the ring was configured all bytes behind the table were 7

abbrev high : ℕ
high = 2 ^ 40

abbrev one_table : List ℕ
one_table = entry (0 ∷ 1 ∷ 0 ∷ 0 ∷ 0 ∷ 1 ∷ 0 ∷ 0 ∷ []) 2

abbrev before : Memory
before = tabled high one_table 0x110 7

abbrev pub one : Setup
one = setup high one_table 0x110 before 1

only : (j : ℕ) → j < 1 → j ≡ 0
only j h = omega arith

one_zeros : (j : ℕ) → j < 1 → (i : ℕ) → i < 16 * size one j → byte one.mem (base one j + i) ≡ 0
unfolding entry_at le
one_zeros zero h i u = behind high one_table 0x110 (high + 0x100 + i) (omega arith) (omega arith)
one_zeros (suc j) h i u = absurd (omega arith)

one_good : (j : ℕ) → j < 1 → Segment one j
unfolding inside entry_at le
one_good zero h = record { aligned = refl; some = omega arith; most = omega arith; within = refl }
one_good (suc j) h = absurd (omega arith)

-- that memory and the one at the start differ
pub one_differs : byte before (high + 0x10) ≢ byte one.mem (high + 0x10)
one_differs e = absurd (omega (arith, e))

one_earlier : Earlier one before
one_earlier =
    record {
      start = refl;
      long = refl;
      table = λ i h.
          let e : high + i - high ≡ i = omega arith in
          rw e (get_or-append one_table (replicate 0x110 7) 0 i h ∙ sym (get_or-append one_table (replicate 0x110 0) 0 i h));
    }

unchanged : (s : Setup) → Earlier s s.mem
unchanged s = record { start = refl; long = refl; table = λ i h. refl }

pub one_met : Premises one
unfolding inside
one_met =
    record {
      aligned = refl;
      some = omega arith;
      most = omega arith;
      within = refl;
      good = one_good;
      zeros = one_zeros;
      segments = λ j k h l n. absurd (omega arith);
      ring_earlier = one_earlier;
      reader_earlier = unchanged one;
    }

-- ---- two segments, the later one first, of four slots to the very end and of three before it

abbrev top : ℕ
top = 2 ^ 64 - 0x100

abbrev two_table : List ℕ
two_table = entry (0xc0 ∷ 255 ∷ 255 ∷ 255 ∷ 255 ∷ 255 ∷ 255 ∷ 255 ∷ []) 4 ++ entry (0x80 ∷ 255 ∷ 255 ∷ 255 ∷ 255 ∷ 255 ∷ 255 ∷ 255 ∷ []) 3

abbrev pub two : Setup
two = setup top two_table 0xe0 (tabled top two_table 0xe0 0) 2

-- its last slot ends where addresses do
pub two_ends : base two 0 + 16 * size two 0 ≡ 2 ^ 64
unfolding entry_at le
two_ends = refl

two_zeros : (j : ℕ) → j < 2 → (i : ℕ) → i < 16 * size two j → byte two.mem (base two j + i) ≡ 0
unfolding entry_at le
two_zeros zero h i u = behind top two_table 0xe0 (2 ^ 64 - 0x40 + i) (omega arith) (omega arith)
two_zeros (suc zero) h i u = behind top two_table 0xe0 (2 ^ 64 - 0x80 + i) (omega arith) (omega arith)
two_zeros (suc (suc j)) h i u = absurd (omega arith)

two_good : (j : ℕ) → j < 2 → Segment two j
unfolding inside entry_at le
two_good zero h = record { aligned = refl; some = omega arith; most = omega arith; within = refl }
two_good (suc zero) h = record { aligned = refl; some = omega arith; most = omega arith; within = refl }
two_good (suc (suc j)) h = absurd (omega arith)

two_segments : (j k : ℕ) → j < 2 → k < 2 → j ≢ k → Apart (base two j) (16 * size two j) (base two k) (16 * size two k)
unfolding entry_at le
two_segments zero zero h l n = absurd (n refl)
two_segments zero (suc zero) h l n = inr (omega arith)
two_segments (suc zero) zero h l n = inl (omega arith)
two_segments (suc zero) (suc zero) h l n = absurd (n refl)
two_segments zero (suc (suc k)) h l n = absurd (omega arith)
two_segments (suc zero) (suc (suc k)) h l n = absurd (omega arith)
two_segments (suc (suc j)) k h l n = absurd (omega arith)

pub two_met : Premises two
unfolding inside
two_met =
    record {
      aligned = refl;
      some = omega arith;
      most = omega arith;
      within = refl;
      good = two_good;
      zeros = two_zeros;
      segments = two_segments;
      ring_earlier = unchanged two;
      reader_earlier = unchanged two;
    }

-- so demand 3 holds of both; and there are bytes that may change: those between the first one's table and segment
pub one_delivered : Demand3 one
unfolding Statement
one_delivered = demand3 one one_met

pub two_delivered : Demand3 two
unfolding Statement
two_delivered = demand3 two two_met

pub one_changes : Outside one (high + 0x20) 0x40
unfolding inside entry_at le
one_changes = record { memory = refl; table = inr (omega arith); segment = λ j h. rw (only j h) (inl (omega arith)) }
