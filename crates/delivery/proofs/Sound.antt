-- The ring's operations at a position of the walk, in a memory that keeps the table: nothing is refused but a full ring and an event that is
-- not valid, and a step leads to the next position. Assumes nothing.
use Prim.Native.Nat.{ℕ, suc, ◌+◌, ◌*◌, ◌-◌, ◌%◌, ◌≤◌, ◌<◌}
use mathlib.Core.Path.{◌≡◌, refl, ap, subst, ◌∙◌}
use mathlib.Core.Bool.{Bool, true, false, not, cond}
use mathlib.Core.List.{[], ◌∷◌}
use native.Mathlib.Omega.{arith}
use native.Mathlib.Decide.{ℕ_discrete}
use native.Mathlib.Nat.{add-zero}
use lib.ListN.{length}
use lib.Dec.{eqb}
use borrow.Author.Tests.{eq-eqb, ne_eqb, le-leb, lt-ltb}
use Rattle.guest.specs.Judge.{judge}
use Rattle.guest.specs.Memory.{Memory, byte, inside}
use Prim.{tt}
use Rattle.guest.proofs.Judge.{Passes, judge_passes}
use Rattle.guest.proofs.Memory.{inside_within, inside_part}
use Rattle.trb.specs.Events.{valid}
use Rattle.trb.specs.declared.event.EventTrb.{EventTrb}
use Rattle.event_ring.specs.Ring.{entry_at, entry_of, good_entry, ok_state, last, next_index, entered, along, next_state, entry_tests, next_tests, full, add_tests, configure_tests, started, configured, refused_at, moved_to, fresh_of, take_tests}
use Rattle.event_ring.specs.declared.Entry.{Entry}
use Rattle.event_ring.specs.declared.EventRing.{EventRing}
use Rattle.event_ring.proofs.Laws.{judge_then}
use Rattle.delivery.specs.Demand3.{Setup, base, size, Earlier, Premises}
use Rattle.delivery.proofs.Memory.{Same, entry_same}
use Rattle.delivery.proofs.Walk.{walk, at, on, good_at, entry_good, entries_counted}

-- ---- a ring in order: its state keeps its limits, its slot is inside, and the next entry is as it must be

pub record Sound (m : Memory) (r : EventRing) : Type 0 where
  pub state : ok_state r ≡ true
  pub slot : inside m r.place 16 ≡ true
  pub next : Passes (entry_tests m r)

pub next_passes : (m : Memory) (r : EventRing) → Passes (entry_tests m r) → Passes (next_tests m r)
unfolding next_tests
next_passes m r p = go (last r)
  where
    go : (b : Bool) → Passes (cond b (entry_tests m r) [])
    go true = p
    go false = tt

module _ (m : Memory) (r : EventRing) (S : Sound m r) where
  pub add_judged : (e : EventTrb) (report : ℕ) → report % 16 ≡ 0 → valid e ≡ true → {B : Type 0} (refuse : ℕ → B) (b : B)
      → judge (add_tests m r e report) refuse b ≡ cond (full m r report) (refuse 7) b
  unfolding judge
  add_judged e report a v refuse b =
      rw (v, S.state, eq-eqb (report % 16) 0 a, S.slot)
      (judge_then (next_tests m r) ((7, not (full m r report)) ∷ []) refuse b (next_passes m r S.next) ∙ last_test_lem (full m r report))
    where
      last_test_lem : (f : Bool) → judge ((7, not f) ∷ []) refuse b ≡ cond f (refuse 7) b
      last_test_lem true = refl
      last_test_lem false = refl

  pub take_passes : Passes (take_tests m r)
  take_passes = (S.state, (S.slot, go (fresh_of m r)))
    where
      go : (f : Bool) → Passes (cond f (next_tests m r) [])
      go true = next_passes m r S.next
      go false = tt

pub add_invalid : (m : Memory) (r : EventRing) (e : EventTrb) (report : ℕ) → valid e ≡ false → {B : Type 0} (refuse : ℕ → B) (b : B)
    → judge (add_tests m r e report) refuse b ≡ refuse 8
unfolding judge
add_invalid m r e report v refuse b = rw v

-- ---- windows as the set-up's, whose table is the set-up's

pub record Kept (s : Setup) (m : Memory) : Type 0 where
  pub start : m.start ≡ s.mem.start
  pub len : length m.bytes ≡ length s.mem.bytes
  pub table : Same s.mem m s.table (16 * s.entries)

pub kept_earlier : (s : Setup) (m : Memory) → Earlier s m → Kept s m
kept_earlier s m e =
    record {
      start = e.start;
      len = e.long;
      table = λ x l u. subst (λ (y : ℕ). byte m y ≡ byte s.mem y) (omega arith) (e.table (x - s.table) (omega arith));
    }

module _ (s : Setup) (W : Premises s) (m : Memory) (K : Kept s m) where
  pub inside_kept : (a k : ℕ) → inside s.mem a k ≡ true → inside m a k ≡ true
  unfolding inside
  inside_kept a k h = rw (K.start, K.len) h

  good_kept : (e : Entry) → good_entry s.mem e ≡ true → good_entry m e ≡ true
  unfolding good_entry inside
  good_kept e h = rw (K.start, K.len) h

  pub table_from : s.mem.start ≤ s.table
  table_from = (inside_within s.mem s.table (16 * s.entries) W.within).from

  pub table_entry : (j : ℕ) → j < s.entries → entry_of m s.table j ≡ entry_of s.mem s.table j
  table_entry j h =
      entry_same s.mem m K.start (s.table + 16 * j) (omega (arith, table_from)) (λ x l u. K.table x (omega arith) (omega arith))

  -- configuring accepts the table, and starts where the walk does
  first_entry : entry_at m s.table ≡ entry_at s.mem s.table
  first_entry = rw (add-zero s.table) at (table_entry 0 W.some)

  configure_passes : Passes (configure_tests m s.table s.entries)
  configure_passes = (
    eq-eqb (s.table % 64) 0 W.aligned,
    (
      entries_counted s W,
      (
        inside_kept s.table (16 * s.entries) W.within,
        (
          rw first_entry
              (good_kept (entry_at s.mem s.table) (rw (← add-zero s.table) (entry_good s W 0 W.some))),
          tt,
        ),
      ),
    ),
  )

  pub configures : (r : EventRing) → configured m r s.table s.entries ≡ moved_to (walk s 0)
  unfolding configured walk
  configures r =
      judge_passes (configure_tests m s.table s.entries) (refused_at r) (moved_to (started m s.table s.entries)) configure_passes
      ∙ rw first_entry

  next_index_lem : (j i : ℕ) (c : Bool) → j < s.entries → next_index (at s j i c) < s.entries
  unfolding at next_index
  next_index_lem j i c h = go (ℕ_discrete (j + 1) s.entries)
    where
      go : Dec (j + 1 ≡ s.entries) → cond (eqb (j + 1) s.entries) 0 (j + 1) < s.entries
      go (yes e) = rw (eq-eqb (j + 1) s.entries e) (omega arith)
      go (no n) = rw (ne_eqb (j + 1) s.entries n) (omega arith)

  sound_at : (j i : ℕ) (c : Bool) → j < s.entries → i < size s j → Sound m (at s j i c)
  unfolding at ok_state
  sound_at j i c jn ij =
      let g = good_at s W j jn in
      let k = next_index (at s j i c) in
      let kn : k < s.entries = next_index_lem j i c jn in
      record {
        state =
            rw (
              entries_counted s W,
              lt-ltb j s.entries jn,
              le-leb 1 (size s j - i) (omega arith),
              le-leb (size s j - i) 4096 (omega (arith, g.few)),
              eq-eqb (s.table % 64) 0 W.aligned,
              eq-eqb ((base s j + 16 * i) % 16) 0 (omega (arith, g.aligned)),
            );
        slot = inside_kept _ 16 (inside_part s.mem (base s j) (16 * size s j) (16 * i) 16 g.memory (omega arith));
        next = (
          inside_kept _ 16 (inside_part s.mem s.table (16 * s.entries) (16 * k) 16 W.within (omega arith)),
          (rw (table_entry k kn) (good_kept (entry_of s.mem s.table k) (entry_good s W k kn)), tt),
        );
      }

  next_at : (j i : ℕ) (c : Bool) → j < s.entries → next_state m (at s j i c) ≡ next_state s.mem (at s j i c)
  unfolding at next_state
  next_at j i c h =
      ap (λ (e : Entry). cond (last (at s j i c)) (entered (at s j i c) (next_index (at s j i c)) e) (along (at s j i c)))
      (table_entry (next_index (at s j i c)) (next_index_lem j i c h))

  pub sound : (p : ℕ) → Sound m (walk s p)
  sound p = let o = on s W p in rw o.is (sound_at o.seg o.off o.cyc o.seg< o.off<)

  pub next_walk : (p : ℕ) → next_state m (walk s p) ≡ walk s (suc p)
  unfolding walk
  next_walk p = let o = on s W p in rw o.is (next_at o.seg o.off o.cyc o.seg<)
