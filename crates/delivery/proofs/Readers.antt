-- What both readers do at a position of the walk, in a memory that keeps the table. Assumes nothing.
use Prim.Native.Nat.{ℕ, suc, ◌+◌, ◌*◌, ◌<◌}
use mathlib.Core.Path.{◌≡◌, refl, sym, ap, ◌∙◌}
use mathlib.Core.Bool.{Bool, true, false, not, cond, beq}
use native.Mathlib.Numerals.{add-one}
use native.Mathlib.Omega.{arith}
use Rattle.std.specs.Cmp.{booleans_Decides}
use Rattle.guest.specs.Memory.{Memory, trb_at}
use Rattle.guest.proofs.Judge.{judge_passes}
use Rattle.trb.specs.Trb.{cycle_of}
use Rattle.event_ring.specs.Ring.{entry_of, fresh_of, take_tests, take_refused, taken_at, nothing_at, take, reader_at, reader_configured}
use Rattle.event_ring.specs.Consumer.{Consumer, dequeue, event?, onward}
use Rattle.event_ring.specs.declared.Entry.{Entry}
use Rattle.event_ring.specs.declared.EventRing.{EventRing}
use Rattle.event_ring.specs.declared.EventReader.{EventReader}
use Rattle.event_ring.specs.Answers.{TakeMoved}
use Rattle.event_ring.proofs.Laws.{limits}
use Rattle.event_ring.proofs.Standard.{StandsAt, steps}
use Rattle.delivery.specs.Demand3.{Setup, Premises}
use Rattle.delivery.specs.World.{found, none, Reader, standard_reader, port_reader, took_as}
use Rattle.delivery.proofs.Walk.{walk, at, on, good_at, first}
use Rattle.delivery.proofs.Sound.{Kept, kept_earlier, next_passes, sound, next_walk, table_entry, take_passes, configures}

fresh_yes : (b c : Bool) → b ≡ c → beq b c ≡ true
fresh_yes b c = (booleans_Decides b c).1

fresh_no : (b c : Bool) → b ≡ not c → beq b c ≡ false
fresh_no b true e = rw e
fresh_no b false e = rw e

-- what demand 3 needs of a reader: `At m r p` says that it stands at position p
pub record Reads (s : Setup) (R : Reader) : Type 1 where
  pub At : Memory → R.State → ℕ → Type 0
  pub starts : At s.mem R.start 0
  -- a fresh slot is taken, and the reader stands at the next position
  pub takes : (m : Memory) → Kept s m → (r : R.State) (p : ℕ) → At m r p → cycle_of (trb_at m (walk s p).place) ≡ (walk s p).cycle
      → (r' : R.State) × (R.look m r ≡ found (trb_at m (walk s p).place) r') × At m r' (p + 1)
  -- at a stale slot there is nothing
  pub finds_none : (m : Memory) → Kept s m → (r : R.State) (p : ℕ) → At m r p → cycle_of (trb_at m (walk s p).place) ≡ not (walk s p).cycle
      → R.look m r ≡ none r
  pub placed : (m : Memory) (r : R.State) (p : ℕ) → At m r p → R.place m r ≡ (walk s p).place
  pub cycled : (m : Memory) (r : R.State) (p : ℕ) → At m r p → R.cycle r ≡ (walk s p).cycle
  -- a change of memory that keeps the table leaves it where it is
  pub stays : (m m' : Memory) → Kept s m → Kept s m' → (r : R.State) (p : ℕ) → At m r p → At m' r p

-- ---- the port's reader: its state is the walk's

module _ (s : Setup) (W : Premises s) where
  abbrev PortAt : Memory → EventReader → ℕ → Type 0
  PortAt m r p = r.state ≡ walk s p

  abbrev configured_reader : EventReader
  configured_reader = (reader_configured s.reader_mem s.reader s.table s.entries).reader

  port_starts : configured_reader.state ≡ walk s 0
  unfolding reader_configured
  port_starts = rw (configures s W s.reader_mem (kept_earlier s s.reader_mem W.reader_earlier) s.reader.state)

  -- where nothing is refused, a take goes by whether the slot is fresh
  port_take : (m : Memory) → Kept s m → (r : EventReader) (p : ℕ) → PortAt m r p → (f : Bool) → fresh_of m r.state ≡ f
      → take m r ≡ cond f (taken_at (trb_at m (walk s p).place) (walk s (suc p))) (nothing_at r)
  unfolding take
  port_take m K r p e f h =
      judge_passes (take_tests m r.state) (take_refused r) _ (rw e (take_passes m (walk s p) (sound s W m K p)))
      ∙ rw (h, e, next_walk s W m K p)

  port_fresh : (m : Memory) (r : EventReader) (p : ℕ) → PortAt m r p → (f : Bool) → beq (cycle_of (trb_at m (walk s p).place)) (walk s p).cycle ≡ f
      → fresh_of m r.state ≡ f
  port_fresh m r p e f h = rw e h

  pub port_reads : Reads s (port_reader configured_reader)
  port_reads =
      record {
        At = PortAt;
        starts = port_starts;
        takes = λ m K r p e h.
            let t = port_take m K r p e true (port_fresh m r p e true (fresh_yes _ _ h)) in
            (reader_at (walk s (suc p)), ap (λ (x : TakeMoved). took_as x x.answer) t, ap (walk s) (sym (add-one p)));
        finds_none = λ m K r p e h. ap (λ (x : TakeMoved). took_as x x.answer) (port_take m K r p e false (port_fresh m r p e false (fresh_no _ _ h)));
        placed = λ m r p e. ap (λ (x : EventRing). x.place) e;
        cycled = λ m r p e. ap (λ (x : EventRing). x.cycle) e;
        stays = λ m m' K K' r p e. e;
      }

-- ---- the standard's consumer: it stands on the walk's slot

module _ (s : Setup) (W : Premises s) where
  walk_table : (p : ℕ) → (walk s p).table ≡ s.table
  unfolding at
  walk_table p = let o = on s W p in ap (λ (x : EventRing). x.table) o.is

  walk_entries : (p : ℕ) → (walk s p).entries ≡ s.entries
  unfolding at
  walk_entries p = let o = on s W p in ap (λ (x : EventRing). x.entries) o.is

  abbrev IsStandingAt : Memory → Consumer → ℕ → Type 0
  IsStandingAt m k p = StandsAt m (walk s p) k

  dequeues : (m : Memory) (k : Consumer) (p : ℕ) → IsStandingAt m k p → (walk s p).place ≡ dequeue m s.table s.entries k
  dequeues m k p a = rw (walk_table p) at a.place

  in_table : (m : Memory) → Kept s m → (k : Consumer) (p : ℕ) → IsStandingAt m k p → k.segment < s.entries
  in_table m K k p a = omega (arith, (limits (walk s p) (sound s W m K p).state).within, a.segment, walk_entries p)

  standard_starts : IsStandingAt s.mem (record { segment = 0; slot = 0; cycle = true }) 0
  unfolding at
  standard_starts =
      rw (first s W)
      (record { segment = refl; place = refl; left = omega arith; below = omega (arith, (good_at s W 0 W.some).within.below); cycle = refl })

  standard_steps : (m : Memory) → Kept s m → (k : Consumer) (p : ℕ) → IsStandingAt m k p → IsStandingAt m (onward m s.table s.entries k) (p + 1)
  standard_steps m K k p a =
      let next = steps m (walk s p) k (limits (walk s p) (sound s W m K p).state) (next_passes m (walk s p) (sound s W m K p).next) a in
      rw (add-one p) (rw (next_walk s W m K p, walk_table p, walk_entries p) at next)

  standard_stays : (m m' : Memory) → Kept s m → Kept s m' → (k : Consumer) (p : ℕ) → IsStandingAt m k p → IsStandingAt m' k p
  standard_stays m m' K K' k p a =
      let j = in_table m K k p a in
      let same : entry_of m' (walk s p).table k.segment ≡ entry_of m (walk s p).table k.segment =
      rw (walk_table p) (table_entry s W m' K' k.segment j ∙ sym (table_entry s W m K k.segment j)) in
      record {
        segment = a.segment;
        place = a.place ∙ sym (ap (λ (e : Entry). e.base + 16 * k.slot) same);
        left = a.left ∙ sym (ap (λ (e : Entry). e.size) same);
        below = a.below;
        cycle = a.cycle;
      }

  -- whether the consumer finds an event is whether the walk's slot is fresh
  standard_fresh : (m : Memory) (k : Consumer) (p : ℕ) → IsStandingAt m k p → (f : Bool) → beq (cycle_of (trb_at m (walk s p).place)) (walk s p).cycle ≡ f
      → event? m s.table s.entries k ≡ f
  standard_fresh m k p a f h = rw (← dequeues m k p a, ← a.cycle) h

  pub standard_reads : Reads s (standard_reader s.table s.entries)
  standard_reads =
      record {
        At = IsStandingAt;
        starts = standard_starts;
        takes = λ m K k p a h. (
          onward m s.table s.entries k,
          rw (standard_fresh m k p a true (fresh_yes _ _ h), ← dequeues m k p a),
          standard_steps m K k p a,
        );
        finds_none = λ m K k p a h. rw (standard_fresh m k p a false (fresh_no _ _ h));
        placed = λ m k p a. sym (dequeues m k p a);
        cycled = λ m k p a. sym a.cycle;
        stays = standard_stays;
      }
