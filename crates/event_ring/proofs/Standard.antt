-- The port's reader, where it stands as a consumer does, follows the standard's consumer (xHCI 4.9.4) wherever it refuses nothing.
use Prim.{tt}
use Rattle.std.proofs.Common.{◌≡◌, ℕ, ◌+◌, ◌*◌, ◌%◌, ◌^◌, ◌<◌, ◌≤◌, Bool, true, false, cond, not, ◌&&◌, eqb, leb, List, [], ◌∷◌, replicate, sym, refl, ap, ◌∙◌, ap₂, arith, lit<, le-ltb, lt-ltb, eq-eqb, ne_eqb}
use mathlib.Core.Bool.{beq}
use native.Mathlib.Decide.{dec_le}
use Rattle.guest.specs.Judge.{judge}
use Rattle.guest.specs.Memory.{Memory, inside, trb_at}
use Rattle.guest.proofs.Tests.{both}
use Rattle.guest.proofs.Judge.{Passes, Numbered, answer_passes, answer_given}
use Rattle.guest.proofs.Memory.{inside_within}
use Rattle.trb.specs.Trb.{cycle_of}
use Rattle.event_ring.specs.Ring.{entry_of, entry_at, good_entry, ok_state, last, next_index, next_entry, entered, along, next_state, next_tests, fresh_of, take_tests, take_refused, taken_at, nothing_at, take, number_of, values_of, started}
use Rattle.event_ring.specs.Answers.{Take, TakeMoved}
use Rattle.event_ring.specs.Consumer.{Consumer, first, dequeue, event?, onward, Consumed, event, none, consume}
use Rattle.event_ring.specs.declared.Entry.{Entry}
use Rattle.event_ring.specs.declared.EventRing.{EventRing}
use Rattle.event_ring.specs.declared.EventReader.{EventReader}
use Rattle.event_ring.proofs.Laws.{Limits, limits, next_numbered}

-- the reader's state stands where the consumer does: the same slot, as many slots left as the segment has from there on, none of them past
-- 2 ^ 64, the same cycle
pub record StandsAt (m : Memory) (s : EventRing) (k : Consumer) : Type 0 where
  pub segment : s.index ≡ k.segment
  pub place : s.place ≡ dequeue m s.table s.entries k
  pub left : k.slot + s.remaining ≡ (entry_of m s.table k.segment).size
  pub below : s.place + 16 * s.remaining ≤ 2 ^ 64
  pub cycle : s.cycle ≡ k.cycle

-- a step keeps the table
pub record SameTable (s s' : EventRing) : Type 0 where
  pub ready : s'.ready ≡ s.ready
  pub table : s'.table ≡ s.table
  pub entries : s'.entries ≡ s.entries

same_table : (m : Memory) (s : EventRing) → SameTable s (next_state m s)
unfolding next_state
same_table m s = go (last s)
  where
    go : (b : Bool) → SameTable s (cond b (entered s (next_index s) (next_entry m s)) (along s))
    go true = record { ready = refl; table = refl; entries = refl }
    go false = record { ready = refl; table = refl; entries = refl }

-- no slot of a good entry's segment is past 2 ^ 64
good_below : (m : Memory) (e : Entry) → good_entry m e ≡ true → e.base + 16 * e.size ≤ 2 ^ 64
unfolding good_entry
good_below m e h =
    (inside_within m e.base (16 * e.size) (both (eqb (e.base % 64) 0 && leb 1 e.size && leb e.size 4096) _ h).1).below

-- a configured ring or reader stands where the consumer starts
pub starts : (m : Memory) (table entries : ℕ) → good_entry m (entry_at m table) ≡ true → StandsAt m (started m table entries) first
starts m table entries good =
    let z : table ≡ table + 16 * 0 = omega arith in
    record {
      segment = refl;
      place = omega (arith, ap (λ (a : ℕ). (entry_at m a).base) z);
      left = omega (arith, ap (λ (a : ℕ). (entry_at m a).size) z);
      below = good_below m (entry_at m table) good;
      cycle = refl;
    }

-- a take agrees with what the consumer does
abbrev pub Agrees : Memory → EventReader → TakeMoved → Consumed → Type 0
Agrees m r t (event trb k) = (t.answer ≡ Take.Event) × (t.trb ≡ trb) × StandsAt m t.reader.state k × SameTable r.state t.reader.state
Agrees m r t none = (t.answer ≡ Take.Nothing) × (t.trb ≡ replicate 16 0) × (t.reader ≡ r)

-- ---- a step

module _ (m : Memory) (s : EventRing) (k : Consumer) (ok : Limits s) (good : Passes (next_tests m s)) (at : StandsAt m s k) where
  entry_below : last s ≡ true → (next_entry m s).base + 16 * (next_entry m s).size ≤ 2 ^ 64
  unfolding next_tests
  entry_below h = good_below m (next_entry m s) (rw h at good).1.0

  -- in the segment
  inside_segment : 2 ≤ s.remaining → StandsAt m (next_state m s) (onward m s.table s.entries k)
  unfolding next_state onward
  inside_segment h =
      rw (ne_eqb s.remaining 1 (λ e. omega arith), lt-ltb (k.slot + 1) (entry_of m s.table k.segment).size (omega (arith, at.left)))
      (record {
        segment = at.segment;
        place = omega (arith, at.place, at.below);
        left = omega (arith, at.left);
        below = omega (arith, at.below);
        cycle = at.cycle;
      })

  -- to the next segment, or to the first
  next_segment : s.remaining ≡ 1 → k.segment + 1 < s.entries → StandsAt m (next_state m s) (onward m s.table s.entries k)
  unfolding next_state onward next_index
  next_segment h l =
      rw (
        eq-eqb s.remaining 1 h,
        le-ltb (k.slot + 1) (entry_of m s.table k.segment).size (omega (arith, at.left)),
        lt-ltb (k.segment + 1) s.entries l,
        at.segment,
        ne_eqb (k.segment + 1) s.entries (λ e. omega arith),
        ne_eqb (k.segment + 1) 0 (λ e. omega arith),
      )
      (record {
        segment = refl;
        place = omega arith;
        left = omega arith;
        below = rw (at.segment, ne_eqb (k.segment + 1) s.entries (λ e. omega arith)) at (entry_below (eq-eqb s.remaining 1 h));
        cycle = at.cycle;
      })

  first_segment : s.remaining ≡ 1 → s.entries ≤ k.segment + 1 → StandsAt m (next_state m s) (onward m s.table s.entries k)
  unfolding next_state onward next_index
  first_segment h l =
      let wraps : k.segment + 1 ≡ s.entries = omega (arith, ok.within, at.segment) in
      rw (
        eq-eqb s.remaining 1 h,
        le-ltb (k.slot + 1) (entry_of m s.table k.segment).size (omega (arith, at.left)),
        le-ltb (k.segment + 1) s.entries l,
        at.segment,
        eq-eqb (k.segment + 1) s.entries wraps,
      )
      (record {
        segment = refl;
        place = omega arith;
        left = omega arith;
        below = rw (at.segment, eq-eqb (k.segment + 1) s.entries wraps) at (entry_below (eq-eqb s.remaining 1 h));
        cycle = ap not at.cycle;
      })

  pub steps : StandsAt m (next_state m s) (onward m s.table s.entries k)
  steps = go (dec_le 2 s.remaining) (dec_le s.entries (k.segment + 1))
    where
      go : Dec (2 ≤ s.remaining) → Dec (s.entries ≤ k.segment + 1) → StandsAt m (next_state m s) (onward m s.table s.entries k)
      go (yes h) d = inside_segment h
      go (no h) (yes l) = first_segment (omega (arith, ok.left, h)) l
      go (no h) (no l) = next_segment (omega (arith, ok.left, h)) (omega (arith, l))

-- ---- a take

module _ (m : Memory) (r : EventReader) where
  -- what a take gives where it refuses nothing
  abbrev pub given : Bool → TakeMoved
  given fresh = cond fresh (taken_at (trb_at m r.state.place) (next_state m r.state)) (nothing_at r)

  pub given_number : (fresh : Bool) → number_of (given fresh).answer ≡ 0
  given_number true = refl
  given_number false = refl

  pub take_numbered : Numbered (take_tests m r.state)
  take_numbered = (lit< tt, (lit< tt, go (fresh_of m r.state)))
    where
      go : (fresh : Bool) → Numbered (cond fresh (next_tests m r.state) [])
      go true = next_numbered m r.state
      go false = tt

  pub take_passes : number_of (take m r).answer ≡ 0 → Passes (take_tests m r.state)
  unfolding take
  take_passes = answer_passes (λ (t : TakeMoved). number_of t.answer) (take_tests m r.state) take_numbered (take_refused r) (given (fresh_of m r.state)) (λ n. refl) (given_number (fresh_of m r.state)) (take m r) refl

  pub take_gives : number_of (take m r).answer ≡ 0 → take m r ≡ given (fresh_of m r.state)
  unfolding take
  take_gives = answer_given (λ (t : TakeMoved). number_of t.answer) (take_tests m r.state) take_numbered (take_refused r) (given (fresh_of m r.state)) (λ n. refl) (given_number (fresh_of m r.state)) (take m r) refl

-- the port's reader, standing where a consumer does and refusing nothing, does what the consumer does, and stands where the consumer then
-- stands
pub take_follows : (m : Memory) (r : EventReader) (k : Consumer) → StandsAt m r.state k → number_of (take m r).answer ≡ 0
    → Agrees m r (take m r) (consume m r.state.table r.state.entries k)
take_follows m r k at z =
    let s = r.state in
    let same : fresh_of m s ≡ event? m s.table s.entries k = ap₂ (λ (a : ℕ) (c : Bool). beq (cycle_of (trb_at m a)) c) at.place at.cycle in
    rw (take_gives m r z, same) (go (event? m s.table s.entries k) same)
  where
    go : (fresh : Bool) → fresh_of m r.state ≡ fresh → Agrees m r (given m r fresh) (cond fresh (event (trb_at m (dequeue m r.state.table r.state.entries k)) (onward m r.state.table r.state.entries k)) none)
    go true h =
        let p = take_passes m r z in
        (refl, ap (trb_at m) at.place, steps m r.state k (limits r.state p.0) (rw h at p.1.1) at, same_table m r.state)
    go false h = (refl, refl, refl)

-- a stale slot is nothing, and no entry is looked at for it
pub stale_is_nothing : (m : Memory) (r : EventReader) → ok_state r.state ≡ true → inside m r.state.place 16 ≡ true
    → fresh_of m r.state ≡ false → take m r ≡ nothing_at r
unfolding take judge
stale_is_nothing m r ok within stale = rw (ok, within, stale)

-- ---- number and values tell the answers apart

told : (number : ℕ) (values : List ℕ) → Take
told number [] = Take.Refused number
told number (v ∷ vs) = cond (eqb v 0) Take.Nothing Take.Event

told_back : (a : Take) → told (number_of a) (values_of a) ≡ a
unfolding told
told_back Take.Event = refl
told_back Take.Nothing = refl
told_back (Take.Refused n) = refl

pub take_apart : (a b : Take) → number_of a ≡ number_of b → values_of a ≡ values_of b → a ≡ b
take_apart a b n v = sym (told_back a) ∙ ap₂ told n v ∙ told_back b
