-- The walk of the ring over a table that does not change: position p is where p steps from the set-up lead. A lap is as many steps as there
-- are slots; a lap later the state is the same with the cycle flipped; positions less than a lap apart have slots apart. Assumes nothing.
use Prim.Native.Nat.{ℕ, zero, suc, ◌+◌, ◌*◌, ◌-◌, ◌%◌, ◌≤◌, ◌<◌}
use mathlib.Core.Path.{◌≡◌, refl, sym, ◌∙◌, ap, ap₂, subst}
use mathlib.Core.Logic.{◌≢◌, ◌⊎◌, inl, inr, ⊎_elim}
use mathlib.Core.Bool.{Bool, true, false, not, cond}
use native.Mathlib.Omega.{arith}
use native.Mathlib.Numerals.{add-one}
use native.Mathlib.Nat.{zero-add, suc-add, add-zero}
use native.Mathlib.Decide.{ℕ_discrete, dec_lt}
use lib.Dec.{eqb}
use borrow.Author.Tests.{eq-eqb, ne_eqb, le-leb}
use Rattle.guest.specs.Memory.{Memory, byte, inside, trb_at}
use Rattle.guest.proofs.Memory.{Within, inside_within, inside_part}
use Rattle.trb.specs.Trb.{cycle_of}
use Rattle.event_ring.specs.Ring.{entry_at, entry_of, good_entry, count_ok, last, next_index, entered, along, next_state, started}
use Rattle.event_ring.specs.declared.EventRing.{EventRing}
use Rattle.delivery.specs.Demand3.{Setup, base, size, slots_before, slots, Apart, Premises}
use Rattle.delivery.proofs.Memory.{zero_cycle}

-- ---- positions

unfoldable pub walk : Setup → ℕ → EventRing
walk s zero = started s.mem s.table s.entries
walk s (suc p) = next_state s.mem (walk s p)

-- the ring in segment j, at place p with m slots remaining; at slot i of segment j
abbrev standing : Setup → ℕ → ℕ → ℕ → Bool → EventRing
standing s j p m c =
    record { ready = true; table = s.table; entries = s.entries; index = j; place = p; remaining = m; cycle = c }

unfoldable pub at : Setup → ℕ → ℕ → Bool → EventRing
at s j i c = standing s j (base s j + 16 * i) (size s j - i) c

abbrev pub flip : EventRing → EventRing
flip r =
    record {
      ready = r.ready;
      table = r.table;
      entries = r.entries;
      index = r.index;
      place = r.place;
      remaining = r.remaining;
      cycle = not r.cycle;
    }

pub record GoodEntry (s : Setup) (j : ℕ) : Type 0 where
  pub aligned : base s j % 64 ≡ 0
  pub some : 1 ≤ size s j
  pub few : size s j ≤ 4096
  pub within : Within s.mem (base s j) (16 * size s j)
  pub memory : inside s.mem (base s j) (16 * size s j) ≡ true

module _ (s : Setup) (W : Premises s) where
  pub good_at : (j : ℕ) → j < s.entries → GoodEntry s j
  good_at j h =
      let g = W.good j h in
      record {
        aligned = g.aligned;
        some = g.some;
        few = g.most;
        within = inside_within s.mem (base s j) (16 * size s j) g.within;
        memory = g.within;
      }

  -- what the ring's tests say of it
  pub entry_good : (j : ℕ) → j < s.entries → good_entry s.mem (entry_of s.mem s.table j) ≡ true
  unfolding good_entry
  entry_good j h =
      let g = W.good j h in
      rw (eq-eqb (base s j % 64) 0 g.aligned, le-leb 1 (size s j) g.some, le-leb (size s j) 4096 g.most, g.within)

  pub entries_counted : count_ok s.entries ≡ true
  entries_counted = rw (le-leb 1 s.entries W.some, le-leb s.entries 16 W.most)

  -- ---- one step

  -- where a step from slot i of segment j leads: to the next slot of the lap, or at its end to the first with the cycle flipped
  pub record Stepped (j i : ℕ) (c : Bool) : Type 0 where
    pub seg : ℕ
    pub off : ℕ
    pub cyc : Bool
    pub seg< : seg < s.entries
    pub off< : off < size s seg
    pub leads : next_state s.mem (at s j i c) ≡ at s seg off cyc
    pub counts : ((slots_before s seg + off ≡ suc (slots_before s j + i)) × (cyc ≡ c))
        ⊎ ((suc (slots_before s j + i) ≡ slots s) × (at s seg off cyc ≡ at s 0 0 (not c)))

  pub stepped : (j i : ℕ) (c : Bool) → j < s.entries → i < size s j → Stepped j i c
  unfolding next_state next_index at slots_before
  stepped j i c jn ij = go (dec_lt (suc i) (size s j)) (dec_lt (suc j) s.entries)
    where
      go : Dec (suc i < size s j) → Dec (suc j < s.entries) → Stepped j i c
      go (yes h) d =
          record {
            seg = j;
            off = suc i;
            cyc = c;
            seg< = jn;
            off< = h;
            leads =
                rw (ne_eqb (size s j - i) 1 (omega arith))
                (ap₂ (λ (p m : ℕ). standing s j p m c) (omega (arith, (good_at j jn).within.below)) (omega arith));
            counts = inl (omega arith, refl);
          }
      go (no n) (yes h) =
          record {
            seg = suc j;
            off = 0;
            cyc = c;
            seg< = h;
            off< = (good_at (suc j) h).some;
            leads =
                rw (eq-eqb (size s j - i) 1 (omega arith), ne_eqb (j + 1) s.entries (omega arith), ne_eqb (j + 1) 0 (omega arith), add-one j)
                (ap₂ (λ (p m : ℕ). standing s (suc j) p m c) (omega arith) (omega arith));
            counts = inl (omega arith, refl);
          }
      go (no n) (no m) =
          record {
            seg = 0;
            off = 0;
            cyc = not c;
            seg< = omega arith;
            off< = (good_at 0 (omega arith)).some;
            leads =
                rw (eq-eqb (size s j - i) 1 (omega arith), eq-eqb (j + 1) s.entries (omega arith))
                (ap₂ (λ (p m : ℕ). standing s 0 p m (not c)) (omega arith) (omega arith));
            counts =
                let e : suc j ≡ s.entries = omega arith in
                inr (subst (λ (k : ℕ). suc (slots_before s j + i) ≡ slots_before s k) e (omega arith), refl);
          }

  -- ---- every position is a slot of a segment

  pub record On (r : EventRing) : Type 0 where
    pub seg : ℕ
    pub off : ℕ
    pub cyc : Bool
    pub seg< : seg < s.entries
    pub off< : off < size s seg
    pub is : r ≡ at s seg off cyc

  pub first : walk s 0 ≡ at s 0 0 true
  unfolding walk at
  first = rw (sym (ap (entry_at s.mem) (add-zero s.table))) (ap₂ (λ (p m : ℕ). standing s 0 p m true) (omega arith) (omega arith))

  pub on : (p : ℕ) → On (walk s p)
  unfolding walk
  on zero = record { seg = 0; off = 0; cyc = true; seg< = W.some; off< = (good_at 0 W.some).some; is = first }
  on (suc p) =
      let o = on p in
      let t = stepped o.seg o.off o.cyc o.seg< o.off< in
      record { seg = t.seg; off = t.off; cyc = t.cyc; seg< = t.seg<; off< = t.off<; is = ap (next_state s.mem) o.is ∙ t.leads }

  -- ---- the first lap: position p is the p-th slot, and the cycle is 1

  slots_mono : (j k : ℕ) → slots_before s j ≤ slots_before s (k + j)
  unfolding slots_before
  slots_mono j zero = rw zero-add (omega arith)
  slots_mono j (suc k) = rw suc-add (omega (arith, slots_mono j k))

  -- a slot of the table is one of its slots
  below : (j i : ℕ) → j < s.entries → i < size s j → slots_before s j + i < slots s
  unfolding slots_before
  below j i jn ij =
      let e : (s.entries - suc j) + suc j ≡ s.entries = omega arith in
      let m : slots_before s (suc j) ≤ slots s = subst (λ (k : ℕ). slots_before s (suc j) ≤ slots_before s k) e (slots_mono (suc j) (s.entries - suc j)) in
      omega arith

  pub record Lap (p : ℕ) : Type 0 where
    pub seg : ℕ
    pub off : ℕ
    pub seg< : seg < s.entries
    pub off< : off < size s seg
    pub is : walk s p ≡ at s seg off true
    pub nth : slots_before s seg + off ≡ p

  -- the step after position p of the first lap
  after : (p : ℕ) → (l : Lap p) → Stepped l.seg l.off true
  after p l = stepped l.seg l.off true l.seg< l.off<

  pub lap : (p : ℕ) → p < slots s → Lap p
  unfolding walk slots_before
  lap zero h = record { seg = 0; off = 0; seg< = W.some; off< = (good_at 0 W.some).some; is = first; nth = refl }
  lap (suc p) h = go (lap p (omega arith))
    where
      go : Lap p → Lap (suc p)
      go l =
          let t = after p l in
          ⊎_elim
          (λ c. record {
            seg = t.seg;
            off = t.off;
            seg< = t.seg<;
            off< = t.off<;
            is = ap (next_state s.mem) l.is ∙ t.leads ∙ ap (at s t.seg t.off) c.1;
            nth = c.0 ∙ ap suc l.nth;
          })
          (λ c. absurd (omega (arith, c.0, l.nth)))
          t.counts

  -- ---- a lap later

  pub some_slots : 1 ≤ slots s
  some_slots = omega (arith, below 0 0 W.some (good_at 0 W.some).some)

  turn : (p : ℕ) → suc p ≡ slots s → walk s (suc p) ≡ flip (walk s 0)
  unfolding walk at
  turn p e =
      let l = lap p (omega arith) in
      let t = after p l in
      ap (next_state s.mem) l.is ∙ t.leads
      ∙ ⊎_elim
      (λ c. absurd (omega (arith, c.0, l.nth, below t.seg t.off t.seg< t.off<)))
      (λ c. c.1 ∙ ap flip (sym first))
      t.counts

next_flip : (mem : Memory) (r : EventRing) → next_state mem (flip r) ≡ flip (next_state mem r)
unfolding next_state next_index
next_flip mem r = go (last r) (eqb (r.index + 1) r.entries)
  where
    go : (b z : Bool) → cond b (entered (flip r) (cond z 0 (r.index + 1)) (entry_of mem r.table (cond z 0 (r.index + 1)))) (along (flip r))
        ≡ flip (cond b (entered r (cond z 0 (r.index + 1)) (entry_of mem r.table (cond z 0 (r.index + 1)))) (along r))
    go false z = refl
    go true true = refl
    go true false = rw (ne_eqb (r.index + 1) 0 (omega arith))

module _ (s : Setup) (W : Premises s) where
  pub period : (p : ℕ) → walk s (p + slots s) ≡ flip (walk s p)
  unfolding walk
  period zero =
      let e : suc (slots s - 1) ≡ slots s = omega (arith, some_slots s W) in
      rw zero-add (subst (λ (k : ℕ). walk s k ≡ flip (walk s 0)) e (turn s W (slots s - 1) e))
  period (suc p) = rw suc-add (ap (next_state s.mem) (period p) ∙ next_flip s.mem (walk s p))

  -- ---- positions less than a lap apart have slots apart

  abbrev pub Away : ℕ → ℕ → Type 0
  Away p k = Apart (walk s p).place 16 (walk s k).place 16

  in_lap : (p k : ℕ) → p ≢ k → p < slots s → k < slots s → Away p k
  unfolding at
  in_lap p k n hp hk =
      let l = lap s W p hp in
      let m = lap s W k hk in
      rw (l.is, m.is) (go l.seg m.seg l.off m.off l.seg< m.seg< l.off< m.off< l.nth m.nth (ℕ_discrete l.seg m.seg))
    where
      go : (j j' i i' : ℕ) → j < s.entries → j' < s.entries → i < size s j → i' < size s j'
          → slots_before s j + i ≡ p → slots_before s j' + i' ≡ k → Dec (j ≡ j') → Apart (base s j + 16 * i) 16 (base s j' + 16 * i') 16
      go j j' i i' jn jn' ij ij' e e' (no d) = ⊎_elim (λ a. inl (omega arith)) (λ a. inr (omega arith)) (W.segments j j' jn jn' d)
      go j j' i i' jn jn' ij ij' e e' (yes d) = side (dec_lt i i')
        where
          b : base s j ≡ base s j'
          b = ap (base s) d

          b' : slots_before s j ≡ slots_before s j'
          b' = ap (slots_before s) d

          side : Dec (i < i') → Apart (base s j + 16 * i) 16 (base s j' + 16 * i') 16
          side (yes h) = inl (omega (arith, b))
          side (no h) = inr (omega (arith, b, b'))

  lower : (p : ℕ) → slots s ≤ p → (walk s p).place ≡ (walk s (p - slots s)).place
  lower p h =
      let e : (p - slots s) + slots s ≡ p = omega arith in
      subst (λ (k : ℕ). (walk s k).place ≡ (walk s (p - slots s)).place) e (ap (λ (r : EventRing). r.place) (period (p - slots s)))

  from_lap : (p k : ℕ) → p < slots s → p < k → k < p + slots s → Away p k
  from_lap p k hp hk h = go (dec_lt k (slots s))
    where
      go : Dec (k < slots s) → Away p k
      go (yes l) = in_lap p k (omega arith) hp l
      go (no l) = rw (lower k (omega arith)) (in_lap p (k - slots s) (omega arith) hp (omega arith))

  from : (f p k : ℕ) → p ≤ f → p < k → k < p + slots s → Away p k
  from zero p k hf hk h = from_lap p k (omega (arith, some_slots s W)) hk h
  from (suc f) p k hf hk h = go (from f (p - slots s) (k - slots s)) (dec_lt p (slots s))
    where
      go : (p - slots s ≤ f → p - slots s < k - slots s → k - slots s < p - slots s + slots s → Away (p - slots s) (k - slots s))
          → Dec (p < slots s) → Away p k
      go ih (yes l) = from_lap p k l hk h
      go ih (no l) =
          rw (lower p (omega arith), lower k (omega arith)) (ih (omega (arith, some_slots s W)) (omega arith) (omega arith))

  pub away : (p k : ℕ) → p < k → k < p + slots s → Away p k
  away p k = from p p k (omega arith)

  -- ---- where a slot lies

  -- a slot is apart from what every segment is apart from
  pub slot_apart : (a k p : ℕ) → ((j : ℕ) → j < s.entries → Apart (base s j) (16 * size s j) a k) → Apart (walk s p).place 16 a k
  unfolding at
  slot_apart a k p h =
      let o = on s W p in
      let i : o.off < size s o.seg = o.off< in
      rw o.is (⊎_elim (λ l. inl (omega arith)) (λ l. inr (omega arith)) (h o.seg o.seg<))

  pub slot_inside : (p : ℕ) → inside s.mem (walk s p).place 16 ≡ true
  unfolding at
  slot_inside p =
      let o = on s W p in
      let i : o.off < size s o.seg = o.off< in
      rw o.is (inside_part s.mem (base s o.seg) (16 * size s o.seg) (16 * o.off) 16 (good_at s W o.seg o.seg<).memory (omega arith))

  pub slot_aligned : (p : ℕ) → (walk s p).place % 16 ≡ 0
  unfolding at
  slot_aligned p = let o = on s W p in rw o.is (omega (arith, (good_at s W o.seg o.seg<).aligned))

  pub distinct : (p k : ℕ) → p < k → k < p + slots s → (walk s p).place ≢ (walk s k).place
  distinct p k h l e = ⊎_elim (λ a. omega arith) (λ a. omega arith) (away p k h l)

  -- at the set-up every slot of the first lap is zero, and so stale
  pub zero_slot : (p : ℕ) → p < slots s → cycle_of (trb_at s.mem (walk s p).place) ≡ not (walk s p).cycle
  unfolding at
  zero_slot p h =
      let l = lap s W p h in
      let i : l.off < size s l.seg = l.off< in
      rw l.is
      (zero_cycle s.mem (base s l.seg + 16 * l.off) (omega (arith, (good_at s W l.seg l.seg<).within.from))
      (λ x low high.
      let e : base s l.seg + (x - base s l.seg) ≡ x = omega arith in
      subst (λ (y : ℕ). byte s.mem y ≡ 0) e (W.zeros l.seg l.seg< (x - base s l.seg) (omega arith))))
