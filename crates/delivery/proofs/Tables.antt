-- No segment lies on the table: where one did, an entry of the table would be zero, and so of size 0. Assumes nothing.
use Prim.Native.Nat.{ℕ, ◌+◌, ◌*◌, ◌-◌, ◌/◌, ◌≤◌, ◌<◌}
use mathlib.Core.Path.{◌≡◌, subst}
use mathlib.Core.Logic.{inl, inr}
use native.Mathlib.Decide.{dec_le}
use native.Mathlib.Omega.{arith}
use Rattle.guest.specs.Memory.{byte, le}
use Rattle.event_ring.specs.Ring.{entry_at}
use Rattle.delivery.specs.Demand3.{Setup, base, size, Apart, Premises}
use Rattle.delivery.proofs.Memory.{le_zeros}
use Rattle.delivery.proofs.Walk.{good_at}

module _ (s : Setup) (W : Premises s) where
  zero_at : (j : ℕ) → j < s.entries → (x : ℕ) → base s j ≤ x → x < base s j + 16 * size s j → byte s.mem x ≡ 0
  zero_at j h x l u =
      let e : base s j + (x - base s j) ≡ x = omega arith in
      subst (λ (y : ℕ). byte s.mem y ≡ 0) e (W.zeros j h (x - base s j) (omega arith))

  -- an entry that stands in a segment has size 0
  never : (j k : ℕ) → j < s.entries → k < s.entries → base s j ≤ s.table + 16 * k → s.table + 16 * k + 16 ≤ base s j + 16 * size s j → ⊥
  unfolding entry_at
  never j k h g l u =
      let a = s.table + 16 * k + 8 in
      let z : le s.mem a 4 ≡ 0 =
      le_zeros 4 s.mem a (omega (arith, (good_at s W j h).within.from)) (λ x low high. zero_at j h x (omega arith) (omega arith)) in
      omega (arith, z, (good_at s W k g).some)

  pub tables : (j : ℕ) → j < s.entries → Apart (base s j) (16 * size s j) s.table (16 * s.entries)
  tables j h = go (dec_le (base s j + 16 * size s j) s.table) (dec_le (s.table + 16 * s.entries) (base s j)) (dec_le (base s j) s.table)
    where
      go : Dec (base s j + 16 * size s j ≤ s.table) → Dec (s.table + 16 * s.entries ≤ base s j) → Dec (base s j ≤ s.table)
          → Apart (base s j) (16 * size s j) s.table (16 * s.entries)
      go (yes p) q r = inl p
      go (no p) (yes q) r = inr q
      go (no p) (no q) (yes r) = absurd (never j 0 h (omega arith) (omega arith) (omega (arith, p, r, W.aligned, (good_at s W j h).aligned)))
      go (no p) (no q) (no r) =
          absurd (never j ((base s j - s.table) / 16) h (omega (arith, q, r, W.aligned, (good_at s W j h).aligned)) (omega (arith, r, W.aligned, (good_at s W j h).aligned)) (omega (arith, r, W.aligned, (good_at s W j h).aligned, (good_at s W j h).some)))
