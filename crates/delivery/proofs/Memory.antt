-- The memory: what a write leaves as it was, and what is read back. Assumes nothing.
use Prim.Native.Nat.{ℕ, zero, suc, ◌+◌, ◌*◌, ◌≤◌, ◌<◌}
use mathlib.Core.Path.{◌≡◌, refl, sym, ◌∙◌, ap, ap₂}
use mathlib.Core.Logic.{inl, inr}
use mathlib.Core.Bool.{false}
use mathlib.Core.List.{List}
use native.Mathlib.Omega.{arith}
use lib.ListN.{length}
use lib.Seq.{ext_get_or}
use Rattle.guest.specs.Bytes as bytes
use Rattle.guest.specs.Memory.{Memory, offset, byte, le, part, trb_at, write}
use Rattle.guest.proofs.Bytes.{part_length}
use Rattle.guest.proofs.Memory.{Within, le_next, part_byte, le_part, write_there, write_elsewhere}
use Rattle.trb.specs.Trb.{cycle_of}
use Rattle.event_ring.specs.Ring.{entry_at}
use Rattle.delivery.specs.Demand3.{Apart}

-- the k bytes from a are the same in both memories
abbrev pub Same : Memory → Memory → ℕ → ℕ → Type 0
Same m m' a k = (x : ℕ) → a ≤ x → x < a + k → byte m' x ≡ byte m x

-- a write leaves what is apart from it
pub write_same : (m : Memory) (i : ℕ) (v : List ℕ) → Within m i (length v) → (a k : ℕ) → m.start ≤ a → Apart i (length v) a k
    → Same m (write m i v) a k
write_same m i v f a k o (inl h) x l u = write_elsewhere m i v f x (omega arith) (inr (omega arith))
write_same m i v f a k o (inr h) x l u = write_elsewhere m i v f x (omega arith) (inl (omega arith))

-- what is read of two windows that begin at one place
module _ (m m' : Memory) (e : m'.start ≡ m.start) where
  pub le_same : (k a : ℕ) → m.start ≤ a → Same m m' a k → le m' a k ≡ le m a k
  unfolding bytes.le
  le_same zero a f same = refl
  le_same (suc k) a f same =
      le_next m' a k (omega (arith, e))
      ∙ ap₂ (λ (x y : ℕ). x + 256 * y) (same a (omega arith) (omega arith))
      (le_same k (a + 1) (omega arith) (λ x l u. same x (omega arith) (omega arith)))
      ∙ sym (le_next m a k f)

  pub entry_same : (a : ℕ) → m.start ≤ a → Same m m' a 16 → entry_at m' a ≡ entry_at m a
  unfolding entry_at
  entry_same a f same =
      ap₂ (λ (b s : ℕ). record { base = b; size = s })
      (le_same 8 a f (λ x l u. same x l (omega arith)))
      (le_same 4 (a + 8) (omega arith) (λ x l u. same x (omega arith) (omega arith)))

  pub trb_same : (a : ℕ) → Within m a 16 → length m'.bytes ≡ length m.bytes → Same m m' a 16 → trb_at m' a ≡ trb_at m a
  trb_same a f long same =
      let n = part_length 16 (offset m a) m.bytes f.fits in
      let n' = part_length 16 (offset m' a) m'.bytes (omega (arith, e, long, f.fits)) in
      ext_get_or 0 _ _ (n' ∙ sym n)
      (λ i h.
      let u : i < 16 = omega (arith, n') in
      part_byte m' a i (omega (arith, e, f.from)) 16 u ∙ same (a + i) (omega arith) (omega arith) ∙ sym (part_byte m a i f.from 16 u))

-- what was put is read back
pub trb_put : (m : Memory) (v : List ℕ) (a : ℕ) → length v ≡ 16 → Within m a (length v) → trb_at (write m a v) a ≡ v
trb_put m v a e w = ap (part (write m a v) a) (sym e) ∙ write_there m a v w

-- zeros are stale to the first pass
pub le_zeros : (k : ℕ) (m : Memory) (a : ℕ) → m.start ≤ a → ((x : ℕ) → a ≤ x → x < a + k → byte m x ≡ 0) → le m a k ≡ 0
unfolding bytes.le
le_zeros zero m a f z = refl
le_zeros (suc k) m a f z =
    rw (le_next m a k f, z a (omega arith) (omega arith), le_zeros k m (a + 1) (omega arith) (λ x l u. z x (omega arith) (omega arith)))

pub zero_cycle : (m : Memory) (a : ℕ) → m.start ≤ a → ((x : ℕ) → a ≤ x → x < a + 16 → byte m x ≡ 0) → cycle_of (trb_at m a) ≡ false
zero_cycle m a f z =
    rw (le_part m a 12 f 4 16 (omega arith), le_zeros 4 m (a + 12) (omega arith) (λ x l u. z x (omega arith) (omega arith)))
