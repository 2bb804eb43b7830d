-- Laws of guest memory: what is inside a window, and what is read there and after a write. Assumes nothing.
use Rattle.std.proofs.Common.{◌≡◌, ℕ, suc, ◌+◌, ◌-◌, ◌*◌, ◌^◌, ◌<◌, ◌≤◌, Bool, true, false, ◌&&◌, ltb, leb, ◌⊎◌, List, length, get_or, sym, refl, ap, ◌∙◌, inl, inr, arith, ltb-false, ltb-true, le-leb, leb-false, leb-true}
use Rattle.guest.specs.Bytes as bytes
use Rattle.guest.specs.Memory.{Memory, offset, byte, inside, le, part, write}
use Rattle.guest.proofs.Tests.{both}
use Rattle.guest.proofs.Bytes as bytes_laws

-- ---- inside: the three facts, and each of them alone refuses

module _ (m : Memory) (a k : ℕ) where
  pub record Within : Type 0 where
    pub from : m.start ≤ a
    pub below : a + k ≤ 2 ^ 64
    pub fits : offset m a + k ≤ length m.bytes

  pub inside_within : inside m a k ≡ true → Within
  unfolding inside
  inside_within h =
      let p = both (leb m.start a && leb (a + k) (2 ^ 64)) _ h in
      let q = both (leb m.start a) _ p.0 in
      record {
        from = leb-true m.start a q.0;
        below = leb-true (a + k) (2 ^ 64) q.1;
        fits = leb-true (offset m a + k) (length m.bytes) p.1;
      }

  pub within_inside : Within → inside m a k ≡ true
  unfolding inside
  within_inside w = rw (le-leb m.start a w.from, le-leb (a + k) (2 ^ 64) w.below, le-leb (offset m a + k) (length m.bytes) w.fits)

  pub inside_no : (Within → ⊥) → inside m a k ≡ false
  inside_no n = go (inside m a k) refl
    where
      go : (b : Bool) → inside m a k ≡ b → inside m a k ≡ false
      go true e = absurd (n (inside_within e))
      go false e = e

  -- a test that decides it; none of no bytes, and the last of some, where start and 2 ^ 64 allow them
  inside_by : (b : Bool) → (b ≡ true → Within) → (b ≡ false → Within → ⊥) → b ≡ inside m a k
  inside_by true f g = sym (within_inside (f refl))
  inside_by false f g = sym (inside_no (g refl))

  pub inside_none : k ≡ 0 → m.start ≤ a → a < 2 ^ 64 → leb (offset m a) (length m.bytes) ≡ inside m a k
  inside_none z f u =
      inside_by (leb (offset m a) (length m.bytes))
      (λ t. record { from = f; below = omega (arith, z, u); fits = omega (arith, z, leb-true (offset m a) (length m.bytes) t) })
      (λ t w. omega (arith, leb-false (offset m a) (length m.bytes) t, w.fits))

  pub inside_last : 1 ≤ k → m.start ≤ a → a + k ≤ 2 ^ 64 → ltb (offset m a + (k - 1)) (length m.bytes) ≡ inside m a k
  inside_last o f u =
      inside_by (ltb (offset m a + (k - 1)) (length m.bytes))
      (λ t. record { from = f; below = u; fits = omega (arith, o, ltb-true (offset m a + (k - 1)) (length m.bytes) t) })
      (λ t w. omega (arith, o, ltb-false (offset m a + (k - 1)) (length m.bytes) t, w.fits))

-- a part of what is inside
pub inside_part : (m : Memory) (a k i l : ℕ) → inside m a k ≡ true → i + l ≤ k → inside m (a + i) l ≡ true
inside_part m a k i l h n =
    let w = inside_within m a k h in
    within_inside m (a + i) l
    (record { from = omega (arith, w.from); below = omega (arith, w.below); fits = omega (arith, w.from, w.fits) })

-- and so are fewer bytes
pub inside_less : (m : Memory) (a k l : ℕ) → inside m a k ≡ true → l ≤ k → inside m a l ≡ true
inside_less m a k l h n =
    let w = inside_within m a k h in
    within_inside m a l (record { from = w.from; below = omega (arith, w.below); fits = omega (arith, w.fits) })

-- ---- what is read of a part

-- a number's first byte, and the number of the others
pub le_next : (m : Memory) (a k : ℕ) → m.start ≤ a → le m a (suc k) ≡ byte m a + 256 * le m (a + 1) k
unfolding bytes.le
le_next m a k f = ap (λ (x : ℕ). byte m a + 256 * bytes.le m.bytes x k) (omega arith)

module _ (m : Memory) (a i : ℕ) (from : m.start ≤ a) where
  -- so far on from a
  pub offset_add : offset m (a + i) ≡ offset m a + i
  offset_add = omega arith

  pub part_byte : (n : ℕ) → i < n → get_or (part m a n) i 0 ≡ byte m (a + i)
  part_byte n h = bytes_laws.part_byte m.bytes (offset m a) n i h ∙ ap (λ (x : ℕ). get_or m.bytes x 0) (sym offset_add)

  pub le_part : (k n : ℕ) → i + k ≤ n → bytes.le (part m a n) i k ≡ le m (a + i) k
  le_part k n h = bytes_laws.le_part k m.bytes (offset m a) n i h ∙ ap (λ (x : ℕ). bytes.le m.bytes x k) (sym offset_add)

-- ---- a write where it fits keeps the memory's length and every other byte, and is read back

module _ (m : Memory) (a : ℕ) (v : List ℕ) (w : Within m a (length v)) where
  pub write_length : length (write m a v).bytes ≡ length m.bytes
  write_length = bytes_laws.write_length m.bytes (offset m a) v w.fits

  pub write_there : part (write m a v) a (length v) ≡ v
  write_there = bytes_laws.write_there m.bytes (offset m a) v w.fits

  pub write_elsewhere : (i : ℕ) → m.start ≤ i → (i < a) ⊎ (a + length v ≤ i) → byte (write m a v) i ≡ byte m i
  write_elsewhere i f (inl h) = bytes_laws.write_elsewhere m.bytes (offset m a) v w.fits (offset m i) (inl (omega (arith, w.from)))
  write_elsewhere i f (inr h) = bytes_laws.write_elsewhere m.bytes (offset m a) v w.fits (offset m i) (inr (omega (arith, w.from)))
