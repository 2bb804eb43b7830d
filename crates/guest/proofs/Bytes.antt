-- Laws of bytes in a list, each once, over the width. Assumes nothing.
use Rattle.std.proofs.Common.{◌≡◌, ℕ, zero, suc, ◌+◌, ◌-◌, ◌*◌, ◌^◌, ◌<◌, ◌≤◌, ◌⊎◌, List, [], ◌∷◌, ◌++◌, length, get_or, slice_index, take, drop, set, sym, refl, ap, ◌∙◌, ap₂, inl, inr, append_assoc, append-nil, add-zero, add_assoc, mul_assoc, suc-add, one-mul, zero-add, mul-add, one-add, arith, length-drop, length-take-le, get_or-drop, get_or-set_other, get_or-take, drop-drop, take_at, drop_at}
use Rattle.std.specs.Int.{w16, w32, w64, from_le_bytes}
use native.Mathlib.Nat.{add-sub_cancel_left, pow-zero, pow-succ'}
use lib.Seq.{take-length, drop-length, sets, sets-eq, length-sets}
use Rattle.guest.specs.Bytes.{le, part, write}

-- ---- numbers

-- each element is a byte
abbrev pub Bytes : List ℕ → Type 0
Bytes m = (i : ℕ) → get_or m i 0 < 256

-- a number of j + k bytes is its j low bytes, and its k high bytes times 256 ^ j
pub le_add : (j k : ℕ) (m : List ℕ) (a : ℕ) → le m a (j + k) ≡ le m a j + 256 ^ j * le m (a + j) k
unfolding le
le_add zero k m a = simp (zero-add, add-zero, pow-zero, one-mul)
le_add (suc j) k m a =
    rw (suc-add, le, le_add j k m (a + 1), add_assoc a 1 j, one-add, pow-succ', mul_assoc, mul-add) (omega arith)

-- a number of k bytes is below 256 ^ k
pub le_lt : (k : ℕ) (m : List ℕ) (a : ℕ) → Bytes m → le m a k < 256 ^ k
unfolding le
le_lt zero m a b = rw pow-zero (omega arith)
le_lt (suc k) m a b = rw pow-succ' (omega (arith, b a, le_lt k m (a + 1) b))

-- ---- parts

-- a copy of as many elements as there is room for
copied : (s d : List ℕ) → length d ≡ length s → take (length s) s ++ drop (length s) d ≡ s
copied s d e = rw (take-length, ← e, drop-length, append-nil)

-- what a copy of the part of m from a to a + k, and a copy into that part, leave
module _ (k a : ℕ) (m : List ℕ) (fits : a + k ≤ length m) where
  abbrev span : List ℕ
  span = take (a + k - a) (drop a m)

  span_length : length span ≡ k
  span_length = rw (add-sub_cancel_left a k, length-take-le k (drop a m) (rw length-drop (omega arith)))

  pub loaded : (d : List ℕ) → length d ≡ k → take (length span) span ++ drop (length span) d ≡ part m a k
  unfolding part
  loaded d e = copied span d (e ∙ sym span_length) ∙ ap (λ (n : ℕ). take n (drop a m)) (add-sub_cancel_left a k)

  pub stored : (v : List ℕ) → length v ≡ k
      → take a m ++ ((take (length v) v ++ drop (length v) span) ++ drop (a + k - a) (drop a m)) ≡ write m a v
  unfolding write
  stored v e = rw (copied v span (span_length ∙ sym e), add-sub_cancel_left a k, drop-drop, e)

  -- and a copy of all of v into that part
  pub filled : (v : List ℕ) → length v ≡ k → take a m ++ (v ++ drop (a + k - a) (drop a m)) ≡ write m a v
  unfolding write
  filled v e = rw (add-sub_cancel_left a k, drop-drop, e)

  pub part_length : length (part m a k) ≡ k
  unfolding part
  part_length = length-take-le k (drop a m) (rw length-drop (omega arith))

-- ---- what is read of a part, and after a write

pub part_byte : (m : List ℕ) (a n i : ℕ) → i < n → get_or (part m a n) i 0 ≡ get_or m (a + i) 0
unfolding part
part_byte m a n i h = rw (get_or-take n (drop a m) i 0, get_or-drop)

pub le_part : (k : ℕ) (m : List ℕ) (a n i : ℕ) → i + k ≤ n → le (part m a n) i k ≡ le m (a + i) k
unfolding le
le_part zero m a n i h = refl
le_part (suc k) m a n i h =
    ap₂ (λ (x y : ℕ). x + 256 * y) (part_byte m a n i (omega arith))
    (le_part k m a n (i + 1) (omega arith) ∙ ap (λ (x : ℕ). le m x k) (sym (add_assoc a i 1)))

-- the library's numbers of two, four and eight bytes are those that `le` adds up
two_sum : (l : List ℕ) → from_le_bytes w16 l ≡ le l 0 2
unfolding le
two_sum l =
    let sum : from_le_bytes w16 l ≡ slice_index l 0 + slice_index l 1 * 256 ^ 1 = refl in
    sum ∙ omega arith

four_sum : (l : List ℕ) → from_le_bytes w32 l ≡ le l 0 4
unfolding le
four_sum l =
    let sum : from_le_bytes w32 l ≡ slice_index l 0 + slice_index l 1 * 256 ^ 1 + slice_index l 2 * 256 ^ 2 + slice_index l 3 * 256 ^ 3 = refl in
    sum ∙ omega arith

eight_sum : (l : List ℕ) → from_le_bytes w64 l ≡ le l 0 8
unfolding le
eight_sum l =
    let sum : from_le_bytes w64 l ≡ slice_index l 0 + slice_index l 1 * 256 ^ 1 + slice_index l 2 * 256 ^ 2 + slice_index l 3 * 256 ^ 3 + slice_index l 4 * 256 ^ 4 + slice_index l 5 * 256 ^ 5 + slice_index l 6 * 256 ^ 6 + slice_index l 7 * 256 ^ 7 = refl in
    sum ∙ omega arith

module _ (m : List ℕ) (a : ℕ) where
  there : (k : ℕ) → le (part m a k) 0 k ≡ le m a k
  there k = le_part k m a k 0 (omega arith) ∙ ap (λ (i : ℕ). le m i k) (add-zero a)

  pub le_two : from_le_bytes w16 (part m a 2) ≡ le m a 2
  le_two = two_sum (part m a 2) ∙ there 2

  pub le_four : from_le_bytes w32 (part m a 4) ≡ le m a 4
  le_four = four_sum (part m a 4) ∙ there 4

  pub le_eight : from_le_bytes w64 (part m a 8) ≡ le m a 8
  le_eight = eight_sum (part m a 8) ∙ there 8

-- a write where it fits keeps the memory's length and every other byte, and is read back
module _ (m : List ℕ) (a : ℕ) (v : List ℕ) (fits : a + length v ≤ length m) where
  as_sets : write m a v ≡ sets m a v
  unfolding write
  as_sets = sym (sets-eq v m a fits ∙ append_assoc (take a m) v (drop (a + length v) m))

  pub write_length : length (write m a v) ≡ length m
  write_length = ap length as_sets ∙ length-sets m a v

  pub write_there : part (write m a v) a (length v) ≡ v
  unfolding write part
  write_there =
      ap (take (length v)) (drop_at (take a m) (v ++ drop (a + length v) m) a (length-take-le a m (omega arith)))
      ∙ take_at v (drop (a + length v) m) (length v) refl

  pub write_elsewhere : (i : ℕ) → (i < a) ⊎ (a + length v ≤ i) → get_or (write m a v) i 0 ≡ get_or m i 0
  write_elsewhere i h = ap (λ (l : List ℕ). get_or l i 0) as_sets ∙ other v m a i h
    where
      other : (v : List ℕ) (m : List ℕ) (a i : ℕ) → (i < a) ⊎ (a + length v ≤ i) → get_or (sets m a v) i 0 ≡ get_or m i 0
      other [] m a i h = refl
      other (b ∷ v) m a i (inl h) = other v (set m a b) (suc a) i (inl (omega arith)) ∙ get_or-set_other m a i b 0 (omega arith)
      other (b ∷ v) m a i (inr h) = other v (set m a b) (suc a) i (inr (omega arith)) ∙ get_or-set_other m a i b 0 (omega arith)
