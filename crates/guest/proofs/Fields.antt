-- Laws of dwords and of the fields in them: bytes and dwords are one thing. Assumes nothing.
use Rattle.std.proofs.Common.{◌≡◌, ℕ, zero, suc, ◌+◌, ◌-◌, ◌*◌, ◌/◌, ◌%◌, ◌^◌, ◌<◌, ◌≤◌, List, [], ◌∷◌, ◌++◌, length, take, drop, sym, refl, ap, ◌∙◌, ap₂, append_assoc, append-nil, mod-eq_of_lt, mul_assoc, suc-add, pow-suc, zero-add, mul-suc, div-one, add-one, arith, length-drop, take-append-drop, take_all, drop-cons, pow-add, shr-shr}
use Rattle.std.proofs.lemmas.Simd.{chunk-drop}
use native.Mathlib.Nat.{mod-one, div-div-eq-div-mul, pow-succ', one-le-pow, add-mul-div_left, add-mul-mod_self_left, div-eq_of_lt}
use lib.Arith.{mod-mul}
use lib.Pow.{field as pow-field}
use Rattle.guest.specs.Bytes.{le}
use Rattle.guest.specs.Fields.{bits, dword, dwords_of, bytes_of, bytes_of_dwords, low_of, high_of, whole_of}
use Rattle.guest.specs.declared.Dwords.{Dwords}
use Rattle.guest.proofs.Bytes.{Bytes, le_add, le_lt}

-- ---- a number and its bytes

-- what stands after the first element
le_tail : (k x : ℕ) (xs : List ℕ) (a : ℕ) → le (x ∷ xs) (suc a) k ≡ le xs a k
unfolding le
le_tail zero x xs a = refl
le_tail (suc k) x xs a = rw (le, add-one, add-one, le_tail k x xs (suc a))

-- the number of the k bytes of n is n, cut to k bytes
le_bytes_of : (k n : ℕ) (ys : List ℕ) → le (bytes_of k n ++ ys) 0 k ≡ n % 256 ^ k
unfolding le bytes_of
le_bytes_of zero n ys = sym (mod-one n)
le_bytes_of (suc k) n ys =
    ap (λ (x : ℕ). n % 256 + 256 * x) (le_tail k (n % 256) (bytes_of k (n / 256) ++ ys) 0 ∙ le_bytes_of k (n / 256) ys)
    ∙ rw (pow-suc, mod-mul n {m = 256 ^ k} {c = 256} (one-le-pow k 256 (omega arith)) (omega arith)) (omega arith)

-- the bytes of the number that k bytes are are those bytes
bytes_of_le : (k : ℕ) (xs : List ℕ) (a : ℕ) → Bytes xs → a + k ≤ length xs → bytes_of k (le xs a k) ≡ take k (drop a xs)
unfolding le bytes_of
bytes_of_le zero xs a b h = refl
bytes_of_le (suc k) xs a b h =
    rw (drop-cons xs a 0 (omega arith))
    (ap₂ ◌∷◌ (omega (arith, b a))
    (ap (bytes_of k) (omega (arith, b a)) ∙ bytes_of_le k xs (a + 1) b (omega arith) ∙ ap (λ (i : ℕ). take k (drop i xs)) (add-one a)))

-- what stands after the k bytes of a number
le_skip : (k m n : ℕ) (ys : List ℕ) (a : ℕ) → le (bytes_of m n ++ ys) (m + a) k ≡ le ys a k
unfolding bytes_of
le_skip k zero n ys a = ap (λ (i : ℕ). le ys i k) (zero-add a)
le_skip k (suc m) n ys a = rw (suc-add, le_tail) (le_skip k m (n / 256) ys a)

-- a number of k bytes, written and read back
le_back : (k : ℕ) {n : ℕ} (ys : List ℕ) → n < 256 ^ k → le (bytes_of k n ++ ys) 0 k ≡ n
le_back k {n} ys h = le_bytes_of k n ys ∙ mod-eq_of_lt h

-- ---- four dwords and their sixteen bytes: each gives the other

pub record Sized (d : Dwords) : Type 0 where
  pub z0 : d.d0 < 2 ^ 32
  pub z1 : d.d1 < 2 ^ 32
  pub z2 : d.d2 < 2 ^ 32
  pub z3 : d.d3 < 2 ^ 32

pub split_sized : (b : List ℕ) → Bytes b → Sized (dwords_of b)
split_sized b h = record { z0 = le_lt 4 b 0 h; z1 = le_lt 4 b 4 h; z2 = le_lt 4 b 8 h; z3 = le_lt 4 b 12 h }

pub split_join : (d : Dwords) → Sized d → dwords_of (bytes_of_dwords d) ≡ d
split_join d z =
    let t3 = bytes_of 4 d.d3 in
    let t2 = bytes_of 4 d.d2 ++ t3 in
    let t1 = bytes_of 4 d.d1 ++ t2 in
    let e0 : le (bytes_of 4 d.d0 ++ t1) 0 4 ≡ d.d0 = le_back 4 t1 z.z0 in
    let e1 : le (bytes_of 4 d.d0 ++ t1) 4 4 ≡ d.d1 = le_skip 4 4 d.d0 t1 0 ∙ le_back 4 t2 z.z1 in
    let e2 : le (bytes_of 4 d.d0 ++ t1) 8 4 ≡ d.d2 =
    le_skip 4 4 d.d0 t1 4 ∙ le_skip 4 4 d.d1 t2 0 ∙ le_back 4 t3 z.z2 in
    let e3 : le (bytes_of 4 d.d0 ++ t1) 12 4 ≡ d.d3 =
    le_skip 4 4 d.d0 t1 8 ∙ le_skip 4 4 d.d1 t2 4 ∙ le_skip 4 4 d.d2 t3 0 ∙ rw (← append-nil t3) (le_back 4 [] z.z3) in
    rw (e0, e1, e2, e3)

pub join_split : (b : List ℕ) → Bytes b → length b ≡ 16 → bytes_of_dwords (dwords_of b) ≡ b
join_split b h n =
    rw (
      bytes_of_le 4 b 0 h (omega arith),
      bytes_of_le 4 b 4 h (omega arith),
      bytes_of_le 4 b 8 h (omega arith),
      bytes_of_le 4 b 12 h (omega arith),
      take_all 4 (drop 12 b) (rw length-drop (omega arith)),
      ← chunk-drop 8 4 b,
      ← chunk-drop 4 4 b,
      take-append-drop,
    )

-- ---- fields

pow256 : (i : ℕ) → 256 ^ i ≡ 2 ^ (8 * i)
pow256 zero = refl
pow256 (suc i) = rw (pow-suc 256 i, pow256 i, mul-suc 8 i, pow-add 2 (8 * i) 8)

-- what is above the i low bytes
above : (i k : ℕ) (xs : List ℕ) (a : ℕ) → Bytes xs → le xs a (i + k) / 2 ^ (8 * i) ≡ le xs (a + i) k
above i k xs a b =
    rw (← pow256 i, le_add i k xs a, add-mul-div_left (le xs a i) (le xs (a + i) k) (one-le-pow i 256 (omega arith)), div-eq_of_lt (le_lt i xs a b), zero-add)

-- bits below bit v of a number whose bits from v up are r
lowest : (x r v lo w : ℕ) → lo + w ≤ v → bits (x + 2 ^ v * r) lo w ≡ bits x lo w
lowest x r v lo w h =
    sym (pow-field (x + 2 ^ v * r) w lo)
    ∙ ap (λ (n : ℕ). n / 2 ^ lo) (ap (λ (n : ℕ). (x + n * r) % 2 ^ (w + lo)) (ap (λ (n : ℕ). 2 ^ n) (rest (w + lo) (omega arith)) ∙ pow-add 2 (w + lo) (v - (w + lo)))
    ∙ rw (mul_assoc, add-mul-mod_self_left))
    ∙ pow-field x w lo
  where
    rest : (j : ℕ) → j ≤ v → v ≡ j + (v - j)
    rest j h = omega arith

-- a field that lies in the k bytes from byte i up of a number is that field of their number
pub bytes_field : (i k m lo w : ℕ) (xs : List ℕ) (a : ℕ) → Bytes xs → lo + w ≤ 8 * k
    → bits (le xs a (i + (k + m))) (8 * i + lo) w ≡ bits (le xs (a + i) k) lo w
bytes_field i k m lo w xs a b h =
    rw (← shr-shr (le xs a (i + (k + m))) (8 * i) lo, above i (k + m) xs a b, le_add k m xs (a + i), pow256 k)
    (lowest (le xs (a + i) k) (le xs (a + i + k) m) (8 * k) lo w h)

-- the same in a dword of a TRB: a field that lies in the k bytes from byte `at` on, which stand in one dword
pub dword_field : (xs : List ℕ) (at k lo w : ℕ) → Bytes xs → at % 4 + k ≤ 4 → lo + w ≤ 8 * k
    → bits (le xs (4 * (at / 4)) 4) (8 * (at % 4) + lo) w ≡ bits (le xs at k) lo w
dword_field xs at k lo w b f h =
    let i = at % 4 in
    let m = 4 - (i + k) in
    let whole : 4 ≡ i + (k + m) = omega arith in
    let place : 4 * (at / 4) + i ≡ at = omega arith in
    ap (λ (n : ℕ). bits (le xs (4 * (at / 4)) n) (8 * i + lo) w) whole
    ∙ bytes_field i k m lo w xs (4 * (at / 4)) b h
    ∙ ap (λ (n : ℕ). bits (le xs n k) lo w) place

-- ---- a TRB as two numbers

-- each is two dwords
pub halves : (b : List ℕ) → (low_of b ≡ dword b 0 + 2 ^ 32 * dword b 1) × (high_of b ≡ dword b 2 + 2 ^ 32 * dword b 3)
halves b = (le_add 4 4 b 0, le_add 4 4 b 8)

-- the bytes of a number are those of its j low bytes and those of the rest
bytes_of_add : (j k n : ℕ) → bytes_of (j + k) n ≡ bytes_of j n ++ bytes_of k (n / 256 ^ j)
unfolding bytes_of
bytes_of_add zero k n = rw (zero-add, div-one)
bytes_of_add (suc j) k n = rw (suc-add, bytes_of, bytes_of_add j k (n / 256), div-div-eq-div-mul, pow-succ' 256 j)

pub whole_dwords : (low high : ℕ) → dwords_of (whole_of low high)
    ≡ record { d0 = low % 2 ^ 32; d1 = low / 2 ^ 32 % 2 ^ 32; d2 = high % 2 ^ 32; d3 = high / 2 ^ 32 % 2 ^ 32 }
whole_dwords low high =
    let t3 = bytes_of 4 (high / 2 ^ 32) in
    let t2 = bytes_of 4 high ++ t3 in
    let t1 = bytes_of 4 (low / 2 ^ 32) ++ t2 in
    let parts : whole_of low high ≡ bytes_of 4 low ++ t1 = rw (bytes_of_add 4 4 low, bytes_of_add 4 4 high, append_assoc) in
    let e1 : le (bytes_of 4 low ++ t1) 4 4 ≡ low / 2 ^ 32 % 2 ^ 32 = le_skip 4 4 low t1 0 ∙ le_bytes_of 4 (low / 2 ^ 32) t2 in
    let e2 : le (bytes_of 4 low ++ t1) 8 4 ≡ high % 2 ^ 32 = le_skip 4 4 low t1 4 ∙ le_skip 4 4 (low / 2 ^ 32) t2 0 ∙ le_bytes_of 4 high t3 in
    let e3 : le (bytes_of 4 low ++ t1) 12 4 ≡ high / 2 ^ 32 % 2 ^ 32 =
    le_skip 4 4 low t1 8 ∙ le_skip 4 4 (low / 2 ^ 32) t2 4 ∙ le_skip 4 4 high t3 0 ∙ rw (← append-nil t3) (le_bytes_of 4 (high / 2 ^ 32) []) in
    rw (parts, le_bytes_of 4 low t1, e1, e2, e3)

-- sixteen bytes are the bytes of their two numbers
pub whole_halves : (b : List ℕ) → Bytes b → length b ≡ 16 → whole_of (low_of b) (high_of b) ≡ b
whole_halves b h n =
    rw (
      bytes_of_le 8 b 0 h (omega arith),
      bytes_of_le 8 b 8 h (omega arith),
      take_all 8 (drop 8 b) (rw length-drop (omega arith)),
      take-append-drop,
    )
