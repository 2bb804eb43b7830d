-- Bytes of a TRB, and flags, as fields of its dwords. Assumes nothing.
use mathlib.Core.Path.{◌≡◌, refl, ap, ◌∙◌}
use Prim.Native.Nat.{ℕ, zero, suc, ◌+◌, ◌*◌, ◌/◌, ◌%◌, ◌<◌, ◌≤◌}
use mathlib.Core.List.{List}
use native.Mathlib.Nat.{add-zero}
use native.Mathlib.Omega.{arith}
use lib.Dec.{eqb}
use lib.ListN.{get_or}
use mir.Syntax.{w8}
use mir.Val.{Fits}
use Rattle.guest.specs.Bytes.{le}
use Rattle.guest.specs.Fields.{bits, dword}
use Rattle.guest.proofs.Bytes.{le_lt}
use Rattle.guest.proofs.Fields.{dword_field}
use Rattle.trb.specs.Trb.{bit}

-- sixteen bytes as code holds them
abbrev pub Raw : List ℕ → Type 0
Raw raw = (i : ℕ) → Fits w8 (get_or raw i 0)

-- a field inside byte `at` is that field of its dword
pub byte_field : (raw : List ℕ) → Raw raw → (at lo w : ℕ) → lo + w ≤ 8
    → bits (dword raw (at / 4)) (8 * (at % 4) + lo) w ≡ bits (get_or raw at 0) lo w
unfolding le
byte_field raw b at lo w h =
    dword_field raw at 1 lo w (λ i. (b i).fits) (omega arith) (omega arith) ∙ ap (λ (n : ℕ). bits n lo w) (add-zero (get_or raw at 0))

-- and the number of two bytes in one dword is a field of it
pub two_field : (raw : List ℕ) → Raw raw → (at : ℕ) → at % 4 ≤ 2 → bits (dword raw (at / 4)) (8 * (at % 4)) 16 ≡ le raw at 2
two_field raw b at h =
    rw (← add-zero (8 * (at % 4)))
    (dword_field raw at 2 0 16 (λ i. (b i).fits) (omega arith) (omega arith) ∙ omega (arith, le_lt 2 raw at (λ i. (b i).fits)))

-- a flag as a number is the field of one bit
pub flag_is : (n : ℕ) → bit (eqb (n % 2) 1) ≡ n % 2
flag_is n = by (n % 2) (omega arith)
  where
    by : (b : ℕ) → b < 2 → bit (eqb b 1) ≡ b
    by zero h = refl
    by (suc zero) h = refl
    by (suc (suc b)) h = absurd (omega arith)
