-- Sixteen bytes of memory read as numbers: how large they are, and whether the bytes are fresh. Assumes nothing.
use Rattle.std.proofs.Common.{◌≡◌, ℕ, zero, suc, ◌+◌, ◌%◌, ◌^◌, ◌<◌, ◌≤◌, Bool, true, false, eqb, List, refl, div-one, arith}
use mathlib.Core.Bool.{beq}
use Rattle.guest.specs.Bytes.{le}
use Rattle.guest.specs.Memory.{Memory, offset, trb_at}
use Rattle.guest.specs.Fields.{dword}
use Rattle.guest.proofs.Bytes.{Bytes, le_part, le_lt}
use Rattle.trb.specs.Trb.{bit, cycle_of}

module _ (m : Memory) (a : ℕ) (b : Bytes m.bytes) where
  pub four_below : (j : ℕ) → j + 4 ≤ 16 → le (trb_at m a) j 4 < 2 ^ 32
  four_below j h = rw (le_part 4 m.bytes (offset m a) 16 j h) (le_lt 4 m.bytes (offset m a + j) b)

-- a cycle bit beside a cycle, both as numbers
module _ (trb : List ℕ) where
  pub fresh_yes : (c : ℕ) → dword trb 3 % 2 ≡ c → beq (cycle_of trb) (eqb c 1) ≡ true
  fresh_yes c e = rw (div-one, e) (same (eqb c 1))
    where
      same : (b : Bool) → beq b b ≡ true
      same true = refl
      same false = refl

  pub fresh_no : (c : ℕ) → c < 2 → (dword trb 3 % 2 ≡ c → ⊥) → beq (cycle_of trb) (eqb c 1) ≡ false
  fresh_no c l n = rw div-one (differ (dword trb 3 % 2) c (omega arith) l n)
    where
      differ : (x y : ℕ) → x < 2 → y < 2 → (x ≡ y → ⊥) → beq (eqb x 1) (eqb y 1) ≡ false
      differ zero zero p q n = absurd (n refl)
      differ zero (suc zero) p q n = refl
      differ zero (suc (suc y)) p q n = absurd (omega arith)
      differ (suc zero) zero p q n = refl
      differ (suc zero) (suc zero) p q n = absurd (n refl)
      differ (suc zero) (suc (suc y)) p q n = absurd (omega arith)
      differ (suc (suc x)) y p q n = absurd (omega arith)

-- a flag's word
pub bit_one : (n : ℕ) → n < 2 → bit (eqb n 1) ≡ n
bit_one zero h = refl
bit_one (suc zero) h = refl
bit_one (suc (suc n)) h = absurd (omega arith)
