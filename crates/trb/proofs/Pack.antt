-- A dword as its fields: laws over any list of widths, and the sums that the code computes. Assumes nothing.
use mathlib.Core.Path.{◌≡◌, refl, ap, ap₂, ◌∙◌}
use mathlib.Core.List.{List, [], ◌∷◌}
use Prim.{Unit}
use Prim.Native.Nat.{ℕ, ◌+◌, ◌*◌, ◌/◌, ◌^◌, ◌<◌}
use native.Mathlib.Nat.{add_comm, add-mul-mod_self_right, add-mul-div_right, mod-eq_of_lt, div-eq_of_lt, zero-add, div-one, mod-add-div'}
use native.Mathlib.Omega.{arith}
use lib.Arith.{digits_lt}
use lib.Pow.{pow-add, shr-shr, shr_lt, pow_pos}
use Rattle.guest.specs.Fields.{bits}
use Rattle.trb.specs.Events.{pack, in_code, in_transfer, in_command_completion, in_port_status_change}

-- the fields of n, from bit lo up
abbrev pub cut : List ℕ → ℕ → ℕ → List ℕ
cut [] lo n = []
cut (w ∷ ws) lo n = bits n lo w ∷ cut ws (lo + w) n

abbrev pub total : List ℕ → ℕ
total [] = 0
total (w ∷ ws) = total ws + w

-- as many values as widths, each of its width
abbrev pub Fit : List ℕ → List ℕ → Type 0
Fit [] [] = Unit
Fit [] (v ∷ vs) = ⊥
Fit (w ∷ ws) [] = ⊥
Fit (w ∷ ws) (v ∷ vs) = (v < 2 ^ w) × Fit ws vs

pack_cut : (ws : List ℕ) (lo n : ℕ) → n / 2 ^ lo < 2 ^ total ws → pack ws (cut ws lo n) ≡ n / 2 ^ lo
pack_cut [] lo n h = omega arith
pack_cut (w ∷ ws) lo n h =
    rw (pack_cut ws (lo + w) n (rw (← shr-shr n lo w) (shr_lt (total ws) w h)), ← shr-shr n lo w)
    (mod-add-div' (n / 2 ^ lo) (2 ^ w))

cut_pack : (ws vs : List ℕ) (lo n : ℕ) → Fit ws vs → n / 2 ^ lo ≡ pack ws vs → cut ws lo n ≡ vs
cut_pack [] [] lo n f e = refl
cut_pack [] (v ∷ vs) lo n f e = absurd f
cut_pack (w ∷ ws) [] lo n f e = absurd f
cut_pack (w ∷ ws) (v ∷ vs) lo n f e =
    ap₂ ◌∷◌
    (rw (e, add-mul-mod_self_right, mod-eq_of_lt f.0))
    (cut_pack ws vs (lo + w) n f.1
    (rw (← shr-shr n lo w, e, add-mul-div_right v (pack ws vs) (pow_pos w), div-eq_of_lt f.0, zero-add)))

-- the fields of a number, packed, are the number; and the fields of packed values are the values
pub whole : (ws vs : List ℕ) (n : ℕ) → n < 2 ^ total ws → vs ≡ cut ws 0 n → pack ws vs ≡ n
whole ws vs n h e = ap (pack ws) e ∙ pack_cut ws 0 n (rw (div-one n) h) ∙ div-one n

fields : (ws vs : List ℕ) → Fit ws vs → cut ws 0 (pack ws vs) ≡ vs
fields ws vs f = cut_pack ws vs 0 (pack ws vs) f (div-one (pack ws vs))

pack_lt : (ws vs : List ℕ) → Fit ws vs → pack ws vs < 2 ^ total ws
pack_lt [] [] f = omega arith
pack_lt [] (v ∷ vs) f = absurd f
pack_lt (w ∷ ws) [] f = absurd f
pack_lt (w ∷ ws) (v ∷ vs) f = rw (add_comm v, pow-add 2 (total ws) w) (digits_lt (pack_lt ws vs f.1) f.0)

pub record Packed (ws vs : List ℕ) : Type 0 where
  pub small : pack ws vs < 2 ^ total ws
  pub read : cut ws 0 (pack ws vs) ≡ vs

pub packed : (ws vs : List ℕ) → Fit ws vs → Packed ws vs
packed ws vs f = record { small = pack_lt ws vs f; read = fields ws vs f }

-- ---- the code's sums

pub flat_code : (v k : ℕ) → v + k * 0x100_0000 ≡ pack in_code (v ∷ k ∷ [])
flat_code v k = omega arith

pub flat_top : (k : ℕ) → k * 0x100_0000 ≡ pack in_code (0 ∷ k ∷ [])
flat_top k = omega arith

pub flat_transfer : (c e p s : ℕ) → c + e * 4 + 0x8000 + p * 0x1_0000 + s * 0x100_0000 ≡ pack in_transfer (c ∷ 0 ∷ e ∷ 0 ∷ 32 ∷ p ∷ s ∷ [])
flat_transfer c e p s = omega arith

pub flat_command_completion : (c s : ℕ) → c + 0x8400 + s * 0x100_0000 ≡ pack in_command_completion (c ∷ 0 ∷ 33 ∷ 0 ∷ s ∷ [])
flat_command_completion c s = omega arith

pub flat_port_status_change : (c : ℕ) → c + 0x8800 ≡ pack in_port_status_change (c ∷ 0 ∷ 34 ∷ 0 ∷ [])
flat_port_status_change c = omega arith
