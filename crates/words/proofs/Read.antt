-- What the decoder says of the bytes of two numbers, in the terms of the code: its refusals, and the words of the event. Assumes nothing.
use mathlib.Core.Path.{◌≡◌, refl, ap}
use mathlib.Core.Bool.{Bool, true, false, ◌&&◌, and-true, and_assoc}
use mathlib.Core.List.{List, [], ◌∷◌}
use Prim.Native.Nat.{ℕ, ◌+◌, ◌*◌, ◌/◌, ◌%◌, ◌^◌, ◌<◌}
use native.Mathlib.Nat.{div-one}
use native.Mathlib.Omega.{arith}
use lib.Dec.{eqb}
use Rattle.guest.specs.Judge.{judge}
use Rattle.guest.specs.Fields.{dword, whole_of}
use Rattle.guest.specs.declared.Dwords.{Dwords}
use Rattle.guest.proofs.Fields.{whole_dwords}
use Rattle.codes.specs.Codes.{code_of}
use Rattle.trb.specs.Trb.{type_of, pointer_of, unrecognized}
use Rattle.trb.specs.Events.{is_listed, transfer_as, command_completion_as, port_status_change_as}
use Rattle.trb.proofs.Raw.{flag_is}
use Rattle.words.specs.Lent.{put}
use Rattle.words.specs.Events.{put_variant, refusal_shown}
use Rattle.words.proofs.Listed.{listed_back}

module _ (low high : ℕ) where
  abbrev trb : List ℕ
  trb = whole_of low high

  abbrev d0 : ℕ
  d0 = low % 2 ^ 32

  abbrev d1 : ℕ
  d1 = low / 2 ^ 32 % 2 ^ 32

  abbrev d2 : ℕ
  d2 = high % 2 ^ 32

  abbrev d3 : ℕ
  d3 = high / 2 ^ 32 % 2 ^ 32

  at0 : dword trb 0 ≡ d0
  at0 = ap (λ (d : Dwords). d.d0) (whole_dwords low high)

  at1 : dword trb 1 ≡ d1
  at1 = ap (λ (d : Dwords). d.d1) (whole_dwords low high)

  at2 : dword trb 2 ≡ d2
  at2 = ap (λ (d : Dwords). d.d2) (whole_dwords low high)

  at3 : dword trb 3 ≡ d3
  at3 = ap (λ (d : Dwords). d.d3) (whole_dwords low high)

  pub type_is : type_of trb ≡ d3 / 0x400 % 0x40
  type_is = rw at3

  pointer : low < 2 ^ 64 → pointer_of trb ≡ low
  pointer h = rw (at0, at1) (omega arith)

  abbrev code : ℕ
  code = d2 / 0x100_0000 % 0x100

  -- ---- 32

  abbrev transfer_clear : Bool
  transfer_clear = eqb (d3 / 2 % 2) 0 && eqb (d3 / 8 % 0x80) 0

  pub transfer_12 : is_listed (code_of code) ≡ false → transfer_as trb ≡ unrecognized 12 0 trb
  unfolding judge
  transfer_12 h = rw (at2, h)

  pub transfer_11 : is_listed (code_of code) ≡ true → transfer_clear ≡ false → transfer_as trb ≡ unrecognized 11 0 trb
  unfolding judge
  transfer_11 h z = rw (at2, h, at3, and-true, z)

  pub transfer_put : is_listed (code_of code) ≡ true → transfer_clear ≡ true → low < 2 ^ 64 → (ws : List ℕ)
      → (0 ≡ refusal_shown (transfer_as trb))
      × (put (32 ∷ low ∷ (d2 % 0x100_0000 + code * 2 ^ 32 + d3 / 4 % 2 * 2 ^ 40 + d3 / 0x1_0000 % 0x100 * 2 ^ 48 + d3 / 0x100_0000 % 0x100 * 2 ^ 56) ∷ []) ws
      ≡ put_variant (transfer_as trb) ws)
  unfolding judge
  transfer_put h z l ws = rw (at2, h, at3, and-true, z) (refl, rw (pointer l, div-one, listed_back code h, flag_is (d3 / 4)))

  -- ---- 33

  abbrev command_clear : Bool
  command_clear = eqb (low % 0x10) 0 && eqb (d3 / 2 % 0x200) 0 && eqb (d3 / 0x1_0000 % 0x100) 0

  low_four : d0 / 1 % 0x10 ≡ low % 0x10
  low_four = omega arith

  pub command_12 : is_listed (code_of code) ≡ false → command_completion_as trb ≡ unrecognized 12 0 trb
  unfolding judge
  command_12 h = rw (at2, h)

  pub command_11 : is_listed (code_of code) ≡ true → command_clear ≡ false → command_completion_as trb ≡ unrecognized 11 0 trb
  unfolding judge
  command_11 h z = rw (at2, h, at0, low_four, at3, and-true, ← and_assoc, z)

  pub command_put : is_listed (code_of code) ≡ true → command_clear ≡ true → low < 2 ^ 64 → (ws : List ℕ)
      → (0 ≡ refusal_shown (command_completion_as trb))
      × (put (33 ∷ low ∷ (d2 % 0x100_0000 + code * 2 ^ 32 + d3 / 0x100_0000 % 0x100 * 2 ^ 40) ∷ []) ws ≡ put_variant (command_completion_as trb) ws)
  unfolding judge
  command_put h z l ws = let p = pointer l in rw (p, at2, h, at0, low_four, at3, and-true, ← and_assoc, z) (refl, rw (div-one, listed_back code h))

  -- ---- 34

  abbrev port_clear : Bool
  port_clear = eqb (d0 % 0x100_0000) 0 && eqb d1 0 && eqb (d2 % 0x100_0000) 0 && eqb (d3 / 2 % 0x200) 0 && eqb (d3 / 0x1_0000 % 0x1_0000) 0

  d1_whole : d1 / 1 % 2 ^ 32 ≡ d1
  d1_whole = omega arith

  pub port_12 : eqb code 1 ≡ false → port_status_change_as trb ≡ unrecognized 12 0 trb
  unfolding judge
  port_12 h = rw (at2, h)

  clear_is : eqb (d0 / 1 % 0x100_0000) 0 && (eqb (d1 / 1 % 2 ^ 32) 0 && (eqb (d2 / 1 % 0x100_0000) 0 && (eqb (d3 / 2 % 0x200) 0 && (eqb (d3 / 0x1_0000 % 0x1_0000) 0 && true)))) ≡ port_clear
  clear_is = rw d1_whole (simp (div-one, and-true, ← and_assoc))

  pub port_11 : eqb code 1 ≡ true → port_clear ≡ false → port_status_change_as trb ≡ unrecognized 11 0 trb
  unfolding judge
  port_11 h z = rw (at0, at1, at2, at3, h, clear_is, z)

  pub port_put : eqb code 1 ≡ true → port_clear ≡ true → (ws : List ℕ)
      → (0 ≡ refusal_shown (port_status_change_as trb))
      × (put ((34 + d0 / 0x100_0000 % 0x100 * 2 ^ 8) ∷ []) ws ≡ put_variant (port_status_change_as trb) ws)
  unfolding judge
  port_put h z ws = rw (at0, at1, at2, at3, h, clear_is, z) (refl, refl)
