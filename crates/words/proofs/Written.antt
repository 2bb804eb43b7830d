-- The two numbers of an event's TRB, from its dwords; then for each event as the words give it. Assumes nothing.
use mathlib.Core.Path.{◌≡◌, refl, sym, ap, ap₂, ◌∙◌}
use mathlib.Core.Bool.{Bool, true, false}
use mathlib.Core.List.{List, [], ◌∷◌}
use Prim.Native.Nat.{ℕ, ◌+◌, ◌*◌, ◌/◌, ◌%◌, ◌^◌, ◌<◌, ◌≤◌}
use native.Mathlib.Nat.{div-one}
use native.Mathlib.Omega.{arith}
use borrow.Author.Tests.{lt-ltb, le-ltb, eq-eqb, ne_eqb}
use lib.Dec.{eqb}
use lib.ListN.{get_or}
use Rattle.guest.specs.Judge.{judge}
use Rattle.guest.specs.Refusals.{by_number}
use Rattle.guest.specs.Fields.{bits, bytes_of_dwords}
use Rattle.guest.specs.declared.Dwords.{Dwords}
use Rattle.guest.proofs.Fields.{split_join, halves}
use Rattle.codes.specs.Codes.{number_of}
use Rattle.codes.specs.declared.CompletionCode.{CompletionCode}
use Rattle.std.specs.Prelude.{Some, None}
use Rattle.trb.specs.Events.{Typed, valid, pack, in_code, in_transfer, in_command_completion, in_port_status_change, event_dwords, bytes_answered}
use Rattle.trb.specs.declared.event.EventTrb.{EventTrb}
use Rattle.std.specs.Prelude.{Ok}
use Rattle.trb.proofs.Raw.{flag_is}
use Rattle.trb.proofs.OneEncoding.{dwords_sized}
use Rattle.words.specs.Events.{field_of, coded, code_in, transfer_in, command_completion_in, port_status_change_in, bytes_from, written}
use Rattle.words.specs.declared.event.CTrb.{CTrb}

abbrev joined : Dwords → CTrb
joined d = record { low = d.d0 + 2 ^ 32 * d.d1; high = d.d2 + 2 ^ 32 * d.d3 }

pub written_yes : (e : EventTrb) (c : Bool) → Typed e → valid e ≡ true → written (bytes_answered e c) ≡ joined (event_dwords e c)
unfolding bytes_answered judge
written_yes e c y v =
    let d = event_dwords e c in
    let b = bytes_of_dwords d in
    let h = halves b in
    rw (v, h.0, h.1) (ap joined (split_join d (dwords_sized e c y v)))

pub written_no : (e : EventTrb) (c : Bool) → valid e ≡ false → written (bytes_answered e c) ≡ record { low = 0; high = 8 }
unfolding bytes_answered judge by_number
written_no e c v = rw v

-- ---- the sums that the code makes, over any numbers

pointer : (p : ℕ) → p < 2 ^ 64 → bits p 0 32 + 2 ^ 32 * bits p 32 32 ≡ p
pointer p h = omega arith

transfer_sum : (n k c e p s : ℕ) → pack in_code (n ∷ k ∷ []) + 2 ^ 32 * pack in_transfer (c ∷ 0 ∷ e ∷ 0 ∷ 32 ∷ p ∷ s ∷ [])
    ≡ n + k * 2 ^ 24 + (c + e * 4 + 0x8000 + p * 2 ^ 16 + s * 2 ^ 24) * 2 ^ 32
transfer_sum n k c e p s = omega arith

command_sum : (n k c s : ℕ) → pack in_code (n ∷ k ∷ []) + 2 ^ 32 * pack in_command_completion (c ∷ 0 ∷ 33 ∷ 0 ∷ s ∷ [])
    ≡ n + k * 2 ^ 24 + (c + 0x8400 + s * 2 ^ 24) * 2 ^ 32
command_sum n k c s = omega arith

port_sum : (c : ℕ) → pack in_code (0 ∷ 1 ∷ []) + 2 ^ 32 * pack in_port_status_change (c ∷ 0 ∷ 34 ∷ 0 ∷ [])
    ≡ 0x100_0000 + (c + 0x8800) * 2 ^ 32
port_sum c = omega arith

abbrev trb : ℕ → ℕ → CTrb
trb l h = record { low = l; high = h }

-- ---- each event as the words give it, in the terms of the code

module _ (ws : List ℕ) (cycle : ℕ) where
  abbrev c : Bool
  c = eqb (cycle % 2) 1

  -- the length or parameter
  abbrev n : ℕ
  n = get_or ws 2 0 % 2 ^ 32

  n_is : field_of ws 2 0 32 ≡ n
  n_is = rw div-one

  pub unlisted : (f : CompletionCode → EventTrb) → code_in ws ≡ None → trb 0 12 ≡ written (bytes_from (coded (code_in ws) f) c)
  unfolding by_number
  unlisted f e = rw e

  module _ (k : CompletionCode) (e : code_in ws ≡ Some k) where
    pub transfer_no : 2 ^ 24 ≤ n → trb 0 8 ≡ written (bytes_from (coded (code_in ws) (transfer_in ws)) c)
    unfolding valid
    transfer_no h = rw e (sym (written_no (transfer_in ws k) c (rw n_is (le-ltb _ _ h))))

    pub command_low : (get_or ws 1 0 % 16 ≡ 0 → ⊥) → trb 0 8 ≡ written (bytes_from (coded (code_in ws) (command_completion_in ws)) c)
    unfolding valid
    command_low h = rw e (sym (written_no (command_completion_in ws k) c (rw (div-one, ne_eqb _ _ h))))

    pub command_no : get_or ws 1 0 % 16 ≡ 0 → 2 ^ 24 ≤ n → trb 0 8 ≡ written (bytes_from (coded (code_in ws) (command_completion_in ws)) c)
    unfolding valid
    command_no a h = rw e (sym (written_no (command_completion_in ws k) c (rw (n_is, div-one, eq-eqb _ _ a) (le-ltb _ _ h))))

    module _ (num : number_of k ≡ field_of ws 2 32 8) (p : get_or ws 1 0 < 2 ^ 64) (s : n < 2 ^ 24) where
      pub transfer_yes : trb (get_or ws 1 0) (n + field_of ws 2 32 8 * 2 ^ 24
          + (cycle % 2 + field_of ws 2 40 1 * 4 + 0x8000 + field_of ws 2 48 8 * 2 ^ 16 + field_of ws 2 56 8 * 2 ^ 24) * 2 ^ 32)
          ≡ written (bytes_from (coded (code_in ws) (transfer_in ws)) c)
      unfolding valid event_dwords
      transfer_yes =
          rw e
          (sym (written_yes (transfer_in ws k) c (p, omega arith, omega arith) (rw n_is (lt-ltb _ _ s))
          ∙ ap₂ trb (pointer (get_or ws 1 0) p)
          (rw (num, flag_is cycle, flag_is (get_or ws 2 0 / 2 ^ 40), n_is) (transfer_sum n (field_of ws 2 32 8) (cycle % 2) (field_of ws 2 40 1) (field_of ws 2 48 8) (field_of ws 2 56 8)))))

      pub command_yes : get_or ws 1 0 % 16 ≡ 0 → trb (get_or ws 1 0) (n + field_of ws 2 32 8 * 2 ^ 24 + (cycle % 2 + 0x8400 + field_of ws 2 40 8 * 2 ^ 24) * 2 ^ 32)
          ≡ written (bytes_from (coded (code_in ws) (command_completion_in ws)) c)
      unfolding valid event_dwords
      command_yes a =
          rw e
          (sym (written_yes (command_completion_in ws k) c (p, omega arith) (rw (n_is, div-one, eq-eqb _ _ a) (lt-ltb _ _ s))
          ∙ ap₂ trb (pointer (get_or ws 1 0) p)
          (rw (num, flag_is cycle, n_is) (command_sum n (field_of ws 2 32 8) (cycle % 2) (field_of ws 2 40 8)))))

  pub port_yes : trb (field_of ws 0 8 8 * 2 ^ 24) (0x100_0000 + (cycle % 2 + 0x8800) * 2 ^ 32) ≡ written (bytes_from (Ok (port_status_change_in ws)) c)
  unfolding valid event_dwords number_of
  port_yes =
      sym (written_yes (port_status_change_in ws) c (omega arith) refl
      ∙ ap₂ trb (omega arith) (rw (flag_is cycle) (port_sum (cycle % 2))))
