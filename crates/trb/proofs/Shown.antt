-- What an answer shows, whichever parser gave it: its number, its values and its raw bytes are what the definitions in document 01's
-- numbers say (command_tests, command_values and their like). Assumes nothing.
use mathlib.Core.Path.{◌≡◌, refl, ap}
use mathlib.Core.Bool.{Bool, true, false}
use mathlib.Core.List.{List}
use Prim.Native.Nat.{ℕ}
use native.Mathlib.Omega.{arith}
use borrow.Author.Tests.{eqb-true}
use lib.Dec.{eqb}
use Rattle.guest.specs.Refusals.{reserved, code, by_number}
use Rattle.guest.specs.Judge.{Tests, judge, refusal_of}
use Rattle.guest.specs.Fields.{field}
use Rattle.trb.specs.Trb.{type_of, pointer_of, aligned_of, ◌to◌, one_of, raw_shown, Parsed, unrecognized, number_of, raw_of}
use Rattle.trb.specs.Links as links
use Rattle.trb.specs.Commands as commands
use Rattle.trb.specs.Transfers as transfers
use Rattle.trb.specs.Events as events
use Rattle.std.specs.Prelude.{Option}
use Rattle.trb.specs.declared.link.LinkTrb.{LinkTrb}
use Rattle.trb.specs.declared.command.CommandTrbVariant.{CommandTrbVariant}
use Rattle.trb.specs.declared.transfer.TransferTrbVariant.{TransferTrbVariant}
use Rattle.trb.specs.declared.event.EventTrb.{EventTrb}
use Rattle.trb.proofs.Raw.{flag_is}
use Rattle.trb.proofs.Rows.{by_row, by_type}
use Rattle.trb.proofs.Coded.{listed_number}

-- an answer by its number, its values and its raw bytes
abbrev Answer : Type 0
Answer = ℕ × List ℕ × List ℕ

abbrev said : List ℕ → Tests → List ℕ → Answer
said trb tests values = (refusal_of tests, values, raw_shown tests trb)

-- where its low four bits are 0, a pointer is all that stands there
whole_pointer : (trb : List ℕ) → eqb (field trb 0 0 4) 0 ≡ true → aligned_of trb ≡ pointer_of trb
whole_pointer trb h = omega (arith, eqb-true (field trb 0 0 4) 0 h)

-- ---- commands

pub record OfCommand (trb : List ℕ) (p : Parsed CommandTrbVariant) : Type 0 where
  pub number : number_of p ≡ refusal_of (commands.command_tests trb)
  pub values : commands.values_of p ≡ commands.command_values trb
  pub raw : raw_of p ≡ raw_shown (commands.command_tests trb) trb

module _ (trb : List ℕ) where
  of_command : (p : Parsed CommandTrbVariant)
      → ◌≡◌ {A = Answer} (number_of p, commands.values_of p, raw_of p) (said trb (commands.command_tests trb) (commands.command_values trb))
      → OfCommand trb p
  of_command p e = record { number = ap (λ (a : Answer). a.0) e; values = ap (λ (a : Answer). a.1) e; raw = ap (λ (a : Answer). a.2) e }

  -- types 11 to 13, by the low four bits of the pointer
  aligned : (v : CommandTrbVariant) → (eqb (field trb 0 0 4) 0 ≡ true → OfCommand trb (commands.answered v))
      → (eqb (field trb 0 0 4) 0 ≡ false → OfCommand trb (unrecognized reserved 0 trb)) → OfCommand trb (commands.aligned trb v)
  aligned v = by_row (OfCommand trb) (eqb (field trb 0 0 4) 0) (commands.answered v) (unrecognized reserved 0 trb)

  pub command_shown : OfCommand trb (commands.command_of trb)
  unfolding judge by_number commands.command_of
  command_shown =
      by_type (OfCommand trb) trb 9 _ _ (λ e. of_command _ (rw e)) (λ n9.
      by_type (OfCommand trb) trb 10 _ _ (λ e. of_command _ (rw e)) (λ n10.
      by_type (OfCommand trb) trb 11 _ _ (λ e. aligned _ (λ h. of_command _ (rw (e, h, whole_pointer trb h) (simp flag_is))) (λ h. of_command _ (rw (e, h)))) (λ n11.
      by_type (OfCommand trb) trb 12 _ _ (λ e. aligned _ (λ h. of_command _ (rw (e, h, whole_pointer trb h) (simp flag_is))) (λ h. of_command _ (rw (e, h)))) (λ n12.
      by_type (OfCommand trb) trb 13 _ _ (λ e. aligned _ (λ h. of_command _ (rw (e, h, whole_pointer trb h))) (λ h. of_command _ (rw (e, h)))) (λ n13.
      by_type (OfCommand trb) trb 14 _ _ (λ e. of_command _ (rw e)) (λ n14.
      by_type (OfCommand trb) trb 15 _ _ (λ e. of_command _ (rw e)) (λ n15.
      by_type (OfCommand trb) trb 16 _ _ (λ e. of_command _ (rw e (simp flag_is))) (λ n16.
      by_type (OfCommand trb) trb 17 _ _ (λ e. of_command _ (rw e)) (λ n17.
      by_row (OfCommand trb) (one_of (type_of trb) (18 to 21)) _ _ (λ h. of_command _ (rw h)) (λ n18.
      by_type (OfCommand trb) trb 22 _ _ (λ e. of_command _ (rw e)) (λ n22.
      by_type (OfCommand trb) trb 23 _ _ (λ e. of_command _ (rw e)) (λ n23.
      of_command _ (rw (n18, n9, n10, n11, n12, n13, n14, n15, n16, n17, n22, n23))))))))))))))

-- ---- transfers

pub record OfTransfer (trb : List ℕ) (p : Parsed TransferTrbVariant) : Type 0 where
  pub number : number_of p ≡ refusal_of (transfers.transfer_tests trb)
  pub values : transfers.values_of p ≡ transfers.transfer_values trb
  pub raw : raw_of p ≡ raw_shown (transfers.transfer_tests trb) trb

module _ (trb : List ℕ) where
  of_transfer_lem : (p : Parsed TransferTrbVariant)
      → ◌≡◌ {A = Answer} (number_of p, transfers.values_of p, raw_of p) (said trb (transfers.transfer_tests trb) (transfers.transfer_values trb))
      → OfTransfer trb p
  of_transfer_lem p e = record { number = ap (λ (a : Answer). a.0) e; values = ap (λ (a : Answer). a.1) e; raw = ap (λ (a : Answer). a.2) e }

  pub transfer_shown : OfTransfer trb (transfers.transfer_of trb)
  unfolding judge by_number transfers.transfer_of
  transfer_shown =
      by_type (OfTransfer trb) trb 1 _ _ (λ e. of_transfer_lem _ (rw e (simp flag_is))) (λ n1.
      by_type (OfTransfer trb) trb 2 _ _ (λ e. of_transfer_lem _ (rw e (simp flag_is))) (λ n2.
      by_type (OfTransfer trb) trb 3 _ _ (λ e. of_transfer_lem _ (rw e (simp flag_is))) (λ n3.
      by_type (OfTransfer trb) trb 4 _ _ (λ e. of_transfer_lem _ (rw e (simp flag_is))) (λ n4.
      by_type (OfTransfer trb) trb 5 _ _ (λ e. of_transfer_lem _ (rw e)) (λ n5.
      by_type (OfTransfer trb) trb 7 _ _ (λ e. of_transfer_lem _ (rw e (simp flag_is))) (λ n7.
      by_type (OfTransfer trb) trb 8 _ _ (λ e. of_transfer_lem _ (rw e (simp flag_is))) (λ n8.
      of_transfer_lem _ (rw (n1, n2, n3, n4, n5, n7, n8)))))))))

-- ---- events

pub record OfEvent (trb : List ℕ) (p : Parsed EventTrb) : Type 0 where
  pub number : number_of p ≡ refusal_of (events.decoder_tests trb)
  pub values : events.values_of p ≡ events.decoder_values trb
  pub raw : raw_of p ≡ raw_shown (events.decoder_tests trb) trb

module _ (trb : List ℕ) where
  of_event_lem : (p : Parsed EventTrb)
      → ◌≡◌ {A = Answer} (number_of p, events.values_of p, raw_of p) (said trb (events.decoder_tests trb) (events.decoder_values trb))
      → OfEvent trb p
  of_event_lem p e = record { number = ap (λ (a : Answer). a.0) e; values = ap (λ (a : Answer). a.1) e; raw = ap (λ (a : Answer). a.2) e }

  -- an event, or refusals 12 and 11
  read : (coded zeros : Bool) (e : EventTrb) → (coded ≡ true → zeros ≡ true → OfEvent trb (events.answered e))
      → (coded ≡ false → OfEvent trb (unrecognized code 0 trb))
      → (coded ≡ true → zeros ≡ false → OfEvent trb (unrecognized reserved 0 trb))
      → OfEvent trb (judge (events.read_tests coded zeros) (λ n. unrecognized n 0 trb) (events.answered e))
  unfolding judge
  read true true e f g h = f refl refl
  read true false e f g h = h refl refl
  read false zeros e f g h = g refl

  pub event_shown : OfEvent trb (events.event_of trb)
  unfolding judge by_number events.event_of
  event_shown =
      by_type (OfEvent trb) trb 32 _ _ (λ e.
      read (events.is_listed (events.code_in trb)) (events.clear trb events.reserved_in_transfer) _
      (λ h g. of_event_lem _ (rw (e, h, g, listed_number trb h) (simp flag_is))) (λ h. of_event_lem _ (rw (e, h))) (λ h g. of_event_lem _ (rw (e, h, g)))) (λ n32.
      by_type (OfEvent trb) trb 33 _ _ (λ e.
      read (events.is_listed (events.code_in trb)) (events.clear trb events.reserved_in_command_completion) _
      (λ h g. of_event_lem _ (rw (e, h, g, listed_number trb h))) (λ h. of_event_lem _ (rw (e, h))) (λ h g. of_event_lem _ (rw (e, h, g)))) (λ n33.
      by_type (OfEvent trb) trb 34 _ _ (λ e.
      read (eqb (field trb 2 24 8) 1) (events.clear trb events.reserved_in_port_status_change) _
      (λ h g. of_event_lem _ (rw (e, h, g))) (λ h. of_event_lem _ (rw (e, h))) (λ h g. of_event_lem _ (rw (e, h, g)))) (λ n34.
      of_event_lem _ (rw (n32, n33, n34)))))

-- ---- links

pub record OfLink (trb : List ℕ) (l : Option LinkTrb) : Type 0 where
  pub number : links.number_of l ≡ 0
  pub values : links.values_of l ≡ links.link_values trb

pub link_shown : (trb : List ℕ) → OfLink trb (links.link_of trb)
unfolding links.link_of
link_shown trb =
    by_type (OfLink trb) trb 6 _ _ (λ e. record { number = refl; values = rw e (simp flag_is) }) (λ n6.
    record { number = refl; values = rw n6 })
