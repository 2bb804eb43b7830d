-- Event TRBs, xHCI 6.4.2: the sixteen bytes of an event, and the event of sixteen bytes.
use Rattle.std.specs.Prelude.{ℕ, ◌+◌, ◌*◌, ◌^◌, ◌<◌, List, [], ◌∷◌, Bool, true, false, ◌&&◌, ltb, eqb, Option, Some, None, Result, Ok, Err}
use Rattle.guest.specs.Refusals.{event, type, reserved, code, by_number}
use Rattle.guest.specs.Judge.{Tests, judge}
use Rattle.guest.specs.Fields.{bits, field, bytes_of_dwords}
use Rattle.guest.specs.declared.Dwords.{Dwords}
use Rattle.guest.specs.declared.refusal.Refusal.{Refusal}
use Rattle.codes.specs.Codes.{number_of, code_of}
use Rattle.codes.specs.Types as types
use Rattle.codes.specs.declared.CompletionCode.{CompletionCode}
use Rattle.trb.specs.Trb.{type_of, pointer_of, flag_of, Parsed, unrecognized, values_by, bit, when, ◌or◌, ◌to◌, one_of, values_shown}
use Rattle.trb.specs.declared.event.TransferEventTrbData.{TransferEventTrbData}
use Rattle.trb.specs.declared.event.CommandCompletionEventTrbData.{CommandCompletionEventTrbData}
use Rattle.trb.specs.declared.event.PortStatusChangeEventTrbData.{PortStatusChangeEventTrbData}
use Rattle.trb.specs.declared.event.EventTrb.{EventTrb}

-- ---- writing

-- the dword whose fields have these widths, from bit 0 up, and these values
abbrev pub pack : List ℕ → List ℕ → ℕ
pack [] vs = 0
pack (w ∷ ws) [] = 0
pack (w ∷ ws) (v ∷ vs) = v + pack ws vs * 2 ^ w

-- dword 2: 24 bits, and the completion code in bits 31:24; dword 0 of a Port Status Change has the port there
abbrev pub in_code : List ℕ
in_code = 24 ∷ 8 ∷ []

abbrev pub of_code : ℕ → CompletionCode → List ℕ
of_code v k = v ∷ number_of k ∷ []

-- 6.4.2.1: cycle, 0, event data, 0s, type, endpoint id, slot id
abbrev pub in_transfer : List ℕ
in_transfer = 1 ∷ 1 ∷ 1 ∷ 7 ∷ 6 ∷ 8 ∷ 8 ∷ []

abbrev pub of_transfer : TransferEventTrbData → Bool → List ℕ
of_transfer t c = bit c ∷ 0 ∷ bit t.event_data ∷ 0 ∷ types.transfer_event ∷ t.endpoint_id ∷ t.slot_id ∷ []

abbrev pub transfer_dwords : TransferEventTrbData → Bool → Dwords
transfer_dwords t c =
    record {
      d0 = bits t.trb_pointer 0 32;
      d1 = bits t.trb_pointer 32 32;
      d2 = pack in_code (of_code t.trb_transfer_length t.completion_code);
      d3 = pack in_transfer (of_transfer t c);
    }

-- 6.4.2.2: cycle, 0s, type, 0s (the VF id), slot id
abbrev pub in_command_completion : List ℕ
in_command_completion = 1 ∷ 9 ∷ 6 ∷ 8 ∷ 8 ∷ []

abbrev pub of_command_completion : CommandCompletionEventTrbData → Bool → List ℕ
of_command_completion t c = bit c ∷ 0 ∷ types.command_completion_event ∷ 0 ∷ t.slot_id ∷ []

abbrev pub command_completion_dwords : CommandCompletionEventTrbData → Bool → Dwords
command_completion_dwords t c =
    record {
      d0 = bits t.command_trb_pointer 0 32;
      d1 = bits t.command_trb_pointer 32 32;
      d2 = pack in_code (of_code t.command_completion_parameter t.completion_code);
      d3 = pack in_command_completion (of_command_completion t c);
    }

-- 6.4.2.3: cycle, 0s, type, 0s
abbrev pub in_port_status_change : List ℕ
in_port_status_change = 1 ∷ 9 ∷ 6 ∷ 16 ∷ []

abbrev pub of_port_status_change : Bool → List ℕ
of_port_status_change c = bit c ∷ 0 ∷ types.port_status_change_event ∷ 0 ∷ []

abbrev pub port_status_change_dwords : PortStatusChangeEventTrbData → Bool → Dwords
port_status_change_dwords t c =
    record {
      d0 = pack in_code (0 ∷ t.port_id ∷ []);
      d1 = 0;
      d2 = pack in_code (of_code 0 CompletionCode.Success);
      d3 = pack in_port_status_change (of_port_status_change c);
    }

unfoldable pub event_dwords : EventTrb → Bool → Dwords
event_dwords (EventTrb.Transfer t) c = transfer_dwords t c
event_dwords (EventTrb.CommandCompletion t) c = command_completion_dwords t c
event_dwords (EventTrb.PortStatusChange t) c = port_status_change_dwords t c

-- the fields are of their types in the code: 64 and 8 bits (the 24-bit ones are what `valid` looks at)
abbrev pub Typed : EventTrb → Type 0
Typed (EventTrb.Transfer t) = (t.trb_pointer < 2 ^ 64) × (t.endpoint_id < 2 ^ 8) × (t.slot_id < 2 ^ 8)
Typed (EventTrb.CommandCompletion t) = (t.command_trb_pointer < 2 ^ 64) × (t.slot_id < 2 ^ 8)
Typed (EventTrb.PortStatusChange t) = t.port_id < 2 ^ 8

-- the sixteen bytes of an event with the cycle bit c
abbrev pub event_bytes : EventTrb → Bool → List ℕ
event_bytes e c = bytes_of_dwords (event_dwords e c)

-- refusal 8: a length or parameter that does not fit, or a command pointer with low bits set
unfoldable pub valid : EventTrb → Bool
valid (EventTrb.Transfer t) = ltb t.trb_transfer_length (2 ^ 24)
valid (EventTrb.CommandCompletion t) = eqb (bits t.command_trb_pointer 0 4) 0 && ltb t.command_completion_parameter (2 ^ 24)
valid (EventTrb.PortStatusChange t) = true

abbrev pub event_tests : EventTrb → Tests
event_tests e = (event, valid e) ∷ []

abbrev pub refused : ℕ → Result (List ℕ) Refusal
refused n = Err (by_number n)

abbrev pub accepted : List ℕ → Result (List ℕ) Refusal
accepted trb = Ok trb

unfoldable pub bytes_answered : EventTrb → Bool → Result (List ℕ) Refusal
bytes_answered e c = judge (event_tests e) refused (accepted (event_bytes e c))

-- ---- reading

abbrev pub answered : EventTrb → Parsed EventTrb
answered e = Ok e

-- whether fields, each a dword, a low bit and a width, are all 0
abbrev pub clear : List ℕ → List (ℕ × ℕ × ℕ) → Bool
clear trb [] = true
clear trb ((k, lo, w) ∷ fields) = eqb (field trb k lo w) 0 && clear trb fields

-- the fields that are always 0 (refusal 11)
abbrev pub reserved_in_transfer : List (ℕ × ℕ × ℕ)
reserved_in_transfer = (3, 1, 1) ∷ (3, 3, 7) ∷ []

abbrev pub reserved_in_command_completion : List (ℕ × ℕ × ℕ)
reserved_in_command_completion = (0, 0, 4) ∷ (3, 1, 9) ∷ (3, 16, 8) ∷ []

abbrev pub reserved_in_port_status_change : List (ℕ × ℕ × ℕ)
reserved_in_port_status_change = (0, 0, 24) ∷ (1, 0, 32) ∷ (2, 0, 24) ∷ (3, 1, 9) ∷ (3, 16, 16) ∷ []

abbrev pub reserved_in : ℕ → List (ℕ × ℕ × ℕ)
reserved_in t =
    when (eqb t types.transfer_event) reserved_in_transfer or
    when (eqb t types.command_completion_event) reserved_in_command_completion or
    reserved_in_port_status_change

-- the completion code is bits 31:24 of dword 2; whether it is listed, and then which it is
abbrev pub code_in : List ℕ → Option CompletionCode
code_in trb = code_of (field trb 2 24 8)

abbrev pub is_listed : Option CompletionCode → Bool
is_listed (Some k) = true
is_listed None = false

abbrev pub listed_in : Option CompletionCode → CompletionCode
listed_in (Some k) = k
listed_in None = CompletionCode.Invalid

-- refusals 12, then 11
abbrev pub read_tests : Bool → Bool → Tests
read_tests coded zeros = (code, coded) ∷ (reserved, zeros) ∷ []

abbrev pub transfer_as : List ℕ → Parsed EventTrb
transfer_as trb =
    judge (read_tests (is_listed (code_in trb)) (clear trb reserved_in_transfer)) (λ n. unrecognized n 0 trb)
    (answered (EventTrb.Transfer (record {
      trb_pointer = pointer_of trb;
      trb_transfer_length = field trb 2 0 24;
      completion_code = listed_in (code_in trb);
      event_data = flag_of trb 3 2;
      endpoint_id = field trb 3 16 8;
      slot_id = field trb 3 24 8;
    })))

abbrev pub command_completion_as : List ℕ → Parsed EventTrb
command_completion_as trb =
    judge (read_tests (is_listed (code_in trb)) (clear trb reserved_in_command_completion)) (λ n. unrecognized n 0 trb)
    (answered (EventTrb.CommandCompletion (record {
      command_trb_pointer = pointer_of trb;
      command_completion_parameter = field trb 2 0 24;
      completion_code = listed_in (code_in trb);
      slot_id = field trb 3 24 8;
    })))

-- a Port Status Change says Success, 1, and nothing else
abbrev pub port_status_change_as : List ℕ → Parsed EventTrb
port_status_change_as trb =
    judge (read_tests (eqb (field trb 2 24 8) 1) (clear trb reserved_in_port_status_change)) (λ n. unrecognized n 0 trb)
    (answered (EventTrb.PortStatusChange (record { port_id = field trb 0 24 8 })))

-- the rows by type, table 6-91
unfoldable pub event_of : List ℕ → Parsed EventTrb
event_of trb =
    let t = type_of trb in
    when (eqb t types.transfer_event) (transfer_as trb) or
    when (eqb t types.command_completion_event) (command_completion_as trb) or
    when (eqb t types.port_status_change_event) (port_status_change_as trb) or
    unrecognized type t trb

-- ---- document 01's values of an answer: the type, then the fields

abbrev pub values_of_event : EventTrb → List ℕ
values_of_event (EventTrb.Transfer t) =
    types.transfer_event ∷ t.trb_pointer ∷ t.trb_transfer_length ∷ number_of t.completion_code ∷ bit t.event_data
    ∷ t.endpoint_id ∷ t.slot_id ∷ []
values_of_event (EventTrb.CommandCompletion t) =
    types.command_completion_event ∷ t.command_trb_pointer ∷ t.command_completion_parameter ∷ number_of t.completion_code
    ∷ t.slot_id ∷ []
values_of_event (EventTrb.PortStatusChange t) = types.port_status_change_event ∷ t.port_id ∷ []

abbrev pub values_of : Parsed EventTrb → List ℕ
values_of p = values_by values_of_event p

-- ---- the same from the TRB itself, in document 01's numbers; proofs/Shown.antt proves that every answer has these

-- the refusals of the decoder, each given exactly when its test is the first that fails
abbrev pub decoder_tests : List ℕ → Tests
decoder_tests trb =
    let t = type_of trb in
    (type, one_of t (32 to 34)) ∷
    (code, when (eqb t 34) (eqb (field trb 2 24 8) 1) or is_listed (code_in trb)) ∷
    (reserved, clear trb (reserved_in t)) ∷ []

-- the fields of a TRB that is not refused
abbrev pub decoder_fields : List ℕ → List ℕ
decoder_fields trb =
    let t = type_of trb in
    let code = field trb 2 24 8 in
    let slot = field trb 3 24 8 in
    when (eqb t 32) (pointer_of trb ∷ field trb 2 0 24 ∷ code ∷ field trb 3 2 1 ∷ field trb 3 16 8 ∷ slot ∷ []) or
    when (eqb t 33) (pointer_of trb ∷ field trb 2 0 24 ∷ code ∷ slot ∷ []) or
    field trb 0 24 8 ∷ []

abbrev pub decoder_values : List ℕ → List ℕ
decoder_values trb = values_shown (decoder_tests trb) trb (decoder_fields trb)
