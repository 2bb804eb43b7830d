-- Command TRBs, xHCI 6.4.3. Dword 3 has the slot id in bits 31:24 and the endpoint id in bits 20:16; types 11 to 13 have a pointer
-- to an input context, whose low four bits must be 0 (refusal 11), in dwords 0 and 1.
use Rattle.std.specs.Prelude.{ℕ, List, [], ◌∷◌, ◌++◌, not, ◌||◌, eqb, Ok}
use Rattle.guest.specs.Refusals.{optional, type, reserved}
use Rattle.guest.specs.Judge.{Tests}
use Rattle.guest.specs.Fields.{field}
use Rattle.codes.specs.Types as types
use Rattle.trb.specs.Trb.{type_of, pointer_of, aligned_of, flag_of, Parsed, unrecognized, values_by, bit, when, ◌or◌, ◌to◌, one_of, values_shown}
use Rattle.trb.specs.declared.command.CommandTrbVariant.{CommandTrbVariant}

abbrev pub answered : CommandTrbVariant → Parsed CommandTrbVariant
answered v = Ok v

-- refusal 11 where the low four bits of the pointer are not 0
abbrev pub aligned : List ℕ → CommandTrbVariant → Parsed CommandTrbVariant
aligned trb v = when (eqb (field trb 0 0 4) 0) (answered v) or unrecognized reserved 0 trb

-- ---- a row for each type

-- 6.4.3.3
abbrev pub disable_slot_as : List ℕ → Parsed CommandTrbVariant
disable_slot_as trb = answered (CommandTrbVariant.DisableSlot (record { slot_id = field trb 3 24 8 }))

-- 6.4.3.4: block set address request in bit 9 of dword 3
abbrev pub address_device_as : List ℕ → Parsed CommandTrbVariant
address_device_as trb =
    aligned trb (CommandTrbVariant.AddressDevice (record {
      input_context_pointer = aligned_of trb;
      block_set_address_request = flag_of trb 3 9;
      slot_id = field trb 3 24 8;
    }))

-- 6.4.3.5: deconfigure in bit 9 of dword 3
abbrev pub configure_endpoint_as : List ℕ → Parsed CommandTrbVariant
configure_endpoint_as trb =
    aligned trb (CommandTrbVariant.ConfigureEndpoint (record {
      input_context_pointer = aligned_of trb;
      deconfigure = flag_of trb 3 9;
      slot_id = field trb 3 24 8;
    }))

-- 6.4.3.6
abbrev pub evaluate_context_as : List ℕ → Parsed CommandTrbVariant
evaluate_context_as trb =
    aligned trb (CommandTrbVariant.EvaluateContext (record {
      input_context_pointer = aligned_of trb;
      slot_id = field trb 3 24 8;
    }))

-- 6.4.3.7
abbrev pub reset_endpoint_as : List ℕ → Parsed CommandTrbVariant
reset_endpoint_as trb = answered (CommandTrbVariant.ResetEndpoint (record { slot_id = field trb 3 24 8; endpoint_id = field trb 3 16 5 }))

-- 6.4.3.8
abbrev pub stop_endpoint_as : List ℕ → Parsed CommandTrbVariant
stop_endpoint_as trb = answered (CommandTrbVariant.StopEndpoint (record { endpoint_id = field trb 3 16 5; slot_id = field trb 3 24 8 }))

-- 6.4.3.9: dword 0 has the dequeue cycle state in bit 0 and the stream context type in bits 3:1; the stream id is bits 31:16 of dword 2
abbrev pub set_tr_dequeue_pointer_as : List ℕ → Parsed CommandTrbVariant
set_tr_dequeue_pointer_as trb =
    answered (CommandTrbVariant.SetTrDequeuePointer (record {
      dequeue_cycle_state = flag_of trb 0 0;
      stream_context_type = field trb 0 1 3;
      dequeue_pointer = aligned_of trb;
      stream_id = field trb 2 16 16;
      endpoint_id = field trb 3 16 5;
      slot_id = field trb 3 24 8;
    }))

-- 6.4.3.10
abbrev pub reset_device_as : List ℕ → Parsed CommandTrbVariant
reset_device_as trb = answered (CommandTrbVariant.ResetDevice (record { slot_id = field trb 3 24 8 }))

-- optional commands (refusal 9)
abbrev pub optionals : List ℕ
optionals = types.force_event ∷ types.negotiate_bandwidth ∷ types.set_latency_tolerance_value ∷ types.get_port_bandwidth ∷ []

-- the rows by type, table 6-91; any other number is no command's
unfoldable pub command_of : List ℕ → Parsed CommandTrbVariant
command_of trb =
    let t = type_of trb in
    when (eqb t types.enable_slot) (answered CommandTrbVariant.EnableSlot) or
    when (eqb t types.disable_slot) (disable_slot_as trb) or
    when (eqb t types.address_device) (address_device_as trb) or
    when (eqb t types.configure_endpoint) (configure_endpoint_as trb) or
    when (eqb t types.evaluate_context) (evaluate_context_as trb) or
    when (eqb t types.reset_endpoint) (reset_endpoint_as trb) or
    when (eqb t types.stop_endpoint) (stop_endpoint_as trb) or
    when (eqb t types.set_tr_dequeue_pointer) (set_tr_dequeue_pointer_as trb) or
    when (eqb t types.reset_device) (reset_device_as trb) or
    when (one_of t optionals) (unrecognized optional t trb) or
    when (eqb t types.force_header) (answered CommandTrbVariant.ForceHeader) or
    when (eqb t types.no_op_command) (answered CommandTrbVariant.NoOp) or
    unrecognized type t trb

-- ---- document 01's values of an answer: the type, then the fields

abbrev pub values_in : CommandTrbVariant → List ℕ
values_in CommandTrbVariant.NoOp = types.no_op_command ∷ []
values_in CommandTrbVariant.EnableSlot = types.enable_slot ∷ []
values_in (CommandTrbVariant.DisableSlot d) = types.disable_slot ∷ d.slot_id ∷ []
values_in (CommandTrbVariant.AddressDevice d) =
    types.address_device ∷ d.input_context_pointer ∷ bit d.block_set_address_request ∷ d.slot_id ∷ []
values_in (CommandTrbVariant.ConfigureEndpoint d) =
    types.configure_endpoint ∷ d.input_context_pointer ∷ bit d.deconfigure ∷ d.slot_id ∷ []
values_in (CommandTrbVariant.EvaluateContext d) = types.evaluate_context ∷ d.input_context_pointer ∷ d.slot_id ∷ []
values_in (CommandTrbVariant.ResetEndpoint d) = types.reset_endpoint ∷ d.endpoint_id ∷ d.slot_id ∷ []
values_in (CommandTrbVariant.StopEndpoint d) = types.stop_endpoint ∷ d.endpoint_id ∷ d.slot_id ∷ []
values_in (CommandTrbVariant.SetTrDequeuePointer d) =
    types.set_tr_dequeue_pointer ∷ bit d.dequeue_cycle_state ∷ d.stream_context_type ∷ d.dequeue_pointer ∷ d.stream_id
    ∷ d.endpoint_id ∷ d.slot_id ∷ []
values_in (CommandTrbVariant.ResetDevice d) = types.reset_device ∷ d.slot_id ∷ []
values_in CommandTrbVariant.ForceHeader = types.force_header ∷ []

abbrev pub values_of : Parsed CommandTrbVariant → List ℕ
values_of p = values_by values_in p

-- ---- the same from the TRB itself, in document 01's numbers; proofs/Shown.antt proves that every answer has these

-- the refusals, each given exactly when its test is the first that fails
abbrev pub command_tests : List ℕ → Tests
command_tests trb =
    let t = type_of trb in
    (optional, not (one_of t (18 to 21))) ∷
    (type, one_of t (9 to 17 ++ 22 to 23)) ∷
    (reserved, not (one_of t (11 to 13)) || eqb (field trb 0 0 4) 0) ∷ []

-- the fields of a TRB that is not refused
abbrev pub command_fields : List ℕ → List ℕ
command_fields trb =
    let t = type_of trb in
    let slot = field trb 3 24 8 in
    let endpoint = field trb 3 16 5 in
    when (one_of t (10 ∷ 17 ∷ [])) (slot ∷ []) or
    when (one_of t (11 to 12)) (pointer_of trb ∷ field trb 3 9 1 ∷ slot ∷ []) or
    when (eqb t 13) (pointer_of trb ∷ slot ∷ []) or
    when (one_of t (14 to 15)) (endpoint ∷ slot ∷ []) or
    when (eqb t 16) (field trb 0 0 1 ∷ field trb 0 1 3 ∷ aligned_of trb ∷ field trb 2 16 16 ∷ endpoint ∷ slot ∷ []) or
    []

abbrev pub command_values : List ℕ → List ℕ
command_values trb = values_shown (command_tests trb) trb (command_fields trb)
