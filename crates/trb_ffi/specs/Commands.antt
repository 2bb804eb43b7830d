-- A command as the three words of Rust's enum: byte 0 is the type, 0 for a refusal. A record of bytes alone starts at byte 1, one with a
-- pointer at byte 8.
use Rattle.std.specs.Prelude.{ℕ, ◌+◌, ◌*◌, ◌/◌, ◌%◌, ◌^◌, List, [], ◌∷◌, Ok, Err}
use Rattle.codes.specs.Types as types
use Rattle.guest.specs.Refusals as refusals
use Rattle.trb.specs.Trb.{Parsed, bit}
use Rattle.trb.specs.declared.command.CommandTrbVariant.{CommandTrbVariant}
use Rattle.words.specs.Lent as lent

-- the sixteen bytes from byte 1 on, then the refusal's number and the type beside it
abbrev pub refused : ℕ → ℕ → ℕ → ℕ → List ℕ → List ℕ
refused low high number type =
    lent.put (low % 2 ^ 56 * 2 ^ 8 ∷ (low / 2 ^ 56 + high % 2 ^ 56 * 2 ^ 8) ∷ (high / 2 ^ 56 + number * 2 ^ 8 + type * 2 ^ 16) ∷ [])

abbrev pub words_of : CommandTrbVariant → List ℕ
words_of CommandTrbVariant.NoOp = types.no_op_command ∷ []
words_of CommandTrbVariant.EnableSlot = types.enable_slot ∷ []
words_of (CommandTrbVariant.DisableSlot d) = (types.disable_slot + d.slot_id * 2 ^ 8) ∷ []
words_of (CommandTrbVariant.AddressDevice d) =
    types.address_device ∷ d.input_context_pointer ∷ (d.slot_id + bit d.block_set_address_request * 2 ^ 8) ∷ []
words_of (CommandTrbVariant.ConfigureEndpoint d) =
    types.configure_endpoint ∷ d.input_context_pointer ∷ (d.slot_id + bit d.deconfigure * 2 ^ 8) ∷ []
words_of (CommandTrbVariant.EvaluateContext d) = types.evaluate_context ∷ d.input_context_pointer ∷ d.slot_id ∷ []
words_of (CommandTrbVariant.ResetEndpoint d) = (types.reset_endpoint + d.endpoint_id * 2 ^ 8 + d.slot_id * 2 ^ 16) ∷ []
words_of (CommandTrbVariant.StopEndpoint d) = (types.stop_endpoint + d.endpoint_id * 2 ^ 8 + d.slot_id * 2 ^ 16) ∷ []
words_of (CommandTrbVariant.SetTrDequeuePointer d) =
    types.set_tr_dequeue_pointer ∷ d.dequeue_pointer
    ∷ (d.stream_id + d.endpoint_id * 2 ^ 16 + d.slot_id * 2 ^ 24
    + bit d.dequeue_cycle_state * 2 ^ 32 + d.stream_context_type * 2 ^ 40) ∷ []
words_of (CommandTrbVariant.ResetDevice d) = (types.reset_device + d.slot_id * 2 ^ 8) ∷ []
words_of CommandTrbVariant.ForceHeader = types.force_header ∷ []

-- the lent words after the parser of the two numbers `low` and `high` has answered
abbrev pub put : Parsed CommandTrbVariant → ℕ → ℕ → List ℕ → List ℕ
put (Ok v) low high = lent.put (words_of v)
put (Err u) low high = refused low high (refusals.number_of u.error.refusal) u.error.trb_type
