-- A TRB of a transfer ring as the four words of Rust's enum: byte 0 is the type, 0 for a refusal. A record of bytes alone starts at byte 1,
-- one of two-byte numbers at byte 2, one with a pointer at byte 8.
use Rattle.std.specs.Prelude.{ℕ, ◌+◌, ◌*◌, ◌^◌, Bool, List, [], ◌∷◌, Ok, Err}
use Rattle.codes.specs.Types as types
use Rattle.guest.specs.Refusals as refusals
use Rattle.trb.specs.Trb.{Parsed, bit}
use Rattle.trb.specs.declared.transfer.TransferTrbVariant.{TransferTrbVariant}
use Rattle.words.specs.Lent as lent
use Rattle.trb_ffi.specs.Commands.{refused}

-- a length of four bytes, and four flags of one
abbrev pub length_and : ℕ → Bool → Bool → Bool → Bool → ℕ
length_and n chain completion immediate short =
    n + bit chain * 2 ^ 32 + bit completion * 2 ^ 40 + bit immediate * 2 ^ 48 + bit short * 2 ^ 56

abbrev pub words_of : TransferTrbVariant → List ℕ
words_of (TransferTrbVariant.Normal d) =
    types.normal ∷ d.data_pointer
    ∷ length_and d.transfer_length d.chain d.interrupt_on_completion d.immediate_data d.interrupt_on_short ∷ []
words_of (TransferTrbVariant.SetupStage d) =
    (types.setup_stage + d.request_type * 2 ^ 16 + d.request * 2 ^ 24 + d.value * 2 ^ 32 + d.index * 2 ^ 48)
    ∷ (d.length + bit d.interrupt_on_completion * 2 ^ 16) ∷ []
words_of (TransferTrbVariant.DataStage d) =
    types.data_stage ∷ d.data_pointer
    ∷ length_and d.transfer_length d.chain d.interrupt_on_completion d.immediate_data d.interrupt_on_short
    ∷ bit d.direction ∷ []
words_of (TransferTrbVariant.StatusStage d) =
    (types.status_stage + bit d.chain * 2 ^ 8 + bit d.interrupt_on_completion * 2 ^ 16 + bit d.direction * 2 ^ 24) ∷ []
words_of TransferTrbVariant.Isoch = types.isoch ∷ []
words_of (TransferTrbVariant.EventData d) =
    types.event_data ∷ d.event_data ∷ (bit d.chain + bit d.interrupt_on_completion * 2 ^ 8) ∷ []
words_of (TransferTrbVariant.NoOp d) = (types.no_op + bit d.chain * 2 ^ 8 + bit d.interrupt_on_completion * 2 ^ 16) ∷ []

-- the lent words after the parser of the two numbers `low` and `high` has answered
abbrev pub put : Parsed TransferTrbVariant → ℕ → ℕ → List ℕ → List ℕ
put (Ok v) low high = lent.put (words_of v)
put (Err u) low high = refused low high (refusals.number_of u.error.refusal) u.error.trb_type
