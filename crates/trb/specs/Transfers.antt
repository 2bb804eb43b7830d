-- Transfer TRBs, xHCI 6.4.1 and 6.4.4.2. Dword 3 has interrupt on short packet in bit 2, chain in bit 4, interrupt on completion in
-- bit 5, immediate data in bit 6 and the direction in bit 16; dword 2 has the transfer length in bits 16:0.
use Rattle.std.specs.Prelude.{ℕ, List, [], ◌∷◌, ◌++◌, eqb, Ok}
use Rattle.guest.specs.Refusals.{type}
use Rattle.guest.specs.Judge.{Tests}
use Rattle.guest.specs.Fields.{field}
use Rattle.codes.specs.Types as types
use Rattle.trb.specs.Trb.{type_of, pointer_of, flag_of, Parsed, unrecognized, values_by, bit, when, ◌or◌, ◌to◌, one_of, values_shown}
use Rattle.trb.specs.declared.transfer.NormalTrb.{NormalTrb}
use Rattle.trb.specs.declared.transfer.SetupStageTrb.{SetupStageTrb}
use Rattle.trb.specs.declared.transfer.DataStageTrb.{DataStageTrb}
use Rattle.trb.specs.declared.transfer.StatusStageTrb.{StatusStageTrb}
use Rattle.trb.specs.declared.transfer.EventDataTrb.{EventDataTrb}
use Rattle.trb.specs.declared.transfer.NoOpTrb.{NoOpTrb}
use Rattle.trb.specs.declared.transfer.TransferTrbVariant.{TransferTrbVariant}

abbrev pub answered : TransferTrbVariant → Parsed TransferTrbVariant
answered v = Ok v

-- ---- the fields of each type

-- 6.4.1.1
abbrev pub normal_trb : List ℕ → NormalTrb
normal_trb trb =
    record {
      data_pointer = pointer_of trb;
      transfer_length = field trb 2 0 17;
      interrupt_on_short = flag_of trb 3 2;
      chain = flag_of trb 3 4;
      interrupt_on_completion = flag_of trb 3 5;
      immediate_data = flag_of trb 3 6;
    }

-- 6.4.1.2.1: the eight bytes of a USB device request in dwords 0 and 1
abbrev pub setup_stage_trb : List ℕ → SetupStageTrb
setup_stage_trb trb =
    record {
      request_type = field trb 0 0 8;
      request = field trb 0 8 8;
      value = field trb 0 16 16;
      index = field trb 1 0 16;
      length = field trb 1 16 16;
      interrupt_on_completion = flag_of trb 3 5;
    }

-- 6.4.1.2.2
abbrev pub data_stage_trb : List ℕ → DataStageTrb
data_stage_trb trb =
    record {
      data_pointer = pointer_of trb;
      transfer_length = field trb 2 0 17;
      chain = flag_of trb 3 4;
      interrupt_on_completion = flag_of trb 3 5;
      interrupt_on_short = flag_of trb 3 2;
      immediate_data = flag_of trb 3 6;
      direction = flag_of trb 3 16;
    }

-- 6.4.1.2.3
abbrev pub status_stage_trb : List ℕ → StatusStageTrb
status_stage_trb trb = record { chain = flag_of trb 3 4; interrupt_on_completion = flag_of trb 3 5; direction = flag_of trb 3 16 }

-- 6.4.4.2
abbrev pub event_data_trb : List ℕ → EventDataTrb
event_data_trb trb = record { event_data = pointer_of trb; chain = flag_of trb 3 4; interrupt_on_completion = flag_of trb 3 5 }

-- 6.4.1.4
abbrev pub no_op_trb : List ℕ → NoOpTrb
no_op_trb trb = record { chain = flag_of trb 3 4; interrupt_on_completion = flag_of trb 3 5 }

-- the rows by type, table 6-91; an Isoch TRB is recognised and not taken apart, and any other number, Link's too, has no row
unfoldable pub transfer_of : List ℕ → Parsed TransferTrbVariant
transfer_of trb =
    let t = type_of trb in
    when (eqb t types.normal) (answered (TransferTrbVariant.Normal (normal_trb trb))) or
    when (eqb t types.setup_stage) (answered (TransferTrbVariant.SetupStage (setup_stage_trb trb))) or
    when (eqb t types.data_stage) (answered (TransferTrbVariant.DataStage (data_stage_trb trb))) or
    when (eqb t types.status_stage) (answered (TransferTrbVariant.StatusStage (status_stage_trb trb))) or
    when (eqb t types.isoch) (answered TransferTrbVariant.Isoch) or
    when (eqb t types.event_data) (answered (TransferTrbVariant.EventData (event_data_trb trb))) or
    when (eqb t types.no_op) (answered (TransferTrbVariant.NoOp (no_op_trb trb))) or
    unrecognized type t trb

-- ---- document 01's values of an answer: the type, then the fields

abbrev pub values_in : TransferTrbVariant → List ℕ
values_in (TransferTrbVariant.Normal d) =
    types.normal ∷ d.data_pointer ∷ d.transfer_length ∷ bit d.interrupt_on_short ∷ bit d.chain
    ∷ bit d.interrupt_on_completion ∷ bit d.immediate_data ∷ []
values_in (TransferTrbVariant.SetupStage d) =
    types.setup_stage ∷ d.request_type ∷ d.request ∷ d.value ∷ d.index ∷ d.length ∷ bit d.interrupt_on_completion ∷ []
values_in (TransferTrbVariant.DataStage d) =
    types.data_stage ∷ d.data_pointer ∷ d.transfer_length ∷ bit d.interrupt_on_short ∷ bit d.chain
    ∷ bit d.interrupt_on_completion ∷ bit d.immediate_data ∷ bit d.direction ∷ []
values_in (TransferTrbVariant.StatusStage d) =
    types.status_stage ∷ bit d.chain ∷ bit d.interrupt_on_completion ∷ bit d.direction ∷ []
values_in TransferTrbVariant.Isoch = types.isoch ∷ []
values_in (TransferTrbVariant.EventData d) =
    types.event_data ∷ d.event_data ∷ bit d.chain ∷ bit d.interrupt_on_completion ∷ []
values_in (TransferTrbVariant.NoOp d) = types.no_op ∷ bit d.chain ∷ bit d.interrupt_on_completion ∷ []

abbrev pub values_of : Parsed TransferTrbVariant → List ℕ
values_of p = values_by values_in p

-- ---- the same from the TRB itself, in document 01's numbers; proofs/Shown.antt proves that every answer has these

-- the refusal, given exactly when its test fails
abbrev pub transfer_tests : List ℕ → Tests
transfer_tests trb = (type, one_of (type_of trb) (1 to 5 ++ 7 to 8)) ∷ []

-- the fields of a TRB that is not refused
abbrev pub transfer_fields : List ℕ → List ℕ
transfer_fields trb =
    let t = type_of trb in
    let length = field trb 2 0 17 in
    let short = field trb 3 2 1 in
    let chain = field trb 3 4 1 in
    let completion = field trb 3 5 1 in
    let immediate = field trb 3 6 1 in
    let direction = field trb 3 16 1 in
    when (eqb t 1) (pointer_of trb ∷ length ∷ short ∷ chain ∷ completion ∷ immediate ∷ []) or
    when (eqb t 2) (field trb 0 0 8 ∷ field trb 0 8 8 ∷ field trb 0 16 16 ∷ field trb 1 0 16 ∷ field trb 1 16 16 ∷ completion ∷ []) or
    when (eqb t 3) (pointer_of trb ∷ length ∷ short ∷ chain ∷ completion ∷ immediate ∷ direction ∷ []) or
    when (eqb t 4) (chain ∷ completion ∷ direction ∷ []) or
    when (eqb t 7) (pointer_of trb ∷ chain ∷ completion ∷ []) or
    when (eqb t 8) (chain ∷ completion ∷ []) or
    []

abbrev pub transfer_values : List ℕ → List ℕ
transfer_values trb = values_shown (transfer_tests trb) trb (transfer_fields trb)
