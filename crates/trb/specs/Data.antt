-- The data that a Normal or Data Stage TRB points at (xHCI 4.11.2, 6.4.1.1, 6.4.1.2.2): none in memory where the TRB holds it itself.
use Rattle.std.specs.Prelude.{ℕ, List, [], ◌∷◌, true, not, ◌≡◌, Result}
use Rattle.guest.specs.Refusals.{outside, immediate, as_result}
use Rattle.guest.specs.Faults.{Not, Faults, Inside}
use Rattle.guest.specs.Judge.{Tests, judge, refusal_of}
use Rattle.guest.specs.Memory.{Memory, inside, offset, part}
use Rattle.guest.specs.declared.refusal.Refusal.{Refusal}
use Rattle.trb.specs.declared.transfer.NormalTrb.{NormalTrb}
use Rattle.trb.specs.declared.transfer.DataStageTrb.{DataStageTrb}
use Rattle.trb.specs.declared.data.TrbDmaInfo.{TrbDmaInfo}

abbrev pub of_normal : NormalTrb → TrbDmaInfo
of_normal t =
    record { data_pointer = t.data_pointer; transfer_length = t.transfer_length; immediate_data = t.immediate_data }

abbrev pub of_data_stage : DataStageTrb → TrbDmaInfo
of_data_stage t =
    record { data_pointer = t.data_pointer; transfer_length = t.transfer_length; immediate_data = t.immediate_data }

-- refusals 13, then 1
abbrev pub data_tests : Memory → TrbDmaInfo → Tests
data_tests m i = (immediate, not i.immediate_data) ∷ (outside, inside m i.data_pointer i.transfer_length) ∷ []

-- the same as facts, citing none of the tests: 13, immediate data; 1, the data is not all inside. With no data the pointer is one that a byte
-- of the window has, or its end
abbrev pub data_faults : Memory → TrbDmaInfo → Faults
data_faults m i = (13, i.immediate_data ≡ true) ∷ (1, Not (Inside m i.data_pointer i.transfer_length)) ∷ []

unfoldable pub data_refusal : Memory → TrbDmaInfo → ℕ
data_refusal m i = refusal_of (data_tests m i)

abbrev pub data_answer : Memory → TrbDmaInfo → Result (Unit {0}) Refusal
data_answer m i = as_result (data_refusal m i) tt

-- the bytes, none beside a refusal, and how far from the window's start they begin, 0 beside a refusal
unfoldable pub data_of : Memory → TrbDmaInfo → List ℕ
data_of m i = judge (data_tests m i) (λ n. []) (part m i.data_pointer i.transfer_length)

unfoldable pub data_offset : Memory → TrbDmaInfo → ℕ
data_offset m i = judge (data_tests m i) (λ n. 0) (offset m i.data_pointer)
