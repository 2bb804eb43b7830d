-- The words of a TRB say document 01's values of it, in its order, at the bytes that include/lomvigast.h names; and a refusal's words have
-- the bytes that were refused. A definition that drops or exchanges fields, and code that follows it, fails here. Assumes nothing.
use Prim.{tt}
use mathlib.Core.Path.{◌≡◌, refl, sym, ap, ap₂, ◌∙◌}
use mathlib.Core.Bool.{Bool}
use mathlib.Core.List.{List, [], ◌∷◌}
use Prim.Native.Nat.{ℕ, ◌+◌, ◌-◌, ◌*◌, ◌/◌, ◌%◌, ◌^◌, ◌<◌}
use native.Mathlib.Omega.{arith}
use lib.Dec.{eqb}
use lib.ListN.{length, get_or}
use Rattle.guest.specs.Bytes.{part}
use Rattle.guest.specs.Memory.{Memory}
use Rattle.guest.proofs.Bytes.{part_length}
use Rattle.guest.specs.Refusals.{number_of}
use Rattle.trb.specs.Trb.{Parsed, bit, when, ◌or◌, one_of}
use Rattle.trb.specs.Commands as commands
use Rattle.trb.specs.Transfers as transfers
use Rattle.trb.specs.declared.Unrecognized.{Unrecognized}
use Rattle.guest.proofs.Numbers.{number_lt}
use Rattle.trb.specs.declared.command.CommandTrbVariant.{CommandTrbVariant}
use Rattle.trb.specs.declared.transfer.TransferTrbVariant.{TransferTrbVariant}
use Rattle.trb.specs.Data.{data_of}
use Rattle.trb.specs.declared.data.TrbDmaInfo.{TrbDmaInfo}
use Rattle.trb.proofs.Pack.{cut}
use Rattle.trb.proofs.Parts.{given}
use Rattle.words.proofs.Back.{bytes_in, numbers_at, said_by, said_by_lem, read, word, bit_lt}
use Rattle.trb.proofs.OneEncoding.{nth}
use Rattle.trb_ffi.specs.Commands as command
use Rattle.trb.specs.declared.link.LinkTrb.{LinkTrb}
use Rattle.std.specs.Prelude.{Option, Some, None, Ok, Err}
use Rattle.trb_ffi.specs.Transfers as transfer
use Rattle.trb_ffi.specs.Parts.{flat_link, part_of}
use Rattle.trb_ffi.specs.declared.parts.CLink.{CLink}

-- ---- words of two bytes, and of three

two_read : (k s : ℕ) → k < 2 ^ 8 → s < 2 ^ 8 → cut (8 ∷ 8 ∷ []) 0 (k + s * 2 ^ 8) ≡ k ∷ s ∷ []
two_read k s h i = read (8 ∷ 8 ∷ []) (k ∷ s ∷ []) (k + s * 2 ^ 8) (omega arith) (h, (i, tt))

three_read : (k e s : ℕ) → k < 2 ^ 8 → e < 2 ^ 8 → s < 2 ^ 8 → cut (8 ∷ 8 ∷ 8 ∷ []) 0 (k + e * 2 ^ 8 + s * 2 ^ 16) ≡ k ∷ e ∷ s ∷ []
three_read k e s h i j = read (8 ∷ 8 ∷ 8 ∷ []) (k ∷ e ∷ s ∷ []) (k + e * 2 ^ 8 + s * 2 ^ 16) (omega arith) (h, (i, (j, tt)))

-- ---- commands

-- the fields are of their types in the code
abbrev pub CommandTyped : Parsed CommandTrbVariant → Type 0
CommandTyped (Ok CommandTrbVariant.NoOp) = Unit
CommandTyped (Ok CommandTrbVariant.EnableSlot) = Unit
CommandTyped (Ok (CommandTrbVariant.DisableSlot d)) = d.slot_id < 2 ^ 8
CommandTyped (Ok (CommandTrbVariant.AddressDevice d)) = (d.input_context_pointer < 2 ^ 64) × (d.slot_id < 2 ^ 8)
CommandTyped (Ok (CommandTrbVariant.ConfigureEndpoint d)) = (d.input_context_pointer < 2 ^ 64) × (d.slot_id < 2 ^ 8)
CommandTyped (Ok (CommandTrbVariant.EvaluateContext d)) = (d.input_context_pointer < 2 ^ 64) × (d.slot_id < 2 ^ 8)
CommandTyped (Ok (CommandTrbVariant.ResetEndpoint d)) = (d.endpoint_id < 2 ^ 8) × (d.slot_id < 2 ^ 8)
CommandTyped (Ok (CommandTrbVariant.StopEndpoint d)) = (d.endpoint_id < 2 ^ 8) × (d.slot_id < 2 ^ 8)
CommandTyped (Ok (CommandTrbVariant.SetTrDequeuePointer d)) =
    (d.dequeue_pointer < 2 ^ 64) × (d.stream_id < 2 ^ 16) × (d.endpoint_id < 2 ^ 8) × (d.slot_id < 2 ^ 8)
    × (d.stream_context_type < 2 ^ 8)
CommandTyped (Ok (CommandTrbVariant.ResetDevice d)) = d.slot_id < 2 ^ 8
CommandTyped (Ok CommandTrbVariant.ForceHeader) = Unit
CommandTyped (Err u) = u.error.trb_type < 2 ^ 8

-- where the words of each type have it, then document 01's fields in their order; 0 is a refusal's, which has its number and the type
abbrev pub command_places : ℕ → List (ℕ × ℕ)
command_places t =
    when (eqb t 0) ((17, 1) ∷ (18, 1) ∷ []) or
    when (one_of t (10 ∷ 17 ∷ [])) ((0, 1) ∷ (1, 1) ∷ []) or
    when (one_of t (11 ∷ 12 ∷ [])) ((0, 1) ∷ (8, 8) ∷ (17, 1) ∷ (16, 1) ∷ []) or
    when (eqb t 13) ((0, 1) ∷ (8, 8) ∷ (16, 1) ∷ []) or
    when (one_of t (14 ∷ 15 ∷ [])) ((0, 1) ∷ (1, 1) ∷ (2, 1) ∷ []) or
    when (eqb t 16) ((0, 1) ∷ (20, 1) ∷ (21, 1) ∷ (8, 8) ∷ (16, 2) ∷ (18, 1) ∷ (19, 1) ∷ []) or
    (0, 1) ∷ []

-- ---- TRBs of a transfer ring

abbrev pub TransferTyped : Parsed TransferTrbVariant → Type 0
TransferTyped (Ok (TransferTrbVariant.Normal d)) = (d.data_pointer < 2 ^ 64) × (d.transfer_length < 2 ^ 32)
TransferTyped (Ok (TransferTrbVariant.SetupStage d)) =
    (d.request_type < 2 ^ 8) × (d.request < 2 ^ 8) × (d.value < 2 ^ 16) × (d.index < 2 ^ 16) × (d.length < 2 ^ 16)
TransferTyped (Ok (TransferTrbVariant.DataStage d)) = (d.data_pointer < 2 ^ 64) × (d.transfer_length < 2 ^ 32)
TransferTyped (Ok (TransferTrbVariant.StatusStage d)) = Unit
TransferTyped (Ok TransferTrbVariant.Isoch) = Unit
TransferTyped (Ok (TransferTrbVariant.EventData d)) = d.event_data < 2 ^ 64
TransferTyped (Ok (TransferTrbVariant.NoOp d)) = Unit
TransferTyped (Err u) = u.error.trb_type < 2 ^ 8

abbrev pub transfer_places : ℕ → List (ℕ × ℕ)
transfer_places t =
    when (eqb t 0) ((17, 1) ∷ (18, 1) ∷ []) or
    when (eqb t 1) ((0, 1) ∷ (8, 8) ∷ (16, 4) ∷ (23, 1) ∷ (20, 1) ∷ (21, 1) ∷ (22, 1) ∷ []) or
    when (eqb t 2) ((0, 1) ∷ (2, 1) ∷ (3, 1) ∷ (4, 2) ∷ (6, 2) ∷ (8, 2) ∷ (10, 1) ∷ []) or
    when (eqb t 3) ((0, 1) ∷ (8, 8) ∷ (16, 4) ∷ (23, 1) ∷ (20, 1) ∷ (21, 1) ∷ (22, 1) ∷ (24, 1) ∷ []) or
    when (eqb t 4) ((0, 1) ∷ (1, 1) ∷ (2, 1) ∷ (3, 1) ∷ []) or
    when (eqb t 7) ((0, 1) ∷ (8, 8) ∷ (16, 1) ∷ (17, 1) ∷ []) or
    when (eqb t 8) ((0, 1) ∷ (1, 1) ∷ (2, 1) ∷ []) or
    (0, 1) ∷ []

-- a length and four flags
length_read : (n : ℕ) (c i m s : Bool) → n < 2 ^ 32
    → cut (32 ∷ 8 ∷ 8 ∷ 8 ∷ 8 ∷ []) 0 (transfer.length_and n c i m s) ≡ n ∷ bit c ∷ bit i ∷ bit m ∷ bit s ∷ []
length_read n c i m s h =
    read (32 ∷ 8 ∷ 8 ∷ 8 ∷ 8 ∷ []) (n ∷ bit c ∷ bit i ∷ bit m ∷ bit s ∷ []) _ (omega arith)
    (h, (bit_lt c, (bit_lt i, (bit_lt m, (bit_lt s, tt)))))

-- ---- refused bytes: bytes 1 to 16 are the two numbers, of which each has its top byte in the next word

abbrev pub raw_in : List ℕ → List ℕ
raw_in ws = (bytes_in ws 1 7 + bytes_in ws 8 1 * 2 ^ 56) ∷ (bytes_in ws 9 7 + bytes_in ws 16 1 * 2 ^ 56) ∷ []

-- ---- what was parsed is two numbers, and the words that are lent may hold anything

module _ (low high : ℕ) (l : low < 2 ^ 64) (h : high < 2 ^ 64) (a b c : ℕ) where
  -- a refusal of any number that a byte holds, in three words or more
  module _ (ds : List ℕ) (number type : ℕ) (n : number < 2 ^ 8) (t : type < 2 ^ 8) where
    abbrev w0 : ℕ
    w0 = low % 2 ^ 56 * 2 ^ 8

    abbrev w1 : ℕ
    w1 = low / 2 ^ 56 + high % 2 ^ 56 * 2 ^ 8

    abbrev w2 : ℕ
    w2 = high / 2 ^ 56 + number * 2 ^ 8 + type * 2 ^ 16

    first : cut (8 ∷ 56 ∷ []) 0 w0 ≡ 0 ∷ low % 2 ^ 56 ∷ []
    first = read (8 ∷ 56 ∷ []) (0 ∷ low % 2 ^ 56 ∷ []) w0 (omega arith) (omega arith, (omega arith, tt))

    second : cut (8 ∷ 56 ∷ []) 0 w1 ≡ low / 2 ^ 56 ∷ high % 2 ^ 56 ∷ []
    second = read (8 ∷ 56 ∷ []) (low / 2 ^ 56 ∷ high % 2 ^ 56 ∷ []) w1 (omega arith) (omega arith, (omega arith, tt))

    third : cut (8 ∷ 8 ∷ 8 ∷ []) 0 w2 ≡ high / 2 ^ 56 ∷ number ∷ type ∷ []
    third = three_read (high / 2 ^ 56) number type (omega arith) n t

    abbrev ws : List ℕ
    ws = command.refused low high number type (a ∷ b ∷ c ∷ ds)

    pub refused_kind : bytes_in (command.refused low high number type (a ∷ b ∷ c ∷ ds)) 0 1 ≡ 0
    refused_kind = nth 0 first

    pub refused_raw : raw_in (command.refused low high number type (a ∷ b ∷ c ∷ ds)) ≡ low ∷ high ∷ []
    refused_raw = rw (nth 1 first, nth 0 second, nth 1 second, nth 0 third) (ap₂ (λ (x y : ℕ). x ∷ y ∷ []) (omega arith) (omega arith))

    refused_numbers : numbers_at ((17, 1) ∷ (18, 1) ∷ []) ws ≡ number ∷ type ∷ []
    refused_numbers = ap (λ (xs : List ℕ). get_or xs 1 0 ∷ get_or xs 2 0 ∷ []) third

    -- read as a command's words are, or a transfer's
    pub refused_said : (places : ℕ → List (ℕ × ℕ)) → places 0 ≡ (17, 1) ∷ (18, 1) ∷ []
        → said_by places (command.refused low high number type (a ∷ b ∷ c ∷ ds)) ≡ number ∷ type ∷ []
    refused_said places e = said_by_lem places ws 0 _ refused_kind (rw e refused_numbers)

  -- ---- commands

  abbrev lent : List ℕ
  lent = a ∷ b ∷ c ∷ []

  pub command_said : (v : Parsed CommandTrbVariant) → CommandTyped v → said_by command_places (command.put v low high lent) ≡ commands.values_of v
  command_said (Ok CommandTrbVariant.NoOp) y = refl
  command_said (Ok CommandTrbVariant.EnableSlot) y = refl
  command_said (Ok (CommandTrbVariant.DisableSlot d)) y =
      let v : Parsed CommandTrbVariant = Ok (CommandTrbVariant.DisableSlot d) in
      let g = two_read 10 d.slot_id (omega arith) y in
      said_by_lem command_places (command.put v low high lent) 10 _ (nth 0 g) g
  command_said (Ok (CommandTrbVariant.AddressDevice d)) y =
      ap₂ (λ (p : ℕ) (xs : List ℕ). 11 ∷ p ∷ get_or xs 1 0 ∷ get_or xs 0 0 ∷ []) (word d.input_context_pointer y.0)
      (two_read d.slot_id (bit d.block_set_address_request) y.1 (bit_lt d.block_set_address_request))
  command_said (Ok (CommandTrbVariant.ConfigureEndpoint d)) y =
      ap₂ (λ (p : ℕ) (xs : List ℕ). 12 ∷ p ∷ get_or xs 1 0 ∷ get_or xs 0 0 ∷ []) (word d.input_context_pointer y.0)
      (two_read d.slot_id (bit d.deconfigure) y.1 (bit_lt d.deconfigure))
  command_said (Ok (CommandTrbVariant.EvaluateContext d)) y =
      ap₂ (λ (p : ℕ) (xs : List ℕ). 13 ∷ p ∷ xs) (word d.input_context_pointer y.0)
      (read (8 ∷ []) (d.slot_id ∷ []) d.slot_id (omega arith) (y.1, tt))
  command_said (Ok (CommandTrbVariant.ResetEndpoint d)) y =
      let v : Parsed CommandTrbVariant = Ok (CommandTrbVariant.ResetEndpoint d) in
      let g = three_read 14 d.endpoint_id d.slot_id (omega arith) y.0 y.1 in
      said_by_lem command_places (command.put v low high lent) 14 _ (nth 0 g) g
  command_said (Ok (CommandTrbVariant.StopEndpoint d)) y =
      let v : Parsed CommandTrbVariant = Ok (CommandTrbVariant.StopEndpoint d) in
      let g = three_read 15 d.endpoint_id d.slot_id (omega arith) y.0 y.1 in
      said_by_lem command_places (command.put v low high lent) 15 _ (nth 0 g) g
  command_said (Ok (CommandTrbVariant.SetTrDequeuePointer d)) y =
      ap₂ (λ (p : ℕ) (xs : List ℕ). 16 ∷ get_or xs 3 0 ∷ get_or xs 4 0 ∷ p ∷ get_or xs 0 0 ∷ get_or xs 1 0 ∷ get_or xs 2 0 ∷ []) (word d.dequeue_pointer y.0)
      (read (16 ∷ 8 ∷ 8 ∷ 8 ∷ 8 ∷ []) (d.stream_id ∷ d.endpoint_id ∷ d.slot_id ∷ bit d.dequeue_cycle_state ∷ d.stream_context_type ∷ []) _ (omega arith)
      (y.1, (y.2, (y.3, (bit_lt d.dequeue_cycle_state, (y.4, tt))))))
  command_said (Ok (CommandTrbVariant.ResetDevice d)) y =
      let v : Parsed CommandTrbVariant = Ok (CommandTrbVariant.ResetDevice d) in
      let g = two_read 17 d.slot_id (omega arith) y in
      said_by_lem command_places (command.put v low high lent) 17 _ (nth 0 g) g
  command_said (Ok CommandTrbVariant.ForceHeader) y = refl
  command_said (Err u) y =
      refused_said [] (number_of u.error.refusal) u.error.trb_type (number_lt u.error.refusal) y command_places refl

  pub command_raw : (u : Unrecognized) → CommandTyped (Err u)
      → raw_in (command.put (Err u) low high lent) ≡ low ∷ high ∷ []
  command_raw u y = refused_raw [] (number_of u.error.refusal) u.error.trb_type (number_lt u.error.refusal) y

  -- ---- TRBs of a transfer ring

  module _ (d : ℕ) where
    abbrev four : List ℕ
    four = a ∷ b ∷ c ∷ d ∷ []

    pub transfer_said : (v : Parsed TransferTrbVariant) → TransferTyped v → said_by transfer_places (transfer.put v low high four) ≡ transfers.values_of v
    transfer_said (Ok (TransferTrbVariant.Normal x)) y =
        ap₂ (λ (p : ℕ) (xs : List ℕ). 1 ∷ p ∷ get_or xs 0 0 ∷ get_or xs 4 0 ∷ get_or xs 1 0 ∷ get_or xs 2 0 ∷ get_or xs 3 0 ∷ []) (word x.data_pointer y.0)
        (length_read x.transfer_length x.chain x.interrupt_on_completion x.immediate_data x.interrupt_on_short y.1)
    transfer_said (Ok (TransferTrbVariant.SetupStage x)) y =
        let v : Parsed TransferTrbVariant = Ok (TransferTrbVariant.SetupStage x) in
        let f = bit x.interrupt_on_completion in
        let g = read (8 ∷ 8 ∷ 8 ∷ 8 ∷ 16 ∷ 16 ∷ []) (2 ∷ 0 ∷ x.request_type ∷ x.request ∷ x.value ∷ x.index ∷ []) (get_or (transfer.put v low high four) 0 0) (omega arith)
        (omega arith, (omega arith, (y.0, (y.1, (y.2, (y.3, tt)))))) in
        let k = read (16 ∷ 8 ∷ []) (x.length ∷ f ∷ []) (x.length + f * 2 ^ 16) (omega arith) (y.4, (bit_lt x.interrupt_on_completion, tt)) in
        said_by_lem transfer_places (transfer.put v low high four) 2 _ (nth 0 g)
        (ap₂ (λ (xs ys : List ℕ). get_or xs 0 0 ∷ get_or xs 2 0 ∷ get_or xs 3 0 ∷ get_or xs 4 0 ∷ get_or xs 5 0 ∷ ys) g k)
    transfer_said (Ok (TransferTrbVariant.DataStage x)) y =
        rw (word x.data_pointer y.0, nth 0 (read (8 ∷ []) (bit x.direction ∷ []) (bit x.direction) (omega arith) (bit_lt x.direction, tt)))
        (ap (λ (xs : List ℕ). 3 ∷ x.data_pointer ∷ get_or xs 0 0 ∷ get_or xs 4 0 ∷ get_or xs 1 0 ∷ get_or xs 2 0 ∷ get_or xs 3 0 ∷ bit x.direction ∷ [])
        (length_read x.transfer_length x.chain x.interrupt_on_completion x.immediate_data x.interrupt_on_short y.1))
    transfer_said (Ok (TransferTrbVariant.StatusStage x)) y =
        let v : Parsed TransferTrbVariant = Ok (TransferTrbVariant.StatusStage x) in
        let g = read (8 ∷ 8 ∷ 8 ∷ 8 ∷ []) (4 ∷ bit x.chain ∷ bit x.interrupt_on_completion ∷ bit x.direction ∷ []) (get_or (transfer.put v low high four) 0 0) (omega arith)
        (omega arith, (bit_lt x.chain, (bit_lt x.interrupt_on_completion, (bit_lt x.direction, tt)))) in
        said_by_lem transfer_places (transfer.put v low high four) 4 _ (nth 0 g) g
    transfer_said (Ok TransferTrbVariant.Isoch) y = refl
    transfer_said (Ok (TransferTrbVariant.EventData x)) y =
        ap₂ (λ (p : ℕ) (xs : List ℕ). 7 ∷ p ∷ xs) (word x.event_data y)
        (two_read (bit x.chain) (bit x.interrupt_on_completion) (bit_lt x.chain) (bit_lt x.interrupt_on_completion))
    transfer_said (Ok (TransferTrbVariant.NoOp x)) y =
        let v : Parsed TransferTrbVariant = Ok (TransferTrbVariant.NoOp x) in
        let g = three_read 8 (bit x.chain) (bit x.interrupt_on_completion) (omega arith) (bit_lt x.chain) (bit_lt x.interrupt_on_completion) in
        said_by_lem transfer_places (transfer.put v low high four) 8 _ (nth 0 g) g
    transfer_said (Err u) y =
        refused_said (d ∷ []) (number_of u.error.refusal) u.error.trb_type (number_lt u.error.refusal) y transfer_places refl

    pub transfer_raw : (u : Unrecognized) → TransferTyped (Err u)
        → raw_in (transfer.put (Err u) low high four) ≡ low ∷ high ∷ []
    transfer_raw u y = refused_raw (d ∷ []) (number_of u.error.refusal) u.error.trb_type (number_lt u.error.refusal) y

-- ---- a Link, or another TRB

abbrev pub link_in : CLink → Option LinkTrb
link_in l =
    when l.link (
    Some (
    record {
      ring_segment_pointer = l.pointer;
      pointer_bits_cleared = l.cleared;
      toggle_cycle = l.toggle;
      interrupt_on_completion = l.completion;
    }
    )
    ) or
    None

pub link_back : (l : Option LinkTrb) → link_in (flat_link l) ≡ l
link_back (Some l) = refl
link_back None = refl

-- ---- a data part: from the window's start so far on is where the TRB points, and so many bytes from there are the data

pub record PartSaid (m : Memory) (i : TrbDmaInfo) : Type 0 where
  pub pointer : m.start + (part_of m i).offset ≡ i.data_pointer
  pub bytes : part m.bytes (part_of m i).offset (part_of m i).length ≡ data_of m i

pub part_said : (m : Memory) (i : TrbDmaInfo) → (part_of m i).refusal ≡ 0 → PartSaid m i
part_said m i z =
    let g = given m i z in
    let long : length (data_of m i) ≡ i.transfer_length = ap length g.bytes ∙ part_length i.transfer_length (i.data_pointer - m.start) m.bytes g.within.fits in
    record {
      pointer = rw g.offset (omega (arith, g.within.from));
      bytes = rw (g.offset, long) (sym g.bytes);
    }
