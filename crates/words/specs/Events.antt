-- An event as three words, which are the bytes of Rust's enum and of C's union, little-endian. Byte 0 is the TRB's type.
--   32, a Transfer Event: the pointer in bytes 8 to 15, the length in 16 to 19, the code in 20, the event-data flag in bit 0 of 21, the
--       endpoint in 22, the slot in 23
--   33, a Command Completion: the pointer in 8 to 15, the parameter in 16 to 19, the code in 20, the slot in 21
--   34, a Port Status Change: the port in byte 1
use Rattle.std.specs.Prelude.{ℕ, ◌+◌, ◌*◌, ◌^◌, List, [], ◌∷◌, Bool, get_or, eqb, Option, Some, None, Result, Ok, Err}
use Rattle.guest.specs.Refusals as refusal
use Rattle.guest.specs.Fields.{bits, low_of, high_of}
use Rattle.guest.specs.Refusals.{by_number}
use Rattle.guest.specs.declared.refusal.Refusal.{Refusal}
use Rattle.codes.specs.Types as types
use Rattle.codes.specs.Codes.{number_of, code_of}
use Rattle.codes.specs.declared.CompletionCode.{CompletionCode}
use Rattle.trb.specs.Trb.{Parsed, bit, when, ◌or◌}
use Rattle.trb.specs.Events.{bytes_answered}
use Rattle.trb.specs.declared.TrbParseError.{TrbParseError}
use Rattle.trb.specs.declared.event.EventTrb.{EventTrb}
use Rattle.words.specs.declared.event.CTrb.{CTrb}
use Rattle.words.specs.Lent.{put}

-- ---- given

-- the w bits of word k from bit lo up
abbrev pub field_of : List ℕ → ℕ → ℕ → ℕ → ℕ
field_of ws k lo w = bits (get_or ws k 0) lo w

abbrev pub Given : Type 0
Given = Result EventTrb TrbParseError

abbrev pub refused_with : ℕ → ℕ → Given
refused_with n t = Err (record { refusal = by_number n; trb_type = t })

-- the event with the code that a number stands for
abbrev pub coded : Option CompletionCode → (CompletionCode → EventTrb) → Given
coded (Some k) e = Ok (e k)
coded None e = refused_with refusal.code 0

abbrev pub code_in : List ℕ → Option CompletionCode
code_in ws = code_of (field_of ws 2 32 8)

abbrev pub transfer_in : List ℕ → CompletionCode → EventTrb
transfer_in ws k =
    EventTrb.Transfer (record {
      trb_pointer = get_or ws 1 0;
      trb_transfer_length = field_of ws 2 0 32;
      completion_code = k;
      event_data = eqb (field_of ws 2 40 1) 1;
      endpoint_id = field_of ws 2 48 8;
      slot_id = field_of ws 2 56 8;
    })

abbrev pub command_completion_in : List ℕ → CompletionCode → EventTrb
command_completion_in ws k =
    EventTrb.CommandCompletion (record {
      command_trb_pointer = get_or ws 1 0;
      command_completion_parameter = field_of ws 2 0 32;
      completion_code = k;
      slot_id = field_of ws 2 40 8;
    })

abbrev pub port_status_change_in : List ℕ → EventTrb
port_status_change_in ws = EventTrb.PortStatusChange (record { port_id = field_of ws 0 8 8 })

-- a type that is no event's is refused with 10, a code that is not listed with 12
unfoldable pub event_in : List ℕ → Given
event_in ws =
    let t = field_of ws 0 0 8 in
    when (eqb t types.transfer_event) (coded (code_in ws) (transfer_in ws)) or
    when (eqb t types.command_completion_event) (coded (code_in ws) (command_completion_in ws)) or
    when (eqb t types.port_status_change_event) (Ok (port_status_change_in ws)) or
    refused_with refusal.type t

-- ---- written

-- the bytes of an event as it was given: what refuses the given event comes first
abbrev pub bytes_from : Given → Bool → Result (List ℕ) Refusal
bytes_from (Ok e) c = bytes_answered e c
bytes_from (Err x) c = Err x.refusal

-- the TRB as two numbers; a refusal is its number in the second, which no event's high half is as low as (proofs/Apart.antt)
abbrev pub written : Result (List ℕ) Refusal → CTrb
written (Ok trb) = record { low = low_of trb; high = high_of trb }
written (Err r) = record { low = 0; high = refusal.number_of r }

-- ---- read

abbrev pub put_event : EventTrb → List ℕ → List ℕ
put_event (EventTrb.Transfer t) =
    put (types.transfer_event ∷ t.trb_pointer
    ∷ (t.trb_transfer_length + number_of t.completion_code * 2 ^ 32 + bit t.event_data * 2 ^ 40
    + t.endpoint_id * 2 ^ 48 + t.slot_id * 2 ^ 56) ∷ [])
put_event (EventTrb.CommandCompletion t) =
    put (types.command_completion_event ∷ t.command_trb_pointer
    ∷ (t.command_completion_parameter + number_of t.completion_code * 2 ^ 32 + t.slot_id * 2 ^ 40) ∷ [])
put_event (EventTrb.PortStatusChange t) = put ((types.port_status_change_event + t.port_id * 2 ^ 8) ∷ [])

-- the words that an answer leaves: a refusal leaves them as they were
abbrev pub put_variant : Parsed EventTrb → List ℕ → List ℕ
put_variant (Ok e) ws = put_event e ws
put_variant (Err u) ws = ws

-- 0 for an event; a refusal's number, and in the byte above it the type that document 01 shows beside 10
abbrev pub refusal_shown : Parsed EventTrb → ℕ
refusal_shown (Ok e) = 0
refusal_shown (Err u) = refusal.number_of u.error.refusal + u.error.trb_type * 2 ^ 8

-- the number of what refuses a given event, by what shows it, and 0 where nothing does
abbrev pub number_of_given : {E : Type 0} → (E → ℕ) → Result EventTrb E → ℕ
number_of_given shown (Ok e) = 0
number_of_given shown (Err x) = shown x
