-- The marked cases of document 01, one statement over them all, of the definitions that the contracts cite; P1 and P4 for every TRB. Assumes nothing.
use Rattle.std.proofs.Common.{◌≡◌, ℕ, zero, suc, ◌+◌, Bool, true, false, not, List, [], ◌∷◌, ◌++◌, replicate, refl, ap}
use Rattle.guest.specs.Judge.{judge}
use Rattle.guest.specs.Bytes.{le, part, write}
use Rattle.guest.specs.Memory.{Memory, window, inside, trb_at}
use Rattle.guest.specs.Fields.{field, bytes_of}
use Rattle.codes.specs.Codes.{number_of}
use Rattle.codes.specs.declared.CompletionCode.{CompletionCode}
use Rattle.trb.specs.Trb.{type_of, cycle_of, unrecognized}
use Rattle.trb.specs.Events.{event_dwords, valid, accepted, bytes_answered}
use Rattle.trb.specs.Commands as commands
use Rattle.trb.specs.Transfers as transfers
use Rattle.trb.specs.declared.event.EventTrb.{EventTrb}
use Rattle.trb.specs.declared.command.CommandTrbVariant.{CommandTrbVariant}
use Rattle.trb.specs.declared.link.LinkTrb.{LinkTrb}
use Rattle.trb.specs.Links.{link_of}
use Rattle.linked_ring.specs.Chase.{ring_at, ended, onward, chase}
use Rattle.linked_ring.specs.declared.LinkedRing.{LinkedRing}
use Rattle.linked_ring.specs.declared.Found.{Found}
use Rattle.linked_ring.proofs.Links.{Itself, notes_of, L1, L2}
use Rattle.event_ring.specs.Ring.{empty, entry_at, good_entry, ok_state, next_index, next_tests, next_state, configured, added, added_memory}
use Rattle.event_ring.specs.declared.EventRing.{EventRing}

-- ---- rings: memories, and what comes of adding one event after another

-- an entry of a table
abbrev entry : ℕ → ℕ → List ℕ
entry base size = bytes_of 8 base ++ bytes_of 8 size

-- a table at the window's start, and zeros behind it beyond the segments
abbrev memory : ℕ → List ℕ → Memory
memory start table = window start (table ++ replicate 0x150 0)

abbrev port_event : EventTrb
port_event = EventTrb.PortStatusChange (record { port_id = 3 })

-- the number that an add answers, the slot at which the ring stood, and the cycle bit that stands there afterwards
pub record Outcome : Type 0 where
  pub number : ℕ
  pub slot : ℕ
  pub cycle : Bool

abbrev outcomes : Memory → EventRing → List ℕ → List Outcome
outcomes m s [] = []
outcomes m s (report ∷ reports) =
    let m' = added_memory m s port_event report in
    record { number = (added m s port_event report).refusal; slot = s.place; cycle = cycle_of (trb_at m' s.place) }
    ∷ outcomes m' (added m s port_event report).ring reports

-- adds with these reports to a ring configured on a table of so many entries
abbrev adding : ℕ → List ℕ → ℕ → List ℕ → List Outcome
adding start table entries reports = outcomes (memory start table) (configured (memory start table) empty start entries).ring reports

abbrev outcome : ℕ → ℕ → Bool → Outcome
outcome n slot cycle = record { number = n; slot = slot; cycle = cycle }

-- a Link at the window's start to itself, with these bits in byte 12
abbrev link_to_start : ℕ → ℕ → Memory
link_to_start start bits = window start (bytes_of 8 start ++ (0 ∷ 0 ∷ 0 ∷ 0 ∷ bits ∷ 0x18 ∷ 0 ∷ 0 ∷ []))

-- the cases that have addresses, in a window that begins at b, with every address told from there
pub record Rings (b : ℕ) : Type 0 where
  -- a fresh Link to itself
  pub L1 : chase (link_to_start b 1) (ring_at b true) ≡ ended Found.TooManyLinks (ring_at b true) (record { links = 256; cleared = false; completion = false })
  pub L2 : chase (link_to_start b 3) (ring_at b true) ≡ ended Found.NothingNew (ring_at b false) (record { links = 1; cleared = false; completion = false })
  -- one segment, base 0x100, size 2
  pub R1 :
      adding b (entry (b + 0x100) 2) 1 ((b + 0x100) ∷ (b + 0x100) ∷ (b + 0x110) ∷ (b + 0x110) ∷ (b + 0x100) ∷ [])
      ≡ outcome 0 (b + 0x100) true ∷ outcome 7 (b + 0x110) false ∷ outcome 0 (b + 0x110) true ∷ outcome 7 (b + 0x100) true ∷ outcome 0 (b + 0x100) false ∷ []
  -- one segment of size 1, report its base: always 7
  pub R2 : (n : ℕ) → adding b (entry (b + 0x100) 1) 1 (replicate n (b + 0x100)) ≡ replicate n (outcome 7 (b + 0x100) false)
  -- sizes 1 and 1: one accepted, then 7, until a report moves
  pub R3 :
      adding b (entry (b + 0x100) 1 ++ entry (b + 0x140) 1) 2 ((b + 0x100) ∷ (b + 0x100) ∷ (b + 0x140) ∷ (b + 0x140) ∷ [])
      ≡ outcome 0 (b + 0x100) true ∷ outcome 7 (b + 0x140) false ∷ outcome 0 (b + 0x140) true ∷ outcome 7 (b + 0x100) true ∷ []

pub record Marked : Type 0 where
  -- command completion, pointer 0x1000, parameter 0, code 1, slot 1, cycle 1
  pub E1 :
      bytes_answered (EventTrb.CommandCompletion (record {
        command_trb_pointer = 0x1000;
        command_completion_parameter = 0;
        completion_code = CompletionCode.Success;
        slot_id = 1;
      })) true
      ≡ accepted (0x00 ∷ 0x10 ∷ 0 ∷ 0 ∷ 0 ∷ 0 ∷ 0 ∷ 0 ∷ 0 ∷ 0 ∷ 0 ∷ 0x01 ∷ 0x01 ∷ 0x84 ∷ 0x00 ∷ 0x01 ∷ [])
  -- port 3, cycle 0
  pub E2 :
      bytes_answered (EventTrb.PortStatusChange (record { port_id = 3 })) false
      ≡ accepted (0 ∷ 0 ∷ 0 ∷ 0x03 ∷ 0 ∷ 0 ∷ 0 ∷ 0 ∷ 0 ∷ 0 ∷ 0 ∷ 0x01 ∷ 0x00 ∷ 0x88 ∷ 0 ∷ 0 ∷ [])
  -- transfer, pointer 0x2010, length 5, code 13, flag set, endpoint 3, slot 2, cycle 1
  pub E3 :
      bytes_answered (EventTrb.Transfer (record {
        trb_pointer = 0x2010;
        trb_transfer_length = 5;
        completion_code = CompletionCode.ShortPacket;
        event_data = true;
        endpoint_id = 3;
        slot_id = 2;
      })) true
      ≡ accepted (0x10 ∷ 0x20 ∷ 0 ∷ 0 ∷ 0 ∷ 0 ∷ 0 ∷ 0 ∷ 0x05 ∷ 0 ∷ 0 ∷ 0x0d ∷ 0x05 ∷ 0x80 ∷ 0x03 ∷ 0x02 ∷ [])
  -- type 11, the pointer's low four bits 0x08: refusal 11
  pub P1 : (trb : List ℕ) → type_of trb ≡ 11 → field trb 0 0 4 ≡ 0x08 → commands.command_of trb ≡ unrecognized 11 0 trb
  -- type 16, byte 0 = 0x47, bytes 10 to 12 = 34 12 01: cycle 1, type 3, pointer 0x40, stream 0x1234
  pub P2 :
      commands.command_of (0x47 ∷ 0 ∷ 0 ∷ 0 ∷ 0 ∷ 0 ∷ 0 ∷ 0 ∷ 0 ∷ 0 ∷ 0x34 ∷ 0x12 ∷ 0x01 ∷ 0x40 ∷ 0 ∷ 0 ∷ [])
      ≡ commands.answered (CommandTrbVariant.SetTrDequeuePointer (record {
        dequeue_cycle_state = true;
        stream_context_type = 3;
        dequeue_pointer = 0x40;
        stream_id = 0x1234;
        endpoint_id = 0;
        slot_id = 0;
      }))
  -- type 6 in the transfer parser: refusal 10 with 6; type 18 as command: 9
  pub P4_transfer : (trb : List ℕ) → type_of trb ≡ 6 → transfers.transfer_of trb ≡ unrecognized 10 6 trb
  pub P4_command : (trb : List ℕ) → type_of trb ≡ 18 → commands.command_of trb ≡ unrecognized 9 18 trb
  -- a fresh Link to itself, at any memory: without toggle too many links, 256 followed; with toggle nothing new, one followed, state flipped
  pub L1 : (m : Memory) (r : LinkedRing) (l : LinkTrb) → Itself m r l → l.toggle_cycle ≡ false
      → chase m r ≡ ended Found.TooManyLinks r (notes_of 256 l)
  pub L2 : (m : Memory) (r : LinkedRing) (l : LinkTrb) → Itself m r l → l.toggle_cycle ≡ true
      → chase m r ≡ ended Found.NothingNew (ring_at r.place (not r.cycle)) (notes_of 1 l)
  -- and at the bytes of a window that begins at 0, as document 01 has them, and of one that begins at 2 ^ 64 - 0x200
  pub rings : Rings 0
  pub moved : Rings 0xffff_ffff_ffff_fe00

-- R2: the refusal leaves memory and ring as they were, so the next add is refused too
always_full : (n : ℕ) → adding 0 (entry 0x100 1) 1 (replicate n 0x100) ≡ replicate n (outcome 7 0x100 false)
unfolding judge le part inside write bytes_of number_of event_dwords valid entry_at good_entry ok_state next_index next_tests next_state configured added added_memory
always_full zero = refl
always_full (suc n) = ap (λ (rest : List Outcome). outcome 7 0x100 false ∷ rest) (always_full n)

abbrev top : ℕ
top = 0xffff_ffff_ffff_ff00

moved_full : (n : ℕ) → adding 0xffff_ffff_ffff_fe00 (entry top 1) 1 (replicate n top) ≡ replicate n (outcome 7 top false)
unfolding judge le part inside write bytes_of number_of event_dwords valid entry_at good_entry ok_state next_index next_tests next_state configured added added_memory
moved_full zero = refl
moved_full (suc n) = ap (λ (rest : List Outcome). outcome 7 top false ∷ rest) (moved_full n)

pub marked : Marked
unfolding judge le part inside write bytes_of number_of event_dwords valid bytes_answered commands.command_of transfers.transfer_of link_of onward chase entry_at good_entry ok_state next_index next_tests next_state configured added added_memory
marked =
    record {
      E1 = refl;
      E2 = refl;
      E3 = refl;
      P1 = λ trb t low. rw (t, low);
      P2 = refl;
      P4_transfer = λ trb t. rw t;
      P4_command = λ trb t. rw t;
      L1 = λ m r l it. L1 m r l it;
      L2 = λ m r l it. L2 m r l it;
      rings = record { L1 = refl; L2 = refl; R1 = refl; R2 = always_full; R3 = refl };
      moved = record { L1 = refl; L2 = refl; R1 = refl; R2 = moved_full; R3 = refl };
    }
