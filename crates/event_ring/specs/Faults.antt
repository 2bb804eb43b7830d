-- Document 01's refusals of configure, add and take a second time: as facts on the inputs, in its own numbers, order and words. Nothing of
-- Ring.antt is cited here, so that a slip there is a slip on one side only; proofs/Faults.antt shows that both say the same for every input.
use Rattle.std.specs.Prelude.{◌≡◌, ℕ, ◌+◌, ◌*◌, ◌%◌, ◌^◌, ◌<◌, ◌≤◌, true, cond, ◌⊎◌, List, [], ◌∷◌, length, nat_lt}
use Rattle.guest.specs.Faults.{Not, Faults, Inside}
use Rattle.guest.specs.Memory.{Memory, byte, le, trb_at}
use Rattle.trb.specs.Trb.{cycle_of}
use Rattle.trb.specs.declared.event.EventTrb.{EventTrb}
use Rattle.event_ring.specs.declared.EventRing.{EventRing}
use Rattle.event_ring.specs.Answers.{Take}

-- ---- what document 01 asks

-- 5: a segment entry, base at 0 (8 bytes) and size at 8 (4 bytes): the base a multiple of 64, the size 1 to 4096, the whole segment inside memory
pub record Allowed (m : Memory) (entry : ℕ) : Type 0 where
  pub aligned : le m entry 8 % 64 ≡ 0
  pub some : 1 ≤ le m (entry + 8) 4
  pub most : le m (entry + 8) 4 ≤ 4096
  pub inside : Inside m (le m entry 8) (16 * le m (entry + 8) 4)

-- 3: a table of 1 to 16 entries
pub record Counted (entries : ℕ) : Type 0 where
  pub some : 1 ≤ entries
  pub most : entries ≤ 16

-- 4: configured, and the state within its own limits: entries 1 to 16, index below entries, remaining 1 to 4096, table base multiple of 64,
-- place multiple of 16
pub record Limits (s : EventRing) : Type 0 where
  pub ready : s.ready ≡ true
  pub counted : Counted s.entries
  pub index : s.index < s.entries
  pub some : 1 ≤ s.remaining
  pub most : s.remaining ≤ 4096
  pub table : s.table % 64 ≡ 0
  pub place : s.place % 16 ≡ 0

-- 8: a command pointer's low four bits are 0, a parameter and a length are below 2 ^ 24
abbrev pub Fits : EventTrb → Type 0
Fits (EventTrb.Transfer t) = t.trb_transfer_length < 2 ^ 24
Fits (EventTrb.CommandCompletion t) = (t.command_trb_pointer % 16 ≡ 0) × (t.command_completion_parameter < 2 ^ 24)
Fits (EventTrb.PortStatusChange t) = Unit {0}

-- ---- the slot after the present one

-- one slot remains, so that it is in the next entry's segment
abbrev pub Last : EventRing → Type 0
Last s = s.remaining ≡ 1

-- that entry's address: entry 0 comes after the last
abbrev pub next_entry : EventRing → ℕ
next_entry s = s.table + 16 * cond (nat_lt (s.index + 1) s.entries) (s.index + 1) 0

-- 7: the reported place equals that slot; places step modulo 2 ^ 64
abbrev pub Full : Memory → EventRing → ℕ → Type 0
Full m s report = (Last s × (report ≡ le m (next_entry s) 8)) ⊎ (Not (Last s) × (report ≡ (s.place + 16) % 2 ^ 64))

-- a slot is fresh if its cycle bit equals the reader's
abbrev pub Fresh : Memory → EventRing → Type 0
Fresh m s = cycle_of (trb_at m s.place) ≡ s.cycle

-- ---- the orders

-- configure: 2, 3, 1 (all entries of the table, 16 bytes each), 5 (entry 0)
abbrev pub configure_faults : Memory → ℕ → ℕ → Faults
configure_faults m table entries =
    (2, Not (table % 64 ≡ 0)) ∷ (3, Not (Counted entries)) ∷ (1, Not (Inside m table (16 * entries))) ∷ (5, Not (Allowed m table)) ∷ []

-- adding an event: 8, 4, 6, 1 (slot, then next entry if one slot remains), 5 (that entry), 7
abbrev pub add_faults : Memory → EventRing → EventTrb → ℕ → Faults
add_faults m s e report =
    (8, Not (Fits e))
    ∷ (4, Not (Limits s))
    ∷ (6, Not (report % 16 ≡ 0))
    ∷ (1, Not (Inside m s.place 16))
    ∷ (1, Last s × Not (Inside m (next_entry s) 16))
    ∷ (5, Last s × Not (Allowed m (next_entry s)))
    ∷ (7, Full m s report)
    ∷ []

-- event reader: 4, 1 (the slot's 16 bytes), then, only if the slot is fresh and last, 1 and 5 for the next entry
abbrev pub take_faults : Memory → EventRing → Faults
take_faults m s =
    (4, Not (Limits s))
    ∷ (1, Not (Inside m s.place 16))
    ∷ (1, (Fresh m s × Last s) × Not (Inside m (next_entry s) 16))
    ∷ (5, (Fresh m s × Last s) × Not (Allowed m (next_entry s)))
    ∷ []

-- the number that a take was refused with, 0 for none
abbrev pub refused_with : Take → ℕ
refused_with (Take.Refused n) = n
refused_with Take.Event = 0
refused_with Take.Nothing = 0

-- ---- what an accepted add writes: the event's sixteen bytes in the present slot, and no other byte

pub record Writes (m after : Memory) (place : ℕ) (bytes : List ℕ) : Type 0 where
  pub start : after.start ≡ m.start
  pub long : length after.bytes ≡ length m.bytes
  pub there : trb_at after place ≡ bytes
  pub elsewhere : (a : ℕ) → m.start ≤ a → (a < place) ⊎ (place + 16 ≤ a) → byte after a ≡ byte m a
