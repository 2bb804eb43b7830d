-- What this crate's functions answer. Each touches memory once, so refusal 1 is the only one.
use Rattle.std.specs.Prelude.{ℕ, List, [], ◌∷◌, Result, Ok, Err}
use Rattle.guest.specs.declared.refusal.Refusal.{Refusal}
use Rattle.guest.specs.Refusals.{outside, by_number, as_result}
use Rattle.guest.specs.Refusals as refusals
use Rattle.guest.specs.Judge.{Tests, judge, refusal_of}
use Rattle.guest.specs.Memory.{Memory, inside, offset, le, part, trb_at, write}
use Rattle.guest.specs.Fields.{dword, low_of, high_of}
use Rattle.guest.specs.declared.Slot.{Slot}

abbrev pub touches : Memory → ℕ → ℕ → Tests
touches m a k = (outside, inside m a k) ∷ []

-- x where the k bytes at a are inside, else refusal 1
abbrev pub touching : {A : Type 0} → Memory → ℕ → ℕ → A → Result A Refusal
touching m a k x = judge (touches m a k) (λ n. Err (by_number n)) (Ok x)

-- k bytes at a; the number that they are, and what is made of that number
abbrev pub bytes_read : Memory → ℕ → ℕ → Result (List ℕ) Refusal
bytes_read m a k = touching m a k (part m a k)

abbrev pub number_as : {A : Type 0} → (ℕ → A) → Memory → ℕ → ℕ → Result A Refusal
number_as made m a k = touching m a k (made (le m a k))

abbrev pub number_at : Memory → ℕ → ℕ → Result ℕ Refusal
number_at = number_as (λ n. n)

abbrev pub trb_read : Memory → ℕ → Result (List ℕ) Refusal
trb_read m a = bytes_read m a 16

-- the same sixteen bytes as numbers: dword 3, and both halves
abbrev pub slot_of : List ℕ → Slot
slot_of trb = record { d3 = dword trb 3; low = low_of trb; high = high_of trb }

abbrev pub slot_read : Memory → ℕ → Result Slot Refusal
slot_read m a = touching m a 16 (slot_of (trb_at m a))

-- sixteen bytes written at a: the number answered, the answer, and the memory afterwards
abbrev pub write_number : Memory → ℕ → ℕ
write_number m a = refusal_of (touches m a 16)

abbrev pub write_answer : Memory → ℕ → Result (Unit {0}) Refusal
write_answer m a = as_result (write_number m a) tt

abbrev pub write_memory : Memory → ℕ → List ℕ → Memory
write_memory m a trb = judge (touches m a 16) (λ n. m) (write m a trb)

-- how far from the window's start k bytes at a are, and those bytes; 0 and none where they are not all inside
abbrev pub offset_of : Memory → ℕ → ℕ → ℕ
offset_of m a k = judge (touches m a k) (λ n. 0) (offset m a)

abbrev pub part_of : Memory → ℕ → ℕ → List ℕ
part_of m a k = judge (touches m a k) (λ n. []) (part m a k)

-- document 01's number of an answer, 0 for a value, and its values
abbrev pub number_of : {A : Type 0} → Result A Refusal → ℕ
number_of (Ok x) = 0
number_of (Err r) = refusals.number_of r

abbrev pub values_of : Result ℕ Refusal → List ℕ
values_of (Ok v) = v ∷ []
values_of (Err r) = []
