-- Document 01's refusals: their numbers by name, and the answer that a number stands for. 0 stands for none.
use Rattle.std.specs.Prelude.{ℕ, cond, ◌==◌, Result, Ok, Err}
use Rattle.guest.specs.declared.refusal.Refusal.{Refusal}
use Rattle.guest.specs.declared.refusal.Refusal.TheVariants as refusal

abbrev pub outside : ℕ
outside = 1

abbrev pub table_base : ℕ
table_base = 2

abbrev pub table_entries : ℕ
table_entries = 3

abbrev pub state : ℕ
state = 4

abbrev pub segment : ℕ
segment = 5

abbrev pub report : ℕ
report = 6

abbrev pub full : ℕ
full = 7

abbrev pub event : ℕ
event = 8

abbrev pub optional : ℕ
optional = 9

abbrev pub type : ℕ
type = 10

abbrev pub reserved : ℕ
reserved = 11

abbrev pub code : ℕ
code = 12

abbrev pub immediate : ℕ
immediate = 13

-- the number of a refusal
abbrev pub number_of : Refusal → ℕ
number_of refusal.Outside = outside
number_of refusal.TableBase = table_base
number_of refusal.TableEntries = table_entries
number_of refusal.State = state
number_of refusal.Segment = segment
number_of refusal.Report = report
number_of refusal.Full = full
number_of refusal.Event = event
number_of refusal.Optional = optional
number_of refusal.Type = type
number_of refusal.Reserved = reserved
number_of refusal.Code = code
number_of refusal.Immediate = immediate

-- and the refusal of a number; no test refuses by another number than these
unfoldable pub by_number : ℕ → Refusal
by_number n =
    cond (n == outside) refusal.Outside
    (cond (n == table_base) refusal.TableBase
    (cond (n == table_entries) refusal.TableEntries
    (cond (n == state) refusal.State
    (cond (n == segment) refusal.Segment
    (cond (n == report) refusal.Report
    (cond (n == full) refusal.Full
    (cond (n == event) refusal.Event
    (cond (n == optional) refusal.Optional
    (cond (n == type) refusal.Type
    (cond (n == reserved) refusal.Reserved
    (cond (n == code) refusal.Code
    refusal.Immediate)))))))))))

-- x where the number is 0, else the refusal that has it
abbrev pub as_result : {A : Type 0} → ℕ → A → Result A Refusal
as_result n x = cond (n == 0) (Ok x) (Err (by_number n))
