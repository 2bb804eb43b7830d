-- What is done with a ring and a reader, and what a plain list with two counters answers to it.
use Rattle.std.specs.Prelude.{ℕ, ◌+◌, ◌-◌, ◌%◌, ◌^◌, Bool, true, cond, not, ◌&&◌, List, [], ◌∷◌, ◌++◌, length, get_or, eqb, ltb}
use Rattle.guest.specs.Refusals as refusal
use Rattle.trb.specs.declared.event.EventTrb.{EventTrb}

-- ---- operations: any event is added, an event is taken, the reader's place is reported, bytes outside table and segments change

pub data Op : Type 0 where
  adds : EventTrb → Op
  takes : Op
  reports : Op
  changes : ℕ → List ℕ → Op

-- ---- a machine does one operation after another, and answers each

pub data Answer : Type 0 where
  accepted : Answer
  refused : ℕ → Answer
  gives : EventTrb → Answer
  nothing : Answer
  garbled : Answer
  done : Answer

pub record Turn (A : Type 0) : Type 0 where
  pub answer : Answer
  pub after : A

abbrev pub turn : {A : Type 0} → Answer → A → Turn A
turn a x = record { answer = a; after = x }

-- the answers to a list of operations, and the state after them
unfoldable pub answers : {A : Type 0} → (A → Op → Turn A) → A → List Op → List Answer
answers f x [] = []
answers f x (o ∷ os) = (f x o).answer ∷ answers f (f x o).after os

unfoldable pub final : {A : Type 0} → (A → Op → Turn A) → A → List Op → A
final f x [] = x
final f x (o ∷ os) = final f (f x o).after os

-- ---- the plain list: the events accepted, how many of them are taken, and how many of those are reported

pub record Plain : Type 0 where
  pub events : List EventTrb
  pub taken : ℕ
  pub reported : ℕ

abbrev pub nth : List EventTrb → ℕ → EventTrb
nth es n = get_or es n (EventTrb.PortStatusChange (record { port_id = 0 }))

-- an event that can be written: a command pointer's low four bits are 0, a parameter and a length are below 2 ^ 24
unfoldable pub fits : EventTrb → Bool
fits (EventTrb.Transfer t) = ltb t.trb_transfer_length (2 ^ 24)
fits (EventTrb.CommandCompletion t) = eqb (t.command_trb_pointer % 16) 0 && ltb t.command_completion_parameter (2 ^ 24)
fits (EventTrb.PortStatusChange t) = true

-- an event that does not fit is refused with 8; one that does with 7 exactly if all slots but one hold events not yet reported as taken, and
-- else it is accepted. A take gives nothing exactly if every accepted event is taken, and else the next.
unfoldable pub list_machine : ℕ → Plain → Op → Turn Plain
list_machine n l (adds e) =
    cond (not (fits e)) (turn (refused refusal.event) l)
    (cond (eqb (length l.events - l.reported) (n - 1)) (turn (refused refusal.full) l)
    (turn accepted (record { events = l.events ++ (e ∷ []); taken = l.taken; reported = l.reported })))
list_machine n l takes =
    cond (eqb l.taken (length l.events)) (turn nothing l)
    (turn (gives (nth l.events l.taken)) (record { events = l.events; taken = l.taken + 1; reported = l.reported }))
list_machine n l reports = turn done (record { events = l.events; taken = l.taken; reported = l.taken })
list_machine n l (changes a bytes) = turn done l
