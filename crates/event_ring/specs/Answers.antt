-- What configure, add and take answer, in document 01's words: the number of the refusal, 0 for none, and the ring or the reader afterwards. The
-- functions themselves answer with a Result, in which a refusal shows neither.
use Rattle.std.specs.Prelude.{ℕ, List, Option, Some, None, Result, Ok, Err}
use Rattle.guest.specs.Refusals.{by_number, as_result}
use Rattle.guest.specs.declared.refusal.Refusal.{Refusal}
use Rattle.event_ring.specs.declared.EventRing.{EventRing}
use Rattle.event_ring.specs.declared.EventReader.{EventReader}
use Rattle.event_ring.specs.declared.Taken.{Taken}

pub record Moved : Type 0 where
  pub refusal : ℕ
  pub ring : EventRing

abbrev pub moved : Moved → Result EventRing Refusal
moved x = as_result x.refusal x.ring

pub record ReaderMoved : Type 0 where
  pub refusal : ℕ
  pub reader : EventReader

abbrev pub reader_moved : ReaderMoved → Result EventReader Refusal
reader_moved x = as_result x.refusal x.reader

pub data Take : Type 0 where
  Event : Take
  Nothing : Take
  Refused : ℕ → Take

-- with the event's raw bytes, where there is one
pub record TakeMoved : Type 0 where
  pub answer : Take
  pub trb : List ℕ
  pub reader : EventReader

abbrev pub taken_by : Take → List ℕ → EventReader → Result (Option Taken) Refusal
taken_by Take.Event trb r = Ok (Some (record { trb = trb; reader = r }))
taken_by Take.Nothing trb r = Ok None
taken_by (Take.Refused n) trb r = Err (by_number n)

abbrev pub taken_as : TakeMoved → Result (Option Taken) Refusal
taken_as x = taken_by x.answer x.trb x.reader
