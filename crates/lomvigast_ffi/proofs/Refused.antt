-- What is refused by the ring and its reader has the number that their answers show, which is not 0. Assumes nothing.
use Rattle.std.proofs.Common.{◌≡◌, ℕ, sym, ap, ◌∙◌}
use Rattle.std.specs.Prelude.{Err}
use Rattle.guest.specs.Memory.{Memory}
use Rattle.guest.specs.Refusals.{number_of}
use Rattle.guest.specs.declared.refusal.Refusal.{Refusal}
use Rattle.guest.proofs.Numbers.{number_some}
use Rattle.trb.specs.declared.event.EventTrb.{EventTrb}
use Rattle.event_ring.specs.Answers.{Moved, moved, ReaderMoved, reader_moved, TakeMoved, taken_as}
use Rattle.event_ring.specs.Ring.{configured, added, reader_configured, take}
use Rattle.event_ring.specs.declared.EventRing.{EventRing}
use Rattle.event_ring.specs.declared.EventReader.{EventReader}
use Rattle.event_ring.proofs.Shown.{as_moved, as_reader_moved, as_take, configured_told, added_told, reader_told, take_told}
use Rattle.lomvigast_ffi.specs.Rings.{take_number}

pub record Shown (r : Refusal) (n : ℕ) : Type 0 where
  pub number : number_of r ≡ n
  pub some : n ≡ 0 → ⊥

shown : (r : Refusal) (n : ℕ) → number_of r ≡ n → Shown r n
shown r n e = record { number = e; some = λ z. number_some r (e ∙ z) }

pub configured_shown : (m : Memory) (s : EventRing) (table entries : ℕ) (r : Refusal) → moved (configured m s table entries) ≡ Err r
    → Shown r (configured m s table entries).refusal
configured_shown m s table entries r e = shown r _ (ap (λ (x : Moved). x.refusal) (sym (ap (as_moved s) e) ∙ configured_told m s table entries))

pub reader_shown : (m : Memory) (q : EventReader) (table entries : ℕ) (r : Refusal) → reader_moved (reader_configured m q table entries) ≡ Err r
    → Shown r (reader_configured m q table entries).refusal
reader_shown m q table entries r e =
    shown r _ (ap (λ (x : ReaderMoved). x.refusal) (sym (ap (as_reader_moved q) e) ∙ reader_told m q table entries))

pub added_shown : (m : Memory) (s : EventRing) (e : EventTrb) (report : ℕ) (r : Refusal) → moved (added m s e report) ≡ Err r
    → Shown r (added m s e report).refusal
added_shown m s e report r h = shown r _ (ap (λ (x : Moved). x.refusal) (sym (ap (as_moved s) h) ∙ added_told m s e report))

pub take_shown : (m : Memory) (q : EventReader) (r : Refusal) → taken_as (take m q) ≡ Err r → Shown r (take_number (take m q).answer)
take_shown m q r e = shown r _ (ap (λ (x : TakeMoved). take_number x.answer) (sym (ap (as_take q) e) ∙ take_told m q))
