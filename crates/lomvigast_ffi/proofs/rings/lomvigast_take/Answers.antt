-- The usual case by its two laws, at a plain ring's place.
use Rattle.std.proofs.Common.{◌≡◌, ℕ, ◌+◌, ◌-◌, ◌%◌, ◌^◌, [], ◌∷◌, get_or, sym, ap, ◌∙◌, arith}
use Rattle.guest.specs.Memory.{window}
use Rattle.guest.specs.Memory.{trb_at}
use Rattle.guest.specs.Answers.{slot_of}
use Rattle.guest.specs.declared.Slot.{Slot}
use Rattle.guest.proofs.Answers.{Touched, touching_ok}
use Rattle.guest.proofs.Tests.{told}
use Rattle.lomvigast_ffi.specs.Rings.{stepped}
use Rattle.lomvigast_ffi.proofs.States.{numbers, rounded}
use Rattle.lomvigast_ffi.proofs.Usual.{usual_nothing, usual_take}
use Rattle.lomvigast_ffi.proofs.rings.lomvigast_take.Goals as goal

pub returns-then-slot-reader : goal.returns-then-slot-reader
returns-then-slot-reader c =
    let m = window c.args.start c.args.mem.now in
    let ws = c.args.reader.now in
    let usual = told c.plain.ensures c.if-not-plain.false in
    let p = rounded ws usual _ c.rounded-place.ensures in
    let read : Touched m (get_or ws 1 0) 16 (slot_of (trb_at m (get_or ws 1 0))) c.in-Ok.slot =
    touching_ok m (get_or ws 1 0) 16 _ _ (rw (c.at.ensures, p) at (sym c.read_slot.ensures ∙ c.in-Ok.is)) in
    let d3 = ap (λ (x : Slot). x.d3) read.is in
    usual_nothing m ws usual read.within (λ q. c.if-slot-reader.true (ap (λ (n : ℕ). n % 2) d3 ∙ q)) c.args.out.now

pub overflow_sub-remaining : goal.overflow_sub-remaining
overflow_sub-remaining c = omega (arith, (numbers c.args.reader.now (told c.plain.ensures c.if-not-plain.false)).more)

pub returns : goal.returns
returns c =
    let m = window c.args.start c.args.mem.now in
    let ws = c.args.reader.now in
    let usual = told c.plain.ensures c.if-not-plain.false in
    let p = rounded ws usual _ c.rounded-place.ensures in
    let read : Touched m (get_or ws 1 0) 16 (slot_of (trb_at m (get_or ws 1 0))) c.in-Ok.slot =
    touching_ok m (get_or ws 1 0) 16 _ _ (rw (c.at.ensures, p) at (sym c.read_slot.ensures ∙ c.in-Ok.is)) in
    let d3 = ap (λ (x : Slot). x.d3) read.is in
    let next : (c.rounded-place.result + 16) % 2 ^ 64 ≡ (get_or ws 1 0 + 16) % 2 ^ 64 = ap (λ (x : ℕ). (x + 16) % 2 ^ 64) p in
    let q = usual_take m ws usual read.within (ap (λ (n : ℕ). n % 2) (sym d3) ∙ c.if-slot-reader.false) c.args.out.now in (
      q.0,
      c.step.ensures ∙ ap (λ (x : ℕ). stepped x (get_or ws 2 0 - 1) ws) next ∙ q.1,
      ap (λ (x : Slot). x.low ∷ x.high ∷ []) read.is ∙ q.2,
    )
