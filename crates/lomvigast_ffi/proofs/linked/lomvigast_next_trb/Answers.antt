-- By what stands at the place: stale, fresh and no Link, or a Link that leaves nothing to note; each has its law.
use Rattle.std.proofs.Common.{◌≡◌, ℕ, ◌/◌, ◌%◌, sym, refl, ap, ◌∙◌, arith, eqb-true}
use Rattle.std.specs.Prelude.{Ok}
use Rattle.guest.specs.Memory.{Memory, window, trb_at}
use Rattle.guest.specs.Answers.{slot_of, slot_read}
use Rattle.guest.specs.declared.Slot.{Slot}
use Rattle.guest.proofs.Answers.{Touched, touching_ok}
use Rattle.guest.proofs.Tests.{both}
use Rattle.linked_ring.specs.Chase.{chase}
use Rattle.lomvigast_ffi.proofs.Links.{stale, other, follow}
use Rattle.lomvigast_ffi.proofs.linked.lomvigast_next_trb.Goals as goal

-- the slot that was read
module _ (m w : Memory) (e : w ≡ m) (p : ℕ) (s : Slot) (r : slot_read w p ≡ Ok s) where
  seen : Touched m p 16 (slot_of (trb_at m p)) s
  seen = touching_ok m p 16 (slot_of (trb_at m p)) s (rw e at r)

  d3 : s.d3 ≡ (slot_of (trb_at m p)).d3
  d3 = ap (λ (x : Slot). x.d3) seen.is

pub loop-links-init : goal.loop-links-init
unfolding chase
loop-links-init c = (omega arith, omega arith, refl, refl)

pub returns-then-slot-cycle : goal.returns-then-slot-cycle
returns-then-slot-cycle c =
    let m = window c.args.start c.args.mem.now in
    let a = c.loop-links in
    let v = a.invariant in
    let r = sym c.read_next_slot.ensures ∙ c.in-Ok.is in
    let read = seen m _ c.at-window.ensures a.place c.in-Ok.slot r in
    let s = stale m a.place a.cycle a.links read.within v.0
    (λ q. c.if-slot-cycle.true (ap (λ (n : ℕ). n % 2) (d3 m _ c.at-window.ensures a.place c.in-Ok.slot r) ∙ q)) c.args.ring.now in
    rw (← v.3) (c.met.ensures ∙ s.0, c.put.ensures ∙ s.1)

pub returns-then-slot : goal.returns-then-slot
returns-then-slot c =
    let m = window c.args.start c.args.mem.now in
    let a = c.loop-links in
    let v = a.invariant in
    let r = sym c.read_next_slot.ensures ∙ c.in-Ok.is in
    let read = seen m _ c.at-window.ensures a.place c.in-Ok.slot r in
    let number = d3 m _ c.at-window.ensures a.place c.in-Ok.slot r in
    let s = other m a.place a.cycle a.links read.within v.0
    (ap (λ (n : ℕ). n % 2) (sym number) ∙ c.if-slot-cycle.false)
    (λ q. c.if-slot.true (ap (λ (n : ℕ). n / 0x400 % 0x40) number ∙ q)) c.args.ring.now in
    rw (← v.3) (c.found.ensures.0 ∙ (rw read.is s.0), c.found.ensures.1 ∙ s.1)

pub loop-links-preserved : goal.loop-links-preserved
loop-links-preserved c =
    let m = window c.args.start c.args.mem.now in
    let a = c.loop-links in
    let v = a.invariant in
    let r = sym c.read_next_slot.ensures ∙ c.in-Ok.is in
    let read = seen m _ c.at-window.ensures a.place c.in-Ok.slot r in
    let number = d3 m _ c.at-window.ensures a.place c.in-Ok.slot r in
    let plain = both _ _ c.if-not-slot.false in
    let on = follow m a.place a.cycle a.links read.within v.0 (λ j. (c.type_inv.mem j).fits)
    (ap (λ (x : Slot). x.low % 16) (sym read.is) ∙ eqb-true _ _ plain.1)
    (omega arith)
    (ap (λ (n : ℕ). n % 2) (sym number) ∙ c.if-slot-cycle.false)
    (ap (λ (n : ℕ). n / 0x400 % 0x40) (sym number) ∙ c.if-slot.false)
    (ap (λ (n : ℕ). n / 0x20 % 2) (sym number) ∙ eqb-true _ _ plain.0) in
    (omega arith, omega arith, v.2, rw read.is (sym on ∙ v.3))

-- Where the whole rule begins anew, the ring is the one that was lent. Without this answer the check finds it too, and of
-- must-fail/refusal_keeps_moved_place it would say that it gave up, and not what differs.
pub returns : goal.returns
returns c = rw (← c.loop-links.invariant.2) c.chase.ensures
