-- The chase from here, with the links that are left, is the whole chase.
use Rattle.std.proofs.Common.{◌≡◌, ◌-◌}
use Rattle.linked_ring.specs.Chase.{chase_from}
use Rattle.linked_ring.proofs.LinkedRing.go_on.Given as goal

abbrev pub invariant-loop-buffer : goal.invariant-loop-buffer
invariant-loop-buffer l =
    chase_from l.mem (256 - l.notes.links) l.ring l.notes
    ≡ chase_from l.mem (256 - l.initial.notes.links) l.initial.ring l.initial.notes

abbrev pub decreases-loop-buffer : goal.decreases-loop-buffer
decreases-loop-buffer l = 256 - l.notes.links
