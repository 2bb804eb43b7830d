-- The chase from here, of a ring that came over so many links and noted nothing else, is the whole chase.
use Rattle.std.proofs.Common.{◌≡◌, ◌<◌, ◌≤◌}
use Rattle.guest.specs.Memory.{window}
use Rattle.linked_ring.specs.Chase.{chase}
use Rattle.lomvigast_ffi.specs.Linked.{ring_of}
use Rattle.lomvigast_ffi.proofs.Links.{from}
use Rattle.lomvigast_ffi.proofs.linked.lomvigast_next_trb.Given as goal

abbrev pub invariant-loop-links : goal.invariant-loop-links
invariant-loop-links l =
    (l.cycle < 2) × (l.links ≤ 256) × (l.ring ≡ l.initial.ring)
    × (from (window l.start l.mem) l.place l.cycle l.links ≡ chase (window l.start l.mem) (ring_of l.initial.ring))
