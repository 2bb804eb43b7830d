-- A chase over links that leave nothing to note: what a look at the place comes to, in the terms of the code. Assumes nothing.
use Rattle.std.proofs.Common.{◌≡◌, ℕ, zero, suc, ◌+◌, ◌-◌, ◌/◌, ◌%◌, ◌<◌, true, false, not, eqb, List, [], ◌∷◌, replicate, refl, ap, ◌∙◌, ap₂, arith, eq-eqb, ne_eqb}
use mathlib.Core.Bool.{beq}
use Rattle.guest.specs.Bytes.{le}
use Rattle.guest.specs.Memory.{Memory, inside, trb_at}
use Rattle.guest.specs.Fields.{dword, low_of, high_of}
use Rattle.guest.proofs.Bytes.{Bytes}
use Rattle.guest.proofs.Fields.{halves}
use Rattle.trb.specs.Trb.{aligned_of}
use Rattle.trb.specs.Links.{link_of, link_trb}
use Rattle.trb.specs.declared.link.LinkTrb.{LinkTrb}
use Rattle.linked_ring.specs.Chase.{ring_at, chase_from, onward, ended, found, followed, noted}
use Rattle.linked_ring.specs.declared.LinkedRing.{LinkedRing}
use Rattle.linked_ring.specs.declared.Notes.{Notes}
use Rattle.linked_ring.specs.declared.Found.{Found}
use Rattle.std.specs.Prelude.{Result}
use Rattle.guest.specs.declared.refusal.Refusal.{Refusal}
use Rattle.linked_ring.specs.declared.Chase.{Chase}
use Rattle.lomvigast_ffi.specs.Linked.{ring_after, flat_chase}
use Rattle.lomvigast_ffi.specs.declared.linked.CChase.{CChase}
use Rattle.lomvigast_ffi.proofs.Slots.{four_below, fresh_yes, fresh_no, bit_one}

-- so many links, and nothing else to note
abbrev counted : ℕ → Notes
counted n = record { links = n; cleared = false; completion = false }

-- the chase at a place with a cycle as a number, k links on
abbrev pub from : Memory → ℕ → ℕ → ℕ → Result Chase Refusal
from m p c k = chase_from m (256 - k) (ring_at p (eqb c 1)) (counted k)

-- the flag that a sum of two is
flip : (c t : ℕ) → c < 2 → t < 2 → not (beq (eqb c 1) (eqb t 1)) ≡ eqb ((c + t) % 2) 1
flip zero zero p q = refl
flip zero (suc zero) p q = refl
flip zero (suc (suc t)) p q = absurd (omega arith)
flip (suc zero) zero p q = refl
flip (suc zero) (suc zero) p q = refl
flip (suc zero) (suc (suc t)) p q = absurd (omega arith)
flip (suc (suc c)) t p q = absurd (omega arith)

pub zeros : (low_of (replicate 16 0) ≡ 0) × (high_of (replicate 16 0) ≡ 0)
unfolding le
zeros = (refl, refl)

-- a Link with a link left is followed
onward_on : (m : Memory) (left : ℕ) (r : LinkedRing) (n : Notes) (l : LinkTrb)
    → onward m (suc left) r n l ≡ chase_from m left (followed r l) (noted n l)
unfolding onward
onward_on m left r n l = refl

-- a chase, flat, with the ring's words
abbrev pub Flat : Result Chase Refusal → List ℕ → CChase → List ℕ → Type 0
Flat x ws r after = (r ≡ flat_chase x) × (after ≡ ring_after x ws)

module _ (m : Memory) (p c k : ℕ) (i : inside m p 16 ≡ true) (l : c < 2) where
  abbrev trb : List ℕ
  trb = trb_at m p

  abbrev d3 : ℕ
  d3 = dword trb 3

  abbrev x : Result Chase Refusal
  x = from m p c k

  -- stale
  pub stale : (d3 % 2 ≡ c → ⊥) → (ws : List ℕ)
      → Flat x ws (record { kind = 0; address = 0; low = 0; high = 0; notes = k }) (p ∷ c ∷ [])
  stale n ws =
      let e : x ≡ ended Found.NothingNew (ring_at p (eqb c 1)) (counted k) = rw (i, fresh_no trb c l n) in
      rw (e, zeros.0, zeros.1, bit_one c l) (ap (λ (n : ℕ). record { kind = 0; address = 0; low = 0; high = 0; notes = n }) (omega arith), refl)

  -- fresh, and no Link
  pub other : d3 % 2 ≡ c → (d3 / 0x400 % 0x40 ≡ 6 → ⊥) → (ws : List ℕ)
      → Flat x ws (record { kind = 1; address = p; low = low_of trb; high = high_of trb; notes = k }) (p ∷ c ∷ [])
  unfolding link_of
  other y n ws =
      let e : x ≡ found trb (ring_at p (eqb c 1)) (counted k) = rw (i, fresh_yes trb c y, ne_eqb _ 6 n) in
      rw (e, bit_one c l) (ap (λ (n : ℕ). record { kind = 1; address = p; low = low_of trb; high = high_of trb; notes = n }) (omega arith), refl)

  -- a Link that leaves nothing to note is followed
  module _ (b : Bytes m.bytes) (z : low_of trb % 16 ≡ 0) where
    aligned : aligned_of trb ≡ low_of trb
    aligned = omega (arith, z, (halves trb).0, four_below m p b 0 (omega arith), four_below m p b 4 (omega arith))

    clear : eqb (dword trb 0 / 1 % 0x10) 0 ≡ true
    clear = eq-eqb (dword trb 0 / 1 % 0x10) 0 (omega (arith, z, (halves trb).0))

    pub follow : k < 256 → d3 % 2 ≡ c → d3 / 0x400 % 0x40 ≡ 6 → d3 / 0x20 % 2 ≡ 0
        → x ≡ from m (low_of trb) ((c + d3 / 2 % 2) % 2) (k + 1)
    unfolding link_of
    follow h y t q =
        let link = link_trb trb in
        let here = ring_at p (eqb c 1) in
        let less : 256 - k ≡ suc (256 - (k + 1)) = omega arith in
        let at_link : x ≡ onward m (256 - k) here (counted k) link = rw (i, fresh_yes trb c y, eq-eqb _ 6 t) in
        let ring : followed here link ≡ ring_at (low_of trb) (eqb ((c + d3 / 2 % 2) % 2) 1) = ap₂ ring_at aligned (flip c (d3 / 2 % 2) l (omega arith)) in
        let notes : noted (counted k) link ≡ counted (k + 1) = rw (clear, q) in
        at_link
        ∙ ap (λ (j : ℕ). onward m j here (counted k) link) less
        ∙ onward_on m (256 - (k + 1)) here (counted k) link
        ∙ ap₂ (λ (r : LinkedRing) (n : Notes). chase_from m (256 - (k + 1)) r n) ring notes
