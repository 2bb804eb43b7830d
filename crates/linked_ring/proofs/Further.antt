-- In a window d further up, in which the pointers of the Links are d more, a chase answers the same, d further up. Assumes nothing.
use Rattle.std.proofs.Common.{◌≡◌, ℕ, zero, suc, ◌+◌, Bool, true, false, List, [], ◌∷◌, Option, Some, None, refl, arith}
use Rattle.std.specs.Prelude.{Result}
use Rattle.guest.specs.declared.refusal.Refusal.{Refusal}
use Rattle.guest.specs.Bytes.{le, part}
use Rattle.guest.specs.Memory.{Memory, window, inside, trb_at}
use Rattle.guest.proofs.Further.{inside_further}
use Rattle.trb.specs.Links.{link_of}
use Rattle.trb.specs.declared.link.LinkTrb.{LinkTrb}
use Rattle.linked_ring.specs.Chase.{fresh_of, followed, noted, unnoted, seen, look, onward, chase}
use Rattle.linked_ring.specs.Further.{ring_up, chase_up, link_up, SlotUp, WindowUp}
use Rattle.linked_ring.specs.declared.LinkedRing.{LinkedRing}
use Rattle.linked_ring.specs.declared.Notes.{Notes}
use Rattle.linked_ring.specs.declared.Chase.{Chase}

module _ (d : ℕ) (m m' : Memory) (P : ℕ → Type 0) (W : WindowUp d m m' P) where
  look_up : (r : LinkedRing) (n : Notes) (k k' : LinkTrb → Result Chase Refusal) → P r.place
      → ((l : LinkTrb) → P l.ring_segment_pointer → k' (link_up d l) ≡ chase_up d (k l))
      → look m' (ring_up d r) n k' ≡ chase_up d (look m r n k)
  look_up r n k k' p next =
      rw (inside_further d m m' W.further r.place 16)
      (go (inside m r.place 16) (fresh_of r.cycle trb) (link_of trb) refl (W.slots r.place p) refl)
    where
      trb : List ℕ
      trb = trb_at m r.place

      trb' : List ℕ
      trb' = trb_at m' (r.place + d)

      go : (x y : Bool) (z : Option LinkTrb) → fresh_of r.cycle trb ≡ y → (x ≡ true → SlotUp d P trb trb' z) → link_of trb ≡ z
          → seen x (fresh_of r.cycle trb') (link_of trb') trb' (ring_up d r) n k' ≡ chase_up d (seen x y z trb r n k)
      go false y z f s i = refl
      go true y None f s i = rw (s refl, f, i) (by y)
        where
          by : (y : Bool) → seen true y None trb (ring_up d r) n k' ≡ chase_up d (seen true y None trb r n k)
          by true = refl
          by false = refl
      go true false (Some l) f s i = rw ((s refl).0, (s refl).1, f)
      go true true (Some l) f s i = rw ((s refl).0, (s refl).1, f) (next l (s refl).2)

  onward_up : (left : ℕ) (r : LinkedRing) (n : Notes) (l : LinkTrb) → P l.ring_segment_pointer
      → onward m' left (ring_up d r) n (link_up d l) ≡ chase_up d (onward m left r n l)
  unfolding onward
  onward_up zero r n l p = refl
  onward_up (suc left) r n l p =
      let r₁ = followed r l in
      let n₁ = noted n l in
      look_up r₁ n₁ (onward m left r₁ n₁) (onward m' left (ring_up d r₁) n₁) p (onward_up left r₁ n₁)

  pub chase_up_lem : (e : LinkedRing) → P e.place → chase m' (ring_up d e) ≡ chase_up d (chase m e)
  unfolding chase
  chase_up_lem e p = look_up e unnoted (onward m 256 e unnoted) (onward m' 256 (ring_up d e) unnoted) p (onward_up 256 e unnoted)

-- the premises can be met: a Link to itself at the start of a window that begins at 0, and of one that begins at 64
abbrev link_to : ℕ → List ℕ
link_to p = p ∷ 0 ∷ 0 ∷ 0 ∷ 0 ∷ 0 ∷ 0 ∷ 0 ∷ 0 ∷ 0 ∷ 0 ∷ 0 ∷ 1 ∷ 0x18 ∷ 0 ∷ 0 ∷ []

pub chase_up_met : WindowUp 64 (window 0 (link_to 0)) (window 64 (link_to 64)) (λ a. a ≡ 0)
unfolding link_of le part
chase_up_met =
    record {
      further = record { start = refl; long = refl; below = omega arith };
      slots = λ a e i. rw e (refl, refl, refl);
    }
