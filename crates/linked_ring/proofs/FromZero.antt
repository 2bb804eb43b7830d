-- A chase in a window that begins at 0 is document 01's chase in a list of bytes, the first of which has the address 0. Its definitions
-- stand here by themselves, each with a 0 to its name. Assumes nothing.
use Rattle.std.proofs.Common.{◌≡◌, ℕ, zero, suc, Bool, true, false, List, Option, Some, None, refl}
use Rattle.std.specs.Prelude.{Result}
use Rattle.guest.specs.declared.refusal.Refusal.{Refusal}
use Rattle.guest.specs.Memory.{window}
use Rattle.guest.proofs.FromZero.{inside₀, part₀, inside_zero, part_zero}
use Rattle.trb.specs.Links.{link_of}
use Rattle.trb.specs.declared.link.LinkTrb.{LinkTrb}
use Rattle.linked_ring.specs.Chase.{fresh_of, followed, unnoted, noted, ended, seen, look, onward, chase_from, chase}
use Rattle.linked_ring.specs.declared.LinkedRing.{LinkedRing}
use Rattle.linked_ring.specs.declared.Notes.{Notes}
use Rattle.linked_ring.specs.declared.Found.{Found}
use Rattle.linked_ring.specs.declared.Chase.{Chase}

abbrev pub look₀ : List ℕ → LinkedRing → Notes → (LinkTrb → Result Chase Refusal) → Result Chase Refusal
look₀ m r n onward =
    let trb : List ℕ = part₀ m r.place 16 in
    seen (inside₀ m r.place 16) (fresh_of r.cycle trb) (link_of trb) trb r n onward

unfoldable pub onward₀ : List ℕ → ℕ → LinkedRing → Notes → LinkTrb → Result Chase Refusal
onward₀ m zero r n l = ended Found.TooManyLinks r n
onward₀ m (suc left) r n l = look₀ m (followed r l) (noted n l) (onward₀ m left (followed r l) (noted n l))

abbrev pub chase_from₀ : List ℕ → ℕ → LinkedRing → Notes → Result Chase Refusal
chase_from₀ m left r n = look₀ m r n (onward₀ m left r n)

abbrev pub chase₀ : List ℕ → LinkedRing → Result Chase Refusal
chase₀ m r = chase_from₀ m 256 r unnoted

module _ (m : List ℕ) where
  look_zero : (r : LinkedRing) (n : Notes) (k k₀ : LinkTrb → Result Chase Refusal) → ((l : LinkTrb) → k l ≡ k₀ l)
      → look (window 0 m) r n k ≡ look₀ m r n k₀
  look_zero r n k k₀ same =
      let trb = part₀ m r.place 16 in
      rw (inside_zero m r.place 16, part_zero m r.place 16)
      (by (inside₀ m r.place 16) (fresh_of r.cycle trb) (link_of trb) trb)
    where
      by : (x y : Bool) (z : Option LinkTrb) (trb : List ℕ) → seen x y z trb r n k ≡ seen x y z trb r n k₀
      by false y z trb = refl
      by true false z trb = refl
      by true true None trb = refl
      by true true (Some l) trb = same l

  onward_zero : (left : ℕ) (r : LinkedRing) (n : Notes) (l : LinkTrb) → onward (window 0 m) left r n l ≡ onward₀ m left r n l
  unfolding onward onward₀
  onward_zero zero r n l = refl
  onward_zero (suc left) r n l =
      let r₁ = followed r l in
      let n₁ = noted n l in
      look_zero r₁ n₁ (onward (window 0 m) left r₁ n₁) (onward₀ m left r₁ n₁) (onward_zero left r₁ n₁)

  pub chase_from_zero : (left : ℕ) (r : LinkedRing) (n : Notes) → chase_from (window 0 m) left r n ≡ chase_from₀ m left r n
  chase_from_zero left r n = look_zero r n (onward (window 0 m) left r n) (onward₀ m left r n) (onward_zero left r n)

pub chase_zero : (m : List ℕ) (r : LinkedRing) → chase (window 0 m) r ≡ chase₀ m r
unfolding chase
chase_zero m r = chase_from_zero m 256 r unnoted
