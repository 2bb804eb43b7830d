-- What the chase's answers mean, at any memory: how many links were followed, where they lead, and what stands there; and the marked
-- cases L1 and L2. Assumes nothing.
use Rattle.std.proofs.Common.{◌≡◌, ℕ, zero, suc, ◌+◌, ◌<◌, ◌≤◌, Bool, true, false, cond, not, ◌||◌, eqb, ◌↔◌, List, [], ◌∷◌, ◌++◌, replicate, Option, Some, None, sym, refl, ap, ◌∙◌, subst, ap₂, true≢false, add-one, arith, length-append, below_none, below_more}
use mathlib.Core.Bool.{beq, or_self}
use native.Mathlib.Decide.{dec_le}
use Rattle.std.proofs.lemmas.Bool.{false_from_ne_true}
use Rattle.std.proofs.lemmas.Bool.Decides.{not_from_Decides}
use Rattle.std.proofs.lemmas.List.Recursion.{or_push}
use Rattle.std.specs.Prelude.{Result, Ok, Err}
use Rattle.std.specs.Cmp.{booleans_Decides}
use Rattle.std.specs.List.{list_any}
use Rattle.guest.specs.declared.refusal.Refusal.{Refusal}
use Rattle.guest.specs.Refusals.{outside, by_number}
use Rattle.guest.specs.Memory.{Memory, inside, trb_at}
use Rattle.guest.proofs.Numbers.{numbered}
use Rattle.trb.specs.Trb.{cycle_of}
use Rattle.trb.specs.Links.{link_of}
use Rattle.trb.specs.declared.link.LinkTrb.{LinkTrb}
use Rattle.linked_ring.specs.Chase.{look, seen, onward, chase_from, chase, ended, found, address_of, bytes_of, followed, fresh_of, noted, unnoted, ring_at, number_of, found_value, values_of}
use Rattle.linked_ring.specs.Hops.{IsFresh, hop, after, links_of, notes_over}
use Rattle.linked_ring.specs.declared.LinkedRing.{LinkedRing}
use Rattle.linked_ring.specs.declared.Notes.{Notes}
use Rattle.linked_ring.specs.declared.Found.{Found}
use Rattle.linked_ring.specs.declared.Chase.{Chase}

-- ---- what stands at a ring's place

pub record Outside (m : Memory) (r : LinkedRing) : Type 0 where
  pub outside : inside m r.place 16 ≡ false

pub record Stale (m : Memory) (r : LinkedRing) : Type 0 where
  pub within : inside m r.place 16 ≡ true
  pub stale : IsFresh m r → ⊥

-- a fresh TRB, a Link or another
pub record Fresh (m : Memory) (r : LinkedRing) (link : Option LinkTrb) : Type 0 where
  pub within : inside m r.place 16 ≡ true
  pub fresh : IsFresh m r
  pub is : link_of (trb_at m r.place) ≡ link

-- what the code tests is that
beq_yes : (a b : Bool) → a ≡ b → beq a b ≡ true
beq_yes a b = (booleans_Decides a b).1

beq_no : (a b : Bool) → (a ≡ b → ⊥) → beq a b ≡ false
beq_no a b n = false_from_ne_true (beq a b) (λ t. n ((booleans_Decides a b).0 t))

yes_beq : (a b : Bool) → beq a b ≡ true → a ≡ b
yes_beq a b = (booleans_Decides a b).0

no_beq : (a b : Bool) → beq a b ≡ false → a ≡ b → ⊥
no_beq a b = not_from_Decides (beq a b) (booleans_Decides a b)

-- and the ring that the code follows a Link to
hopped : (r : LinkedRing) (l : LinkTrb) → followed r l ≡ hop (Some l) r
hopped r l = go r.cycle l.toggle_cycle refl refl
  where
    go : (c t : Bool) → r.cycle ≡ c → l.toggle_cycle ≡ t → followed r l ≡ hop (Some l) r
    go true true p q = rw (p, q)
    go true false p q = rw (p, q)
    go false true p q = rw (p, q)
    go false false p q = rw (p, q)

-- the four ways that a look goes
module _ (m : Memory) (r : LinkedRing) (n : Notes) (k : LinkTrb → Result Chase Refusal) where
  look_cases : (P : Result Chase Refusal → Type 0)
      → (Outside m r → P (Err (by_number outside)))
      → (Stale m r → P (ended Found.NothingNew r n))
      → (Fresh m r None → P (found (trb_at m r.place) r n))
      → ((l : LinkTrb) → Fresh m r (Some l) → P (k l))
      → P (look m r n k)
  look_cases P out stale other link = go (inside m r.place 16) (fresh_of r.cycle (trb_at m r.place)) (link_of (trb_at m r.place)) refl refl refl
    where
      go : (x y : Bool) (z : Option LinkTrb) → inside m r.place 16 ≡ x → fresh_of r.cycle (trb_at m r.place) ≡ y → link_of (trb_at m r.place) ≡ z
          → P (seen x y z (trb_at m r.place) r n k)
      go false y z p q s = out (record { outside = p })
      go true false z p q s = stale (record { within = p; stale = no_beq _ _ q })
      go true true None p q s = other (record { within = p; fresh = yes_beq _ _ q; is = s })
      go true true (Some l) p q s = link l (record { within = p; fresh = yes_beq _ _ q; is = s })

  look_link : (l : LinkTrb) → Fresh m r (Some l) → look m r n k ≡ k l
  look_link l s = rw (s.within, beq_yes (cycle_of (trb_at m r.place)) r.cycle s.fresh, s.is)

  look_stale : Stale m r → look m r n k ≡ ended Found.NothingNew r n
  look_stale s = rw (s.within, beq_no (cycle_of (trb_at m r.place)) r.cycle s.stale)

-- a link that is followed
again : (m : Memory) (left : ℕ) (r : LinkedRing) (n : Notes) (l : LinkTrb) {r' : LinkedRing} {n' : Notes} → followed r l ≡ r' → noted n l ≡ n'
    → onward m (suc left) r n l ≡ chase_from m left r' n'
unfolding onward
again m left r n l p q = ap₂ (chase_from m left) p q

-- ---- hops

-- one more link in the list is one more that is noted
any_more : (had : LinkTrb → Bool) (ls : List LinkTrb) (l : LinkTrb) → list_any had (ls ++ (l ∷ [])) ≡ list_any had ls || had l
any_more had = or_push (list_any had) had refl (λ k ks. refl)

noted_more : (ls : List LinkTrb) (l : LinkTrb) → noted (notes_over ls) l ≡ notes_over (ls ++ (l ∷ []))
noted_more ls l =
    rw (
      length-append ls (l ∷ []),
      any_more (λ k. k.pointer_bits_cleared) ls l,
      any_more (λ k. k.interrupt_on_completion) ls l,
    )

-- k hops from e are by fresh Links alone
abbrev pub Linked : Memory → LinkedRing → ℕ → Type 0
Linked m e k = (j : ℕ) → j < k → (l : LinkTrb) × Fresh m (after m j e) (Some l)

-- k hops from e, by fresh Links alone, lead to r with the notes n
pub record Way (m : Memory) (e r : LinkedRing) (n : Notes) (k : ℕ) : Type 0 where
  pub there : r ≡ after m k e
  pub notes : n ≡ notes_over (links_of m k e)
  pub links : Linked m e k

way_none : (m : Memory) (e : LinkedRing) → Way m e e unnoted 0
unfolding after links_of
way_none m e = record { there = refl; notes = refl; links = below_none _ }

way_more : (m : Memory) (e r : LinkedRing) (n : Notes) (k : ℕ) (l : LinkTrb) → Way m e r n k → Fresh m r (Some l)
    → Way m e (followed r l) (noted n l) (k + 1)
unfolding after links_of
way_more m e r n k l w s =
    record {
      there = rw (add-one k, ← w.there, s.is) (hopped r l);
      notes = rw (add-one k, ← w.there, s.is) (rw w.notes (noted_more (links_of m k e) l));
      links = below_more (λ j. (l : LinkTrb) × Fresh m (after m j e) (Some l)) k w.links (rw (← w.there) (l, s));
    }

-- ---- how a chase ends

-- fields with nothing to show are 0
abbrev pub NoTrb : Found → Type 0
NoTrb f = (bytes_of f ≡ replicate 16 0) × (address_of f ≡ 0)

-- what was found, by what stands at the place where the chase ended
abbrev pub Ending : Memory → ℕ → Chase → Found → Type 0
Ending m limit c (Found.Trb t) = Fresh m c.ring None × (t.address ≡ c.ring.place) × (t.buffer ≡ trb_at m t.address)
Ending m limit c Found.NothingNew = Stale m c.ring × NoTrb Found.NothingNew
Ending m limit c Found.TooManyLinks = (c.notes.links ≡ limit) × ((l : LinkTrb) × Fresh m c.ring (Some l)) × NoTrb Found.TooManyLinks

-- at most so many links, which are the hops from e that led to the ring answered
pub record Reaches (m : Memory) (e : LinkedRing) (limit : ℕ) (c : Chase) : Type 0 where
  pub bounded : c.notes.links ≤ limit
  pub way : Way m e c.ring c.notes c.notes.links
  pub ending : Ending m limit c c.found

-- document 01's answer whole, as whoever asked with the ring e has it: beside a refusal the ring is still e, nothing is noted, and there is no TRB
abbrev pub ring_left : LinkedRing → Result Chase Refusal → LinkedRing
ring_left e (Ok c) = c.ring
ring_left e (Err r) = e

abbrev pub notes_left : Result Chase Refusal → Notes
notes_left (Ok c) = c.notes
notes_left (Err r) = unnoted

abbrev pub address_left : Result Chase Refusal → ℕ
address_left (Ok c) = address_of c.found
address_left (Err r) = 0

abbrev pub bytes_left : Result Chase Refusal → List ℕ
bytes_left (Ok c) = bytes_of c.found
bytes_left (Err r) = replicate 16 0

-- refusal 1, of the place that at most so many hops by fresh Links lead to, with the ring of the entry
pub record Refused (m : Memory) (e : LinkedRing) (limit : ℕ) (r : Refusal) : Type 0 where
  pub number : number_of (Err r) ≡ 1
  pub ring : ring_left e (Err r) ≡ e
  pub notes : notes_left (Err r) ≡ unnoted
  pub trb : (bytes_left (Err r) ≡ replicate 16 0) × (address_left (Err r) ≡ 0)
  pub at : (k : ℕ) × (k ≤ limit) × Outside m (after m k e) × Linked m e k

abbrev pub Ends : Memory → LinkedRing → ℕ → Result Chase Refusal → Type 0
Ends m e limit (Ok c) = Reaches m e limit c
Ends m e limit (Err r) = Refused m e limit r

module _ (m : Memory) (e : LinkedRing) (limit : ℕ) where
  look_ends : (r : LinkedRing) (n : Notes) (k : LinkTrb → Result Chase Refusal) → n.links ≤ limit → Way m e r n n.links
      → ((l : LinkTrb) → Fresh m r (Some l) → Ends m e limit (k l)) → Ends m e limit (look m r n k)
  unfolding by_number
  look_ends r n k h w next =
      look_cases m r n k (Ends m e limit)
      (λ o. record { number = refl; ring = refl; notes = refl; trb = (refl, refl); at = (n.links, h, rw (← w.there) o, w.links) })
      (λ o. record { bounded = h; way = w; ending = (o, (refl, refl)) })
      (λ o. record { bounded = h; way = w; ending = (o, refl, refl) })
      next

  onward_ends : (left : ℕ) (r : LinkedRing) (n : Notes) (l : LinkTrb) → n.links + left ≡ limit → Way m e r n n.links → Fresh m r (Some l)
      → Ends m e limit (onward m left r n l)
  unfolding onward
  onward_ends zero r n l h w s = record { bounded = omega arith; way = w; ending = (omega arith, (l, s), (refl, refl)) }
  onward_ends (suc left) r n l h w s =
      let w' = way_more m e r n n.links l w s in
      look_ends (followed r l) (noted n l) (onward m left (followed r l) (noted n l)) (omega arith) w'
      (λ l' s'. onward_ends left (followed r l) (noted n l) l' (omega arith) w' s')

-- the chase ends after at most 256 links, and its answer is what stands there
pub chase_ends : (m : Memory) (r : LinkedRing) → Ends m r 256 (chase m r)
unfolding chase
chase_ends m r =
    look_ends m r 256 r unnoted (onward m 256 r unnoted) (omega arith) (way_none m r)
    (λ l s. onward_ends m r 256 256 r unnoted l refl (way_none m r) s)

-- "nothing new" is never answered where a fresh Link stands
pub never_nothing : (m : Memory) (r : LinkedRing) (l : LinkTrb) (c : Chase) → chase m r ≡ Ok c → Fresh m c.ring (Some l) → c.found ≡ Found.NothingNew → ⊥
never_nothing m r l c is s f =
    let ends : Reaches m r 256 c = subst (Ends m r 256) is (chase_ends m r) in
    let told : Ending m 256 c Found.NothingNew = subst (Ending m 256 c) f ends.ending in
    told.0.stale s.fresh

-- what a chase of r found
abbrev pub Answers : Memory → LinkedRing → Found → Type 0
Answers m r f = (c : Chase) × (chase m r ≡ Ok c) × (c.found ≡ f)

-- "too many links" is answered exactly if a fresh Link stands at the place of the entry and after each of the first 256 hops
abbrev pub EndlessLinks : Memory → LinkedRing → Type 0
EndlessLinks m r = (j : ℕ) → j ≤ 256 → (l : LinkTrb) × Fresh m (after m j r) (Some l)

linked_not_other : (m : Memory) (r : LinkedRing) (l : LinkTrb) → Fresh m r (Some l) → Fresh m r None → ⊥
linked_not_other m r l s o = let z : ◌≡◌ {A = ℕ} 0 1 = cc (s.is, o.is) in omega arith

module _ (m : Memory) (r : LinkedRing) where
  endless : Answers m r Found.TooManyLinks → EndlessLinks m r
  endless a j h =
      let e : Reaches m r 256 a.0 = subst (Ends m r 256) a.1 (chase_ends m r) in
      go (dec_le (suc j) 256) a.0 e (subst (Ending m 256 a.0) a.2 e.ending)
    where
      go : Dec (suc j ≤ 256) → (c : Chase) → Reaches m r 256 c → Ending m 256 c Found.TooManyLinks
          → (l : LinkTrb) × Fresh m (after m j r) (Some l)
      go (yes p) c e last = e.way.links j (omega (arith, last.0))
      go (no p) c e last =
          let at_end : c.notes.links ≡ j = omega (arith, last.0, p) in
          (last.1.0, rw (← at_end, ← e.way.there) last.1.1)

  found_so : (c : Chase) (f : Found) → Reaches m r 256 c → c.found ≡ f → EndlessLinks m r → f ≡ Found.TooManyLinks
  found_so c (Found.Trb t) e p all =
      let o = rw p at e.ending in
      let s = all c.notes.links e.bounded in
      absurd (linked_not_other m c.ring s.0 (rw e.way.there s.1) o.0)
  found_so c Found.NothingNew e p all =
      let o = rw p at e.ending in
      let s = all c.notes.links e.bounded in
      absurd (o.0.stale (rw e.way.there s.1.fresh))
  found_so c Found.TooManyLinks e p all = refl

  ended_so : (a : Result Chase Refusal) → chase m r ≡ a → Ends m r 256 a → EndlessLinks m r → Answers m r Found.TooManyLinks
  ended_so (Ok c) is e all = (c, is, found_so c c.found e refl all)
  ended_so (Err n) is e all =
      let o = e.at in
      absurd (true≢false (sym (all o.0 o.1).1.within ∙ o.2.outside))

  pub too_many_exactly : Answers m r Found.TooManyLinks ↔ EndlessLinks m r
  too_many_exactly = (endless, ended_so (chase m r) refl (chase_ends m r))

-- ---- L1 and L2: a fresh Link that points to itself

pub record Itself (m : Memory) (r : LinkedRing) (l : LinkTrb) : Type 0 where
  pub stands : Fresh m r (Some l)
  pub back : l.ring_segment_pointer ≡ r.place

abbrev pub notes_of : ℕ → LinkTrb → Notes
notes_of k l = record { links = k; cleared = l.pointer_bits_cleared; completion = l.interrupt_on_completion }

untoggled : (c : Bool) → not (beq c false) ≡ c
untoggled true = refl
untoggled false = refl

toggled : (c : Bool) → not (beq c true) ≡ not c
toggled true = refl
toggled false = refl

-- a state flipped makes fresh stale
not_self : (c : Bool) → c ≡ not c → ⊥
not_self true e = true≢false e
not_self false e = true≢false (sym e)

module _ (m : Memory) (r : LinkedRing) (l : LinkTrb) (it : Itself m r l) where
  stays : l.toggle_cycle ≡ false → followed r l ≡ r
  stays t = rw (it.back, t, untoggled)

  turns : l.toggle_cycle ≡ true → followed r l ≡ ring_at r.place (not r.cycle)
  turns t = rw (it.back, t, toggled)

  renoted : (k : ℕ) → noted (notes_of k l) l ≡ notes_of (k + 1) l
  renoted k = rw (or_self l.pointer_bits_cleared, or_self l.interrupt_on_completion)

  round : l.toggle_cycle ≡ false → (left k limit : ℕ) → k + left ≡ limit
      → chase_from m left r (notes_of k l) ≡ ended Found.TooManyLinks r (notes_of limit l)
  unfolding onward
  round t left k limit h = look_link m r (notes_of k l) (onward m left r (notes_of k l)) l it.stands ∙ go left k h
    where
      go : (left k : ℕ) → k + left ≡ limit → onward m left r (notes_of k l) l ≡ ended Found.TooManyLinks r (notes_of limit l)
      go zero k h = ap (λ j. ended Found.TooManyLinks r (notes_of j l)) (omega arith)
      go (suc left) k h =
          again m left r (notes_of k l) l (stays t) (renoted k)
          ∙ look_link m r (notes_of (k + 1) l) (onward m left r (notes_of (k + 1) l)) l it.stands
          ∙ go left (k + 1) (omega arith)

  first : (r' : LinkedRing) → followed r l ≡ r' → chase m r ≡ chase_from m 255 r' (notes_of 1 l)
  unfolding chase
  first r' p = look_link m r unnoted (onward m 256 r unnoted) l it.stands ∙ again m 255 r unnoted l p refl

  -- L1: no toggle: too many links, 256 followed, place and state as they were
  pub L1 : l.toggle_cycle ≡ false → chase m r ≡ ended Found.TooManyLinks r (notes_of 256 l)
  L1 t = first r (stays t) ∙ round t 255 1 256 refl

  -- L2: with toggle: nothing new, one followed, the state flipped
  pub L2 : l.toggle_cycle ≡ true → chase m r ≡ ended Found.NothingNew (ring_at r.place (not r.cycle)) (notes_of 1 l)
  L2 t =
      let flipped = ring_at r.place (not r.cycle) in
      first flipped (turns t)
      ∙ look_stale m flipped (notes_of 1 l) (onward m 255 flipped (notes_of 1 l))
      (record { within = it.stands.within; stale = λ (e : cycle_of (trb_at m r.place) ≡ not r.cycle). not_self r.cycle (sym it.stands.fresh ∙ e) })

-- ---- number and values tell the answers apart

-- an answer without its TRB, ring and notes
abbrev pub no_trb : Found
no_trb = Found.Trb (record { address = 0; buffer = [] })

abbrev pub bare_found : Found → Found
bare_found (Found.Trb t) = no_trb
bare_found Found.NothingNew = Found.NothingNew
bare_found Found.TooManyLinks = Found.TooManyLinks

abbrev pub bare : Result Chase Refusal → Result Found Refusal
bare (Ok c) = Ok (bare_found c.found)
bare (Err r) = Err r

told : (number : ℕ) (values : List ℕ) → Result Found Refusal
told number [] = Err (by_number number)
told number (v ∷ vs) = Ok (cond (eqb v 0) Found.NothingNew (cond (eqb v 1) no_trb Found.TooManyLinks))

told_back : (a : Result Chase Refusal) → told (number_of a) (values_of a) ≡ bare a
unfolding told
told_back (Ok c) = by c.found
  where
    by : (f : Found) → told 0 (found_value f ∷ []) ≡ Ok (bare_found f)
    by (Found.Trb t) = refl
    by Found.NothingNew = refl
    by Found.TooManyLinks = refl
told_back (Err r) = ap Err (numbered r)

pub told_apart : (a b : Result Chase Refusal) → number_of a ≡ number_of b → values_of a ≡ values_of b → bare a ≡ bare b
told_apart a b n v = sym (told_back a) ∙ ap₂ told n v ∙ told_back b
