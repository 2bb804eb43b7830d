-- Definitions by rows, and numbers in lists. Assumes nothing.
use mathlib.Core.Path.{◌≡◌, refl}
use mathlib.Core.Bool.{Bool, true, false, cond}
use mathlib.Core.List.{List}
use mathlib.Core.Logic.{◌⊎◌, inl, inr, by_cases}
use Prim.{Unit}
use Prim.Native.Nat.{ℕ, zero, suc, ◌+◌, ◌≤◌, ◌<◌}
use native.Mathlib.Decide.{ℕ_discrete}
use native.Mathlib.Omega.{arith}
use borrow.Author.Tests.{eqb-true, eq-eqb, ne_eqb}
use lib.Dec.{eqb}
use Rattle.trb.specs.Trb.{type_of, upward, one_of}

-- a row by its test, or the rows after it
pub by_row : {A : Type 0} (P : A → Type 0) (b : Bool) (x y : A) → (b ≡ true → P x) → (b ≡ false → P y) → P (cond b x y)
by_row P true x y f g = f refl
by_row P false x y f g = g refl

-- the row of the type k
pub by_type : {A : Type 0} (P : A → Type 0) (trb : List ℕ) (k : ℕ) (x y : A) → (type_of trb ≡ k → P x)
    → (eqb (type_of trb) k ≡ false → P y) → P (cond (eqb (type_of trb) k) x y)
by_type P trb k x y f g = by_row P (eqb (type_of trb) k) x y (λ h. f (eqb-true (type_of trb) k h)) g

-- a number from lo on that is none of the n from lo up is past them
abbrev pub None : ℕ → ℕ → ℕ → Type 0
None t lo zero = Unit {0}
None t lo (suc n) = None t lo n × (t ≡ lo + n → ⊥)

pub past : (t lo n : ℕ) → None t lo n → lo ≤ t → lo + n ≤ t
past t lo zero d h = omega arith
past t lo (suc n) d h = omega (arith, past t lo n d.0 h, d.1)

-- one that is not past them is one of them
pub among : (n t lo : ℕ) → lo ≤ t → t < lo + n → one_of t (upward lo n) ≡ true
among zero t lo h k = absurd (omega arith)
among (suc n) t lo h k =
    by_cases (ℕ_discrete t lo)
    (λ e. rw (eq-eqb t lo e))
    (λ d. rw (ne_eqb t lo d) (among n t (lo + 1) (omega arith) (omega arith)))

-- and one that lies outside them is none of them
pub apart : (n t lo : ℕ) → (t < lo) ⊎ (lo + n ≤ t) → one_of t (upward lo n) ≡ false
apart zero t lo h = refl
apart (suc n) t lo (inl h) = rw (ne_eqb t lo (λ e. omega arith)) (apart n t (lo + 1) (inl (omega arith)))
apart (suc n) t lo (inr h) = rw (ne_eqb t lo (λ e. omega arith)) (apart n t (lo + 1) (inr (omega arith)))
