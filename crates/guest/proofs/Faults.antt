-- What a test says of a fact, and what a judgement's number says of the faults in their order. Assumes nothing.
use Rattle.std.proofs.Common.{◌≡◌, ℕ, ◌+◌, ◌-◌, ◌^◌, ◌<◌, ◌≤◌, Bool, true, false, cond, ◌&&◌, eqb, ltb, leb, ◌∷◌, length, sym, refl, ◌∙◌, true≢false, arith, ltb-false, ltb-true, eqb-true, leb-false, leb-true}
use borrow.Author.Tests.{eqb-false}
use Rattle.guest.specs.Memory.{Memory, inside}
use Rattle.guest.specs.Faults.{Not, Faults, FirstOf, none, this, later, Inside}

-- ---- a test says a fact: it passes exactly if the fact holds

abbrev pub Says : Bool → Type 0 → Type 0
Says b P = (b ≡ true → P) × (b ≡ false → Not P)

pub says_eq : (a b : ℕ) → Says (eqb a b) (a ≡ b)
says_eq a b = (eqb-true a b, eqb-false a b)

pub says_le : (a b : ℕ) → Says (leb a b) (a ≤ b)
says_le a b = (leb-true a b, λ h p. let q = leb-false a b h in omega arith)

pub says_lt : (a b : ℕ) → Says (ltb a b) (a < b)
says_lt a b = (ltb-true a b, λ h p. let q = ltb-false a b h in omega arith)

pub says_bit : (b : Bool) → Says b (b ≡ true)
says_bit b = (λ h. h, λ h p. true≢false (sym p ∙ h))

pub says_both : {a b : Bool} {P Q : Type 0} → Says a P → Says b Q → Says (a && b) (P × Q)
says_both {a = true} {b = true} p q = (λ h. (p.0 refl, q.0 refl), λ h. absurd (true≢false h))
says_both {a = true} {b = false} p q = (λ h. absurd (true≢false (sym h)), λ h x. q.1 refl x.1)
says_both {a = false} p q = (λ h. absurd (true≢false (sym h)), λ h x. p.1 refl x.0)

-- the same fact in other words
pub says_as : {b : Bool} {P Q : Type 0} → Says b P → (P → Q) → (Q → P) → Says b Q
says_as s f g = (λ h. f (s.0 h), λ h q. s.1 h (g q))

-- ---- a judgement's number is that of the first fault

-- a test whose fact must hold
pub asks : {n : ℕ} {P : Type 0} {fs : Faults} (b : Bool) (k : ℕ) → Says b P → (P → FirstOf fs n) → FirstOf ((k, Not P) ∷ fs) (cond b n k)
asks {P = P} true k s rest = later (λ (f : Not P). f (s.0 refl)) (rest (s.0 refl))
asks false k s rest = this (s.1 refl)

-- one that is asked only where C holds
pub asks_where : {n : ℕ} {C P : Type 0} {fs : Faults} (b : Bool) (k : ℕ) → C → Says b P → (P → FirstOf fs n) → FirstOf ((k, C × Not P) ∷ fs) (cond b n k)
asks_where {C = C} {P = P} true k c s rest = later (λ (f : C × Not P). f.1 (s.0 refl)) (rest (s.0 refl))
asks_where {C = C} {P = P} false k c s rest = this {fault = C × Not P} (c, s.1 refl)

-- and not asked where it does not
pub asks_not : {k n : ℕ} {C P : Type 0} {fs : Faults} → Not C → FirstOf fs n → FirstOf ((k, C × P) ∷ fs) n
asks_not {C = C} {P = P} c rest = later (λ (f : C × P). c f.0) rest

-- ---- refusal 1

pub says_inside : (m : Memory) (a k : ℕ) → Says (inside m a k) (Inside m a k)
unfolding inside
says_inside m a k =
    says_as (says_both (says_both (says_le m.start a) (says_le (a + k) (2 ^ 64))) (says_le (a - m.start + k) (length m.bytes)))
    (λ p. record { from = p.0.0; below = p.0.1; within = omega (arith, p.0.0, p.1) })
    (λ i. ((i.from, i.below), omega (arith, i.from, i.within)))

-- ---- no second number is that of the first fault

pub first_once : (fs : Faults) (n k : ℕ) → FirstOf fs n → FirstOf fs k → n ≡ k
first_once _ _ _ none none = refl
first_once _ _ _ (this f) (this g) = refl
first_once _ _ _ (this f) (later g q) = absurd (g f)
first_once _ _ _ (later f p) (this g) = absurd (f g)
first_once _ _ _ (later f p) (later g q) = first_once _ _ _ p q
