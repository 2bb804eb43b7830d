-- What the branches of code say of the tests of a definition. Assumes nothing.
use Rattle.std.proofs.Common.{◌≡◌, ℕ, Bool, true, false, not, ◌&&◌, eqb, sym, ◌∙◌, rules, le-ltb, lt-ltb, eq-eqb, ne_eqb, le-leb}
use Rattle.std.proofs.lemmas.Bool.{and_parts}
use borrow.Author.Tests.{not-true, not-false, lt-leb}

-- what a branch on `r` knows of the definition's test b
pub told : {r b v : Bool} → r ≡ b → r ≡ v → b ≡ v
told e h = sym e ∙ h

-- and a branch on `!r`
pub no : {r b : Bool} → r ≡ b → not r ≡ true → b ≡ false
no e h = sym e ∙ not-true _ h

pub yes : {r b : Bool} → r ≡ b → not r ≡ false → b ≡ true
yes e h = sym e ∙ not-false _ h

pub both : (a b : Bool) → a && b ≡ true → (a ≡ true) × (b ≡ true)
both a b h = and_parts a b h

pub ruleset tests = (rules, lt-ltb, le-ltb, le-leb, lt-leb, eq-eqb, ne_eqb)

-- what a comparison of a result r with a number knows of the value b that it stands for
pub same : {r b n : ℕ} → r ≡ b → r ≡ n → eqb b n ≡ true
same e h = eq-eqb _ _ (sym e ∙ h)

pub differs : {r b n : ℕ} → r ≡ b → (r ≡ n → ⊥) → eqb b n ≡ false
differs e h = ne_eqb _ _ (λ p. h (e ∙ p))
