-- Whether a code is listed, by its class and as the code knows it. Assumes nothing.
use mathlib.Core.Path.{◌≡◌, refl, sym, ◌∙◌}
use mathlib.Core.Bool.{Bool, true, false, cond}
use Prim.Native.Nat.{ℕ, ◌<◌, ◌≤◌}
use native.Mathlib.Omega.{arith}
use borrow.Author.Tests.{lt-ltb, le-ltb, eq-eqb, ne_eqb}
use lib.Dec.{ltb}
use Rattle.codes.specs.Codes.{number_of, code_of, class_of}
use Rattle.codes.specs.declared.Class.{Class}
use Rattle.std.specs.Prelude.{Option, Some, None}
use Rattle.codes.specs.declared.CompletionCode.{CompletionCode}
use Rattle.codes.proofs.Codes.{is_listed as ofClass, is_code, listed_exactly, number_of_code}
use Rattle.trb.specs.Events.{is_listed, listed_in}

same : (x : Option CompletionCode) → is_listed x ≡ is_code x
same (Some k) = refl
same None = refl

by_class : (n : ℕ) → is_listed (code_of n) ≡ ofClass (class_of n)
by_class n = same (code_of n) ∙ sym (listed_exactly n)

-- 0 to 36 without 30 are listed
pub is_listed_lem : (n : ℕ) → n < 37 → (n ≡ 30 → ⊥) → true ≡ is_listed (code_of n)
unfolding class_of
is_listed_lem n h g = rw (by_class n, ne_eqb n 30 g, lt-ltb n 37 h)

pub is_gap : (n : ℕ) → n ≡ 30 → false ≡ is_listed (code_of n)
unfolding class_of
is_gap n e = rw (by_class n, eq-eqb n 30 e)

others : (a b : Bool) → false ≡ ofClass (cond a Class.Reserved (cond b Class.VendorError Class.VendorInfo))
others true b = refl
others false true = refl
others false false = refl

pub is_above : (n : ℕ) → 37 ≤ n → false ≡ is_listed (code_of n)
unfolding class_of
is_above n h = rw (by_class n, ne_eqb n 30 (λ e. omega arith), le-ltb n 37 h) (others (ltb n 192) (ltb n 224))

-- the code that is listed, or that none is
pub listed_yes : (x : Option CompletionCode) → is_listed x ≡ true → x ≡ Some (listed_in x)
listed_yes (Some k) h = refl
listed_yes None h = let z : ◌≡◌ {A = ℕ} 0 1 = cc in absurd (omega arith)

pub listed_no : (x : Option CompletionCode) → is_listed x ≡ false → x ≡ None
listed_no (Some k) h = let z : ◌≡◌ {A = ℕ} 0 1 = cc in absurd (omega arith)
listed_no None h = refl

-- its number is the number that it was found by
pub listed_back : (n : ℕ) → is_listed (code_of n) ≡ true → number_of (listed_in (code_of n)) ≡ n
listed_back n h = number_of_code n (listed_in (code_of n)) (listed_yes (code_of n) h)
