-- The completion code of an event, as the code reads it, and its number. Assumes nothing.
use mathlib.Core.Path.{◌≡◌, refl, sym, ap, ◌∙◌}
use mathlib.Core.Bool.{true}
use mathlib.Core.List.{List}
use Prim.Native.Nat.{ℕ}
use native.Mathlib.Omega.{arith}
use Rattle.guest.specs.Fields.{field}
use Rattle.codes.specs.Codes.{number_of, code_of}
use Rattle.std.specs.Prelude.{Option, Some, None}
use Rattle.codes.specs.declared.CompletionCode.{CompletionCode}
use Rattle.codes.proofs.Codes.{number_of_code}
use Rattle.trb.specs.Events.{code_in, is_listed, listed_in}

-- x is the code of a byte b, which stands for the field f
pub coded_as : {b f : ℕ} {x y : Option CompletionCode} → b ≡ f → x ≡ code_of b → x ≡ y → code_of f ≡ y
coded_as e h k = ap code_of (sym e) ∙ sym h ∙ k

listed_is : (x : Option CompletionCode) → is_listed x ≡ true → x ≡ Some (listed_in x)
listed_is (Some k) h = refl
listed_is None h = let z : ◌≡◌ {A = ℕ} 0 1 = cc in absurd (omega arith)

-- the number of a listed code is the field
pub listed_number : (trb : List ℕ) → is_listed (code_in trb) ≡ true → number_of (listed_in (code_in trb)) ≡ field trb 2 24 8
listed_number trb h = number_of_code (field trb 2 24 8) (listed_in (code_in trb)) (listed_is (code_in trb) h)
