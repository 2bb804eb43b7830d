-- Refusals and their numbers, and what an answer by its number says. Assumes nothing.
use Rattle.std.proofs.Common.{◌≡◌, ℕ, zero, suc, ◌^◌, ◌<◌, true, false, [], ◌∷◌, ne_eqb, refl, arith}
use Rattle.std.specs.Prelude.{Ok, Err}
use Rattle.guest.specs.Judge.{Tests, judge, refusal_of}
use Rattle.guest.specs.Refusals.{number_of, by_number, as_result}
use Rattle.guest.specs.declared.refusal.Refusal.{Refusal}
use Rattle.guest.specs.declared.refusal.Refusal.TheVariants as refusal

-- each refusal has its number back, which is no other's and not 0
pub numbered : (r : Refusal) → by_number (number_of r) ≡ r
unfolding by_number
numbered refusal.Outside = refl
numbered refusal.TableBase = refl
numbered refusal.TableEntries = refl
numbered refusal.State = refl
numbered refusal.Segment = refl
numbered refusal.Report = refl
numbered refusal.Full = refl
numbered refusal.Event = refl
numbered refusal.Optional = refl
numbered refusal.Type = refl
numbered refusal.Reserved = refl
numbered refusal.Code = refl
numbered refusal.Immediate = refl

pub number_lt : (r : Refusal) → number_of r < 2 ^ 8
number_lt refusal.Outside = omega arith
number_lt refusal.TableBase = omega arith
number_lt refusal.TableEntries = omega arith
number_lt refusal.State = omega arith
number_lt refusal.Segment = omega arith
number_lt refusal.Report = omega arith
number_lt refusal.Full = omega arith
number_lt refusal.Event = omega arith
number_lt refusal.Optional = omega arith
number_lt refusal.Type = omega arith
number_lt refusal.Reserved = omega arith
number_lt refusal.Code = omega arith
number_lt refusal.Immediate = omega arith

pub number_some : (r : Refusal) → number_of r ≡ 0 → ⊥
number_some refusal.Outside e = omega arith
number_some refusal.TableBase e = omega arith
number_some refusal.TableEntries e = omega arith
number_some refusal.State e = omega arith
number_some refusal.Segment e = omega arith
number_some refusal.Report e = omega arith
number_some refusal.Full e = omega arith
number_some refusal.Event e = omega arith
number_some refusal.Optional e = omega arith
number_some refusal.Type e = omega arith
number_some refusal.Reserved e = omega arith
number_some refusal.Code e = omega arith
number_some refusal.Immediate e = omega arith

-- and each number from 1 to 13 is that of its refusal
pub by_number_back : (n : ℕ) → n < 14 → (n ≡ 0 → ⊥) → number_of (by_number n) ≡ n
unfolding by_number
by_number_back zero h k = absurd (k refl)
by_number_back (suc zero) h k = refl
by_number_back (suc (suc zero)) h k = refl
by_number_back (suc (suc (suc zero))) h k = refl
by_number_back (suc (suc (suc (suc zero)))) h k = refl
by_number_back (suc (suc (suc (suc (suc zero))))) h k = refl
by_number_back (suc (suc (suc (suc (suc (suc zero)))))) h k = refl
by_number_back (suc (suc (suc (suc (suc (suc (suc zero))))))) h k = refl
by_number_back (suc (suc (suc (suc (suc (suc (suc (suc zero)))))))) h k = refl
by_number_back (suc (suc (suc (suc (suc (suc (suc (suc (suc zero))))))))) h k = refl
by_number_back (suc (suc (suc (suc (suc (suc (suc (suc (suc (suc zero)))))))))) h k = refl
by_number_back (suc (suc (suc (suc (suc (suc (suc (suc (suc (suc (suc zero))))))))))) h k = refl
by_number_back (suc (suc (suc (suc (suc (suc (suc (suc (suc (suc (suc (suc zero)))))))))))) h k = refl
by_number_back (suc (suc (suc (suc (suc (suc (suc (suc (suc (suc (suc (suc (suc zero))))))))))))) h k = refl
by_number_back (suc (suc (suc (suc (suc (suc (suc (suc (suc (suc (suc (suc (suc (suc n)))))))))))))) h k = absurd (omega arith)

-- so tests that refuse by such numbers do
abbrev pub Few : Tests → Type 0
Few [] = Unit {0}
Few ((n, b) ∷ ts) = (n < 14) × Few ts

pub refusal_lt : (ts : Tests) → Few ts → refusal_of ts < 14
unfolding judge
refusal_lt [] f = omega arith
refusal_lt ((n, true) ∷ ts) f = refusal_lt ts f.1
refusal_lt ((n, false) ∷ ts) f = f.0

-- what holds of a refusal by each such number, and of the answer where every test passes, holds of a judgement
abbrev pub Listed : Tests → Type 0
Listed [] = Unit {0}
Listed ((n, b) ∷ ts) = (0 < n) × (n < 14) × Listed ts

pub judged : {A : Type 0} (P : A → Type 0) (ts : Tests) (r : ℕ → A) (a : A) → Listed ts → ((n : ℕ) → (n ≡ 0 → ⊥) → n < 14 → P (r n))
    → P a → P (judge ts r a)
unfolding judge
judged P [] r a l refused answered = answered
judged P ((n, true) ∷ ts) r a l refused answered = judged P ts r a l.2 refused answered
judged P ((n, false) ∷ ts) r a l refused answered = refused n (λ z. omega (arith, l.0)) l.1

-- an answer with no refusal has the number 0, and shows what stands there; any other the refusal of its number
pub as_result_ok : {A : Type 0} (n : ℕ) (x y : A) → as_result n x ≡ Ok y → (n ≡ 0) × (y ≡ x)
as_result_ok zero x y e = (refl, grind arith)
as_result_ok (suc n) x y e = absurd (grind arith)

pub as_result_err : {A : Type 0} (n : ℕ) (x : A) (r : Refusal) → as_result n x ≡ Err r → (n ≡ 0 → ⊥) × (r ≡ by_number n)
as_result_err zero x r e = absurd (grind arith)
as_result_err (suc n) x r e = (λ h. omega arith, grind arith)

pub as_result_zero : {A : Type 0} (n : ℕ) (x : A) → n ≡ 0 → as_result n x ≡ Ok x
as_result_zero zero x e = refl
as_result_zero (suc n) x e = absurd (omega arith)

pub as_result_some : {A : Type 0} (n : ℕ) (x : A) → (n ≡ 0 → ⊥) → as_result n x ≡ Err (by_number n)
as_result_some zero x h = absurd (h refl)
as_result_some (suc n) x h = rw (ne_eqb (suc n) 0 h)

-- what is refused by a number below 14 has that number
pub as_result_number : {A : Type 0} (n : ℕ) (x : A) (r : Refusal) → n < 14 → as_result n x ≡ Err r → number_of r ≡ n
as_result_number n x r h e = let p = as_result_err n x r e in rw p.1 (by_number_back n h p.0)
