-- Laws of judgements. Assumes nothing.
use Rattle.std.proofs.Common.{◌≡◌, ℕ, ◌<◌, true, false, cond, eqb, [], ◌∷◌, ◌++◌, sym, refl, ap, ◌∙◌, arith, ne_eqb}
use Rattle.guest.specs.Judge.{Tests, judge, refusal_of}

-- whatever is made of a judgement may be made of its answers
pub judge_map : {A B : Type 0} (f : A → B) (ts : Tests) (r : ℕ → A) (a : A) → f (judge ts r a) ≡ judge ts (λ n. f (r n)) (f a)
unfolding judge
judge_map f [] r a = refl
judge_map f ((n, true) ∷ ts) r a = judge_map f ts r a
judge_map f ((n, false) ∷ ts) r a = refl

-- tests after others are judged where those pass
pub judge_append : {A : Type 0} (xs ys : Tests) (r : ℕ → A) (a : A) → judge (xs ++ ys) r a ≡ judge xs r (judge ys r a)
unfolding judge
judge_append [] ys r a = refl
judge_append ((n, true) ∷ xs) ys r a = judge_append xs ys r a
judge_append ((n, false) ∷ xs) ys r a = refl

-- every test passes
abbrev pub Passes : Tests → Type 0
Passes [] = Unit {0}
Passes ((n, b) ∷ ts) = (b ≡ true) × Passes ts

pub judge_passes : {A : Type 0} (ts : Tests) (r : ℕ → A) (a : A) → Passes ts → judge ts r a ≡ a
unfolding judge
judge_passes [] r a p = refl
judge_passes ((n, b) ∷ ts) r a p = rw p.0 (judge_passes ts r a p.1)

-- every test refuses by a number other than 0
abbrev pub Numbered : Tests → Type 0
Numbered [] = Unit {0}
Numbered ((n, b) ∷ ts) = (0 < n) × Numbered ts

-- so the number 0 says that every test passed
pub none_passes : (ts : Tests) → Numbered ts → refusal_of ts ≡ 0 → Passes ts
unfolding judge
none_passes [] k e = tt
none_passes ((n, true) ∷ ts) k e = (refl, none_passes ts k.1 e)
none_passes ((n, false) ∷ ts) k e = absurd (omega arith)

-- and a judgement goes by its number alone
pub judge_number : {A : Type 0} (ts : Tests) (r : ℕ → A) (a : A) → Numbered ts
    → judge ts r a ≡ cond (eqb (refusal_of ts) 0) a (r (refusal_of ts))
unfolding judge
judge_number [] r a k = refl
judge_number ((n, true) ∷ ts) r a k = judge_number ts r a k.1
judge_number ((n, false) ∷ ts) r a k = rw (ne_eqb n 0 (λ e. omega arith))

-- to show a property of a judgement, show it of each refusal, and of the answer where every test passes
pub judge_by : {A : Type 0} (P : A → Type 0) (ts : Tests) (r : ℕ → A) (a : A) → ((n : ℕ) → P (r n)) → (Passes ts → P a) → P (judge ts r a)
unfolding judge
judge_by P [] r a refused passed = passed tt
judge_by P ((n, true) ∷ ts) r a refused passed = judge_by P ts r a refused (λ p. passed (refl, p))
judge_by P ((n, false) ∷ ts) r a refused passed = refused n

-- ---- an answer that shows its number: `number` is what a refusal was refused with, and 0 of the answer

pub judge_refusal : {A : Type 0} (number : A → ℕ) (ts : Tests) (r : ℕ → A) (a : A) → ((n : ℕ) → number (r n) ≡ n) → number a ≡ 0
    → number (judge ts r a) ≡ refusal_of ts
unfolding judge
judge_refusal number [] r a f z = z
judge_refusal number ((n, true) ∷ ts) r a f z = judge_refusal number ts r a f z
judge_refusal number ((n, false) ∷ ts) r a f z = f n

module _ {A : Type 0} (number : A → ℕ) (ts : Tests) (k : Numbered ts) (r : ℕ → A) (a : A) (f : (n : ℕ) → number (r n) ≡ n) (z : number a ≡ 0) (x : A) (e : x ≡ judge ts r a) where
  number_is : number x ≡ refusal_of ts
  number_is = ap number e ∙ judge_refusal number ts r a f z

  -- the number 0 says that every test passed, and the answer was given
  pub answer_passes : number x ≡ 0 → Passes ts
  answer_passes h = none_passes ts k (sym number_is ∙ h)

  pub answer_given : number x ≡ 0 → x ≡ a
  answer_given h = e ∙ judge_passes ts r a (answer_passes h)

  -- any other says how every judgement by these tests ends
  pub answer_stops : (number x ≡ 0 → ⊥) → {B : Type 0} (s : ℕ → B) (b : B) → judge ts s b ≡ s (number x)
  answer_stops h s b = judge_number ts s b k ∙ rw (ne_eqb (refusal_of ts) 0 (λ q. h (number_is ∙ q))) (ap s (sym number_is))

-- ---- two lists of tests that decide alike: the same numbers, and each test the same where those before it pass

abbrev pub Alike : Tests → Tests → Type 0
Alike [] [] = Unit {0}
Alike [] (u ∷ us) = ⊥
Alike (t ∷ ts) [] = ⊥
Alike ((n, b) ∷ ts) ((k, c) ∷ us) = (k ≡ n) × (c ≡ b) × (b ≡ true → Alike ts us)

pub judge_alike : {A B : Type 0} (f : A → B) (ts us : Tests) (r : ℕ → A) (s : ℕ → B) (a : A) (b : B) → Alike ts us
    → ((n : ℕ) → s n ≡ f (r n)) → (Passes ts → b ≡ f a) → judge us s b ≡ f (judge ts r a)
unfolding judge
judge_alike f [] [] r s a b same refuses gives = gives tt
judge_alike f [] (u ∷ us) r s a b same refuses gives = absurd same
judge_alike f (t ∷ ts) [] r s a b same refuses gives = absurd same
judge_alike f ((n, true) ∷ ts) ((k, c) ∷ us) r s a b same refuses gives =
    rw same.1 (judge_alike f ts us r s a b (same.2 refl) refuses (λ p. gives (refl, p)))
judge_alike f ((n, false) ∷ ts) ((k, c) ∷ us) r s a b same refuses gives = rw same.1 (ap s same.0 ∙ refuses n)
