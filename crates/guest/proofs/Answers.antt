-- What the answers of this crate's functions say. Assumes nothing.
use Rattle.std.proofs.Common.{◌≡◌, ℕ, Bool, true, false, [], ◌∷◌, refl, arith}
use Rattle.std.specs.Prelude.{Result, Ok, Err}
use Rattle.guest.specs.Judge.{judge}
use Rattle.guest.specs.Memory.{Memory, inside}
use Rattle.guest.specs.Refusals.{by_number}
use Rattle.guest.specs.Answers.{touching}
use Rattle.guest.specs.declared.refusal.Refusal.{Refusal}
use Rattle.guest.specs.declared.refusal.Refusal.TheVariants.{Outside}

module _ (m : Memory) (a k : ℕ) where
  abbrev picked : {A : Type 0} → A → Bool → Result A Refusal
  picked x b = judge ((1, b) ∷ []) (λ n. Err (by_number n)) (Ok x)

  -- what a touch that was answered says
  pub record Touched {A : Type 0} (x y : A) : Type 0 where
    pub within : inside m a k ≡ true
    pub is : y ≡ x

  pub touching_ok : {A : Type 0} (x y : A) → touching m a k x ≡ Ok y → Touched x y
  unfolding judge
  touching_ok {A = A} x y e = go (inside m a k) refl e
    where
      go : (b : Bool) → inside m a k ≡ b → picked x b ≡ Ok y → Touched x y
      go true i p = record { within = i; is = grind arith }
      go false i p = grind arith

  -- and one that was refused
  pub record Untouched (r : Refusal) : Type 0 where
    pub without : inside m a k ≡ false
    pub is : r ≡ Outside

  pub touching_err : {A : Type 0} (x : A) (r : Refusal) → touching m a k x ≡ Err r → Untouched r
  unfolding judge by_number
  touching_err x r e = go (inside m a k) refl e
    where
      go : (b : Bool) → inside m a k ≡ b → picked x b ≡ Err r → Untouched r
      go true i p = grind arith
      go false i p = record { without = i; is = grind arith }

  pub touch_inside : {A : Type 0} (x : A) → inside m a k ≡ true → touching m a k x ≡ Ok x
  unfolding judge
  touch_inside x h = rw h
