-- The queue with no bytes in it. Positions are the natural numbers of a walk of period N, which comes to the same slot at p and at p + N.
-- `look p` is what the slot of position p holds, `mark` reads the cycle of what is held, `cyc p` is the cycle of position p, and `wanted p`
-- is what was accepted as number p. A queue that has accepted n, of which t are taken and q reported, holds exactly the accepted and not
-- taken ones, fresh, and every other slot is stale where the producer comes to it next. Assumes nothing.
use Prim.Native.Nat.{ℕ, suc, ◌+◌, ◌-◌, ◌≤◌, ◌<◌}
use mathlib.Core.Path.{◌≡◌, refl, sym, ◌∙◌}
use mathlib.Core.Logic.{◌≢◌}
use mathlib.Core.Bool.{Bool, not}
use native.Mathlib.Omega.{arith}
use native.Mathlib.Decide.{ℕ_discrete}
use lib.Dec.{eqb}
use borrow.Author.Tests.{eq-eqb, ne_eqb}
use Rattle.std.proofs.Math.Bool.{not-not}

module _ {A : Type 0} (N : ℕ) (mark : A → Bool) (cyc : ℕ → Bool) where
  pub record Queue (look wanted : ℕ → A) (n t q : ℕ) : Type 0 where
    pub reported : q ≤ t
    pub taken : t ≤ n
    pub room : n < q + N
    pub held : (p : ℕ) → t ≤ p → p < n → (look p ≡ wanted p) × (mark (look p) ≡ cyc p)
    pub stale : (p : ℕ) → n ≤ p → p < n + N → mark (look p) ≡ not (cyc p)

  -- memory may change, if every slot still holds the same
  pub changed : {look wanted : ℕ → A} {n t q : ℕ} (look' : ℕ → A)
      → ((p : ℕ) → look' p ≡ look p)
      → Queue look wanted n t q → Queue look' wanted n t q
  changed look' same Q =
      record {
        reported = Q.reported;
        taken = Q.taken;
        room = Q.room;
        held = λ p l h. rw (same p) (Q.held p l h);
        stale = λ p l h. rw (same p) (Q.stale p l h);
      }

  pub took : {look wanted : ℕ → A} {n t q : ℕ} → t < n → Queue look wanted n t q → Queue look wanted n (t + 1) q
  took h Q =
      record {
        reported = omega (arith, Q.reported);
        taken = omega arith;
        room = Q.room;
        held = λ p l. Q.held p (omega arith);
        stale = Q.stale;
      }

  pub reports : {look wanted : ℕ → A} {n t q : ℕ} → Queue look wanted n t q → Queue look wanted n t t
  reports Q =
      record { reported = omega arith; taken = Q.taken; room = omega (arith, Q.room, Q.reported); held = Q.held; stale = Q.stale }

  -- one more is accepted: it stands, fresh, at the producer's position, and so the slot is stale for the next lap
  module _ (look look' wanted wanted' : ℕ → A) (n t q : ℕ) where
    pub added : Queue look wanted n t q → n - q ≢ N - 1
        → ((p : ℕ) → t ≤ p → p < n + N → p ≢ n → look' p ≡ look p)
        → look' n ≡ wanted' n → look' (n + N) ≡ wanted' n → ((p : ℕ) → p < n → wanted' p ≡ wanted p)
        → mark (wanted' n) ≡ cyc n → cyc (n + N) ≡ not (cyc n)
        → Queue look' wanted' (n + 1) t q
    added Q free others here again before fresh flips =
        record {
          reported = Q.reported;
          taken = omega (arith, Q.taken);
          room = omega (arith, Q.room, Q.reported, Q.taken);
          held = λ p l h. holds p l h (ℕ_discrete p n);
          stale = λ p l h. old p l h (ℕ_discrete p (n + N));
        }
      where
        holds : (p : ℕ) → t ≤ p → p < n + 1 → Dec (p ≡ n) → (look' p ≡ wanted' p) × (mark (look' p) ≡ cyc p)
        holds p l h (yes e) = rw (e, here) (refl, fresh)
        holds p l h (no d) =
            let h' : p < n = omega arith in
            rw (others p l (omega (arith, Q.room)) d, before p h') (Q.held p l h')

        old : (p : ℕ) → n + 1 ≤ p → p < n + 1 + N → Dec (p ≡ n + N) → mark (look' p) ≡ not (cyc p)
        old p l h (yes e) = rw (e, again, fresh, flips) (sym (not-not (cyc n)))
        old p l h (no d) =
            let l' : n ≤ p = omega arith in
            let h' : p < n + N = omega arith in
            rw (others p (omega (arith, Q.taken)) h' (omega arith)) (Q.stale p l' h')

-- the report is the slot after the producer's exactly if all slots but one are accepted and not reported
pub full : (N : ℕ) (slot : ℕ → ℕ) → ((p : ℕ) → slot (p + N) ≡ slot p) → ((p k : ℕ) → p < k → k < p + N → slot p ≢ slot k)
    → (q a : ℕ) → q ≤ a → a < q + N → eqb (slot (suc a)) (slot q) ≡ eqb (a - q) (N - 1)
full N slot period distinct q a low high = go (ℕ_discrete (a - q) (N - 1))
  where
    go : Dec (a - q ≡ N - 1) → eqb (slot (suc a)) (slot q) ≡ eqb (a - q) (N - 1)
    go (yes e) =
        let r : suc a ≡ q + N = omega arith in
        rw (r, period q, eq-eqb _ _ e) (eq-eqb (slot q) (slot q) refl)
    go (no d) = ne_eqb _ _ (λ e. distinct q (suc a) (omega arith) (omega arith) (sym e)) ∙ sym (ne_eqb _ _ d)
