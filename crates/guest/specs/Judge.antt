-- Refusals in their order: a list of numbered tests, judged by the first that fails.
use Rattle.std.specs.Prelude.{ℕ, Bool, cond, List, [], ◌∷◌}

-- each test stands with the number of the refusal that it gives where it fails
abbrev pub Tests : Type 0
Tests = List (ℕ × Bool)

-- the first test that fails refuses with its number; where none fails, the answer is given
unfoldable pub judge : {A : Type 0} → Tests → (ℕ → A) → A → A
judge [] refuse answer = answer
judge ((number, passes) ∷ tests) refuse answer = cond passes (judge tests refuse answer) (refuse number)

-- the number of the refusal, 0 for none
abbrev pub refusal_of : Tests → ℕ
refusal_of tests = judge tests (λ number. number) 0
