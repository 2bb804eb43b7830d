-- Refusals as facts on the inputs, in document 01's numbers and order: for statements that cite none of the tests that the functions are defined
-- by, so that a slip there is a slip on one side only.
use Rattle.std.specs.Prelude.{ℕ, ◌+◌, ◌^◌, ◌≤◌, List, [], ◌∷◌, length}
use Rattle.guest.specs.Memory.{Memory}

-- ---- faults in their order

abbrev pub Not : Type 0 → Type 0
Not A = A → ⊥

-- each fault stands with the number of its refusal
abbrev pub Faults : Type 1
Faults = List (ℕ × Type 0)

-- the number is that of the first fault that there is, 0 if there is none
pub data FirstOf : Faults → ℕ → Type 1 where
  none : FirstOf [] 0
  this : {number : ℕ} {fault : Type 0} {faults : Faults} → fault → FirstOf ((number, fault) ∷ faults) number
  later : {number n : ℕ} {fault : Type 0} {faults : Faults} → Not fault → FirstOf faults n → FirstOf ((number, fault) ∷ faults) n

-- ---- refusal 1

-- 1: all bytes to be touched are inside the lent window: the address is at least its start, address plus length does not pass 2 ^ 64, and
-- does not pass the window's end either
pub record Inside (m : Memory) (a k : ℕ) : Type 0 where
  pub from : m.start ≤ a
  pub below : a + k ≤ 2 ^ 64
  pub within : a + k ≤ m.start + length m.bytes
