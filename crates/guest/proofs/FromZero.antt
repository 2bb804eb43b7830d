-- A window that begins at 0 is guest memory as document 01 has it: a list of bytes, the first of which has the address 0. Its definitions
-- stand here by themselves, each with a 0 to its name, and the window's are equal to them for every input. Assumes nothing.
use Rattle.std.proofs.Common.{◌≡◌, ℕ, zero, suc, ◌+◌, ◌*◌, ◌^◌, Bool, true, false, ◌&&◌, leb, List, [], ◌∷◌, ◌++◌, length, get_or, take, drop, refl, ap, ◌∙◌, ap₂, arith, le-leb}
use native.Mathlib.Nat.{sub-zero}
use Rattle.guest.specs.Judge.{judge}
use Rattle.guest.specs.Bytes as bytes
use Rattle.guest.specs.Memory.{Memory, window, inside, byte, le, part, write}
use Rattle.guest.specs.Answers.{touching, number_at, trb_read, slot_of, slot_read, write_number, write_memory, offset_of, part_of}
use Rattle.guest.specs.Refusals.{by_number}
use Rattle.guest.specs.declared.refusal.Refusal.{Refusal}
use Rattle.guest.specs.declared.Slot.{Slot}
use Rattle.std.specs.Prelude.{Result, Ok, Err}

-- ---- document 01's memory

-- all k bytes from address a on are in the memory: a plus k passes neither 2 ^ 64 nor the memory's length
abbrev pub inside₀ : List ℕ → ℕ → ℕ → Bool
inside₀ m a k = leb (a + k) (2 ^ 64) && leb (a + k) (length m)

abbrev pub byte₀ : List ℕ → ℕ → ℕ
byte₀ m a = get_or m a 0

unfoldable pub le₀ : List ℕ → ℕ → ℕ → ℕ
le₀ m a zero = 0
le₀ m a (suc k) = byte₀ m a + 256 * le₀ m (a + 1) k

abbrev pub part₀ : List ℕ → ℕ → ℕ → List ℕ
part₀ m a k = take k (drop a m)

abbrev pub write₀ : List ℕ → ℕ → List ℕ → List ℕ
write₀ m a v = take a m ++ (v ++ drop (a + length v) m)

-- and what its functions answer: refusal 1 alone
abbrev pub judge₀ : {A : Type 0} → List ℕ → ℕ → ℕ → (ℕ → A) → A → A
judge₀ m a k refuse answer = judge ((1, inside₀ m a k) ∷ []) refuse answer

abbrev pub touching₀ : {A : Type 0} → List ℕ → ℕ → ℕ → A → Result A Refusal
touching₀ m a k x = judge₀ m a k (λ n. Err (by_number n)) (Ok x)

abbrev pub number_at₀ : List ℕ → ℕ → ℕ → Result ℕ Refusal
number_at₀ m a k = touching₀ m a k (le₀ m a k)

abbrev pub trb_read₀ : List ℕ → ℕ → Result (List ℕ) Refusal
trb_read₀ m a = touching₀ m a 16 (part₀ m a 16)

abbrev pub slot_read₀ : List ℕ → ℕ → Result Slot Refusal
slot_read₀ m a = touching₀ m a 16 (slot_of (part₀ m a 16))

-- the bytes themselves, none beside a refusal, and where they begin, 0 beside a refusal
abbrev pub part_of₀ : List ℕ → ℕ → ℕ → List ℕ
part_of₀ m a k = judge₀ m a k (λ n. []) (part₀ m a k)

abbrev pub offset_of₀ : List ℕ → ℕ → ℕ → ℕ
offset_of₀ m a k = judge₀ m a k (λ n. 0) a

abbrev pub write_number₀ : List ℕ → ℕ → ℕ
write_number₀ m a = judge₀ m a 16 (λ n. n) 0

abbrev pub write_memory₀ : List ℕ → ℕ → List ℕ → List ℕ
write_memory₀ m a trb = judge₀ m a 16 (λ n. m) (write₀ m a trb)

-- ---- the window that begins at 0

module _ (l : List ℕ) (a : ℕ) where
  pub inside_zero : (k : ℕ) → inside (window 0 l) a k ≡ inside₀ l a k
  unfolding inside
  inside_zero k = rw (le-leb 0 a (omega arith), sub-zero a)

  pub byte_zero : byte (window 0 l) a ≡ byte₀ l a
  byte_zero = rw (sub-zero a)

  pub le_zero : (k : ℕ) → le (window 0 l) a k ≡ le₀ l a k
  unfolding bytes.le le₀
  le_zero k = rw (sub-zero a) (same k a)
    where
      same : (k a : ℕ) → bytes.le l a k ≡ le₀ l a k
      same zero a = refl
      same (suc k) a = ap (λ (n : ℕ). get_or l a 0 + 256 * n) (same k (a + 1))

  pub part_zero : (k : ℕ) → part (window 0 l) a k ≡ part₀ l a k
  unfolding bytes.part
  part_zero k = rw (sub-zero a)

  pub write_zero : (v : List ℕ) → write (window 0 l) a v ≡ window 0 (write₀ l a v)
  unfolding bytes.write
  write_zero v = rw (sub-zero a)

  touching_zero : {A : Type 0} (k : ℕ) {x y : A} → x ≡ y → touching (window 0 l) a k x ≡ touching₀ l a k y
  touching_zero {A = A} k e = ap₂ (λ (b : Bool) (x : A). judge {A = Result A Refusal} ((1, b) ∷ []) (λ n. Err (by_number n)) (Ok x)) (inside_zero k) e

  pub number_at_zero : (k : ℕ) → number_at (window 0 l) a k ≡ number_at₀ l a k
  number_at_zero k = touching_zero k (le_zero k)

  pub trb_read_zero : trb_read (window 0 l) a ≡ trb_read₀ l a
  trb_read_zero = touching_zero 16 (part_zero 16)

  pub slot_read_zero : slot_read (window 0 l) a ≡ slot_read₀ l a
  slot_read_zero = touching_zero 16 (ap slot_of (part_zero 16))

  pub part_of_zero : (k : ℕ) → part_of (window 0 l) a k ≡ part_of₀ l a k
  part_of_zero k = ap₂ (λ (b : Bool) (p : List ℕ). judge ((1, b) ∷ []) (λ (n : ℕ). []) p) (inside_zero k) (part_zero k)

  pub offset_of_zero : (k : ℕ) → offset_of (window 0 l) a k ≡ offset_of₀ l a k
  offset_of_zero k = ap₂ (λ (b : Bool) (p : ℕ). judge ((1, b) ∷ []) (λ (n : ℕ). 0) p) (inside_zero k) (sub-zero a)

  pub write_number_zero : write_number (window 0 l) a ≡ write_number₀ l a
  write_number_zero = ap (λ (b : Bool). judge ((1, b) ∷ []) (λ (n : ℕ). n) 0) (inside_zero 16)

  pub write_memory_zero : (trb : List ℕ) → write_memory (window 0 l) a trb ≡ window 0 (write_memory₀ l a trb)
  unfolding judge
  write_memory_zero trb = ap₂ (λ (b : Bool) (m : Memory). judge ((1, b) ∷ []) (λ (n : ℕ). window 0 l) m) (inside_zero 16) (write_zero trb) ∙ moved (inside₀ l a 16)
    where
      moved : (b : Bool) → judge ((1, b) ∷ []) (λ (n : ℕ). window 0 l) (window 0 (write₀ l a trb)) ≡ window 0 (judge ((1, b) ∷ []) (λ (n : ℕ). l) (write₀ l a trb))
      moved true = refl
      moved false = refl
