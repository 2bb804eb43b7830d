-- What the TRBs share (xHCI 6.4): fields by dword, low bit and width; a definition by rows; and what an answer shows.
use Rattle.std.specs.Prelude.{ℕ, zero, suc, ◌+◌, ◌-◌, ◌*◌, ◌^◌, List, [], ◌∷◌, Bool, false, cond, ◌||◌, eqb, replicate, Result, Ok, Err}
use Rattle.guest.specs.Refusals.{optional, type, by_number}
use Rattle.guest.specs.Refusals as refusals
use Rattle.guest.specs.Judge.{Tests, judge}
use Rattle.guest.specs.Fields.{field}
use Rattle.trb.specs.declared.Unrecognized.{Unrecognized}

-- the bit of a dword
abbrev pub flag_of : List ℕ → ℕ → ℕ → Bool
flag_of trb k lo = eqb (field trb k lo 1) 1

-- 6.4: the cycle bit is bit 0 of dword 3, the type bits 15:10
abbrev pub cycle_of : List ℕ → Bool
cycle_of trb = flag_of trb 3 0

abbrev pub type_of : List ℕ → ℕ
type_of trb = field trb 3 10 6

-- a 64-bit pointer in dwords 0 (low) and 1 (high), and one whose low four bits are no part of it
abbrev pub pointer_of : List ℕ → ℕ
pointer_of trb = field trb 0 0 32 + 2 ^ 32 * field trb 1 0 32

abbrev pub aligned_of : List ℕ → ℕ
aligned_of trb = 16 * field trb 0 4 28 + 2 ^ 32 * field trb 1 0 32

-- `when t x or y` is x where t holds, and else y: rows, of which the first that holds is meant
infixr 1 ◌or◌
abbrev pub ◌or◌ : {A : Type 0} → (A → A) → A → A
row or others = row others

abbrev pub when : {A : Type 0} → Bool → A → A → A
when t x y = cond t x y

-- a flag as a number
abbrev pub bit : Bool → ℕ
bit b = cond b 1 0

-- ---- numbers in lists: the n from lo up, those from lo to hi, and whether a number is in a list

abbrev pub upward : ℕ → ℕ → List ℕ
upward lo zero = []
upward lo (suc n) = lo ∷ upward (lo + 1) n

infix 70 ◌to◌
abbrev pub ◌to◌ : ℕ → ℕ → List ℕ
lo to hi = upward lo (hi + 1 - lo)

abbrev pub one_of : ℕ → List ℕ → Bool
one_of n [] = false
one_of n (k ∷ ks) = eqb n k || one_of n ks

-- ---- what a parser answers: what it made of the TRB, or a refusal with the raw bytes, and beside 9 and 10 with the type

abbrev pub Parsed : Type 0 → Type 0
Parsed A = Result A Unrecognized

abbrev pub unrecognized : {A : Type 0} → ℕ → ℕ → List ℕ → Parsed A
unrecognized n t trb = Err (record { error = record { refusal = by_number n; trb_type = t }; raw = trb })

-- document 01's number of an answer, 0 where nothing is refused; its values, where `values` are those of what was made; and its raw bytes
abbrev pub number_of : {A : Type 0} → Parsed A → ℕ
number_of (Ok x) = 0
number_of (Err u) = refusals.number_of u.error.refusal

abbrev pub values_by : {A : Type 0} → (A → List ℕ) → Parsed A → List ℕ
values_by values (Ok x) = values x
values_by values (Err u) = refusals.number_of u.error.refusal ∷ u.error.trb_type ∷ []

abbrev pub raw_of : {A : Type 0} → Parsed A → List ℕ
raw_of (Ok x) = replicate 16 0
raw_of (Err u) = u.raw

-- ---- what a parser's answer shows, by the tests of its refusals

-- the type that stands beside a refusal's number
abbrev pub type_beside : ℕ → List ℕ → ℕ
type_beside number trb = cond (one_of number (optional ∷ type ∷ [])) (type_of trb) 0

-- document 01's values: the type and the fields; for a refusal, its number and the type beside it
abbrev pub values_shown : Tests → List ℕ → List ℕ → List ℕ
values_shown tests trb fields = judge tests (λ number. number ∷ type_beside number trb ∷ []) (type_of trb ∷ fields)

-- the raw bytes: sixteen zeros; for a refusal, the bytes that were given
abbrev pub raw_shown : Tests → List ℕ → List ℕ
raw_shown tests trb = judge tests (λ number. trb) (replicate 16 0)
