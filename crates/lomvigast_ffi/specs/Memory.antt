-- Numbers and TRBs read from guest memory.
use Rattle.std.specs.Prelude.{ℕ, List, [], ◌∷◌, Result, Ok, Err}
use Rattle.guest.specs.Refusals as refusals
use Rattle.guest.specs.Fields.{low_of, high_of}
use Rattle.guest.specs.declared.refusal.Refusal.{Refusal}
use Rattle.lomvigast_ffi.specs.declared.memory.CNumber.{CNumber}

-- the number, with refusal 0; 0 beside a refusal's number
abbrev pub flat_number : Result ℕ Refusal → CNumber
flat_number (Ok v) = record { value = v; refusal = 0 }
flat_number (Err r) = record { value = 0; refusal = refusals.number_of r }

-- a TRB as two words
abbrev pub trb_words : List ℕ → List ℕ
trb_words trb = low_of trb ∷ high_of trb ∷ []

-- the two lent words after a read: a refusal leaves them as they were
abbrev pub put_trb : Result (List ℕ) Refusal → List ℕ → List ℕ
put_trb (Ok trb) ws = trb_words trb
put_trb (Err r) ws = ws
