-- A TRB as xHCI draws it (section 6.4): four dwords, little-endian, in which a field is some bits of one dword.
use Rattle.std.specs.Prelude.{ℕ, zero, suc, ◌*◌, ◌/◌, ◌%◌, ◌^◌, List, [], ◌∷◌, ◌++◌}
use Rattle.guest.specs.Bytes.{le}
use Rattle.guest.specs.declared.Dwords.{Dwords}

-- the w bits of n from bit lo up
abbrev pub bits : ℕ → ℕ → ℕ → ℕ
bits n lo w = n / 2 ^ lo % 2 ^ w

-- dword k of a TRB's bytes, and the field of w bits from bit lo up in it
abbrev pub dword : List ℕ → ℕ → ℕ
dword trb k = le trb (4 * k) 4

abbrev pub field : List ℕ → ℕ → ℕ → ℕ → ℕ
field trb k lo w = bits (dword trb k) lo w

abbrev pub dwords_of : List ℕ → Dwords
dwords_of trb = record { d0 = dword trb 0; d1 = dword trb 1; d2 = dword trb 2; d3 = dword trb 3 }

-- the k bytes of n, the lowest first
unfoldable pub bytes_of : ℕ → ℕ → List ℕ
bytes_of zero n = []
bytes_of (suc k) n = n % 256 ∷ bytes_of k (n / 256)

abbrev pub bytes_of_dwords : Dwords → List ℕ
bytes_of_dwords d = bytes_of 4 d.d0 ++ (bytes_of 4 d.d1 ++ (bytes_of 4 d.d2 ++ bytes_of 4 d.d3))

-- a TRB as two numbers of eight bytes: dwords 0 and 1, and dwords 2 and 3; and the bytes of two such numbers
abbrev pub low_of : List ℕ → ℕ
low_of trb = le trb 0 8

abbrev pub high_of : List ℕ → ℕ
high_of trb = le trb 8 8

abbrev pub whole_of : ℕ → ℕ → List ℕ
whole_of low high = bytes_of 8 low ++ bytes_of 8 high
