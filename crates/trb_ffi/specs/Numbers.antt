-- Completion codes by their numbers.
use Rattle.std.specs.Prelude.{ℕ, Option, Some, None}
use Rattle.codes.specs.Codes.{number_of, number_of_coded}
use Rattle.codes.specs.declared.CompletionCode.{CompletionCode}
use Rattle.trb_ffi.specs.declared.numbers.CCoded.{CCoded}

-- the code's number; 0 beside a refusal
abbrev pub value_of : Option CompletionCode → ℕ
value_of (Some k) = number_of k
value_of None = 0

abbrev pub flat_coded : Option CompletionCode → CCoded
flat_coded k = record { refusal = number_of_coded k; code = value_of k }
