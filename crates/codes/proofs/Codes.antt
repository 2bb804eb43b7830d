-- A code's number and a byte's code undo each other, a byte is of the class Listed exactly if it has a code, and what
-- `code_of` answers shows this. Assumes nothing.
use Prim.Native.Nat.{ℕ, ◌^◌, ◌<◌, ◌≤◌}
use native.Mathlib.Decide.{dec_lt}
use native.Mathlib.Omega.{arith}
use mathlib.Core.Bool.{Bool, true, false, cond, ◌&&◌}
use mathlib.Core.List.{List, [], ◌∷◌}
use mathlib.Core.Path.{◌≡◌, refl, ap, ◌∙◌}
use lib.Dec.{T, ltb, eqb, ltb→lt}
use borrow.Author.Tests.{eqb-true, le-ltb, ne_eqb}
use Rattle.std.proofs.lemmas.Bool.{agree_below_at}
use Rattle.codes.specs.Codes.{number_of, codes, find, code_of, class_of, number_of_coded, values_of_coded}
use Rattle.codes.specs.declared.CompletionCode.{CompletionCode}
use Rattle.codes.specs.declared.Class.{Class}
use Rattle.std.specs.Prelude.{Option, Some, None}

-- the code of a code's number is that code
pub code_of_number : (k : CompletionCode) → code_of (number_of k) ≡ Some k
unfolding number_of code_of
code_of_number CompletionCode.Invalid = refl
code_of_number CompletionCode.Success = refl
code_of_number CompletionCode.DataBufferError = refl
code_of_number CompletionCode.BabbleDetectedError = refl
code_of_number CompletionCode.UsbTransactionError = refl
code_of_number CompletionCode.TrbError = refl
code_of_number CompletionCode.StallError = refl
code_of_number CompletionCode.ResourceError = refl
code_of_number CompletionCode.BandwidthError = refl
code_of_number CompletionCode.NoSlotsAvailableError = refl
code_of_number CompletionCode.InvalidStreamTypeError = refl
code_of_number CompletionCode.SlotNotEnabledError = refl
code_of_number CompletionCode.EndpointNotEnabledError = refl
code_of_number CompletionCode.ShortPacket = refl
code_of_number CompletionCode.RingUnderrun = refl
code_of_number CompletionCode.RingOverrun = refl
code_of_number CompletionCode.VfEventRingFullError = refl
code_of_number CompletionCode.ParameterError = refl
code_of_number CompletionCode.BandwidthOverrunError = refl
code_of_number CompletionCode.ContextStateError = refl
code_of_number CompletionCode.NoPingResponseError = refl
code_of_number CompletionCode.EventRingFullError = refl
code_of_number CompletionCode.IncompatibleDeviceError = refl
code_of_number CompletionCode.MissedServiceError = refl
code_of_number CompletionCode.CommandRingStopped = refl
code_of_number CompletionCode.CommandAborted = refl
code_of_number CompletionCode.Stopped = refl
code_of_number CompletionCode.StoppedLengthInvalid = refl
code_of_number CompletionCode.StoppedShortedPacket = refl
code_of_number CompletionCode.MaxExitLatencyTooLargeError = refl
code_of_number CompletionCode.IsochBufferOverrun = refl
code_of_number CompletionCode.EventLostError = refl
code_of_number CompletionCode.UndefinedError = refl
code_of_number CompletionCode.InvalidStreamIdError = refl
code_of_number CompletionCode.SecondaryBandwidthError = refl
code_of_number CompletionCode.SplitTransactionError = refl

-- one step of a search: the first code has the number n, or the rest is searched
step : (b : Bool) (j k : CompletionCode) (n : ℕ) (rest : Option CompletionCode) → eqb n (number_of j) ≡ b → cond b (Some j) rest ≡ Some k →
    (rest ≡ Some k → number_of k ≡ n) → number_of k ≡ n
step true j k n rest q e onward = cc (eqb-true n (number_of j) q)
step false j k n rest q e onward = onward e

found : (ks : List CompletionCode) (n : ℕ) (k : CompletionCode) → find ks n ≡ Some k → number_of k ≡ n
found [] n k e = let z : ◌≡◌ {A = ℕ} 0 1 = cc in omega arith
found (j ∷ ks) n k e = step (eqb n (number_of j)) j k n (find ks n) refl e (found ks n k)

-- the number of a byte's code is that byte
pub number_of_code : (n : ℕ) (k : CompletionCode) → code_of n ≡ Some k → number_of k ≡ n
unfolding code_of
number_of_code n k e = found codes n k e

left : (a b : Bool) → T (a && b) → T a
left true b t = tt
left false b t = t

right : (a b : Bool) → T (a && b) → T b
right true b t = t
right false b t = absurd t

-- whether each code of a list has a number below 37
small : List CompletionCode → Bool
small [] = true
small (k ∷ ks) = ltb (number_of k) 37 && small ks

not_found : (ks : List CompletionCode) (n : ℕ) → T (small ks) → 37 ≤ n → find ks n ≡ None
unfolding small
not_found [] n t h = refl
not_found (k ∷ ks) n t h =
    rw (ne_eqb n (number_of k) (λ e. omega (arith, ltb→lt (number_of k) 37 (left (ltb (number_of k) 37) (small ks) t))))
    (not_found ks n (right (ltb (number_of k) 37) (small ks) t) h)

-- above 36 no code is listed
above_36 : (n : ℕ) → 37 ≤ n → code_of n ≡ None
unfolding number_of code_of small
above_36 n h = not_found codes n tt h

-- a code's number is a byte
pub number_lt : (k : CompletionCode) → number_of k < 2 ^ 8
number_lt k = by (dec_lt (number_of k) 37)
  where
    by : Dec (number_of k < 37) → number_of k < 2 ^ 8
    by (yes h) = omega arith
    by (no h) = let z : ◌≡◌ {A = ℕ} 0 1 = cc (code_of_number k, above_36 (number_of k) (omega arith)) in omega arith

abbrev pub is_listed : Class → Bool
is_listed Class.Listed = true
is_listed Class.Reserved = false
is_listed Class.VendorError = false
is_listed Class.VendorInfo = false

abbrev pub is_code : Option CompletionCode → Bool
is_code (Some k) = true
is_code None = false

not_listed : (a b : Bool) → is_listed (cond a Class.Reserved (cond b Class.VendorError Class.VendorInfo)) ≡ false
not_listed true b = refl
not_listed false true = refl
not_listed false false = refl

-- a byte is of the class Listed exactly if it has a code: a test computed up to 36, and above that neither holds
pub listed_exactly : (n : ℕ) → is_listed (class_of n) ≡ is_code (code_of n)
unfolding number_of code_of class_of
listed_exactly n = by (dec_lt n 37)
  where
    by : Dec (n < 37) → is_listed (class_of n) ≡ is_code (code_of n)
    by (yes h) = agree_below_at (λ k. is_listed (class_of k)) (λ k. is_code (code_of k)) 37 n refl h
    by (no h) =
        rw (above_36 n (omega arith), ne_eqb n 30 (λ e. omega arith), le-ltb n 37 (omega arith))
        (not_listed (ltb n 192) (ltb n 224))

-- what `code_of` answers, by the class of the byte: a listed byte is its code's number, and any other gives refusal 12
pub record OfCode (n : ℕ) (x : Option CompletionCode) : Type 0 where
  pub number : number_of_coded x ≡ cond (is_listed (class_of n)) 0 12
  pub values : values_of_coded x ≡ cond (is_listed (class_of n)) (n ∷ []) []

pub code_shown : (n : ℕ) → OfCode n (code_of n)
code_shown n = by (code_of n) refl
  where
    by : (x : Option CompletionCode) → code_of n ≡ x → OfCode n x
    by (Some k) e =
        let c : is_listed (class_of n) ≡ true = listed_exactly n ∙ ap is_code e in
        record { number = rw c; values = rw (c, number_of_code n k e) }
    by None e =
        let c : is_listed (class_of n) ≡ false = listed_exactly n ∙ ap is_code e in
        record { number = rw c; values = rw c }
