-- The completion codes and the classes of a code byte, xHCI 1.2 table 6-90.
use Rattle.std.specs.Prelude.{ℕ, cond, List, [], ◌∷◌, ltb, eqb, Option, Some, None}
use Rattle.codes.specs.declared.CompletionCode.{CompletionCode}
use Rattle.codes.specs.declared.CompletionCode.TheVariants as code
use code.{Invalid, Success, DataBufferError, BabbleDetectedError, UsbTransactionError, TrbError, StallError, ResourceError}
use code.{BandwidthError, NoSlotsAvailableError, InvalidStreamTypeError, SlotNotEnabledError, EndpointNotEnabledError}
use code.{ShortPacket, RingUnderrun, RingOverrun, VfEventRingFullError, ParameterError, BandwidthOverrunError, ContextStateError}
use code.{NoPingResponseError, EventRingFullError, IncompatibleDeviceError, MissedServiceError, CommandRingStopped}
use code.{CommandAborted, Stopped, StoppedLengthInvalid, StoppedShortedPacket, MaxExitLatencyTooLargeError, IsochBufferOverrun}
use code.{EventLostError, UndefinedError, InvalidStreamIdError, SecondaryBandwidthError, SplitTransactionError}
use Rattle.codes.specs.declared.Class.{Class}

-- the number of each listed code
unfoldable pub number_of : CompletionCode → ℕ
number_of Invalid = 0
number_of Success = 1
number_of DataBufferError = 2
number_of BabbleDetectedError = 3
number_of UsbTransactionError = 4
number_of TrbError = 5
number_of StallError = 6
number_of ResourceError = 7
number_of BandwidthError = 8
number_of NoSlotsAvailableError = 9
number_of InvalidStreamTypeError = 10
number_of SlotNotEnabledError = 11
number_of EndpointNotEnabledError = 12
number_of ShortPacket = 13
number_of RingUnderrun = 14
number_of RingOverrun = 15
number_of VfEventRingFullError = 16
number_of ParameterError = 17
number_of BandwidthOverrunError = 18
number_of ContextStateError = 19
number_of NoPingResponseError = 20
number_of EventRingFullError = 21
number_of IncompatibleDeviceError = 22
number_of MissedServiceError = 23
number_of CommandRingStopped = 24
number_of CommandAborted = 25
number_of Stopped = 26
number_of StoppedLengthInvalid = 27
number_of StoppedShortedPacket = 28
number_of MaxExitLatencyTooLargeError = 29
number_of IsochBufferOverrun = 31
number_of EventLostError = 32
number_of UndefinedError = 33
number_of InvalidStreamIdError = 34
number_of SecondaryBandwidthError = 35
number_of SplitTransactionError = 36

-- the listed codes
abbrev pub codes : List CompletionCode
codes =
    Invalid ∷ Success ∷ DataBufferError ∷ BabbleDetectedError ∷ UsbTransactionError ∷ TrbError ∷ StallError ∷
    ResourceError ∷ BandwidthError ∷ NoSlotsAvailableError ∷ InvalidStreamTypeError ∷ SlotNotEnabledError ∷
    EndpointNotEnabledError ∷ ShortPacket ∷ RingUnderrun ∷ RingOverrun ∷ VfEventRingFullError ∷ ParameterError ∷
    BandwidthOverrunError ∷ ContextStateError ∷ NoPingResponseError ∷ EventRingFullError ∷ IncompatibleDeviceError ∷
    MissedServiceError ∷ CommandRingStopped ∷ CommandAborted ∷ Stopped ∷ StoppedLengthInvalid ∷ StoppedShortedPacket ∷
    MaxExitLatencyTooLargeError ∷ IsochBufferOverrun ∷ EventLostError ∷ UndefinedError ∷ InvalidStreamIdError ∷
    SecondaryBandwidthError ∷ SplitTransactionError ∷ []

-- the code of a list that has the number n
abbrev pub find : List CompletionCode → ℕ → Option CompletionCode
find [] n = None
find (k ∷ ks) n = cond (eqb n (number_of k)) (Some k) (find ks n)

-- the listed code that a byte n stands for
unfoldable pub code_of : ℕ → Option CompletionCode
code_of n = find codes n

-- the class of a byte n: listed are 0 to 36 without 30; reserved 30 and 37 to 191; vendor errors 192 to 223; vendor information 224 to 255
unfoldable pub class_of : ℕ → Class
class_of n =
    cond (eqb n 30) Class.Reserved
    (cond (ltb n 37) Class.Listed
    (cond (ltb n 192) Class.Reserved
    (cond (ltb n 224) Class.VendorError
    Class.VendorInfo)))

-- the number of a class, in the order of the ranges above
abbrev pub number_of_class : Class → ℕ
number_of_class Class.Listed = 0
number_of_class Class.Reserved = 1
number_of_class Class.VendorError = 2
number_of_class Class.VendorInfo = 3

-- the number of an answer, 0 or the refusal 12 of a code that is not listed, and its value, the code's number
abbrev pub number_of_coded : Option CompletionCode → ℕ
number_of_coded (Some k) = 0
number_of_coded None = 12

abbrev pub values_of_coded : Option CompletionCode → List ℕ
values_of_coded (Some k) = number_of k ∷ []
values_of_coded None = []
