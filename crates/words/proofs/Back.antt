-- An event's words say the event: it is read back from them as it was, and the numbers at the bytes that specs/Events.antt names are
-- document 01's values of it, in its order. A definition that exchanges two fields, and code that follows it, fails here. Assumes nothing.
use Prim.{tt}
use mathlib.Core.Path.{◌≡◌, ap, ap₂, ◌∙◌}
use mathlib.Core.Bool.{Bool, true, false}
use mathlib.Core.List.{List, [], ◌∷◌}
use Prim.Native.Nat.{ℕ, ◌+◌, ◌*◌, ◌/◌, ◌%◌, ◌^◌, ◌<◌}
use native.Mathlib.Omega.{arith}
use borrow.Author.Tests.{eq-eqb, ne_eqb}
use lib.Dec.{eqb}
use lib.ListN.{get_or}
use Rattle.guest.specs.Fields.{bits}
use Rattle.codes.specs.Codes.{number_of}
use Rattle.codes.proofs.Codes.{code_of_number, number_lt}
use Rattle.trb.specs.Trb.{bit, when, ◌or◌}
use Rattle.trb.specs.Events.{pack, Typed, values_of_event}
use Rattle.trb.specs.declared.event.EventTrb.{EventTrb}
use Rattle.std.specs.Prelude.{Ok}
use Rattle.trb.proofs.OneEncoding.{nth}
use Rattle.trb.proofs.Pack.{cut, Fit, packed}
use Rattle.words.specs.Events.{field_of, event_in, put_event}

-- ---- numbers in words

-- the number that n bytes from byte i on are; they stand in one word
abbrev pub bytes_in : List ℕ → ℕ → ℕ → ℕ
bytes_in ws i n = field_of ws (i / 8) (8 * (i % 8)) (8 * n)

-- the numbers at places, each a byte and how many there are
abbrev pub numbers_at : List (ℕ × ℕ) → List ℕ → List ℕ
numbers_at [] ws = []
numbers_at ((i, n) ∷ places) ws = bytes_in ws i n ∷ numbers_at places ws

-- words whose byte 0 says at which places their numbers stand
abbrev pub said_by : (ℕ → List (ℕ × ℕ)) → List ℕ → List ℕ
said_by places ws = numbers_at (places (bytes_in ws 0 1)) ws

pub said_by_lem : (places : ℕ → List (ℕ × ℕ)) (ws : List ℕ) (kind : ℕ) (vs : List ℕ) → bytes_in ws 0 1 ≡ kind → numbers_at (places kind) ws ≡ vs
    → said_by places ws ≡ vs
said_by_lem places ws kind vs k e = ap (λ (t : ℕ). numbers_at (places t) ws) k ∙ e

-- the fields of a word that is the sum of them
pub read : (widths vs : List ℕ) (n : ℕ) → n ≡ pack widths vs → Fit widths vs → cut widths 0 n ≡ vs
read widths vs n e f = ap (cut widths 0) e ∙ (packed widths vs f).read

-- of a word that is one number
pub word : (p : ℕ) → p < 2 ^ 64 → bits p 0 64 ≡ p
word p h = omega arith

pub bit_lt : (b : Bool) → bit b < 2 ^ 8
bit_lt true = omega arith
bit_lt false = omega arith

-- a flag is read back from bit 0 of its byte
flag_back : (n : ℕ) (b : Bool) → n % 2 ^ 8 ≡ bit b → eqb (n % 2) 1 ≡ b
flag_back n true e = eq-eqb (n % 2) 1 (omega arith)
flag_back n false e = ne_eqb (n % 2) 1 (λ z. omega arith)

-- ---- events

-- a length or parameter is of 32 bits
abbrev pub Short : EventTrb → Type 0
Short (EventTrb.Transfer t) = t.trb_transfer_length < 2 ^ 32
Short (EventTrb.CommandCompletion t) = t.command_completion_parameter < 2 ^ 32
Short (EventTrb.PortStatusChange t) = Unit

-- where the words of an event of each type have its type, then document 01's fields in their order
abbrev pub event_places : ℕ → List (ℕ × ℕ)
event_places t =
    when (eqb t 32) ((0, 1) ∷ (8, 8) ∷ (16, 4) ∷ (20, 1) ∷ (21, 1) ∷ (22, 1) ∷ (23, 1) ∷ []) or
    when (eqb t 33) ((0, 1) ∷ (8, 8) ∷ (16, 4) ∷ (20, 1) ∷ (21, 1) ∷ []) or
    when (eqb t 34) ((0, 1) ∷ (1, 1) ∷ []) or
    []

port_read : (p : ℕ) → p < 2 ^ 8 → cut (8 ∷ 8 ∷ []) 0 (34 + p * 2 ^ 8) ≡ 34 ∷ p ∷ []
port_read p h = read (8 ∷ 8 ∷ []) (34 ∷ p ∷ []) (34 + p * 2 ^ 8) (omega arith) (omega arith, (h, tt))

module _ (a b c : ℕ) where
  abbrev lent : List ℕ
  lent = a ∷ b ∷ c ∷ []

  pub event_said : (e : EventTrb) → Typed e → Short e → said_by event_places (put_event e lent) ≡ values_of_event e
  event_said (EventTrb.Transfer t) y l =
      let k = t.completion_code in
      ap₂ (λ (p : ℕ) (xs : List ℕ). 32 ∷ p ∷ xs) (word t.trb_pointer y.0)
      (read (32 ∷ 8 ∷ 8 ∷ 8 ∷ 8 ∷ []) (t.trb_transfer_length ∷ number_of k ∷ bit t.event_data ∷ t.endpoint_id ∷ t.slot_id ∷ []) _ (omega arith)
      (l, (number_lt k, (bit_lt t.event_data, (y.1, (y.2, tt))))))
  event_said (EventTrb.CommandCompletion t) y l =
      let k = t.completion_code in
      ap₂ (λ (p : ℕ) (xs : List ℕ). 33 ∷ p ∷ xs) (word t.command_trb_pointer y.0)
      (read (32 ∷ 8 ∷ 8 ∷ []) (t.command_completion_parameter ∷ number_of k ∷ t.slot_id ∷ []) _ (omega arith)
      (l, (number_lt k, (y.1, tt))))
  event_said (EventTrb.PortStatusChange t) y l =
      let g = port_read t.port_id y in
      said_by_lem event_places (put_event (EventTrb.PortStatusChange t) lent) 34 _ (nth 0 g) g

  pub event_back : (e : EventTrb) → Typed e → Short e → event_in (put_event e lent) ≡ Ok e
  unfolding event_in
  event_back (EventTrb.Transfer t) y l =
      let g = event_said (EventTrb.Transfer t) y l in
      rw (nth 3 g, code_of_number t.completion_code, nth 2 g, flag_back _ t.event_data (nth 4 g), nth 5 g, nth 6 g)
  event_back (EventTrb.CommandCompletion t) y l =
      let g = event_said (EventTrb.CommandCompletion t) y l in
      rw (nth 3 g, code_of_number t.completion_code, nth 2 g, nth 4 g)
  event_back (EventTrb.PortStatusChange t) y l = let g = port_read t.port_id y in rw (nth 0 g, nth 1 g)
