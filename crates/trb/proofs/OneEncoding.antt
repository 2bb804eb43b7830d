-- Events, one encoding each: what is written is read back, and what is read was written, by one event and cycle bit. Assumes nothing.
use mathlib.Core.Path.{◌≡◌, refl, sym, ap, ◌∙◌}
use mathlib.Core.Bool.{Bool, true, false, false≢true}
use mathlib.Core.List.{List, [], ◌∷◌}
use mathlib.Core.Logic.{◌↔◌}
use Prim.{Unit, tt}
use Prim.Native.Nat.{ℕ, ◌+◌, ◌*◌, ◌/◌, ◌^◌, ◌<◌}
use native.Mathlib.Omega.{arith}
use borrow.Author.Tests.{eqb-true, eq-eqb, lt-ltb, ltb-true}
use lib.Dec.{eqb, lit<}
use lib.ListN.{length, get_or}
use Rattle.guest.specs.Refusals.{event}
use Rattle.guest.specs.Judge.{judge}
use Rattle.guest.specs.Fields.{bits, dword, field, dwords_of, bytes_of, bytes_of_dwords}
use Rattle.guest.specs.declared.Dwords.{Dwords}
use Rattle.guest.proofs.Tests.{both}
use Rattle.guest.proofs.Judge.{judge_by}
use Rattle.guest.proofs.Bytes.{Bytes}
use Rattle.guest.proofs.Fields.{Sized, split_sized, split_join, join_split}
use Rattle.codes.specs.Codes.{number_of}
use Rattle.codes.specs.Types as types
use Rattle.codes.specs.declared.CompletionCode.{CompletionCode}
use Rattle.codes.proofs.Codes.{code_of_number, number_lt}
use Rattle.trb.specs.Trb.{type_of, cycle_of, pointer_of, flag_of, bit, Parsed}
use Rattle.trb.specs.Events.{pack, in_code, of_code, in_transfer, of_transfer, transfer_dwords, in_command_completion, of_command_completion, command_completion_dwords, in_port_status_change, of_port_status_change, port_status_change_dwords, event_dwords, event_bytes, valid, refused, accepted, bytes_answered, clear, reserved_in_transfer, reserved_in_command_completion, reserved_in_port_status_change, code_in, is_listed, listed_in, read_tests, answered, transfer_as, command_completion_as, port_status_change_as, event_of, Typed}
use Rattle.trb.specs.declared.event.TransferEventTrbData.{TransferEventTrbData}
use Rattle.trb.specs.declared.event.CommandCompletionEventTrbData.{CommandCompletionEventTrbData}
use Rattle.trb.specs.declared.event.PortStatusChangeEventTrbData.{PortStatusChangeEventTrbData}
use Rattle.trb.specs.declared.event.EventTrb.{EventTrb}
use Rattle.std.specs.Prelude.{Ok, Err}
use Rattle.trb.proofs.Raw.{flag_is}
use Rattle.trb.proofs.Pack.{whole, Packed, packed}
use Rattle.trb.proofs.Rows.{by_type}
use Rattle.trb.proofs.Coded.{listed_number}

-- ---- flags, and fields that are 0

bit_back : (b : Bool) → eqb (bit b) 1 ≡ b
bit_back true = refl
bit_back false = refl

bit_lt : (b : Bool) → bit b < 2
bit_lt true = omega arith
bit_lt false = omega arith

abbrev Zeros : List ℕ → List (ℕ × ℕ × ℕ) → Type 0
Zeros trb [] = Unit
Zeros trb ((k, lo, w) ∷ fs) = (field trb k lo w ≡ 0) × Zeros trb fs

zeros : (trb : List ℕ) (fs : List (ℕ × ℕ × ℕ)) → clear trb fs ≡ true → Zeros trb fs
zeros trb [] h = tt
zeros trb ((k, lo, w) ∷ fs) h =
    let p = both (eqb (field trb k lo w) 0) (clear trb fs) h in
    (eqb-true (field trb k lo w) 0 p.0, zeros trb fs p.1)

-- ---- what is read was written

-- a reading is a refusal, or an event that is valid and whose dwords, with the cycle bit read, are those that were read
abbrev Sound : List ℕ → Parsed EventTrb → Type 0
Sound trb (Ok e) = Typed e × (valid e ≡ true) × (event_dwords e (cycle_of trb) ≡ dwords_of trb)
Sound trb (Err u) = Unit

same_dwords : (d : Dwords) {a b c e : ℕ} → a ≡ d.d0 → b ≡ d.d1 → c ≡ d.d2 → e ≡ d.d3 → record { d0 = a; d1 = b; d2 = c; d3 = e } ≡ d
same_dwords d p q r s = rw (p, q, r, s)

module _ (trb : List ℕ) (z : Sized (dwords_of trb)) where
  low_half : bits (pointer_of trb) 0 32 ≡ dword trb 0
  low_half = omega arith

  high_half : bits (pointer_of trb) 32 32 ≡ dword trb 1
  high_half = omega arith

  code_is : is_listed (code_in trb) ≡ true → pack in_code (of_code (field trb 2 0 24) (listed_in (code_in trb))) ≡ dword trb 2
  code_is h =
      whole in_code (of_code (field trb 2 0 24) (listed_in (code_in trb))) (dword trb 2) z.z2
      (rw (listed_number trb h))

  sound_transfer : type_of trb ≡ types.transfer_event → Sound trb (transfer_as trb)
  unfolding valid event_dwords
  sound_transfer t =
      judge_by (Sound trb) (read_tests (is_listed (code_in trb)) (clear trb reserved_in_transfer)) _ _ (λ n. tt)
      (λ p.
      let r = zeros trb reserved_in_transfer p.1.0 in (
        (omega arith, omega arith, omega arith),
        lt-ltb (field trb 2 0 24) (2 ^ 24) (omega arith),
        same_dwords (dwords_of trb) low_half high_half (code_is p.0)
            (whole in_transfer (bit (cycle_of trb) ∷ 0 ∷ bit (flag_of trb 3 2) ∷ 0 ∷ types.transfer_event ∷ field trb 3 16 8 ∷ field trb 3 24 8 ∷ []) (dword trb 3) z.z3
            (rw (flag_is (dword trb 3 / 2 ^ 0), flag_is (dword trb 3 / 2 ^ 2), r.0, r.1.0, t))),
      ))

  sound_command_completion : type_of trb ≡ types.command_completion_event → Sound trb (command_completion_as trb)
  unfolding valid event_dwords
  sound_command_completion t =
      judge_by (Sound trb) (read_tests (is_listed (code_in trb)) (clear trb reserved_in_command_completion)) _ _ (λ n. tt)
      (λ p.
      let r = zeros trb reserved_in_command_completion p.1.0 in
      let low : bits (pointer_of trb) 0 4 ≡ 0 = omega (arith, r.0) in (
        (omega arith, omega arith),
        rw (eq-eqb _ 0 low, lt-ltb (field trb 2 0 24) (2 ^ 24) (omega arith)),
        same_dwords (dwords_of trb) low_half high_half (code_is p.0)
            (whole in_command_completion (bit (cycle_of trb) ∷ 0 ∷ types.command_completion_event ∷ 0 ∷ field trb 3 24 8 ∷ []) (dword trb 3) z.z3
            (rw (flag_is (dword trb 3 / 2 ^ 0), r.1.0, r.1.1.0, t))),
      ))

  sound_port_status_change : type_of trb ≡ types.port_status_change_event → Sound trb (port_status_change_as trb)
  unfolding valid event_dwords number_of
  sound_port_status_change t =
      judge_by (Sound trb) (read_tests (eqb (field trb 2 24 8) 1) (clear trb reserved_in_port_status_change)) _ _ (λ n. tt)
      (λ p.
      let r = zeros trb reserved_in_port_status_change p.1.0 in
      let one : field trb 2 24 8 ≡ 1 = eqb-true _ 1 p.0 in (
        omega arith,
        refl,
        same_dwords (dwords_of trb)
            (whole in_code (0 ∷ field trb 0 24 8 ∷ []) (dword trb 0) z.z0 (rw r.0))
            (omega (arith, r.1.0))
            (whole in_code (0 ∷ 1 ∷ []) (dword trb 2) z.z2 (rw (r.1.1.0, one)))
            (whole in_port_status_change (of_port_status_change (cycle_of trb)) (dword trb 3) z.z3 (rw (flag_is (dword trb 3 / 2 ^ 0), r.1.1.1.0, r.1.1.1.1.0, t))),
      ))

  sound : Sound trb (event_of trb)
  unfolding event_of
  sound =
      by_type (Sound trb) trb types.transfer_event _ _ sound_transfer (λ n.
      by_type (Sound trb) trb types.command_completion_event _ _ sound_command_completion (λ m.
      by_type (Sound trb) trb types.port_status_change_event _ _ sound_port_status_change (λ q. tt)))

-- ---- what is written is read

code_packed : (v : ℕ) (k : CompletionCode) → v < 2 ^ 24 → Packed in_code (of_code v k)
code_packed v k h = packed in_code (of_code v k) (h, (number_lt k, tt))

transfer_packed : (t : TransferEventTrbData) (c : Bool) → Typed (EventTrb.Transfer t) → Packed in_transfer (of_transfer t c)
transfer_packed t c y =
    packed in_transfer (of_transfer t c)
    (bit_lt c, (lit< tt, (bit_lt t.event_data, (lit< tt, (lit< tt, (y.1, (y.2, tt)))))))

command_completion_packed : (t : CommandCompletionEventTrbData) (c : Bool) → Typed (EventTrb.CommandCompletion t)
    → Packed in_command_completion (of_command_completion t c)
command_completion_packed t c y =
    packed in_command_completion (of_command_completion t c) (bit_lt c, (lit< tt, (lit< tt, (lit< tt, (y.1, tt)))))

port_packed : (t : PortStatusChangeEventTrbData) → Typed (EventTrb.PortStatusChange t) → Packed in_code (0 ∷ t.port_id ∷ [])
port_packed t y = packed in_code (0 ∷ t.port_id ∷ []) (lit< tt, (y, tt))

port_status_change_packed : (c : Bool) → Packed in_port_status_change (of_port_status_change c)
port_status_change_packed c = packed in_port_status_change (of_port_status_change c) (bit_lt c, (lit< tt, (lit< tt, (lit< tt, tt))))

-- what `valid` says of a command completion
pub record Fits (t : CommandCompletionEventTrbData) : Type 0 where
  pub aligned : bits t.command_trb_pointer 0 4 ≡ 0
  pub short : t.command_completion_parameter < 2 ^ 24

fits : (t : CommandCompletionEventTrbData) → valid (EventTrb.CommandCompletion t) ≡ true → Fits t
unfolding valid
fits t v =
    let p = both (eqb (bits t.command_trb_pointer 0 4) 0) _ v in
    record { aligned = eqb-true _ 0 p.0; short = ltb-true _ (2 ^ 24) p.1 }

pub dwords_sized : (e : EventTrb) (c : Bool) → Typed e → valid e ≡ true → Sized (event_dwords e c)
unfolding valid event_dwords number_of
dwords_sized (EventTrb.Transfer t) c y v =
    record {
      z0 = omega arith;
      z1 = omega arith;
      z2 = (code_packed t.trb_transfer_length t.completion_code (ltb-true _ (2 ^ 24) v)).small;
      z3 = (transfer_packed t c y).small;
    }
dwords_sized (EventTrb.CommandCompletion t) c y v =
    record {
      z0 = omega arith;
      z1 = omega arith;
      z2 = (code_packed t.command_completion_parameter t.completion_code (fits t v).short).small;
      z3 = (command_completion_packed t c y).small;
    }
dwords_sized (EventTrb.PortStatusChange t) c y v =
    record { z0 = (port_packed t y).small; z1 = lit< tt; z2 = lit< tt; z3 = (port_status_change_packed c).small }

-- the dwords of the bytes of dwords
module _ (d : Dwords) (z : Sized d) where
  at0 : dword (bytes_of_dwords d) 0 ≡ d.d0
  at0 = ap (λ (x : Dwords). x.d0) (split_join d z)

  at1 : dword (bytes_of_dwords d) 1 ≡ d.d1
  at1 = ap (λ (x : Dwords). x.d1) (split_join d z)

  at2 : dword (bytes_of_dwords d) 2 ≡ d.d2
  at2 = ap (λ (x : Dwords). x.d2) (split_join d z)

  at3 : dword (bytes_of_dwords d) 3 ≡ d.d3
  at3 = ap (λ (x : Dwords). x.d3) (split_join d z)

pub nth : (i : ℕ) {xs ys : List ℕ} → xs ≡ ys → get_or xs i 0 ≡ get_or ys i 0
nth i e = ap (λ (l : List ℕ). get_or l i 0) e

pointer_back : (p : ℕ) → p < 2 ^ 64 → bits (bits p 0 32) 0 32 + 2 ^ 32 * bits (bits p 32 32) 0 32 ≡ p
pointer_back p h = omega arith

reads_transfer : (t : TransferEventTrbData) (c : Bool) → Typed (EventTrb.Transfer t) → Sized (transfer_dwords t c)
    → t.trb_transfer_length < 2 ^ 24 → event_of (bytes_of_dwords (transfer_dwords t c)) ≡ answered (EventTrb.Transfer t)
unfolding event_of judge
reads_transfer t c y z l =
    let d = transfer_dwords t c in
    let h = (code_packed t.trb_transfer_length t.completion_code l).read in
    let g = (transfer_packed t c y).read in
    rw (at3 d z, nth 4 g, at2 d z, nth 1 h, code_of_number, nth 1 g, nth 3 g, at0 d z, at1 d z, pointer_back t.trb_pointer y.0, nth 0 h, nth 2 g, bit_back, nth 5 g, nth 6 g)

reads_command_completion : (t : CommandCompletionEventTrbData) (c : Bool) → Typed (EventTrb.CommandCompletion t)
    → Sized (command_completion_dwords t c) → Fits t → event_of (bytes_of_dwords (command_completion_dwords t c)) ≡ answered (EventTrb.CommandCompletion t)
unfolding event_of judge
reads_command_completion t c y z f =
    let d = command_completion_dwords t c in
    let h = (code_packed t.command_completion_parameter t.completion_code f.short).read in
    let g = (command_completion_packed t c y).read in
    let low : bits (bits t.command_trb_pointer 0 32) 0 4 ≡ 0 = omega (arith, f.aligned) in
    rw (at3 d z, nth 2 g, at2 d z, nth 1 h, code_of_number, at0 d z, low, nth 1 g, nth 3 g, at1 d z, pointer_back t.command_trb_pointer y.0, nth 0 h, nth 4 g)

reads_port_status_change : (t : PortStatusChangeEventTrbData) (c : Bool) → Typed (EventTrb.PortStatusChange t)
    → Sized (port_status_change_dwords t c) → event_of (bytes_of_dwords (port_status_change_dwords t c)) ≡ answered (EventTrb.PortStatusChange t)
unfolding event_of judge number_of
reads_port_status_change t c y z =
    let d = port_status_change_dwords t c in
    let h = (port_packed t y).read in
    let g = (port_status_change_packed c).read in
    rw (at3 d z, nth 2 g, at2 d z, at0 d z, nth 0 h, at1 d z, nth 1 g, nth 3 g, nth 1 h)

-- ---- the bytes of a valid event

pub reads_back : (e : EventTrb) (c : Bool) → Typed e → valid e ≡ true → event_of (event_bytes e c) ≡ answered e
unfolding valid event_dwords
reads_back (EventTrb.Transfer t) c y v =
    reads_transfer t c y (dwords_sized (EventTrb.Transfer t) c y v) (ltb-true _ (2 ^ 24) v)
reads_back (EventTrb.CommandCompletion t) c y v =
    reads_command_completion t c y (dwords_sized (EventTrb.CommandCompletion t) c y v) (fits t v)
reads_back (EventTrb.PortStatusChange t) c y v =
    reads_port_status_change t c y (dwords_sized (EventTrb.PortStatusChange t) c y v)

cycle_of_lem : (e : EventTrb) (c : Bool) → Typed e → bits (event_dwords e c).d3 0 1 ≡ bit c
unfolding event_dwords
cycle_of_lem (EventTrb.Transfer t) c y = nth 0 (transfer_packed t c y).read
cycle_of_lem (EventTrb.CommandCompletion t) c y = nth 0 (command_completion_packed t c y).read
cycle_of_lem (EventTrb.PortStatusChange t) c y = nth 0 (port_status_change_packed c).read

pub cycle_back : (e : EventTrb) (c : Bool) → Typed e → valid e ≡ true → cycle_of (event_bytes e c) ≡ c
cycle_back e c y v = rw (at3 (event_dwords e c) (dwords_sized e c y v), cycle_of_lem e c y) (bit_back c)

pub bytes_length : (e : EventTrb) (c : Bool) → length (event_bytes e c) ≡ 16
unfolding bytes_of
bytes_length e c = refl

-- ---- what the encoder answers: bytes exactly if the event is valid, and refusal 8 exactly if it is not

pub accepted_exactly : (e : EventTrb) (c : Bool) (trb : List ℕ)
    → (bytes_answered e c ≡ accepted trb) ↔ ((valid e ≡ true) × (event_bytes e c ≡ trb))
unfolding judge bytes_answered
accepted_exactly e c trb = by (valid e)
  where
    by : (b : Bool) → (judge ((event, b) ∷ []) refused (accepted (event_bytes e c)) ≡ accepted trb) ↔ ((b ≡ true) × (event_bytes e c ≡ trb))
    by true = (λ h. (refl, grind arith), λ h. ap accepted h.1)
    by false = (λ h. absurd (grind arith), λ h. absurd (false≢true h.0))

pub refused_exactly : (e : EventTrb) (c : Bool) → (bytes_answered e c ≡ refused event) ↔ (valid e ≡ false)
unfolding judge bytes_answered
refused_exactly e c = by (valid e)
  where
    by : (b : Bool) → (judge ((event, b) ∷ []) refused (accepted (event_bytes e c)) ≡ refused event) ↔ (b ≡ false)
    by true = (λ h. absurd (grind arith), λ h. absurd (false≢true (sym h)))
    by false = (λ h. refl, λ h. refl)

-- ---- the statements

-- sixteen bytes are the encoder's answer for the event e, its fields of their types, and the cycle bit c
pub record Written (e : EventTrb) (c : Bool) (trb : List ℕ) : Type 0 where
  pub typed : Typed e
  pub bytes : bytes_answered e c ≡ accepted trb

-- read after write gives the event back, for both cycle bits
pub read_after_write : (e : EventTrb) (c : Bool) (trb : List ℕ) → Written e c trb → event_of trb ≡ answered e
read_after_write e c trb w =
    let a = (accepted_exactly e c trb).0 w.bytes in
    ap event_of (sym a.1) ∙ reads_back e c w.typed a.0

-- and the cycle bit that was given
pub cycle_after_write : (e : EventTrb) (c : Bool) (trb : List ℕ) → Written e c trb → cycle_of trb ≡ c
cycle_after_write e c trb w =
    let a = (accepted_exactly e c trb).0 w.bytes in
    ap cycle_of (sym a.1) ∙ cycle_back e c w.typed a.0

-- so no sixteen bytes are written for two events, or for two cycle bits
pub written_once : {e f : EventTrb} {c d : Bool} {trb : List ℕ} → Written e c trb → Written f d trb → (e ≡ f) × (c ≡ d)
written_once {e} {f} {c} {d} {trb} w v =
    let read : answered e ≡ answered f = sym (read_after_write e c trb w) ∙ read_after_write f d trb v in (
      cc,
      sym (cycle_after_write e c trb w) ∙ cycle_after_write f d trb v,
    )

-- what is read was written: sixteen bytes are read as the event e exactly if they are written for it, with the cycle bit that stands there
pub reads_exactly : (trb : List ℕ) (e : EventTrb) → Bytes trb → length trb ≡ 16
    → (event_of trb ≡ answered e) ↔ Written e (cycle_of trb) trb
reads_exactly trb e b n = (
  λ r.
      let s = rw r at (sound trb (split_sized trb b)) in
      record {
        typed = s.0;
        bytes = (accepted_exactly e (cycle_of trb) trb).1 (s.1, ap bytes_of_dwords s.2 ∙ join_split trb b n);
      },
  λ w. read_after_write e (cycle_of trb) trb w,
)
