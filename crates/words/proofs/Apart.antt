-- A number that stands for a refusal is told from an event's high half; and what an event's two numbers are the bytes of. Assumes nothing.
use mathlib.Core.Path.{◌≡◌, refl}
use mathlib.Core.Bool.{Bool, true, false, cond}
use mathlib.Core.List.{List, [], ◌∷◌, ◌++◌}
use Prim.Native.Nat.{ℕ, zero, suc, ◌/◌, ◌^◌, ◌≤◌}
use native.Mathlib.Omega.{arith}
use lib.Dec.{eqb}
use Rattle.std.proofs.lemmas.Bool.{cond_both}
use Rattle.guest.specs.Judge.{judge}
use Rattle.guest.specs.Refusals.{by_number}
use Rattle.guest.specs.Fields.{bytes_of, bytes_of_dwords, low_of, high_of, whole_of}
use Rattle.guest.specs.declared.Dwords.{Dwords}
use Rattle.guest.proofs.Bytes.{Bytes}
use Rattle.guest.proofs.Fields.{whole_halves}
use Rattle.codes.specs.Types as types
use Rattle.codes.specs.declared.CompletionCode.{CompletionCode}
use Rattle.std.specs.Prelude.{Option, Some, None}
use Rattle.trb.specs.Events.{Typed, valid, event_dwords, event_bytes, bytes_answered}
use Rattle.trb.specs.declared.event.EventTrb.{EventTrb}
use Rattle.std.specs.Prelude.{Ok}
use Rattle.trb.proofs.OneEncoding.{bytes_length}
use Rattle.words.specs.Events.{field_of, Given, refused_with, coded, code_in, transfer_in, command_completion_in, port_status_change_in, event_in, bytes_from, written}
use Rattle.words.proofs.Written.{written_yes}

-- ---- an event that is written has a type, which stands above bit 42 of its high half

pub event_above : (e : EventTrb) (c : Bool) → Typed e → valid e ≡ true → 2 ^ 8 ≤ (written (bytes_answered e c)).high
unfolding event_dwords
event_above (EventTrb.Transfer t) c y v = rw (written_yes (EventTrb.Transfer t) c y v) (omega arith)
event_above (EventTrb.CommandCompletion t) c y v = rw (written_yes (EventTrb.CommandCompletion t) c y v) (omega arith)
event_above (EventTrb.PortStatusChange t) c y v = rw (written_yes (EventTrb.PortStatusChange t) c y v) (omega arith)

-- ---- and a high half that is no refusal's number says that the event was accepted

pub record Accepted (v : Given) (c : Bool) : Type 0 where
  pub event : EventTrb
  pub given : v ≡ Ok event
  pub good : valid event ≡ true
  pub trb : written (bytes_from v c) ≡ record { low = low_of (event_bytes event c); high = high_of (event_bytes event c) }

-- what is to be shown of each event that can be given
Goal : Bool → Given → Type 0
Goal c v = 2 ^ 8 ≤ (written (bytes_from v c)).high → Accepted v c

of_event_lem : (c : Bool) (e : EventTrb) → Goal c (Ok e)
unfolding Goal bytes_answered judge by_number
of_event_lem c e = go (valid e) refl
  where
    go : (b : Bool) → valid e ≡ b → Goal c (Ok e)
    go true v h = record { event = e; given = refl; good = v; trb = rw v }
    go false v h = absurd (omega (arith, rw v at h))

refused_12 : (c : Bool) → Goal c (refused_with 12 0)
unfolding Goal by_number
refused_12 c h = absurd (omega arith)

of_coded : (c : Bool) (k : Option CompletionCode) (f : CompletionCode → EventTrb) → Goal c (coded k f)
of_coded c (Some k) f = of_event_lem c (f k)
of_coded c None f = refused_12 c

other : (c : Bool) (t : ℕ) → Goal c (refused_with 10 t)
unfolding Goal by_number
other c t h = absurd (omega arith)

pub accepted : (ws : List ℕ) (c : Bool) → 2 ^ 8 ≤ (written (bytes_from (event_in ws) c)).high → Accepted (event_in ws) c
unfolding event_in Goal
accepted ws c =
    let t = field_of ws 0 0 8 in
    cond_both (eqb t types.transfer_event) _ _ (Goal c) (λ h. of_coded c (code_in ws) (transfer_in ws))
    (λ h. cond_both (eqb t types.command_completion_event) _ _ (Goal c) (λ h. of_coded c (code_in ws) (command_completion_in ws))
    (λ h. cond_both (eqb t types.port_status_change_event) _ _ (Goal c) (λ h. of_event_lem c (port_status_change_in ws)) (λ h. other c t)))

-- ---- the bytes of an event's two numbers are its bytes

bytes_of_lem : (k n : ℕ) → Bytes (bytes_of k n)
unfolding bytes_of
bytes_of_lem zero n i = omega arith
bytes_of_lem (suc k) n zero = omega arith
bytes_of_lem (suc k) n (suc i) = bytes_of_lem k (n / 256) i

after : (xs ys : List ℕ) → Bytes xs → Bytes ys → Bytes (xs ++ ys)
after [] ys p q i = q i
after (x ∷ xs) ys p q zero = p 0
after (x ∷ xs) ys p q (suc i) = after xs ys (λ j. p (suc j)) q i

joined_bytes : (d : Dwords) → Bytes (bytes_of_dwords d)
joined_bytes d =
    after (bytes_of 4 d.d0) _ (bytes_of_lem 4 d.d0)
    (after (bytes_of 4 d.d1) _ (bytes_of_lem 4 d.d1) (after (bytes_of 4 d.d2) _ (bytes_of_lem 4 d.d2) (bytes_of_lem 4 d.d3)))

pub event_whole : (e : EventTrb) (c : Bool) → whole_of (low_of (event_bytes e c)) (high_of (event_bytes e c)) ≡ event_bytes e c
event_whole e c = whole_halves (event_bytes e c) (joined_bytes (event_dwords e c)) (bytes_length e c)
