-- By the type.
use Rattle.std.proofs.Common.{◌≡◌, ℕ, ◌/◌, ◌%◌, ◌^◌, ◌⊎◌, inl, inr, refl, arith, ne_eqb}
use Rattle.guest.specs.Refusals.{by_number}
use Rattle.trb.specs.Events.{event_of}
use Rattle.words.proofs.Read.{type_is}
use Rattle.words.proofs.event.parse.Goals as goal

pub returns-in_default : goal.returns-in_default
unfolding event_of by_number
returns-in_default c =
    let t : ℕ = c.args.high / 2 ^ 32 % 2 ^ 32 / 2 ^ 10 % 2 ^ 6 in
    let other : (n : ℕ) → (n ≡ 32) ⊎ ((n ≡ 33) ⊎ (n ≡ 34)) → t ≡ n → ⊥ = λ (n : ℕ) (h : (n ≡ 32) ⊎ ((n ≡ 33) ⊎ (n ≡ 34))) (e : t ≡ n). omega arith in
    rw (
      c.number.ensures,
      type_is c.args.low c.args.high,
      ne_eqb t 32 (other 32 (inl refl)),
      ne_eqb t 33 (other 33 (inr (inl refl))),
      ne_eqb t 34 (other 34 (inr (inr refl))),
    )
    (refl, refl)
