-- What the number of a data part says: the part lies inside where it is 0, and is empty where it is not. Assumes nothing.
use mathlib.Core.Path.{◌≡◌, refl, sym, ◌∙◌}
use mathlib.Core.Bool.{Bool, true, false, cond, true≢false}
use mathlib.Core.List.{[], ◌∷◌}
use Prim.{tt}
use lib.Dec.{lit<}
use borrow.Author.Tests.{ne_eqb}
use Rattle.guest.specs.Faults.{Not, FirstOf, none, this, later, Inside}
use Rattle.std.specs.Prelude.{Err}
use Rattle.guest.specs.Judge.{judge}
use Rattle.guest.specs.Refusals.{number_of}
use Rattle.guest.specs.declared.refusal.Refusal.{Refusal}
use Rattle.guest.proofs.Numbers.{refusal_lt, as_result_number}
use Rattle.guest.specs.Memory.{Memory, inside, offset, part}
use Rattle.guest.proofs.Faults.{asks, says_inside}
use Rattle.guest.proofs.Judge.{Numbered, none_passes, judge_passes, judge_number}
use Rattle.guest.proofs.Memory.{Within, inside_within}
use Rattle.trb.specs.Data.{data_tests, data_faults, data_refusal, data_answer, data_of, data_offset}
use Rattle.trb.specs.declared.data.TrbDmaInfo.{TrbDmaInfo}

numbered : (m : Memory) (i : TrbDmaInfo) → Numbered (data_tests m i)
numbered m i = (lit< tt, (lit< tt, tt))

pub record Given (m : Memory) (i : TrbDmaInfo) : Type 0 where
  pub within : Within m i.data_pointer i.transfer_length
  pub bytes : data_of m i ≡ part m i.data_pointer i.transfer_length
  pub offset : data_offset m i ≡ offset m i.data_pointer

pub given : (m : Memory) (i : TrbDmaInfo) → data_refusal m i ≡ 0 → Given m i
unfolding data_refusal data_of data_offset
given m i e =
    let p = none_passes (data_tests m i) (numbered m i) e in
    record {
      within = inside_within m i.data_pointer i.transfer_length p.1.0;
      bytes = judge_passes (data_tests m i) _ _ p;
      offset = judge_passes (data_tests m i) _ _ p;
    }

pub record Withheld (m : Memory) (i : TrbDmaInfo) : Type 0 where
  pub bytes : data_of m i ≡ []
  pub offset : data_offset m i ≡ 0

pub withheld : (m : Memory) (i : TrbDmaInfo) → (data_refusal m i ≡ 0 → ⊥) → Withheld m i
unfolding data_refusal data_of data_offset
withheld m i n =
    record {
      bytes = judge_number (data_tests m i) _ _ (numbered m i) ∙ rw (ne_eqb _ 0 n);
      offset = judge_number (data_tests m i) _ _ (numbered m i) ∙ rw (ne_eqb _ 0 n);
    }

-- an answer's refusal has that number
pub data_number : (m : Memory) (i : TrbDmaInfo) (r : Refusal) → data_answer m i ≡ Err r → number_of r ≡ data_refusal m i
unfolding data_refusal
data_number m i r e = as_result_number _ tt r (refusal_lt (data_tests m i) (lit< tt, (lit< tt, tt))) e

-- it is refused exactly as document 01 says
pub data_refused : (m : Memory) (i : TrbDmaInfo) → FirstOf (data_faults m i) (data_refusal m i)
unfolding data_refusal judge
data_refused m i = go i.immediate_data refl
  where
    inner : FirstOf ((1, Not (Inside m i.data_pointer i.transfer_length)) ∷ []) (cond (inside m i.data_pointer i.transfer_length) 0 1)
    inner = asks (inside m i.data_pointer i.transfer_length) 1 (says_inside m i.data_pointer i.transfer_length) (λ _. none)

    go : (b : Bool) → i.immediate_data ≡ b → FirstOf (data_faults m i) (data_refusal m i)
    go true h = rw h (this refl)
    go false h = rw h (later (λ e. true≢false (sym e)) inner)
