-- A ring behind a `&mut`, for the walks: it is taken out of the borrow as one value of its MIR type, and a new one is put back.
-- Assumes `Logic`.
use Rattle.std.proofs.Common.{ℕ, T as Holds, List, [], ◌∷◌}
use seplogic.Ra.Ura.{Ura}
use base.Fraction.{full_share}
use mir.Val.{Val, has_ty, WT}
use base.Stored.{Gv}
use base.Fml.{GName, Lft, Share, fat, flft, fobs, fauth, fbor, fobor}
use types.Logic.{Logic}
use types.Kit.{Goal, Soaks, Step, step, Item, Seq, ‵, ◌$◌, move, use1}
use types.SemTy.{Body}
use denote.RattleType.{RattleType}
use denote.Laws.{Is, shows}
use denote.Memory.{mem, cell_at}
use denote.Steps.{opens, closes, peeks}
use denote.Struct.Steps.{spelt}
use denote.Struct.Laws as LL
use Rattle.linked_ring.specs.declared.LinkedRing.{LinkedRing}
use Rattle.linked_ring.specs.contracts.LinkedRing as T
use Rattle.linked_ring.proofs.LinkedRing.TheLaws as T'

abbrev pub R : RattleType
R = T.the_row

-- a ring's machine value, and that it has the struct's MIR type
abbrev pub mach : LinkedRing → Val
mach h = LL.tuple_val T.the_type T'.the_laws ((T.the_type).to h)

module _ {M : Type 1} {𝓤 : Ura M} (𝓛 : Logic 𝓤) where
  pub typed : (h : LinkedRing) (v : Val) → Is R h (v ∷ []) → Holds (has_ty T'.mir v) × WT v
  typed h v is = ((LL.lawful T.the_type T'.the_laws 𝓛).typed h _ is).0

module _ {M : Type 1} {𝓤 : Ura M} {𝓛 : Logic 𝓤} {K : Type 0} {Γ : List (Item 𝓤)} {G : Goal 𝓤 𝓛.H} where
  pub takes : K → Soaks G → {κ : Lft} {q : Share} {γ : GName} (h : LinkedRing) (b o : ℕ)
      → (Is R h (mach h ∷ []) → Seq K 𝓛 (‵ (fat full_share T'.mir b o (mach h)) ∷ ‵ (R.own_val h (mach h ∷ [])) ∷ ‵ (fobor κ q (Body (mem R) b o γ)) ∷ ‵ (fobs γ (R.coded.code h)) ∷ ‵ (fauth γ (R.coded.code h)) ∷ Γ) G)
      → Seq K 𝓛 (‵ (fobs γ (R.coded.code h)) ∷ ‵ (fbor κ (Body (mem R) b o γ)) ∷ ‵ (flft κ q) ∷ Γ) G
  takes t z h b o k =
      opens t z R {h = h} b o (λ vs. spelt t R (Is R) (shows 𝓛 R) (LL.vals T.the_type T'.the_laws) (LL.tells T.the_type T'.the_laws) full_share h vs b o $
      use1 𝓛 (‵ (fat full_share T'.mir b o (mach h))) (𝓛.laws.raw_at full_share T'.mir b o (mach h)) $
      move t (1 ∷ []) $ peeks t R (Is R) (shows 𝓛 R) h (mach h ∷ []) (λ is. move t (1 ∷ 0 ∷ []) $ k is))

  pub puts : K → Soaks G → {κ : Lft} {q : Share} {γ : GName} {u w : Gv} (r : LinkedRing) (v : Val) (b o : ℕ)
      → Step K 𝓛 (‵ (fobs γ (R.coded.code r)) ∷ ‵ (fbor κ (Body (mem R) b o γ)) ∷ ‵ (flft κ q) ∷ Γ) G
      (‵ (R.own_val r (v ∷ [])) ∷ ‵ (fat full_share T'.mir b o v) ∷ ‵ (fobor κ q (Body (mem R) b o γ)) ∷ ‵ (fobs γ u) ∷ ‵ (fauth γ w) ∷ Γ) G
  puts t z r v b o = step (λ s. move t (1 ∷ []) $ use1 𝓛 (‵ (cell_at full_share R.mir (v ∷ []) b o)) (𝓛.laws.at_raw full_share T'.mir b o v) $ closes t z R r (v ∷ []) b o $ s)
