-- What all granules own is lent for the rest of a borrow, and the struct stays behind. Assumes
-- `Logic`.
use Rattle.std.proofs.Common.{ℕ, List, [], ◌∷◌}
use seplogic.Ra.Ura.{Ura}
use mir.Val.{Val}
use base.Fraction.{full_share}
use base.Logic.{SProp, ent, sep, id⊢, upd_i}
use base.Fml.{Lft, Share, Fml, ftrue, fsep, fseps, fex, fwand, fupd, fat, fauth, fdead, fbor, fobor}
use types.Logic.{Logic, sem}
use types.Kit.{‵, raw, ◌⊛◌, ◌$◌, ◌∵◌, !, qed, by, move, keep, use1, split, split3, fjoin, fpack, assume, suffices, updating, now, done}
use types.Tokens.{obor_alter}
use types.SemTy.{Body}
use denote.RattleType.{RattleType}
use denote.Memory.{mem, part_of, cell_at}
use denote.Steps.{nothing}
use Rattle.vme_arena.proofs.Values.{granules_own, granules_type}
use Rattle.vme_arena.specs.Ownership.{homes_at, blank_at}
use Rattle.vme_arena.specs.contracts.granules.Granules as granules

abbrev R : RattleType
R = granules.the_row

module _ {M : Type 1} {𝓤 : Ura M} (𝓛 : Logic 𝓤) (κ : Lft) (q : Share) (x : R.Denot) (b o γ : ℕ) (v : Val) where
  open 𝓛 use {H, A}

  abbrev Lent : Fml
  Lent = Body (mem R) b o γ

  abbrev Home : Fml
  Home = homes_at x.spot x.count

  abbrev Blank : Fml
  Blank = blank_at x.spot x.count x.blank

  -- what stays: the blank granules, the fields, their cell and the name of the borrow
  abbrev Stays : SProp 𝓤
  Stays = sep 𝓤 (sem 𝓛 Blank) (sep 𝓤 (sem 𝓛 (granules_own x.bytes x.tags (v ∷ []))) (sep 𝓤 (H.at full_share granules_type b o v) (sem 𝓛 (fauth γ (R.coded.code x)))))

  whole : ent 𝓤 (sep 𝓤 Stays (sem 𝓛 Home)) (sem 𝓛 Lent)
  unfolding part_of
  whole = qed 𝓛 ((‵ Blank ⊛ ‵ (granules_own x.bytes x.tags (v ∷ [])) ⊛ ‵ (fat full_share granules_type b o v) ⊛ ‵ (fauth γ (R.coded.code x))) ∷ ‵ Home ∷ []) ∵ split ! $ move ! (1 ∷ []) $ split3 ! $
      -- [the fields; the cell; the name; the blank ones; those at home]
      move ! (4 ∷ 3 ∷ 0 ∷ []) $ fjoin ! $ move ! (1 ∷ 0 ∷ []) $ fjoin ! $
      move ! (1 ∷ 0 ∷ []) $ use1 𝓛 (‵ (cell_at full_share R.mir (v ∷ []) b o)) (id⊢ 𝓤 _) $ fjoin ! $ fpack ! (List Val) (λ us. fsep (cell_at full_share R.mir us b o) (R.own_val x us)) (v ∷ []) $
      fjoin ! $ fpack ! R.Denot (λ y. fsep (fex (List Val) (λ us. fsep (cell_at full_share R.mir us b o) (R.own_val y us))) (fauth γ (R.coded.code y))) x $ done !

  pub lends : ent 𝓤 (sep 𝓤 (A.obor κ q Lent) (sep 𝓤 (sem 𝓛 Home) Stays)) (H.⇛ (sep 𝓤 (A.bor κ Home) (A.lft κ q)))
  unfolding fseps
  lends = qed 𝓛 (‵ (fobor κ q Lent) ∷ ‵ Home ∷ raw Stays ∷ []) ∵ updating ! $ move ! (2 ∷ []) $
      use1 𝓛 (‵ (fwand (fsep (fdead κ) (fseps (Home ∷ []))) (fupd Lent)))
      (qed 𝓛 (raw Stays ∷ []) ∵ assume ! (‵ (fdead κ) ⊛ ‵ Home ⊛ ‵ ftrue) $ split3 ! $ keep ! (3 ∷ 1 ∷ []) $ suffices ! _ (upd_i 𝓤 (sem 𝓛 Lent)) $ by ! whole) $
      nothing ! $ move ! (3 ∷ 0 ∷ []) $ fjoin ! $ move ! (2 ∷ 0 ∷ 1 ∷ []) $ obor_alter ! tt (Home ∷ []) $ use1 𝓛 (‵ (fbor κ Home) ⊛ ‵ ftrue) (id⊢ 𝓤 _) $ split ! $ now ! $ keep ! (0 ∷ 2 ∷ []) $ done !
