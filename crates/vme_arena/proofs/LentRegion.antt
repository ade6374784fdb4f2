-- What a region's granules own is lent for the rest of a borrow, and the region stays behind.
-- Assumes `Logic`.
use Rattle.std.proofs.Common.{ℕ, List, [], ◌∷◌, ◌++◌, refl}
use seplogic.Ra.Ura.{Ura}
use mir.Syntax.{Ty}
use mir.Raw.{raw as unnamed}
use mir.Val.{Val, vstruct, vcons, of_list}
use base.Fraction.{full_share}
use base.Logic.{SProp, ent, sep, id⊢, upd_i}
use base.Fml.{Lft, Share, Fml, ftrue, fsep, fseps, fex, fwand, fupd, fat, fauth, fdead, fbor, fobor}
use types.Logic.{Logic, sem}
use types.Kit.{‵, raw, ◌⊛◌, ◌$◌, ◌∵◌, !, qed, by, move, keep, use1, split, split3, fjoin, fpack, feq_i, assume, suffices, updating, now, done}
use types.Tokens.{obor_alter}
use types.SemTy.{Body}
use denote.RattleType.{RattleType, Valss}
use denote.Memory.{mem, part_of, cell_at}
use denote.Steps.{nothing}
use denote.Struct.Struct.{Shape, within, layout}
use denote.Struct.Declared.{shape}
use Rattle.vme_arena.proofs.Values.{granules_own}
use Rattle.vme_arena.specs.Ownership.{homes_at, blank_at}
use Rattle.vme_arena.specs.contracts.region.Region as region
use Rattle.vme_arena.specs.contracts.region.Origin as origin

abbrev R : RattleType
R = region.the_row

abbrev S : Shape
S = shape region.the_type

abbrev pub region_type : Ty
region_type = unnamed (layout S)

-- a region: its granules, and the values of its origin
abbrev pub region_val : Val → List Val → Val
region_val g us = vstruct (vcons g (of_list (us ++ [])))

-- the second of them
abbrev pub origin_own : R.Denot → List Val → Fml
origin_own x us = fsep (origin.the_row.own_val x.origin us) ftrue

module _ {M : Type 1} {𝓤 : Ura M} (𝓛 : Logic 𝓤) (κ : Lft) (q : Share) (x : R.Denot) (b o γ : ℕ) (g : Val) (us : List Val) where
  open 𝓛 use {H, A}

  abbrev Lent : Fml
  Lent = Body (mem R) b o γ

  abbrev Home : Fml
  Home = homes_at x.granules.spot x.granules.count

  abbrev Blank : Fml
  Blank = blank_at x.granules.spot x.granules.count x.granules.blank

  abbrev Fields : Fml
  Fields = granules_own x.granules.bytes x.granules.tags (g ∷ [])

  abbrev v : Val
  v = region_val g us

  -- what stays: the blank granules, the fields, their cell and the name of the borrow
  abbrev Stays : SProp 𝓤
  Stays = sep 𝓤 (sem 𝓛 Blank) (sep 𝓤 (sem 𝓛 Fields) (sep 𝓤 (sem 𝓛 (origin_own x us)) (sep 𝓤 (H.at full_share region_type b o v) (sem 𝓛 (fauth γ (R.coded.code x))))))

  whole : ent 𝓤 (sep 𝓤 Stays (sem 𝓛 Home)) (sem 𝓛 Lent)
  unfolding part_of
  whole = qed 𝓛 ((‵ Blank ⊛ ‵ Fields ⊛ ‵ (origin_own x us) ⊛ ‵ (fat full_share region_type b o v) ⊛ ‵ (fauth γ (R.coded.code x))) ∷ ‵ Home ∷ []) ∵
      split ! $ move ! (1 ∷ []) $ split ! $ move ! (1 ∷ []) $ split3 ! $
      -- [the origin; the cell; the name; the fields; the blank ones; those at home]
      move ! (5 ∷ 4 ∷ 3 ∷ []) $ fjoin ! $ move ! (1 ∷ 0 ∷ []) $ fjoin ! $ fjoin ! $
      feq_i ! (List Val) (v ∷ []) (v ∷ []) refl $ fjoin ! $ fpack ! (Valss S.fields) (within S (region.the_type.to x) (v ∷ [])) (g ∷ [], (us, tt)) $
      move ! (1 ∷ 0 ∷ []) $ use1 𝓛 (‵ (cell_at full_share R.mir (v ∷ []) b o)) (id⊢ 𝓤 _) $ fjoin ! $ fpack ! (List Val) (λ ws. fsep (cell_at full_share R.mir ws b o) (R.own_val x ws)) (v ∷ []) $
      fjoin ! $ fpack ! R.Denot (λ y. fsep (fex (List Val) (λ ws. fsep (cell_at full_share R.mir ws b o) (R.own_val y ws))) (fauth γ (R.coded.code y))) x $ done !

  pub lends : ent 𝓤 (sep 𝓤 (A.obor κ q Lent) (sep 𝓤 (sem 𝓛 Home) Stays)) (H.⇛ (sep 𝓤 (A.bor κ Home) (A.lft κ q)))
  unfolding fseps
  lends = qed 𝓛 (‵ (fobor κ q Lent) ∷ ‵ Home ∷ raw Stays ∷ []) ∵ updating ! $ move ! (2 ∷ []) $
      use1 𝓛 (‵ (fwand (fsep (fdead κ) (fseps (Home ∷ []))) (fupd Lent)))
      (qed 𝓛 (raw Stays ∷ []) ∵ assume ! (‵ (fdead κ) ⊛ ‵ Home ⊛ ‵ ftrue) $ split3 ! $ keep ! (3 ∷ 1 ∷ []) $ suffices ! _ (upd_i 𝓤 (sem 𝓛 Lent)) $ by ! whole) $
      nothing ! $ move ! (3 ∷ 0 ∷ []) $ fjoin ! $ move ! (2 ∷ 0 ∷ 1 ∷ []) $ obor_alter ! tt (Home ∷ []) $ use1 𝓛 (‵ (fbor κ Home) ⊛ ‵ ftrue) (id⊢ 𝓤 _) $ split ! $ now ! $ keep ! (0 ∷ 2 ∷ []) $ done !
