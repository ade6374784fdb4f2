-- Granules are cut and joined, one of them is reached, and their tags are room again. Assumes
-- `Logic`.
use Rattle.std.proofs.Common.{◌≡◌, ℕ, zero, suc, ◌+◌, ◌*◌, ◌^◌, ◌<◌, Bool, true, false, T, not, eqb, [], ◌∷◌, refl, sym, arith, lit<, w8}
use seplogic.Ra.Ura.{Ura}
use mir.Syntax.{ty_int}
use mir.Val.{vint}
use base.Logic.{SProp, emp, ent, sep, wand, id⊢, apply∗, upd_i}
use base.Fml.{Lft, Share, Fml, ftrue, fsep, fseps, fwand, fupd, flft, fdead, fbor}
use types.Logic.{Logic, sem}
use types.Kit.{‵, raw, ◌⊛◌, ◌$◌, ◌∵◌, !, qed, by, move, keep, drop, use1, use2, split, split3, fsplit, fjoin, fpick, assume, frame, suffices, rewrite, updating, now, done}
use types.Tokens.{bor_open, obor_alter}
use denote.Steps.{nothing}
use Rattle.vme_arena.specs.Ownership.{granule, homes, bit, loose}

pub tag_fits : (t : Bool) → bit t < 2 ^ 8
tag_fits true = lit< tt
tag_fits false = lit< tt

pub is_home : (t : Bool) → T (not (eqb (bit t) 0)) → t ≡ true
is_home true n = refl
is_home false n = absurd n

module _ {M : Type 1} {𝓤 : Ura M} (𝓛 : Logic 𝓤) (b : ℕ) where
  open 𝓛 use {H, A}

  abbrev Pr : Type 2
  Pr = SProp 𝓤

  abbrev ◌⊢◌ : Pr → Pr → Type 1
  P ⊢ Q = ent 𝓤 P Q

  abbrev ◌∗◌ : Pr → Pr → Pr
  P ∗ Q = sep 𝓤 P Q

  abbrev ◌-∗◌ : Pr → Pr → Pr
  P -∗ Q = wand 𝓤 P Q

  abbrev ⟦◌⟧ : Fml → Pr
  ⟦ P ⟧ = sem 𝓛 P

  infix 26 ◌⊢◌
  infixr 35 ◌∗◌
  infixr 30 ◌-∗◌
  abbrev Hs : ℕ → ℕ → ℕ → Fml
  Hs = homes b

  abbrev G : ℕ → ℕ → Fml
  G = granule b

  pub cut_home : (j k x y : ℕ) → ⟦ Hs x y (j + k) ⟧ ⊢ ⟦ Hs x y j ⟧ ∗ ⟦ Hs (x + j * 16) (y + j) k ⟧
  unfolding homes
  cut_home zero k x y = qed 𝓛 (‵ (Hs x y (0 + k)) ∷ []) ∵ rewrite ! 0 (λ (u : ℕ × ℕ × ℕ). ‵ (Hs u.0 u.1 u.2)) (λ i. (here x i, there y i, none i)) refl $ nothing ! $ done !
    where
      here : (m : ℕ) → m ≡ m + 0 * 16
      here m = omega arith

      there : (m : ℕ) → m ≡ m + 0
      there m = omega arith

      none : 0 + k ≡ k
      none = omega arith
  cut_home (suc j) k x y =
      qed 𝓛 (‵ (Hs x y (suc j + k)) ∷ []) ∵ rewrite ! 0 (λ (n : ℕ). ‵ (Hs x y n)) more refl $ fsplit ! $ move ! (1 ∷ []) $
      use1 𝓛 (‵ (Hs (x + 16) (y + 1) j) ⊛ ‵ (Hs (x + 16 + j * 16) (y + 1 + j) k)) (cut_home j k (x + 16) (y + 1)) $ split ! $
      rewrite ! 1 (λ (u : ℕ × ℕ). ‵ (Hs u.0 u.1 k)) (λ i. (here x i, there y i)) refl $ move ! (2 ∷ 0 ∷ []) $ fjoin ! $ done !
    where
      more : suc j + k ≡ suc (j + k)
      more = omega arith

      here : (m : ℕ) → m + 16 + j * 16 ≡ m + suc j * 16
      here m = omega arith

      there : (m : ℕ) → m + 1 + j ≡ m + suc j
      there m = omega arith

  pub glue_home : (j k x y : ℕ) → ⟦ Hs x y j ⟧ ∗ ⟦ Hs (x + j * 16) (y + j) k ⟧ ⊢ ⟦ Hs x y (j + k) ⟧
  unfolding homes
  glue_home zero k x y = qed 𝓛 (‵ (Hs x y 0) ∷ ‵ (Hs (x + 0 * 16) (y + 0) k) ∷ []) ∵ drop ! $ rewrite ! 0 (λ (u : ℕ × ℕ × ℕ). ‵ (Hs u.0 u.1 u.2)) (λ i. (here x i, there y i, none i)) refl $ done !
    where
      here : (m : ℕ) → m + 0 * 16 ≡ m
      here m = omega arith

      there : (m : ℕ) → m + 0 ≡ m
      there m = omega arith

      none : k ≡ 0 + k
      none = omega arith
  glue_home (suc j) k x y =
      qed 𝓛 (‵ (Hs x y (suc j)) ∷ ‵ (Hs (x + suc j * 16) (y + suc j) k) ∷ []) ∵ fsplit ! $ rewrite ! 2 (λ (u : ℕ × ℕ). ‵ (Hs u.0 u.1 k)) (λ i. (here x i, there y i)) refl $
      move ! (1 ∷ 2 ∷ []) $ use2 𝓛 (‵ (Hs (x + 16) (y + 1) (j + k))) (glue_home j k (x + 16) (y + 1)) $ move ! (1 ∷ 0 ∷ []) $ fjoin ! $ rewrite ! 0 (λ (n : ℕ). ‵ (Hs x y n)) more refl $ done !
    where
      more : suc (j + k) ≡ suc j + k
      more = omega arith

      here : (m : ℕ) → m + suc j * 16 ≡ m + 16 + j * 16
      here m = omega arith

      there : (m : ℕ) → m + suc j ≡ m + 1 + j
      there m = omega arith

  pub no_homes : (x y : ℕ) → emp 𝓤 ⊢ ⟦ Hs x y 0 ⟧
  unfolding homes
  no_homes x y = id⊢ 𝓤 (emp 𝓤)

  pub one_home : (x y : ℕ) → ⟦ G x y ⟧ ⊢ ⟦ Hs x y 1 ⟧
  unfolding homes
  one_home x y = qed 𝓛 (‵ (G x y) ∷ []) ∵ nothing ! $ move ! (1 ∷ 0 ∷ []) $ done !

  -- the granule at i, with the way back
  pub reaches : (i n x y : ℕ) → i < n → ⟦ Hs x y n ⟧ ⊢ ⟦ G (x + i * 16) (y + i) ⟧ ∗ (⟦ G (x + i * 16) (y + i) ⟧ -∗ ⟦ Hs x y n ⟧)
  unfolding homes
  reaches i zero x y small = absurd (none small)
    where
      none : ¬ (i < 0)
      none s = omega arith
  reaches zero (suc n) x y small =
      qed 𝓛 (‵ (Hs x y (suc n)) ∷ []) ∵ fsplit ! $ rewrite ! 0 (λ (u : ℕ × ℕ). ‵ (G u.0 u.1)) (λ i. (here x i, there y i)) refl $ frame ! $
      assume ! (‵ (G (x + 0 * 16) (y + 0))) $ rewrite ! 0 (λ (u : ℕ × ℕ). ‵ (G u.0 u.1)) (λ i. (sym (here x) i, sym (there y) i)) refl $ fjoin ! $ done !
    where
      here : (m : ℕ) → m ≡ m + 0 * 16
      here m = omega arith

      there : (m : ℕ) → m ≡ m + 0
      there m = omega arith
  reaches (suc i) (suc n) x y small =
      qed 𝓛 (‵ (Hs x y (suc n)) ∷ []) ∵ fsplit ! $ move ! (1 ∷ []) $
      use1 𝓛 (‵ (G (x + 16 + i * 16) (y + 1 + i)) ⊛ raw (⟦ G (x + 16 + i * 16) (y + 1 + i) ⟧ -∗ ⟦ Hs (x + 16) (y + 1) n ⟧)) (reaches i n (x + 16) (y + 1) (omega arith)) $ split ! $
      rewrite ! 0 (λ (u : ℕ × ℕ). ‵ (G u.0 u.1)) (λ j. (here x j, there y j)) refl $ frame ! $
      assume ! (‵ (G (x + suc i * 16) (y + suc i))) $ rewrite ! 0 (λ (u : ℕ × ℕ). ‵ (G u.0 u.1)) (λ j. (sym (here x) j, sym (there y) j)) refl $
      use2 𝓛 (‵ (Hs (x + 16) (y + 1) n)) (apply∗ 𝓤 ⟦ G (x + 16 + i * 16) (y + 1 + i) ⟧ ⟦ Hs (x + 16) (y + 1) n ⟧) $ move ! (1 ∷ 0 ∷ []) $ fjoin ! $ done !
    where
      here : (m : ℕ) → m + 16 + i * 16 ≡ m + suc i * 16
      here m = omega arith

      there : (m : ℕ) → m + 1 + i ≡ m + suc i
      there m = omega arith

  -- the tags of granules, wherever their bytes are
  pub tags_back : (n x y : ℕ) → ⟦ Hs x y n ⟧ ⊢ H.room (loose n) b y
  unfolding homes
  tags_back zero x y = qed 𝓛 (‵ (Hs x y 0) ∷ []) ∵ by ! (𝓛.laws.room_nil (ty_int w8) b y)
  tags_back (suc n) x y =
      qed 𝓛 (‵ (Hs x y (suc n)) ∷ []) ∵ fsplit ! $ fpick ! (λ t. fsplit ! $ move ! (1 ∷ []) $ drop ! $
      use1 𝓛 (raw (H.room (ty_int w8) b y)) (𝓛.laws.at_room (ty_int w8) b y (vint w8 (bit t))) $
      move ! (1 ∷ []) $ use1 𝓛 (raw (H.room (loose n) b (y + 1))) (tags_back n (x + 16) (y + 1)) $ move ! (1 ∷ 0 ∷ []) $
      by ! (𝓛.laws.room_cons (ty_int w8) n b y))

  -- what is lent is cut in two
  pub cut_loan : (κ : Lft) (q : Share) (j k x y : ℕ) → A.bor κ (Hs x y (j + k)) ∗ A.lft κ q ⊢ H.⇛ (A.bor κ (Hs x y j) ∗ A.bor κ (Hs (x + j * 16) (y + j) k) ∗ A.lft κ q)
  unfolding fseps
  cut_loan κ q j k x y =
      let P : Fml = Hs x y j in
      let Q : Fml = Hs (x + j * 16) (y + j) k in
      let W : Fml = Hs x y (j + k) in
      qed 𝓛 (‵ (fbor κ W) ∷ ‵ (flft κ q) ∷ []) ∵ updating ! $ bor_open ! tt $ move ! (1 ∷ []) $
      use1 𝓛 (‵ P ⊛ ‵ Q) (cut_home j k x y) $ split ! $ nothing ! $ move ! (2 ∷ 0 ∷ []) $ fjoin ! $ move ! (1 ∷ 0 ∷ []) $ fjoin ! $ nothing ! $
      use1 𝓛 (‵ (fwand (fsep (fdead κ) (fseps (P ∷ Q ∷ []))) (fupd W)))
      (qed 𝓛 (‵ ftrue ∷ []) ∵ assume ! (‵ (fdead κ) ⊛ ‵ P ⊛ ‵ Q ⊛ ‵ ftrue) $ split ! $ drop ! $ split3 ! $ keep ! (0 ∷ 1 ∷ []) $
      suffices ! _ (upd_i 𝓤 ⟦ W ⟧) $ by ! (glue_home j k x y)) $
      move ! (2 ∷ 1 ∷ 0 ∷ []) $ obor_alter ! tt (P ∷ Q ∷ []) $ use1 𝓛 (‵ (fbor κ P) ⊛ ‵ (fbor κ Q) ⊛ ‵ ftrue) (id⊢ 𝓤 _) $ split3 ! $ now ! $ keep ! (0 ∷ 1 ∷ 3 ∷ []) $ done !
