-- Room in units of 16 bytes and room without alignment: each is cut and joined, and units are lent
-- as room for another type. Assumes `Logic`.
use Rattle.std.proofs.Common.{◌≡◌, ℕ, zero, suc, ◌+◌, ◌-◌, ◌*◌, ◌/◌, ◌%◌, ◌≤◌, max, [], ◌∷◌, refl, sym, ap, subst, ◌∙◌, arith}
use seplogic.Ra.Ura.{Ura}
use native.Mathlib.Nat.{mod_self, sub-zero}
use mir.Syntax.{Ty, Tys, w8, w128, tnil, tcons, ty_int, ty_array, ty_struct}
use base.Logic.{SProp, ent, sep, wand, apply∗}
use prog.Memory.{size, align, pad, up, end_of}
use prog.Model.{rooms_at}
use prog.Align.{Dv, dv→, dv_zero, dv_one, dv_mul, align_pos}
use types.Logic.{Logic}
use types.Kit.{raw, ◌⊛◌, ◌$◌, ◌∵◌, !, qed, by, use1, use2, split, join, frame, assume, rewrite, done}
use denote.RawPtr.Room.{room_cut, room_glue, past, past_bytes}
use Rattle.vme_arena.specs.Ownership.{units_of, loose}

abbrev unit : Ty
unit = ty_int w128

abbrev byte : Ty
byte = ty_int w8

past_units : (k o : ℕ) → past unit k o ≡ o + k * 16
past_units zero o = omega arith
past_units (suc k) o = past_units k (o + 16) ∙ omega arith

-- what is aligned already takes no padding
level : (a n : ℕ) → Dv a n → up a n ≡ n
level a n d =
    let gone : pad a n ≡ 0 = ap (λ (r : ℕ). (a - r) % a) (dv→ a n d) ∙ ap (λ (r : ℕ). r % a) (sub-zero a) ∙ mod_self a in
    ap (λ (r : ℕ). n + r) gone ∙ omega arith

module _ {M : Type 1} {𝓤 : Ura M} (𝓛 : Logic 𝓤) (b : ℕ) where
  open 𝓛 use {H}

  abbrev Pr : Type 2
  Pr = SProp 𝓤

  abbrev ◌⊢◌ : Pr → Pr → Type 1
  P ⊢ Q = ent 𝓤 P Q

  abbrev ◌∗◌ : Pr → Pr → Pr
  P ∗ Q = sep 𝓤 P Q

  abbrev ◌-∗◌ : Pr → Pr → Pr
  P -∗ Q = wand 𝓤 P Q

  infix 26 ◌⊢◌
  infixr 35 ◌∗◌
  infixr 30 ◌-∗◌
  -- n bytes at x, in units
  abbrev Units : ℕ → ℕ → Pr
  Units x n = H.room (units_of n) b x

  -- n bytes at x, without alignment
  abbrev Loose : ℕ → ℕ → Pr
  Loose x n = H.room (loose n) b x

  module _ (x m n : ℕ) (even : m % 16 ≡ 0) where
    sum : (m + n) / 16 ≡ m / 16 + n / 16
    sum = omega arith

    far : past unit (m / 16) x ≡ x + m
    far = past_units (m / 16) x ∙ omega arith

    pub cuts : Units x (m + n) ⊢ Units x m ∗ Units (x + m) n
    cuts = qed 𝓛 (raw (Units x (m + n)) ∷ []) ∵ rewrite ! 0 (λ (k : ℕ). raw (H.room (ty_array unit k) b x)) sum refl $
        use1 𝓛 (raw (Units x m) ⊛ raw (Units (past unit (m / 16) x) n)) (room_cut 𝓛 unit (m / 16) (n / 16) b x) $ split ! $ rewrite ! 1 (λ (d : ℕ). raw (Units d n)) far refl $ done !

    pub glues : Units x m ∗ Units (x + m) n ⊢ Units x (m + n)
    glues = qed 𝓛 (raw (Units x m) ∷ raw (Units (x + m) n) ∷ []) ∵ rewrite ! 1 (λ (d : ℕ). raw (Units d n)) (sym far) refl $
        use2 𝓛 (raw (H.room (ty_array unit (m / 16 + n / 16)) b x)) (room_glue 𝓛 unit (m / 16) (n / 16) b x) $ rewrite ! 0 (λ (k : ℕ). raw (H.room (ty_array unit k) b x)) (sym sum) refl $ done !

  pub loose_cuts : (x m n : ℕ) → Loose x (m + n) ⊢ Loose x m ∗ Loose (x + m) n
  loose_cuts x m n = qed 𝓛 (raw (Loose x (m + n)) ∷ []) ∵
      use1 𝓛 (raw (Loose x m) ⊛ raw (Loose (past byte m x) n)) (room_cut 𝓛 byte m n b x) $ split ! $ rewrite ! 1 (λ (d : ℕ). raw (Loose d n)) (past_bytes m x) refl $ done !

  pub loose_glues : (x m n : ℕ) → Loose x m ∗ Loose (x + m) n ⊢ Loose x (m + n)
  loose_glues x m n = qed 𝓛 (raw (Loose x m) ∷ raw (Loose (x + m) n) ∷ []) ∵ rewrite ! 1 (λ (d : ℕ). raw (Loose d n)) (sym (past_bytes m x)) refl $
      by ! (room_glue 𝓛 byte m n b x)

  -- units as loose bytes, with the way back
  pub loosens : (x n : ℕ) → n % 16 ≡ 0 → Units x n ⊢ Loose x n ∗ (Loose x n -∗ Units x n)
  loosens x n even = 𝓛.laws.room_as (units_of n) (loose n) b x (omega arith) tt

  -- units as room for a type that fits in them, and the bytes after it, with the way back
  pub serves : (τ : Ty) (x n : ℕ) → n % 16 ≡ 0 → size τ ≤ n → Dv (align τ) 16 → Units x n ⊢ H.room τ b x ∗ (H.room τ b x -∗ Units x n)
  serves τ x n even fits dv =
      let rear : Tys = tcons (loose (n - size τ)) tnil in
      let both : Ty = ty_struct [] (tcons τ rear) in
      let begins : up (align τ) 0 ≡ 0 = level (align τ) 0 (dv_zero (align τ)) in
      let ends : end_of zero (tcons τ rear) ≡ n / 16 * 16 =
      ap (λ (k : ℕ). k + (n - size τ) * 1) (level 1 (up (align τ) 0 + size τ) (dv_one (up (align τ) 0 + size τ)) ∙ ap (λ (k : ℕ). k + size τ) begins) ∙ omega arith in
      let aligned : max (align τ) 1 ≡ align τ = omega (arith, align_pos τ) in
      let sized : size both ≡ n / 16 * 16 = (λ i. up (aligned i) (ends i)) ∙ level (align τ) (n / 16 * 16) (dv_mul (align τ) 16 (n / 16) dv) in
      let Head : Pr = H.room τ b (x + up (align τ) 0) in
      let Rear : Pr = rooms_at 𝓤 H rear (up (align τ) 0 + size τ) b x in
      subst (λ (d : ℕ). Units x n ⊢ H.room τ b d ∗ (H.room τ b d -∗ Units x n)) (ap (λ (k : ℕ). x + k) begins ∙ omega arith)
      (qed 𝓛 (raw (Units x n) ∷ []) ∵
      use1 𝓛 (raw (H.room both b x) ⊛ raw (H.room both b x -∗ Units x n)) (𝓛.laws.room_as (units_of n) both b x sized (subst (λ (k : ℕ). Dv k 16) (sym aligned) dv)) $ split ! $
      use1 𝓛 ((raw Head ⊛ raw Rear) ⊛ raw ((Head ∗ Rear) -∗ H.room both b x)) (𝓛.laws.room_fields [] (tcons τ rear) b x) $ split ! $ split ! $
      frame ! $ assume ! (raw Head) $ join ! $ use2 𝓛 (raw (H.room both b x)) (apply∗ 𝓤 (Head ∗ Rear) (H.room both b x)) $ by ! (apply∗ 𝓤 (H.room both b x) (Units x n)))
