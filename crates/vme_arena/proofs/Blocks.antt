-- A piece becomes a block for a type, and the two cases of what `take` gave. Assumes `Logic`.
use Rattle.std.proofs.Common.{◌≡◌, ℕ, ◌^◌, ◌<◌, ◌≤◌, List, [], ◌∷◌, ◌++◌, IfSome, None, Some, refl, sym, ap, subst, ◌∙◌, arith}
use seplogic.Ra.Ura.{Ura}
use mir.Syntax.{Ty, Width, w8, w16, w32, w64, w128}
use mir.Val.{Val, vcons, vnil, of_list, bytes}
use base.Logic.{ent, sep}
use base.Fml.{fwand, froom}
use prog.Memory.{size, align, capped}
use prog.Align.{Dv, align_w, align-bytes}
use prog.Capped.{capped_is, capped_small}
use types.Logic.{Logic, sem}
use types.Kit.{Item, Goal, Seq, ‵, ◌⊛◌, ◌$◌, ◌∵◌, !, qed, move, drop, use1, split, frame, rewrite, fsplit, fpick, fpack, feq_l, done}
use types.Match.{live}
use denote.RattleType.{RattleType}
use denote.RawPtr.{Ptr, block_ptr}
use denote.Shadow.{pure_l}
use denote.Steps.{only}
use Rattle.core.specs.contracts.option.Option as option
use Rattle.vme_arena.specs.Stretch.{Stretch, block_size, LiesIn}
use Rattle.vme_arena.specs.Ownership.{units_at, token_at, block_token}
use Rattle.vme_arena.specs.contracts.piece.Piece as piece
use Rattle.vme_arena.proofs.Values.{piece_val, piece_own, piece_told}
use Rattle.vme_arena.proofs.Units.{serves}

-- what `take` answers, and what its contract says about it
abbrev pub Answered : RattleType
Answered = option.the_row piece.the_row

abbrev pub Told : Stretch → ℕ → ℕ → Answered.Denot → Type 0
Told s n a x = IfSome x (λ p. (p.size ≡ block_size n) × LiesIn s p.at (block_size n) p.ptr × (n < 2 ^ 63) × (a ≤ 16))

within_16 : (w : Width) → Dv (bytes w) 16
within_16 w8 = tt
within_16 w16 = tt
within_16 w32 = tt
within_16 w64 = tt
within_16 w128 = tt

holds : (n : ℕ) → n ≤ block_size n
holds n = omega arith

pub slim : (τ : Ty) → Dv (align τ) 16
slim τ = subst (λ (k : ℕ). Dv k 16) (sym (align-bytes τ)) (within_16 (align_w τ))

pub hands_at : {M : Type 1} {𝓤 : Ura M} (𝓛 : Logic 𝓤) (s : Stretch) (τ : Ty) (at n : ℕ) → capped (size τ) ≡ n → LiesIn s at (block_size n) (block_ptr s.block at) → n < 2 ^ 63
    → ent 𝓤 (sem 𝓛 (units_at (block_ptr s.block at) (block_size n))) (sep 𝓤 (𝓛.H.room τ s.block at) (sem 𝓛 (token_at s at τ (block_ptr s.block at))))
hands_at {𝓤 = 𝓤} 𝓛 s τ at n sized placed small =
    let p : Ptr = block_ptr s.block at in
    let short : size τ < 2 ^ 63 = capped_small (size τ) (omega arith) in
    let same : n ≡ size τ = sym sized ∙ capped_is (size τ) (omega arith) in
    let m = block_size (size τ) in
    let lies : LiesIn s at m p = subst (λ (k : ℕ). LiesIn s at (block_size k) p) same placed in
    qed 𝓛 (‵ (units_at p (block_size n)) ∷ []) ∵ rewrite ! 0 (λ (k : ℕ). ‵ (units_at p (block_size k))) same refl $
    use1 𝓛 (‵ (froom τ s.block at) ⊛ ‵ (fwand (froom τ s.block at) (units_at p m))) (serves 𝓛 s.block τ at m lies.0.2 (holds (size τ)) (slim τ)) $ split ! $ frame ! $
    fpack ! (LiesIn s at m p) (λ _. fwand (froom τ s.block at) (units_at p m)) lies $ done !

pub hands_out : {M : Type 1} {𝓤 : Ura M} (𝓛 : Logic 𝓤) (s : Stretch) (τ : Ty) (at n : ℕ) → capped (size τ) ≡ n → LiesIn s at (block_size n) (block_ptr s.block at) → n < 2 ^ 63
    → ent 𝓤 (sem 𝓛 (units_at (block_ptr s.block at) (block_size n))) (sep 𝓤 (𝓛.H.room τ s.block at) (sem 𝓛 (block_token s τ (block_ptr s.block at))))
hands_out {𝓤 = 𝓤} 𝓛 s τ at n sized placed small =
    let p : Ptr = block_ptr s.block at in
    qed 𝓛 (‵ (units_at p (block_size n)) ∷ []) ∵ use1 𝓛 (‵ (froom τ s.block at) ⊛ ‵ (token_at s at τ p)) (hands_at 𝓛 s τ at n sized placed small) $ split ! $ frame ! $
    fpack ! ℕ (λ j. token_at s j τ p) at $ done !

module _ {M : Type 1} {𝓤 : Ura M} {𝓛 : Logic 𝓤} {K : Type 0} {Γ : List (Item 𝓤)} {G : Goal 𝓤 𝓛.H} where
  pub answered : K → (s : Stretch) (n a : ℕ) (x : Answered.Denot) (v : Val) → Told s n a x
      → ((at : ℕ) → LiesIn s at (block_size n) (block_ptr s.block at) → n < 2 ^ 63 → a ≤ 16 → v ≡ live 1 (vcons (piece_val (block_ptr s.block at)) vnil)
      → Seq K 𝓛 (‵ (units_at (block_ptr s.block at) (block_size n)) ∷ Γ) G) → (v ≡ live 0 vnil → Seq K 𝓛 Γ G) → Seq K 𝓛 (‵ (Answered.own_val x (v ∷ [])) ∷ Γ) G
  answered t s n a None v told some none =
      fpick t (λ us. fsplit t $ feq_l t (λ is. fpick t (λ vss. fsplit t $ feq_l t (λ is'. drop t $ none (ap only is ∙ ap (λ (ws : List Val). live 0 (of_list ws)) is')))))
  answered t s n a (Some p) v told some none =
      fpick t (λ us. fsplit t $ feq_l t (λ is. fpick t (λ vss. fsplit t $ feq_l t (λ is'. fsplit t $ move t (1 ∷ []) $ drop t $ fsplit t $ pure_l t (piece_own p.ptr vss.0) (λ w.
      let lies : p.ptr ≡ block_ptr s.block p.at = told.1.0.0 in
      rewrite t 0 (λ (u : Ptr × ℕ). ‵ (units_at u.0 u.1)) (λ i. (lies i, told.0 i)) refl $
      some p.at (subst (LiesIn s p.at (block_size n)) lies told.1) told.2 told.3
      (ap only is ∙ ap (λ (xs : List Val). live 1 (of_list xs)) (is' ∙ ap (λ (xs : List Val). xs ++ []) (piece_told p.ptr vss.0 w)) ∙ (λ i. live 1 (vcons (piece_val (lies i)) vnil))))))))
