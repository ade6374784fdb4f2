-- The slots of a signature, what runs after a part of a body, and what is learned from the head of
-- the context. Assumes `Logic`.
use Rattle.std.proofs.Common.{ℕ, zero, suc, List, [], ◌∷◌, take, drop, take-append-drop, subst}
use seplogic.Ra.Ura.{Ura}
use mir.Syntax.{Body}
use base.Logic.{ent, via, fst∗}
use prog.Wp.{Env, Calls, Loops, Wp, after_seq, after_block}
use types.Logic.{Logic}
use types.Kit.{Item, Goal, Seq, Post, any_q, post, ⋆, ⊢++}
use contract.Monad.{fact, fact_use}
use denote.Builtin.{unit}
use denote.Signature.{Slot, plain}

-- the k-th parameter
abbrev pub param : {n : ℕ} → ℕ → List (Slot n) → Slot n
param k [] = plain (λ _. unit)
param zero (s ∷ ss) = s
param (suc k) (s ∷ ss) = param k ss

module _ {M : Type 1} {𝓤 : Ura M} (𝓛 : Logic 𝓤) where
  open 𝓛 use {H}

  -- then b
  abbrev pub going_on : Calls 𝓤 H → Loops 𝓤 H → Env 𝓤 H → Body → Post 𝓤 H → Post 𝓤 H
  going_on C Λ E b q = any_q (after_seq 𝓤 H (Wp 𝓤 H C Λ E b (post 𝓤 H q)) (post 𝓤 H q))

  -- then what follows the block
  abbrev pub leaving : Post 𝓤 H → Post 𝓤 H
  leaving q = any_q (after_block 𝓤 H (post 𝓤 H q))

module _ {M : Type 1} {𝓤 : Ura M} {𝓛 : Logic 𝓤} {K : Type 0} {Γ : List (Item 𝓤)} {G : Goal 𝓤 𝓛.H} where
  -- the first n entries show φ, and stay
  pub tells : K → (n : ℕ) (φ : Type 0) → ent 𝓤 (⋆ 𝓛 (take n Γ)) (fact 𝓤 φ) → (φ → Seq K 𝓛 Γ G) → Seq K 𝓛 Γ G
  tells t n φ shows k =
      let front = ⋆ 𝓛 (take n Γ) in let rear = ⋆ 𝓛 (drop n Γ) in
      let cut = subst (λ (Δ : List (Item 𝓤)). ent 𝓤 (⋆ 𝓛 Δ) front) (take-append-drop n Γ) (via 𝓤 _ (⊢++ 𝓛 (take n Γ) (drop n Γ)) (fst∗ 𝓤 front rear)) in
      record { prf = fact_use 𝓤 φ (via 𝓤 front cut shows) (λ x. (k x).prf) }
