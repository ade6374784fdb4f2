-- The two cases of a block that was to be resized. Assumes `Logic`.
use Rattle.std.proofs.Common.{◌≡◌, ℕ, List, [], ◌∷◌, ◌++◌, MatchResult, Ok, Err, refl, ap, ◌∙◌}
use seplogic.Ra.Ura.{Ura}
use mir.Val.{Val, vcons, vnil, of_list}
use base.Logic.{never, fst∗}
use base.Fml.{ffalse, fsep}
use types.Logic.{Logic, sem}
use types.Kit.{Item, Goal, Seq, ‵, ◌$◌, move, drop, rewrite, fsplit, fpick, feq_l}
use types.Match.{live}
use denote.RattleType.{RattleType}
use denote.RawPtr.{Ptr, block_ptr, null_ptr, in_a_block}
use denote.Shadow.{pure_l}
use denote.Steps.{only}
use Rattle.std.specs.Allocator.{array_of, block_with_items}
use Rattle.core.specs.contracts.result.Result as result
use Rattle.vme_arena.specs.Stretch.{Stretch}
use Rattle.vme_arena.specs.Ownership.{token_at}
use Rattle.vme_arena.specs.contracts.block.Block as block
use Rattle.vme_arena.proofs.Values.{block_val, block_own, block_told}

module _ (R : RattleType) where
  abbrev Blocks : RattleType
  Blocks = block.the_row R

  -- what `grown` and `shrunk` return, and what their contracts say about it
  abbrev pub Resized : RattleType
  Resized = result.the_row Blocks Blocks

  abbrev pub Told : Blocks.Denot → ℕ → ℕ → Resized.Denot → Type 0
  Told x len cap r = MatchResult r (λ b. (b.stretch ≡ x.stretch) × (b.len ≡ len) × (b.cap ≡ cap) × (b.items ≡ x.items)) (λ b. b ≡ x)

  module _ {M : Type 1} {𝓤 : Ura M} {𝓛 : Logic 𝓤} {K : Type 0} {Γ : List (Item 𝓤)} {G : Goal 𝓤 𝓛.H} where
    pub resized : K → (x : Blocks.Denot) (len cap : ℕ) (r : Resized.Denot) (v : Val) → Told x len cap r
        → ((at b o : ℕ) → v ≡ live 0 (vcons (block_val (block_ptr b o)) vnil) → Seq K 𝓛 (‵ (block_with_items (token_at x.stretch at) R (block_ptr b o) len cap x.items) ∷ Γ) G)
        → (v ≡ live 1 (vcons (block_val x.ptr) vnil) → Seq K 𝓛 (‵ (block_with_items (token_at x.stretch x.at) R x.ptr x.len x.cap x.items) ∷ Γ) G)
        → Seq K 𝓛 (‵ (Resized.own_val r (v ∷ [])) ∷ Γ) G
    resized t x len cap (Ok w) v told made kept =
        fpick t (λ us. fsplit t $ feq_l t (λ is. fpick t (λ vss. fsplit t $ feq_l t (λ is'. fsplit t $ move t (1 ∷ []) $ drop t $ fsplit t $ pure_l t (block_own w.ptr vss.0) (λ s.
        rewrite t 0 (λ (u : Stretch × ℕ × ℕ × List R.Denot). ‵ (block_with_items (token_at u.0 w.at) R w.ptr u.1 u.2 u.3)) (λ i. (told.0 i, told.1 i, told.2 i, told.3 i)) refl $
        in_a_block t w.ptr (λ p. block_with_items (token_at x.stretch w.at) R p len cap x.items)
        (fst∗ 𝓤 (never 𝓤) (sem 𝓛 (fsep ffalse (token_at x.stretch w.at (array_of R cap) null_ptr)))) (λ b o is''.
        made w.at b o (ap only is ∙ ap (λ (xs : List Val). live 0 (of_list xs)) (is' ∙ ap (λ (xs : List Val). xs ++ []) (block_told w.ptr vss.0 s))
        ∙ ap (λ (p : Ptr). live 0 (vcons (block_val p) vnil)) is'')))))))
    resized t x len cap (Err w) v told made kept =
        fpick t (λ us. fsplit t $ feq_l t (λ is. fpick t (λ vss. fsplit t $ feq_l t (λ is'. fsplit t $ move t (1 ∷ []) $ drop t $ fsplit t $ pure_l t (block_own w.ptr vss.0) (λ s.
        rewrite t 0 (λ (u : Blocks.Denot). ‵ (block_with_items (token_at u.stretch u.at) R u.ptr u.len u.cap u.items)) told refl $
        kept (ap only is ∙ ap (λ (xs : List Val). live 1 (of_list xs)) (is' ∙ ap (λ (xs : List Val). xs ++ []) (block_told w.ptr vss.0 s))
        ∙ ap (λ (u : Blocks.Denot). live 1 (vcons (block_val u.ptr) vnil)) told))))))
