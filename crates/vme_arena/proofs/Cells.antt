-- What a slot holds is one machine value, and is reached through a `&` with the thread's token.
-- Assumes `Logic`.
use Rattle.std.proofs.Common.{◌≡◌, ℕ, List, [], ◌∷◌, IfSome, None, Some, T, refl, subst}
use seplogic.Ra.Ura.{Ura}
use mir.Syntax.{Ty, Fn, Callee}
use mir.Val.{Val}
use base.Fraction.{full_share}
use base.Logic.{ent, sep, wand, apply∗, via, fst∗, snd∗}
use base.Fml.{Lft, Share, Fml, Incl-refl, ftrue, fsep, fex, fat, flft, ftok}
use base.Mask.{every, less}
use prog.Wp.{Calls, Loops, WpFn, Tables}
use prog.Model.{Model}
use prog.Routine.{over, ◌≼⁺◌}
use types.Logic.{Logic, sem}
use types.Kit.{Item, Goal, Seq, Step, Soaks, step, ‵, raw, ◌⊛◌, later, ◌$◌, move, drop, use1, use2, use3, split, join, fsplit, fjoin, fpick, fpack, rewrite, await}
use types.Na.{na_acc_in}
use contract.Monad.{fact_use}
use contract.Running.{Running, tables_of, bare_tables}
use contract.Beside.{Carries}
use contract.Named.{bare_unfolds}
use sound.WpLaws.{WpFn-mono}
use denote.Ref.{NamedLft}
use denote.RattleType.{RattleType, owns}
use denote.Exit.{Last, left, yes}
use denote.Param.Mute.{blank}
use denote.Laws.{Lawful, Ises, Are, owns_show, showss}
use denote.Memory.{cell_at, hidden_shr, lone}
use denote.Opens.{unhide}
use denote.Param.{layout}
use denote.Signature.{Signature, types_at}
use denote.Steps.{nothing}
use denote.Struct.Members.{Member}
use denote.Triple.Clauses.{Ended, Clauses, closing}
use denote.Triple.Entry.{on_entry, alive}
use denote.Triple.Spec.{Meets, triple_of}
use denote.Triple.Table.{entered}
use denote.Triple.Handed.{holding, hands}
use denote.Triple.Walked.{Stays, AllGo, walk_of, walk_Meets}
use Rattle.core.specs.contracts.option.Option as option
use Rattle.core.proofs.option.Option.TheLaws.{the_row_laws as option_laws}
use Rattle.core.proofs.cell.Inside.{Good, round, wraps, unwraps}
use Rattle.vme_arena.specs.Stretch.{Stretch}
use Rattle.vme_arena.specs.Held.{held_stretch}
use Rattle.vme_arena.specs.Ownership.{fields_with}
use Rattle.vme_arena.specs.contracts.held.Held as held
use Rattle.vme_arena.specs.contracts.slot.Slot as slot
use Rattle.vme_arena.specs.contracts.slot.Slot.TheInside as inside
use Rattle.vme_arena.proofs.held.Held.TheLaws as held_laws

module _ (ρ : NamedLft) where
  -- what the slot's field is
  abbrev pub Content : RattleType
  Content = option.the_row (held.the_row ρ)

  abbrev member : Member
  member = record { row = Content; ty = layout Content }

  abbrev pub Fields : RattleType
  Fields = inside.the_row ρ

  abbrev pub slot_type : Ty
  slot_type = lone Fields.mir

  -- what is held, if anything is, is this stretch
  abbrev pub Fits : Stretch → Content.Denot → Type 0
  Fits s x = IfSome x (λ h. held_stretch h ≡ s)

  abbrev fitting : Stretch → Fields.Denot → Fml
  fitting s i = fex (Fits s i.held) (λ _. ftrue)

  abbrev pub filled : Stretch → List Val → Fml
  filled s vs = fex Fields.Denot (λ i. fsep (Fields.own_val i vs) (fitting s i))

  pub content_Lawful : {M : Type 1} {𝓤 : Ura M} (𝓛 : Logic 𝓤) → Lawful 𝓛 Content
  content_Lawful 𝓛 = (option_laws (held.the_row ρ) (held_laws.the_row_laws ρ)).lawful 𝓛

  pub content_blank : (x : Content.Denot) (f : Last (Content.exit yes) x) → T (blank (left (Content.exit yes) x f))
  content_blank None f = tt
  content_blank (Some h) f = tt

  -- what closes an open slot again
  abbrev pub Open : {M : Type 1} {𝓤 : Ura M} (𝓛 : Logic 𝓤) → Stretch → ℕ → ℕ → Lft → Share → Item 𝓤
  Open {𝓤 = 𝓤} 𝓛 s b o κ q =
      ‵ (ftok (less every (b, o))) ⊛ raw (wand 𝓤 (sep 𝓤 (sem 𝓛 (fields_with Fields (fitting s) b o)) (𝓛.A.tok (less every (b, o)))) (𝓛.H.⇛ (sep 𝓤 (𝓛.A.lft κ q) (𝓛.A.tok every))))

  module _ {M : Type 1} {𝓤 : Ura M} {𝓛 : Logic 𝓤} {K : Type 0} {Γ : List (Item 𝓤)} {G : Goal 𝓤 𝓛.H} (s : Stretch) where
    open 𝓛 use {H, A}

    pub takes_out : K → (vs : List Val) → ((x : Content.Denot) (v : Val) → Fits s x → Good (layout Content) v →
        vs ≡ round v ∷ [] → Seq K 𝓛 (‵ (Content.own_val x (v ∷ [])) ∷ Γ) G) → Seq K 𝓛 (‵ (filled s vs) ∷ Γ) G
    takes_out t vs k = fpick t (λ i. fsplit t $ move t (1 ∷ []) $ fpick t (λ is. drop t $ unwraps member t (content_Lawful 𝓛) [] [] i.held vs (λ v good e. k i.held v is good e)))

    pub puts_in : K → (x : Content.Denot) (v : Val) → Fits s x → Step K 𝓛 (‵ (filled s (round v ∷ [])) ∷ Γ) G (‵ (Content.own_val x (v ∷ [])) ∷ Γ) G
    puts_in t x v is = step (λ rest.
        let i : Fields.Denot = record { held = x } in
        use1 𝓛 (‵ (Fields.own_val i (round v ∷ []))) (wraps member 𝓛 [] [] x v) $ nothing t $ fpack t (Fits s x) (λ _. ftrue) is $ move t (1 ∷ 0 ∷ []) $ fjoin t $
        fpack t Fields.Denot (λ j. fsep (Fields.own_val j (round v ∷ [])) (fitting s j)) i $ rest)

  module _ {M : Type 1} {𝓤 : Ura M} {𝓛 : Logic 𝓤} {K : Type 0} {Γ : List (Item 𝓤)} {G : Goal 𝓤 𝓛.H} (s : Stretch) (b o : ℕ) where
    open 𝓛 use {H, A}

    pub opens_slot : K → Soaks G → {κ : Lft} {q : Share}
        → ((x : Content.Denot) (v : Val) → Fits s x → Good (layout Content) v → Seq K 𝓛 (‵ (fat full_share slot_type b o (round v)) ∷ ‵ (Content.own_val x (v ∷ [])) ∷ Open 𝓛 s b o κ q ∷ Γ) G)
        → Seq K 𝓛 (‵ (hidden_shr (slot.the_row ρ) κ s b o) ∷ ‵ (flft κ q) ∷ ‵ (ftok every) ∷ Γ) G
    opens_slot t u {κ} {q} k =
        let P : Fml = fields_with Fields (fitting s) b o in
        unhide t $ use3 𝓛 (later (‵ P ⊛ Open 𝓛 s b o κ q)) (na_acc_in 𝓛 κ ((κ, q) ∷ []) every (b, o) P (Incl-refl κ) refl) $ await t u $ split t $
        fpick t (λ vs. fsplit t $ move t (1 ∷ []) $ takes_out s t vs (λ x v is good e.
        rewrite t 1 (λ (us : List Val). ‵ (cell_at full_share Fields.mir us b o)) e refl $ move t (1 ∷ []) $
        use1 𝓛 (‵ (fat full_share slot_type b o (round v))) (𝓛.laws.raw_at full_share slot_type b o (round v)) $ k x v is good))

    pub shuts_slot : K → Soaks G → {κ : Lft} {q : Share} (x : Content.Denot) (v : Val) → Fits s x
        → Step K 𝓛 (‵ (flft κ q) ∷ ‵ (ftok every) ∷ Γ) G (‵ (fat full_share slot_type b o (round v)) ∷ ‵ (Content.own_val x (v ∷ [])) ∷ Open 𝓛 s b o κ q ∷ Γ) G
    shuts_slot t u {κ} {q} x v is = step (λ rest.
        let P : Fml = fields_with Fields (fitting s) b o in
        use1 𝓛 (‵ (cell_at full_share Fields.mir (round v ∷ []) b o)) (𝓛.laws.at_raw full_share slot_type b o (round v)) $ move t (1 ∷ []) $ puts_in s t x v is $ move t (1 ∷ 0 ∷ []) $ fjoin t $
        fpack t (List Val) (λ us. fsep (cell_at full_share Fields.mir us b o) (filled s us)) (round v ∷ []) $ move t (1 ∷ []) $ split t $ move t (2 ∷ 0 ∷ []) $ join t $
        use2 𝓛 (later (‵ (flft κ q) ⊛ ‵ (ftok every))) (apply∗ 𝓤 (sep 𝓤 (sem 𝓛 P) (A.tok (less every (b, o)))) (H.⇛ (sep 𝓤 (A.lft κ q) (A.tok every)))) $ await t u $ split t $ rest)

-- a walk that holds the thread's token
module _ {M : Type 1} {𝓤 : Ura M} (𝓛 : Logic 𝓤) (T : Ended) (hs : Stays T.signature.params T.kept) (c : Clauses 𝓤 T) where
  open 𝓛 use {H, A}

  abbrev S : Signature
  S = T.signature

  abbrev pub tokened : Clauses 𝓤 T
  tokened = holding 𝓤 T (A.tok every) c

  pub proved_tokened : (𝓜 : Model 𝓤 H) (𝓡 : Running 𝓤 H 𝓜) → AllGo 𝓛 S.lifetimes S.params T.kept hs → (k : Callee) (e : Fn) → over 𝓡.env e ≼⁺ 𝓡.env k
      → ((C : Calls 𝓤 H) (Λ : Loops 𝓤 H) (y : (walk_of 𝓛 T hs tokened).Ghost) → Are (types_at S.params y.0.0) (Ises (types_at S.params y.0.0)) y.0.3 y.0.4
      → ent 𝓤 ((walk_of 𝓛 T hs tokened).pre y) (WpFn 𝓤 H C Λ e ((walk_of 𝓛 T hs tokened).args y) ((walk_of 𝓛 T hs tokened).post y)))
      → Meets 𝓛 S (𝓡.run (𝓡.env k)) (closing 𝓛 T c)
  unfolding tables_of
  proved_tokened 𝓜 𝓡 go k e is walk =
      let 𝓒 : Carries 𝓤 H 𝓜 (A.tok every) = subst (Carries 𝓤 H 𝓜) 𝓛.turn_is 𝓡.carries in
      let 𝓣 : Tables 𝓤 H = tables_of 𝓤 H 𝓒.inner (bare_tables 𝓤 H 𝓒.inner 𝓡.allowed 𝓡.how 𝓡.env) in
      hands 𝓛 T (A.tok every) c 𝓜 𝓒 𝓡 (𝓡.env k)
      (entered 𝓤 H (triple_of 𝓛 S (closing 𝓛 T tokened)) 𝓣.C 𝓣.Λ k e (bare_unfolds 𝓤 H 𝓒.inner 𝓡.allowed 𝓡.how 𝓡.env k e is)
      (walk_Meets 𝓛 T hs go tokened (WpFn 𝓤 H 𝓣.C 𝓣.Λ e) (WpFn-mono 𝓤 H 𝓛.laws 𝓣 e) (λ y. let Rs = types_at S.params y.0.0 in let a = y.0.3 in let vss = y.0.4 in
      fact_use 𝓤 (Are Rs (Ises Rs) a vss) (via 𝓤 (sem 𝓛 (owns Rs a vss)) (via 𝓤 (on_entry 𝓛 S y.0.0 y.0.1 a vss) (fst∗ 𝓤 (on_entry 𝓛 S y.0.0 y.0.1 a vss) ((tokened y.0.0 a).requires y.1))
      (snd∗ 𝓤 (alive 𝓛 S y.0.0 y.0.1) (sem 𝓛 (owns Rs a vss)))) (owns_show 𝓛 Rs (Ises Rs) (showss 𝓛 Rs) a vss)) (walk 𝓣.C 𝓣.Λ y))))
