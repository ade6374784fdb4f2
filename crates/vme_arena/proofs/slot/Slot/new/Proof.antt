-- `new` wraps what is held. Assumes `Logic`.
use Rattle.vme_arena.proofs.Steps.{◌≡◌, List, [], ◌∷◌, ◌++◌, Some, refl, lit<, SProp, emp, ftrue, Fn, Val, vcons, vnil, WpFn, fact, fact_i, tables, ‵, raw, ◌⊛◌, prop, ◌$◌, ◌∵◌, !, qed, by, move}
use Rattle.vme_arena.proofs.Steps.{drop, use0, use1, split, rewrite, regoal, fsplit, fjoin, fpack, agg, live, lit, no_more, and_then, returns, enter, alloc_all, pass_all, free_all, look_at, get}
use Rattle.vme_arena.proofs.Steps.{sets, RattleType, owns, types_at, nothing, alive, Stays, stay_dropped, walk_of, Goes-blank, Some-of, proved_at, leaves}
use Rattle.vme_arena.proofs.Parts.{param}
use denote.Exit.{rest, yes}
use denote.Laws.{Typed}
use denote.Param.{layout}
use Rattle.core.proofs.cell.Inside.{one, round}
use Rattle.std_alloc.proofs.ResultValues.{and_tt}
use Rattle.vme_arena.specs.Stretch.{Stretch}
use Rattle.vme_arena.specs.Held.{held_stretch}
use Rattle.vme_arena.proofs.Cells.{Content, Fields, puts_in}
use Rattle.vme_arena.specs.contracts.held.Held as held
use Rattle.vme_arena.proofs.held.Held.TheLaws as held_laws
use Rattle.vme_arena.specs.contracts.slot.Slot.new.{ended, clauses}
use Rattle.vme_arena.specs.contracts.slot.Slot.new.Key.{name as #self}
use Rattle.vme_arena.proofs.slot.Slot.new.Statement.{statement}
use Rattle.vme_arena.proofs.slot.Slot.new.Code as compiled

pub new_spec : {M : Type 1} → statement M
new_spec 𝓤 𝓛 𝓜 𝓡 wired =
    let fn : Fn = compiled.function in
    let ps = ended.signature.params in
    let stays : Stays ps ended.kept = (stay_dropped (param 0 ps) ended.kept.0, tt) in
    let c = clauses 𝓛 𝓜.mem 𝓡.returns in
    let 𝓣 = tables 𝓤 𝓛.H 𝓜 𝓡 𝓡.env in
    proved_at 𝓛 ended stays c 𝓜 𝓡 (Goes-blank 𝓛 1 (param 0 ps) ended.kept.0 (λ κs x f. tt), tt) #self fn (compiled.unfolded 𝓤 𝓛.H 𝓜 𝓡 wired) (λ z are.
    let Post : Val → SProp 𝓤 = (walk_of 𝓛 ended stays c).post z in
    let a = z.0.3 in let vss = z.0.4 in
    let ρ = denote.Signature.named_lft 1 0 tt z.0.0 in
    let R : RattleType = held.the_row ρ in
    let x = a.0 in
    let s : Stretch = held_stretch x in
    let got = one (layout R) vss.0 (((held_laws.the_row_laws ρ).lawful 𝓛).typed x vss.0 are.0) in
    let w : Val = got.0 in
    let good = got.2 in
    let v : Val = live 1 (vcons w vnil) in
    let Shown : Type 0 = s ≡ s in
    qed 𝓛 ((raw (alive 𝓛 ended.signature z.0.0 z.0.1) ⊛ ‵ (owns (types_at ps z.0.0) a vss)) ∷ ‵ ftrue ∷ []) ∵ move ! (1 ∷ []) $ drop ! $ split ! $ move ! (1 ∷ []) $
    fsplit ! $ move ! (1 ∷ []) $ drop ! $ rewrite ! 0 (λ (us : List Val). ‵ (R.own_val x us)) got.1 refl $
    regoal ! (λ (us : List Val). prop (WpFn 𝓤 𝓛.H 𝓣.C 𝓣.Λ fn us Post)) (λ i. got.1 i ++ []) refl $
    enter ! 𝓣.C 𝓣.Λ fn (w ∷ []) Post $
    alloc_all ! (λ l. pass_all ! refl (good, tt) $
    sets ! (agg ! (and_then ! (lit ! tt) (and_then ! (get ! refl) (no_more !)))) refl (and_tt _ (good.0), (record { fits = lit< tt }, (good.1, tt))) $
    sets ! (agg ! (and_then ! (get ! refl) (no_more !))) refl (and_tt _ (and_tt _ (good.0)), ((record { fits = lit< tt }, (good.1, tt)), tt)) $
    returns ! (look_at ! 0 refl) $ free_all ! refl $
    use1 𝓛 (‵ ((Content ρ).own_val (Some x) (v ∷ []))) (Some-of 𝓛 R x w) $ puts_in ρ s ! (Some x) v refl $ nothing ! $
    fpack ! (Typed (Fields ρ).mir (round v ∷ [])) (λ _. ftrue) ((and_tt _ (and_tt _ (good.0)), ((record { fits = lit< tt }, (good.1, tt)), tt)), tt) $ fjoin ! $
    use0 𝓛 (raw (fact 𝓤 Shown)) (fact_i 𝓤 Shown (emp 𝓤) refl) $ nothing ! $ nothing ! $ fjoin ! $ move ! (3 ∷ 0 ∷ 2 ∷ 1 ∷ []) $
    by ! (leaves 𝓛 ended stays c z (round v) s (rest (R.exit yes) x, tt) (tt, tt))))
