-- `replace` opens the slot with the token of the thread, reads it, writes it and closes it. Assumes
-- `Logic`.
use Rattle.vme_arena.proofs.Steps.{List, [], ◌∷◌, ◌++◌, refl, SProp, emp, Lft, Share, ftrue, flft, Fn, Val, vptr, Env, WpFn, fact, fact_i, ‵, raw, ◌⊛◌, prop, at_ret, ◌$◌, ◌∵◌, !, qed, by, move}
use Rattle.vme_arena.proofs.Steps.{keep, use0, split, join, rewrite, regoal, fsplit, fsplit3, fjoin, whole, sub, look_in, store_in, stop, fld, addr, load, of_opd, assigns, first, blocks, exec}
use Rattle.vme_arena.proofs.Steps.{returns, enter, alloc_all, pass_all, free_all, look_at, get, through, sets, sets_last, env, owns, types_at, nothing, heard, Stays, stay_dropped, walk_of}
use Rattle.vme_arena.proofs.Steps.{Goes-dropped, Goes-blank, after, leaves}
use Rattle.vme_arena.proofs.Parts.{param}
use base.Fml.{ftok}
use base.Mask.{every}
use denote.Exit.{rest, yes}
use denote.Param.{layout}
use Rattle.core.proofs.cell.Inside.{one}
use Rattle.vme_arena.specs.Stretch.{Stretch}
use Rattle.vme_arena.proofs.Cells.{Content, Fits, content_Lawful, content_blank, opens_slot, shuts_slot, tokened, proved_tokened}
use Rattle.vme_arena.proofs.slot.Slot.replace.Code.{code}
use Rattle.vme_arena.specs.contracts.slot.Slot.replace.{ended, clauses}
use Rattle.vme_arena.specs.contracts.slot.Slot.replace.Key.{name as #self}
use Rattle.vme_arena.proofs.slot.Slot.replace.Statement.{statement}
use Rattle.vme_arena.proofs.slot.Slot.replace.Code as compiled

pub replace_spec : {M : Type 1} → statement M
unfolding code
replace_spec 𝓤 𝓛 𝓜 𝓡 wired =
    let fn : Fn = compiled.function in
    let ps = ended.signature.params in
    let stays : Stays ps ended.kept = (stay_dropped (param 0 ps) ended.kept.0, (stay_dropped (param 1 ps) ended.kept.1.0, tt)) in
    let c₀ = clauses 𝓛 𝓜.mem 𝓡.returns in
    let c = tokened 𝓛 ended stays c₀ in
    proved_tokened 𝓛 ended stays c₀ 𝓜 𝓡
    (Goes-dropped 𝓛 2 (param 0 ps) ended.kept.0 (λ κs x f. refl), (Goes-blank 𝓛 2 (param 1 ps) ended.kept.1.0 (λ κs. content_blank (denote.Signature.named_lft 2 1 tt κs)), tt)) #self fn
    (wired.0.0 #self refl) (λ C Λ z are.
    let Post : Val → SProp 𝓤 = (walk_of 𝓛 ended stays c).post z in
    let a = z.0.3 in let vss = z.0.4 in
    let κ : Lft = z.0.0.0 in
    let q : Share = z.0.1.0 in
    let ρ = denote.Signature.named_lft 2 1 tt z.0.0 in
    let b = a.0.ref_ptr.0 in let o = a.0.ref_ptr.1 in
    let s : Stretch = a.0.now in
    let new = a.1.0 in
    let got = one (layout (Content ρ)) vss.1.0 ((content_Lawful ρ 𝓛).typed new vss.1.0 are.1.0) in
    let w : Val = got.0 in
    let good = got.2 in
    qed 𝓛 (((‵ (flft κ q) ⊛ ‵ (flft z.0.0.1.0 z.0.1.1.0) ⊛ ‵ ftrue) ⊛ ‵ (owns (types_at ps z.0.0) a vss)) ∷ (‵ (ftok every) ⊛ raw (fact 𝓤 (Fits ρ s new))) ∷ []) ∵
    move ! (1 ∷ []) $ split ! $ move ! (1 ∷ []) $ heard ! (Fits ρ s new) (λ asked. move ! (1 ∷ []) $ split ! $ split ! $ move ! (2 ∷ []) $ fsplit3 ! $ fsplit ! $
    rewrite ! 2 (λ (us : List Val). ‵ ((Content ρ).own_val new us)) got.1 refl $ keep ! (1 ∷ 4 ∷ 6 ∷ 2 ∷ 5 ∷ []) $
    regoal ! (λ (us : List Val). prop (WpFn 𝓤 𝓛.H C Λ fn us Post)) (λ i. are.0.0 i ++ (got.1 i ++ [])) refl $
    enter ! C Λ fn (vptr b o ∷ w ∷ []) Post $
    alloc_all ! (λ l. pass_all ! refl ((tt, tt), (good, tt)) $ let En : Env 𝓤 𝓛.H = env fn.locals l in
    opens_slot ρ s b o ! tt (λ x v over typed.
    sets ! (addr ! (through ! refl (fld ! refl (stop !)))) refl (tt, tt) $
    first ! $ blocks ! $
    sets ! (of_opd ! (load ! (through ! refl (stop !)) (look_in ! 0 (sub ! 0 refl (whole !))))) refl typed $
    assigns ! (of_opd ! (get ! refl)) (through ! refl (stop !)) (store_in ! 0 (sub ! 0 refl (whole !)) good) $
    sets_last ! (of_opd ! (get ! refl)) refl typed $
    exec ! C Λ En (after 2 fn.body) (at_ret En Post) $
    sets ! (of_opd ! (get ! refl)) refl typed $
    move ! (0 ∷ 3 ∷ 2 ∷ []) $ shuts_slot ρ s b o ! tt new w asked $
    returns ! (look_at ! 0 refl) $ free_all ! refl $
    use0 𝓛 (raw (fact 𝓤 (Fits ρ s x))) (fact_i 𝓤 (Fits ρ s x) (emp 𝓤) over) $ move ! (2 ∷ 0 ∷ []) $ join ! $
    nothing ! $ nothing ! $ fjoin ! $ nothing ! $ fjoin ! $ move ! (2 ∷ 4 ∷ []) $ join ! $ move ! (0 ∷ 1 ∷ 3 ∷ []) $
    by ! (leaves 𝓛 ended stays c z v x (tt, (rest ((Content ρ).exit yes) new, tt)) (tt, (tt, tt)))))))
