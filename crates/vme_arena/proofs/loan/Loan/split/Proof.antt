-- `split` cuts what is lent. Assumes `Logic`.
use Rattle.vme_arena.proofs.Steps.{◌≡◌, ℕ, ◌+◌, ◌-◌, ◌*◌, ◌≤◌, List, [], ◌∷◌, ◌++◌, refl, sym, ap, ◌∙◌, arith, w64, SProp, emp, Lft, Share, ftrue, flft, fbor, Fn, Val, vint, vptr, Env, WpFn, fact}
use Rattle.vme_arena.proofs.Steps.{fact_i, tables, ‵, raw, ◌⊛◌, later, prop, at_ret, ◌$◌, ◌∵◌, !, qed, by, move, keep, drop, use0, use2, split, split3, join, rewrite, regoal, fsplit, fjoin, await}
use Rattle.vme_arena.proofs.Steps.{whole, sub, agg, stop, fld, lit, bin, of_opd, no_more, and_then, first, blocks, exec, returns, enter, alloc_all, pass_all, free_all, look_at, get, get_in, sets}
use Rattle.vme_arena.proofs.Steps.{sets_last, is, env, RattleType, owns, Ptr, block_ptr, types_at, type_at, nothing, heard, Tuple, Stays, stay_dropped, walk_of, Goes-dropped, Goes-blank, after}
use Rattle.vme_arena.proofs.Steps.{pair_of, pair_val, proved_at, leaves}
use Rattle.vme_arena.proofs.Parts.{param}
use Rattle.vme_arena.proofs.Values.{loan_val, loan_own, loan_told, loan_made}
use Rattle.vme_arena.proofs.Homes.{cut_loan}
use Rattle.vme_arena.specs.Ownership.{Spot, homes, homes_at}
use Rattle.vme_arena.specs.contracts.loan.Loan.split.{ended, clauses}
use Rattle.vme_arena.specs.contracts.loan.Loan.split.Key.{name as #self}
use Rattle.vme_arena.proofs.loan.Loan.split.Statement.{statement}
use Rattle.vme_arena.proofs.loan.Loan.split.Code as compiled

pub split_spec : {M : Type 1} → statement M
split_spec 𝓤 𝓛 𝓜 𝓡 wired =
    let fn : Fn = compiled.function in
    let ps = ended.signature.params in
    let stays : Stays ps ended.kept = (stay_dropped (param 0 ps) ended.kept.0, (stay_dropped (param 1 ps) ended.kept.1.0, tt)) in
    let c = clauses 𝓛 𝓜.mem 𝓡.returns in
    let 𝓣 = tables 𝓤 𝓛.H 𝓜 𝓡 𝓡.env in
    proved_at 𝓛 ended stays c 𝓜 𝓡 (Goes-blank 𝓛 1 (param 0 ps) ended.kept.0 (λ κs x f. tt), (Goes-dropped 𝓛 1 (param 1 ps) ended.kept.1.0 (λ κs x f. refl), tt)) #self fn
    (compiled.unfolded 𝓤 𝓛.H 𝓜 𝓡 wired) (λ z are.
    let Post : Val → SProp 𝓤 = (walk_of 𝓛 ended stays c).post z in
    let a = z.0.3 in let vss = z.0.4 in
    let κ : Lft = z.0.0.0 in
    let q : Share = z.0.1.0 in
    let x = a.0 in let n = x.count in
    let s : Spot = x.spot in
    let lies = x.placed in let low = lies.2 in let high = lies.3 in
    let here : Ptr = block_ptr s.block s.at in
    let tags : Ptr = block_ptr s.block s.tag in
    let f = a.1.0 in
    let Asked : Type 0 = f ≤ n in
    qed 𝓛 (((‵ (flft κ q) ⊛ ‵ ftrue) ⊛ ‵ (owns (types_at ps z.0.0) a vss)) ∷ raw (fact 𝓤 Asked) ∷ []) ∵ move ! (1 ∷ []) $ heard ! Asked (λ less. split ! $ split ! $
    move ! (2 ∷ []) $ fsplit ! $ fsplit ! $ drop ! $
    let m = n - f in let sum : n ≡ f + m = omega arith in let far = f * 16 in let e₁ : far + s.at ≡ s.at + far = omega arith in let e₂ : f + s.tag ≡ s.tag + f = omega arith in
    let next : Ptr = block_ptr s.block (s.at + far) in let tags' : Ptr = block_ptr s.block (s.tag + f) in
    rewrite ! 0 (λ (k : ℕ). ‵ (fbor κ (homes_at s k))) sum refl $ move ! (0 ∷ 2 ∷ []) $
    use2 𝓛 (later (‵ (fbor κ (homes_at s f)) ⊛ ‵ (fbor κ (homes s.block (s.at + far) (s.tag + f) m)) ⊛ ‵ (flft κ q))) (cut_loan 𝓛 s.block κ q f m s.at s.tag) $
    regoal ! (λ (us : List Val). prop (WpFn 𝓤 𝓛.H 𝓣.C 𝓣.Λ fn us Post)) (λ i. (loan_told x.bytes x.tags vss.0 are.0.0 ∙ (λ j. loan_val (lies.0 j) (lies.1 j) ∷ [])) i ++ (are.1.0.0 i ++ [])) refl $
    enter ! 𝓣.C 𝓣.Λ fn (loan_val here tags ∷ vint w64 f ∷ []) Post $
    alloc_all ! (λ l. pass_all ! refl ((tt, (tt, (tt, (tt, tt)))), ((tt, record { fits = are.1.0.1 }), tt)) $ let En : Env 𝓤 𝓛.H = env fn.locals l in await ! tt $ split3 ! $
    sets ! (of_opd ! (get_in ! (fld ! refl (stop !)) (sub ! 0 refl (whole !)))) refl (tt, tt) $
    sets ! (of_opd ! (get_in ! (fld ! refl (stop !)) (sub ! 1 refl (whole !)))) refl (tt, tt) $
    sets ! (of_opd ! (get_in ! (fld ! refl (stop !)) (sub ! 2 refl (whole !)))) refl (tt, tt) $
    sets ! (bin ! (get ! refl) (lit ! tt) (record { fits = omega arith })) refl (tt, record { fits = omega arith }) $
    first ! $ blocks ! $
    sets ! (agg ! (and_then ! (get ! refl) (and_then ! (get ! refl) (and_then ! (get ! refl) (no_more !))))) refl (tt, (tt, (tt, (tt, tt)))) $
    sets ! (is ! (bin ! (get ! refl) (get ! refl) tt) (ap (vptr s.block) e₁)) refl (tt, tt) $
    sets ! (is ! (bin ! (get ! refl) (get ! refl) tt) (ap (vptr s.block) e₂)) refl (tt, tt) $
    sets ! (agg ! (and_then ! (get ! refl) (and_then ! (get ! refl) (and_then ! (get ! refl) (no_more !))))) refl (tt, (tt, (tt, (tt, tt)))) $
    sets_last ! (agg ! (and_then ! (get ! refl) (and_then ! (get ! refl) (no_more !)))) refl (tt, ((tt, (tt, (tt, tt))), ((tt, (tt, (tt, tt))), tt))) $
    exec ! 𝓣.C 𝓣.Λ En (after 5 fn.body) (at_ret En Post) $
    sets ! (of_opd ! (get ! refl)) refl (tt, ((tt, (tt, (tt, tt))), ((tt, (tt, (tt, tt))), tt))) $
    returns ! (look_at ! 0 refl) $ free_all ! refl $
    let R : RattleType = type_at (param 0 ps) z.0.0 in
    let y : R.Denot = record { bytes = here; tags = tags; marker = record {}; count = f; spot = s; placed = (refl, refl, omega arith, omega arith); name = x.name } in
    let w : R.Denot = record
    { bytes = next; tags = tags'; marker = record {}; count = m; spot = record { block = s.block; at = s.at + far; tag = s.tag + f }; placed = (refl, refl, omega arith, omega arith); name = x.name }
    in
    let Front : Type 0 = (f ≡ f) × (s ≡ s) in
    let Behind : Type 0 = (f + m ≡ n) × (s.block ≡ s.block) × (s.at + far ≡ s.at + far) in
    use0 𝓛 (‵ (loan_own here tags (loan_val here tags ∷ []))) (loan_made 𝓛 here tags) $ fjoin ! $ move ! (1 ∷ []) $
    use0 𝓛 (‵ (loan_own next tags' (loan_val next tags' ∷ []))) (loan_made 𝓛 next tags') $ fjoin ! $ move ! (0 ∷ 1 ∷ []) $
    use2 𝓛 (‵ ((Tuple (R ∷ R ∷ [])).own_val (w, y) (pair_val (loan_val next tags') (loan_val here tags) ∷ []))) (pair_of 𝓛 R R w y (loan_val next tags') (loan_val here tags)) $
    keep ! (1 ∷ 3 ∷ 0 ∷ []) $ join ! $ move ! (1 ∷ 0 ∷ []) $ use0 𝓛 (raw (fact 𝓤 Behind)) (fact_i 𝓤 Behind (emp 𝓤) (sym sum, refl, refl)) $
    use0 𝓛 (raw (fact 𝓤 Front)) (fact_i 𝓤 Front (emp 𝓤) (refl, refl)) $ join ! $ nothing ! $ nothing ! $ fjoin ! $ nothing ! $ fjoin ! $ move ! (3 ∷ 0 ∷ 2 ∷ 1 ∷ []) $
    by ! (leaves 𝓛 ended stays c z (pair_val (loan_val next tags') (loan_val here tags)) (w, y) (tt, (tt, tt)) (tt, (tt, tt))))))
