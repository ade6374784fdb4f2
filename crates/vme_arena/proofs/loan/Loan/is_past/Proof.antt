-- `is_past` compares two pointers into the region. Assumes `Logic`.
use Rattle.vme_arena.proofs.Steps.{◌≡◌, ℕ, ◌+◌, ◌*◌, ◌≤◌, List, [], ◌∷◌, ◌++◌, refl, ap, ◌∙◌, arith, w64, SProp, emp, Fn, Val, vint, vptr, Env, WpFn, fact, fact_i, tables, ‵, raw, ◌⊛◌, prop, at_ret}
use Rattle.vme_arena.proofs.Steps.{◌$◌, ◌∵◌, !, qed, by, move, keep, drop, use0, use2, split, rewrite, regoal, fsplit, fjoin, feq_i, whole, sub, agg, stop, fld, lit, bin, of_opd, no_more, and_then}
use Rattle.vme_arena.proofs.Steps.{first, blocks, exec, returns, enter, alloc_all, pass_all, free_all, look_at, get, get_in, sets, sets_last, is, env, RattleType, owns, bool, Ptr, block_ptr}
use Rattle.vme_arena.proofs.Steps.{tests_order, types_at, type_at, nothing, heard, Tuple, alive, Stays, stay_dropped, walk_of, Goes-dropped, Goes-blank, after, pair_of, pair_val, proved_at, leaves}
use Rattle.vme_arena.proofs.Parts.{param}
use mir.Val.{vbool}
use lib.Dec.{ltb}
use Rattle.vme_arena.proofs.Values.{loan_val, loan_own, loan_told, loan_made, piece_val, piece_own, piece_told, piece_made}
use Rattle.vme_arena.specs.Ownership.{Spot}
use Rattle.vme_arena.specs.contracts.piece.Piece as piece
use Rattle.vme_arena.specs.contracts.loan.Loan.is_past.{ended, clauses}
use Rattle.vme_arena.specs.contracts.loan.Loan.is_past.Key.{name as #self}
use Rattle.vme_arena.proofs.loan.Loan.is_past.Statement.{statement}
use Rattle.vme_arena.proofs.loan.Loan.is_past.Code as compiled

pub is_past_spec : {M : Type 1} → statement M
is_past_spec 𝓤 𝓛 𝓜 𝓡 wired =
    let fn : Fn = compiled.function in
    let ps = ended.signature.params in
    let stays : Stays ps ended.kept = (stay_dropped (param 0 ps) ended.kept.0, (stay_dropped (param 1 ps) ended.kept.1.0, (stay_dropped (param 2 ps) ended.kept.1.1.0, tt))) in
    let c = clauses 𝓛 𝓜.mem 𝓡.returns in
    let 𝓣 = tables 𝓤 𝓛.H 𝓜 𝓡 𝓡.env in
    proved_at 𝓛 ended stays c 𝓜 𝓡
    (Goes-blank 𝓛 1 (param 0 ps) ended.kept.0 (λ κs x f. tt), (Goes-dropped 𝓛 1 (param 1 ps) ended.kept.1.0 (λ κs x f. refl), (Goes-blank 𝓛 1 (param 2 ps) ended.kept.1.1.0 (λ κs x f. tt), tt)))
    #self fn (compiled.unfolded 𝓤 𝓛.H 𝓜 𝓡 wired) (λ z are.
    let Post : Val → SProp 𝓤 = (walk_of 𝓛 ended stays c).post z in
    let a = z.0.3 in let vss = z.0.4 in let x = a.0 in
    let s : Spot = x.spot in
    let lies = x.placed in let low = lies.2 in let high = lies.3 in
    let b = s.block in
    let here : Ptr = block_ptr b s.at in
    let tags : Ptr = block_ptr b s.tag in
    let i = a.1.0 in let w = a.1.1.0 in
    let X = s.at + i * 16 in
    let p : Ptr = block_ptr b w.at in
    let past = ltb w.at X in
    let v : Val = loan_val here tags in
    let R : RattleType = type_at (param 0 ps) z.0.0 in
    let S : RattleType = piece.the_row in
    let Asked : Type 0 = (i ≤ x.count) × (w.block ≡ b) in
    qed 𝓛 ((raw (alive 𝓛 ended.signature z.0.0 z.0.1) ⊛ ‵ (owns (types_at ps z.0.0) a vss)) ∷ raw (fact 𝓤 Asked) ∷ []) ∵ move ! (1 ∷ []) $ heard ! Asked (λ asked. split ! $
    let small = asked.0 in let top = w.placed.1 in let at : w.ptr ≡ p = w.placed.0 ∙ ap (λ (k : ℕ). block_ptr k w.at) asked.1 in let e₁ : i * 16 + s.at ≡ X = omega arith in
    move ! (1 ∷ []) $ fsplit ! $ fsplit ! $ drop ! $ move ! (1 ∷ []) $ fsplit ! $ drop ! $ fsplit ! $ fsplit ! $ drop ! $ move ! (2 ∷ 0 ∷ 3 ∷ []) $
    -- [the borrow; the bytes; alive]
    regoal ! (λ (us : List Val). prop (WpFn 𝓤 𝓛.H 𝓣.C 𝓣.Λ fn us Post)) (λ j. (loan_told x.bytes x.tags vss.0 are.0.0 ∙ (λ k. loan_val (lies.0 k) (lies.1 k) ∷ [])) j ++
    (are.1.0.0 j ++ ((piece_told w.ptr vss.1.1.0 are.1.1.0.0 ∙ ap (λ (r : Ptr). piece_val r ∷ []) at) j ++ []))) refl $
    enter ! 𝓣.C 𝓣.Λ fn (v ∷ vint w64 i ∷ piece_val p ∷ []) Post $
    alloc_all ! (λ l. pass_all ! refl ((tt, (tt, (tt, (tt, tt)))), ((tt, record { fits = are.1.0.1 }), ((tt, (tt, tt)), tt))) $ let En : Env 𝓤 𝓛.H = env fn.locals l in
    sets ! (of_opd ! (get_in ! (fld ! refl (stop !)) (sub ! 0 refl (whole !)))) refl (tt, tt) $
    sets ! (of_opd ! (get_in ! (fld ! refl (stop !)) (sub ! 1 refl (whole !)))) refl (tt, tt) $
    sets ! (of_opd ! (get_in ! (fld ! refl (stop !)) (sub ! 2 refl (whole !)))) refl (tt, tt) $
    sets ! (of_opd ! (get_in ! (fld ! refl (stop !)) (sub ! 0 refl (whole !)))) refl (tt, tt) $
    sets ! (bin ! (get ! refl) (lit ! tt) (record { fits = omega arith })) refl (tt, record { fits = omega arith }) $
    first ! $ blocks ! $
    sets ! (is ! (bin ! (get ! refl) (get ! refl) tt) (ap (vptr b) e₁)) refl (tt, tt) $
    sets ! (bin ! (get ! refl) (get ! refl) (tests_order b w.at X (omega arith) (omega arith))) refl (tt, tt) $
    sets ! (agg ! (and_then ! (get ! refl) (and_then ! (get ! refl) (and_then ! (get ! refl) (no_more !))))) refl (tt, (tt, (tt, (tt, tt)))) $
    sets ! (agg ! (and_then ! (get ! refl) (no_more !))) refl (tt, (tt, tt)) $
    sets ! (agg ! (and_then ! (get ! refl) (and_then ! (get ! refl) (no_more !)))) refl (tt, ((tt, (tt, (tt, tt))), ((tt, tt), tt))) $
    sets_last ! (agg ! (and_then ! (get ! refl) (and_then ! (get ! refl) (no_more !)))) refl (tt, (tt, (((tt, (tt, (tt, tt))), ((tt, tt), tt)), tt))) $
    exec ! 𝓣.C 𝓣.Λ En (after 6 fn.body) (at_ret En Post) $
    sets ! (of_opd ! (get ! refl)) refl (tt, (tt, (((tt, (tt, (tt, tt))), ((tt, tt), tt)), tt))) $
    returns ! (look_at ! 0 refl) $ free_all ! refl $
    let u : Val = pair_val v (piece_val p) in
    let Shown : Type 0 = (past ≡ past) × (x ≡ x) × (w ≡ w) in
    use0 𝓛 (‵ (loan_own x.bytes x.tags (loan_val x.bytes x.tags ∷ []))) (loan_made 𝓛 x.bytes x.tags) $
    rewrite ! 0 (λ (r : Ptr × Ptr). ‵ (loan_own x.bytes x.tags (loan_val r.0 r.1 ∷ []))) (λ j. (lies.0 j, lies.1 j)) refl $ fjoin ! $
    move ! (1 ∷ []) $ use0 𝓛 (‵ (piece_own w.ptr (piece_val w.ptr ∷ []))) (piece_made 𝓛 w.ptr) $
    rewrite ! 0 (λ (r : Ptr). ‵ (piece_own w.ptr (piece_val r ∷ []))) at refl $ fjoin ! $ move ! (1 ∷ 0 ∷ []) $
    use2 𝓛 (‵ ((Tuple (R ∷ S ∷ [])).own_val (x, w) (u ∷ []))) (pair_of 𝓛 R S x w v (piece_val p)) $
    feq_i ! (List Val) (vbool past ∷ []) (vbool past ∷ []) refl $
    use2 𝓛 (‵ ((Tuple (bool ∷ Tuple (R ∷ S ∷ []) ∷ [])).own_val (past, (x, w)) (pair_val (vbool past) u ∷ []))) (pair_of 𝓛 bool (Tuple (R ∷ S ∷ [])) past (x, w) (vbool past) u) $
    keep ! (0 ∷ 1 ∷ []) $ use0 𝓛 (raw (fact 𝓤 Shown)) (fact_i 𝓤 Shown (emp 𝓤) (refl, refl, refl)) $
    nothing ! $ nothing ! $ fjoin ! $ nothing ! $ fjoin ! $ nothing ! $ fjoin ! $ move ! (3 ∷ 0 ∷ 2 ∷ 1 ∷ []) $
    by ! (leaves 𝓛 ended stays c z (pair_val (vbool past) u) (past, (x, w)) (tt, (tt, (tt, tt))) (tt, (tt, (tt, tt)))))))
