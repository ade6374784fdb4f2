-- `take` opens what is lent, and takes a granule whose tag is set. Assumes `Logic`.
use Rattle.vme_arena.proofs.Steps.{◌≡◌, ◌+◌, ◌*◌, ◌<◌, List, [], ◌∷◌, ◌++◌, Bool, false, Some, None, refl, ap, ◌∙◌, arith, lit<, w8, w64, full_share, SProp, emp, wand, apply∗, Lft, Share, Fml}
use Rattle.vme_arena.proofs.Steps.{ftrue, fat, fsep, flft, Fn, ty_int, Val, vint, vptr, vcons, vnil, Env, WpFn, fact, fact_i, tables, sem, ‵, raw, ◌⊛◌, prop, at_ret, ◌$◌, ◌∵◌, !, qed, by, move}
use Rattle.vme_arena.proofs.Steps.{keep, drop, use0, use1, use2, split, join, rewrite, regoal, fsplit, fjoin, fpick, fpack, whole, sub, agg, live, stop, fld, lit, bin, load, look, store, of_opd}
use Rattle.vme_arena.proofs.Steps.{no_more, and_then, assigns, first, blocks, branches, exec, returns, enter, alloc_all, pass_all, free_all, look_at, get, get_in, through, sets, sets_last, is, env}
use Rattle.vme_arena.proofs.Steps.{bor_open, obor_close, RattleType, owns, Ptr, block_ptr, types_at, type_at, nothing, heard, Tuple, Stays, stay_dropped, walk_of, Goes-dropped, Goes-blank, after}
use Rattle.vme_arena.proofs.Steps.{head, inside, Some-of, none_of, pair_of, pair_val, proved_at, leaves}
use Rattle.vme_arena.proofs.Parts.{param, going_on, leaving}
use Rattle.vme_arena.proofs.Values.{loan_val, loan_own, loan_told, loan_made, piece_val, piece_own, piece_made}
use Rattle.vme_arena.proofs.Homes.{reaches, tag_fits, is_home}
use Rattle.core.specs.contracts.option.Option as option
use Rattle.vme_arena.specs.Ownership.{Spot, homes_at, granule, bit, only_if, units_at}
use Rattle.vme_arena.specs.contracts.piece.Piece as piece
use Rattle.vme_arena.specs.contracts.loan.Loan.take.{ended, clauses}
use Rattle.vme_arena.specs.contracts.loan.Loan.take.Key.{name as #self}
use Rattle.vme_arena.proofs.loan.Loan.take.Statement.{statement}
use Rattle.vme_arena.proofs.loan.Loan.take.Code as compiled

pub take_spec : {M : Type 1} → statement M
take_spec 𝓤 𝓛 𝓜 𝓡 wired =
    let fn : Fn = compiled.function in
    let ps = ended.signature.params in
    let stays : Stays ps ended.kept = (stay_dropped (param 0 ps) ended.kept.0, (stay_dropped (param 1 ps) ended.kept.1.0, tt)) in
    let c = clauses 𝓛 𝓜.mem 𝓡.returns in
    let 𝓣 = tables 𝓤 𝓛.H 𝓜 𝓡 𝓡.env in
    let C = 𝓣.C in let Λ = 𝓣.Λ in
    proved_at 𝓛 ended stays c 𝓜 𝓡 (Goes-blank 𝓛 1 (param 0 ps) ended.kept.0 (λ κs x f. tt), (Goes-dropped 𝓛 1 (param 1 ps) ended.kept.1.0 (λ κs x f. refl), tt)) #self fn
    (compiled.unfolded 𝓤 𝓛.H 𝓜 𝓡 wired) (λ z are.
    let Post : Val → SProp 𝓤 = (walk_of 𝓛 ended stays c).post z in
    let a = z.0.3 in let vss = z.0.4 in
    let κ : Lft = z.0.0.0 in
    let q : Share = z.0.1.0 in
    let x = a.0 in let n = x.count in
    let s : Spot = x.spot in
    let lies = x.placed in let low = lies.2 in let high = lies.3 in
    let b = s.block in
    let here : Ptr = block_ptr b s.at in
    let tags : Ptr = block_ptr b s.tag in
    let i = a.1.0 in
    let far = i * 16 in
    let X = s.at + far in
    let Y = s.tag + i in
    let p : Ptr = block_ptr b X in
    let All : Fml = homes_at s n in
    let Gr : Fml = granule b X Y in
    let v : Val = loan_val here tags in
    let R : RattleType = type_at (param 0 ps) z.0.0 in
    let Opt : RattleType = option.the_row piece.the_row in
    let Asked : Type 0 = i < n in
    qed 𝓛 (((‵ (flft κ q) ⊛ ‵ ftrue) ⊛ ‵ (owns (types_at ps z.0.0) a vss)) ∷ raw (fact 𝓤 Asked) ∷ []) ∵ move ! (1 ∷ []) $ heard ! Asked (λ small. split ! $ split ! $
    move ! (2 ∷ []) $ fsplit ! $ fsplit ! $ drop ! $ move ! (0 ∷ 2 ∷ []) $ let e₁ : far + s.at ≡ X = omega arith in let e₂ : i + s.tag ≡ Y = omega arith in
    regoal ! (λ (us : List Val). prop (WpFn 𝓤 𝓛.H C Λ fn us Post)) (λ j. (loan_told x.bytes x.tags vss.0 are.0.0 ∙ (λ k. loan_val (lies.0 k) (lies.1 k) ∷ [])) j ++ (are.1.0.0 j ++ [])) refl $
    enter ! C Λ fn (v ∷ vint w64 i ∷ []) Post $
    alloc_all ! (λ l. pass_all ! refl ((tt, (tt, (tt, (tt, tt)))), ((tt, record { fits = are.1.0.1 }), tt)) $ let En : Env 𝓤 𝓛.H = env fn.locals l in
    bor_open ! tt $ move ! (1 ∷ []) $ use1 𝓛 (‵ Gr ⊛ raw (wand 𝓤 (sem 𝓛 Gr) (sem 𝓛 All))) (reaches 𝓛 b i n s.at s.tag small) $ split ! $ fpick ! (λ t. fsplit ! $
    -- [the tag; the bytes, if they are at home; the way back; the open borrow]
    sets ! (of_opd ! (get_in ! (fld ! refl (stop !)) (sub ! 0 refl (whole !)))) refl (tt, tt) $
    sets ! (of_opd ! (get_in ! (fld ! refl (stop !)) (sub ! 1 refl (whole !)))) refl (tt, tt) $
    sets ! (of_opd ! (get_in ! (fld ! refl (stop !)) (sub ! 2 refl (whole !)))) refl (tt, tt) $
    sets ! (bin ! (get ! refl) (lit ! tt) (record { fits = omega arith })) refl (tt, record { fits = omega arith }) $
    first ! $ blocks ! $
    sets ! (is ! (bin ! (get ! refl) (get ! refl) tt) (ap (vptr b) e₂)) refl (tt, tt) $
    sets ! (of_opd ! (load ! (through ! refl (stop !)) (look ! 0 refl))) refl (tt, record { fits = tag_fits t }) $
    sets ! (agg ! (and_then ! (get ! refl) (and_then ! (get ! refl) (and_then ! (get ! refl) (no_more !))))) refl (tt, (tt, (tt, (tt, tt)))) $
    sets ! (bin ! (get ! refl) (lit ! tt) tt) refl (tt, tt) $
    first ! $ branches ! (get ! refl)
    (λ away. sets ! (agg ! (and_then ! (lit ! tt) (no_more !))) refl (tt, (record { fits = lit< tt }, tt)) $
    sets_last ! (agg ! (and_then ! (get ! refl) (and_then ! (get ! refl) (no_more !)))) refl (tt, ((tt, (tt, (tt, tt))), ((record { fits = lit< tt }, tt), tt))) $
    exec ! C Λ En (after 5 (inside (head (after 4 fn.body)))) (leaving 𝓛 (going_on 𝓛 C Λ En (after 5 fn.body) (at_ret En Post))) $
    sets_last ! (of_opd ! (get ! refl)) refl (tt, ((tt, (tt, (tt, tt))), ((record { fits = lit< tt }, tt), tt))) $
    exec ! C Λ En (after 5 fn.body) (at_ret En Post) $
    sets ! (of_opd ! (get ! refl)) refl (tt, ((tt, (tt, (tt, tt))), ((record { fits = lit< tt }, tt), tt))) $
    fjoin ! $ fpack ! Bool (λ u. fsep (fat full_share (ty_int w8) b Y (vint w8 (bit u))) (only_if u (units_at p 16))) t $
    use2 𝓛 (‵ All) (apply∗ 𝓤 (sem 𝓛 Gr) (sem 𝓛 All)) $ move ! (1 ∷ 0 ∷ []) $ obor_close ! tt $
    returns ! (look_at ! 0 refl) $ free_all ! refl $
    let Shown : Type 0 = (x ≡ x) × Unit {0} in
    use0 𝓛 (‵ (loan_own x.bytes x.tags (loan_val x.bytes x.tags ∷ []))) (loan_made 𝓛 x.bytes x.tags) $
    rewrite ! 0 (λ (u : Ptr × Ptr). ‵ (loan_own x.bytes x.tags (loan_val u.0 u.1 ∷ []))) (λ j. (lies.0 j, lies.1 j)) refl $ fjoin ! $
    use0 𝓛 (‵ (Opt.own_val None (live 0 vnil ∷ []))) (none_of 𝓛 piece.the_row) $ move ! (1 ∷ 0 ∷ []) $
    use2 𝓛 (‵ ((Tuple (R ∷ Opt ∷ [])).own_val (x, None) (pair_val v (live 0 vnil) ∷ []))) (pair_of 𝓛 R Opt x None v (live 0 vnil)) $
    keep ! (1 ∷ 3 ∷ 0 ∷ []) $ join ! $ move ! (1 ∷ 0 ∷ []) $ use0 𝓛 (raw (fact 𝓤 Shown)) (fact_i 𝓤 Shown (emp 𝓤) (refl, tt)) $
    nothing ! $ nothing ! $ fjoin ! $ nothing ! $ fjoin ! $ move ! (3 ∷ 0 ∷ 2 ∷ 1 ∷ []) $
    by ! (leaves 𝓛 ended stays c z (pair_val v (live 0 vnil)) (x, None) (tt, (tt, tt)) (tt, (tt, tt))))
    (λ there. assigns ! (of_opd ! (lit ! tt)) (through ! refl (stop !)) (store ! 0 refl (tt, record { fits = lit< tt })) $
    rewrite ! 1 (λ (u : Bool). ‵ (only_if u (units_at p 16))) (is_home t there) refl $
    sets ! (is ! (bin ! (get ! refl) (get ! refl) tt) (ap (vptr b) e₁)) refl (tt, tt) $
    sets ! (agg ! (and_then ! (get ! refl) (no_more !))) refl (tt, (tt, tt)) $
    sets ! (agg ! (and_then ! (lit ! tt) (and_then ! (get ! refl) (no_more !)))) refl (tt, (record { fits = lit< tt }, ((tt, tt), tt))) $
    sets_last ! (agg ! (and_then ! (get ! refl) (and_then ! (get ! refl) (no_more !)))) refl (tt, ((tt, (tt, (tt, tt))), ((record { fits = lit< tt }, ((tt, tt), tt)), tt))) $
    exec ! C Λ En (after 5 (inside (head (after 4 fn.body)))) (leaving 𝓛 (going_on 𝓛 C Λ En (after 5 fn.body) (at_ret En Post))) $
    sets_last ! (of_opd ! (get ! refl)) refl (tt, ((tt, (tt, (tt, tt))), ((record { fits = lit< tt }, ((tt, tt), tt)), tt))) $
    exec ! C Λ En (after 5 fn.body) (at_ret En Post) $
    sets ! (of_opd ! (get ! refl)) refl (tt, ((tt, (tt, (tt, tt))), ((record { fits = lit< tt }, ((tt, tt), tt)), tt))) $
    move ! (1 ∷ 0 ∷ []) $ nothing ! $ move ! (2 ∷ 0 ∷ 3 ∷ 4 ∷ 1 ∷ []) $ fjoin ! $ fpack ! Bool (λ u. fsep (fat full_share (ty_int w8) b Y (vint w8 (bit u))) (only_if u (units_at p 16))) false $
    use2 𝓛 (‵ All) (apply∗ 𝓤 (sem 𝓛 Gr) (sem 𝓛 All)) $ move ! (1 ∷ 0 ∷ []) $ obor_close ! tt $
    returns ! (look_at ! 0 refl) $ free_all ! refl $
    let w : (piece.the_row).Denot = record { ptr = p; block = b; at = X; size = 16; placed = (refl, omega arith, refl) } in
    let Shown : Type 0 = (x ≡ x) × ((b ≡ b) × (X ≡ X) × (w.size ≡ 16)) in
    let u : Val = live 1 (vcons (piece_val p) vnil) in
    move ! (2 ∷ []) $ use0 𝓛 (‵ (piece_own p (piece_val p ∷ []))) (piece_made 𝓛 p) $ fjoin ! $ use1 𝓛 (‵ (Opt.own_val (Some w) (u ∷ []))) (Some-of 𝓛 piece.the_row w (piece_val p)) $ move ! (1 ∷ []) $
    use0 𝓛 (‵ (loan_own x.bytes x.tags (loan_val x.bytes x.tags ∷ []))) (loan_made 𝓛 x.bytes x.tags) $
    rewrite ! 0 (λ (u : Ptr × Ptr). ‵ (loan_own x.bytes x.tags (loan_val u.0 u.1 ∷ []))) (λ j. (lies.0 j, lies.1 j)) refl $ fjoin ! $
    move ! (0 ∷ 1 ∷ []) $
    use2 𝓛 (‵ ((Tuple (R ∷ Opt ∷ [])).own_val (x, Some w) (pair_val v u ∷ []))) (pair_of 𝓛 R Opt x (Some w) v u) $
    keep ! (1 ∷ 3 ∷ 0 ∷ []) $ join ! $ move ! (1 ∷ 0 ∷ []) $ use0 𝓛 (raw (fact 𝓤 Shown)) (fact_i 𝓤 Shown (emp 𝓤) (refl, (refl, refl, refl))) $
    nothing ! $ nothing ! $ fjoin ! $ nothing ! $ fjoin ! $ move ! (3 ∷ 0 ∷ 2 ∷ 1 ∷ []) $
    by ! (leaves 𝓛 ended stays c z (pair_val v u) (x, Some w) (tt, (tt, tt)) (tt, (tt, tt))))))))
