-- `put` opens what is lent, and sets a tag. Assumes `Logic`.
use Rattle.vme_arena.proofs.Steps.{◌≡◌, ℕ, ◌+◌, ◌-◌, ◌*◌, ◌<◌, ◌≤◌, List, [], ◌∷◌, ◌++◌, Bool, true, refl, sym, ap, ◌∙◌, arith, lit<, w8, w64, full_share, SProp, emp, wand, apply∗, Lft, Share, Fml}
use Rattle.vme_arena.proofs.Steps.{ftrue, fat, fsep, flft, Fn, ty_int, Val, vint, vptr, Env, WpFn, fact, fact_i, tables, sem, ‵, raw, ◌⊛◌, prop, at_ret, ◌$◌, ◌∵◌, !, qed, by, move, keep, drop, use0}
use Rattle.vme_arena.proofs.Steps.{use1, use2, split, join, rewrite, regoal, fsplit, fjoin, fpick, fpack, whole, sub, agg, stop, fld, lit, bin, store, of_opd, no_more, and_then, assigns, first}
use Rattle.vme_arena.proofs.Steps.{blocks, exec, returns, enter, alloc_all, pass_all, free_all, look_at, get, get_in, through, sets, sets_last, is, env, bor_open, obor_close, RattleType, owns, Ptr}
use Rattle.vme_arena.proofs.Steps.{block_ptr, types_at, type_at, nothing, heard, Tuple, Stays, stay_dropped, walk_of, Goes-dropped, Goes-blank, after, pair_of, pair_val, proved_at, leaves}
use Rattle.vme_arena.proofs.Parts.{param}
use Rattle.vme_arena.proofs.Values.{loan_val, loan_own, loan_told, loan_made, piece_val, piece_own, piece_told, piece_made}
use Rattle.vme_arena.proofs.Homes.{reaches}
use Rattle.vme_arena.proofs.Units.{cuts}
use Rattle.vme_arena.specs.Ownership.{Spot, homes_at, granule, bit, only_if, units_at}
use Rattle.vme_arena.specs.contracts.piece.Piece as piece
use Rattle.vme_arena.specs.contracts.loan.Loan.put.{ended, clauses}
use Rattle.vme_arena.specs.contracts.loan.Loan.put.Key.{name as #self}
use Rattle.vme_arena.proofs.loan.Loan.put.Statement.{statement}
use Rattle.vme_arena.proofs.loan.Loan.put.Code as compiled

pub put_spec : {M : Type 1} → statement M
put_spec 𝓤 𝓛 𝓜 𝓡 wired =
    let fn : Fn = compiled.function in
    let ps = ended.signature.params in
    let stays : Stays ps ended.kept = (stay_dropped (param 0 ps) ended.kept.0, (stay_dropped (param 1 ps) ended.kept.1.0, (stay_dropped (param 2 ps) ended.kept.1.1.0, tt))) in
    let c = clauses 𝓛 𝓜.mem 𝓡.returns in
    let 𝓣 = tables 𝓤 𝓛.H 𝓜 𝓡 𝓡.env in
    proved_at 𝓛 ended stays c 𝓜 𝓡
    (Goes-blank 𝓛 1 (param 0 ps) ended.kept.0 (λ κs x f. tt), (Goes-dropped 𝓛 1 (param 1 ps) ended.kept.1.0 (λ κs x f. refl), (Goes-blank 𝓛 1 (param 2 ps) ended.kept.1.1.0 (λ κs x f. tt), tt)))
    #self fn (compiled.unfolded 𝓤 𝓛.H 𝓜 𝓡 wired) (λ z are.
    let Post : Val → SProp 𝓤 = (walk_of 𝓛 ended stays c).post z in
    let a = z.0.3 in let vss = z.0.4 in
    let κ : Lft = z.0.0.0 in
    let q : Share = z.0.1.0 in
    let x = a.0 in let n = x.count in
    let s : Spot = x.spot in
    let lies = x.placed in let low = lies.2 in let high = lies.3 in
    let b = s.block in
    let here : Ptr = block_ptr b s.at in
    let tags : Ptr = block_ptr b s.tag in
    let i = a.1.0 in let w = a.1.1.0 in
    let X = s.at + i * 16 in
    let Y = s.tag + i in
    let p : Ptr = block_ptr b X in
    let next : Ptr = block_ptr b (X + 16) in
    let All : Fml = homes_at s n in
    let Gr : Fml = granule b X Y in
    let v : Val = loan_val here tags in
    let R : RattleType = type_at (param 0 ps) z.0.0 in
    let Asked : Type 0 = (i < n) × (16 ≤ w.size) × (w.at ≡ X) × (w.block ≡ b) in
    qed 𝓛 (((‵ (flft κ q) ⊛ ‵ ftrue) ⊛ ‵ (owns (types_at ps z.0.0) a vss)) ∷ raw (fact 𝓤 Asked) ∷ []) ∵ move ! (1 ∷ []) $ heard ! Asked (λ asked. split ! $ split ! $
    let small = asked.0 in let full = asked.1 in let m = w.size - 16 in let sum : w.size ≡ 16 + m = omega arith in
    let at : w.ptr ≡ p = w.placed.0 ∙ (λ j. block_ptr (asked.3 j) (asked.2 j)) in
    move ! (2 ∷ []) $ fsplit ! $ fsplit ! $ drop ! $ move ! (1 ∷ []) $ fsplit ! $ drop ! $ fsplit ! $ fsplit ! $ drop ! $
    rewrite ! 0 (λ (u : Ptr × ℕ). ‵ (units_at u.0 u.1)) (λ j. (at j, sum j)) refl $ use1 𝓛 (‵ (units_at p 16) ⊛ ‵ (units_at next m)) (cuts 𝓛 b X 16 m refl) $ split ! $
    -- [the granule; the rest of the piece; nothing; the borrow; the token; nothing]
    move ! (3 ∷ 4 ∷ 0 ∷ 1 ∷ []) $ let e₂ : i + s.tag ≡ Y = omega arith in let e₃ : 16 + X ≡ X + 16 = omega arith in
    regoal ! (λ (us : List Val). prop (WpFn 𝓤 𝓛.H 𝓣.C 𝓣.Λ fn us Post)) (λ j. (loan_told x.bytes x.tags vss.0 are.0.0 ∙ (λ k. loan_val (lies.0 k) (lies.1 k) ∷ [])) j ++
    (are.1.0.0 j ++ ((piece_told w.ptr vss.1.1.0 are.1.1.0.0 ∙ ap (λ (r : Ptr). piece_val r ∷ []) at) j ++ []))) refl $
    enter ! 𝓣.C 𝓣.Λ fn (v ∷ vint w64 i ∷ piece_val p ∷ []) Post $
    alloc_all ! (λ l. pass_all ! refl ((tt, (tt, (tt, (tt, tt)))), ((tt, record { fits = are.1.0.1 }), ((tt, (tt, tt)), tt))) $ let En : Env 𝓤 𝓛.H = env fn.locals l in
    bor_open ! tt $ move ! (1 ∷ []) $ use1 𝓛 (‵ Gr ⊛ raw (wand 𝓤 (sem 𝓛 Gr) (sem 𝓛 All))) (reaches 𝓛 b i n s.at s.tag small) $ split ! $ fpick ! (λ t. fsplit ! $
    -- [the tag; what it speaks of; the way back; the open borrow; the granule; the rest of the
    -- piece]
    sets ! (of_opd ! (get_in ! (fld ! refl (stop !)) (sub ! 0 refl (whole !)))) refl (tt, tt) $
    sets ! (of_opd ! (get_in ! (fld ! refl (stop !)) (sub ! 1 refl (whole !)))) refl (tt, tt) $
    sets ! (of_opd ! (get_in ! (fld ! refl (stop !)) (sub ! 2 refl (whole !)))) refl (tt, tt) $
    sets ! (of_opd ! (get_in ! (fld ! refl (stop !)) (sub ! 0 refl (whole !)))) refl (tt, tt) $
    first ! $ blocks ! $
    sets ! (is ! (bin ! (get ! refl) (get ! refl) tt) (ap (vptr b) e₂)) refl (tt, tt) $
    assigns ! (of_opd ! (lit ! tt)) (through ! refl (stop !)) (store ! 0 refl (tt, record { fits = lit< tt })) $
    sets ! (agg ! (and_then ! (get ! refl) (and_then ! (get ! refl) (and_then ! (get ! refl) (no_more !))))) refl (tt, (tt, (tt, (tt, tt)))) $
    sets ! (is ! (bin ! (get ! refl) (lit ! tt) tt) (ap (vptr b) e₃)) refl (tt, tt) $
    sets ! (agg ! (and_then ! (get ! refl) (no_more !))) refl (tt, (tt, tt)) $
    sets_last ! (agg ! (and_then ! (get ! refl) (and_then ! (get ! refl) (no_more !)))) refl (tt, ((tt, (tt, (tt, tt))), ((tt, tt), tt))) $
    exec ! 𝓣.C 𝓣.Λ En (after 5 fn.body) (at_ret En Post) $
    sets ! (of_opd ! (get ! refl)) refl (tt, ((tt, (tt, (tt, tt))), ((tt, tt), tt))) $
    move ! (0 ∷ 4 ∷ 2 ∷ 3 ∷ 5 ∷ []) $ fjoin ! $ fpack ! Bool (λ u. fsep (fat full_share (ty_int w8) b Y (vint w8 (bit u))) (only_if u (units_at p 16))) true $
    use2 𝓛 (‵ All) (apply∗ 𝓤 (sem 𝓛 Gr) (sem 𝓛 All)) $ move ! (1 ∷ 0 ∷ []) $ obor_close ! tt $
    returns ! (look_at ! 0 refl) $ free_all ! refl $
    -- [the borrow; the token; the rest of the piece; what the tag spoke of; nothing; nothing]
    let y : (piece.the_row).Denot = record { ptr = next; block = b; at = X + 16; size = m; placed = (refl, omega (arith, asked.2, w.placed.1), omega (arith, w.placed.2)) } in
    let Shown : Type 0 = (x ≡ x) × (b ≡ w.block) × (X + 16 ≡ w.at + 16) × (m + 16 ≡ w.size) in
    use0 𝓛 (‵ (loan_own x.bytes x.tags (loan_val x.bytes x.tags ∷ []))) (loan_made 𝓛 x.bytes x.tags) $
    rewrite ! 0 (λ (u : Ptr × Ptr). ‵ (loan_own x.bytes x.tags (loan_val u.0 u.1 ∷ []))) (λ j. (lies.0 j, lies.1 j)) refl $ fjoin ! $
    move ! (2 ∷ []) $ use0 𝓛 (‵ (piece_own next (piece_val next ∷ []))) (piece_made 𝓛 next) $ fjoin ! $ move ! (1 ∷ 0 ∷ []) $
    use2 𝓛 (‵ ((Tuple (R ∷ piece.the_row ∷ [])).own_val (x, y) (pair_val v (piece_val next) ∷ []))) (pair_of 𝓛 R piece.the_row x y v (piece_val next)) $
    keep ! (1 ∷ 4 ∷ 0 ∷ []) $ join ! $ move ! (1 ∷ 0 ∷ []) $ use0 𝓛 (raw (fact 𝓤 Shown)) (fact_i 𝓤 Shown (emp 𝓤) (refl, sym asked.3, ap (λ (k : ℕ). k + 16) (sym asked.2), omega (arith, sum))) $
    nothing ! $ nothing ! $ fjoin ! $ nothing ! $ fjoin ! $ nothing ! $ fjoin ! $ move ! (3 ∷ 0 ∷ 2 ∷ 1 ∷ []) $
    by ! (leaves 𝓛 ended stays c z (pair_val v (piece_val next)) (x, y) (tt, (tt, (tt, tt))) (tt, (tt, (tt, tt))))))))
