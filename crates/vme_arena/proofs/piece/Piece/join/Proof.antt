-- `join` joins the room of the two. Assumes `Logic`.
use Rattle.vme_arena.proofs.Steps.{◌≡◌, ◌+◌, List, [], ◌∷◌, ◌++◌, refl, sym, ap, ◌∙◌, arith, SProp, emp, Fn, Val, WpFn, fact, fact_i, tables, ‵, raw, ◌⊛◌, prop, ◌$◌, ◌∵◌, !, qed, by, move, drop}
use Rattle.vme_arena.proofs.Steps.{use0, use2, split, rewrite, regoal, fsplit, fjoin, whole, sub, agg, stop, fld, of_opd, no_more, and_then, returns, enter, alloc_all, pass_all, free_all, look_at}
use Rattle.vme_arena.proofs.Steps.{get, get_in, sets, owns, Ptr, block_ptr, types_at, nothing, heard, alive, Stays, stay_dropped, walk_of, Goes-blank, proved_at, leaves}
use Rattle.vme_arena.proofs.Parts.{param}
use Rattle.vme_arena.proofs.Values.{piece_val, piece_own, piece_told, piece_made}
use Rattle.vme_arena.proofs.Units.{glues}
use Rattle.vme_arena.specs.Ownership.{units_at}
use Rattle.vme_arena.specs.contracts.piece.Piece as piece
use Rattle.vme_arena.specs.contracts.piece.Piece.join.{ended, clauses}
use Rattle.vme_arena.specs.contracts.piece.Piece.join.Key.{name as #self}
use Rattle.vme_arena.proofs.piece.Piece.join.Statement.{statement}
use Rattle.vme_arena.proofs.piece.Piece.join.Code as compiled

pub join_spec : {M : Type 1} → statement M
join_spec 𝓤 𝓛 𝓜 𝓡 wired =
    let fn : Fn = compiled.function in
    let ps = ended.signature.params in
    let stays : Stays ps ended.kept = (stay_dropped (param 0 ps) ended.kept.0, (stay_dropped (param 1 ps) ended.kept.1.0, tt)) in
    let c = clauses 𝓛 𝓜.mem 𝓡.returns in
    let 𝓣 = tables 𝓤 𝓛.H 𝓜 𝓡 𝓡.env in
    proved_at 𝓛 ended stays c 𝓜 𝓡 (Goes-blank 𝓛 0 (param 0 ps) ended.kept.0 (λ κs x f. tt), (Goes-blank 𝓛 0 (param 1 ps) ended.kept.1.0 (λ κs x f. tt), tt)) #self fn
    (compiled.unfolded 𝓤 𝓛.H 𝓜 𝓡 wired) (λ z are.
    let Post : Val → SProp 𝓤 = (walk_of 𝓛 ended stays c).post z in
    let a = z.0.3 in let vss = z.0.4 in let x = a.0 in let y = a.1.0 in let b = x.block in
    let here : Ptr = block_ptr b x.at in
    let low = x.placed in let high = y.placed in
    let Asked : Type 0 = (b ≡ y.block) × (x.at + x.size ≡ y.at) in
    qed 𝓛 ((raw (alive 𝓛 ended.signature z.0.0 z.0.1) ⊛ ‵ (owns (types_at ps z.0.0) a vss)) ∷ raw (fact 𝓤 Asked) ∷ []) ∵ move ! (1 ∷ []) $ heard ! Asked (λ asked. split ! $ move ! (1 ∷ []) $
    let next : y.ptr ≡ block_ptr b (x.at + x.size) = high.0 ∙ (λ i. block_ptr (sym asked.0 i) (sym asked.1 i)) in
    fsplit ! $ fsplit ! $ drop ! $ move ! (1 ∷ []) $ fsplit ! $ fsplit ! $ drop ! $ move ! (1 ∷ []) $ drop ! $
    rewrite ! 0 (λ (p : Ptr). ‵ (units_at p y.size)) next refl $ move ! (1 ∷ []) $ rewrite ! 0 (λ (p : Ptr). ‵ (units_at p x.size)) low.0 refl $
    use2 𝓛 (‵ (units_at here (x.size + y.size))) (glues 𝓛 b x.at x.size y.size low.2) $
    regoal ! (λ (us : List Val). prop (WpFn 𝓤 𝓛.H 𝓣.C 𝓣.Λ fn us Post))
    (λ i. (piece_told x.ptr vss.0 are.0.0 ∙ ap (λ (p : Ptr). piece_val p ∷ []) low.0) i ++ ((piece_told y.ptr vss.1.0 are.1.0.0 ∙ ap (λ (p : Ptr). piece_val p ∷ []) next) i ++ [])) refl $
    enter ! 𝓣.C 𝓣.Λ fn (piece_val here ∷ piece_val (block_ptr b (x.at + x.size)) ∷ []) Post $
    alloc_all ! (λ l. pass_all ! refl ((tt, (tt, tt)), ((tt, (tt, tt)), tt)) $
    sets ! (of_opd ! (get_in ! (fld ! refl (stop !)) (sub ! 0 refl (whole !)))) refl (tt, tt) $
    sets ! (agg ! (and_then ! (get ! refl) (no_more !))) refl (tt, (tt, tt)) $
    returns ! (look_at ! 0 refl) $ free_all ! refl $
    let w : (piece.the_row).Denot = record { ptr = here; block = b; at = x.at; size = x.size + y.size; placed = (refl, omega (arith, asked.1, high.1), omega (arith, low.2, high.2)) } in
    let Shown : Type 0 = (b ≡ b) × (x.at ≡ x.at) × (w.size ≡ x.size + y.size) in
    use0 𝓛 (‵ (piece_own here (piece_val here ∷ []))) (piece_made 𝓛 here) $ fjoin ! $
    use0 𝓛 (raw (fact 𝓤 Shown)) (fact_i 𝓤 Shown (emp 𝓤) (refl, refl, refl)) $ nothing ! $ nothing ! $ fjoin ! $ nothing ! $ fjoin ! $ move ! (3 ∷ 0 ∷ 2 ∷ 1 ∷ []) $
    by ! (leaves 𝓛 ended stays c z (piece_val here) w (tt, (tt, tt)) (tt, (tt, tt))))))
