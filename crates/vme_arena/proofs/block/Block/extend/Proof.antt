-- `extend` adds the room of the bytes after the block to the block's own. Assumes `Logic`.
use Rattle.vme_arena.proofs.Steps.{◌≡◌, ◌+◌, ◌*◌, ◌^◌, ◌<◌, ◌≤◌, List, [], ◌∷◌, ◌++◌, refl, ap, ◌∙◌, arith, w64, SProp, emp, Fn, Val, vint, size, WpFn, fact, fact_i, tables, ‵, raw, ◌⊛◌, prop, ◌$◌}
use Rattle.vme_arena.proofs.Steps.{◌∵◌, !, qed, by, move, drop, use0, use2, split, split3, rewrite, regoal, fsplit, fsplit3, fjoin, whole, sub, agg, stop, fld, of_opd, no_more, and_then, returns}
use Rattle.vme_arena.proofs.Steps.{enter, alloc_all, pass_all, free_all, look_at, get, get_in, sets, RattleType, owns, Ptr, block_ptr, types_at, nothing, heard, alive, Stays, stay_dropped, walk_of}
use Rattle.vme_arena.proofs.Steps.{Goes-blank, Goes-dropped, proved_at, leaves}
use Rattle.vme_arena.proofs.Parts.{param}
use mir.Syntax.{Args, a_type}
use mir.MapTy.{inst_fn}
use contract.BorrowLft.{◌⊑◌}
use types.Kit.{fjoin3}
use denote.Param.{param as parameter, layouts, layout}
use Rattle.std.specs.Allocator.{block_with_items}
use Rattle.core.proofs.ptr.Rows.{El}
use Rattle.vme_arena.specs.Stretch.{block_size}
use Rattle.vme_arena.specs.Ownership.{units_at, token_at}
use Rattle.vme_arena.proofs.Values.{piece_val, piece_told, block_val, block_own, block_told, block_made}
use Rattle.vme_arena.proofs.Resizes.{token_tells, block_type, extended}
use Rattle.vme_arena.specs.contracts.block.Block as block
use Rattle.vme_arena.specs.contracts.block.Block.extend.{ended, clauses}
use Rattle.vme_arena.specs.contracts.block.Block.extend.Key.{name as #self}
use Rattle.vme_arena.proofs.block.Block.extend.Statement.{statement}
use Rattle.vme_arena.proofs.block.Block.extend.Code as compiled

pub extend_spec : {M : Type 1} → statement M
extend_spec 𝓤 𝓛 𝓜 𝓡 wired T L =
    let En = ended T in
    let args : Args = layouts (a_type ∷ []) (T, tt) in
    let fn : Fn = inst_fn args compiled.function in
    let ps = En.signature.params in
    let stays : Stays ps En.kept = (stay_dropped (param 0 ps) En.kept.0, (stay_dropped (param 1 ps) En.kept.1.0, (stay_dropped (param 2 ps) En.kept.1.1.0, tt))) in
    let c = clauses T 𝓛 𝓜.mem 𝓡.returns in
    let 𝓣 = tables 𝓤 𝓛.H 𝓜 𝓡 𝓡.env in
    proved_at 𝓛 En stays c 𝓜 𝓡
    (Goes-blank 𝓛 1 (param 0 ps) En.kept.0 (λ κs x f. tt), (Goes-blank 𝓛 1 (param 1 ps) En.kept.1.0 (λ κs x f. tt), (Goes-dropped 𝓛 1 (param 2 ps) En.kept.1.1.0 (λ κs x f. refl), tt)))
    (#self args) fn (compiled.unfolded 𝓤 𝓛.H 𝓜 𝓡 wired (T, tt)) (λ z are.
    let Post : Val → SProp 𝓤 = (walk_of 𝓛 En stays c).post z in
    let a = z.0.3 in let vss = z.0.4 in
    let R : RattleType = parameter 0 T in
    let E : El = record { row = T; laws = L } in
    let s = size (layout T) in
    let x = a.0 in let y = a.1.0 in let t = x.stretch in let len = x.len in let old = x.cap in
    let new = a.1.1.0 in let xs = x.items in
    let here : Ptr = block_ptr t.block x.at in
    let rear : Ptr = block_ptr t.block (x.at + old * s) in
    let Within : Type 0 = z.0.0.0 ⊑ T.lives in
    let Beside : Type 0 = (y.block ≡ t.block) × (y.at ≡ x.at + old * s) × (block_size (old * s) ≡ old * s) in
    let Sized : Type 0 = (len ≤ old) × (old ≤ new) × (new * s < 2 ^ 63) × (old * s + y.size ≡ block_size (new * s)) in
    let Inside : Type 0 = y.at + y.size ≤ t.end in
    qed 𝓛 ((raw (alive 𝓛 En.signature z.0.0 z.0.1) ⊛ ‵ (owns (types_at ps z.0.0) a vss)) ∷ (raw (fact 𝓤 Within) ⊛ raw (fact 𝓤 Beside) ⊛ raw (fact 𝓤 Sized) ⊛ raw (fact 𝓤 Inside)) ∷ []) ∵
    move ! (1 ∷ []) $ split3 ! $ heard ! Within (λ le. heard ! Beside (λ beside. split ! $ heard ! Sized (λ sized. heard ! Inside (λ inside. split ! $ move ! (1 ∷ []) $
    let next : y.ptr ≡ rear = y.placed.0 ∙ (λ i. block_ptr (beside.0 i) (beside.1 i)) in
    let top = y.placed.1 in
    fsplit ! $ fsplit ! $ drop ! $ move ! (1 ∷ []) $ fsplit ! $ fsplit ! $ drop ! $ move ! (1 ∷ []) $ drop ! $ rewrite ! 0 (λ (p : Ptr). ‵ (units_at p y.size)) next refl $ move ! (1 ∷ []) $
    fsplit3 ! $ move ! (2 ∷ []) $ token_tells ! t x.at (block_type E old) x.ptr (λ lies. move ! (1 ∷ 2 ∷ 0 ∷ []) $ fjoin3 ! $
    rewrite ! 0 (λ (p : Ptr). ‵ (block_with_items (token_at t x.at) R p len old xs)) lies.0.0 refl $
    use2 𝓛 (‵ (block_with_items (token_at t x.at) R here len new xs))
    (extended E 𝓛 t x.at len old new y.size xs sized.0 sized.1 beside.2 sized.3 (omega (arith, beside.1, top)) (omega (arith, beside.1, inside))) $
    regoal ! (λ (us : List Val). prop (WpFn 𝓤 𝓛.H 𝓣.C 𝓣.Λ fn us Post)) (λ i. (block_told x.ptr vss.0 are.0.0 ∙ ap (λ (p : Ptr). block_val p ∷ []) lies.0.0) i ++
    ((piece_told y.ptr vss.1.0 are.1.0.0 ∙ ap (λ (p : Ptr). piece_val p ∷ []) next) i ++ (are.1.1.0.0 i ++ []))) refl $
    enter ! 𝓣.C 𝓣.Λ fn (block_val here ∷ piece_val rear ∷ vint w64 new ∷ []) Post $
    alloc_all ! (λ l. pass_all ! refl ((tt, (tt, (tt, tt))), ((tt, (tt, tt)), ((tt, record { fits = are.1.1.0.1 }), tt))) $
    sets ! (of_opd ! (get_in ! (fld ! refl (stop !)) (sub ! 0 refl (whole !)))) refl (tt, tt) $
    sets ! (of_opd ! (get_in ! (fld ! refl (stop !)) (sub ! 1 refl (whole !)))) refl (tt, tt) $
    sets ! (agg ! (and_then ! (get ! refl) (and_then ! (get ! refl) (no_more !)))) refl (tt, (tt, (tt, tt))) $
    returns ! (look_at ! 0 refl) $ free_all ! refl $
    let w : (block.the_row R).Denot = record { ptr = here; marker = record {}; stretch = t; at = x.at; len = len; cap = new; items = xs } in
    let Shown : Type 0 = (t ≡ t) × (len ≡ len) × (new ≡ new) × (xs ≡ xs) in
    use0 𝓛 (‵ (block_own here (block_val here ∷ []))) (block_made 𝓛 here) $ fjoin ! $
    use0 𝓛 (raw (fact 𝓤 Shown)) (fact_i 𝓤 Shown (emp 𝓤) (refl, refl, refl, refl)) $ nothing ! $ nothing ! $ fjoin ! $ nothing ! $ fjoin ! $ nothing ! $ fjoin ! $ move ! (3 ∷ 0 ∷ 2 ∷ 1 ∷ []) $
    by ! (leaves 𝓛 En stays c z (block_val here) w (tt, (tt, (tt, tt))) (tt, (tt, (tt, tt)))))))))))
