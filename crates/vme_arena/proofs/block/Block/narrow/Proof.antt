-- `narrow` lets the way back hold the places that the block no longer counts. Assumes `Logic`.
use Rattle.vme_arena.proofs.Steps.{◌≡◌, ◌*◌, ◌≤◌, List, [], ◌∷◌, ◌++◌, refl, ap, ◌∙◌, w64, SProp, emp, Fn, Val, vint, size, WpFn, fact, fact_i, tables, ‵, raw, ◌⊛◌, prop, ◌$◌, ◌∵◌, !, qed, by, move}
use Rattle.vme_arena.proofs.Steps.{drop, use0, use1, split, rewrite, regoal, fsplit, fsplit3, fjoin, whole, sub, agg, stop, fld, of_opd, no_more, and_then, returns, enter, alloc_all, pass_all}
use Rattle.vme_arena.proofs.Steps.{free_all, look_at, get, get_in, sets, RattleType, owns, Ptr, block_ptr, types_at, nothing, heard, alive, Stays, stay_dropped, walk_of, Goes-blank, Goes-dropped}
use Rattle.vme_arena.proofs.Steps.{proved_at, leaves}
use Rattle.vme_arena.proofs.Parts.{param}
use mir.Syntax.{Args, a_type}
use mir.MapTy.{inst_fn}
use contract.BorrowLft.{◌⊑◌}
use types.Kit.{fjoin3}
use denote.Param.{param as parameter, layouts, layout}
use Rattle.std.specs.Allocator.{block_with_items}
use Rattle.core.proofs.ptr.Rows.{El}
use Rattle.vme_arena.specs.Stretch.{block_size}
use Rattle.vme_arena.specs.Ownership.{token_at}
use Rattle.vme_arena.proofs.Values.{block_val, block_own, block_told, block_made}
use Rattle.vme_arena.proofs.Resizes.{token_tells, block_type, narrowed}
use Rattle.vme_arena.specs.contracts.block.Block as block
use Rattle.vme_arena.specs.contracts.block.Block.narrow.{ended, clauses}
use Rattle.vme_arena.specs.contracts.block.Block.narrow.Key.{name as #self}
use Rattle.vme_arena.proofs.block.Block.narrow.Statement.{statement}
use Rattle.vme_arena.proofs.block.Block.narrow.Code as compiled

pub narrow_spec : {M : Type 1} → statement M
narrow_spec 𝓤 𝓛 𝓜 𝓡 wired T L =
    let En = ended T in
    let args : Args = layouts (a_type ∷ []) (T, tt) in
    let fn : Fn = inst_fn args compiled.function in
    let ps = En.signature.params in
    let stays : Stays ps En.kept = (stay_dropped (param 0 ps) En.kept.0, (stay_dropped (param 1 ps) En.kept.1.0, tt)) in
    let c = clauses T 𝓛 𝓜.mem 𝓡.returns in
    let 𝓣 = tables 𝓤 𝓛.H 𝓜 𝓡 𝓡.env in
    proved_at 𝓛 En stays c 𝓜 𝓡 (Goes-blank 𝓛 1 (param 0 ps) En.kept.0 (λ κs x f. tt), (Goes-dropped 𝓛 1 (param 1 ps) En.kept.1.0 (λ κs x f. refl), tt))
    (#self args) fn (compiled.unfolded 𝓤 𝓛.H 𝓜 𝓡 wired (T, tt)) (λ z are.
    let Post : Val → SProp 𝓤 = (walk_of 𝓛 En stays c).post z in
    let a = z.0.3 in let vss = z.0.4 in
    let R : RattleType = parameter 0 T in
    let E : El = record { row = T; laws = L } in
    let s = size (layout T) in
    let x = a.0 in let t = x.stretch in let len = x.len in let old = x.cap in let new = a.1.0 in
    let xs = x.items in
    let here : Ptr = block_ptr t.block x.at in
    let Within : Type 0 = z.0.0.0 ⊑ T.lives in
    let Asked : Type 0 = (len ≤ new) × (new ≤ old) × (block_size (new * s) ≡ block_size (old * s)) in
    qed 𝓛 ((raw (alive 𝓛 En.signature z.0.0 z.0.1) ⊛ ‵ (owns (types_at ps z.0.0) a vss)) ∷ (raw (fact 𝓤 Within) ⊛ raw (fact 𝓤 Asked)) ∷ []) ∵
    move ! (1 ∷ []) $ split ! $ heard ! Within (λ le. heard ! Asked (λ asked. split ! $ move ! (1 ∷ []) $ fsplit ! $ fsplit ! $ drop ! $ move ! (1 ∷ []) $ drop ! $
    fsplit3 ! $ move ! (2 ∷ []) $ token_tells ! t x.at (block_type E old) x.ptr (λ lies. move ! (1 ∷ 2 ∷ 0 ∷ []) $ fjoin3 ! $
    rewrite ! 0 (λ (p : Ptr). ‵ (block_with_items (token_at t x.at) R p len old xs)) lies.0.0 refl $
    use1 𝓛 (‵ (block_with_items (token_at t x.at) R here len new xs)) (narrowed E 𝓛 t x.at len old new xs asked.0 asked.1 asked.2) $
    regoal ! (λ (us : List Val). prop (WpFn 𝓤 𝓛.H 𝓣.C 𝓣.Λ fn us Post)) (λ i. (block_told x.ptr vss.0 are.0.0 ∙ ap (λ (p : Ptr). block_val p ∷ []) lies.0.0) i ++ (are.1.0.0 i ++ [])) refl $
    enter ! 𝓣.C 𝓣.Λ fn (block_val here ∷ vint w64 new ∷ []) Post $
    alloc_all ! (λ l. pass_all ! refl ((tt, (tt, (tt, tt))), ((tt, record { fits = are.1.0.1 }), tt)) $
    sets ! (of_opd ! (get_in ! (fld ! refl (stop !)) (sub ! 0 refl (whole !)))) refl (tt, tt) $
    sets ! (of_opd ! (get_in ! (fld ! refl (stop !)) (sub ! 1 refl (whole !)))) refl (tt, tt) $
    sets ! (agg ! (and_then ! (get ! refl) (and_then ! (get ! refl) (no_more !)))) refl (tt, (tt, (tt, tt))) $
    returns ! (look_at ! 0 refl) $ free_all ! refl $
    let w : (block.the_row R).Denot = record { ptr = here; marker = record {}; stretch = t; at = x.at; len = len; cap = new; items = xs } in
    let Shown : Type 0 = (t ≡ t) × (len ≡ len) × (new ≡ new) × (xs ≡ xs) in
    use0 𝓛 (‵ (block_own here (block_val here ∷ []))) (block_made 𝓛 here) $ fjoin ! $
    use0 𝓛 (raw (fact 𝓤 Shown)) (fact_i 𝓤 Shown (emp 𝓤) (refl, refl, refl, refl)) $ nothing ! $ nothing ! $ fjoin ! $ nothing ! $ fjoin ! $ move ! (3 ∷ 0 ∷ 2 ∷ 1 ∷ []) $
    by ! (leaves 𝓛 En stays c z (block_val here) w (tt, (tt, tt)) (tt, (tt, tt))))))))
