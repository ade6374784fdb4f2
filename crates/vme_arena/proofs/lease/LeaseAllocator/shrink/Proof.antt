-- `shrink` passes the block to `shrunk` as a value, and takes apart what is returned. Assumes
-- `Logic`.
use Rattle.vme_arena.proofs.Steps.{◌≡◌, ℕ, ◌^◌, ◌≤◌, List, [], ◌∷◌, ◌++◌, true, false, Ok, Err, refl, sym, ap, ◌∙◌, lit<, w64, SProp, emp, id⊢, Fn, Val, vint, vptr, size, Env, WpFn, fact, fact_i}
use Rattle.vme_arena.proofs.Steps.{tables, ‵, raw, ◌⊛◌, some, later, prop, at_ret, ◌$◌, ◌∵◌, !, qed, by, move, keep, drop, use0, use1, split, split3, join, pick, rewrite, regoal, fsplit, fsplit3}
use Rattle.vme_arena.proofs.Steps.{fjoin, fpick, fpack, feq_i, flt_i, await, whole, sub, agg, vrt, in_variant, stop, fld, lit, of_opd, no_more, and_then, first, switches_on, exec, returns, enter}
use Rattle.vme_arena.proofs.Steps.{alloc_all, pass_all, free_all, look_at, get, get_in, get_tag, sets, sets_last, lands_as, env, RattleType, owns, Ptr, block_ptr, ptr_val, types_at, nothing, heard}
use Rattle.vme_arena.proofs.Steps.{alive, Stays, stay_dropped, walk_of, Goes-dropped, after, head, arm_body, fm, proved_at, leaves}
use Rattle.vme_arena.proofs.Parts.{param, going_on}
use mir.Syntax.{Args, a_type}
use mir.MapTy.{inst_fn}
use contract.BorrowLft.{◌⊑◌}
use types.Kit.{fjoin3}
use denote.Param.{param as parameter, layouts, layout}
use denote.Triple.Call.{calls_at}
use denote.Triple.Spec.{triple_of}
use denote.Triple.Clauses.{Lasts, lasts}
use Rattle.std.specs.Allocator.{block_with_items, FitsBlock}
use Rattle.core.proofs.alloc.Calls.{Answer, answer_val, Answer-Ok, Answer-err}
use Rattle.core.proofs.ptr.Rows.{El}
use Rattle.vme_arena.specs.Stretch.{Stretch}
use Rattle.vme_arena.specs.Ownership.{token_at, block_token}
use Rattle.vme_arena.proofs.Values.{block_val, block_own, block_made}
use Rattle.vme_arena.proofs.Resizes.{token_tells, block_type}
use Rattle.vme_arena.proofs.Resized.{Resized, Told, resized}
use Rattle.vme_arena.specs.contracts.block.Block as block
use Rattle.vme_arena.specs.contracts.lease.Lease.shrunk as callee
use Rattle.vme_arena.proofs.lease.Lease.shrunk.Met.{met as resizes}
use Rattle.vme_arena.specs.contracts.lease.LeaseAllocator.shrink.{ended, clauses}
use Rattle.vme_arena.specs.contracts.lease.LeaseAllocator.shrink.Key.{name as #self}
use Rattle.vme_arena.proofs.lease.LeaseAllocator.shrink.Statement.{statement}
use Rattle.vme_arena.proofs.lease.LeaseAllocator.shrink.Code as compiled

pub shrink_spec : {M : Type 1} → statement M
shrink_spec 𝓤 𝓛 𝓜 𝓡 wired T L =
    let En = ended T in
    let args : Args = layouts (a_type ∷ []) (T, tt) in
    let fn : Fn = inst_fn args compiled.function in
    let ps = En.signature.params in
    let stays : Stays ps En.kept = (
      stay_dropped (param 0 ps) En.kept.0,
      (stay_dropped (param 1 ps) En.kept.1.0, (stay_dropped (param 2 ps) En.kept.1.1.0, (stay_dropped (param 3 ps) En.kept.1.1.1.0, (stay_dropped (param 4 ps) En.kept.1.1.1.1.0, tt)))),
    ) in
    let c = clauses T 𝓛 𝓜.mem 𝓡.returns in
    let 𝓣 = tables 𝓤 𝓛.H 𝓜 𝓡 𝓡.env in
    let C = 𝓣.C in let Λ = 𝓣.Λ in
    proved_at 𝓛 En stays c 𝓜 𝓡 (
      Goes-dropped 𝓛 3 (param 0 ps) En.kept.0 (λ κs x f. refl),
      (
        Goes-dropped 𝓛 3 (param 1 ps) En.kept.1.0 (λ κs x f. refl),
        (
          Goes-dropped 𝓛 3 (param 2 ps) En.kept.1.1.0 (λ κs x f. refl),
          (Goes-dropped 𝓛 3 (param 3 ps) En.kept.1.1.1.0 (λ κs x f. refl), (Goes-dropped 𝓛 3 (param 4 ps) En.kept.1.1.1.1.0 (λ κs x f. refl), tt)),
        ),
      ),
    ) (#self args) fn (compiled.unfolded 𝓤 𝓛.H 𝓜 𝓡 wired (T, tt)) (λ z are.
    let Post : Val → SProp 𝓤 = (walk_of 𝓛 En stays c).post z in
    let a = z.0.3 in let vss = z.0.4 in
    let t : Stretch = a.0.now.slot in
    let R : RattleType = parameter 1 T in
    let E : El = record { row = T; laws = L } in
    let s = size (layout T) in
    let from = a.1.0 in let len = a.1.1.0 in let old = a.1.1.1.0 in let new = a.1.1.1.1.0 in let xs = z.1 in
    let me : Val = vptr a.0.ref_ptr.0 a.0.ref_ptr.1 in
    let Within : Type 0 = z.0.0.1.1.0 ⊑ T.lives in
    let k = triple_of 𝓛 (callee.signature T) (callee.spec T 𝓛 𝓜.mem 𝓡.returns) in
    let Asked : Type 0 = (len ≤ new) × (new ≤ old) × FitsBlock R old in
    qed 𝓛 ((raw (alive 𝓛 En.signature z.0.0 z.0.1) ⊛ ‵ (owns (types_at ps z.0.0) a vss)) ∷ (raw (fact 𝓤 Within) ⊛ raw (fact 𝓤 Asked) ⊛ ‵ (block_with_items (block_token t) R from len old xs)) ∷ []) ∵
    move ! (1 ∷ []) $ split3 ! $ heard ! Within (λ le. heard ! Asked (λ asked. fsplit3 ! $ move ! (2 ∷ []) $ fpick ! (λ at. token_tells ! t at (block_type E old) from (λ lies.
    let p : Ptr = block_ptr t.block at in move ! (1 ∷ 2 ∷ 0 ∷ []) $ fjoin3 ! $ rewrite ! 0 (λ (r : Ptr). ‵ (block_with_items (token_at t at) R r len old xs)) lies.0.0 refl $
    let x : (block.the_row R).Denot = record { ptr = p; marker = record {}; stretch = t; at = at; len = len; cap = old; items = xs } in
    let y : k.Ghost = ((z.0.0, z.0.1, z.0.2, (a.0, (x, (len, (old, (new, tt))))), (me ∷ [], (block_val p ∷ [], (vint w64 len ∷ [], (vint w64 old ∷ [], (vint w64 new ∷ [], tt)))))), tt) in
    let Held : Type 0 = (t ≡ t) × (len ≡ len) × (old ≡ old) in
    use0 𝓛 (‵ (block_own p (block_val p ∷ []))) (block_made 𝓛 p) $ fjoin ! $
    nothing ! $ flt_i ! new (2 ^ 64) are.1.1.1.1.0.1 $ feq_i ! (List Val) (vint w64 new ∷ []) (vint w64 new ∷ []) refl $ fjoin ! $ fjoin ! $
    flt_i ! old (2 ^ 64) are.1.1.1.0.1 $ feq_i ! (List Val) (vint w64 old ∷ []) (vint w64 old ∷ []) refl $ fjoin ! $ fjoin ! $
    flt_i ! len (2 ^ 64) are.1.1.0.1 $ feq_i ! (List Val) (vint w64 len ∷ []) (vint w64 len ∷ []) refl $ fjoin ! $ fjoin ! $ move ! (1 ∷ 0 ∷ []) $ fjoin ! $
    move ! (1 ∷ []) $ split ! $ move ! (1 ∷ []) $ fsplit ! $ fsplit ! $ keep ! (1 ∷ 4 ∷ 3 ∷ []) $ feq_i ! (List Val) (me ∷ []) (me ∷ []) refl $ fjoin ! $ fjoin ! $ move ! (1 ∷ 0 ∷ []) $ join ! $
    use0 𝓛 (raw (fact 𝓤 Asked)) (fact_i 𝓤 Asked (emp 𝓤) asked) $ use0 𝓛 (raw (fact 𝓤 Held)) (fact_i 𝓤 Held (emp 𝓤) (refl, refl, refl)) $
    join ! $ use0 𝓛 (raw (fact 𝓤 Within)) (fact_i 𝓤 Within (emp 𝓤) le) $ join ! $ move ! (1 ∷ 0 ∷ []) $ join ! $ use1 𝓛 (raw (k.pre y)) (id⊢ 𝓤 _) $
    regoal ! (λ (us : List Val). prop (WpFn 𝓤 𝓛.H C Λ fn us Post))
    (λ i. are.0.0 i ++ ((are.1.0 ∙ ap (λ (r : Ptr). ptr_val r ∷ []) lies.0.0) i ++ (are.1.1.0.0 i ++ (are.1.1.1.0.0 i ++ (are.1.1.1.1.0.0 i ++ []))))) refl $
    enter ! C Λ fn (me ∷ vptr t.block at ∷ vint w64 len ∷ vint w64 old ∷ vint w64 new ∷ []) Post $
    alloc_all ! (λ l. pass_all ! refl ((tt, tt), ((tt, tt), ((tt, record { fits = are.1.1.0.1 }), ((tt, record { fits = are.1.1.1.0.1 }), ((tt, record { fits = are.1.1.1.1.0.1 }), tt))))) $
    let here : Env 𝓤 𝓛.H = env fn.locals l in
    sets ! (agg ! (no_more !)) refl (tt, tt) $
    sets ! (agg ! (and_then ! (get ! refl) (and_then ! (get ! refl) (no_more !)))) refl (tt, (tt, (tt, tt))) $
    calls_at ! (fm 𝓛 𝓜 𝓡) k (resizes 𝓤 𝓛 𝓜 𝓡 (compiled.calls-vme_arena::lease::Lease::shrunk 𝓡.env wired) T L) y
    (and_then ! (get ! refl) (and_then ! (get ! refl) (and_then ! (get ! refl) (and_then ! (get ! refl) (and_then ! (get ! refl) (no_more !)))))) (λ v.
    use1 𝓛 (later (some (λ (r : (Resized R).Denot). (raw (alive 𝓛 En.signature z.0.0 z.0.1) ⊛ ‵ ((Resized R).own_val r (v ∷ []))) ⊛ some
    (λ (ls : Lasts (callee.ended T) z.0.0 y.0.3). ‵ (lasts (callee.ended T) z.0.0 y.0.3 ls) ⊛ raw (fact 𝓤 (Told R x len new r)))))) (id⊢ 𝓤 (k.post y v)) $
    await ! tt $ pick ! (λ r. split ! $ move ! (1 ∷ []) $ pick ! (λ _. split ! $ drop ! $ heard ! (Told R x len new r) (λ said. split ! $ move ! (1 ∷ []) $
    resized R ! x len new r v said
    (λ at' b o is. let to : Ptr = block_ptr b o in fsplit3 ! $ move ! (2 ∷ []) $ fpack ! ℕ (λ j. token_at t j
    (block_type E new) to) at' $ move ! (1 ∷ 2 ∷ 0 ∷ []) $ fjoin3 ! $ lands_as ! is refl (tt, (record { fits = lit< tt }, ((tt, (tt, tt)), tt))) $
    first ! $ switches_on ! (get_tag ! (vrt ! refl (fld ! refl (stop !))) (whole !)) $
    exec ! C Λ here (arm_body 0 (head (after 3 fn.body))) (going_on 𝓛 C Λ here (after 4 fn.body) (at_ret here Post)) $
    sets ! (of_opd ! (get_in ! (vrt ! refl (fld ! refl (fld ! refl (stop !)))) (sub ! 0 refl (in_variant ! 0 0 refl refl (whole !))))) refl (tt, tt) $
    sets_last ! (agg ! (and_then ! (lit ! tt) (and_then ! (get ! refl) (no_more !)))) refl (tt, (record { fits = lit< tt }, (tt, tt))) $
    exec ! C Λ here (after 4 fn.body) (at_ret here Post) $
    sets ! (of_opd ! (get ! refl)) refl (tt, (record { fits = lit< tt }, (tt, tt))) $
    returns ! (look_at ! 0 refl) $ free_all ! refl $
    use0 𝓛 (‵ (Answer.own_val (Ok to) (answer_val true b o ∷ []))) (Answer-Ok 𝓛 b o) $ nothing ! $ nothing ! $ fjoin ! $
    nothing ! $ fjoin ! $ nothing ! $ fjoin ! $ nothing ! $ fjoin ! $ nothing ! $ fjoin ! $ move ! (3 ∷ 0 ∷ 1 ∷ 2 ∷ []) $
    by ! (leaves 𝓛 En stays c z (answer_val true b o) (Ok to) (tt, (tt, (tt, (tt, (tt, tt))))) (tt, (tt, (tt, (tt, (tt, tt)))))))
    (λ is. fsplit3 ! $ move ! (2 ∷ []) $ fpack ! ℕ (λ j. token_at t j (block_type E old) p) at $ move ! (1 ∷ 2 ∷ 0 ∷ []) $ fjoin3 ! $
    rewrite ! 0 (λ (u : Ptr). ‵ (block_with_items (block_token t) R u len old xs)) (sym lies.0.0) refl $ lands_as ! is refl (tt, (record { fits = lit< tt }, ((tt, (tt, tt)), tt))) $
    first ! $ switches_on ! (get_tag ! (vrt ! refl (fld ! refl (stop !))) (whole !)) $
    exec ! C Λ here (arm_body 1 (head (after 3 fn.body))) (going_on 𝓛 C Λ here (after 4 fn.body) (at_ret here Post)) $
    sets ! (agg ! (no_more !)) refl (tt, tt) $
    sets_last ! (agg ! (and_then ! (lit ! tt) (and_then ! (get ! refl) (no_more !)))) refl (tt, (record { fits = lit< tt }, (tt, tt))) $
    exec ! C Λ here (after 4 fn.body) (at_ret here Post) $
    sets ! (of_opd ! (get ! refl)) refl (tt, (record { fits = lit< tt }, (tt, tt))) $
    returns ! (look_at ! 0 refl) $ free_all ! refl $
    use0 𝓛 (‵ (Answer.own_val (Err (record {})) (answer_val false 0 0 ∷ []))) (Answer-err 𝓛) $ nothing ! $ nothing ! $
    fjoin ! $ nothing ! $ fjoin ! $ nothing ! $ fjoin ! $ nothing ! $ fjoin ! $ nothing ! $ fjoin ! $ move ! (3 ∷ 0 ∷ 1 ∷ 2 ∷ []) $
    by ! (leaves 𝓛 En stays c z (answer_val false 0 0) (Err (record {})) (tt, (tt, (tt, (tt, (tt, tt))))) (tt, (tt, (tt, (tt, (tt, tt)))))))))))))))))
