-- `allocate` gives a piece out as room for the requested type, with the way back as the token.
-- Assumes `Logic`.
use Rattle.vme_arena.proofs.Steps.{◌≡◌, List, [], ◌∷◌, ◌++◌, true, false, Ok, Err, refl, subst, lit<, w64, SProp, ent, id⊢, froom, Ty, Fn, Val, vint, vptr, size, align, capped, Env, WpFn, fact}
use Rattle.vme_arena.proofs.Steps.{tables, ‵, raw, ◌⊛◌, some, later, prop, at_ret, ◌$◌, ◌∵◌, !, qed, by, move, drop, use0, use1, split, join, pick, regoal, fjoin, await, whole, sub, agg, vrt}
use Rattle.vme_arena.proofs.Steps.{in_variant, stop, fld, lit, of_opd, no_more, and_then, first, switches_on, exec, returns, enter, alloc_all, pass_all, free_all, look_at, get, get_in, get_tag}
use Rattle.vme_arena.proofs.Steps.{sets, sets_last, lands_as, env, owns, Ptr, block_ptr, types_at, nothing, heard, alive, Stays, stay_dropped, walk_of, Goes-dropped, after, head, arm_body, fm}
use Rattle.vme_arena.proofs.Steps.{proved_at, leaves}
use Rattle.vme_arena.proofs.Parts.{param, going_on}
use denote.Triple.Call.{calls_from}
use denote.Triple.Spec.{triple_of}
use denote.Triple.Clauses.{Lasts, lasts}
use Rattle.core.proofs.alloc.Calls.{Answer, answer_val, Answer-Ok, Answer-err}
use Rattle.vme_arena.specs.Stretch.{Stretch}
use Rattle.vme_arena.specs.Ownership.{block_token}
use Rattle.vme_arena.proofs.Blocks.{Answered, Told, answered, hands_out}
use Rattle.vme_arena.specs.contracts.lease.Lease.take as callee
use Rattle.vme_arena.specs.contracts.lease.Lease.take.Key as take_key
use Rattle.vme_arena.proofs.lease.Lease.take.Met.{met as takes}
use Rattle.vme_arena.specs.contracts.lease.LeaseAllocator.allocate.{ended, clauses}
use Rattle.vme_arena.specs.contracts.lease.LeaseAllocator.allocate.Key.{name as #self}
use Rattle.vme_arena.proofs.lease.LeaseAllocator.allocate.Statement.{statement}
use Rattle.vme_arena.proofs.lease.LeaseAllocator.allocate.Code as compiled

pub allocate_spec : {M : Type 1} → statement M
allocate_spec 𝓤 𝓛 𝓜 𝓡 wired =
    let fn : Fn = compiled.function in
    let ps = ended.signature.params in
    let stays : Stays ps ended.kept = (stay_dropped (param 0 ps) ended.kept.0, (stay_dropped (param 1 ps) ended.kept.1.0, (stay_dropped (param 2 ps) ended.kept.1.1.0, tt))) in
    let c = clauses 𝓛 𝓜.mem 𝓡.returns in
    let 𝓣 = tables 𝓤 𝓛.H 𝓜 𝓡 𝓡.env in
    let C = 𝓣.C in let Λ = 𝓣.Λ in
    proved_at 𝓛 ended stays c 𝓜 𝓡 (
      Goes-dropped 𝓛 2 (param 0 ps) ended.kept.0 (λ κs x f. refl),
      (Goes-dropped 𝓛 2 (param 1 ps) ended.kept.1.0 (λ κs x f. refl), (Goes-dropped 𝓛 2 (param 2 ps) ended.kept.1.1.0 (λ κs x f. refl), tt)),
    ) #self fn (compiled.unfolded 𝓤 𝓛.H 𝓜 𝓡 wired) (λ z are.
    let Post : Val → SProp 𝓤 = (walk_of 𝓛 ended stays c).post z in
    let a = z.0.3 in let vss = z.0.4 in
    let s : Stretch = a.0.now.slot in
    let τ : Ty = z.1 in
    let n = a.1.0 in let al = a.1.1.0 in
    let k = triple_of 𝓛 callee.signature (callee.spec 𝓛 𝓜.mem 𝓡.returns) in
    let vs : List Val = vptr a.0.ref_ptr.0 a.0.ref_ptr.1 ∷ vint w64 n ∷ vint w64 al ∷ [] in
    let y : k.Ghost = ((z.0.0, z.0.1, z.0.2, a, vss), tt) in
    let told : k.args y ≡ vs = λ i. are.0.0 i ++ (are.1.0.0 i ++ (are.1.1.0.0 i ++ [])) in
    let Asked : Type 0 = (capped (size τ) ≡ n) × (capped (align τ) ≡ al) in
    qed 𝓛 ((raw (alive 𝓛 ended.signature z.0.0 z.0.1) ⊛ ‵ (owns (types_at ps z.0.0) a vss)) ∷ raw (fact 𝓤 Asked) ∷ []) ∵ move ! (1 ∷ []) $ heard ! Asked (λ asked. split ! $ move ! (1 ∷ []) $
    move ! (1 ∷ 0 ∷ []) $ join ! $ nothing ! $ move ! (1 ∷ 0 ∷ []) $ join ! $ use1 𝓛 (raw (k.pre y)) (id⊢ 𝓤 _) $
    regoal ! (λ (us : List Val). prop (WpFn 𝓤 𝓛.H C Λ fn us Post)) told refl $
    enter ! C Λ fn vs Post $
    alloc_all ! (λ l. pass_all ! refl ((tt, tt), ((tt, record { fits = are.1.0.1 }), ((tt, record { fits = are.1.1.0.1 }), tt))) $ let En : Env 𝓤 𝓛.H = env fn.locals l in
    calls_from ! (fm 𝓛 𝓜 𝓡) (raw (k.pre y)) vs (k.post y) (subst (λ (us : List Val). ent 𝓤 (k.pre y) (C take_key.name us (k.post y))) told
    (takes 𝓤 𝓛 𝓜 𝓡 (compiled.calls-vme_arena::lease::Lease::take 𝓡.env wired) y)) (and_then ! (get ! refl) (and_then ! (get ! refl) (and_then ! (get ! refl) (no_more !)))) (λ v.
    use1 𝓛 (later (some (λ (x : Answered.Denot). (raw (alive 𝓛 ended.signature z.0.0 z.0.1) ⊛ ‵ (Answered.own_val x (v ∷ []))) ⊛ some
    (λ (ls : Lasts callee.ended z.0.0 a). ‵ (lasts callee.ended z.0.0 a ls) ⊛ raw (fact 𝓤 (Told s n al x)))))) (id⊢ 𝓤 (k.post y v)) $
    await ! tt $ pick ! (λ x. split ! $ move ! (1 ∷ []) $ pick ! (λ _. split ! $ drop ! $ heard ! (Told s n al x) (λ said. split ! $ move ! (1 ∷ []) $
    answered ! s n al x v said
    (λ at lies small slim e. let p : Ptr = block_ptr s.block at in
    use1 𝓛 (‵ (froom τ s.block at) ⊛ ‵ (block_token s τ p)) (hands_out 𝓛 s τ at n asked.0 lies small) $ lands_as ! e refl (tt, (record { fits = lit< tt }, ((tt, tt), tt))) $
    first ! $ switches_on ! (get_tag ! (vrt ! refl (fld ! refl (stop !))) (whole !)) $ exec ! C Λ En (arm_body 0 (head (after 1 fn.body))) (going_on 𝓛 C Λ En (after 2 fn.body) (at_ret En Post)) $
    sets ! (of_opd ! (get_in ! (vrt ! refl (fld ! refl (fld ! refl (stop !)))) (sub ! 0 refl (in_variant ! 1 0 refl refl (whole !))))) refl (tt, tt) $
    sets_last ! (agg ! (and_then ! (lit ! tt) (and_then ! (get ! refl) (no_more !)))) refl (tt, (record { fits = lit< tt }, (tt, tt))) $
    exec ! C Λ En (after 2 fn.body) (at_ret En Post) $
    sets ! (of_opd ! (get ! refl)) refl (tt, (record { fits = lit< tt }, (tt, tt))) $
    returns ! (look_at ! 0 refl) $ free_all ! refl $
    use0 𝓛 (‵ (Answer.own_val (Ok p) (answer_val true s.block at ∷ []))) (Answer-Ok 𝓛 s.block at) $
    nothing ! $ nothing ! $ fjoin ! $ nothing ! $ fjoin ! $ nothing ! $ fjoin ! $ move ! (3 ∷ 0 ∷ 1 ∷ 2 ∷ []) $
    by ! (leaves 𝓛 ended stays c z (answer_val true s.block at) (Ok p) (tt, (tt, (tt, tt))) (tt, (tt, (tt, tt)))))
    (λ e. nothing ! $ lands_as ! e refl (tt, (record { fits = lit< tt }, tt)) $
    first ! $ switches_on ! (get_tag ! (vrt ! refl (fld ! refl (stop !))) (whole !)) $ exec ! C Λ En (arm_body 1 (head (after 1 fn.body))) (going_on 𝓛 C Λ En (after 2 fn.body) (at_ret En Post)) $
    sets ! (agg ! (no_more !)) refl (tt, tt) $
    sets_last ! (agg ! (and_then ! (lit ! tt) (and_then ! (get ! refl) (no_more !)))) refl (tt, (record { fits = lit< tt }, (tt, tt))) $
    exec ! C Λ En (after 2 fn.body) (at_ret En Post) $
    sets ! (of_opd ! (get ! refl)) refl (tt, (record { fits = lit< tt }, (tt, tt))) $
    returns ! (look_at ! 0 refl) $ free_all ! refl $
    use0 𝓛 (‵ (Answer.own_val (Err (record {})) (answer_val false 0 0 ∷ []))) (Answer-err 𝓛) $ nothing ! $
    nothing ! $ fjoin ! $ nothing ! $ fjoin ! $ nothing ! $ fjoin ! $ move ! (3 ∷ 0 ∷ 1 ∷ 2 ∷ []) $
    by ! (leaves 𝓛 ended stays c z (answer_val false 0 0) (Err (record {})) (tt, (tt, (tt, tt))) (tt, (tt, (tt, tt))))))))))))
