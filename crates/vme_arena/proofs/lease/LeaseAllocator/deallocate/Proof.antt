-- `deallocate` makes the room a piece again, and gives it to the lease. Assumes `Logic`.
use Rattle.vme_arena.proofs.Steps.{◌≡◌, ℕ, ◌+◌, ◌%◌, ◌^◌, ◌<◌, ◌≤◌, List, [], ◌∷◌, ◌++◌, refl, sym, ap, ◌∙◌, arith, w64, SProp, emp, id⊢, apply∗, ftrue, Ty, Fn, Val, vint, vptr, vunit, size, align}
use Rattle.vme_arena.proofs.Steps.{capped, capped_is, Env, WpFn, fact, fact_i, tables, sem, ‵, raw, ◌⊛◌, some, later, prop, ◌$◌, ◌∵◌, !, qed, by, move, keep, drop, use0, use1, use2, split, split3}
use Rattle.vme_arena.proofs.Steps.{join, pick, rewrite, regoal, fsplit, fjoin, fpick, feq_i, feq_l, flt_i, await, agg, unit_lit, of_opd, no_more, and_then, returns, enter, alloc_all, pass_all}
use Rattle.vme_arena.proofs.Steps.{free_all, look_at, get, sets, lands_as, env, owns, usize, unit, Ptr, block_ptr, ptr_val, room_for, types_at, nothing, heard, only, alive, Stays, stay_dropped}
use Rattle.vme_arena.proofs.Steps.{walk_of, Goes-dropped, fm, proved_at, leaves}
use Rattle.vme_arena.proofs.Parts.{param}
use denote.Triple.Call.{calls_at}
use denote.Triple.Spec.{triple_of}
use denote.Triple.Clauses.{Lasts, lasts}
use Rattle.vme_arena.proofs.Values.{piece_val, piece_own, piece_made}
use Rattle.vme_arena.specs.Stretch.{Stretch, block_size}
use Rattle.vme_arena.specs.Ownership.{units_at, block_token}
use Rattle.vme_arena.specs.contracts.piece.Piece as piece
use Rattle.vme_arena.specs.contracts.lease.size_of_block as sizer
use Rattle.vme_arena.proofs.lease.size_of_block.Met.{met as sizes}
use Rattle.vme_arena.specs.contracts.lease.Lease.give as callee
use Rattle.vme_arena.proofs.lease.Lease.give.Met.{met as gives}
use Rattle.vme_arena.specs.contracts.lease.LeaseAllocator.deallocate.{ended, clauses}
use Rattle.vme_arena.specs.contracts.lease.LeaseAllocator.deallocate.Key.{name as #self}
use Rattle.vme_arena.proofs.lease.LeaseAllocator.deallocate.Statement.{statement}
use Rattle.vme_arena.proofs.lease.LeaseAllocator.deallocate.Code as compiled

pub deallocate_spec : {M : Type 1} → statement M
deallocate_spec 𝓤 𝓛 𝓜 𝓡 wired =
    let fn : Fn = compiled.function in
    let ps = ended.signature.params in
    let stays : Stays ps ended.kept =
    (stay_dropped (param 0 ps) ended.kept.0, (stay_dropped (param 1 ps) ended.kept.1.0, (stay_dropped (param 2 ps) ended.kept.1.1.0, (stay_dropped (param 3 ps) ended.kept.1.1.1.0, tt)))) in
    let c = clauses 𝓛 𝓜.mem 𝓡.returns in
    let 𝓣 = tables 𝓤 𝓛.H 𝓜 𝓡 𝓡.env in
    proved_at 𝓛 ended stays c 𝓜 𝓡 (
      Goes-dropped 𝓛 2 (param 0 ps) ended.kept.0 (λ κs x f. refl),
      (
        Goes-dropped 𝓛 2 (param 1 ps) ended.kept.1.0 (λ κs x f. refl),
        (Goes-dropped 𝓛 2 (param 2 ps) ended.kept.1.1.0 (λ κs x f. refl), (Goes-dropped 𝓛 2 (param 3 ps) ended.kept.1.1.1.0 (λ κs x f. refl), tt)),
      ),
    ) #self fn (compiled.unfolded 𝓤 𝓛.H 𝓜 𝓡 wired) (λ z are.
    let Post : Val → SProp 𝓤 = (walk_of 𝓛 ended stays c).post z in
    let a = z.0.3 in let vss = z.0.4 in
    let s : Stretch = a.0.now.slot in
    let τ : Ty = z.1 in
    let from = a.1.0 in let n = a.1.1.0 in let al = a.1.1.1.0 in
    let m = block_size (size τ) in
    let me : Val = vptr a.0.ref_ptr.0 a.0.ref_ptr.1 in
    let k₀ = triple_of 𝓛 sizer.signature (sizer.spec 𝓛 𝓜.mem 𝓡.returns) in
    let y₀ : k₀.Ghost = ((tt, tt, tt, (n, tt), (vint w64 n ∷ [], tt)), tt) in
    let k = triple_of 𝓛 callee.signature (callee.spec 𝓛 𝓜.mem 𝓡.returns) in
    let Asked : Type 0 = (capped (size τ) ≡ n) × (capped (align τ) ≡ al) in
    qed 𝓛 ((raw (alive 𝓛 ended.signature z.0.0 z.0.1) ⊛ ‵ (owns (types_at ps z.0.0) a vss)) ∷ (raw (fact 𝓤 Asked) ⊛ ‵ (room_for τ from) ⊛ ‵ (block_token s τ from)) ∷ []) ∵
    move ! (1 ∷ []) $ split3 ! $ heard ! Asked (λ asked. move ! (1 ∷ []) $ fpick ! (λ at. fpick ! (λ lies. move ! (1 ∷ 0 ∷ []) $
    use2 𝓛 (‵ (units_at from m)) (apply∗ 𝓤 (sem 𝓛 (room_for τ from)) (sem 𝓛 (units_at from m))) $ rewrite ! 0 (λ (u : Ptr). ‵ (units_at u m)) lies.0.0 refl $
    let p : Ptr = block_ptr s.block at in let top = lies.0.1 in let short : size τ < 2 ^ 63 = omega arith in let same : size τ ≡ n = sym (capped_is (size τ) (omega arith)) ∙ asked.0 in
    move ! (1 ∷ []) $ split ! $ move ! (1 ∷ []) $ fsplit ! $ fsplit ! $ keep ! (4 ∷ 1 ∷ 3 ∷ []) $
    -- [the bytes; the fields of self's place; alive]
    regoal ! (λ (us : List Val). prop (WpFn 𝓤 𝓛.H 𝓣.C 𝓣.Λ fn us Post))
    (λ i. are.0.0 i ++ ((are.1.0 ∙ ap (λ (u : Ptr). ptr_val u ∷ []) lies.0.0) i ++ (are.1.1.0.0 i ++ (are.1.1.1.0.0 i ++ [])))) refl $
    enter ! 𝓣.C 𝓣.Λ fn (me ∷ vptr s.block at ∷ vint w64 n ∷ vint w64 al ∷ []) Post $
    alloc_all ! (λ l. pass_all ! refl ((tt, tt), ((tt, tt), ((tt, record { fits = are.1.1.0.1 }), ((tt, record { fits = are.1.1.1.0.1 }), tt)))) $ let En : Env 𝓤 𝓛.H = env fn.locals l in
    use0 𝓛 (raw (fact 𝓤 (n < 2 ^ 63))) (fact_i 𝓤 (n < 2 ^ 63) (emp 𝓤) (omega (arith, same, short))) $ nothing ! $ flt_i ! n (2 ^ 64) are.1.1.0.1 $
    feq_i ! (List Val) (vint w64 n ∷ []) (vint w64 n ∷ []) refl $ fjoin ! $ fjoin ! $ nothing ! $ join ! $ join ! $ use1 𝓛 (raw (k₀.pre y₀)) (id⊢ 𝓤 _) $
    calls_at ! (fm 𝓛 𝓜 𝓡) k₀ (sizes 𝓤 𝓛 𝓜 𝓡 (compiled.calls-vme_arena::lease::size_of_block 𝓡.env wired)) y₀ (and_then ! (get ! refl) (no_more !)) (λ v.
    use1 𝓛 (later (some (λ (j : ℕ). (‵ ftrue ⊛ ‵ (usize.own_val j (v ∷ []))) ⊛ some
    (λ (ls : Lasts sizer.ended tt y₀.0.3). ‵ (lasts sizer.ended tt y₀.0.3 ls) ⊛ raw (fact 𝓤 (j ≡ block_size n)))))) (id⊢ 𝓤 (k₀.post y₀ v)) $
    await ! tt $ pick ! (λ j. split ! $ move ! (1 ∷ []) $ pick ! (λ _. split ! $ drop ! $
    heard ! (j ≡ block_size n) (λ said. split ! $ drop ! $ fsplit ! $ feq_l ! (λ e. drop ! $ let fits : m < 2 ^ 64 = omega (arith, top) in
    lands_as ! (ap only e ∙ ap (vint w64) (said ∙ ap block_size (sym same))) refl (tt, record { fits = fits }) $
    sets ! (agg ! (and_then ! (get ! refl) (no_more !))) refl (tt, (tt, tt)) $
    let x : (piece.the_row).Denot = record { ptr = p; block = s.block; at = at; size = m; placed = (refl, top, lies.0.2) } in
    let y : k.Ghost = ((z.0.0, z.0.1, z.0.2, (a.0, (x, (m, tt))), (me ∷ [], (piece_val p ∷ [], (vint w64 m ∷ [], tt)))), tt) in
    let Sized : Type 0 = (16 ≤ m) × (m ≡ m) in
    let Lies : Type 0 = (s.block ≡ s.block) × (s.start ≤ at) × (at + m ≤ s.end) × (at % 16 ≡ 0) in
    -- [the bytes; self; alive]
    use0 𝓛 (‵ (piece_own p (piece_val p ∷ []))) (piece_made 𝓛 p) $ fjoin ! $ nothing ! $ flt_i ! m (2 ^ 64) fits $
    feq_i ! (List Val) (vint w64 m ∷ []) (vint w64 m ∷ []) refl $ fjoin ! $ fjoin ! $ move ! (1 ∷ 0 ∷ []) $ fjoin ! $
    move ! (1 ∷ []) $ feq_i ! (List Val) (me ∷ []) (me ∷ []) refl $ fjoin ! $ fjoin ! $ move ! (1 ∷ 0 ∷ []) $ join ! $
    use0 𝓛 (raw (fact 𝓤 Lies)) (fact_i 𝓤 Lies (emp 𝓤) (refl, lies.1, lies.2, lies.3)) $
    use0 𝓛 (raw (fact 𝓤 Sized)) (fact_i 𝓤 Sized (emp 𝓤) (omega arith, refl)) $ join ! $ move ! (1 ∷ 0 ∷ []) $ join ! $ use1 𝓛 (raw (k.pre y)) (id⊢ 𝓤 _) $
    calls_at ! (fm 𝓛 𝓜 𝓡) k (gives 𝓤 𝓛 𝓜 𝓡 (compiled.calls-vme_arena::lease::Lease::give 𝓡.env wired)) y (and_then ! (get ! refl) (and_then ! (get ! refl) (and_then ! (get ! refl) (no_more !)))) (λ u.
    use1 𝓛 (later (some (λ (t : Unit {0}). (raw (alive 𝓛 ended.signature z.0.0 z.0.1) ⊛ ‵ (unit.own_val t (u ∷ []))) ⊛ some
    (λ (ls : Lasts callee.ended z.0.0 y.0.3). ‵ (lasts callee.ended z.0.0 y.0.3 ls) ⊛ ‵ ftrue)))) (id⊢ 𝓤 (k.post y u)) $
    await ! tt $ pick ! (λ t. split ! $ move ! (1 ∷ []) $ drop ! $ split ! $ move ! (1 ∷ []) $ feq_l ! (λ e'. lands_as ! (ap only e') refl (tt, tt) $
    sets ! (of_opd ! (unit_lit !)) refl (tt, tt) $
    returns ! (look_at ! 0 refl) $ free_all ! refl $
    feq_i ! (List Val) (vunit ∷ []) (vunit ∷ []) refl $ nothing ! $ nothing ! $ nothing ! $ fjoin ! $ nothing ! $ fjoin ! $ nothing ! $ fjoin ! $ nothing ! $ fjoin ! $ move ! (3 ∷ 0 ∷ 2 ∷ 1 ∷ []) $
    by ! (leaves 𝓛 ended stays c z vunit tt (tt, (tt, (tt, (tt, tt)))) (tt, (tt, (tt, (tt, tt))))))))))))))))))
