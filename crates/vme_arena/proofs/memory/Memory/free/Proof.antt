-- `free` gives the bytes back with the right to do so. Assumes `Logic`.
use Rattle.vme_arena.proofs.Steps.{◌≡◌, ℕ, ◌*◌, ◌/◌, List, [], ◌∷◌, ◌++◌, refl, ap, ◌∙◌, arith, lit<, SProp, never, id⊢, Lft, Share, ftrue, flft, Ty, Fn, Val, vptr, vunit, capped_is, Env, WpFn}
use Rattle.vme_arena.proofs.Steps.{fact, tables, ‵, raw, ◌⊛◌, given, later, prop, at_ret, settles, ◌$◌, ◌∵◌, !, qed, by, move, drop, use1, use3, split, join, learn, rewrite, regoal, fsplit, fsplit3}
use Rattle.vme_arena.proofs.Steps.{fjoin, feq_i, await, whole, sub, stop, fld, lit, unit_lit, of_opd, no_more, and_then, first, blocks, exec, returns, enter, alloc_all, pass_all, free_all, look_at}
use Rattle.vme_arena.proofs.Steps.{get, get_in, sets, lands_last, env, owns, Ptr, block_ptr, in_a_block, types_at, nothing, heard, alive, Stays, stay_dropped, walk_of, Goes-dropped, Goes-blank}
use Rattle.vme_arena.proofs.Steps.{after, fm, proved_at, leaves}
use Rattle.vme_arena.proofs.Parts.{param, going_on, leaving}
use mir.Syntax.{Args, a_type, dcons, dnil, place}
use mir.MapTy.{inst_fn}
use contract.BorrowLft.{◌⊑◌, ⊑_trans}
use denote.Param.{bounded}
use denote.Triple.Call.{calls_at_last}
use Rattle.core.proofs.alloc.Calls.{Al, seen, Gives, at_gives, Gives-goes, Gives-Gives}
use Rattle.vme_arena.proofs.Values.{memory_val, memory_told, deed_val, deed_told}
use Rattle.vme_arena.specs.Ownership.{units_of, units_at}
use Rattle.vme_arena.specs.contracts.memory.Memory.free.{ended, clauses}
use Rattle.vme_arena.specs.contracts.memory.Memory.free.Key.{name as #self}
use Rattle.vme_arena.proofs.memory.Memory.free.Statement.{statement}
use Rattle.vme_arena.proofs.memory.Memory.free.Code as compiled

pub free_spec : {M : Type 1} → statement M
free_spec 𝓤 𝓛 𝓜 𝓡 wired A L g d dd met md =
    let En = ended A g d dd in
    let args : Args = bounded (a_type ∷ []) (A, tt) (dcons d (dcons dd dnil)) in
    let fn : Fn = inst_fn args compiled.function in
    let ps = En.signature.params in
    let stays : Stays ps En.kept = (stay_dropped (param 0 ps) En.kept.0, (stay_dropped (param 1 ps) En.kept.1.0, (stay_dropped (param 2 ps) En.kept.1.1.0, tt))) in
    let c = clauses A g d dd 𝓛 𝓜.mem 𝓡.returns in
    let 𝓣 = tables 𝓤 𝓛.H 𝓜 𝓡 𝓡.env in
    proved_at 𝓛 En stays c 𝓜 𝓡
    (Goes-blank 𝓛 2 (param 0 ps) En.kept.0 (λ κs x f. tt), (Goes-blank 𝓛 2 (param 1 ps) En.kept.1.0 (λ κs x f. tt), (Goes-dropped 𝓛 2 (param 2 ps) En.kept.1.1.0 (λ κs x f. refl), tt)))
    (#self args) fn (compiled.unfolded 𝓤 𝓛.H 𝓜 𝓡 wired (A, tt) d dd) (λ z are.
    let Post : Val → SProp 𝓤 = (walk_of 𝓛 En stays c).post z in
    let a = z.0.3 in let vss = z.0.4 in
    let Y : Al = record { row = A; laws = L; g = g; d = d; drops = dd } in
    let κ : Lft = z.0.0.0 in
    let q : Share = z.0.1.0 in
    let α = z.0.0.1.0 in let x = a.0 in let n = x.size in
    let told = memory_told x.ptr n vss.0 are.0.0 in
    let k = a.1.0 in let h = a.1.1.0.now in let handle = a.1.1.0.ref_ptr in
    let τ : Ty = units_of n in
    let even = x.sized.0 in
    let Asked : Type 0 = (k.alloc ≡ h) × (k.ptr ≡ x.ptr) × (k.size ≡ n) in
    qed 𝓛 ((raw (alive 𝓛 En.signature z.0.0 z.0.1) ⊛ ‵ (owns (types_at ps z.0.0) a vss)) ∷ (raw (fact 𝓤 (α ⊑ A.lives)) ⊛ raw (fact 𝓤 Asked)) ∷ []) ∵
    move ! (1 ∷ []) $ split ! $ heard ! (α ⊑ A.lives) (λ le. heard ! Asked (λ asked. split ! $ move ! (1 ∷ []) $
    fsplit3 ! $ fsplit ! $ drop ! $ in_a_block ! x.ptr (λ p. units_at p n) (id⊢ 𝓤 (never 𝓤)) (λ b o at. move ! (1 ∷ []) $ fsplit ! $ drop ! $
    rewrite ! 0 (λ (u : A.Denot × ℕ × Ptr). ‵ (g.dealloc_token u.0 (units_of u.1) u.2)) (λ i. (asked.0 i, asked.2 i, (asked.1 ∙ at) i)) refl $
    move ! (2 ∷ []) $ fsplit ! $ fsplit ! $ drop ! $ move ! (1 ∷ []) $ drop ! $ use1 𝓛 (‵ (seen Y κ handle h)) (id⊢ 𝓤 _) $ move ! (3 ∷ []) $
    use1 𝓛 (‵ (flft κ q) ⊛ ‵ (flft α z.0.1.1.0) ⊛ ‵ ftrue) (id⊢ 𝓤 _) $ split ! $ move ! (2 ∷ 0 ∷ []) $ join ! $ move ! (3 ∷ 2 ∷ []) $
    let y = at_gives Y 𝓛 𝓜.mem 𝓡.returns κ q handle h b o n 16 τ in
    regoal ! (λ (us : List Val). prop (WpFn 𝓤 𝓛.H 𝓣.C 𝓣.Λ fn us Post)) (λ i. (told.0 ∙ ap (λ (p : Ptr). memory_val p n ∷ []) at) i ++ (deed_told vss.1.0 are.1.0.0 i ++ (are.1.1.0.0 i ++ []))) refl $
    enter ! 𝓣.C 𝓣.Λ fn (memory_val (block_ptr b o) n ∷ deed_val ∷ vptr handle.0 handle.1 ∷ []) Post $
    alloc_all ! (λ l. pass_all ! refl ((tt, (tt, (record { fits = told.1 }, tt))), ((tt, (tt, tt)), ((tt, tt), tt))) $ let E : Env 𝓤 𝓛.H = env fn.locals l in
    sets ! (of_opd ! (get_in ! (fld ! refl (stop !)) (sub ! 0 refl (whole !)))) refl (tt, tt) $
    sets ! (of_opd ! (get_in ! (fld ! refl (stop !)) (sub ! 1 refl (whole !)))) refl (tt, record { fits = told.1 }) $
    first ! $ blocks ! $
    use3 𝓛 (raw ((Gives Y 𝓛 𝓜.mem 𝓡.returns).pre y)) (Gives-goes Y 𝓛 𝓜.mem 𝓡.returns κ q handle h
    (⊑_trans κ α A.lives z.0.2.0 le) b o n 16 τ (capped_is (n / 16 * 16) (omega arith) ∙ omega arith) refl told.1 (lit< tt)) $
    calls_at_last ! (fm 𝓛 𝓜 𝓡) (Gives Y 𝓛 𝓜.mem 𝓡.returns) (met.deallocate dd) y (and_then ! (get ! refl) (and_then ! (get ! refl) (and_then ! (get ! refl) (and_then ! (lit ! tt) (no_more !))))) (λ v.
    use1 𝓛 (later (given (v ≡ vunit) (‵ (flft κ q)))) (Gives-Gives Y 𝓛 𝓜.mem 𝓡.returns κ q handle h b o n 16 τ v) $ await ! tt $ learn ! (λ e. join ! $
    regoal ! (λ (u : Val). settles E (place 6 []) u (leaving 𝓛 (going_on 𝓛 𝓣.C 𝓣.Λ E (after 3 fn.body) (at_ret E Post)))) e refl $ lands_last ! refl (tt, tt) $
    exec ! 𝓣.C 𝓣.Λ E (after 3 fn.body) (at_ret E Post) $
    sets ! (of_opd ! (unit_lit !)) refl (tt, tt) $
    returns ! (look_at ! 0 refl) $ free_all ! refl $
    feq_i ! (List Val) (vunit ∷ []) (vunit ∷ []) refl $ nothing ! $ nothing ! $ nothing ! $ fjoin ! $ nothing ! $ fjoin ! $ nothing ! $ fjoin ! $ move ! (3 ∷ 0 ∷ 2 ∷ 1 ∷ []) $
    by ! (leaves 𝓛 En stays c z vunit tt (tt, (tt, (tt, tt))) (tt, (tt, (tt, tt)))))))))))
