-- `new` requests units of 16 bytes. Assumes `Logic`.
use Rattle.vme_arena.proofs.Steps.{◌≡◌, ◌*◌, ◌/◌, ◌^◌, ◌<◌, List, [], ◌∷◌, ◌++◌, Some, None, refl, ◌∙◌, arith, lit<, w64, SProp, emp, id⊢, Lft, Share, ftrue, flft, Ty, Fn, Val, vint, vptr, vcons}
use Rattle.vme_arena.proofs.Steps.{vnil, capped_is, Env, WpFn, fact, fact_i, tables, ‵, raw, ◌⊛◌, later, prop, at_ret, ◌$◌, ◌∵◌, !, qed, by, move, drop, use0, use1, use2, split, join, regoal}
use Rattle.vme_arena.proofs.Steps.{fsplit, fjoin, await, whole, agg, live, vrt, in_variant, stop, fld, lit, of_opd, no_more, and_then, first, switches_on, exec, returns, enter, alloc_all, pass_all}
use Rattle.vme_arena.proofs.Steps.{free_all, look_at, get, get_in, get_tag, sets, sets_last, lands_as, env, RattleType, owns, Ptr, block_ptr, types_at, type_at, nothing, heard, Tuple, alive, Stays}
use Rattle.vme_arena.proofs.Steps.{stay_dropped, walk_of, Goes-dropped, after, head, arm_body, fm, Some-of, none_of, pair_of, pair_val, proved_at, leaves}
use Rattle.vme_arena.proofs.Parts.{param, going_on}
use mir.Syntax.{Args, a_type, dcons, dnil}
use mir.MapTy.{inst_fn}
use contract.BorrowLft.{◌⊑◌, ⊑_trans}
use denote.Param.{param as parameter, bounded}
use denote.Triple.Call.{calls_at}
use Rattle.core.proofs.alloc.Calls.{Al, seen, Takes, at_takes, Answered, Takes-goes, Takes-gives, answers}
use Rattle.vme_arena.proofs.Values.{memory_val, memory_own, memory_made, deed_val, deed_own, deed_made}
use Rattle.vme_arena.specs.Stretch.{IsBlockSize}
use Rattle.vme_arena.specs.Ownership.{units_of}
use Rattle.vme_arena.specs.contracts.memory.Memory as memory
use Rattle.vme_arena.specs.contracts.memory.Deed as deed
use Rattle.vme_arena.specs.contracts.memory.Memory.new.{ended, clauses}
use Rattle.vme_arena.specs.contracts.memory.Memory.new.Key.{name as #self}
use Rattle.vme_arena.proofs.memory.Memory.new.Statement.{statement}
use Rattle.vme_arena.proofs.memory.Memory.new.Code as compiled

pub new_spec : {M : Type 1} → statement M
new_spec 𝓤 𝓛 𝓜 𝓡 wired A L g d dd met md =
    let En = ended A g d dd in
    let args : Args = bounded (a_type ∷ []) (A, tt) (dcons d (dcons dd dnil)) in
    let fn : Fn = inst_fn args compiled.function in
    let ps = En.signature.params in
    let stays : Stays ps En.kept = (stay_dropped (param 0 ps) En.kept.0, (stay_dropped (param 1 ps) En.kept.1.0, tt)) in
    let c = clauses A g d dd 𝓛 𝓜.mem 𝓡.returns in
    let 𝓣 = tables 𝓤 𝓛.H 𝓜 𝓡 𝓡.env in
    proved_at 𝓛 En stays c 𝓜 𝓡 (Goes-dropped 𝓛 2 (param 0 ps) En.kept.0 (λ κs x f. refl), (Goes-dropped 𝓛 2 (param 1 ps) En.kept.1.0 (λ κs x f. refl), tt))
    (#self args) fn (compiled.unfolded 𝓤 𝓛.H 𝓜 𝓡 wired (A, tt) d dd) (λ z are.
    let Post : Val → SProp 𝓤 = (walk_of 𝓛 En stays c).post z in
    let a = z.0.3 in let vss = z.0.4 in
    let Y : Al = record { row = A; laws = L; g = g; d = d; drops = dd } in
    let κ : Lft = z.0.0.0 in
    let q : Share = z.0.1.0 in
    let α = z.0.0.1.0 in let h = a.0.now in let at = a.0.ref_ptr in let n = a.1.0 in
    let fits : n < 2 ^ 64 = are.1.0.1 in
    let τ : Ty = units_of n in
    let y = at_takes Y 𝓛 𝓜.mem 𝓡.returns κ q at h n 16 τ in
    let Z : RattleType = parameter 0 A in
    let Out : RattleType = type_at En.signature.result z.0.0 in
    let Pair : RattleType = Tuple (memory.the_row ∷ deed.the_row Z g ∷ []) in
    let Asked : Type 0 = IsBlockSize n in
    qed 𝓛 ((raw (alive 𝓛 En.signature z.0.0 z.0.1) ⊛ ‵ (owns (types_at ps z.0.0) a vss)) ∷ (raw (fact 𝓤 (α ⊑ A.lives)) ⊛ raw (fact 𝓤 Asked)) ∷ []) ∵
    move ! (1 ∷ []) $ split ! $ heard ! (α ⊑ A.lives) (λ le. heard ! Asked (λ asked. split ! $ move ! (1 ∷ []) $
    fsplit ! $ fsplit ! $ drop ! $ move ! (1 ∷ []) $ drop ! $ use1 𝓛 (‵ (seen Y κ at h)) (id⊢ 𝓤 _) $
    move ! (1 ∷ []) $ use1 𝓛 (‵ (flft κ q) ⊛ ‵ (flft α z.0.1.1.0) ⊛ ‵ ftrue) (id⊢ 𝓤 _) $ split ! $ move ! (2 ∷ 0 ∷ []) $
    let even = asked.0 in let small = asked.1 in
    regoal ! (λ (us : List Val). prop (WpFn 𝓤 𝓛.H 𝓣.C 𝓣.Λ fn us Post)) (λ i. are.0.0 i ++ (are.1.0.0 i ++ [])) refl $
    enter ! 𝓣.C 𝓣.Λ fn (vptr at.0 at.1 ∷ vint w64 n ∷ []) Post $
    alloc_all ! (λ l. pass_all ! refl ((tt, tt), ((tt, record { fits = fits }), tt)) $ let E : Env 𝓤 𝓛.H = env fn.locals l in
    use2 𝓛 (raw ((Takes Y 𝓛 𝓜.mem 𝓡.returns).pre y)) (Takes-goes Y 𝓛 𝓜.mem 𝓡.returns κ q at h
    (⊑_trans κ α A.lives z.0.2.0 le) n 16 τ (capped_is (n / 16 * 16) (omega arith) ∙ omega arith) refl fits (lit< tt)) $
    calls_at ! (fm 𝓛 𝓜 𝓡) (Takes Y 𝓛 𝓜.mem 𝓡.returns) (met.allocate dd) y (and_then ! (get ! refl) (and_then ! (get ! refl) (and_then ! (lit ! tt) (no_more !)))) (λ v.
    use1 𝓛 (later (raw (Answered Y 𝓛 𝓜.mem 𝓡.returns h τ v) ⊛ ‵ (flft κ q))) (Takes-gives Y 𝓛 𝓜.mem 𝓡.returns κ q at h n 16 τ v) $ await ! tt $ split ! $
    answers Y ! 𝓜.mem 𝓡.returns h τ v
    (λ b o e. move ! (2 ∷ 3 ∷ []) $ join ! $ move ! (1 ∷ 2 ∷ []) $ lands_as ! e refl (tt, (record { fits = lit< tt }, (tt, tt))) $
    first ! $ switches_on ! (get_tag ! (vrt ! refl (fld ! refl (stop !))) (whole !)) $ exec ! 𝓣.C 𝓣.Λ E (arm_body 0 (head (after 1 fn.body))) (going_on 𝓛 𝓣.C 𝓣.Λ E (after 2 fn.body) (at_ret E Post)) $
    sets ! (of_opd ! (get_in ! (vrt ! refl (fld ! refl (stop !))) (in_variant ! 0 0 refl refl (whole !)))) refl (tt, tt) $
    sets ! (agg ! (no_more !)) refl (tt, tt) $
    sets ! (agg ! (and_then ! (get ! refl) (and_then ! (get ! refl) (no_more !)))) refl (tt, (tt, (record { fits = fits }, tt))) $
    sets ! (agg ! (and_then ! (get ! refl) (no_more !))) refl (tt, (tt, tt)) $
    sets ! (agg ! (and_then ! (get ! refl) (and_then ! (get ! refl) (no_more !)))) refl (tt, ((tt, (record { fits = fits }, tt)), ((tt, tt), tt))) $
    sets_last ! (agg ! (and_then ! (lit ! tt) (and_then ! (get ! refl) (no_more !)))) refl (tt, (record { fits = lit< tt }, (((tt, (record { fits = fits }, tt)), ((tt, tt), tt)), tt))) $
    exec ! 𝓣.C 𝓣.Λ E (after 2 fn.body) (at_ret E Post) $
    sets ! (of_opd ! (get ! refl)) refl (tt, (record { fits = lit< tt }, (((tt, (record { fits = fits }, tt)), ((tt, tt), tt)), tt))) $
    returns ! (look_at ! 0 refl) $ free_all ! refl $
    let p : Ptr = block_ptr b o in
    let x : (memory.the_row).Denot = record { ptr = p; size = n; sized = asked } in
    let k : (deed.the_row Z g).Denot = record { marker = record {}; alloc = h; ptr = p; size = n } in
    let w : Val = pair_val (memory_val p n) deed_val in
    let Shown : Type 0 = (n ≡ n) × (h ≡ h) × (p ≡ p) × (n ≡ n) in
    use0 𝓛 (‵ (memory_own p n (memory_val p n ∷ []))) (memory_made 𝓛 p n fits) $ fjoin ! $ move ! (1 ∷ []) $ use0 𝓛 (‵ (deed_own (deed_val ∷ []))) (deed_made 𝓛) $ fjoin ! $ move ! (1 ∷ 0 ∷ []) $
    use2 𝓛 (‵ (Pair.own_val (x, k) (w ∷ []))) (pair_of 𝓛 memory.the_row (deed.the_row Z g) x k (memory_val p n) deed_val) $
    use1 𝓛 (‵ (Out.own_val (Some (x, k)) (live 1 (vcons w vnil) ∷ []))) (Some-of 𝓛 Pair (x, k) w) $ use0 𝓛 (raw (fact 𝓤 Shown)) (fact_i 𝓤 Shown (emp 𝓤) (refl, refl, refl, refl)) $
    nothing ! $ nothing ! $ fjoin ! $ nothing ! $ fjoin ! $ move ! (3 ∷ 0 ∷ 2 ∷ 1 ∷ []) $
    by ! (leaves 𝓛 En stays c z (live 1 (vcons w vnil)) (Some (x, k)) (tt, (tt, tt)) (tt, (tt, tt))))
    (λ e. join ! $ lands_as ! e refl (tt, (record { fits = lit< tt }, (tt, tt))) $
    first ! $ switches_on ! (get_tag ! (vrt ! refl (fld ! refl (stop !))) (whole !)) $ exec ! 𝓣.C 𝓣.Λ E (arm_body 1 (head (after 1 fn.body))) (going_on 𝓛 𝓣.C 𝓣.Λ E (after 2 fn.body) (at_ret E Post)) $
    sets_last ! (agg ! (and_then ! (lit ! tt) (no_more !))) refl (tt, (record { fits = lit< tt }, tt)) $
    exec ! 𝓣.C 𝓣.Λ E (after 2 fn.body) (at_ret E Post) $
    sets ! (of_opd ! (get ! refl)) refl (tt, (record { fits = lit< tt }, tt)) $
    returns ! (look_at ! 0 refl) $ free_all ! refl $
    let Shown : Type 0 = Unit {0} in
    use0 𝓛 (‵ (Out.own_val None (live 0 vnil ∷ []))) (none_of 𝓛 Pair) $ use0 𝓛 (raw (fact 𝓤 Shown)) (fact_i 𝓤 Shown (emp 𝓤) tt) $
    nothing ! $ nothing ! $ fjoin ! $ nothing ! $ fjoin ! $ move ! (3 ∷ 0 ∷ 2 ∷ 1 ∷ []) $
    by ! (leaves 𝓛 En stays c z (live 0 vnil) None (tt, (tt, tt)) (tt, (tt, tt)))))))))
