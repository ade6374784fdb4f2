-- `new` cuts the memory into bytes and tags. Assumes `Logic`.
use Rattle.vme_arena.proofs.Steps.{◌≡◌, ℕ, ◌+◌, ◌-◌, ◌*◌, ◌^◌, ◌<◌, ◌≤◌, List, [], ◌∷◌, ◌++◌, refl, sym, ap, ◌∙◌, arith, w64, SProp, emp, never, id⊢, fwand, Fn, Val, vint, vptr, Env, WpFn, fact}
use Rattle.vme_arena.proofs.Steps.{fact_i, tables, ‵, raw, ◌⊛◌, prop, at_ret, ◌$◌, ◌∵◌, !, qed, by, move, keep, drop, use0, use1, use2, split, join, rewrite, regoal, fsplit, fjoin, whole, sub, agg}
use Rattle.vme_arena.proofs.Steps.{stop, fld, lit, bin, of_opd, no_more, and_then, first, blocks, exec, returns, enter, alloc_all, pass_all, free_all, look_at, get, get_in, sets, sets_last, is, env}
use Rattle.vme_arena.proofs.Steps.{RattleType, owns, Ptr, block_ptr, in_a_block, count_of, room_for, types_at, type_at, nothing, heard, Tuple, alive, Stays, stay_dropped, walk_of, Goes-dropped}
use Rattle.vme_arena.proofs.Steps.{Goes-blank, after, pair_of, pair_val, proved_at, leaves}
use Rattle.vme_arena.proofs.Parts.{param, tells}
use Rattle.vme_arena.proofs.Values.{granules_val, granules_own, granules_made, memory_val, memory_told, deed_val, deed_own, deed_told, deed_made}
use Rattle.vme_arena.proofs.Units.{cuts, loosens, loose_cuts}
use Rattle.vme_arena.proofs.Homes.{no_homes}
use Rattle.std.proofs.GlobalToken.{dealloc_token_start}
use Rattle.vme_arena.specs.Stretch.{rounded}
use Rattle.vme_arena.specs.Ownership.{Spot, homes_at, padding_at, units_at, units_of, loose}
use Rattle.vme_arena.specs.contracts.granules.Granules as granules
use Rattle.vme_arena.specs.contracts.granules.Granules.new.{ended, clauses}
use Rattle.vme_arena.specs.contracts.granules.Granules.new.Key.{name as #self}
use Rattle.vme_arena.proofs.granules.Granules.new.Statement.{statement}
use Rattle.vme_arena.proofs.granules.Granules.new.Code as compiled

pub new_spec : {M : Type 1} → statement M
new_spec 𝓤 𝓛 𝓜 𝓡 wired =
    let fn : Fn = compiled.function in
    let ps = ended.signature.params in
    let stays : Stays ps ended.kept = (stay_dropped (param 0 ps) ended.kept.0, (stay_dropped (param 1 ps) ended.kept.1.0, (stay_dropped (param 2 ps) ended.kept.1.1.0, tt))) in
    let c = clauses 𝓛 𝓜.mem 𝓡.returns in
    let 𝓣 = tables 𝓤 𝓛.H 𝓜 𝓡 𝓡.env in
    proved_at 𝓛 ended stays c 𝓜 𝓡
    (Goes-blank 𝓛 0 (param 0 ps) ended.kept.0 (λ κs x f. tt), (Goes-blank 𝓛 0 (param 1 ps) ended.kept.1.0 (λ κs x f. tt), (Goes-dropped 𝓛 0 (param 2 ps) ended.kept.1.1.0 (λ κs x f. refl), tt)))
    #self fn (compiled.unfolded 𝓤 𝓛.H 𝓜 𝓡 wired) (λ z are.
    let Post : Val → SProp 𝓤 = (walk_of 𝓛 ended stays c).post z in
    let a = z.0.3 in let vss = z.0.4 in let x = a.0 in let k = a.1.0 in let n = a.1.1.0 in
    let told = memory_told x.ptr x.size vss.0 are.0.0 in
    let Sized : Type 0 = x.size ≡ n * 16 + rounded n in
    let Owned : Type 0 = k.ptr ≡ x.ptr in
    let G : RattleType = granules.the_row in
    let D : RattleType = type_at (param 1 ps) z.0.0 in
    qed 𝓛 ((raw (alive 𝓛 ended.signature z.0.0 z.0.1) ⊛ ‵ (owns (types_at ps z.0.0) a vss)) ∷ (raw (fact 𝓤 Sized) ⊛ raw (fact 𝓤 Owned)) ∷ []) ∵ move ! (1 ∷ []) $
    split ! $ heard ! Sized (λ sized. heard ! Owned (λ owned. split ! $ move ! (1 ∷ []) $
    fsplit ! $ fsplit ! $ drop ! $ move ! (1 ∷ []) $ fsplit ! $ fsplit ! $ drop ! $
    -- [the token; nothing; the memory; alive]
    tells ! 1 (count_of k.ptr ≡ 0) (dealloc_token_start 𝓛 k.alloc (units_of k.size) k.ptr) (λ start. move ! (2 ∷ 0 ∷ []) $
    in_a_block ! x.ptr (λ p. units_at p x.size) (id⊢ 𝓤 (never 𝓤)) (λ b o at.
    let zero' : o ≡ 0 = sym (ap count_of (owned ∙ at)) ∙ start in
    let here : Ptr = block_ptr b 0 in
    let lies : x.ptr ≡ here = at ∙ ap (block_ptr b) zero' in
    let T = n * 16 in
    let tags : Ptr = block_ptr b T in
    let m = rounded n in
    let pad = m - n in
    let less : n ≤ m = omega arith in
    let s : Spot = record { block = b; at = 0; tag = T } in
    let e₀ : 0 + T ≡ T = omega arith in
    let e₁ : T + 0 ≡ T = omega arith in
    let room : (n * 16 + m < 2 ^ 63) = omega (arith, sized, x.sized.1) in
    rewrite ! 0 (λ (u : ℕ × ℕ). ‵ (units_at (block_ptr b u.0) u.1)) (λ i. (zero' i, sized i)) refl $
    use1 𝓛 (‵ (units_at here T) ⊛ ‵ (units_at (block_ptr b (0 + T)) m)) (cuts 𝓛 b 0 T m (omega arith)) $ split ! $ rewrite ! 1 (λ (d : ℕ). ‵ (units_at (block_ptr b d) m)) e₀ refl $ move ! (1 ∷ []) $
    use1 𝓛 (‵ (room_for (loose m) tags) ⊛ ‵ (fwand (room_for (loose m) tags) (units_at tags m))) (loosens 𝓛 b T m (omega arith)) $ split ! $
    rewrite ! 0 (λ (k : ℕ). ‵ (room_for (loose k) tags)) (omega (arith, less)) refl $
    use1 𝓛 (‵ (room_for (loose n) tags) ⊛ ‵ (room_for (loose pad) (block_ptr b (T + n)))) (loose_cuts 𝓛 b T n pad) $ split ! $
    -- [the tags; the bytes after them; the way back; the granules; the token; nothing; alive]
    move ! (1 ∷ 2 ∷ []) $ fjoin ! $ rewrite ! 0 (λ (k : ℕ). ‵ (padding_at s k)) (omega arith) refl $
    move ! (1 ∷ 0 ∷ []) $ rewrite ! 0 (λ (d : ℕ). ‵ (room_for (loose n) (block_ptr b d))) (sym e₁) refl $ fjoin ! $
    move ! (1 ∷ 0 ∷ []) $ rewrite ! 0 (λ (d : ℕ). ‵ (units_at (block_ptr b d) T)) (omega arith) refl $ fjoin ! $
    use0 𝓛 (‵ (homes_at s 0)) (no_homes 𝓛 b 0 T) $ fjoin ! $
    regoal ! (λ (us : List Val). prop (WpFn 𝓤 𝓛.H 𝓣.C 𝓣.Λ fn us Post))
    (λ i. (told.0 ∙ ap (λ (p : Ptr). memory_val p x.size ∷ []) lies) i ++ (deed_told vss.1.0 are.1.0.0 i ++ (are.1.1.0.0 i ++ []))) refl $
    enter ! 𝓣.C 𝓣.Λ fn (memory_val here x.size ∷ deed_val ∷ vint w64 n ∷ []) Post $
    alloc_all ! (λ l. pass_all ! refl ((tt, (tt, (record { fits = told.1 }, tt))), ((tt, (tt, tt)), ((tt, record { fits = are.1.1.0.1 }), tt))) $ let En : Env 𝓤 𝓛.H = env fn.locals l in
    sets ! (of_opd ! (get_in ! (fld ! refl (stop !)) (sub ! 0 refl (whole !)))) refl (tt, tt) $
    sets ! (of_opd ! (get_in ! (fld ! refl (stop !)) (sub ! 0 refl (whole !)))) refl (tt, tt) $
    sets ! (bin ! (get ! refl) (lit ! tt) (record { fits = omega arith })) refl (tt, record { fits = omega arith }) $
    first ! $ blocks ! $
    sets ! (is ! (bin ! (get ! refl) (get ! refl) tt) (ap (vptr b) e₁)) refl (tt, tt) $
    sets ! (agg ! (and_then ! (get ! refl) (and_then ! (get ! refl) (no_more !)))) refl (tt, (tt, (tt, tt))) $
    sets ! (agg ! (and_then ! (get ! refl) (no_more !))) refl (tt, (tt, tt)) $
    sets_last ! (agg ! (and_then ! (get ! refl) (and_then ! (get ! refl) (no_more !)))) refl (tt, ((tt, (tt, tt)), ((tt, tt), tt))) $
    exec ! 𝓣.C 𝓣.Λ En (after 4 fn.body) (at_ret En Post) $
    sets ! (of_opd ! (get ! refl)) refl (tt, ((tt, (tt, tt)), ((tt, tt), tt))) $
    returns ! (look_at ! 0 refl) $ free_all ! refl $
    -- [what the granules own; the token; nothing; alive]
    let y : G.Denot = record { bytes = here; tags = tags; count = 0; blank = n; spot = s; placed = (refl, refl, omega arith, omega arith) } in
    let Counts : Type 0 = (y.count ≡ 0) × (n ≡ n) in
    let At : Type 0 = (s.at ≡ 0) × (T ≡ T) in
    let Of : Type 0 = (k ≡ k) × (k.ptr ≡ here) in
    use0 𝓛 (‵ (granules_own here tags (granules_val here tags ∷ []))) (granules_made 𝓛 here tags) $ fjoin ! $
    move ! (1 ∷ []) $ use0 𝓛 (‵ (deed_own (deed_val ∷ []))) (deed_made 𝓛) $ fjoin ! $ move ! (1 ∷ 0 ∷ []) $
    use2 𝓛 (‵ ((Tuple (G ∷ D ∷ [])).own_val (y, k) (pair_val (granules_val here tags) deed_val ∷ []))) (pair_of 𝓛 G D y k (granules_val here tags) deed_val) $ keep ! (0 ∷ 2 ∷ []) $
    use0 𝓛 (raw (fact 𝓤 Of)) (fact_i 𝓤 Of (emp 𝓤) (refl, owned ∙ lies)) $ use0 𝓛 (raw (fact 𝓤 At)) (fact_i 𝓤 At (emp 𝓤) (refl, refl)) $
    join ! $ use0 𝓛 (raw (fact 𝓤 Counts)) (fact_i 𝓤 Counts (emp 𝓤) (refl, refl)) $ join ! $
    nothing ! $ nothing ! $ fjoin ! $ nothing ! $ fjoin ! $ nothing ! $ fjoin ! $ move ! (3 ∷ 0 ∷ 2 ∷ 1 ∷ []) $
    by ! (leaves 𝓛 ended stays c z (pair_val (granules_val here tags) deed_val) (y, k) (tt, (tt, (tt, tt))) (tt, (tt, (tt, tt))))))))))
