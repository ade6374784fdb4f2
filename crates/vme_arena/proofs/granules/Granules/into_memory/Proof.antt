-- `into_memory` joins the bytes and the tags. Assumes `Logic`.
use Rattle.vme_arena.proofs.Steps.{◌≡◌, ℕ, ◌+◌, ◌-◌, ◌*◌, ◌^◌, ◌<◌, ◌≤◌, List, [], ◌∷◌, ◌++◌, refl, sym, ap, ◌∙◌, arith, w64, SProp, emp, apply∗, Fn, Val, vint, WpFn, fact, fact_i, tables, sem, ‵}
use Rattle.vme_arena.proofs.Steps.{raw, ◌⊛◌, prop, ◌$◌, ◌∵◌, !, qed, by, move, keep, drop, use0, use1, use2, split, split3, rewrite, regoal, fsplit, fjoin, whole, sub, agg, stop, fld, of_opd}
use Rattle.vme_arena.proofs.Steps.{no_more, and_then, returns, enter, alloc_all, pass_all, free_all, look_at, get, get_in, sets, owns, Ptr, block_ptr, room_for, types_at, nothing, heard, alive}
use Rattle.vme_arena.proofs.Steps.{Stays, stay_dropped, walk_of, Goes-dropped, Goes-blank, proved_at, leaves}
use Rattle.vme_arena.proofs.Parts.{param}
use Rattle.vme_arena.proofs.Values.{granules_val, granules_told, piece_val, piece_told, memory_val, memory_own, memory_made}
use Rattle.vme_arena.proofs.Units.{glues, loose_glues}
use Rattle.vme_arena.proofs.Homes.{tags_back}
use Rattle.vme_arena.specs.Stretch.{rounded}
use Rattle.vme_arena.specs.Ownership.{Spot, padding_at, units_at, loose}
use Rattle.vme_arena.specs.contracts.memory.Memory as memory
use Rattle.vme_arena.specs.contracts.granules.Granules.into_memory.{ended, clauses}
use Rattle.vme_arena.specs.contracts.granules.Granules.into_memory.Key.{name as #self}
use Rattle.vme_arena.proofs.granules.Granules.into_memory.Statement.{statement}
use Rattle.vme_arena.proofs.granules.Granules.into_memory.Code as compiled

pub into_memory_spec : {M : Type 1} → statement M
into_memory_spec 𝓤 𝓛 𝓜 𝓡 wired =
    let fn : Fn = compiled.function in
    let ps = ended.signature.params in
    let stays : Stays ps ended.kept = (stay_dropped (param 0 ps) ended.kept.0, (stay_dropped (param 1 ps) ended.kept.1.0, (stay_dropped (param 2 ps) ended.kept.1.1.0, tt))) in
    let c = clauses 𝓛 𝓜.mem 𝓡.returns in
    let 𝓣 = tables 𝓤 𝓛.H 𝓜 𝓡 𝓡.env in
    proved_at 𝓛 ended stays c 𝓜 𝓡
    (Goes-blank 𝓛 0 (param 0 ps) ended.kept.0 (λ κs x f. tt), (Goes-blank 𝓛 0 (param 1 ps) ended.kept.1.0 (λ κs x f. tt), (Goes-dropped 𝓛 0 (param 2 ps) ended.kept.1.1.0 (λ κs x f. refl), tt)))
    #self fn (compiled.unfolded 𝓤 𝓛.H 𝓜 𝓡 wired) (λ z are.
    let Post : Val → SProp 𝓤 = (walk_of 𝓛 ended stays c).post z in
    let a = z.0.3 in let vss = z.0.4 in let x = a.0 in let n = x.count in
    let s : Spot = x.spot in
    let b = s.block in let lies = x.placed in let w = a.1.0 in let N = a.1.1.0 in
    let m = rounded n in
    let pad = m - n in
    let less : n ≤ m = omega arith in
    let here : Ptr = block_ptr b 0 in
    let tags : Ptr = block_ptr b s.tag in
    let Whole : Type 0 = (s.at ≡ 0) × (s.tag ≡ n * 16) × (x.blank ≡ 0) in
    let Bytes : Type 0 = (w.block ≡ b) × (w.at ≡ 0) × (w.size ≡ n * 16) in
    let Sized : Type 0 = (N < 2 ^ 63) × (N ≡ n * 16 + m) in
    qed 𝓛 ((raw (alive 𝓛 ended.signature z.0.0 z.0.1) ⊛ ‵ (owns (types_at ps z.0.0) a vss)) ∷ (raw (fact 𝓤 Whole) ⊛ raw (fact 𝓤 Bytes) ⊛ raw (fact 𝓤 Sized)) ∷ []) ∵
    move ! (1 ∷ []) $ split3 ! $ heard ! Whole (λ is. heard ! Bytes (λ with'. heard ! Sized (λ sized. split ! $ move ! (1 ∷ []) $
    let at : w.ptr ≡ here = w.placed.0 ∙ (λ j. block_ptr (with'.0 j) (with'.1 j)) in
    fsplit ! $ fsplit ! $ drop ! $ fsplit ! $ move ! (1 ∷ []) $ fsplit ! $ drop ! $ fsplit ! $ drop ! $ move ! (2 ∷ []) $ fsplit ! $ fsplit ! $ drop ! $
    -- [the bytes; nothing; the padding; the tags and what they speak of; alive]
    rewrite ! 0 (λ (u : Ptr × ℕ). ‵ (units_at u.0 u.1)) (λ j. (at j, with'.2 j)) refl $ move ! (3 ∷ []) $
    use1 𝓛 (‵ (room_for (loose n) tags)) (tags_back 𝓛 b n s.at s.tag) $ move ! (3 ∷ []) $ rewrite ! 0 (λ (k : ℕ). ‵ (padding_at s k)) (omega (arith, is.2)) refl $ fsplit ! $ move ! (2 ∷ 0 ∷ []) $
    use2 𝓛 (‵ (room_for (loose (n + pad)) tags)) (loose_glues 𝓛 b s.tag n pad) $ rewrite ! 0 (λ (k : ℕ). ‵ (room_for (loose k) tags)) (omega (arith, less)) refl $
    use2 𝓛 (‵ (units_at tags m)) (apply∗ 𝓤 (sem 𝓛 (room_for (loose m) tags)) (sem 𝓛 (units_at tags m))) $
    rewrite ! 0 (λ (d : ℕ). ‵ (units_at (block_ptr b d) m)) (omega (arith, is.1)) refl $ move ! (1 ∷ 0 ∷ []) $
    use2 𝓛 (‵ (units_at here (n * 16 + m))) (glues 𝓛 b 0 (n * 16) m (omega arith)) $ rewrite ! 0 (λ (k : ℕ). ‵ (units_at here k)) (sym sized.1) refl $
    -- [the memory; nothing; alive]
    regoal ! (λ (us : List Val). prop (WpFn 𝓤 𝓛.H 𝓣.C 𝓣.Λ fn us Post)) (λ j. (granules_told x.bytes x.tags vss.0 are.0.0 ∙ (λ k. granules_val (lies.0 k) (lies.1 k) ∷ [])) j ++
    ((piece_told w.ptr vss.1.0 are.1.0.0 ∙ ap (λ (r : Ptr). piece_val r ∷ []) at) j ++ (are.1.1.0.0 j ++ []))) refl $
    enter ! 𝓣.C 𝓣.Λ fn (granules_val (block_ptr b s.at) tags ∷ piece_val here ∷ vint w64 N ∷ []) Post $
    alloc_all ! (λ l. pass_all ! refl ((tt, (tt, (tt, tt))), ((tt, (tt, tt)), ((tt, record { fits = are.1.1.0.1 }), tt))) $
    sets ! (of_opd ! (get_in ! (fld ! refl (stop !)) (sub ! 0 refl (whole !)))) refl (tt, tt) $
    sets ! (agg ! (and_then ! (get ! refl) (and_then ! (get ! refl) (no_more !)))) refl (tt, (tt, (record { fits = are.1.1.0.1 }, tt))) $
    returns ! (look_at ! 0 refl) $ free_all ! refl $
    let y : (memory.the_row).Denot = record { ptr = here; size = N; sized = (omega (arith, sized.1), sized.0) } in
    let Shown : Type 0 = (N ≡ N) × (here ≡ here) in
    use0 𝓛 (‵ (memory_own here N (memory_val here N ∷ []))) (memory_made 𝓛 here N are.1.1.0.1) $ fjoin ! $ keep ! (0 ∷ 2 ∷ []) $
    use0 𝓛 (raw (fact 𝓤 Shown)) (fact_i 𝓤 Shown (emp 𝓤) (refl, refl)) $ nothing ! $ nothing ! $ fjoin ! $ nothing ! $ fjoin ! $ nothing ! $ fjoin ! $ move ! (3 ∷ 0 ∷ 2 ∷ 1 ∷ []) $
    by ! (leaves 𝓛 ended stays c z (memory_val here N) y (tt, (tt, (tt, tt))) (tt, (tt, (tt, tt)))))))))
