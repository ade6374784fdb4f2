-- `mark` writes the tag of a blank granule. Assumes `Logic`.
use Rattle.vme_arena.proofs.Steps.{◌≡◌, ℕ, suc, ◌+◌, ◌-◌, ◌*◌, ◌<◌, List, [], ◌∷◌, ◌++◌, Bool, true, refl, ap, ◌∙◌, arith, lit<, w8, w64, full_share, SProp, emp, fat, fsep, froom, Fn, ty_int, Val}
use Rattle.vme_arena.proofs.Steps.{vint, vptr, Env, WpFn, fact, fact_i, tables, ‵, raw, ◌⊛◌, prop, at_ret, ◌$◌, ◌∵◌, !, qed, by, move, keep, drop, use0, use1, use2, split, rewrite, regoal, fsplit}
use Rattle.vme_arena.proofs.Steps.{fjoin, fpack, whole, sub, agg, stop, fld, lit, bin, init, of_opd, no_more, and_then, assigns_last, first, blocks, exec, returns, enter, alloc_all, pass_all}
use Rattle.vme_arena.proofs.Steps.{free_all, look_at, get, get_in, through, sets, is, env, owns, Ptr, block_ptr, room_for, types_at, nothing, heard, alive, Stays, stay_dropped, walk_of}
use Rattle.vme_arena.proofs.Steps.{Goes-dropped, Goes-blank, after, proved_at, leaves}
use Rattle.vme_arena.proofs.Parts.{param}
use Rattle.vme_arena.proofs.Values.{granules_val, granules_own, granules_told, granules_made}
use Rattle.vme_arena.proofs.Units.{cuts}
use Rattle.vme_arena.proofs.Homes.{one_home, glue_home}
use Rattle.vme_arena.specs.Ownership.{Spot, homes, homes_at, padding_at, bit, only_if, units_at, loose}
use Rattle.vme_arena.specs.contracts.granules.Granules as granules
use Rattle.vme_arena.specs.contracts.granules.Granules.mark.{ended, clauses}
use Rattle.vme_arena.specs.contracts.granules.Granules.mark.Key.{name as #self}
use Rattle.vme_arena.proofs.granules.Granules.mark.Statement.{statement}
use Rattle.vme_arena.proofs.granules.Granules.mark.Code as compiled

pub mark_spec : {M : Type 1} → statement M
mark_spec 𝓤 𝓛 𝓜 𝓡 wired =
    let fn : Fn = compiled.function in
    let ps = ended.signature.params in
    let stays : Stays ps ended.kept = (stay_dropped (param 0 ps) ended.kept.0, (stay_dropped (param 1 ps) ended.kept.1.0, tt)) in
    let c = clauses 𝓛 𝓜.mem 𝓡.returns in
    let 𝓣 = tables 𝓤 𝓛.H 𝓜 𝓡 𝓡.env in
    proved_at 𝓛 ended stays c 𝓜 𝓡 (Goes-blank 𝓛 0 (param 0 ps) ended.kept.0 (λ κs x f. tt), (Goes-dropped 𝓛 0 (param 1 ps) ended.kept.1.0 (λ κs x f. refl), tt)) #self fn
    (compiled.unfolded 𝓤 𝓛.H 𝓜 𝓡 wired) (λ z are.
    let Post : Val → SProp 𝓤 = (walk_of 𝓛 ended stays c).post z in
    let a = z.0.3 in let vss = z.0.4 in let x = a.0 in let n = x.count in
    let s : Spot = x.spot in
    let b = s.block in
    let lies = x.placed in let low = lies.2 in let high = lies.3 in
    let here : Ptr = block_ptr b s.at in
    let tags : Ptr = block_ptr b s.tag in
    let i = a.1.0 in
    let X = s.at + n * 16 in
    let Y = s.tag + n in
    let p : Ptr = block_ptr b X in
    let Asked : Type 0 = (n ≡ i) × (0 < x.blank) in
    qed 𝓛 ((raw (alive 𝓛 ended.signature z.0.0 z.0.1) ⊛ ‵ (owns (types_at ps z.0.0) a vss)) ∷ raw (fact 𝓤 Asked) ∷ []) ∵ move ! (1 ∷ []) $ heard ! Asked (λ asked. split ! $ move ! (1 ∷ []) $
    let some' = asked.1 in let m = x.blank - 1 in let more : x.blank ≡ suc m = omega arith in
    fsplit ! $ fsplit ! $ drop ! $ fsplit ! $ move ! (1 ∷ []) $ fsplit ! $ move ! (1 ∷ []) $ fsplit ! $
    -- [the tags; the padding; the granules; those at home; nothing; alive]
    rewrite ! 0 (λ (k : ℕ). ‵ (room_for (loose k) (block_ptr b Y))) more refl $
    use1 𝓛 (‵ (froom (ty_int w8) b Y) ⊛ ‵ (room_for (loose m) (block_ptr b (Y + 1)))) (𝓛.laws.room_uncons (ty_int w8) m b Y) $ split ! $ move ! (3 ∷ []) $
    rewrite ! 0 (λ (k : ℕ). ‵ (units_at p k)) (omega (arith, more)) refl $ use1 𝓛 (‵ (units_at p 16) ⊛ ‵ (units_at (block_ptr b (X + 16)) (m * 16))) (cuts 𝓛 b X 16 (m * 16) refl) $ split ! $
    move ! (2 ∷ 0 ∷ 5 ∷ 1 ∷ 3 ∷ 4 ∷ 7 ∷ []) $
    -- [the tag; the granule; those at home; the other granules; their tags; the padding; alive;
    -- nothing]
    regoal ! (λ (us : List Val). prop (WpFn 𝓤 𝓛.H 𝓣.C 𝓣.Λ fn us Post))
    (λ j. (granules_told x.bytes x.tags vss.0 are.0.0 ∙ (λ k. granules_val (lies.0 k) (lies.1 k) ∷ [])) j ++ (are.1.0.0 j ++ [])) refl $
    enter ! 𝓣.C 𝓣.Λ fn (granules_val here tags ∷ vint w64 i ∷ []) Post $
    alloc_all ! (λ l. pass_all ! refl ((tt, (tt, (tt, tt))), ((tt, record { fits = are.1.0.1 }), tt)) $ let En : Env 𝓤 𝓛.H = env fn.locals l in
    sets ! (of_opd ! (get_in ! (fld ! refl (stop !)) (sub ! 0 refl (whole !)))) refl (tt, tt) $
    sets ! (of_opd ! (get_in ! (fld ! refl (stop !)) (sub ! 1 refl (whole !)))) refl (tt, tt) $
    first ! $ blocks ! $
    sets ! (is ! (bin ! (get ! refl) (get ! refl) tt) (ap (vptr b) (omega (arith, asked.0)))) refl (tt, tt) $
    assigns_last ! (of_opd ! (lit ! tt)) (through ! refl (stop !)) (init ! 0 refl (tt, record { fits = lit< tt })) $
    exec ! 𝓣.C 𝓣.Λ En (after 3 fn.body) (at_ret En Post) $
    sets ! (agg ! (and_then ! (get ! refl) (and_then ! (get ! refl) (no_more !)))) refl (tt, (tt, (tt, tt))) $
    returns ! (look_at ! 0 refl) $ free_all ! refl $
    let k = n + 1 in
    fjoin ! $ fpack ! Bool (λ u. fsep (fat full_share (ty_int w8) b Y (vint w8 (bit u))) (only_if u (units_at p 16))) true $ use1 𝓛 (‵ (homes b X Y 1)) (one_home 𝓛 b X Y) $ move ! (1 ∷ 0 ∷ []) $
    use2 𝓛 (‵ (homes_at s k)) (glue_home 𝓛 b n 1 s.at s.tag) $
    -- [those at home; the other granules; their tags; the padding; alive; nothing]
    move ! (3 ∷ []) $ rewrite ! 0 (λ (j : ℕ). ‵ (padding_at s j)) (omega (arith, more)) refl $ move ! (3 ∷ 0 ∷ 2 ∷ 1 ∷ []) $
    rewrite ! 0 (λ (d : ℕ). ‵ (room_for (loose m) (block_ptr b d))) (omega arith) refl $ fjoin ! $ move ! (1 ∷ 0 ∷ []) $
    rewrite ! 0 (λ (d : ℕ). ‵ (units_at (block_ptr b d) (m * 16))) (omega arith) refl $ fjoin ! $ move ! (1 ∷ 0 ∷ []) $ fjoin ! $
    let y : (granules.the_row).Denot = record { bytes = here; tags = tags; count = k; blank = m; spot = s; placed = (refl, refl, omega (arith, more, low), omega (arith, more, high)) } in
    let Shown : Type 0 = (k ≡ i + 1) × (m + 1 ≡ x.blank) × (s ≡ s) in
    use0 𝓛 (‵ (granules_own here tags (granules_val here tags ∷ []))) (granules_made 𝓛 here tags) $ fjoin ! $ keep ! (0 ∷ 1 ∷ []) $
    use0 𝓛 (raw (fact 𝓤 Shown)) (fact_i 𝓤 Shown (emp 𝓤) (omega (arith, asked.0), omega (arith, more), refl)) $ nothing ! $ nothing ! $ fjoin ! $ nothing ! $ fjoin ! $ move ! (3 ∷ 0 ∷ 2 ∷ 1 ∷ []) $
    by ! (leaves 𝓛 ended stays c z (granules_val here tags) y (tt, (tt, tt)) (tt, (tt, tt))))))
