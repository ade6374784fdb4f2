-- `lend` lends what the region's granules own for the rest of the borrow. Assumes `Logic`.
use Rattle.vme_arena.proofs.Steps.{◌≡◌, List, [], ◌∷◌, ◌++◌, refl, ◌∙◌, arith, full_share, SProp, emp, id⊢, Lft, Share, Fml, ftrue, fat, flft, fbor, Fn, Val, vptr, Env, WpFn, fact, fact_i, tables}
use Rattle.vme_arena.proofs.Steps.{‵, raw, ◌⊛◌, later, prop, ◌$◌, ◌∵◌, !, qed, by, move, keep, drop, use0, use1, use2, use3, split, join, rewrite, regoal, fsplit, fsplit3, fjoin, await, whole, sub}
use Rattle.vme_arena.proofs.Steps.{agg, look_in, stop, fld, load, of_opd, no_more, and_then, returns, enter, alloc_all, pass_all, free_all, look_at, get, through, sets, env, RattleType, owns, Ptr}
use Rattle.vme_arena.proofs.Steps.{block_ptr, types_at, type_at, nothing, Stays, stay_dropped, walk_of, Goes-dropped, proved_at, leaves}
use Rattle.vme_arena.proofs.Parts.{param}
use types.Tokens.{name_done, name_new}
use denote.Follow.{follows, follows_said}
use denote.Memory.{cell_at}
use denote.Shadow.{pure_l}
use denote.Steps.{opens}
use Rattle.vme_arena.proofs.Values.{granules_val, granules_own, granules_told, granules_made, loan_val, loan_own, loan_made}
use mir.Val.{vstruct, of_list}
use types.Kit.{fpick, feq_l}
use Rattle.vme_arena.proofs.LentRegion.{lends, region_type, region_val}
use Rattle.vme_arena.specs.Ownership.{Spot, homes_at}
use Rattle.vme_arena.specs.contracts.region.Region as region
use Rattle.vme_arena.specs.contracts.region.Region.lend.{ended, clauses}
use Rattle.vme_arena.specs.contracts.region.Region.lend.Key.{name as #self}
use Rattle.vme_arena.proofs.region.Region.lend.Statement.{statement}
use Rattle.vme_arena.proofs.region.Region.lend.Code as compiled

pub lend_spec : {M : Type 1} → statement M
lend_spec 𝓤 𝓛 𝓜 𝓡 wired =
    let fn : Fn = compiled.function in
    let ps = ended.signature.params in
    let stays : Stays ps ended.kept = (stay_dropped (param 0 ps) ended.kept.0, tt) in
    let c = clauses 𝓛 𝓜.mem 𝓡.returns in
    let 𝓣 = tables 𝓤 𝓛.H 𝓜 𝓡 𝓡.env in
    proved_at 𝓛 ended stays c 𝓜 𝓡 (Goes-dropped 𝓛 1 (param 0 ps) ended.kept.0 (λ κs x f. refl), tt) #self fn (compiled.unfolded 𝓤 𝓛.H 𝓜 𝓡 wired) (λ z are.
    let Post : Val → SProp 𝓤 = (walk_of 𝓛 ended stays c).post z in
    let a = z.0.3 in let vss = z.0.4 in
    let κ : Lft = z.0.0.0 in
    let q : Share = z.0.1.0 in
    let R : RattleType = region.the_row in
    let b = a.0.ref_ptr.0 in let o = a.0.ref_ptr.1 in let x = a.0.now in let y = x.granules in
    let γ = a.0.ghost_name in let n = y.count in
    let s : Spot = y.spot in
    let Home : Fml = homes_at s n in
    let lies = y.placed in let low = lies.2 in let high = lies.3 in
    let here : Ptr = block_ptr s.block s.at in
    let tags : Ptr = block_ptr s.block s.tag in
    let g : Val = granules_val here tags in
    let u : Val = loan_val here tags in
    qed 𝓛 (((‵ (flft κ q) ⊛ ‵ ftrue) ⊛ ‵ (owns (types_at ps z.0.0) a vss)) ∷ ‵ ftrue ∷ []) ∵ move ! (1 ∷ []) $ drop ! $ split ! $ split ! $
    move ! (2 ∷ []) $ fsplit ! $ fsplit3 ! $ drop ! $ move ! (0 ∷ 1 ∷ 3 ∷ []) $
    regoal ! (λ (us : List Val). prop (WpFn 𝓤 𝓛.H 𝓣.C 𝓣.Λ fn us Post)) (λ i. are.0.0 i ++ []) refl $
    enter ! 𝓣.C 𝓣.Λ fn (vptr b o ∷ []) Post $
    alloc_all ! (λ l. pass_all ! refl ((tt, tt), tt) $ let En : Env 𝓤 𝓛.H = env fn.locals l in
    opens ! tt R {κ = κ} {q = q} {h = x} {γ = γ} b o (λ us. move ! (1 ∷ []) $ fpick ! (λ ws. fsplit ! $ feq_l ! (λ e. fsplit ! $ fsplit ! $
    pure_l ! (granules_own y.bytes y.tags ws.0) (λ w. let told = granules_told y.bytes y.tags ws.0 w ∙ (λ i. granules_val (lies.0 i) (lies.1 i) ∷ []) in
    let v : Val = region_val g ws.1.0 in fsplit ! $
    -- [those at home; the blank ones; the origin; the cell; the open borrow, in three entries]
    rewrite ! 3 (λ (xs : List Val). ‵ (cell_at full_share R.mir xs b o)) (e ∙ (λ i. vstruct (of_list (told i ++ (ws.1.0 ++ []))) ∷ [])) refl $
    move ! (3 ∷ 0 ∷ 1 ∷ 2 ∷ []) $ use1 𝓛 (‵ (fat full_share region_type b o v)) (id⊢ 𝓤 _) $
    sets ! (of_opd ! (load ! (through ! refl (fld ! refl (fld ! refl (stop !)))) (look_in ! 0 (sub ! 0 refl (sub ! 0 refl (whole !)))))) refl (tt, tt) $
    sets ! (of_opd ! (load ! (through ! refl (fld ! refl (fld ! refl (stop !)))) (look_in ! 0 (sub ! 1 refl (sub ! 0 refl (whole !)))))) refl (tt, tt) $
    sets ! (agg ! (no_more !)) refl (tt, tt) $
    sets ! (agg ! (and_then ! (get ! refl) (and_then ! (get ! refl) (and_then ! (get ! refl) (no_more !))))) refl (tt, (tt, (tt, (tt, tt)))) $
    use0 𝓛 (‵ (granules_own y.bytes y.tags (granules_val y.bytes y.tags ∷ []))) (granules_made 𝓛 y.bytes y.tags) $
    rewrite ! 0 (λ (r : Ptr × Ptr). ‵ (granules_own y.bytes y.tags (granules_val r.0 r.1 ∷ []))) (λ i. (lies.0 i, lies.1 i)) refl $
    -- [the fields; the cell; those at home; the blank ones; the origin; the open borrow, in three
    -- entries]
    move ! (1 ∷ 7 ∷ []) $ join ! $ move ! (4 ∷ 0 ∷ []) $ join ! $ move ! (1 ∷ 0 ∷ []) $ join ! $ move ! (2 ∷ 0 ∷ []) $ join ! $ move ! (2 ∷ 1 ∷ 0 ∷ []) $
    use3 𝓛 (later (‵ (fbor κ Home) ⊛ ‵ (flft κ q))) (lends 𝓛 κ q x b o γ g ws.1.0) $ await ! tt $ split ! $
    -- [the borrow; the token; the last value of self]
    move ! (2 ∷ []) $ name_done ! tt $ name_new ! tt (R.coded.code x) (λ γ'. drop ! $ move ! (1 ∷ 0 ∷ []) $
    use2 𝓛 (‵ (follows R R γ γ' (λ _. x))) (follows_said 𝓛 R γ γ' x x) $
    returns ! (look_at ! 0 refl) $ free_all ! refl $
    let L : RattleType = type_at ended.signature.result z.0.0 in
    let d : L.Denot = record { bytes = here; tags = tags; marker = record {}; count = n; spot = s; placed = (refl, refl, omega arith, omega arith); name = γ' } in
    let Shown : Type 0 = (n ≡ n) × (s ≡ s) in
    move ! (1 ∷ []) $ use0 𝓛 (‵ (loan_own here tags (u ∷ []))) (loan_made 𝓛 here tags) $ fjoin ! $
    keep ! (2 ∷ 4 ∷ 0 ∷ 1 ∷ []) $ join ! $ move ! (2 ∷ []) $ use0 𝓛 (raw (fact 𝓤 Shown)) (fact_i 𝓤 Shown (emp 𝓤) (refl, refl)) $
    join ! $ nothing ! $ nothing ! $ fjoin ! $ move ! (2 ∷ 0 ∷ 3 ∷ 1 ∷ []) $
    by ! (leaves 𝓛 ended stays c z u d (tt, tt) (tt, tt)))))))))
