-- `move_to` moves the values to the new room, and makes the old room a piece again. Assumes
-- `Logic`.
use Rattle.vme_arena.proofs.Steps.{◌≡◌, ℕ, ◌+◌, ◌-◌, ◌*◌, ◌^◌, ◌<◌, ◌≤◌, List, [], ◌∷◌, ◌++◌, refl, sym, ap, subst, ◌∙◌, arith, w64, SProp, emp, apply∗, Lft, Share, ftrue, froom, flft, full_share}
use Rattle.vme_arena.proofs.Steps.{Ty, Fn, Val, vint, vunit, ty_array, size, capped, capped_is, Env, WpFn, fact, fact_i, tables, sem, ‵, raw, ◌⊛◌, given, later, prop, settles, at_ret, ◌$◌, ◌∵◌, ! }
use Rattle.vme_arena.proofs.Steps.{qed, by, move, drop, use0, use1, use2, use3, split, split3, join, learn, rewrite, regoal, fsplit, fsplit3, fjoin, fpick, await, whole, sub, agg, stop, fld, of_opd}
use Rattle.vme_arena.proofs.Steps.{no_more, and_then, first, blocks, exec, returns, enter, alloc_all, pass_all, free_all, look_at, get, get_in, sets, lands_last, env, RattleType, owns, Ptr}
use Rattle.vme_arena.proofs.Steps.{block_ptr, types_at, nothing, heard, Tuple, Stays, stay_dropped, walk_of, Goes-blank, Goes-dropped, after, fm, pair_of, pair_val, proved_at, leaves}
use Rattle.vme_arena.proofs.Parts.{param, going_on, leaving}
use mir.Syntax.{Args, a_type, place}
use mir.MapTy.{inst_fn}
use contract.BorrowLft.{◌⊑◌}
use types.Kit.{fjoin3}
use denote.Array.{Array}
use denote.Memory.{part_at}
use denote.Param.{param as parameter, layouts, layout}
use denote.Triple.Call.{calls_at_last}
use Rattle.std.specs.Allocator.{block_with_items}
use Rattle.core.proofs.alloc.Moves.{Copies, at_copies, Copies-goes, Copies-gives}
use Rattle.core.proofs.ptr.Rows.{El, times_below}
use Rattle.core.proofs.ptr.copy_nonoverlapping.Met as callee
use Rattle.vme_arena.specs.Stretch.{LiesIn, block_size}
use Rattle.vme_arena.specs.Ownership.{units_at, token_at}
use Rattle.vme_arena.proofs.Blocks.{hands_at}
use Rattle.vme_arena.proofs.Values.{piece_val, piece_own, piece_told, piece_made, block_val, block_own, block_told, block_made}
use Rattle.vme_arena.proofs.Resizes.{token_tells, block_type, block_bytes, emptied, parted}
use Rattle.vme_arena.specs.contracts.piece.Piece as piece
use Rattle.vme_arena.specs.contracts.block.Block as block
use Rattle.vme_arena.specs.contracts.block.Block.move_to.{ended, clauses}
use Rattle.vme_arena.specs.contracts.block.Block.move_to.Key.{name as #self}
use Rattle.vme_arena.proofs.block.Block.move_to.Statement.{statement}
use Rattle.vme_arena.proofs.block.Block.move_to.Code as compiled

pub move_to_spec : {M : Type 1} → statement M
move_to_spec 𝓤 𝓛 𝓜 𝓡 wired T L =
    let En = ended T in
    let args : Args = layouts (a_type ∷ []) (T, tt) in
    let fn : Fn = inst_fn args compiled.function in
    let ps = En.signature.params in
    let stays : Stays ps En.kept =
    (stay_dropped (param 0 ps) En.kept.0, (stay_dropped (param 1 ps) En.kept.1.0, (stay_dropped (param 2 ps) En.kept.1.1.0, (stay_dropped (param 3 ps) En.kept.1.1.1.0, tt)))) in
    let c = clauses T 𝓛 𝓜.mem 𝓡.returns in
    let 𝓣 = tables 𝓤 𝓛.H 𝓜 𝓡 𝓡.env in
    proved_at 𝓛 En stays c 𝓜 𝓡 (
      Goes-blank 𝓛 1 (param 0 ps) En.kept.0 (λ κs x f. tt),
      (Goes-blank 𝓛 1 (param 1 ps) En.kept.1.0 (λ κs x f. tt), (Goes-dropped 𝓛 1 (param 2 ps) En.kept.1.1.0 (λ κs x f. refl), (Goes-dropped 𝓛 1 (param 3 ps) En.kept.1.1.1.0 (λ κs x f. refl), tt))),
    ) (#self args) fn (compiled.unfolded 𝓤 𝓛.H 𝓜 𝓡 wired (T, tt)) (λ z are.
    let Post : Val → SProp 𝓤 = (walk_of 𝓛 En stays c).post z in
    let a = z.0.3 in let vss = z.0.4 in
    let κ : Lft = z.0.0.0 in
    let q : Share = z.0.1.0 in
    let R : RattleType = parameter 0 T in
    let E : El = record { row = T; laws = L } in
    let τ : Ty = layout T in
    let s = size τ in
    let x = a.0 in let y = a.1.0 in let t = x.stretch in let b = t.block in let len = a.1.1.0 in
    let old = x.cap in let new = a.1.1.1.0 in let xs = x.items in
    let τ₀ : Ty = block_type E old in
    let τ₁ : Ty = block_type E new in
    let m = block_size (size τ₀) in
    let from : Ptr = block_ptr b x.at in
    let to : Ptr = block_ptr b y.at in
    let Within : Type 0 = κ ⊑ T.lives in
    let Roomy : Type 0 = (y.size ≡ block_size (new * s)) × LiesIn t y.at y.size y.ptr × (new * s < 2 ^ 63) in
    let Counts : Type 0 = (len ≡ x.len) × (len ≤ new) × (len ≤ old) in
    qed 𝓛 (((‵ (flft κ q) ⊛ ‵ ftrue) ⊛ ‵ (owns (types_at ps z.0.0) a vss)) ∷ (raw (fact 𝓤 Within) ⊛ raw (fact 𝓤 Roomy) ⊛ raw (fact 𝓤 Counts)) ∷ []) ∵
    move ! (1 ∷ []) $ split3 ! $ heard ! Within (λ le. heard ! Roomy (λ roomy. heard ! Counts (λ counts. split ! $ split ! $ move ! (1 ∷ []) $ drop ! $ move ! (1 ∷ []) $
    let next : y.ptr ≡ to = roomy.1.0.0 in
    let small : new * s < 2 ^ 63 = roomy.2 in
    let sized : size τ₁ ≡ new * s = block_bytes E new in
    let cut : capped (size τ₁) ≡ new * s = ap capped sized ∙ capped_is (new * s) (omega (arith, small)) in
    let placed : LiesIn t y.at (block_size (new * s)) to = subst (λ (u : ℕ × Ptr). LiesIn t y.at u.0 u.1) (λ i. (roomy.0 i, next i)) roomy.1 in
    fsplit ! $ fsplit ! $ drop ! $ move ! (1 ∷ []) $ fsplit ! $ fsplit ! $ drop ! $ move ! (1 ∷ []) $ drop ! $
    rewrite ! 0 (λ (u : Ptr × ℕ). ‵ (units_at u.0 u.1)) (λ i. (next i, roomy.0 i)) refl $ move ! (1 ∷ []) $
    rewrite ! 0 (λ (j : ℕ). ‵ (block_with_items (token_at t x.at) R x.ptr j old xs)) (sym counts.0) refl $
    fsplit3 ! $ move ! (2 ∷ []) $ token_tells ! t x.at τ₀ x.ptr (λ lies. move ! (1 ∷ 2 ∷ 0 ∷ []) $ fjoin3 ! $
    rewrite ! 0 (λ (p : Ptr). ‵ (block_with_items (token_at t x.at) R p len old xs)) lies.0.0 refl $ fsplit3 ! $ move ! (3 ∷ []) $
    -- [the new bytes; the values; the room after them; the token; the lifetime]
    regoal ! (λ (us : List Val). prop (WpFn 𝓤 𝓛.H 𝓣.C 𝓣.Λ fn us Post)) (λ i. (block_told x.ptr vss.0 are.0.0 ∙ ap (λ (p : Ptr). block_val p ∷ []) lies.0.0) i ++
    ((piece_told y.ptr vss.1.0 are.1.0.0 ∙ ap (λ (p : Ptr). piece_val p ∷ []) next) i ++ (are.1.1.0.0 i ++ (are.1.1.1.0.0 i ++ [])))) refl $
    enter ! 𝓣.C 𝓣.Λ fn (block_val from ∷ piece_val to ∷ vint w64 len ∷ vint w64 new ∷ []) Post $
    alloc_all ! (λ l. pass_all ! refl ((tt, (tt, (tt, tt))), ((tt, (tt, tt)), ((tt, record { fits = are.1.1.0.1 }), ((tt, record { fits = are.1.1.1.0.1 }), tt)))) $
    let here : Env 𝓤 𝓛.H = env fn.locals l in
    use1 𝓛 (‵ (froom τ₁ b y.at) ⊛ ‵ (token_at t y.at τ₁ to)) (hands_at 𝓛 t τ₁ y.at (new * s) cut placed small) $ split ! $
    use1 𝓛 (‵ (froom (ty_array τ len) b y.at) ⊛ ‵ (froom (block_type E (new - len)) b (y.at + len * s))) (parted E 𝓛 len new b y.at counts.1) $ split ! $ move ! (3 ∷ 0 ∷ 6 ∷ []) $
    sets ! (of_opd ! (get_in ! (fld ! refl (stop !)) (sub ! 0 refl (whole !)))) refl (tt, tt) $
    sets ! (of_opd ! (get_in ! (fld ! refl (stop !)) (sub ! 1 refl (whole !)))) refl (tt, tt) $
    sets ! (of_opd ! (get_in ! (fld ! refl (stop !)) (sub ! 0 refl (whole !)))) refl (tt, tt) $
    sets ! (of_opd ! (get ! refl)) refl (tt, tt) $
    first ! $ blocks ! $
    let k = at_copies T 𝓛 𝓜.mem 𝓡.returns κ q b x.at b y.at len xs in
    use3 𝓛 (raw ((Copies T 𝓛 𝓜.mem 𝓡.returns).pre k)) (Copies-goes T 𝓛 𝓜.mem 𝓡.returns κ q b x.at b y.at len xs le are.1.1.0.1 (times_below len new s (2 ^ 63) counts.1 small)) $
    calls_at_last ! (fm 𝓛 𝓜 𝓡) (Copies T 𝓛 𝓜.mem 𝓡.returns) (callee.met 𝓤 𝓛 𝓜 𝓡 (compiled.calls-core::ptr::copy_nonoverlapping 𝓡.env wired) T L) k
    (and_then ! (get ! refl) (and_then ! (get ! refl) (and_then ! (get ! refl) (no_more !)))) (λ u.
    use1 𝓛 (later (given (u ≡ vunit) (‵ (part_at (Array R len) full_share xs b y.at) ⊛ ‵ (froom (ty_array τ len) b x.at) ⊛ ‵ (flft κ q))))
    (Copies-gives T 𝓛 𝓜.mem 𝓡.returns κ q b x.at b y.at len xs u) $
    await ! tt $ learn ! (λ e. split3 ! $ regoal ! (λ (w : Val). settles here (place 10 []) w
    (leaving 𝓛 (going_on 𝓛 𝓣.C 𝓣.Λ here (after 5 fn.body) (at_ret here Post)))) e refl $ lands_last ! refl (tt, tt) $
    exec ! 𝓣.C 𝓣.Λ here (after 5 fn.body) (at_ret here Post) $
    sets ! (of_opd ! (get ! refl)) refl (tt, tt) $
    sets ! (agg ! (and_then ! (get ! refl) (no_more !))) refl (tt, (tt, tt)) $
    sets ! (agg ! (and_then ! (get ! refl) (and_then ! (get ! refl) (no_more !)))) refl (tt, (tt, (tt, tt))) $
    sets ! (agg ! (and_then ! (get ! refl) (and_then ! (get ! refl) (no_more !)))) refl (tt, ((tt, (tt, tt)), ((tt, tt), tt))) $
    -- [the values; the old room; the lifetime; the new rest; the new token; the old rest; the old
    -- token]
    move ! (1 ∷ 5 ∷ []) $ use2 𝓛 (‵ (froom (ty_array τ old) b x.at)) (emptied E 𝓛 len old b x.at counts.2) $ use1 𝓛 (‵ (froom τ₀ b x.at)) (𝓛.laws.room-raw (ty_array τ old) b x.at) $ move ! (5 ∷ []) $
    fpick ! (λ _. move ! (1 ∷ 0 ∷ []) $ use2 𝓛 (‵ (units_at from m)) (apply∗ 𝓤 (sem 𝓛 (froom τ₀ b x.at)) (sem 𝓛 (units_at from m))) $
    returns ! (look_at ! 0 refl) $ free_all ! refl $
    -- [the old bytes; the values; the lifetime; the new rest; the new token]
    let r : (block.the_row R).Denot = record { ptr = to; marker = record {}; stretch = t; at = y.at; len = len; cap = new; items = xs } in
    let back : (piece.the_row).Denot = record { ptr = from; block = b; at = x.at; size = m; placed = (refl, lies.0.1, lies.0.2) } in
    let v : Val = pair_val (block_val to) (piece_val from) in
    let Moved : Type 0 = (t ≡ t) × (len ≡ len) × (new ≡ new) × (xs ≡ xs) in
    let Back : Type 0 = (m ≡ block_size (old * s)) × LiesIn t x.at m from × (b ≡ b) in
    use0 𝓛 (‵ (piece_own from (piece_val from ∷ []))) (piece_made 𝓛 from) $ fjoin ! $ move ! (1 ∷ 3 ∷ 4 ∷ []) $ fjoin3 ! $
    use0 𝓛 (‵ (block_own to (block_val to ∷ []))) (block_made 𝓛 to) $ fjoin ! $
    use2 𝓛 (‵ ((Tuple (block.the_row R ∷ piece.the_row ∷ [])).own_val (r, back) (v ∷ []))) (pair_of 𝓛 (block.the_row R) piece.the_row r back (block_val to) (piece_val from)) $
    use0 𝓛 (raw (fact 𝓤 Back)) (fact_i 𝓤 Back (emp 𝓤) (ap block_size (block_bytes E old), ((refl, lies.0.1, lies.0.2), lies.1, lies.2, lies.3), refl)) $
    use0 𝓛 (raw (fact 𝓤 Moved)) (fact_i 𝓤 Moved (emp 𝓤) (refl, refl, refl, refl)) $ join ! $
    nothing ! $ nothing ! $ fjoin ! $ nothing ! $ fjoin ! $ nothing ! $ fjoin ! $ nothing ! $ fjoin ! $ nothing ! $ move ! (4 ∷ 0 ∷ []) $ join ! $ move ! (0 ∷ 1 ∷ 3 ∷ []) $
    by ! (leaves 𝓛 En stays c z v (r, back) (tt, (tt, (tt, (tt, tt)))) (tt, (tt, (tt, (tt, tt))))))))))))))
