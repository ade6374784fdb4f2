-- A block with values in it grows after its end, and becomes one for fewer values. Assumes `Logic`.
use Rattle.std.proofs.Common.{◌≡◌, ℕ, ◌+◌, ◌-◌, ◌*◌, ◌%◌, ◌^◌, ◌<◌, ◌≤◌, List, [], ◌∷◌, refl, sym, ap, subst, ◌∙◌, arith}
use seplogic.Ra.Ura.{Ura}
use mir.Syntax.{Ty, ty_array}
use mir.Raw.{raw as bare}
use prog.Memory.{size}
use prog.RawLaws.{size-raw}
use base.Logic.{SProp, ent, sep, wand, apply∗}
use base.Fml.{Fml, fwand, froom}
use types.Logic.{Logic, sem}
use types.Kit.{Item, Goal, Seq, ‵, raw, ◌⊛◌, ◌$◌, ◌∵◌, !, qed, by, move, use1, use2, split, fsplit3, fjoin3, fpick, fpack, assume, frame, rewrite, done}
use denote.RattleType.{RattleType}
use denote.Param.{param, layout}
use denote.RawPtr.{Ptr, block_ptr, room_for}
use Rattle.std.specs.Allocator.{block_with_items}
use Rattle.core.proofs.ptr.Rows.{El, room_split, glued, add_times}
use Rattle.vme_arena.specs.Stretch.{Stretch, LiesIn, block_size}
use Rattle.vme_arena.specs.Ownership.{units_at, units_of, token_at}
use Rattle.vme_arena.proofs.Blocks.{slim}
use Rattle.vme_arena.proofs.Units.{serves, glues}

-- the token says where the block lies, and the token is kept
module _ {M : Type 1} {𝓤 : Ura M} {𝓛 : Logic 𝓤} {K : Type 0} {Γ : List (Item 𝓤)} {G : Goal 𝓤 𝓛.H} where
  pub token_tells : K → (t : Stretch) (at : ℕ) (τ : Ty) (p : Ptr) → (LiesIn t at (block_size (size τ)) p → Seq K 𝓛 (‵ (token_at t at τ p) ∷ Γ) G) → Seq K 𝓛 (‵ (token_at t at τ p) ∷ Γ) G
  token_tells k t at τ p next =
      let m = block_size (size τ) in
      fpick k (λ lies. fpack k (LiesIn t at m p) (λ _. fwand (room_for τ p) (units_at p m)) lies $ next lies)

module _ (E : El) where
  abbrev τ : Ty
  τ = layout E.row

  abbrev s : ℕ
  s = size τ

  abbrev R : RattleType
  R = param 0 E.row

  -- the type of room for n values, as a block has it
  abbrev pub block_type : ℕ → Ty
  block_type n = bare (ty_array τ n)

  pub block_bytes : (n : ℕ) → size (block_type n) ≡ n * s
  block_bytes n = size-raw (ty_array τ n)

  spread : (m n : ℕ) → m ≤ n → n * s ≡ m * s + (n - m) * s
  spread m n le = ap (λ (k : ℕ). k * s) (omega (arith, le)) ∙ add_times m (n - m) s

  module _ {M : Type 1} {𝓤 : Ura M} (𝓛 : Logic 𝓤) where
    open 𝓛 use {H}

    abbrev Pr : Type 2
    Pr = SProp 𝓤

    abbrev ◌⊢◌ : Pr → Pr → Type 1
    P ⊢ Q = ent 𝓤 P Q

    abbrev ◌∗◌ : Pr → Pr → Pr
    P ∗ Q = sep 𝓤 P Q

    abbrev ◌-∗◌ : Pr → Pr → Pr
    P -∗ Q = wand 𝓤 P Q

    infix 26 ◌⊢◌
    infixr 35 ◌∗◌
    infixr 30 ◌-∗◌
    abbrev room : ℕ → ℕ → ℕ → Pr
    room n b o = H.room (ty_array τ n) b o

    -- the places of the values and those after them
    pub emptied : (len cap b o : ℕ) → len ≤ cap → room len b o ∗ H.room (block_type (cap - len)) b (o + len * s) ⊢ room cap b o
    emptied len cap b o le =
        qed 𝓛 (raw (room len b o) ∷ ‵ (froom (block_type (cap - len)) b (o + len * s)) ∷ []) ∵ move ! (1 ∷ []) $
        use1 𝓛 (raw (room (cap - len) b (o + len * s))) (𝓛.laws.raw-room (ty_array τ (cap - len)) b (o + len * s)) $ move ! (1 ∷ 0 ∷ []) $ by ! (glued E 𝓛 len (cap - len) cap b o (omega (arith, le)))

    pub parted : (len cap b o : ℕ) → len ≤ cap → H.room (block_type cap) b o ⊢ room len b o ∗ H.room (block_type (cap - len)) b (o + len * s)
    parted len cap b o le =
        qed 𝓛 (‵ (froom (block_type cap) b o) ∷ []) ∵ use1 𝓛 (raw (room cap b o)) (𝓛.laws.raw-room (ty_array τ cap) b o) $
        use1 𝓛 (raw (room len b o) ⊛ raw (room (cap - len) b (o + len * s))) (room_split E 𝓛 len cap b o le) $ split ! $ frame ! $ by ! (𝓛.laws.room-raw (ty_array τ (cap - len)) b (o + len * s))

    module _ (t : Stretch) (at : ℕ) where
      abbrev b : ℕ
      b = t.block

      abbrev here : Ptr
      here = block_ptr b at

      abbrev block : ℕ → ℕ → List E.row.Denot → Fml
      block len cap xs = block_with_items (token_at t at) R here len cap xs

      -- the bytes of a block for cap values, and its way back to units
      abbrev bytes : ℕ → ℕ
      bytes cap = block_size (size (block_type cap))

      abbrev way : ℕ → Fml
      way cap = fwand (froom (block_type cap) b at) (units_at here (bytes cap))

      pub narrowed : (len old new : ℕ) (xs : List E.row.Denot) → len ≤ new → new ≤ old → block_size (new * s) ≡ block_size (old * s) → sem 𝓛 (block len old xs) ⊢ sem 𝓛 (block len new xs)
      narrowed len old new xs le le' same =
          let far : at + len * s + (new - len) * s ≡ at + new * s = omega (arith, spread len new le) in
          let left : old - len - (new - len) ≡ old - new = omega (arith, le) in
          let alike : bytes old ≡ bytes new = ap block_size (block_bytes old) ∙ sym same ∙ ap block_size (sym (block_bytes new)) in
          qed 𝓛 (‵ (block len old xs) ∷ []) ∵ fsplit3 ! $ move ! (1 ∷ []) $
          use1 𝓛 (raw (room (new - len) b (at + len * s)) ⊛ ‵ (froom (block_type (old - len - (new - len))) b (at + len * s + (new - len) * s)))
          (parted (new - len) (old - len) b (at + len * s) (omega (arith, le, le'))) $ split ! $
          use1 𝓛 (‵ (froom (block_type (new - len)) b (at + len * s))) (𝓛.laws.room-raw (ty_array τ (new - len)) b (at + len * s)) $
          rewrite ! 1 (λ (u : ℕ × ℕ). ‵ (froom (block_type u.0) b u.1)) (λ i. (left i, far i)) refl $ move ! (3 ∷ 1 ∷ []) $
          fpick ! (λ lies. use2 𝓛 (‵ (way new))
          (qed 𝓛 (‵ (way old) ∷ ‵ (froom (block_type (old - new)) b (at + new * s)) ∷ []) ∵ assume ! (‵ (froom (block_type new) b at)) $
          use1 𝓛 (raw (room new b at)) (𝓛.laws.raw-room (ty_array τ new) b at) $
          move ! (0 ∷ 2 ∷ []) $ use2 𝓛 (raw (room old b at)) (emptied new old b at le') $ use1 𝓛 (‵ (froom (block_type old) b at)) (𝓛.laws.room-raw (ty_array τ old) b at) $
          use2 𝓛 (‵ (units_at here (bytes old))) (apply∗ 𝓤 (sem 𝓛 (froom (block_type old) b at)) (sem 𝓛 (units_at here (bytes old)))) $
          rewrite ! 0 (λ (k : ℕ). ‵ (units_at here k)) alike refl $ done !) $
          fpack ! (LiesIn t at (bytes new) here) (λ _. way new) (subst (λ (k : ℕ). LiesIn t at k here) alike lies) $ move ! (2 ∷ 1 ∷ 0 ∷ []) $ fjoin3 ! $ done !)

      -- no bytes lie between the size of the block and its rounding, so the k bytes after it begin
      -- where its room ends
      pub extended : (len old new k : ℕ) (xs : List E.row.Denot) → len ≤ old → old ≤ new →
          block_size (old * s) ≡ old * s → old * s + k ≡ block_size (new * s) → at + old * s + k < 2 ^ 63 → at + old * s + k ≤ t.end
          → sem 𝓛 (block len old xs) ∗ sem 𝓛 (units_at (block_ptr b (at + old * s)) k) ⊢ sem 𝓛 (block len new xs)
      extended len old new k xs le le' full sized short inside =
          let x : ℕ = at + old * s in
          let more : ℕ = new - old in
          let far : x ≡ at + len * s + (old - len) * s = omega (arith, spread len old le) in
          let level : old * s % 16 ≡ 0 = omega (arith, full) in
          let even : k % 16 ≡ 0 = omega (arith, level, sized) in
          let fits : more * s ≤ k = omega (arith, spread old new le', sized) in
          let before : bytes old ≡ old * s = ap block_size (block_bytes old) ∙ full in
          let after : old * s + k ≡ bytes new = sized ∙ ap block_size (sym (block_bytes new)) in
          let Back : Pr = room more b x -∗ H.room (units_of k) b x in
          qed 𝓛 (‵ (block len old xs) ∷ ‵ (units_at (block_ptr b x) k) ∷ []) ∵ move ! (1 ∷ []) $
          use1 𝓛 (raw (room more b x) ⊛ raw Back) (serves 𝓛 b (ty_array τ more) x k even fits (slim (ty_array τ more))) $ split ! $ move ! (2 ∷ []) $ fsplit3 ! $ move ! (1 ∷ 3 ∷ []) $
          -- [the room after the values; the new room; the values; the token; the new room's way
          -- back]
          use1 𝓛 (raw (room (old - len) b (at + len * s))) (𝓛.laws.raw-room (ty_array τ (old - len)) b (at + len * s)) $ rewrite ! 1 (λ (d : ℕ). raw (room more b d)) far refl $
          use2 𝓛 (raw (room (new - len) b (at + len * s))) (glued E 𝓛 (old - len) more (new - len) b (at + len * s) (omega (arith, le, le'))) $
          use1 𝓛 (‵ (froom (block_type (new - len)) b (at + len * s))) (𝓛.laws.room-raw (ty_array τ (new - len)) b (at + len * s)) $ move ! (2 ∷ 3 ∷ []) $
          fpick ! (λ lies. use2 𝓛 (‵ (way new))
          (qed 𝓛 (‵ (way old) ∷ raw Back ∷ []) ∵ assume ! (‵ (froom (block_type new) b at)) $ use1 𝓛 (raw (room new b at)) (𝓛.laws.raw-room (ty_array τ new) b at) $
          use1 𝓛 (raw (room old b at) ⊛ raw (room more b x)) (room_split E 𝓛 old new b at le') $ split ! $ use1 𝓛 (‵ (froom (block_type old) b at)) (𝓛.laws.room-raw (ty_array τ old) b at) $
          move ! (0 ∷ 2 ∷ []) $ use2 𝓛 (‵ (units_at here (bytes old)))
          (apply∗ 𝓤 (sem 𝓛 (froom (block_type old) b at)) (sem 𝓛 (units_at here (bytes old)))) $ rewrite ! 0 (λ (j : ℕ). ‵ (units_at here j)) before refl $
          move ! (1 ∷ 2 ∷ []) $ use2 𝓛 (‵ (units_at (block_ptr b x) k)) (apply∗ 𝓤 (room more b x) (sem 𝓛 (units_at (block_ptr b x) k))) $ move ! (1 ∷ 0 ∷ []) $
          use2 𝓛 (‵ (units_at here (old * s + k))) (glues 𝓛 b at (old * s) k level) $ rewrite ! 0 (λ (j : ℕ). ‵ (units_at here j)) after refl $ done !) $
          fpack ! (LiesIn t at (bytes new) here) (λ _. way new)
          (subst (λ (j : ℕ). LiesIn t at j here) after ((refl, omega (arith, short), omega (arith, level, even)), lies.1, omega (arith, inside), lies.3)) $
          move ! (2 ∷ 1 ∷ 0 ∷ []) $ fjoin3 ! $ done !)
