-- The turns of the boards, where those that may not move are passed over: `Driving::take_slots`.
use Rattle.std.proofs.Common.{◌≡◌, ◌∙◌, refl, sym, ap, subst, ℕ, zero, suc, ◌<◌, ◌≤◌, ◌%◌, Bool, true, false, List, [], ◌∷◌, ◌++◌, length, map, filter, Option, Some, None, slice_get, arith, inl, inr, ltb}
use Rattle.std.specs.Prelude.{◌&&◌, if◌then◌else◌, is_some, is_ok}
use Rattle.std.specs.List.{flat_map}
use Rattle.std.specs.Option.{option_map_or}
use Rattle.std.proofs.lemmas.List.{map-append}
use Rattle.std.proofs.lemmas.List.Elements.{filter-append}
use Rattle.std.proofs.lemmas.Bool.{cases_Bool}
use Rattle.std.proofs.lemmas.Bool.Decides.{nat_tests}
use Rattle.vme_model.specs.declared.boards.Row.{Row}
use Rattle.vme_model.specs.declared.signals.Driver.{Driver}
use Rattle.vme_model.specs.declared.signals.Driver.TheVariants.{Slot}
use Rattle.vme_model.specs.declared.signals.Wire.{Wire}
use Rattle.vme_model.specs.declared.signals.Wire.TheVariants.{Addr}
use Rattle.vme_model.specs.declared.signals.Edge.{Edge}
use Rattle.vme_model.specs.Signals.{is_well_formed}
use Rattle.vme_model.specs.Plan.{Plan, board, up_to, drives, has_driver}
use Rattle.vme_model.specs.Accepted.{IsAccepted}
use Rattle.vme_model.specs.History.{drive}
use Rattle.vme_model.specs.Verdict.{State, verdict}
use Rattle.vme_model.specs.Offers.{wires, turned, going_on, considered, offered, turn, turns}
use Rattle.vme_model.proofs.Ranges.{IsRowInRange, in_range}
use Rattle.vme_model.proofs.Members.{found_row}
use Rattle.vme_trace.specs.Writing.{AppendsFront}
use Rattle.vme_reading.specs.Texts.{lines_made}
use Rattle.vme_drive.specs.Driving.{boards}
use Rattle.vme_drive.proofs.DriveRounds.{later, turn_none}
use Rattle.vme_drive.proofs.ListedLines.{IsBefore, itself, before_both, front_later}
use Rattle.vme_drive.proofs.DrivenLines.{before_turn}

-- ---- who has no board has no offer

-- no slot beyond the last has a board
no_board : (p : Plan) (s : ℕ) → IsAccepted p → p.slots < s → board p s ≡ None
no_board p s ok far = by_board (board p s) refl
  where
    by_board : (o : Option Row) → board p s ≡ o → o ≡ None
    by_board None is = refl
    by_board (Some r) is =
        let range = in_range p ok in
        let f = found_row (IsRowInRange p) p.rows s r range.rows is in
        let to = f.fact.to_last in
        let same = f.slot in
        absurd (omega arith)

shut : (a b : Bool) → b ≡ false → (a && b) ≡ false
shut true b e = e
shut false b e = refl

module _ (b : State) (s : ℕ) (none : board b.plan s ≡ None) where
  -- an edge of such a slot is refused by E1
  no_driver : (e : Edge) → e.driver ≡ Slot s → is_ok (verdict b e) ≡ false
  no_driver e is =
      let never : has_driver b.plan e.driver e.wire ≡ false = ap (λ (d : Driver). has_driver b.plan d e.wire) is ∙ ap (λ (o : Option Row). option_map_or (drives e.wire) o false) none in
      rw (shut (is_well_formed e) (has_driver b.plan e.driver e.wire) never) refl

  abbrev accepted : List Edge → List Edge
  accepted es = filter (λ e. is_ok (verdict b e)) es

  one_refused : (w : Wire) → accepted (turned b.history (Slot s) w ∷ []) ≡ []
  one_refused w = rw (no_driver (turned b.history (Slot s) w) refl) refl

  goes_not_on : (low : Bool) → accepted (if low then turned b.history (Slot s) Addr ∷ [] else going_on b.plan b.history (Slot s)) ≡ []
  goes_not_on true = one_refused Addr
  goes_not_on false = rw none refl

  none_considered : (w : Wire) → accepted (considered b.plan b.history (Slot s) w) ≡ []
  none_considered Addr = goes_not_on (drive b.history (Slot s) Addr)
  none_considered w = one_refused w

  none_of : (ws : List Wire) → accepted (flat_map (considered b.plan b.history (Slot s)) ws) ≡ []
  none_of [] = refl
  none_of (w ∷ ws) =
      filter-append (λ e. is_ok (verdict b e)) (considered b.plan b.history (Slot s) w) (flat_map (considered b.plan b.history (Slot s)) ws)
      ∙ ap (λ es. es ++ accepted (flat_map (considered b.plan b.history (Slot s)) ws)) (none_considered w) ∙ none_of ws

  -- nothing is offered to it
  none_without_board : offered b (Slot s) ≡ []
  none_without_board = none_of (wires (Slot s))

-- ---- turns

idle : (r n : ℕ) (b : State) (s : ℕ) → offered b (Slot s) ≡ [] → turn r n b (Slot s) ≡ b
idle r n b s none = sym (turn_none r n b (Slot s) (ap (λ (es : List Edge). slice_get es (r % length es)) none))

turns_both : (r n : ℕ) (b : State) (xs ys : List Driver) → turns r n b (xs ++ ys) ≡ turns r n (turns r n b xs) ys
turns_both r n b [] ys = refl
turns_both r n b (d ∷ xs) ys = turns_both r n (turn r n b d) xs ys

module _ (r n : ℕ) (b : State) where
  -- after the turns of the slots 1 to m
  abbrev pub up_to_slot : ℕ → State
  up_to_slot zero = b
  up_to_slot (suc m) = turn r n (up_to_slot m) (Slot (suc m))

  plan_at : (m : ℕ) → (up_to_slot m).plan ≡ b.plan
  plan_at zero = refl
  plan_at (suc m) = (later r n (up_to_slot m) (Slot (suc m) ∷ [])).plan ∙ plan_at m

  -- a slot without a board does not count
  one_more : (m : ℕ) (o : Option Row) → board b.plan (suc m) ≡ o
      → turns r n (up_to_slot m) (map (λ s. Slot s) (if is_some o then suc m ∷ [] else [])) ≡ up_to_slot (suc m)
  one_more m (Some row) is = refl
  one_more m None is = sym (idle r n (up_to_slot m) (suc m) (none_without_board (up_to_slot m) (suc m) (ap (λ (p : Plan). board p (suc m)) (plan_at m) ∙ is)))

  boards_in_turn : (m : ℕ) → turns r n b (map (λ s. Slot s) (filter (λ s. is_some (board b.plan s)) (up_to m))) ≡ up_to_slot m
  boards_in_turn zero = refl
  boards_in_turn (suc m) =
      let test : ℕ → Bool = λ s. is_some (board b.plan s) in
      ap (λ (xs : List ℕ). turns r n b (map (λ s. Slot s) xs)) (filter-append test (up_to m) (suc m ∷ []))
      ∙ ap (turns r n b) (map-append (λ s. Slot s) (filter test (up_to m)) (filter test (suc m ∷ [])))
      ∙ turns_both r n b (map (λ s. Slot s) (filter test (up_to m))) (map (λ s. Slot s) (filter test (suc m ∷ [])))
      ∙ ap (λ (c : State). turns r n c (map (λ s. Slot s) (filter test (suc m ∷ [])))) (boards_in_turn m)
      ∙ one_more m (board b.plan (suc m)) refl

  module _ (now : State) (k : ℕ) (is : now ≡ up_to_slot k) where
    -- slots without an offer are passed over
    skipped : (m : ℕ) → k ≤ m → ((s : ℕ) → k < s → s ≤ m → offered now (Slot s) ≡ []) → up_to_slot m ≡ now
    skipped zero above none = let same : zero ≡ k = omega arith in ap up_to_slot same ∙ sym is
    skipped (suc m) above none =
        elim (cases_Bool (ltb k (suc m))) [
          | inl e ↦
              let near : k < suc m = grind (arith, nat_tests) in
              ap (λ (c : State). turn r n c (Slot (suc m))) (skipped m (omega arith) (λ s l h. none s l (omega arith))) ∙ idle r n now (suc m) (none (suc m) near (omega arith))
          | inr e ↦
              let far : suc m ≤ k = grind (arith, nat_tests) in
              let same : suc m ≡ k = omega arith in
              ap up_to_slot same ∙ sym is
        ]

    -- the next slot's turn
    pub next_slot : (m : ℕ) → k < m → ((s : ℕ) → k < s → s < m → offered now (Slot s) ≡ []) → turn r n now (Slot m) ≡ up_to_slot m
    next_slot zero above none = absurd (omega arith)
    next_slot (suc m) above none = ap (λ (c : State). turn r n c (Slot (suc m))) (sym (skipped m (omega arith) (λ s l h. none s l (omega arith))))

  -- no slot is left
  module _ (now : State) (k : ℕ) (is : now ≡ up_to_slot k) (ok : IsAccepted b.plan) where
    beyond : (s : ℕ) → b.plan.slots < s → offered (up_to_slot b.plan.slots) (Slot s) ≡ []
    beyond s far = none_without_board (up_to_slot b.plan.slots) s (ap (λ (p : Plan). board p s) (plan_at b.plan.slots) ∙ no_board b.plan s ok far)

    pub last_slot : ((s : ℕ) → k < s → offered now (Slot s) ≡ []) → now ≡ turns r n b (boards b.plan)
    last_slot none = by_place (ltb b.plan.slots k) refl ∙ sym (boards_in_turn b.plan.slots)
      where
        by_place : (c : Bool) → ltb b.plan.slots k ≡ c → now ≡ up_to_slot b.plan.slots
        by_place true e =
            let far : b.plan.slots < k = grind (arith, nat_tests) in
            is ∙ skipped (up_to_slot b.plan.slots) b.plan.slots refl k (omega arith) (λ s l h. beyond s l)
        by_place false e =
            let near : k ≤ b.plan.slots = grind (arith, nat_tests) in
            sym (skipped now k is b.plan.slots near (λ s l h. none s l))

  grown : (k m : ℕ) → k ≤ m → IsBefore (up_to_slot k) (up_to_slot m)
  grown k zero above = let same : k ≡ zero = omega arith in subst (λ (i : ℕ). IsBefore (up_to_slot k) (up_to_slot i)) same (itself (up_to_slot k))
  grown k (suc m) above =
      elim (cases_Bool (ltb k (suc m))) [
        | inl e ↦
            let near : k < suc m = grind (arith, nat_tests) in
            before_both (up_to_slot k) (up_to_slot m) (up_to_slot (suc m)) (grown k m (omega arith)) (before_turn r n (up_to_slot m) (Slot (suc m)))
        | inr e ↦
            let far : suc m ≤ k = grind (arith, nat_tests) in
            let same : k ≡ suc m = omega arith in
            subst (λ (i : ℕ). IsBefore (up_to_slot k) (up_to_slot i)) same (itself (up_to_slot k))
      ]

  -- the lines up to a slot's turn are the first of those of all boards' turns
  pub slots_front : (k : ℕ) → IsAccepted b.plan → (first new : Option (List ℕ)) → AppendsFront first new (lines_made (up_to_slot k)) → AppendsFront first new (lines_made (turns r n b (boards b.plan)))
  slots_front k ok first new w = front_later first new (up_to_slot k) (turns r n b (boards b.plan)) (subst (IsBefore (up_to_slot k)) (sym (boards_in_turn b.plan.slots))
      (by_place (ltb b.plan.slots k) refl)) w
    where
      by_place : (c : Bool) → ltb b.plan.slots k ≡ c → IsBefore (up_to_slot k) (up_to_slot b.plan.slots)
      by_place true e =
          let far : b.plan.slots < k = grind (arith, nat_tests) in
          subst (IsBefore (up_to_slot k)) (skipped (up_to_slot b.plan.slots) b.plan.slots refl k (omega arith) (λ s l h. beyond (up_to_slot k) k refl ok s l)) (itself (up_to_slot k))
      by_place false e = let near : k ≤ b.plan.slots = grind (arith, nat_tests) in grown k b.plan.slots near
