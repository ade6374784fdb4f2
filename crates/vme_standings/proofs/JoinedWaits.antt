-- What is known of a bus that it covers: where a grant stands, or that none stands at a board.
use Rattle.std.proofs.Common.{◌≡◌, ◌∙◌, refl, sym, ap, subst, ℕ, zero, suc, Bool, true, false, List, ◌<◌, ◌≤◌, arith}
use Rattle.std.specs.Prelude.{◌==◌, ◌&&◌, nat_le, nat_lt}
use Rattle.std.proofs.lemmas.Bool.Decides.{nat_tests}
use Rattle.vme_model.specs.declared.signals.Driver.TheVariants.{Slot}
use Rattle.vme_model.specs.declared.signals.Edge.{Edge}
use Rattle.vme_model.specs.declared.signals.Version.{Version}
use Rattle.vme_model.specs.declared.signals.Wire.TheVariants.{Bbsy, BgOut}
use Rattle.vme_model.specs.Accepted.{IsAccepted}
use Rattle.vme_model.specs.GrantSafety.{Travels}
use Rattle.vme_model.specs.History.{drive, last_level as last_granted}
use Rattle.vme_model.specs.Plan.{Plan, grant_chain, upstream}
use Rattle.vme_model.specs.Verdict.{IsLegal}
use Rattle.vme_model.proofs.Bools.{and_left, and_right, same_number}
use Rattle.vme_model.proofs.Grants.{as_segment}
use Rattle.vme_model.proofs.Members.{is_member, member_of}
use Rattle.vme_model.proofs.Ranges.{in_range}
use Rattle.vme_captures.specs.declared.signals.Pin.{Pin}
use Rattle.vme_standings.specs.declared.phases.GrantPhase.{GrantPhase}
use Rattle.vme_standings.specs.declared.phases.GrantPhase.TheVariants.{Idle, Granting, Held, Expired}
use Rattle.vme_standings.specs.declared.standings.Standings.{Standings}
use Rattle.vme_standings.specs.Covers.{Covers}
use Rattle.vme_standings.specs.Cuts.{is_nowhere}
use Rattle.vme_standings.specs.GrantChains.{end_place, is_follower, is_of_level, place_before}
use Rattle.vme_standings.specs.InPhase.{InPhase, is_place_low}
use Rattle.vme_standings.specs.LowSegments.{is_low_in, is_segment}
use Rattle.vme_standings.specs.Phases.{has_phase, is_in_table}
use Rattle.vme_standings.proofs.GrantOthers.{in_table}
use Rattle.vme_standings.proofs.GrantPlaces.{IsBefore, above_zero, before, board_segment, end_last, end_segment, follower_before, follower_on, from_one, next, place_low}
use Rattle.vme_standings.proofs.PhaseSteps.{few_some, in_expired, last_few, past_granting, under, upto}
use Rattle.vme_standings.proofs.Tests.{and_true, both, never}

nothing : (b : Bool) → (b && false) ≡ false
nothing true = refl
nothing false = refl

-- a board's segment is its output
output_of : (h : List Edge) (n s : ℕ) → 0 < s → is_place_low h n s ≡ drive h (Slot s) BgOut
output_of h n zero from = absurd (omega arith)
output_of h n (suc s) from = refl

-- between the first segment of a run and its end
in_between : (on : Bool) (first y b : ℕ) → (on && (nat_le first y && nat_lt y b)) ≡ true → (on ≡ true) × (first ≤ y) × (y < b)
in_between on first y b e = (and_left on _ e, from, to)
  where
    from : first ≤ y
    from = upto first y (and_left (nat_le first y) _ (and_right on _ e))

    to : y < b
    to = under y b (and_right (nat_le first y) _ (and_right on _ e))

past_run : (on : Bool) (first y b : ℕ) → (on && (nat_le first y && nat_lt y b)) ≡ false → on ≡ true → first ≤ y → b ≤ y
past_run on first y b e member from = grind (arith, nat_tests)

before_run : (c n s first : ℕ) → (c == n && nat_le first s) ≡ false → c ≡ n → s < first
before_run c n s first e same = grind (arith, nat_tests)

module _ (p : Plan) (ok : IsAccepted p) (h : List Edge) where
  -- a grant that stands at a board, by the segments of its chain
  record StandsAt (n s : ℕ) : Type 0 where
    few : n < 4
    on : is_of_level p n s ≡ true
    input : is_place_low h n (place_before p n s) ≡ true
    output : is_place_low h n s ≡ false
    untaken : drive h (Slot s) Bbsy ≡ false

  stands_at : (n s : ℕ) → Travels p h n s → StandsAt n s
  stands_at n s t =
      let member : is_of_level p n s ≡ true = member_of p n s t.level t.member in
      record {
        few = t.level;
        on = member;
        input = sym (place_low p ok n t.level h s member) ∙ (sym (as_segment p h n (upstream p (grant_chain n) s) t.level) ∙ t.granted);
        output = output_of h n s (from_one p ok n s member) ∙ t.unpassed;
        untaken = t.untaken;
      }

  module _ (n s : ℕ) (at : StandsAt n s) where
    abbrev x : ℕ
    x = place_before p n s

    -- the phase in which a grant stands at a board
    standing_phase : (q : GrantPhase) → InPhase p h q → q ≡ Granting n x
    standing_phase q i = by_phase q i (sym (i.low n x at.few b.seg) ∙ at.input) (sym (i.low n s at.few (board_segment p n s at.on)) ∙ at.output)
      where
        b : IsBefore p n s x
        b = before p ok n at.few s at.on

        by_phase : (q : GrantPhase) → InPhase p h q → is_low_in p n x q ≡ true → is_low_in p n s q ≡ false → q ≡ Granting n x
        by_phase (Idle c) i low high = absurd (never (is_segment p n x && false) low (nothing (is_segment p n x)))
        by_phase (Granting c last) i low high =
            let inside : (c == n && nat_le x last) ≡ true = and_right (is_segment p n x) _ low in
            let same : c ≡ n = same_number c n (and_left (c == n) _ inside) in
            let from : x ≤ last = upto x last (and_right (c == n) _ inside) in
            let past : last < s = past_granting c n s last (sym (and_true (is_segment p n s) _ (board_segment p n s at.on)) ∙ high) same in
            let least : last ≤ x = b.greatest last (subst (λ m. is_segment p m last ≡ true) same i.named) past in
            let last_is : last ≡ x = omega (arith, from, least) in
            ap (λ m. Granting m last) same ∙ ap (λ t. Granting n t) last_is
        by_phase (Held k first) i low high =
            let inside = in_between (is_of_level p n k) first x k (and_right (is_segment p n x) _ low) in
            let below = b.below in
            let from = inside.1 in
            let to : k ≤ s = past_run (is_of_level p n k) first s k (sym (and_true (is_segment p n s) _ (board_segment p n s at.on)) ∙ high) inside.0 (omega (arith, below, from)) in
            let holds : drive h (Slot s) Bbsy ≡ (k == s) = i.held s in
            absurd (by_test (k == s) refl holds to inside.0 inside.2)
          where
            by_test : (t : Bool) → (k == s) ≡ t → drive h (Slot s) Bbsy ≡ t → k ≤ s → is_of_level p n k ≡ true → x < k → ⊥
            by_test true is holds to member less = never (drive h (Slot s) Bbsy) holds at.untaken
            by_test false is holds to member less =
                let under : k < s = grind (arith, nat_tests) in
                let back : k ≤ x = b.greatest k (board_segment p n k member) under in
                omega (arith, back, less)
        by_phase (Expired c first) i low high =
            let inside = in_expired c n x first (and_right (is_segment p n x) _ low) in
            let past : s < first = before_run c n s first (sym (and_true (is_segment p n s) _ (board_segment p n s at.on)) ∙ high) inside.0 in
            let below = b.below in
            let from = inside.1 in
            absurd (omega (arith, past, below, from))

  -- a grant stands at the board whose input is the last segment that is low
  travels_at : (c last s : ℕ) → c < 4 → InPhase p h (Granting c last) → is_follower p c last s ≡ true → Travels p h c s
  travels_at c last s few i follows = record {
    level = few;
    member = is_member p (in_range p ok) c s few on;
    granted = as_segment p h c (upstream p (grant_chain c) s) few ∙ (place_low p ok c few h s on ∙ (ap (is_place_low h c) here ∙ low));
    unpassed = sym (output_of h c s (from_one p ok c s on)) ∙ high;
    untaken = i.held s;
  }
    where
      on : is_of_level p c s ≡ true
      on = follower_on p ok c few last s follows

      below : last < s
      below = (follower_before p ok c few last s follows).below

      here : place_before p c s ≡ last
      here = same_number (place_before p c s) last (and_right (is_of_level p c s) _ follows)

      itself : (a b : ℕ) → (a == a && nat_le b b) ≡ true
      itself a b = grind (arith, nat_tests)

      beyond : (seg same : Bool) (a b : ℕ) → b < a → (seg && (same && nat_le a b)) ≡ false
      beyond seg same a b less = grind (arith, nat_tests)

      low : is_place_low h c last ≡ true
      low = i.low c last few i.named ∙ both (is_segment p c last) (c == c && nat_le last last) i.named (itself c last)

      high : is_place_low h c s ≡ false
      high = i.low c s few (board_segment p c s on) ∙ beyond (is_segment p c s) (c == c) s last below

  -- a grant that has not passed the last board stands at the next one
  travels_on : (c last : ℕ) → c < 4 → InPhase p h (Granting c last) → (last == end_place p c) ≡ false → (s : ℕ) × Travels p h c s
  travels_on c last few i is =
      let most : last ≤ end_place p c = end_last p ok c few last i.named in
      let less : last < end_place p c = grind (arith, nat_tests) in
      let y = next p ok c few last (end_place p c) i.named (above_zero p c (end_place p c) (end_segment p ok c few) (omega (arith, less))) less in
      (y.slot, travels_at c last y.slot few i y.follows)

  module _ (pins : List Pin) (st : Standings) (covers : Covers p pins h st) where
    pub grant_told : (n s : ℕ) → Travels p h n s → (is_of_level p n s && has_phase st.phases (Granting n (place_before p n s))) ≡ true
    grant_told n s t =
        let at = stands_at n s t in
        both (is_of_level p n s) (has_phase st.phases (Granting n (place_before p n s))) at.on
        (subst (λ q. has_phase st.phases q ≡ true) (standing_phase n s at covers.phases.phase covers.phases.is_in) covers.phases.member)

    pub nowhere_told : (version : Version) → IsLegal version p h → ((n s : ℕ) → Travels p h n s → ⊥)
        → (q : GrantPhase) × (is_in_table q ≡ true) × (has_phase st.phases q ≡ true) × (is_nowhere p q ≡ true)
    nowhere_told version legal none =
        (covers.phases.phase, in_table version p ok h legal covers.phases.phase covers.phases.is_in, covers.phases.member, by_phase covers.phases.phase covers.phases.is_in)
      where
        by_phase : (q : GrantPhase) → InPhase p h q → is_nowhere p q ≡ true
        by_phase (Idle c) i = refl
        by_phase (Granting c last) i = by_test (last == end_place p c) refl
          where
            by_test : (b : Bool) → (last == end_place p c) ≡ b → b ≡ true
            by_test true is = refl
            by_test false is =
                let y = travels_on c last (few_some c (last_granted h) i.granted (last_few version p h legal)) i is in
                absurd (none c y.0 y.1)
        by_phase (Held k first) i = refl
        by_phase (Expired c first) i = refl
