-- The laws of the grant chains, behind an edge that the probes see.
use Rattle.std.proofs.Common.{◌≡◌, ◌∙◌, refl, sym, ap, subst, ℕ, zero, suc, Bool, true, false, List, ◌∷◌, ◌<◌, arith}
use Rattle.std.specs.Prelude.{◌==◌, ◌&&◌, ◌||◌, if◌then◌else◌, nat_lt, not, Some}
use Rattle.std.proofs.lemmas.Bool.Decides.{nat_tests}
use Rattle.vme_model.specs.declared.sets.BusLevels.{BusLevels}
use Rattle.vme_model.specs.declared.signals.Version.{Version}
use Rattle.vme_model.specs.declared.signals.Driver.TheVariants.{Controller, Slot}
use Rattle.vme_model.specs.declared.signals.Wire.TheVariants.{Bg, BgOut}
use Rattle.vme_model.specs.declared.signals.Edge.{Edge}
use Rattle.vme_model.specs.Signals.{is_two}
use Rattle.std.specs.List.{list_any}
use Rattle.vme_model.specs.Plan.{Plan, active, grant_chain}
use Rattle.vme_model.specs.Accepted.{IsAccepted}
use Rattle.vme_model.specs.History.{last_level as last_granted}
use Rattle.vme_model.specs.Verdict.{IsLegal}
use Rattle.vme_model.proofs.AllowedEdges.{all_passed}
use Rattle.vme_model.proofs.Members.{is_member, one_chain}
use Rattle.vme_model.proofs.Ranges.{in_range}
use Rattle.vme_histories.proofs.AllowedBoards.{at, at_head}
use Rattle.vme_captures.specs.declared.signals.Change.{Change}
use Rattle.vme_captures.specs.declared.signals.Pin.{Pin}
use Rattle.vme_captures.specs.declared.signals.Signal.TheVariants as signal
use Rattle.vme_captures.specs.Changes.{seen}
use Rattle.vme_captures.specs.Wires.{wire_of}
use Rattle.vme_standings.specs.declared.phases.GrantPhase.{GrantPhase}
use Rattle.vme_standings.specs.declared.phases.GrantPhase.TheVariants.{Idle, Granting, Held, Expired}
use Rattle.vme_standings.specs.declared.phases.GrantPhases.{GrantPhases}
use Rattle.vme_standings.specs.Driving.{can_rise}
use Rattle.vme_standings.specs.GrantChains.{end_place, is_follower, is_of_level, place_before}
use Rattle.vme_standings.specs.Grants.{behind_grant, behind_pass, behind_rise, is_granted, is_let_go, is_passed, is_picked, is_run_out}
use Rattle.vme_standings.specs.Phases.{HasExactly, has_phase}
use Rattle.vme_standings.specs.InPhase.{AreAsked, CoversGrants, InPhase, IsOfGrant, grant_segment}
use Rattle.vme_standings.proofs.Tests.{both}
use Rattle.vme_standings.proofs.SeenLines.{way}
use Rattle.vme_standings.proofs.SeenEdges.{segment_is}
use Rattle.vme_standings.proofs.FrontSeen.{as_edge}
use Rattle.vme_standings.proofs.UnseenPhases.{some_level}
use Rattle.vme_standings.proofs.GrantEdges.{any_of}
use Rattle.vme_standings.proofs.GrantPlaces.{above_zero, follower_on, near}
use Rattle.vme_standings.proofs.GrantSegments.{OfGrant, of_grant}
use Rattle.vme_standings.proofs.PhaseSteps.{equal, last_few}
use Rattle.vme_standings.proofs.GrantTurns.{AllRun, GoneBack, KeptBy, RunOn, Turns, back_turns, grant_from, grant_picked, grant_to, pass_before_end, pass_from, pass_level, pass_to, rise_level, rise_turns}

three : (a b c : Bool) → a ≡ true → b ≡ true → c ≡ true → (a && b && c) ≡ true
three a b c x y z = grind arith

less : (a b : ℕ) → a < b → nat_lt a b ≡ true
less a b l = grind (arith, nat_tests)

-- the segment may rise: a board took the grant, or nobody did
pub turn_able : (version : Version) (p : Plan) → IsAccepted p → (h : List Edge) (e : Edge) (m x : ℕ) → m < 4 → (old : GrantPhases) (q : GrantPhase) → has_phase old q ≡ true → Turns version p h e m x q
    → can_rise p version m x old ≡ true
turn_able version p ok h e m x few old q on (KeptBy k f member l to follows same i) =
    second (is_run_out p version m x old) (list_any (is_let_go p m x old) (active p (grant_chain m)))
    (any_of (is_let_go p m x old) (active p (grant_chain m)) k (is_member p (in_range p ok) m k few member)
    (three (nat_lt x k) (is_of_level p m k) (has_phase old (Held k x)) (less x k l) member (subst (λ r. has_phase old r ≡ true) same on)))
  where
    second : (a b : Bool) → b ≡ true → (a || b) ≡ true
    second a b is = grind arith
turn_able version p ok h e m x few old q on (RunOn f two from follows same i) =
    first (is_two version) (x == 0) (has_phase old (Granting m (end_place p m))) (has_phase old (Expired m x)) (list_any (is_let_go p m x old) (active p (grant_chain m))) two (above x from)
    (subst (λ r. has_phase old r ≡ true) same on)
  where
    above : (x : ℕ) → 0 < x → (x == 0) ≡ false
    above x from = grind (arith, nat_tests)

    first : (a t b c d : Bool) → a ≡ true → t ≡ false → c ≡ true → ((a && (if t then b else c)) || d) ≡ true
    first a t b c d f g i = grind arith
turn_able version p ok h e m x few old q on (AllRun two from end same i) =
    first (is_two version) (x == 0) (has_phase old (Granting m (end_place p m))) (has_phase old (Expired m x)) (list_any (is_let_go p m x old) (active p (grant_chain m))) two (above x from)
    (subst (λ r. has_phase old r ≡ true) same on)
  where
    above : (x : ℕ) → 0 < x → (x == 0) ≡ false
    above x from = grind (arith, nat_tests)

    first : (a t b c d : Bool) → a ≡ true → t ≡ false → c ≡ true → ((a && (if t then b else c)) || d) ≡ true
    first a t b c d f g i = grind arith
turn_able version p ok h e m x few old q on (GoneBack f two none follows same i) =
    first (is_two version) (x == 0) (has_phase old (Granting m (end_place p m))) (has_phase old (Expired m x)) (list_any (is_let_go p m x old) (active p (grant_chain m))) two (equal x 0 none)
    (subst (λ r. has_phase old r ≡ true) same on)
  where
    first : (a t b c d : Bool) → a ≡ true → t ≡ true → b ≡ true → ((a && (if t then b else c)) || d) ≡ true
    first a t b c d f g i = grind arith

-- behind the rise of a segment
module _ (version : Version) (p : Plan) (ok : IsAccepted p) (h : List Edge) (e : Edge) (m x : ℕ) (few : m < 4) (old new : GrantPhases) (exact : HasExactly new (behind_rise p version m x old)) where
  within : (f : ℕ) → is_follower p m x f ≡ true → f < 32
  within f follows = let l : f < 22 = near p ok m f (follower_on p ok m few x f follows) in omega arith

  turn_covers : (q : GrantPhase) → has_phase old q ≡ true → Turns version p h e m x q → CoversGrants p (e ∷ h) new
  turn_covers q on (KeptBy k f member l to follows same i) = record {
    phase = Held k f;
    is_in = i;
    member =
        exact.held k f (near p ok m k member) (within f follows)
        ∙ both (is_let_go p m x old k) (is_follower p m x f)
        (three (nat_lt x k) (is_of_level p m k) (has_phase old (Held k x)) (less x k l) member (subst (λ r. has_phase old r ≡ true) same on))
        follows;
  }
  turn_covers q on (RunOn f two from follows same i) = record {
    phase = Expired m f;
    is_in = i;
    member =
        exact.expired m f few (within f follows)
        ∙ three (m == m) (is_run_out p version m x old) (is_follower p m x f) (equal m m refl)
        (both (is_two version) _ two (further x from (has_phase old (Granting m (end_place p m))) (has_phase old (Expired m x)) (subst (λ r. has_phase old r ≡ true) same on)))
        follows;
  }
    where
      further : (x : ℕ) → 0 < x → (a b : Bool) → b ≡ true → (if x == 0 then a else b) ≡ true
      further x from a b is = grind (arith, nat_tests)
  turn_covers q on (AllRun two from end same i) = record {
    phase = Idle m;
    is_in = i;
    member =
        exact.idle m few
        ∙ three (m == m) (is_run_out p version m x old) (x == end_place p m) (equal m m refl)
        (both (is_two version) _ two (further x from (has_phase old (Granting m (end_place p m))) (has_phase old (Expired m x)) (subst (λ r. has_phase old r ≡ true) same on)))
        (equal x (end_place p m) end);
  }
    where
      further : (x : ℕ) → 0 < x → (a b : Bool) → b ≡ true → (if x == 0 then a else b) ≡ true
      further x from a b is = grind (arith, nat_tests)
  turn_covers q on (GoneBack f two none follows same i) =
      let own : is_follower p m x f ≡ true = subst (λ y. is_follower p m y f ≡ true) (sym none) follows in
      record {
        phase = Expired m f;
        is_in = i;
        member =
            exact.expired m f few (within f own)
            ∙ three (m == m) (is_run_out p version m x old) (is_follower p m x f) (equal m m refl)
            (both (is_two version) _ two (first x none (has_phase old (Granting m (end_place p m))) (has_phase old (Expired m x)) (subst (λ r. has_phase old r ≡ true) same on)))
            own;
      }
    where
      first : (x : ℕ) → x ≡ 0 → (a b : Bool) → a ≡ true → (if x == 0 then a else b) ≡ true
      first x none a b is = grind (arith, nat_tests)

module _ (version : Version) (p : Plan) (ok : IsAccepted p) (pins : List Pin) (h : List Edge) (e : Edge) (v : Change) (legal : IsLegal version p (e ∷ h)) (s : seen p pins h e ≡ Some v) (pin : Pin)
    (c place : ℕ) (few : c < 4) (is : v.signal ≡ signal.Pin pin) (wire : wire_of p pin ≡ grant_segment c place) where
  legal_as : (x : Edge) → e ≡ x → IsLegal version p (x ∷ h)
  legal_as x same = subst (λ y. IsLegal version p (y ∷ h)) same legal

  covers_as : (x : Edge) (new : GrantPhases) → e ≡ x → CoversGrants p (x ∷ h) new → CoversGrants p (e ∷ h) new
  covers_as x new same = subst (λ y. CoversGrants p (y ∷ h) new) (sym same)

  of_it : OfGrant p ok e c place
  of_it =
      let passed = all_passed version p h e.driver e.wire e.fall e.value legal.0 in
      of_grant p ok e c place few passed.wire passed.exists (segment_is p pins h e v s pin is ∙ ap (λ g. Some g) wire)

  pub segment_by : IsOfGrant e c place
  segment_by = of_it.edge

  head_is : (fall : Bool) → place ≡ 0 → e.fall ≡ fall → e ≡ at_head (Bg c) fall e.value
  head_is fall none f = let own = subst (IsOfGrant e c) none segment_by in as_edge e Controller (Bg c) fall own.0 own.1 f

  abbrev member : 0 < place → is_of_level p c place ≡ true
  member = above_zero p c place of_it.member

  board_is : (fall : Bool) → 0 < place → e.fall ≡ fall → e ≡ at place BgOut fall e.value
  board_is fall from f = by_place place segment_by from
    where
      by_place : (t : ℕ) → IsOfGrant e c t → 0 < t → e ≡ at t BgOut fall e.value
      by_place zero o l = absurd (omega arith)
      by_place (suc t) o l = as_edge e (Slot (suc t)) BgOut fall o.0 o.1 f

  module _ (old : GrantPhases) (covers : CoversGrants p h old) where
    -- the controller grants
    module _ (fall : v.fall ≡ true) (none : place ≡ 0) (requests : BusLevels) (asked : AreAsked p h requests) where
      abbrev grants : e ≡ at_head (Bg c) true e.value
      grants = head_is true none (way p ok pins h e v s true fall)

      pub grant_able : is_granted p requests c old ≡ true
      grant_able =
          let l = legal_as (at_head (Bg c) true e.value) grants in
          some_level (λ last. has_phase old (Idle last) && is_picked p requests last c) (last_granted h) (last_few version p h legal.1)
          (both (has_phase old (Idle (last_granted h))) (is_picked p requests (last_granted h) c)
          (subst (λ q. has_phase old q ≡ true) (grant_from version p ok h c e.value l covers.phase covers.is_in) covers.member)
          (grant_picked version p ok h c e.value l requests asked))

      pub grant_covers : (new : GrantPhases) → HasExactly new (behind_grant p requests c old) → CoversGrants p (e ∷ h) new
      grant_covers new exact =
          covers_as (at_head (Bg c) true e.value) new grants (record {
            phase = Granting c 0;
            is_in = grant_to version p ok h c e.value (legal_as (at_head (Bg c) true e.value) grants) covers.phase covers.is_in;
            member = exact.granting c 0 few (omega arith) ∙ three (c == c) (0 == 0) (is_granted p requests c old) (equal c c refl) refl grant_able;
          })

    -- a board passes the grant on
    module _ (fall : v.fall ≡ true) (from : 0 < place) where
      abbrev passes : e ≡ at place BgOut true e.value
      passes = board_is true from (way p ok pins h e v s true fall)

      abbrev pass_legal : IsLegal version p (at place BgOut true e.value ∷ h)
      pass_legal = legal_as (at place BgOut true e.value) passes

      pass_same : (pass_level version p ok h place e.value pass_legal).level ≡ c
      pass_same = one_chain p (pass_level version p ok h place e.value pass_legal).level c place (pass_level version p ok h place e.value pass_legal).member (member from)

      pub pass_able : is_passed p version c place old ≡ true
      pass_able =
          three (is_two version || not (place == end_place p c)) (is_of_level p c place) (has_phase old (Granting c (place_before p c place)))
          (subst (λ l. (is_two version || not (place == end_place p l)) ≡ true) pass_same (pass_before_end version p ok h place e.value pass_legal covers.phase covers.is_in))
          (member from)
          (subst (λ l. has_phase old (Granting l (place_before p l place)) ≡ true) pass_same
          (subst (λ q. has_phase old q ≡ true) (pass_from version p ok h place e.value pass_legal covers.phase covers.is_in) covers.member))

      pub pass_covers : (new : GrantPhases) → HasExactly new (behind_pass p version c place old) → CoversGrants p (e ∷ h) new
      pass_covers new exact =
          let l : place < 22 = near p ok c place (member from) in
          covers_as (at place BgOut true e.value) new passes (record {
            phase = Granting c place;
            is_in = subst (λ l. InPhase p (at place BgOut true e.value ∷ h) (Granting l place)) pass_same (pass_to version p ok h place e.value pass_legal covers.phase covers.is_in);
            member = exact.granting c place few (omega (arith, l)) ∙ three (c == c) (place == place) (is_passed p version c place old) (equal c c refl) (equal place place refl) pass_able;
          })

    -- a segment rises
    pub rise_covers : v.fall ≡ false → (new : GrantPhases) → HasExactly new (behind_rise p version c place old) → CoversGrants p (e ∷ h) new
    rise_covers fall new exact = by_place place refl
      where
        by_place : (t : ℕ) → place ≡ t → CoversGrants p (e ∷ h) new
        by_place zero none =
            let edge = head_is false none (way p ok pins h e v s false fall) in
            covers_as (at_head (Bg c) false e.value) new edge
            (turn_covers version p ok h (at_head (Bg c) false e.value) c 0 few old new (subst (λ x. HasExactly new (behind_rise p version c x old)) none exact) covers.phase covers.member
            (back_turns version p ok h c e.value (legal_as (at_head (Bg c) false e.value) edge) covers.phase covers.is_in))
        by_place (suc t) own =
            let from : 0 < place = omega (arith, own) in
            let edge = board_is false from (way p ok pins h e v s false fall) in
            let l = legal_as (at place BgOut false e.value) edge in
            let level = rise_level version p ok h place e.value l in
            let same : level.level ≡ c = one_chain p level.level c place level.member (member from) in
            covers_as (at place BgOut false e.value) new edge
            (turn_covers version p ok h (at place BgOut false e.value) c place few old new exact covers.phase covers.member
            (subst (λ n. Turns version p h (at place BgOut false e.value) n place covers.phase) same (rise_turns version p ok h place e.value l covers.phase covers.is_in)))

    pub rise_able : v.fall ≡ false → can_rise p version c place old ≡ true
    rise_able fall = by_place place refl
      where
        by_place : (t : ℕ) → place ≡ t → can_rise p version c place old ≡ true
        by_place zero none =
            let edge = head_is false none (way p ok pins h e v s false fall) in
            subst (λ x. can_rise p version c x old ≡ true) (sym none)
            (turn_able version p ok h (at_head (Bg c) false e.value) c 0 few old covers.phase covers.member
            (back_turns version p ok h c e.value (legal_as (at_head (Bg c) false e.value) edge) covers.phase covers.is_in))
        by_place (suc t) own =
            let from : 0 < place = omega (arith, own) in
            let edge = board_is false from (way p ok pins h e v s false fall) in
            let l = legal_as (at place BgOut false e.value) edge in
            let level = rise_level version p ok h place e.value l in
            let same : level.level ≡ c = one_chain p level.level c place level.member (member from) in
            turn_able version p ok h (at place BgOut false e.value) c place few old covers.phase covers.member
            (subst (λ n. Turns version p h (at place BgOut false e.value) n place covers.phase) same (rise_turns version p ok h place e.value l covers.phase covers.is_in))
