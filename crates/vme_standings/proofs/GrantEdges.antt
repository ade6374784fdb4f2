-- What the rules say of an edge of the grants or BBSY*, by the phase before it.
use Rattle.std.proofs.Common.{◌≡◌, ◌∙◌, refl, sym, ap, subst, ℕ, zero, suc, Bool, true, false, List, [], ◌∷◌, ◌<◌, arith}
use Rattle.std.specs.Prelude.{◌&&◌, ◌||◌, nat_lt, not, Option}
use Rattle.std.specs.List.{list_any, All, Contains}
use Rattle.std.specs.Option.{option_map_or}
use Rattle.std.proofs.lemmas.Bool.Decides.{nat_tests}
use Rattle.std.proofs.lemmas.List.Elements.{All-contains, All-nil, All-cons}
use Rattle.vme_model.specs.declared.boards.Release.{Release}
use Rattle.vme_model.specs.declared.boards.Release.TheVariants.{Done, Request}
use Rattle.vme_model.specs.declared.boards.RequesterRow.{RequesterRow}
use Rattle.vme_model.specs.declared.sets.BusLevels.{BusLevels}
use Rattle.vme_model.specs.declared.signals.Version.{Version}
use Rattle.vme_model.specs.declared.signals.Cycle.{Cycle}
use Rattle.vme_model.specs.declared.signals.Driver.TheVariants.{Slot}
use Rattle.vme_model.specs.declared.signals.Wire.TheVariants.{BgOut, Bbsy, Br}
use Rattle.vme_model.specs.declared.signals.Edge.{Edge}
use Rattle.vme_model.specs.Sets.{has_bus_level}
use Rattle.vme_model.specs.Plan.{Plan, active, grant_chain}
use Rattle.vme_model.specs.Accepted.{IsAccepted}
use Rattle.vme_model.specs.Guards.{Guard, free, holds}
use Rattle.vme_model.specs.History.{drive, pulls_request, request_line}
use Rattle.vme_model.specs.Readings.{grant_in}
use Rattle.vme_model.specs.Rules.{bus_numbers, released}
use Rattle.vme_model.specs.Verdict.{IsLegal}
use Rattle.vme_model.proofs.Bools.{and_left, and_right, not_true}
use Rattle.vme_model.proofs.AllowedEdges.{Passed, all_passed}
use Rattle.vme_model.proofs.Ranges.{IsRowInRange, in_range}
use Rattle.vme_model.proofs.Members.{HasLevel, found_row, has_board, is_member, level_of}
use Rattle.vme_model.proofs.Grants.{grant_is}
use Rattle.vme_histories.proofs.AllowedBoards.{at}
use Rattle.vme_standings.specs.declared.phases.GrantPhase.{GrantPhase}
use Rattle.vme_standings.specs.declared.phases.GrantPhase.TheVariants.{Idle, Granting, Held}
use Rattle.vme_standings.specs.declared.phases.GrantPhases.{GrantPhases}
use Rattle.vme_standings.specs.GrantChains.{is_of_level, place_before, requester_at}
use Rattle.vme_standings.specs.Grants.{behind_release, behind_take, can_release, is_taken, may_end}
use Rattle.vme_standings.specs.Phases.{HasExactly, has_phase}
use Rattle.vme_standings.specs.InPhase.{AreAsked, CoversGrants, InPhase, is_place_low}
use Rattle.vme_standings.proofs.Tests.{both, never}
use Rattle.vme_standings.proofs.GrantPlaces.{from_one, has_requester, near, place_low}
use Rattle.vme_standings.proofs.PhaseSteps.{released as idle_behind, releases_at, stands_at, taken as held_behind}

pub is_few : (n : ℕ) → n < 4 → nat_lt n 4 ≡ true
is_few n l = grind (arith, nat_tests)

-- the output of a board is its segment
pub board_low : (h : List Edge) (c s : ℕ) → 0 < s → is_place_low h c s ≡ drive h (Slot s) BgOut
board_low h c zero from = absurd (omega arith)
board_low h c (suc s) from = refl

pub four_same : (f g : ℕ → Bool) → ((n : ℕ) → n < 4 → f n ≡ g n) → list_any f bus_numbers ≡ list_any g bus_numbers
four_same f g same = cc (same 0 (omega arith), same 1 (omega arith), same 2 (omega arith), same 3 (omega arith))

-- one of a list passes
neither : (a b : Bool) → (a || b) ≡ false → (a ≡ false) × (b ≡ false)
neither false false e = (refl, refl)
neither false true e = absurd (cc)
neither true b e = absurd (cc)

all_off : (f : ℕ → Bool) (xs : List ℕ) → list_any f xs ≡ false → All (λ x. f x ≡ false) xs
all_off f [] e = All-nil (λ x. f x ≡ false)
all_off f (x ∷ xs) e =
    let n = neither (f x) (list_any f xs) e in
    All-cons (λ x. f x ≡ false) x xs n.0 (all_off f xs n.1)

pub any_of : (f : ℕ → Bool) (xs : List ℕ) (x : ℕ) → Contains xs x → f x ≡ true → list_any f xs ≡ true
any_of f xs x c is = by_test (list_any f xs) refl
  where
    by_test : (b : Bool) → list_any f xs ≡ b → list_any f xs ≡ true
    by_test true e = e
    by_test false e = absurd (never (f x) is (All-contains (λ y. f y ≡ false) xs x (all_off f xs e) c))

-- a board that asks shows on the line of its level
pub asks_on : (p : Plan) → IsAccepted p → (h : List Edge) (m s : ℕ) → is_of_level p m s ≡ true → drive h (Slot s) Br ≡ true → request_line p h m ≡ true
asks_on p ok h m s on low =
    let b = has_board p m s on in
    let f = found_row (IsRowInRange p) p.rows s b.row (in_range p ok).rows b.is_board in
    f.passes (pulls_request h m) (both _ (drive h (Slot b.row.slot) Br) b.requests (subst (λ x. drive h (Slot x) Br ≡ true) (sym f.slot) low))

module _ (version : Version) (p : Plan) (ok : IsAccepted p) (h : List Edge) (s : ℕ) (v : Option Cycle) where
  -- a board takes the bus
  module _ (legal : IsLegal version p (at s Bbsy true v ∷ h)) where
    abbrev take_passed : Passed version p h (Slot s) Bbsy true v
    take_passed = all_passed version p h (Slot s) Bbsy true v legal.0

    abbrev pub take_level : HasLevel p h s
    take_level = level_of p (in_range p ok) h s take_passed.exists

    abbrev take_tests : (grant_in p h (Slot s) && not (drive h (Slot s) BgOut)) ≡ true
    take_tests = and_left (grant_in p h (Slot s) && not (drive h (Slot s) BgOut)) (drive h (Slot s) Br) take_passed.rule

    take_input : is_place_low h take_level.level (place_before p take_level.level s) ≡ true
    take_input =
        sym (place_low p ok take_level.level take_level.in_range h s take_level.member)
        ∙ grant_is p h s take_level true (and_left (grant_in p h (Slot s)) (not (drive h (Slot s) BgOut)) take_tests)

    take_output : is_place_low h take_level.level s ≡ false
    take_output =
        board_low h take_level.level s (from_one p ok take_level.level s take_level.member)
        ∙ not_true (drive h (Slot s) BgOut) (and_right (grant_in p h (Slot s)) (not (drive h (Slot s) BgOut)) take_tests)

    pub take_from : (q : GrantPhase) → InPhase p h q → q ≡ Granting take_level.level (place_before p take_level.level s)
    take_from q i = stands_at p ok h take_level.level s take_level.in_range take_level.member q i take_input take_output take_passed.before

    pub take_to : (q : GrantPhase) → InPhase p h q → InPhase p (at s Bbsy true v ∷ h) (Held s 0)
    take_to q i = held_behind p ok h take_level.level s take_level.in_range take_level.member v (subst (InPhase p h) (take_from q i) i)

    module _ (requests : BusLevels) (asked : AreAsked p h requests) (old : GrantPhases) (covers : CoversGrants p h old) where
      take_asked : has_bus_level requests take_level.level ≡ true
      take_asked = asked take_level.level take_level.in_range ∙ asks_on p ok h take_level.level s take_level.member
          (and_right (grant_in p h (Slot s) && not (drive h (Slot s) BgOut)) (drive h (Slot s) Br) take_passed.rule)

      take_phase : has_phase old (Granting take_level.level (place_before p take_level.level s)) ≡ true
      take_phase = subst (λ q. has_phase old q ≡ true) (take_from covers.phase covers.is_in) covers.member

      abbrev can_take : RequesterRow → Bool
      can_take q = has_bus_level requests q.level && has_phase old (Granting q.level (place_before p q.level s))

      pub take_able : is_taken p requests old s ≡ true
      take_able =
          let r = has_requester p take_level.level s take_level.member in
          ap (λ (o : Option RequesterRow). option_map_or can_take o false) r.found
          ∙ subst (λ l. (has_bus_level requests l && has_phase old (Granting l (place_before p l s))) ≡ true) (sym r.level)
          (both (has_bus_level requests take_level.level) _ take_asked take_phase)

      pub take_covers : (new : GrantPhases) → HasExactly new (behind_take p requests old) → CoversGrants p (at s Bbsy true v ∷ h) new
      take_covers new exact = record {
        phase = Held s 0;
        is_in = take_to covers.phase covers.is_in;
        member = exact.held s 0 (near p ok take_level.level s take_level.member) (omega arith) ∙ take_able;
      }

  -- a board gives the bus up
  module _ (legal : IsLegal version p (at s Bbsy false v ∷ h)) where
    abbrev give_passed : Passed version p h (Slot s) Bbsy false v
    give_passed = all_passed version p h (Slot s) Bbsy false v legal.0

    abbrev pub give_level : HasLevel p h s
    give_level = level_of p (in_range p ok) h s give_passed.exists

    give_input : is_place_low h give_level.level (place_before p give_level.level s) ≡ false
    give_input =
        sym (place_low p ok give_level.level give_level.in_range h s give_level.member)
        ∙ grant_is p h s give_level false (not_true _ (and_right _ _ (and_left _ _ (and_left _ _ give_passed.rule))))

    pub give_from : (q : GrantPhase) → InPhase p h q → q ≡ Held s s
    give_from q i = releases_at p ok h give_level.level s give_level.in_range give_level.member q i give_input give_passed.before

    pub give_to : (q : GrantPhase) → InPhase p h q → InPhase p (at s Bbsy false v ∷ h) (Idle give_level.level)
    give_to q i = idle_behind p ok h give_level.level s give_level.in_range give_level.member v (subst (InPhase p h) (give_from q i) i)

    module _ (requests : BusLevels) (asked : AreAsked p h requests) (old : GrantPhases) (covers : CoversGrants p h old) where
      give_phase : has_phase old (Held s s) ≡ true
      give_phase = subst (λ q. has_phase old q ≡ true) (give_from covers.phase covers.is_in) covers.member

      ends : (r : Release) → holds (released (list_any (request_line p h) bus_numbers) r) ≡ true → may_end requests r ≡ true
      ends (Done burst) e = refl
      ends Request e = four_same (has_bus_level requests) (request_line p h) asked ∙ e

      abbrev releasing : RequesterRow → Guard
      releasing q = released (list_any (request_line p h) bus_numbers) q.release

      pub give_able : can_release p requests old s ≡ true
      give_able =
          let r = has_requester p give_level.level s give_level.member in
          let rule : holds (option_map_or releasing (requester_at p s) free) ≡ true = and_right _ _ give_passed.rule in
          both (option_map_or (λ q. may_end requests q.release) (requester_at p s) false) (has_phase old (Held s s))
          (ap (λ (o : Option RequesterRow). option_map_or (λ q. may_end requests q.release) o false) r.found
          ∙ ends r.row.release (subst (λ (o : Option RequesterRow). holds (option_map_or releasing o free) ≡ true) r.found rule))
          give_phase

      pub give_covers : (new : GrantPhases) → HasExactly new (behind_release p requests old) → CoversGrants p (at s Bbsy false v ∷ h) new
      give_covers new exact = record {
        phase = Idle give_level.level;
        is_in = give_to covers.phase covers.is_in;
        member =
            exact.idle give_level.level give_level.in_range
            ∙ both (nat_lt give_level.level 4) (list_any (can_release p requests old) (active p (grant_chain give_level.level))) (is_few give_level.level give_level.in_range)
            (any_of (can_release p requests old) (active p (grant_chain give_level.level)) s (is_member p (in_range p ok) give_level.level s give_level.in_range give_level.member) give_able);
      }
