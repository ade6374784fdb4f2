-- The hidden moves keep the whole bus covered, and behind them so does an edge that no probe sees.
use Rattle.std.proofs.Common.{◌≡◌, ◌∙◌, refl, sym, ap, subst, ℕ, zero, suc, Bool, true, false, List, ◌∷◌, ◌<◌, arith}
use Rattle.std.specs.Prelude.{◌==◌, not, Option, Some, None, is_some, slice_index_or}
use Rattle.std.specs.Option.{option_map_or}
use Rattle.vme_model.specs.declared.boards.Row.{Row}
use Rattle.vme_model.specs.declared.boards.InterrupterRow.{InterrupterRow}
use Rattle.vme_model.specs.declared.sets.ChainId.TheVariants as chain
use Rattle.vme_model.specs.declared.signals.Version.{Version}
use Rattle.vme_model.specs.declared.signals.Cycle.{Cycle}
use Rattle.vme_model.specs.declared.signals.Cycle.TheVariants as cycle
use Rattle.vme_model.specs.declared.signals.Wire.TheVariants as wire
use Rattle.vme_model.specs.declared.signals.Edge.{Edge}
use Rattle.vme_model.specs.Plan.{Plan, board, grant_chain}
use Rattle.vme_model.specs.Accepted.{IsAccepted}
use Rattle.vme_model.specs.History.{interrupt_line, line, shown}
use Rattle.vme_model.specs.Verdict.{IsLegal}
use Rattle.vme_model.proofs.Bools.{and_left, same_number}
use Rattle.vme_model.proofs.PinSets.{has_bus}
use Rattle.vme_bus.specs.Sets.{has}
use Rattle.vme_captures.specs.declared.levels.Levels.{Levels}
use Rattle.vme_captures.specs.declared.signals.Line.{Line}
use Rattle.vme_captures.specs.declared.signals.Line.TheVariants as on_line
use Rattle.vme_captures.specs.declared.signals.Pin.{Pin}
use Rattle.vme_captures.specs.Changes.{is_line_low, seen}
use Rattle.vme_captures.specs.Levels.{is_line_left_low}
use Rattle.vme_captures.specs.Signals.{is_line}
use Rattle.vme_captures.specs.Wires.{pin_on}
use Rattle.vme_standings.specs.declared.segments.Segments.{Segments}
use Rattle.vme_standings.specs.declared.standings.Probed.{Probed}
use Rattle.vme_standings.specs.declared.standings.Shown.{Shown}
use Rattle.vme_standings.specs.declared.standings.Shown.TheVariants as known
use Rattle.vme_standings.specs.declared.standings.Standings.{Standings}
use Rattle.vme_standings.specs.Covers.{AreLevels, AreProbed, Covers, KnowsShown, KnowsStrobed, is_probed, says, segment_at}
use Rattle.vme_standings.specs.Cycles.{CoversDrivers}
use Rattle.vme_standings.specs.Driving.{MayPass, is_left_low}
use Rattle.vme_standings.specs.FrontCovers.{CoversFronts, HasHiddenFronts, HasPassing, HasUnprobed, IsUnderWay, PassesOn, acknowledge_segment}
use Rattle.vme_standings.specs.Hidden.{FrontsHidden, HasMoved, HidesFronts, is_waited_for}
use Rattle.vme_standings.specs.InPhase.{AreAsked, HasProbes, grant_segment}
use Rattle.vme_standings.specs.Interrupters.{is_line_low_of, is_on_low_line}
use Rattle.vme_standings.specs.Moving.{asked}
use Rattle.vme_standings.specs.Phases.{no_slots}
use Rattle.vme_standings.specs.Requests.{AreLow, is_on_level}
use Rattle.vme_standings.specs.RequestSets.{CannotPass, may_be}
use Rattle.vme_standings.specs.Unseen.{is_unseen}
use Rattle.vme_standings.proofs.FrontLaws.{any_meant, hidden_covers as hidden_fronts, hidden_has as fronts_hidden, unseen_covers as unseen_fronts}
use Rattle.vme_standings.proofs.GrantEdges.{is_few}
use Rattle.vme_standings.proofs.GrantHidden.{moves_cover, unseen_covers as unseen_phases}
use Rattle.vme_standings.proofs.GrantPlaces.{segment_near}
use Rattle.vme_standings.proofs.JoinedCycle.{data_is_seen, is_asked, shown_kept, strobe_is_seen, strobed_kept}
use Rattle.vme_standings.proofs.JoinedSegments.{levels_stay}
use Rattle.vme_standings.proofs.RequestLaws.{hidden_covers as hidden_requests, hidden_has as requests_hidden, interrupter_in}
use Rattle.vme_standings.proofs.RequestRows.{level_is, on_level_is}
use Rattle.vme_standings.proofs.RequestSteps.{unseen_covers as unseen_requests}
use Rattle.vme_standings.proofs.SeenLines.{dtack_stays, irq_stays}
use Rattle.vme_standings.proofs.Tests.{both, never}
use Rattle.vme_standings.proofs.WhoDrives.{unseen_addressers, unseen_answerers}

-- the levels say of each shared line whether it is low
abbrev SaysLines : Plan → List Edge → Levels → Type 0
SaysLines p h lines = (l : Line) → is_line l ≡ true → is_line_left_low lines l ≡ is_line_low p h l

pub asked_is : (p : Plan) (h : List Edge) (lines : Levels) → SaysLines p h lines → AreAsked p h (asked lines)
asked_is p h lines are n few = has_bus (λ m. is_line_left_low lines (on_line.Br m)) n few ∙ are (on_line.Br n) (is_few n few)

-- so of the line of each board with an interrupter
pub low_line_is : (p : Plan) → IsAccepted p → (h : List Edge) (lines : Levels) → SaysLines p h lines → (n s : ℕ) → is_on_level p n s ≡ true → is_on_low_line lines p s ≡ interrupt_line p h n
low_line_is p ok h lines are n s on =
    let b = on_level_is p n s on in
    ap (λ (o : Option Row). option_map_or (is_line_low_of lines) o false) b.found ∙ by_interrupter b.row b.found b.row.interrupter refl b.on
  where
    by_interrupter : (r : Row) → board p s ≡ Some r → (o : Option InterrupterRow) → r.interrupter ≡ o → option_map_or (λ i. i.level == n) o false ≡ true
        → option_map_or (λ i. is_line_left_low lines (on_line.Irq i.level)) o false ≡ interrupt_line p h n
    by_interrupter r found None is x = absurd (cc)
    by_interrupter r found (Some i) is x =
        are (on_line.Irq i.level) (level_is p s r i ok found is) ∙ ap (λ m. interrupt_line p h m) (same_number i.level n x)

-- what is known to be shown while DS* is low
pub says_at : (p : Plan) (h : List Edge) (k : Option Shown) → KnowsShown p h k → (c : Cycle) → line p h wire.AddressStrobe ≡ true → shown p h ≡ Some c → option_map_or (says c) k false ≡ true
says_at p h k knows c low is = knows.shown c low is

acknowledge_said : (n : ℕ) (c : Cycle) → says c (known.Acknowledge n) ≡ true → c ≡ cycle.Acknowledge n
acknowledge_said n (cycle.Acknowledge m) e = ap (λ x. cycle.Acknowledge x) (sym (same_number n m e))
acknowledge_said n (cycle.Access m) e = absurd (cc)

-- the sets of probed segments have no other
probed_grants : (p : Plan) → IsAccepted p → (pins : List Pin) (set : Segments) → AreProbed p pins set → HasProbes p pins set.grants
probed_grants p ok pins set are c s few seg free = by_level c few (segment_near p ok c s seg) free
  where
    no_pin : (b : Bool) → b ≡ false → not b ≡ true
    no_pin b e = grind arith

    same : (c s : ℕ) → segment_at (grant_chain c) s ≡ grant_segment c s
    same c zero = refl
    same c (suc t) = refl

    none_at : (c s : ℕ) → pin_on p pins (grant_segment c s) ≡ None → is_probed p pins (grant_chain c) s ≡ false
    none_at c s e = ap (λ g. is_some (pin_on p pins g)) (same c s) ∙ ap is_some e

    by_level : (c : ℕ) → c < 4 → s < 22 → pin_on p pins (grant_segment c s) ≡ None → is_unseen set.grants c s ≡ true
    by_level zero few near e = no_pin (has (slice_index_or set.grants 0 no_slots) s) (are chain.Bg0 s near ∙ none_at 0 s e)
    by_level (suc zero) few near e = no_pin (has (slice_index_or set.grants 1 no_slots) s) (are chain.Bg1 s near ∙ none_at 1 s e)
    by_level (suc (suc zero)) few near e = no_pin (has (slice_index_or set.grants 2 no_slots) s) (are chain.Bg2 s near ∙ none_at 2 s e)
    by_level (suc (suc (suc zero))) few near e = no_pin (has (slice_index_or set.grants 3 no_slots) s) (are chain.Bg3 s near ∙ none_at 3 s e)
    by_level (suc (suc (suc (suc n)))) few near e = absurd (omega arith)

module _ (p : Plan) (ok : IsAccepted p) (probed : Probed) (pins : List Pin) (old new : Standings) (moved : HasMoved p probed old new) (h : List Edge) where
  abbrev version : Version
  version = probed.version

  module _ (are : SaysLines p h old.lines) where
    lows : AreLow p h moved.requests.low
    lows n s on = moved.requests.low_are s ∙ low_line_is p ok h old.lines are n s on

  -- the moves keep what was covered
  module _ (legal : IsLegal version p h) (covers : Covers p pins h old) where
    fronts_covered : (k : Option Shown) (w : Bool) → FrontsHidden p probed (record old { requests = new.requests }) k w new.fronts → CoversFronts p h new.fronts
    fronts_covered (Some (known.Acknowledge n)) true f = hidden_fronts p ok h f.unseen f.passing old.fronts new.fronts f.moves covers.fronts
    fronts_covered (Some (known.Acknowledge n)) false f = subst (CoversFronts p h) (sym f) covers.fronts
    fronts_covered (Some (known.Access t)) true f = subst (CoversFronts p h) (sym f) covers.fronts
    fronts_covered (Some (known.Access t)) false f = subst (CoversFronts p h) (sym f) covers.fronts
    fronts_covered None true f = subst (CoversFronts p h) (sym f) covers.fronts
    fronts_covered None false f = subst (CoversFronts p h) (sym f) covers.fronts

    pub moved_covers : Covers p pins h new
    moved_covers = record {
      levels = subst (λ x. AreLevels p pins h x new.low) (sym moved.lines) (subst (λ x. AreLevels p pins h old.lines x) (sym moved.low) covers.levels);
      shown = subst (KnowsShown p h) (sym moved.shown) covers.shown;
      strobed = subst (KnowsStrobed h) (sym moved.strobed) covers.strobed;
      phases = moves_cover version p ok h legal old.phases new.phases moved.phases.kept covers.phases;
      addressers = subst (CoversDrivers h wire.AddressStrobe) (sym moved.addressers) covers.addressers;
      answerers = subst (CoversDrivers h wire.Dtack) (sym moved.answerers) covers.answerers;
      fronts = fronts_covered old.shown (is_waited_for old) moved.fronts;
      requests = hidden_requests p ok h moved.requests.low moved.requests.shared old.requests new.requests moved.requests.moves
          (lows covers.levels.shared) moved.requests.shared_are.all covers.requests;
    }

  -- and so does an edge that no probe sees, behind them
  module _ (probes : AreProbed p pins probed.segments) (e : Edge) (legal : IsLegal version p (e ∷ h)) (none : seen p pins h e ≡ None) (covers : Covers p pins h new) where
    are : SaysLines p h old.lines
    are l on = ap (λ x. is_line_left_low x l) (sym moved.lines) ∙ covers.levels.shared l on

    knows : KnowsShown p h old.shown
    knows = subst (KnowsShown p h) moved.shown covers.shown

    waits : (n : ℕ) → IsUnderWay p h n → is_waited_for old ≡ true
    waits n u =
        both (is_left_low old on_line.DataStrobe) (not (is_left_low old on_line.Dtack))
        (are on_line.DataStrobe refl ∙ u.strobed) (ap not (are on_line.Dtack refl ∙ u.unanswered))

    said : (n : ℕ) → IsUnderWay p h n → option_map_or (says (cycle.Acknowledge n)) old.shown false ≡ true
    said n u = knows.shown (cycle.Acknowledge n) (is_asked version p ok h legal.1 u.strobed).strobe u.shows

    idle : ((n : ℕ) → IsUnderWay p h n → ⊥) → HasHiddenFronts p pins h new.requests new.fronts
    idle nobody = record {
      begins = λ n u free waiting. absurd (nobody n u);
      passes = λ n s u on free may reached. absurd (nobody n u);
    }

    not_said : (n : ℕ) (k : Option Shown) → old.shown ≡ k → option_map_or (says (cycle.Acknowledge n)) k false ≡ false → IsUnderWay p h n → ⊥
    not_said n k is off u = never (option_map_or (says (cycle.Acknowledge n)) k false) (ap (λ x. option_map_or (says (cycle.Acknowledge n)) x false) (sym is) ∙ said n u) off

    module _ (n : ℕ) (is : old.shown ≡ Some (known.Acknowledge n)) (wait : is_waited_for old ≡ true) (f : HidesFronts p probed (record old { requests = new.requests }) n old.fronts new.fronts) where
      shows : shown p h ≡ Some (cycle.Acknowledge n)
      shows =
          let low : line p h wire.DataStrobe ≡ true = sym (are on_line.DataStrobe refl) ∙ and_left (is_left_low old on_line.DataStrobe) (not (is_left_low old on_line.Dtack)) wait in
          let a = is_asked version p ok h legal.1 low in
          let told : option_map_or (says a.cycle) old.shown false ≡ true = knows.shown a.cycle a.strobe a.shows in
          a.shows ∙ ap (λ c. Some c) (acknowledge_said n a.cycle (sym (ap (λ x. option_map_or (says a.cycle) x false) is) ∙ told))

      no_pin : (b : Bool) → b ≡ false → not b ≡ true
      no_pin b x = grind arith

      free_at : (s : ℕ) → s < 22 → pin_on p pins (segment_at chain.Iack s) ≡ None → has f.unseen s ≡ true
      free_at s near x = f.unseen_are s near ∙ no_pin (has probed.segments.acknowledge s) (probes chain.Iack s near ∙ ap is_some x)

      as_place : (s : ℕ) → 0 < s → acknowledge_segment (Some s) ≡ segment_at chain.Iack s
      as_place zero from = absurd (omega arith)
      as_place (suc t) from = refl

      free : HasUnprobed p pins f.unseen
      free = record {
        controller = λ x. free_at 0 (omega arith) x;
        boards = λ s on x. let i = interrupter_in p ok s on in free_at s i.near (ap (λ g. pin_on p pins g) (sym (as_place s i.from)) ∙ x);
      }

      passing : HasPassing p h n new.requests f.passing
      passing s on may =
          let i = interrupter_in p ok s on in
          by_board s (f.passing_are.able s i.from i.near (any_meant p s on)) (has f.passing_are.boards s) refl (has f.passing s) refl may
        where
          by_board : (s : ℕ) → MayPass f.passing_are.boards f.passing_are.low new.requests s (has f.passing s) → (b : Bool) → has f.passing_are.boards s ≡ b → (m : Bool) → has f.passing s ≡ m
              → PassesOn p h n new.requests s → has f.passing s ≡ true
          by_board s m false off x y may = m.other off
          by_board s m true member true y may = y
          by_board s m true member false y may =
              let level : is_on_level p n s ≡ true = sym (f.passing_are.boards_are s) ∙ member in
              absurd (may f.passing_are.boards level f.passing_are.boards_are
              (subst (λ b. CannotPass s f.passing_are.boards b new.requests) (f.passing_are.low_are s ∙ low_line_is p ok h old.lines are n s level) (m.unable member y)))

      under_way : HasHiddenFronts p pins h new.requests new.fronts
      under_way = fronts_hidden p ok h f.unseen f.passing old.fronts new.fronts f.moves pins n new.requests shows free passing

    by_known : (k : Option Shown) → old.shown ≡ k → (w : Bool) → is_waited_for old ≡ w → FrontsHidden p probed (record old { requests = new.requests }) k w new.fronts
        → HasHiddenFronts p pins h new.requests new.fronts
    by_known (Some (known.Acknowledge n)) is true wait f = under_way n is wait f
    by_known (Some (known.Acknowledge n)) is false wait f = idle (λ m u. never (is_waited_for old) (waits m u) wait)
    by_known (Some (known.Access (Some t))) is w wait f = idle (λ m u. not_said m (Some (known.Access (Some t))) is refl u)
    by_known (Some (known.Access None)) is w wait f = idle (λ m u. not_said m (Some (known.Access None)) is refl u)
    by_known None is w wait f = idle (λ m u. not_said m None is refl u)

    pub unseen_covered : Covers p pins (e ∷ h) new
    unseen_covered = record {
      levels = levels_stay p ok pins h e none new.lines new.low covers.levels;
      shown = shown_kept version p ok h e new.shown legal (λ is. strobe_is_seen version p ok pins h e legal none is) covers.shown;
      strobed = strobed_kept h e new.strobed (λ is. strobe_is_seen version p ok pins h e legal none is) (λ is. absurd (data_is_seen version p ok pins h e legal none is)) covers.strobed;
      phases = unseen_phases version p ok pins h (asked old.lines) probed.segments.grants new.phases (asked_is p h old.lines are)
          (probed_grants p ok pins probed.segments probes) moved.phases.closed covers.phases e legal none;
      addressers = unseen_addressers version p ok pins h e legal new.addressers none covers.addressers;
      answerers = unseen_answerers version p ok pins h e legal new.answerers none covers.answerers;
      fronts = unseen_fronts version p ok pins h new.requests new.fronts covers.requests (by_known old.shown refl (is_waited_for old) refl moved.fronts) covers.fronts e legal none;
      requests = unseen_requests version p h e (may_be new.requests) ok legal (irq_stays p pins h e none) (dtack_stays p pins h e none) covers.requests
          (requests_hidden p ok h moved.requests.low moved.requests.shared old.requests new.requests moved.requests.moves (lows are) moved.requests.shared_are.all);
    }
