-- The conditions of a rule, followed by those of its settling rule.
use Rattle.std.proofs.Common.{◌≤◌, ◌+◌, ℕ, Bool, true, false, List, arith}
use Rattle.std.specs.Prelude.{◌==◌, ◌&&◌, Option, Some, None, Ok}
use Rattle.std.specs.List.{list_any}
use Rattle.std.specs.Option.{option_map_or, option_and_then}
use Rattle.vme_model.specs.declared.boards.Release.{Release}
use Rattle.vme_model.specs.declared.boards.RequesterRow.{RequesterRow}
use Rattle.vme_model.specs.declared.boards.Release.TheVariants.{Done, Request}
use Rattle.vme_model.specs.declared.refusals.Refused.TheVariants.{NoSuchDriver, AlreadyThere, Rule, NotSettled}
use Rattle.vme_model.specs.declared.signals.Version.{Version}
use Rattle.vme_model.specs.declared.signals.Wire.{Wire}
use Rattle.vme_model.specs.declared.signals.Wire.TheVariants.{Bg, Bclr, Iack, Berr, Br, BgOut, Bbsy, Addr, AddressStrobe, DataStrobe, Irq, IackOut, Dtack}
use Rattle.vme_model.specs.declared.signals.Cycle.{Cycle}
use Rattle.vme_model.specs.declared.signals.Cycle.TheVariants.{Acknowledge, Access}
use Rattle.vme_model.specs.declared.signals.Edge.{Edge}
use Rattle.vme_model.specs.Signals.{is_well_formed}
use Rattle.vme_model.specs.Plan.{Plan, has_driver}
use Rattle.vme_model.specs.History.{drive}
use Rattle.vme_model.specs.Sets.{has_level}
use Rattle.vme_model.specs.Readings.{Readings, readings, is_pending}
use Rattle.vme_model.specs.Guards.{Guard, free}
use Rattle.vme_model.specs.Rules.{guard, rule, bus_numbers, released, below_burst, shows, passes, answers, release_guard, burst_guard, show_guard, pass_guard, answer_guard}
use Rattle.vme_model.specs.Settling.{settling, settling_guard}
use Rattle.vme_model.specs.Verdict.{check, is_other_state, settled}
use Rattle.vme_model.specs.Failing.{tested_for, tested_but_full}
use Rattle.vme_rules.specs.Room.{most}

one_of_released : (is_asked : Bool) (release : Release) → most (released is_asked release) ≤ 1
one_of_released is_asked (Done burst) = omega arith
one_of_released is_asked Request = omega arith

one_of_burst : (cycles : ℕ) (release : Release) → most (below_burst cycles release) ≤ 1
one_of_burst cycles (Done burst) = omega arith
one_of_burst cycles Request = omega arith

two_of_shown : (handles irq : ℕ → Bool) (v : Option Cycle) → most (shows handles irq v) ≤ 2
two_of_shown handles irq None = omega arith
two_of_shown handles irq (Some (Acknowledge level)) = omega arith
two_of_shown handles irq (Some (Access s)) = omega arith

one_of_passed : (pending : ℕ → Bool) (v : Option Cycle) → most (passes pending v) ≤ 1
one_of_passed pending None = omega arith
one_of_passed pending (Some (Acknowledge level)) = omega arith
one_of_passed pending (Some (Access s)) = omega arith

three_of_answer : (iack_in iackout : Bool) (pending is_own : ℕ → Bool) (v : Option Cycle) → most (answers iack_in iackout pending is_own v) ≤ 3
three_of_answer iack_in iackout pending is_own None = omega arith
three_of_answer iack_in iackout pending is_own (Some (Acknowledge level)) = omega arith
three_of_answer iack_in iackout pending is_own (Some (Access s)) = omega arith

one_of_option : {X : Type 0} (f : X → Guard) (o : Option X) → ((x : X) → most (f x) ≤ 1) → most (option_map_or f o free) ≤ 1
one_of_option {X} f None one = omega arith
one_of_option {X} f (Some x) one = one x

module _ (version : Version) (p : Plan) (h : List Edge) (r : Readings) where
  five_with_settling : (w : Wire) (fall : Bool) (v : Option Cycle) → most (guard version r w fall v).1 + most (settling_guard version p h w fall).1 ≤ 5
  five_with_settling (Bg n) true v = omega arith
  five_with_settling (Bg n) false v = omega arith
  five_with_settling Bclr true v = omega arith
  five_with_settling Bclr false v = omega arith
  five_with_settling Iack true v = omega arith
  five_with_settling Iack false v = omega arith
  five_with_settling Berr true v = omega arith
  five_with_settling Berr false v = omega arith
  five_with_settling Br true v = omega arith
  five_with_settling Br false v = omega arith
  five_with_settling BgOut true v = omega arith
  five_with_settling BgOut false v = omega arith
  five_with_settling Bbsy true v = omega arith
  five_with_settling Bbsy false v =
      let release : most (release_guard r) ≤ 1 = one_of_option (λ (q : RequesterRow). released (list_any r.request bus_numbers) q.release) (option_and_then (λ b. b.requester) r.board)
      (λ (q : RequesterRow). one_of_released (list_any r.request bus_numbers) q.release) in omega (arith, release)
  five_with_settling Addr true v =
      let burst : most (burst_guard r) ≤ 1 = one_of_option (λ (q : RequesterRow). below_burst r.cycles q.release) (option_and_then (λ b. b.requester) r.board)
      (λ (q : RequesterRow). one_of_burst r.cycles q.release) in
      let show : most (show_guard r v) ≤ 2 = two_of_shown (λ level. option_map_or (λ b. has_level b.handler level) r.board false) r.irq v in omega (arith, burst, show)
  five_with_settling Addr false v = omega arith
  five_with_settling AddressStrobe true v = omega arith
  five_with_settling AddressStrobe false v = omega arith
  five_with_settling DataStrobe true v = omega arith
  five_with_settling DataStrobe false v = omega arith
  five_with_settling Irq true v = omega arith
  five_with_settling Irq false v = omega arith
  five_with_settling IackOut true v =
      let pass : most (pass_guard r r.shown) ≤ 1 = one_of_passed (is_pending r) r.shown in omega (arith, pass)
  five_with_settling IackOut false v = omega arith
  five_with_settling Dtack true v =
      let answer : most (answer_guard r r.shown) ≤ 3 = three_of_answer r.iack_in (r.own IackOut) (is_pending r) (λ s. option_map_or (λ b. b.slot == s) r.board false) r.shown in omega (arith, answer)
  five_with_settling Dtack false v = omega arith

module _ (version : Version) (p : Plan) (h : List Edge) (e : Edge) where
  with_settling : most (guard version (readings p h e.driver) e.wire e.fall e.value).1 + most (settling_guard version p h e.wire e.fall).1 ≤ 5
  with_settling = five_with_settling version p h (readings p h e.driver) e.wire e.fall e.value

  by_tests : (a b c d : Bool) (n m : ℕ) → most (tested_for version p h e (check a NoSuchDriver (check b AlreadyThere (check c (Rule n) (check d (NotSettled m) (Ok tt)))))) ≤ 5
  by_tests false b c d n m = omega arith
  by_tests true false c d n m = omega arith
  by_tests true true false d n m = let both = with_settling in omega (arith, both)
  by_tests true true true false n m = with_settling
  by_tests true true true true n m = with_settling

  pub five_tested : most (tested_but_full version p h e) ≤ 5
  five_tested = by_tests (is_well_formed e && has_driver p e.driver e.wire) (is_other_state (drive h e.driver e.wire) e.fall) (rule version (readings p h e.driver) e.wire e.fall e.value).1
      (settled version p h e) (rule version (readings p h e.driver) e.wire e.fall e.value).0 (settling version p h e.wire e.fall).0
