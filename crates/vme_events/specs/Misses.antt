-- Edges that one condition alone refuses. (Profile.)
use Rattle.std.specs.Prelude.{◌==◌, ◌&&◌, ℕ, Bool, true, false, Option, Err, List, [], ◌∷◌, find, length}
use Rattle.std.specs.List.{flat_map}
use Rattle.std.specs.Option.{option_map_or, option_and_then}
use denote.Enum.Bare.{sameb}
use Rattle.vme_model.specs.contracts.sentences.Rule.{the_type as rule_type}
use Rattle.vme_model.specs.declared.boards.Row.{Row}
use Rattle.vme_model.specs.declared.boards.IrqKind.{IrqKind}
use Rattle.vme_model.specs.declared.boards.IrqKind.TheVariants.{Roak, Rora}
use Rattle.vme_model.specs.declared.conditions.Condition.{Condition}
use Rattle.vme_model.specs.declared.refusals.Refused.TheVariants.{Rule, NotSettled}
use Rattle.vme_model.specs.declared.sentences.Rule.{Rule as RuleName}
use Rattle.vme_model.specs.declared.signals.Driver.{Driver}
use Rattle.vme_model.specs.declared.signals.Edge.{Edge}
use Rattle.vme_model.specs.Plan.{board_of, drivers}
use Rattle.vme_model.specs.Verdict.{State, Judgement, verdict}
use Rattle.vme_model.specs.Failing.{unmet}
use Rattle.vme_model.specs.Offers.{wires}
use Rattle.vme_model.specs.Open.{moves}
use Rattle.vme_model.specs.Sources.{is_same_condition, rule_of}
use Rattle.vme_goals.specs.declared.misses.Miss.{Miss}
use Rattle.vme_goals.specs.declared.misses.Miss.TheVariants as miss
use Rattle.vme_goals.specs.Goals.{counts}

-- that condition, and no other
abbrev pub is_alone : Condition → List Condition → Bool
is_alone c (d ∷ []) = is_same_condition d c
is_alone c _ = false

-- whether two kinds of interrupter are served in the same way (chapter 4)
abbrev pub is_same_kind : IrqKind → IrqKind → Bool
is_same_kind Roak Roak = true
is_same_kind Rora Rora = true
is_same_kind _ _ = false

-- the board has an interrupter of that kind (chapter 4)
abbrev pub has_kind : IrqKind → Option Row → Bool
has_kind kind board =
    option_map_or (λ i. is_same_kind i.kind kind) (option_and_then (λ r. r.interrupter) board) false

-- the edge is refused by that rule, which comes before any settling rule
abbrev pub fails_rule : ℕ → Judgement → Bool
fails_rule k (Err (Rule n)) = n == k
fails_rule k _ = false

-- the edge's rule holds, and that settling rule does not
abbrev pub fails_settling : ℕ → Judgement → Bool
fails_settling k (Err (NotSettled n)) = n == k
fails_settling k _ = false

-- that rule guards the edge
abbrev pub is_edge_of : RuleName → Edge → Bool
is_edge_of r e = sameb rule_type (rule_of e.wire e.fall) r

-- one condition of the edge's rule refuses the edge and no other does, or its settling rule does
abbrev pub is_lone : Judgement → List Condition → Bool
is_lone (Err (Rule n)) cs = length cs == 1
is_lone (Err (NotSettled n)) cs = true
is_lone _ cs = false

-- that alone refuses the edge
abbrev pub refuses : State → Miss → Edge → Bool
refuses b (miss.Rule k c) e = fails_rule k (verdict b e) && is_alone c (unmet b e)
refuses b (miss.Unserved kind) e =
    fails_rule 22 (verdict b e) && has_kind kind (board_of b.plan e.driver)
refuses b (miss.Settling k) e = fails_settling k (verdict b e)
refuses b (miss.AnyOf r) e = is_edge_of r e && is_lone (verdict b e) (unmet b e)

-- that alone refuses the edge, and it is one of the only driver whose edges count, if there is one
abbrev pub is_missed : State → Option Driver → Miss → Edge → Bool
is_missed b only m e = counts only e.driver && refuses b m e

-- every edge that moves a wire to its other state: by driver, the controller first, then by slot;
-- by wire in the order of offers; of an address group that goes on by acknowledges, then by
-- accesses
abbrev pub all_moves : State → List Edge
all_moves b = flat_map (λ d. flat_map (moves b.history d) (wires d)) (drivers b.plan)

-- the first of them that counts and that this alone refuses
abbrev pub misses : State → Option Driver → Miss → Option Edge
misses b only m = find (is_missed b only m) (all_moves b)
