-- What holds of draws on all wires, and of the conditions that an edge fails.
use Rattle.std.specs.Prelude.{◌≡◌, ◌==◌, ◌<◌, ◌≤◌, ℕ, suc, true, false, Option, Some, None, List, [], Result, Ok, Err, length, slice_index}
use Rattle.vme_model.specs.declared.signals.Version.{Version}
use Rattle.vme_model.specs.declared.signals.Edge.{Edge}
use Rattle.vme_model.specs.Accepted.{IsAccepted}
use Rattle.vme_model.specs.Plan.{Plan}
use Rattle.vme_model.specs.declared.deliveries.Delivery.{Delivery}
use Rattle.vme_model.specs.declared.refusals.Refused.{Refused}
use Rattle.vme_model.specs.declared.refusals.Refused.TheVariants.{NoSuchDriver, AlreadyThere, Rule, NotSettled, TraceFull}
use Rattle.vme_model.specs.Report.{at_power_up, trace_limit, verdict_text}
use Rattle.vme_model.specs.Signals.{is_well_formed}
use Rattle.vme_seeds.specs.declared.draws.Draws.{Draws}
use Rattle.vme_seeds.specs.declared.kinds.Kind.{Kind}
use Rattle.vme_seeds.specs.Choices.{weight}
use Rattle.vme_seeds.specs.Draws.{IsCountedIn, made_of, numbers_of, weight_of}
use Rattle.vme_seeds.specs.Kinds.{has_board}
use Rattle.vme_seeds.specs.Laws.{Follows}
use Rattle.vme_seeds.specs.Numbers.{after_words, generator}
use Rattle.vme_seeds.specs.Walks.{Walk, at_start, next_edge, walked}
use Rattle.vmebus_c.specs.Asked.{failed_by}
use Rattle.vmebus_c.specs.Named.{edge_of_word}
use Rattle.vmebus_c.specs.Numbers.{answer_number, delivered_number, edge_number}
use Rattle.vmebus_c.specs.Played.{drawn_edge, weighing_words}
use Rattle.vmebus_c.specs.Rooms.{most_failing}
use Rattle.vmebus_c.specs.Stepped.{followed}
use Rattle.vmebus_c.specs.Verdicts.{is_rule, last_rule, last_settling, verdict_of_numbers}

-- the masks: one for the controller, and one for each of 21 slots
abbrev pub mask_count : ℕ
mask_count = 22

-- the mask of all wires: a bit for each of 16
abbrev pub every_wire : ℕ
every_wire = 65535

-- each mask has the bits of all wires
abbrev pub PlaysAll : List ℕ → Type 0
PlaysAll wires = (n : ℕ) → n < mask_count → slice_index wires n ≡ every_wire

-- draws that stand where a walk stands draw, on all wires, the edge that the walk makes next, as
-- long as the walk has room for it
abbrev pub DrawsTheWalk : Type 0
DrawsTheWalk = (w : Walk) (d : Draws) (wires : List ℕ)
    → IsAccepted w.state.plan → (length w.state.history == w.state.max) ≡ false → PlaysAll wires
    → Follows w d
    → drawn_edge w.state.version w.state.plan w.state.history wires d ≡ next_edge w

-- the word of an edge names it
abbrev pub WordsNameEdges : Type 0
WordsNameEdges = (e : Edge) → is_well_formed e ≡ true → edge_of_word (edge_number e) ≡ Some e

-- the history after a draw: with the edge that the word of the drawn one names, if it is accepted,
-- and as it was if none was drawn
abbrev pub stepped_by : Version → Plan → List Edge → Option Edge → List Edge
stepped_by version p h (Some e) = followed version p h (edge_of_word (edge_number e))
stepped_by version p h None = h

-- what a bench has that draws on some wires by a seed and steps each edge that is drawn: before its
-- first draw, and after each, the history of its bus and its draws. So the bus is opened, the draws
-- are those of the seed, and then each draw and step are as the functions of the library say
pub record IsBench
    (version : Version)
    (p : Plan)
    (wires : List ℕ)
    (seed : ℕ)
    (histories : ℕ → List Edge)
    (draws : ℕ → Draws)
    : Type 0 where
  pub opened : histories 0 ≡ []
  pub begun : numbers_of (draws 0) ≡ after_words weighing_words (generator seed)
  pub weighed : (k : Kind) → weight_of (draws 0) k ≡ weight (generator seed) k
  pub none_made : (k : Kind) → made_of (draws 0) k ≡ 0
  pub stepped : (n : ℕ) → histories (suc n)
      ≡ stepped_by version p (histories n) (drawn_edge version p (histories n) wires (draws n))
  pub moved : (n : ℕ) → numbers_of (draws (suc n)) ≡ after_words 2 (numbers_of (draws n))
  pub kept : (n : ℕ) → (draws (suc n)).weights ≡ (draws n).weights
  pub counted : (n : ℕ) → IsCountedIn (has_board p)
      (drawn_edge version p (histories n) wires (draws n)) (draws n) (draws (suc n))

-- on all wires, such a bench has made after n draws the first n edges of the seed's walk, or all of
-- them if it ends before; `drive --seed` prints the edges of that walk
abbrev pub MakesTheWalk : Type 0
MakesTheWalk = (version : Version) (p : Plan) (wires : List ℕ) (seed : ℕ)
    (histories : ℕ → List Edge) (draws : ℕ → Draws)
    → IsAccepted p → PlaysAll wires → IsBench version p wires seed histories draws
    → (n : ℕ) → n ≤ trace_limit
    → histories n ≡ (walked n (at_start (at_power_up version p trace_limit) seed)).state.history

-- an answer that has a number: its rule is one of its kind, and what it delivers are bytes
abbrev pub HasNumber : Result (Option Delivery) Refused → Type 0
HasNumber (Ok None) = Unit {0}
HasNumber (Ok (Some d)) =
    (d.level < 128) × (d.handler < 256) × (d.answered_by < 256) × (d.status < 256)
HasNumber (Err NoSuchDriver) = Unit {0}
HasNumber (Err AlreadyThere) = Unit {0}
HasNumber (Err (Rule k)) = is_rule last_rule k ≡ true
HasNumber (Err (NotSettled k)) = is_rule last_settling k ≡ true
HasNumber (Err TraceFull) = ⊥

-- the numbers by which a step returns an answer spell it as `replay` does
abbrev pub NumbersSpellAnswers : Type 0
NumbersSpellAnswers = (a : Result (Option Delivery) Refused) → HasNumber a
    → verdict_of_numbers (answer_number a) (delivered_number a) ≡ verdict_text a

-- no edge fails more than five conditions, after whatever edges
abbrev pub AtMostFiveFail : Type 0
AtMostFiveFail = (version : Version) (p : Plan) (h : List Edge) (e : Option Edge)
    → length (failed_by version p h e) ≤ most_failing
