-- Every legal list of every accepted plan is safe and orderly.
use Rattle.std.proofs.Common.{List, [], ◌∷◌}
use Rattle.vme_model.specs.declared.signals.Version.{Version}
use Rattle.vme_model.specs.declared.signals.Edge.{Edge}
use Rattle.vme_model.specs.Plan.{Plan}
use Rattle.vme_model.specs.Accepted.{IsAccepted}
use Rattle.vme_model.specs.Verdict.{IsLegal}
use Rattle.vme_model.specs.GrantSafety.{OneTravels, NoneTravelsWhileBusy, OneHolds, TakesRightfully, OneChainLow, NoGap, BeginsAtController, ReleasesAfterGrants, NoneLost, TravelsOrEnds}
use Rattle.vme_model.specs.CycleSafety.{OneAddresses, KeepsItsAddress, OneAnswers, AnswersRightfully, AnswersOnce, ReleasesAnswered}
use Rattle.vme_model.specs.Safe.{OnEachPrefix, AtEachEdge, IsSafe, IsOrderly}
use Rattle.vme_model.proofs.Ranges.{IsInRange, in_range}
use Rattle.vme_model.proofs.AllowedEdges.{Passed, all_passed}
use Rattle.vme_model.proofs.Grants.{Now, now_of}
use Rattle.vme_model.proofs.GrantClaims.{one_travels, none_while_busy, one_holder, one_chain_low_of, no_gap, begins_at_controller, none_lost, travels_or_ends, takes_rightfully, releases_after_grants}
use Rattle.vme_model.proofs.Cycles.{Going, going_of}
use Rattle.vme_model.proofs.CycleClaims.{one_addresses, keeps_its_address, one_answers, answers_once, answers_rightfully, releases_answered}

-- each prefix of a legal list is legal
each_prefix : (version : Version) (p : Plan) (P : List Edge → Type 0) → ((h : List Edge) → IsLegal version p h → P h) → (h : List Edge) → IsLegal version p h → OnEachPrefix P h
each_prefix version p P f [] l = f [] l
each_prefix version p P f (e ∷ h) l = (f (e ∷ h) l, each_prefix version p P f h l.1)

-- each edge passed its tests after the list before it
abbrev IsShown : Version → Plan → (List Edge → Edge → Type 0) → Type 0
IsShown version p P = (h : List Edge) (e : Edge) → IsLegal version p h → Passed version p h e.driver e.wire e.fall e.value → P h e

each_edge : (version : Version) (p : Plan) (P : List Edge → Edge → Type 0) → IsShown version p P → (h : List Edge) → IsLegal version p h → AtEachEdge P h
each_edge version p P f [] l = tt
each_edge version p P f (e ∷ h) l = (f h e l.1 (all_passed version p h e.driver e.wire e.fall e.value l.0), each_edge version p P f h l.1)

module _ (version : Version) (p : Plan) (range : IsInRange p) where
  now : (h : List Edge) → IsLegal version p h → Now version p h
  now h l = now_of version p range h l

  going : (h : List Edge) → IsLegal version p h → Going p h
  going h l = going_of version p range h l

  safe_in : (h : List Edge) → IsLegal version p h → IsSafe p h
  safe_in h l = record {
    one_travels = each_prefix version p (OneTravels p) (λ g m. one_travels version p range g (now g m)) h l;
    none_while_busy = each_prefix version p (NoneTravelsWhileBusy p) (λ g m. none_while_busy version p range g (now g m)) h l;
    one_holder = each_prefix version p OneHolds (λ g m. one_holder version p g (now g m)) h l;
    one_addresses = each_prefix version p OneAddresses (λ g m. one_addresses version p g (now g m) (going g m)) h l;
    takes = each_edge version p (TakesRightfully p) (λ g e m a. takes_rightfully version p range g e.driver e.wire e.fall e.value a (now g m)) h l;
    answers = each_edge version p (AnswersRightfully p) (λ g e m a. answers_rightfully version p range g e.driver e.wire e.fall e.value a (going g m)) h l;
    once = each_prefix version p (AnswersOnce p) (λ g m. answers_once version p g m) h l;
    once_released = each_edge version p (ReleasesAnswered p) (λ g e m a. releases_answered version p g e.driver e.wire e.fall e.value a m) h l;
  }

  orderly_in : (h : List Edge) → IsLegal version p h → IsOrderly version p h
  orderly_in h l = record {
    one_chain = each_prefix version p (OneChainLow p) (λ g m. one_chain_low_of version p g (now g m)) h l;
    no_gap = each_prefix version p (NoGap p) (λ g m. no_gap version p g (now g m)) h l;
    begins = each_prefix version p (BeginsAtController version p) (λ g m. begins_at_controller version p range g (now g m)) h l;
    releases = each_edge version p (ReleasesAfterGrants p) (λ g e m a. releases_after_grants version p range g e.driver e.wire e.fall e.value a (now g m)) h l;
    none_lost = each_prefix version p (NoneLost version p) (λ g m. none_lost version p range g (now g m)) h l;
    travels_or_ends = each_prefix version p (TravelsOrEnds p) (λ g m. travels_or_ends version p range g (now g m)) h l;
    keeps_address = each_prefix version p KeepsItsAddress (λ g m. keeps_its_address p g (going g m)) h l;
    one_answer = each_prefix version p OneAnswers (λ g m. one_answers p g (going g m)) h l;
  }

pub legal_is_safe : (version : Version) (p : Plan) (h : List Edge) → IsAccepted p → IsLegal version p h → IsSafe p h
legal_is_safe version p h accepted l = safe_in version p (in_range p accepted) h l

pub legal_is_orderly : (version : Version) (p : Plan) (h : List Edge) → IsAccepted p → IsLegal version p h → IsOrderly version p h
legal_is_orderly version p h accepted l = orderly_in version p (in_range p accepted) h l
