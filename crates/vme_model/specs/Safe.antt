-- What is safe about a list of edges. (The claims are this project's own; the words are those of
-- chapters 2 to 4.)
use Rattle.std.specs.Prelude.{List, [], ◌∷◌}
use Rattle.vme_model.specs.declared.signals.Version.{Version}
use Rattle.vme_model.specs.declared.signals.Edge.{Edge}
use Rattle.vme_model.specs.Plan.{Plan}
use Rattle.vme_model.specs.GrantSafety.{OneTravels, NoneTravelsWhileBusy, OneHolds, TakesRightfully, OneChainLow, NoGap, BeginsAtController, ReleasesAfterGrants, NoneLost, TravelsOrEnds}
use Rattle.vme_model.specs.CycleSafety.{OneAddresses, KeepsItsAddress, OneAnswers, AnswersRightfully, AnswersOnce, ReleasesAnswered}

-- the claim holds before the first edge, and after each one
abbrev pub OnEachPrefix : (List Edge → Type 0) → List Edge → Type 0
OnEachPrefix P [] = P []
OnEachPrefix P (e ∷ h) = P (e ∷ h) × OnEachPrefix P h

-- the claim holds for each edge and the history before it
abbrev pub AtEachEdge : (List Edge → Edge → Type 0) → List Edge → Type 0
AtEachEdge P [] = Unit {0}
AtEachEdge P (e ∷ h) = P h e × AtEachEdge P h

-- at most one grant travels, none while the bus is busy; at most one slot holds the bus, and at
-- most one drives the address lines; each take and each answer is rightful; and each request of a
-- ROAK slot is answered once
pub record IsSafe (p : Plan) (h : List Edge) : Type 0 where
  pub one_travels : OnEachPrefix (OneTravels p) h
  pub none_while_busy : OnEachPrefix (NoneTravelsWhileBusy p) h
  pub one_holder : OnEachPrefix OneHolds h
  pub one_addresses : OnEachPrefix OneAddresses h
  pub takes : AtEachEdge (TakesRightfully p) h
  pub answers : AtEachEdge (AnswersRightfully p) h
  pub once : OnEachPrefix (AnswersOnce p) h
  pub once_released : AtEachEdge (ReleasesAnswered p) h

-- the low grant segments are one run; no grant is lost; an address is kept until its strobe is low;
-- no cycle has two answers
pub record IsOrderly (version : Version) (p : Plan) (h : List Edge) : Type 0 where
  pub one_chain : OnEachPrefix (OneChainLow p) h
  pub no_gap : OnEachPrefix (NoGap p) h
  pub begins : OnEachPrefix (BeginsAtController version p) h
  pub releases : AtEachEdge (ReleasesAfterGrants p) h
  pub none_lost : OnEachPrefix (NoneLost version p) h
  pub travels_or_ends : OnEachPrefix (TravelsOrEnds p) h
  pub keeps_address : OnEachPrefix KeepsItsAddress h
  pub one_answer : OnEachPrefix OneAnswers h
