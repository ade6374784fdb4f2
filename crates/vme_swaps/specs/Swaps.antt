-- Free swaps of two neighbours, and histories that are one but for free swaps. (The definitions are
-- this project's own.)
use Rattle.std.specs.Prelude.{◌≡◌, ◌++◌, List, [], ◌∷◌, Ok, Err}
use Rattle.vme_model.specs.declared.signals.Version.{Version}
use Rattle.vme_model.specs.declared.signals.Edge.{Edge}
use Rattle.vme_model.specs.Plan.{Plan}
use Rattle.vme_model.specs.Deliveries.{delivery}
use Rattle.vme_model.specs.Verdict.{IsLegal, verdict_but_full}
use Rattle.vme_swaps.specs.declared.swaps.StepBack.{StepBack}
use Rattle.vme_swaps.specs.declared.swaps.StepBack.TheVariants.{Passes, Waits, Races}
use Rattle.vme_swaps.specs.Alike.{StandAlike}

-- After a history two edges may change places: both orders are legal, each of the two edges
-- delivers the same in both, and the bus stands alike behind them.
pub record IsFree (version : Version) (p : Plan) (h : List Edge) (a b : Edge) : Type 0 where
  pub legal : IsLegal version p (b ∷ a ∷ h)
  pub swapped : IsLegal version p (a ∷ b ∷ h)
  pub first : delivery p (b ∷ h) a ≡ delivery p h a
  pub second : delivery p h b ≡ delivery p (a ∷ h) b
  pub alike : StandAlike p (b ∷ a ∷ h) (a ∷ b ∷ h)

-- How the edge e goes back over the edge `first`, behind which it comes after a history: it passes
-- if the two may change places. Otherwise it waits if it is refused in front of `first`; or it
-- races, and the outcome is what `first` is answered behind it.
abbrev pub StepsBack : Version → Plan → List Edge → Edge → Edge → StepBack → Type 0
StepsBack version p h first e Passes = IsFree version p h first e
StepsBack version p h first e (Waits refused) =
    ¬ IsFree version p h first e × (verdict_but_full version p h e ≡ Err refused)
StepsBack version p h first e (Races outcome) =
    ¬ IsFree version p h first e × (verdict_but_full version p h e ≡ Ok tt)
    × (outcome ≡ verdict_but_full version p (e ∷ h) first)

-- one free swap of neighbours, whatever came behind them
pub record IsSwap (version : Version) (p : Plan) (g h : List Edge) : Type 0 where
  pub later : List Edge
  pub before : List Edge
  pub first : Edge
  pub second : Edge
  pub free : IsFree version p before first second
  pub from : g ≡ later ++ second ∷ first ∷ before
  pub to : h ≡ later ++ first ∷ second ∷ before

-- from one history to another by free swaps, through these
abbrev pub LeadThrough : Version → Plan → List Edge → List (List Edge) → List Edge → Type 0
LeadThrough version p g [] h = g ≡ h
LeadThrough version p g (k ∷ ks) h = IsSwap version p g k × LeadThrough version p k ks h

-- the two are one but for free swaps of neighbours, one after another
pub record AreOneButForSwaps (version : Version) (p : Plan) (g h : List Edge) : Type 0 where
  pub through : List (List Edge)
  pub swaps : LeadThrough version p g through h
