-- What stops an edge on its way back. (The definitions are this project's own.)
use Rattle.std.specs.Prelude.{◌≡◌, ℕ, ◌∷◌, Bool, true, false, List, Ok, Err}
use Rattle.vme_model.specs.declared.signals.Version.{Version}
use Rattle.vme_model.specs.declared.signals.Edge.{Edge}
use Rattle.vme_model.specs.Plan.{Plan}
use Rattle.vme_model.specs.Signals.{is_well_formed}
use Rattle.vme_model.specs.Verdict.{verdict_but_full}
use Rattle.vme_swaps.specs.declared.stops.Stop.{Stop}
use Rattle.vme_swaps.specs.declared.stops.Stop.TheVariants.{Begins, Far, Waits, Races}

-- how many edges one passes at most (profile)
abbrev pub most_passed : ℕ
most_passed = 200

-- What it meets behind k: the last of k, which it has not passed. It waits for that edge if it is
-- refused in front of it. Otherwise it races with it, and the outcome is what that edge is answered
-- behind it.
abbrev pub Meets : Version → Plan → Edge → ℕ → Edge → List Edge → Stop → Type 0
Meets v p e n a h (Waits m b refused) =
    (m ≡ n) × (b ≡ a) × (verdict_but_full v p h e ≡ Err refused)
Meets v p e n a h (Races m b outcome) =
    (m ≡ n) × (b ≡ a) × (verdict_but_full v p h e ≡ Ok tt)
    × (outcome ≡ verdict_but_full v p (e ∷ h) a)
Meets v p e n a h _ = ⊥

abbrev pub is_race : Stop → Bool
is_race (Races _ _ _) = true
is_race _ = false

abbrev pub is_wait : Stop → Bool
is_wait (Waits _ _ _) = true
is_wait _ = false

-- an edge that is met is well formed
abbrev pub is_formed : Stop → Bool
is_formed Begins = true
is_formed Far = true
is_formed (Waits n e refused) = is_well_formed e
is_formed (Races n e outcome) = is_well_formed e
