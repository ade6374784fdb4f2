-- The pieces in which a block is written.
use Rattle.std.specs.Prelude.{ℕ, List, [], ◌∷◌, ◌++◌, codes}
use Rattle.std.specs.List.{flat_map}
use Rattle.vme_model.specs.declared.conditions.Tested.{Tested}
use Rattle.vme_model.specs.declared.signals.Edge.{Edge}
use Rattle.vme_model.specs.declared.witnesses.Witness.{Witness}
use Rattle.vme_model.specs.declared.witnesses.Witness.TheVariants.{Wire}
use Rattle.vme_model.specs.Plan.{board_of}
use Rattle.vme_model.specs.History.{shown}
use Rattle.vme_model.specs.Sources.{is_ours, profile_mark}
use Rattle.vme_model.specs.Spoken.{condition_text}
use Rattle.vme_model.specs.Text.{HasWord}
use Rattle.vme_model.specs.Verdict.{State}
use Rattle.vme_model.specs.Numbered.{Numbered}
use Rattle.vme_model.specs.Witnesses.{witnesses_of}
use Rattle.vme_model.specs.Why.{Reason, witness_text, outcome_text, reason_lines}

-- the witness names no wire without a word
abbrev pub IsSpoken : Witness → Type 0
IsSpoken (Wire d w low value level since) = HasWord w
IsSpoken _ = Unit {0}

-- the line of a witness
abbrev pub witness_line : Witness → List ℕ
witness_line w = (codes "    " ++ witness_text w) ++ 10 ∷ []

-- the line of a tested condition of an edge
abbrev pub condition_line : State → Edge → Tested → List ℕ
condition_line b e t =
    ((outcome_text t.holds
    ++ condition_text t.condition e (board_of b.plan e.driver) (shown b.plan b.history))
    ++ profile_mark (is_ours e.wire e.fall t.condition))
    ++ 10 ∷ []

-- a tested condition of an edge, with what is printed about it
abbrev pub reason : State → Numbered → Edge → Tested → Reason
reason b k e t = record { tested = t; witnesses = witnesses_of b k e t.condition }

-- the lines of the tested conditions
abbrev pub reasons_text : State → Numbered → Edge → List Tested → List ℕ
reasons_text b k e ts = flat_map (λ t. reason_lines b e (reason b k e t)) ts
