-- What is printed of a condition that fails. (Profile. The rules and their conditions are those of
-- `vme_model`.)
use Rattle.std.specs.Prelude.{◌++◌, ℕ, Bool, true, false, List, codes, decimal}
use Rattle.vme_model.specs.declared.signals.Driver.{Driver}
use Rattle.vme_model.specs.declared.signals.Wire.{Wire}
use Rattle.vme_model.specs.declared.signals.Wire.TheVariants.{Bg}
use Rattle.vme_model.specs.declared.sentences.Rule.TheVariants.{S2}
use Rattle.vme_model.specs.Sentences.{rule_name}
use Rattle.vme_model.specs.Sources.{is_profile, profile_mark}
use Rattle.vme_model.specs.Spoken.{driver_name, kind_text, pattern}
use Rattle.vme_model.specs.Text.{wire_text}
use Rattle.vme_probe.specs.declared.obstacles.Obstacle.{Obstacle}
use Rattle.vme_probe.specs.declared.obstacles.Obstacle.TheVariants.{NotLow, Fails, NotPicked, NotHandled, NotServed, OtherLow, NotPending, IsPending, NoAcknowledge, OtherByte}

-- what stands before the condition
abbrev pub rule_text : Obstacle → List ℕ
rule_text (NotLow w) = codes "E2"
rule_text (Fails r c) = rule_name r
rule_text (NotPicked n) = codes "G1"
rule_text (NotHandled n) = codes "G15"
rule_text (NotServed k) = codes "G22"
rule_text OtherLow = codes "line"
rule_text (NotPending n) = codes "G25"
rule_text (IsPending n) = codes "G23"
rule_text NoAcknowledge = codes "status"
rule_text (OtherByte b) = codes "status"

-- the word of a wire; a grant's has no level
abbrev pub wire_word : Wire → List ℕ
wire_word (Bg n) = codes "bg"
wire_word w = wire_text w

abbrev pub condition_text : Driver → Obstacle → List ℕ
condition_text d (NotLow w) = ((driver_name d ++ codes " ") ++ wire_word w) ++ codes " is low"
condition_text d (Fails r c) = pattern c
condition_text d (NotPicked n) = codes "the arbiter picks level " ++ decimal n
condition_text d (NotHandled n) = codes "the board handles level " ++ decimal n
condition_text d (NotServed k) = kind_text k
condition_text d OtherLow = codes "no other irq is low"
condition_text d (NotPending n) = codes "pending at level " ++ decimal n
condition_text d (IsPending n) = codes "not pending at level " ++ decimal n
condition_text d NoAcknowledge = codes "an acknowledge is shown"
condition_text d (OtherByte b) = codes "its byte is " ++ decimal b

-- it has the mark of the profile
abbrev pub is_marked : Obstacle → Bool
is_marked (Fails S2 c) = false
is_marked (Fails r c) = is_profile r c
is_marked (NotPicked n) = true
is_marked _ = false

-- it breaks our rules alone: the policies of arbiters are the standard's, too (chapter 3)
abbrev pub is_ours : Obstacle → Bool
is_ours (NotPicked n) = false
is_ours o = is_marked o

-- the line of an obstacle, without its line feed
abbrev pub obstacle_line : Driver → Obstacle → List ℕ
obstacle_line d o =
    (((((codes "    " ++ driver_name d) ++ codes " ") ++ rule_text o) ++ codes " ")
    ++ condition_text d o) ++ profile_mark (is_marked o)

abbrev pub no_driver_line : List ℕ
no_driver_line = codes "    E1 no board has this line"
