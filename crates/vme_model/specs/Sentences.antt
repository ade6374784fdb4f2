-- The rules in words: for each its name, its edge, and a sentence. (Profile. Which conditions are
-- the standard's stands in `Sources`.)
use Rattle.std.specs.Prelude.{ℕ, Option, List, [], ◌∷◌, ◌++◌, codes, find}
use Rattle.std.specs.Str.{bytes_eq}
use Rattle.vme_model.specs.declared.sentences.Rule.{Rule}
use Rattle.vme_model.specs.declared.sentences.Rule.TheVariants.{E1, E2, G1, G2, G3, G4, G5, G6, G7, G8, G9, G10, G11, G12, G13, G14, G15, G16, G17, G18, G19, G20, G21, G22, G23, G24, G25, G26, S1, S2, S3, S4, E5}

-- all rules, in the order in which `rule` prints them
unfoldable pub all_rules : List Rule
all_rules =
    E1 ∷ E2 ∷ G1 ∷ G2 ∷ G3 ∷ G4 ∷ G5 ∷ G6 ∷ G7 ∷ G8 ∷ G9 ∷ G10 ∷ G11 ∷ G12
    ∷ G13 ∷ G14 ∷ G15 ∷ G16 ∷ G17 ∷ G18 ∷ G19 ∷ G20 ∷ G21 ∷ G22 ∷ G23 ∷ G24 ∷ G25 ∷ G26
    ∷ S1 ∷ S2 ∷ S3 ∷ S4 ∷ E5 ∷ []

abbrev pub rule_name : Rule → List ℕ
rule_name E1 = codes "E1"
rule_name E2 = codes "E2"
rule_name G1 = codes "G1"
rule_name G2 = codes "G2"
rule_name G3 = codes "G3"
rule_name G4 = codes "G4"
rule_name G5 = codes "G5"
rule_name G6 = codes "G6"
rule_name G7 = codes "G7"
rule_name G8 = codes "G8"
rule_name G9 = codes "G9"
rule_name G10 = codes "G10"
rule_name G11 = codes "G11"
rule_name G12 = codes "G12"
rule_name G13 = codes "G13"
rule_name G14 = codes "G14"
rule_name G15 = codes "G15"
rule_name G16 = codes "G16"
rule_name G17 = codes "G17"
rule_name G18 = codes "G18"
rule_name G19 = codes "G19"
rule_name G20 = codes "G20"
rule_name G21 = codes "G21"
rule_name G22 = codes "G22"
rule_name G23 = codes "G23"
rule_name G24 = codes "G24"
rule_name G25 = codes "G25"
rule_name G26 = codes "G26"
rule_name S1 = codes "S1"
rule_name S2 = codes "S2"
rule_name S3 = codes "S3"
rule_name S4 = codes "S4"
rule_name E5 = codes "E5"

-- the edge that a rule is asked for, with N for a grant's level and v for what is shown
abbrev pub rule_edge : Rule → List ℕ
rule_edge E1 = codes "any"
rule_edge E2 = codes "any"
rule_edge G1 = codes "c bgN-"
rule_edge G2 = codes "c bgN+"
rule_edge G3 = codes "c bclr-"
rule_edge G4 = codes "c bclr+"
rule_edge G5 = codes "c iack-"
rule_edge G6 = codes "c iack+"
rule_edge G7 = codes "c berr-"
rule_edge G8 = codes "c berr+"
rule_edge G9 = codes "br-"
rule_edge G10 = codes "br+"
rule_edge G11 = codes "bgout-"
rule_edge G12 = codes "bgout+"
rule_edge G13 = codes "bbsy-"
rule_edge G14 = codes "bbsy+"
rule_edge G15 = codes "addr- v"
rule_edge G16 = codes "as-"
rule_edge G17 = codes "ds-"
rule_edge G18 = codes "ds+"
rule_edge G19 = codes "addr+"
rule_edge G20 = codes "as+"
rule_edge G21 = codes "irq-"
rule_edge G22 = codes "irq+"
rule_edge G23 = codes "iackout-"
rule_edge G24 = codes "iackout+"
rule_edge G25 = codes "dtack-"
rule_edge G26 = codes "dtack+"
rule_edge S1 = codes "as-"
rule_edge S2 = codes "c berr-"
rule_edge S3 = codes "c bgN+"
rule_edge S4 = codes "c bgN-"
rule_edge E5 = codes "any"

-- the sentence of a settling rule, and of E5
abbrev pub other_sentence : Rule → List ℕ
other_sentence S1 = codes "No cycle begins until the IACK chain of the last cycle is high again."
other_sentence S2 = codes "The bus timer waits until no board is left that can answer."
other_sentence S3 = codes "Version 2: a grant times out only when it has passed every board."
other_sentence S4 =
    codes "Version 2: a new grant waits until the last one has risen at every board."
other_sentence E5 = codes "A trace has at most 1,048,576 accepted edges."
other_sentence r = []

-- the sentence of a rule of interrupters
abbrev pub interrupters_sentence : Rule → List ℕ
interrupters_sentence G21 = codes "A board may request an interrupt at any time."
interrupters_sentence G22 =
    codes "An interrupt request stays asserted until it is served: with ROAK by an acknowledge, "
    ++ codes "with RORA by an access."
interrupters_sentence G23 =
    codes "A board with nothing pending at the level shown passes the acknowledge on."
interrupters_sentence G24 = codes "A board keeps the IACK chain low until the cycle ends."
interrupters_sentence G25 =
    codes "The first pending board that an acknowledge reaches answers it, and a board answers an "
    ++ codes "access to its slot."
interrupters_sentence G26 = codes "An answer stays asserted until the master has seen it."
interrupters_sentence r = other_sentence r

-- the sentence of a rule of requesters or masters
abbrev pub board_sentence : Rule → List ℕ
board_sentence G9 = codes "The owner of the bus does not request it."
board_sentence G10 =
    codes "A request stays asserted until it is met. Version 2: it may be withdrawn."
board_sentence G11 = codes "A board that does not want the grant passes it on."
board_sentence G12 = codes "A grant chain rises board by board, from its beginning."
board_sentence G13 = codes "A requester takes the grant that reaches it."
board_sentence G14 =
    codes "An owner releases the bus once its last transfer has begun and no old grant is left; "
    ++ codes "with ROR, only while a board requests the bus."
board_sentence G15 =
    codes "The owner begins a cycle once the one before has ended; with RWD, only within its "
    ++ codes "burst; and it acknowledges only what it handles and what is requested."
board_sentence G16 = codes "The address strobe says that the address is valid."
board_sentence G17 =
    codes "A data strobe waits until the last answer has ended, and falls once in a cycle."
board_sentence G18 = codes "A data strobe stays asserted until it is answered."
board_sentence G19 = codes "The address goes off once its only transfer is over."
board_sentence G20 = codes "A cycle ends once its address is off."
board_sentence r = interrupters_sentence r

-- the sentence of a rule
abbrev pub sentence : Rule → List ℕ
sentence E1 = codes "An edge needs a board in its slot, and the board must have the wire."
sentence E2 = codes "A wire can only change to its other state."
sentence G1 =
    codes "The arbiter grants the level that its policy picks, one grant at a time, while the bus "
    ++ codes "has no owner."
sentence G2 =
    codes
    "A grant stays asserted until a board has taken it. Version 2: it may also time out, by S3."
sentence G3 =
    codes "A priority arbiter asks the owner to release the bus for a request of a higher level."
sentence G4 = codes "Bus clear stays asserted as long as it is due."
sentence G5 =
    codes "The daisy-chain driver starts the IACK chain for the acknowledge that is shown."
sentence G6 = codes "The daisy-chain driver keeps the IACK chain low until the cycle ends."
sentence G7 = codes "The bus timer ends a cycle that nobody answers."
sentence G8 = codes "A bus error stays asserted until the master has seen it."
sentence r = board_sentence r

-- the rule of that name
abbrev pub rule_named : List ℕ → Option Rule
rule_named words = find (λ r. bytes_eq words (rule_name r)) all_rules
