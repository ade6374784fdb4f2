-- What a trace can be drawn to reach, and its words. (Profile.)
use Rattle.std.specs.Prelude.{◌==◌, ◌&&◌, ◌||◌, ℕ, Bool, true, false, not, Option, Some, None, List, [], ◌∷◌, ◌++◌, codes, decimal, nat_le, map, find}
use Rattle.std.specs.Option.{option_map_or}
use Rattle.std.specs.Str.{bytes_eq}
use Rattle.vme_model.specs.declared.boards.IrqKind.TheVariants.{Roak, Rora}
use Rattle.vme_model.specs.declared.sentences.Rule.{Rule}
use Rattle.vme_model.specs.declared.sentences.Rule.TheVariants.{G1, G2, G3, G4, G5, G6, G7, G8, G9, G10, G11, G12, G13, G14, G15, G16, G17, G18, G19, G20, G22, G23, G24, G25, G26}
use Rattle.vme_model.specs.declared.signals.Driver.{Driver}
use Rattle.vme_model.specs.declared.signals.Version.{Version}
use Rattle.vme_model.specs.Sentences.{rule_name}
use Rattle.vme_model.specs.Signals.{is_same_driver, is_two}
use Rattle.vme_model.specs.Sources.{edge_rule, is_profile, profile_mark, sources}
use Rattle.vme_model.specs.Spoken.{kind_text, pattern}
use Rattle.vme_goals.specs.declared.misses.Miss.{Miss}
use Rattle.vme_goals.specs.declared.misses.Miss.TheVariants as miss
use Rattle.vme_goals.specs.declared.goals.Aim.{Aim}
use Rattle.vme_goals.specs.declared.goals.Aim.TheVariants as aim
use Rattle.vme_goals.specs.declared.goals.Goal.{Goal}
use Rattle.vme_goals.specs.Events.{all_events, event_text, has_event}

-- the conditions of the edge rule of that number, in their order
abbrev pub conditions_of : ℕ → Rule → List Miss
conditions_of k r = map (λ s. miss.Rule k s.condition) (sources r)

abbrev pub controllers_misses : List Miss
controllers_misses =
    conditions_of 1 G1 ++ conditions_of 2 G2 ++ conditions_of 3 G3 ++ conditions_of 4 G4
    ++ conditions_of 5 G5 ++ conditions_of 6 G6 ++ conditions_of 7 G7 ++ conditions_of 8 G8

abbrev pub requesters_misses : List Miss
requesters_misses =
    conditions_of 9 G9 ++ conditions_of 10 G10 ++ conditions_of 11 G11 ++ conditions_of 12 G12
    ++ conditions_of 13 G13 ++ conditions_of 14 G14

abbrev pub masters_misses : List Miss
masters_misses =
    conditions_of 15 G15 ++ conditions_of 16 G16 ++ conditions_of 17 G17 ++ conditions_of 18 G18
    ++ conditions_of 19 G19 ++ conditions_of 20 G20

-- G21 asks for nothing, and the text of G22's one condition depends on the kind of the interrupter
abbrev pub interrupters_misses : List Miss
interrupters_misses =
    miss.Unserved Roak ∷ miss.Unserved Rora ∷ [] ++ conditions_of 23 G23 ++ conditions_of 24 G24
    ++ conditions_of 25 G25 ++ conditions_of 26 G26

-- the edge rules that ask for something
abbrev pub asking_rules : List Rule
asking_rules =
    G1 ∷ G2 ∷ G3 ∷ G4 ∷ G5 ∷ G6 ∷ G7 ∷ G8 ∷ G9 ∷ G10 ∷ G11 ∷ G12 ∷ G13 ∷ G14 ∷ G15 ∷ G16 ∷ G17
    ∷ G18 ∷ G19 ∷ G20 ∷ G22 ∷ G23 ∷ G24 ∷ G25 ∷ G26 ∷ []

-- the conditions of G1 to G26, S1 to S4, and any condition of a rule
unfoldable pub all_misses : List Miss
all_misses =
    controllers_misses ++ requesters_misses ++ masters_misses ++ interrupters_misses
    ++ (miss.Settling 1 ∷ miss.Settling 2 ∷ miss.Settling 3 ∷ miss.Settling 4 ∷ [])
    ++ map (λ r. miss.AnyOf r) asking_rules

abbrev pub miss_text : Miss → List ℕ
miss_text (miss.Rule k c) = ((codes "G" ++ decimal k) ++ codes " ") ++ pattern c
miss_text (miss.Unserved kind) = codes "G22 " ++ kind_text kind
miss_text (miss.Settling k) = codes "S" ++ decimal k
miss_text (miss.AnyOf r) = rule_name r

-- the rule of a request that is withdrawn
abbrev pub is_withdrawal : Rule → Bool
is_withdrawal G10 = true
is_withdrawal _ = false

-- in the second version G2 and G10 ask for nothing, but the edge of G2 still has S3, and in the
-- first there are no S3 and S4
abbrev pub has_miss : Version → Miss → Bool
has_miss version (miss.Rule k c) = not (is_two version) || not (k == 2 || k == 10)
has_miss version (miss.Unserved kind) = true
has_miss version (miss.Settling k) = is_two version || nat_le k 2
has_miss version (miss.AnyOf r) = not (is_two version && is_withdrawal r)

unfoldable pub all_aims : List Aim
all_aims = map (λ e. aim.Event e) all_events ++ map (λ m. aim.Miss m) all_misses

abbrev pub aim_text : Aim → List ℕ
aim_text (aim.Event e) = event_text e
aim_text (aim.Miss m) = miss_text m

-- a trace can reach the aim in that version
abbrev pub has_aim : Version → Aim → Bool
has_aim version (aim.Event e) = has_event version e
has_aim version (aim.Miss m) = has_miss version m

-- the mark that `explain` writes after a condition that is the profile's; a rule alone has none
abbrev pub miss_mark : Miss → List ℕ
miss_mark (miss.Rule k c) =
    profile_mark (option_map_or (λ r. is_profile r c) (edge_rule k) false)
miss_mark _ = []

abbrev pub aim_mark : Aim → List ℕ
aim_mark (aim.Event e) = []
aim_mark (aim.Miss m) = miss_mark m

-- the words name the aim, with its mark or without it, and a trace can reach it in that version
abbrev pub is_named : List ℕ → Version → Aim → Bool
is_named words version g =
    has_aim version g
    && (bytes_eq words (aim_text g) || bytes_eq words (aim_text g ++ aim_mark g))

-- the aim that the words name, if they name one that a trace can reach in that version
abbrev pub aim_of : List ℕ → Version → Option Aim
aim_of words version = find (is_named words version) all_aims

-- an edge of the driver counts, if only those of one driver do, or if all do
abbrev pub counts : Option Driver → Driver → Bool
counts None d = true
counts (Some only) d = is_same_driver d only

-- an edge counts that has so many edges before it
abbrev pub is_due : Goal → ℕ → Bool
is_due g before = nat_le g.after before
