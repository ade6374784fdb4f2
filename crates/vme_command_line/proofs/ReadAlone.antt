-- A command reads the words after its name alone as it reads them behind its name in the whole command line.
use Rattle.std.proofs.Common.{◌≡◌, ◌∙◌, inl, inr, true, false, List, [], ◌∷◌, Option, Some, Result, Ok, Err, IfOk, fold, is_some, map, option_map, refl, sym, ap, ap₂, subst}
use Rattle.std.specs.Prelude.{find}
use Rattle.std.specs.Option.{option_map_or}
use Rattle.std.specs.Str.{bytes_eq}
use Rattle.std.proofs.lemmas.Slice.Eq.{bytes_eq-Decides}
use Rattle.vme_trace.proofs.AllEdges.{In, find_in}
use Rattle.clap.specs.Words.{App, FailsBy, HasMatchesOf, Shape, Text, app_of, fault_of, found_of, is_simple, is_simple_and_free, matches_of, rows_of, shape_of, subcommand_of}
use Rattle.clap.specs.Walk.{Names, Walk, after_step, answers_to, finished, idle, nothing_held, rows_after, settled, subcommand_met, subcommand_or_other, walk, walk_from, walked}
use Rattle.clap.specs.Simple.{app_of_fields, built, entered, label_of, names_of, rows_at}
use Rattle.clap.specs.Kinds.{Kinds, or_else}
use Rattle.clap.specs.Faults.{check_fault, defaults_fault, entered_fault, level_fault, other_fault, settle_fault, step_fault, turn_fault, walk_fault}
use Rattle.clap.specs.declared.builder.command.Command.{Command}
use Rattle.clap.specs.declared.builder.command.Command.TheViews.{out-Command as fields_of}
use Rattle.clap.specs.declared.error.Error.{Error}
use Rattle.clap.specs.declared.parser.matches.ArgMatches.{ArgMatches}
use Rattle.clap.proofs.SimpleLemmas.{leaf_subcommands}
use Rattle.clap.proofs.WalkLemmas.{both, walk_stopped}
use Rattle.clap.proofs.FaultLemmas.{leaf_fault, stopped_fault}
use Rattle.vme_command_line.specs.Commands.{commands}
use Rattle.vme_command_line.specs.Named.{command_named}

-- a command without the others, and without a word for its own name
abbrev pub alone : Shape → App
alone s = record { top = record s { no_binary_name = true }; subs = [] }

abbrev top : Shape
top = (built commands).top

abbrev names : Names
names = names_of (built commands)

abbrev start : Walk
start = walk_from nothing_held

abbrev met_at : Text → List Text → Walk
met_at name rest = record start { stopped = Some (name, rest) }

abbrev sub_named : Text → Option Shape
sub_named name = find (λ x. answers_to name (label_of x)) (built commands).subs

-- the command line knows the command by its name, without fault, and makes of it what it is alone
abbrev Stands : Shape → Type 0
Stands s = (subcommand_met names idle s.name ≡ Some s.name) × (sub_named s.name ≡ Some (built (alone s)).top)
    × (other_fault top (Some s.name) s.name nothing_held ≡ []) × ((built (alone s)).subs ≡ []) × ((built (alone s)).top.name ≡ s.name)
    × (is_simple_and_free (alone s) ≡ true) × (s.is_leaf ≡ true)

abbrev Each : List Shape → Type 0
Each [] = Unit {0}
Each (s ∷ ss) = Stands s × Each ss

one_stands : (ss : List Shape) (s : Shape) → Each ss → In s ss → Stands s
one_stands [] s each within = absurd within
one_stands (x ∷ xs) s each (inl is) = subst Stands is each.0
one_stands (x ∷ xs) s each (inr within) = one_stands xs s each.1 within

each_stands : Each commands.subs
each_stands = (
  (refl, refl, refl, refl, refl, refl, refl),
  (
    (refl, refl, refl, refl, refl, refl, refl),
    (
      (refl, refl, refl, refl, refl, refl, refl),
      (
        (refl, refl, refl, refl, refl, refl, refl),
        (
          (refl, refl, refl, refl, refl, refl, refl),
          (
            (refl, refl, refl, refl, refl, refl, refl),
            (
              (refl, refl, refl, refl, refl, refl, refl),
              (
                (refl, refl, refl, refl, refl, refl, refl),
                (
                  (refl, refl, refl, refl, refl, refl, refl),
                  (
                    (refl, refl, refl, refl, refl, refl, refl),
                    (
                      (refl, refl, refl, refl, refl, refl, refl),
                      (
                        (refl, refl, refl, refl, refl, refl, refl),
                        (
                          (refl, refl, refl, refl, refl, refl, refl),
                          (
                            (refl, refl, refl, refl, refl, refl, refl),
                            ((refl, refl, refl, refl, refl, refl, refl), tt),
                          ),
                        ),
                      ),
                    ),
                  ),
                ),
              ),
            ),
          ),
        ),
      ),
    ),
  ),
)

-- the walk stops at the name
name_met : (s : Shape) → Stands s → walked top.rules names start s.name ≡ met_at s.name []
unfolding walked
name_met s stands =
    ap (λ m. after_step top.rules s.name start (subcommand_or_other top.rules m idle 1 s.name nothing_held).0 (subcommand_or_other top.rules m idle 1 s.name nothing_held).1) stands.0

stops : (s : Shape) (rest : List Text) → Stands s → walk top.rules names nothing_held (s.name ∷ rest) ≡ met_at s.name rest
stops s rest stands =
    ap (λ w. fold (walked top.rules names) w rest) (name_met s stands) ∙ sym (walk_stopped top.rules names start s.name [] rest)

rows_met : (s : Shape) (rest : List Text) → Stands s → subcommand_of commands (s.name ∷ rest) ≡ Some (rows_at (built (alone s)).top rest)
rows_met s rest stands =
    ap (λ (w : Walk). entered (built commands) w.stopped) (stops s rest stands) ∙ ap (option_map (λ x. rows_at x rest)) stands.1

rows_alone : (s : Shape) (rest : List Text) → Stands s → matches_of (alone s) rest ≡ rows_after (built (alone s)).top.rules [] rest
rows_alone s rest stands = ap (λ subs. rows_after (built (alone s)).top.rules (names_of (record (built (alone s)) { subs = subs })) rest) stands.3

-- nothing is at fault up to the name
name_passes : (s : Shape) → Stands s → turn_fault top names start s.name ≡ []
name_passes s stands =
    ap (λ m. let met = subcommand_or_other top.rules m idle 1 s.name nothing_held in or_else (other_fault top m s.name nothing_held) (step_fault top 1 met.0 met.1)) stands.0
    ∙ ap (λ k. or_else k []) stands.2

words_pass : (s : Shape) (rest : List Text) → Stands s → walk_fault top names start (s.name ∷ rest) ≡ []
unfolding walk_fault
words_pass s rest stands =
    ap₂ (λ kinds w. or_else kinds (walk_fault top names w rest)) (name_passes s stands) (name_met s stands) ∙ stopped_fault top names start (s.name, []) rest

-- what is at fault behind the walk, by the subcommand that it found
abbrev behind : List Text → Option Shape → Kinds
behind rest found = or_else (option_map_or (λ s. level_fault s [] nothing_held rest false []) found [])
    (or_else (settle_fault top.rules top.args_override_self nothing_held)
    (or_else (defaults_fault (settled top.rules nothing_held).rows top.rules)
    (check_fault top (finished top.rules nothing_held) (is_some (option_map (λ s. rows_at s rest) found)))))

abbrev fault_at : Walk → Kinds → Kinds
fault_at w kinds = or_else kinds (or_else (entered_fault (built commands) w.stopped)
    (or_else (settle_fault top.rules top.args_override_self w.held)
    (or_else (defaults_fault (settled top.rules w.held).rows top.rules)
    (check_fault top (finished top.rules w.held) (is_some (entered (built commands) w.stopped))))))

no_more : (kinds : Kinds) → kinds ≡ [] → or_else kinds [] ≡ []
no_more kinds none = ap (λ k. or_else k []) none

fault_met : (s : Shape) (rest : List Text) → Stands s → level_fault (built (alone s)).top [] nothing_held rest false [] ≡ [] → fault_of commands (s.name ∷ rest) ≡ []
unfolding defaults_fault
fault_met s rest stands none =
    ap₂ fault_at (stops s rest stands) (words_pass s rest stands) ∙ ap (behind rest) stands.1 ∙ no_more _ none

fault_alone : (s : Shape) (rest : List Text) → Stands s → fault_of (alone s) rest ≡ level_fault (built (alone s)).top [] nothing_held rest false []
fault_alone s rest stands = leaf_fault (built (alone s)) nothing_held rest stands.3

-- the command of a name, and the words after it
module _ (name : Text) (s : Shape) (named : command_named name ≡ Some s) where
  abbrev within : In s commands.subs × (bytes_eq s.name name ≡ true)
  within = find_in (λ x. bytes_eq x.name name) s commands.subs named

  stood : Stands s
  stood = one_stands commands.subs s each_stands within.0

  same : s.name ≡ name
  same = (bytes_eq-Decides s.name name).0 within.1

  finds_it : (rest : List Text) → subcommand_of commands (name ∷ rest) ≡ Some (name, matches_of (alone s) rest)
  finds_it rest =
      ap (λ n. subcommand_of commands (n ∷ rest)) (sym same) ∙ rows_met s rest stood
      ∙ ap₂ (λ n rows. Some (n, rows)) (stood.4 ∙ same) (sym (rows_alone s rest stood))

  takes_it : (rest : List Text) → fault_of (alone s) rest ≡ [] → fault_of commands (name ∷ rest) ≡ []
  takes_it rest none =
      ap (λ n. fault_of commands (n ∷ rest)) (sym same) ∙ fault_met s rest stood (sym (fault_alone s rest stood) ∙ none)

-- the shape of a command, and what a parse of it without a name gives
pub reads_alone : (old new : Command) (name : Text) (rest : List Text) (m : ArgMatches) → fields_of new ≡ record (fields_of old) { no_binary_name = true }
    → command_named name ≡ Some (shape_of old) → HasMatchesOf (app_of new) rest m → (is_simple_and_free (app_of new) ≡ true → fault_of (app_of new) rest ≡ [])
    → (subcommand_of commands (name ∷ rest) ≡ Some (name, rows_of (found_of m))) × (fault_of commands (name ∷ rest) ≡ [])
reads_alone old new name rest m unnamed named matches faults =
    let s = shape_of old in
    let stands = stood name s named in
    let bare : app_of_fields (record (fields_of old) { no_binary_name = true }) ≡ alone s =
    ap (λ (subs : List Command). record { top = record s { no_binary_name = true }; subs = map shape_of subs }) (leaf_subcommands old stands.6) in
    let is : app_of new ≡ alone s = ap app_of_fields unnamed ∙ bare in
    let free : is_simple_and_free (app_of new) ≡ true = ap is_simple_and_free is ∙ stands.5 in
    let rows = (matches (both (is_simple (app_of new)) _ free).0).0 in
    let none : fault_of (alone s) rest ≡ [] = ap (λ a. fault_of a rest) (sym is) ∙ faults free in
    (finds_it name s named rest ∙ ap (λ r. Some (name, r)) (ap (λ a. matches_of a rest) (sym is) ∙ sym rows), takes_it name s named rest none)

pub alone_ok : (old new : Command) (rest : List Text) (r : Result ArgMatches Error) → fields_of new ≡ record (fields_of old) { no_binary_name = true }
    → IfOk r (HasMatchesOf (app_of new) rest) → (is_simple_and_free (app_of new) ≡ true → FailsBy (fault_of (app_of new) rest) r)
    → IfOk r (λ m. (name : Text) → command_named name ≡ Some (shape_of old)
    → (subcommand_of commands (name ∷ rest) ≡ Some (name, rows_of (found_of m))) × (fault_of commands (name ∷ rest) ≡ []))
alone_ok old new rest (Ok m) unnamed matches fails = λ name named. reads_alone old new name rest m unnamed named matches fails
alone_ok old new rest (Err e) unnamed matches fails = tt
