-- Which job the words after the program's name ask for.
use Rattle.std.specs.Prelude.{◌≡◌, ℕ, List, [], ◌∷◌, Option, Some, codes, map, option_map, IsSomeAnd}
use Rattle.std.specs.Borrow.{Bor}
use Rattle.std.specs.Str.Parse.{digits_value, without_leading_plus}
use Rattle.clap.specs.Words.{Row, Text, first_of, one_of, subcommand_of}
use Rattle.vme_model.specs.declared.Version.{Version}
use Rattle.vme_model.specs.declared.Version.TheVariants.{One, Two}
use Rattle.vme_words.specs.Commands.{commands}
use Rattle.vme_words.specs.declared.Job.{Job}
use Rattle.vme_words.specs.declared.Job.TheVariants.{Joined, Replay, Check, Explain, State, Drive, Run}

-- the words that are lent, as texts
abbrev pub texts_of : List (Bor Text) → List Text
texts_of words = map (λ word. word.now) words

-- the operand of this name is this file
abbrev pub IsFile : Text → List Row → Text → Type 0
IsFile name rows file = first_of name rows ≡ Some file

-- the number that the option of this name spells, in decimal digits; none where it is not given
abbrev pub spelled : Text → List Row → Option ℕ
spelled name rows =
    option_map (λ text. digits_value 10 (without_leading_plus text)) (one_of name rows)

abbrev pub version_number : Version → ℕ
version_number One = 1
version_number Two = 2

-- the options `--edges` and `--version`; the latter's default stands in the command line
abbrev pub AreOptions : List Row → ℕ → Version → Type 0
AreOptions rows edges version =
    (spelled (codes "edges") rows ≡ Some edges)
    × (spelled (codes "version") rows ≡ Some (version_number version))

-- a command of this name, with these operands, is this job
abbrev pub AsksFor : Text → List Row → Job → Type 0
AsksFor name rows Joined = ⊥
AsksFor name rows (Replay scenario trace) = (name ≡ codes "replay")
    × IsFile (codes "SCENARIO") rows scenario.now × IsFile (codes "TRACE") rows trace.now
AsksFor name rows (Check scenario trace) = (name ≡ codes "check")
    × IsFile (codes "SCENARIO") rows scenario.now × IsFile (codes "TRACE") rows trace.now
AsksFor name rows (Explain scenario trace edge) = (name ≡ codes "explain")
    × IsFile (codes "SCENARIO") rows scenario.now × IsFile (codes "TRACE") rows trace.now
    × (spelled (codes "edge") rows ≡ edge)
AsksFor name rows (State scenario trace after) = (name ≡ codes "state")
    × IsFile (codes "SCENARIO") rows scenario.now × IsFile (codes "TRACE") rows trace.now
    × (spelled (codes "after") rows ≡ after)
AsksFor name rows (Drive scenario edges version) = (name ≡ codes "drive")
    × IsFile (codes "SCENARIO") rows scenario.now × AreOptions rows edges version
AsksFor name rows (Run scenario edges turns version) = (name ≡ codes "run")
    × IsFile (codes "SCENARIO") rows scenario.now × AreOptions rows edges version
    × (spelled (codes "turns") rows ≡ Some turns)

-- no words ask for standard input; others for what their command says, with the operands that the
-- command line gives it
abbrev pub Ask : List Text → Job → Type 0
Ask [] job = job ≡ Joined
Ask (word ∷ words) job =
    IsSomeAnd (subcommand_of commands (word ∷ words)) (λ met. AsksFor met.0 met.1 job)
