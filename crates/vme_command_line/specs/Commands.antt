-- The command line of the program: which commands it has, which files and options each command
-- takes, and which of them are required. Only the program itself prints its version.
use Rattle.std.specs.Prelude.{◌^◌, ◌-◌, ℕ, List, [], ◌∷◌, Some, true, false, codes, pos}
use Rattle.vme_model.specs.Report.{trace_limit}
use Rattle.vme_command_line.specs.Limits.{most_turns}
use Rattle.clap.specs.Words.{App, Rule, Shape, Text, new_rule}
use Rattle.clap.specs.Lexer.{usize_max}
use Rattle.clap.specs.Simple.{new_shape}
use Rattle.clap.specs.declared.builder.action.ArgAction.TheVariants.{Append, Set, SetTrue}
use Rattle.clap.specs.declared.builder.value_parser.ValueParser.{ValueParser}
use Rattle.clap.specs.declared.builder.value_parser.ValueParser.TheVariants.{Signed, Unsigned}

-- a required word
abbrev pub file : Text → Rule
file name = record (new_rule name) { action = Some Set; required = true }

-- a word that may be left out
abbrev pub word : Text → Rule
word name = record (new_rule name) { action = Some Set }

-- words, of which at least one is required
abbrev pub files : Text → Rule
files name = record (file name) {
  action = Some Append;
  range = Some (record { start_inclusive = 1; end_inclusive = usize_max });
}

-- `--NAME` with a text
abbrev pub texted : Text → Rule
texted name = record (new_rule name) { long = Some name; action = Some Set; value_names = 1 }

-- `--NAME` with a value that this parser reads
abbrev pub valued : Text → ValueParser → Rule
valued name parser = record (texted name) { parser = Some parser }

-- `--NAME` with a number from 1 to `most`
abbrev pub option : Text → ℕ → Rule
option name most = valued name (Signed (pos 1) (pos most))

-- `--NAME` with a number from 1 to `most`, required
abbrev pub number : Text → ℕ → Rule
number name most = record (option name most) { required = true }

-- `--version` of the rules, which is 1 if it is not given
abbrev pub version : Rule
version = record (option (codes "version") 2) { defaults = codes "1" ∷ [] }

abbrev pub edges : Rule
edges = number (codes "edges") trace_limit

abbrev pub turns : Rule
turns = number (codes "turns") most_turns

-- `--NAME` with a whole number of 64 bits from `least` on
abbrev pub whole : Text → ℕ → Rule
whole name least = valued name (Unsigned least (2 ^ 64 - 1))

abbrev pub edge : Rule
edge = whole (codes "edge") 1

abbrev pub other : Rule
other = whole (codes "other") 1

abbrev pub after : Rule
after = whole (codes "after") 0

abbrev pub from : Rule
from = whole (codes "from") 1

abbrev pub to : Rule
to = whole (codes "to") 1

abbrev pub seed : Rule
seed = whole (codes "seed") 0

abbrev pub seeds : Rule
seeds = texted (codes "seeds")

abbrev pub skew : Rule
skew = whole (codes "skew") 0

abbrev pub slack : Rule
slack = texted (codes "slack")

abbrev pub until : Rule
until = texted (codes "until")

-- `--of`
abbrev pub only : Rule
only = texted (codes "of")

-- `--NAME` without a value
abbrev pub flag : Text → Rule
flag name = record (new_rule name) { long = Some name; action = Some SetTrue }

abbrev pub full : Rule
full = flag (codes "full")

abbrev pub color : Rule
color = flag (codes "color")

-- the flag `--where`
abbrev pub places : Rule
places = flag (codes "where")

abbrev pub progress : Rule
progress = flag (codes "progress")

-- a command of this name that takes a scenario, and then these arguments
abbrev pub leaf : Text → List Rule → App
leaf name operands = record {
  top = record (new_shape name) { rules = file (codes "SCENARIO") ∷ operands };
  subs = [];
}

abbrev pub replay : Shape
replay = (leaf (codes "replay") (file (codes "TRACE") ∷ full ∷ [])).top

abbrev pub check : Shape
check = (leaf (codes "check") (files (codes "TRACE") ∷ [])).top

abbrev pub explain : Shape
explain = (leaf (codes "explain") (file (codes "TRACE") ∷ edge ∷ [])).top

abbrev pub shrink : Shape
shrink = (leaf (codes "shrink") (file (codes "TRACE") ∷ edge ∷ progress ∷ [])).top

-- `rule` takes no scenario
abbrev pub rule : Shape
rule = record (new_shape (codes "rule")) { rules = word (codes "NAME") ∷ [] }

abbrev pub state : Shape
state = (leaf (codes "state") (file (codes "TRACE") ∷ after ∷ [])).top

abbrev pub show : Shape
show = (leaf (codes "show") (file (codes "TRACE") ∷ from ∷ to ∷ color ∷ [])).top

abbrev pub cycles : Shape
cycles = (leaf (codes "cycles") (file (codes "TRACE") ∷ [])).top

abbrev pub summary : Shape
summary = (leaf (codes "summary") (files (codes "TRACE") ∷ [])).top

abbrev pub races : Shape
races = (leaf (codes "races") (file (codes "TRACE") ∷ edge ∷ other ∷ [])).top

abbrev pub same : Shape
same = (leaf (codes "same") (file (codes "TRACE") ∷ file (codes "OTHER") ∷ [])).top

abbrev pub order : Shape
order =
    (leaf (codes "order") (file (codes "MOMENTS") ∷ slack ∷ places ∷ progress ∷ [])).top

abbrev pub probe : Shape
probe = (leaf (codes "probe") (file (codes "CAPTURE") ∷ skew ∷ [])).top

abbrev pub drive : Shape
drive =
    (leaf (codes "drive")
    (edges ∷ seed ∷ seeds ∷ until ∷ only ∷ after ∷ progress ∷ version ∷ [])).top

abbrev pub run : Shape
run = (leaf (codes "run") (edges ∷ turns ∷ version ∷ [])).top

abbrev pub commands : App
commands = record {
  top = record (new_shape (codes "vmebus")) {
    is_leaf = false;
    no_binary_name = true;
    has_version = true;
  };
  subs =
      replay ∷ check ∷ explain ∷ shrink ∷ rule ∷ state ∷ show ∷ cycles ∷ summary ∷ races ∷ same
      ∷ order ∷ probe ∷ drive ∷ run ∷ [];
}
