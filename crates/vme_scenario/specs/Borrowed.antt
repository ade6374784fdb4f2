-- What the faults that borrow the text stand for, and the draft of a plan.
use Rattle.std.specs.Prelude.{◌≡◌, ◌==◌, ◌||◌, ⊤, ℕ, Bool, not, List, map, Result, Ok, Err, String, codes, decimal}
use Rattle.std.specs.Borrow.{Bor}
use Rattle.std.specs.BTreeMap.{BTreeMap}
use Rattle.std.specs.declared.alloc.Global.{Global}
use Rattle.toml.specs.Data.{Members}
use Rattle.toml.specs.View.{table_view}
use Rattle.toml.specs.declared.value.Value.{Value}
use Rattle.vme_model.specs.Plan.{Plan}
use Rattle.vme_scenario.specs.declared.faults.KeyFault.{KeyFault}
use Rattle.vme_scenario.specs.declared.faults.KeyFault.TheVariants as key_fault
use Rattle.vme_scenario.specs.declared.faults.BoardFault.{BoardFault}
use Rattle.vme_scenario.specs.declared.faults.BoardFault.TheVariants as board_fault
use Rattle.vme_scenario.specs.declared.faults.TextFault.{TextFault}
use Rattle.vme_scenario.specs.declared.faults.TextFault.TheVariants as text_fault
use Rattle.vme_scenario.specs.declared.scenario.Draft.{Draft}
use Rattle.vme_scenario.specs.declared.depth.Place.{Place}
use Rattle.vme_scenario.specs.Depth as depth
use Rattle.vme_scenario.specs.Faults.{Fault, unknown, missing, bad, path, below}

-- the fault at a key of one table
abbrev pub at_key : KeyFault → Fault
at_key (key_fault.Unknown key) = unknown key.now
at_key (key_fault.Missing key) = missing key.now
at_key (key_fault.Bad key) = bad key.now

-- the key of a fault, and the fault at another path
abbrev pub key_of : KeyFault → List ℕ
key_of (key_fault.Unknown key) = key.now
key_of (key_fault.Missing key) = key.now
key_of (key_fault.Bad key) = key.now

abbrev pub moved_to : List ℕ → KeyFault → Fault
moved_to p (key_fault.Unknown key) = unknown p
moved_to p (key_fault.Missing key) = missing p
moved_to p (key_fault.Bad key) = bad p

-- the fault in a board's table, or in a table inside it
abbrev pub in_board : BoardFault → Fault
in_board (board_fault.Board f) = at_key f
in_board (board_fault.Requester f) = below (codes "requester") (at_key f)
in_board (board_fault.Interrupter f) = below (codes "interrupter") (at_key f)

-- a result, with its fault as the format has it
abbrev pub keyed : {A : Type 0} → Result A KeyFault → Result A Fault
keyed (Ok a) = Ok a
keyed (Err f) = Err (at_key f)

-- the result for a board, with its fault as the format has it
abbrev pub boarded : {A : Type 0} → Result A BoardFault → Result A Fault
boarded (Ok a) = Ok a
boarded (Err f) = Err (in_board f)

-- the fault is that of a part of a scenario; if memory ran out, it says nothing about the part
abbrev pub IsFaultOf : {A : Type 0} → Result A Fault → TextFault → Type 0
IsFaultOf r (text_fault.Top f) = r ≡ Err (at_key f)
IsFaultOf r (text_fault.Board n f) = r ≡ Err (below (path (codes "board") (decimal n)) (in_board f))
IsFaultOf r (text_fault.Jumper n f) = r ≡ Err (below (path (codes "jumper") (decimal n)) (at_key f))
IsFaultOf r text_fault.Memory = ⊤

-- what borrowed tables say, one after another
abbrev pub table_views : List (Bor (BTreeMap (String Global) Value)) → List Members
table_views tables = map (λ t. table_view t.now) tables

-- the plan that is to be judged
abbrev pub drafted : Draft → Plan
drafted d = record {
  slots = d.slots;
  rows = d.rows.items;
  jumpers = d.jumpers.items;
  arbiter = d.arbiter;
}

-- a place of a text
abbrev pub placed : Place → depth.Place
placed p = record {
  mode = p.mode;
  keyed = p.keyed;
  here = p.here;
  held = p.held;
  outer = p.outer.items;
}

-- a byte that changes no place outside of strings and comments
abbrev pub is_filler : ℕ → Bool
is_filler c = not (c == 34 || c == 39 || c == 35 || c == 46 || c == 61 || c == 91 || c == 123
    || c == 93 || c == 125 || c == 44 || c == 10)
