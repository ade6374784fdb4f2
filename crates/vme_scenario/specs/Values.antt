-- What the values of a scenario's keys say.
use Rattle.std.specs.Prelude.{ℕ, ℤ, pos, negsuc, Bool, true, false, ◌&&◌, List, [], ◌∷◌, Option, Some, None, codes, nat_le, fold, option_map, if◌then◌else◌}
use Rattle.std.specs.Option.{option_and_then}
use Rattle.std.specs.Str.{bytes_eq, is_utf8}
use Rattle.toml.specs.Data.{Data, Items, no_items, item, Members, as_integer, as_str, as_array, as_table}
use Rattle.toml.specs.Parse.{parse_document}
use Rattle.vme_model.specs.declared.boards.ArbiterKind.{ArbiterKind}
use Rattle.vme_model.specs.declared.boards.ArbiterKind.TheVariants.{Sgl, Pri, Rrs}
use Rattle.vme_model.specs.declared.boards.IrqKind.{IrqKind}
use Rattle.vme_model.specs.declared.boards.IrqKind.TheVariants.{Roak, Rora}
use Rattle.vme_model.specs.declared.sets.ChainId.{ChainId}
use Rattle.vme_model.specs.declared.sets.ChainId.TheVariants.{Bg0, Bg1, Bg2, Bg3, Iack}
use Rattle.vme_model.specs.declared.sets.Levels.{Levels}
use Rattle.vme_model.specs.declared.sets.Chains.{Chains}
use Rattle.vme_scenario.specs.Depth.{is_shallow}
use Rattle.vme_model.specs.Sets.{no_levels, no_chains, with_level, with_chain}

-- the top table of a text, if no table or array in it is too deep, and it is UTF-8 and TOML
abbrev pub document : List ℕ → Option Members
document text = if is_shallow text && is_utf8 text then parse_document text else None

-- a number within two bounds
abbrev pub between : ℕ → ℕ → ℤ → Option ℕ
between low high (pos n) = if nat_le low n && nat_le n high then Some n else None
between low high (negsuc n) = None

-- a whole number, 0 to 255
abbrev pub byte : Data → Option ℕ
byte d = option_and_then (between 0 255) (as_integer d)

-- the meaning of a word, if the list has it
abbrev pub meaning : {A : Type 0} → List (List ℕ × A) → List ℕ → Option A
meaning [] word = None
meaning (entry ∷ entries) word =
    if bytes_eq word entry.0 then Some entry.1 else meaning entries word

-- the meaning of a value, if it is a word in the list
abbrev pub word_of : {A : Type 0} → List (List ℕ × A) → Data → Option A
word_of entries d = option_and_then (meaning entries) (as_str d)

-- the words of the format, and what they mean
abbrev pub arbiter : Data → Option ArbiterKind
arbiter = word_of ((codes "sgl", Sgl) ∷ (codes "pri", Pri) ∷ (codes "rrs", Rrs) ∷ [])

abbrev pub interrupter_kind : Data → Option IrqKind
interrupter_kind = word_of ((codes "roak", Roak) ∷ (codes "rora", Rora) ∷ [])

-- whether the requester releases the bus when done; otherwise it does so on request
abbrev pub releases_when_done : Data → Option Bool
releases_when_done = word_of ((codes "rwd", true) ∷ (codes "ror", false) ∷ [])

-- one more value, if there are values
abbrev pub and_more : {A : Type 0} → Option A → Option (List A) → Option (List A)
and_more (Some a) (Some rest) = Some (a ∷ rest)
and_more _ _ = None

-- what the items say, if each of them says something
abbrev pub each_item : {A : Type 0} → (Data → Option A) → Items → Option (List A)
each_item read no_items = Some []
each_item read (item d ds) = and_more (read d) (each_item read ds)

-- what an array's items say, if each of them says something
abbrev pub array_of : {A : Type 0} → (Data → Option A) → Data → Option (List A)
array_of read d = option_and_then (each_item read) (as_array d)

-- an array of tables
abbrev pub tables : Data → Option (List Members)
tables = array_of as_table

-- an interrupt level, 1 to 7
abbrev pub level : Data → Option ℕ
level d = option_and_then (between 1 7) (as_integer d)

-- the set of an array's levels
abbrev pub levels : Data → Option Levels
levels d = option_map (fold with_level no_levels) (array_of level d)

-- the words of the daisy chains
abbrev pub chain : Data → Option ChainId
chain =
    word_of
    ((codes "bg0", Bg0) ∷ (codes "bg1", Bg1) ∷ (codes "bg2", Bg2) ∷ (codes "bg3", Bg3)
    ∷ (codes "iack", Iack) ∷ [])

-- the set of an array's chains
abbrev pub chains : Data → Option Chains
chains d = option_map (fold with_chain no_chains) (array_of chain d)
