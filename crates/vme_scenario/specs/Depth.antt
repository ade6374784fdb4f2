-- How deep the tables and arrays of a text are nested, counted byte by byte. Each bracket or brace
-- that is open is one level deeper. So is each dot of a key; the dots count for the keys of the
-- tables around it too, up to the last header's.
use Rattle.std.specs.Prelude.{ℕ, ◌+◌, Bool, true, false, ◌&&◌, ◌||◌, ◌==◌, nat_le, if◌then◌else◌, List, [], ◌∷◌, length}
use Rattle.vme_scenario.specs.declared.depth.Mode.{Mode}
use Rattle.vme_scenario.specs.declared.depth.Mode.TheVariants.{Plain, Comment, Opened, Doubled, Short, ShortEscape, Long, LongEscape}

-- what a byte outside of strings and comments begins: 34 is `"`, 39 is `'`, and 35 is `#`
abbrev pub mode_behind : ℕ → Mode
mode_behind c = if c == 34 || c == 39 then Opened c else if c == 35 then Comment else Plain

-- the mode after a byte of a string on one line with the delimiter d; a backslash, 92, escapes only
-- between double quotes
abbrev pub in_short : ℕ → ℕ → Mode
in_short d c = if c == d then Plain else if c == 92 && d == 34 then ShortEscape else Short d

-- the mode after a byte of a string over several lines, after n delimiters: three end it, and up to
-- two more after them belong to it
abbrev pub in_long : ℕ → ℕ → ℕ → Mode
in_long d n c =
    if c == d then Long d (if nat_le 3 n then 3 else n + 1)
    else if nat_le 3 n then mode_behind c
    else if c == 92 && d == 34 then LongEscape else Long d 0

-- the mode after one more byte; a comment ends with its line
abbrev pub mode_after : Mode → ℕ → Mode
mode_after Plain c = mode_behind c
mode_after Comment c = if c == 10 then Plain else Comment
mode_after (Opened d) c = if c == d then Doubled d else in_short d c
mode_after (Doubled d) c = if c == d then Long d 0 else mode_behind c
mode_after (Short d) c = in_short d c
mode_after ShortEscape c = Short 34
mode_after (Long d n) c = in_long d n c
mode_after LongEscape c = Long 34 0

-- The place of the next byte: whether its line has a `=` yet; how deep it is; how deep the table or
-- array is in which it stands; and how deep those around that one are, from the inside out.
pub record Place : Type 0 where
  pub mode : Mode
  pub keyed : Bool
  pub here : ℕ
  pub held : ℕ
  pub outer : List ℕ

abbrev pub front : Place
front = record { mode = Plain; keyed = false; here = 0; held = 0; outer = [] }

-- a table or array begins
abbrev pub opened : Place → Place
opened p = record p { here = p.here + 1; held = p.here + 1; outer = p.held ∷ p.outer }

-- the innermost table or array ends, if there is one
abbrev pub closed_to : Place → List ℕ → Place
closed_to p [] = p
closed_to p (depth ∷ outer) = record p { here = depth; held = depth; outer = outer }

-- the place after a bracket: before the `=`, a header begins
abbrev pub bracketed : Place → Place
bracketed p = if p.keyed then opened p else record p { here = 0; held = 0 }

-- the place after a line feed: a pair has ended, or a header, whose key stays; within a table or
-- array a line feed acts as a comma
abbrev pub broken_in : Place → List ℕ → Place
broken_in p [] =
    if p.keyed then record p { keyed = false; here = p.held } else record p { held = p.here }
broken_in p (_ ∷ _) = record p { here = p.held }

-- the place after a byte outside of strings and comments
abbrev pub structured : Place → ℕ → Place
structured p c =
    if c == 46 then record p { here = p.here + 1 }  -- `.`
    else if c == 61 then record p { keyed = true }  -- `=`
    else if c == 91 then bracketed p  -- `[`
    else if c == 123 then opened p  -- `{`
    else if c == 93 || c == 125 then closed_to p p.outer  -- `]` and `}`
    else if c == 44 then record p { here = p.held }  -- `,`, before which the key has ended
    else if c == 10 then broken_in p p.outer  -- the line feed
    else p

-- the place after any byte; a byte in a string or a comment, or one that begins one, changes only
-- the mode
abbrev pub entered : Place → ℕ → Mode → Place
entered p c Plain = structured (record p { mode = Plain }) c
entered p c mode = record p { mode = mode }

abbrev pub behind : Place → ℕ → Place
behind p c = entered p c (mode_after p.mode c)

-- a place that is not too deep
abbrev pub is_within : Place → Bool
is_within p = nat_le p.here 80 && nat_le (length p.outer) 80

-- no place from here on is too deep
abbrev pub is_shallow_from : Place → List ℕ → Bool
is_shallow_from p [] = true
is_shallow_from p (c ∷ cs) = is_within (behind p c) && is_shallow_from (behind p c) cs

-- no place of a text is too deep
abbrev pub is_shallow : List ℕ → Bool
is_shallow text = is_shallow_from front text
