-- What stands in a caller's room after a list was written into it, and the most that is written.
use Rattle.std.specs.Prelude.{◌≡◌, ◌≤◌, ◌⊎◌, ℕ, List, [], ◌∷◌, ◌++◌, length, take, drop, nat_lt, if◌then◌else◌}

-- the most bytes of the line of a scenario's fault
abbrev pub most_fault : ℕ
most_fault = 1024

-- the most bytes of a verdict
abbrev pub most_verdict : ℕ
most_verdict = 37

-- the most conditions that an edge fails
abbrev pub most_failing : ℕ
most_failing = 5

-- the most bytes of the text of a condition
abbrev pub most_why : ℕ
most_why = 58

-- the most bytes of the line of an edge
abbrev pub most_line : ℕ
most_line = 12

-- the most open edges of one driver
abbrev pub most_open : ℕ
most_open = 36

-- and of all 22 drivers
abbrev pub most_played : ℕ
most_played = 792

-- the numbers of a build
abbrev pub most_build : ℕ
most_build = 4

-- as much of the list as there is room for, and behind it what stood there
abbrev pub written : List ℕ → List ℕ → List ℕ
written old xs = take (length old) xs ++ drop (length xs) old

-- a zero byte at the front of what stood there, if there is a place for it
abbrev pub zero_first : List ℕ → List ℕ
zero_first [] = []
zero_first (x ∷ xs) = 0 ∷ xs

-- the whole text, and a zero byte behind it if there is room for that, too; behind both stays what
-- stood there. Nothing is written if there is no room for the text
abbrev pub written_text : List ℕ → List ℕ → List ℕ
written_text old text =
    if nat_lt (length old) (length text) then old else text ++ zero_first (drop (length text) old)

-- some list of at most so many numbers was written, and the answer is how many it has
abbrev pub HasFew : ℕ → ℕ → List ℕ → List ℕ → Type 0
HasFew most count old new =
    (xs : List ℕ) × (length xs ≤ most) × (count ≡ length xs) × (new ≡ written old xs)

-- some text of at most so many bytes was written if there was room for it, and the answer is how
-- many it has; or there is none, and nothing was written
abbrev pub HasShort : ℕ → ℕ → List ℕ → List ℕ → Type 0
HasShort most count old new =
    ((count ≡ 0) × (new ≡ old))
    ⊎ ((text : List ℕ) × (length text ≤ most) × (count ≡ length text)
    × (new ≡ written_text old text))
