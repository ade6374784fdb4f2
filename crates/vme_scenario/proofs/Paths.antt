-- Paths of keys, and the faults at them.
use Rattle.std.proofs.Common.{◌≡◌, ◌++◌, ◌∙◌, ℕ, List, codes, append_assoc, refl, ap}
use Rattle.vme_scenario.specs.Borrowed.{at_key, key_of, moved_to}
use Rattle.vme_scenario.specs.Faults.{path, below}
use Rattle.vme_scenario.specs.declared.faults.KeyFault.{KeyFault}
use Rattle.vme_scenario.specs.declared.faults.KeyFault.TheVariants.{Unknown, Missing, Bad}

-- a path of four parts, as it is printed
pub path-path : (a b c : List ℕ) → path (path (codes "board") a) (path b c) ≡ codes "board." ++ (a ++ (codes "." ++ (b ++ (codes "." ++ c))))
path-path a b c =
    ap (λ t. codes "board." ++ t) (append_assoc a (codes ".") (path b c) ∙ ap (λ t. a ++ (codes "." ++ t)) (append_assoc b (codes ".") c))

-- a fault of the top table, whose printed path is its key
pub at_key-moved : (f : KeyFault) (k s : List ℕ) → k ≡ key_of f → s ≡ k → at_key f ≡ moved_to s f
at_key-moved (Unknown key) k s e p = rw (p, e) refl
at_key-moved (Missing key) k s e p = rw (p, e) refl
at_key-moved (Bad key) k s e p = rw (p, e) refl

-- a fault below a table
pub below-moved : (table : List ℕ) (f : KeyFault) (k s : List ℕ) → k ≡ key_of f → s ≡ path table k → below table (at_key f) ≡ moved_to s f
below-moved table (Unknown key) k s e p = rw (p, e) refl
below-moved table (Missing key) k s e p = rw (p, e) refl
below-moved table (Bad key) k s e p = rw (p, e) refl
