-- The whole block is what is printed about the bus and of the drivers.
use Rattle.std.proofs.Common.{◌≡◌, ◌∙◌, ℕ, List, ◌++◌, Option, sym, ap, subst, append_assoc}
use Rattle.std.specs.Io.KnownBytes.{Appends}
use Rattle.std.proofs.KnownBytes.{Appends-trans}
use Rattle.vme_model.specs.Verdict.{State}
use Rattle.vme_model.specs.Numbered.{Numbered}
use Rattle.vme_model.specs.Stands.{asks_text, lines_of, low_text, open_line, pending_text, stands_text}
use Rattle.vme_trace.specs.Writing.{AppendsFront}
use Rattle.vme_explain.specs.Standing.{bus_text, drivers_text}
use Rattle.vme_explain.proofs.Written.{front_behind, front_of_more}

regroup : (x a b c d : List ℕ) → x ++ (((a ++ b) ++ c) ++ d) ≡ (((x ++ a) ++ b) ++ c) ++ d
regroup x a b c d = sym (append_assoc x ((a ++ b) ++ c) d) ∙ ap (λ l. l ++ d) (sym (append_assoc x (a ++ b) c) ∙ ap (λ l. l ++ c) (sym (append_assoc x a b)))

block : (n : ℕ) (b : State) (k : Numbered) → bus_text n b k ++ drivers_text b k ≡ stands_text n b k
block n b k = regroup (bus_text n b k) (lines_of b (asks_text b k)) (lines_of b (pending_text b k)) (lines_of b (low_text b)) (lines_of b (open_line b))

pub front_of_bus : (x y : Option (List ℕ)) (n : ℕ) (b : State) (k : Numbered) → AppendsFront x y (bus_text n b k) → AppendsFront x y (stands_text n b k)
front_of_bus x y n b k f = subst (AppendsFront x y) (block n b k) (front_of_more x y (bus_text n b k) (drivers_text b k) f)

pub front_of_block : (x y z : Option (List ℕ)) (n : ℕ) (b : State) (k : Numbered) → Appends x y (bus_text n b k) → AppendsFront y z (drivers_text b k) → AppendsFront x z (stands_text n b k)
front_of_block x y z n b k w f = subst (AppendsFront x z) (block n b k) (front_behind x y z (bus_text n b k) (drivers_text b k) w f)

pub whole_block : (x y z : Option (List ℕ)) (n : ℕ) (b : State) (k : Numbered) → Appends x y (bus_text n b k) → Appends y z (drivers_text b k) → Appends x z (stands_text n b k)
whole_block x y z n b k v w = subst (Appends x z) (block n b k) (Appends-trans x y z (bus_text n b k) (drivers_text b k) v w)
