-- Pieces of a text that are written one after another.
use Rattle.std.proofs.Common.{◌≡◌, ◌∙◌, refl, ap, ℕ, ◌+◌, ◌<◌, List, [], ◌++◌, length, get_or, drop, Option, Result, Ok, Err, OnOk, append-nil}
use Rattle.std.proofs.Math.Seq.{drop-length}
use Rattle.std.proofs.lemmas.List.{drop_more}
use Rattle.std.specs.Io.KnownBytes.{Appends}
use Rattle.std.specs.List.{flat_map}
use Rattle.std.proofs.KnownBytes.{Appends-nil}
use Rattle.vme_trace.specs.Writing.{AppendsFront}
use Rattle.vme_trace.proofs.WrittenLines.{Wrote, wrote_all, wrote_front}

pub on_ok_map : {A E : Type 0} (r : Result A E) (P Q : Type 0) → (P → Q) → OnOk r P → OnOk r Q
on_ok_map (Ok a) P Q f h = f h
on_ok_map (Err e) P Q f h = tt

-- the pieces of a list, each written in its turn
module _ {X : Type 0} (f : X → List ℕ) (xs : List X) where
  -- those from the i-th on are still to be written
  abbrev pub WroteTo : Option (List ℕ) → Option (List ℕ) → ℕ → Type 0
  WroteTo a b i = Wrote a b (flat_map f xs) (flat_map f (drop i xs))

  pub none_written : (a : Option (List ℕ)) → WroteTo a a 0
  none_written a = ([], refl, Appends-nil a)

  rest : (i : ℕ) (d : X) → i < length xs → flat_map f (drop i xs) ≡ f (get_or xs i d) ++ flat_map f (drop (i + 1) xs)
  rest i d h = rw (drop_more xs i d h) refl

  pub one_more : (a b c : Option (List ℕ)) (i : ℕ) (d : X) (x : List ℕ) → i < length xs → x ≡ f (get_or xs i d) → WroteTo a b i → Appends b c x → WroteTo a c (i + 1)
  one_more a b c i d x h is w more = wrote_all a b c (flat_map f xs) x (flat_map f (drop (i + 1) xs)) (rw is (rw (rest i d h) at w)) more

  pub front_of_one : (a b c : Option (List ℕ)) (i : ℕ) (d : X) (x : List ℕ) → i < length xs → x ≡ f (get_or xs i d) → WroteTo a b i → AppendsFront b c x
      → AppendsFront a c (flat_map f xs)
  front_of_one a b c i d x h is w more = wrote_front a b c (flat_map f xs) x (flat_map f (drop (i + 1) xs)) (rw is (rw (rest i d h) at w)) more

  pub all_written : (a b : Option (List ℕ)) (i : ℕ) → i ≡ length xs → WroteTo a b i → Appends a b (flat_map f xs)
  all_written a b i end w =
      let left : flat_map f (drop i xs) ≡ [] = ap (λ n. flat_map f (drop n xs)) end ∙ ap (flat_map f) (drop-length xs) in
      rw (w.1 ∙ ap (λ l. w.0 ++ l) left ∙ append-nil w.0) w.2
