-- A name on one line, character by character: src/escapes.rt.
use Rattle.std.proofs.Common.{◌≡◌, ℕ, suc, ◌<◌, List, [], ◌∷◌, ◌++◌, length, take, drop, get_or, Option, sym, ◌∙◌, ap, subst, append-nil, take-append-drop, Result, Ok, Err, OnOk, OnErr}
use Rattle.std.proofs.Math.Seq.{drop-cons}
use Rattle.std.specs.List.{flat_map}
use Rattle.std.specs.Io.KnownBytes.{Appends}
use Rattle.std.proofs.KnownBytes.{Appends-trans}
use Rattle.std.proofs.lemmas.Grind.{flat_map-append}
use Rattle.vme_trace.specs.declared.Fault.{Fault}
use Rattle.vme_trace.specs.Writing.{AppendsFront}
use Rattle.vme_reading.proofs.WrittenLines.{front_behind, front_of_more}
use Rattle.vme_escapes.specs.Shown.{shown}

module _ (a b c : Option (List ℕ)) (cs : List ℕ) (x : ℕ) (so_far : Appends a b (flat_map shown cs)) where
  -- one more character
  pub name_more : Appends b c (shown x) → Appends a c (flat_map shown (cs ++ x ∷ []))
  name_more w =
      subst (Appends a c) (sym (flat_map-append shown cs (x ∷ []) ∙ ap (λ l. flat_map shown cs ++ l) (append-nil (shown x)))) (Appends-trans a b c (flat_map shown cs) (shown x) so_far w)

  -- or a front of it
  pub name_part : (all : List ℕ) → cs ≡ take (length cs) all → length cs < length all → x ≡ get_or all (length cs) x → AppendsFront b c (shown x) → AppendsFront a c (flat_map shown all)
  name_part all front within at w =
      let rest = drop (suc (length cs)) all in
      let split : all ≡ cs ++ (x ∷ rest) =
      sym (take-append-drop (length cs) all) ∙ ap (λ l. take (length cs) all ++ l) (drop-cons all (length cs) x within ∙ ap (λ y. y ∷ rest) (sym at))
      ∙ ap (λ l. l ++ (x ∷ rest)) (sym front) in
      subst (AppendsFront a c) (sym (ap (flat_map shown) split ∙ flat_map-append shown cs (x ∷ rest)))
      (front_behind a b c (flat_map shown cs) (shown x ++ flat_map shown rest) so_far (front_of_more b c (shown x) (flat_map shown rest) w))

-- a line of three parts, which are written one after another
module _ (a b c d : Option (List ℕ)) (x y z : List ℕ) where
  pub line_first : AppendsFront a b x → AppendsFront a b ((x ++ y) ++ z)
  line_first w = front_of_more a b (x ++ y) z (front_of_more a b x y w)

  pub line_second : Appends a b x → AppendsFront b c y → AppendsFront a c ((x ++ y) ++ z)
  line_second first w = front_of_more a c (x ++ y) z (front_behind a b c x y first w)

  module _ (first : Appends a b x) (second : Appends b c y) where
    pub line_done : (r : Result (Unit {0}) Fault) → OnOk r (Appends c d z) → OnOk r (Appends a d ((x ++ y) ++ z))
    line_done (Ok u) w = Appends-trans a c d (x ++ y) z (Appends-trans a b c x y first second) w
    line_done (Err f) w = tt

    pub line_third : (r : Result (Unit {0}) Fault) → OnErr r (AppendsFront c d z) → OnErr r (AppendsFront a d ((x ++ y) ++ z))
    line_third (Ok u) w = tt
    line_third (Err f) w = front_behind a c d (x ++ y) z (Appends-trans a b c x y first second) w

-- the second of two parts
pub two_second : (a b c : Option (List ℕ)) (x y : List ℕ) → Appends a b x → (r : Result (Unit {0}) Fault) → OnErr r (AppendsFront b c y) → OnErr r (AppendsFront a c (x ++ y))
two_second a b c x y first (Ok u) w = tt
two_second a b c x y first (Err f) w = front_behind a b c x y first w
