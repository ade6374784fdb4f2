-- The text of edges, and of two more behind them.
use Rattle.std.proofs.Common.{◌≡◌, ◌++◌, ◌∷◌, [], ℕ, List, Option, Result, Ok, Err, OnOk, sym, ◌∙◌, ap, subst}
use Rattle.std.specs.Io.KnownBytes.{Appends, Keeps}
use Rattle.std.proofs.KnownBytes.{Appends-kept, Appends-trans}
use Rattle.vme_model.specs.declared.signals.Edge.{Edge}
use Rattle.vme_model.specs.declared.signals.Version.{Version}
use Rattle.vme_model.specs.Text.{edge_lines, header, text}
use Rattle.vme_trace.specs.Writing.{AppendsFront, edge_line}
use Rattle.vme_trace.proofs.WrittenLines.{first_front, second_front}
use Rattle.vme_reading.proofs.WrittenLines.{front_kept, line_alone, lines_behind}

pub on_ok : {A E : Type 0} (r : Result A E) (P : Type 0) → P → OnOk r P
on_ok (Ok a) P h = h
on_ok (Err e) P h = tt

two_more : (es : List Edge) (e m : Edge)
    → edge_lines (es ++ e ∷ m ∷ []) ≡ edge_lines es ++ (edge_line e ++ edge_line m)
two_more es e m =
    lines_behind es (e ∷ m ∷ []) ∙ ap (λ l. edge_lines es ++ (edge_line e ++ l)) (sym (line_alone m))

-- ---- the lines

module _ (es : List Edge) (e m : Edge) (a b : Option (List ℕ)) where
  pub lines_front : AppendsFront a b (edge_lines es)
      → AppendsFront a b (edge_lines (es ++ e ∷ m ∷ []))
  lines_front front =
      subst (AppendsFront a b) (sym (two_more es e m))
      (first_front a b (edge_lines es) (edge_line e ++ edge_line m) front)

  module _ (first : Appends a b (edge_lines es)) (c : Option (List ℕ)) where
    pub edge_front : AppendsFront b c (edge_line e) → AppendsFront a c (edge_lines (es ++ e ∷ m ∷ []))
    edge_front front =
        subst (AppendsFront a c) (sym (two_more es e m))
        (second_front a b c (edge_lines es) (edge_line e ++ edge_line m) first
        (first_front b c (edge_line e) (edge_line m) front))

    module _ (second : Appends b c (edge_line e)) (d : Option (List ℕ)) where
      pub met_front : AppendsFront c d (edge_line m) → AppendsFront a d (edge_lines (es ++ e ∷ m ∷ []))
      met_front front =
          subst (AppendsFront a d) (sym (two_more es e m))
          (second_front a b d (edge_lines es) (edge_line e ++ edge_line m) first
          (second_front b c d (edge_line e) (edge_line m) second front))

      pub met_whole : Appends c d (edge_line m) → Appends a d (edge_lines (es ++ e ∷ m ∷ []))
      met_whole third =
          subst (Appends a d) (sym (two_more es e m))
          (Appends-trans a b d (edge_lines es) (edge_line e ++ edge_line m) first
          (Appends-trans b c d (edge_line e) (edge_line m) second third))

-- ---- behind the header line

module _ (v : Version) (es : List Edge) (a b : Option (List ℕ)) where
  pub header_front : AppendsFront a b (header v ++ 10 ∷ []) → AppendsFront a b (text v es)
  header_front front = first_front a b (header v ++ 10 ∷ []) (edge_lines es) front

  module _ (first : Appends a b (header v ++ 10 ∷ [])) (c : Option (List ℕ)) where
    pub text_front : AppendsFront b c (edge_lines es) → AppendsFront a c (text v es)
    text_front front = second_front a b c (header v ++ 10 ∷ []) (edge_lines es) first front

    module _ (second : Appends b c (edge_lines es)) (d : Option (List ℕ)) (keeps : Keeps c d) where
      pub text_unflushed : AppendsFront a d (text v es)
      text_unflushed =
          front_kept a c d (text v es)
          (Appends-trans a b c (header v ++ 10 ∷ []) (edge_lines es) first second) keeps

      pub text_whole : Appends a d (text v es)
      text_whole =
          Appends-kept a c d (text v es)
          (Appends-trans a b c (header v ++ 10 ∷ []) (edge_lines es) first second) keeps
