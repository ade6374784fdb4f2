-- The text of a trace that is written in parts: its header line, the lines of edges, and those of
-- the last ones behind them.
use Rattle.std.proofs.Common.{◌≡◌, ◌++◌, ◌∷◌, [], ℕ, List, Option, Result, Ok, Err, OnOk, sym, ap, subst}
use Rattle.std.specs.Io.KnownBytes.{Appends, Keeps}
use Rattle.std.proofs.KnownBytes.{Appends-kept, Appends-trans}
use Rattle.vme_model.specs.declared.signals.Edge.{Edge}
use Rattle.vme_model.specs.declared.signals.Version.{Version}
use Rattle.vme_model.specs.Text.{edge_lines, header, text}
use Rattle.vme_trace.specs.Writing.{AppendsFront}
use Rattle.vme_trace.proofs.WrittenLines.{first_front, second_front}
use Rattle.vme_reading.proofs.WrittenLines.{front_of_all, lines_behind}

pub on_ok : {A E : Type 0} (r : Result A E) (P : Type 0) → P → OnOk r P
on_ok (Ok a) P h = h
on_ok (Err e) P h = tt

module _ (v : Version) (es last : List Edge) (a b : Option (List ℕ)) where
  in_parts : text v (es ++ last) ≡ (header v ++ 10 ∷ []) ++ (edge_lines es ++ edge_lines last)
  in_parts = ap (λ l. (header v ++ 10 ∷ []) ++ l) (lines_behind es last)

  pub header_front : AppendsFront a b (header v ++ 10 ∷ []) → AppendsFront a b (text v (es ++ last))
  header_front front = first_front a b (header v ++ 10 ∷ []) (edge_lines (es ++ last)) front

  module _ (headed : Appends a b (header v ++ 10 ∷ [])) (c : Option (List ℕ)) where
    pub edges_front : AppendsFront b c (edge_lines es) → AppendsFront a c (text v (es ++ last))
    edges_front front =
        subst (AppendsFront a c) (sym in_parts)
        (second_front a b c (header v ++ 10 ∷ []) (edge_lines es ++ edge_lines last) headed
        (first_front b c (edge_lines es) (edge_lines last) front))

    module _ (lined : Appends b c (edge_lines es)) (d : Option (List ℕ)) where
      pub last_front : AppendsFront c d (edge_lines last) → AppendsFront a d (text v (es ++ last))
      last_front front =
          subst (AppendsFront a d) (sym in_parts)
          (second_front a b d (header v ++ 10 ∷ []) (edge_lines es ++ edge_lines last) headed
          (second_front b c d (edge_lines es) (edge_lines last) lined front))

      module _ (ended : Appends c d (edge_lines last)) (e : Option (List ℕ)) (keeps : Keeps d e) where
        pub text_whole : Appends a e (text v (es ++ last))
        text_whole =
            Appends-kept a d e (text v (es ++ last))
            (subst (Appends a d) (sym in_parts)
            (Appends-trans a b d (header v ++ 10 ∷ []) (edge_lines es ++ edge_lines last) headed
            (Appends-trans b c d (edge_lines es) (edge_lines last) lined ended))) keeps

        pub text_unflushed : AppendsFront a e (text v (es ++ last))
        text_unflushed = front_of_all a e (text v (es ++ last)) text_whole
