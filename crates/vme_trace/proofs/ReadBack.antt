-- What is written for edges is read as those edges.
use Rattle.std.proofs.Common.{◌≡◌, ◌≤◌, ℕ, true, List, [], ◌∷◌, length, Some, None, All, IsTrue, refl, ◌∙◌, ap, arith}
use Rattle.std.proofs.lemmas.List.Elements.{All-head, All-tail}
use Rattle.vme_model.specs.declared.signals.Version.{Version}
use Rattle.vme_model.specs.declared.signals.Version.TheVariants.{One, Two}
use Rattle.vme_model.specs.declared.signals.Edge.{Edge}
use Rattle.vme_model.specs.Signals.{is_well_formed}
use Rattle.vme_model.specs.Text.{header, version_of, spelling, edge_lines, text, next_number, read_of}
use Rattle.vme_trace.specs.Reading.{IsOneLine, rest_of, with_edges}
use Rattle.vme_trace.specs.Taking.{place}
use Rattle.vme_trace.specs.Texts.{whole}
use Rattle.vme_trace.proofs.Lines.{whole_line, end_whole}
use Rattle.vme_trace.proofs.OneSpelling.{spelled, spelling_fits}

lines_read : (v : Version) (n : ℕ) (es : List Edge) → All (λ e. IsTrue (is_well_formed e)) es → rest_of (Some v) (place n []) (edge_lines es) ≡ whole v es
lines_read v n [] h = end_whole v n
lines_read v n (e ∷ es) h =
    let formed : is_well_formed e ≡ true = All-head (λ d. IsTrue (is_well_formed d)) e es h in
    let fit = spelling_fits e formed in
    whole_line (Some v) n (spelling e) (edge_lines es) fit.0 fit.1 ∙ rw (spelled (spelling e) e (formed, refl)) refl
    ∙ ap (with_edges (e ∷ [])) (lines_read v (next_number n) es (All-tail (λ d. IsTrue (is_well_formed d)) e es h))

header_fits : (v : Version) → IsOneLine (header v) × (length (header v) ≤ 64)
header_fits One = ((λ e. cc, (λ e. cc, (λ e. cc, (λ e. cc, (λ e. cc, tt))))), omega arith)
header_fits Two = ((λ e. cc, (λ e. cc, (λ e. cc, (λ e. cc, (λ e. cc, tt))))), omega arith)

header_named : (v : Version) → version_of (header v) ≡ Some v
header_named One = refl
header_named Two = refl

pub text_read : (v : Version) (es : List Edge) → All (λ e. IsTrue (is_well_formed e)) es → read_of (text v es) ≡ whole v es
unfolding read_of
text_read v es h =
    let fit = header_fits v in
    whole_line None 1 (header v) (edge_lines es) fit.0 fit.1 ∙ rw (header_named v) refl ∙ lines_read v (next_number 1) es h
