-- The lines of edges, put to a text as they are made.
use Rattle.std.proofs.Common.{◌≡◌, ℕ, List, [], ◌∷◌, ◌++◌, Bool, true, false, Option, Some, None, refl, sym, ◌∙◌, ap, append_assoc, subst, if◌then◌else◌}
use Rattle.std.specs.Option.{option_map_or}
use Rattle.std.proofs.lemmas.List.{reverse-append}
use Rattle.std.specs.Io.KnownBytes.{Appends}
use Rattle.std.proofs.KnownBytes.{Appends-trans, Appends-nil}
use Rattle.vme_model.specs.declared.signals.Edge.{Edge}
use Rattle.vme_model.specs.History.{in_order}
use Rattle.vme_model.specs.Verdict.{State, made}
use Rattle.vme_model.specs.Text.{edge_lines}
use Rattle.vme_trace.specs.Writing.{AppendsFront, edge_line}
use Rattle.vme_reading.specs.Texts.{HandsOn, IsListed, KeepsListed, lines_made}
use Rattle.vme_reading.proofs.WrittenLines.{front_of_more, front_behind, line_alone, lines_behind}

-- ---- edges are only added

-- the edges of the first are those of the second, but for the last of these
abbrev pub IsBefore : State → State → Type 0
IsBefore b c = (more : List Edge) × (c.history ≡ more ++ b.history)

pub itself : (b : State) → IsBefore b b
itself b = ([], refl)

pub before_both : (b c d : State) → IsBefore b c → IsBefore c d → IsBefore b d
before_both b c d f g = (g.0 ++ f.0, g.1 ∙ ap (λ h. g.0 ++ h) f.1 ∙ sym (append_assoc g.0 f.0 b.history))

pub before_made : (b : State) (o : Option Edge) → IsBefore b (option_map_or (made b) o b)
before_made b None = itself b
before_made b (Some e) = (e ∷ [], refl)

pub before_if : (t : Bool) (b c : State) → IsBefore b c → IsBefore b (if t then b else c)
before_if true b c h = itself b
before_if false b c h = h

-- ---- the lines of edges that are added

pub lines_of_both : (more h : List Edge) → edge_lines (in_order (more ++ h)) ≡ edge_lines (in_order h) ++ edge_lines (in_order more)
lines_of_both more h = ap (λ (es : List Edge). edge_lines es) (reverse-append more h) ∙ lines_behind (in_order h) (in_order more)

-- a front of the lines is one of those with more behind them
pub front_later : (a c : Option (List ℕ)) (s t : State) → IsBefore s t → AppendsFront a c (lines_made s) → AppendsFront a c (lines_made t)
front_later a c s t later w =
    subst (AppendsFront a c) (sym (ap (λ (h : List Edge). edge_lines (in_order h)) later.1 ∙ lines_of_both later.0 s.history)) (front_of_more a c (lines_made s) (edge_lines (in_order later.0)) w)

module _ (first old new : Option (List ℕ)) (held : List ℕ) (b : State) (listed : IsListed first old held (lines_made b)) where
  -- the line of one more edge
  pub listed_edge : (e : Edge) (left : List ℕ) → HandsOn old new (held ++ edge_line e) left → IsListed first new left (lines_made (made b e))
  listed_edge e left w = (
    listed.0 ++ w.0,
    lines_of_both (e ∷ []) b.history
        ∙ ap (λ l. lines_made b ++ l) (sym (line_alone e))
        ∙ ap (λ l. l ++ edge_line e) listed.1
        ∙ append_assoc listed.0 held (edge_line e)
        ∙ ap (λ l. listed.0 ++ l) w.1
        ∙ sym (append_assoc listed.0 w.0 left),
    Appends-trans first old new listed.0 w.0 listed.2 w.2,
  )

  -- what was held is written
  pub listed_all : Appends old new held → Appends first new (lines_made b)
  listed_all w = subst (Appends first new) (sym listed.1) (Appends-trans first old new listed.0 held listed.2 w)

  -- what was held could not be written
  pub listed_part : AppendsFront old new held → AppendsFront first new (lines_made b)
  listed_part w = subst (AppendsFront first new) (sym listed.1) (front_behind first old new listed.0 held listed.2 w)

-- before the first edge nothing is held
pub none_listed : (a : Option (List ℕ)) (held : List ℕ) (b : State) → held ≡ [] → b.history ≡ [] → IsListed a a held (lines_made b)
none_listed a held b empty start = ([], ap (λ (h : List Edge). edge_lines (in_order h)) start ∙ sym empty, Appends-nil a)

-- the line of the edge that was made is put to the text
pub edge_listed : (b now : State) (e : Edge) (old new : Option (List ℕ)) (held left : List ℕ) → now ≡ made b e → HandsOn old new (held ++ edge_line e) left → KeepsListed b held old new now left
edge_listed b now e old new held left is w first listed = subst (λ (s : State). IsListed first new left (lines_made s)) (sym is) (listed_edge first old new held b listed e left w)

-- or could not be
pub edge_cut : (b end : State) (old new : Option (List ℕ)) (held : List ℕ) → IsBefore b end → AppendsFront old new held → (first : Option (List ℕ)) → IsListed first old held (lines_made b)
    → AppendsFront first new (lines_made end)
edge_cut b end old new held before w first listed = front_later first new b end before (listed_part first old new held b listed w)

-- from a text without bytes, before the first edge
module _ (a b : Option (List ℕ)) (held left : List ℕ) (start now end : State) (empty : held ≡ []) (none : start.history ≡ []) where
  -- the lines were cut off
  pub lines_cut : ((first : Option (List ℕ)) → IsListed first a held (lines_made start) → AppendsFront first b (lines_made end)) → AppendsFront a b (lines_made end)
  lines_cut h = h a (none_listed a held start empty none)

  module _ (is : now ≡ end) (keeps : KeepsListed start held a b now left) (c : Option (List ℕ)) where
    -- what was held behind them is written
    pub lines_written : Appends b c left → Appends a c (lines_made end)
    lines_written w = subst (λ (s : State). Appends a c (lines_made s)) is (listed_all a b c left now (keeps a (none_listed a held start empty none)) w)

    -- what was held could not be written
    pub lines_part : AppendsFront b c left → AppendsFront a c (lines_made end)
    lines_part w = subst (λ (s : State). AppendsFront a c (lines_made s)) is (listed_part a b c left now (keeps a (none_listed a held start empty none)) w)
