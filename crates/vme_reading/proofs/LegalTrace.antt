-- The trace of a legal list, as a check reads it.
use Rattle.std.proofs.Common.{◌≡◌, ◌==◌, ◌≤◌, ◌+◌, List, [], ◌∷◌, ◌++◌, length, true, false, None, Ok, refl, sym, ◌∙◌, ap, append-nil, subst, arith, reverse, All, IsTrue, ne_eqb}
use mathlib.Core.List.{reverse-cons, reverse-reverse}
use Rattle.std.proofs.lemmas.List.{length-reverse}
use Rattle.std.proofs.lemmas.List.Elements.{All-nil, All-push}
use Rattle.vme_model.specs.declared.refusals.Refused.TheVariants.{NoSuchDriver}
use Rattle.vme_model.specs.declared.signals.Version.{Version}
use Rattle.vme_model.specs.declared.signals.Edge.{Edge}
use Rattle.vme_model.specs.Signals.{is_well_formed}
use Rattle.vme_model.specs.Plan.{Plan, has_driver}
use Rattle.vme_model.specs.Accepted.{IsAccepted}
use Rattle.vme_model.specs.History.{in_order}
use Rattle.vme_model.specs.Verdict.{State, verdict, kept, IsLegal}
use Rattle.vme_model.specs.Safe.{IsSafe}
use Rattle.vme_model.specs.Text.{text, read_of}
use Rattle.vme_model.specs.Report.{trace_limit}
use Rattle.vme_model.proofs.Bools.{and_left}
use Rattle.vme_model.proofs.AllowedEdges.{checked}
use Rattle.vme_model.proofs.Safety.{legal_is_safe}
use Rattle.vme_trace.specs.Texts.{whole}
use Rattle.vme_trace.proofs.ReadBack.{text_read}
use Rattle.vme_reading.specs.Outcomes.{bench}
use Rattle.vme_reading.specs.Refusals.{or_refusal, first_refusal}
use Rattle.vme_reading.specs.LegalTraces.{IsLegalTrace}
use Rattle.vme_reading.proofs.FirstRefusals.{refusal_behind, all_kept}

-- each edge of a legal list is well formed
pub all_well_formed : (version : Version) (p : Plan) (h : List Edge) → IsLegal version p h → All (λ e. IsTrue (is_well_formed e)) (reverse h)
all_well_formed version p [] l = All-nil (λ e. IsTrue (is_well_formed e))
all_well_formed version p (e ∷ h) l =
    let one : is_well_formed e ≡ true = and_left (is_well_formed e) (has_driver p e.driver e.wire) (checked _ NoSuchDriver _ l.0).0 in
    subst (All (λ e. IsTrue (is_well_formed e))) (sym (reverse-cons e h)) (All-push (λ e. IsTrue (is_well_formed e)) (reverse h) e (all_well_formed version p h l.1) one)

module _ (v : Version) (p : Plan) where
  -- a legal edge that finds room is accepted
  accepted : (h : List Edge) (e : Edge) → IsLegal v p (e ∷ h) → length (e ∷ h) ≤ trace_limit → verdict (record (bench p v) { history = h }) e ≡ Ok tt
  accepted h e l few =
      let room : (length h == trace_limit) ≡ false = ne_eqb (length h) trace_limit (λ full. omega arith) in
      rw room l.0

  unrefused : (h : List Edge) → IsLegal v p h → length h ≤ trace_limit → first_refusal 1 (bench p v) (reverse h) ≡ None
  unrefused [] l few = refl
  unrefused (e ∷ h) l few =
      let before : first_refusal 1 (bench p v) (reverse h) ≡ None = unrefused h l.1 (omega arith) in
      let same : reverse (reverse h) ++ [] ≡ h = append-nil (reverse (reverse h)) ∙ reverse-reverse h in
      let now : kept (bench p v) (reverse h) ≡ record (bench p v) { history = h } = all_kept 1 (bench p v) (reverse h) before ∙ ap (λ l. record (bench p v) { history = l }) same in
      ap (first_refusal 1 (bench p v)) (reverse-cons e h) ∙ refusal_behind 1 (bench p v) (reverse h) (e ∷ []) before
      ∙ ap (λ (s : State). first_refusal (1 + length (reverse h)) s (e ∷ [])) now
      ∙ ap (λ j. or_refusal (1 + length (reverse h)) j None) (accepted h e l few)

pub legal_trace : (p : Plan) (v : Version) (h : List Edge) → IsAccepted p → IsLegal v p h → length h ≤ trace_limit → IsLegalTrace p (read_of (text v (in_order h)))
legal_trace p v h fit l few =
    let same : reverse (reverse h) ≡ h = reverse-reverse h in
    let all : IsLegalTrace p (whole v (reverse h)) = record {
      version = v;
      named = refl;
      whole = refl;
      unrefused = unrefused v p h l few;
      legal = subst (IsLegal v p) (sym same) l;
      safe = subst (IsSafe p) (sym same) (legal_is_safe v p h fit l);
      fits = rw (length-reverse h) few;
    } in
    subst (IsLegalTrace p) (sym (text_read v (reverse h) (all_well_formed v p h l))) all
