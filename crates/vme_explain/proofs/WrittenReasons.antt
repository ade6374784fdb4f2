-- The lines of a condition, those of all, and the block.
use Rattle.std.proofs.Common.{◌≡◌, ◌∙◌, sym, ap, subst, true, ℕ, List, Option, Result, OnOk, OnErr}
use Rattle.std.proofs.lemmas.List.Folds.{flat_map-map}
use Rattle.std.specs.Io.KnownBytes.{Appends}
use Rattle.std.specs.List.{All, flat_map}
use Rattle.std.proofs.KnownBytes.{Appends-trans}
use Rattle.vme_model.specs.declared.conditions.Tested.{Tested}
use Rattle.vme_model.specs.declared.signals.Edge.{Edge}
use Rattle.vme_model.specs.declared.witnesses.Witness.{Witness}
use Rattle.vme_model.specs.Failing.{tested}
use Rattle.vme_model.specs.Guards.{conditions}
use Rattle.vme_model.specs.Numbered.{Numbered}
use Rattle.vme_model.specs.Signals.{is_well_formed}
use Rattle.vme_model.specs.Verdict.{State}
use Rattle.vme_model.specs.Why.{edge_verdict, reason_lines, witness_lines, why, why_text}
use Rattle.vme_model.specs.Witnesses.{witnesses_of}
use Rattle.vme_trace.specs.Writing.{AppendsFront}
use Rattle.vme_trace.proofs.WrittenLines.{on_err, on_err_map, first_front, second_front}
use Rattle.vme_explain.specs.declared.marks.Marks.{Marks}
use Rattle.vme_explain.specs.Blocks.{IsSpoken, condition_line, reason, reasons_text}
use Rattle.vme_explain.specs.Traced.{OfTrace}
use Rattle.vme_explain.proofs.SpokenWitnesses.{spoken}
use Rattle.vme_explain.proofs.WrittenPieces.{on_ok_map}

module _ (b : State) (m : Marks) (first last : Option (List ℕ)) where
  -- these bytes, or a front of them, as far as the marks are those of the trace
  abbrev pub Writes : (Numbered → List ℕ) → Type 0
  Writes bytes = OfTrace b m (λ k. Appends first last (bytes k))

  abbrev pub WritesFront : (Numbered → List ℕ) → Type 0
  WritesFront bytes = OfTrace b m (λ k. AppendsFront first last (bytes k))

-- a line, and those of witnesses that are found as they are defined
module _ (b : State) (m : Marks) (e : Edge) (t : Tested) (first mid : Option (List ℕ)) (line : List ℕ) (is : line ≡ condition_line b e t) where
  abbrev lines : Numbered → List ℕ
  lines k = reason_lines b e (reason b k e t)

  abbrev witnesses : Numbered → List ℕ
  witnesses k = witness_lines (witnesses_of b k e t.condition)

  line_front : AppendsFront first mid line → WritesFront b m first mid lines
  line_front w k of made = first_front first mid (condition_line b e t) (witnesses k) (rw is at w)

  pub reason_line_fails : {A E : Type 0} (r : Result A E) → AppendsFront first mid line → OnErr r (WritesFront b m first mid lines)
  reason_line_fails r w = on_err r (WritesFront b m first mid lines) (line_front w)

  module _ (last : Option (List ℕ)) (found : List Witness) (well : is_well_formed e ≡ true) (same : OfTrace b m (λ k. found ≡ witnesses_of b k e t.condition)) (wrote : Appends first mid line) where
    all_found : (P : List Witness → Type 0) → (All IsSpoken found → P found) → OfTrace b m (λ k. P (witnesses_of b k e t.condition))
    all_found P f k of made =
        let is_found : found ≡ witnesses_of b k e t.condition = same k of made in
        subst P is_found (f (subst (All IsSpoken) (sym is_found) (spoken b k e t.condition well)))

    whole : (All IsSpoken found → Appends mid last (witness_lines found)) → Writes b m first last lines
    whole f k of made = Appends-trans first mid last (condition_line b e t) (witnesses k) (rw is at wrote) (all_found (λ ws. Appends mid last (witness_lines ws)) f k of made)

    front : (All IsSpoken found → AppendsFront mid last (witness_lines found)) → WritesFront b m first last lines
    front f k of made = second_front first mid last (condition_line b e t) (witnesses k) (rw is at wrote) (all_found (λ ws. AppendsFront mid last (witness_lines ws)) f k of made)

    pub reason_written : {A E : Type 0} (r : Result A E) → OnOk r (All IsSpoken found → Appends mid last (witness_lines found)) → OnOk r (Writes b m first last lines)
    reason_written r h = on_ok_map r (All IsSpoken found → Appends mid last (witness_lines found)) (Writes b m first last lines) whole h

    pub reason_fails : {A E : Type 0} (r : Result A E) → OnErr r (All IsSpoken found → AppendsFront mid last (witness_lines found)) → OnErr r (WritesFront b m first last lines)
    reason_fails r h = on_err_map r (All IsSpoken found → AppendsFront mid last (witness_lines found)) (WritesFront b m first last lines) front h

-- the first line, and those of the conditions that are tested
module _ (n : ℕ) (b : State) (m : Marks) (e : Edge) (first mid : Option (List ℕ)) (line : List ℕ) (is : line ≡ edge_verdict n b e) where
  abbrev block : Numbered → List ℕ
  block k = why_text n b k e

  first_line_front : AppendsFront first mid line → WritesFront b m first mid block
  first_line_front w k of made = first_front first mid (edge_verdict n b e) (flat_map (reason_lines b e) (why b k e)) (rw is at w)

  pub first_line_fails : {A E : Type 0} (r : Result A E) → AppendsFront first mid line → OnErr r (WritesFront b m first mid block)
  first_line_fails r w = on_err r (WritesFront b m first mid block) (first_line_front w)

  module _ (last : Option (List ℕ)) (ts : List Tested) (all : ts ≡ conditions (tested b e)) (wrote : Appends first mid line) where
    reasons : (k : Numbered) → reasons_text b k e ts ≡ flat_map (reason_lines b e) (why b k e)
    reasons k = ap (reasons_text b k e) all ∙ sym (flat_map-map (reason_lines b e) (reason b k e) (conditions (tested b e)))

    written : Writes b m mid last (λ k. reasons_text b k e ts) → Writes b m first last block
    written f k of made =
        Appends-trans first mid last (edge_verdict n b e) (flat_map (reason_lines b e) (why b k e)) (rw is at wrote) (subst (Appends mid last) (reasons k) (f k of made))

    fails : WritesFront b m mid last (λ k. reasons_text b k e ts) → WritesFront b m first last block
    fails f k of made =
        second_front first mid last (edge_verdict n b e) (flat_map (reason_lines b e) (why b k e)) (rw is at wrote) (subst (AppendsFront mid last) (reasons k) (f k of made))

    pub block_written : {A E : Type 0} (r : Result A E) → OnOk r (Writes b m mid last (λ k. reasons_text b k e ts)) → OnOk r (Writes b m first last block)
    block_written r h = on_ok_map r (Writes b m mid last (λ k. reasons_text b k e ts)) (Writes b m first last block) written h

    pub block_fails : {A E : Type 0} (r : Result A E) → OnErr r (WritesFront b m mid last (λ k. reasons_text b k e ts)) → OnErr r (WritesFront b m first last block)
    block_fails r h = on_err_map r (WritesFront b m mid last (λ k. reasons_text b k e ts)) (WritesFront b m first last block) fails h
