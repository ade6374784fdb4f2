-- The lines at edges, one after another.
use Rattle.std.proofs.Common.{◌≡◌, ℕ, ◌+◌, List, [], ◌∷◌, ◌++◌, length, Bool, true, false, is_ok, sym, ◌∙◌, ap, append-nil, append_assoc, arith}
use Rattle.std.specs.Prelude.{if◌then◌else◌}
use Rattle.vme_model.specs.declared.signals.Edge.{Edge}
use Rattle.vme_model.specs.declared.signals.Version.{Version}
use Rattle.vme_model.specs.Plan.{Plan}
use Rattle.vme_model.specs.Verdict.{State, verdict, after, kept}
use Rattle.vme_model.specs.Deliveries.{answer}
use Rattle.vme_model.specs.Numbered.{Numbered, numbered, numbered_on, numbered_with}
use Rattle.vme_reading.specs.Outcomes.{bench}
use Rattle.vme_reading.proofs.KeptEdges.{kept_plan, numbered_append}
use Rattle.vme_cycles.specs.Transactions.{ended_line, line_at, lines_on, refused_text}
use Rattle.vme_cycles.specs.Outcomes.{lines_by}
use Rattle.vme_cycles.specs.Kept.{next_line}

-- ---- lists of edges

pub lines_append : (b : State) (n : ℕ) (k : Numbered) (es fs : List Edge) → lines_on b n k (es ++ fs) ≡ lines_on b n k es ++ lines_on (kept b es) (n + length es) (numbered_on b n k es) fs
lines_append b n k [] fs = ap (λ m. lines_on b m k fs) (omega arith)
lines_append b n k (e ∷ es) fs =
    let others = numbered_with b (n + 1) e k in
    ap (λ l. line_at b (n + 1) e k ++ l) (lines_append (after b e) (n + 1) others es fs)
    ∙ ap (λ m. line_at b (n + 1) e k ++ (lines_on (after b e) (n + 1) others es ++ lines_on (kept (after b e) es) m (numbered_on (after b e) (n + 1) others es) fs)) (omega arith)
    ∙ sym (append_assoc (line_at b (n + 1) e k) (lines_on (after b e) (n + 1) others es) _)

module _ (p : Plan) (v : Version) (es : List Edge) where
  from_start : 0 + length es ≡ length es
  from_start = omega arith

  -- the lines with that of one more edge
  pub lines_next : (e : Edge) → lines_by p v (es ++ e ∷ []) ≡ lines_by p v es ++ next_line p v es e
  lines_next e =
      let k = numbered (bench p v) es in
      lines_append (bench p v) 0 [] es (e ∷ [])
      ∙ ap (λ m. lines_by p v es ++ lines_on (kept (bench p v) es) m k (e ∷ [])) from_start
      ∙ ap (λ l. lines_by p v es ++ l) (append-nil (next_line p v es e))

  numbered_next : (e : Edge) → numbered (bench p v) (es ++ e ∷ []) ≡ numbered_with (kept (bench p v) es) (length es + 1) e (numbered (bench p v) es)
  numbered_next e = numbered_append (bench p v) 0 [] es (e ∷ []) ∙ ap (λ m. numbered_with (kept (bench p v) es) (m + 1) e (numbered (bench p v) es)) from_start

-- ---- one edge

-- the next edge, on the bus behind the edges so far
module _ (p : Plan) (v : Version) (es : List Edge) (e : Edge) (b : State) (n : ℕ) (behind : b ≡ kept (bench p v) es) (count : n ≡ length es + 1) where
  judged : (t : Bool) → is_ok (verdict b e) ≡ t → is_ok (verdict (kept (bench p v) es) e) ≡ t
  judged t is = ap (λ s. is_ok (verdict s e)) (sym behind) ∙ is

  pub numbered_accepted : is_ok (verdict b e) ≡ true → (n, e) ∷ numbered (bench p v) es ≡ numbered (bench p v) (es ++ e ∷ [])
  numbered_accepted ok =
      let k = numbered (bench p v) es in
      ap (λ m. (m, e) ∷ k) count ∙ sym (ap (λ (t : Bool). if t then (length es + 1, e) ∷ k else k) (judged true ok)) ∙ sym (numbered_next p v es e)

  pub numbered_refused : is_ok (verdict b e) ≡ false → numbered (bench p v) es ≡ numbered (bench p v) (es ++ e ∷ [])
  numbered_refused refused =
      let k = numbered (bench p v) es in
      sym (ap (λ (t : Bool). if t then (length es + 1, e) ∷ k else k) (judged false refused)) ∙ sym (numbered_next p v es e)

  pub line_accepted : (x : List ℕ) → is_ok (verdict b e) ≡ true → x ≡ ended_line p n e (numbered (bench p v) es) → x ≡ next_line p v es e
  line_accepted x ok is =
      let k = numbered (bench p v) es in
      let s = kept (bench p v) es in
      is ∙ ap (λ m. ended_line p m e k) count ∙ ap (λ q. ended_line q (length es + 1) e k) (sym (kept_plan (bench p v) es))
      ∙ sym (ap (λ (t : Bool). if t then ended_line s.plan (length es + 1) e k else refused_text (length es + 1) e (answer s e)) (judged true ok))
