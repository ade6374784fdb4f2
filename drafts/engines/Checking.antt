-- A check, read by read.
use Rattle.std.proofs.Common.{◌≡◌, ◌≢◌, ◌⊎◌, inl, inr, ℕ, ◌+◌, ◌-◌, ◌<◌, ◌≤◌, List, [], ◌∷◌, ◌++◌, length, reverse, Bool, true, false, not, Option, Some, None, unwrap_or, Result, Ok, Err, refl, sym, ◌∙◌, ap, append_assoc, append-nil, subst, arith, ◌==◌, is_ok}
use Rattle.std.proofs.Math.ListN.{length-append}
use Rattle.std.specs.Io.KnownBytes.{Appends, Consumes, IsAtEnd, Keeps}
use Rattle.std.proofs.KnownBytes.{Keeps-trans}
use Rattle.vme_model.specs.declared.signals.Version.{Version}
use Rattle.vme_model.specs.declared.signals.Edge.{Edge}
use Rattle.vme_model.specs.declared.refusals.Refused.{Refused}
use Rattle.vme_model.specs.Plan.{Plan}
use Rattle.vme_model.specs.Verdict.{State, Judgement, verdict, after, kept, IsLegal}
use Rattle.vme_engines.specs.Outcomes.{bench, or_refusal, first_refusal, first_refused}

-- ---- the first refusal

or_none : (n : ℕ) (j : Judgement) (later : Option (ℕ × Refused)) → or_refusal n j later ≡ None → (j ≡ Ok tt) × (later ≡ None)
or_none n (Ok tt) later h = (refl, h)
or_none n (Err r) later h = absurd cc

-- behind edges of which none is refused, the first refusal is that of the others
pub refusal_behind : (n : ℕ) (b : State) (es fs : List Edge) → first_refusal n b es ≡ None → first_refusal n b (es ++ fs) ≡ first_refusal (n + length es) (kept b es) fs
refusal_behind n b [] fs h = ap (λ m. first_refusal m b fs) (omega arith)
refusal_behind n b (e ∷ es) fs h =
    let both = or_none n (verdict b e) (first_refusal (n + 1) (after b e) es) h in
    let here : first_refusal n b (e ∷ (es ++ fs)) ≡ first_refusal (n + 1) (after b e) (es ++ fs) = rw both.0 refl in
    here ∙ refusal_behind (n + 1) (after b e) es fs both.1 ∙ ap (λ m. first_refusal m (kept (after b e) es) fs) (omega arith)

some_first : (n : ℕ) (j : Judgement) (later more : Option (ℕ × Refused)) (x : ℕ × Refused) → (later ≡ Some x → more ≡ Some x) → or_refusal n j later ≡ Some x → or_refusal n j more ≡ Some x
some_first n (Ok u) later more x go h = go h
some_first n (Err r) later more x go h = h

-- a refusal stays the first, whatever follows
pub refusal_stays : (n : ℕ) (b : State) (es fs : List Edge) (x : ℕ × Refused) → first_refusal n b es ≡ Some x → first_refusal n b (es ++ fs) ≡ Some x
refusal_stays n b [] fs x h = absurd cc
refusal_stays n b (e ∷ es) fs x h = some_first n (verdict b e) (first_refusal (n + 1) (after b e) es) (first_refusal (n + 1) (after b e) (es ++ fs)) x (refusal_stays (n + 1) (after b e) es fs x) h

-- ---- a trace without a refusal is legal

checked : (t : Bool) (r : Refused) (rest : Judgement) → check t r rest ≡ Ok tt → (t ≡ true) × (rest ≡ Ok tt)
checked true r rest h = (refl, h)
checked false r rest h = absurd cc

passed : (t : Bool) (r : Refused) (rest : Judgement) → t ≡ true → rest ≡ Ok tt → check t r rest ≡ Ok tt
passed t r rest e h = rw e h

-- an edge that is accepted is legal, and finds room
accepted : (b : State) (e : Edge) → verdict b e ≡ Ok tt → (verdict_but_full b.version b.plan b.history e ≡ Ok tt) × (length b.history ≡ b.max → ⊥)
accepted b e h =
    let one = checked _ _ _ h in
    let two = checked _ _ _ one.1 in
    let three = checked _ _ _ two.1 in
    let four = checked _ _ _ three.1 in
    let room = checked _ _ _ four.1 in
    (
      passed _ _ _ one.0 (passed _ _ _ two.0 (passed _ _ _ three.0 (passed _ _ _ four.0 refl))),
      λ full. let test : (length b.history == b.max) ≡ true = eq-eqb (length b.history) b.max full in
        let none : not true ≡ true = subst (λ (t : Bool). not t ≡ true) test room.0 in cc,
    )

after_ok : (b : State) (e : Edge) → verdict b e ≡ Ok tt → after b e ≡ made b e
after_ok b e h = rw h refl

-- edges of which none is refused are all kept, in a legal history that fits
pub all_legal : (n : ℕ) (b : State) (es : List Edge) → first_refusal n b es ≡ None → IsLegal b.version b.plan b.history → length b.history ≤ b.max
    → IsLegal b.version b.plan (reverse es ++ b.history) × (length es + length b.history ≤ b.max)
all_legal n b [] h legal fits = (legal, omega arith)
all_legal n b (e ∷ es) h legal fits =
    let both = or_none n (verdict b e) (first_refusal (n + 1) (after b e) es) h in
    let ok = accepted b e both.0 in
    let rest : first_refusal (n + 1) (made b e) es ≡ None = subst (λ (s : State). first_refusal (n + 1) s es ≡ None) (after_ok b e both.0) both.1 in
    let room : length b.history < b.max = (let full = ok.1 in omega arith) in
    let on = all_legal (n + 1) (made b e) es rest (ok.0, legal) (omega arith) in
    (
      subst (IsLegal b.version b.plan) (sym (ap (λ l. l ++ b.history) (reverse-cons e es) ∙ append_assoc (reverse es) (e ∷ []) b.history)) on.0,
      (let fit = on.1 in omega arith),
    )

-- ---- one piece of a check

pub record IsChecking (p : Plan) (v : Version) (from at old mid : Option (List ℕ)) (b : State) (reader : trace.State) (judged left : ℕ) : Type 0 where
  pub es : List Edge
  pub reading : IsReading [] [] from at reader left es
  pub known : reader.version ≡ Some v
  pub unrefused : first_refusal 1 (bench p v) es ≡ None
  pub unwritten : Keeps old mid
  pub state : b ≡ kept (bench p v) es
  pub count : judged ≡ length es

abbrev pub CheckEnded : Plan → Option (List ℕ) → Option (List ℕ) → Option (List ℕ) → Option (List ℕ) → Result Status Fault → Type 0
CheckEnded p from to old new result = (rest : List ℕ) × IsInput from rest × Checks p rest (streams from to old new) (traced result)

refused_known : (p : Plan) (v : Version) (es : List Edge) (w : Option Version) → w ≡ Some v → first_refused p w es ≡ first_refusal 1 (bench p v) es
refused_known p v es w e = rw e refl

-- the trace as far as it is known begins with the edges that came
begins_of : (from to : Option (List ℕ)) (v : Version) (left : ℕ) (reader : trace.State) (es : List Edge) (answer : Result Bool Fault) → Comes from to [] [] left reader es answer → reader.version ≡ Some v
    → (all : List ℕ) × IsInput from all × Begins (read_of all) v es
begins_of from to v left reader es (Ok true) h known = (h.0 ++ unwrap_or to [], whole_input from to [] h.0 h.1, begins_more v reader h.0 es h.3 known (unwrap_or to []))
begins_of from to v left reader es (Ok false) h known =
    (h.0, read_out from to h.0 h.1 h.2, record { version = sym h.3 ∙ known; others = []; edges = h.4 ∙ sym (append-nil es) })
begins_of from to v left reader es (Err f) h known = (
  h.0 ++ unwrap_or to [],
  whole_input from to [] h.0 h.1,
  elim h.2 [
    | inl failed ↦ failed.1.begins v known
    | inr stopped ↦ record { version = stopped.version_is ∙ known; others = stopped.front.0; edges = stopped.front.1 }
  ],
)
