-- What is told of a trace, piece by piece.
use Rattle.std.proofs.Common.{◌≡◌, inl, inr, ℕ, ◌+◌, List, [], ◌∷◌, ◌++◌, length, take, drop, Bool, false, Option, Some, None, Result, Ok, Err, OnErr, is_ok, refl, sym, ◌∙◌, ap, subst, arith, append_assoc, append-nil, take-append-drop}
use Rattle.std.proofs.lemmas.List.{length-take-le}
use Rattle.std.specs.Io.KnownBytes.{Keeps, Appends}
use Rattle.std.proofs.KnownBytes.{Keeps-trans, Appends-kept}
use Rattle.vme_model.specs.declared.signals.Edge.{Edge}
use Rattle.vme_model.specs.Verdict.{State, verdict, kept}
use Rattle.vme_model.specs.Numbered.{Numbered, numbered_on}
use Rattle.vme_model.specs.Why.{why_text}
use Rattle.vme_model.specs.Stands.{stands_text}
use Rattle.vme_trace.specs.declared.Fault.{Fault}
use Rattle.vme_trace.specs.Writing.{AppendsFront}
use Rattle.vme_explain.specs.declared.marks.Marks.{Marks}
use Rattle.vme_engines.specs.declared.Status.{Status}
use Rattle.vme_engines.specs.declared.following.Following.{Following}
use Rattle.vme_engines.specs.declared.following.Found.{Found}
use Rattle.vme_engines.specs.declared.following.Told.{Told}
use Rattle.vme_engines.specs.declared.following.Told.TheVariants.{Block, Beyond}
use Rattle.vme_engines.specs.declared.checks.Finding.TheVariants.{Legal}
use Rattle.vme_engines.specs.Checking.{first_refusal, finding_line}
use Rattle.vme_engines.specs.Explaining.{edge_status}
use Rattle.vme_explain.specs.Traced.{OfTrace}
use Rattle.vme_engines.specs.Followed.{Follows, IsNext, IsMissing, ComesTo, TellsEdge, TellsLegal, Tells, ExplainsPiece, IsPlace, IsBehind, IsNotBefore, TellsPlace, Reaches, EndsBehind, StatesPiece}
use Rattle.vme_engines.specs.Pieces.{answered}
use Rattle.vme_engines.proofs.WrittenLines.{on_err}
use Rattle.vme_engines.proofs.CheckPieces.{refusal_behind}
use Rattle.vme_engines.proofs.FollowedEdges.{follows_more, of_trace_behind, kept_behind, numbered_behind, count_behind}

-- ---- writers

pub appends_behind : (a b c : Option (List ℕ)) (bs : List ℕ) → Keeps a b → Appends b c bs → Appends a c bs
appends_behind None b c bs p q = tt
appends_behind (Some x) None c bs p q = absurd p
appends_behind (Some x) (Some y) None bs p q = absurd q
appends_behind (Some x) (Some y) (Some z) bs p q = q ∙ ap (λ l. l ++ bs) p

pub front_after : (a b c : Option (List ℕ)) (bs : List ℕ) → Keeps a b → AppendsFront b c bs → AppendsFront a c bs
front_after a b c bs p q = (q.0, q.1, q.2, appends_behind a b c q.0 p q.3)

pub front_then : (a b c : Option (List ℕ)) (bs : List ℕ) → Appends a b bs → Keeps b c → AppendsFront a c bs
front_then a b c bs p q = (bs, [], sym (append-nil bs), Appends-kept a b c bs p q)

-- a block was written, but not handed on
pub flushed_front : {A : Type 0} (r : Result A Fault) (s : State) (m : Marks) (T : Numbered → List ℕ) (a b c : Option (List ℕ)) → OfTrace s m (λ k. Appends a b (T k)) → Keeps b c
    → OnErr r (OfTrace s m (λ k. AppendsFront a c (T k)))
flushed_front r s m T a b c w kept = on_err r (OfTrace s m (λ k. AppendsFront a c (T k))) (λ k is of. front_then a b c (T k) (w k is of) kept)

-- ---- a block that tells of the numbered edges behind others

module _ (first mid : Following) (es : List Edge) (one : Follows first es mid) where
  block_text : (T : ℕ → State → Numbered → List ℕ) (front : List Edge) (k : Numbered)
      → T (mid.judged + length front) (kept mid.bus front) (numbered_on mid.bus mid.judged (numbered_on first.bus first.judged k es) front)
      ≡ T (first.judged + length (es ++ front)) (kept first.bus (es ++ front)) (numbered_on first.bus first.judged k (es ++ front))
  block_text T front k =
      ap (λ n. T n (kept mid.bus front) (numbered_on mid.bus mid.judged (numbered_on first.bus first.judged k es) front)) (sym (count_behind first mid es one front))
      ∙ ap (λ b. T (first.judged + length (es ++ front)) b (numbered_on mid.bus mid.judged (numbered_on first.bus first.judged k es) front)) (sym (kept_behind first mid es one front))
      ∙ ap (λ m. T (first.judged + length (es ++ front)) (kept first.bus (es ++ front)) m) (sym (numbered_behind first mid es one k front))

  pub block_behind : (T : ℕ → State → Numbered → List ℕ) (W V : List ℕ → Type 0) (front : List Edge) → ((t : List ℕ) → W t → V t)
      → OfTrace mid.bus mid.marks (λ k. W (T (mid.judged + length front) (kept mid.bus front) (numbered_on mid.bus mid.judged k front)))
      → OfTrace first.bus first.marks (λ k. V (T (first.judged + length (es ++ front)) (kept first.bus (es ++ front)) (numbered_on first.bus first.judged k (es ++ front))))
  block_behind T W V front go h =
      λ k is of.
      subst V (block_text T front k)
      (go _ (of_trace_behind first mid es one (λ m. W (T (mid.judged + length front) (kept mid.bus front) (numbered_on mid.bus mid.judged m front))) h k is of))

  -- a block of what was followed
  pub block_here : (T : ℕ → State → Numbered → List ℕ) (W : List ℕ → Type 0) → OfTrace mid.bus mid.marks (λ k. W (T mid.judged mid.bus k))
      → OfTrace first.bus first.marks (λ k. W (T (first.judged + length es) (kept first.bus es) (numbered_on first.bus first.judged k es)))
  block_here T W h =
      λ k is of.
      subst (λ (b : State). W (T (first.judged + length es) b (numbered_on first.bus first.judged k es))) one.bus
      (subst (λ (n : ℕ). W (T n mid.bus (numbered_on first.bus first.judged k es))) one.judged
      (of_trace_behind first mid es one (λ m. W (T mid.judged mid.bus m)) h k is of))

-- ---- explain

-- two pieces, one behind the other
module _ (first mid : Following) (es fs : List Edge) (old at new : Option (List ℕ)) (keeps : Keeps old at) (one : Follows first es mid) where
  refusal_is : (gs : List Edge) → first_refusal (first.judged + 1) first.bus es ≡ None
      → first_refusal (first.judged + 1) first.bus (es ++ gs) ≡ first_refusal (mid.judged + 1) mid.bus gs
  refusal_is gs none =
      refusal_behind (first.judged + 1) first.bus es gs none
      ∙ ap (λ s. first_refusal ((first.judged + 1) + length es) s gs) (sym one.bus)
      ∙ ap (λ n. first_refusal n mid.bus gs) (let is = one.judged in omega (arith, is))

  missing_more : (edge : Option ℕ) → IsMissing edge first.bus first.judged es → IsMissing edge mid.bus mid.judged fs → IsMissing edge first.bus first.judged (es ++ fs)
  missing_more edge a b = (
    λ asked given h. let low = a.0 asked given h in let is = one.judged in let both = count_behind first mid es one fs in let high = b.0 asked given (omega (arith, is, low)) in omega (arith, both, high),
    λ none. refusal_is fs (a.1 none) ∙ b.1 none,
  )

  next_more : (edge : Option ℕ) (front : List Edge) (e : Edge) → IsMissing edge first.bus first.judged es → IsNext edge mid.bus mid.judged front e
      → IsNext edge first.bus first.judged (es ++ front) e
  next_more (Some asked) front e a b = b ∙ ap (λ n. n + 1) (sym (count_behind first mid es one front))
  next_more None front e a b = (refusal_is front (a.1 refl) ∙ b.0, ap (λ s. is_ok (verdict s e)) (kept_behind first mid es one front) ∙ b.1)

  edge_more : (edge : Option ℕ) (status : Status) (W V : List ℕ → Type 0) → ((t : List ℕ) → W t → V t) → IsMissing edge first.bus first.judged es
      → TellsEdge edge mid fs status W → TellsEdge edge first (es ++ fs) status V
  edge_more edge status W V go none t = record {
    front = es ++ t.front;
    e = t.e;
    rest = t.rest;
    split = ap (λ l. es ++ l) t.split ∙ sym (append_assoc es t.front (t.e ∷ t.rest));
    asked = next_more edge t.front t.e none t.asked;
    ends = t.ends ∙ ap (λ s. edge_status s t.e) (sym (kept_behind first mid es one t.front));
    block = block_behind first mid es one (λ n b k. why_text (n + 1) b k t.e) W V t.front go t.block;
  }

  legal_more : (edge : Option ℕ) (more : Result Bool Fault) (status : Status) (W V : List ℕ → Type 0) → ((t : List ℕ) → W t → V t) → IsMissing edge first.bus first.judged es
      → TellsLegal edge mid fs more status W → TellsLegal edge first (es ++ fs) more status V
  legal_more (Some asked) more status W V go none t = absurd (let no = t.0 in cc)
  legal_more None more status W V go none t =
      (t.0, t.1, refusal_is fs (none.1 refl) ∙ t.2, t.3, subst (λ (n : ℕ). V (finding_line (Legal n))) (sym (count_behind first mid es one fs)) (go _ t.4))

  tells_more : (edge : Option ℕ) (more : Result Bool Fault) (status : Status) (W V : List ℕ → Type 0) → ((t : List ℕ) → W t → V t) → IsMissing edge first.bus first.judged es
      → Tells edge mid fs more status W → Tells edge first (es ++ fs) more status V
  tells_more edge more status W V go none t = elim t [ inl told ↦ inl (edge_more edge status W V go none told) | inr legal ↦ inr (legal_more edge more status W V go none legal) ]

  pub explains_more : (edge : Option ℕ) (more : Result Bool Fault) (now : Following) (answer : Result (Option Told) Fault) → IsMissing edge first.bus first.judged es
      → ExplainsPiece edge mid fs more at new now answer → ExplainsPiece edge first (es ++ fs) more old new now answer
  explains_more edge more now (Ok None) none h = (h.0, Keeps-trans old at new keeps h.1, missing_more edge none h.2, follows_more first mid es one fs now h.3)
  explains_more edge more now (Ok (Some (Block status))) none h = tells_more edge more status (Appends at new) (Appends old new) (λ t w. appends_behind old at new t keeps w) none h
  explains_more edge more now (Ok (Some (Beyond n))) none h =
      (h.0, Keeps-trans old at new keeps h.1, missing_more edge none h.2, h.3 ∙ sym (count_behind first mid es one fs), h.4, h.5)
  explains_more edge more now (Err f) none h = elim h [
    | inl waits ↦ inl (waits.0, Keeps-trans old at new keeps waits.1, missing_more edge none waits.2)
    | inr cut ↦ inr (cut.0, cut.1, tells_more edge more cut.1 (AppendsFront at new) (AppendsFront old new) (λ t w. front_after old at new t keeps w) none cut.2)
  ]

  -- ---- state

  behind_more : (after : Option ℕ) → IsNotBefore after first.judged es → IsBehind after mid.judged fs → IsBehind after first.judged (es ++ fs)
  behind_more after a b = λ wanted given h. let low = a wanted given h in let is = one.judged in let both = count_behind first mid es one fs in let high = b wanted given (omega (arith, is, low)) in omega (arith, both, high)

  not_before_more : (after : Option ℕ) → IsNotBefore after first.judged es → IsNotBefore after mid.judged fs → IsNotBefore after first.judged (es ++ fs)
  not_before_more after a b = λ wanted given h. let low = a wanted given h in let is = one.judged in let both = count_behind first mid es one fs in let high = b wanted given (omega (arith, is, low)) in omega (arith, both, high)

  place_more : (after : Option ℕ) (front rest : List Edge) (more : Result Bool Fault) → IsPlace after mid.judged front rest more → IsPlace after first.judged (es ++ front) rest more
  place_more (Some n) front rest more h = h ∙ sym (count_behind first mid es one front)
  place_more None front rest more h = h

  tells_place_more : (after : Option ℕ) (more : Result Bool Fault) (W V : List ℕ → Type 0) → ((t : List ℕ) → W t → V t) → TellsPlace after mid fs more W → TellsPlace after first (es ++ fs) more V
  tells_place_more after more W V go t = record {
    front = es ++ t.front;
    rest = t.rest;
    split = ap (λ l. es ++ l) t.split ∙ sym (append_assoc es t.front t.rest);
    reached = place_more after t.front t.rest more t.reached;
    block = block_behind first mid es one stands_text W V t.front go t.block;
  }

  pub states_more : (after : Option ℕ) (more : Result Bool Fault) (now : Following) (answer : Result (Option Told) Fault) → IsNotBefore after first.judged es
      → StatesPiece after mid fs more at new now answer → StatesPiece after first (es ++ fs) more old new now answer
  states_more after more now (Ok None) ahead h = (h.0, Keeps-trans old at new keeps h.1, not_before_more after ahead h.2, follows_more first mid es one fs now h.3)
  states_more after more now (Ok (Some (Block status))) ahead h = (tells_place_more after more (Appends at new) (Appends old new) (λ t w. appends_behind old at new t keeps w) h.0, h.1)
  states_more after more now (Ok (Some (Beyond n))) ahead h =
      (h.0, Keeps-trans old at new keeps h.1, behind_more after ahead h.2, h.3 ∙ sym (count_behind first mid es one fs), h.4, h.5)
  states_more after more now (Err f) ahead h = elim h [
    | inl waits ↦ inl (waits.0, Keeps-trans old at new keeps waits.1, behind_more after ahead waits.2)
    | inr cut ↦ inr (cut.0, tells_place_more after more (AppendsFront at new) (AppendsFront old new) (λ t w. front_after old at new t keeps w) cut.1)
  ]

-- ---- within a piece

-- the edge that was come to is told
pub edge_told : (edge : Option ℕ) (first mid : Following) (es : List Edge) (found : Found) (status : Status) (W : List ℕ → Type 0) → ComesTo edge first es found mid
    → status ≡ edge_status mid.bus found.edge → OfTrace mid.bus mid.marks (λ k. W (why_text (mid.judged + 1) mid.bus k found.edge)) → TellsEdge edge first es status W
edge_told edge first mid es found status W here ends block = record {
  front = here.front;
  e = found.edge;
  rest = here.rest;
  split = here.split;
  asked = here.asked;
  ends = ends ∙ ap (λ s. edge_status s found.edge) here.follows.bus;
  block = block_here first mid here.front here.follows (λ n b k. why_text (n + 1) b k found.edge) W block;
}

-- the place that was reached is told
pub place_told : (after : Option ℕ) (n : ℕ) (first mid : Following) (es : List Edge) (more : Result Bool Fault) (W : List ℕ → Type 0) → Reaches after first es mid (Some n)
    → OfTrace mid.bus mid.marks (λ k. W (stands_text mid.judged mid.bus k)) → TellsPlace after first es more W
place_told after n first mid es more W h block = record {
  front = take n es;
  rest = drop n es;
  split = sym (take-append-drop n es);
  reached = rw h.1 (ap (λ m. first.judged + m) (sym (length-take-le n es h.0)));
  block = block_here first mid (take n es) h.2 stands_text W block;
}

-- the end of the trace is told
end_told : (after : Option ℕ) (first mid : Following) (es : List Edge) (more : Result Bool Fault) (W : List ℕ → Type 0) → after ≡ None → more ≡ Ok false → Follows first es mid
    → OfTrace mid.bus mid.marks (λ k. W (stands_text mid.judged mid.bus k)) → TellsPlace after first es more W
end_told after first mid es more W none is h block = record {
  front = es;
  rest = [];
  split = sym (append-nil es);
  reached = subst (λ (a : Option ℕ). IsPlace a first.judged es [] more) (sym none) (refl, is);
  block = block_here first mid es h stands_text W block;
}

pub states_end : (after : Option ℕ) (first mid : Following) (es : List Edge) (more : Result Bool Fault) (old new : Option (List ℕ)) (r : Result Told Fault) → more ≡ Ok false
    → IsBehind after first.judged es → Follows first es mid → EndsBehind after mid old new r → StatesPiece after first es more old new mid (answered r)
states_end after first mid es more old new (Ok (Block status)) is behind h end = (end_told after first mid es more (Appends old new) end.0 is h end.2, end.1)
states_end after first mid es more old new (Ok (Beyond n)) is behind h end = (is, end.1, behind, end.0 ∙ h.judged, end.2, end.3)
states_end after first mid es more old new (Err f) is behind h end = inr (end.0, end_told after first mid es more (AppendsFront old new) end.1 is h end.2)
