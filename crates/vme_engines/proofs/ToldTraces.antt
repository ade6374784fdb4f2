-- What is told of the whole trace.
use Rattle.std.proofs.Common.{◌≡◌, inl, inr, ℕ, ◌+◌, ◌≤◌, List, [], ◌∷◌, ◌++◌, length, take, Bool, false, Option, Some, None, Result, Ok, Err, is_ok, refl, sym, ◌∙◌, ap, subst, arith, append_assoc, append-nil}
use Rattle.std.specs.Prelude.{slice_get}
use Rattle.std.proofs.Math.ListN.{length-append}
use Rattle.std.proofs.Math.Seq.{take-append_seam}
use Rattle.std.specs.Io.KnownBytes.{Keeps, Appends}
use Rattle.vme_model.specs.declared.refusals.Refused.{Refused}
use Rattle.vme_model.specs.declared.signals.Version.{Version}
use Rattle.vme_model.specs.declared.signals.Edge.{Edge}
use Rattle.vme_model.specs.Plan.{Plan}
use Rattle.vme_model.specs.Verdict.{State, Judgement, verdict, after, kept}
use Rattle.vme_model.specs.Text.{read_of}
use Rattle.vme_model.specs.Numbered.{Numbered, numbered_on, numbered}
use Rattle.vme_model.specs.Why.{why_text}
use Rattle.vme_model.specs.Stands.{stands_text}
use Rattle.vme_explain.specs.Marked.{IsMarksOf}
use Rattle.vme_scenario.specs.Format.{scenario}
use Rattle.vme_trace.specs.declared.Fault.{Fault}
use Rattle.vme_trace.specs.Writing.{AppendsFront}
use Rattle.vme_engines.specs.declared.Status.{Status}
use Rattle.vme_engines.specs.declared.following.Following.{Following}
use Rattle.vme_engines.specs.declared.following.Told.{Told}
use Rattle.vme_engines.specs.declared.following.Told.TheVariants.{Block, Beyond}
use Rattle.vme_engines.specs.declared.EngineFault.TheVariants as fault
use Rattle.vme_engines.specs.declared.checks.Finding.TheVariants.{Legal}
use Rattle.vme_engines.specs.Streams.{Streams}
use Rattle.vme_engines.specs.Outcomes.{Answer, LentAsking, scenario_limit, bench}
use Rattle.vme_engines.specs.Checking.{or_refusal, first_refusal, refusal_of, finding_line}
use Rattle.vme_engines.specs.Explaining.{IsAsked, IsUnasked, edge_status, IsExplained, IsAllLegal, IsTold, Explains, ExplainsInput}
use Rattle.vme_engines.specs.Stating.{IsReached, IsAhead, IsStated, States, StatesInput}
use Rattle.vme_engines.specs.Steps.{Begins}
use Rattle.vme_engines.specs.Pieces.{Came, Answers, answered}
use Rattle.vme_engines.specs.Begun.{IsUnbegun}
use Rattle.vme_explain.specs.Traced.{OfTrace}
use Rattle.vme_engines.specs.Followed.{told_answer, IsNext, IsMissing, TellsEdge, TellsLegal, Tells, ExplainsPiece, IsPlace, IsBehind, TellsPlace, StatesPiece}
use Rattle.vme_engines.proofs.ReadOn.{came_begins}
use Rattle.vme_engines.proofs.Waits.{stops_waiting, waits_unbegun}
use Rattle.vme_engines.proofs.CheckPieces.{refusal_behind}

-- ---- the edges before a place

slice_at : (front rest : List Edge) (e : Edge) → slice_get (front ++ (e ∷ rest)) (length front) ≡ Some e
slice_at [] rest e = refl
slice_at (d ∷ front) rest e = slice_at front rest e

module _ (all es front rest others : List Edge) (begins : all ≡ es ++ others) (split : es ≡ front ++ rest) where
  whole_is : all ≡ front ++ (rest ++ others)
  whole_is = begins ∙ ap (λ l. l ++ others) split ∙ append_assoc front rest others

  pub front_taken : take (length front) all ≡ front
  front_taken = ap (take (length front)) whole_is ∙ take-append_seam front (rest ++ others)

  pub front_short : length front ≤ length all
  front_short = let is = ap length whole_is in let both = length-append front (rest ++ others) in omega (arith, is, both)

-- what was followed from the first edge on tells of the numbered edges
module _ (p : Plan) (v : Version) (f : Following) (is : f.bus ≡ bench p v) (zero : f.judged ≡ 0) (marks : (q : Plan) → IsMarksOf q [] f.marks) where
  pub text_of : (T : ℕ → State → Numbered → List ℕ) (W : List ℕ → Type 0) (front : List Edge)
      → OfTrace f.bus f.marks (λ k. W (T (f.judged + length front) (kept f.bus front) (numbered_on f.bus f.judged k front)))
      → W (T (length front) (kept (bench p v) front) (numbered (bench p v) front))
  text_of T W front h =
      let nothing : [] ≡ f.bus.history = sym (ap (λ b. b.history) is) in
      let count : 0 + length front ≡ length front = omega arith in
      subst (λ (n : ℕ). W (T n (kept (bench p v) front) (numbered_on (bench p v) 0 [] front))) count
      (subst (λ (n : ℕ). W (T (n + length front) (kept (bench p v) front) (numbered_on (bench p v) n [] front))) zero
      (subst (λ (b : State). W (T (f.judged + length front) (kept b front) (numbered_on b f.judged [] front))) is (h [] nothing (marks f.bus.plan))))

-- ---- state

module _ (p : Plan) (v : Version) (all : List ℕ) (s : Streams) (es : List Edge) (begins : Begins (read_of all) v es) (f : Following) (is : f.bus ≡ bench p v) (zero : f.judged ≡ 0) (marks : (q : Plan) → IsMarksOf q [] f.marks) where
  reached_is : (place : Option ℕ) (front rest : List Edge) (more : Result Bool Fault) → es ≡ front ++ rest → IsPlace place f.judged front rest more → Came v [] all s.from s.to es more
      → IsReached place (read_of all) s (length front)
  reached_is (Some n) front rest more split h came = (let none = zero in omega (arith, h, none), front_short (read_of all).edges es front rest begins.others begins.edges split)
  reached_is None front rest more split h came =
      let end : Came v [] all s.from s.to es (Ok false) = subst (Came v [] all s.from s.to es) h.1 came in
      let same : es ≡ front = split ∙ ap (λ l. front ++ l) h.0 ∙ append-nil front in
      (ap length (sym same ∙ sym end.1), end.2, end.3)

  stated : (place : Option ℕ) (more : Result Bool Fault) (W : List ℕ → Type 0) → Came v [] all s.from s.to es more → TellsPlace place f es more W
      → (text : List ℕ) × IsStated place p (read_of all) s text × W text
  stated place more W came t =
      let taken : take (length t.front) (read_of all).edges ≡ t.front = front_taken (read_of all).edges es t.front t.rest begins.others begins.edges t.split in (
        stands_text (length t.front) (kept (bench p v) t.front) (numbered (bench p v) t.front),
        record {
          version = v;
          named = begins.version;
          n = length t.front;
          reached = reached_is place t.front t.rest more t.split t.reached came;
          block = ap (λ l. stands_text (length t.front) (kept (bench p v) l) (numbered (bench p v) l)) (sym taken);
        },
        text_of p v f is zero marks stands_text W t.front t.block,
      )

  ahead : (place : Option ℕ) → IsBehind place f.judged es → IsAhead place (Some v) es
  ahead (Some n) h = let none = zero in let high = h n refl (omega (arith, none)) in omega (arith, none, high)
  ahead None h = tt

  pub states_so : (place : Option ℕ) (more : Result Bool Fault) (now : Following) (r : Result Told Fault) → Came v [] all s.from s.to es more → StatesPiece place f es more s.old s.new now (answered r)
      → States place p all s (told_answer r)
  states_so place more now (Ok (Block status)) came h =
      let t = stated place more (Appends s.old s.new) came h.0 in (t.0, t.1, t.2, h.1)
  states_so place more now (Ok (Beyond n)) came h =
      let end : Came v [] all s.from s.to es (Ok false) = subst (Came v [] all s.from s.to es) h.0 came in
      let none = zero in
      let count : n ≡ f.judged + length es = h.3 in
      let high = h.2 h.4 h.5 (omega (arith, none)) in
      let all_of : n ≡ length es = omega (arith, none, count) in
      (h.4, h.5, omega (arith, none, count, high), end.2, all_of ∙ ap length (sym end.1), end.3, h.1)
  states_so place more now (Err g) came h = elim h [
    | inl waits ↦ (let end : Came v [] all s.from s.to es (Err g) = subst (Came v [] all s.from s.to es) waits.0 came in
        inl (stops_waiting (IsAhead place) v all s es begins (ahead place waits.2) g end.1, waits.1))
    | inr cut ↦ (let t = stated place more (AppendsFront s.old s.new) came cut.1 in inr (cut.0, t.0, t.1, t.2))
  ]

pub states_all : {S : Type 0} (state : S → Following) (kept_so : S → Type 0) (p : Plan) (v : Version) (all : List ℕ) (s : Streams) (place : Option ℕ) (f : Following) (r : Result Told Fault) → f.bus ≡ bench p v → f.judged ≡ 0
    → ((q : Plan) → IsMarksOf q [] f.marks) → Answers (λ es more old new (now : S) a. kept_so now × StatesPiece place f es more old new (state now) a) v [] all s r → States place p all s (told_answer r)
states_all state kept_so p v all s place f r is zero marks h =
    states_so p v all s h.0 (came_begins v [] all s.from s.to h.0 h.1 h.3) f is zero marks place h.1 (state h.2) r h.3 h.4.1

waiting_states : (place : Option ℕ) → IsAhead place None []
waiting_states (Some n) = tt
waiting_states None = tt

pub states_unbegun : (p : Plan) (s : Streams) (place : Option ℕ) (f : Fault) → Keeps s.old s.new → IsUnbegun s.from s.to f → StatesInput place s p (Err (fault.Trace f))
states_unbegun p s place f kept h = let t = waits_unbegun (IsAhead place) (waiting_states place) s f h in (t.0, t.1, inl (t.2, kept))

-- ---- explain

refusal_known : (p : Plan) (v : Version) (es : List Edge) (w : Option Version) → w ≡ Some v → refusal_of p w es ≡ first_refusal 1 (bench p v) es
refusal_known p v es w e = rw e refl

refused_by : (j : Judgement) → is_ok j ≡ false → (r : Refused) × (j ≡ Err r)
refused_by (Ok u) h = absurd cc
refused_by (Err r) h = (r, refl)

-- the first that is refused, behind those that are not
first_behind : (b : State) (front rest : List Edge) (e : Edge) (r : Refused) → first_refusal 1 b front ≡ None → verdict (kept b front) e ≡ Err r
    → first_refusal 1 b (front ++ (e ∷ rest)) ≡ Some (length front + 1, r)
first_behind b front rest e r none is =
    refusal_behind 1 b front (e ∷ rest) none
    ∙ ap (λ j. or_refusal (1 + length front) j (first_refusal ((1 + length front) + 1) (after (kept b front) e) rest)) is
    ∙ ap (λ n. Some (n, r)) (omega arith)

module _ (p : Plan) (v : Version) (all : List ℕ) (s : Streams) (es : List Edge) (begins : Begins (read_of all) v es) (f : Following) (is : f.bus ≡ bench p v) (zero : f.judged ≡ 0) (marks : (q : Plan) → IsMarksOf q [] f.marks) where
  refusal_at : (gs : List Edge) → first_refusal (f.judged + 1) f.bus gs ≡ first_refusal 1 (bench p v) gs
  refusal_at gs = ap (λ n. first_refusal (n + 1) f.bus gs) zero ∙ ap (λ b. first_refusal 1 b gs) is

  unasked : (edge : Option ℕ) → IsMissing edge f.bus f.judged es → IsUnasked edge p (Some v) es
  unasked (Some asked) h = λ low. let none = zero in let high = h.0 asked refl (omega (arith, none, low)) in omega (arith, none, high)
  unasked None h = sym (refusal_at es) ∙ h.1 refl

  asked_is : (edge : Option ℕ) (front rest : List Edge) (e : Edge) → es ≡ front ++ (e ∷ rest) → IsNext edge f.bus f.judged front e → IsAsked edge (bench p v) (read_of all).edges (length front + 1)
  asked_is (Some asked) front rest e split h = let none = zero in omega (arith, none, h)
  asked_is None front rest e split h =
      let r = refused_by (verdict (kept f.bus front) e) h.1 in (
        r.0,
        ap (first_refusal 1 (bench p v)) (whole_is (read_of all).edges es front (e ∷ rest) begins.others begins.edges split)
            ∙ first_behind (bench p v) front (rest ++ begins.others) e r.0 (sym (refusal_at front) ∙ h.0) (ap (λ b. verdict (kept b front) e) (sym is) ∙ r.1),
      )

  explained : (edge : Option ℕ) (status : Status) (W : List ℕ → Type 0) → TellsEdge edge f es status W → (text : List ℕ) × IsExplained edge p (read_of all) status text × W text
  explained edge status W t =
      let taken : take (length t.front) (read_of all).edges ≡ t.front = front_taken (read_of all).edges es t.front (t.e ∷ t.rest) begins.others begins.edges t.split in
      let whole = whole_is (read_of all).edges es t.front (t.e ∷ t.rest) begins.others begins.edges t.split in (
        why_text (length t.front + 1) (kept (bench p v) t.front) (numbered (bench p v) t.front) t.e,
        record {
          version = v;
          named = begins.version;
          n = length t.front + 1;
          e = t.e;
          at = record { place = length t.front; number = refl; is = ap (λ l. slice_get l (length t.front)) whole ∙ slice_at t.front (t.rest ++ begins.others) t.e };
          asked = asked_is edge t.front t.rest t.e t.split t.asked;
          ends = t.ends ∙ ap (λ b. edge_status (kept b t.front) t.e) is ∙ ap (λ l. edge_status (kept (bench p v) l) t.e) (sym taken);
          block = ap (λ l. why_text (length t.front + 1) (kept (bench p v) l) (numbered (bench p v) l) t.e) (sym taken);
        },
        text_of p v f is zero marks (λ n b k. why_text (n + 1) b k t.e) W t.front t.block,
      )

  all_legal : (edge : Option ℕ) (more : Result Bool Fault) (status : Status) (W : List ℕ → Type 0) → Came v [] all s.from s.to es more → TellsLegal edge f es more status W
      → (text : List ℕ) × IsAllLegal edge p (read_of all) s status text × W text
  all_legal edge more status W came t =
      let end : Came v [] all s.from s.to es (Ok false) = subst (Came v [] all s.from s.to es) t.1 came in
      let none = zero in
      let count : f.judged + length es ≡ length (read_of all).edges = (let same : f.judged + length es ≡ length es = omega (arith, none) in same ∙ ap length (sym end.1)) in (
        finding_line (Legal (length (read_of all).edges)),
        record {
          none = t.0;
          whole = end.2;
          unrefused = refusal_known p v (read_of all).edges (read_of all).version begins.version ∙ ap (first_refusal 1 (bench p v)) end.1 ∙ sym (refusal_at es) ∙ t.2;
          read_out = end.3;
          ends = t.3;
          line = refl;
        },
        subst (λ (n : ℕ). W (finding_line (Legal n))) count t.4,
      )

  told : (edge : Option ℕ) (more : Result Bool Fault) (status : Status) (W : List ℕ → Type 0) → Came v [] all s.from s.to es more → Tells edge f es more status W
      → (text : List ℕ) × IsTold edge p (read_of all) s status text × W text
  told edge more status W came t = elim t [
    | inl one ↦ (let x = explained edge status W one in (x.0, inl x.1, x.2))
    | inr legal ↦ (let x = all_legal edge more status W came legal in (x.0, inr x.1, x.2))
  ]

  pub explains_so : (edge : Option ℕ) (more : Result Bool Fault) (now : Following) (r : Result Told Fault) → Came v [] all s.from s.to es more → ExplainsPiece edge f es more s.old s.new now (answered r)
      → Explains edge p all s (told_answer r)
  explains_so edge more now (Ok (Block status)) came h = told edge more status (Appends s.old s.new) came h
  explains_so edge more now (Ok (Beyond n)) came h =
      let end : Came v [] all s.from s.to es (Ok false) = subst (Came v [] all s.from s.to es) h.0 came in
      let none = zero in
      let count : n ≡ f.judged + length es = h.3 in
      let all_of : n ≡ length es = omega (arith, none, count) in
      (h.4, h.5, λ low. let high = h.2.0 h.4 h.5 (omega (arith, none, low)) in omega (arith, none, count, high), end.2, all_of ∙ ap length (sym end.1), end.3, h.1)
  explains_so edge more now (Err g) came h = elim h [
    | inl waits ↦ (let end : Came v [] all s.from s.to es (Err g) = subst (Came v [] all s.from s.to es) waits.0 came in
        inl (stops_waiting (IsUnasked edge p) v all s es begins (unasked edge waits.2) g end.1, waits.1))
    | inr cut ↦ (let t = told edge more cut.1 (AppendsFront s.old s.new) came cut.2 in inr (cut.0, cut.1, t.0, t.1, t.2))
  ]

pub explains_all : {S : Type 0} (state : S → Following) (kept_so : S → Type 0) (p : Plan) (v : Version) (all : List ℕ) (s : Streams) (edge : Option ℕ) (f : Following) (r : Result Told Fault) → f.bus ≡ bench p v → f.judged ≡ 0
    → ((q : Plan) → IsMarksOf q [] f.marks) → Answers (λ es more old new (now : S) a. kept_so now × ExplainsPiece edge f es more old new (state now) a) v [] all s r → Explains edge p all s (told_answer r)
explains_all state kept_so p v all s edge f r is zero marks h =
    explains_so p v all s h.0 (came_begins v [] all s.from s.to h.0 h.1 h.3) f is zero marks edge h.1 (state h.2) r h.3 h.4.1

waiting_edge : (edge : Option ℕ) (p : Plan) → IsUnasked edge p None []
waiting_edge (Some n) p = λ low. low
waiting_edge None p = refl

pub explains_unbegun : (p : Plan) (s : Streams) (edge : Option ℕ) (f : Fault) → Keeps s.old s.new → IsUnbegun s.from s.to f → ExplainsInput edge s p (Err (fault.Trace f))
explains_unbegun p s edge f kept h = let t = waits_unbegun (IsUnasked edge p) (waiting_edge edge p) s f h in (t.0, t.1, inl (t.2, kept))

-- ---- the scenario

pub lent_told : (text : List ℕ) (nothing : Type 0) (Runs : Plan → Answer → Type 0) (p : Plan) (r : Result Told Fault) → length text ≤ scenario_limit → scenario text ≡ Ok p → Runs p (told_answer r)
    → LentAsking text nothing Runs (told_answer r)
lent_told text nothing Runs p (Ok (Block status)) short is h = (p, short, is, h)
lent_told text nothing Runs p (Ok (Beyond n)) short is h = (p, short, is, h)
lent_told text nothing Runs p (Err f) short is h = (p, short, is, h)
