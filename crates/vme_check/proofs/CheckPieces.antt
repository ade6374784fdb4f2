-- A check of a trace: src/checks.rt.
use Rattle.std.proofs.Common.{◌≡◌, inl, ℕ, ◌+◌, ◌≤◌, List, [], ◌∷◌, ◌++◌, length, Bool, false, Option, Some, None, Result, Ok, Err, refl, sym, ◌∙◌, ap, append-nil, subst, arith, reverse}
use Rattle.std.proofs.Math.ListN.{length-append}
use Rattle.std.proofs.lemmas.List.{length-reverse}
use Rattle.std.specs.Prelude.{◌-◌}
use Rattle.std.specs.Io.KnownBytes.{Appends, Keeps}
use Rattle.vme_model.specs.declared.signals.Version.{Version}
use Rattle.vme_model.specs.declared.signals.Edge.{Edge}
use Rattle.vme_model.specs.declared.deliveries.Delivery.{Delivery}
use Rattle.vme_model.specs.declared.refusals.Refused.{Refused}
use Rattle.vme_model.specs.Plan.{Plan}
use Rattle.vme_model.specs.Verdict.{State, Judgement, verdict, after, kept, IsLegal}
use Rattle.vme_model.specs.Safe.{IsSafe}
use Rattle.vme_model.specs.Deliveries.{delivery, with_delivery}
use Rattle.vme_bus.specs.Answers.{answers}
use Rattle.vme_model.specs.Text.{Reading, read_of}
use Rattle.vme_model.specs.Report.{trace_limit}
use Rattle.vme_trace.specs.declared.Fault.{Fault}
use Rattle.vme_trace.specs.declared.Fault.TheVariants.{Header, Line, TooLong, CutOff, Read, Memory, Failed, Write}
use Rattle.vme_reading.specs.declared.Status.{Status}
use Rattle.vme_reading.specs.declared.EngineFault.{EngineFault}
use Rattle.vme_reading.specs.declared.EngineFault.TheVariants as fault
use Rattle.vme_check.specs.declared.checks.Finding.{Finding}
use Rattle.vme_check.specs.declared.checks.Finding.TheVariants.{Legal, Illegal}
use Rattle.vme_reading.specs.Streams.{streams, ReadNothing, WroteNothing}
use Rattle.vme_reading.specs.Outcomes.{Answer, LentAsking, bench}
use Rattle.vme_reading.specs.Refusals.{or_refusal, first_refusal, refusal_of}
use Rattle.vme_check.specs.Checking.{finding_line, finding_status, IsFound, FindsNothing, Finds, ChecksInput}
use Rattle.vme_reading.specs.LegalTraces.{IsLegalTrace}
use Rattle.vme_check.specs.Unrefused.{AreAccepted, first_refused_of}
use Rattle.vme_reading.proofs.WrittenLines.{kept_append}
use Rattle.vme_reading.proofs.FirstRefusals.{refusal_behind, refusal_stays, all_kept}
use Rattle.vme_reading.specs.Pieces.{Came}
use Rattle.vme_reading.specs.Readings.{LeavesNow, ReadsInput, ReadsLent}
use Rattle.vme_reading.proofs.ReadOn.{came_begins}
use Rattle.vme_reading.proofs.Waits.{waits_now}

-- ---- the first refusal among answers

refusal_more : (n : ℕ) (j : Judgement) (d : Option Delivery) (later : Option (ℕ × Refused)) (xs : List (Result (Option Delivery) Refused)) → later ≡ first_refused_of (n + 1) xs
    → or_refusal n j later ≡ first_refused_of n (with_delivery j d ∷ xs)
refusal_more n (Ok u) d later xs h = h
refusal_more n (Err refused) d later xs h = refl

-- the first refusal among edges is that among the answers to them
pub refusals_are : (n : ℕ) (b : State) (es : List Edge) → first_refusal n b es ≡ first_refused_of n (answers b es)
refusals_are n b [] = refl
refusals_are n b (e ∷ es) = refusal_more n (verdict b e) (delivery b.plan b.history e) _ (answers (after b e) es) (refusals_are (n + 1) (after b e) es)

-- ---- chunk by chunk

-- In the loop over the edges: none of those before the rest is refused.
pub record HasPassed (first : State) (n : ℕ) (es : List Edge) (now : State) (m : ℕ) (rest : List Edge) : Type 0 where
  pub refusals : first_refusal n first es ≡ first_refusal m now rest
  pub state : kept first es ≡ kept now rest

module _ (first now : State) (n m : ℕ) (es rest chunk behind : List Edge) (split : rest ≡ chunk ++ behind) (run : HasPassed first n es now m rest)
    (found : Option (ℕ × Refused)) (xs : List (Result (Option Delivery) Refused)) (all : xs ≡ answers now chunk) (is : found ≡ first_refused_of m xs) where
  in_both : first_refusal n first es ≡ first_refusal m now (chunk ++ behind)
  in_both = run.refusals ∙ ap (first_refusal m now) split

  in_chunk : first_refusal m now chunk ≡ found
  in_chunk = refusals_are m now chunk ∙ ap (first_refused_of m) (sym all) ∙ sym is

  -- an edge of the next chunk is refused
  pub passed_refused : (x : ℕ × Refused) → found ≡ Some x → Some x ≡ first_refusal n first es
  passed_refused x refused = sym (in_both ∙ refusal_stays m now chunk behind x (in_chunk ∙ refused))

  -- none of them is refused
  pub passed_more : found ≡ None → (next : State) → next ≡ kept now chunk → (later : ℕ) → later ≡ m + length chunk → HasPassed first n es next later behind
  passed_more none next stepped later number = record {
    refusals = in_both ∙ refusal_behind m now chunk behind (in_chunk ∙ none) ∙ ap (λ s. first_refusal (m + length chunk) s behind) (sym stepped) ∙ ap (λ i. first_refusal i next behind) (sym number);
    state = run.state ∙ ap (kept now) split ∙ kept_append now chunk behind ∙ ap (λ s. kept s behind) (sym stepped);
  }

-- ---- a whole check

refusal_known : (p : Plan) (v : Version) (es : List Edge) (w : Option Version) → w ≡ Some v → refusal_of p w es ≡ first_refusal 1 (bench p v) es
refusal_known p v es w e = rw e refl

module _ (p : Plan) (v : Version) (before es : List Edge) (b : State) (n : ℕ) (run : AreAccepted p v before b n) where
  -- the first refusal in a piece is that of all edges
  refusal_is : first_refusal 1 (bench p v) (before ++ es) ≡ first_refusal (n + 1) b es
  refusal_is =
      refusal_behind 1 (bench p v) before es run.unrefused
      ∙ ap (λ s. first_refusal (1 + length before) s es) (sym run.bus) ∙ ap (λ m. first_refusal m b es) (let is = run.judged in omega (arith, is))

  pub all_accepted : (next : State) (m : ℕ) → None ≡ first_refusal (n + 1) b es → next ≡ kept b es → m ≡ n + length es → AreAccepted p v (before ++ es) next m
  all_accepted next m none stepped count = record {
    unrefused = refusal_is ∙ sym none;
    bus = stepped ∙ ap (λ s. kept s es) run.bus ∙ sym (kept_append (bench p v) before es);
    judged = count ∙ ap (λ k. k + length es) run.judged ∙ sym (length-append before es);
  }

  -- an edge of the piece is the first that is refused
  pub finds_refused : (more : Result Bool Fault) (old new : Option (List ℕ)) (k : ℕ) (refused : Refused) → Some (k, refused) ≡ first_refusal (n + 1) b es
      → LeavesNow (Finds p) v (before ++ es) more old new (Ok (Illegal k refused))
  finds_refused more old new k refused is = λ trace from to came.
      let begins = came_begins v trace from to (before ++ es) more came in
      refusal_known p v (read_of trace).edges (read_of trace).version begins.version ∙ ap (first_refusal 1 (bench p v)) begins.edges
      ∙ refusal_stays 1 (bench p v) (before ++ es) begins.others (k, refused) (refusal_is ∙ sym is)

module _ (p : Plan) (v : Version) (es : List Edge) (more : Result Bool Fault) (old new : Option (List ℕ)) (b : State) (n : ℕ) (run : AreAccepted p v es b n) where
  -- at the end of the trace all edges are legal
  legal_trace : (r : Reading) → r.version ≡ Some v → r.edges ≡ es → r.fault ≡ None → IsLegal b.version b.plan b.history → IsSafe b.plan b.history → length b.history ≤ b.max
      → IsLegalTrace p r
  legal_trace r named edges whole legal safe fits =
      let is : b ≡ record (bench p v) { history = reverse r.edges } =
      run.bus ∙ all_kept 1 (bench p v) es run.unrefused ∙ ap (λ l. record (bench p v) { history = l }) (append-nil (reverse es))
      ∙ ap (λ l. record (bench p v) { history = reverse l }) (sym edges) in
      let few : length (reverse r.edges) ≤ trace_limit = subst (λ (s : State). length s.history ≤ s.max) is fits in
      record {
        version = v;
        named = named;
        whole = whole;
        unrefused = refusal_known p v r.edges r.version named ∙ ap (first_refusal 1 (bench p v)) edges ∙ run.unrefused;
        legal = subst (λ (s : State). IsLegal s.version s.plan s.history) is legal;
        safe = subst (λ (s : State). IsSafe s.plan s.history) is safe;
        fits = rw (length-reverse r.edges) at few;
      }

  pub finds_legal : more ≡ Ok false → IsLegal b.version b.plan b.history → IsSafe b.plan b.history → length b.history ≤ b.max → LeavesNow (Finds p) v es more old new (Ok (Legal n))
  finds_legal is legal safe fits = λ trace from to came.
      let end : Came v trace from to es (Ok false) = subst (Came v trace from to es) is came in
      (legal_trace (read_of trace) end.0.version end.1 end.2 legal safe fits, run.judged ∙ ap length (sym end.1), end.3)

  -- a fault of the trace
  pub finds_stop : (f : Fault) → more ≡ Err f → LeavesNow (Finds p) v es more old new (Err f)
  finds_stop f is = λ trace from to came.
      waits_now (λ w fs. refusal_of p w fs ≡ None) v trace (streams from to old new) es more came run.unrefused f is

-- ---- what was found is written

-- nothing that is found depends on the writer
module _ (p : Plan) (trace : List ℕ) (from to old new : Option (List ℕ)) where
  found_so : (found : Finding) → IsFound p (read_of trace) (streams from to None None) found → IsFound p (read_of trace) (streams from to old new) found
  found_so (Legal edges) h = h
  found_so (Illegal n refused) h = h

  nothing_so : (f : Fault) → FindsNothing p trace (streams from to None None) f → FindsNothing p trace (streams from to old new) f
  nothing_so Header h = h
  nothing_so (Line n) h = h
  nothing_so (TooLong n) h = h
  nothing_so CutOff h = h
  nothing_so Read h = h
  nothing_so Memory h = h
  nothing_so Failed h = h
  nothing_so Write h = h

module _ (text : List ℕ) (from to old new : Option (List ℕ)) where
  abbrev FindsIn : Result Finding EngineFault → Type 0
  FindsIn r = ReadsLent text (ReadNothing (streams from to None None)) (λ p. ReadsInput (Finds p) (streams from to None None)) r

  abbrev ChecksIn : Answer → Type 0
  ChecksIn r = LentAsking text (ReadNothing (streams from to old new) × WroteNothing (streams from to old new)) (ChecksInput (streams from to old new)) r

  -- nothing is found, and nothing is written
  pub check_unfound : (f : EngineFault) → Keeps old new → FindsIn (Err f) → ChecksIn (Err f)
  check_unfound fault.TooLong kept_so h = (h.0, (h.1, kept_so))
  check_unfound (fault.Scenario e) kept_so h = (h.0, h.1, (h.2, kept_so))
  check_unfound (fault.Trace f) kept_so h = (h.0, h.1, h.2, (h.3.0, h.3.1, inl (nothing_so h.0 h.3.0 from to old new f h.3.2, kept_so)))
  check_unfound fault.CannotRead kept_so h = absurd h
  check_unfound fault.NoMemory kept_so h = (h.0, h.1, h.2, (h.3, kept_so))
  check_unfound (fault.Beyond n) kept_so h = absurd h

  -- the line is written, or a front of it
  pub check_done : (found : Finding) (status : Status) → FindsIn (Ok found) → status ≡ finding_status found → Appends old new (finding_line found) → ChecksIn (Ok status)
  check_done found status h ends wrote = (h.0, h.1, h.2, (h.3.0, h.3.1, (found, found_so h.0 h.3.0 from to old new found h.3.2, ends, wrote)))
