-- Traces that are added up, file by file: src/sums.rt, `jobs::run_sums`.
use Rattle.std.proofs.Common.{◌≡◌, ◌==◌, ◌⊎◌, ◌∙◌, inl, inr, ℕ, ◌+◌, ◌≤◌, List, [], ◌∷◌, ◌++◌, length, take, drop, Bool, true, false, None, Result, Ok, Err, IfErr, OnErr, OnOk, refl, sym, ap, subst, arith, append-nil, take-append-drop, if◌then◌else◌}
use Rattle.std.specs.Io.KnownBytes.{Appends, Keeps}
use Rattle.std.specs.Borrow.{Bor}
use Rattle.std.proofs.KnownBytes.{Appends-nil, Appends-trans, Appends-kept}
use Rattle.std.proofs.lemmas.List.{length-map, take_all}
use Rattle.vme_model.specs.Plan.{Plan}
use Rattle.vme_model.proofs.Bools.{is_false, same_number}
use Rattle.vme_model.specs.Text.{read_of}
use Rattle.vme_scenario.specs.Errors.{IsErrorOf}
use Rattle.vme_scenario.specs.Format.{scenario as read}
use Rattle.vme_trace.specs.declared.Fault.{Fault}
use Rattle.vme_trace.specs.declared.Fault.TheVariants.{Write}
use Rattle.vme_trace.specs.Writing.{AppendsFront}
use Rattle.vme_summary.specs.declared.sums.Sums.{Sums as Totals}
use Rattle.vme_summary.specs.Tally.{Answers, refused}
use Rattle.vme_summary.specs.Sums.{Traces, sums_text, total}
use Rattle.vme_summary.specs.Summed.{AreSumsOf, OfSums}
use Rattle.vme_summary.proofs.AddedTraces.{one_more}
use Rattle.vme_reading.specs.declared.Status.{Status}
use Rattle.vme_reading.specs.declared.EngineFault.TheVariants as fault
use Rattle.vme_reading.specs.Streams.{ReadNothing, streams}
use Rattle.vme_reading.specs.Outcomes.{Answer, Lent, LentAsking, scenario_limit, status_with}
use Rattle.vme_summary.specs.Totals.{AddsInput, IsWhole}
use Rattle.vme_reading.proofs.WrittenLines.{front_behind, front_of_more}
use Rattle.vme_command_line.specs.declared.Job.{Job}
use Rattle.vme_command_line.specs.Asked.{texts_of}
use Rattle.vme_program.specs.declared.sums.Added.{Added}
use Rattle.vme_program.specs.declared.faults.ProgramFault.{ProgramFault}
use Rattle.vme_program.specs.declared.faults.ProgramFault.TheVariants.{CannotRead, Engine, SomeTraces}
use Rattle.vme_program.specs.Adding.{AddsFile, AreOf, OfAdded, SumsAll, Takes, TakesAll, TakesFile}
use Rattle.vme_program.specs.Done.{Alone, Hands, Known}
use Rattle.vme_program.specs.Names.{IsFaultOf, trace_answer_named}
use Rattle.vme_program.specs.Together.{Counted, CutsOff, IsCounted, LacksFiles, SumsFiles, answers_of, counted_line, counted_lines, some_faulty, sums_of, totals_text, traces_line}

-- a text has only one plan
plan_or : {E : Type 0} → Plan → Result Plan E → Plan
plan_or other (Ok p) = p
plan_or other (Err e) = other

pub plan_is : {E : Type 0} (r : Result Plan E) (p q : Plan) → r ≡ Ok p → r ≡ Ok q → p ≡ q
unfolding plan_or
plan_is r p q one two = ap (plan_or p) (sym one ∙ two)

-- ---- one more file

pub file_added : (text : List ℕ) (scenario trace : Bor (List ℕ)) (old new : Totals) (from to : Known) (answer : Answer)
    → LentAsking text (ReadNothing (streams from to None None)) (AddsInput (streams from to None None) old new) answer
    → IfErr answer (λ _. new ≡ old)
    → (p : Plan) → length text ≤ scenario_limit → read text ≡ Ok p → AddsFile trace.now old new (trace_answer_named scenario trace answer) p
file_added text scenario trace old new from to (Ok status) h kept p short is =
    (h.3.0, h.3.2.0, subst (λ (q : Plan). IsWhole q (read_of h.3.0) h.3.2.0) (plan_is (read text) h.0 p h.2 is) h.3.2.1, h.3.2.3, h.3.2.4)
file_added text scenario trace old new from to (Err fault.CannotRead) h kept p short is = absurd h
file_added text scenario trace old new from to (Err fault.TooLong) h kept p short is = absurd (let long = h.0 in omega (arith, long, short))
file_added text scenario trace old new from to (Err (fault.Scenario e)) h kept p short is = (kept, subst (λ r. IsErrorOf r e) is h.1)
file_added text scenario trace old new from to (Err (fault.Trace f)) h kept p short is = (kept, (refl, h.3.0, from, to, h.3.2))
file_added text scenario trace old new from to (Err (fault.Beyond edges)) h kept p short is = absurd h.3.2
file_added text scenario trace old new from to (Err fault.NoMemory) h kept p short is = (kept, tt)

-- a file that does not open
pub file_missing : (trace : Bor (List ℕ)) (f : ProgramFault) → (f ≡ CannotRead trace) ⊎ (f ≡ Engine fault.NoMemory) → (p : Plan) → IsCounted p trace.now (Err f)
file_missing trace f why p = elim why [
  | inl is ↦ subst (λ (g : ProgramFault). IsCounted p trace.now (Err g)) (sym is) refl
  | inr is ↦ subst (λ (g : ProgramFault). IsCounted p trace.now (Err g)) (sym is) tt
]

-- ---- all files

pub none_added : (p : Plan) (a : Known) (now : Added) → AreSumsOf [] now.sums → now.traces ≡ 0 → now.faulty ≡ false → TakesAll [] a a (Ok now) p
none_added p a now sums traces faulty = ([], record { counted = tt; named = refl }, Appends-nil a, (record { sums = sums; traces = traces }, faulty))

-- what the files so far came to, with one more
of_next : (name : List ℕ) (found : Result Answers ProgramFault) (cs : List Counted) (old new : Added) → AreOf cs old → Takes old found new → AreOf (record { name = name; found = found } ∷ cs) new
of_next name (Ok t) cs old new so takes = (
  record {
    sums = takes.0 (answers_of cs) so.0.sums;
    traces = takes.1 ∙ one_more (λ x. 1) t (answers_of cs) old.traces 1 so.0.traces refl;
  },
  takes.2 ∙ so.1,
)
of_next name (Err f) cs old new so takes = (
  record {
    sums = subst (λ (s : Totals). AreSumsOf (answers_of cs) s) (sym takes.0) so.0.sums;
    traces = takes.1 ∙ so.0.traces;
  },
  takes.2,
)

module _ (p : Plan) (names : List (List ℕ)) (i : ℕ) (name : List ℕ) (now : Added) (a b c : Known) (next : take (i + 1) names ≡ take i names ++ name ∷ [])
    (so_far : TakesAll (take i names) a b (Ok now) p) where
  -- one more file
  pub one_added : (now' : Added) → TakesFile name now now' b c (Ok tt) p → TakesAll (take (i + 1) names) a c (Ok now') p
  one_added now' f = (
    record { name = name; found = f.0 } ∷ so_far.0,
    record {
      counted = (f.1, so_far.1.counted);
      named = ap (λ l. l ++ name ∷ []) so_far.1.named ∙ sym next;
    },
    Appends-trans a b c (counted_lines so_far.0) (counted_line name f.0) so_far.2 f.3,
    of_next name f.0 so_far.0 now now' so_far.3 f.2,
  )

  -- its line could not be written
  pub one_cut : (now' : Added) (f : Fault) → TakesFile name now now' b c (Err f) p → TakesAll names a c (Err f) p
  one_cut now' f h = (
    h.3.0,
    record { name = name; found = h.0 } ∷ so_far.0,
    drop (i + 1) names,
    (h.1, so_far.1.counted),
    sym (take-append-drop (i + 1) names) ∙ ap (λ l. l ++ drop (i + 1) names) (next ∙ ap (λ l. l ++ name ∷ []) (sym so_far.1.named)),
    front_behind a b c (counted_lines so_far.0) (counted_line name h.0) so_far.2 h.3.1,
  )

pub all_added : (p : Plan) (traces : List (Bor (List ℕ))) (i : ℕ) (now : Added) (a b : Known) → length traces ≤ i → TakesAll (take i (texts_of traces)) a b (Ok now) p
    → TakesAll (texts_of traces) a b (Ok now) p
all_added p traces i now a b beyond h =
    let size : length (texts_of traces) ≤ i = let is = length-map traces (λ (word : Bor (List ℕ)). word.now) in omega (arith, is, beyond) in
    subst (λ (l : List (List ℕ)). TakesAll l a b (Ok now) p) (take_all i (texts_of traces) size) h

-- ---- the sums

-- how many traces there are, and their sums
totals : Plan → Traces → ℕ → List ℕ
totals p ts n = if n == 0 then [] else traces_line n ++ sums_text p ts

none_shown : (a : Known) (p : Plan) (ts : Traces) (n : ℕ) → (n == 0) ≡ true → Appends a a (totals p ts n)
unfolding totals
none_shown a p ts n none = rw none (Appends-nil a)

pub no_totals : (p : Plan) (a : Known) (now : Added) → now.traces ≡ 0 → OfAdded now (λ ts. Appends a a (totals_text p ts))
unfolding totals
no_totals p a now none ts are = subst (λ n. Appends a a (totals p ts n)) are.traces (none_shown a p ts now.traces (ap (λ n. n == 0) none))

some_shown : (P : List ℕ → Type 0) (p : Plan) (ts : Traces) (n : ℕ) → (n == 0) ≡ false → P (traces_line n ++ sums_text p ts) → P (totals p ts n)
unfolding totals
some_shown P p ts n some h = rw some h

module _ (p : Plan) (a b : Known) (now : Added) (counted : now.traces ≡ 0 → ⊥) where
  some : (now.traces == 0) ≡ false
  some = is_false (now.traces == 0) (λ h. counted (same_number now.traces 0 h))

  pub count_cut : AppendsFront a b (traces_line now.traces) → OfAdded now (λ ts. AppendsFront a b (totals_text p ts))
  unfolding totals
  count_cut front ts are =
      subst (λ n. AppendsFront a b (totals p ts n)) are.traces (some_shown (AppendsFront a b) p ts now.traces some (front_of_more a b (traces_line now.traces) (sums_text p ts) front))

  pub totals_written : (c : Known) (r : Result (Unit {0}) Fault) → Appends a b (traces_line now.traces) → OnOk r (OfSums now.sums (λ ts. Appends b c (sums_text p ts)))
      → OnOk r (OfAdded now (λ ts. Appends a c (totals_text p ts)))
  unfolding totals
  totals_written c (Err f) first rest = tt
  totals_written c (Ok u) first rest = λ ts are.
      subst (λ n. Appends a c (totals p ts n)) are.traces (some_shown (Appends a c) p ts now.traces some (Appends-trans a b c (traces_line now.traces) (sums_text p ts) first (rest ts are.sums)))

  pub totals_cut : (c : Known) (r : Result (Unit {0}) Fault) → Appends a b (traces_line now.traces) → OnErr r (OfSums now.sums (λ ts. AppendsFront b c (sums_text p ts)))
      → OnErr r (OfAdded now (λ ts. AppendsFront a c (totals_text p ts)))
  unfolding totals
  totals_cut c (Ok u) first rest = tt
  totals_cut c (Err f) first rest = λ ts are.
      subst (λ n. AppendsFront a c (totals p ts n)) are.traces (some_shown (AppendsFront a c) p ts now.traces some
      (front_behind a b c (traces_line now.traces) (sums_text p ts) first (rest ts are.sums)))

-- a line could not be written
pub lines_cut : (p : Plan) (names : List (List ℕ)) (a b : Known) (f : Fault) → TakesAll names a b (Err f) p → SumsAll names a b (Err f) p
lines_cut p names a b f h = (h.0, (h.1, h.2, h.3, h.4, inl h.5))

module _ (p : Plan) (names : List (List ℕ)) (a b : Known) (now : Added) (taken : TakesAll names a b (Ok now) p) where
  -- the sums could not be written
  whole_cut : (to : Known) → AppendsFront a to (sums_of p taken.0) → CutsOff names a to p
  whole_cut to front = (taken.0, [], taken.1.counted, sym taken.1.named ∙ sym (append-nil _), inr (refl, front))

  all_written : (c d : Known) → OfAdded now (λ ts. Appends b c (totals_text p ts)) → Keeps c d → Appends a d (sums_of p taken.0)
  all_written c d wrote kept = Appends-kept a c d (sums_of p taken.0) (Appends-trans a b c (counted_lines taken.0) (totals_text p (answers_of taken.0)) taken.2
      (wrote (answers_of taken.0) taken.3.0)) kept

pub sums_cut : (p : Plan) (names : List (List ℕ)) (a b c : Known) (now : Added) → TakesAll names a b (Ok now) p → (f : Fault) → f ≡ Write → OfAdded now (λ ts. AppendsFront b c (totals_text p ts))
    → SumsAll names a c (Err f) p
sums_cut p names a b c now taken f is front =
    (is, whole_cut p names a b now taken c (front_behind a b c (counted_lines taken.0) (totals_text p (answers_of taken.0)) taken.2 (front (answers_of taken.0) taken.3.0)))

pub flush_cut : (p : Plan) (names : List (List ℕ)) (a b c d : Known) (now : Added) → TakesAll names a b (Ok now) p → OfAdded now (λ ts. Appends b c (totals_text p ts)) → Keeps c d → (f : Fault)
    → f ≡ Write → SumsAll names a d (Err f) p
flush_cut p names a b c d now taken wrote kept f is =
    (is, whole_cut p names a b now taken d (sums_of p taken.0, [], sym (append-nil _), all_written p names a b now taken c d wrote kept))

pub sums_written : (p : Plan) (names : List (List ℕ)) (a b c d : Known) (now : Added) → TakesAll names a b (Ok now) p → OfAdded now (λ ts. Appends b c (totals_text p ts)) → Keeps c d
    → SumsAll names a d (Ok now) p
sums_written p names a b c d now taken wrote kept = (taken.0, taken.1, all_written p names a b now taken c d wrote kept, taken.3)

-- ---- the job

-- a fault that names no file
pub some_fault : (job : Job) (r : Result Status ProgramFault) → IfErr r (λ f. f ≡ SomeTraces) → IfErr r (IsFaultOf job)
some_fault job (Ok status) h = tt
some_fault job (Err f) h = subst (IsFaultOf job) (sym h) tt

module _ (text : List ℕ) (names : List (List ℕ)) (old new : Known) (Stops : List ℕ → Fault → Type 0) (p : Plan) (plan : (length text ≤ scenario_limit) × (read text ≡ Ok p)) where
  abbrev Does : Result Status ProgramFault → (ProgramFault → Type 0) → Type 0
  Does r Fails = Hands (Alone (λ (answer : Answer). (t : List ℕ) × Lent t (Keeps old new) (SumsFiles names old new) answer)) Stops Fails (Keeps old new) r

  -- the output cannot be written
  pub job_cut : (Fails : ProgramFault → Type 0) (f : Fault) → SumsAll names old new (Err f) p → Does (Err (Engine (fault.Trace f))) Fails
  job_cut Fails f h = inl (text, (p, plan.0, plan.1, h))

  -- all files were read
  pub job_done : (Fails : ProgramFault → Type 0) → (LacksFiles names old new → Fails SomeTraces) → (now : Added) (r : Result Status ProgramFault) → SumsAll names old new (Ok now) p
      → OfSums now.sums (λ ts. r ≡ (if now.faulty then Err SomeTraces else Ok (status_with (total refused ts)))) → Does r Fails
  job_done Fails fails now r h status =
      by now.faulty (some_faulty h.0) h.3.1 refl (status (answers_of h.0) h.3.0.sums)
    where
      by : (x y : Bool) → x ≡ y → some_faulty h.0 ≡ y → r ≡ (if x then Err SomeTraces else Ok (status_with (total refused (answers_of h.0)))) → Does r Fails
      by true y is faulty ends = subst (λ (r : Result Status ProgramFault). Does r Fails) (sym ends) (fails (text, p, plan.0, plan.1, h.0, h.1, faulty ∙ sym is, h.2))
      by false y is faulty ends = subst (λ (r : Result Status ProgramFault). Does r Fails) (sym ends) (text, (p, plan.0, plan.1, (h.0, h.1, faulty ∙ sym is, h.2, refl)))
