-- Traces that are checked, file by file: src/checks.rt, `jobs::run_checks`.
use Rattle.std.proofs.Common.{◌≡◌, ◌⊎◌, ◌∙◌, inl, inr, ℕ, ◌+◌, ◌<◌, ◌≤◌, List, [], ◌∷◌, ◌++◌, length, take, drop, get_or, Bool, true, false, None, Result, Ok, Err, OnOk, OnErr, IfErr, refl, sym, ap, subst, arith, take-append-drop, if◌then◌else◌}
use Rattle.std.specs.Io.KnownBytes.{Appends, Keeps}
use Rattle.std.specs.Borrow.{Bor}
use Rattle.std.proofs.KnownBytes.{Appends-nil, Appends-trans}
use Rattle.std.proofs.lemmas.List.{get_or-map, length-map, take_all, take_more}
use Rattle.vme_model.specs.Plan.{Plan}
use Rattle.vme_model.specs.Text.{read_of}
use Rattle.vme_scenario.specs.Errors.{IsErrorOf}
use Rattle.vme_scenario.specs.Format.{scenario as read}
use Rattle.vme_trace.specs.declared.Fault.{Fault}
use Rattle.vme_trace.specs.declared.Fault.TheVariants.{Write}
use Rattle.vme_trace.specs.Writing.{AppendsFront}
use Rattle.vme_reading.specs.declared.Status.{Status}
use Rattle.vme_reading.specs.declared.Status.TheVariants.{Done, SomeRefused}
use Rattle.vme_check.specs.declared.checks.Finding.{Finding}
use Rattle.vme_check.specs.declared.checks.Finding.TheVariants.{Legal, Illegal}
use Rattle.vme_reading.specs.declared.EngineFault.{EngineFault}
use Rattle.vme_reading.specs.declared.EngineFault.TheVariants as fault
use Rattle.vme_reading.specs.Streams.{ReadNothing, streams}
use Rattle.vme_reading.specs.Outcomes.{Answer, Lent, scenario_limit}
use Rattle.vme_check.specs.Checking.{Finds, FindsNothing, IsFound}
use Rattle.vme_reading.specs.Readings.{ReadsInput, ReadsLent}
use Rattle.vme_reading.specs.Steps.{IsNoPlan}
use Rattle.vme_reading.proofs.WrittenLines.{front_behind}
use Rattle.vme_command_line.specs.declared.Job.{Job}
use Rattle.vme_command_line.specs.Asked.{texts_of}
use Rattle.vme_program.specs.CheckedFiles.{Checked, IsChecked, ChecksFiles, HasFaulty, file_line, file_lines, some_faulty, some_illegal}
use Rattle.vme_program.specs.CheckingFiles.{ChecksAll, ChecksFile, Writes, seen_of, seen_with}
use Rattle.vme_program.specs.declared.checks.Seen.{Seen}
use Rattle.vme_program.specs.declared.faults.ProgramFault.{ProgramFault}
use Rattle.vme_program.specs.declared.faults.ProgramFault.TheVariants.{CannotRead, Engine, SomeTraces}
use Rattle.vme_program.specs.Done.{Alone, Hands, Known}
use Rattle.vme_program.specs.Names.{IsFaultOf, scenario_name, fault_named, trace_answer_named}
use Rattle.vme_program.proofs.Adding.{plan_is}

-- ---- one file

pub file_found : (text : List ℕ) (scenario trace : Bor (List ℕ)) (from to : Known) (r : Result Finding EngineFault)
    → ReadsLent text (ReadNothing (streams from to None None)) (λ q. ReadsInput (Finds q) (streams from to None None)) r
    → (p : Plan) → length text ≤ scenario_limit → read text ≡ Ok p → IsChecked p trace.now (trace_answer_named scenario trace r)
file_found text scenario trace from to (Ok found) h p short is =
    (h.3.0, from, to, subst (λ (q : Plan). IsFound q (read_of h.3.0) (streams from to None None) found) (plan_is (read text) h.0 p h.2 is) h.3.2)
file_found text scenario trace from to (Err fault.CannotRead) h p short is = absurd h
file_found text scenario trace from to (Err fault.TooLong) h p short is = absurd (let long = h.0 in omega (arith, long, short))
file_found text scenario trace from to (Err (fault.Scenario e)) h p short is = subst (λ r. IsErrorOf r e) is h.1
file_found text scenario trace from to (Err (fault.Trace f)) h p short is =
    (refl, h.3.0, from, to, subst (λ (q : Plan). FindsNothing q h.3.0 (streams from to None None) f) (plan_is (read text) h.0 p h.2 is) h.3.2)
file_found text scenario trace from to (Err (fault.Beyond edges)) h p short is = absurd h
file_found text scenario trace from to (Err fault.NoMemory) h p short is = tt

-- a file that does not open
pub file_unopened : (trace : Bor (List ℕ)) (f : ProgramFault) → (f ≡ CannotRead trace) ⊎ (f ≡ Engine fault.NoMemory) → (p : Plan) → IsChecked p trace.now (Err f)
file_unopened trace f why p = elim why [
  | inl is ↦ subst (λ (g : ProgramFault). IsChecked p trace.now (Err g)) (sym is) refl
  | inr is ↦ subst (λ (g : ProgramFault). IsChecked p trace.now (Err g)) (sym is) tt
]

pub writes : (old new : Known) (text : List ℕ) (r : Result (Unit {0}) Fault) → OnOk r (Appends old new text) → OnErr r (AppendsFront old new text) → IfErr r (λ f. f ≡ Write) → Writes old new text r
writes old new text (Ok u) all front is = all
writes old new text (Err f) all front is = (is, front)

-- ---- all files

seen_next : (name : List ℕ) (found : Result Finding ProgramFault) (cs : List Checked) → seen_with (seen_of cs) found ≡ seen_of (record { name = name; found = found } ∷ cs)
seen_next name (Ok (Legal edges)) cs = refl
seen_next name (Ok (Illegal n refused)) cs = refl
seen_next name (Err f) cs = refl

pub none_checked : (p : Plan) (a : Known) → ChecksAll [] a a (Ok (seen_of [])) p
none_checked p a = ([], record { checked = tt; named = refl; wrote = Appends-nil a }, refl)

-- the names of the first files, and of the next
pub names_next : (traces : List (Bor (List ℕ))) (i : ℕ) (d : Bor (List ℕ)) → i < length traces → take (i + 1) (texts_of traces) ≡ take i (texts_of traces) ++ (get_or traces i d).now ∷ []
names_next traces i d within =
    let among : i < length (texts_of traces) = let size = length-map traces (λ (word : Bor (List ℕ)). word.now) in omega (arith, size, within) in
    take_more (texts_of traces) i d.now among ∙ ap (λ name. take i (texts_of traces) ++ name ∷ []) (get_or-map (λ (word : Bor (List ℕ)). word.now) traces i d d.now within)

module _ (p : Plan) (names : List (List ℕ)) (i : ℕ) (name : List ℕ) (seen : Seen) (a b c : Known) (next : take (i + 1) names ≡ take i names ++ name ∷ [])
    (so_far : ChecksAll (take i names) a b (Ok seen) p) where
  -- one more file
  pub file_more : (seen' : Seen) → ChecksFile name seen seen' b c (Ok tt) p → ChecksAll (take (i + 1) names) a c (Ok seen') p
  file_more seen' f = (
    record { name = name; found = f.0 } ∷ so_far.0,
    record {
      checked = (f.1, so_far.1.checked);
      named = ap (λ l. l ++ name ∷ []) so_far.1.named ∙ sym next;
      wrote = Appends-trans a b c (file_lines so_far.0) (file_line name f.0) so_far.1.wrote f.3;
    },
    f.2 ∙ ap (λ (s : Seen). seen_with s f.0) so_far.2 ∙ seen_next name f.0 so_far.0,
  )

  -- its line could not be written
  pub file_cut : (seen' : Seen) (f : Fault) → ChecksFile name seen seen' b c (Err f) p → ChecksAll names a c (Err f) p
  file_cut seen' f h = (
    h.3.0,
    record { name = name; found = h.0 } ∷ so_far.0,
    drop (i + 1) names,
    (h.1, so_far.1.checked),
    sym (take-append-drop (i + 1) names) ∙ ap (λ l. l ++ drop (i + 1) names) (next ∙ ap (λ l. l ++ name ∷ []) (sym so_far.1.named)),
    front_behind a b c (file_lines so_far.0) (file_line name h.0) so_far.1.wrote h.3.1,
  )

pub all_checked : (p : Plan) (traces : List (Bor (List ℕ))) (i : ℕ) (seen : Seen) (a b : Known) → length traces ≤ i → ChecksAll (take i (texts_of traces)) a b (Ok seen) p
    → ChecksAll (texts_of traces) a b (Ok seen) p
all_checked p traces i seen a b beyond h =
    let size : length (texts_of traces) ≤ i = let is = length-map traces (λ (word : Bor (List ℕ)). word.now) in omega (arith, is, beyond) in
    subst (λ (l : List (List ℕ)). ChecksAll l a b (Ok seen) p) (take_all i (texts_of traces) size) h

-- ---- the job

-- no plan, whatever a job over several traces does with one
pub unplanned : (text : List ℕ) (Leaves : Plan → Answer → Type 0) (old new : Known) (Stops : List ℕ → Fault → Type 0) (Fails : ProgramFault → Type 0) (name : Bor (List ℕ)) (f : EngineFault)
    → Keeps old new → IsNoPlan text f
    → Hands (Alone (λ (a : Answer). (t : List ℕ) × Lent t (Keeps old new) Leaves a)) Stops Fails (Keeps old new) (Err (fault_named name f))
unplanned text Leaves old new Stops Fails name fault.TooLong kept_so h = kept_so
unplanned text Leaves old new Stops Fails name (fault.Scenario e) kept_so h = inl (text, (h.0, h.1, kept_so))
unplanned text Leaves old new Stops Fails name (fault.Trace f) kept_so h = absurd h
unplanned text Leaves old new Stops Fails name fault.CannotRead kept_so h = absurd h
unplanned text Leaves old new Stops Fails name fault.NoMemory kept_so h = absurd h
unplanned text Leaves old new Stops Fails name (fault.Beyond n) kept_so h = absurd h

module _ (text : List ℕ) (names : List (List ℕ)) (old new : Known) (Stops : List ℕ → Fault → Type 0) where
  abbrev Ends : Answer → Type 0
  Ends a = (t : List ℕ) × Lent t (Keeps old new) (ChecksFiles names old new) a

  abbrev pub Checks : (ProgramFault → Type 0) → Result Status ProgramFault → Type 0
  Checks Fails r = Hands (Alone Ends) Stops Fails (Keeps old new) r

  module _ (plan : (p : Plan) × (length text ≤ scenario_limit) × (read text ≡ Ok p)) where
    -- the output cannot be written
    pub checks_cut : (Fails : ProgramFault → Type 0) (f : Fault) → ChecksAll names old new (Err f) plan.0 → Checks Fails (Err (Engine (fault.Trace f)))
    checks_cut Fails f h = inl (text, (plan.0, plan.1, plan.2, h))

    -- all files were checked
    pub checks_done : (Fails : ProgramFault → Type 0) → (HasFaulty names old new → Fails SomeTraces) → (seen : Seen) (r : Result Status ProgramFault) → ChecksAll names old new (Ok seen) plan.0
        → r ≡ (if seen.faulty then Err SomeTraces else Ok (if seen.illegal then SomeRefused else Done)) → Checks Fails r
    checks_done Fails fails seen r h ends =
        by (some_faulty h.0) refl (ends ∙ ap (λ (s : Seen). if s.faulty then Err SomeTraces else Ok (if s.illegal then SomeRefused else Done)) h.2)
      where
        by : (x : Bool) → some_faulty h.0 ≡ x → r ≡ (if x then Err SomeTraces else Ok (if some_illegal h.0 then SomeRefused else Done)) → Checks Fails r
        by true faulty is = subst (Checks Fails) (sym is) (fails (text, plan.0, plan.1, plan.2, h.0, h.1, faulty))
        by false faulty is = subst (Checks Fails) (sym is) (text, (plan.0, plan.1, plan.2, (h.0, h.1, faulty, refl)))

-- the files that a fault may name
pub plan_fault : (job : Job) (text : List ℕ) (name : Bor (List ℕ)) (f : EngineFault) → name.now ≡ scenario_name job → IsNoPlan text f → IsFaultOf job (fault_named name f)
plan_fault job text name fault.TooLong is h = is
plan_fault job text name (fault.Scenario e) is h = tt
plan_fault job text name (fault.Trace f) is h = tt
plan_fault job text name fault.CannotRead is h = absurd h
plan_fault job text name fault.NoMemory is h = tt
plan_fault job text name (fault.Beyond n) is h = tt
