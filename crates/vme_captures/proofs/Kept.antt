-- A reader judges a line by what it keeps as it is to be judged by all that was said, and keeps what the line says.
use Rattle.std.proofs.Common.{◌≡◌, ◌&&◌, ◌||◌, ◌++◌, not, ℕ, Bool, true, false, cond, List, [], ◌∷◌, Option, Some, None, map, is_some, is_none, refl, sym, ◌∙◌, ap, inl, inr}
use Rattle.std.proofs.lemmas.Bool.{and_parts, cases_Bool}
use Rattle.std.proofs.lemmas.List.{map-append}
use Rattle.vme_model.specs.Accepted.{first_of, when}
use Rattle.vme_model.specs.Plan.{Plan}
use Rattle.vme_trace.proofs.Lines.{true_false}
use Rattle.vme_captures.specs.declared.signals.Line.{Line}
use Rattle.vme_captures.specs.declared.signals.Pin.{Pin}
use Rattle.vme_captures.specs.declared.signals.Signal.{Signal}
use Rattle.vme_captures.specs.declared.signals.Signal.TheVariants as signal
use Rattle.vme_captures.specs.declared.signals.Entry.{Entry}
use Rattle.vme_captures.specs.declared.signals.Entry.TheVariants as entry
use Rattle.vme_captures.specs.declared.CaptureFault.{CaptureFault}
use Rattle.vme_captures.specs.declared.CaptureFault.TheVariants.{Earlier, NoPin, SameWire, NotProbed, NoChange, NoLine}
use Rattle.vme_captures.specs.declared.reader.Probe.{Probe}
use Rattle.vme_captures.specs.declared.reader.Reader.{Reader}
use Rattle.vme_captures.specs.Signals.{is_line, is_same_line, is_same_pin, is_same_signal, is_signal}
use Rattle.vme_captures.specs.Changes.{differ}
use Rattle.vme_captures.specs.Spelling.{is_entry, may_be_low}
use Rattle.vme_captures.specs.Wires.{has_pin, is_on, pin_on, wire_of}
use Rattle.vme_captures.specs.Levels.{is_line_left_low}
use Rattle.vme_captures.specs.Reading.{fault_at, is_declared, is_left_low, is_running, last_moment, may_stand, pins}
use Rattle.vme_captures.specs.Feeding.{Keeps, probe_of}
use Rattle.vme_captures.specs.Taking.{GoesOn, NotesEntry, SetsLow, fault_in, fault_of_level, is_wire_probed, level_in, with_low}
use Rattle.vme_captures.proofs.Same.{any_found, any_map, line_other, line_same, map_same, map_twice, pin_same, value_found}

-- ---- the fault of a line, by what is kept

abbrev six : Bool → Bool → Bool → Bool → Bool → Bool → ℕ → Option CaptureFault
six a b c d e f n = first_of (
    when a (NoLine n) ∷ when b (Earlier n) ∷ when c (NoPin n) ∷ when d (SameWire n) ∷ when e (NotProbed n) ∷ when f (NoChange n) ∷ [])

at_pin : (a : Bool) (last : Option ℕ) (has wired : Bool) (n : ℕ)
    → cond (a || is_some last) (Some (NoLine n)) (cond (not has) (Some (NoPin n)) (cond wired (Some (SameWire n)) None))
    ≡ six (not (not a && is_none last)) false (not has) wired false false n
at_pin true last has wired n = refl
at_pin false (Some m) has wired n = refl
at_pin false None false wired n = refl
at_pin false None true true n = refl
at_pin false None true false n = refl

at_running : (a : Bool) (last : Option ℕ) (n : ℕ)
    → cond (a || is_some last) (Some (NoLine n)) None ≡ six (not (not a && is_none last)) false false false false false n
at_running true last n = refl
at_running false (Some m) n = refl
at_running false None n = refl

at_low : (a : Bool) (last : Option ℕ) (declared low : Bool) (n : ℕ)
    → cond (a && is_none last) (fault_of_level n (cond declared (Some low) None) true) (Some (NoLine n))
    ≡ six (not (a && is_none last)) false false false (not declared) low n
at_low false last declared low n = refl
at_low true (Some m) declared low n = refl
at_low true None false low n = refl
at_low true None true true n = refl
at_low true None true false n = refl

at_moment : (earlier : Bool) (n : ℕ) → cond earlier (Some (Earlier n)) None ≡ six (not true) earlier false false false false n
at_moment true n = refl
at_moment false n = refl

at_change : (last : Option ℕ) (declared low fall : Bool) (n : ℕ)
    → cond (is_none last) (Some (NoLine n)) (fault_of_level n (cond declared (Some low) None) fall)
    ≡ six (not (is_some last)) false false false (not declared) (not (differ low fall)) n
at_change None declared low fall n = refl
at_change (Some m) false low fall n = refl
at_change (Some m) true true true n = refl
at_change (Some m) true true false n = refl
at_change (Some m) true false true n = refl
at_change (Some m) true false false n = refl

module _ (p : Plan) (r : Reader) (said : List Entry) (keeps : Keeps p r said) where
  -- a wire is probed
  wire_kept : (q : Pin) → is_wire_probed r.probes.items p q ≡ is_some (pin_on p (pins said) (wire_of p q))
  wire_kept q =
      ap (λ (l : List Probe). is_wire_probed l p q) keeps.probes
      ∙ any_map (probe_of p said) _ (pins said)
      ∙ any_found (is_on p (wire_of p q)) (pins said)

  -- the level of a line or pin
  level_kept : (x : Signal) → is_signal x ≡ true
      → level_in r.lines r.probes.items x ≡ cond (is_declared said x) (Some (is_left_low said x)) None
  level_kept (signal.Line l) h = ap (λ b. Some b) (keeps.lines l h)
  level_kept (signal.Pin q) h =
      ap (λ (l : List Probe). level_in r.lines l (signal.Pin q)) keeps.probes
      ∙ value_found (probe_of p said) (λ r. r.low) (λ r. is_same_pin q r.pin) (is_left_low said (signal.Pin q)) (pins said)
      (λ x same. ap (λ y. is_left_low said (signal.Pin y)) (sym (pin_same q x same)))

  pub fault_kept : (e : Entry) → is_entry e ≡ true → fault_in p r e ≡ fault_at p r.line said e
  fault_kept (entry.Pin q) h =
      rw (keeps.running, keeps.last, wire_kept q)
      (at_pin (is_running said) (last_moment said) (has_pin p q) (is_some (pin_on p (pins said) (wire_of p q))) r.line)
  fault_kept entry.Running h = rw (keeps.running, keeps.last) (at_running (is_running said) (last_moment said) r.line)
  fault_kept (entry.Low x) h =
      let k = and_parts (is_signal x) (may_be_low x) h in
      rw (keeps.running, keeps.last, level_kept x k.0)
      (at_low (is_running said) (last_moment said) (is_declared said x) (is_left_low said x) r.line)
  fault_kept (entry.Moment m) h = rw keeps.last (at_moment _ r.line)
  fault_kept (entry.Change c) h =
      let k = and_parts (is_signal c.signal) _ h in
      rw (keeps.last, level_kept c.signal k.0)
      (at_change (last_moment said) (is_declared said c.signal) (is_left_low said c.signal) c.fall r.line)

-- ---- what a line says is kept

-- no fault: the line may stand there
stands : (p : Plan) (n : ℕ) (said : List Entry) (e : Entry) → fault_at p n said e ≡ None → may_stand said e ≡ true
stands p n said e h = may (may_stand said e) refl
  where
    may : (b : Bool) → may_stand said e ≡ b → may_stand said e ≡ true
    may true is = is
    may false is = absurd (no_fault (rw is at h))
      where
        no_fault : (let o : Option CaptureFault = Some (NoLine n) in o ≡ None) → ⊥
        no_fault i = cc

not_false : (a : Bool) → not a ≡ true → a ≡ false
not_false false h = refl
not_false true h = absurd (true_false (sym h))

none_there : (o : Option ℕ) → is_none o ≡ true → o ≡ None
none_there None h = refl
none_there (Some m) h = absurd (true_false (sym h))

some_here : (o : Option ℕ) → is_some o ≡ true → o ≡ None → ⊥
some_here None h e = true_false (sym h)
some_here (Some m) h e = cc

-- the level of each line or pin, once one of them is set
abbrev IsSet : Signal → Bool → (Signal → Bool) → (Signal → Bool) → Type 0
IsSet x low before after = (y : Signal) → after y ≡ cond (is_same_signal x y) low (before y)

lines_of_set : (x : Signal) (low : Bool) (old new : Reader) (before after : Signal → Bool) → IsSet x low before after → SetsLow x low old new
    → ((l : Line) → is_line l ≡ true → is_line_left_low old.lines l ≡ before (signal.Line l))
    → (l : Line) → is_line l ≡ true → is_line_left_low new.lines l ≡ after (signal.Line l)
lines_of_set (signal.Line k) low old new before after set sets h l is =
    elim (cases_Bool (is_same_line k l)) [
      | inl q ↦
          ap (λ j. is_line_left_low new.lines j) (sym (line_same k l q)) ∙ sets.1
          ∙ sym (set (signal.Line l) ∙ ap (λ b. cond b low (before (signal.Line l))) q)
      | inr q ↦
          sets.2 l (line_other k l q) ∙ h l is
          ∙ sym (set (signal.Line l) ∙ ap (λ b. cond b low (before (signal.Line l))) q)
    ]
lines_of_set (signal.Pin q) low old new before after set sets h l is =
    ap (λ (r : Reader). is_line_left_low r.lines l) sets.0 ∙ h l is ∙ sym (set (signal.Line l))

abbrev probe_with : Plan → (Signal → Bool) → Pin → Probe
probe_with p low q = record { pin = q; wire = wire_of p q; low = low (signal.Pin q) }

chosen_low : (b : Bool) (low : Bool) (r : Probe) → cond b (record r { low = low }) r ≡ record r { low = cond b low r.low }
chosen_low true low r = refl
chosen_low false low r = refl

probes_of_set : (p : Plan) (x : Signal) (low : Bool) (old new : Reader) (before after : Signal → Bool) (qs : List Pin)
    → IsSet x low before after → SetsLow x low old new
    → old.probes.items ≡ map (probe_with p before) qs → new.probes.items ≡ map (probe_with p after) qs
probes_of_set p (signal.Line k) low old new before after qs set sets h =
    ap (λ (r : Reader). r.probes.items) sets.0 ∙ h
    ∙ map_same (probe_with p before) (probe_with p after) qs
    (λ q. ap (λ b. let r : Probe = record { pin = q; wire = wire_of p q; low = b } in r) (sym (set (signal.Pin q))))
probes_of_set p (signal.Pin k) low old new before after qs set sets h =
    sets.1 ∙ ap (λ l. map (with_low k low) l) h
    ∙ map_twice (probe_with p before) (with_low k low) qs
    ∙ map_same (λ q. with_low k low (probe_with p before q)) (probe_with p after) qs
    (λ q. chosen_low (is_same_pin k q) low (probe_with p before q)
    ∙ ap (λ b. let r : Probe = record { pin = q; wire = wire_of p q; low = b } in r) (sym (set (signal.Pin q))))

running_of_set : (x : Signal) (low : Bool) (old new : Reader) → SetsLow x low old new → new.is_running ≡ old.is_running
running_of_set (signal.Line k) low old new sets = ap (λ (r : Reader). r.is_running) sets.0
running_of_set (signal.Pin k) low old new sets = ap (λ (r : Reader). r.is_running) sets.0

last_of_set : (x : Signal) (low : Bool) (old new : Reader) → SetsLow x low old new → new.last ≡ old.last
last_of_set (signal.Line k) low old new sets = ap (λ (r : Reader). r.last) sets.0
last_of_set (signal.Pin k) low old new sets = ap (λ (r : Reader). r.last) sets.0

or_cond : (a b : Bool) → (a || b) ≡ cond a true b
or_cond true b = refl
or_cond false b = refl

module _ (p : Plan) (n : ℕ) (old new : Reader) (said : List Entry) (keeps : Keeps p old said) where
  pub entry_kept : (e : Entry) → fault_at p n said e ≡ None → NotesEntry p e old new → Keeps p new (e ∷ said)
  entry_kept (entry.Pin q) fault notes =
      let k = and_parts (not (is_running said)) (is_none (last_moment said)) (stands p n said (entry.Pin q) fault) in
      let high : is_left_low said (signal.Pin q) ≡ false =
      keeps.head (not_false (is_running said) k.0) (none_there (last_moment said) k.1) (signal.Pin q) in
      record {
        running = ap (λ (r : Reader). r.is_running) notes.0 ∙ keeps.running;
        last = ap (λ (r : Reader). r.last) notes.0 ∙ keeps.last;
        probes = notes.1 ∙ ap (λ (l : List Probe). l ++ record { pin = q; wire = wire_of p q; low = false } ∷ []) keeps.probes
            ∙ ap (λ (b : Bool). map (probe_of p said) (pins said) ++ (let r : Probe = record { pin = q; wire = wire_of p q; low = b } in r) ∷ []) (sym high)
            ∙ sym (map-append (probe_of p said) (pins said) (q ∷ []));
        lines = λ l is. ap (λ (r : Reader). is_line_left_low r.lines l) notes.0 ∙ keeps.lines l is;
        head = keeps.head;
      }
  entry_kept entry.Running fault notes = record {
    running = ap (λ (r : Reader). r.is_running) notes;
    last = ap (λ (r : Reader). r.last) notes ∙ keeps.last;
    probes = ap (λ (r : Reader). r.probes.items) notes ∙ keeps.probes;
    lines = λ l is. ap (λ (r : Reader). is_line_left_low r.lines l) notes ∙ keeps.lines l is;
    head = λ not_running none. absurd (true_false not_running);
  }
  entry_kept (entry.Low x) fault notes =
      let k = and_parts (is_running said) (is_none (last_moment said)) (stands p n said (entry.Low x) fault) in
      let set : IsSet x true (is_left_low said) (is_left_low (entry.Low x ∷ said)) = λ y. or_cond (is_same_signal x y) (is_left_low said y) in
      record {
        running = running_of_set x true old new notes ∙ keeps.running;
        last = last_of_set x true old new notes ∙ keeps.last;
        probes = probes_of_set p x true old new (is_left_low said) (is_left_low (entry.Low x ∷ said)) (pins said) set notes keeps.probes;
        lines = lines_of_set x true old new (is_left_low said) (is_left_low (entry.Low x ∷ said)) set notes keeps.lines;
        head = λ not_running none. absurd (true_false (sym k.0 ∙ not_running));
      }
  entry_kept (entry.Moment m) fault notes = record {
    running = ap (λ (r : Reader). r.is_running) notes ∙ keeps.running;
    last = ap (λ (r : Reader). r.last) notes;
    probes = ap (λ (r : Reader). r.probes.items) notes ∙ keeps.probes;
    lines = λ l is. ap (λ (r : Reader). is_line_left_low r.lines l) notes ∙ keeps.lines l is;
    head = λ not_running none. absurd (some_here (Some m) refl none);
  }
  entry_kept (entry.Change c) fault notes =
      let k = stands p n said (entry.Change c) fault in
      let set : IsSet c.signal c.fall (is_left_low said) (is_left_low (entry.Change c ∷ said)) = λ y. refl in
      record {
        running = running_of_set c.signal c.fall old new notes ∙ keeps.running;
        last = last_of_set c.signal c.fall old new notes ∙ keeps.last;
        probes = probes_of_set p c.signal c.fall old new (is_left_low said) (is_left_low (entry.Change c ∷ said)) (pins said) set notes keeps.probes;
        lines = lines_of_set c.signal c.fall old new (is_left_low said) (is_left_low (entry.Change c ∷ said)) set notes keeps.lines;
        head = λ not_running none. absurd (some_here (last_moment said) k none);
      }

-- the next line changes nothing of it
pub next_kept : (p : Plan) (old new : Reader) (said : List Entry) → Keeps p old said → GoesOn old new → Keeps p new said
next_kept p old new said keeps goes = record {
  running = ap (λ (r : Reader). r.is_running) goes.0 ∙ keeps.running;
  last = ap (λ (r : Reader). r.last) goes.0 ∙ keeps.last;
  probes = ap (λ (r : Reader). r.probes.items) goes.0 ∙ keeps.probes;
  lines = λ l is. ap (λ (r : Reader). is_line_left_low r.lines l) goes.0 ∙ keeps.lines l is;
  head = keeps.head;
}
