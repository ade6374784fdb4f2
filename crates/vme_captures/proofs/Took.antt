-- A reader of captures takes bytes.
use Rattle.std.proofs.Common.{◌≡◌, ◌<◌, ◌≤◌, ◌+◌, ◌-◌, ◌++◌, ◌∷◌, [], ℕ, Bool, true, false, List, Option, Some, None, Ok, Err, is_some, length, reverse, refl, sym, ◌∙◌, ap, subst, arith, inl, inr, append_assoc, append-nil, add-one, drop, get_or, suc, take, zero}
use Rattle.std.proofs.Math.Seq.{drop-length}
use Rattle.std.proofs.lemmas.List.{length-drop, take_all, take_more}
use Rattle.vme_model.specs.declared.signals.Version.{Version}
use Rattle.vme_model.specs.Plan.{Plan}
use Rattle.vme_model.specs.Text.{split_lines, next_number, version_of}
use Rattle.vme_trace.specs.declared.Fault.TheVariants as trace
use Rattle.vme_trace.specs.Reading.{IsOneLine, IsPart}
use Rattle.vme_trace.proofs.Lines.{IsOneLine-append, no_bytes, true_false, within}
use Rattle.vme_captures.specs.declared.signals.Line.{Line}
use Rattle.vme_captures.specs.declared.signals.Signal.{Signal}
use Rattle.vme_captures.specs.declared.signals.Signal.TheVariants as signal
use Rattle.vme_captures.specs.declared.signals.Entry.{Entry}
use Rattle.vme_captures.specs.declared.signals.Entry.TheVariants as entry
use Rattle.vme_captures.specs.declared.CaptureFault.{CaptureFault}
use Rattle.vme_captures.specs.declared.CaptureFault.TheVariants.{Trace}
use Rattle.vme_captures.specs.declared.reader.Reader.{Reader}
use Rattle.vme_captures.specs.Levels.{is_line_left_low}
use Rattle.vme_captures.specs.Spelling.{is_entry}
use Rattle.vme_captures.specs.Words.{entry_of}
use Rattle.vme_captures.specs.Reading.{Reading, fault_at, entry_says, line_says, read_entries, read_of}
use Rattle.vme_captures.specs.Feeding.{Ended, Fed, HasRead, IsFaultAfter, Keeps, Took, rest_at, rest_of}
use Rattle.vme_captures.specs.Taking.{FaultOf, FaultOfEntry, NotesEntry, SetsLow, TakesEntry, TakesHeader, TookEntry, WantsRoom, fault_in}
use Rattle.vme_captures.proofs.Kept.{entry_kept, fault_kept, next_kept}
use Rattle.vme_captures.proofs.Steps.{EndsAfter, end_absent, end_cut, end_whole, fault_step, header_missed, header_step, line_step, long_step, said_step}
use Rattle.vme_captures.proofs.Spelled.{entry_formed}

some_none : {A : Type 0} (a : A) → ◌≡◌ {A = Option A} (Some a) None → ⊥
some_none a h = cc

pub some_version : (o : Option Version) → is_some o ≡ true → (v : Version) × (o ≡ Some v)
some_version None h = absurd (true_false (sym h))
some_version (Some v) h = (v, refl)

-- what a line says leaves the place
set_same : (x : Signal) (low : Bool) (old new : Reader) → SetsLow x low old new → (new.version ≡ old.version) × (new.line ≡ old.line)
set_same (signal.Line l) low old new h = (ap (λ (r : Reader). r.version) h.0, ap (λ (r : Reader). r.line) h.0)
set_same (signal.Pin q) low old new h = (ap (λ (r : Reader). r.version) h.0, ap (λ (r : Reader). r.line) h.0)

noted_same : (p : Plan) (e : Entry) (old new : Reader) → NotesEntry p e old new → (new.version ≡ old.version) × (new.line ≡ old.line)
noted_same p (entry.Pin q) old new h = (ap (λ (r : Reader). r.version) h.0, ap (λ (r : Reader). r.line) h.0)
noted_same p entry.Running old new h = (ap (λ (r : Reader). r.version) h, ap (λ (r : Reader). r.line) h)
noted_same p (entry.Low x) old new h = set_same x true old new h
noted_same p (entry.Moment m) old new h = (ap (λ (r : Reader). r.version) h, ap (λ (r : Reader). r.line) h)
noted_same p (entry.Change c) old new h = set_same c.signal c.fall old new h

pub no_version : (o : Option Version) → is_some o ≡ false → o ≡ None
no_version None h = refl
no_version (Some v) h = absurd (true_false h)

no_part : (part : List ℕ) → part ≡ [] → IsPart part
no_part part h = subst (λ (l : List ℕ). IsPart l) (sym h) (record { one_line = tt; short = omega arith })

-- before the first byte
pub new_read : (p : Plan) (r : Reader) → r.version ≡ None → r.line ≡ 1 → r.part.items ≡ [] → r.is_running ≡ false → r.last ≡ None → r.probes.items ≡ []
    → ((l : Line) → is_line_left_low r.lines l ≡ false) → HasRead p r [] []
unfolding read_of
new_read p r version line part running last probes lines = record {
  part = no_part r.part.items part;
  keeps = record {
    running = running;
    last = last;
    probes = probes;
    lines = λ l is. lines l;
    head = λ not_running none x. refl;
  };
  start = λ none. (line, refl, part);
  others = λ more. rw (version, part) refl;
}

module _ (p : Plan) (old : Reader) (bytes : List ℕ) (said : List Entry) (read : HasRead p old bytes said) where
  -- what the whole says, once these bytes follow
  whole : (b : ℕ) (more : List ℕ) → read_of p ((bytes ++ b ∷ []) ++ more) ≡ rest_of p old said (b ∷ more)
  whole b more = ap (read_of p) (append_assoc bytes (b ∷ []) more) ∙ read.others (b ∷ more)

  faulty : (b : ℕ) (f : CaptureFault) → ((more : List ℕ) → EndsAfter (rest_of p old said (b ∷ more)) said (Some f))
      → Took p (bytes ++ b ∷ []) said old (Err f)
  faulty b f h more =
      let k = h more in
      inl (
        ap (λ (r : Reading). r.entries) (whole b more) ∙ k.entries,
        ap (λ (r : Reading). r.fault) (whole b more) ∙ k.fault,
      )

  -- ---- the header line

  module _ (new : Reader) (unnamed : old.version ≡ None) where
    pub header_taken : TakesHeader old new (Ok tt) → HasRead p new (bytes ++ 10 ∷ []) said
    header_taken takes =
        let v = some_version (version_of old.part.items) takes.1 in
        let goes = takes.0 in
        let named : new.version ≡ Some v.0 = ap (λ (r : Reader). r.version) goes.0 ∙ v.1 in
        let line : new.line ≡ 2 = ap (λ (r : Reader). r.line) goes.0 ∙ ap next_number (read.start unnamed).0 in
        let nothing : said ≡ [] = (read.start unnamed).1 in
        let mid : Reader = record old { version = version_of old.part.items } in
        let kept : Keeps p mid said = record {
          running = read.keeps.running;
          last = read.keeps.last;
          probes = read.keeps.probes;
          lines = read.keeps.lines;
          head = read.keeps.head;
        } in
        record {
          part = no_part new.part.items goes.1;
          keeps = next_kept p mid new said kept goes;
          start = λ none. absurd (some_none v.0 (sym named ∙ none));
          others = λ more.
              whole 10 more
              ∙ rw (unnamed, named, line, nothing, goes.1)
              (header_step p v.0 old.line [] old.part.items more read.part v.1);
        }

    pub header_lost : (f : CaptureFault) → TakesHeader old new (Err f) → Took p (bytes ++ 10 ∷ []) said new (Err f)
    header_lost f takes more =
        let k = header_missed p old.line said old.part.items more read.part takes.0 in
        let nothing : said ≡ [] = (read.start unnamed).1 in
        let same : read_of p ((bytes ++ 10 ∷ []) ++ more) ≡ rest_at p None old.line said (split_lines (old.part.items ++ 10 ∷ more)) =
        whole 10 more ∙ ap (λ o. rest_at p o old.line said (split_lines (old.part.items ++ 10 ∷ more))) unnamed in
        inl (
          ap (λ (r : Reading). r.entries) same ∙ k.entries ∙ ap (λ (l : List Entry). reverse l) (sym nothing),
          ap (λ (r : Reading). r.fault) same ∙ k.fault ∙ ap (λ g. Some g) (sym takes.1),
        )

  -- ---- another line

  module _ (new : Reader) (v : Version) (named : old.version ≡ Some v) where
    behind : (more : List ℕ) → read_of p ((bytes ++ 10 ∷ []) ++ more) ≡ rest_at p (Some v) old.line said (split_lines (old.part.items ++ 10 ∷ more))
    behind more = whole 10 more ∙ ap (λ o. rest_at p o old.line said (split_lines (old.part.items ++ 10 ∷ more))) named

    says : line_says p old.line said old.part.items ≡ entry_says p old.line said (entry_of old.part.items)
    says = rw (within old.part.items read.part.short) refl

    line_faulty : (f : CaptureFault) → entry_says p old.line said (entry_of old.part.items) ≡ Err f → Took p (bytes ++ 10 ∷ []) said new (Err f)
    line_faulty f h more =
        let same : read_of p ((bytes ++ 10 ∷ []) ++ more) ≡ _ =
        behind more ∙ line_step p v old.line said old.part.items more read.part in
        let ends : EndsAfter (read_of p ((bytes ++ 10 ∷ []) ++ more)) said (Some f) =
        rw (same, says, h) (fault_step v said f (λ e. read_entries p (next_number old.line) (e ∷ said) (split_lines more).0 (split_lines more).1)) in
        inl (ends.entries, ends.fault)

    pub entry_taken : (e : Entry) → TookEntry p old new e → HasRead p new (bytes ++ 10 ∷ []) (e ∷ said)
    entry_taken e took =
        let formed : is_entry e ≡ true = entry_formed old.part.items e took.said in
        let none : fault_at p old.line said e ≡ None = sym (fault_kept p old said read.keeps e formed) ∙ took.fault in
        let kept : Keeps p took.noted (e ∷ said) = entry_kept p old.line old took.noted said read.keeps e none took.notes in
        let is : line_says p old.line said old.part.items ≡ Ok e = says ∙ rw (took.said, none) refl in
        let same = noted_same p e old took.noted took.notes in
        let name : new.version ≡ Some v = ap (λ (r : Reader). r.version) took.goes_on.0 ∙ same.0 ∙ named in
        let line : new.line ≡ next_number old.line = ap (λ (r : Reader). r.line) took.goes_on.0 ∙ ap next_number same.1 in
        record {
          part = no_part new.part.items took.goes_on.1;
          keeps = next_kept p took.noted new (e ∷ said) kept took.goes_on;
          start = λ none. absurd (some_none v (sym name ∙ none));
          others = λ more.
              behind more ∙ line_step p v old.line said old.part.items more read.part
              ∙ rw (is, name, line, took.goes_on.1) (said_step p v old.line said e (split_lines more));
        }

    lacking : (e : Entry) (f : CaptureFault) → entry_of old.part.items ≡ Some e → fault_in p old e ≡ None → WantsRoom e f
        → Took p (bytes ++ 10 ∷ []) said new (Err f)
    lacking (entry.Pin q) f is none wants more =
        let formed : is_entry (entry.Pin q) ≡ true = entry_formed old.part.items (entry.Pin q) is in
        let ok : fault_at p old.line said (entry.Pin q) ≡ None = sym (fault_kept p old said read.keeps (entry.Pin q) formed) ∙ none in
        let says_so : line_says p old.line said old.part.items ≡ Ok (entry.Pin q) = says ∙ rw (is, ok) refl in
        let others : List Entry × Option CaptureFault =
        read_entries p (next_number old.line) (entry.Pin q ∷ said) (split_lines more).0 (split_lines more).1 in
        let same = behind more ∙ line_step p v old.line said old.part.items more read.part in
        inr (
          wants,
          record {
            pin = q;
            others = others.0;
            are = ap (λ (r : Reading). r.entries) same ∙ rw says_so refl;
          },
        )
    lacking entry.Running f is none wants more = absurd wants
    lacking (entry.Low x) f is none wants more = absurd wants
    lacking (entry.Moment m) f is none wants more = absurd wants
    lacking (entry.Change c) f is none wants more = absurd wants

    by_fault : (e : Entry) (o : Option CaptureFault) (f : CaptureFault) → entry_of old.part.items ≡ Some e → fault_in p old e ≡ o
        → FaultOfEntry o e f → Took p (bytes ++ 10 ∷ []) said new (Err f)
    by_fault e None f is none wants = lacking e f is none wants
    by_fault e (Some g) f is fault same =
        let formed : is_entry e ≡ true = entry_formed old.part.items e is in
        let there : fault_at p old.line said e ≡ Some g = sym (fault_kept p old said read.keeps e formed) ∙ fault in
        line_faulty f (rw (is, there) (ap (λ h. Err h) (sym same)))

    by_entry : (o : Option Entry) (f : CaptureFault) → entry_of old.part.items ≡ o → FaultOf p old o f → Took p (bytes ++ 10 ∷ []) said new (Err f)
    by_entry None f is same = line_faulty f (rw is (ap (λ h. Err h) (sym same)))
    by_entry (Some e) f is fault = by_fault e (fault_in p old e) f is refl fault

    pub entry_lost : (f : CaptureFault) → TakesEntry p old new (Err f) → Took p (bytes ++ 10 ∷ []) said new (Err f)
    entry_lost f takes = by_entry (entry_of old.part.items) f refl takes

  -- ---- another byte

  pub byte_taken : (new : Reader) (b : ℕ) → (b ≡ 10 → ⊥) → new ≡ record old { part = new.part }
      → new.part.items ≡ old.part.items ++ b ∷ [] → length new.part.items ≤ 64 → HasRead p new (bytes ++ b ∷ []) said
  byte_taken new b other same part short = record {
    part = record {
      one_line = subst (λ (l : List ℕ). IsOneLine l) (sym part) (IsOneLine-append old.part.items (b ∷ []) read.part.one_line (other, tt));
      short = short;
    };
    keeps = record {
      running = ap (λ (r : Reader). r.is_running) same ∙ read.keeps.running;
      last = ap (λ (r : Reader). r.last) same ∙ read.keeps.last;
      probes = ap (λ (r : Reader). r.probes.items) same ∙ read.keeps.probes;
      lines = λ l is. ap (λ (r : Reader). is_line_left_low r.lines l) same ∙ read.keeps.lines l is;
      head = read.keeps.head;
    };
    start = λ none.
        let k = read.start (sym (ap (λ (r : Reader). r.version) same) ∙ none) in (
          ap (λ (r : Reader). r.line) same ∙ k.0,
          k.1,
          part ∙ ap (λ (l : List ℕ). l ++ b ∷ []) k.2,
        );
    others = λ more.
        whole b more
        ∙ ap (λ (l : List ℕ). rest_at p old.version old.line said (split_lines l)) (sym (append_assoc old.part.items (b ∷ []) more) ∙ ap (λ (l : List ℕ). l ++ more) (sym part))
        ∙ ap (λ (r : Reader). rest_at p r.version r.line said (split_lines (new.part.items ++ more))) (sym same);
  }

  first_line : old.version ≡ None → (old.line ≡ 1) × (said ≡ [])
  first_line none = let k = read.start none in (k.0, k.1)

  pub byte_too_long : (new : Reader) (b : ℕ) → (b ≡ 10 → ⊥) → 64 ≤ length old.part.items
      → Took p (bytes ++ b ∷ []) said new (Err (Trace (trace.TooLong old.line)))
  byte_too_long new b other full =
      faulty b (Trace (trace.TooLong old.line))
      (λ more. long_step p old.version old.line said old.part.items more b first_line read.part.one_line other full)

  -- ---- the end

  all : read_of p bytes ≡ rest_of p old said []
  all = ap (read_of p) (sym (append-nil bytes)) ∙ read.others []

  ends : (f : Option CaptureFault) → EndsAfter (rest_of p old said []) said f → ((read_of p bytes).entries ≡ reverse said) × ((read_of p bytes).fault ≡ f)
  ends f h = (ap (λ (r : Reading). r.entries) all ∙ h.entries, ap (λ (r : Reading). r.fault) all ∙ h.fault)

  pub ends_cut : 0 < length old.part.items → Ended (read_of p bytes) said (Err (Trace trace.CutOff))
  ends_cut some = ends _ (end_cut p old.version old.line said old.part.items first_line read.part some)

  pub ends_absent : length old.part.items ≡ 0 → old.version ≡ None → Ended (read_of p bytes) said (Err (Trace trace.Header))
  ends_absent none unnamed =
      ends _ (rw (unnamed, (read.start unnamed).1, no_bytes old.part.items none) (end_absent p old.line))

  pub ends_whole : length old.part.items ≡ 0 → is_some old.version ≡ true → Ended (read_of p bytes) said (Ok tt)
  ends_whole none named =
      let v = some_version old.version named in
      ends _ (rw (v.1, no_bytes old.part.items none) (end_whole p v.0 old.line said))

-- ---- a piece

cut_piece : (piece : List ℕ) (i : ℕ) → i < length piece → piece ≡ (take i piece ++ get_or piece i 0 ∷ []) ++ drop (i + 1) piece
cut_piece [] i lt = absurd (omega arith)
cut_piece (b ∷ piece) zero lt = refl
cut_piece (b ∷ piece) (suc i) lt = rw (add-one (suc i)) (ap (λ (l : List ℕ). b ∷ l) (cut_piece piece i (omega arith) ∙ rw (add-one i) refl))

module _ (p : Plan) (bytes piece : List ℕ) (said : List Entry) (i : ℕ) (lt : i < length piece) where
  along : (bytes ++ take i piece) ++ get_or piece i 0 ∷ [] ≡ bytes ++ take (i + 1) piece
  along = append_assoc bytes (take i piece) (get_or piece i 0 ∷ []) ∙ ap (λ (l : List ℕ). bytes ++ l) (sym (take_more piece i 0 lt))

  pub piece_more : (new : Reader) → Took p ((bytes ++ take i piece) ++ get_or piece i 0 ∷ []) said new (Ok None) → HasRead p new (bytes ++ take (i + 1) piece) said
  piece_more new took = subst (λ (l : List ℕ). HasRead p new l said) along took

  pub piece_says : (new : Reader) (e : Entry) (rest : List ℕ) → rest ≡ drop (i + 1) piece
      → Took p ((bytes ++ take i piece) ++ get_or piece i 0 ∷ []) said new (Ok (Some e))
      → (taken : List ℕ) × (piece ≡ taken ++ rest) × (◌≡◌ {A = Option Entry} (Some e) None → rest ≡ []) × HasRead p new (bytes ++ taken) (e ∷ said)
  piece_says new e rest is took = (
    take i piece ++ get_or piece i 0 ∷ [],
    cut_piece piece i lt ∙ ap (λ (l : List ℕ). (take i piece ++ get_or piece i 0 ∷ []) ++ l) (sym is),
    λ none. absurd (some_none e none),
    subst (λ (l : List ℕ). HasRead p new l (e ∷ said)) (append_assoc bytes (take i piece) (get_or piece i 0 ∷ [])) took,
  )

  pub piece_faulty : (new : Reader) (f : CaptureFault) → Took p ((bytes ++ take i piece) ++ get_or piece i 0 ∷ []) said new (Err f) → Fed p bytes piece said new (Err f)
  piece_faulty new f took more =
      let same : ((bytes ++ take i piece) ++ get_or piece i 0 ∷ []) ++ (drop (i + 1) piece ++ more) ≡ (bytes ++ piece) ++ more =
      ap (λ (l : List ℕ). l ++ (drop (i + 1) piece ++ more)) (append_assoc bytes (take i piece) (get_or piece i 0 ∷ []))
      ∙ append_assoc bytes (take i piece ++ get_or piece i 0 ∷ []) (drop (i + 1) piece ++ more)
      ∙ ap (λ (l : List ℕ). bytes ++ l) (sym (append_assoc (take i piece ++ get_or piece i 0 ∷ []) (drop (i + 1) piece) more) ∙ ap (λ (l : List ℕ). l ++ more) (sym (cut_piece piece i lt)))
      ∙ sym (append_assoc bytes piece more) in
      subst (λ (l : List ℕ). IsFaultAfter (read_of p l) said f) same (took (drop (i + 1) piece ++ more))

-- the rest of a piece from a place on
pub rest_is : (piece : List ℕ) (i : ℕ) → take (length piece - i) (drop i piece) ≡ drop i piece
rest_is piece i = take_all (length piece - i) (drop i piece) (rw (length-drop i piece) (omega arith))

pub piece_done : (p : Plan) (bytes piece : List ℕ) (said : List Entry) (i : ℕ) (new : Reader) (rest : List ℕ) → length piece ≤ i → rest ≡ []
    → HasRead p new (bytes ++ take i piece) said
    → (taken : List ℕ) × (piece ≡ taken ++ rest) × (◌≡◌ {A = Option Entry} None None → rest ≡ []) × HasRead p new (bytes ++ taken) said
piece_done p bytes piece said i new rest most empty read = (
  piece,
  sym (append-nil piece) ∙ ap (λ (l : List ℕ). piece ++ l) (sym empty),
  λ none. empty,
  subst (λ (l : List ℕ). HasRead p new (bytes ++ l) said) (take_all i piece most) read,
)

pub no_rest : (piece : List ℕ) → take (length piece - length piece) (drop (length piece) piece) ≡ []
no_rest piece = rest_is piece (length piece) ∙ drop-length piece
