-- A command that writes lines at each edge of a trace, and last lines at its end.
use Rattle.std.proofs.Common.{◌≡◌, inl, inr, ◌+◌, ◌<◌, ◌++◌, ◌∷◌, [], ℕ, Bool, false, List, Option, Some, Result, Ok, Err, drop, get_or, length, take, sym, ◌∙◌, ap, append_assoc, subst}
use Rattle.std.specs.Io.KnownBytes.{Appends, Keeps}
use Rattle.std.proofs.KnownBytes.{Appends-kept}
use Rattle.std.proofs.lemmas.List.{take-append-drop}
use Rattle.vme_model.specs.declared.signals.Edge.{Edge}
use Rattle.vme_model.specs.declared.signals.Version.{Version}
use Rattle.vme_model.specs.Plan.{Plan}
use Rattle.vme_model.specs.Text.{read_of}
use Rattle.vme_trace.specs.declared.Fault.{Fault}
use Rattle.vme_trace.specs.declared.Fault.TheVariants.{Write}
use Rattle.vme_reading.specs.declared.Status.{Status}
use Rattle.vme_reading.specs.Streams.{streams}
use Rattle.vme_reading.specs.declared.EngineFault.{EngineFault}
use Rattle.vme_reading.specs.declared.EngineFault.TheVariants as fault
use Rattle.vme_reading.specs.Outcomes.{Answer, LentAsking, refused_count, status_with}
use Rattle.vme_reading.specs.Pieces.{Came}
use Rattle.vme_reading.specs.Readings.{LeavesNow, ReadsLent}
use Rattle.vme_reading.specs.Steps.{traced}
use Rattle.vme_reading.specs.Reporting.{AreLinesAt, HasWritten, HasWrittenFront, IsTextOf, ReportsEach, StopsAmong, StopsAt, Writes}
use Rattle.vme_reading.proofs.ReadOn.{came_begins}
use Rattle.vme_reading.proofs.KeptEdges.{next_list}
use Rattle.vme_reading.proofs.Waits.{waits_now}
use Rattle.vme_reading.proofs.WrittenLines.{front_kept}

-- ---- in the loop over edges

pub stops_among : (Lines : Writes) (Fails : Fault → Type 0) (p : Plan) (v : Version) (before es : List Edge)
    (i : ℕ) (d : Edge) → i < length es → (old new : Option (List ℕ)) (f : Fault)
    → StopsAt Lines Fails p v (before ++ take i es) ((before ++ take i es) ++ get_or es i d ∷ []) old new f
    → StopsAmong Lines Fails p v before es old new f
stops_among Lines Fails p v before es i d h old new f stops = elim stops [
  | inl own ↦ (take i es, drop i es, sym (take-append-drop i es), inl own)
  | inr cut ↦ (
    take (i + 1) es,
    drop (i + 1) es,
    sym (take-append-drop (i + 1) es),
    inr (cut.0, subst (λ (l : List Edge). HasWrittenFront Lines p v l old new) (next_list before es i d h) cut.1),
  )
]

-- ---- by the last piece

module _ (Lines Text : Writes) (Fails : Fault → Type 0) (p : Plan) (v : Version)
    (old new : Option (List ℕ)) where
  pub stopped_among : (before es : List Edge) (more : Result Bool Fault) (f : Fault)
      → StopsAmong Lines Fails p v before es old new f
      → LeavesNow (ReportsEach Lines Text Fails p) v (before ++ es) more old new (Err f)
  stopped_among before es more f stops = λ trace from to came.
      let begins = came_begins v trace from to (before ++ es) more came in
      let front : List Edge = before ++ stops.0 in
      let edges : (read_of trace).edges ≡ front ++ (stops.1 ++ begins.others) =
      begins.edges ∙ ap (λ l. (before ++ l) ++ begins.others) stops.2
      ∙ ap (λ l. l ++ begins.others) (sym (append_assoc before stops.0 stops.1))
      ∙ append_assoc front stops.1 begins.others in
      let named : (bytes : List ℕ) → Lines p v front bytes → AreLinesAt Lines p (read_of trace).version front bytes =
      λ bytes is. subst (λ (w : Option Version). AreLinesAt Lines p w front bytes) (sym begins.version) is in
      elim stops.3 [
        | inl own ↦ inr (inl (own.0, (front, stops.1 ++ begins.others, edges, own.1.0, named own.1.0 own.1.1, own.1.2)))
        | inr cut ↦ inr (inr (cut.0, inl (front, stops.1 ++ begins.others, edges, cut.1.0, named cut.1.0 cut.1.1, cut.1.2)))
      ]

  module _ (es : List Edge) (more : Result Bool Fault) (mid : Option (List ℕ)) where
    pub unflushed : (f : Fault) → f ≡ Write → Keeps mid new → HasWritten Lines p v es old mid
        → LeavesNow (ReportsEach Lines Text Fails p) v es more old new (Err f)
    unflushed f is keeps wrote = λ trace from to came.
        let begins = came_begins v trace from to es more came in
        inr (inr (
          is,
          inl (
            es,
            begins.others,
            begins.edges,
            wrote.0,
            subst (λ (w : Option Version). AreLinesAt Lines p w es wrote.0) (sym begins.version) wrote.1,
            front_kept old mid new wrote.0 wrote.2 keeps,
          ),
        ))

    pub stopped : (f : Fault) → more ≡ Err f → Keeps mid new → HasWritten Lines p v es old mid
        → LeavesNow (ReportsEach Lines Text Fails p) v es more old new (Err f)
    stopped f is keeps wrote = λ trace from to came.
        inl (waits_now (λ version es. (bytes : List ℕ) × AreLinesAt Lines p version es bytes
        × Appends old new bytes) v trace (streams from to old new) es more came
        (wrote.0, wrote.1, Appends-kept old mid new wrote.0 wrote.2 keeps) f is)

    pub kept_on : Keeps mid new → HasWritten Lines p v es old mid → HasWritten Lines p v es old new
    kept_on keeps wrote = (wrote.0, wrote.1, Appends-kept old mid new wrote.0 wrote.2 keeps)

  module _ (es : List Edge) (more : Result Bool Fault) (is : more ≡ Ok false) where
    pub ended_cut : (f : Fault) → f ≡ Write → HasWrittenFront Text p v es old new
        → LeavesNow (ReportsEach Lines Text Fails p) v es more old new (Err f)
    ended_cut f write wrote = λ trace from to came.
        let end = subst (Came v trace from to es) is came in
        inr (inr (
          write,
          inr (
            end.2,
            wrote.0,
            subst (λ (w : Option Version). IsTextOf Text p w (read_of trace).edges wrote.0) (sym end.0.version)
                (subst (λ (l : List Edge). Text p v l wrote.0) (sym end.1) wrote.1),
            wrote.2,
          ),
        ))

    pub ended : (status : Status) → status ≡ status_with (refused_count p (Some v) es)
        → HasWritten Text p v es old new
        → LeavesNow (ReportsEach Lines Text Fails p) v es more old new (Ok status)
    ended status status_is wrote = λ trace from to came.
        let end = subst (Came v trace from to es) is came in (
          end.2,
          end.3,
          (
            wrote.0,
            subst (λ (w : Option Version). IsTextOf Text p w (read_of trace).edges wrote.0) (sym end.0.version)
                (subst (λ (l : List Edge). Text p v l wrote.0) (sym end.1) wrote.1),
            wrote.2,
          ),
          status_is ∙ ap (λ (l : List Edge). status_with (refused_count p (Some v) l)) (sym end.1)
              ∙ ap (λ (w : Option Version). status_with (refused_count p w (read_of trace).edges)) (sym end.0.version),
        )

-- ---- a command that says in its own words what it leaves

pub lent_as : (text : List ℕ) (nothing : Type 0) (Leaves : Plan → Result Status Fault → Type 0)
    (Runs : Plan → Answer → Type 0)
    → ((p : Plan) (answer : Result Status Fault) → Leaves p answer → Runs p (traced answer))
    → (r : Result Status EngineFault) → ReadsLent text nothing Leaves r
    → LentAsking text nothing Runs r
lent_as text nothing Leaves Runs turn (Ok status) h = (h.0, h.1, h.2, turn h.0 (Ok status) h.3)
lent_as text nothing Leaves Runs turn (Err (fault.Trace f)) h =
    (h.0, h.1, h.2, turn h.0 (Err f) h.3)
lent_as text nothing Leaves Runs turn (Err fault.TooLong) h = h
lent_as text nothing Leaves Runs turn (Err (fault.Scenario e)) h = h
lent_as text nothing Leaves Runs turn (Err fault.NoMemory) h = h
lent_as text nothing Leaves Runs turn (Err fault.CannotRead) h = absurd h
lent_as text nothing Leaves Runs turn (Err (fault.Beyond n)) h = absurd h
