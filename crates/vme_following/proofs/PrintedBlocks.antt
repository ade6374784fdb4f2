-- What is printed about a trace: src/states.rt.
use Rattle.std.proofs.Common.{◌≡◌, inl, inr, ℕ, ◌+◌, ◌≤◌, List, [], ◌++◌, length, take, Bool, false, Option, Some, None, Result, Ok, Err, refl, sym, ◌∙◌, ap, subst, arith, append_assoc, append-nil, drop, take-append-drop}
use Rattle.std.proofs.Math.ListN.{length-append}
use Rattle.std.proofs.Math.Seq.{take-append_seam}
use Rattle.std.specs.Io.KnownBytes.{Keeps, Appends}
use Rattle.std.proofs.KnownBytes.{Keeps-trans}
use Rattle.vme_model.specs.declared.signals.Version.{Version}
use Rattle.vme_model.specs.declared.signals.Edge.{Edge}
use Rattle.vme_model.specs.Plan.{Plan}
use Rattle.vme_model.specs.Verdict.{after, kept}
use Rattle.vme_model.specs.Text.{read_of}
use Rattle.vme_model.specs.Numbered.{numbered}
use Rattle.vme_model.specs.Stands.{stands_text}
use Rattle.vme_trace.specs.declared.Fault.{Fault}
use Rattle.vme_trace.specs.declared.Fault.TheVariants.{Write}
use Rattle.vme_trace.specs.Writing.{AppendsFront}
use Rattle.vme_reading.specs.declared.Status.TheVariants.{Done}
use Rattle.vme_following.specs.declared.following.Following.{Following}
use Rattle.vme_following.specs.declared.following.Printed.{Printed}
use Rattle.vme_following.specs.declared.following.Printed.TheVariants.{Block, Beyond}
use Rattle.vme_reading.specs.declared.EngineFault.{EngineFault}
use Rattle.vme_reading.specs.declared.EngineFault.TheVariants as fault
use Rattle.vme_reading.specs.Streams.{Streams, streams}
use Rattle.vme_reading.specs.Outcomes.{Answer, LentAsking, bench}
use Rattle.vme_following.specs.Stating.{IsReached, IsAhead, IsStated, States}
use Rattle.vme_reading.specs.Steps.{Begins}
use Rattle.vme_reading.specs.Pieces.{Came}
use Rattle.vme_reading.specs.Readings.{LeavesNow, ReadsLent}
use Rattle.vme_following.specs.Followed.{IsAfter, IsBehind, IsNotBefore, OfAfter, Reaches, printed_answer, printed_behind, printed_status}
use Rattle.vme_reading.proofs.ReadOn.{came_begins}
use Rattle.vme_reading.proofs.Waits.{waits_now}
use Rattle.vme_reading.proofs.WrittenLines.{appends_behind, front_after}

-- of a command that prints a block
pub lent_known : (text : List ℕ) (nothing : Type 0) (Runs : Plan → Answer → Type 0) (r : Result Printed EngineFault) → ReadsLent text nothing (λ p a. Runs p (printed_answer a)) r
    → LentAsking text nothing Runs (printed_status r)
lent_known text nothing Runs (Ok (Block status)) h = h
lent_known text nothing Runs (Ok (Beyond n)) h = h
lent_known text nothing Runs (Err fault.TooLong) h = h
lent_known text nothing Runs (Err (fault.Scenario e)) h = h
lent_known text nothing Runs (Err (fault.Trace f)) h = h
lent_known text nothing Runs (Err fault.CannotRead) h = h
lent_known text nothing Runs (Err fault.NoMemory) h = h
lent_known text nothing Runs (Err (fault.Beyond n)) h = absurd h

-- ---- the edges before a place

module _ (all es front rest others : List Edge) (begins : all ≡ es ++ others) (split : es ≡ front ++ rest) where
  whole_is : all ≡ front ++ (rest ++ others)
  whole_is = begins ∙ ap (λ l. l ++ others) split ∙ append_assoc front rest others

  front_taken : take (length front) all ≡ front
  front_taken = ap (take (length front)) whole_is ∙ take-append_seam front (rest ++ others)

  front_short : length front ≤ length all
  front_short = let is = ap length whole_is in let both = length-append front (rest ++ others) in omega (arith, is, both)

module _ (p : Plan) (v : Version) (all : List ℕ) (s : Streams) (es : List Edge) (more : Result Bool Fault) (came : Came v all s.from s.to es more) where
  begins : Begins (read_of all) v es
  begins = came_begins v all s.from s.to es more came

  -- at the end of the trace
  at_end : more ≡ Ok false → Came v all s.from s.to es (Ok false)
  at_end is = subst (Came v all s.from s.to es) is came

  -- ---- state

  reached_is : (after : Option ℕ) (front rest : List Edge) → es ≡ front ++ rest → after ≡ Some (length front) → IsReached after (read_of all) s (length front)
  reached_is (Some n) front rest split h = ((let is = h in cc), front_short (read_of all).edges es front rest begins.others begins.edges split)
  reached_is None front rest split h = absurd cc

  -- the place that was reached is printed
  stated : (after : Option ℕ) (front rest : List Edge) (W : List ℕ → Type 0) → es ≡ front ++ rest → IsReached after (read_of all) s (length front) → W (printed_behind stands_text p v front)
      → (text : List ℕ) × IsStated after p (read_of all) s text × W text
  stated after front rest W split reached w =
      let taken : take (length front) (read_of all).edges ≡ front = front_taken (read_of all).edges es front rest begins.others begins.edges split in (
        printed_behind stands_text p v front,
        record { version = v; named = begins.version; n = length front; reached = reached; block = ap (λ l. stands_text (length front) (kept (bench p v) l) (numbered (bench p v) l)) (sym taken) },
        w,
      )

-- ---- by the last piece

module _ (p : Plan) (v : Version) (before es : List Edge) (more : Result Bool Fault) (old mid new : Option (List ℕ)) (kept_so : Keeps old mid) where
  -- ---- where the bus stands

  module _ (place asked : Option ℕ) (same : asked ≡ place) (first now : Following) (is : IsAfter p v before first) where
    printed_place : (count : ℕ) (W : List ℕ → Type 0) → Reaches asked first es now (Some count) → OfAfter now (λ p v fs. W (printed_behind stands_text p v fs))
        → (trace : List ℕ) (from to : Option (List ℕ)) → Came v trace from to (before ++ es) more → (text : List ℕ) × IsStated place p (read_of trace) (streams from to old new) text × W text
    printed_place count W h wrote trace from to came =
        let follows = h.3 p v before is in
        let size : first.judged + count ≡ length (before ++ take count es) = sym h.2 ∙ follows.judged in
        let split : before ++ es ≡ (before ++ take count es) ++ drop count es = ap (λ l. before ++ l) (sym (take-append-drop count es)) ∙ sym (append_assoc before (take count es) (drop count es)) in
        stated p v trace (streams from to old new) (before ++ es) more came place (before ++ take count es) (drop count es) W split
        (reached_is p v trace (streams from to old new) (before ++ es) more came place (before ++ take count es) (drop count es) split (sym same ∙ h.1 ∙ ap (λ (n : ℕ). Some n) size))
        (wrote p v (before ++ take count es) follows)

    pub states_now : (count : ℕ) → Reaches asked first es now (Some count) → OfAfter now (λ p v fs. Appends mid new (printed_behind stands_text p v fs))
        → LeavesNow (λ trace s a. States place p trace s (printed_answer a)) v (before ++ es) more old new (Ok (Block Done))
    states_now count h wrote = λ trace from to came.
        let t = printed_place count (Appends old new) h (λ p v fs k. appends_behind old mid new _ kept_so (wrote p v fs k)) trace from to came in (t.0, t.1, t.2, refl)

    pub states_cut : (count : ℕ) (f : Fault) → f ≡ Write → Reaches asked first es now (Some count) → OfAfter now (λ p v fs. AppendsFront mid new (printed_behind stands_text p v fs))
        → LeavesNow (λ trace s a. States place p trace s (printed_answer a)) v (before ++ es) more old new (Err f)
    states_cut count f write h wrote = λ trace from to came.
        let t = printed_place count (AppendsFront old new) h (λ p v fs k. front_after old mid new _ kept_so (wrote p v fs k)) trace from to came in inr (write, t.0, t.1, t.2)

    -- the place is behind all edges
    ahead : (o : Option ℕ) → IsNotBefore o before → IsBehind o first.judged es → IsAhead o (Some v) (before ++ es)
    ahead (Some n) low h = (let at = is.judged in let more_of = h n refl (omega (arith, at, low)) in let both = length-append before es in omega (arith, at, both, more_of))
    ahead None low h = tt

    pub not_before : IsNotBefore place before → Reaches asked first es now None → IsNotBefore place (before ++ es)
    not_before low h = below place (ahead place low (subst (λ (o : Option ℕ). IsBehind o first.judged es) same h.0))
      where
        below : (o : Option ℕ) → IsAhead o (Some v) (before ++ es) → IsNotBefore o (before ++ es)
        below (Some n) k = omega (arith, k)
        below None k = tt

    pub states_beyond : (n wanted : ℕ) → asked ≡ Some wanted → more ≡ Ok false → Keeps mid new → n ≡ length (before ++ es) → IsNotBefore place before → Reaches asked first es now None
        → LeavesNow (λ trace s a. States place p trace s (printed_answer a)) v (before ++ es) more old new (Ok (Beyond n))
    states_beyond n wanted number is_more kept_too count low h = λ trace from to came.
        let is_place = sym same ∙ number in
        let far : IsAhead (Some wanted) (Some v) (before ++ es) = subst (λ (o : Option ℕ). IsAhead o (Some v) (before ++ es)) is_place
        (ahead place low (subst (λ (o : Option ℕ). IsBehind o first.judged es) same h.0)) in
        let end : Came v trace from to (before ++ es) (Ok false) = subst (Came v trace from to (before ++ es)) is_more came in
        (wanted, is_place, omega (arith, far, count), end.2, count ∙ ap length (sym end.1), end.3, Keeps-trans old mid new kept_so kept_too)

    -- all of the trace is behind
    end_place : (W : List ℕ → Type 0) → asked ≡ None → more ≡ Ok false → IsAfter p v (before ++ es) now → OfAfter now (λ p v fs. W (printed_behind stands_text p v fs))
        → (trace : List ℕ) (from to : Option (List ℕ)) → Came v trace from to (before ++ es) more → (text : List ℕ) × IsStated place p (read_of trace) (streams from to old new) text × W text
    end_place W number is_more follows wrote trace from to came =
        let end : Came v trace from to (before ++ es) (Ok false) = subst (Came v trace from to (before ++ es)) is_more came in
        stated p v trace (streams from to old new) (before ++ es) more came place (before ++ es) [] W (sym (append-nil (before ++ es)))
        (subst (λ (o : Option ℕ). IsReached o (read_of trace) (streams from to old new) (length (before ++ es))) (sym number ∙ same) (ap length (sym end.1), end.2, end.3))
        (wrote p v (before ++ es) follows)

    pub states_end : asked ≡ None → more ≡ Ok false → IsAfter p v (before ++ es) now → OfAfter now (λ p v fs. Appends mid new (printed_behind stands_text p v fs))
        → LeavesNow (λ trace s a. States place p trace s (printed_answer a)) v (before ++ es) more old new (Ok (Block Done))
    states_end number is_more follows wrote = λ trace from to came.
        let t = end_place (Appends old new) number is_more follows (λ p v fs k. appends_behind old mid new _ kept_so (wrote p v fs k)) trace from to came in (t.0, t.1, t.2, refl)

    pub states_end_cut : (f : Fault) → f ≡ Write → asked ≡ None → more ≡ Ok false → IsAfter p v (before ++ es) now → OfAfter now (λ p v fs. AppendsFront mid new (printed_behind stands_text p v fs))
        → LeavesNow (λ trace s a. States place p trace s (printed_answer a)) v (before ++ es) more old new (Err f)
    states_end_cut f write number is_more follows wrote = λ trace from to came.
        let t = end_place (AppendsFront old new) number is_more follows (λ p v fs k. front_after old mid new _ kept_so (wrote p v fs k)) trace from to came in inr (write, t.0, t.1, t.2)

    pub states_stop : (f : Fault) → more ≡ Err f → Keeps mid new → IsNotBefore place before → Reaches asked first es now None → LeavesNow (λ trace s a. States place p trace s (printed_answer a)) v
        (before ++ es) more old new (Err f)
    states_stop f is_more kept_too low h = λ trace from to came.
        inl (
          waits_now (IsAhead place) v trace (streams from to old new) (before ++ es) more came (ahead place low (subst (λ (o : Option ℕ). IsBehind o first.judged es) same h.0)) f is_more,
          Keeps-trans old mid new kept_so kept_too,
        )

-- ---- before the first edge

pub not_before_first : (after : Option ℕ) → IsNotBefore after []
not_before_first (Some n) = omega arith
not_before_first None = tt
