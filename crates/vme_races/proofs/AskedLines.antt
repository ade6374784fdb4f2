-- The line of the edge that is asked for.
use Rattle.std.proofs.Common.{◌≡◌, ◌≢◌, inl, inr, ◌+◌, ◌<◌, ◌++◌, ◌∷◌, [], ℕ, Bool, false, List, Option, Some, None, Result, Ok, Err, length, take, drop, get_or, refl, sym, ◌∙◌, ap, subst, append_assoc, take-append-drop, arith}
use Rattle.std.specs.Prelude.{slice_get}
use Rattle.std.proofs.Math.ListN.{length-append}
use Rattle.std.proofs.Math.Seq.{take-append_seam}
use Rattle.std.proofs.lemmas.List.{drop_more, length-take}
use Rattle.std.specs.Io.KnownBytes.{Appends, Keeps}
use Rattle.std.proofs.KnownBytes.{Keeps-trans}
use Rattle.vme_model.specs.declared.refusals.Refused.{Refused}
use Rattle.vme_model.specs.declared.signals.Edge.{Edge}
use Rattle.vme_model.specs.declared.signals.Version.{Version}
use Rattle.vme_model.specs.Plan.{Plan}
use Rattle.vme_model.specs.Numbered.{numbered}
use Rattle.vme_model.specs.Text.{read_of}
use Rattle.vme_model.specs.Verdict.{Judgement, kept, verdict}
use Rattle.vme_trace.specs.declared.Fault.{Fault}
use Rattle.vme_trace.specs.declared.Fault.TheVariants.{Memory, Write}
use Rattle.vme_trace.specs.Writing.{AppendsFront}
use Rattle.vme_reading.specs.declared.EngineFault.{EngineFault}
use Rattle.vme_reading.specs.declared.EngineFault.TheVariants as fault
use Rattle.vme_reading.specs.declared.Status.{Status}
use Rattle.vme_reading.specs.declared.Status.TheVariants.{Done, SomeRefused}
use Rattle.vme_reading.specs.Begun.{IsUnread}
use Rattle.vme_following.specs.Explaining.{IsUnasked}
use Rattle.vme_reading.specs.Outcomes.{Answer, LentAsking, bench}
use Rattle.vme_reading.specs.Pieces.{Came}
use Rattle.vme_reading.specs.Readings.{LeavesNow, ReadsLent}
use Rattle.vme_reading.specs.Steps.{Begins}
use Rattle.vme_reading.specs.Streams.{Streams, streams, WroteNothing}
use Rattle.vme_reading.specs.Waiting.{StopsWaiting}
use Rattle.vme_following.proofs.FollowedEdges.{next_list}
use Rattle.vme_following.proofs.PrintedBlocks.{explains_end, slice_at}
use Rattle.vme_reading.proofs.ReadOn.{came_begins}
use Rattle.vme_reading.proofs.Waits.{stops_unread, waits_now}
use Rattle.vme_reading.proofs.WrittenLines.{appends_behind, front_after}
use Rattle.vme_races.specs.declared.asked.Printed.{Printed}
use Rattle.vme_races.specs.declared.asked.Printed.TheVariants.{Beyond, Line}
use Rattle.vme_races.specs.declared.racing.Racing.{Racing}
use Rattle.vme_races.specs.declared.walks.Walk.{Walk}
use Rattle.vme_races.specs.Kept.{Advances, IsKept}
use Rattle.vme_races.specs.Lines.{refused_line, walk_line}
use Rattle.vme_races.specs.Walks.{IsWalk}
use Rattle.vme_races.specs.Asked.{IsAskedLine, IsLineOf, PrintsWalk}
use Rattle.vme_races.specs.Sought.{AreTaken, CutsLine, IsMet, Seeks, WritesLine, printed_answer, printed_status}

pub lent_known : (text : List ℕ) (nothing : Type 0) (Runs : Plan → Answer → Type 0)
    (r : Result Printed EngineFault) → ReadsLent text nothing (λ p a. Runs p (printed_answer a)) r
    → LentAsking text nothing Runs (printed_status r)
lent_known text nothing Runs (Ok (Line status)) h = h
lent_known text nothing Runs (Ok (Beyond n)) h = h
lent_known text nothing Runs (Err fault.TooLong) h = h
lent_known text nothing Runs (Err (fault.Scenario e)) h = h
lent_known text nothing Runs (Err (fault.Trace f)) h = h
lent_known text nothing Runs (Err fault.CannotRead) h = h
lent_known text nothing Runs (Err fault.NoMemory) h = h
lent_known text nothing Runs (Err (fault.Beyond n)) h = absurd h

module _ (asked : ℕ) (p : Plan) (v : Version) (all : List ℕ) (s : Streams) (es : List Edge)
    (more : Result Bool Fault) (came : Came v all s.from s.to es more) where
  begins : Begins (read_of all) v es
  begins = came_begins v all s.from s.to es more came

  printed : (e : Edge) (status : Status) (bytes : List ℕ) (W : List ℕ → Type 0)
      (front rest : List Edge) → es ≡ front ++ (e ∷ rest) → asked ≡ length front + 1
      → IsLineOf p v front e status bytes → W bytes
      → (bytes : List ℕ) × IsAskedLine asked p (read_of all) status bytes × W bytes
  printed e status bytes W front rest split number line w =
      let whole : (read_of all).edges ≡ front ++ (e ∷ (rest ++ begins.others)) =
      begins.edges ∙ ap (λ l. l ++ begins.others) split
      ∙ append_assoc front (e ∷ rest) begins.others in
      let taken : take (length front) (read_of all).edges ≡ front =
      ap (take (length front)) whole ∙ take-append_seam front (e ∷ (rest ++ begins.others)) in (
        bytes,
        record {
          version = v;
          named = begins.version;
          e = e;
          at = record {
            place = length front;
            number = number;
            is = ap (λ l. slice_get l (length front)) whole
                ∙ slice_at front (rest ++ begins.others) e;
          };
          line = subst (λ l. IsLineOf p v l e status bytes) (sym taken) line;
        },
        w,
      )

-- ---- by the last piece

abbrev pub Leaves : ℕ → Plan → List ℕ → Streams → Result Printed Fault → Type 0
Leaves asked p trace s a = PrintsWalk asked p trace s (printed_answer a)

module _ (asked : ℕ) (p : Plan) (v : Version) (before es : List Edge) (more : Result Bool Fault)
    (old mid new : Option (List ℕ)) (kept_so : Keeps old mid) where
  split_of : (front rest : List Edge) (e : Edge) → es ≡ front ++ e ∷ rest
      → before ++ es ≡ (before ++ front) ++ e ∷ rest
  split_of front rest e split =
      ap (λ l. before ++ l) split ∙ sym (append_assoc before front (e ∷ rest))

  pub prints : (now : Racing) (e : Edge) (status : Status) → IsMet asked p v before es now e
      → ((ds : List Edge) → AreTaken p v ds now → WritesLine p v ds e mid new status)
      → LeavesNow (Leaves asked p) v (before ++ es) more old new (Ok (Line status))
  prints now e status met wrote = λ trace from to came.
      let w = wrote (before ++ met.front) met.taken in
      printed asked p v trace (streams from to old new) (before ++ es) more came e status w.0
      (Appends old new) (before ++ met.front) met.rest (split_of met.front met.rest e met.split)
      met.number w.1 (appends_behind old mid new w.0 kept_so w.2)

  pub prints_cut : (now : Racing) (e : Edge) (f : Fault) → f ≡ Write
      → IsMet asked p v before es now e
      → ((ds : List Edge) → AreTaken p v ds now → CutsLine p v ds e mid new)
      → LeavesNow (Leaves asked p) v (before ++ es) more old new (Err f)
  prints_cut now e f is met wrote = λ trace from to came.
      let w = wrote (before ++ met.front) met.taken in
      let t = printed asked p v trace (streams from to old new) (before ++ es) more came e w.0 w.1
      (AppendsFront old new) (before ++ met.front) met.rest (split_of met.front met.rest e met.split)
      met.number w.2 (front_after old mid new w.1 kept_so w.3) in
      inr (inr (is, w.0, t.0, t.1, t.2))

  pub prints_none : (f : Fault) → f ≡ Memory → Keeps mid new
      → LeavesNow (Leaves asked p) v (before ++ es) more old new (Err f)
  prints_none f memory kept_too = λ trace from to came.
      inr (inl (memory, Keeps-trans old mid new kept_so kept_too))

  pub prints_stop : (f : Fault) → more ≡ Err f → Keeps mid new
      → IsUnasked (Some asked) p (Some v) (before ++ es)
      → LeavesNow (Leaves asked p) v (before ++ es) more old new (Err f)
  prints_stop f is kept_too none = λ trace from to came.
      inl (
        waits_now (IsUnasked (Some asked) p) v trace (streams from to old new) (before ++ es) more
            came none f is,
        Keeps-trans old mid new kept_so kept_too,
      )

  pub prints_end : (n : ℕ) → more ≡ Ok false → Keeps mid new
      → n ≡ length (before ++ es) → IsUnasked (Some asked) p (Some v) (before ++ es)
      → LeavesNow (Leaves asked p) v (before ++ es) more old new (Ok (Beyond n))
  prints_end n is kept_too count none =
      explains_end p v before es more old mid new kept_so (Some asked) (Some asked) refl n asked refl
      is kept_too count none

-- ---- before the first edge

pub unasked_first : (asked : ℕ) (p : Plan) (v : Version) → IsUnasked (Some asked) p (Some v) []
unasked_first asked p v = λ low. low

waiting : (asked : ℕ) (p : Plan) → IsUnasked (Some asked) p None []
waiting asked p = λ low. low

pub prints_unbegun : (asked : ℕ) (p : Plan) (trace : List ℕ) (s : Streams) (f : Fault)
    → WroteNothing s → StopsWaiting IsUnread trace (streams s.from s.to None None) f
    → Leaves asked p trace s (Err f)
prints_unbegun asked p trace s f kept_so h =
    inl (stops_unread (IsUnasked (Some asked) p) (waiting asked p) trace s f h, kept_so)

-- ---- what a search among the edges of a piece gave

pub met_of : (mine asked : ℕ) → mine ≡ asked → (p : Plan) (v : Version)
    (before es : List Edge) (now : Racing) (e : Edge) (found : Option Edge)
    → Seeks mine p v before es now found → found ≡ Some e → IsMet asked p v before es now e
met_of mine asked same p v before es now e found sought is =
    subst (λ a. Seeks a p v before es now (Some e)) same
    (subst (Seeks mine p v before es now) is sought)

pub none_of : (mine asked : ℕ) → mine ≡ asked → (p : Plan) (v : Version)
    (before es : List Edge) (now : Racing) (found : Option Edge)
    → Seeks mine p v before es now found → found ≡ None → IsUnasked (Some asked) p (Some v) before
    → AreTaken p v (before ++ es) now × IsUnasked (Some asked) p (Some v) (before ++ es)
none_of mine asked same p v before es now found sought is none =
    let s = subst (λ a. Seeks a p v before es now None) same
    (subst (Seeks mine p v before es now) is sought) in
    (s.0, s.1 none)

-- ---- the line of the next edge

module _ (p : Plan) (v : Version) (es : List Edge) (e : Edge) (now : Racing)
    (taken : AreTaken p v es now) (bytes : List ℕ) where
  verdict_there : (j : Judgement) → verdict now.bus e ≡ j → verdict (kept (bench p v) es) e ≡ j
  verdict_there j is = ap (λ s. verdict s e) (sym taken.1.bus) ∙ is

  pub line_walked : (walk : Walk) → verdict now.bus e ≡ Ok tt
      → IsWalk v p e (numbered (bench p v) es) walk → bytes ≡ walk_line (now.judged + 1) e walk
      → IsLineOf p v es e Done bytes
  line_walked walk accepted goes line =
      inl (
        walk,
        verdict_there (Ok tt) accepted,
        goes,
        line ∙ ap (λ n. walk_line (n + 1) e walk) taken.1.judged,
        refl,
      )

  pub line_refused : (refused : Refused) → verdict now.bus e ≡ Err refused
      → bytes ≡ refused_line (now.judged + 1) e refused → IsLineOf p v es e SomeRefused bytes
  line_refused refused is line =
      inr (
        refused,
        verdict_there (Err refused) is,
        line ∙ ap (λ n. refused_line (n + 1) e refused) taken.1.judged,
        refl,
      )

-- ---- in the loop over edges

module _ (asked : ℕ) (p : Plan) (v : Version) (before es : List Edge) (i : ℕ)
    (h : i < length es) (old : Racing) (taken : AreTaken p v (before ++ take i es) old) where
  longer : length (before ++ take (i + 1) es) ≡ length (before ++ take i es) + 1
  longer =
      let next = length-append before (take (i + 1) es) in
      let now = length-append before (take i es) in
      let one = length-take (i + 1) es in
      let all = length-take i es in omega (arith, all, h, next, now, one)

  pub unasked_next : old.judged + 1 ≢ asked → IsUnasked (Some asked) p (Some v) (before ++ take i es)
      → IsUnasked (Some asked) p (Some v) (before ++ take (i + 1) es)
  unasked_next other none = λ low.
      let count = taken.1.judged in
      let less = none low in
      let more = longer in
      omega (arith, count, less, more, other)

  module _ (d : Edge) where
    pub taken_next : (now : Racing) (line : List ℕ)
        → ((walks : List Walk) → IsKept p v (before ++ take i es) walks old
        → Advances p v (before ++ take i es) walks (get_or es i d) line now)
        → AreTaken p v (before ++ take (i + 1) es) now
    taken_next now line on =
        let next = on taken.0 taken.1 in
        subst (λ (l : List Edge). AreTaken p v l now) (next_list before es i d h) (next.0, next.1)

    pub met_here : old.judged + 1 ≡ asked → IsMet asked p v before es old (get_or es i d)
    met_here at = record {
      front = take i es;
      rest = drop (i + 1) es;
      split = sym (take-append-drop i es) ∙ ap (λ l. take i es ++ l) (drop_more es i d h);
      number = sym at ∙ ap (λ n. n + 1) taken.1.judged;
      taken = taken;
    }
