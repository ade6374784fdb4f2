-- A trace, read by read.
use Rattle.std.proofs.Common.{◌≡◌, ◌⊎◌, inl, inr, ℕ, ◌+◌, ◌*◌, ◌^◌, ◌≤◌, List, [], ◌++◌, length, Bool, true, false, Option, Some, None, unwrap_or, Result, Ok, Err, sym, ◌∙◌, ap, append_assoc, append-nil, subst, arith, option_map}
use Rattle.std.proofs.Math.ListN.{length-append}
use Rattle.std.specs.Io.KnownBytes.{Consumes, IsAtEnd}
use Rattle.std.proofs.KnownBytes.{Consumes-trans, Consumes-kept}
use Rattle.vme_model.specs.declared.signals.Version.{Version}
use Rattle.vme_model.specs.declared.signals.Edge.{Edge}
use Rattle.vme_model.specs.Text.{TextFault, no_header, no_edge, too_long, cut_off, read_of}
use Rattle.vme_trace.specs.declared.Fault.{Fault}
use Rattle.vme_trace.specs.declared.Fault.TheVariants.{Read, Memory, Failed, Write}
use Rattle.vme_trace.specs.Reading as trace
use Rattle.vme_trace.specs.Pieces.{PumpedUpTo, StopsUpTo}
use Rattle.vme_reading.specs.Streams.{IsInput}
use Rattle.vme_reading.specs.Steps.{IsBounded, IsCounted, Begins, Comes}
use Rattle.vme_reading.proofs.TraceSoFar.{reads_on, few_edges, unknown_version}
use Rattle.vme_reading.proofs.CanGoOn.{can_go_on}

-- ---- reading

-- A trace that is being read: it begins with a head, and these are its edges so far.
pub record IsReading (head : List ℕ) (from at : Option (List ℕ)) (reader : trace.ReaderState) (left : ℕ) (es : List Edge) : Type 0 where
  pub later : List ℕ
  pub taken : Consumes from at (head ++ later)
  pub bounded : IsBounded (head ++ later) left
  pub read : trace.HasRead reader (head ++ later) es

pub reading_of : (head : List ℕ) (from to : Option (List ℕ)) (reader : trace.ReaderState) (left : ℕ) (es : List Edge)
    → Comes from to head left reader es (Ok true) → IsReading head from to reader left es
reading_of head from to reader left es h = record { later = h.0; taken = h.1; bounded = h.2; read = h.3 }

pub begins_more : (v : Version) (r : trace.ReaderState) (bytes : List ℕ) (es : List Edge) → trace.HasRead r bytes es → r.version ≡ Some v → (more : List ℕ) → Begins (read_of (bytes ++ more)) v es
begins_more v r bytes es h known more =
    let on = reads_on v r bytes es h known more in record { version = on.2; others = on.0; edges = on.1 }

-- what one more read brings
module _ (head : List ℕ) (from at to : Option (List ℕ)) (reader next : trace.ReaderState) (left : ℕ) (es new : List Edge)
    (r : IsReading head from at reader (left + 1) es) where
  joined : (piece : List ℕ) → Consumes at to piece → Consumes from to (head ++ (r.later ++ piece))
  joined piece h = subst (Consumes from to) (append_assoc head r.later piece) (Consumes-trans from at to (head ++ r.later) piece r.taken h)

  behind : (piece : List ℕ) → (head ++ r.later) ++ piece ≡ head ++ (r.later ++ piece)
  behind piece = append_assoc head r.later piece

  came_true : PumpedUpTo 69632 at to (head ++ r.later) es [] new next (Ok true) → Comes from to head left next (es ++ new) (Ok true)
  came_true h =
      let same : new ≡ h.4.0 = h.4.1 in
      let read : trace.HasRead next ((head ++ r.later) ++ h.0) (es ++ new) = rw same h.4.2 in
      let length_is : length (head ++ (r.later ++ h.0)) ≡ length (head ++ r.later) + length h.0 = ap length (sym (behind h.0)) ∙ length-append (head ++ r.later) h.0 in
      let bounded : length (head ++ r.later) + 69632 * (left + 1) ≤ 2 ^ 41 = r.bounded in
      let short : length h.0 ≤ 69632 = h.2 in
      (r.later ++ h.0, joined h.0 h.3, omega arith, subst (λ (l : List ℕ). trace.HasRead next l (es ++ new)) (behind h.0) read)

  came_false : PumpedUpTo 69632 at to (head ++ r.later) es [] new next (Ok false) → Comes from to head left next (es ++ new) (Ok false)
  came_false h =
      (r.later, Consumes-kept from at to (head ++ r.later) r.taken h.1, h.0, h.4, r.read.edges ∙ sym (append-nil es) ∙ ap (λ l. es ++ l) (sym h.2), h.5)

  came_read : (f : Fault) → trace.FailsToRead at to (head ++ r.later) [] new next f → Comes from to head left next (es ++ new) (Err f)
  came_read f h =
      let same : es ++ new ≡ es = ap (λ l. es ++ l) h.2 ∙ append-nil es in
      let stays : next.version ≡ reader.version = h.4 ∙ r.read.version in (
        r.later,
        Consumes-kept from at to (head ++ r.later) r.taken h.1,
        inl (
          h.0,
          record {
            version = h.4;
            edges = r.read.edges ∙ sym same;
            goes_on = can_go_on reader (head ++ r.later) es r.read;
            begins = λ w e. rw same (begins_more w reader (head ++ r.later) es r.read (sym stays ∙ e) (unwrap_or to []));
          },
        ),
      )

  came_fault : (f : Fault) → StopsUpTo 69632 at to (head ++ r.later) es [] new next f → Comes from to head left next (es ++ new) (Err f)
  came_fault f h =
      let same : new ≡ h.1 = h.4 in
      let stops : trace.HasFaultAfter (read_of (((head ++ r.later) ++ h.0) ++ unwrap_or to [])) next.version (es ++ new) f = rw same h.5.1 in (
        r.later ++ h.0,
        joined h.0 h.3,
        inr (subst (λ (l : List ℕ). trace.HasFaultAfter (read_of (l ++ unwrap_or to [])) next.version (es ++ new) f) (behind h.0) stops),
      )

  pub came : (answer : Result Bool Fault) → PumpedUpTo 69632 at to (head ++ r.later) es [] new next answer → Comes from to head left next (es ++ new) answer
  came (Ok true) h = came_true h
  came (Ok false) h = came_false h
  came (Err f) h = elim h [ inl failed ↦ came_read f failed | inr stopped ↦ came_fault f stopped ]

  -- the version stays known
  pub stays_known : (v : Version) → reader.version ≡ Some v → (answer : Result Bool Fault) → PumpedUpTo 69632 at to (head ++ r.later) es [] new next answer → next.version ≡ Some v
  stays_known v known (Ok true) h = sym h.4.2.version ∙ (reads_on v reader (head ++ r.later) es r.read known h.0).2
  stays_known v known (Ok false) h = h.4 ∙ r.read.version ∙ known
  stays_known v known (Err f) h = elim h [
    | inl failed ↦ failed.4 ∙ r.read.version ∙ known
    | inr stopped ↦ sym stopped.5.1.version_is ∙ ap (λ l. (read_of l).version) (append_assoc (head ++ r.later) stopped.0 (unwrap_or to []))
        ∙ (reads_on v reader (head ++ r.later) es r.read known (stopped.0 ++ unwrap_or to [])).2
  ]

pub counted_few : (reader : trace.ReaderState) (left judged : ℕ) → IsCounted reader left judged → judged ≤ 2 ^ 41
counted_few reader left judged r =
    let bound : length (read_of r.bytes).edges ≤ length r.bytes = few_edges r.bytes in
    let all : length (read_of r.bytes).edges ≡ length r.es = ap length r.read.edges in
    let bounded : length r.bytes + 69632 * left ≤ 2 ^ 41 = r.bounded in
    let count : judged ≡ length r.es = r.count in
    omega arith

pub counted_more : (at to : Option (List ℕ)) (reader next : trace.ReaderState) (left judged : ℕ) (new : List Edge) (r : IsCounted reader (left + 1) judged)
    → PumpedUpTo 69632 at to r.bytes r.es [] new next (Ok true) → IsCounted next left (judged + length new)
counted_more at to reader next left judged new r h =
    let same : new ≡ h.4.0 = h.4.1 in
    let longer = length-append r.bytes h.0 in
    let more = length-append r.es new in
    let bounded : length r.bytes + 69632 * (left + 1) ≤ 2 ^ 41 = r.bounded in
    let short : length h.0 ≤ 69632 = h.2 in
    let count : judged ≡ length r.es = r.count in
    record { bytes = r.bytes ++ h.0; es = r.es ++ new; read = rw same h.4.2; bounded = omega (arith, longer); count = omega (arith, more) }

-- a read before the header line
pub opens_more : (from at to : Option (List ℕ)) (reader next : trace.ReaderState) (left : ℕ) (new : List Edge) (r : IsReading [] from at reader (left + 1) [])
    → PumpedUpTo 69632 at to r.later [] [] new next (Ok true) → next.version ≡ None → IsReading [] from to next left [] × (new ≡ [])
opens_more from at to reader next left new r h unknown =
    let all : IsReading [] from to next left new = reading_of [] from to next left new (came [] from at to reader next left [] new r (Ok true) h) in
    let none : new ≡ [] = sym all.read.edges ∙ (unknown_version all.later (all.read.version ∙ unknown)).0 in
    (subst (IsReading [] from to next left) none all, none)

-- ---- the input

-- what was taken and what is left is all
pub whole_input : (from to : Option (List ℕ)) (bytes : List ℕ) → Consumes from to bytes → IsInput from (bytes ++ unwrap_or to [])
whole_input None to bytes h = tt
whole_input (Some xs) None bytes h = absurd h
whole_input (Some xs) (Some ys) bytes h = h

pub read_out : (from to : Option (List ℕ)) (all : List ℕ) → Consumes from to all → IsAtEnd to → IsInput from all
read_out None to all h end = tt
read_out (Some xs) None all h end = absurd h
read_out (Some xs) (Some ys) all h end = h ∙ ap (λ l. all ++ l) end ∙ append-nil all

-- ---- the faults of a trace

-- what a fault of a trace is not
pub no_such : (t : Option TextFault) (f : Fault) → option_map trace.fault_of t ≡ Some f → (f ≡ Read) ⊎ (f ≡ Memory) ⊎ (f ≡ Failed) ⊎ (f ≡ Write) → ⊥
no_such None f h which = cc
no_such (Some no_header) f h which = elim which [ inl e ↦ cc | inr r ↦ elim r [ inl e ↦ cc | inr q ↦ elim q [ inl e ↦ cc | inr e ↦ cc ] ] ]
no_such (Some (no_edge n)) f h which = elim which [ inl e ↦ cc | inr r ↦ elim r [ inl e ↦ cc | inr q ↦ elim q [ inl e ↦ cc | inr e ↦ cc ] ] ]
no_such (Some (too_long n)) f h which = elim which [ inl e ↦ cc | inr r ↦ elim r [ inl e ↦ cc | inr q ↦ elim q [ inl e ↦ cc | inr e ↦ cc ] ] ]
no_such (Some cut_off) f h which = elim which [ inl e ↦ cc | inr r ↦ elim r [ inl e ↦ cc | inr q ↦ elim q [ inl e ↦ cc | inr e ↦ cc ] ] ]
