-- What is shown of the whole trace.
use Rattle.std.proofs.Common.{◌≡◌, ◌⊎◌, inl, inr, ℕ, ◌-◌, ◌<◌, ◌≤◌, List, length, take, drop, Bool, false, Option, Some, None, Result, Ok, Err, sym, ◌∙◌, ap, subst, arith}
use Rattle.std.proofs.lemmas.List.{length-append, take-append-le}
use Rattle.std.specs.Io.KnownBytes.{Appends, Keeps}
use Rattle.std.proofs.KnownBytes.{Keeps-trans}
use Rattle.vme_model.specs.declared.signals.Version.{Version}
use Rattle.vme_model.specs.declared.signals.Edge.{Edge}
use Rattle.vme_model.specs.Plan.{Plan}
use Rattle.vme_model.specs.Verdict.{kept}
use Rattle.vme_model.specs.Text.{read_of}
use Rattle.vme_show.specs.Picture.{picture}
use Rattle.vme_trace.specs.declared.Fault.{Fault}
use Rattle.vme_trace.specs.declared.Fault.TheVariants.{Write}
use Rattle.vme_trace.specs.Writing.{AppendsFront}
use Rattle.vme_reading.specs.declared.EngineFault.TheVariants as fault
use Rattle.vme_following.specs.declared.following.Printed.{Printed}
use Rattle.vme_following.specs.declared.following.Printed.TheVariants.{Block, Beyond}
use Rattle.vme_show.specs.declared.shows.Stretch.{Stretch}
use Rattle.vme_reading.specs.Streams.{Streams, streams}
use Rattle.vme_reading.specs.Outcomes.{bench, refused_count, status_with}
use Rattle.vme_reading.specs.Pieces.{Came, answered}
use Rattle.vme_reading.specs.Steps.{Begins}
use Rattle.vme_reading.specs.Readings.{Takes}
use Rattle.vme_show.specs.Stretches.{Stage, IsStretch}
use Rattle.vme_show.specs.Showing.{IsShownOut, Shows, StopsShowing, shown_text}
use Rattle.vme_show.specs.Shown.{Ends, IsEnd, IsShown, status_to, stretch_text}
use Rattle.vme_following.specs.Followed.{printed_answer}
use Rattle.vme_reading.proofs.ReadOn.{came_begins}
use Rattle.vme_reading.proofs.Waits.{stops_waiting}
use Rattle.vme_show.proofs.ShownPieces.{ends_behind}

module _ (p : Plan) (v : Version) (all : List ℕ) (s : Streams) (es : List Edge) (begins : Begins (read_of all) v es) (r : Stretch) (is : IsStretch r) where
  -- the edges that came are the first of the trace
  long : length es ≤ length (read_of all).edges
  long = let whole = ap length begins.edges in let both = length-append es begins.others in omega (arith, whole, both)

  first_of : (n : ℕ) → n ≤ length es → take n (read_of all).edges ≡ take n es
  first_of n few = ap (take n) begins.edges ∙ take-append-le n es begins.others few

  -- the last of the stretch came, or all of the trace
  same_to : (r.to ≤ length es) ⊎ ((read_of all).edges ≡ es) → take r.to (read_of all).edges ≡ take r.to es
  same_to (inl few) = first_of r.to few
  same_to (inr whole) = ap (take r.to) whole

  named : (w : Option Version) → w ≡ Some v → (fs : List Edge) → shown_text r.color r.from r.to p (Some v) fs ≡ shown_text r.color r.from r.to p w fs
  named w h fs = ap (λ (x : Option Version). shown_text r.color r.from r.to p x fs) (sym h)

  before_by : (r.to ≤ length es) ⊎ ((read_of all).edges ≡ es) → take (r.from - 1) (read_of all).edges ≡ take (r.from - 1) es
  before_by (inl few) = first_of (r.from - 1) (let order = is.order in omega (arith, order, few))
  before_by (inr whole) = ap (take (r.from - 1)) whole

  text_whole : (r.to ≤ length es) ⊎ ((read_of all).edges ≡ es) → stretch_text r (bench p v) es ≡ shown_text r.color r.from r.to p (read_of all).version (read_of all).edges
  text_whole through =
      ap (λ l. picture r.color r.from (kept (bench p v) l) (drop (r.from - 1) (take r.to es))) (sym (before_by through))
      ∙ ap (λ l. picture r.color r.from (kept (bench p v) (take (r.from - 1) (read_of all).edges)) (drop (r.from - 1) l)) (sym (same_to through))
      ∙ named (read_of all).version begins.version (read_of all).edges

  status_by : (w : Option Version) → w ≡ Some v → (l : List Edge) → status_with (length l - length (kept (bench p v) l).history) ≡ status_with (refused_count p w l)
  status_by w h l = ap (λ (n : ℕ). status_with (length l - n)) (omega arith) ∙ ap (λ (x : Option Version). status_with (refused_count p x l)) (sym h)

  status_whole : (r.to ≤ length es) ⊎ ((read_of all).edges ≡ es) → status_to r.to (bench p v) es ≡ status_with (refused_count p (read_of all).version (take r.to (read_of all).edges))
  status_whole through =
      ap (λ l. status_with (length l - length (kept (bench p v) l).history)) (sym (same_to through))
      ∙ status_by (read_of all).version begins.version (take r.to (read_of all).edges)

  -- by what the last read answered
  through_by : (more : Result Bool Fault) → Came v all s.from s.to es more → (r.to ≤ length es) ⊎ (more ≡ Ok false) → ((r.to ≤ length es) ⊎ ((read_of all).edges ≡ es))
      × IsShownOut r.to (read_of all) s
  through_by more came (inl few) = (inl few, inl (let more_of = long in omega (arith, few, more_of)))
  through_by more came (inr end) = let c : Came v all s.from s.to es (Ok false) = subst (Came v all s.from s.to es) end came in (inr c.1, inr (c.2, c.3))

  stops : (W : List ℕ → Type 0) (f : Fault) (more : Result Bool Fault) → Came v all s.from s.to es more → more ≡ Err f → length es < r.to → W (stretch_text r (bench p v) es)
      → StopsShowing r.color r.from r.to p all s W f
  stops W f more came at low wrote =
      let c : Came v all s.from s.to es (Err f) = subst (Came v all s.from s.to es) at came in
      stops_waiting (λ w l. (length l < r.to) × W (shown_text r.color r.from r.to p w l)) v all s es begins (low, wrote) f c.1

  cut : (more : Result Bool Fault) → Came v all s.from s.to es more → IsEnd r.to es more → AppendsFront s.old s.new (stretch_text r (bench p v) es) → (g : Fault) → g ≡ Write
      → Shows r.from r.to r.color p all s (Err (fault.Trace g))
  cut more came (inl few) wrote g write = let t = through_by more came (inl few) in inr (inl (write, t.1, subst (AppendsFront s.old s.new) (text_whole t.0) wrote))
  cut more came (inr (inl end)) wrote g write = let t = through_by more came (inr end) in inr (inl (write, t.1, subst (AppendsFront s.old s.new) (text_whole t.0) wrote))
  cut more came (inr (inr at)) wrote g write = inr (inr (write, at.0, stops (AppendsFront s.old s.new) at.0 more came at.1 at.2 wrote))

  shows_so : (more : Result Bool Fault) (now : Stage) (answer : Result Printed Fault) → Came v all s.from s.to es more → Ends r (bench p v) es more s.old s.new now (answered answer)
      → Shows r.from r.to r.color p all s (printed_answer answer)
  shows_so more now (Ok (Block status)) came h =
      let t = through_by more came h.1 in ((let reached = h.0 in let more_of = long in omega (arith, reached, more_of)), t.1, subst (Appends s.old s.new) (text_whole t.0) h.2, h.3 ∙ status_whole t.0)
  shows_so more now (Ok (Beyond n)) came h =
      let c : Came v all s.from s.to es (Ok false) = subst (Came v all s.from s.to es) h.0 came in (h.2, h.1 ∙ ap length (sym c.1), c.2, c.3, h.3)
  shows_so more now (Err f) came h = elim h [
    | inl fault_of ↦ inl (stops (Appends s.old s.new) f more came fault_of.0 fault_of.1 fault_of.2)
    | inr write ↦ cut more came write.1 write.2 f write.0
  ]

-- What a piece leaves, or how far it came.
pub shows_takes : (p : Plan) (v : Version) (r : Stretch) (es : List Edge) (more : Result Bool Fault) (old at new : Option (List ℕ)) (now : Stage) (answer : Result (Option Printed) Fault) → IsStretch r
    → Keeps old at → now.stretch ≡ r
    → Ends r (bench p v) es more at new now answer
    → Takes (λ fs x y (s : Stage). (s.stretch ≡ r) × IsStretch r × Keeps x y × (length fs < r.to) × IsShown (bench p v) fs s) (λ trace s a. Shows r.from r.to r.color p trace s (printed_answer a)) v
    es more old new now answer
shows_takes p v r es more old at new now (Ok None) is keeps same h = (same, is, Keeps-trans old at new keeps h.0, h.1, h.2)
shows_takes p v r es more old at new now (Ok (Some printed)) is keeps same h = λ trace from to came.
    shows_so p v trace (streams from to old new) es (came_begins v trace from to es more came) r is more now (Ok printed) came
    (ends_behind r (bench p v) es more old at new now (Ok (Some printed)) keeps h)
shows_takes p v r es more old at new now (Err f) is keeps same h = λ trace from to came.
    shows_so p v trace (streams from to old new) es (came_begins v trace from to es more came) r is more now (Err f) came (ends_behind r (bench p v) es more old at new now (Err f) keeps h)
