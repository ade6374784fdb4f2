-- What is written at the end of a capture, behind the lines of its changes: `probes`.
use Rattle.std.proofs.Common.{◌≡◌, ◌++◌, ℕ, List, Option, Some, None, Result, Ok, Err, refl, sym, subst, inl, inr}
use Rattle.std.specs.Io.KnownBytes.{Appends}
use Rattle.std.proofs.KnownBytes.{Appends-trans}
use Rattle.vme_model.specs.declared.signals.Version.{Version}
use Rattle.vme_model.specs.Plan.{Plan}
use Rattle.vme_trace.specs.declared.Fault.{Fault}
use Rattle.vme_trace.specs.declared.Fault.TheVariants as trace
use Rattle.vme_trace.proofs.WrittenLines.{second_front}
use Rattle.vme_captures.specs.declared.reader.Probe.{Probe}
use Rattle.vme_captures.specs.declared.signals.Entry.{Entry}
use Rattle.vme_captures.specs.Feeding.{probes_of}
use Rattle.vme_reading.specs.declared.Status.{Status}
use Rattle.vme_reading.specs.declared.Status.TheVariants.{SomeRefused}
use Rattle.vme_samples.specs.declared.samples.SeenChange.{SeenChange}
use Rattle.vme_probe.specs.declared.judging.Known.{Known}
use Rattle.vme_probe.specs.Knowing.{Begun, CannotBegin, Ends, HasLines, IsStoppedAtEnd, IsUnbegun, IsWhole, StopsSample, TakesSample, no_beginning}
use Rattle.vme_probe.specs.Steps.{EndWritten, HeadEnded, IsOfEnd, IsOfSample, SampleTaken, Stands, WholeWritten}

module _ (p : Plan) (skew : Option ℕ) (v : Version) (said : List Entry) (from mid : Option (List ℕ)) where
  module _ (before : Option Known) (waits : List SeenChange) (s : Stands p skew v said before waits from mid) where
    -- the sample that waits was judged
    module _ (k after : Known) (begun : Begun p v said before k) (sample : List ℕ) (takes : TakesSample p k waits after sample) where
      pub lines_of : HasLines p v skew said after (s.text ++ sample)
      lines_of = record {
        before = before;
        waits = waits;
        lines = s.text;
        judged = s.judged;
        known = k;
        begun = begun;
        sample = sample;
        takes = takes;
        is = refl;
      }

      whole_of : (text : List ℕ) → Ends p after (probes_of p said) text → IsWhole p v skew said ((s.text ++ sample) ++ text)
      whole_of text ends = record {
        after = after;
        lines = s.text ++ sample;
        has = lines_of;
        last = text;
        ends = ends;
        is = refl;
      }

      pub end_written : (near to : Option (List ℕ)) (probes : List Probe) (r : Result Status Fault) → Appends mid near sample → probes ≡ probes_of p said
          → EndWritten p after probes near to r → WholeWritten p skew v said from to r
      end_written near to probes (Ok status) wrote are h =
          subst (λ x. WholeWritten p skew v said from to (Ok x)) (sym h.3) (
            (s.text ++ sample) ++ h.0,
            whole_of h.0 (subst (λ (ps : List Probe). Ends p after ps h.0) are h.1),
            Appends-trans from near to (s.text ++ sample) h.0 (Appends-trans from mid near s.text sample s.wrote wrote) h.2,
          )
      end_written near to probes (Err f) wrote are h = (
        h.0,
        (s.text ++ sample) ++ h.1,
        inr (inr (inr (whole_of h.1 (subst (λ (ps : List Probe). Ends p after ps h.1) are h.2)))),
        second_front from near to (s.text ++ sample) h.1 (Appends-trans from mid near s.text sample s.wrote wrote) h.3,
      )

  module _ (k : Known) (waits : List SeenChange) (s : Stands p skew v said (Some k) waits from mid) where
    stopped_of : (text : List ℕ) → StopsSample p k waits text → IsStoppedAtEnd p v skew said (s.text ++ text)
    stopped_of text stops = record {
      known = k;
      waits = waits;
      lines = s.text;
      judged = s.judged;
      others = text;
      stops = stops;
      is = refl;
    }

    of_sample : (text : List ℕ) → IsOfSample p k waits text → IsOfEnd p v skew said (s.text ++ text)
    of_sample text (inl h) = inr (inr (inl (h.0, lines_of (Some k) waits s k h.0 refl text h.1)))
    of_sample text (inr h) = inr (inl (stopped_of text h))

    -- its text could not be written
    pub last_cut : (after : Known) (to : Option (List ℕ)) (f : Fault) → SampleTaken p waits k after mid to (Err f) → WholeWritten p skew v said from to (Err f)
    last_cut after to f h = (h.0, s.text ++ h.1, of_sample h.1 h.2, second_front from mid to s.text h.1 s.wrote h.3)

    -- the sample that waits is impossible
    pub last_stopped : (after : Known) (to : Option (List ℕ)) (status : Status) → SampleTaken p waits k after mid to (Ok (Some status)) → WholeWritten p skew v said from to (Ok status)
    last_stopped after to status h =
        subst (λ x. WholeWritten p skew v said from to (Ok x)) (sym h.3)
        (s.text ++ h.0, inr (stopped_of h.0 h.1), Appends-trans from mid to s.text h.0 s.wrote h.2)

  module _ (waits : List SeenChange) (s : Stands p skew v said None waits from mid) where
    unbegun : CannotBegin p v said → IsUnbegun p v skew said (s.text ++ no_beginning)
    unbegun cannot = record {
      waits = waits;
      lines = s.text;
      judged = s.judged;
      cannot = cannot;
      is = refl;
    }

    pub head_written : (to : Option (List ℕ)) → HeadEnded p v said mid to (Ok None) → WholeWritten p skew v said from to (Ok SomeRefused)
    head_written to h = (s.text ++ no_beginning, inl (unbegun h.0), Appends-trans from mid to s.text no_beginning s.wrote h.1)

    pub head_cut : (to : Option (List ℕ)) (f : Fault) → HeadEnded p v said mid to (Err f) → WholeWritten p skew v said from to (Err f)
    head_cut to f h = (h.0, s.text ++ no_beginning, inl (unbegun h.1), second_front from mid to s.text no_beginning s.wrote h.2)
