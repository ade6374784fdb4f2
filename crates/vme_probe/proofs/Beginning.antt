-- What is known when the head of a capture has ended: `judging`.
use Rattle.std.proofs.Common.{◌≡◌, ◌∙◌, ℕ, true, false, List, Option, Some, None, sym, subst}
use Rattle.std.specs.Prelude.{MatchOption}
use Rattle.vme_model.specs.declared.signals.Version.{Version}
use Rattle.vme_model.specs.Plan.{Plan}
use Rattle.vme_captures.specs.declared.reader.Probe.{Probe}
use Rattle.vme_captures.specs.declared.reader.Reader.{Reader}
use Rattle.vme_captures.specs.declared.signals.Entry.{Entry}
use Rattle.vme_captures.specs.Feeding.{HasRead, probes_of}
use Rattle.vme_captures.specs.Reading.{is_running}
use Rattle.vme_standings.specs.declared.segments.Segments.{Segments}
use Rattle.vme_standings.specs.declared.standings.Probed.{Probed}
use Rattle.vme_standings.specs.declared.standings.Standings.{Standings}
use Rattle.vme_standings.specs.Running.{CannotRun, IsPowerUp, Runs}
use Rattle.vme_probe.specs.declared.judging.Known.{Known}
use Rattle.vme_probe.specs.Knowing.{AreLevels, Begins, CannotBegin, CannotStart, IsProbed, StartsWith, is_low_by}
use Rattle.vme_probe.specs.Pins.{HoldsProbed}

module _ (p : Plan) (r : Reader) (bytes : List ℕ) (said : List Entry) (read : HasRead p r bytes said) (probed : Probed) where
  levels : (low : Segments) → HoldsProbed true r.probes.items low → AreLevels (probes_of p said) (is_low_by said) r.lines low
  levels low holds = record {
    lines_are = read.keeps.lines;
    low_are = subst (λ (ps : List Probe). HoldsProbed true ps low) read.keeps.probes holds;
  }

  pub starts_running : (low : Segments) (o : Option Standings) → r.is_running ≡ true → HoldsProbed true r.probes.items low
      → MatchOption o (CannotRun p probed r.lines low) (Runs p probed r.lines low)
      → MatchOption o (CannotStart p (probes_of p said) (is_low_by said) probed (is_running said)) (StartsWith p (probes_of p said) (is_low_by said) probed (is_running said))
  starts_running low None is holds h =
      subst (λ b. CannotStart p (probes_of p said) (is_low_by said) probed b) (sym (sym read.keeps.running ∙ is)) (r.lines, low, levels low holds, h)
  starts_running low (Some st) is holds h =
      subst (λ b. StartsWith p (probes_of p said) (is_low_by said) probed b st) (sym (sym read.keeps.running ∙ is)) (r.lines, low, levels low holds, h)

  pub starts_up : (st : Standings) → r.is_running ≡ false → IsPowerUp p st → StartsWith p (probes_of p said) (is_low_by said) probed (is_running said) st
  starts_up st is h = subst (λ b. StartsWith p (probes_of p said) (is_low_by said) probed b st) (sym (sym read.keeps.running ∙ is)) h

  module _ (v : Version) (named : probed.version ≡ v) (holds : HoldsProbed false r.probes.items probed.segments) where
    are_probed : IsProbed v (probes_of p said) probed
    are_probed = record {
      version_is = named;
      segments = subst (λ (ps : List Probe). HoldsProbed false ps probed.segments) read.keeps.probes holds;
    }

    pub begins : (k : Known) → k.probed ≡ probed → k.changes ≡ 0 → StartsWith p (probes_of p said) (is_low_by said) probed (is_running said) k.standings → Begins p v said k
    begins k same none start = record {
      probed = subst (λ (x : Probed). IsProbed v (probes_of p said) x) (sym same) are_probed;
      start = subst (λ (x : Probed). StartsWith p (probes_of p said) (is_low_by said) x (is_running said) k.standings) (sym same) start;
      none = none;
    }

    pub cannot_begin : CannotStart p (probes_of p said) (is_low_by said) probed (is_running said) → CannotBegin p v said
    cannot_begin h = record { probed = probed; probed_is = are_probed; cannot = h }
