use Rattle.vme_samples.proofs.Following.{never_shown, samples_followed}
use Rattle.vme_samples.proofs.laws.samples_stay_covered.Goals as goal

pub returns : goal.returns
returns c = record {
  followed = λ p pins probed g h first last samples changes ok probes covers follow orders legal agree.
      samples_followed p ok pins probed probes g first covers samples last follow changes orders h legal agree;
  impossible = λ p pins probed g h first old samples sample known changes ok probes covers follow ways some none orders legal agree.
      never_shown p ok pins probed probes g first covers samples old follow sample known ways some none changes orders h legal agree;
}
