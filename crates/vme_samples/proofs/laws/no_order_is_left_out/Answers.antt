use Rattle.vme_samples.proofs.Walk.{order_gathered, order_named, order_reached}
use Rattle.vme_samples.proofs.laws.no_order_is_left_out.Goals as goal

pub returns : goal.returns
returns c = record {
  reached = λ p pins probed g h start sample known ok probes covers ways shows.
      order_reached p ok pins probed sample start known ways probes g covers h shows;
  gathered = λ p pins probed g h start sample known all ok probes covers ways shows some gathered.
      order_gathered p ok pins probed sample start known ways probes g covers h shows some all gathered;
  named = λ p pins probed g h start sample known by ok probes covers ways shows makers.
      order_named p ok pins probed sample start known ways probes g covers h shows by makers;
}
