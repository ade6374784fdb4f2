use Rattle.vme_probe.proofs.led_laws.others_are_hindered_behind_a_capture.Goals as goal
use Rattle.vme_probe.proofs.Leading.{led_fits, led_hindered}
use Rattle.vme_probe.proofs.ToldHindered.{printed_hindered}

pub returns-clause-fits : goal.returns-clause-fits
returns-clause-fits c = led_fits

pub returns-clause-hindered : goal.returns-clause-hindered
returns-clause-hindered c = led_hindered

pub returns-clause-printed : goal.returns-clause-printed
returns-clause-printed c = printed_hindered
