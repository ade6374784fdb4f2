-- A probe that is found has a pin of a slot.
use Rattle.std.proofs.Common.{◌≡◌, Bool, true, List, Option, Some, None, find, refl, sym}
use Rattle.std.specs.Prelude.{IsTrue}
use Rattle.vme_model.specs.Signals.{is_slot}
use Rattle.vme_trace.proofs.AllEdges.{find_in, in_all}
use Rattle.vme_captures.specs.declared.reader.Probe.{Probe}
use Rattle.vme_probe.specs.Ends.{are_slots, is_probe}

by_found : (probes : List Probe) (t : Probe → Bool) (o : Option Probe) → find t probes ≡ o → are_slots probes ≡ true → is_probe o ≡ true
by_found probes t None h all = refl
by_found probes t (Some r) h all = in_all (λ x. is_slot x.pin.slot) r probes all (find_in t r probes h).0

pub probe_passes : (probes : List Probe) (t : Probe → Bool) (o : Option Probe) → o ≡ find t probes → IsTrue (are_slots probes) → IsTrue (is_probe o)
probe_passes probes t o h all = by_found probes t o (sym h) all
