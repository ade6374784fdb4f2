use Rattle.std.proofs.Common.{◌∙◌, sym, ap, subst, ℕ, get_or}
use Rattle.std.specs.Prelude.{Option, min}
use Rattle.std.specs.Option.{option_map_or, option_and_then}
use Rattle.vme_model.specs.declared.boards.Release.{Release}
use Rattle.vme_model.specs.declared.boards.Row.{Row}
use Rattle.vme_model.specs.declared.boards.RequesterRow.{RequesterRow}
use Rattle.vme_model.specs.declared.signals.Driver.TheVariants.{Slot}
use Rattle.vme_model.specs.Guards.{free}
use Rattle.vme_model.specs.History.{cycles}
use Rattle.vme_model.specs.Rules.{below_burst}
use Rattle.vme_master.specs.Local.{most_cycles}
use Rattle.vme_master.proofs.Counts.{burst_guard}
use Rattle.vme_bus.proofs.Guards.{requester_of, released_as}
use Rattle.vme_bus.proofs.states.BusState.bursting.Goals as goal

pub returns : goal.returns
returns g c version p h r is found some =
    let s = c.args.slot in
    let k = requester_of r.requester some in
    let q = k.0 in
    let n = cycles h (Slot s) in
    let counted = ap (λ (i : ℕ). get_or c.args.self.now.cycles i 0) c.from.ensures ∙ is.cycles s c.requires
    ∙ ap (λ (o : Option Row). option_map_or (λ r. option_map_or (λ q. min n (most_cycles q.release)) r.requester 0) o 0) found
    ∙ ap (λ (o : Option RequesterRow). option_map_or (λ q. min n (most_cycles q.release)) o 0) k.1 in
    let guarded =
    ap (λ (o : Option Row). option_map_or (λ q. below_burst n q.release) (option_and_then (λ b. b.requester) o) free) found
    ∙ ap (λ (o : Option RequesterRow). option_map_or (λ q. below_burst n q.release) o free) k.1 in
    subst (λ k. g.A.Outcome.reports c.below_burst.result k)
    (ap (λ m. below_burst m c.release.result) counted
    ∙ ap (λ (x : Release). below_burst (min n (most_cycles q.release)) x) (c.release.ensures version p h is ∙ released_as p s r q found k.1)
    ∙ burst_guard n q.release ∙ sym guarded)
    c.below_burst.ensures
