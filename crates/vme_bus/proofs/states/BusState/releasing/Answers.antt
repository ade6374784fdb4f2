use Rattle.std.proofs.Common.{◌∙◌, sym, ap, subst}
use Rattle.std.specs.Prelude.{Option}
use Rattle.std.specs.List.{list_any}
use Rattle.std.specs.Option.{option_map_or, option_and_then}
use Rattle.vme_model.specs.declared.boards.Release.{Release}
use Rattle.vme_model.specs.declared.boards.Row.{Row}
use Rattle.vme_model.specs.declared.boards.RequesterRow.{RequesterRow}
use Rattle.vme_model.specs.Guards.{free}
use Rattle.vme_model.specs.History.{request_line}
use Rattle.vme_model.specs.Rules.{bus_numbers, released}
use Rattle.vme_bus.proofs.Guards.{requester_of, released_as}
use Rattle.vme_bus.proofs.states.BusState.releasing.Goals as goal

pub returns : goal.returns
returns g c version p h r is found some =
    let k = requester_of r.requester some in
    let q = k.0 in
    let asked = list_any (request_line p h) bus_numbers in
    let guarded =
    ap (λ (o : Option Row). option_map_or (λ q. released asked q.release) (option_and_then (λ b. b.requester) o) free) found
    ∙ ap (λ (o : Option RequesterRow). option_map_or (λ q. released asked q.release) o free) k.1 in
    subst (λ k. g.A.Outcome.reports c.released.result k)
    (ap (λ b. released b c.release.result) (c.is_asked.ensures version p h is)
    ∙ ap (λ (x : Release). released asked x) (c.release.ensures version p h is ∙ released_as p c.args.slot r q found k.1)
    ∙ sym guarded)
    c.released.ensures
