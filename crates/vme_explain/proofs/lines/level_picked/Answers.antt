use Rattle.std.proofs.Common.{◌≡◌, ◌∙◌, ap}
use Rattle.vme_model.specs.declared.pins.Pins.{Pins}
use Rattle.vme_model.specs.Sets.{bus_levels}
use Rattle.vme_model.specs.Plan.{Plan}
use Rattle.vme_model.specs.History.{last_level, request_line}
use Rattle.vme_explain.proofs.Witnessed.{pick_witness}
use Rattle.vme_explain.proofs.lines.level_picked.Goals as goal

pub returns : goal.returns
returns c =
    let b = c.args.bus.now in
    let level : c.last_level.result ≡ last_level b.history = c.last_level.ensures in
    let requests : c.pins.result.requests ≡ bus_levels (request_line b.plan b.history) = ap (λ (x : Pins). x.requests) c.pins.ensures in
    let kind : c.from.result.kind ≡ b.plan.arbiter = c.from.ensures ∙ c.arbiter.ensures ∙ ap (λ (p : Plan). p.arbiter) c.plan.ensures in
    pick_witness c.from.result.kind b.plan b.history c.pins.result.requests c.last_level.result c.pick.result c.pick.ensures kind requests level
