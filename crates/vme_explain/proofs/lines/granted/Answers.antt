use Rattle.std.proofs.Common.{◌≡◌}
use Rattle.vme_model.specs.History.{last_level}
use Rattle.vme_model.specs.Numbered.{granted_since}
use Rattle.vme_explain.proofs.lines.granted.Goals as goal

pub returns : goal.returns
returns c = λ k at is.
    let b = c.args.bus.now in
    let level : c.last_level.result ≡ last_level b.history = c.last_level.ensures in
    let grant : c.granted_since.result ≡ granted_since k = c.granted_since.ensures b.plan k is in
    cc
