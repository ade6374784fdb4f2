use Rattle.std.proofs.Common.{◌≡◌, ◌∙◌, sym, true, false}
use Rattle.vme_model.specs.declared.signals.Driver.TheVariants.{Controller}
use Rattle.vme_model.specs.declared.signals.Wire.TheVariants.{Bg}
use Rattle.vme_model.specs.History.{drive}
use Rattle.vme_model.specs.Witnesses.{seen}
use Rattle.vme_explain.proofs.Grown.{passed_more, failed_more}
use Rattle.vme_explain.proofs.lines.push_grant.Goals as goal

pub returns-then-is_low-clause-witnesses : goal.returns-then-is_low-clause-witnesses
returns-then-is_low-clause-witnesses c = λ k at is.
    let b = c.args.bus.now in
    let level = c.args.level in
    let low : drive b.history Controller (Bg level) ≡ true = sym c.is_low.ensures.low ∙ c.if-is_low.true in
    passed_more (λ n. seen b k Controller (Bg n)) (λ n. drive b.history Controller (Bg n)) level c.args.witnesses.now.items c.push.new.self.items c.seen.result low
    (c.seen.ensures k at is) c.push.ensures.items

pub returns-else-is_low-clause-witnesses : goal.returns-else-is_low-clause-witnesses
returns-else-is_low-clause-witnesses c = λ k at is.
    let b = c.args.bus.now in
    let level = c.args.level in
    let high : drive b.history Controller (Bg level) ≡ false = sym c.is_low.ensures.low ∙ c.if-is_low.false in
    failed_more (λ n. seen b k Controller (Bg n)) (λ n. drive b.history Controller (Bg n)) level c.args.witnesses.now.items high
