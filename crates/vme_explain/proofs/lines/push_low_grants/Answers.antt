use Rattle.std.proofs.Common.{ℕ, Bool, [], ◌∷◌}
use Rattle.vme_model.specs.declared.witnesses.Witness.{Witness}
use Rattle.vme_model.specs.declared.signals.Driver.TheVariants.{Controller}
use Rattle.vme_model.specs.declared.signals.Wire.TheVariants.{Bg}
use Rattle.vme_model.specs.History.{drive}
use Rattle.vme_model.specs.Witnesses.{seen}
use Rattle.vme_explain.proofs.Grown.{grown}
use Rattle.vme_explain.proofs.lines.push_low_grants.Goals as goal

pub returns-clause-witnesses : goal.returns-clause-witnesses
returns-clause-witnesses c = λ k at is.
    let b = c.args.bus.now in
    let f : ℕ → Witness = λ n. seen b k Controller (Bg n) in
    let low : ℕ → Bool = λ n. drive b.history Controller (Bg n) in
    let o = c.args.witnesses.now.items in
    let two = grown f low o c.push_grant.new.witnesses.items c.push_grant-2.new.witnesses.items (0 ∷ []) (1 ∷ []) (c.push_grant.ensures.witnesses k at is) (c.push_grant-2.ensures.witnesses k at is) in
    let three = grown f low o c.push_grant-2.new.witnesses.items c.push_grant-3.new.witnesses.items (0 ∷ 1 ∷ []) (2 ∷ []) two (c.push_grant-3.ensures.witnesses k at is) in
    grown f low o c.push_grant-3.new.witnesses.items c.push_grant-4.new.witnesses.items (0 ∷ 1 ∷ 2 ∷ []) (3 ∷ []) three (c.push_grant-4.ensures.witnesses k at is)
