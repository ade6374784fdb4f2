use Rattle.std.proofs.Common.{ℕ, Bool, [], ◌∷◌}
use Rattle.vme_model.specs.declared.witnesses.Witness.{Witness}
use Rattle.vme_model.specs.declared.signals.Driver.TheVariants.{Controller}
use Rattle.vme_model.specs.declared.signals.Wire.TheVariants.{Bg}
use Rattle.vme_model.specs.History.{drive}
use Rattle.vme_model.specs.Witnesses.{seen}
use Rattle.vme_explain.proofs.Grown.{grown}
use Rattle.vme_explain.proofs.lines.tell_low_grants.Goals as goal

pub returns-clause-told : goal.returns-clause-told
returns-clause-told c = λ k at is.
    let b = c.args.bus.now in
    let f : ℕ → Witness = λ n. seen b k Controller (Bg n) in
    let low : ℕ → Bool = λ n. drive b.history Controller (Bg n) in
    let o = c.args.told.now.items in
    let two = grown f low o c.tell_grant.new.told.items c.tell_grant-2.new.told.items (0 ∷ []) (1 ∷ []) (c.tell_grant.ensures.told k at is) (c.tell_grant-2.ensures.told k at is) in
    let three = grown f low o c.tell_grant-2.new.told.items c.tell_grant-3.new.told.items (0 ∷ 1 ∷ []) (2 ∷ []) two (c.tell_grant-3.ensures.told k at is) in
    grown f low o c.tell_grant-3.new.told.items c.tell_grant-4.new.told.items (0 ∷ 1 ∷ 2 ∷ []) (3 ∷ []) three (c.tell_grant-4.ensures.told k at is)
