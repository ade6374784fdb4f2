use Rattle.std.proofs.Common.{◌∙◌, sym}
use Rattle.vme_histories.proofs.OfferChoice.{offered_full, offered_with_room}
use Rattle.vme_backplane.proofs.backplanes.Backplane.offers.Goals as goal

pub returns-then-is_full : goal.returns-then-is_full
returns-then-is_full c = c.new.ensures ∙ sym (offered_full c.args.self.now c.args.driver (sym c.is_full.ensures ∙ c.if-is_full.true))

pub returns : goal.returns
returns c = c.offers_but_full.ensures ∙ sym (offered_with_room c.args.self.now c.args.driver (sym c.is_full.ensures ∙ c.if-is_full.false))
