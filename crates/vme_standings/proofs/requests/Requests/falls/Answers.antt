use Rattle.std.proofs.Common.{◌≡◌, ◌∙◌, Bool, true, false}
use Rattle.vme_bus.specs.Sets.{has}
use Rattle.vme_standings.proofs.Tests.{is_false, or_true, or_false, and_not_true, and_not_false, what_is_new, same_states}
use Rattle.vme_standings.proofs.requests.Requests.falls.Goals as goal

never : (b : Bool) → b ≡ true → b ≡ false → ⊥
never b on off = cc

pub returns : goal.returns
returns c = record {
  others = λ s from near off.
      same_states c.args.self _ s
      (c.or.ensures s
      ∙ or_false _ _ (is_false (has c.several.result s) (λ on. never (has c.args.boards s) (c.several.ensures.held s on) off))
      ∙ c.except.ensures.within s near ∙ and_not_false _ _ off)
      (c.or-2.ensures s ∙ or_false _ _ off)
      (c.except-2.ensures.within s near ∙ and_not_false _ _ off);
  pending = λ s from near on. c.or-2.ensures s ∙ or_true _ _ on;
  served = λ s from near on. c.except-2.ensures.within s near ∙ and_not_true _ _ on;
  shared = λ s from near on other. c.or.ensures s ∙ or_true _ _ (c.several.ensures.several s from near on other);
  alone = λ s from near on high.
      c.several.ensures.other s from near
      (what_is_new _ _ _ _ _ (c.or.ensures s) (c.except.ensures.within s near) on high);
}
