use Rattle.std.proofs.Common.{◌≡◌, Bool, true, false, arith}
use Rattle.std.specs.Prelude.{◌&&◌, ◌||◌, not}
use Rattle.vme_bus.specs.Sets.{has}
use Rattle.vme_standings.proofs.Tests.{by_test, is_false, same_states}
use Rattle.vme_standings.proofs.requests.Requests.acknowledged.Goals as goal

-- one slot: whether it answers, and with others; whether it answers alone, is served by it, and is of those that are
module _ (answers others alone served roak : Bool) (is_alone : alone ≡ (answers && not others)) (is_served : served ≡ (answers && roak)) where
  high_other : (new old : Bool) → new ≡ (old && not alone) → answers ≡ false → new ≡ old
  high_other new old e off = grind arith

  pending_other : (new old ends : Bool) → new ≡ (old && not ends) → ends ≡ (alone && roak) → answers ≡ false → new ≡ old
  pending_other new old ends e f off = grind arith

  served_other : (new old kept ends : Bool) → new ≡ (kept || served) → kept ≡ (old && not ends) → ends ≡ (alone && not roak) → answers ≡ false → new ≡ old
  served_other new old kept ends e f g off = grind arith

  high_several : (new old : Bool) → new ≡ (old && not alone) → others ≡ true → new ≡ old
  high_several new old e on = grind arith

  pending_several : (new old ends : Bool) → new ≡ (old && not ends) → ends ≡ (alone && roak) → others ≡ true → new ≡ old
  pending_several new old ends e f on = grind arith

  served_several : (new old kept ends : Bool) → new ≡ (kept || served) → kept ≡ (old && not ends) → ends ≡ (alone && not roak) → answers ≡ true → others ≡ true → new ≡ (old || roak)
  served_several new old kept ends e f g on with_others = grind arith

  high_alone : (new old : Bool) → new ≡ (old && not alone) → answers ≡ true → others ≡ false → new ≡ false
  high_alone new old e on off = grind arith

  pending_alone : (new old ends : Bool) → new ≡ (old && not ends) → ends ≡ (alone && roak) → answers ≡ true → others ≡ false → new ≡ (old && not roak)
  pending_alone new old ends e f on off = grind arith

  served_alone : (new old kept ends : Bool) → new ≡ (kept || served) → kept ≡ (old && not ends) → ends ≡ (alone && not roak) → answers ≡ true → others ≡ false → new ≡ roak
  served_alone new old kept ends e f g on off = grind arith

pub returns : goal.returns
returns c = record {
  others = λ s from near off.
      let a = c.except-alone.ensures.within s near in
      let b = c.both-served.ensures.within s near in
      same_states c.args.self _ s
      (high_other _ _ _ _ _ a b _ _ (c.except.ensures.within s near) off)
      (pending_other _ _ _ _ _ a b _ _ _ (c.except-2.ensures.within s near) (c.both.ensures.within s near) off)
      (served_other _ _ _ _ _ a b _ _ _ _ (c.or.ensures s) (c.except-4.ensures.within s near) (c.except-3.ensures.within s near) off);
  either = λ s from near on. by_test (has c.several.result s) (c.several.ensures.other s from near) (c.several.ensures.several s from near on);
  several = λ s from near on other.
      let a = c.except-alone.ensures.within s near in
      let b = c.both-served.ensures.within s near in
      let more = c.several.ensures.several s from near on other in (
        high_several _ _ _ _ _ a b _ _ (c.except.ensures.within s near) more,
        pending_several _ _ _ _ _ a b _ _ _ (c.except-2.ensures.within s near) (c.both.ensures.within s near) more,
        served_several _ _ _ _ _ a b _ _ _ _ (c.or.ensures s) (c.except-4.ensures.within s near) (c.except-3.ensures.within s near) on more,
      );
  alone = λ s from near on none.
      let a = c.except-alone.ensures.within s near in
      let b = c.both-served.ensures.within s near in
      let less = is_false (has c.several.result s) (λ v. none (c.several.ensures.other s from near v)) in (
        high_alone _ _ _ _ _ a b _ _ (c.except.ensures.within s near) on less,
        pending_alone _ _ _ _ _ a b _ _ _ (c.except-2.ensures.within s near) (c.both.ensures.within s near) on less,
        served_alone _ _ _ _ _ a b _ _ _ _ (c.or.ensures s) (c.except-4.ensures.within s near) (c.except-3.ensures.within s near) on less,
      );
}
