use Rattle.std.proofs.Common.{◌∙◌, refl, sym, subst, []}
use Rattle.vme_wiring.specs.Counts.{IsLines}
use Rattle.vme_wiring.proofs.Fresh.{high_lines, high_shared, boards_in_places}
use Rattle.vme_histories.proofs.Addressing.{none_addresses}
use Rattle.vme_wiring.proofs.FieldReads.{arbiter_of}
use Rattle.vme_wiring.proofs.wirings.Wiring.new.Goals as goal

pub returns : goal.returns
returns c = record {
  accepted = c.accepted.ensures;
  legal = tt;
  rules = refl;
  slots = c.slots.ensures;
  room = c.boards_of.ensures.room;
  boards = boards_in_places c.args.version c.args.plan.now c.boards_of.result c.accepted.ensures c.boards_of.ensures.room c.boards_of.ensures.boards;
  arbiter = c.new.ensures ∙ arbiter_of c.from.result c.args.plan.now.arbiter c.arbiter-2.result c.args.version (c.from.ensures ∙ c.arbiter.ensures) c.arbiter-2.ensures;
  lines = subst (IsLines c.args.plan.now []) (sym c.new-2.ensures) (high_lines c.args.plan.now);
  chains = c.new-3.ensures;
  shared = c.all_high.ensures ∙ high_shared c.args.plan.now;
  addressing = none_addresses c.args.plan.now;
}
