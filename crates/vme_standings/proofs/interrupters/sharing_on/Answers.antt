use Rattle.std.proofs.Common.{◌≡◌, ◌∙◌, sym, true}
use Rattle.vme_standings.specs.Requests.{is_on_level}
use Rattle.vme_standings.proofs.RequestRows.{interrupts_there}
use Rattle.vme_standings.proofs.RequestLaws.{interrupter_in}
use Rattle.vme_standings.proofs.interrupters.sharing_on.Goals as goal

pub returns : goal.returns
returns c = record {
  all = λ s t on also differs.
      let i = interrupter_in c.args.plan.now c.accepted.ensures s (interrupts_there c.args.plan.now c.args.level s on) in
      let j = interrupter_in c.args.plan.now c.accepted.ensures t (interrupts_there c.args.plan.now c.args.level t also) in
      c.several.ensures.several s i.from i.near (c.slots.ensures s ∙ on)
      (record { other = t; positive = j.from; differs = differs; held = c.slots.ensures t ∙ also });
  others = λ s held.
      let on : is_on_level c.args.plan.now c.args.level s ≡ true = sym (c.slots.ensures s) ∙ c.several.ensures.held s held in
      let i = interrupter_in c.args.plan.now c.accepted.ensures s (interrupts_there c.args.plan.now c.args.level s on) in
      let o = c.several.ensures.other s i.from i.near held in
      record { other = o.other; differs = o.differs; on = on; also = sym (c.slots.ensures o.other) ∙ o.held };
}
