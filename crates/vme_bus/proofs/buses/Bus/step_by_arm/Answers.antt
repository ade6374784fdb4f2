use Rattle.std.proofs.Common.{◌≡◌, ◌∙◌, sym, ap, subst, true, false, List, length}
use Rattle.std.specs.Prelude.{◌==◌}
use Rattle.vme_model.specs.declared.signals.Edge.{Edge}
use Rattle.vme_model.specs.Deliveries.{answer}
use Rattle.vme_model.specs.Verdict.{State, after}
use Rattle.vme_bus.specs.States.{IsStateOf}
use Rattle.vme_bus.proofs.Room.{answer_with_room, after_with_room, after_without_room, kept_where, one_more}
use Rattle.vme_bus.proofs.buses.Bus.step_by_arm.Goals as goal

pub returns-then-is_full-clause-state : goal.returns-then-is_full-clause-state
returns-then-is_full-clause-state c = after_without_room c.args.self.now c.args.edge (sym c.is_full.ensures ∙ c.if-is_full.true)

pub invariant_of-self : goal.invariant_of-self
invariant_of-self c =
    let b = c.self.inside in
    let e = c.args.edge in
    let v = c.self.invariant in
    let room : (length b.past == b.max) ≡ false = ap (λ (s : State). length s.history == s.max) c.self.view_is ∙ sym c.is_full.ensures ∙ c.if-is_full.false in
    let keeps = kept_where b.version b.plan b.past e c.step-answer.result true (c.step-answer.ensures.answer b.version b.plan b.past v.0) (sym c.is_ok-is_accepted.ensures.value ∙ c.if-is_accepted.true) in
    let more = one_more b.made (length b.past) b.max c.from.result v.1 v.2 room (cc) in (
      subst (λ k. IsStateOf b.version b.plan k c.step-answer.new.self) (keeps ∙ sym c.note.ensures) (c.step-answer.ensures.state b.version b.plan b.past v.0),
      more.0 ∙ ap length (sym c.note.ensures),
      more.1,
      v.3,
    )

pub returns-then-is_accepted-clause-answer : goal.returns-then-is_accepted-clause-answer
returns-then-is_accepted-clause-answer c =
    let b = c.self.inside in
    let e = c.args.edge in
    let room : (length b.past == b.max) ≡ false = ap (λ (s : State). length s.history == s.max) c.self.view_is ∙ sym c.is_full.ensures ∙ c.if-is_full.false in
    c.step-answer.ensures.answer b.version b.plan b.past c.self.invariant.0
    ∙ sym (answer_with_room (record { version = b.version; plan = b.plan; history = b.past; max = b.max }) e room)
    ∙ ap (λ (s : State). answer s e) c.self.view_is

pub returns-else-is_accepted-clause-answer : goal.returns-else-is_accepted-clause-answer
returns-else-is_accepted-clause-answer c =
    let b = c.self.inside in
    let e = c.args.edge in
    let room : (length b.past == b.max) ≡ false = ap (λ (s : State). length s.history == s.max) c.self.view_is ∙ sym c.is_full.ensures ∙ c.if-is_full.false in
    c.step-answer.ensures.answer b.version b.plan b.past c.self.invariant.0
    ∙ sym (answer_with_room (record { version = b.version; plan = b.plan; history = b.past; max = b.max }) e room)
    ∙ ap (λ (s : State). answer s e) c.self.view_is

pub returns-then-is_accepted-clause-state : goal.returns-then-is_accepted-clause-state
returns-then-is_accepted-clause-state c =
    let b = c.self.inside in
    let e = c.args.edge in
    let of : List Edge → State = λ k. record { version = b.version; plan = b.plan; history = k; max = b.max } in
    let room : (length b.past == b.max) ≡ false = ap (λ (s : State). length s.history == s.max) c.self.view_is ∙ sym c.is_full.ensures ∙ c.if-is_full.false in
    let keeps = kept_where b.version b.plan b.past e c.step-answer.result true (c.step-answer.ensures.answer b.version b.plan b.past c.self.invariant.0) (sym c.is_ok-is_accepted.ensures.value ∙ c.if-is_accepted.true) in
    ap of (c.note.ensures ∙ sym keeps) ∙ sym (after_with_room (of b.past) e room) ∙ ap (λ (s : State). after s e) c.self.view_is

pub returns-else-is_accepted-clause-state : goal.returns-else-is_accepted-clause-state
returns-else-is_accepted-clause-state c =
    let b = c.self.inside in
    let e = c.args.edge in
    let of : List Edge → State = λ k. record { version = b.version; plan = b.plan; history = k; max = b.max } in
    let room : (length b.past == b.max) ≡ false = ap (λ (s : State). length s.history == s.max) c.self.view_is ∙ sym c.is_full.ensures ∙ c.if-is_full.false in
    let keeps = kept_where b.version b.plan b.past e c.step-answer.result false (c.step-answer.ensures.answer b.version b.plan b.past c.self.invariant.0) (sym c.is_ok-is_accepted.ensures.value ∙ c.if-is_accepted.false) in
    ap of (sym keeps) ∙ sym (after_with_room (of b.past) e room) ∙ ap (λ (s : State). after s e) c.self.view_is
