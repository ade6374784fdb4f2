-- one step of the state
use Rattle.std.proofs.Common.{◌≡◌, ◌∙◌, refl, sym, ap, subst, true, false, List, length}
use Rattle.std.specs.Prelude.{◌==◌}
use Rattle.vme_model.specs.declared.signals.Edge.{Edge}
use Rattle.vme_model.specs.Deliveries.{answer}
use Rattle.vme_model.specs.Verdict.{State, after}
use Rattle.vme_bus.specs.declared.buses.Bus.TheInside.{Inside}
use Rattle.vme_bus.specs.Answers.{answer_in}
use Rattle.vme_bus.specs.States.{IsStateOf}
use Rattle.vme_bus.proofs.Room.{answer_with_room, after_with_room, kept_where, one_more}
use Rattle.vme_bus.proofs.buses.Bus.step_into.Goals as goal

room_in : (b : Inside) (s : State) → record { version = b.version; plan = b.plan; history = b.past; max = b.max } ≡ s → (length s.history == s.max) ≡ false → (length b.past == b.max) ≡ false
room_in b s is room = ap (λ (x : State). length x.history == x.max) is ∙ room

pub invariant_of-self : goal.invariant_of-self
invariant_of-self c =
    let b = c.self.inside in
    let v = c.self.invariant in
    let d = c.step_formed-kept.new.delivery in
    let answered = c.step_formed-kept.ensures.answer b.version b.plan b.past v.0 in
    let keeps = kept_where b.version b.plan b.past c.args.edge (answer_in c.step_formed-kept.result d) true answered (sym (c.is_accepted.ensures d) ∙ c.if-is_accepted.true) in
    let more = one_more b.made (length b.past) b.max 1 v.1 v.2 (room_in b c.args.self.now c.self.view_is c.requires.room) refl in (
      subst (λ k. IsStateOf b.version b.plan k c.step_formed-kept.new.self) (keeps ∙ sym c.note.ensures) (c.step_formed-kept.ensures.state b.version b.plan b.past v.0),
      more.0 ∙ ap length (sym c.note.ensures),
      more.1,
      v.3,
    )

pub invariant_of-self-else-is_accepted : goal.invariant_of-self-else-is_accepted
invariant_of-self-else-is_accepted c =
    let b = c.self.inside in
    let v = c.self.invariant in
    let d = c.step_formed-kept.new.delivery in
    let answered = c.step_formed-kept.ensures.answer b.version b.plan b.past v.0 in
    let keeps = kept_where b.version b.plan b.past c.args.edge (answer_in c.step_formed-kept.result d) false answered (sym (c.is_accepted.ensures d) ∙ c.if-is_accepted.false) in (
      subst (λ k. IsStateOf b.version b.plan k c.step_formed-kept.new.self) keeps (c.step_formed-kept.ensures.state b.version b.plan b.past v.0),
      v.1,
      v.2,
      v.3,
    )

pub returns-then-is_accepted-clause-answer : goal.returns-then-is_accepted-clause-answer
returns-then-is_accepted-clause-answer c =
    let b = c.self.inside in
    c.step_formed-kept.ensures.answer b.version b.plan b.past c.self.invariant.0
    ∙ sym (answer_with_room (record { version = b.version; plan = b.plan; history = b.past; max = b.max }) c.args.edge (room_in b c.args.self.now c.self.view_is c.requires.room))
    ∙ ap (λ (s : State). answer s c.args.edge) c.self.view_is

pub returns-else-is_accepted-clause-answer : goal.returns-else-is_accepted-clause-answer
returns-else-is_accepted-clause-answer c =
    let b = c.self.inside in
    c.step_formed-kept.ensures.answer b.version b.plan b.past c.self.invariant.0
    ∙ sym (answer_with_room (record { version = b.version; plan = b.plan; history = b.past; max = b.max }) c.args.edge (room_in b c.args.self.now c.self.view_is c.requires.room))
    ∙ ap (λ (s : State). answer s c.args.edge) c.self.view_is

pub returns-then-is_accepted-clause-state : goal.returns-then-is_accepted-clause-state
returns-then-is_accepted-clause-state c =
    let b = c.self.inside in
    let e = c.args.edge in
    let d = c.step_formed-kept.new.delivery in
    let of : List Edge → State = λ k. record { version = b.version; plan = b.plan; history = k; max = b.max } in
    let answered = c.step_formed-kept.ensures.answer b.version b.plan b.past c.self.invariant.0 in
    let keeps = kept_where b.version b.plan b.past e (answer_in c.step_formed-kept.result d) true answered (sym (c.is_accepted.ensures d) ∙ c.if-is_accepted.true) in
    ap of (c.note.ensures ∙ sym keeps) ∙ sym (after_with_room (of b.past) e (room_in b c.args.self.now c.self.view_is c.requires.room)) ∙ ap (λ (s : State). after s e) c.self.view_is

pub returns-else-is_accepted-clause-state : goal.returns-else-is_accepted-clause-state
returns-else-is_accepted-clause-state c =
    let b = c.self.inside in
    let e = c.args.edge in
    let d = c.step_formed-kept.new.delivery in
    let of : List Edge → State = λ k. record { version = b.version; plan = b.plan; history = k; max = b.max } in
    let answered = c.step_formed-kept.ensures.answer b.version b.plan b.past c.self.invariant.0 in
    let keeps = kept_where b.version b.plan b.past e (answer_in c.step_formed-kept.result d) false answered (sym (c.is_accepted.ensures d) ∙ c.if-is_accepted.false) in
    ap of (sym keeps) ∙ sym (after_with_room (of b.past) e (room_in b c.args.self.now c.self.view_is c.requires.room)) ∙ ap (λ (s : State). after s e) c.self.view_is
