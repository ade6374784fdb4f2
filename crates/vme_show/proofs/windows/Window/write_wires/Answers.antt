use Rattle.std.proofs.Common.{◌∙◌, false, List, ℕ, get_or, subst, sym, ap, arith}
use Rattle.std.specs.Prelude.{filter}
use Rattle.std.specs.List.{flat_map}
use Rattle.std.specs.Io.KnownBytes.{Appends}
use Rattle.std.proofs.KnownBytes.{Appends-nil}
use Rattle.std.proofs.lemmas.List.{take_all}
use Rattle.std.proofs.lemmas.List.Elements.{All-get_or}
use Rattle.vme_model.specs.declared.signals.Driver.TheVariants.{Controller}
use Rattle.vme_model.specs.declared.signals.Wire.TheVariants.{Bg}
use Rattle.vme_model.specs.Text.{HasWord}
use Rattle.vme_trace.specs.Writing.{AppendsFront}
use Rattle.vme_explain.proofs.Written.{on_err}
use Rattle.vme_show.specs.declared.columns.Column.{Column}
use Rattle.vme_show.specs.declared.wires.PlanWire.{PlanWire}
use Rattle.vme_show.specs.Columns.{HasWords, Seen, is_moved, wire_line, wires_text}
use Rattle.vme_show.proofs.Whole.{all_passing, fails, passes, passing, writes_front, writes_more, writes_none}
use Rattle.vme_show.proofs.windows.Window.write_wires.Goals as goal
use Rattle.vme_show.proofs.windows.Window.write_wires.Goals.{then-is_drawn+in_ok-put, else-is_drawn}

abbrev some_wire : PlanWire
some_wire = record { driver = Controller; wire = Bg 0; low = false }

pub loop-wire-init : goal.loop-wire-init
loop-wire-init g c = λ words. Appends-nil _

pub returns-in_err-put-clause-front : goal.returns-in_err-put-clause-front
returns-in_err-put-clause-front g c =
    let cs = c.args.self.now.columns in
    let ws = c.as_slice-wire-items.result.now in
    let i = c.loop-wire.wire-index in
    let text = wire_line c.args.color cs in
    let front : HasWords c.args.self.now.wires → AppendsFront (g.W.Write.contents c.args.out.now) (g.W.Write.contents c.put.new.out) (wires_text c.args.color c.args.self.now) =
    λ words.
    let word = All-get_or (λ w. HasWord w.wire) ws i some_wire c.loop-wire-test.true (subst HasWords (sym (ap (λ (w : Seen). w.wires) c.self.view_is) ∙ sym c.as_slice-wire-items.ensures.value) words)
    in
    subst (λ (xs : List PlanWire). AppendsFront (g.W.Write.contents c.args.out.now) (g.W.Write.contents c.put.new.out) (flat_map text (filter (is_moved cs) xs))) (c.as_slice-wire-items.ensures.value
    ∙ ap (λ (w : Seen). w.wires) c.self.view_is)
    (subst (λ (l : List ℕ). AppendsFront (g.W.Write.contents c.args.out.now) (g.W.Write.contents c.put.new.out) l) (all_passing (is_moved cs) text ws)
    (writes_front (passing (is_moved cs) text) _ _ _ ws i some_wire c.loop-wire-test.true (c.loop-wire.invariant words)
    (subst (λ (l : List ℕ). AppendsFront (g.W.Write.contents c.loop-wire.out) (g.W.Write.contents c.put.new.out) l)
    (c.as_slice.ensures.value ∙ passes (is_moved cs) text (get_or ws i some_wire) c.wire_line.result.items (sym c.is_drawn.ensures ∙ c.if-is_drawn.true)
    (c.wire_line.ensures word ∙ ap (λ (l : List Column). wire_line c.args.color l (get_or ws i some_wire)) (c.as_slice-columns.ensures.value ∙ ap (λ (w : Seen). w.columns) c.self.view_is)))
    c.in_err-put.ensures.front))) in
    on_err c.from_residual.result _ front

pub loop-wire-preserved : goal.loop-wire-preserved
loop-wire-preserved g c = λ words.
    let cs = c.args.self.now.columns in
    let ws = c.as_slice-wire-items.result.now in
    let i = c.loop-wire.wire-index in
    let text = wire_line c.args.color cs in
    let word = All-get_or (λ w. HasWord w.wire) ws i some_wire c.loop-wire-test.true (subst HasWords (sym (ap (λ (w : Seen). w.wires) c.self.view_is) ∙ sym c.as_slice-wire-items.ensures.value) words)
    in
    elim c.if-is_drawn.branch [
      | then-is_drawn+in_ok-put w ↦
          rw w.out-is
          (writes_more (passing (is_moved cs) text) _ _ _ ws i some_wire c.loop-wire-test.true (c.loop-wire.invariant words)
          (subst (λ (l : List ℕ). Appends (g.W.Write.contents c.loop-wire.out) (g.W.Write.contents w.put.new.out) l)
          (w.as_slice.ensures.value ∙ passes (is_moved cs) text (get_or ws i some_wire) w.wire_line.result.items (sym c.is_drawn.ensures ∙ w.if-is_drawn.true)
          (w.wire_line.ensures word ∙ ap (λ (l : List Column). wire_line c.args.color l (get_or ws i some_wire)) (c.as_slice-columns.ensures.value ∙ ap (λ (w : Seen). w.columns) c.self.view_is)))
          w.in_ok-put.ensures.ok))
      | else-is_drawn w ↦
          rw w.out-is
          (writes_none (passing (is_moved cs) text) _ _ ws i some_wire c.loop-wire-test.true (c.loop-wire.invariant words)
          (fails (is_moved cs) text (get_or ws i some_wire) (sym c.is_drawn.ensures ∙ w.if-is_drawn.false)))
    ]

pub returns-clause-ok : goal.returns-clause-ok
returns-clause-ok g c = λ words.
    let cs = c.args.self.now.columns in
    let ws = c.as_slice-wire-items.result.now in
    let text = wire_line c.args.color cs in
    subst (λ (l : List ℕ). Appends (g.W.Write.contents c.args.out.now) (g.W.Write.contents c.loop-wire.out) l)
    (ap (flat_map (passing (is_moved cs) text)) (take_all c.loop-wire.wire-index ws (omega arith)) ∙ all_passing (is_moved cs) text ws
    ∙ ap (λ (xs : List PlanWire). flat_map text (filter (is_moved cs) xs)) (c.as_slice-wire-items.ensures.value ∙ ap (λ (w : Seen). w.wires) c.self.view_is))
    (c.loop-wire.invariant words)
