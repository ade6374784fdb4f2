use Rattle.std.proofs.Common.{◌∙◌, ℕ, List, refl, subst, inl, inr, arith}
use Rattle.std.proofs.lemmas.Result.{err_from_is_err_and}
use Rattle.vme_model.specs.Text.{next_number}
use Rattle.vme_trace.specs.Writing.{AppendsFront}
use Rattle.vme_probe.specs.declared.judging.Known.{Known}
use Rattle.vme_probe.specs.Lines.{change_line}
use Rattle.vme_probe.proofs.judging.Known.take.Goals as goal

pub returns-in_err-write_last : goal.returns-in_err-write_last
returns-in_err-write_last g c =
    let e = err_from_is_err_and c.from_residual.result c.from_residual.ensures.1 in
    rw (e.1, e.2) (
      c.in_err-write_last.ensures.fault,
      c.stopped-report.result.items,
      inr (record {
        hidden = c.with_hidden-before.result;
        moved = c.with_hidden-before.ensures;
        makers = c.drivers-drivers.result;
        makers_are = c.drivers-drivers.ensures;
        nobody = grind arith;
        owners = c.stopped-report.ensures.0;
        owners_are = c.stopped-report.ensures.1;
        is = c.stopped-report.ensures.2;
      }),
      subst (λ (l : List ℕ). AppendsFront (g.W.Write.contents c.args.out.now) (g.W.Write.contents c.write_last.new.out) l) c.as_slice.ensures.value c.in_err-write_last.ensures.front,
    )

pub returns-in_err-put : goal.returns-in_err-put
returns-in_err-put g c =
    let e = err_from_is_err_and c.from_residual-in_err-put.result c.from_residual-in_err-put.ensures.1 in
    let known : Known = record c.args.self.now {
      standings = c.behind-self.result;
      changes = next_number c.args.self.now.changes;
    } in
    rw (e.1, e.2) (
      c.in_err-put.ensures.fault,
      change_line c.args.moment c.args.change.now c.drivers-drivers.result,
      inl (
        known,
        c.drivers-drivers.result,
        record {
          hidden = c.with_hidden-before.result;
          moved = c.with_hidden-before.ensures;
          drivers = c.drivers-drivers.ensures;
          some = grind arith;
          behind = c.behind-self.ensures;
          probed = refl;
          changes = refl;
        },
        refl,
      ),
      subst (λ (l : List ℕ). AppendsFront (g.W.Write.contents c.args.out.now) (g.W.Write.contents c.put.new.out) l) (c.as_slice-2.ensures.value ∙ c.change_line.ensures) c.in_err-put.ensures.front,
    )
