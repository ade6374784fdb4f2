use Rattle.std.proofs.Common.{◌∙◌, ap, map-id, subst, sym}
use Rattle.std.proofs.KnownBytes.{Appends-nil}
use Rattle.std.proofs.lemmas.Iterator.{YieldsList-from_chars}
use Rattle.std.proofs.lemmas.Iterator.Consumers.{YieldsList-end, YieldsList-so_far, YieldsList-turn}
use Rattle.std.specs.List.{flat_map}
use Rattle.std.specs.Io.KnownBytes.{Appends}
use Rattle.vme_reading.proofs.WrittenLines.{on_err}
use Rattle.vme_escapes.specs.Shown.{shown}
use Rattle.vme_program.proofs.EscapedNames.{name_more, name_part}
use Rattle.vme_program.proofs.escapes.write_escaped.Goals as goal

pub loop-c-init : goal.loop-c-init
loop-c-init g c = Appends-nil _

pub loop-c-preserved : goal.loop-c-preserved
loop-c-preserved g c = name_more _ _ _ c.loop-c.yielded c.in-Some.c c.loop-c.invariant c.in_ok-write_shown.ensures.ok

pub returns-in_err-write_shown-clause-front : goal.returns-in_err-write_shown-clause-front
returns-in_err-write_shown-clause-front g c =
    let all = YieldsList-from_chars c.args.name.now c.utf8.name cc in
    let at = YieldsList-turn all c.loop-c.yielded _ c.loop-c.yielded_by _ _ c.in-Some.c c.in-Some.is c.next.ensures.steps in
    let front = sym (map-id c.loop-c.yielded) ∙ YieldsList-so_far all c.loop-c.yielded _ c.loop-c.yielded_by in
    on_err c.from_residual.result _ (name_part _ _ _ c.loop-c.yielded c.in-Some.c c.loop-c.invariant _ front at.0 at.1 c.in_err-write_shown.ensures.front)

pub returns-clause-ok : goal.returns-clause-ok
returns-clause-ok g c =
    let done = YieldsList-end (YieldsList-from_chars c.args.name.now c.utf8.name cc) c.loop-c.yielded _ c.loop-c.yielded_by _ _ c.in-None.is c.next.ensures.steps in
    subst (Appends (g.W.Write.contents c.args.out.now) (g.W.Write.contents c.loop-c.out)) (ap (flat_map shown) (sym (map-id c.loop-c.yielded) ∙ done.0)) c.loop-c.invariant
