use Rattle.std.proofs.Common.{◌≡◌, ◌∙◌, ap, subst, arith}
use Rattle.std.specs.Io.KnownBytes.{Appends}
use Rattle.vme_trace.specs.Writing.{AppendsFront}
use Rattle.vme_seeds.specs.Walks.{Walk}
use Rattle.vme_drive.specs.Drawing.{ended_text, status_to, walk}
use Rattle.vme_drive.specs.Seeking.{walk_to}
use Rattle.vme_drive.proofs.DrawnWalks.{draws_done, walks_safely}
use Rattle.vme_drive.proofs.draws.draw_trace.Goals as goal

pub returns-in-Ok-clause-outcome : goal.returns-in-Ok-clause-outcome
returns-in-Ok-clause-outcome g c =
    let w = c.args.walk.now in
    let p = w.state.plan in
    let v = w.state.version in
    let is : c.bus-bus.result.now ≡ (walk p v w.seed c.args.edges c.args.until).walk.state =
    c.bus-bus.ensures ∙ c.in-Ok.ensures.state ∙ ap (λ (x : Walk). (walk_to c.args.until c.args.edges x).walk.state) c.requires in
    let ends : c.in-Ok.ending ≡ (walk p v w.seed c.args.edges c.args.until).ending = c.in-Ok.ensures.ending ∙ ap (λ (x : Walk). (walk_to c.args.until c.args.edges x).ending) c.requires in
    draws_done p v w.seed c.args.edges c.args.until c.bus-bus.result.now c.in-Ok.ending is ends c.laws.ensures.legal c.laws.ensures.accepted
    (omega (arith, c.laws.ensures.fits, c.laws.ensures.bounded)) _ _ _
    (subst (λ (x : Walk). Appends (g.W.Write.contents c.args.out.now) (g.W.Write.contents c.write_walk.new.out) (ended_text x.state.version (walk_to c.args.until c.args.edges x)))
    c.requires c.in-Ok.ensures.ok)
    (c.status_to.ensures ∙ ap (λ n. status_to c.args.until c.args.edges n c.in-Ok.ending) c.len.ensures)

pub returns-in-Ok-clause-safe : goal.returns-in-Ok-clause-safe
returns-in-Ok-clause-safe g c =
    let w = c.args.walk.now in
    let p = w.state.plan in
    let v = w.state.version in
    let is : c.bus-bus.result.now ≡ (walk p v w.seed c.args.edges c.args.until).walk.state =
    c.bus-bus.ensures ∙ c.in-Ok.ensures.state ∙ ap (λ (x : Walk). (walk_to c.args.until c.args.edges x).walk.state) c.requires in
    let ends : c.in-Ok.ending ≡ (walk p v w.seed c.args.edges c.args.until).ending = c.in-Ok.ensures.ending ∙ ap (λ (x : Walk). (walk_to c.args.until c.args.edges x).ending) c.requires in
    walks_safely p v w.seed c.args.edges c.args.until c.bus-bus.result.now c.in-Ok.ending is ends c.safety.ensures.safe c.safety.ensures.orderly

pub returns-in-Err-clause-outcome : goal.returns-in-Err-clause-outcome
returns-in-Err-clause-outcome g c = (
  c.in-Err.ensures.fault,
  subst (λ (x : Walk). AppendsFront (g.W.Write.contents c.args.out.now) (g.W.Write.contents c.write_walk.new.out) (ended_text x.state.version (walk_to c.args.until c.args.edges x)))
      c.requires c.in-Err.ensures.front,
)
