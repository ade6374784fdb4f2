use Rattle.std.proofs.Common.{◌≡◌, [], Bool, Result, None, sym, ◌∙◌, ap, subst}
use Rattle.std.proofs.KnownBytes.{Keeps-refl}
use Rattle.vme_trace.specs.declared.Fault.{Fault}
use Rattle.vme_reasons.specs.Marked.{IsMarksOf}
use Rattle.vme_engines.specs.declared.following.Following.{Following}
use Rattle.vme_engines.specs.declared.states.Stating.{Stating}
use Rattle.vme_engines.specs.Steps.{Opens}
use Rattle.vme_engines.specs.Streams.{streams}
use Rattle.vme_engines.proofs.FirstReads.{never_unopened}
use Rattle.vme_engines.proofs.FormedEdges.{formed_first}
use Rattle.vme_engines.proofs.ToldTraces.{states_all, states_unopened}
use Rattle.vme_engines.proofs.states.state_trace.Goals as goal

pub read_on-requires-clause-well_formed : goal.read_on-requires-clause-well_formed
read_on-requires-clause-well_formed g c = formed_first _ _ [] [] c.open-first.result.1 c.open-first.new.reader _ _ c.open-first.ensures.0

pub returns-in-Some : goal.returns-in-Some
returns-in-Some g c =
    let ran = c.read_on.ensures c.in-Some.version (g.R.Read.remaining c.args.trace.now) [] [] (sym c.version.ensures ∙ c.in-Some.is) c.open-first.ensures.0 in
    let same = c.new-state.ensures.following in
    let is = ap (λ (f : Following). f.bus) same ∙ c.new-following.ensures.bus ∙ c.new.ensures in
    let zero = ap (λ (f : Following). f.judged) same ∙ c.new-following.ensures.judged in (
      ran.0,
      ran.1,
      rw (← c.new-state.ensures.after)
          (states_all (λ (s : Stating). s.following) (λ (s : Stating). s.after ≡ c.new-state.result.after) c.args.plan c.in-Some.version ran.0 _ c.new-state.result.after c.new-state.result.following c.read_on.result is zero
          (λ q. subst (λ (f : Following). IsMarksOf q [] f.marks) (sym same) (c.new-following.ensures.marks q)) ran.2),
    )

pub returns-in-Ok : goal.returns-in-Ok
returns-in-Ok g c =
    let opens = subst (λ (a : Result Bool Fault). Opens (g.R.Read.remaining c.args.trace.now) (g.R.Read.remaining c.open-first.new.input) c.open-first.new.reader c.open-first.new.edges.items (a, c.open-first.result.1)) c.in-Ok.is c.open-first.ensures in
    absurd
    (never_unopened c.args.plan (g.R.Read.remaining c.args.trace.now) (g.R.Read.remaining c.open-first.new.input) None c.open-first.new.reader c.open-first.new.edges.items c.open-first.result.1
    (sym c.version.ensures ∙ c.in-None.is) c.in-Ok.field-0 opens)

pub returns : goal.returns
returns g c =
    let opens = subst (λ (a : Result Bool Fault). Opens (g.R.Read.remaining c.args.trace.now) (g.R.Read.remaining c.open-first.new.input) c.open-first.new.reader c.open-first.new.edges.items (a, c.open-first.result.1)) c.in-Err.is c.open-first.ensures in
    states_unopened c.args.plan (streams (g.R.Read.remaining c.args.trace.now) (g.R.Read.remaining c.open-first.new.input) (g.W.Write.contents c.args.out.now) (g.W.Write.contents c.args.out.now)) c.args.after _ _ c.open-first.result.1 c.in-Err.fault
    (Keeps-refl _) (sym c.version.ensures ∙ c.in-None.is) opens
