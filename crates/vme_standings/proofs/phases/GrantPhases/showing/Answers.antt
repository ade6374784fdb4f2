use Rattle.std.proofs.Common.{◌≡◌, ◌<◌, ℕ, List, subst, arith}
use Rattle.std.specs.Prelude.{slice_index_or}
use Rattle.std.proofs.lemmas.Bool.Decides.{nat_tests}
use Rattle.vme_bus.specs.declared.sets.SlotSet.{SlotSet}
use Rattle.vme_model.specs.Plan.{Plan}
use Rattle.vme_standings.specs.declared.phases.GrantPhases.{GrantPhases}
use Rattle.vme_standings.specs.Phases.{no_slots}
use Rattle.vme_standings.specs.Beginnings.{KeepsPhases, ShowsAt, ShowsChain}
use Rattle.vme_standings.proofs.SeenPhases.{kept_all, kept_more}
use Rattle.vme_standings.proofs.phases.GrantPhases.showing.Goals as goal

rows_are : (p : Plan) (n : ℕ) (probed low : List SlotSet) (old new : GrantPhases) (a b : SlotSet) → a ≡ slice_index_or probed n no_slots → b ≡ slice_index_or low n no_slots
    → KeepsPhases (λ q. (s : ℕ) → s < 22 → ShowsAt p n a b s q) old new → KeepsPhases (ShowsChain p probed low n) old new
rows_are p n probed low old new a b e f keeps =
    subst (λ (x : SlotSet). KeepsPhases (λ q. (s : ℕ) → s < 22 → ShowsAt p n x (slice_index_or low n no_slots) s q) old new) e
    (subst (λ (x : SlotSet). KeepsPhases (λ q. (s : ℕ) → s < 22 → ShowsAt p n a x s q) old new) f keeps)

pub loop-level-init : goal.loop-level-init
loop-level-init c = kept_all (ShowsChain c.args.plan.now c.args.probed.now c.args.low.now) c.args.self.now

pub loop-level-preserved : goal.loop-level-preserved
loop-level-preserved c =
    let n = c.loop-level.level in
    let p = c.args.plan.now in
    kept_more (ShowsChain p c.args.probed.now c.args.low.now) n c.args.self.now c.loop-level.shown c.showing_chain-shown.result c.loop-level.invariant
    (rows_are p n c.args.probed.now c.args.low.now c.loop-level.shown c.showing_chain-shown.result c.row_of.result c.row_of-in-loop-level.result
    c.row_of.ensures c.row_of-in-loop-level.ensures c.showing_chain-shown.ensures)

pub returns : goal.returns
returns c =
    let ended : c.loop-level.level ≡ 4 = grind (arith, nat_tests, c.loop-level.auto.level-end, c.loop-level-test.false) in
    subst (λ k. KeepsPhases (λ q. (n : ℕ) → n < k → ShowsChain c.args.plan.now c.args.probed.now c.args.low.now n q) c.args.self.now c.loop-level.shown) ended c.loop-level.invariant
