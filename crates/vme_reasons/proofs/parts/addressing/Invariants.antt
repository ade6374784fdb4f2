use Rattle.std.proofs.Common.{◌≡◌, ◌≤◌, ◌<◌, ℕ, false}
use Rattle.vme_model.specs.declared.signals.Driver.TheVariants.{Slot}
use Rattle.vme_model.specs.declared.signals.Wire.TheVariants.{Addr}
use Rattle.vme_model.specs.History.{drive}
use Rattle.vme_model.specs.Numbered.{Numbered, edges_in}
use Rattle.vme_reasons.specs.Marked.{IsMarksOf}
use Rattle.vme_reasons.proofs.parts.addressing.Given as goal

abbrev pub invariant-loop-slot : goal.invariant-loop-slot
invariant-loop-slot l = (k : Numbered) → edges_in k ≡ l.bus.history → IsMarksOf l.bus.plan k l.marks →
    (s : ℕ) → 1 ≤ s → s < l.slot → drive l.bus.history (Slot s) Addr ≡ false
