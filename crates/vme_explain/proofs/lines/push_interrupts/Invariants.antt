use Rattle.std.proofs.Common.{◌≡◌, ◌≤◌, ◌+◌, ◌++◌, take, length, map}
use Rattle.std.specs.Prelude.{filter}
use Rattle.vme_model.specs.declared.signals.Wire.TheVariants.{Irq}
use Rattle.vme_model.specs.Numbered.{Numbered, edges_in}
use Rattle.vme_model.specs.Witnesses.{seen}
use Rattle.vme_explain.specs.Marked.{IsMarksOf}
use Rattle.vme_explain.specs.Witnessed.{asks_at}
use Rattle.vme_explain.proofs.lines.push_interrupts.Given as goal

abbrev pub invariant-loop-driver : goal.invariant-loop-driver
invariant-loop-driver l = record {
  witnesses : (k : Numbered) → edges_in k ≡ l.bus.history → IsMarksOf l.bus.plan k l.marks →
      l.witnesses.items ≡ l.fn.witnesses.items ++ map (λ d. seen l.bus k d Irq) (filter (asks_at l.bus l.level) (take l.driver-index l.driver-items));
  few : length l.witnesses.items ≤ length l.fn.witnesses.items + l.driver-index;
}
