use Rattle.std.proofs.Common.{◌≡◌, ◌+◌, ◌*◌, ◌≤◌, ◌&&◌, codes, length, map, not, take}
use Rattle.std.specs.Prelude.{filter}
use Rattle.vme_model.specs.declared.signals.Wire.TheVariants.{Addr}
use Rattle.vme_model.specs.Signals.{is_same_wire}
use Rattle.vme_model.specs.Stands.{listed}
use Rattle.vme_model.specs.Text.{wire_text}
use Rattle.vme_model.specs.Witnesses.{holds_low}
use Rattle.vme_explain.proofs.stands.low_line.Given as goal

abbrev pub invariant-loop-wire : goal.invariant-loop-wire
invariant-loop-wire l = record {
  words : l.line.items ≡ listed (codes "low ") l.driver
      (map wire_text (filter (λ w. not (is_same_wire w Addr) && holds_low l.bus w l.driver) (take l.wire-index l.wire-items)));
  room : length l.line.items ≤ 26 + 9 * l.wire-index;
}
