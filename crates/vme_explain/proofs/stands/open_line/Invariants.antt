use Rattle.std.proofs.Common.{◌≡◌, ◌+◌, ◌*◌, ◌≤◌, codes, length, map, not, take}
use Rattle.std.specs.Prelude.{filter}
use Rattle.vme_model.specs.Stands.{is_later_access, listed, open_text}
use Rattle.vme_explain.proofs.stands.open_line.Given as goal

abbrev pub invariant-loop-edge : goal.invariant-loop-edge
invariant-loop-edge l = record {
  words : l.line.items ≡ listed (codes "open ") l.driver (map open_text (filter (λ e. not (is_later_access e.value)) (take l.edge-index l.edge-items)));
  room : length l.line.items ≤ 26 + 18 * l.edge-index;
}
