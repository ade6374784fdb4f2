use Rattle.std.proofs.Common.{◌≡◌, ◌+◌, ◌*◌, ◌≤◌, ◌++◌, length, take}
use Rattle.std.specs.List.{flat_map}
use Rattle.vme_rulebook.specs.Pages.{condition_lines}
use Rattle.vme_rulebook.proofs.pages.push_conditions.Given as goal

abbrev pub invariant-loop-sourced : goal.invariant-loop-sourced
invariant-loop-sourced l = record {
  text : l.text ≡ l.fn.text ++ flat_map (condition_lines l.rule) (take l.sourced-index l.conditions);
  len : length l.text ≤ length l.fn.text + 402 * l.sourced-index;
}
