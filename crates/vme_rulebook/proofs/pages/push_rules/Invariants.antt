use Rattle.std.proofs.Common.{◌≡◌, ◌+◌, ◌*◌, ◌≤◌, ◌++◌, length, take}
use Rattle.std.specs.List.{flat_map}
use Rattle.vme_rulebook.specs.Pages.{rule_line}
use Rattle.vme_rulebook.proofs.pages.push_rules.Given as goal

abbrev pub invariant-loop-rule : goal.invariant-loop-rule
invariant-loop-rule l = record {
  text : l.text ≡ l.fn.text ++ flat_map rule_line (take l.rule-index l.rules);
  len : length l.text ≤ length l.fn.text + 174 * l.rule-index;
}
