use Rattle.std.proofs.Common.{◌≡◌, map}
use Rattle.toml.specs.View.{members_view}
use Rattle.vme_scenario.specs.Format.{only}
use Rattle.vme_scenario.proofs.tables.only.Given as goal

abbrev pub invariant-loop-key : goal.invariant-loop-key
invariant-loop-key l =
    only (map (λ k. k.now) l.keys) (members_view l.key-iterator) ≡ only (map (λ k. k.now) l.keys) (members_view l.table.entries)
