use Rattle.std.proofs.Common.{◌≡◌, ◌⊎◌, inl, inr, ◌≤◌, false, ap, arith, length}
use Rattle.vme_order_search.proofs.search.longest_within.Goals as goal
use Rattle.vme_order_search.proofs.search.longest_within.Goals.{else-search-via-then-search+else-length-seen, else-search-via-else-search}

pub returns-clause-found : goal.returns-clause-found
returns-clause-found g c t eq eqs leads =
    let n = c.in_ok-length.length in
    let ended = c.in_ok-length.ensures.ended t eq eqs (c.in_ok-search.ensures.layer t leads) in
    let e : length t.seen ≡ length c.args.seen.now = ap length eq in
    let few : n ≤ length t.seen = ended.few in
    let whole : (c.run.new.self.is_cut ≡ false) ⊎ (n ≡ length c.args.seen.now) =
    elim c.else-search.branch [
      | else-search-via-then-search+else-length-seen w ↦ inr (omega arith)
      | else-search-via-else-search w ↦ inl w.if-search.false
    ] in
    c.found.ensures.found t n eq eqs ended whole
