use Rattle.std.proofs.Common.{◌≡◌, false, subst}
use Rattle.vme_same.specs.Kept.{Goes, IsSought}
use Rattle.vme_same.proofs.progress.Pairing.end_first.Goals as goal

pub returns-in-Seeks-clause-going : goal.returns-in-Seeks-clause-going
returns-in-Seeks-clause-going c = λ t going.
    let old : (c.args.self.now.has_ended ≡ false) × IsSought t c.in-Seeks.sought =
    subst (Goes t c.args.self.now) c.in-Seeks.is going in
    let seeks = old.1 in
    c.missing_or_sought-self.ensures.going t seeks.taken seeks.left seeks.count seeks.next
    seeks.number seeks.missing seeks.own seeks.leads (λ goes. absurd (cc))
