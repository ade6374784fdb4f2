use Rattle.std.proofs.Common.{refl}
use Rattle.vme_order_search.specs.Places.{bucket_of}
use Rattle.vme_order_search.proofs.taken.Taken.bucket.Goals as goal

pub returns-clause-bucket : goal.returns-clause-bucket
unfolding bucket_of
returns-clause-bucket c = refl
