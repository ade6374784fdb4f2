use Rattle.vme_store.proofs.RoundTrip.{round_trip, apart}
use Rattle.vme_store.proofs.laws.codes_are_one_to_one.Goals as goal

pub returns-clause-read_back : goal.returns-clause-read_back
returns-clause-read_back c = round_trip

pub returns-clause-apart : goal.returns-clause-apart
returns-clause-apart c = apart
