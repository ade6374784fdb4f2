-- Words that ask for a picture of no window.
use Rattle.std.proofs.Common.{◌≡◌, ℕ, List, Option, Some, None, IsSomeAnd, codes, subst}
use Rattle.clap.specs.Words.{Row, Text}
use Rattle.vme_words.specs.Asked.{AsksFor, first_of_window, last_of_window}
use Rattle.vme_words.specs.Limits.{HasNoWindow, IsNoWindow}
use Rattle.vme_words.specs.declared.Job.{Job}
use Rattle.vme_words.specs.declared.Job.TheVariants.{Joined, Replay, Check, Explain, State, Show, Summary, Drive, Draw, Run}

one : (name : Text) (rows : List Row) (job : Job) → AsksFor name rows job → HasNoWindow job
    → (name ≡ codes "show") × IsNoWindow (first_of_window rows) (last_of_window rows)
one name rows Joined asks none = absurd none
one name rows (Replay scenario trace) asks none = absurd none
one name rows (Check scenario trace) asks none = absurd none
one name rows (Explain scenario trace edge) asks none = absurd none
one name rows (State scenario trace after) asks none = absurd none
one name rows (Show scenario trace from to color) asks none =
    (asks.0, subst (λ (a : ℕ). IsNoWindow a (last_of_window rows)) asks.3 (subst (λ (b : ℕ). IsNoWindow from b) asks.4 none))
one name rows (Summary scenario trace) asks none = absurd none
one name rows (Drive scenario edges version) asks none = absurd none
one name rows (Draw scenario edges seed version) asks none = absurd none
one name rows (Run scenario edges turns version) asks none = absurd none

pub no_window : (met : Option (Text × List Row)) (job : Job) → IsSomeAnd met (λ m. AsksFor m.0 m.1 job) → HasNoWindow job
    → IsSomeAnd met (λ m. (m.0 ≡ codes "show") × IsNoWindow (first_of_window m.1) (last_of_window m.1))
no_window None job asks none = asks
no_window (Some m) job asks none = one m.0 m.1 job asks none
