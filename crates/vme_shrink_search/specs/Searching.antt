-- What a search for a story keeps.
use Rattle.std.specs.Prelude.{◌≡◌, ◌<◌, ◌/◌, ◌||◌, if◌then◌else◌, nat_lt, not, ℕ, Bool, false, true, length}
use Rattle.vme_model.specs.Report.{at_power_up, trace_limit}
use Rattle.vme_model.specs.Verdict.{State}
use Rattle.vme_shrink_search.specs.declared.search.Search.{Search}
use Rattle.vme_shrink_search.specs.Stories.{IsPart, accepted}
use Rattle.vme_shrink_search.specs.Replies.{reply}

-- its bus at power-up
abbrev pub start : Search → State
start s = at_power_up s.bus.version s.bus.plan trace_limit

pub record IsSearch (s : Search) : Type 0 where
  pub reply : s.reply ≡ reply (start s) s.list.items s.edge
  pub whole : accepted (start s) s.list.items ≡ s.list.items

-- a search has gone on
pub record IsOn (s now : Search) : Type 0 where
  pub start : start now ≡ start s
  pub edge : now.edge ≡ s.edge
  pub reply : now.reply ≡ s.reply
  pub search : IsSearch now

-- and has left something out, or nothing
pub record HasLeft (s now : Search) (has_left : Bool) : Type 0 where
  pub on : IsOn s now
  pub part : IsPart now.list.items s.list.items
  pub shorter : has_left ≡ true → length now.list.items < length s.list.items
  pub same : has_left ≡ false → now.list.items ≡ s.list.items

abbrev pub next_size : ℕ → Bool → ℕ
next_size size has_left = if nat_lt 1 size || not has_left then size / 2 else size
