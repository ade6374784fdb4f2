-- `event_index`: the place of an event among all is the number of its variant.
use Rattle.std.proofs.Common.{◌≡◌, ◌∙◌, refl, sym, ap, ℕ, ◌<◌, map, length, get_or, arith}
use Rattle.std.specs.List.{range_with_len}
use Rattle.std.proofs.lemmas.Bool.{eq-eqb, ne_eqb}
use Rattle.std.proofs.lemmas.List.{get_or-map}
use Rattle.std.proofs.lemmas.List.FromFn.{get_or-range_with_len}
use Rattle.std.proofs.lemmas.List.Sums.{position_or_len_is}
use denote.Enum.Bare.{tag_one}
use denote.Enum.Declared.{rowss, tag_of}
use denote.Enum.Enum.{tag_below}
use Rattle.vme_goals.specs.contracts.events.Event.{the_type}
use Rattle.vme_goals.specs.declared.events.Event.{Event}
use Rattle.vme_goals.specs.Events.{all_events, event_index, is_same_event}

-- the list has the variants by number, and all of them
in_order : map (tag_of the_type) all_events ≡ range_with_len 0 (length all_events)
unfolding all_events
in_order = refl

pub number_below : (v : Event) → tag_of the_type v < length all_events
unfolding all_events
number_below v = tag_below (rowss the_type.parts) (the_type.to v)

number_at : (k : ℕ) (d : Event) → k < length all_events → tag_of the_type (get_or all_events k d) ≡ k
number_at k d within =
    let is = sym (get_or-map (tag_of the_type) all_events k d 0 within) ∙ ap (λ xs. get_or xs k 0) in_order ∙ get_or-range_with_len 0 (length all_events) k 0 within in
    omega (arith, is)

pub index_is : (v : Event) → event_index v ≡ tag_of the_type v
unfolding event_index
index_is v =
    position_or_len_is (is_same_event v) all_events (tag_of the_type v) v (let below = number_below v in omega (arith, below))
    (λ k less. ne_eqb (tag_of the_type v) (tag_of the_type (get_or all_events k v)) (λ same. let at = number_at k v (let below = number_below v in omega (arith, less, below)) in
    omega (arith, less, at, same)))
    (λ within. eq-eqb (tag_of the_type v) (tag_of the_type (get_or all_events (tag_of the_type v) v)) (sym (number_at (tag_of the_type v) v within)))

pub index_below : (v : Event) → event_index v < length all_events
index_below v = let is = index_is v in let below = number_below v in omega (arith, is, below)

pub stands : (v d : Event) → get_or all_events (event_index v) d ≡ v
stands v d =
    tag_one the_type tt (get_or all_events (event_index v) d) v
    (number_at (event_index v) d (index_below v) ∙ index_is v)

pub index_at : (k : ℕ) (d : Event) → k < length all_events → event_index (get_or all_events k d) ≡ k
index_at k d within = index_is (get_or all_events k d) ∙ number_at k d within
