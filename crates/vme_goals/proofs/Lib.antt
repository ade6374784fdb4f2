-- `aim_of`: the first of all aims is the first event, or the first miss if there is no event
pub mod Named
-- `event_index`: the number of the variant, since the list has all events in that order
pub mod Placed
