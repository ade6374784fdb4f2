-- The definitions of a scenario. `believe` marks what a theorem rests on, and `words` marks what
-- only says how one function serves another.

-- believe: what can be wrong with a scenario, and at which key
pub mod Faults
-- believe: how deep a text is nested; one that is too deep is not TOML
pub mod Depth
-- believe: what the values of the keys say
pub mod Values
-- believe: what a text says, key by key, in the order in which faults are looked for
pub mod Format
-- believe: what each error says about a scenario
pub mod Errors
-- words: what the faults that borrow the text stand for, and the draft of a plan
pub mod Borrowed
