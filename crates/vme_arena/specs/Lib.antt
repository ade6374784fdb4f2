-- `believe` marks what the arena's theorems rest on: whoever trusts one has to agree with it.
-- `words` marks what only says how one function serves another.

-- words: the stretch of a lease's granules
pub mod Held
-- believe: what a region is once what it lent is gone
pub mod Lending
-- words: what granules, pieces and blocks own
pub mod Ownership
-- believe: stretches, and which of them are apart
pub mod Stretch
-- believe: what a clause reads of a region, of its rest and of a lease
pub mod Words
