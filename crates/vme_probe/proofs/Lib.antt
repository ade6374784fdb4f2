-- one condition more in the walk along the conditions of a change: `left::first_failing`
pub mod First
-- what conditions leave of a record, part by part: `laws`
pub mod Leaving
-- what stands in the way of a rise: `laws`
pub mod Rising
-- what stands in the way of a request: `laws`
pub mod Requesting
-- what stands in the way of AS*, DS*, DTACK* and BERR*: `laws`
pub mod Cycling
-- what conditions that a bus meets leave of what covers it: `condition_laws`
pub mod LeftBy
-- what a condition of a rule that holds says of the guard: `condition_laws`
pub mod MetGuards
-- the conditions of BRn* and IRQn*: `condition_laws`
pub mod MetRequests
-- the conditions of AS* and DS*, and of the rises of DTACK* and BERR*: `condition_laws`
pub mod MetStrobes
-- the conditions of BBSY*, BCLR* and the grant chains: `condition_laws`
pub mod MetGrants
-- the conditions of the pins of the grant chains: `condition_laws`
pub mod MetGrantChains
-- the conditions of the falls of DTACK* and BERR*: `condition_laws`
pub mod MetAnswers
-- the conditions of the pins of the acknowledge chain: `condition_laws`
pub mod MetAcknowledges
-- the condition that is named, and those above it, hold together on no bus: `condition_laws`
pub mod NeverHolds
-- each condition in the text of a capture that is impossible: `condition_laws`
pub mod ToldFailing
-- which phases the conditions on the grants leave: `hindered_laws`
pub mod PhaseLemmas
-- what stands in the way of BBSY*, BCLR* and the bus grants: `hindered_laws`
pub mod Granting
-- what stands in the way of the pins of the acknowledge chain: `hindered_laws`
pub mod Acknowledging
-- what is known of the acknowledge chain stays fitting together: `hindered_laws`
pub mod ChainKept
-- and behind a change that somebody may have made: `hindered_laws`
pub mod ChainBehind
-- what is known of the grants fits together: `hindered_laws`
pub mod GrantsKept
-- and stays so with the edges that no probe sees: `hindered_laws`
pub mod GrantsHidden
-- and behind a change that somebody may have made: `hindered_laws`
pub mod GrantsBehind
-- what stands in the way of any change: `hindered_laws`
pub mod AllHindered
-- what is known behind a capture fits together: `led_laws`
pub mod Leading
-- the levels that are known are those that were said: `led_laws`
pub mod SaidLevels
-- a condition is named for each driver in the text of a capture that is impossible: `led_laws`
pub mod ToldHindered
-- what is known of a cycle fits together: `laws`
pub mod Fitting
-- the lines of the changes that may come: `answers`
pub mod Coming
-- one line more in a loop: `answers`
pub mod LinesBelow
-- a probe that is found: `answers`
pub mod FoundPins
-- what is known at the end of the head: `judging`
pub mod Beginning
-- what a capture says stands in lines without a fault: `probes`
pub mod Said
-- what is known behind a capture's changes covers the bus: `laws`
pub mod Tied
-- who may have made a change: `laws`
pub mod Makers
-- a shared line that an edge moves next is in a line of what may come: `laws`
pub mod NextLines
-- what was said of the probed pins is how they stand: `laws`
pub mod PinLevels
-- a probed pin that an edge moves next is in a line of what may come: `laws`
pub mod NextPins
-- the boards that pull a line that is low: `laws`
pub mod Pullers
-- what the last lines tell of the buses that show a capture: `laws`
pub mod EndTells
-- what is answered of a capture, and the buses that show it: `laws`
pub mod Refused
-- what is known and written, one thing that was said after the other: `probes`
pub mod Judged
-- a capture is read byte by byte: `probes`
pub mod Reading
-- what a reading leaves: `probes`
pub mod Answered
-- what is written at the end of a capture: `probes`
pub mod Whole
-- a piece, byte by byte: `probes`
pub mod Pieces
-- what is written of a sample: `sampled`
pub mod SampleLines
-- whoever may have made a change of a sample is named: `sample_laws`
pub mod SamplesTied
-- what is answered with `--skew` holds of all buses: `sample_laws`
pub mod SamplesRefused
