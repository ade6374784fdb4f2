-- all open edges are drawn from on all wires: `all_wires_draw_the_walk`
mod AllPlayed
-- an edge is drawn exactly if there is one: `played::draw`, `vmebus_draws`
mod NoneOpen
-- the numbers of an answer name it: `numbers_spell_answers`
mod AnswerNumbers
-- the word of an edge names it: `words_name_edges`
mod EdgeWords
-- a bench on all wires makes the walk: `all_wires_make_the_walk`
mod Benches
