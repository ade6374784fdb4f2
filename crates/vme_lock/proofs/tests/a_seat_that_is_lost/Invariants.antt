use Rattle.vme_lock.proofs.tests.a_seat_that_is_lost.Given as goal

-- the ledger of the blank, and the backplane that is opened
abbrev pub ghosts-lose-L-Ledger : goal.ghosts-lose-L-Ledger
ghosts-lose-L-Ledger g a = record { name = a.blank.name; parts = a.blank.parts }

abbrev pub ghosts-lose-L-Rig : goal.ghosts-lose-L-Rig
ghosts-lose-L-Rig g a = record { opened = a.backplane }
