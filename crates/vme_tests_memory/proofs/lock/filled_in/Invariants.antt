use Rattle.vme_tests_memory.proofs.lock.filled_in.Given as goal

-- the ledger of the blank, and the backplane that is opened
abbrev pub ghosts-filled-L-Ledger : goal.ghosts-filled-L-Ledger
ghosts-filled-L-Ledger g a = record { name = a.blank.name; parts = a.blank.parts }

abbrev pub ghosts-filled-L-Rig : goal.ghosts-filled-L-Rig
ghosts-filled-L-Rig g a = record { opened = a.backplane }
