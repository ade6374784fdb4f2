use Rattle.vme_tests_memory.proofs.lock.mismatch_in_rooms.Given as goal

-- the ledger of the blank, and the backplane that is opened
abbrev pub ghosts-mismatch-L-Ledger : goal.ghosts-mismatch-L-Ledger
ghosts-mismatch-L-Ledger g a = record { name = a.blank.name; parts = a.blank.parts }

abbrev pub ghosts-mismatch-L-Rig : goal.ghosts-mismatch-L-Rig
ghosts-mismatch-L-Rig g a = record { opened = a.backplane }
