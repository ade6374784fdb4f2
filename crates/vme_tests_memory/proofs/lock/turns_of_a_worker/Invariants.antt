use Rattle.vme_tests_memory.proofs.lock.turns_of_a_worker.Given as goal

-- the ledger of the blank, and the backplane that is opened
abbrev pub ghosts-one_board-L-Ledger : goal.ghosts-one_board-L-Ledger
ghosts-one_board-L-Ledger g a = record { name = a.blank.name; parts = a.blank.parts }

abbrev pub ghosts-one_board-L-Rig : goal.ghosts-one_board-L-Rig
ghosts-one_board-L-Rig g a = record { opened = a.backplane }
