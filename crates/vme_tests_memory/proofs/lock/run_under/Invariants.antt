use Rattle.vme_tests_memory.proofs.lock.run_under.Given as goal

-- the ledger of the blank, and the backplane that is opened
abbrev pub ghosts-run_and_close-L-Ledger : goal.ghosts-run_and_close-L-Ledger
ghosts-run_and_close-L-Ledger g a = record { name = a.blank.name; parts = a.blank.parts }

abbrev pub ghosts-run_and_close-L-Rig : goal.ghosts-run_and_close-L-Rig
ghosts-run_and_close-L-Rig g a = record { opened = a.backplane }
