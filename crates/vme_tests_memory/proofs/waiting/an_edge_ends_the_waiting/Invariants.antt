use Rattle.vme_tests_memory.proofs.waiting.an_edge_ends_the_waiting.Given as goal

-- the ledger of the blank, and the backplane that is opened
abbrev pub ghosts-grants_at_once-L-Ledger : goal.ghosts-grants_at_once-L-Ledger
ghosts-grants_at_once-L-Ledger g a = record { name = a.blank.name; parts = a.blank.parts }

abbrev pub ghosts-grants_at_once-L-Rig : goal.ghosts-grants_at_once-L-Rig
ghosts-grants_at_once-L-Rig g a = record { opened = a.backplane }
