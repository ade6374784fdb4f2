use Rattle.vme_lock.proofs.tests.an_edge_made_otherwise.Given as goal

-- the ledger of the blank, and the backplane that is opened
abbrev pub ghosts-made_otherwise-L-Ledger : goal.ghosts-made_otherwise-L-Ledger
ghosts-made_otherwise-L-Ledger g a = record { name = a.blank.name; parts = a.blank.parts }

abbrev pub ghosts-made_otherwise-L-Rig : goal.ghosts-made_otherwise-L-Rig
ghosts-made_otherwise-L-Rig g a = record { opened = a.backplane }
