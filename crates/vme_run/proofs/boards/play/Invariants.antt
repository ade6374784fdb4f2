use Rattle.vme_run.proofs.boards.play.Given as goal

-- the ledger of the blank, and the backplane that is opened
abbrev pub ghosts-play_on-L-Ledger : goal.ghosts-play_on-L-Ledger
ghosts-play_on-L-Ledger g a = record { name = a.blank.name; parts = a.blank.parts }

abbrev pub ghosts-play_on-L-Rig : goal.ghosts-play_on-L-Rig
ghosts-play_on-L-Rig g a = record { opened = a.backplane }
