use Rattle.lj_script.proofs.stage.Stage.share.Given as goal

abbrev pub ghosts-play_shared-L-BookId : goal.ghosts-play_shared-L-BookId
ghosts-play_shared-L-BookId g a = record { formula = a.formula; seats = a.number; max_steps = a.limit; lists = a.opening_parts.lists; log = a.opening_parts.log }

abbrev pub ghosts-play_shared-L-Ledger : goal.ghosts-play_shared-L-Ledger
ghosts-play_shared-L-Ledger g a = record { name = a.opening_parts.name; parts = a.opening_parts.parts }
