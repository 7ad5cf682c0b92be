use Rattle.lj_tests.proofs.waiting.take_while_locked.Given as goal

abbrev pub ghosts-wait_beside-L-BookId : goal.ghosts-wait_beside-L-BookId
ghosts-wait_beside-L-BookId g a = record { formula = a.formula; seats = 2; max_steps = 9; lists = a.opening_parts.lists; log = a.opening_parts.log }

abbrev pub ghosts-wait_beside-L-Ledger : goal.ghosts-wait_beside-L-Ledger
ghosts-wait_beside-L-Ledger g a = record { name = a.opening_parts.name; parts = a.opening_parts.parts }
