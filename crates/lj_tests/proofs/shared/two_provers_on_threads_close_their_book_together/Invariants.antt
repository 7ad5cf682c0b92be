use Rattle.lj_tests.proofs.shared.two_provers_on_threads_close_their_book_together.Given as goal

abbrev pub ghosts-prove_beside-L-BookId : goal.ghosts-prove_beside-L-BookId
ghosts-prove_beside-L-BookId g a = record { formula = a.formula; seats = 2; max_steps = 9; lists = a.opening_parts.lists; log = a.opening_parts.log }

abbrev pub ghosts-prove_beside-L-Ledger : goal.ghosts-prove_beside-L-Ledger
ghosts-prove_beside-L-Ledger g a = record { name = a.opening_parts.name; parts = a.opening_parts.parts }
