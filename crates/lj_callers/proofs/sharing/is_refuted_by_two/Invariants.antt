use Rattle.lj_callers.proofs.sharing.is_refuted_by_two.Given as goal

-- the opening of the formula
abbrev pub ghosts-prove_beside-L-BookId : goal.ghosts-prove_beside-L-BookId
ghosts-prove_beside-L-BookId g a = record { formula = a.formula; seats = 2; max_steps = 4294967295; lists = a.opening_parts.lists; log = a.opening_parts.log }

-- the name and the parts of its ledger
abbrev pub ghosts-prove_beside-L-Ledger : goal.ghosts-prove_beside-L-Ledger
ghosts-prove_beside-L-Ledger g a = record { name = a.opening_parts.name; parts = a.opening_parts.parts }
