-- What a book keeps beside its state.
use Rattle.std.specs.Prelude.{◌≡◌, ℕ, ◌==◌, Option, Some, None, if◌then◌else◌}
use Rattle.std.specs.FinMap as fin
use Rattle.lj_clause.specs.LiteralSet.{LiteralSet}
use Rattle.lj_clause.specs.ClauseMap.{ClauseMap}
use Rattle.lj_book.specs.State.{State, addition_count, live, verdict}
use Rattle.lj_book.specs.History.{IsReached}

-- The live clauses, the count of additions and the place of the first empty one are those of the state, which a legal
-- history reaches.
pub record IsKept (s : State) (clauses : ClauseMap) (count : ℕ) (refuted : Option ℕ) : Type 0 where
  pub reached : IsReached s
  pub lives : clauses ≡ live s
  pub additions : count ≡ addition_count s.history
  pub first_empty : refuted ≡ verdict s.history

-- the place of the first empty clause, where this clause enters at that place
abbrev pub refuted_after : Option ℕ → ℕ → LiteralSet → Option ℕ
refuted_after None place c = if fin.len c == 0 then Some place else None
refuted_after (Some first) index c = Some first
