use Rattle.std.proofs.Common.{◌≡◌, ◌+◌, ◌++◌, length, vec_len, vec_capacity, drop}
use Rattle.lj_book.proofs.history.writing.put_lits.Given as goal

abbrev pub invariant-loop-lit : goal.invariant-loop-lit
invariant-loop-lit l =
    record {
      lits : l.lits.items ++ drop l.lit-index l.more ≡ l.fn.lits.items ++ l.more;
      len : vec_len l.lits + length (drop l.lit-index l.more) ≡ vec_len l.fn.lits + length l.more;
      capacity : vec_capacity l.fn.lits ≡ vec_capacity l.lits;
    }
