use Rattle.std.proofs.Common.{◌≡◌, ◌+◌, ◌*◌, ◌≤◌, ◌++◌, length, vec_len, vec_capacity}
use Rattle.std.specs.Prelude.{flat_map}
use Rattle.lj_book.specs.inner.Encoding.{number_encoding}
use Rattle.lj_book.proofs.encoding.writing.put_left.Given as goal

-- the words so far, and those of the numbers to come, are the words of all; there is room for those to come
abbrev pub invariant-loop-number : goal.invariant-loop-number
invariant-loop-number l =
    record {
      encoding : l.encoding.items ++ flat_map number_encoding l.number-iterator ≡ l.fn.encoding.items ++ flat_map number_encoding l.fn.numbers;
      len : vec_len l.encoding + 3 * length l.number-iterator ≤ vec_len l.fn.encoding + 3 * length l.fn.numbers;
      capacity : vec_capacity l.fn.encoding ≤ vec_capacity l.encoding;
    }
