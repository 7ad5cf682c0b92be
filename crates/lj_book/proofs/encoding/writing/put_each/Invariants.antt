use Rattle.std.proofs.Common.{◌≡◌, ◌+◌, ◌*◌, ◌≤◌, ◌++◌, length, vec_len, vec_capacity, drop}
use Rattle.std.specs.Prelude.{flat_map}
use Rattle.lj_book.specs.inner.Encoding.{number_encoding}
use Rattle.lj_book.proofs.encoding.writing.put_each.Given as goal

abbrev pub invariant-loop-number : goal.invariant-loop-number
invariant-loop-number l =
    record {
      encoding : l.encoding.items ++ flat_map number_encoding (drop l.number-index l.numbers) ≡ l.fn.encoding.items ++ flat_map number_encoding l.numbers;
      len : vec_len l.encoding + 3 * length (drop l.number-index l.numbers) ≤ vec_len l.fn.encoding + 3 * length l.numbers;
      capacity : vec_capacity l.fn.encoding ≤ vec_capacity l.encoding;
    }
