use Rattle.std.proofs.Common.{◌≡◌, ◌+◌, ◌*◌, ◌≤◌, ◌++◌, vec_len, vec_capacity}
use Rattle.std.specs.Prelude.{flat_map}
use Rattle.lj_book.specs.inner.Encoding.{hint_group_encoding, hint_groups_encoding, groups_numbers}
use Rattle.lj_book.proofs.encoding.writing.put_groups.Given as goal

abbrev pub invariant-loop-group : goal.invariant-loop-group
invariant-loop-group l =
    record {
      encoding : l.encoding.items ++ flat_map hint_group_encoding l.group-iterator ≡ l.fn.encoding.items ++ hint_groups_encoding l.groups;
      len : vec_len l.encoding + 3 * groups_numbers l.group-iterator ≤ vec_len l.fn.encoding + 3 * (1 + groups_numbers l.groups);
      capacity : vec_capacity l.fn.encoding ≤ vec_capacity l.encoding;
    }
