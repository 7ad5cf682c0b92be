-- Whether a seat's clause is a joint one.
use Rattle.std.specs.Prelude.{ℕ, Bool, ◌&&◌}
use Rattle.lj_clause.specs.LiteralSet.{LiteralSet}
use Rattle.lj_clause.specs.ClauseMap.{ClauseMap}
use Rattle.lj_clause.specs.Renaming.{Renaming, image, is_named}
use Rattle.lj_hint.specs.declared.pair.Pair.{Pair}
use Rattle.lj_hint.specs.Images.{pair_image}
use Rattle.lj_book.specs.Lookup.{is_same}
use Rattle.lj_book.specs.Calls.{is_live_as}
use Rattle.lj_book.specs.Variables.{Variables, renaming_of}

-- whether the first clause, in the seat's variables, has a joint form, and the second is it
abbrev pub is_joint_form : ℕ → Variables → ℕ → LiteralSet → LiteralSet → Bool
is_joint_form top v seat c d =
    is_named top (renaming_of v seat) c && is_same (image (renaming_of v seat) c) d

-- whether the pair's clause has a joint form by the renaming, which lives under its number
abbrev pub lives_in_form : ℕ → Renaming → ClauseMap → Pair → Bool
lives_in_form top m p pair = is_named top m pair.clause && is_live_as p (pair_image m pair)
