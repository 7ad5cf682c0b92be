-- Additions in joint variables.
use Rattle.std.specs.Prelude.{ℕ, ◌==◌, ◌&&◌, Bool}
use Rattle.std.specs.List.{list_all}
use Rattle.lj_clause.specs.Literal.{variable_of}
use Rattle.lj_clause.specs.LiteralSet.{LiteralSet, literals}
use Rattle.lj_clause.specs.Renaming.{Renaming, renamed, is_named, lemma_image}
use Rattle.lj_text.specs.declared.line.Addition.{Addition}
use Rattle.lj_book.specs.declared.entry.Call.{Call}
use Rattle.lj_book.specs.declared.entry.Entry.{Entry}
use Rattle.lj_book.specs.Variables.{Variables, renaming_of}

-- the seat's addition with its lemma renamed to the joint variables that the seat was given
abbrev pub joint_form : Variables → ℕ → Addition → Addition
joint_form v seat a = record a { lemma = lemma_image (renaming_of v seat) a.lemma }

-- the entry with this call in place of its own
abbrev pub with_call : Call → Entry → Entry
with_call call e = record e { call = call }

-- whether each variable of the clause stays what it is
abbrev pub is_unmoved : Renaming → LiteralSet → Bool
is_unmoved m c = list_all (λ l. renamed m (variable_of l) == variable_of l) (literals c)

-- whether each variable of the clause is at most top or has a joint one, and stays what it is
abbrev pub is_settled : ℕ → Renaming → LiteralSet → Bool
is_settled top m c = is_named top m c && is_unmoved m c
