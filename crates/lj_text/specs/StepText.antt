-- The text of steps: lines of an LRAT proof under joint numbers. Source: LRAT, Cruz-Filipe et al., Efficient Certified RAT
-- Verification (CADE 2017); the order of the literals and the leading number of a deletion are own.
--
--   addition: number literals 0 hints groups 0
--   deletion: greatest d numbers 0
use Rattle.std.specs.Prelude.{ℕ, not, max, List, [], ◌∷◌, ◌++◌, map, filter, flat_map, ℤ, Option, None, Some, codes}
use Rattle.std.specs.Fmt.{decimal, signed_decimal}
use Rattle.std.specs.List.{join_with_byte}
use Rattle.std.specs.Ordering.{eq_by_cmp}
use Rattle.std.specs.Str.{byte}
use Rattle.lj_clause.specs.Literal.{lit_cmp}
use Rattle.lj_clause.specs.LiteralSet.{literals}
use Rattle.lj_clause.specs.Lemma.{LemmaValue}
use Rattle.lj_clause.specs.Rat.{HintGroup}
use Rattle.lj_text.specs.declared.line.Addition.{Addition}
use Rattle.lj_text.specs.declared.step.Step.{Step}
use Rattle.lj_text.specs.declared.step.Step.TheVariants.{Add, Delete}

-- words with one space between each two, and a line feed
abbrev pub line_text : List (List ℕ) → List ℕ
line_text tokens = join_with_byte (byte " ") tokens ++ byte "\n" ∷ []

-- the pivot, then the other literals in their order
abbrev pub pivot_first : Option ℤ → List ℤ → List ℤ
pivot_first None ls = ls
pivot_first (Some pivot) ls = pivot ∷ filter (λ l. not (eq_by_cmp lit_cmp l pivot)) ls

-- the literals of a lemma as they are written
abbrev pub written_literals : LemmaValue → List ℤ
written_literals lemma = pivot_first lemma.pivot (literals lemma.clause)

-- a group: its candidate with a `-`, and its hints
abbrev pub group_tokens : HintGroup → List (List ℕ)
group_tokens g = (byte "-" ∷ decimal g.candidate) ∷ map decimal g.hints

-- the words of an addition behind its number: the literals and a 0, the hints, the groups and a 0
abbrev pub addition_tokens : Addition → List (List ℕ)
addition_tokens a = map signed_decimal (written_literals a.lemma)
    ++ codes "0" ∷ (map decimal a.hints ++ (flat_map group_tokens a.groups ++ codes "0" ∷ []))

-- the line of an addition
abbrev pub addition_text : Addition → List ℕ
addition_text a = line_text (decimal a.number ∷ addition_tokens a)

-- the line of a deletion that begins with this number
abbrev pub deletion_text : ℕ → List ℕ → List ℕ
deletion_text leading numbers = line_text
    (decimal leading ∷ codes "d" ∷ (map decimal numbers ++ codes "0" ∷ []))

-- the line of a step, where a deletion begins with this number
abbrev pub step_text : ℕ → Step → List ℕ
step_text leading (Add a) = addition_text a
step_text leading (Delete numbers) = deletion_text leading numbers

-- a number or, if it is greater, that of an addition
abbrev pub greatest_with : ℕ → Step → ℕ
greatest_with n (Add a) = max n a.number
greatest_with n (Delete numbers) = n

-- the text of steps, where the greatest of the numbers so far is n: that of the formula's last clause, and those of the
-- additions before
abbrev pub text_after : ℕ → List Step → List ℕ
text_after n [] = []
text_after n (step ∷ steps) = step_text n step ++ text_after (greatest_with n step) steps

-- the text of the steps of a proof of a formula with so many clauses
abbrev pub proof_text : ℕ → List Step → List ℕ
proof_text clauses steps = text_after clauses steps
