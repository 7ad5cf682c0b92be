-- The test of an addition that needs more joint variables than are left. Only the literals that have joint forms are tested.
use Rattle.std.specs.Prelude.{ℕ, ℤ, neg_ℤ, nat_lt, Bool, false, not, ◌&&◌, ◌||◌, if◌then◌else◌, List, ◌∷◌, map, filter, Option, Some, None, Result, Ok, Err}
use Rattle.std.specs.List.{list_any}
use Rattle.lj_clause.specs.Literal.{variable_of}
use Rattle.lj_clause.specs.LiteralSet.{LiteralSet, holds, literals}
use Rattle.lj_clause.specs.Lemma.{LemmaValue, lemma_of}
use Rattle.lj_clause.specs.Renaming.{Renaming, has_name, literal_image}
use Rattle.lj_text.specs.declared.line.Addition.{Addition}
use Rattle.lj_book.specs.declared.entry.Added.{Added}
use Rattle.lj_book.specs.declared.refusal.Refusal.{Refusal}
use Rattle.lj_book.specs.declared.refusal.Refusal.TheVariants.{HintNotUnit, EmptyOpen, MissingGroup, GroupStuck, GroupOpen, Full}
use Rattle.lj_book.specs.Variables.{renaming_of}
use Rattle.lj_book.specs.State.{State, addition_count}
use Rattle.lj_book.specs.Calls.{commit_told}
use Rattle.lj_book.specs.NamedInside.{if_left}
use Rattle.lj_book.specs.inner.JointLines.{inside_line}
use Rattle.lj_book.specs.inner.VariableTables.{TopVariables}

-- whether the literal has a joint form
abbrev pub is_known : ℕ → Renaming → ℤ → Bool
is_known top m l = has_name top m (variable_of l)

-- the joint forms of the literals that have one
abbrev pub known_images : ℕ → Renaming → List ℤ → List ℤ
known_images top m ls = map (literal_image m) (filter (is_known top m) ls)

-- the literals of a lemma, with its pivot in front
abbrev pub led_by : Option ℤ → List ℤ → List ℤ
led_by None ls = ls
led_by (Some p) ls = p ∷ ls

-- the lemma of these, whose pivot is the lemma's where that has a joint form
abbrev pub known_lemma : ℕ → Renaming → LemmaValue → LemmaValue
known_lemma top m lemma =
    lemma_of (known_images top m (led_by lemma.pivot (literals lemma.clause)))

-- whether the clause holds both signs of a variable without a joint one, so that each propagation of it closes at once
abbrev pub closes_at_once : ℕ → Renaming → LiteralSet → Bool
closes_at_once top m c = list_any (λ l. not (is_known top m l) && holds c (neg_ℤ l)) (literals c)

-- whether the pivot has no joint form, and so no candidate
abbrev pub is_new : ℕ → Renaming → Option ℤ → Bool
is_new top m None = false
is_new top m (Some p) = not (is_known top m p)

-- whether the whole lemma isn't refused so, though the lemma of the known literals is
abbrev pub is_lifted : Bool → Bool → Refusal → Bool
is_lifted closes new (HintNotUnit place) = closes
is_lifted closes new EmptyOpen = closes || new
is_lifted closes new (MissingGroup n) = closes || new
is_lifted closes new (GroupStuck n place) = closes || new
is_lifted closes new (GroupOpen n) = closes || new
is_lifted closes new e = false

-- the refusal of the whole lemma by that of the known literals
abbrev pub limit_refusal : Bool → Bool → Option Refusal → Option Refusal
limit_refusal closes new None = None
limit_refusal closes new (Some e) = if is_lifted closes new e then None else Some e

-- the addition of the literals that have joint forms
abbrev pub known_addition : TopVariables → ℕ → Addition → Addition
known_addition v seat a = record a { lemma = known_lemma v.top (renaming_of v.variables seat) a.lemma }

-- the reply to the whole addition by that to the one of these literals
abbrev pub whole_reply : State → Bool → Bool → Result Addition Refusal → Result Added Refusal
whole_reply s closes new (Ok step) = Ok (commit_told s)
whole_reply s closes new (Err e) = if is_lifted closes new e
    then (if nat_lt (addition_count s.history) s.max_steps then Ok (commit_told s) else Err Full)
    else Err e

-- the reply where too few joint variables are left
abbrev pub limit_reply : State → TopVariables → ℕ → Addition → Result Added Refusal
limit_reply s v seat a = if_left false (whole_reply s
    (closes_at_once v.top (renaming_of v.variables seat) a.lemma.clause)
    (is_new v.top (renaming_of v.variables seat) a.lemma.pivot)
    (inside_line s seat (known_addition v seat a)))
