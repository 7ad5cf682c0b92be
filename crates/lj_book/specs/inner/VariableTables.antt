-- How the variables of the seats are kept, and how the last of them are taken back.
use Rattle.std.specs.Prelude.{◌≡◌, ℕ, ◌+◌, ◌<◌, ◌≤◌, Bool, if◌then◌else◌, nat_lt, nat_le, List, map, filter, length, Option, Some, None, slice_get, slice_index_or, refl}
use Rattle.std.specs.Coded.{Coded, code_by, coded×, coded_list, coded_ℕ}
use Rattle.std.specs.FinMap as fin
use Rattle.lj_clause.specs.declared.lit.TheConstants.{MAX_VARIABLE}
use Rattle.lj_clause.specs.LiteralSet.{LiteralSet}
use Rattle.lj_clause.specs.Lemma.{LemmaValue}
use Rattle.lj_clause.specs.Renaming.{Renaming, has_name, is_named, image, lemma_image, inverse}
use Rattle.lj_book.specs.declared.variable_table.Owner.{Owner}
use Rattle.lj_book.specs.Variables.{Variables, renaming_of, given, is_own}

-- The variables of the seats, and the greatest variable of the formula.
pub record TopVariables : Type 0 where
  pub top : ℕ
  pub variables : Variables

-- the same, from its parts
abbrev pub variables_at : ℕ → Variables → TopVariables
variables_at top v = record { top = top; variables = v }

-- what is kept: a renaming for each seat, and an owner for each joint variable from top + 1 on
abbrev pub kept_variables : ℕ → List Renaming → List Owner → TopVariables
kept_variables top ms owners =
    variables_at top (record { of_seats = ms; next = top + 1 + length owners })

-- how a proof stores them
abbrev pub variables_code : Coded TopVariables
variables_code = code_by (ℕ × (List Renaming × ℕ))
    (coded× coded_ℕ (coded× (coded_list (fin.code coded_ℕ coded_ℕ)) coded_ℕ))
    (λ t. (t.top, (t.variables.of_seats, t.variables.next)))
    (λ p. variables_at p.0 (record { of_seats = p.1.0; next = p.1.1 })) (λ _. refl)

-- whether the variable is the formula's, or the seat has a joint one for it
abbrev pub seat_names : TopVariables → ℕ → ℕ → Bool
seat_names t seat x = has_name t.top (renaming_of t.variables seat) x

-- The joint variable y is above top, and its owner is this.
pub record IsOwned (top : ℕ) (owners : List Owner) (y : ℕ) (owner : Owner) : Type 0 where
  pub at : ℕ
  pub is : y ≡ top + 1 + at
  pub stands : slice_get owners at ≡ Some owner

-- The renamings and the owners say the same, and no variable is beyond the limit.
pub record AreOwners (top : ℕ) (ms : List Renaming) (owners : List Owner) : Type 0 where
  pub few : top + length owners ≤ MAX_VARIABLE
  pub above : (s x y : ℕ) → fin.get (slice_index_or ms s fin.empty) x ≡ Some y
      → (top < x) × (x ≤ MAX_VARIABLE)
  pub given : (s x y : ℕ) → fin.get (slice_index_or ms s fin.empty) x ≡ Some y
      → IsOwned top owners y (record { seat = s; variable = x })
  pub owned : (k : ℕ) (o : Owner) → slice_get owners k ≡ Some o
      → fin.get (slice_index_or ms o.seat fin.empty) o.variable ≡ Some (top + 1 + k)

-- the renaming without the joint variables from this one on
abbrev pub renaming_below : ℕ → Renaming → Renaming
renaming_below n m = fin.from_entries (filter (λ e. nat_lt e.1 n) (fin.entries m))

-- the variables as they were when this joint variable was the next one
abbrev pub variables_before : ℕ → Variables → Variables
variables_before n v = record { of_seats = map (renaming_below n) v.of_seats; next = n }

-- whether as many joint variables are left as the clause needs
abbrev pub are_left : ℕ → Variables → ℕ → LiteralSet → Bool
are_left top v seat c = nat_le (given top v seat c).next (MAX_VARIABLE + 1)

-- a seat's lemma in joint variables, where each of its variables has one
abbrev pub lemma_as_joint : ℕ → Variables → ℕ → LemmaValue → Option LemmaValue
lemma_as_joint top v seat lemma = if is_named top (renaming_of v seat) lemma.clause
    then Some (lemma_image (renaming_of v seat) lemma)
    else None

-- a joint clause in the seat's variables, where they are its own
abbrev pub as_own : ℕ → Variables → ℕ → LiteralSet → Option LiteralSet
as_own top v seat c =
    if is_own top v seat c then Some (image (inverse (renaming_of v seat)) c) else None

-- a joint lemma, likewise
abbrev pub lemma_as_own : ℕ → Variables → ℕ → LemmaValue → Option LemmaValue
lemma_as_own top v seat lemma = if is_own top v seat lemma.clause
    then Some (lemma_image (inverse (renaming_of v seat)) lemma)
    else None
