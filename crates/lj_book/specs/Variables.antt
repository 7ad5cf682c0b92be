-- The variables of the seats. Each seat names its variables above the formula's greatest as it likes, and each of these has one joint variable.
use Rattle.std.specs.Prelude.{◌≡◌, ℕ, ◌+◌, ◌<◌, Bool, if◌then◌else◌, List, [], ◌∷◌, map, replicate, Some, slice_index_or, slice_set}
use Rattle.std.specs.FinMap as fin
use Rattle.lj_clause.specs.Literal.{variable_of}
use Rattle.lj_clause.specs.LiteralSet.{LiteralSet, literals}
use Rattle.lj_clause.specs.Renaming.{Renaming, has_name, is_named, inverse, IsOneToOne}

-- For each seat the renaming of its own variables to joint ones, and the next joint variable that is free.
pub record Variables : Type 0 where
  pub of_seats : List Renaming
  pub next : ℕ

-- the renaming of a seat, empty where there is no such seat
abbrev pub renaming_of : Variables → ℕ → Renaming
renaming_of v seat = slice_index_or v.of_seats seat fin.empty

-- at the opening no seat has a variable of its own, and those up to top are the formula's
abbrev pub no_variables : ℕ → ℕ → Variables
no_variables top seats = record { of_seats = replicate seats fin.empty; next = top + 1 }

-- the seat's own variable gets the next joint one
abbrev pub with_variable : Variables → ℕ → ℕ → Variables
with_variable v seat x = record {
  of_seats = slice_set v.of_seats seat (fin.insert (renaming_of v seat) x v.next);
  next = v.next + 1;
}

-- but only where it is above top and has none yet
abbrev pub with_name : ℕ → Variables → ℕ → ℕ → Variables
with_name top v seat x = if has_name top (renaming_of v seat) x then v else with_variable v seat x

-- the same for each of these, in order
abbrev pub with_names : ℕ → Variables → ℕ → List ℕ → Variables
with_names top v seat [] = v
with_names top v seat (x ∷ xs) = with_names top (with_name top v seat x) seat xs

-- what stands once a lemma with this clause has entered through the seat: its variables get joint ones by rising number
abbrev pub given : ℕ → Variables → ℕ → LiteralSet → Variables
given top v seat c = with_names top v seat (map variable_of (literals c))

-- whether each variable of a joint clause is at most top, or one that the seat was given
abbrev pub is_own : ℕ → Variables → ℕ → LiteralSet → Bool
is_own top v seat c = is_named top (inverse (renaming_of v seat)) c

-- The seat's own variable x became the joint variable y.
abbrev pub IsGiven : Variables → ℕ → ℕ → ℕ → Type 0
IsGiven v seat x y = fin.get (renaming_of v seat) x ≡ Some y

-- Each joint variable above top and below the next one stands for one variable of one seat, and no other does.
pub record IsVariables (top : ℕ) (v : Variables) : Type 0 where
  pub one_to_one : (seat : ℕ) → IsOneToOne top (renaming_of v seat)
  pub apart : (s t x z y : ℕ) → IsGiven v s x y → IsGiven v t z y → s ≡ t
  pub below : (s x y : ℕ) → IsGiven v s x y → y < v.next
  pub all : (y : ℕ) → top < y → y < v.next → (s : ℕ) × (x : ℕ) × IsGiven v s x y
  pub past : top < v.next
