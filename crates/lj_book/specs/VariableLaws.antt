-- The laws of the seats' variables.
use Rattle.std.specs.Prelude.{◌≡◌, ◌≢◌, ◌<◌, ◌≤◌, ℕ, true, length}
use Rattle.lj_clause.specs.LiteralSet.{LiteralSet}
use Rattle.lj_clause.specs.ClauseMap.{names_up_to}
use Rattle.lj_clause.specs.Renaming.{image, is_named, IsPartOf}
use Rattle.lj_book.specs.Variables.{Variables, IsVariables, IsGiven, renaming_of, no_variables, given, is_own}

-- at the opening the rules hold
abbrev pub NoneAreVariables : Type 0
NoneAreVariables = (top seats : ℕ) → IsVariables top (no_variables top seats)

-- What a lemma's clause gives its seat.
pub record GivesVariables (top : ℕ) (v : Variables) (seat : ℕ) (c : LiteralSet) : Type 0 where
  -- the rules hold afterwards
  pub kept : IsVariables top (given top v seat c)
  -- what the seat had stays, and so does all that the others have
  pub grown : IsPartOf (renaming_of v seat) (renaming_of (given top v seat c) seat)
  pub others : (s : ℕ) → s ≢ seat → renaming_of (given top v seat c) s ≡ renaming_of v s
  -- the joint variables that it gives out rise with the seat's own
  pub rising : (x z y u : ℕ) → IsGiven (given top v seat c) seat x y
      → IsGiven (given top v seat c) seat z u → v.next ≤ y → y < u → x < z
  -- the clause is named
  pub named : is_named top (renaming_of (given top v seat c) seat) c ≡ true
  -- and a clause that was named before still is, with the same image
  pub still : (d : LiteralSet) → is_named top (renaming_of v seat) d ≡ true
      → (is_named top (renaming_of (given top v seat c) seat) d ≡ true)
      × (image (renaming_of (given top v seat c) seat) d ≡ image (renaming_of v seat) d)

-- each clause gives its seat what it should
abbrev pub EachGives : Type 0
EachGives = (top : ℕ) (v : Variables) (seat : ℕ) (c : LiteralSet)
    → IsVariables top v → seat < length v.of_seats → GivesVariables top v seat c

-- a clause that is named gives nothing
abbrev pub NamedGivesNothing : Type 0
NamedGivesNothing = (top : ℕ) (v : Variables) (seat : ℕ) (c : LiteralSet)
    → is_named top (renaming_of v seat) c ≡ true → given top v seat c ≡ v

-- a clause's image by one seat is that seat's own
abbrev pub ImagesAreOwn : Type 0
ImagesAreOwn = (top : ℕ) (v : Variables) (seat : ℕ) (c : LiteralSet) → IsVariables top v
    → is_named top (renaming_of v seat) c ≡ true
    → is_own top v seat (image (renaming_of v seat) c) ≡ true

-- and another's only where it has no variable above top
abbrev pub OthersOwnNone : Type 0
OthersOwnNone = (top : ℕ) (v : Variables) (seat other : ℕ) (c : LiteralSet) → IsVariables top v
    → other ≢ seat → is_named top (renaming_of v seat) c ≡ true
    → is_own top v other (image (renaming_of v seat) c) ≡ true → names_up_to top c ≡ true
