-- Renamings of variables, and what becomes of literals, clauses, hints and propagations.
use Rattle.std.specs.Prelude.{◌≡◌, ◌<◌, ℕ, suc, ℤ, pos, negsuc, neg_ℤ, Bool, true, ◌||◌, nat_le, List, map, Some, None, option_map, unwrap_or, All, IfSome}
use Rattle.std.specs.List.{list_all}
use Rattle.std.specs.Ordering.{nat_cmp}
use Rattle.std.specs.FinMap as fin
use Rattle.lj_clause.specs.Literal.{variable_of}
use Rattle.lj_clause.specs.LiteralSet.{LiteralSet, literals, from_literals}
use Rattle.lj_clause.specs.Lemma.{LemmaValue}
use Rattle.lj_clause.specs.ClauseMap.{ClauseMap}
use Rattle.lj_clause.specs.Propagation.{Propagation, Closed, Open, Stuck, Hint}
use Rattle.lj_clause.specs.Rat.{NamedGroup}

-- a renaming of variables: a finite map, which leaves those that it hasn't
abbrev pub Renaming : Type 0
Renaming = fin.FinMap nat_cmp ℕ

-- what a variable becomes
abbrev pub renamed : Renaming → ℕ → ℕ
renamed m x = unwrap_or (fin.get m x) x

-- what a literal becomes: its variable is renamed, and its sign stays
abbrev pub literal_image : Renaming → ℤ → ℤ
literal_image m (pos n) = pos (renamed m n)
literal_image m (negsuc n) = neg_ℤ (pos (renamed m (suc n)))

-- what a clause becomes
abbrev pub image : Renaming → LiteralSet → LiteralSet
image m c = from_literals (map (literal_image m) (literals c))

-- what a lemma becomes
abbrev pub lemma_image : Renaming → LemmaValue → LemmaValue
lemma_image m lemma = record
    { clause = image m lemma.clause; pivot = option_map (literal_image m) lemma.pivot }

-- whether a variable is at most v, or the renaming has it
abbrev pub has_name : ℕ → Renaming → ℕ → Bool
has_name v m x = nat_le x v || fin.contains_key m x

-- whether that holds of each variable of a clause
abbrev pub is_named : ℕ → Renaming → LiteralSet → Bool
is_named v m c = list_all (λ l. has_name v m (variable_of l)) (literals c)

-- Only variables above v are renamed, to others above v, and no two to one.
pub record IsOneToOne (v : ℕ) (m : Renaming) : Type 0 where
  pub above : (x y : ℕ) → fin.get m x ≡ Some y → (v < x) × (v < y)
  pub apart : (x z y : ℕ) → fin.get m x ≡ Some y → fin.get m z ≡ Some y → x ≡ z

-- the renaming back
abbrev pub inverse : Renaming → Renaming
inverse m = fin.from_entries (map (λ (e : ℕ × ℕ). (e.1, e.0)) (fin.entries m))

-- A variable that has no name yet, and a name for it that no other has.
pub record IsNewName (v : ℕ) (m : Renaming) (x y : ℕ) : Type 0 where
  pub above : (v < x) × (v < y)
  pub nameless : fin.get m x ≡ None
  pub unused : fin.get (inverse m) y ≡ None

-- the second renaming renames all that the first does, and to the same
abbrev pub IsPartOf : Renaming → Renaming → Type 0
IsPartOf m n = (x y : ℕ) → fin.get m x ≡ Some y → fin.get n x ≡ Some y

-- what a numbered clause becomes
abbrev pub entry_image : Renaming → ℕ × LiteralSet → ℕ × LiteralSet
entry_image m e = (e.0, image m e.1)

-- what a clause map becomes
abbrev pub clauses_image : Renaming → ClauseMap → ClauseMap
clauses_image m p = fin.from_entries (map (entry_image m) (fin.entries p))

-- what a hint becomes
abbrev pub hint_image : Renaming → Hint → Hint
hint_image m h = record { number = h.number; clause = option_map (image m) h.clause }

-- what the group of a candidate becomes
abbrev pub group_image : Renaming → NamedGroup → NamedGroup
group_image m g = record { candidate = g.candidate; hints = map (hint_image m) g.hints }

-- what the end of a propagation becomes: an open one holds other literals
abbrev pub propagation_image : Renaming → Propagation → Propagation
propagation_image m (Closed used) = Closed used
propagation_image m (Open a) = Open (image m a)
propagation_image m (Stuck position) = Stuck position

-- the clauses of a map are named
abbrev pub AreNamed : ℕ → Renaming → ClauseMap → Type 0
AreNamed v m p = (n : ℕ) (c : LiteralSet) → fin.get p n ≡ Some c → is_named v m c ≡ true

-- those of hints
abbrev pub AreNamedHints : ℕ → Renaming → List Hint → Type 0
AreNamedHints v m hs = All (λ h. IfSome h.clause (λ c. is_named v m c ≡ true)) hs
