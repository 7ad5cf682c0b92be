-- The laws of propagations and of candidates.
use Rattle.std.specs.Prelude.{◌≡◌, ◌≢◌, ◌==◌, ◌↔◌, ℕ, ℤ, pos, true, List, [], ◌∷◌, map, length, take, option_map, if◌then◌else◌}
use Rattle.std.specs.List.{list_all, AllByRecursion}
use Rattle.std.specs.List.Sorted.{IsStrictlyIncreasing}
use Rattle.std.specs.FinMap.{insert}
use Rattle.std.specs.FinMap as fin
use Rattle.lj_clause.specs.Literal.{variable_of}
use Rattle.lj_clause.specs.LiteralSet.{LiteralSet, holds, with_literal, from_literals, negations}
use Rattle.lj_clause.specs.Lemma.{LemmaValue, IsLemma, lemma_of}
use Rattle.lj_clause.specs.ClauseMap.{ClauseMap, names_up_to}
use Rattle.lj_clause.specs.Truth.{Assignment, satisfies, SatisfiesAll, IsSatisfiable}
use Rattle.lj_clause.specs.Propagation.{Closed, Open, propagate, is_rup}
use Rattle.lj_clause.specs.Rat.{HintGroup, Covered, candidates, rat}
use Rattle.lj_clause.specs.Renaming.{Renaming, renamed, literal_image, image, lemma_image, has_name, is_named, IsOneToOne, IsNewName, inverse, IsPartOf, clauses_image, AreNamed}

-- an assignment that satisfies the clauses of a map satisfies each clause that is RUP in it
abbrev pub ClosedPropagationImplies : Type 0
ClosedPropagationImplies = (p : ClauseMap) (c : LiteralSet) (numbers : List ℕ) (a : Assignment)
    → is_rup p c numbers ≡ true → SatisfiesAll a p → satisfies a c ≡ true

-- the hints that a closed propagation read are the first of those given, and close it alone
abbrev pub UsedPartCloses : Type 0
UsedPartCloses = (p : ClauseMap) (s : LiteralSet) (numbers used : List ℕ)
    → propagate p s numbers ≡ Closed used
    → (take (length used) numbers ≡ used) × (propagate p s used ≡ Closed used)

-- a clause that is RAT on its pivot can be added to a satisfiable map under any number, and leaves it satisfiable
abbrev pub RatKeepsSatisfiable : Type 0
RatKeepsSatisfiable =
    (p : ClauseMap) (n : ℕ) (c : LiteralSet) (pivot : ℤ) (numbers : List ℕ) (s : LiteralSet)
    (groups recorded : List HintGroup) → pivot ≢ pos 0 → holds c pivot ≡ true
    → propagate p (negations c) numbers ≡ Open s → rat p s pivot groups ≡ Covered recorded
    → IsSatisfiable p → IsSatisfiable (insert p n c)

-- the hints given for a candidate: those of its first group, none if it has no group
abbrev pub hints_given : ℕ → List HintGroup → List ℕ
hints_given n [] = []
hints_given n (g ∷ gs) = if g.candidate == n then g.hints else hints_given n gs

-- The groups that cover the candidates of a pivot.
pub record IsRecordedForm (p : ClauseMap) (s : LiteralSet) (pivot : ℤ)
    (groups recorded : List HintGroup) : Type 0 where
  -- they are one for each candidate
  pub numbers : map (λ (g : HintGroup). g.candidate) recorded
      ≡ map (λ (e : ℕ × LiteralSet). e.0) (candidates p pivot)
  -- by rising number
  pub rising : IsStrictlyIncreasing (map (λ (g : HintGroup). g.candidate) recorded)
  -- the hints of each are the first of those given for its candidate
  pub first_hints : AllByRecursion
      (λ (g : HintGroup). take (length g.hints) (hints_given g.candidate groups) ≡ g.hints) recorded
  -- and they cover the pivot by themselves, with all their hints read
  pub covers : rat p s pivot recorded ≡ Covered recorded

-- the groups that cover a pivot are in recorded form
abbrev pub CoveredIsRecorded : Type 0
CoveredIsRecorded = (p : ClauseMap) (s : LiteralSet) (pivot : ℤ) (groups recorded : List HintGroup)
    → rat p s pivot groups ≡ Covered recorded → IsRecordedForm p s pivot groups recorded

-- The laws of renamings of variables.
pub record RenamingLaws : Type 0 where
  -- the one of no variable leaves each clause as it is
  pub nothing : (c : LiteralSet) → image fin.empty c ≡ c
  -- a clause's image has the images of its literals, and no others
  pub held : (m : Renaming) (c : LiteralSet) (q : ℤ) → (holds (image m c) q ≡ true)
      ↔ ((l : ℤ) × (holds c l ≡ true) × (q ≡ literal_image m l))
  -- the image of a literal more, of a lemma, also as it is written, and of negations
  pub more : (m : Renaming) (c : LiteralSet) (l : ℤ)
      → image m (with_literal c l) ≡ with_literal (image m c) (literal_image m l)
  pub lemma : (m : Renaming) (lemma : LemmaValue) → IsLemma lemma → IsLemma (lemma_image m lemma)
  pub listed : (m : Renaming) (ls : List ℤ)
      → lemma_image m (lemma_of ls) ≡ lemma_of (map (literal_image m) ls)
  pub negated : (v : ℕ) (m : Renaming) (c : LiteralSet) → IsOneToOne v m
      → image m (negations c) ≡ negations (image m c)
  -- the clause of a list is named where each literal's variable is
  pub named_list : (v : ℕ) (m : Renaming) (ls : List ℤ)
      → is_named v m (from_literals ls) ≡ list_all (λ l. has_name v m (variable_of l)) ls
  -- a clause over the first variables is named, and stays as it is
  pub unmoved : (v : ℕ) (m : Renaming) (c : LiteralSet) → IsOneToOne v m
      → names_up_to v c ≡ true → (is_named v m c ≡ true) × (image m c ≡ c)
  -- an assignment satisfies an image where what it gives to the names satisfies the clause
  pub truth : (v : ℕ) (m : Renaming) (c : LiteralSet) (a : Assignment) → IsOneToOne v m
      → satisfies a (image m c) ≡ satisfies (λ x. a (renamed m x)) c
  -- the renaming back is one to one too, and gives back each clause that is named
  pub back : (v : ℕ) (m : Renaming) → IsOneToOne v m → IsOneToOne v (inverse m)
  pub given_back : (v : ℕ) (m : Renaming) (c : LiteralSet) → IsOneToOne v m
      → is_named v m c ≡ true → image (inverse m) (image m c) ≡ c
  pub named_back : (v : ℕ) (m : Renaming) (c : LiteralSet) → IsOneToOne v m
      → is_named v m c ≡ true → is_named v (inverse m) (image m c) ≡ true
  -- what renames more does the same with the clauses that were named
  pub grown : (v : ℕ) (m n : Renaming) (c : LiteralSet) → IsPartOf m n → IsOneToOne v n
      → is_named v m c ≡ true → (image n c ≡ image m c) × (is_named v n c ≡ true)

-- How renamings grow.
pub record NamingLaws : Type 0 where
  pub empty : (v : ℕ) → IsOneToOne v fin.empty
  pub more : (v : ℕ) (m : Renaming) (x y : ℕ) → IsOneToOne v m → IsNewName v m x y
      → IsOneToOne v (fin.insert m x y) × IsPartOf m (fin.insert m x y)
      × (inverse (fin.insert m x y) ≡ fin.insert (inverse m) y x)

-- The laws of the images of clause maps.
pub record MapImageLaws : Type 0 where
  -- under each number there is the image of the map's clause
  pub got : (m : Renaming) (p : ClauseMap) (n : ℕ)
      → fin.get (clauses_image m p) n ≡ option_map (image m) (fin.get p n)
  -- the image of a clause more, and of a number less
  pub inserted : (m : Renaming) (p : ClauseMap) (n : ℕ) (c : LiteralSet)
      → clauses_image m (fin.insert p n c) ≡ fin.insert (clauses_image m p) n (image m c)
  pub removed : (m : Renaming) (p : ClauseMap) (n : ℕ)
      → clauses_image m (fin.remove p n) ≡ fin.remove (clauses_image m p) n
  -- what renames more does the same with a map whose clauses were named
  pub grown : (v : ℕ) (m n : Renaming) (p : ClauseMap) → IsPartOf m n → IsOneToOne v n
      → AreNamed v m p → (clauses_image n p ≡ clauses_image m p) × AreNamed v n p
  -- the renaming back gives back such a map
  pub given_back : (v : ℕ) (m : Renaming) (p : ClauseMap) → IsOneToOne v m → AreNamed v m p
      → clauses_image (inverse m) (clauses_image m p) ≡ p
