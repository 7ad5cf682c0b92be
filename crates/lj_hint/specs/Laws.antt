-- What a receipt means, whenever it is used, and that the numbers of hints and the variables are but names.
use Rattle.std.specs.Prelude.{◌≡◌, ℕ, ℤ, List, map, length, true, Some, option_map, All}
use Rattle.std.specs.FinMap.{get}
use Rattle.lj_clause.specs.Literal.{variable_of}
use Rattle.lj_clause.specs.LiteralSet.{LiteralSet, from_literals, negations}
use Rattle.lj_clause.specs.Lemma.{LemmaValue, IsLemma}
use Rattle.lj_clause.specs.ClauseMap.{ClauseMap}
use Rattle.lj_clause.specs.Truth.{Assignment, satisfies, SatisfiesAll}
use Rattle.lj_clause.specs.Propagation.{Propagation, Closed, Open, Hint, rest, propagate, propagate_over}
use Rattle.lj_clause.specs.Rat.{HintGroup, NamedGroup, candidates, rat_over, rat}
use Rattle.lj_clause.specs.Renaming.{Renaming, literal_image, image, has_name, is_named, IsOneToOne, entry_image, clauses_image, hint_image, group_image, propagation_image, AreNamed, AreNamedHints}
use Rattle.lj_hint.specs.Hints.{numbers}
use Rattle.lj_hint.specs.Case.{CaseValue, propagation_of}
use Rattle.lj_hint.specs.Ending.{ending_of}
use Rattle.lj_hint.specs.Receipt.{ReceiptValue, IsReceipt, receipt_of}
use Rattle.lj_hint.specs.Images.{case_image, receipt_image, IsNamedCase, IsNamedReceipt}
use Rattle.lj_hint.specs.LineTest.{line_reply}

-- the clause map has each listed clause under its number
abbrev pub HasListed : ClauseMap → ReceiptValue → Type 0
HasListed p r = All (λ h. get p h.joint ≡ Some h.clause) r.listed

-- in such a map the listed numbers close the propagation of the lemma's negation, and each is read
abbrev pub ReceiptIsRup : Type 0
ReceiptIsRup = (r : ReceiptValue) (p : ClauseMap) → IsReceipt r → HasListed p r
    → propagate p (negations r.lemma.clause) (numbers r.listed) ≡ Closed (numbers r.listed)

-- in such a map every assignment that satisfies it satisfies the lemma
abbrev pub ReceiptImplies : Type 0
ReceiptImplies = (r : ReceiptValue) (p : ClauseMap) (a : Assignment) → IsReceipt r → HasListed p r
    → SatisfiesAll a p → satisfies a r.lemma.clause ≡ true

-- the hints name the same clauses, place by place
abbrev pub HaveSameClauses : List Hint → List Hint → Type 0
HaveSameClauses hs gs = map (λ h. h.clause) hs ≡ map (λ h. h.clause) gs

-- propagations over such hints end alike
abbrev pub PropagationsGoByClauses : Type 0
PropagationsGoByClauses = (a : LiteralSet) (hs gs : List Hint) → HaveSameClauses hs gs
    → ending_of (propagate_over a hs) ≡ ending_of (propagate_over a gs)

-- and where they end open, they hold the same literals true
abbrev pub OpenPropagationsGoByClauses : Type 0
OpenPropagationsGoByClauses = (a b : LiteralSet) (hs gs : List Hint) → HaveSameClauses hs gs
    → propagate_over a hs ≡ Open b → propagate_over a gs ≡ Open b

-- Tests under a renaming that has the variables of all that is tested.
pub record TestsCommute (v : ℕ) (m : Renaming) : Type 0 where
  -- what is left of a clause's image is the image of what is left of the clause, and as much
  pub left : (d a : LiteralSet) → is_named v m d ≡ true → is_named v m a ≡ true
      → (from_literals (rest (image m d) (image m a)) ≡ image m (from_literals (rest d a)))
      × (length (rest (image m d) (image m a)) ≡ length (rest d a))
  -- the propagation of the images is the image of the propagation, whose literals are named too
  pub propagated : (a : LiteralSet) (hs : List Hint) → is_named v m a ≡ true → AreNamedHints v m hs
      → propagate_over (image m a) (map (hint_image m) hs)
      ≡ propagation_image m (propagate_over a hs)
  pub open_named : (a b : LiteralSet) (hs : List Hint) → is_named v m a ≡ true
      → AreNamedHints v m hs → propagate_over a hs ≡ Open b → is_named v m b ≡ true
  -- the candidates of a pivot's image are the images of its candidates
  pub found : (p : ClauseMap) (pivot : ℤ) → AreNamed v m p
      → has_name v m (variable_of pivot) ≡ true
      → candidates (clauses_image m p) (literal_image m pivot)
      ≡ map (entry_image m) (candidates p pivot)
  -- and their test ends alike, with whatever groups
  pub covered : (a : LiteralSet) (pivot : ℤ) (groups : List NamedGroup)
      (es : List (ℕ × LiteralSet)) → is_named v m a ≡ true
      → has_name v m (variable_of pivot) ≡ true
      → All (λ g. AreNamedHints v m g.hints) groups → All (λ e. is_named v m e.1 ≡ true) es
      → rat_over (image m a) (literal_image m pivot) (map (group_image m) groups)
      (map (entry_image m) es)
      ≡ rat_over a pivot groups es
  pub covered_in : (p : ClauseMap) (a : LiteralSet) (pivot : ℤ) (groups : List HintGroup)
      → AreNamed v m p → is_named v m a ≡ true → has_name v m (variable_of pivot) ≡ true
      → rat (clauses_image m p) (image m a) (literal_image m pivot) groups ≡ rat p a pivot groups
  -- so the reply to a line is the one to its image
  pub line : (p : ClauseMap) (lemma : LemmaValue) (numbers : List ℕ) (groups : List HintGroup)
      → AreNamed v m p → IsLemma lemma → is_named v m lemma.clause ≡ true
      → line_reply (clauses_image m p) (option_map (literal_image m) lemma.pivot) groups
      (propagate (clauses_image m p) (negations (image m lemma.clause)) numbers)
      ≡ line_reply p lemma.pivot groups (propagate p (negations lemma.clause) numbers)
  -- the propagation of a case's image is the image of its propagation, and so are the hints that it read
  pub case : (c : CaseValue) → IsNamedCase v m c
      → propagation_of (case_image m c) ≡ propagation_image m (propagation_of c)
  pub read : (c : CaseValue) (count : ℕ)
      → receipt_of (case_image m c) count ≡ receipt_image m (receipt_of c count)
  -- and the image of a receipt is one
  pub receipt : (r : ReceiptValue) → IsNamedReceipt v m r → IsReceipt r
      → IsReceipt (receipt_image m r)

-- tests commute with each renaming that is one to one
abbrev pub TestsCommuteWithRenamings : Type 0
TestsCommuteWithRenamings = (v : ℕ) (m : Renaming) → IsOneToOne v m → TestsCommute v m

-- a propagation and its image end alike
abbrev pub EndingOfImage : Type 0
EndingOfImage = (m : Renaming) (w : Propagation) → ending_of (propagation_image m w) ≡ ending_of w
