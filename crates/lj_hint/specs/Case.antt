-- Cases: a seat's addition, with the clauses that its hints name.
use Rattle.std.specs.Prelude.{ℕ, List, map, Vec}
use Rattle.std.specs.declared.alloc.Global.{Global}
use Rattle.lj_clause.specs.LiteralSet.{negations}
use Rattle.lj_clause.specs.Lemma.{LemmaValue}
use Rattle.lj_clause.specs.Propagation.{Propagation, propagate_over}
use Rattle.lj_hint.specs.declared.pair.Pair.{Pair}
use Rattle.lj_hint.specs.Hints.{named_hints}

-- A seat, the own number and the lemma of its addition, the first list of hints, and the groups: a candidate and its hints.
pub record CaseValue : Type 0 where
  pub seat : ℕ
  pub own : ℕ
  pub lemma : LemmaValue
  pub hints : List Pair
  pub groups : List (Pair × List Pair)

-- groups as their lists
abbrev pub groups_of : List (Pair × Vec Pair Global) → List (Pair × List Pair)
groups_of groups = map (λ g. (g.0, g.1.items)) groups

-- the case of these parts
abbrev pub case_of : ℕ → ℕ → LemmaValue → List Pair → List (Pair × List Pair) → CaseValue
case_of seat own lemma hints groups = record
    { seat = seat; own = own; lemma = lemma; hints = hints; groups = groups }

-- the propagation of the negations of the lemma's literals over the first list of hints
abbrev pub propagation_of : CaseValue → Propagation
propagation_of c = propagate_over (negations c.lemma.clause) (named_hints c.hints)
