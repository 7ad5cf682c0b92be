-- An addition inside by a seat that names its variables, and the one beneath.
use Rattle.std.proofs.Common.{◌≡◌, refl, ℕ, Bool, cond, true, false}
use Rattle.std.specs.Prelude.{List, [], Option, Some, None, Result, Ok, Err}
use Rattle.lj_clause.specs.Renaming.{lemma_image}
use Rattle.lj_text.specs.declared.line.Addition.{Addition}
use Rattle.lj_hint.specs.declared.pair.Pair.{Pair}
use Rattle.lj_book.specs.declared.refusal.Refusal.{Refusal}
use Rattle.lj_book.specs.declared.refusal.Refusal.TheVariants.{SeatGone, NumberTaken, NoVariableLeft}
use Rattle.lj_book.specs.Tables.{is_here, is_bound, joint_of}
use Rattle.lj_book.specs.State.{State, live}
use Rattle.lj_book.specs.Calls.{pair_in, pairs_of, group_pairs_of, repeated_after, case_with, if_free, unless_refused, commit_told}
use Rattle.lj_book.specs.Inside.{inside_after}
use Rattle.lj_book.specs.Variables.{renaming_of}
use Rattle.lj_book.specs.Named.{NamedState, beneath, given_in, has_variables_for}
use Rattle.lj_book.specs.NamedReplies.{named_inside_after, named_test}
use Rattle.lj_book.specs.NamedInside.{if_left, RepliesAreBeneath, EntriesAreBeneath}

module _ (s : NamedState) (seat : ℕ) (a : Addition) where
  abbrev t : State
  t = beneath s

  abbrev left : Bool
  left = has_variables_for s seat a.lemma.clause

  abbrev joint : Addition
  joint = record a { lemma = lemma_image (renaming_of (given_in s seat a.lemma.clause) seat) a.lemma }

  tested : (o : Option Refusal) → if_free o (cond left (Ok (commit_told t)) (Err NoVariableLeft)) ≡ if_left left (unless_refused o (commit_told t))
  tested None = refl
  tested (Some e) = refl

  taken : (repeated : Option ℕ) (hints : Result (List Pair) Refusal) (groups : Result (List (Pair × List Pair)) Refusal)
      → named_inside_after s seat (case_with seat a repeated hints groups) ≡ if_left left (inside_after t (case_with seat joint repeated hints groups))
  taken repeated (Err e) groups = refl
  taken repeated (Ok hints) (Err e) = refl
  taken (Some own) (Ok hints) (Ok groups) = refl
  taken None (Ok hints) (Ok groups) = tested (named_test s seat (record { seat = seat; own = a.number; lemma = a.lemma; hints = hints; groups = groups }))

  replied : (here bound : Bool)
      → named_inside_after s seat (cond here (cond bound (Err NumberTaken) (case_with seat a (repeated_after (joint_of s.tables seat) [] a.groups) (pairs_of (pair_in s.tables (live t) seat) a.hints) (group_pairs_of (pair_in s.tables (live t) seat) a.groups))) (Err SeatGone))
      ≡ if_left left (inside_after t (cond here (cond bound (Err NumberTaken) (case_with seat joint (repeated_after (joint_of s.tables seat) [] a.groups) (pairs_of (pair_in s.tables (live t) seat) a.hints) (group_pairs_of (pair_in s.tables (live t) seat) a.groups))) (Err SeatGone)))
  replied false bound = refl
  replied true true = refl
  replied true false = taken (repeated_after (joint_of s.tables seat) [] a.groups) (pairs_of (pair_in s.tables (live t) seat) a.hints) (group_pairs_of (pair_in s.tables (live t) seat) a.groups)

pub replies_are_beneath : RepliesAreBeneath
replies_are_beneath s seat a = replied s seat a (is_here s.tables seat) (is_bound s.tables seat a.number)

pub entries_are_beneath : EntriesAreBeneath
entries_are_beneath s seat a = refl
