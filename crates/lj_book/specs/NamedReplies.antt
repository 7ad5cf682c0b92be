-- The replies of a book whose seats name variables as they like. A take's stands in `NamedViews`.
use Rattle.std.specs.Prelude.{ℕ, nat_lt, Bool, ◌&&◌, List, [], ◌∷◌, length, Option, Some, None, if◌then◌else◌, Result, Ok, Err}
use Rattle.std.specs.FinMap as fin
use Rattle.lj_clause.specs.LiteralSet.{LiteralSet}
use Rattle.lj_clause.specs.ClauseMap.{ClauseMap}
use Rattle.lj_clause.specs.Renaming.{Renaming, image, lemma_image, is_named}
use Rattle.lj_text.specs.declared.line.Addition.{Addition}
use Rattle.lj_hint.specs.declared.pair.Pair.{Pair}
use Rattle.lj_hint.specs.Case.{CaseValue}
use Rattle.lj_hint.specs.Receipt.{ReceiptValue}
use Rattle.lj_hint.specs.Images.{pair_image}
use Rattle.lj_book.specs.declared.entry.Added.{Added}
use Rattle.lj_book.specs.declared.entry.Dropped.{Dropped}
use Rattle.lj_book.specs.declared.entry.Imported.{Imported}
use Rattle.lj_book.specs.declared.refusal.Refusal.{Refusal}
use Rattle.lj_book.specs.declared.refusal.Refusal.TheVariants.{SeatGone, NumberTaken, PrivateVariable, NoSuchClause, Full, NoVariableLeft}
use Rattle.lj_book.specs.Tables.{is_here, is_bound}
use Rattle.lj_book.specs.Variables.{renaming_of, is_own}
use Rattle.lj_book.specs.State.{addition_count, next, live}
use Rattle.lj_book.specs.Calls.{take_reply, drop_reply, leave_reply, free_refusal, if_free, imported, is_live_as, stale_or, commit_told}
use Rattle.lj_book.specs.Inside.{joint_addition, test_refusal}
use Rattle.lj_book.specs.Imports.{found}
use Rattle.lj_book.specs.Named.{NamedState, top_of, names_of, beneath, given_in, has_variables_for}

-- ---- adding with a test

-- the case with its lemma renamed
abbrev pub lemma_renamed : Renaming → CaseValue → CaseValue
lemma_renamed m c = record c { lemma = lemma_image m c.lemma }

-- the refusal of the test beneath, where the lemma's variables have been given out
abbrev pub named_test : NamedState → ℕ → CaseValue → Option Refusal
named_test s seat c = test_refusal (beneath s) (joint_addition (next (beneath s))
    (lemma_renamed (renaming_of (given_in s seat c.lemma.clause) seat) c))

-- the reply where nothing else was refused
abbrev pub if_variables_left : NamedState → ℕ → LiteralSet → Result Added Refusal
if_variables_left s seat c =
    if has_variables_for s seat c then Ok (commit_told (beneath s)) else Err NoVariableLeft

-- the reply to an addition by that to its take
abbrev pub named_inside_after : NamedState → ℕ → Result CaseValue Refusal
    → Result Added Refusal
named_inside_after s seat (Err e) = Err e
named_inside_after s seat (Ok c) =
    if_free (named_test s seat c) (if_variables_left s seat c.lemma.clause)

-- the reply to an addition
abbrev pub named_inside : NamedState → ℕ → Addition → Result Added Refusal
named_inside s seat a = named_inside_after s seat (take_reply (beneath s) seat a)

-- ---- committing a receipt

-- the number of the first pair whose clause has no joint form, or doesn't live so
abbrev pub named_first_stale : ℕ → Renaming → ClauseMap → List Pair → Option ℕ
named_first_stale top m p [] = None
named_first_stale top m p (pair ∷ pairs) =
    if is_named top m pair.clause && is_live_as p (pair_image m pair)
    then named_first_stale top m p pairs
    else Some pair.joint

-- the first refusal of a commit that the book beneath knows
abbrev pub named_commit_refusal : NamedState → ReceiptValue → Option Refusal
named_commit_refusal s r =
    if is_here s.tables r.seat then
    (if is_bound s.tables r.seat r.own then Some NumberTaken
    else stale_or (named_first_stale (top_of s) (names_of s r.seat) (live (beneath s)) r.listed)
    (if nat_lt (addition_count s.history) s.max_steps then None else Some Full))
    else Some SeatGone

-- the reply to a commit
abbrev pub named_commit : NamedState → ReceiptValue → Result Added Refusal
named_commit s r =
    if_free (named_commit_refusal s r) (if_variables_left s r.seat r.lemma.clause)

-- ---- adopting and importing

-- the reply by the clause that lives under the joint number
abbrev pub adopted : NamedState → ℕ → Option LiteralSet → Result ℕ Refusal
adopted s seat None = Err NoSuchClause
adopted s seat (Some c) =
    if is_own (top_of s) s.variables seat c then Ok (length s.history) else Err PrivateVariable

-- the reply to an adoption
abbrev pub named_adopt : NamedState → ℕ → ℕ → ℕ → Result ℕ Refusal
named_adopt s seat own joint = if_free (free_refusal (beneath s) seat own)
    (adopted s seat (fin.get (live (beneath s)) joint))

-- a refusal, or that of a clause which isn't named
abbrev pub or_private : Option Refusal → Bool → Option Refusal
or_private (Some e) named = Some e
or_private None named = if named then None else Some PrivateVariable

-- the first refusal of an import that holds before its clause is sought
abbrev pub import_refusal : NamedState → ℕ → ℕ → LiteralSet → Option Refusal
import_refusal s seat own c =
    or_private (free_refusal (beneath s) seat own) (is_named (top_of s) (names_of s seat) c)

-- the reply to an import
abbrev pub named_import : NamedState → ℕ → ℕ → LiteralSet → Result Imported Refusal
named_import s seat own c = if_free (import_refusal s seat own c)
    (imported (beneath s) (found (beneath s) (image (names_of s seat) c)))

-- ---- giving up, and leaving

-- the reply to a drop
abbrev pub named_drop : NamedState → ℕ → List ℕ → Result Dropped Refusal
named_drop s seat numbers = drop_reply (beneath s) seat numbers

-- the reply to a leave
abbrev pub named_leave : NamedState → ℕ → Result ℕ Refusal
named_leave s seat = leave_reply (beneath s) seat
