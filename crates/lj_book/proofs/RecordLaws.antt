-- What is written of an entry is read again, and stays when more is written behind it.
use Rattle.std.proofs.Common.{◌≡◌, ap, refl, sym, ◌∙◌, ◌+◌, ◌*◌, ◌<◌, ◌≤◌, arith, append_assoc, length-append, subst}
use Rattle.std.specs.Prelude.{ℕ, zero, suc, ℤ, Bool, true, false, List, [], ◌∷◌, ◌++◌, length, take, drop, get_or, Option, Some, None, filter_map, ◌||◌}
use Rattle.std.specs.List.{cons_option, list_any}
use Rattle.std.proofs.lemmas.Bool.{false≢true}
use Rattle.std.specs.Ordering.{eq_by_cmp, is_eq}
use Rattle.std.specs.Cmp.{tied_itself}
use Rattle.lj_clause.specs.inner.Literal.{lit_cmp_total}
use Rattle.std.proofs.lemmas.List.{append-nil, drop-append-le, map_push}
use Rattle.std.proofs.Math.Seq.{drop-append_seam, take-append_seam}
use Rattle.lj_clause.specs.Literal.{lit_cmp}
use Rattle.lj_clause.specs.LiteralSet.{LiteralSet, literals, from_literals, with_literal, holds, no_literals}
use Rattle.lj_clause.specs.Lemma.{LemmaValue, lemma_of, IsLemma}
use Rattle.lj_clause.proofs.Literals.{same_literal}
use Rattle.lj_clause.proofs.LiteralSets.{same_set, holds-no_literals, holds-with_literal, holds-from_literals, holds-literals}
use Rattle.lj_clause.specs.Rat.{HintGroup}
use Rattle.lj_text.specs.declared.line.Addition.{Addition}
use Rattle.lj_text.specs.declared.step.Step.{Step}
use Rattle.lj_text.specs.declared.step.Step.TheVariants as steps
use Rattle.lj_text.specs.Needed.{if_some}
use Rattle.lj_book.specs.declared.entry.Call.TheVariants as calls
use Rattle.lj_book.specs.declared.entry.Entry.{Entry}
use Rattle.lj_book.specs.inner.Encoding.{number_encoding, list_encoding, hint_groups_encoding, number_in, list_in, hint_groups_in}
use Rattle.lj_book.specs.inner.Records.{lemma_lits, pivot_before, some_lits, seat_in, kind_in, head_encoding, add_encoding, drop_encoding, adopt_encoding, import_encoding, leave_encoding, lits_in, behind_lits, addition_in, call_in, step_in, entry_in, named_in, read_in, entry_of, entering_kind, entering_entry, entry_lits, IsWritten, AreWritten, entries_in}
use Rattle.lj_book.proofs.Lists.{not_empty}
use Rattle.lj_book.proofs.WordLaws.{number_back, number_then, list_back, list_then, groups_back}

-- ---- literals

pub clause_back : (c : LiteralSet) → from_literals (literals c) ≡ c
clause_back c = same_set (from_literals (literals c)) c (λ q. holds-from_literals (literals c) q ∙ sym (holds-literals c q))

or_true : (a b : Bool) → (a ≡ true → b ≡ true) → (a || b) ≡ b
or_true true b h = sym (h refl)
or_true false b h = refl

with_held : (c : LiteralSet) (p : ℤ) → holds c p ≡ true → with_literal c p ≡ c
with_held c p h = same_set (with_literal c p) c (λ q. holds-with_literal c p q ∙ or_true (eq_by_cmp lit_cmp q p) (holds c q) (λ e. ap (holds c) (same_literal q p e) ∙ h))

no_member : (ls : List ℤ) → ((q : ℤ) → list_any (eq_by_cmp lit_cmp q) ls ≡ false) → ls ≡ []
no_member [] h = refl
no_member (l ∷ ls) h = absurd (false≢true (sym (h l) ∙ ap (λ r. is_eq r || list_any (eq_by_cmp lit_cmp l) ls) (tied_itself lit_cmp_total l)))

abbrev lemma_with : Option ℤ → LiteralSet → LemmaValue
lemma_with pivot c = record { clause = c; pivot = pivot }

pub lemma_back : (lemma : LemmaValue) → IsLemma lemma → lemma_of (lemma_lits lemma) ≡ lemma
lemma_back lemma is = by_pivot lemma.clause lemma.pivot is
  where
    nothing : lemma_of (literals no_literals) ≡ lemma_with None no_literals
    nothing = ap lemma_of (no_member (literals no_literals) (λ q. sym (holds-literals no_literals q) ∙ holds-no_literals q))

    by_pivot : (c : LiteralSet) (pivot : Option ℤ) → IsLemma (lemma_with pivot c) → lemma_of (pivot_before pivot (literals c)) ≡ lemma_with pivot c
    by_pivot c None e = ap (λ d. lemma_of (literals d)) e ∙ nothing ∙ ap (lemma_with None) (sym e)
    by_pivot c (Some p) h =
        ap (λ d. lemma_with (Some p) (with_literal d p)) (clause_back c)
        ∙ ap (lemma_with (Some p)) (with_held c p h)

-- ---- the words of an entry

abbrev by_kind : List ℤ → ℕ → ℕ → List ℕ → Entry × List ℤ
by_kind lits seat kind ws = (record { seat = seat; call = call_in lits kind ws; step = step_in lits kind ws }, named_in lits kind ws)

seat_of_head : (seat kind : ℕ) → kind < 8 → seat_in (8 * seat + kind) ≡ seat
seat_of_head seat kind lt = omega (arith, lt)

kind_of_head : (seat kind : ℕ) → kind < 8 → kind_in (8 * seat + kind) ≡ kind
kind_of_head seat kind lt = omega (arith, lt)

head_then : (lits : List ℤ) (seat kind : ℕ) (ws more : List ℕ) → kind < 8 → read_in lits ((head_encoding seat kind ++ ws) ++ more) ≡ by_kind lits seat kind (ws ++ more)
head_then lits seat kind ws more lt =
    ap (λ (p : ℕ × List ℕ). by_kind lits (seat_in p.0) (kind_in p.0) p.1) (number_then (8 * seat + kind) ws more)
    ∙ (λ i. by_kind lits (seat_of_head seat kind lt i) (kind_of_head seat kind lt i) (ws ++ more))

named_then : (lits : List ℤ) (at n : ℕ) (ws more : List ℕ) → lits_in lits ((number_encoding at ++ (number_encoding n ++ ws)) ++ more) ≡ some_lits lits at n
named_then lits at n ws more =
    ap (λ (p : ℕ × List ℕ). some_lits lits p.0 (number_in p.1).0) (number_then at (number_encoding n ++ ws) more)
    ∙ ap (λ (p : ℕ × List ℕ). some_lits lits at p.0) (number_then n ws more)

behind_then : (at n : ℕ) (ws more : List ℕ) → behind_lits ((number_encoding at ++ (number_encoding n ++ ws)) ++ more) ≡ ws ++ more
behind_then at n ws more =
    ap (λ (p : ℕ × List ℕ). (number_in p.1).1) (number_then at (number_encoding n ++ ws) more)
    ∙ ap (λ (p : ℕ × List ℕ). p.1) (number_then n ws more)

-- ---- what each kind of entry is read as

added_back : (lits : List ℤ) (a : Addition) (at : ℕ) (more : List ℕ) → IsLemma a.lemma → some_lits lits at (length (lemma_lits a.lemma)) ≡ lemma_lits a.lemma → addition_in lits ((number_encoding a.number ++ (number_encoding at ++ (number_encoding (length (lemma_lits a.lemma)) ++ (list_encoding a.hints ++ hint_groups_encoding a.groups)))) ++ more) ≡ a
added_back lits a at more is there =
    let n : ℕ = length (lemma_lits a.lemma) in
    let hints_on : List ℕ = list_encoding a.hints ++ hint_groups_encoding a.groups in
    let lits_on : List ℕ = number_encoding at ++ (number_encoding n ++ hints_on) in
    ap (λ (p : ℕ × List ℕ). parts p.0 (lemma_of (lits_in lits p.1)) (list_in (behind_lits p.1))) (number_then a.number lits_on more)
    ∙ (λ i. parts a.number (lemma_of ((named_then lits at n hints_on more ∙ there) i)) (list_in (behind_then at n hints_on more i)))
    ∙ (λ i. parts a.number (lemma_back a.lemma is i) (list_then a.hints (hint_groups_encoding a.groups) more i))
    ∙ ap (λ (p : List HintGroup × List ℕ). addition_of a.number a.lemma a.hints p.0) (groups_back a.groups more)
  where
    addition_of : ℕ → LemmaValue → List ℕ → List HintGroup → Addition
    addition_of number lemma hints groups = record { number = number; lemma = lemma; hints = hints; groups = groups }

    parts : ℕ → LemmaValue → List ℕ × List ℕ → Addition
    parts number lemma read = addition_of number lemma read.0 (hint_groups_in read.1).0

addition_back : (lits : List ℤ) (seat own : ℕ) (a : Addition) (at : ℕ) (more : List ℕ) → IsLemma a.lemma → some_lits lits at (length (lemma_lits a.lemma)) ≡ lemma_lits a.lemma → read_in lits (add_encoding 0 seat own a at ++ more) ≡ (entry_of seat (calls.Add own a.lemma) (Some (steps.Add a)), lemma_lits a.lemma)
addition_back lits seat own a at more is there =
    let n : ℕ = length (lemma_lits a.lemma) in
    let hints_on : List ℕ = list_encoding a.hints ++ hint_groups_encoding a.groups in
    let lits_on : List ℕ = number_encoding at ++ (number_encoding n ++ hints_on) in
    let added_on : List ℕ = number_encoding a.number ++ lits_on in
    head_then lits seat 0 (number_encoding own ++ added_on) more (omega arith)
    ∙ ap (λ (p : ℕ × List ℕ). (entry_of seat (calls.Add p.0 (addition_in lits p.1).lemma) (Some (steps.Add (addition_in lits p.1))), lits_in lits (number_in p.1).1)) (number_then own added_on more)
    ∙ (λ i. (entry_of seat (calls.Add own (added_back lits a at more is there i).lemma) (Some (steps.Add (added_back lits a at more is there i))), lits_in lits (number_then a.number lits_on more i).1))
    ∙ ap (λ ls. (entry_of seat (calls.Add own a.lemma) (Some (steps.Add a)), ls)) (named_then lits at n hints_on more ∙ there)

part_back : (lits : List ℤ) (seat own : ℕ) (a : Addition) (at : ℕ) (more : List ℕ) → IsLemma a.lemma → some_lits lits at (length (lemma_lits a.lemma)) ≡ lemma_lits a.lemma → read_in lits (add_encoding 5 seat own a at ++ more) ≡ (entry_of seat (calls.Import own a.lemma.clause) (Some (steps.Add a)), lemma_lits a.lemma)
part_back lits seat own a at more is there =
    let n : ℕ = length (lemma_lits a.lemma) in
    let hints_on : List ℕ = list_encoding a.hints ++ hint_groups_encoding a.groups in
    let lits_on : List ℕ = number_encoding at ++ (number_encoding n ++ hints_on) in
    let added_on : List ℕ = number_encoding a.number ++ lits_on in
    head_then lits seat 5 (number_encoding own ++ added_on) more (omega arith)
    ∙ ap (λ (p : ℕ × List ℕ). (entry_of seat (calls.Import p.0 (addition_in lits p.1).lemma.clause) (Some (steps.Add (addition_in lits p.1))), lits_in lits (number_in p.1).1)) (number_then own added_on more)
    ∙ (λ i. (entry_of seat (calls.Import own (added_back lits a at more is there i).lemma.clause) (Some (steps.Add (added_back lits a at more is there i))), lits_in lits (number_then a.number lits_on more i).1))
    ∙ ap (λ ls. (entry_of seat (calls.Import own a.lemma.clause) (Some (steps.Add a)), ls)) (named_then lits at n hints_on more ∙ there)

-- an entry by which a lemma enters, and the literals that it is kept by
pub entering_back : (lits : List ℤ) (b : Bool) (seat own : ℕ) (a : Addition) (at : ℕ) (more : List ℕ) → IsLemma a.lemma → some_lits lits at (length (lemma_lits a.lemma)) ≡ lemma_lits a.lemma → read_in lits (add_encoding (entering_kind b) seat own a at ++ more) ≡ (entering_entry b seat own a, lemma_lits a.lemma)
entering_back lits false seat own a at more is there = addition_back lits seat own a at more is there
entering_back lits true seat own a at more is there = part_back lits seat own a at more is there

pub entering_lits : (b : Bool) (seat own : ℕ) (a : Addition) → lemma_lits a.lemma ≡ entry_lits (entering_entry b seat own a)
entering_lits false seat own a = refl
entering_lits true seat own a = refl

pub drop_back : (lits : List ℤ) (seat : ℕ) (given died more : List ℕ) → read_in lits (drop_encoding seat given died ++ more) ≡ (entry_of seat (calls.Drop given) (if_some died), [])
drop_back lits seat given died more =
    head_then lits seat 1 (list_encoding given ++ list_encoding died) more (omega arith)
    ∙ ap (λ (p : List ℕ × List ℕ). (entry_of seat (calls.Drop p.0) (if_some (list_in p.1).0), [])) (list_then given (list_encoding died) more)
    ∙ ap (λ (p : List ℕ × List ℕ). (entry_of seat (calls.Drop given) (if_some p.0), [])) (list_back died more)

pub adopt_back : (lits : List ℤ) (seat own joint : ℕ) (more : List ℕ) → read_in lits (adopt_encoding seat own joint ++ more) ≡ (entry_of seat (calls.Adopt own joint) None, [])
adopt_back lits seat own joint more =
    head_then lits seat 2 (number_encoding own ++ number_encoding joint) more (omega arith)
    ∙ ap (λ (p : ℕ × List ℕ). (entry_of seat (calls.Adopt p.0 (number_in p.1).0) None, [])) (number_then own (number_encoding joint) more)
    ∙ ap (λ (p : ℕ × List ℕ). (entry_of seat (calls.Adopt own p.0) None, [])) (number_back joint more)

pub import_back : (lits : List ℤ) (seat own : ℕ) (clause : LiteralSet) (at : ℕ) (more : List ℕ) → some_lits lits at (length (literals clause)) ≡ literals clause → read_in lits (import_encoding seat own clause at ++ more) ≡ (entry_of seat (calls.Import own clause) None, literals clause)
import_back lits seat own clause at more there =
    let n : ℕ = length (literals clause) in
    let lits_on : List ℕ = number_encoding at ++ number_encoding n in
    head_then lits seat 3 (number_encoding own ++ lits_on) more (omega arith)
    ∙ ap (λ (p : ℕ × List ℕ). imported p.0 (lits_in lits p.1)) (number_then own lits_on more)
    ∙ ap (λ (p : ℕ × List ℕ). imported own (some_lits lits p.0 (number_in p.1).0)) (number_then at (number_encoding n) more)
    ∙ ap (λ (p : ℕ × List ℕ). imported own (some_lits lits at p.0)) (number_back n more)
    ∙ ap (imported own) there
    ∙ ap (λ c. (entry_of seat (calls.Import own c) None, literals clause)) (clause_back clause)
  where
    imported : ℕ → List ℤ → Entry × List ℤ
    imported own ls = (entry_of seat (calls.Import own (from_literals ls)) None, ls)

pub leave_back : (lits : List ℤ) (seat : ℕ) (died more : List ℕ) → read_in lits (leave_encoding seat died ++ more) ≡ (entry_of seat calls.Leave (if_some died), [])
leave_back lits seat died more =
    head_then lits seat 4 (list_encoding died) more (omega arith)
    ∙ ap (λ (p : List ℕ × List ℕ). (entry_of seat calls.Leave (if_some p.0), [])) (list_back died more)

-- ---- one entry more

some_at_end : (lits ls more : List ℤ) → some_lits ((lits ++ ls) ++ more) (length lits) (length ls) ≡ ls
some_at_end lits ls more =
    ap (λ xs. take (length ls) (drop (length lits) xs)) (append_assoc lits ls more)
    ∙ ap (take (length ls)) (drop-append_seam lits (ls ++ more))
    ∙ take-append_seam ls more

stays : (lits more : List ℤ) (encoding behind : List ℕ) (start : ℕ) → IsWritten lits encoding start → IsWritten (lits ++ more) (encoding ++ behind) start
stays lits more encoding behind start is =
    let later : drop start (encoding ++ behind) ≡ drop start encoding ++ behind = drop-append-le start encoding behind is.within in
    let same : read_in (lits ++ more) (drop start (encoding ++ behind)) ≡ read_in lits (drop start encoding) = ap (read_in (lits ++ more)) later ∙ is.whole more behind in
    record {
      within = let n : length (encoding ++ behind) ≡ length encoding + length behind = length-append encoding behind in omega (arith, is.within);
      whole = λ ls ws.
          (λ i. read_in (append_assoc lits more ls i) (later i ++ ws))
          ∙ ap (read_in (lits ++ (more ++ ls))) (append_assoc (drop start encoding) behind ws)
          ∙ is.whole (more ++ ls) (behind ++ ws)
          ∙ sym same;
      named = (λ i. (same i).1) ∙ is.named ∙ (λ i. entry_lits (sym same i).0);
      seated = subst (λ (p : Entry × List ℤ). p.0.seat < 4294967296) (sym same) is.seated;
    }

-- what is written at the end: the words of an entry and its literals
written_at_end : (lits ls : List ℤ) (encoding ws : List ℕ) (e : Entry) → e.seat < 4294967296 → ls ≡ entry_lits e → ((all : List ℤ) (more : List ℕ) → some_lits all (length lits) (length ls) ≡ ls → read_in all (ws ++ more) ≡ (e, ls)) → IsWritten (lits ++ ls) (encoding ++ ws) (length encoding)
written_at_end lits ls encoding ws e few named back =
    let at_end : drop (length encoding) (encoding ++ ws) ≡ ws = drop-append_seam encoding ws in
    let whole : (more : List ℤ) (behind : List ℕ) → read_in ((lits ++ ls) ++ more) (drop (length encoding) (encoding ++ ws) ++ behind) ≡ (e, ls) =
    λ more behind. ap (λ us. read_in ((lits ++ ls) ++ more) (us ++ behind)) at_end ∙ back ((lits ++ ls) ++ more) behind (some_at_end lits ls more) in
    let is : read_in (lits ++ ls) (drop (length encoding) (encoding ++ ws)) ≡ (e, ls) =
    (λ i. read_in (sym (append-nil (lits ++ ls)) i) (sym (append-nil (drop (length encoding) (encoding ++ ws))) i)) ∙ whole [] [] in
    record {
      within = let n : length (encoding ++ ws) ≡ length encoding + length ws = length-append encoding ws in omega arith;
      whole = λ more behind. whole more behind ∙ sym is;
      named = (λ i. (is i).1) ∙ named ∙ (λ i. entry_lits (sym is i).0);
      seated = subst (λ (p : Entry × List ℤ). p.0.seat < 4294967296) (sym is) few;
    }

all_stay : (lits more : List ℤ) (encoding behind : List ℕ) (starts : List ℕ) → AreWritten lits encoding starts → AreWritten (lits ++ more) (encoding ++ behind) starts
all_stay lits more encoding behind [] are = tt
all_stay lits more encoding behind (s ∷ ss) are = (stays lits more encoding behind s are.0, all_stay lits more encoding behind ss are.1)

all_and_one : (lits : List ℤ) (encoding : List ℕ) (starts : List ℕ) (s : ℕ) → AreWritten lits encoding starts → IsWritten lits encoding s → AreWritten lits encoding (starts ++ s ∷ [])
all_and_one lits encoding [] s are is = (is, tt)
all_and_one lits encoding (t ∷ ts) s are is = (are.0, all_and_one lits encoding ts s are.1 is)

-- The words and literals of an entry are put behind the others.
pub more_written : (lits ls : List ℤ) (encoding ws : List ℕ) (starts : List ℕ) (e : Entry) → e.seat < 4294967296 → ls ≡ entry_lits e → ((all : List ℤ) (more : List ℕ) → some_lits all (length lits) (length ls) ≡ ls → read_in all (ws ++ more) ≡ (e, ls)) → AreWritten lits encoding starts → AreWritten (lits ++ ls) (encoding ++ ws) (starts ++ length encoding ∷ [])
more_written lits ls encoding ws starts e few named back are =
    all_and_one (lits ++ ls) (encoding ++ ws) starts (length encoding) (all_stay lits ls encoding ws starts are) (written_at_end lits ls encoding ws e few named back)

entries_stay : (lits more : List ℤ) (encoding behind : List ℕ) (starts : List ℕ) → AreWritten lits encoding starts → entries_in (lits ++ more) (encoding ++ behind) starts ≡ entries_in lits encoding starts
entries_stay lits more encoding behind [] are = refl
entries_stay lits more encoding behind (s ∷ ss) are =
    let later : drop s (encoding ++ behind) ≡ drop s encoding ++ behind = drop-append-le s encoding behind are.0.within in
    λ i. ((ap (read_in (lits ++ more)) later ∙ are.0.whole more behind) i).0 ∷ entries_stay lits more encoding behind ss are.1 i

pub more_entries : (lits ls : List ℤ) (encoding ws : List ℕ) (starts : List ℕ) (e : Entry) → ((all : List ℤ) (more : List ℕ) → some_lits all (length lits) (length ls) ≡ ls → read_in all (ws ++ more) ≡ (e, ls)) → AreWritten lits encoding starts → entries_in (lits ++ ls) (encoding ++ ws) (starts ++ length encoding ∷ []) ≡ entries_in lits encoding starts ++ e ∷ []
more_entries lits ls encoding ws starts e back are =
    map_push (λ start. entry_in (lits ++ ls) (drop start (encoding ++ ws))) starts (length encoding)
    ∙ (λ i. entries_stay lits ls encoding ws starts are i ++ entry_in (lits ++ ls) (drop-append_seam encoding ws i) ∷ [])
    ∙ ap (λ (f : Entry). entries_in lits encoding starts ++ f ∷ []) last
  where
    last : entry_in (lits ++ ls) ws ≡ e
    last =
        (λ i. entry_in (sym (append-nil (lits ++ ls)) i) (sym (append-nil ws) i))
        ∙ (λ i. (back ((lits ++ ls) ++ []) [] (some_at_end lits ls []) i).0)

-- ---- the same of an entry without literals

pub more_words_written : (lits : List ℤ) (encoding ws : List ℕ) (starts : List ℕ) (e : Entry) → e.seat < 4294967296 → [] ≡ entry_lits e → ((all : List ℤ) (more : List ℕ) → read_in all (ws ++ more) ≡ (e, [])) → AreWritten lits encoding starts → AreWritten lits (encoding ++ ws) (starts ++ length encoding ∷ [])
more_words_written lits encoding ws starts e few named back are =
    subst (λ (ls : List ℤ). AreWritten ls (encoding ++ ws) (starts ++ length encoding ∷ [])) (append-nil lits)
    (more_written lits [] encoding ws starts e few named (λ all more _. back all more) are)

pub more_words_entries : (lits : List ℤ) (encoding ws : List ℕ) (starts : List ℕ) (e : Entry) → ((all : List ℤ) (more : List ℕ) → read_in all (ws ++ more) ≡ (e, [])) → AreWritten lits encoding starts → entries_in lits (encoding ++ ws) (starts ++ length encoding ∷ []) ≡ entries_in lits encoding starts ++ e ∷ []
more_words_entries lits encoding ws starts e back are =
    ap (λ (ls : List ℤ). entries_in ls (encoding ++ ws) (starts ++ length encoding ∷ [])) (sym (append-nil lits))
    ∙ more_entries lits [] encoding ws starts e (λ all more _. back all more) are

-- ---- what is compared

pub same_addition : (lits : List ℤ) (ws : List ℕ) (a : Addition) → IsLemma a.lemma → (number_in ws).0 ≡ a.number → lits_in lits (number_in ws).1 ≡ lemma_lits a.lemma → (list_in (behind_lits (number_in ws).1)).0 ≡ a.hints → (hint_groups_in (list_in (behind_lits (number_in ws).1)).1).0 ≡ a.groups → addition_in lits ws ≡ a
same_addition lits ws a is number literals hints groups =
    λ i. record { number = number i; lemma = (ap lemma_of literals ∙ lemma_back a.lemma is) i; hints = hints i; groups = groups i }

pub same_import : (n own : ℕ) (ls : List ℤ) (clause : LiteralSet) → n ≡ own → ls ≡ literals clause → calls.Import n (from_literals ls) ≡ calls.Import own clause
same_import n own ls clause number literals = λ i. calls.Import (number i) ((ap from_literals literals ∙ clause_back clause) i)

-- ---- the steps of what is written

pub step_at : List ℤ → List ℕ → ℕ → Option Step
step_at lits encoding start = (entry_in lits (drop start encoding)).step

pub steps_at : (lits : List ℤ) (encoding starts : List ℕ) → filter_map (λ e. e.step) (entries_in lits encoding starts) ≡ filter_map (step_at lits encoding) starts
unfolding step_at
steps_at lits encoding [] = refl
steps_at lits encoding (s ∷ ss) = ap (λ (xs : List Step). cons_option (entry_in lits (drop s encoding)).step xs) (steps_at lits encoding ss)

pub no_step_left : {X Y : Type 0} (f : X → Option Y) (xs : List X) (k : ℕ) (d : X) → k < length xs → filter_map f xs ≡ [] → f (get_or xs k d) ≡ None
no_step_left f [] k d lt e = absurd (let no : ⊥ = omega (arith, lt) in no)
no_step_left f (x ∷ xs) zero d lt e = first (f x) (filter_map f xs) e
  where
    first : {Y : Type 0} (o : Option Y) (ys : List Y) → cons_option o ys ≡ [] → o ≡ None
    first None ys e = refl
    first (Some y) ys e = absurd (not_empty y ys e)
no_step_left f (x ∷ xs) (suc k) d lt e = no_step_left f xs k d (omega (arith, lt)) (others (f x) (filter_map f xs) e)
  where
    others : {Y : Type 0} (o : Option Y) (ys : List Y) → cons_option o ys ≡ [] → ys ≡ []
    others None ys e = e
    others (Some y) ys e = absurd (not_empty y ys e)

pub step_at-is : (lits : List ℤ) (encoding : List ℕ) (start : ℕ) → step_at lits encoding start ≡ (entry_in lits (drop start encoding)).step
unfolding step_at
step_at-is lits encoding start = refl

take_all : {X : Type 0} (xs : List X) (k : ℕ) → length xs ≤ k → take k xs ≡ xs
take_all [] zero le = refl
take_all [] (suc k) le = refl
take_all (x ∷ xs) zero le = absurd (let no : ⊥ = omega (arith, le) in no)
take_all (x ∷ xs) (suc k) le = ap (λ ys. x ∷ ys) (take_all xs k (omega (arith, le)))

pub all_steps : (lits : List ℤ) (encoding starts : List ℕ) (k : ℕ) (steps : List Step) → steps ≡ filter_map (step_at lits encoding) (take k starts) → length starts ≤ k → steps ≡ filter_map (λ e. e.step) (entries_in lits encoding starts)
all_steps lits encoding starts k steps are le = are ∙ ap (λ (xs : List ℕ). filter_map (step_at lits encoding) xs) (take_all starts k le) ∙ sym (steps_at lits encoding starts)

pub some_step : (lits : List ℤ) (encoding starts : List ℕ) (k : ℕ) → k < length starts → (step_at lits encoding (get_or starts k 0) ≡ None → ⊥) → filter_map (λ e. e.step) (entries_in lits encoding starts) ≡ [] → ⊥
some_step lits encoding starts k lt there none = there (no_step_left (step_at lits encoding) starts k 0 lt (sym (steps_at lits encoding starts) ∙ none))
