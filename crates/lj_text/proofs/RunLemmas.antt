-- Runs of lines.
use Rattle.std.proofs.Common.{Bool, true, false, Result, Ok, Err, ◌≡◌, ℕ, ◌+◌, ◌*◌, ◌-◌, ◌^◌, ◌<◌, ◌≤◌, List, [], ◌∷◌, ◌++◌, length, drop, get_or, refl, sym, ap, ◌∙◌, subst, inl, inr, arith, append_assoc, length-append, length-drop}
use Rattle.std.proofs.Math.Seq.{drop-append-add}
use Rattle.std.proofs.lemmas.Bool.{cases_lt}
use Rattle.std.proofs.lemmas.List.{append-nil, nil_from_length, drop-drop, get_or-drop, get_or_append_left, get_or-append-add}
use Rattle.std.proofs.lemmas.List.Folds.{concat-append}
use Rattle.std.specs.Prelude.{is_ok, OnOk, if◌then◌else◌}
use Rattle.std.specs.List.{AllByRecursion, concat}
use Rattle.lj_text.specs.inner.LinesBuffered.{EndsLine, HasNoLateEnd, IsLineRun, IsDoneWithin, IsInRuns, IsLetGo, IsWithinFirst, BeginsLineAt}
use Rattle.lj_text.specs.Bytes.{is_line_end}
use Rattle.lj_text.specs.LinesRead.{HasNoLineEnd, text_of_lines}
use Rattle.lj_text.proofs.TokenNumberLemmas.{no_feed, some_bytes}

-- one run more
pub all-runs_more : (runs : List (List ℕ)) (run : List ℕ) → AllByRecursion IsLineRun runs → IsLineRun run → AllByRecursion IsLineRun (runs ++ run ∷ [])
all-runs_more [] run h k = (k, tt)
all-runs_more (r ∷ runs) run h k = (h.0, all-runs_more runs run h.1 k)

pub all-runs_both : (runs others : List (List ℕ)) → AllByRecursion IsLineRun runs → AllByRecursion IsLineRun others → AllByRecursion IsLineRun (runs ++ others)
all-runs_both [] others h k = k
all-runs_both (r ∷ runs) others h k = (h.0, all-runs_both runs others h.1 k)

pub all-runs_behind : (gone runs : List (List ℕ)) → AllByRecursion IsLineRun (gone ++ runs) → AllByRecursion IsLineRun runs
all-runs_behind [] runs h = h
all-runs_behind (r ∷ gone) runs h = all-runs_behind gone runs h.1

pub concat-more : (runs : List (List ℕ)) (run rest : List ℕ) → concat (runs ++ run ∷ []) ++ rest ≡ concat runs ++ (run ++ rest)
concat-more [] run rest = ap (λ r. r ++ rest) (append-nil run)
concat-more (r ∷ runs) run rest = append_assoc r _ rest ∙ ap (λ bs. r ++ bs) (concat-more runs run rest) ∙ sym (append_assoc r _ _)

-- no more bytes than so many runs can have
pub runs-countable : (runs : List (List ℕ)) → AllByRecursion IsLineRun runs → length (concat runs) ≤ length runs * 2 ^ 64
runs-countable [] h = omega arith
runs-countable (r ∷ runs) h =
    let here : length r < 2 ^ 64 = h.0.countable in
    let others = runs-countable runs h.1 in
    omega (arith, length-append r (concat runs))

-- the place among the others, once runs are gone
pub position-behind-gone : (old new : List (List ℕ)) (rest : List ℕ) (position left : ℕ) → IsLetGo old new position left → drop left (concat new ++ rest) ≡ drop position (concat old ++ rest)
position-behind-gone old new rest position left p =
    sym (
    ap (λ rs. drop position (concat rs ++ rest)) p.old_is
    ∙ ap (λ bs. drop position (bs ++ rest)) (concat-append p.gone new)
    ∙ ap (drop position) (append_assoc (concat p.gone) (concat new) rest)
    ∙ ap (λ n. drop n (concat p.gone ++ (concat new ++ rest))) p.position_is
    ∙ drop-append-add (concat p.gone) (concat new ++ rest) left
    )

pub count-behind-gone : (old new : List (List ℕ)) (rest : List ℕ) (position left : ℕ) → IsLetGo old new position left → length (concat old ++ rest) + left ≡ length (concat new ++ rest) + position
count-behind-gone old new rest position left p =
    omega (arith, p.position_is, ap (λ rs. length (concat rs ++ rest)) p.old_is, ap (λ bs. length (bs ++ rest)) (concat-append p.gone new), ap length (append_assoc (concat p.gone) (concat new) rest), length-append (concat p.gone) (concat new ++ rest))

pub let-more : (old new : List (List ℕ)) (run : List ℕ) (others : List (List ℕ)) (position left : ℕ) → IsLetGo old new position left → new ≡ run ∷ others → length run ≤ left → IsLetGo old others position (left - length run)
let-more old new run others position left p new_is le = record {
  gone = p.gone ++ run ∷ [];
  old_is = p.old_is ∙ ap (λ rs. p.gone ++ rs) new_is ∙ sym (append_assoc p.gone (run ∷ []) others);
  position_is = omega (arith, p.position_is, ap length (concat-append p.gone (run ∷ [])), length-append (concat p.gone) (run ++ []), length-append run []);
}

-- the first run stands before the others
pub first-run : (runs : List (List ℕ)) (run d : List ℕ) → 0 < length runs → get_or runs 0 d ≡ run → runs ≡ run ∷ drop 1 runs
first-run [] run d some e = absurd (omega arith)
first-run (r ∷ runs) run d some e = ap (λ x. x ∷ runs) e

-- what is done stands there
pub begun-within : (start : ℕ) (runs : List (List ℕ)) (rest : List ℕ) → IsDoneWithin start runs rest → start ≤ length (concat runs ++ rest)
begun-within start [] rest h = h.0
begun-within start (r ∷ runs) rest h = omega (arith, length-append r (concat runs), length-append (r ++ concat runs) rest)

-- the place where what stays begins is soon, since a line ends before it
place_soon : (start left position : ℕ) (new : List (List ℕ)) (rest : List ℕ) → start ≤ 65536 → left ≤ position → start ≤ position → AllByRecursion IsLineRun new → HasNoLateEnd rest → IsWithinFirst left new → left < length (concat new ++ rest)
    → (start < position → 0 < left → get_or (concat new ++ rest) (left - 1) 0 ≡ 10) → (position ≡ start → left ≤ start) → left ≤ 65536
place_soon start left position new rest few le begun whole late within more ends same =
    elim (cases_lt 65536 left) [
      | inl far ↦ absurd (at new whole within more far (ends (elim (cases_lt start position) [ inl moved ↦ moved | inr not ↦ absurd (omega (arith, same (omega arith))) ]) (omega arith)))
      | inr le ↦ le
    ]
  where
    at : (runs : List (List ℕ)) → AllByRecursion IsLineRun runs → IsWithinFirst left runs → left < length (concat runs ++ rest) → 65536 < left → get_or (concat runs ++ rest) (left - 1) 0 ≡ 10 → ⊥
    at [] whole within more far feed = omega (arith, late (left - 1) (omega arith) feed)
    at (r ∷ runs) whole within more far feed =
        let here : get_or r (left - 1) 0 ≡ 10 =
        sym (ap (λ bs. get_or bs (left - 1) 0) (append_assoc r (concat runs) rest) ∙ get_or_append_left r (concat runs ++ rest) 0 (left - 1) (omega arith)) ∙ feed in
        omega (arith, whole.0.late (left - 1) (omega arith) here)

begun_first : (left : ℕ) (new : List (List ℕ)) (rest : List ℕ) → IsWithinFirst left new → left < length (concat new ++ rest) → IsDoneWithin left new rest
begun_first left [] rest within more = (omega arith, λ some. more)
begun_first left (r ∷ runs) rest within more = within

-- what stays of what is held
pub kept : (start : ℕ) (runs new : List (List ℕ)) (rest ahead : List ℕ) (total count left : ℕ) → IsInRuns start runs rest total → drop start (concat runs ++ rest) ≡ ahead → 0 < count → count ≤ length ahead
    → BeginsLineAt ahead (length ahead - count) → IsLetGo runs new (total - count) left → IsWithinFirst left new → IsInRuns left new rest (count + left)
kept start runs new rest ahead total count left buffer is some within begins gone first =
    let all : length ahead ≡ length (concat runs ++ rest) - start = sym (ap length is) ∙ length-drop start (concat runs ++ rest) in
    let counts : length (concat runs ++ rest) + left ≡ length (concat new ++ rest) + (total - count) = count-behind-gone runs new rest (total - count) left gone in
    let total_is : total ≡ length (concat runs ++ rest) = buffer.count_is in
    let started : start ≤ length (concat runs ++ rest) = begun-within start runs rest buffer.begun in
    let more : left < length (concat new ++ rest) = omega arith in
    let position_is : total - count ≡ length (concat gone.gone) + left = gone.position_is in
    let same : drop left (concat new ++ rest) ≡ drop (total - count) (concat runs ++ rest) = position-behind-gone runs new rest (total - count) left gone in
    record {
      whole = all-runs_behind gone.gone new (let P : List (List ℕ) → Type 0 = AllByRecursion IsLineRun in subst P gone.old_is buffer.whole);
      late = buffer.late;
      begun = begun_first left new rest first more;
      few = place_soon start left (total - count) new rest buffer.few (omega arith) (omega arith) (all-runs_behind gone.gone new (let P : List (List ℕ) → Type 0 = AllByRecursion IsLineRun in subst P gone.old_is buffer.whole)) buffer.late first more
          (λ moved later.
          let position : length (concat gone.gone) + (left - 1) ≡ total - count - 1 = omega arith in
          sym (get_or-append-add (concat gone.gone) (concat new ++ rest) (left - 1) 0)
          ∙ ap (λ i. get_or (concat gone.gone ++ (concat new ++ rest)) i 0) position
          ∙ ap (λ bs. get_or bs (total - count - 1) 0) (sym (ap (λ rs. concat rs ++ rest) gone.old_is ∙ ap (λ bs. bs ++ rest) (concat-append gone.gone new) ∙ append_assoc (concat gone.gone) (concat new) rest))
          ∙ ap (λ i. get_or (concat runs ++ rest) i 0) (omega arith)
          ∙ sym (get_or-drop start (concat runs ++ rest) (length ahead - count - 1) 0)
          ∙ ap (λ bs. get_or bs (length ahead - count - 1) 0) is
          ∙ begins (omega arith))
          (λ stays. omega arith);
      count_is = omega arith;
    }

pub kept-view : (start : ℕ) (runs new : List (List ℕ)) (rest ahead : List ℕ) (total count left : ℕ) → IsInRuns start runs rest total → drop start (concat runs ++ rest) ≡ ahead → count ≤ length ahead
    → IsLetGo runs new (total - count) left → drop left (concat new ++ rest) ≡ drop (length ahead - count) ahead
kept-view start runs new rest ahead total count left buffer is within gone =
    let all : length ahead ≡ length (concat runs ++ rest) - start = sym (ap length is) ∙ length-drop start (concat runs ++ rest) in
    let started : start ≤ length (concat runs ++ rest) = begun-within start runs rest buffer.begun in
    let total_is : total ≡ length (concat runs ++ rest) = buffer.count_is in
    position-behind-gone runs new rest (total - count) left gone
    ∙ ap (λ n. drop n (concat runs ++ rest)) (omega arith)
    ∙ sym (drop-drop (length ahead - count) start (concat runs ++ rest))
    ∙ ap (drop (length ahead - count)) is

-- runs end a line
ends_append : (xs ys : List ℕ) → EndsLine ys → EndsLine (xs ++ ys)
ends_append xs ys ends =
    let some : 0 < length ys = some_bytes ys ends in
    ap (λ i. get_or (xs ++ ys) i 0) (omega (arith, length-append xs ys)) ∙ get_or-append-add xs ys (length ys - 1) 0 ∙ ends

ends_concat : (run : List ℕ) (runs : List (List ℕ)) → AllByRecursion IsLineRun (run ∷ runs) → EndsLine (concat (run ∷ runs))
ends_concat run [] whole = let P : List ℕ → Type 0 = EndsLine in subst P (sym (append-nil run)) whole.0.ended
ends_concat run (r ∷ runs) whole = ends_append run (concat (r ∷ runs)) (ends_concat r runs whole.1)

-- the last bytes, where no line ends among them, are in no run
pub last-within : (start : ℕ) (runs : List (List ℕ)) (rest ahead : List ℕ) (total count : ℕ) → IsInRuns start runs rest total → drop start (concat runs ++ rest) ≡ ahead → count ≤ length ahead → HasNoLineEnd (drop (length ahead - count) ahead) → count ≤ length rest
last-within start [] rest ahead total count buffer is within none = omega (arith, ap length is, length-drop start rest)
last-within start (r ∷ runs) rest ahead total count buffer is within none =
    elim (cases_lt (length rest) count) [
      | inl more ↦
          let rs : List ℕ = concat (r ∷ runs) in
          let begun : start < length r = buffer.begun in
          let all : length ahead ≡ length (rs ++ rest) - start = sym (ap length is) ∙ length-drop start (rs ++ rest) in
          let both : length (rs ++ rest) ≡ length rs + length rest = length-append rs rest in
          let front : length rs ≡ length r + length (concat runs) = length-append r (concat runs) in
          let n : ℕ = length ahead - count in
          let j : ℕ = length rs - 1 - start - (length ahead - count) in
          let here : get_or (drop n ahead) j 0 ≡ 10 =
          get_or-drop n ahead j 0 ∙ ap (λ bs. get_or bs (n + j) 0) (sym is) ∙ get_or-drop start (rs ++ rest) (n + j) 0
          ∙ ap (λ i. get_or (rs ++ rest) i 0) (omega arith) ∙ get_or_append_left rs rest 0 (length rs - 1) (omega arith) ∙ ends_concat r runs buffer.whole in
          absurd (no_feed (drop n ahead) j none (omega (arith, length-drop n ahead)) here)
      | inr le ↦ le
    ]

pub last-rest : (start : ℕ) (runs : List (List ℕ)) (rest ahead : List ℕ) (total count len : ℕ) → IsInRuns start runs rest total → drop start (concat runs ++ rest) ≡ ahead → len ≡ length rest → count ≤ length ahead → count ≤ length rest
    → drop (len - count) rest ≡ drop (length ahead - count) ahead
last-rest start runs rest ahead total count len buffer is len_is within le =
    let all : length ahead ≡ length (concat runs ++ rest) - start = sym (ap length is) ∙ length-drop start (concat runs ++ rest) in
    let both : length (concat runs ++ rest) ≡ length (concat runs) + length rest = length-append (concat runs) rest in
    let started : start ≤ length (concat runs ++ rest) = begun-within start runs rest buffer.begun in
    let position : length (concat runs) + (len - count) ≡ start + (length ahead - count) = omega arith in
    sym (drop-append-add (concat runs) rest (len - count))
    ∙ ap (λ n. drop n (concat runs ++ rest)) position
    ∙ sym (drop-drop (length ahead - count) start (concat runs ++ rest))
    ∙ ap (drop (length ahead - count)) is

-- where no line ends in the front, nothing follows it
pub nothing-behind : (front behind : List ℕ) → (0 < length behind → EndsLine front) → HasNoLineEnd front → behind ≡ []
nothing-behind front behind parted none =
    elim (cases_lt 0 (length behind)) [
      | inl some ↦
          let ends : EndsLine front = parted some in
          absurd (no_feed front (length front - 1) none (omega (arith, some_bytes front ends)) ends)
      | inr none_left ↦ nil_from_length behind (omega arith)
    ]

none_front : (front behind : List ℕ) → HasNoLineEnd (front ++ behind) → HasNoLineEnd front
none_front front behind none k d lt =
    ap is_line_end (sym (get_or_append_left front behind d k lt)) ∙ none k d (omega (arith, length-append front behind))

pub front-all : (front behind : List ℕ) → (0 < length behind → EndsLine front) → HasNoLineEnd (front ++ behind) → length front ≡ length (front ++ behind)
front-all front behind parted none = ap length (sym (ap (λ bs. front ++ bs) (nothing-behind front behind parted (none_front front behind none)) ∙ append-nil front))

-- whole lines end a line
pub text-ends : (lines : List (List ℕ)) → 0 < length (text_of_lines lines) → EndsLine (text_of_lines lines)
text-ends [] some = absurd (omega arith)
text-ends (l ∷ lines) some =
    elim (cases_lt 0 (length (text_of_lines lines))) [
      | inl more ↦ ends_append l (10 ∷ text_of_lines lines) (ends_append (10 ∷ []) (text_of_lines lines) (text-ends lines more))
      | inr none ↦ let P : List ℕ → Type 0 = λ t. EndsLine (l ++ 10 ∷ t) in subst P (sym (nil_from_length (text_of_lines lines) (omega arith))) (ends_append l (10 ∷ []) refl)
    ]

-- the bytes of runs, once a piece ended what was no run yet and more runs follow
pub joined-piece : (runs more : List (List ℕ)) (run rest head tail last piece : List ℕ) → run ≡ rest ++ head → concat more ++ last ≡ tail → head ++ tail ≡ piece
    → concat ((runs ++ run ∷ []) ++ more) ++ last ≡ (concat runs ++ rest) ++ piece
joined-piece runs more run rest head tail last piece run_is tail_is piece_is =
    ap (λ bs. bs ++ last) (concat-append (runs ++ run ∷ []) more)
    ∙ append_assoc (concat (runs ++ run ∷ [])) (concat more) last
    ∙ concat-more runs run (concat more ++ last)
    ∙ ap (λ bs. concat runs ++ (run ++ bs)) tail_is
    ∙ ap (λ bs. concat runs ++ (bs ++ tail)) run_is
    ∙ ap (λ bs. concat runs ++ bs) (append_assoc rest head tail ∙ ap (λ bs. rest ++ bs) piece_is)
    ∙ sym (append_assoc (concat runs) rest piece)

pub ok-appended : {T E : Type 0} (r : Result T E) (new runs more : List (List ℕ)) (last whole : List ℕ) → new ≡ (if is_ok r then runs ++ more else runs) → concat (runs ++ more) ++ last ≡ whole
    → OnOk r (concat new ++ last ≡ whole)
ok-appended (Ok x) new runs more last whole e h = ap (λ rs. concat rs ++ last) e ∙ h
ok-appended (Err x) new runs more last whole e h = tt

pub all-appended : (ok : Bool) (new runs more : List (List ℕ)) → new ≡ (if ok then runs ++ more else runs) → AllByRecursion IsLineRun runs → AllByRecursion IsLineRun more → AllByRecursion IsLineRun new
all-appended true new runs more e h k = let P : List (List ℕ) → Type 0 = AllByRecursion IsLineRun in subst P (sym e) (all-runs_both runs more h k)
all-appended false new runs more e h k = let P : List (List ℕ) → Type 0 = AllByRecursion IsLineRun in subst P (sym e) h

-- what is held and a piece can be counted
pub count-fits : (runs : List (List ℕ)) (rest : List ℕ) (n : ℕ) → AllByRecursion IsLineRun runs → length runs < 2 ^ 63 → length rest < 2 ^ 64 → n < 2 ^ 64 → length (concat runs ++ rest) + n < 2 ^ 128
count-fits runs rest n whole few short piece = omega (arith, runs-countable runs whole, length-append (concat runs) rest)
