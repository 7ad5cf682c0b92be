-- What the whole lines at the front of a text say is what the text says first.
use Rattle.std.proofs.Common.{◌≡◌, ℕ, zero, suc, ◌+◌, true, false, List, [], ◌∷◌, ◌++◌, length, Some, refl, sym, ap, ◌∙◌, append_assoc, arith}
use Rattle.std.proofs.lemmas.List.{append-nil}
use Rattle.std.proofs.lemmas.List.Elements.{All-cons}
use Rattle.std.specs.List.{AllByRecursion, slice_get}
use borrow.Author.Tests.{eqb-true}
use Rattle.lj_text.specs.Bytes.{is_line_end}
use Rattle.lj_text.specs.Lines.{Said, said_from, whole_said, all_said, all_said_from}
use Rattle.lj_text.specs.LinesRead.{HasNoLineEnd, text_of_lines}
use Rattle.lj_text.proofs.StandLemmas.{whole-joined, all-joined, whole-none}

-- A text as its whole lines and what stands behind the last line feed.
record Cut (text : List ℕ) : Type 0 where
  lines : List (List ℕ)
  after : List ℕ
  whole : AllByRecursion HasNoLineEnd lines
  open_end : HasNoLineEnd after
  text_is : text ≡ text_of_lines lines ++ after

-- a byte that is no line feed before a cut text
byte_before : (b : ℕ) (bytes : List ℕ) → is_line_end b ≡ false → Cut bytes → Cut (b ∷ bytes)
byte_before b bytes e c = by_lines c.lines c.whole c.text_is
  where
    by_lines : (ls : List (List ℕ)) → AllByRecursion HasNoLineEnd ls → bytes ≡ text_of_lines ls ++ c.after → Cut (b ∷ bytes)
    by_lines [] h is = record { lines = []; after = b ∷ c.after; whole = tt; open_end = All-cons (λ x. is_line_end x ≡ false) b c.after e c.open_end; text_is = ap (λ xs. b ∷ xs) is }
    by_lines (l ∷ ls) h is = record { lines = (b ∷ l) ∷ ls; after = c.after; whole = (All-cons (λ x. is_line_end x ≡ false) b l e h.0, h.1); open_end = c.open_end; text_is = ap (λ xs. b ∷ xs) is }

cut_of : (text : List ℕ) → Cut text
cut_of [] = record { lines = []; after = []; whole = tt; open_end = λ k d lt. absurd (omega arith); text_is = refl }
cut_of (b ∷ bytes) =
    let c = cut_of bytes in
    elim (is_line_end b) as (λ e. is_line_end b ≡ e → Cut (b ∷ bytes)) [
      | true ↦ λ e. record { lines = [] ∷ c.lines; after = c.after; whole = (λ k d lt. absurd (omega arith), c.whole); open_end = c.open_end; text_is = λ i. eqb-true b 10 e i ∷ c.text_is i }
      | false ↦ λ e. byte_before b bytes e c
    ] refl

-- what a text says goes on from what the whole lines of its front say
pub all_said-front : (max : ℕ) (front more : List ℕ) → (later : List Said) × (all_said max (front ++ more) ≡ whole_said max front ++ later)
all_said-front max front more =
    let c = cut_of front in
    let whole : whole_said max front ≡ said_from max 0 c.lines =
    ap (whole_said max) c.text_is ∙ whole-joined max 0 c.lines c.after c.whole ∙ ap (λ ss. said_from max 0 c.lines ++ ss) (whole-none max (0 + length c.lines) c.after c.open_end) ∙ append-nil (said_from max 0 c.lines) in (
      all_said_from max (0 + length c.lines) (c.after ++ more),
      ap (λ t. all_said max (t ++ more)) c.text_is ∙ ap (all_said max) (append_assoc (text_of_lines c.lines) c.after more) ∙ all-joined max 0 c.lines (c.after ++ more) c.whole
          ∙ ap (λ ss. ss ++ all_said_from max (0 + length c.lines) (c.after ++ more)) (sym whole),
    )

get-front : {X : Type 0} (xs ys : List X) (i : ℕ) (x : X) → slice_get xs i ≡ Some x → slice_get (xs ++ ys) i ≡ Some x
get-front [] ys i x e = cc
get-front (y ∷ xs) ys zero x e = e
get-front (y ∷ xs) ys (suc i) x e = get-front xs ys i x e

-- a line that a whole line of the front says stands at the same place of what the text says
pub said_in_front : (max : ℕ) (front more : List ℕ) (i : ℕ) (said : Said) → slice_get (whole_said max front) i ≡ Some said → slice_get (all_said max (front ++ more)) i ≡ Some said
said_in_front max front more i said e =
    let later = all_said-front max front more in
    ap (λ ss. slice_get ss i) later.1 ∙ get-front (whole_said max front) later.0 i said e
