-- Lists of events, as far as they were played.
use Rattle.std.proofs.Common.{◌≡◌, ap, refl, ◌∙◌, ℕ, zero, suc, ◌≤◌, take, arith}
use Rattle.std.specs.Prelude.{List, [], ◌∷◌, ◌++◌, length, slice_index_or, slice_set}
use Rattle.lj_hint.specs.Case.{CaseValue}
use Rattle.lj_book.specs.declared.event.Reply.{Reply}
use Rattle.lj_book.specs.declared.event.Reply.TheVariants as replies
use Rattle.lj_book.specs.declared.event.Pending.{Pending}
use Rattle.lj_book.specs.declared.event.Pending.TheVariants as pendings
use Rattle.lj_book.specs.Worlds.{IsTested, IsTestOf}

pub set_twice : {A : Type 0} (xs : List A) (i : ℕ) (x y : A) → slice_set (slice_set xs i x) i y ≡ slice_set xs i y
set_twice [] i x y = refl
set_twice (z ∷ xs) zero x y = refl
set_twice (z ∷ xs) (suc i) x y = ap (λ zs. z ∷ zs) (set_twice xs i x y)

set_same : {A : Type 0} (xs : List A) (i : ℕ) (d : A) → slice_set xs i (slice_index_or xs i d) ≡ xs
set_same [] i d = refl
set_same (x ∷ xs) zero d = refl
set_same (x ∷ xs) (suc i) d = ap (λ zs. x ∷ zs) (set_same xs i d)

-- what was taken out, put back
pub put_back : {A : Type 0} (xs ys zs : List A) (i : ℕ) (d x : A) → x ≡ slice_index_or xs i d → ys ≡ slice_set xs i d → zs ≡ slice_set ys i x → zs ≡ xs
put_back xs ys zs i d x is left put =
    put ∙ ap (λ vs. slice_set vs i x) left ∙ set_twice xs i d x ∙ ap (slice_set xs i) is ∙ set_same xs i d

-- a test leaves what it leaves in place of what was pending
pub tested_at : (c : CaseValue) (xs ys zs : List Pending) (seat : ℕ) (reply : Reply) (after d : Pending) → IsTested c (λ (p : Pending). p) reply after → ys ≡ slice_set xs seat d → zs ≡ slice_set ys seat after → IsTested c (slice_set xs seat) reply zs
tested_at c xs ys zs seat reply after d tested left put = record {
  answer = tested.answer;
  propagate = tested.propagate;
  no_memory = tested.no_memory;
  tells = tested.tells;
  leaves = put ∙ ap (λ vs. slice_set vs seat after) left ∙ set_twice xs seat d after ∙ ap (slice_set xs seat) tested.leaves;
}

-- a test of what isn't a case, and a commit of what isn't a receipt
pub no_case : {B : Type 0} (p : Pending) (before after : B) (left : Pending → B) → ((c : CaseValue) → p ≡ pendings.Case c → ⊥) → after ≡ before → IsTestOf p before left replies.Nothing after
no_case pendings.Nothing before after left none same = (refl, same)
no_case (pendings.Case c) before after left none same = absurd (none c refl)
no_case (pendings.Receipt r) before after left none same = (refl, same)

-- what was written through a borrow of the whole list
pub written_back : {A : Type 0} (xs ys : List A) (n : ℕ) → n ≡ length xs → take n (xs ++ ys) ≡ xs
written_back [] ys n is = ap (λ k. take k ys) is
written_back (x ∷ xs) ys zero is = absurd (omega arith)
written_back (x ∷ xs) ys (suc n) is = ap (λ zs. x ∷ zs) (written_back xs ys n (omega arith))

pub take_all : {A : Type 0} (xs : List A) (n : ℕ) → length xs ≤ n → take n xs ≡ xs
take_all [] zero h = refl
take_all [] (suc n) h = refl
take_all (x ∷ xs) zero h = absurd (omega arith)
take_all (x ∷ xs) (suc n) h = ap (λ zs. x ∷ zs) (take_all xs n (omega arith))
