-- What the words at a place of a history tell.
use Rattle.std.proofs.Common.{◌≡◌, ap, refl, sym, ◌∙◌, ℕ, zero, suc}
use Rattle.std.specs.Prelude.{ℤ, List, [], ◌∷◌, drop, Option, Some, None, IfNone, option_map, slice_get}
use Rattle.lj_book.specs.inner.Records.{entry_in, entries_in}

pub entry-at : (lits : List ℤ) (encoding starts : List ℕ) (place : ℕ) (o : Option (List ℕ)) → o ≡ option_map (λ start. drop start encoding) (slice_get starts place) → slice_get (entries_in lits encoding starts) place ≡ option_map (entry_in lits) o
entry-at lits encoding starts place o is = at starts place ∙ ap (option_map (entry_in lits)) (sym is)
  where
    at : (ss : List ℕ) (k : ℕ) → slice_get (entries_in lits encoding ss) k ≡ option_map (entry_in lits) (option_map (λ start. drop start encoding) (slice_get ss k))
    at [] k = refl
    at (s ∷ ss) zero = refl
    at (s ∷ ss) (suc k) = at ss k

pub none_weaker : {A P Q : Type 0} (o : Option A) → (P → Q) → IfNone o P → IfNone o Q
none_weaker None f h = f h
none_weaker (Some x) f h = h

pub some-is : {A : Type 0} (x y : A) → Some x ≡ Some y → x ≡ y
some-is x y e = cc
