-- What a source gives, piece by piece.
use Rattle.std.proofs.Common.{◌≡◌, ℕ, List, [], ◌++◌, take, sym, ap, ◌∙◌, subst, append_assoc}
use Rattle.std.proofs.lemmas.List.{append-nil}
use Rattle.std.specs.Io.KnownBytes.{Keeps}
use Rattle.std.proofs.KnownBytes.{Consumes-nil, Consumes-trans, Consumes-kept}
use Rattle.lj_text.specs.Streams.{SourceState, HasGiven}

-- nothing was pulled
pub given_none : (s : SourceState) → HasGiven s s []
given_none s = record { given = sym (append-nil s.given); rest = Consumes-nil s.rest }

-- one piece, and then another
pub given_on : (a b c : SourceState) (xs ys : List ℕ) → HasGiven a b xs → HasGiven b c ys → HasGiven a c (xs ++ ys)
given_on a b c xs ys first second = record {
  given = second.given ∙ ap (λ zs. zs ++ ys) first.given ∙ append_assoc a.given xs ys;
  rest = Consumes-trans a.rest b.rest c.rest xs ys first.rest second.rest;
}

-- a pull that failed
pub given_failed : (a b : SourceState) → b.given ≡ a.given → Keeps a.rest b.rest → HasGiven a b []
given_failed a b same keeps = record { given = same ∙ sym (append-nil a.given); rest = Consumes-kept a.rest a.rest b.rest [] (Consumes-nil a.rest) keeps }

-- a pull that gave nothing
pub given_at_end : (a b : SourceState) (n : ℕ) (scratch : List ℕ) → HasGiven a b (take n scratch) → n ≡ 0 → HasGiven a b []
given_at_end a b n scratch h none = subst (λ k. HasGiven a b (take k scratch)) none h
