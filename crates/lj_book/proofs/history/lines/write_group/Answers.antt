use Rattle.std.proofs.Common.{ap, map, ◌∷◌, ◌++◌, List, ℕ, ◌≡◌}
use Rattle.std.specs.Fmt.{decimal}
use Rattle.std.specs.Str.{byte}
use Rattle.lj_text.specs.Writing.{spaced_token}
use Rattle.lj_text.specs.inner.Writing.{spaced_tokens}
use Rattle.lj_book.specs.inner.Encoding.{number_in, list_in}
use Rattle.lj_book.proofs.StepLineLemmas.{given_as, given_then}
use Rattle.lj_book.proofs.history.lines.write_group.Goals as goal

pub returns-clause-given : goal.returns-clause-given
returns-clause-given g c =
    let both : ℕ × List ℕ → List ℕ = λ p. spaced_token (byte "-" ∷ decimal p.0) ++ spaced_tokens (map decimal (list_in p.1).0) in
    let is : (c.number-candidate.result.0, c.number-candidate.result.1.now) ≡ number_in c.args.encoding.now = λ i. (c.number-candidate.ensures.number i, c.number-candidate.ensures.rest i) in
    given_as _ _ _ _ (given_then _ _ _ _ _ c.token.ensures.given c.write_list.ensures.given) (ap both is)
