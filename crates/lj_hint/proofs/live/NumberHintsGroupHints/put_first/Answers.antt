use Rattle.std.proofs.Common.{ap, ◌∙◌, ℕ, List, [], ◌∷◌, ◌++◌}
use Rattle.lj_clause.specs.Rat.{HintGroup}
use Rattle.lj_hint.proofs.NumberHints.{hint_numbers-first}
use Rattle.lj_hint.proofs.live.NumberHintsGroupHints.put_first.Goals as goal

pub returns : goal.returns
returns g c =
    let group : List ℕ → HintGroup = λ ns. record { candidate = c.args.candidate; hints = ns } in
    c.in_ok-push.ensures.ok
    ∙ ap (λ (ns : List ℕ). c.args.groups.now ++ group ns ∷ []) (c.first.ensures ∙ hint_numbers-first (g.C.Clauses.clauses c.args.self.now.clauses.now) c.args.self.now.numbers c.args.count)
