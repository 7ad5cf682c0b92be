use Rattle.std.proofs.Common.{ap, sym, ◌∙◌, ℕ, drop}
use Rattle.lj_share.specs.inner.Ahead.{first_unseen}
use Rattle.lj_share.proofs.AloneLaws.{behind_stuck, stuck_by, unseen_by}
use Rattle.lj_share.proofs.seat.SeenClauses.stuck_at.Goals as goal

pub returns-in-Some : goal.returns-in-Some
returns-in-Some g c =
    let m = c.args.self.now in
    let a = c.args.addition.now in
    unseen_by m a c.in-Some.own c.requires.free (behind_stuck m a c.args.position c.requires ∙ ap (λ (k : ℕ). first_unseen m (drop k a.hints)) (sym c.saturating_sub.ensures) ∙ sym c.first_unseen.ensures ∙ c.in-Some.is)

pub returns-in-None : goal.returns-in-None
returns-in-None g c =
    let m = c.args.self.now in
    let a = c.args.addition.now in
    stuck_by c.propagations_go_by_clauses.ensures.ending m a c.args.position c.requires (behind_stuck m a c.args.position c.requires ∙ ap (λ (k : ℕ). first_unseen m (drop k a.hints)) (sym c.saturating_sub.ensures) ∙ sym c.first_unseen.ensures ∙ c.in-None.is)
