use Rattle.std.proofs.Common.{◌∙◌, ap, sym, map}
use Rattle.std.specs.Prelude.{option_map}
use Rattle.lj_run.proofs.ArgsLemmas.{asks_given, too_many, without_formula, without_limit}
use Rattle.lj_run.proofs.args.request_of.Goals as goal

pub returns-in_default : goal.returns-in_default
returns-in_default c =
    without_formula (option_map (λ p. p.now) c.args.formula) (map (λ p. p.now) c.args.proofs.now) (option_map (λ p. p.now) c.args.closing) (option_map (λ p. p.now) c.args.max_steps) c.args.way
    (ap (option_map (λ p. p.now)) c.in_default.is)

pub returns-then-not-is_run_of : goal.returns-then-not-is_run_of
returns-then-not-is_run_of c =
    too_many (option_map (λ p. p.now) c.args.formula) _ (map (λ p. p.now) c.args.proofs.now) (option_map (λ p. p.now) c.args.closing) (option_map (λ p. p.now) c.args.max_steps) c.args.way
    (ap (option_map (λ p. p.now)) c.in-Some.is) (sym c.is_run_of.ensures ∙ c.if-not-is_run_of.true)

pub returns-in_default-steps_of : goal.returns-in_default-steps_of
returns-in_default-steps_of c =
    without_limit (option_map (λ p. p.now) c.args.formula) _ (map (λ p. p.now) c.args.proofs.now) (option_map (λ p. p.now) c.args.closing) (option_map (λ p. p.now) c.args.max_steps) c.args.way
    (ap (option_map (λ p. p.now)) c.in-Some.is) (sym c.is_run_of.ensures ∙ c.if-not-is_run_of.false) (sym c.steps_of.ensures ∙ c.in_default-steps_of.is)

pub returns : goal.returns
returns c = asks_given _ c.in-Some.formula c.args.proofs.now _ c.args.closing c.args.max_steps _ c.args.way c.in-Some.is
    (c.in_ok-to_vec.ensures.items_if_clones_equal (λ x y h. h)) (sym c.is_run_of.ensures ∙ c.if-not-is_run_of.false) (sym c.steps_of.ensures ∙ c.in-Some-steps_of.is)
