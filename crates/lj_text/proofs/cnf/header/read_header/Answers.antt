use Rattle.std.proofs.Common.{◌≡◌, Bool, true, cond, Ok, sym, ◌∙◌, subst}
use Rattle.std.specs.Prelude.{MatchResult}
use Rattle.lj_text.specs.Bytes.{tokens_of}
use Rattle.lj_text.specs.Lines.{is_letter}
use Rattle.lj_text.specs.declared.cnf.fault.CnfFaultKind.TheVariants as kinds
use Rattle.lj_text.specs.Cnf.{fault_in, header_after}
use Rattle.lj_text.specs.inner.CnfReading.{IsCnfTold}
use Rattle.lj_text.proofs.cnf.header.read_header.Goals as goal

pub returns-then-is_header-clause-sizes : goal.returns-then-is_header-clause-sizes
returns-then-is_header-clause-sizes c line =
    let e : is_letter 112 c.args.token.now ≡ true = sym c.is_header.ensures ∙ c.if-is_header.true in
    let P : Bool → Type 0 = λ b. MatchResult c.read_sizes.result
    (λ sizes. cond b (header_after c.args.max line (tokens_of c.args.after.now)) (fault_in line kinds.NoHeader) ≡ Ok sizes)
    (λ kind. IsCnfTold kind line (cond b (header_after c.args.max line (tokens_of c.args.after.now)) (fault_in line kinds.NoHeader))) in
    subst P (sym e) (c.read_sizes.ensures.sizes line)
