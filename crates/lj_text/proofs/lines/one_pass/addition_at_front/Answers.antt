use Rattle.std.proofs.Common.{◌≡◌, ◌∙◌, ap, sym, subst, true, rules}
use Rattle.std.specs.Prelude.{Ok}
use Rattle.lj_clause.specs.Lemma.{lemma_of}
use Rattle.lj_text.specs.Lines.{addition_of}
use Rattle.lj_text.specs.declared.line.Addition.{Addition}
use Rattle.lj_text.specs.declared.line.Line.TheVariants.{Add}
use Rattle.lj_text.specs.inner.LineReading.{token_numbers}
use Rattle.lj_text.specs.inner.ShortNumbers.{BeginsByLine}
use Rattle.lj_text.proofs.OnePassLemmas.{addition-line, two-ahead}
use Rattle.lj_text.proofs.lines.one_pass.addition_at_front.Goals as goal

pub returns-in-Some-clause-read : goal.returns-in-Some-clause-read
returns-in-Some-clause-read c =
    let s = c.short_literals-rest in
    let e = c.in-Some.ensures in
    let P : Addition → Type 0 = λ target. BeginsByLine (λ line. addition_of c.args.max true c.args.number (token_numbers line) ≡ Ok (Add target)) c.args.bytes.now c.in-Some.after.now in
    subst P (sym c.from_box.ensures)
    (addition-line c.args.max c.args.number c.clear.new.self.items c.args.bytes.now s.new.literals.items s.result.now _ c.in-Some.after.now c.write_at_front.new.target c.clear.ensures.items s.ensures.ahead
    (two-ahead s.result.now 48 32 c.in-48.len_at_least (search rules) (search rules)) e.read e.number (e.lemma ∙ ap (λ lits. lemma_of lits.items) c.addition.ensures))
