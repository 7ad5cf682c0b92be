use Rattle.std.proofs.Common.{ap, sym, ◌∙◌, ℕ, Bool, ◌-◌, arith, get_or}
use Rattle.std.specs.Prelude.{List, Option, Some, filter, slice_get}
use Rattle.std.specs.Option.{option_or}
use Rattle.std.specs.FinMap as fin
use Rattle.lj_book.specs.declared.occurrence_lists.Link.{Link}
use Rattle.lj_book.specs.Lookup.{is_clause}
use Rattle.lj_book.specs.inner.Chains.{chain}
use Rattle.lj_book.proofs.Parts.{same_test}
use Rattle.lj_book.proofs.Chains.{before_less, first_more, first_no_more}
use Rattle.lj_book.proofs.occurrence_lists.first_before.Goals as goal
use Rattle.lj_book.proofs.occurrence_lists.first_before.Goals.{in-Some+then-same, in-Some+else-same, in_default}

pub loop-at-preserved : goal.loop-at-preserved
loop-at-preserved c =
    let none : Link = record { number = 0; before = 0 } in
    let links : List Link = c.args.links.now in
    let link : Link = get_or links (c.loop-at.at - 1) none in
    let l = c.loop-at.invariant.there in
    let less = before_less links c.loop-at.at none c.requires.linked c.loop-at-test.true l in
    let p = c.args.clauses.now in
    let w = c.args.wanted.now in
    let test : ℕ → Bool = λ n. is_clause w (fin.get p n) in
    let told = ap test (sym c.from-number.ensures) in
    record {
      there = omega (arith, less, l);
      found = elim c.match-get.branch [
        | in-Some+then-same v ↦
            ap (λ (o : Option ℕ). option_or (slice_get (filter test (chain links link.before)) 0) o) (v.first-is ∙ ap Some c.from-number.ensures)
            ∙ first_more test links c.loop-at.at none c.loop-at.first _ c.requires.linked c.loop-at-test.true l c.loop-at.invariant.found
            (told ∙ ap (is_clause w) (sym c.get.ensures ∙ v.in-Some.is) ∙ sym (same_test v.same.result w v.in-Some.clause v.same.ensures) ∙ v.if-same.true)
        | in-Some+else-same v ↦
            ap (λ (o : Option ℕ). option_or (slice_get (filter test (chain links link.before)) 0) o) v.first-is
            ∙ first_no_more test links c.loop-at.at none c.loop-at.first _ c.requires.linked c.loop-at-test.true l c.loop-at.invariant.found
            (told ∙ ap (is_clause w) (sym c.get.ensures ∙ v.in-Some.is) ∙ sym (same_test v.same.result w v.in-Some.clause v.same.ensures) ∙ v.if-same.false)
        | in_default v ↦
            ap (λ (o : Option ℕ). option_or (slice_get (filter test (chain links link.before)) 0) o) v.first-is
            ∙ first_no_more test links c.loop-at.at none c.loop-at.first _ c.requires.linked c.loop-at-test.true l c.loop-at.invariant.found
            (told ∙ ap (is_clause w) (sym c.get.ensures ∙ v.in_default.is))
      ];
    }
