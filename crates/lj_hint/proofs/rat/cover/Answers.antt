use Rattle.std.proofs.Common.{◌≡◌, ap, sym, subst, ◌∙◌, arith, ℕ, ◌+◌, ◌<◌, ◌≤◌, drop, get_or, length}
use Rattle.std.proofs.lemmas.List.{get_or_default, length-map}
use Rattle.std.proofs.lemmas.Bool.{false≢true}
use Rattle.std.specs.Prelude.{ℤ, neg_ℤ, true, List, Option, Some, None, option_map, is_some, Ok}
use Rattle.std.specs.List.Sorted.{IsStrictlySortedBy}
use Rattle.std.specs.Ordering.{nat_cmp}
use Rattle.std.specs.FinMap as fin
use Rattle.lj_clause.specs.LiteralSet.{LiteralSet, holds, from_literals}
use Rattle.lj_clause.specs.Propagation.{Hint}
use Rattle.lj_clause.specs.Rat.{HintGroup, candidates, group_of, candidate_propagation, rat_over}
use Rattle.lj_clause.proofs.RatLaws.{candidates-get, candidates-sorted}
use Rattle.lj_hint.specs.RatTest.{rat_told}
use Rattle.lj_hint.specs.inner.Groups.{candidate_told, group_at, before, lent_hints, read_group}
use Rattle.lj_hint.specs.inner.Coverings.{covered_before}
use Rattle.lj_hint.proofs.RatTests.{candidate_numbers, behind_groups, IsCandidate, at_one, candidate_at, candidate_is, candidate_covered, candidate_refused, all_covered, refusal_told, has_hints}
use Rattle.lj_hint.proofs.rat.cover.Goals as goal

pub positions_among-requires : goal.positions_among-requires
positions_among-requires g c =
    let live = g.L.Clauses.clauses c.args.live.now in
    let ns : List ℕ = c.in_ok-numbers.numbers.items in
    let are = candidate_numbers live c.args.pivot _ ns c.negated.ensures c.in_ok-numbers.ensures in
    subst (IsStrictlySortedBy nat_cmp) (sym are ∙ sym c.deref.ensures.value) (candidates-sorted live c.args.pivot)

pub loop-index-preserved-in_default : goal.loop-index-preserved-in_default
loop-index-preserved-in_default g c =
    let live = g.L.Clauses.clauses c.args.live.now in
    let es = candidates live c.args.pivot in
    let i = c.loop-index.index in
    let n : ℕ = c.index-number.result.now in
    let ns : List ℕ = c.in_ok-numbers.numbers.items in
    let first = λ (e : ℕ × LiteralSet). e.0 in
    let are = candidate_numbers live c.args.pivot _ ns c.negated.ensures c.in_ok-numbers.ensures in
    let in_ns : i < length ns = omega (arith, c.loop-index-test.true, c.len-index-end.ensures) in
    let within : i < length es = omega (arith, in_ns, ap length are, length-map es first) in
    let number = c.index-number.ensures ∙ get_or_default ns i n 0 in_ns ∙ ap (λ (ms : List ℕ). get_or ms i 0) are in
    let found = candidate_at (λ (e : ℕ × LiteralSet). (fin.get live e.0 ≡ Some e.1) × (holds e.1 (neg_ℤ c.args.pivot) ≡ true)) es i n within number (candidates-get live c.args.pivot) in
    let nothing : None ≡ Some found.0 = sym c.in_default.is ∙ c.clause.ensures ∙ found.2.0 in
    absurd (false≢true (ap is_some nothing))

pub returns-in-Err : goal.returns-in-Err
returns-in-Err g c =
    let hints = g.G.Hints.HintList.hints in
    let live = g.L.Clauses.clauses c.args.live.now in
    let q = c.args.pivot in
    let es = candidates live q in
    let named = g.G.GroupList.groups c.args.groups.now in
    let a = from_literals c.loop-index.assigned in
    let i = c.loop-index.index in
    let n : ℕ = c.index-number.result.now in
    let ns : List ℕ = c.in_ok-numbers.numbers.items in
    let d = c.in-Some.clause in
    let first = λ (e : ℕ × LiteralSet). e.0 in
    let are = candidate_numbers live c.args.pivot _ ns c.negated.ensures c.in_ok-numbers.ensures in
    let in_ns : i < length ns = omega (arith, c.loop-index-test.true, c.len-index-end.ensures) in
    let within : i < length es = omega (arith, in_ns, ap length are, length-map es first) in
    let here : n ≡ get_or ns i 0 = c.index-number.ensures ∙ get_or_default ns i n 0 in_ns in
    let is : IsCandidate es i n d = candidate_is live q i n d within (here ∙ ap (λ (ms : List ℕ). get_or ms i 0) are) (sym c.in-Some.is ∙ c.clause.ensures) in
    let group : option_map hints c.hints_at.result ≡ group_of n named =
    c.hints_at.ensures
    ∙ c.position_for-position.ensures
    ∙ ap (λ (ms : List ℕ). group_of (get_or ms i 0) named) c.deref-in-loop-index.ensures.value
    ∙ ap (λ (m : ℕ). group_of m named) (sym here) in
    let told = ap (λ (o : Option (List Hint)). candidate_told n (is_some o) (candidate_propagation a q d o)) (sym group) ∙ ap (λ b. candidate_told n b (candidate_propagation a q d (option_map hints c.hints_at.result))) (has_hints hints c.hints_at.result) in
    let replies = c.in-Err.ensures in
    refusal_told c.in-Err.refusal _ _
    (λ x one.
    ap (λ (h : List ℤ). rat_told (rat_over (from_literals h) q named es)) (sym c.loop-index.invariant.same)
    ∙ sym c.loop-index.invariant.told
    ∙ candidate_refused a q named es i n d (covered_before named i c.loop-index.covered) x is (told ∙ one))
    replies.reply

pub loop-index-preserved : goal.loop-index-preserved
loop-index-preserved g c =
    let hints = g.G.Hints.HintList.hints in
    let live = g.L.Clauses.clauses c.args.live.now in
    let q = c.args.pivot in
    let es = candidates live q in
    let named = g.G.GroupList.groups c.args.groups.now in
    let a = from_literals c.loop-index.assigned in
    let i = c.loop-index.index in
    let n : ℕ = c.index-number.result.now in
    let ns : List ℕ = c.in_ok-numbers.numbers.items in
    let d = c.in-Some.clause in
    let first = λ (e : ℕ × LiteralSet). e.0 in
    let are = candidate_numbers live c.args.pivot _ ns c.negated.ensures c.in_ok-numbers.ensures in
    let in_ns : i < length ns = omega (arith, c.loop-index-test.true, c.len-index-end.ensures) in
    let within : i < length es = omega (arith, in_ns, ap length are, length-map es first) in
    let here : n ≡ get_or ns i 0 = c.index-number.ensures ∙ get_or_default ns i n 0 in_ns in
    let is : IsCandidate es i n d = candidate_is live q i n d within (here ∙ ap (λ (ms : List ℕ). get_or ms i 0) are) (sym c.in-Some.is ∙ c.clause.ensures) in
    let group : option_map hints c.hints_at.result ≡ group_of n named =
    c.hints_at.ensures
    ∙ c.position_for-position.ensures
    ∙ ap (λ (ms : List ℕ). group_of (get_or ms i 0) named) c.deref-in-loop-index.ensures.value
    ∙ ap (λ (m : ℕ). group_of m named) (sym here) in
    let replies = c.in-Ok.ensures in
    let covering : HintGroup = read_group n (lent_hints (group_at named (before c.position_for-position.result))) c.in-Ok.read in
    let told : at_one a q named n d ≡ Ok covering =
    ap (λ (o : Option (List Hint)). candidate_told n (is_some o) (candidate_propagation a q d o)) (sym group)
    ∙ ap (λ b. candidate_told n b (candidate_propagation a q d (option_map hints c.hints_at.result))) (has_hints hints c.hints_at.result)
    ∙ replies.reply
    ∙ ap (λ (o : Option (List Hint)). Ok (read_group n (lent_hints o) c.in-Ok.read)) c.hints_at.ensures in
    let later : List ℤ → List HintGroup → Type 0 = λ h gs. behind_groups gs (rat_told (rat_over (from_literals h) q named (drop (i + 1) es))) ≡ rat_told (rat_over (from_literals h) q named es) in
    record {
      within = omega (arith, in_ns);
      same = replies.back ∙ c.loop-index.invariant.same;
      told = subst (λ (h : List ℤ). later h (covered_before named (i + 1) c.cover_one.new.covered)) (sym replies.back)
          (subst (later c.loop-index.assigned) (sym c.in_ok-cover_one-in-Ok.ensures)
          (candidate_covered a q named es i n d (covered_before named i c.loop-index.covered) covering is told ∙ c.loop-index.invariant.told));
      positioned = c.loop-index.invariant.positioned;
    }

pub returns : goal.returns
returns g c =
    let live = g.L.Clauses.clauses c.args.live.now in
    let q = c.args.pivot in
    let es = candidates live q in
    let named = g.G.GroupList.groups c.args.groups.now in
    let i = c.loop-index.index in
    let ns : List ℕ = c.in_ok-numbers.numbers.items in
    let first = λ (e : ℕ × LiteralSet). e.0 in
    let are = candidate_numbers live c.args.pivot _ ns c.negated.ensures c.in_ok-numbers.ensures in
    let past : length ns ≤ i = omega (arith, c.loop-index-test.false, c.len-index-end.ensures) in
    let count : i ≡ c.len.result = omega (arith, past, c.loop-index.invariant.within, c.len.ensures) in
    ap (λ (h : List ℤ). rat_told (rat_over (from_literals h) q named es)) (sym c.loop-index.invariant.same)
    ∙ sym c.loop-index.invariant.told
    ∙ all_covered (from_literals c.loop-index.assigned) q named es i (covered_before named i c.loop-index.covered) (omega (arith, past, ap length are, length-map es first))
    ∙ ap (λ (k : ℕ). Ok (covered_before named k c.loop-index.covered)) count
    ∙ ap Ok (sym c.in_ok-covering.ensures)
