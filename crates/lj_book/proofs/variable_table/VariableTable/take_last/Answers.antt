use Rattle.std.proofs.Common.{◌≡◌, ap, sym, ◌∙◌, subst, arith, ◌+◌, ◌-◌, List, ◌∷◌, [], ◌++◌, length}
use Rattle.std.specs.Prelude.{slice_set}
use Rattle.std.proofs.lemmas.List.{get_or_read, length-append}
use Rattle.std.specs.FinMap as fin
use Rattle.lj_clause.specs.Renaming.{Renaming}
use Rattle.lj_book.specs.declared.variable_table.Owner.{Owner}
use Rattle.lj_book.specs.inner.VariableTables.{AreOwners, TopVariables, kept_variables, variables_at, variables_before}
use Rattle.lj_book.proofs.VariableTables.{last_here, less, AreOwners-pop}
use Rattle.lj_book.proofs.TakenBack.{kept-less}
use Rattle.lj_book.proofs.variable_table.VariableTable.take_last.Goals as goal
use Rattle.lj_book.proofs.variable_table.VariableTable.take_last.Goals.{In-Some, After-remove}

-- the owners, with the last one at the end
owners : (c : In-Some) → AreOwners c.self.inside.top c.self.inside.seats.items (c.pop.new.self.items ++ c.in-Some.owner ∷ [])
owners c = subst (λ (os : List Owner). AreOwners c.self.inside.top c.self.inside.seats.items os) c.in-Some.ensures.items c.self.invariant

-- the seats' maps without it
seats : (c : After-remove) (own : AreOwners c.self.inside.top c.self.inside.seats.items (c.pop.new.self.items ++ c.in-Some.owner ∷ []))
    → slice_set c.self.inside.seats.items c.in-Some.owner.seat c.remove.new.self ≡ less c.self.inside.top c.self.inside.seats.items c.pop.new.self.items c.in-Some.owner own
seats c own =
    let ms = c.self.inside.seats.items in
    let seat = c.in-Some.owner.seat in
    let was = get_or_read ms seat c.index_mut.result.now (last_here c.self.inside.top ms c.pop.new.self.items c.in-Some.owner own) c.index_mut.ensures.value fin.empty in
    ap (slice_set ms seat) (c.remove.ensures.removed ∙ ap (fin.remove c.index_mut.result.now) c.from.ensures ∙ ap (λ (m : Renaming). fin.remove m c.in-Some.owner.variable) was)

pub index_mut-requires : goal.index_mut-requires
index_mut-requires c =
    let l = last_here c.self.inside.top c.self.inside.seats.items c.pop.new.self.items c.in-Some.owner (owners (goal.at.index_mut-requires c).In-Some) in
    omega (arith, l, c.self.inside.seats.ok.0)

pub invariant_of-self : goal.invariant_of-self
invariant_of-self c =
    let own = owners (goal.at.invariant_of-self c).In-Some in
    subst (λ (ms : List Renaming). AreOwners c.self.inside.top ms c.pop.new.self.items) (sym (seats (goal.at.invariant_of-self c).After-remove own))
    (AreOwners-pop c.self.inside.top c.self.inside.seats.items c.pop.new.self.items c.in-Some.owner own)

pub returns-in-Some : goal.returns-in-Some
returns-in-Some c =
    let own = owners (goal.at.returns-in-Some c).In-Some in
    let top = c.self.inside.top in
    let rest = c.pop.new.self.items in
    let is : kept_variables top c.self.inside.seats.items (rest ++ c.in-Some.owner ∷ []) ≡ c.args.self.now = ap (kept_variables top c.self.inside.seats.items) (sym c.in-Some.ensures.items) ∙ c.self.view_is in
    let next : top + 1 + length rest ≡ c.args.self.now.variables.next - 1 = (let e = ap (λ (t : TopVariables). t.variables.next) is in let f = length-append rest (c.in-Some.owner ∷ []) in omega arith) in
    ap (λ (ms : List Renaming). kept_variables top ms rest) (seats (goal.at.returns-in-Some c).After-remove own)
    ∙ kept-less top c.self.inside.seats.items rest c.in-Some.owner own
    ∙ ap (λ n. variables_at top (variables_before n (kept_variables top c.self.inside.seats.items (rest ++ c.in-Some.owner ∷ [])).variables)) next
    ∙ ap (λ (t : TopVariables). variables_at t.top (variables_before (c.args.self.now.variables.next - 1) t.variables)) is
