use Rattle.std.proofs.Common.{◌≡◌, ap, sym, ◌∙◌, subst, ◌+◌, ◌<◌, ◌≤◌, false, ◌∷◌, [], ◌++◌, length}
use Rattle.std.specs.Prelude.{slice_index_or, slice_set, Result, Ok, Err, OnOk, is_err}
use Rattle.std.proofs.lemmas.Bool.{false≢true}
use Rattle.std.proofs.lemmas.List.{get_or_read}
use Rattle.std.specs.FinMap as fin
use Rattle.lj_clause.specs.Renaming.{Renaming, has_name}
use Rattle.lj_book.specs.Variables.{renaming_of}
use Rattle.lj_book.specs.inner.VariableTables.{AreOwners, TopVariables}
use Rattle.lj_book.proofs.VariableLaws.{nameless}
use Rattle.lj_book.proofs.VariableTables.{AreOwners-push, owner_of}
use Rattle.lj_book.proofs.variable_table.VariableTable.give_one.Goals as goal

it_is_ok : {A E : Type 0} (r : Result A E) (P : Type 0) → is_err r ≡ false → OnOk r P → P
it_is_ok (Ok x) P e h = h
it_is_ok (Err x) P e h = absurd (false≢true (sym e))

pub invariant_of-self-else-is_err : goal.invariant_of-self-else-is_err
invariant_of-self-else-is_err c =
    let top = c.self.inside.top in
    let ms = c.self.inside.seats.items in
    let os = c.self.inside.owners.items in
    let here : c.args.seat < length ms = subst (λ (t : TopVariables). c.args.seat < length t.variables.of_seats) (sym c.self.view_is) c.requires.seat in
    let new = nameless top (slice_index_or ms c.args.seat fin.empty) c.args.variable (ap (λ (t : TopVariables). has_name t.top (renaming_of t.variables c.args.seat) c.args.variable) c.self.view_is ∙ c.requires.new) in
    let next = ap (λ (t : TopVariables). t.variables.next) c.self.view_is in
    let left : top + 1 + length os ≤ _ = subst (λ n. n ≤ _) (sym next) c.requires.left in
    let was = get_or_read ms c.args.seat c.index_mut.result.now here c.index_mut.ensures.value fin.empty in
    let put = it_is_ok c.insert-put.result _ (sym c.is_err.ensures.value ∙ c.if-is_err.false) c.insert-put.ensures.ok in
    let map = put ∙ ap (λ k. fin.insert c.index_mut.result.now k c.next-joint.result) c.from.ensures ∙ ap (fin.insert c.index_mut.result.now c.args.variable) (c.next-joint.ensures.next ∙ sym next) ∙ ap (λ (m : Renaming). fin.insert m c.args.variable (top + 1 + length os)) was in
    subst (AreOwners top (slice_set ms c.args.seat c.insert-put.new.self)) (sym c.in_ok-push.ensures.items)
    (subst (λ (m : Renaming). AreOwners top (slice_set ms c.args.seat m) (os ++ owner_of c.args.seat c.args.variable ∷ [])) (sym map)
    (AreOwners-push top ms os c.args.seat c.args.variable c.self.invariant here new.0 c.requires.variable new.1 left))
