use Rattle.std.proofs.Common.{◌≡◌, ap, sym, ◌∙◌, subst, ℕ, ◌+◌, ◌≤◌, ◌++◌, length, arith, cond, true}
use Rattle.std.specs.Prelude.{List, [], ◌∷◌, not, Result, Ok, Err, OnOk}
use Rattle.std.specs.Result.{is_ok}
use Rattle.std.proofs.lemmas.Bool.{false≢true}
use Rattle.std.specs.FinMap as fin
use Rattle.std.proofs.lemmas.List.{length-append}
use Rattle.lj_book.specs.declared.occurrence_lists.Link.{Link}
use Rattle.lj_book.specs.inner.Occurrences.{Lists, with_number}
use Rattle.lj_book.specs.inner.Chains.{AreChains, chained}
use Rattle.lj_book.proofs.Slots.{either_way}
use Rattle.lj_book.proofs.Chains.{last_there, chains_pushed, chains_set, number_linked}
use Rattle.lj_book.proofs.occurrence_lists.OccurrenceLists.add.Goals as goal

went_well : {T E : Type 0} (r : Result T E) (P : Type 0) → is_ok r ≡ true → OnOk r P → P
went_well (Ok x) P ok p = p
went_well (Err e) P ok p = absurd (false≢true ok)

abbrev link : goal.After-is_ok → Link
link c = record { number = c.args.number; before = c.last_of-before.result }

pushed : (c : goal.After-is_ok) → c.push.new.self.items ≡ c.self.inside.links.items ++ link c ∷ []
pushed c = c.push.ensures.items ∙ ap (λ b. cond b (c.self.inside.links.items ++ link c ∷ []) c.self.inside.links.items) (c.is_err.ensures.negation ∙ ap not c.if-is_err.false)

there : (c : goal.After-is_ok) → c.last_of-before.result ≤ length c.self.inside.links.items
there c = subst (λ (x : ℕ). x ≤ length c.self.inside.links.items) (sym c.last_of-before.ensures) (last_there c.self.inside.links.items c.self.inside.lasts c.args.key c.self.invariant)

pub invariant_of-self-2 : goal.invariant_of-self-2
invariant_of-self-2 c =
    let more : List Link = c.self.inside.links.items ++ link c ∷ [] in
    let are : AreChains more c.self.inside.lasts = chains_pushed c.self.inside.links.items (link c) c.self.inside.lasts c.self.invariant (there c) in
    let n : length more ≡ length c.self.inside.links.items + 1 = length-append c.self.inside.links.items (link c ∷ []) in
    subst (λ (xs : List Link). AreChains xs c.insert.new.self) (sym (pushed c))
    (either_way c.insert.result _ _ _ c.insert.ensures.ok c.insert.ensures.err
    (λ e. subst (AreChains more) (sym e) (chains_set more c.self.inside.lasts c.args.key (c.len-count.result + 1) are (let l = c.len-count.ensures in omega (arith, n, l))))
    (λ e. subst (AreChains more) (sym e) are))

pub returns : goal.returns
returns c = λ ok.
    let done = went_well c.insert.result _ (sym c.is_ok.ensures.value ∙ ok) c.insert.ensures.ok in
    let l = c.len-count.ensures in
    let count : c.len-count.result ≡ length c.self.inside.links.items = omega (arith, l) in
    (λ i. chained (pushed c i) (done i))
    ∙ ap (λ (n : ℕ). chained (c.self.inside.links.items ++ link c ∷ []) (fin.insert c.self.inside.lasts c.args.key (n + 1))) count
    ∙ number_linked c.self.inside.links.items c.self.inside.lasts c.args.key (link c) c.self.invariant c.last_of-before.ensures
    ∙ ap (λ (m : Lists). with_number m c.args.key c.args.number) c.self.view_is
