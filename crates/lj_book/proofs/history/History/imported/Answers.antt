use Rattle.std.proofs.Common.{◌≡◌, ap, sym, ◌∙◌, ℕ}
use Rattle.std.specs.Prelude.{ℤ, List, Some, None, option_copied, option_map, slice_get, drop}
use Rattle.lj_book.specs.inner.Records.{Entries, entry_in}
use Rattle.lj_book.proofs.PlacedEntries.{entry-at, none_weaker, some-is}
use Rattle.lj_book.proofs.history.History.imported.Goals as goal

pub returns-in-Some-clause-none : goal.returns-in-Some-clause-none
returns-in-Some-clause-none c =
    let k : ℕ = c.args.place in
    let there : slice_get c.args.self.now.entries k ≡ Some (entry_in c.deref-in-Some.result.now c.in-Some.encoding.now) =
    ap (λ (h : Entries). slice_get h.entries k) (sym c.self.view_is)
    ∙ entry-at c.self.inside.lits.items c.self.inside.encoding.items c.self.inside.starts.items k (Some c.in-Some.encoding.now)
    (ap option_copied (sym c.in-Some.is) ∙ c.encoding_at.ensures ∙ (λ i. option_map (λ (start : ℕ). drop start (c.deref-2.ensures.value i)) (slice_get (c.deref.ensures.value i) k)))
    ∙ ap (λ (ls : List ℤ). Some (entry_in ls c.in-Some.encoding.now)) (sym c.deref-in-Some.ensures.value) in
    none_weaker c.imported.result (λ no d is. no d (some-is _ _ (sym there ∙ is))) c.imported.ensures.none

pub returns-in-None-clause-none : goal.returns-in-None-clause-none
returns-in-None-clause-none c = λ d is.
    let k : ℕ = c.args.place in
    let there : slice_get c.args.self.now.entries k ≡ None =
    ap (λ (h : Entries). slice_get h.entries k) (sym c.self.view_is)
    ∙ entry-at c.self.inside.lits.items c.self.inside.encoding.items c.self.inside.starts.items k None
    (ap option_copied (sym c.in-None.is) ∙ c.encoding_at.ensures ∙ (λ i. option_map (λ (start : ℕ). drop start (c.deref-2.ensures.value i)) (slice_get (c.deref.ensures.value i) k))) in
    absurd (let no : ⊥ = cc in no)
