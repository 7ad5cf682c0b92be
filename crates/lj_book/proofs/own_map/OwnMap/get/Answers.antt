use Rattle.std.proofs.Common.{ap, sym, ◌∙◌, option_copied}
use Rattle.std.specs.FinMap as fin
use Rattle.lj_book.proofs.Slots.{joined_dense, joined_sparse}
use Rattle.lj_book.proofs.own_map.OwnMap.get.Goals as goal

pub returns-in-Some : goal.returns-in-Some
returns-in-Some g c =
    let there = sym c.get.ensures ∙ ap option_copied c.in-Some.is in
    sym (joined_dense c.self.inside.dense c.self.inside.sparse c.args.key _ there) ∙ ap (λ m. fin.get m c.args.key) c.self.view_is

pub returns-in-None : goal.returns-in-None
returns-in-None g c =
    let absent = sym c.get.ensures ∙ ap option_copied c.in-None.is in
    c.get-in-None.ensures ∙ sym (joined_sparse c.self.inside.dense c.self.inside.sparse c.args.key absent) ∙ ap (λ m. fin.get m c.args.key) c.self.view_is
