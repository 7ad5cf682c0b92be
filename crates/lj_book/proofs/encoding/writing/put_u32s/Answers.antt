use Rattle.std.proofs.Common.{◌≡◌, ◌∙◌, ◌++◌, ℕ, List, ap, sym, arith, rules}
use Rattle.lj_book.proofs.WordLaws.{short_words}
use Rattle.lj_book.proofs.encoding.writing.put_u32s.Goals as goal

pub returns-else-contains-clause-encoding : goal.returns-else-contains-clause-encoding
returns-else-contains-clause-encoding c =
    let ns : List ℕ = c.args.numbers.now in
    let copied : c.extend_from_slice.new.self.items ≡ c.args.encoding.now.items ++ ns = search rules in
    copied ∙ ap (λ us. c.args.encoding.now.items ++ us) (sym (short_words ns (λ i. omega (arith, c.type_inv.numbers i)) (sym c.contains.ensures.value ∙ c.if-contains.false)))
