use Rattle.std.proofs.Common.{◌≡◌, rules}
use borrow.Author.Tests.{tests}
use Rattle.std.proofs.lemmas.Iterator.{first_from_Range}
use Rattle.book.specs.Layout.{number_at}
use Rattle.book.proofs.Search.{row_for_first}
use Rattle.book.proofs.rows.Rows.find.Goals as goal

pub returns : goal.returns
returns c =
    let b = c.args.self.bytes.now in
    let l = c.args.self.layout in
    row_for_first b l c.args.number c.args.below _
    (first_from_Range _ _ _ _ (λ i. number_at b l i ≡ c.args.number) (λ i. number_at b l i ≡ c.args.number → ⊥) c.find.ensures.ran
    (λ x q k. search (rules, tests)) (λ x q k. search (rules, tests)))
