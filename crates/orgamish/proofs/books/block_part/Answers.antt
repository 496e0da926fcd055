use Rattle.std.proofs.Common.{sym, subst, refl, arith, ◌∙◌}
use Rattle.records.specs.Book.{Opened, texts_of, offset_of, Block}
use Rattle.judging.proofs.Under.{map_first_book, book_lent}
use Rattle.orgamish.proofs.books.block_part.Goals as goal

pub returns-then-not-is_map : goal.returns-then-not-is_map
returns-then-not-is_map c =
    let e = map_first_book c.args.map.now c.args.book.now (sym c.is_map.ensures ∙ c.if-not-is_map.true) in
    subst (λ (o : Opened). Block c.args.book.now (texts_of o) c.args.n (offset_of o c.args.n) 0 0) (sym e)
    (record { stands = refl; length_is = refl; within = omega arith; is = refl })

pub returns : goal.returns
returns c =
    let r = c.block_part.result in
    subst (λ (o : Opened). Block c.args.book.now (texts_of o) c.args.n (offset_of o c.args.n) r.start r.len)
    (sym (book_lent c.args.map.now c.args.book.now (sym c.is_map.ensures ∙ c.if-not-is_map.false)))
    c.block_part.ensures
