use Rattle.std.proofs.Common.{sym, ap, ◌∙◌}
use Rattle.meaning.specs.Words.{word}
use Rattle.records.specs.Book.{Opened, texts_of}
use Rattle.judging.proofs.Under.{map_first_book, book_lent}
use Rattle.orgamish.proofs.books.block.Goals as goal

pub returns-then-not-is_map : goal.returns-then-not-is_map
returns-then-not-is_map c =
    sym (ap (λ (o : Opened). word (texts_of o) c.args.n)
    (map_first_book c.args.map.now c.args.book.now (sym c.is_map.ensures ∙ c.if-not-is_map.true)))

pub returns : goal.returns
returns c =
    c.block.ensures
    ∙ sym (ap (λ (o : Opened). word (texts_of o) c.args.n)
    (book_lent c.args.map.now c.args.book.now (sym c.is_map.ensures ∙ c.if-not-is_map.false)))
