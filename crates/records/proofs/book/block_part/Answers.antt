use Rattle.records.proofs.Determined.{told_opened}
use Rattle.records.proofs.Books.{book_accepted}
use Rattle.records.proofs.book.block_part.Goals as goal

pub nth_part-requires : goal.nth_part-requires
nth_part-requires c =
    let o = told_opened _ c.in-Ok.ensures in
    rw c.from.ensures (book_accepted _ _ o.is).words.good.within
