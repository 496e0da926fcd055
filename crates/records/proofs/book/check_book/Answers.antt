use Rattle.std.proofs.Common.{arith}
use Rattle.records.proofs.Determined.{told_ran}
use Rattle.records.proofs.Books.{words_accepted}
use Rattle.records.proofs.book.check_book.Goals as goal

pub block_run-requires : goal.block_run-requires
block_run-requires c =
    let d = told_ran _ c.in_ok-dictionary.ensures in
    let g = words_accepted c.args.map.now c.args.book.now d.is in
    (g.good.within, g.size, omega (arith, g.good.few, d.count))
