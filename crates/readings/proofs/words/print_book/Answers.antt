-- The words of a book that are not refused lie within it, and are few.
use Rattle.std.proofs.Common.{arith, sym, ◌≤◌, length, length-take-le}
use Rattle.records.proofs.Determined.{told_ran}
use Rattle.records.proofs.Books.{words_accepted}
use Rattle.readings.proofs.words.print_book.Goals as goal

pub slice_bounds-build-end-2 : goal.slice_bounds-build-end-2
slice_bounds-build-end-2 g c =
    let w = told_ran _ c.in_ok-words.ensures in
    let a = words_accepted c.identity-map.result c.args.book.now w.is in
    let within : c.from.result ≤ length c.args.book.now = rw c.from.ensures a.good.within in
    sym (length-take-le _ _ within)

pub print_blocks-requires : goal.print_blocks-requires
print_blocks-requires g c =
    let w = told_ran _ c.in_ok-words.ensures in
    let a = words_accepted c.identity-map.result c.args.book.now w.is in
    (a.good.within, a.size, omega (arith, a.good.few, w.count))
