use Rattle.std.proofs.Common.{◌≡◌, [], ◌∷◌, sym, ap, ◌∙◌}
use Rattle.std.proofs.lemmas.Result.{err_from_is_err_and}
use Rattle.records.specs.Book.{book, opened}
use Rattle.records.specs.Told.{answer}
use Rattle.records.proofs.Determined.{told_opened, told_shut}
use Rattle.judging.proofs.Under.{map_first_book, book_lent}
use Rattle.judging.proofs.Verdicts.{told_from}
use Rattle.orgamish.specs.Calls.{check_tells}
use Rattle.orgamish.proofs.books.check_book.Goals as goal

pub returns-then-not-is_map : goal.returns-then-not-is_map
returns-then-not-is_map c =
    told_from c.from.ensures
    ∙ sym (ap check_tells (map_first_book c.args.map.now c.args.book.now (sym c.is_map.ensures ∙ c.if-not-is_map.true)))

pub returns-in_err-found : goal.returns-in_err-found
returns-in_err-found c =
    let m = c.args.map.now in
    let b = c.args.book.now in
    let p = err_from_is_err_and c.from_residual.result c.from_residual.ensures.1 in
    rw (p.1, p.2)
    (ap check_tells (sym (told_shut (book m b) c.in_err-found.ensures) ∙ sym (book_lent m b (sym c.is_map.ensures ∙ c.if-not-is_map.false))))

pub returns : goal.returns
returns c =
    let m = c.args.map.now in
    let b = c.args.book.now in
    let w = told_opened (book m b) c.in_ok-found.ensures in
    let lent = sym (book_lent m b (sym c.is_map.ensures ∙ c.if-not-is_map.false)) in
    let count = w.count in
    let blocks = w.blocks in
    let same : answer (c.in_ok-found.found.words ∷ c.in_ok-found.found.blocks ∷ []) ≡ check_tells (opened w.X c.in_ok-found.found.start w.T) = cc in
    same ∙ ap check_tells (sym w.is ∙ lent)
