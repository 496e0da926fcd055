use Rattle.std.proofs.Common.{sym, arith, ◌∙◌}
use Rattle.automaton.proofs.Joining.{bordered, child_inside, child_row, child_byte, border_linked, border_counted, all_small, room, settles}
use Rattle.automaton.proofs.borders.settle.Goals as goal

pub border-requires : goal.border-requires
border-requires c = child_row c.requires.2

pub letter-requires : goal.letter-requires
letter-requires c = child_row c.requires.2

pub child_border-b-requires-clause-letter : goal.child_border-b-requires-clause-letter
child_border-b-requires-clause-letter c = rw c.letter.ensures.is (child_byte c.requires.2)

pub first_word-l-requires : goal.first_word-l-requires
first_word-l-requires c =
    let (X, S, σ) = c.requires in
    (X, S, border_linked σ c.letter.ensures.is (c.child_border-b.ensures X S (bordered σ.taking)))

pub count_chain-k-requires : goal.count_chain-k-requires
count_chain-k-requires c =
    let (X, S, σ) = c.requires in
    (X, S, border_counted σ c.letter.ensures.is (c.child_border-b.ensures X S (bordered σ.taking)))

pub set_border-requires : goal.set_border-requires
set_border-requires c =
    let (X, S, σ) = c.requires in
    let read = c.letter.ensures.is in
    let is = c.child_border-b.ensures X S (bordered σ.taking) in
    let link = c.first_word-l.ensures X S (border_linked σ read is) in
    let chain = c.count_chain-k.ensures X S (border_counted σ read is) in
    let (b, l, k) = all_small σ read is link chain in
    (child_row σ, b)

pub set_link-requires : goal.set_link-requires
set_link-requires c =
    let (X, S, σ) = c.requires in
    let read = c.letter.ensures.is in
    let is = c.child_border-b.ensures X S (bordered σ.taking) in
    let link = c.first_word-l.ensures X S (border_linked σ read is) in
    let chain = c.count_chain-k.ensures X S (border_counted σ read is) in
    let (b, l, k) = all_small σ read is link chain in
    (omega (arith, c.set_border.auto.table, child_row σ), l)

pub set_chain_length-requires : goal.set_chain_length-requires
set_chain_length-requires c =
    let (X, S, σ) = c.requires in
    let read = c.letter.ensures.is in
    let is = c.child_border-b.ensures X S (bordered σ.taking) in
    let link = c.first_word-l.ensures X S (border_linked σ read is) in
    let chain = c.count_chain-k.ensures X S (border_counted σ read is) in
    let (b, l, k) = all_small σ read is link chain in
    (omega (arith, c.set_link.auto.table, c.set_border.auto.table, child_row σ), k)

pub push-requires : goal.push-requires
push-requires c =
    let (X, S, σ) = c.requires in
    let read = c.letter.ensures.is in
    let is = c.child_border-b.ensures X S (bordered σ.taking) in
    let link = c.first_word-l.ensures X S (border_linked σ read is) in
    let chain = c.count_chain-k.ensures X S (border_counted σ read is) in
    (omega arith, room σ read is link chain (sym c.border.ensures.is ∙ c.if-border-ne-NONE.false))

pub overflow_cast-c : goal.overflow_cast-c
overflow_cast-c c =
    let (X, S, σ) = c.requires in
    omega (arith, child_inside σ, σ.taking.queued.tree.states.few)

pub returns : goal.returns
returns c X S σ =
    let read = c.letter.ensures.is in
    let is = c.child_border-b.ensures X S (bordered σ.taking) in
    let link = c.first_word-l.ensures X S (border_linked σ read is) in
    let chain = c.count_chain-k.ensures X S (border_counted σ read is) in
    rw (c.push.ensures.items, c.set_chain_length.ensures, c.set_link.ensures, c.set_border.ensures)
    (settles σ read is link chain (sym c.border.ensures.is ∙ c.if-border-ne-NONE.false))
