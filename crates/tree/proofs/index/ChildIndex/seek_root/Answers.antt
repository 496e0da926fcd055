use Rattle.std.proofs.Common.{◌-◌, ◌<◌, refl, sym, arith}
use Rattle.meaning.specs.Numbers.{letter_values}
use Rattle.tree.proofs.Walk.{place_after, place_first}
use Rattle.tree.proofs.Indexing.{last_child, last_row, gap_on}
use Rattle.tree.proofs.index.ChildIndex.seek_root.Goals as goal

pub loop-b-init : goal.loop-b-init
loop-b-init c X S β = c.search_start-start.ensures.1 X S β.at.tree

pub next_sibling-requires : goal.next_sibling-requires
next_sibling-requires c =
    let β = c.requires.indexed_at.2 in
    let byte : c.loop-b.b - 1 < letter_values = omega (arith, c.search_start-start.ensures.0, c.requires.letter) in
    last_row β byte refl c.in-Some.ensures

pub returns-in-Some : goal.returns-in-Some
returns-in-Some c X S β =
    let byte : c.loop-b.b - 1 < letter_values = omega (arith, c.search_start-start.ensures.0, c.requires.letter) in
    let sibling = last_child β byte refl c.in-Some.ensures in
    rw c.present-next.ensures
    (place_after β.at.tree sibling
    (omega (arith, c.search_start-start.ensures.0))
    (λ d l m. c.loop-b.invariant X S β d (omega arith) m)
    c.next_sibling.ensures.is)

pub loop-b-preserved : goal.loop-b-preserved
loop-b-preserved c X S β =
    let byte : c.loop-b.b - 1 < letter_values = omega (arith, c.search_start-start.ensures.0, c.requires.letter) in
    gap_on β byte c.root_child-before.ensures (sym c.in_default.is)
    (λ d l m. c.loop-b.invariant X S β d (omega arith) m)

pub returns : goal.returns
returns c X S β =
    rw c.present-next-2.ensures
    (place_first β.at.tree β.at.inside refl
    (λ d l m. c.loop-b.invariant X S β d (omega (arith, c.loop-b-test.false)) m)
    c.first_child.ensures.is)
