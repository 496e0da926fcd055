use Rattle.std.proofs.Common.{◌*◌, ◌<◌, ◌≤◌, length, arith, refl}
use Rattle.meaning.specs.Numbers.{most_states}
use Rattle.meaning.specs.Table.{width}
use Rattle.automaton.proofs.Planting.{rooted, past_root, starts, inside, insertable, planted_on, planted}
use Rattle.automaton.proofs.building.plant.Goals as goal

pub overflow_add-start : goal.overflow_add-start
overflow_add-start c =
    let (X, π) = c.requires in
    let α = π.buildable.accepted in
    let φ = c.loop-k.invariant X α (rooted c.args.table.now (omega (arith, π.buildable.room)) c.add_row.ensures π.empty) in
    omega (arith, starts α φ (omega (arith, α.count, c.loop-k-test.true)))

pub overflow_add-end : goal.overflow_add-end
overflow_add-end c =
    let (X, π) = c.requires in
    let α = π.buildable.accepted in
    let φ = c.loop-k.invariant X α (rooted c.args.table.now (omega (arith, π.buildable.room)) c.add_row.ensures π.empty) in
    let more : c.loop-k.k < length X = omega (arith, α.count, c.loop-k-test.true) in
    omega (arith, inside α φ more refl c.word_len.ensures.is refl)

pub slice_bounds-insert_word-end : goal.slice_bounds-insert_word-end
slice_bounds-insert_word-end c =
    let (X, π) = c.requires in
    let α = π.buildable.accepted in
    let φ = c.loop-k.invariant X α (rooted c.args.table.now (omega (arith, π.buildable.room)) c.add_row.ensures π.empty) in
    let more : c.loop-k.k < length X = omega (arith, α.count, c.loop-k-test.true) in
    omega (arith, inside α φ more refl c.word_len.ensures.is refl)

pub insert_word-n-requires : goal.insert_word-n-requires
insert_word-n-requires c =
    let (X, π) = c.requires in
    let α = π.buildable.accepted in
    let φ = c.loop-k.invariant X α (rooted c.args.table.now (omega (arith, π.buildable.room)) c.add_row.ensures π.empty) in
    let more : c.loop-k.k < length X = omega (arith, α.count, c.loop-k-test.true) in
    (_, _, insertable α φ more refl c.word_len.ensures.is refl (omega (arith, π.buildable.room, c.add_row.auto.table, c.loop-k.auto.table)))

pub loop-k-preserved : goal.loop-k-preserved
loop-k-preserved c X α γ =
    let π = c.requires.1 in
    let φ = c.loop-k.invariant X α γ in
    let more : c.loop-k.k < length X = omega (arith, α.count, c.loop-k-test.true) in
    let room : width * most_states ≤ length c.loop-k.table = omega (arith, π.buildable.room, c.add_row.auto.table, c.loop-k.auto.table) in
    planted_on α φ more refl c.word_len.ensures.is refl
    (c.insert_word-n.ensures _ _ (insertable α φ more refl c.word_len.ensures.is refl room))

pub returns : goal.returns
returns c X π =
    let α = π.buildable.accepted in
    let table = c.args.table.now in
    let e = c.add_row.ensures in
    planted α
    (c.loop-k.invariant X α (rooted table (omega (arith, π.buildable.room)) e π.empty)) c.loop-k-test.false
    (past_root table (omega (arith, π.buildable.room)) e)
