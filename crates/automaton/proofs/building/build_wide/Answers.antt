use Rattle.automaton.proofs.Finishing.{all_planted, finished}
use Rattle.automaton.proofs.building.build_wide.Goals as goal

pub plant-states-requires : goal.plant-states-requires
plant-states-requires c = let (X, β) = c.requires in (X, record { buildable = β; empty = c.new-index.ensures })

pub complete_rows-requires : goal.complete_rows-requires
complete_rows-requires c =
    let (X, β) = c.requires in
    (X, _, all_planted (c.plant-states.ensures X (record { buildable = β; empty = c.new-index.ensures })))

pub longest_chain-longest-requires : goal.longest_chain-longest-requires
longest_chain-longest-requires c =
    let (X, β) = c.requires in
    let π = c.plant-states.ensures X (record { buildable = β; empty = c.new-index.ensures }) in
    (X, _, (c.complete_rows.ensures X _ (all_planted π)).whole, π.growing.count)

pub returns : goal.returns
returns c X β =
    let π = c.plant-states.ensures X (record { buildable = β; empty = c.new-index.ensures }) in
    let κ = c.complete_rows.ensures X _ (all_planted π) in
    finished π c.plant-states.auto.table c.complete_rows.auto.table κ (c.longest_chain-longest.ensures X _ κ.whole π.growing.count)
