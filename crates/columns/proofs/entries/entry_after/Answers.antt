-- The step gives the state, and its tally the rest.
use Rattle.columns.proofs.Entry.{reached_bordered, reached_ending, reached_entry}
use Rattle.columns.proofs.entries.entry_after.Goals as goal

pub step-state-requires-clause-bordered : goal.step-state-requires-clause-bordered
step-state-requires-clause-bordered c = let (X, ρ) = c.requires in (X, _, reached_bordered ρ)

pub tally_at-tally-requires : goal.tally_at-tally-requires
tally_at-tally-requires c =
    let (X, ρ) = c.requires in
    (X, reached_ending ρ c.letter_at.ensures.is (c.step-state.ensures X _ (reached_bordered ρ)))

pub returns : goal.returns
returns c X ρ =
    let letter = c.letter_at.ensures.is in
    let step = c.step-state.ensures X _ (reached_bordered ρ) in
    reached_entry ρ letter step (c.tally_at-tally.ensures X (reached_ending ρ letter step))
