use Rattle.std.proofs.Common.{[]}
use Rattle.meaning.specs.Words.{Words}
use Rattle.meaning.specs.Automaton.{states}
use Rattle.tree.specs.Insertion.{Growing}
use Rattle.automaton.specs.Building.{Accepted}
use Rattle.automaton.proofs.Planting.{Planting}
use Rattle.automaton.proofs.building.plant.Given as goal

abbrev pub invariant-loop-k : goal.invariant-loop-k
invariant-loop-k l =
    (X : Words) → Accepted X l.map l.dict l.words → Growing [] (states []) l.initial.table l.initial.index 1
    → Planting X l.initial.table l.table l.index l.k l.at l.n
