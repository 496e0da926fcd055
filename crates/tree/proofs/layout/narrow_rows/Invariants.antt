use Rattle.tree.specs.Layout.{Narrowed}
use Rattle.tree.proofs.layout.narrow_rows.Given as goal

abbrev pub invariant-loop-s : goal.invariant-loop-s
invariant-loop-s l = Narrowed l.table l.s l.initial.narrow l.narrow
