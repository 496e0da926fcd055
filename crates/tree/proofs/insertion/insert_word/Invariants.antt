use Rattle.meaning.specs.Words.{Words}
use Rattle.letters.specs.Letters.{mapped}
use Rattle.tree.specs.Insertion.{Insertable}
use Rattle.tree.proofs.Inserting.{Partly}
use Rattle.tree.proofs.insertion.insert_word.Given as goal

abbrev pub invariant-loop-i : goal.invariant-loop-i
invariant-loop-i l =
    (X S : Words) → Insertable X S l.initial.table l.initial.index l.n (mapped l.map l.letters) l.k
    → Partly X S (mapped l.map l.letters) l.i l.initial.table l.table l.index l.last.state l.last.count
