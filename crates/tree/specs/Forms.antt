-- The two forms of a table.
use Rattle.std.specs.Prelude.{List, ℕ}
use Rattle.meaning.specs.Words.{Words}
use Rattle.meaning.specs.Table.{width, narrow_width, table, narrow_table}
use Rattle.tree.specs.declared.layout.Form.{Form}
use Rattle.tree.specs.declared.layout.Form.TheVariants.{Wide, Narrow}

abbrev pub width_in : Form → ℕ
width_in Wide = width
width_in Narrow = narrow_width

abbrev pub table_in : Form → Words → List ℕ
table_in Wide X = table X
table_in Narrow X = narrow_table X
