-- The tree of a sheet. Assumes nothing.
use Rattle.std.specs.Prelude.{vec_items}
use Rattle.regular.specs.Words.{Regex}
use Rattle.sheet.specs.declared.sheet.Sheet.{Sheet}
use Rattle.sheet.specs.Parts.{sheet_tree}

-- the tree of a sheet
abbrev pub tree_of : Sheet → Regex
tree_of s = sheet_tree (vec_items s.nodes) (vec_items s.leaves) (vec_items s.tests.ariths) (vec_items s.tests.tests)
