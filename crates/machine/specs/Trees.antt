-- The nodes of a program's expressions. Assumes nothing.
use Rattle.std.specs.Prelude.{List, vec_items}
use Rattle.text.specs.declared.expressions.Expressions.{Expressions}
use Rattle.text.specs.declared.node.ArithNode.{ArithNode}
use Rattle.text.specs.declared.node.TestNode.{TestNode}

abbrev pub ariths_of : Expressions → List ArithNode
ariths_of e = vec_items e.ariths

abbrev pub tests_of : Expressions → List TestNode
tests_of e = vec_items e.tests
