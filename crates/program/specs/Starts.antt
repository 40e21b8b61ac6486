-- The words of a statement that is to be read. Assumes nothing.
use Rattle.std.specs.Prelude.{List, ◌∷◌}
use Rattle.text.specs.declared.word.Word.{Word}
use Rattle.program.specs.declared.start.Start.{Start}

abbrev pub words_of : Start → List Word
words_of s = s.word ∷ s.rest.now
