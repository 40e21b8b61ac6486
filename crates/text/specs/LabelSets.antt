-- Which words are a set of labels. Assumes nothing.
use Rattle.std.specs.Prelude.{◌≡◌, ℕ, Bool, true, false, cond, List, [], ◌∷◌, ◌==◌}
use Rattle.text.specs.declared.word.Token.TheVariants.{Number, Question, Comma}
use Rattle.text.specs.declared.word.Word.{Word}
use Rattle.text.specs.Derivations.{Free}

-- all labels, or those of a list
pub data LabelSet : Type 0 where
  every : LabelSet
  these : List ℕ → LabelSet

-- the label is among those of a list
abbrev pub listed : List ℕ → ℕ → Bool
listed [] i = false
listed (n ∷ ns) i = cond (i == n) true (listed ns i)

-- the label is in the set
abbrev pub has_label : LabelSet → ℕ → Bool
has_label every i = true
has_label (these ns) i = listed ns i

-- the words ws begin with more labels, each behind a comma, and rest is what is left
pub data MoreLabels : List Word → List ℕ → List Word → Type 0 where
  no_comma : {ws : List Word} → Free (Comma ∷ []) ws → MoreLabels ws [] ws
  comma : {c w : Word} {ws rest : List Word} {n : ℕ} {ns : List ℕ} → c.token ≡ Comma → w.token ≡ Number n → MoreLabels ws ns rest → MoreLabels (c ∷ w ∷ ws) (n ∷ ns) rest

-- the words ws begin with a set of labels, and rest is what is left
pub data Labels : List Word → LabelSet → List Word → Type 0 where
  question : {w : Word} {ws : List Word} → w.token ≡ Question → Labels (w ∷ ws) every ws
  numbers : {w : Word} {ws rest : List Word} {n : ℕ} {ns : List ℕ} → w.token ≡ Number n → MoreLabels ws ns rest → Labels (w ∷ ws) (these (n ∷ ns)) rest
