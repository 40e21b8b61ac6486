-- Sets of labels as words of 64 bits, and what their readers answer. Assumes nothing.
use Rattle.std.specs.Prelude.{◌≡◌, ℕ, ◌<◌, ◌≤◌, Bool, true, cond, List, [], ◌∷◌, ◌++◌}
use Rattle.grammar.specs.Answers.{fault}
use Rattle.model.specs.declared.refusal.Cause.TheVariants.{Number as Numbered}
use Rattle.regular.specs.Sets.{has, collected}
use Rattle.text.specs.declared.reading.Fault.{Fault}
use Rattle.text.specs.declared.word.Token.TheVariants.{Number}
use Rattle.text.specs.declared.word.Word.{Word}
use Rattle.text.specs.Table.{Item, label, more_labels, label_set}
use Rattle.text.specs.Charges.{Memo, open_in}
use Rattle.text.specs.Reading.{reads, place_of}
use Rattle.text.specs.LabelSets.{LabelSet, listed, has_label, MoreLabels, Labels}

-- the bit of a label in a set
abbrev pub bit : ℕ → ℕ → Bool
bit s i = has s i

-- reading ws where js are owed, and whatever else, comes to reading rest where only that is owed
abbrev pub Over : List Item → List Word → List Word → Type 0
Over js ws rest = (m : Memo) (k : List Item) → open_in k ≤ 16 → reads ws m (js ++ k) ≡ reads rest m k

-- reading ws where js are owed, and whatever else, comes to this fault
pub record LabelStops (js : List Item) (end : ℕ) (ws : List Word) (f : Fault) : Type 0 where
  pub words : List Word
  pub place_is : f.place ≡ place_of end words
  pub stops : (m : Memo) (k : List Item) → open_in k ≤ 16 → reads ws m (js ++ k) ≡ fault f.cause words

-- the fault at a word whose number is no label
pub record NoLabel (n : ℕ) (w : Word) (f : Fault) : Type 0 where
  pub large : 63 < n
  pub cause_is : f.cause ≡ Numbered
  pub place_is : f.place ≡ w.place

-- a label and the words behind it
pub record LabelAt (ws : List Word) (n : ℕ) (rest : List Word) : Type 0 where
  pub word : Word
  pub words : ws ≡ word ∷ rest
  pub token : word.token ≡ Number n
  pub small : n < 64
  pub over : Over (label ∷ []) ws rest

-- more labels have been read: those of the list are in the set, beside those that were, and no others
pub record MoreRead (s : ℕ) (ws : List Word) (s' : ℕ) (rest : List Word) : Type 0 where
  pub labels : List ℕ
  pub derives : MoreLabels ws labels rest
  pub is : s' ≡ collected s labels
  pub over : Over (more_labels ∷ []) ws rest
  pub bits : (i : ℕ) → i < 64 → bit s' i ≡ cond (listed labels i) true (bit s i)

-- a set of labels has been read: its bits are its labels
pub record SetRead (ws : List Word) (s : ℕ) (rest : List Word) : Type 0 where
  pub labels : LabelSet
  pub derives : Labels ws labels rest
  pub over : Over (label_set ∷ []) ws rest
  pub bits : (i : ℕ) → i < 64 → bit s i ≡ has_label labels i
