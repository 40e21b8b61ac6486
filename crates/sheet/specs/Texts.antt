-- Which words are a sheet, and which expression they derive. Assumes nothing.
use Rattle.std.specs.Prelude.{◌≡◌, ℕ, List, [], ◌∷◌, ◌≢◌}
use Rattle.text.specs.declared.word.Token.TheVariants.{Number, Empty, Rest, OpenParen, CloseParen, OpenBracket, CloseBracket, Plus, Colon, Question, Bar, Star}
use Rattle.text.specs.declared.word.Word.{Word}
use Rattle.text.specs.Expressions.{Test}
use Rattle.text.specs.Derivations.{NoneOf, Free, Condition}
use Rattle.text.specs.LabelSets.{LabelSet, every, these, Labels}
use Rattle.regular.specs.Sets.{collected}
use Rattle.regular.specs.Words.{Regex, empty, one, sequence, alternative, star, plus, with_rest, all, among, Labels as Marked}

-- the labels of an assertion, by those that are written
abbrev pub marked : LabelSet → Marked
marked every = all
marked (these ns) = among (collected 0 ns)

-- the next word begins no item of an expression, or there is none
abbrev pub NoItem : List Word → Type 0
NoItem [] = Unit {0}
NoItem (w ∷ ws) = NoneOf (Empty ∷ OpenParen ∷ Question ∷ []) w.token × ((n : ℕ) → w.token ≢ Number n)

-- the parts of an expression
pub data Part : Type 0 where
  -- an item, without the `*` and `+` behind it
  item : Part
  -- the `*` and `+` behind an item
  repeated : Regex → Part
  -- items in a row
  row : Part
  -- more of them, behind those that have been read
  onto : Regex → Part
  -- rows with `|` between them
  choice : Part
  -- more of them, behind those that have been read
  or_else : Regex → Part

-- the words ws begin with this part of an expression, it derives e, and rest is what is left
pub data Derives : Part → List Word → Regex → List Word → Type 0 where
  is_empty : {w : Word} {ws : List Word} → w.token ≡ Empty → Derives item (w ∷ ws) empty ws
  -- ( expression )
  in_parens : {o c : Word} {ws rest : List Word} {e : Regex} → o.token ≡ OpenParen → Derives choice ws e (c ∷ rest) → c.token ≡ CloseParen → Derives item (o ∷ ws) e rest
  -- labels : [ B ]
  asserted : {c o d : Word} {ws inner rest : List Word} {s : LabelSet} {t : Test} → Labels ws s (c ∷ o ∷ inner) → c.token ≡ Colon → o.token ≡ OpenBracket → Condition inner t (d ∷ rest) → d.token ≡ CloseBracket → Derives item ws (one (record { labels = marked s; test = t })) rest
  -- no `*` or `+` follows
  not_repeated : {ws : List Word} {e : Regex} → Free (Star ∷ Plus ∷ []) ws → Derives (repeated e) ws e ws
  starred : {w : Word} {ws rest : List Word} {e f : Regex} → w.token ≡ Star → Derives (repeated (star e)) ws f rest → Derives (repeated e) (w ∷ ws) f rest
  plussed : {w : Word} {ws rest : List Word} {e f : Regex} → w.token ≡ Plus → Derives (repeated (plus e)) ws f rest → Derives (repeated e) (w ∷ ws) f rest
  -- an item, and more in a row
  in_a_row : {ws mid behind rest : List Word} {a b e : Regex} → Derives item ws a mid → Derives (repeated a) mid b behind → Derives (onto b) behind e rest → Derives row ws e rest
  -- no item follows
  row_ends : {ws : List Word} {e : Regex} → NoItem ws → Derives (onto e) ws e ws
  -- what has been read comes first: sequences join from the left
  next_in_row : {ws mid behind rest : List Word} {a b e f : Regex} → Derives item ws a mid → Derives (repeated a) mid b behind → Derives (onto (sequence e b)) behind f rest → Derives (onto e) ws f rest
  -- a row, and more with `|` before each
  chosen : {ws mid rest : List Word} {a e : Regex} → Derives row ws a mid → Derives (or_else a) mid e rest → Derives choice ws e rest
  -- no `|` follows
  no_bar : {ws : List Word} {e : Regex} → Free (Bar ∷ []) ws → Derives (or_else e) ws e ws
  -- alternatives join from the left
  barred : {w : Word} {ws mid rest : List Word} {a e f : Regex} → w.token ≡ Bar → Derives row ws a mid → Derives (or_else (alternative e a)) mid f rest → Derives (or_else e) (w ∷ ws) f rest

-- the words are a sheet, and its expression is e
pub data SheetText : List Word → Regex → Type 0 where
  strict : {ws : List Word} {e : Regex} → Derives choice ws e [] → SheetText ws e
  -- `rest` is the last word
  rested : {w : Word} {ws : List Word} {e : Regex} → Derives choice ws e (w ∷ []) → w.token ≡ Rest → SheetText ws (with_rest e)
