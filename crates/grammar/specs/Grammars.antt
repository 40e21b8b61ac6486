-- Grammars as tables of what is owed, and the texts that they have. Assumes nothing.
use Rattle.std.specs.Prelude.{◌≡◌, Bool, true, cond, List, [], ◌∷◌, ◌++◌}

-- one line of a table: a word that fits plays this role, and these items are owed in its stead
pub record Rule (I W R : Type 0) : Type 0 where
  pub fits : W → Bool
  pub role : R
  pub owes : List I

pub record Grammar (I W R : Type 0) : Type 0 where
  -- the lines of an item: the first that fits the next word holds
  pub rules : I → List (Rule I W R)
  -- an item that may be left out where none of its lines fits
  pub may : I → Bool

-- what becomes of a word: no line fits, or its role with what is owed then
pub data Step (I R : Type 0) : Type 0 where
  stuck : Step I R
  takes : R → List I → Step I R

-- the first line that fits a word
abbrev pub find : {I W R : Type 0} → List (Rule I W R) → W → Step I R
find [] w = stuck
find (r ∷ rs) w = cond (r.fits w) (takes r.role r.owes) (find rs w)

-- no line fits the next word, or there is none
abbrev pub Quiet : {I W R : Type 0} → List (Rule I W R) → List W → Type 0
Quiet rs [] = Unit {0}
Quiet rs (w ∷ ws) = find rs w ≡ stuck

-- the words ws begin with what pays off the owed items in turn, and rest is what is left
pub data Reads {I W R : Type 0} (g : Grammar I W R) : List I → List W → List W → Type 0 where
  nothing : {ws : List W} → Reads g [] ws ws
  took : {i : I} {k js : List I} {r : R} {w : W} {ws mid rest : List W} → find (g.rules i) w ≡ takes r js → Reads g js ws mid → Reads g k mid rest → Reads g (i ∷ k) (w ∷ ws) rest
  without : {i : I} {k : List I} {ws rest : List W} → g.may i ≡ true → Quiet (g.rules i) ws → Reads g k ws rest → Reads g (i ∷ k) ws rest

-- ws is a text where the items k are owed
abbrev pub Text : {I W R : Type 0} → Grammar I W R → List I → List W → Type 0
Text g k ws = Reads g k ws []

-- some text begins with the words u
abbrev pub Begins : {I W R : Type 0} → Grammar I W R → List I → List W → Type 0
Begins {I} {W} g k u = (v : List W) × Text g k (u ++ v)
