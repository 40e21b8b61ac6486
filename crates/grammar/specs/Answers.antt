-- Reading word by word, and what its answers mean. Assumes nothing.
use Rattle.std.specs.Prelude.{◌≡◌, Bool, true, false, cond, ◌&&◌, ◌⊎◌, List, [], ◌∷◌, ◌++◌}
use Rattle.grammar.specs.Grammars.{Rule, Grammar, Step, stuck, takes, find, Text}

abbrev pub next : {I R : Type 0} → Step I R → Bool → List I → Step I R → Step I R
next (takes r js) may k below = takes r (js ++ k)
next stuck true k below = below
next stuck false k below = stuck

-- the next word, where the items k are owed: the first of them that has a line for it takes it, and those before are left out
abbrev pub feed : {I W R : Type 0} → Grammar I W R → List I → W → Step I R
feed g [] w = stuck
feed g (i ∷ k) w = next (find (g.rules i) w) (g.may i) k (feed g k w)

-- all that is owed may be left out
abbrev pub leaves : {I W R : Type 0} → Grammar I W R → List I → Bool
leaves g [] = true
leaves g (i ∷ k) = g.may i && leaves g k

-- a word that the grammar takes: the memo after it, or the cause that it is charged with
pub data Charge (M C : Type 0) : Type 0 where
  fine : M → Charge M C
  charged : C → Charge M C

pub record Causes (I W R M C : Type 0) : Type 0 where
  -- the cause at a word that no text goes on with
  pub wrong : W → C
  -- the cause at the end of what is no text yet
  pub ended : C
  -- the charge of a word in its role, by the memo before it and what is owed after it
  pub charge : M → R → W → List I → Charge M C

-- an answer: the memo at the end of a good text, or the cause with the words from the faulty one on, none at the end
pub data Answer (W M C : Type 0) : Type 0 where
  good : M → Answer W M C
  fault : C → List W → Answer W M C

abbrev pub charging : {W M C : Type 0} → List W → (M → Answer W M C) → Charge M C → Answer W M C
charging ws go (fine m) = go m
charging ws go (charged c) = fault c ws

abbrev pub stepping : {I W R M C : Type 0} → Causes I W R M C → W → List W → (M → List I → Answer W M C) → M → Step I R → Answer W M C
stepping f w ws go m stuck = fault (f.wrong w) (w ∷ ws)
stepping f w ws go m (takes r k) = charging (w ∷ ws) (λ n. go n k) (f.charge m r w k)

-- reading the words where the items k are owed, with a memo of what was read before
unfoldable pub reading : {I W R M C : Type 0} → Grammar I W R → Causes I W R M C → List W → M → List I → Answer W M C
reading g f [] m k = cond (leaves g k) (good m) (fault f.ended [])
reading g f (w ∷ ws) m k = stepping f w ws (reading g f ws) m (feed g k w)

-- some text begins with the words u, where T says what a text is
abbrev pub Begun : {W : Type 0} → (List W → Type 0) → List W → Type 0
Begun {W} T u = (v : List W) × T (u ++ v)

module _ {I W R M C : Type 0} (g : Grammar I W R) (f : Causes I W R M C) where
  -- no word of u is faulty, and after them the memo is n and the items j are owed
  abbrev pub Passes : M → List I → List W → M → List I → Type 0
  Passes m k [] n j = (m ≡ n) × (k ≡ j)
  Passes m k (w ∷ u) n j = (r : R) × (p : M) × (i : List I) × (feed g k w ≡ takes r i) × (f.charge m r w i ≡ fine p) × Passes p i u n j

  module _ (T : List W → Type 0) where
    -- what is at fault behind the words u: the end, where u is no text; or the next word, with which no text goes on, or which is charged
    abbrev pub Faulted : List W → M → List I → C → List W → Type 0
    Faulted u n j c [] = (c ≡ f.ended) × (T u → ⊥)
    Faulted u n j c (w ∷ v) = ((c ≡ f.wrong w) × (Begun T (u ++ w ∷ []) → ⊥)) ⊎ ((r : R) × (i : List I) × (feed g j w ≡ takes r i) × (f.charge n r w i ≡ charged c) × Begun T (u ++ w ∷ []))

    -- the words ws deserve an answer, where T says what a text is: they are a text with no word charged, or this is the first fault, behind words that some text begins with
    abbrev pub Deserved : M → List I → List W → Answer W M C → Type 0
    Deserved m k ws (good n) = T ws × (j : List I) × Passes m k ws n j
    Deserved m k ws (fault c v) = (u : List W) × (n : M) × (j : List I) × (ws ≡ u ++ v) × Begun T u × Passes m k u n j × Faulted u n j c v

  abbrev pub Faulty : List I → List W → M → List I → C → List W → Type 0
  Faulty k = Faulted (Text g k)

  -- the same, where a text is what the table says
  abbrev pub Deserves : M → List I → List W → Answer W M C → Type 0
  Deserves m k = Deserved (Text g k) m k

-- x is among the elements
abbrev pub In : {A : Type 0} → A → List A → Type 0
In x [] = ⊥
In x (y ∷ ys) = (x ≡ y) ⊎ In x ys

-- reading the words w brings the owed items from k to j
abbrev pub Drains : {I W R : Type 0} → Grammar I W R → List I → List W → List I → Type 0
Drains g k [] j = k ≡ j
Drains {I} {W} {R} g k (w ∷ ws) j = (r : R) × (i : List I) × (feed g k w ≡ takes r i) × Drains g i ws j

-- none of the items stands for what repeats to a text's end
abbrev pub inner : {I : Type 0} → (I → Bool) → List I → Bool
inner last [] = true
inner last (i ∷ k) = cond (last i) false (inner last k)

-- only the lowest of the items may stand for what repeats to a text's end
abbrev pub lawful : {I : Type 0} → (I → Bool) → List I → Bool
lawful last [] = true
lawful last (i ∷ []) = true
lawful last (i ∷ j ∷ k) = cond (last i) false (lawful last (j ∷ k))

-- each line owes such items only
abbrev pub all_owe : {I W R : Type 0} → (List I → Bool) → List (Rule I W R) → Bool
all_owe p [] = true
all_owe p (r ∷ rs) = cond (p r.owes) (all_owe p rs) false

-- no line fits any of these words
abbrev pub Shut : {I W R : Type 0} → List (Rule I W R) → List W → Type 0
Shut rs [] = Unit {0}
Shut rs (w ∷ ws) = (find rs w ≡ stuck) × Shut rs ws

-- every item can be closed: what is owed can always be paid off
pub record Closable {I W R : Type 0} (g : Grammar I W R) : Type 0 where
  -- the items that repeat to a text's end
  pub last : I → Bool
  -- the words that closing an item begins with
  pub starters : List W
  pub last_may : (i : I) → last i ≡ true → g.may i ≡ true
  pub owe_inner : (i : I) → last i ≡ false → all_owe (inner last) (g.rules i) ≡ true
  pub owe_lawful : (i : I) → last i ≡ true → all_owe (lawful last) (g.rules i) ≡ true
  pub shut : (i : I) → last i ≡ false → g.may i ≡ true → Shut (g.rules i) starters
  pub closes : (i : I) → last i ≡ false → g.may i ≡ false → (w : W) × (ws : List W) × In w starters × ((k : List I) → Drains g (i ∷ k) (w ∷ ws) k)

-- T says of the same words as the table that they are a text
abbrev pub SameTexts : {I W R : Type 0} → Grammar I W R → List I → (List W → Type 0) → Type 0
SameTexts {I} {W} g k T = (ws : List W) → (T ws → Text g k ws) × (Text g k ws → T ws)

-- where every item can be closed, reading gives the answer that the words deserve, and no other answer is deserved
abbrev pub ReadingStands : (I W R M C : Type 0) → Type 1
ReadingStands I W R M C = (g : Grammar I W R) (f : Causes I W R M C) (l : Closable g) (k : List I) → lawful l.last k ≡ true → (T : List W → Type 0) → SameTexts g k T → (ws : List W) (m : M) → Deserved g f T m k ws (reading g f ws m k) × ((a : Answer W M C) → Deserved g f T m k ws a → a ≡ reading g f ws m k)

-- the same, where a text is what the table says
abbrev pub ReadingStandsByTable : (I W R M C : Type 0) → Type 0
ReadingStandsByTable I W R M C = (g : Grammar I W R) (f : Causes I W R M C) (l : Closable g) (k : List I) → lawful l.last k ≡ true → (ws : List W) (m : M) → Deserves g f m k ws (reading g f ws m k) × ((a : Answer W M C) → Deserves g f m k ws a → a ≡ reading g f ws m k)
