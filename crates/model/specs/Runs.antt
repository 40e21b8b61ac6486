-- Runs of a cell, their moments, which of them a watch permits, and their configurations. Assumes nothing.
use Rattle.std.specs.Prelude.{◌≡◌, ℕ, List, [], ◌∷◌, Some}
use Rattle.model.specs.declared.moment.Moment.{Moment}
use Rattle.model.specs.declared.configuration.Configuration.{Configuration}
use Rattle.model.specs.Cells.{CellMeaning, In}
use Rattle.model.specs.Watches.{WatchMeaning}

-- each code is among the next codes of the one before
abbrev pub Path : CellMeaning → ℕ → List ℕ → Type 0
Path c x [] = Unit {0}
Path c x (y ∷ ys) = In y (c.nexts x) × Path c y ys

-- a run: a non-empty list of codes, the first a start, each later one among the next codes of the one before
abbrev pub Run : CellMeaning → List ℕ → Type 0
Run c [] = ⊥
Run c (x ∷ xs) = In x c.starts × Path c x xs

-- what a watch sees of code y in a run that began with code x
abbrev pub moment : CellMeaning → ℕ → ℕ → Moment
moment c x y = record { label = (c.reads y).label; values = (c.reads y).values; starts = (c.reads x).values }

abbrev pub moments_from : CellMeaning → ℕ → List ℕ → List Moment
moments_from c x [] = []
moments_from c x (y ∷ ys) = moment c x y ∷ moments_from c x ys

-- the moments of a run: the start values are those of its first state
abbrev pub moments : CellMeaning → List ℕ → List Moment
moments c [] = []
moments c (x ∷ xs) = moments_from c x (x ∷ xs)

-- the first state of the watch permits the moments of the run
abbrev pub Permitted : {S : Type 0} → CellMeaning → WatchMeaning S → List ℕ → Type 0
Permitted c w xs = w.permits w.first (moments c xs)

-- the last code of a run
abbrev pub last : ℕ → List ℕ → ℕ
last x [] = x
last x (y ∷ ys) = last y ys

-- reading the codes in state s, in a run that began with code x, brings the watch to state t
abbrev pub Reaches : {S : Type 0} → CellMeaning → WatchMeaning S → ℕ → S → List ℕ → S → Type 0
Reaches c w x s [] t = s ≡ t
Reaches {S} c w x s (y ∷ ys) t = (u : S) × (w.step s (moment c x y) ≡ Some u) × Reaches c w x u ys t

-- k is the configuration of the permitted run: its first code, its last code, and the watch state after its moments
abbrev pub Has : {S : Type 0} → CellMeaning → WatchMeaning S → List ℕ → Configuration S → Type 0
Has c w [] k = ⊥
Has c w (x ∷ xs) k = (k.first ≡ x) × (k.last ≡ last x xs) × Reaches c w x w.first (x ∷ xs) k.state
