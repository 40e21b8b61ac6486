-- From what the table reads to what its items stand for. Assumes nothing.
use mathlib.Core.Path.{◌≡◌, refl, sym, ap}
use mathlib.Core.Bool.{Bool, true, false, cond}
use mathlib.Core.Logic.{◌⊎◌, inl, inr}
use mathlib.Core.List.{List, [], ◌∷◌}
use Rattle.grammar.specs.Grammars.{Rule, Grammar, stuck, takes, find, Quiet, Reads, nothing, took, without}
use Rattle.grammar.proofs.Steps.{clash_step}

-- the items stand for the words ws in turn, and rest is what is left
abbrev pub Means : {I W : Type 0} → (I → List W → List W → Type 0) → List I → List W → List W → Type 0
Means mean [] ws rest = ws ≡ rest
Means {I} {W} mean (i ∷ k) ws rest = (mid : List W) × mean i ws mid × Means mean k mid rest

module _ {I W R : Type 0} (g : Grammar I W R) (mean : I → List W → List W → Type 0)
    (by-line : (i : I) (w : W) (r : R) (js : List I) → find (g.rules i) w ≡ takes r js → (ws mid : List W) → Means mean js ws mid → mean i (w ∷ ws) mid)
    (left_out : (i : I) → g.may i ≡ true → (ws : List W) → Quiet (g.rules i) ws → mean i ws ws) where
  pub means : {k : List I} {ws rest : List W} → Reads g k ws rest → Means mean k ws rest
  means nothing = refl
  means (took {i = i} {js = js} {r = r} {w = w} {ws = ws} {mid = mid} e a b) = (mid, by-line i w r js e ws mid (means a), means b)
  means (without {i = i} {ws = ws} e q b) = (ws, left_out i e ws q, means b)

-- a word that some line fits: the first line, or one behind it
pub by_lines : {I W R : Type 0} (l : Rule I W R) (ls : List (Rule I W R)) (w : W) (r : R) (js : List I) → find (l ∷ ls) w ≡ takes r js → ((l.fits w ≡ true) × (l.role ≡ r) × (l.owes ≡ js)) ⊎ ((l.fits w ≡ false) × (find ls w ≡ takes r js))
by_lines l ls w r js e = go (l.fits w) refl e
  where
    go : (b : Bool) → l.fits w ≡ b → cond b (takes l.role l.owes) (find ls w) ≡ takes r js → ((l.fits w ≡ true) × (l.role ≡ r) × (l.owes ≡ js)) ⊎ ((l.fits w ≡ false) × (find ls w ≡ takes r js))
    go true es e = inl (es, cc, cc)
    go false es e = inr (es, e)

-- the first line fits
pub find_here : {I W R : Type 0} (l : Rule I W R) (ls : List (Rule I W R)) (w : W) → l.fits w ≡ true → find (l ∷ ls) w ≡ takes l.role l.owes
find_here l ls w e = ap (λ b. cond b (takes l.role l.owes) (find ls w)) e

-- the first line does not fit
pub find_later : {I W R : Type 0} (l : Rule I W R) (ls : List (Rule I W R)) (w : W) → l.fits w ≡ false → find (l ∷ ls) w ≡ find ls w
find_later l ls w e = ap (λ b. cond b (takes l.role l.owes) (find ls w)) e

-- where no line fits, the first does not and no other does
pub stuck_here : {I W R : Type 0} (l : Rule I W R) (ls : List (Rule I W R)) (w : W) → find (l ∷ ls) w ≡ stuck → (l.fits w ≡ false) × (find ls w ≡ stuck)
stuck_here {I} {W} {R} l ls w e = go (l.fits w) refl e
  where
    go : (b : Bool) → l.fits w ≡ b → cond b (takes l.role l.owes) (find ls w) ≡ stuck → (l.fits w ≡ false) × (find ls w ≡ stuck)
    go true es e = absurd (clash_step (sym e))
    go false es e = (es, e)
