-- What the parts of a sheet say of its tree. Assumes nothing.
use Rattle.std.proofs.Common.{◌≡◌, ℕ, zero, suc, ◌<◌, Bool, List, [], ◌∷◌, map, length, get_or, sym, refl, ap, ◌∙◌, subst, arith, length-append}
use Rattle.std.proofs.ByRecursion.{All-get_or}
use mathlib.Core.Bool.{Bool-set}
use mathlib.Core.Logic.{∥∥₁_elim}
use Rattle.model.specs.declared.moment.Moment.{Moment}
use Rattle.text.specs.declared.node.ArithNode.{ArithNode}
use Rattle.text.specs.declared.node.TestNode.{TestNode}
use Rattle.regular.specs.Words.{Regex, empty, one, sequence, alternative, star, plus, size, Assertion, assertions, asserts, holds_at, holding}
use Rattle.regular.specs.Sets.{gather, keep}
use Rattle.regular.specs.Automaton.{follow_sets}
use Rattle.sheet.specs.declared.tree.Node.{Node}
use Rattle.sheet.specs.declared.tree.Leaf.{Leaf}
use Rattle.sheet.specs.Parts.{assertion_of, Tested, sheet_tree, Standing}

pub size_length : (e : Regex) → size e ≡ length (assertions e)
size_length empty = refl
size_length (one a) = refl
size_length (sequence e f) = omega (arith, size_length e, size_length f, length-append (assertions e) (assertions f))
size_length (alternative e f) = omega (arith, size_length e, size_length f, length-append (assertions e) (assertions f))
size_length (star e) = size_length e
size_length (plus e) = size_length e

map_length : {A B : Type 0} (f : A → B) (xs : List A) → length (map f xs) ≡ length xs
map_length f [] = refl
map_length f (x ∷ xs) = ap suc (map_length f xs)

map_holds : (f : Leaf → Assertion) (ls : List Leaf) (p : ℕ) (m : Moment) (d : Leaf) → p < length ls → holds_at (map f ls) p m ≡ asserts (f (get_or ls p d)) m
map_holds f [] p m d h = absurd (omega arith)
map_holds f (l ∷ ls) zero m d h = refl
map_holds f (l ∷ ls) (suc p) m d h = map_holds f ls p m d (omega arith)

module _ {xs : List Node} {ls : List Leaf} {ns : List ArithNode} {ts : List TestNode} {first : ℕ} {follow : List ℕ} (s : Standing xs ls ns ts first follow) where
  abbrev the_tree : Regex
  the_tree = sheet_tree xs ls ns ts

  pub tree_size : size the_tree ≡ length ls
  tree_size = size_length the_tree ∙ ap length s.listed ∙ map_length (assertion_of ns ts) ls

  pub leaf_holds : (p : ℕ) (m : Moment) (d : Leaf) → p < length ls → holding the_tree p m ≡ asserts (assertion_of ns ts (get_or ls p d)) m
  leaf_holds p m d h = ap (λ (x : List Assertion). holds_at x p m) s.listed ∙ map_holds (assertion_of ns ts) ls p m d h

  leaf_answers : (us : List Leaf) (p : ℕ) (m : Moment) (d : Leaf) (r : Bool) → us ≡ ls → p < length us → (Tested ns ts (get_or us p d) → r ≡ asserts (assertion_of ns ts (get_or us p d)) m) → r ≡ holding the_tree p m
  leaf_answers us p m d r is h answers =
      let b : p < length ls = omega (arith, ap length is) in
      answers (subst (λ (x : List Leaf). Tested ns ts (get_or x p d)) (sym is) (All-get_or (Tested ns ts) ls p d b s.tested))
      ∙ ap (λ (x : List Leaf). asserts (assertion_of ns ts (get_or x p d)) m) is
      ∙ sym (leaf_holds p m d b)

  pub gathered : (set r k : ℕ) → k ≡ length follow → length follow ≡ length ls → r ≡ gather follow set k → r ≡ gather (follow_sets the_tree) set (size the_tree)
  gathered set r k e l is = is ∙ ap (λ (x : List ℕ). gather x set k) s.goes_on ∙ ap (gather (follow_sets the_tree) set) (e ∙ l ∙ sym tree_size)

  pub kept_all : (p : ℕ → Bool) (set r k : ℕ) → k ≡ length ls → r ≡ keep p set k → r ≡ keep p set (size the_tree)
  kept_all p set r k e is = is ∙ ap (keep p set) (e ∙ sym tree_size)

-- the assertion at a place, read there
pub leaf_answer : {xs : List Node} {ls : List Leaf} {ns : List ArithNode} {ts : List TestNode} {first : ℕ} {follow : List ℕ} → ∥ Standing xs ls ns ts first follow ∥₁ → (us : List Leaf) (p : ℕ) (m : Moment) (d : Leaf) (r : Bool) → us ≡ ls → p < length us → (Tested ns ts (get_or us p d) → r ≡ asserts (assertion_of ns ts (get_or us p d)) m) → r ≡ holding (sheet_tree xs ls ns ts) p m
leaf_answer {xs} {ls} {ns} {ts} s us p m d r is h answers = ∥∥₁_elim s (Bool-set r (holding (sheet_tree xs ls ns ts) p m)) (λ t. leaf_answers t us p m d r is h answers)
