-- A tree that is laid down grows again from its nodes. Assumes nothing.
use Rattle.std.proofs.Common.{◌≡◌, ℕ, suc, ◌+◌, ◌-◌, ◌<◌, List, [], ◌∷◌, ◌++◌, map, length, get_or, sym, refl, ap, ◌∙◌, append_assoc, append-nil, add-zero, zero-add, arith}
use Rattle.std.proofs.lemmas.List.{get_or_append_left, get_or_push, length_push}
use Rattle.std.specs.List.{AllByRecursion}
use Rattle.text.specs.declared.node.ArithNode.{ArithNode}
use Rattle.text.specs.declared.node.TestNode.{TestNode}
use Rattle.regular.specs.Words.{Regex, empty, one, sequence, alternative, star, plus, size, Assertion, assertions}
use Rattle.sheet.specs.declared.tree.Node.{Node}
use Rattle.sheet.specs.declared.tree.Node.TheVariants.{Sequence, Alternative, Star, Plus}
use Rattle.sheet.specs.declared.tree.Leaf.{Leaf}
use Rattle.sheet.specs.declared.tree.Leaf.TheVariants.{Given, Anything}
use Rattle.sheet.specs.Flat.{any, build, grow, tree, below, laid}
use Rattle.sheet.specs.Parts.{assertion_of, Tested, sheet_tree}
use Rattle.sheet.specs.Drafts.{Is, Stand}
use Rattle.sheet.proofs.Laying.{only_at, left_at, right_at, regroup, both_length, apart, two_lengths, last_two, laid_length}
use Rattle.sheet.proofs.Growing.{test_at}
use Rattle.sheet.proofs.Leaves.{size_length}

-- the trees of a tree's nodes
abbrev subs : Regex → List Regex
subs empty = empty ∷ []
subs (one a) = one a ∷ []
subs (sequence e f) = subs e ++ (subs f ++ sequence e f ∷ [])
subs (alternative e f) = subs e ++ (subs f ++ alternative e f ∷ [])
subs (star e) = subs e ++ star e ∷ []
subs (plus e) = subs e ++ plus e ∷ []

subs_length : (e : Regex) → length (subs e) ≡ suc (below e)
subs_length empty = refl
subs_length (one a) = refl
subs_length (sequence e f) = two_lengths (subs e) (subs f) (sequence e f) (below e) (below f) (subs_length e) (subs_length f)
subs_length (alternative e f) = two_lengths (subs e) (subs f) (alternative e f) (below e) (below f) (subs_length e) (subs_length f)
subs_length (star e) = length_push (subs e) (star e) ∙ omega (arith, subs_length e)
subs_length (plus e) = length_push (subs e) (plus e) ∙ omega (arith, subs_length e)

subs_last : (e : Regex) → get_or (subs e) (below e) empty ≡ e
subs_last empty = refl
subs_last (one a) = refl
subs_last (sequence e f) = last_two (subs e) (subs f) (sequence e f) empty (below e) (below f) (subs_length e) (subs_length f)
subs_last (alternative e f) = last_two (subs e) (subs f) (alternative e f) empty (below e) (below f) (subs_length e) (subs_length f)
subs_last (star e) = get_or_push (subs e) (star e) empty (suc (below e)) (subs_length e)
subs_last (plus e) = get_or_push (subs e) (plus e) empty (suc (below e)) (subs_length e)

-- the assertions of a tree stand in a list from place n on
abbrev At : List Assertion → ℕ → Regex → Type 0
At ps n e = (i : ℕ) → i < size e → get_or ps (n + i) any ≡ get_or (assertions e) i any

at_left : (ps qs : List Assertion) (n : ℕ) (e f : Regex) → qs ≡ assertions e ++ assertions f → ((i : ℕ) → i < size e + size f → get_or ps (n + i) any ≡ get_or qs i any) → At ps n e
at_left ps qs n e f is h i l = h i (omega arith) ∙ ap (λ (x : List Assertion). get_or x i any) is ∙ get_or_append_left (assertions e) (assertions f) any i (omega (arith, size_length e))

at_right : (ps qs : List Assertion) (n : ℕ) (e f : Regex) → qs ≡ assertions e ++ assertions f → ((i : ℕ) → i < size e + size f → get_or ps (n + i) any ≡ get_or qs i any) → At ps (n + size e) f
at_right ps qs n e f is h i l =
    let s : n + size e + i ≡ n + (size e + i) = omega arith in
    ap (λ (x : ℕ). get_or ps x any) s ∙ h (size e + i) (omega arith) ∙ ap (λ (x : List Assertion). get_or x (size e + i) any) is ∙ only_at (assertions e) (assertions f) any (size e) i (sym (size_length e))

module _ (ps : List Assertion) where
  grow_two : (make : Regex → Regex → Regex) (node : ℕ → ℕ → Node) → ((ts : List Regex) (l r : ℕ) → build ps ts (node l r) ≡ make (get_or ts l empty) (get_or ts r empty)) → (ts us vs : List Regex) (o i j : ℕ) (u v : Regex) (rest : List Node)
      → length ts ≡ o → length us ≡ suc i → get_or us i empty ≡ u → get_or vs j empty ≡ v
      → grow ps ((ts ++ us) ++ vs) (node (o + i) (o + suc i + j) ∷ rest) ≡ grow ps (ts ++ (us ++ (vs ++ make u v ∷ []))) rest
  grow_two make node builds ts us vs o i j u v rest h k p q =
      let ss = (ts ++ us) ++ vs in
      let l = left_at ts us empty vs o i h k ∙ p in
      let r = right_at ts us empty vs o i j h k ∙ q in
      let made = builds ss (o + i) (o + suc i + j) ∙ ap (λ (y : Regex). make y (get_or ss (o + suc i + j) empty)) l ∙ ap (make u) r in
      ap (λ (y : Regex). grow ps (ss ++ y ∷ []) rest) made ∙ ap (λ (y : List Regex). grow ps y rest) (regroup ts us empty vs (make u v))

  grow_one : (make : Regex → Regex) (node : ℕ → Node) → ((ts : List Regex) (l : ℕ) → build ps ts (node l) ≡ make (get_or ts l empty)) → (ts us : List Regex) (o i : ℕ) (u : Regex) (rest : List Node)
      → length ts ≡ o → get_or us i empty ≡ u → grow ps (ts ++ us) (node (o + i) ∷ rest) ≡ grow ps (ts ++ (us ++ make u ∷ [])) rest
  grow_one make node builds ts us o i u rest h p =
      let made = builds (ts ++ us) (o + i) ∙ ap make (only_at ts us empty o i h ∙ p) in
      ap (λ (y : Regex). grow ps ((ts ++ us) ++ y ∷ []) rest) made ∙ ap (λ (y : List Regex). grow ps y rest) (append_assoc ts us (make u ∷ []))

  grow_laid : (e : Regex) (ts : List Regex) (o n : ℕ) (rest : List Node) → length ts ≡ o → At ps n e → grow ps ts (laid e o n ++ rest) ≡ grow ps (ts ++ subs e) rest
  grow_laid empty ts o n rest h a = refl
  grow_laid (one b) ts o n rest h a = ap (λ (x : Assertion). grow ps (ts ++ one x ∷ []) rest) (ap (λ (k : ℕ). get_or ps k any) (sym (add-zero n)) ∙ a 0 (omega arith))
  grow_laid (sequence e f) ts o n rest h a =
      let o' = o + suc (below e) in
      let n' = n + size e in
      ap (grow ps ts) (apart (laid e o n) (laid f o' n') rest (Sequence (o + below e) (o' + below f)))
      ∙ grow_laid e ts o n (laid f o' n' ++ (Sequence (o + below e) (o' + below f) ∷ rest)) h (at_left ps (assertions e ++ assertions f) n e f refl a)
      ∙ grow_laid f (ts ++ subs e) o' n' (Sequence (o + below e) (o' + below f) ∷ rest) (both_length ts (subs e) empty o (below e) h (subs_length e)) (at_right ps (assertions e ++ assertions f) n e f refl a)
      ∙ grow_two sequence Sequence (λ ss l r. refl) ts (subs e) (subs f) o (below e) (below f) e f rest h (subs_length e) (subs_last e) (subs_last f)
  grow_laid (alternative e f) ts o n rest h a =
      let o' = o + suc (below e) in
      let n' = n + size e in
      ap (grow ps ts) (apart (laid e o n) (laid f o' n') rest (Alternative (o + below e) (o' + below f)))
      ∙ grow_laid e ts o n (laid f o' n' ++ (Alternative (o + below e) (o' + below f) ∷ rest)) h (at_left ps (assertions e ++ assertions f) n e f refl a)
      ∙ grow_laid f (ts ++ subs e) o' n' (Alternative (o + below e) (o' + below f) ∷ rest) (both_length ts (subs e) empty o (below e) h (subs_length e)) (at_right ps (assertions e ++ assertions f) n e f refl a)
      ∙ grow_two alternative Alternative (λ ss l r. refl) ts (subs e) (subs f) o (below e) (below f) e f rest h (subs_length e) (subs_last e) (subs_last f)
  grow_laid (star e) ts o n rest h a =
      ap (grow ps ts) (append_assoc (laid e o n) (Star (o + below e) ∷ []) rest)
      ∙ grow_laid e ts o n (Star (o + below e) ∷ rest) h a
      ∙ grow_one star Star (λ ss l. refl) ts (subs e) o (below e) e rest h (subs_last e)
  grow_laid (plus e) ts o n rest h a =
      ap (grow ps ts) (append_assoc (laid e o n) (Plus (o + below e) ∷ []) rest)
      ∙ grow_laid e ts o n (Plus (o + below e) ∷ rest) h a
      ∙ grow_one plus Plus (λ ss l. refl) ts (subs e) o (below e) e rest h (subs_last e)

-- the tree of the nodes of a tree
pub tree_laid : (e : Regex) → tree (assertions e) (laid e 0 0) ≡ e
tree_laid e =
    let g = ap (grow (assertions e) []) (sym (append-nil (laid e 0 0))) ∙ grow_laid (assertions e) e [] 0 0 [] refl (λ i l. ap (λ (k : ℕ). get_or (assertions e) k any) (zero-add i)) in
    let k : length (laid e 0 0) - 1 ≡ below e = omega (arith, laid_length e 0 0) in
    ap (λ (x : List Regex). get_or x (length (laid e 0 0) - 1) empty) g ∙ ap (λ (x : ℕ). get_or (subs e) x empty) k ∙ subs_last e

-- what the leaves stand for
is_assertion : (ns : List ArithNode) (ts : List TestNode) (l : Leaf) (a : Assertion) → Is ns ts l a → assertion_of ns ts l ≡ a
is_assertion ns ts (Given l i) a h = λ k. record { labels = h.0 k; test = test_at ns ts i a.test h.1 k }
is_assertion ns ts Anything a h = h

pub stand_map : (ns : List ArithNode) (ts : List TestNode) (ls : List Leaf) (fs : List Assertion) → Stand ns ts ls fs → map (assertion_of ns ts) ls ≡ fs
stand_map ns ts [] [] h = refl
stand_map ns ts [] (a ∷ more) h = absurd h
stand_map ns ts (l ∷ ls) [] h = absurd h
stand_map ns ts (l ∷ ls) (a ∷ more) h = ap (λ (x : Assertion). x ∷ map (assertion_of ns ts) ls) (is_assertion ns ts l a h.0) ∙ ap (λ (x : List Assertion). a ∷ x) (stand_map ns ts ls more h.1)

is_tested : (ns : List ArithNode) (ts : List TestNode) (l : Leaf) (a : Assertion) → Is ns ts l a → Tested ns ts l
is_tested ns ts (Given l i) a h = (a.test, h.1)
is_tested ns ts Anything a h = tt

pub stand_tested : (ns : List ArithNode) (ts : List TestNode) (ls : List Leaf) (fs : List Assertion) → Stand ns ts ls fs → AllByRecursion (Tested ns ts) ls
stand_tested ns ts [] [] h = tt
stand_tested ns ts [] (a ∷ more) h = tt
stand_tested ns ts (l ∷ ls) [] h = absurd h
stand_tested ns ts (l ∷ ls) (a ∷ more) h = (is_tested ns ts l a h.0, stand_tested ns ts ls more h.1)

pub sheet_tree_laid : (ns : List ArithNode) (ts : List TestNode) (ls : List Leaf) (e : Regex) → Stand ns ts ls (assertions e) → sheet_tree (laid e 0 0) ls ns ts ≡ e
sheet_tree_laid ns ts ls e h = ap (λ (x : List Assertion). tree x (laid e 0 0)) (stand_map ns ts ls (assertions e) h) ∙ tree_laid e
