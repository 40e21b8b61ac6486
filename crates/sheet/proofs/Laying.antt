-- What the pass comes to, and which tree stands there, where a tree is laid down behind other nodes. Assumes nothing.
use Rattle.std.proofs.Common.{◌≡◌, ℕ, suc, ◌+◌, ◌≤◌, true, List, [], ◌∷◌, ◌++◌, length, get_or, sym, refl, ap, ◌∙◌, append_assoc, append-nil, arith, length-append}
use Rattle.std.proofs.lemmas.List.{get_or_append_left, get_or-append-add, get_or_push, length_push}
use Rattle.std.specs.List.{AllByRecursion}
use Rattle.std.proofs.ByRecursion.{All-append}
use Rattle.regular.specs.Words.{Regex, empty, one, sequence, alternative, star, plus, size}
use Rattle.regular.specs.Automaton.{nullable, firsts, lasts, follows}
use Rattle.regular.specs.Sets.{gain}
use Rattle.regular.proofs.Members.{follows_length}
use Rattle.sheet.specs.declared.tree.Node.{Node}
use Rattle.sheet.specs.declared.tree.Node.TheVariants.{Empty, One, Sequence, Alternative, Star, Plus}
use Rattle.sheet.specs.declared.tree.Summary.{Summary}
use Rattle.sheet.specs.Passes.{nothing, summary, linked, all_summaries, links, of_sequence, of_alternative, Placed}
use Rattle.sheet.specs.Flat.{below, laid}

-- the summary of a tree, as the automaton has it
abbrev pub sum : Regex → ℕ → Summary
sum e n = record { nullable = nullable e; first = firsts e n; last = lasts e n }

-- the summaries of a tree's nodes
abbrev pub sums : Regex → ℕ → List Summary
sums empty n = sum empty n ∷ []
sums (one a) n = sum (one a) n ∷ []
sums (sequence e f) n = sums e n ++ (sums f (n + size e) ++ sum (sequence e f) n ∷ [])
sums (alternative e f) n = sums e n ++ (sums f (n + size e) ++ sum (alternative e f) n ∷ [])
sums (star e) n = sums e n ++ sum (star e) n ∷ []
sums (plus e) n = sums e n ++ sum (plus e) n ∷ []

pub two_lengths : {A : Type 0} (xs ys : List A) (z : A) (i j : ℕ) → length xs ≡ suc i → length ys ≡ suc j → length (xs ++ (ys ++ z ∷ [])) ≡ suc (suc i + suc j)
two_lengths xs ys z i j h k = length-append xs (ys ++ z ∷ []) ∙ omega (arith, length-append ys (z ∷ []))

pub sums_length : (e : Regex) (n : ℕ) → length (sums e n) ≡ suc (below e)
sums_length empty n = refl
sums_length (one a) n = refl
sums_length (sequence e f) n = two_lengths (sums e n) (sums f (n + size e)) (sum (sequence e f) n) (below e) (below f) (sums_length e n) (sums_length f (n + size e))
sums_length (alternative e f) n = two_lengths (sums e n) (sums f (n + size e)) (sum (alternative e f) n) (below e) (below f) (sums_length e n) (sums_length f (n + size e))
sums_length (star e) n = length_push (sums e n) (sum (star e) n) ∙ omega (arith, sums_length e n)
sums_length (plus e) n = length_push (sums e n) (sum (plus e) n) ∙ omega (arith, sums_length e n)

-- the last element, where a list ends with it
pub last_two : {A : Type 0} (xs ys : List A) (z d : A) (i j : ℕ) → length xs ≡ suc i → length ys ≡ suc j → get_or (xs ++ (ys ++ z ∷ [])) (suc i + suc j) d ≡ z
last_two xs ys z d i j h k =
    ap (λ (x : List _). get_or x (suc i + suc j) d) (sym (append_assoc xs ys (z ∷ [])))
    ∙ get_or_push (xs ++ ys) z d (suc i + suc j) (length-append xs ys ∙ omega arith)

sums_last : (e : Regex) (n : ℕ) → get_or (sums e n) (below e) nothing ≡ sum e n
sums_last empty n = refl
sums_last (one a) n = refl
sums_last (sequence e f) n = last_two (sums e n) (sums f (n + size e)) (sum (sequence e f) n) nothing (below e) (below f) (sums_length e n) (sums_length f (n + size e))
sums_last (alternative e f) n = last_two (sums e n) (sums f (n + size e)) (sum (alternative e f) n) nothing (below e) (below f) (sums_length e n) (sums_length f (n + size e))
sums_last (star e) n = get_or_push (sums e n) (sum (star e) n) nothing (suc (below e)) (sums_length e n)
sums_last (plus e) n = get_or_push (sums e n) (sum (plus e) n) nothing (suc (below e)) (sums_length e n)

module _ {A : Type 0} (ss xs : List A) (d : A) where
  pub both_length : (o i : ℕ) → length ss ≡ o → length xs ≡ suc i → length (ss ++ xs) ≡ o + suc i
  both_length o i h k = length-append ss xs ∙ omega arith

  pub only_at : (o i : ℕ) → length ss ≡ o → get_or (ss ++ xs) (o + i) d ≡ get_or xs i d
  only_at o i h = ap (λ (x : ℕ). get_or (ss ++ xs) (x + i) d) (sym h) ∙ get_or-append-add ss xs i d

  pub left_at : (ys : List A) (o i : ℕ) → length ss ≡ o → length xs ≡ suc i → get_or ((ss ++ xs) ++ ys) (o + i) d ≡ get_or xs i d
  left_at ys o i h k = get_or_append_left (ss ++ xs) ys d (o + i) (omega (arith, both_length o i h k)) ∙ only_at o i h

  pub right_at : (ys : List A) (o i j : ℕ) → length ss ≡ o → length xs ≡ suc i → get_or ((ss ++ xs) ++ ys) (o + suc i + j) d ≡ get_or ys j d
  right_at ys o i j h k = ap (λ (x : ℕ). get_or ((ss ++ xs) ++ ys) (x + j) d) (sym (both_length o i h k)) ∙ get_or-append-add (ss ++ xs) ys j d

  pub regroup : (ys : List A) (z : A) → ((ss ++ xs) ++ ys) ++ z ∷ [] ≡ ss ++ (xs ++ (ys ++ z ∷ []))
  regroup ys z = append_assoc (ss ++ xs) ys (z ∷ []) ∙ append_assoc ss xs (ys ++ z ∷ [])

pub apart : (xs ys zs : List Node) (z : Node) → (xs ++ (ys ++ z ∷ [])) ++ zs ≡ xs ++ (ys ++ (z ∷ zs))
apart xs ys zs z = append_assoc xs (ys ++ z ∷ []) zs ∙ ap (λ (x : List Node). xs ++ x) (append_assoc ys (z ∷ []) zs)

-- a pass that makes a summary and adds links at each node
module _ {X : Type 0} (P : List Summary → List ℕ → List Node → X) (step : (ss : List Summary) (fs : List ℕ) (x : Node) (xs : List Node) → P ss fs (x ∷ xs) ≡ P (ss ++ summary ss x ∷ []) (linked ss fs x) xs) where
  -- a node behind two parts, by the summaries of the parts
  abbrev Two : (Summary → Summary → Summary) → Node → (Summary → Summary → List ℕ → List ℕ) → ℕ → ℕ → Type 0
  Two make x add l r = (ss : List Summary) → (summary ss x ≡ make (get_or ss l nothing) (get_or ss r nothing)) × ((fs : List ℕ) → linked ss fs x ≡ add (get_or ss l nothing) (get_or ss r nothing) fs)

  two_parts : (make : Summary → Summary → Summary) (add : Summary → Summary → List ℕ → List ℕ) (x : Node) (ss us vs : List Summary) (fs : List ℕ) (o i j : ℕ) (u v : Summary) (rest : List Node)
      → length ss ≡ o → length us ≡ suc i → get_or us i nothing ≡ u → get_or vs j nothing ≡ v → Two make x add (o + i) (o + suc i + j)
      → P ((ss ++ us) ++ vs) fs (x ∷ rest) ≡ P (ss ++ (us ++ (vs ++ make u v ∷ []))) (add u v fs) rest
  two_parts make add x ss us vs fs o i j u v rest h k p q two =
      let ts = (ss ++ us) ++ vs in
      let l = left_at ss us nothing vs o i h k ∙ p in
      let r = right_at ss us nothing vs o i j h k ∙ q in
      let t = two ts in
      let made = t.0 ∙ ap (λ (y : Summary). make y (get_or ts (o + suc i + j) nothing)) l ∙ ap (make u) r in
      let added = t.1 fs ∙ ap (λ (y : Summary). add y (get_or ts (o + suc i + j) nothing) fs) l ∙ ap (λ (y : Summary). add u y fs) r in
      step ts fs x rest
      ∙ ap (λ (y : Summary). P (ts ++ y ∷ []) (linked ts fs x) rest) made
      ∙ ap (λ (y : List ℕ). P (ts ++ make u v ∷ []) y rest) added
      ∙ ap (λ (y : List Summary). P y (add u v fs) rest) (regroup ss us nothing vs (make u v))

  abbrev OnePart : (Summary → Summary) → Node → (Summary → List ℕ → List ℕ) → ℕ → Type 0
  OnePart make x add l = (ss : List Summary) → (summary ss x ≡ make (get_or ss l nothing)) × ((fs : List ℕ) → linked ss fs x ≡ add (get_or ss l nothing) fs)

  one_part : (make : Summary → Summary) (add : Summary → List ℕ → List ℕ) (x : Node) (ss us : List Summary) (fs : List ℕ) (o i : ℕ) (u : Summary) (rest : List Node)
      → length ss ≡ o → get_or us i nothing ≡ u → OnePart make x add (o + i)
      → P (ss ++ us) fs (x ∷ rest) ≡ P (ss ++ (us ++ make u ∷ [])) (add u fs) rest
  one_part make add x ss us fs o i u rest h p two =
      let ts = ss ++ us in
      let l = only_at ss us nothing o i h ∙ p in
      let t = two ts in
      step ts fs x rest
      ∙ ap (λ (y : Summary). P (ts ++ y ∷ []) (linked ts fs x) rest) (t.0 ∙ ap make l)
      ∙ ap (λ (y : List ℕ). P (ts ++ make u ∷ []) y rest) (t.1 fs ∙ ap (λ (y : Summary). add y fs) l)
      ∙ ap (λ (y : List Summary). P y (add u fs) rest) (append_assoc ss us (make u ∷ []))

  pub pass_laid : (e : Regex) (ss : List Summary) (fs : List ℕ) (o n : ℕ) (rest : List Node) → length ss ≡ o → P ss fs (laid e o n ++ rest) ≡ P (ss ++ sums e n) (follows e n fs) rest
  pass_laid empty ss fs o n rest h = step ss fs Empty rest
  pass_laid (one a) ss fs o n rest h = step ss fs (One n) rest
  pass_laid (sequence e f) ss fs o n rest h =
      let x = Sequence (o + below e) (o + suc (below e) + below f) in
      let n' = n + size e in
      let o' = o + suc (below e) in
      let fs' = follows f n' (follows e n fs) in
      ap (P ss fs) (apart (laid e o n) (laid f o' n') rest x)
      ∙ pass_laid e ss fs o n (laid f o' n' ++ (x ∷ rest)) h
      ∙ pass_laid f (ss ++ sums e n) (follows e n fs) o' n' (x ∷ rest) (both_length ss (sums e n) nothing o (below e) h (sums_length e n))
      ∙ two_parts of_sequence (λ l r gs. gain gs l.last r.first (length gs)) x ss (sums e n) (sums f n') fs' o (below e) (below f) (sum e n) (sum f n') rest h (sums_length e n) (sums_last e n) (sums_last f n') (λ ts. (refl, λ gs. refl))
      ∙ ap (λ (y : ℕ). P (ss ++ sums (sequence e f) n) (gain fs' (lasts e n) (firsts f n') y) rest) (follows_length f n' (follows e n fs) ∙ follows_length e n fs)
  pass_laid (alternative e f) ss fs o n rest h =
      let x = Alternative (o + below e) (o + suc (below e) + below f) in
      let n' = n + size e in
      let o' = o + suc (below e) in
      let fs' = follows f n' (follows e n fs) in
      ap (P ss fs) (apart (laid e o n) (laid f o' n') rest x)
      ∙ pass_laid e ss fs o n (laid f o' n' ++ (x ∷ rest)) h
      ∙ pass_laid f (ss ++ sums e n) (follows e n fs) o' n' (x ∷ rest) (both_length ss (sums e n) nothing o (below e) h (sums_length e n))
      ∙ two_parts of_alternative (λ l r gs. gs) x ss (sums e n) (sums f n') fs' o (below e) (below f) (sum e n) (sum f n') rest h (sums_length e n) (sums_last e n) (sums_last f n') (λ ts. (refl, λ gs. refl))
  pass_laid (star e) ss fs o n rest h =
      let x = Star (o + below e) in
      ap (P ss fs) (append_assoc (laid e o n) (x ∷ []) rest)
      ∙ pass_laid e ss fs o n (x ∷ rest) h
      ∙ one_part (λ s. record { nullable = true; first = s.first; last = s.last }) (λ s gs. gain gs s.last s.first (length gs)) x ss (sums e n) (follows e n fs) o (below e) (sum e n) rest h (sums_last e n) (λ ts. (refl, λ gs. refl))
      ∙ ap (λ (y : ℕ). P (ss ++ sums (star e) n) (gain (follows e n fs) (lasts e n) (firsts e n) y) rest) (follows_length e n fs)
  pass_laid (plus e) ss fs o n rest h =
      let x = Plus (o + below e) in
      ap (P ss fs) (append_assoc (laid e o n) (x ∷ []) rest)
      ∙ pass_laid e ss fs o n (x ∷ rest) h
      ∙ one_part (λ s. s) (λ s gs. gain gs s.last s.first (length gs)) x ss (sums e n) (follows e n fs) o (below e) (sum e n) rest h (sums_last e n) (λ ts. (refl, λ gs. refl))
      ∙ ap (λ (y : ℕ). P (ss ++ sums (plus e) n) (gain (follows e n fs) (lasts e n) (firsts e n) y) rest) (follows_length e n fs)

-- the summaries of a tree that is laid down, and its sets of places that can follow each place
pub laid_summaries : (e : Regex) → all_summaries [] (laid e 0 0) ≡ sums e 0
laid_summaries e = ap (all_summaries []) (sym (append-nil (laid e 0 0))) ∙ pass_laid (λ ss fs xs. all_summaries ss xs) (λ ss fs x xs. refl) e [] [] 0 0 [] refl

pub laid_links : (e : Regex) (fs : List ℕ) → links [] fs (laid e 0 0) ≡ follows e 0 fs
laid_links e fs = ap (links [] fs) (sym (append-nil (laid e 0 0))) ∙ pass_laid links (λ ss gs x xs. refl) e [] fs 0 0 [] refl

pub laid_sum : (e : Regex) → get_or (all_summaries [] (laid e 0 0)) (below e) nothing ≡ sum e 0
laid_sum e = ap (λ (x : List Summary). get_or x (below e) nothing) (laid_summaries e) ∙ sums_last e 0

pub laid_length : (e : Regex) (o n : ℕ) → length (laid e o n) ≡ suc (below e)
laid_length empty o n = refl
laid_length (one a) o n = refl
laid_length (sequence e f) o n = two_lengths (laid e o n) (laid f (o + suc (below e)) (n + size e)) (Sequence (o + below e) (o + suc (below e) + below f)) (below e) (below f) (laid_length e o n) (laid_length f (o + suc (below e)) (n + size e))
laid_length (alternative e f) o n = two_lengths (laid e o n) (laid f (o + suc (below e)) (n + size e)) (Alternative (o + below e) (o + suc (below e) + below f)) (below e) (below f) (laid_length e o n) (laid_length f (o + suc (below e)) (n + size e))
laid_length (star e) o n = length_push (laid e o n) (Star (o + below e)) ∙ omega (arith, laid_length e o n)
laid_length (plus e) o n = length_push (laid e o n) (Plus (o + below e)) ∙ omega (arith, laid_length e o n)

pub laid_placed : (e : Regex) (o n : ℕ) → n + size e ≤ 64 → AllByRecursion Placed (laid e o n)
laid_placed empty o n h = (tt, tt)
laid_placed (one a) o n h = (omega arith, tt)
laid_placed (sequence e f) o n h = All-append Placed (laid e o n) (laid f (o + suc (below e)) (n + size e) ++ Sequence (o + below e) (o + suc (below e) + below f) ∷ []) (laid_placed e o n (omega arith)) (All-append Placed (laid f (o + suc (below e)) (n + size e)) (Sequence (o + below e) (o + suc (below e) + below f) ∷ []) (laid_placed f (o + suc (below e)) (n + size e) (omega arith)) (tt, tt))
laid_placed (alternative e f) o n h = All-append Placed (laid e o n) (laid f (o + suc (below e)) (n + size e) ++ Alternative (o + below e) (o + suc (below e) + below f) ∷ []) (laid_placed e o n (omega arith)) (All-append Placed (laid f (o + suc (below e)) (n + size e)) (Alternative (o + below e) (o + suc (below e) + below f) ∷ []) (laid_placed f (o + suc (below e)) (n + size e) (omega arith)) (tt, tt))
laid_placed (star e) o n h = All-append Placed (laid e o n) (Star (o + below e) ∷ []) (laid_placed e o n h) (tt, tt)
laid_placed (plus e) o n h = All-append Placed (laid e o n) (Plus (o + below e) ∷ []) (laid_placed e o n h) (tt, tt)
