-- The one pass over the nodes that computes the position automaton. Assumes nothing.
use Rattle.std.specs.Prelude.{ℕ, ◌^◌, ◌<◌, ◌≤◌, true, false, cond, ◌&&◌, ◌||◌, List, [], ◌∷◌, ◌++◌, length, get_or, bit_or, slice_index_or}
use Rattle.std.specs.List.{AllByRecursion}
use Rattle.regular.specs.Sets.{gain}
use Rattle.sheet.specs.declared.tree.Node.{Node}
use Rattle.sheet.specs.declared.tree.Node.TheVariants.{Empty, One, Sequence, Alternative, Star, Plus}
use Rattle.sheet.specs.declared.tree.Summary.{Summary}

-- the summary where there is no node
abbrev pub nothing : Summary
nothing = record { nullable = false; first = 0; last = 0 }

abbrev pub of_sequence : Summary → Summary → Summary
of_sequence l r = record { nullable = l.nullable && r.nullable; first = cond l.nullable (bit_or l.first r.first) l.first; last = cond r.nullable (bit_or l.last r.last) r.last }

abbrev pub of_alternative : Summary → Summary → Summary
of_alternative l r = record { nullable = l.nullable || r.nullable; first = bit_or l.first r.first; last = bit_or l.last r.last }

-- the summary of a node by those of the nodes before it
abbrev pub summary : List Summary → Node → Summary
summary ss Empty = record { nullable = true; first = 0; last = 0 }
summary ss (One p) = record { nullable = false; first = 2 ^ p; last = 2 ^ p }
summary ss (Sequence l r) = of_sequence (slice_index_or ss l nothing) (slice_index_or ss r nothing)
summary ss (Alternative l r) = of_alternative (slice_index_or ss l nothing) (slice_index_or ss r nothing)
summary ss (Star i) = record { nullable = true; first = (get_or ss i nothing).first; last = (get_or ss i nothing).last }
summary ss (Plus i) = slice_index_or ss i nothing

-- what a node adds to the sets of places that can follow each place
abbrev pub linked : List Summary → List ℕ → Node → List ℕ
linked ss fs Empty = fs
linked ss fs (One p) = fs
linked ss fs (Sequence l r) = gain fs (get_or ss l nothing).last (get_or ss r nothing).first (length fs)
linked ss fs (Alternative l r) = fs
linked ss fs (Star i) = gain fs (get_or ss i nothing).last (get_or ss i nothing).first (length fs)
linked ss fs (Plus i) = gain fs (get_or ss i nothing).last (get_or ss i nothing).first (length fs)

-- the summaries after a pass over the nodes
abbrev pub all_summaries : List Summary → List Node → List Summary
all_summaries ss [] = ss
all_summaries ss (x ∷ xs) = all_summaries (ss ++ summary ss x ∷ []) xs

-- the sets of places that can follow each place, after a pass over the nodes
abbrev pub links : List Summary → List ℕ → List Node → List ℕ
links ss fs [] = fs
links ss fs (x ∷ xs) = links (ss ++ summary ss x ∷ []) (linked ss fs x) xs

-- an assertion's place fits into a set
abbrev pub Placed : Node → Type 0
Placed Empty = Unit {0}
Placed (One p) = p < 64
Placed (Sequence l r) = Unit {0}
Placed (Alternative l r) = Unit {0}
Placed (Star i) = Unit {0}
Placed (Plus i) = Unit {0}

-- there is room for a summary of each node and a set for each place, and a set has room for each place
pub record Roomy (xs : List Node) (count : ℕ) : Type 0 where
  pub placed : AllByRecursion Placed xs
  pub summary_room : length xs ≤ 632
  pub set_room : count ≤ 60
