-- The parts of a sheet in which an expression lies fit together. Assumes nothing.
use Rattle.std.proofs.Common.{◌≡◌, ℕ, ◌-◌, List, [], ◌++◌, length, get_or, replicate, vec_items, vec_len, sym, ap, ◌∙◌, subst, arith}
use Rattle.text.specs.declared.node.ArithNode.{ArithNode}
use Rattle.text.specs.declared.node.TestNode.{TestNode}
use Rattle.regular.specs.Words.{Regex, size, assertions}
use Rattle.regular.specs.Automaton.{firsts, follow_sets}
use Rattle.sheet.specs.declared.tree.Node.{Node}
use Rattle.sheet.specs.declared.tree.Leaf.{Leaf}
use Rattle.sheet.specs.declared.tree.Summary.{Summary}
use Rattle.sheet.specs.declared.draft.Draft.{Draft}
use Rattle.sheet.specs.Flat.{below, laid}
use Rattle.sheet.specs.Passes.{nothing, all_summaries, links}
use Rattle.sheet.specs.Parts.{sheet_tree, Standing}
use Rattle.sheet.specs.Drafts.{Stand, Grown, LaidDown}
use Rattle.sheet.proofs.Laying.{laid_length, laid_sum, laid_links}
use Rattle.sheet.proofs.Regrown.{sheet_tree_laid, stand_map, stand_tested}
use Rattle.std.proofs.lemmas.List.{nil_from_length}

module _ (xs : List Node) (ls : List Leaf) (ns : List ArithNode) (ts : List TestNode) (e : Regex) (is : xs ≡ laid e 0 0) (h : Stand ns ts ls (assertions e)) where
  pub same_tree : sheet_tree xs ls ns ts ≡ e
  same_tree = ap (λ (x : List Node). sheet_tree x ls ns ts) is ∙ sheet_tree_laid ns ts ls e h

  pub standing : (first : ℕ) (follow : List ℕ) (n : ℕ) → n ≡ size e → first ≡ (get_or (all_summaries [] xs) (length xs - 1) nothing).first → follow ≡ links [] (replicate n 0) xs → Standing xs ls ns ts first follow
  standing first follow n count begins goes =
      let root : length (laid e 0 0) - 1 ≡ below e = omega (arith, laid_length e 0 0) in
      let s = ap (λ (x : List Node). get_or (all_summaries [] x) (length x - 1) nothing) is ∙ ap (λ (k : ℕ). get_or (all_summaries [] (laid e 0 0)) k nothing) root ∙ laid_sum e in
      record {
        listed = ap assertions same_tree ∙ sym (stand_map ns ts ls (assertions e) h);
        tested = stand_tested ns ts ls (assertions e) h;
        begins = begins ∙ ap (λ (x : Summary). x.first) s ∙ ap (λ (x : Regex). firsts x 0) (sym same_tree);
        goes_on = goes ∙ ap (links [] (replicate n 0)) is ∙ laid_links e (replicate n 0) ∙ ap (λ (k : ℕ). Rattle.regular.specs.Automaton.follows e 0 (replicate k 0)) count ∙ ap follow_sets (sym same_tree);
      }

-- what has been laid down in a fresh draft
pub laid_down : (x y : Draft) (e : Regex) (i : ℕ) → vec_len x.nodes ≡ 0 → vec_len x.leaves ≡ 0 → Grown x y e i → LaidDown y e
laid_down x y e i a b g =
    let na = nil_from_length (vec_items x.nodes) (omega (arith, x.nodes.ok)) in
    let nb = nil_from_length (vec_items x.leaves) (omega (arith, x.leaves.ok)) in
    let al : vec_items y.leaves ≡ g.added = g.leaves ∙ ap (λ (l : List Leaf). l ++ g.added) nb in
    record {
      nodes = g.nodes ∙ ap (λ (l : List Node). l ++ laid e (vec_len x.nodes) (vec_len x.leaves)) na ∙ ap (λ (o : ℕ). laid e o (vec_len x.leaves)) a ∙ ap (laid e 0) b;
      leaf_count = let c = g.leaf_count in omega arith;
      stand = subst (λ (l : List Leaf). Stand (vec_items y.tests.ariths) (vec_items y.tests.tests) l (assertions e)) (sym al) g.stand;
    }
