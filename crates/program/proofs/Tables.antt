-- Statements that are linked are the table of the tree. Assumes nothing.
use Rattle.std.proofs.Common.{◌≡◌, ℕ, zero, suc, ◌+◌, ◌<◌, ◌≤◌, true, cond, List, [], ◌∷◌, ◌++◌, length, get_or, take, None, sym, refl, ap, ◌∙◌, subst, inl, inr, arith}
use Rattle.std.proofs.lemmas.List.{take_more, take_all}
use Rattle.std.proofs.lemmas.Bool.{and_from, and_parts, le-leb, cases_lt, lt-ltb, le-ltb}
use Rattle.text.specs.declared.node.ArithNode.{ArithNode}
use Rattle.text.specs.declared.node.TestNode.{TestNode}
use Rattle.traces.specs.Programs.{Part, assign, sense, skip, if_then, if_else, while, break, block, empty, list, size, begins}
use Rattle.traces.specs.Tables.{Instruction, assigns, senses, goes, branches, table}
use Rattle.traces.specs.Codes.{leads_to, lead_to}
use Rattle.traces.proofs.Walks.{begins_is, length_table}
use Rattle.traces.proofs.Links.{to_set, to_sense, to_skip, to_break, to_choose, to_repeat, Kind as PureKind, Draft as PureDraft, drafts, all_exits, exits, draft, Exits as PureExits, entry, linked, links, table_links, drafts_length, exits_length}
use Rattle.machine.specs.declared.statement.Statement.{Statement}
use Rattle.machine.specs.Views.{view, views, statement_stands, all_stand, arith_at}
use Rattle.machine.proofs.Standing.{arith_is, arith_found, test_is, test_found}
use Rattle.program.specs.declared.draft.Kind.{Kind}
use Rattle.program.specs.declared.draft.Draft.{Draft}
use Rattle.program.specs.declared.exits.Exits.{Exits}
use Rattle.program.specs.Outcomes.{KindFor, DraftsFor}
use Rattle.program.specs.Linked.{draft_at, exits_at}
use Rattle.program.specs.Statements.{made_of, Small}
use Rattle.program.proofs.Linking.{rule, for_at, as_long}

-- ---- exits are labels of the program
abbrev Bounded : ℕ → List PureExits → Type 0
Bounded n [] = Unit {0}
Bounded n (x ∷ xs) = (x.after ≤ n) × (x.breaks ≤ n) × Bounded n xs

bounded_append : (n : ℕ) (xs ys : List PureExits) → Bounded n xs → Bounded n ys → Bounded n (xs ++ ys)
bounded_append n [] ys p q = q
bounded_append n (x ∷ xs) ys p q = (p.0, p.1, bounded_append n xs ys p.2 q)

bounded_at : (n : ℕ) (xs : List PureExits) (j : ℕ) (x₀ : PureExits) → Bounded n xs → j < length xs → ((get_or xs j x₀).after ≤ n) × ((get_or xs j x₀).breaks ≤ n)
bounded_at n [] j x₀ p l = absurd (omega arith)
bounded_at n (x ∷ xs) zero x₀ p l = (p.0, p.1)
bounded_at n (x ∷ xs) (suc j) x₀ p l = bounded_at n xs j x₀ p.2 (omega arith)

begins_small : (u : Part) (ℓ a n : ℕ) → ℓ ≤ n → a ≤ n → begins u ℓ a ≤ n
begins_small u ℓ a n h k = elim (begins_is u ℓ a) [ inl e ↦ (let x = e.0 in omega arith) | inr e ↦ (let x = e.0 in omega arith) ]

bounded : (s : Part) (ℓ a b n : ℕ) → a ≤ n → b ≤ n → ℓ + size s ≤ n → Bounded n (all_exits s ℓ a b)
bounded (assign x e) ℓ a b n p q h = (p, q, tt)
bounded (sense x) ℓ a b n p q h = (p, q, tt)
bounded skip ℓ a b n p q h = (p, q, tt)
bounded (if_then t s) ℓ a b n p q h = (p, q, bounded s (ℓ + 1) a b n p q (omega arith))
bounded (if_else t s u) ℓ a b n p q h = (p, q, bounded_append n (all_exits s (ℓ + 1) a b) (all_exits u (ℓ + 1 + size s) a b) (bounded s (ℓ + 1) a b n p q (omega arith)) (bounded u (ℓ + 1 + size s) a b n p q (omega arith)))
bounded (while t s) ℓ a b n p q h = (p, q, bounded s (ℓ + 1) ℓ a n (omega arith) p (omega arith))
bounded break ℓ a b n p q h = (p, q, tt)
bounded (block s) ℓ a b n p q h = bounded s ℓ a b n p q h
bounded empty ℓ a b n p q h = tt
bounded (list s u) ℓ a b n p q h =
    bounded_append n (all_exits s ℓ (begins u (ℓ + size s) a) b) (all_exits u (ℓ + size s) a b) (bounded s ℓ (begins u (ℓ + size s) a) b n (begins_small u (ℓ + size s) a n (omega arith) p) q (omega arith)) (bounded u (ℓ + size s) a b n p q (omega arith))

exits_small : (body : Part) (j : ℕ) → j < size body → ((exits_at body j).after ≤ size body) × ((exits_at body j).breaks ≤ size body)
exits_small body j l =
    let n = size body in
    bounded_at n (all_exits body 0 n n) j (exits 0 0) (bounded body 0 n n n (omega arith) (omega arith) (omega arith)) (let e = exits_length body 0 n n in omega arith)

pub small : (ns : List ArithNode) (ts : List TestNode) (ds : List Draft) (body : Part) (label : ℕ) (d : Draft) (own : Exits) → DraftsFor ns ts ds (drafts body 0 None) → length ds ≤ 63 → label < length ds
    → own.after ≡ (exits_at body label).after → own.breaks ≡ (exits_at body label).breaks → Small label (get_or ds label d).end own
small ns ts ds body label d own h f l a b =
    let n = as_long ns ts ds body h in
    let x = exits_small body label (omega arith) in
    let r = rule body label (omega arith) in
    let k = for_at ns ts ds (drafts body 0 None) label d (draft to_skip None 0) h l in
    let e = k.end_is in
    let g = r.ends in
    let x₀ = x.0 in
    let x₁ = x.1 in
    record { label_small = omega arith; end_small = omega arith; after_small = omega arith; breaks_small = omega arith }

-- ---- one statement
exits_same : (own : Exits) (x : PureExits) → own.after ≡ x.after → own.breaks ≡ x.breaks → (k : PureKind) (label end : ℕ) → linked k label end (exits own.after own.breaks) ≡ linked k label end x
exits_same own x a b k label end = ap (λ y. linked k label end (exits y own.breaks)) a ∙ ap (λ y. linked k label end (exits x.after y)) b

module _ (ns : List ArithNode) (ts : List TestNode) where
  viewed : (k : Kind) (p : PureKind) (label end : ℕ) (own : Exits) → KindFor ns ts k p → view ns ts (made_of k label end own) ≡ linked p label end (exits own.after own.breaks)
  viewed k (to_set x e) label end own h = ap (λ (q : Kind). view ns ts (made_of q label end own)) h.2 ∙ ap (λ y. assigns y (arith_at ns h.1) own.after) h.3 ∙ ap (λ y. assigns x y own.after) (arith_is ns h.1 e h.4)
  viewed k (to_sense x) label end own h = ap (λ (q : Kind). view ns ts (made_of q label end own)) h.1 ∙ ap (λ y. senses y own.after) h.2
  viewed k to_skip label end own h = ap (λ (q : Kind). view ns ts (made_of q label end own)) h
  viewed k to_break label end own h = ap (λ (q : Kind). view ns ts (made_of q label end own)) h
  viewed k (to_choose t m) label end own h = ap (λ (q : Kind). view ns ts (made_of q label end own)) h.1 ∙ ap (λ y. branches y (entry (label + 1) m own.after) (entry m end own.after)) (test_is ns ts h.0 t h.2)
  viewed k (to_repeat t) label end own h = ap (λ (q : Kind). view ns ts (made_of q label end own)) h.1 ∙ ap (λ y. branches y (entry (label + 1) end label) own.after) (test_is ns ts h.0 t h.2)

  stands : (k : Kind) (p : PureKind) (label end : ℕ) (own : Exits) → KindFor ns ts k p → statement_stands ns ts (made_of k label end own) ≡ true
  stands k (to_set x e) label end own h = ap (λ (q : Kind). statement_stands ns ts (made_of q label end own)) h.2 ∙ arith_found ns h.1 e h.4
  stands k (to_sense x) label end own h = ap (λ (q : Kind). statement_stands ns ts (made_of q label end own)) h.1
  stands k to_skip label end own h = ap (λ (q : Kind). statement_stands ns ts (made_of q label end own)) h
  stands k to_break label end own h = ap (λ (q : Kind). statement_stands ns ts (made_of q label end own)) h
  stands k (to_choose t m) label end own h = ap (λ (q : Kind). statement_stands ns ts (made_of q label end own)) h.1 ∙ test_found ns ts h.0 t h.2
  stands k (to_repeat t) label end own h = ap (λ (q : Kind). statement_stands ns ts (made_of q label end own)) h.1 ∙ test_found ns ts h.0 t h.2

  views_append : (ss us : List Statement) → views ns ts (ss ++ us) ≡ views ns ts ss ++ views ns ts us
  views_append [] us = refl
  views_append (s ∷ ss) us = ap (λ v. view ns ts s ∷ v) (views_append ss us)

  stand_append : (ss us : List Statement) → all_stand ns ts ss ≡ true → all_stand ns ts us ≡ true → all_stand ns ts (ss ++ us) ≡ true
  stand_append [] us p q = q
  stand_append (s ∷ ss) us p q = let r = and_parts (statement_stands ns ts s) (all_stand ns ts ss) p in and_from _ _ r.0 (stand_append ss us r.1 q)

  links_at : (ℓ : ℕ) (ps : List PureDraft) (xs : List PureExits) (j : ℕ) (i₀ : Instruction) → j < length ps → length ps ≡ length xs
      → get_or (links ℓ ps xs) j i₀ ≡ linked (get_or ps j (draft to_skip None 0)).kind (ℓ + j) (get_or ps j (draft to_skip None 0)).end (get_or xs j (exits 0 0))
  links_at ℓ [] xs j i₀ l e = absurd (omega arith)
  links_at ℓ (p ∷ ps) [] j i₀ l e = absurd (omega arith)
  links_at ℓ (p ∷ ps) (x ∷ xs) zero i₀ l e = ap (λ k. linked p.kind k p.end x) (omega arith)
  links_at ℓ (p ∷ ps) (x ∷ xs) (suc j) i₀ l e = links_at (ℓ + 1) ps xs j i₀ (omega arith) (omega arith) ∙ ap (λ k. linked (get_or ps j (draft to_skip None 0)).kind k (get_or ps j (draft to_skip None 0)).end (get_or xs j (exits 0 0))) (omega arith)

  table_at : (body : Part) (j : ℕ) → j < size body → get_or (table body 0 (size body) (size body)) j (goes 0) ≡ linked (draft_at body j).kind j (draft_at body j).end (exits_at body j)
  table_at body j l =
      let n = size body in
      ap (λ v. get_or v j (goes 0)) (table_links body 0 n n None)
      ∙ links_at 0 (drafts body 0 None) (all_exits body 0 n n) j (goes 0) (let e = drafts_length body 0 None in omega arith) (drafts_length body 0 None ∙ sym (exits_length body 0 n n))
      ∙ ap (λ k. linked (draft_at body j).kind k (draft_at body j).end (exits_at body j)) (omega arith)

  -- one statement more
  pub link_more : (ds : List Draft) (ss us : List Statement) (label : ℕ) (d : Draft) (own : Exits) (body : Part) → DraftsFor ns ts ds (drafts body 0 None) → label < length ds
      → us ≡ ss ++ made_of (get_or ds label d).kind label (get_or ds label d).end own ∷ [] → own.after ≡ (exits_at body label).after → own.breaks ≡ (exits_at body label).breaks
      → (views ns ts ss ≡ take label (table body 0 (size body) (size body))) × (all_stand ns ts ss ≡ true)
      → (views ns ts us ≡ take (label + 1) (table body 0 (size body) (size body))) × (all_stand ns ts us ≡ true)
  link_more ds ss us label d own body h l u a b v =
      let n = as_long ns ts ds body h in
      let f = for_at ns ts ds (drafts body 0 None) label d (draft to_skip None 0) h l in
      let t = length_table body 0 (size body) (size body) in
      let s = made_of (get_or ds label d).kind label (get_or ds label d).end own in
      let w : view ns ts s ≡ get_or (table body 0 (size body) (size body)) label (goes 0) =
      viewed (get_or ds label d).kind (draft_at body label).kind label (get_or ds label d).end own f.kind_is ∙ exits_same own (exits_at body label) a b (draft_at body label).kind label (get_or ds label d).end
      ∙ ap (λ e. linked (draft_at body label).kind label e (exits_at body label)) f.end_is ∙ sym (table_at body label (omega arith)) in (
        ap (views ns ts) u ∙ views_append ss (s ∷ []) ∙ ap (λ x. x ++ view ns ts s ∷ []) v.0 ∙ ap (λ x. take label (table body 0 (size body) (size body)) ++ x ∷ []) w
            ∙ sym (take_more (table body 0 (size body) (size body)) label (goes 0) (omega arith)),
        ap (all_stand ns ts) u ∙ stand_append ss (s ∷ []) v.1 (and_from _ _ (stands (get_or ds label d).kind (draft_at body label).kind label (get_or ds label d).end own f.kind_is) refl),
      )

  pub link_all : (ds : List Draft) (ss : List Statement) (label : ℕ) (body : Part) → DraftsFor ns ts ds (drafts body 0 None) → length ds ≤ label
      → (views ns ts ss ≡ take label (table body 0 (size body) (size body))) × (all_stand ns ts ss ≡ true) → (views ns ts ss ≡ table body 0 (size body) (size body)) × (all_stand ns ts ss ≡ true)
  link_all ds ss label body h l v = let n = as_long ns ts ds body h in let t = length_table body 0 (size body) (size body) in (v.0 ∙ take_all label (table body 0 (size body) (size body)) (omega arith), v.1)

-- ---- the table leads to labels up to the exit
entry_small : (f e a n : ℕ) → (f < e → f ≤ n) → a ≤ n → entry f e a ≤ n
entry_small f e a n p q = elim (cases_lt f e) [ inl y ↦ subst (λ z. cond z f a ≤ n) (sym (lt-ltb f e y)) (p y) | inr y ↦ subst (λ z. cond z f a ≤ n) (sym (le-ltb f e y)) q ]

leads_linked : (k : PureKind) (label end n : ℕ) (x : PureExits) → x.after ≤ n → x.breaks ≤ n → label < n → end ≤ n → leads_to n (linked k label end x) ≡ true
leads_linked (to_set v e) label end n x a b l h = le-leb x.after n a
leads_linked (to_sense v) label end n x a b l h = le-leb x.after n a
leads_linked to_skip label end n x a b l h = le-leb x.after n a
leads_linked to_break label end n x a b l h = le-leb x.breaks n b
leads_linked (to_choose t m) label end n x a b l h = and_from _ _ (le-leb (entry (label + 1) m x.after) n (entry_small (label + 1) m x.after n (λ y. omega arith) a)) (le-leb (entry m end x.after) n (entry_small m end x.after n (λ y. omega arith) a))
leads_linked (to_repeat t) label end n x a b l h = and_from _ _ (le-leb (entry (label + 1) end label) n (entry_small (label + 1) end label n (λ y. omega arith) (omega arith))) (le-leb x.after n a)

lead_all : (n : ℕ) (is : List Instruction) → ((j : ℕ) → j < length is → leads_to n (get_or is j (goes 0)) ≡ true) → lead_to n is ≡ true
lead_all n [] h = refl
lead_all n (i ∷ is) h = and_from _ _ (h 0 (omega arith)) (lead_all n is (λ j l. h (suc j) (omega arith)))

pub table_leads : (body : Part) → lead_to (size body) (table body 0 (size body) (size body)) ≡ true
table_leads body =
    let t = length_table body 0 (size body) (size body) in
    lead_all (size body) (table body 0 (size body) (size body))
    (λ j l. let x = exits_small body j (omega arith) in let r = rule body j (omega arith) in
    ap (leads_to (size body)) (table_at [] [] body j (omega arith)) ∙ leads_linked (draft_at body j).kind j (draft_at body j).end (size body) (exits_at body j) x.0 x.1 (omega arith) r.ends)
