-- Statements in label order with their owners and the ends of their labels, and how the labels after them follow. Assumes nothing.
use Rattle.std.proofs.Common.{◌≡◌, ℕ, ◌+◌, ◌<◌, ◌≤◌, cond, ltb, List, [], ◌∷◌, ◌++◌, length, Some, None, Option, sym, refl, ap, ◌∙◌, subst, inl, inr, arith, length-append}
use Rattle.std.proofs.lemmas.Bool.{cases_eq, cases_lt, lt-ltb, le-ltb}
use Rattle.text.specs.Expressions.{Arith, Test}
use Rattle.traces.specs.Programs.{Part, assign, sense, skip, if_then, if_else, while, break, block, empty, list, size, begins}
use Rattle.traces.specs.Tables.{Instruction, assigns, senses, goes, branches, table}
use Rattle.traces.proofs.Walks.{begins_is}

-- what a statement is, before the labels that it goes on to are known
pub data Kind : Type 0 where
  to_set : ℕ → Arith → Kind
  to_sense : ℕ → Kind
  to_skip : Kind
  to_break : Kind
  -- the label at which the part for the test's failing begins
  to_choose : Test → ℕ → Kind
  to_repeat : Test → Kind

pub record Draft : Type 0 where
  pub kind : Kind
  -- the if or while that it is a part of, by its label
  pub owner : Option ℕ
  -- the label behind its own labels
  pub end : ℕ

abbrev pub draft : Kind → Option ℕ → ℕ → Draft
draft k o e = record { kind = k; owner = o; end = e }

-- the drafts of a component with labels from ℓ on
abbrev pub drafts : Part → ℕ → Option ℕ → List Draft
drafts (assign x e) ℓ o = draft (to_set x e) o (ℓ + 1) ∷ []
drafts (sense x) ℓ o = draft (to_sense x) o (ℓ + 1) ∷ []
drafts skip ℓ o = draft to_skip o (ℓ + 1) ∷ []
drafts (if_then t s) ℓ o = draft (to_choose t (ℓ + 1 + size s)) o (ℓ + 1 + size s) ∷ drafts s (ℓ + 1) (Some ℓ)
drafts (if_else t s u) ℓ o = draft (to_choose t (ℓ + 1 + size s)) o (ℓ + 1 + size s + size u) ∷ (drafts s (ℓ + 1) (Some ℓ) ++ drafts u (ℓ + 1 + size s) (Some ℓ))
drafts (while t s) ℓ o = draft (to_repeat t) o (ℓ + 1 + size s) ∷ drafts s (ℓ + 1) (Some ℓ)
drafts break ℓ o = draft to_break o (ℓ + 1) ∷ []
drafts (block s) ℓ o = drafts s ℓ o
drafts empty ℓ o = []
drafts (list s u) ℓ o = drafts s ℓ o ++ drafts u (ℓ + size s) o

-- the label after a statement, and the label that its breaks go to
pub record Exits : Type 0 where
  pub after : ℕ
  pub breaks : ℕ

abbrev pub exits : ℕ → ℕ → Exits
exits a b = record { after = a; breaks = b }

abbrev pub all_exits : Part → ℕ → ℕ → ℕ → List Exits
all_exits (assign x e) ℓ a b = exits a b ∷ []
all_exits (sense x) ℓ a b = exits a b ∷ []
all_exits skip ℓ a b = exits a b ∷ []
all_exits (if_then t s) ℓ a b = exits a b ∷ all_exits s (ℓ + 1) a b
all_exits (if_else t s u) ℓ a b = exits a b ∷ (all_exits s (ℓ + 1) a b ++ all_exits u (ℓ + 1 + size s) a b)
all_exits (while t s) ℓ a b = exits a b ∷ all_exits s (ℓ + 1) ℓ a
all_exits break ℓ a b = exits a b ∷ []
all_exits (block s) ℓ a b = all_exits s ℓ a b
all_exits empty ℓ a b = []
all_exits (list s u) ℓ a b = all_exits s ℓ (begins u (ℓ + size s) a) b ++ all_exits u (ℓ + size s) a b

-- the label where a part begins that has the labels from ℓ to e, or the label a after it
abbrev pub entry : ℕ → ℕ → ℕ → ℕ
entry ℓ e a = cond (ltb ℓ e) ℓ a

-- the instruction of a draft at its label, with its exits
abbrev pub linked : Kind → ℕ → ℕ → Exits → Instruction
linked (to_set x e) ℓ n x' = assigns x e x'.after
linked (to_sense x) ℓ n x' = senses x x'.after
linked to_skip ℓ n x' = goes x'.after
linked to_break ℓ n x' = goes x'.breaks
linked (to_choose t m) ℓ n x' = branches t (entry (ℓ + 1) m x'.after) (entry m n x'.after)
linked (to_repeat t) ℓ n x' = branches t (entry (ℓ + 1) n ℓ) x'.after

-- all instructions from label ℓ on
abbrev pub links : ℕ → List Draft → List Exits → List Instruction
links ℓ [] xs = []
links ℓ (d ∷ ds) [] = []
links ℓ (d ∷ ds) (x ∷ xs) = linked d.kind ℓ d.end x ∷ links (ℓ + 1) ds xs

pub drafts_length : (s : Part) (ℓ : ℕ) (o : Option ℕ) → length (drafts s ℓ o) ≡ size s
drafts_length (assign x e) ℓ o = refl
drafts_length (sense x) ℓ o = refl
drafts_length skip ℓ o = refl
drafts_length (if_then t s) ℓ o = omega (arith, drafts_length s (ℓ + 1) (Some ℓ))
drafts_length (if_else t s u) ℓ o =
    omega (arith, drafts_length s (ℓ + 1) (Some ℓ), drafts_length u (ℓ + 1 + size s) (Some ℓ), length-append (drafts s (ℓ + 1) (Some ℓ)) (drafts u (ℓ + 1 + size s) (Some ℓ)))
drafts_length (while t s) ℓ o = omega (arith, drafts_length s (ℓ + 1) (Some ℓ))
drafts_length break ℓ o = refl
drafts_length (block s) ℓ o = drafts_length s ℓ o
drafts_length empty ℓ o = refl
drafts_length (list s u) ℓ o = omega (arith, drafts_length s ℓ o, drafts_length u (ℓ + size s) o, length-append (drafts s ℓ o) (drafts u (ℓ + size s) o))

pub exits_length : (s : Part) (ℓ a b : ℕ) → length (all_exits s ℓ a b) ≡ size s
exits_length (assign x e) ℓ a b = refl
exits_length (sense x) ℓ a b = refl
exits_length skip ℓ a b = refl
exits_length (if_then t s) ℓ a b = omega (arith, exits_length s (ℓ + 1) a b)
exits_length (if_else t s u) ℓ a b =
    omega (arith, exits_length s (ℓ + 1) a b, exits_length u (ℓ + 1 + size s) a b, length-append (all_exits s (ℓ + 1) a b) (all_exits u (ℓ + 1 + size s) a b))
exits_length (while t s) ℓ a b = omega (arith, exits_length s (ℓ + 1) ℓ a)
exits_length break ℓ a b = refl
exits_length (block s) ℓ a b = exits_length s ℓ a b
exits_length empty ℓ a b = refl
exits_length (list s u) ℓ a b =
    let c = begins u (ℓ + size s) a in
    omega (arith, exits_length s ℓ c b, exits_length u (ℓ + size s) a b, length-append (all_exits s ℓ c b) (all_exits u (ℓ + size s) a b))

links_append : (ℓ m : ℕ) (ds es : List Draft) (xs ys : List Exits) → length ds ≡ length xs → m ≡ ℓ + length ds → links ℓ (ds ++ es) (xs ++ ys) ≡ links ℓ ds xs ++ links m es ys
links_append ℓ m [] es [] ys e f = ap (λ k. links k es ys) (omega arith)
links_append ℓ m [] es (x ∷ xs) ys e f = absurd (omega arith)
links_append ℓ m (d ∷ ds) es [] ys e f = absurd (omega arith)
links_append ℓ m (d ∷ ds) es (x ∷ xs) ys e f = ap (λ is. linked d.kind ℓ d.end x ∷ is) (links_append (ℓ + 1) m ds es xs ys (omega arith) (omega arith))

-- where a component begins
begins_entry : (s : Part) (ℓ a : ℕ) → begins s ℓ a ≡ entry ℓ (ℓ + size s) a
begins_entry s ℓ a =
    elim (begins_is s ℓ a) [
      | inl h ↦ h.0 ∙ sym (ap (λ b. cond b ℓ a) (lt-ltb ℓ (ℓ + size s) (let k = h.1 in omega arith)))
      | inr h ↦ h.0 ∙ sym (ap (λ b. cond b ℓ a) (le-ltb ℓ (ℓ + size s) (let k = h.1 in omega arith)))
    ]

nowhere : (e a : ℕ) → entry e e a ≡ a
nowhere e a = ap (λ b. cond b e a) (le-ltb e e (omega arith))

cons_is : {A : Type 0} (x y : A) (xs ys : List A) → x ≡ y → xs ≡ ys → x ∷ xs ≡ y ∷ ys
cons_is x y xs ys e f = ap (λ z. z ∷ xs) e ∙ ap (λ zs. y ∷ zs) f

append_is : {A : Type 0} (qs bs cs ds : List A) → qs ≡ bs → cs ≡ ds → qs ++ cs ≡ bs ++ ds
append_is qs bs cs ds e f = ap (λ zs. zs ++ cs) e ∙ ap (λ zs. bs ++ zs) f

-- the instructions of a component are its drafts, linked with its exits
pub table_links : (s : Part) (ℓ a b : ℕ) (o : Option ℕ) → table s ℓ a b ≡ links ℓ (drafts s ℓ o) (all_exits s ℓ a b)
table_links (assign x e) ℓ a b o = refl
table_links (sense x) ℓ a b o = refl
table_links skip ℓ a b o = refl
table_links (if_then t s) ℓ a b o =
    cons_is _ _ _ _ (ap (λ l. branches t l a) (begins_entry s (ℓ + 1) a) ∙ ap (λ l. branches t (entry (ℓ + 1) (ℓ + 1 + size s) a) l) (sym (nowhere (ℓ + 1 + size s) a))) (table_links s (ℓ + 1) a b (Some ℓ))
table_links (if_else t s u) ℓ a b o =
    cons_is _ _ _ _ (ap (λ l. branches t l (begins u (ℓ + 1 + size s) a)) (begins_entry s (ℓ + 1) a) ∙ ap (λ l. branches t (entry (ℓ + 1) (ℓ + 1 + size s) a) l) (begins_entry u (ℓ + 1 + size s) a))
    (append_is _ _ _ _ (table_links s (ℓ + 1) a b (Some ℓ)) (table_links u (ℓ + 1 + size s) a b (Some ℓ))
    ∙ sym (links_append (ℓ + 1) (ℓ + 1 + size s) (drafts s (ℓ + 1) (Some ℓ)) (drafts u (ℓ + 1 + size s) (Some ℓ)) (all_exits s (ℓ + 1) a b) (all_exits u (ℓ + 1 + size s) a b)
    (drafts_length s (ℓ + 1) (Some ℓ) ∙ sym (exits_length s (ℓ + 1) a b)) (let h = drafts_length s (ℓ + 1) (Some ℓ) in omega arith)))
table_links (while t s) ℓ a b o = cons_is _ _ _ _ (ap (λ l. branches t l a) (begins_entry s (ℓ + 1) ℓ)) (table_links s (ℓ + 1) ℓ a (Some ℓ))
table_links break ℓ a b o = refl
table_links (block s) ℓ a b o = table_links s ℓ a b o
table_links empty ℓ a b o = refl
table_links (list s u) ℓ a b o =
    append_is _ _ _ _ (table_links s ℓ (begins u (ℓ + size s) a) b o) (table_links u (ℓ + size s) a b o)
    ∙ sym (links_append ℓ (ℓ + size s) (drafts s ℓ o) (drafts u (ℓ + size s) o) (all_exits s ℓ (begins u (ℓ + size s) a) b) (all_exits u (ℓ + size s) a b)
    (drafts_length s ℓ o ∙ sym (exits_length s ℓ (begins u (ℓ + size s) a) b)) (let h = drafts_length s ℓ o in omega arith))

-- ---- the exits of a statement follow from those of its owner
-- the part that a statement stands in: the label behind it, the label after it, and the label that its breaks go to
pub record Around : Type 0 where
  pub limit : ℕ
  pub after : ℕ
  pub breaks : ℕ

abbrev pub around : ℕ → ℕ → ℕ → Around
around l a b = record { limit = l; after = a; breaks = b }

-- the part of an if or while with these exits that the label ℓ stands in
abbrev pub part_of : ℕ → Kind → ℕ → Exits → ℕ → Around
part_of w (to_set x e) n x' ℓ = around n x'.after x'.breaks
part_of w (to_sense x) n x' ℓ = around n x'.after x'.breaks
part_of w to_skip n x' ℓ = around n x'.after x'.breaks
part_of w to_break n x' ℓ = around n x'.after x'.breaks
part_of w (to_choose t m) n x' ℓ = around (cond (ltb ℓ m) m n) x'.after x'.breaks
part_of w (to_repeat t) n x' ℓ = around n w x'.after

-- the exits of a statement in its part: what is behind it in the part, or what is after the part
abbrev pub settled : Draft → Around → Exits
settled d p = exits (entry d.end p.limit p.after) p.breaks

-- an owner stands before what it owns
abbrev pub Owned : Option ℕ → ℕ → Type 0
Owned None ℓ = Unit {0}
Owned (Some w) ℓ = w < ℓ

module _ (D : ℕ → Draft) (X : ℕ → Exits) (n : ℕ) where
  -- the part that a label with this owner stands in: the whole program where it has none
  abbrev pub around_of : Option ℕ → ℕ → Around
  around_of None ℓ = around n n n
  around_of (Some w) ℓ = part_of w (D w).kind (D w).end (X w) ℓ

  pub record Ruled (ℓ : ℕ) : Type 0 where
    pub exits_are : X ℓ ≡ settled (D ℓ) (around_of (D ℓ).owner ℓ)
    pub owned : Owned (D ℓ).owner ℓ
    pub ends : (D ℓ).end ≤ n

  -- the drafts and exits stand at the labels from ℓ on
  abbrev pub Drafted : ℕ → List Draft → Type 0
  Drafted ℓ [] = Unit {0}
  Drafted ℓ (d ∷ ds) = (D ℓ ≡ d) × Drafted (ℓ + 1) ds

  abbrev pub Exited : ℕ → List Exits → Type 0
  Exited ℓ [] = Unit {0}
  Exited ℓ (x ∷ xs) = (X ℓ ≡ x) × Exited (ℓ + 1) xs

  drafted_left : (ℓ : ℕ) (ds es : List Draft) → Drafted ℓ (ds ++ es) → Drafted ℓ ds
  drafted_left ℓ [] es p = tt
  drafted_left ℓ (d ∷ ds) es p = (p.0, drafted_left (ℓ + 1) ds es p.1)

  drafted_right : (ℓ m : ℕ) (ds es : List Draft) → m ≡ ℓ + length ds → Drafted ℓ (ds ++ es) → Drafted m es
  drafted_right ℓ m [] es e p = let z : ℓ ≡ m = omega arith in subst (λ l. Drafted l es) z p
  drafted_right ℓ m (d ∷ ds) es e p = drafted_right (ℓ + 1) m ds es (omega arith) p.1

  exited_left : (ℓ : ℕ) (ds es : List Exits) → Exited ℓ (ds ++ es) → Exited ℓ ds
  exited_left ℓ [] es p = tt
  exited_left ℓ (d ∷ ds) es p = (p.0, exited_left (ℓ + 1) ds es p.1)

  exited_right : (ℓ m : ℕ) (ds es : List Exits) → m ≡ ℓ + length ds → Exited ℓ (ds ++ es) → Exited m es
  exited_right ℓ m [] es e p = let z : ℓ ≡ m = omega arith in subst (λ l. Exited l es) z p
  exited_right ℓ m (d ∷ ds) es e p = exited_right (ℓ + 1) m ds es (omega arith) p.1

  -- the first statement of a component in its part
  first_ruled : (ℓ e : ℕ) (k : Kind) (o : Option ℕ) (L P Q a b : ℕ) → D ℓ ≡ draft k o e → X ℓ ≡ exits a b → around_of o ℓ ≡ around L P Q → Owned o ℓ → e ≤ n → a ≡ entry e L P → b ≡ Q → Ruled ℓ
  first_ruled ℓ e k o L P Q a b d x c w h f g = record {
    exits_are = x ∙ ap (λ y. exits y b) f ∙ ap (λ y. exits (entry e L P) y) g ∙ sym (ap (λ (y : Draft). settled y (around_of y.owner ℓ)) d ∙ ap (settled (draft k o e)) c);
    owned = subst (λ (y : Draft). Owned y.owner ℓ) (sym d) w;
    ends = subst (λ (y : Draft). y.end ≤ n) (sym d) h;
  }

  pub record Inside (ℓ hi : ℕ) (o : Option ℕ) (L P Q a b : ℕ) : Type 0 where
    pub context : (l : ℕ) → ℓ ≤ l → l < hi → around_of o l ≡ around L P Q
    pub owner : Owned o ℓ
    pub limit : hi ≤ L
    pub bound : hi ≤ n
    pub after : a ≡ entry hi L P
    pub breaks : b ≡ Q

  abbrev pub AllRuled : ℕ → ℕ → Type 0
  AllRuled ℓ hi = (l : ℕ) → ℓ ≤ l → l < hi → Ruled l

  one_ruled : (ℓ : ℕ) (k : Kind) (o : Option ℕ) (L P Q a b : ℕ) → D ℓ ≡ draft k o (ℓ + 1) → X ℓ ≡ exits a b → Inside ℓ (ℓ + 1) o L P Q a b → AllRuled ℓ (ℓ + 1)
  one_ruled ℓ k o L P Q a b d x i l g h =
      let e : ℓ ≡ l = omega arith in
      subst Ruled e (first_ruled ℓ (ℓ + 1) k o L P Q a b d x (i.context ℓ (omega arith) (omega arith)) i.owner i.bound i.after i.breaks)

  -- the part for the test's holding, and the one for its failing
  chosen_first : (ℓ m e a b : ℕ) (t : Test) (o : Option ℕ) → D ℓ ≡ draft (to_choose t m) o e → X ℓ ≡ exits a b → (l : ℕ) → l < m → around_of (Some ℓ) l ≡ around m a b
  chosen_first ℓ m e a b t o d x l h =
      ap (λ (y : Draft). part_of ℓ y.kind y.end (X ℓ) l) d ∙ ap (λ y. part_of ℓ (to_choose t m) e y l) x ∙ ap (λ c. around (cond c m e) a b) (lt-ltb l m h)

  chosen_second : (ℓ m e a b : ℕ) (t : Test) (o : Option ℕ) → D ℓ ≡ draft (to_choose t m) o e → X ℓ ≡ exits a b → (l : ℕ) → m ≤ l → around_of (Some ℓ) l ≡ around e a b
  chosen_second ℓ m e a b t o d x l h =
      ap (λ (y : Draft). part_of ℓ y.kind y.end (X ℓ) l) d ∙ ap (λ y. part_of ℓ (to_choose t m) e y l) x ∙ ap (λ c. around (cond c m e) a b) (le-ltb l m h)

  repeated : (ℓ e a b : ℕ) (t : Test) (o : Option ℕ) → D ℓ ≡ draft (to_repeat t) o e → X ℓ ≡ exits a b → (l : ℕ) → around_of (Some ℓ) l ≡ around e ℓ a
  repeated ℓ e a b t o d x l = ap (λ (y : Draft). part_of ℓ y.kind y.end (X ℓ) l) d ∙ ap (λ y. part_of ℓ (to_repeat t) e y l) x

  pub ruled : (s : Part) (ℓ : ℕ) (o : Option ℕ) (L P Q a b : ℕ) → Drafted ℓ (drafts s ℓ o) → Exited ℓ (all_exits s ℓ a b) → Inside ℓ (ℓ + size s) o L P Q a b → AllRuled ℓ (ℓ + size s)
  ruled (assign x e) ℓ o L P Q a b d x' i l g h = one_ruled ℓ _ o L P Q a b d.0 x'.0 i l g h
  ruled (sense x) ℓ o L P Q a b d x' i l g h = one_ruled ℓ _ o L P Q a b d.0 x'.0 i l g h
  ruled skip ℓ o L P Q a b d x' i l g h = one_ruled ℓ _ o L P Q a b d.0 x'.0 i l g h
  ruled break ℓ o L P Q a b d x' i l g h = one_ruled ℓ _ o L P Q a b d.0 x'.0 i l g h
  ruled (if_then t s) ℓ o L P Q a b d x' i l g h =
      let e = ℓ + 1 + size s in
      let same : ℓ + (1 + size s) ≡ e = omega arith in
      elim (cases_eq l ℓ) [
        | inl z ↦ subst Ruled (sym z) (first_ruled ℓ e (to_choose t e) o L P Q a b d.0 x'.0 (i.context ℓ (omega arith) (omega arith)) i.owner (let y = i.bound in omega arith) (i.after ∙ ap (λ k. entry k L P) same) i.breaks)
        | inr z ↦ ruled s (ℓ + 1) (Some ℓ) e a b a b d.1 x'.1
            (record { context = λ k p q. chosen_first ℓ e e a b t o d.0 x'.0 k q; owner = omega arith; limit = omega arith; bound = (let y = i.bound in omega arith); after = sym (nowhere e a); breaks = refl }) l (omega arith) (omega arith)
      ]
  ruled (if_else t s u) ℓ o L P Q a b d x' i l g h =
      let m = ℓ + 1 + size s in
      let e = m + size u in
      let same : ℓ + (1 + (size s + size u)) ≡ e = omega arith in
      let y = i.bound in
      let ds = drafted_left (ℓ + 1) (drafts s (ℓ + 1) (Some ℓ)) (drafts u m (Some ℓ)) d.1 in
      let du = drafted_right (ℓ + 1) m (drafts s (ℓ + 1) (Some ℓ)) (drafts u m (Some ℓ)) (let k = drafts_length s (ℓ + 1) (Some ℓ) in omega arith) d.1 in
      let xs = exited_left (ℓ + 1) (all_exits s (ℓ + 1) a b) (all_exits u m a b) x'.1 in
      let xu = exited_right (ℓ + 1) m (all_exits s (ℓ + 1) a b) (all_exits u m a b) (let k = exits_length s (ℓ + 1) a b in omega arith) x'.1 in
      elim (cases_eq l ℓ) [
        | inl z ↦ subst Ruled (sym z) (first_ruled ℓ e (to_choose t m) o L P Q a b d.0 x'.0 (i.context ℓ (omega arith) (omega arith)) i.owner (omega arith) (i.after ∙ ap (λ k. entry k L P) same) i.breaks)
        | inr z ↦ elim (cases_lt l m) [
          | inl q ↦ ruled s (ℓ + 1) (Some ℓ) m a b a b ds xs
              (record { context = λ k p r. chosen_first ℓ m e a b t o d.0 x'.0 k r; owner = omega arith; limit = omega arith; bound = omega arith; after = sym (nowhere m a); breaks = refl }) l (omega arith) q
          | inr q ↦ ruled u m (Some ℓ) e a b a b du xu
              (record { context = λ k p r. chosen_second ℓ m e a b t o d.0 x'.0 k p; owner = omega arith; limit = omega arith; bound = omega arith; after = sym (nowhere e a); breaks = refl }) l q (omega arith)
        ]
      ]
  ruled (while t s) ℓ o L P Q a b d x' i l g h =
      let e = ℓ + 1 + size s in
      let same : ℓ + (1 + size s) ≡ e = omega arith in
      let y = i.bound in
      elim (cases_eq l ℓ) [
        | inl z ↦ subst Ruled (sym z) (first_ruled ℓ e (to_repeat t) o L P Q a b d.0 x'.0 (i.context ℓ (omega arith) (omega arith)) i.owner (omega arith) (i.after ∙ ap (λ k. entry k L P) same) i.breaks)
        | inr z ↦ ruled s (ℓ + 1) (Some ℓ) e ℓ a ℓ a d.1 x'.1
            (record { context = λ k p q. repeated ℓ e a b t o d.0 x'.0 k; owner = omega arith; limit = omega arith; bound = omega arith; after = sym (nowhere e ℓ); breaks = refl }) l (omega arith) (omega arith)
      ]
  ruled (block s) ℓ o L P Q a b d x' i l g h = ruled s ℓ o L P Q a b d x' i l g h
  ruled empty ℓ o L P Q a b d x' i l g h = absurd (omega arith)
  ruled (list s u) ℓ o L P Q a b d x' i l g h =
      let m = ℓ + size s in
      let c = begins u m a in
      let y = i.bound in
      let z = i.limit in
      let ds = drafted_left ℓ (drafts s ℓ o) (drafts u m o) d in
      let du = drafted_right ℓ m (drafts s ℓ o) (drafts u m o) (let k = drafts_length s ℓ o in omega arith) d in
      let xs = exited_left ℓ (all_exits s ℓ c b) (all_exits u m a b) x' in
      let xu = exited_right ℓ m (all_exits s ℓ c b) (all_exits u m a b) (let k = exits_length s ℓ c b in omega arith) x' in
      let same : ℓ + (size s + size u) ≡ m + size u = omega arith in
      elim (cases_lt l m) [
        | inl q ↦ ruled s ℓ o L P Q c b ds xs
            (record { context = λ k p r. i.context k p (omega arith); owner = i.owner; limit = omega arith; bound = omega arith; after = before u m a L P (i.after ∙ ap (λ k. entry k L P) same) (omega arith); breaks = i.breaks }) l g q
        | inr q ↦ ruled u m o L P Q a b du xu
            (record { context = λ k p r. i.context k (omega arith) (omega arith); owner = later o ℓ m (omega arith) i.owner; limit = omega arith; bound = omega arith; after = i.after ∙ ap (λ k. entry k L P) same; breaks = i.breaks }) l q (omega arith)
      ]
    where
      -- what is after a list that has a statement behind it
      before : (u : Part) (m a L P : ℕ) → a ≡ entry (m + size u) L P → m + size u ≤ L → begins u m a ≡ entry m L P
      before u m a L P e h =
          elim (begins_is u m a) [
            | inl k ↦ k.0 ∙ sym (ap (λ b. cond b m P) (lt-ltb m L (let j = k.1 in omega arith)))
            | inr k ↦ k.0 ∙ e ∙ ap (λ j. entry j L P) (let j = k.1 in omega arith)
          ]

      later : (o : Option ℕ) (ℓ m : ℕ) → ℓ ≤ m → Owned o ℓ → Owned o m
      later None ℓ m h w = tt
      later (Some v) ℓ m h w = omega arith
