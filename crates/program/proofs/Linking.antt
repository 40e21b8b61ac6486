-- The exits that are computed are those of the tree. Assumes nothing.
use Rattle.std.proofs.Common.{◌≡◌, ℕ, zero, suc, ◌+◌, ◌<◌, cond, List, [], ◌∷◌, length, get_or, Some, None, Option, sym, refl, ap, ◌∙◌, subst, arith}
use Rattle.std.proofs.lemmas.Bool.{le-ltb}
use Rattle.text.specs.declared.node.ArithNode.{ArithNode}
use Rattle.text.specs.declared.node.TestNode.{TestNode}
use Rattle.traces.specs.Programs.{Part, size}
use Rattle.traces.proofs.Links.{to_set, to_sense, to_skip, to_break, to_choose, to_repeat, Kind as PureKind, Draft as PureDraft, drafts, all_exits, exits, draft, Exits as PureExits, around_of, part_of, entry, Owned, Ruled, ruled, Drafted as PureDrafted, Exited, drafts_length}
use Rattle.program.specs.declared.draft.Kind.{Kind}
use Rattle.program.specs.declared.draft.Draft.{Draft}
use Rattle.program.specs.declared.exits.Exits.{Exits}
use Rattle.program.specs.declared.exits.Around.{Around}
use Rattle.program.specs.Outcomes.{KindFor, DraftFor, DraftsFor}
use Rattle.program.proofs.Parts.{drafts_long}
use Rattle.program.specs.Linked.{Drafted, OwnerAt, SameExits, SameAround, draft_at, exits_at, around_at, enclosed_kind, enclosed_by, owner_of}

drafted_by : (D : ℕ → PureDraft) (X : ℕ → PureExits) (n : ℕ) (ps : List PureDraft) (ℓ : ℕ) → ((i : ℕ) → i < length ps → D (ℓ + i) ≡ get_or ps i (draft to_skip None 0)) → PureDrafted D X n ℓ ps
drafted_by D X n [] ℓ h = tt
drafted_by D X n (p ∷ ps) ℓ h = (
  (let e : ℓ + 0 ≡ ℓ = omega arith in subst (λ k. D k ≡ p) e (h 0 (omega arith))),
  drafted_by D X n ps (ℓ + 1) (λ i x. let e : ℓ + suc i ≡ ℓ + 1 + i = omega arith in subst (λ k. D k ≡ get_or ps i (draft to_skip None 0)) e (h (suc i) (omega arith))),
)

exited_by : (D : ℕ → PureDraft) (X : ℕ → PureExits) (n : ℕ) (ps : List PureExits) (ℓ : ℕ) → ((i : ℕ) → i < length ps → X (ℓ + i) ≡ get_or ps i (exits 0 0)) → Exited D X n ℓ ps
exited_by D X n [] ℓ h = tt
exited_by D X n (p ∷ ps) ℓ h = (
  (let e : ℓ + 0 ≡ ℓ = omega arith in subst (λ k. X k ≡ p) e (h 0 (omega arith))),
  exited_by D X n ps (ℓ + 1) (λ i x. let e : ℓ + suc i ≡ ℓ + 1 + i = omega arith in subst (λ k. X k ≡ get_or ps i (exits 0 0)) e (h (suc i) (omega arith))),
)

-- the rule at each label of a list of statements
pub rule : (body : Part) (j : ℕ) → j < size body → Ruled (draft_at body) (exits_at body) (size body) j
rule body j h =
    let n = size body in
    ruled (draft_at body) (exits_at body) n body 0 None n n n n n
    (drafted_by (draft_at body) (exits_at body) n (drafts body 0 None) 0 (λ i x. ap (draft_at body) (omega arith)))
    (exited_by (draft_at body) (exits_at body) n (all_exits body 0 n n) 0 (λ i x. ap (exits_at body) (omega arith)))
    (record { context = λ l p q. refl; owner = tt; limit = omega arith; bound = omega arith; after = sym (ap (λ b. cond b (0 + size body) n) (le-ltb (0 + size body) n (omega arith))); breaks = refl })
    j (omega arith) (omega arith)

module _ (ns : List ArithNode) (ts : List TestNode) where
  pub for_at : (ds : List Draft) (ps : List PureDraft) (j : ℕ) (d₀ : Draft) (p₀ : PureDraft) → DraftsFor ns ts ds ps → j < length ds → DraftFor ns ts (get_or ds j d₀) (get_or ps j p₀)
  for_at [] ps j d₀ p₀ h l = absurd (omega arith)
  for_at (d ∷ ds) [] j d₀ p₀ h l = absurd h
  for_at (d ∷ ds) (p ∷ ps) zero d₀ p₀ h l = h.0
  for_at (d ∷ ds) (p ∷ ps) (suc j) d₀ p₀ h l = for_at ds ps j d₀ p₀ h.1 (omega arith)

  owner_at : (ds : List Draft) (ps : List PureDraft) (j : ℕ) (p₀ : PureDraft) → DraftsFor ns ts ds ps → j < length ds → owner_of ds j ≡ (get_or ps j p₀).owner
  owner_at [] ps j p₀ h l = absurd (omega arith)
  owner_at (d ∷ ds) [] j p₀ h l = absurd h
  owner_at (d ∷ ds) (p ∷ ps) zero p₀ h l = h.0.owner_is
  owner_at (d ∷ ds) (p ∷ ps) (suc j) p₀ h l = owner_at ds ps j p₀ h.1 (omega arith)

  pub as_long : (ds : List Draft) (body : Part) → DraftsFor ns ts ds (drafts body 0 None) → length ds ≡ size body
  as_long ds body h = drafts_long ns ts ds (drafts body 0 None) h ∙ drafts_length body 0 None

  -- the part of an owner
  enclosed_is : (k : Kind) (p : PureKind) (end owner label : ℕ) (own : Exits) (x : PureExits) → KindFor ns ts k p → SameExits own x → SameAround (enclosed_kind k end owner own label) (part_of owner p end x label)
  enclosed_is k (to_set v e) end owner label own x h a = subst (λ (q : Kind). SameAround (enclosed_kind q end owner own label) (part_of owner (to_set v e) end x label)) (sym h.2) (refl, a.0, a.1)
  enclosed_is k (to_sense v) end owner label own x h a = subst (λ (q : Kind). SameAround (enclosed_kind q end owner own label) (part_of owner (to_sense v) end x label)) (sym h.1) (refl, a.0, a.1)
  enclosed_is k to_skip end owner label own x h a = subst (λ (q : Kind). SameAround (enclosed_kind q end owner own label) (part_of owner to_skip end x label)) (sym h) (refl, a.0, a.1)
  enclosed_is k to_break end owner label own x h a = subst (λ (q : Kind). SameAround (enclosed_kind q end owner own label) (part_of owner to_break end x label)) (sym h) (refl, a.0, a.1)
  enclosed_is k (to_choose t m) end owner label own x h a = subst (λ (q : Kind). SameAround (enclosed_kind q end owner own label) (part_of owner (to_choose t m) end x label)) (sym h.1) (refl, a.0, a.1)
  enclosed_is k (to_repeat t) end owner label own x h a = subst (λ (q : Kind). SameAround (enclosed_kind q end owner own label) (part_of owner (to_repeat t) end x label)) (sym h.1) (refl, refl, a.0)

  pub around_none : (ds : List Draft) (label : ℕ) (body : Part) → DraftsFor ns ts ds (drafts body 0 None) → label < length ds → None ≡ owner_of ds label
      → SameAround (record { limit = length ds; exits = record { after = length ds; breaks = length ds } }) (around_at body label)
  around_none ds label body h l o =
      let e = o ∙ owner_at ds (drafts body 0 None) label (draft to_skip None 0) h l in
      let n = as_long ds body h in
      subst (λ q. SameAround (record { limit = length ds; exits = record { after = length ds; breaks = length ds } }) (around_of (draft_at body) (exits_at body) (size body) q label)) e (n, n, n)

  pub around_some : (ds : List Draft) (label outer : ℕ) (body : Part) (d : Draft) (own : Exits) → DraftsFor ns ts ds (drafts body 0 None) → label < length ds → outer < length ds → Some outer ≡ owner_of ds label → SameExits own (exits_at body outer)
      → SameAround (enclosed_by (get_or ds outer d) outer own label) (around_at body label)
  around_some ds label outer body d own h l l' o a =
      let e = o ∙ owner_at ds (drafts body 0 None) label (draft to_skip None 0) h l in
      let f = for_at ds (drafts body 0 None) outer d (draft to_skip None 0) h l' in
      let k = enclosed_is (get_or ds outer d).kind (draft_at body outer).kind (get_or ds outer d).end outer label own (exits_at body outer) f.kind_is a in
      subst (λ q. SameAround (enclosed_by (get_or ds outer d) outer own label) (around_of (draft_at body) (exits_at body) (size body) q label)) e
      (subst (λ n. SameAround (enclosed_by (get_or ds outer d) outer own label) (part_of outer (draft_at body outer).kind n (exits_at body outer) label)) f.end_is k)

  pub exits_are : (ds : List Draft) (label : ℕ) (body : Part) (d : Draft) (p : Around) → DraftsFor ns ts ds (drafts body 0 None) → label < length ds → SameAround p (around_at body label)
      → SameExits (record { after = entry (get_or ds label d).end p.limit p.exits.after; breaks = p.exits.breaks }) (exits_at body label)
  exits_are ds label body d p h l q =
      let n = as_long ds body h in
      let r = rule body label (omega arith) in
      let f = for_at ds (drafts body 0 None) label d (draft to_skip None 0) h l in (
        ap (λ x. entry x p.limit p.exits.after) f.end_is ∙ ap (λ x. entry (draft_at body label).end x p.exits.after) q.0 ∙ ap (λ x. entry (draft_at body label).end (around_at body label).limit x) q.1 ∙ sym (ap (λ (x : PureExits). x.after) r.exits_are),
        q.2 ∙ sym (ap (λ (x : PureExits). x.breaks) r.exits_are),
      )

  -- an owner stands before what it owns
  pub owner_before : (ds : List Draft) (label outer : ℕ) (body : Part) → DraftsFor ns ts ds (drafts body 0 None) → label < length ds → Some outer ≡ owner_of ds label → outer < label
  owner_before ds label outer body h l o =
      let e = o ∙ owner_at ds (drafts body 0 None) label (draft to_skip None 0) h l in
      let n = as_long ds body h in
      let r = rule body label (omega arith) in
      subst (λ q. Owned q label) (sym e) r.owned

pub owner_get : (ds : List Draft) (j : ℕ) (d : Draft) → j < length ds → (get_or ds j d).owner ≡ owner_of ds j
owner_get [] j d l = absurd (omega arith)
owner_get (x ∷ ds) zero d l = refl
owner_get (x ∷ ds) (suc j) d l = owner_get ds j d (omega arith)

-- the statement that owns another stands before it
pub outer_before : (ds : List Draft) (label outer : ℕ) (o : Option ℕ) → label < length ds → OwnerAt ds label o × Drafted ds → o ≡ Some outer → outer < label
outer_before ds label outer o l r e = owner_before r.1.0 r.1.1 ds label outer r.1.2 r.1.3 l (sym e ∙ r.0)
