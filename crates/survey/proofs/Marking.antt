-- Marking labels one code after the other. Assumes nothing.
use Rattle.std.proofs.Common.{◌≡◌, ℕ, ◌+◌, ◌<◌, Bool, true, false, cond, List, [], ◌∷◌, length, get_or, set, replicate, Some, None, Option, sym, ap, ◌∙◌, subst, inl, inr, ⊎_elim, arith}
use Rattle.std.proofs.lemmas.List.{get_or-replicate, length-replicate, length-set, get_or-set_same, get_or-set_other, map_more, map-append}
use Rattle.std.proofs.lemmas.Bool.{cases_eq, cases_Bool, cond-true, cond-false, true≢false}
use Rattle.model.specs.Cells.{CellMeaning, In}
use Rattle.model.specs.declared.moment.Reading.{Reading}
use Rattle.store.specs.declared.record.Record.{Record}
use Rattle.store.specs.Entries.{entry, entries, keys}
use Rattle.levels.proofs.Lists.{push, in_push, in_push_new, some_injective, some_none}
use Rattle.survey.specs.Held.{Marked}
use Rattle.survey.proofs.Holding.{blank}

pub marked_none : (c : CellMeaning) → Marked c [] (replicate 64 false)
marked_none c =
    record {
      long = length-replicate 64 false;
      only = λ l h t. absurd (true≢false (sym t ∙ get_or-replicate 64 l false false h));
      all = λ x h. absurd h;
    }

in_push_old : (x y : ℕ) (ks : List ℕ) → In x ks → In x (push ks y)
in_push_old x y [] h = absurd h
in_push_old x y (k ∷ ks) (inl e) = inl e
in_push_old x y (k ∷ ks) (inr h) = inr (in_push_old x y ks h)

module _ (c : CellMeaning) (ks : List ℕ) (ls : List Bool) (m : Marked c ks ls) (x : ℕ) where
  label_read : (l : ℕ) → l < 64 → get_or (set ls l true) l false ≡ true
  label_read l h = let e = m.long in let low : l < length ls = omega arith in get_or-set_same ls l true false low

  mark_more : c.state x ≡ true → Marked c (push ks x) (set ls (c.reads x).label true)
  mark_more t =
      let n = (c.reads x).label in
      let low = c.labels_limited x t in
      record {
        long = length-set ls n true ∙ m.long;
        only = λ l h r.
            elim (cases_eq l n) [
              | inl e ↦ (x, in_push_new x ks, sym e)
              | inr e ↦ let o = m.only l h (sym (get_or-set_other ls n l true false e) ∙ r) in (o.0, in_push_old o.0 x ks o.1, o.2)
            ];
        all = λ y h s.
            elim (cases_eq (c.reads y).label n) [
              | inl e ↦ ap (λ z. get_or (set ls n true) z false) e ∙ label_read n low
              | inr e ↦
                  ⊎_elim (λ o. get_or-set_other ls n (c.reads y).label true false e ∙ m.all y o s)
                  (λ o. absurd (e (ap (λ z. (c.reads z).label) o)))
                  (in_push y x ks h)
            ];
      }

  mark_skip : c.state x ≡ false → Marked c (push ks x) ls
  mark_skip t =
      record {
        long = m.long;
        only = λ l h r. let o = m.only l h r in (o.0, in_push_old o.0 x ks o.1, o.2);
        all = λ y h s. ⊎_elim (λ o. m.all y o s) (λ o. absurd (true≢false (sym s ∙ ap c.state o ∙ t))) (in_push y x ks h);
      }

keys_more : (xs : List (Record ℕ)) (i : ℕ) → i < length xs → keys (entries xs (i + 1)) ≡ push (keys (entries xs i)) (get_or xs i blank).key
keys_more xs i h = ap keys (map_more entry xs i blank h) ∙ map-append (λ e. e.key) (entries xs i) (entry (get_or xs i blank) ∷ [])

-- the code at a place, with what was read of it
module _ (c : CellMeaning) (xs : List (Record ℕ)) (i : ℕ) (low : i < length xs) (ls : List Bool) (m : Marked c (keys (entries xs i)) ls) where
  abbrev code : ℕ
  code = (get_or xs i blank).key

  abbrev read : Option Reading
  read = cond (c.state code) (Some (c.reads code)) None

  pub marked_some : (r : Reading) (ls' : List Bool) → Some r ≡ read → ls' ≡ set ls r.label true → Marked c (keys (entries xs (i + 1))) ls'
  marked_some r ls' e w =
      elim (cases_Bool (c.state code)) [
        | inl t ↦
            let is : r ≡ c.reads code = some_injective (e ∙ cond-true (c.state code) (Some (c.reads code)) None t) in
            subst (Marked c (keys (entries xs (i + 1)))) (ap (λ (z : Reading). set ls z.label true) (sym is) ∙ sym w)
            (subst (λ ks. Marked c ks (set ls (c.reads code).label true)) (sym (keys_more xs i low)) (mark_more c (keys (entries xs i)) ls m code t))
        | inr t ↦ absurd (some_none (e ∙ cond-false (c.state code) (Some (c.reads code)) None t))
      ]

  pub marked_rest : (ls' : List Bool) → None ≡ read → ls' ≡ ls → Marked c (keys (entries xs (i + 1))) ls'
  marked_rest ls' e w =
      elim (cases_Bool (c.state code)) [
        | inl t ↦ absurd (some_none (sym (e ∙ cond-true (c.state code) (Some (c.reads code)) None t)))
        | inr t ↦
            subst (Marked c (keys (entries xs (i + 1)))) (sym w)
            (subst (λ ks. Marked c ks ls) (sym (keys_more xs i low)) (mark_skip c (keys (entries xs i)) ls m code t))
      ]
