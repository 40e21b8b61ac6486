-- The starts, one after another: looked at, and stored. Assumes nothing.
use Rattle.std.proofs.Common.{◌≡◌, ℕ, zero, suc, ◌+◌, ◌≤◌, Bool, true, cond, List, [], ◌∷◌, length, drop, Some, None, Option, is_some, Ok, Err, Result, is_err, not, inl, inr, sym, refl, ap, ◌∙◌, arith, drop_of_length-le}
use Rattle.std.specs.List.{filter_map, range_with_len, cons_option, find}
use Rattle.std.specs.Option.{option_map}
use Rattle.std.proofs.lemmas.Bool.{true≢false}
use Rattle.model.specs.Cells.{CellMeaning, In, at}
use Rattle.model.specs.Keys.{KeyMeaning, configuration_key}
use Rattle.model.specs.Runs.{moment}
use Rattle.model.specs.Watches.{WatchMeaning}
use Rattle.model.specs.declared.configuration.Configuration.{Configuration}
use Rattle.levels.specs.Units as units
use Rattle.levels.specs.Units.{looking, passing, failing, filled, blame, blamed_start, onward, put_new, put_starts, begun, opened}
use Rattle.levels.proofs.Lists.{at_below}
use Rattle.store.specs.Entries.{entries}
use Rattle.store.specs.Keeping.{KeptSo, now_stored}
use Rattle.store.specs.declared.adding.NoPlace.{NoPlace}
use Rattle.store.specs.declared.record.Record.{Record}
use Rattle.store.proofs.Laws.{entries_length}
use Rattle.store.proofs.Walks.{place_in}
use Rattle.checking.specs.Opening.{StartSo, Storing, StartsSo}
use Rattle.checking.proofs.Turns.{beyond_more, drop_at, kept_put, kept_sound}

-- a list, by what stands at its places
listed : {A : Type 0} (xs : List A) (n a : ℕ) → a + n ≡ length xs → filter_map (at xs) (range_with_len a n) ≡ drop a xs
listed xs zero a e = sym (drop_of_length-le xs (omega arith))
listed xs (suc n) a e =
    let y = at_below xs a (omega arith) in
    ap (λ o. cons_option o (filter_map (at xs) (range_with_len (a + 1) n))) y.1
    ∙ ap (λ l. y.0 ∷ l) (listed xs n (a + 1) (omega arith))
    ∙ sym (drop_at xs a y.0 y.1)

-- without a place as many are stored as before
none_more : (m : ℕ) (r : Result ℕ NoPlace) → is_err r ≡ true → now_stored m r ≡ m
none_more m (Ok n) t = absurd (true≢false (sym t))
none_more m (Err e) t = refl

module _ {S : Type 0} (c : CellMeaning) (w : WatchMeaning S) (kind : KeyMeaning S) where
  abbrev alike : Configuration S → Configuration S → Bool
  alike = (configuration_key kind).alike

  -- the configuration of a start's run of one state
  abbrev pub start : ℕ → Option (Configuration S)
  start x = cond (c.state x) (onward c w alike 0 x w.first x) None

  pub start_is : (x : ℕ) (o : Option (Configuration S)) → o ≡ start x → c.state x ≡ true → o ≡ onward c w alike 0 x w.first x
  start_is x o e st = e ∙ ap (λ b. cond b (onward c w alike 0 x w.first x) None) st

  -- the first start that has none
  abbrev pub stuck : ℕ → Bool
  stuck x = not (is_some (start x))

  blamed_is : (xs : List ℕ) → ((x : ℕ) → In x xs → c.state x ≡ true) → find stuck xs ≡ blamed_start c w alike 0 xs
  blamed_is [] h = refl
  blamed_is (x ∷ xs) h =
      ap (λ o. cond (not (is_some o)) (Some x) (find stuck xs)) (start_is x (start x) refl (h x (inl refl)))
      ∙ go (w.step w.first (moment c x x)) (find stuck xs)
      ∙ ap (blame x (w.step w.first (moment c x x))) (blamed_is xs (λ y i. h y (inr i)))
    where
      go : (o : Option S) (r : Option ℕ) → cond (not (is_some {T = Configuration S} (option_map (λ t. record { first = x; last = x; state = t }) o))) (Some x) r ≡ blame x o r
      go None r = refl
      go (Some t) r = refl

  pub found_blamed : (r : Option ℕ) → option_map (λ x. x) r ≡ find stuck (filter_map (at c.starts) (range_with_len 0 (length c.starts))) → r ≡ blamed_start c w alike 0 c.starts
  found_blamed r e = same r ∙ e ∙ ap (find stuck) (listed c.starts (length c.starts) 0 (omega arith)) ∙ blamed_is c.starts c.starts_are_states
    where
      same : (r : Option ℕ) → r ≡ option_map (λ x. x) r
      same None = refl
      same (Some x) = refl

  -- what keeping a start's configuration comes to
  pub kept_start : (x : ℕ) (k : Configuration S) (xs ys : List (Record (Configuration S))) (m : ℕ) (r : Result ℕ NoPlace) (o : Result (Unit {0}) NoPlace)
      → Some k ≡ start x → KeptSo (configuration_key kind) xs ys m k m r → is_err o ≡ is_err r → StartSo c w kind x xs ys m (now_stored m r) o
  kept_start x k xs ys m r o e h f =
      record {
        more = h.more;
        none = λ t. none_more m r (sym f ∙ t);
        beyond = h.beyond;
        sound = kept_sound c w kind 0 h;
        puts = λ s st.
            ap (λ t. put_new c w alike (length xs) (entries xs m) t m) (sym (start_is x _ e st))
            ∙ kept_put c w kind (length xs) xs ys m k m r refl s (h.kept s.indexed)
            ∙ ap (λ b. record { stored = entries ys (now_stored m r); full = b }) (sym f);
      }

  module _ (i x : ℕ) (a : at c.starts i ≡ Some x) (xs ys zs : List (Record (Configuration S))) (m : ℕ) (l : length ys ≡ length xs) (s : Storing c w kind (drop i c.starts) xs ys m) where
    onwards : (m' : ℕ) (r : Result (Unit {0}) NoPlace) → StartSo c w kind x ys zs m m' r → length xs ≤ 1000000
        → put_starts c w alike (length xs) c.starts [] ≡ cond (is_err r) (record { stored = entries zs m'; full = is_err r }) (put_starts c w alike (length xs) (drop (i + 1) c.starts) (entries zs m'))
    onwards m' r h small =
        let long = entries_length ys m (s.sound small).indexed.within in
        s.puts small
        ∙ ap (λ l. put_starts c w alike (length xs) l (entries ys m)) (drop_at c.starts i x a)
        ∙ ap (λ f. units.and_then c w alike (length xs) (put_new c w alike (length xs) (entries ys m) (onward c w alike (length xs) x w.first x) f) (put_starts c w alike (length xs) (drop (i + 1) c.starts))) long
        ∙ ap (λ n. units.and_then c w alike (length xs) (put_new c w alike n (entries ys m) (onward c w alike n x w.first x) m) (put_starts c w alike (length xs) (drop (i + 1) c.starts))) (sym l)
        ∙ ap (λ r. units.and_then c w alike (length xs) r (put_starts c w alike (length xs) (drop (i + 1) c.starts))) (h.puts (s.sound small) (c.starts_are_states x (place_in x c.starts i a)))

    pub storing_more : (m' : ℕ) (u : Unit {0}) → StartSo c w kind x ys zs m m' (Ok u) → Storing c w kind (drop (i + 1) c.starts) xs zs m'
    storing_more m' u h =
        record {
          beyond = h.beyond ∙ beyond_more xs ys m m' h.more s.beyond;
          sound = λ small. h.sound (s.sound small);
          puts = onwards m' (Ok u) h;
        }

    pub storing_full : (m' : ℕ) (e : NoPlace) (r : Result (Unit {0}) NoPlace) → StartSo c w kind x ys zs m m' (Err e) → is_err r ≡ true → StartsSo c w kind xs zs m' r
    storing_full m' e r h f =
        record {
          beyond = h.beyond ∙ beyond_more xs ys m m' h.more s.beyond;
          sound = λ small. h.sound (s.sound small);
          puts = λ small. onwards m' (Err e) h small ∙ ap (λ b. record { stored = entries zs m'; full = b }) (sym f);
        }
