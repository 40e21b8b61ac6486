-- Runs of bytes that pass a test, and the words of what is left of a text. Assumes nothing.
use Rattle.std.proofs.Common.{◌≡◌, ℕ, zero, suc, ◌+◌, ◌-◌, ◌<◌, ◌≤◌, min, Bool, true, false, cond, ◌||◌, eqb, List, [], ◌∷◌, ◌++◌, length, get_or, take, drop, sym, refl, ap, ◌∙◌, append_assoc, arith, take_all, drop-cons, drop-drop}
use Rattle.std.specs.List.{prefix_len}
use Rattle.std.proofs.lemmas.Slice.Eq.{HasBytesAt, text_from_reads}
use Rattle.text.specs.declared.word.Token.{Token}
use Rattle.text.specs.declared.word.Token.TheVariants.{Number}
use Rattle.text.specs.declared.word.Word.{Word}
use Rattle.lexing.specs.Lexing.{run, decimal, is_letter, is_digit, separates, letters_token, mark_token, mark_size, token_at, size_at, words_from}

pub run_is : (p : ℕ → Bool) (bs : List ℕ) → run p bs ≡ prefix_len p bs
run_is p [] = refl
run_is p (b ∷ bs) = go (p b) (run_is p bs)
  where
    go : (t : Bool) → run p bs ≡ prefix_len p bs → cond t (suc (run p bs)) 0 ≡ cond t (1 + prefix_len p bs) 0
    go true e = omega arith
    go false e = refl

pub run_within : (p : ℕ → Bool) (bs : List ℕ) → run p bs ≤ length bs
run_within p [] = omega arith
run_within p (b ∷ bs) = go (p b) (run_within p bs)
  where
    go : (t : Bool) → run p bs ≤ length bs → cond t (suc (run p bs)) 0 ≤ suc (length bs)
    go true h = omega arith
    go false h = omega arith

-- the word that a list of bytes begins with, by the kind of its first byte
module _ (xs : List ℕ) (b : ℕ) (bs : List ℕ) (e : xs ≡ b ∷ bs) where
  first_is : (f : ℕ → Bool) (t : Bool) → t ≡ f (get_or xs 0 0) → f b ≡ t
  first_is f t h = sym (h ∙ ap (λ l. f (get_or l 0 0)) e)

  pub front_letters : (tok : Token) (n : ℕ) → tok ≡ letters_token (take (n - 0) xs) → n ≡ run is_letter xs → true ≡ is_letter (get_or xs 0 0) → (tok ≡ token_at b bs) × (n ≡ size_at b bs)
  front_letters tok n h l t =
      let whole : n - 0 ≡ run is_letter (b ∷ bs) = omega (arith, l ∙ ap (run is_letter) e) in
      let yes_letter = first_is is_letter true t in
      (h ∙ ap (λ k. letters_token (take k xs)) whole ∙ ap (λ v. letters_token (take (run is_letter (b ∷ bs)) v)) e ∙ sym (ap (λ c. cond c (letters_token (take (run is_letter (b ∷ bs)) (b ∷ bs))) (cond (is_digit b) (Number (min 1001 (decimal (take (run is_digit (b ∷ bs)) (b ∷ bs))))) (mark_token b bs))) yes_letter), l ∙ ap (run is_letter) e ∙ sym (ap (λ c. cond c (run is_letter (b ∷ bs)) (cond (is_digit b) (run is_digit (b ∷ bs)) (mark_size b bs))) yes_letter))

  pub front_digits : (v n : ℕ) → v ≡ min 1001 (decimal (take (n - 0) xs)) → n ≡ run is_digit xs → false ≡ is_letter (get_or xs 0 0) → true ≡ is_digit (get_or xs 0 0) → (Number v ≡ token_at b bs) × (n ≡ size_at b bs)
  front_digits v n h l f t =
      let whole : n - 0 ≡ run is_digit (b ∷ bs) = omega (arith, l ∙ ap (run is_digit) e) in
      let not_letter = first_is is_letter false f in
      let yes_digit = first_is is_digit true t in
      (ap Number (h ∙ ap (λ k. min 1001 (decimal (take k xs))) whole ∙ ap (λ v. min 1001 (decimal (take (run is_digit (b ∷ bs)) v))) e) ∙ sym (ap (λ c. cond c (letters_token (take (run is_letter (b ∷ bs)) (b ∷ bs))) (cond (is_digit b) (Number (min 1001 (decimal (take (run is_digit (b ∷ bs)) (b ∷ bs))))) (mark_token b bs))) not_letter ∙ ap (λ c. cond c (Number (min 1001 (decimal (take (run is_digit (b ∷ bs)) (b ∷ bs))))) (mark_token b bs)) yes_digit), l ∙ ap (run is_digit) e ∙ sym (ap (λ c. cond c (run is_letter (b ∷ bs)) (cond (is_digit b) (run is_digit (b ∷ bs)) (mark_size b bs))) not_letter ∙ ap (λ c. cond c (run is_digit (b ∷ bs)) (mark_size b bs)) yes_digit))

-- a word has at least one byte, and lies within the text
mark_bounds : (b : ℕ) (bs : List ℕ) → (1 ≤ mark_size b bs) × (mark_size b bs ≤ suc (length bs))
mark_bounds b [] = go (eqb b 60 || eqb b 61)
  where
    go : (t : Bool) → (1 ≤ cond t (cond false 2 1) 1) × (cond t (cond false 2 1) 1 ≤ 1)
    go true = (omega arith, omega arith)
    go false = (omega arith, omega arith)
mark_bounds b (c ∷ bs) = go (eqb b 60 || eqb b 61) (eqb c 61)
  where
    go : (t u : Bool) → (1 ≤ cond t (cond u 2 1) 1) × (cond t (cond u 2 1) 1 ≤ suc (suc (length bs)))
    go true true = (omega arith, omega arith)
    go true false = (omega arith, omega arith)
    go false u = (omega arith, omega arith)

pub size_bounds : (b : ℕ) (bs : List ℕ) → (1 ≤ size_at b bs) × (size_at b bs ≤ suc (length bs))
size_bounds b bs = go (is_letter b) (is_digit b)
  where
    go : (t u : Bool) → (1 ≤ cond t (cond t (suc (run is_letter bs)) 0) (cond u (cond u (suc (run is_digit bs)) 0) (mark_size b bs))) × (cond t (cond t (suc (run is_letter bs)) 0) (cond u (cond u (suc (run is_digit bs)) 0) (mark_size b bs)) ≤ suc (length bs))
    go true u = let h = run_within is_letter bs in (omega arith, omega arith)
    go false true = let h = run_within is_digit bs in (omega arith, omega arith)
    go false false = mark_bounds b bs

-- the bytes of the word before are passed over
skipped : (p n : ℕ) (bs : List ℕ) → words_from p n bs ≡ words_from (p + n) 0 (drop n bs)
skipped p zero [] = refl
skipped p zero (b ∷ bs) = let same : p + zero ≡ p = omega arith in ap (λ q. words_from q 0 (b ∷ bs)) (sym same)
skipped p (suc n) [] = refl
skipped p (suc n) (b ∷ bs) = let same : suc p + n ≡ p + suc n = omega arith in skipped (suc p) n bs ∙ ap (λ q. words_from q 0 (drop n bs)) same

module _ (text : List ℕ) (p : ℕ) (h : p < length text) where
  pub part_is : take (length text - p) (drop p text) ≡ get_or text p 0 ∷ drop (suc p) text
  part_is = take_all (length text - p) (drop p text) (let d = lib.ListN.length-drop p text in omega arith) ∙ drop-cons text p 0 h

  pub separator_step : separates (get_or text p 0) ≡ true → words_from p 0 (drop p text) ≡ words_from (p + 1) 0 (drop (p + 1) text)
  separator_step t =
      let same : p + 1 ≡ suc p = omega arith in
      ap (words_from p 0) (drop-cons text p 0 h) ∙ ap (λ c. cond c (words_from (suc p) 0 (drop (suc p) text)) (record { token = token_at (get_or text p 0) (drop (suc p) text); place = p } ∷ words_from (suc p) (size_at (get_or text p 0) (drop (suc p) text) - 1) (drop (suc p) text))) t ∙ ap (λ k. words_from k 0 (drop k text)) (sym same)

  pub word_step : separates (get_or text p 0) ≡ false → words_from p 0 (drop p text) ≡ record { token = token_at (get_or text p 0) (drop (suc p) text); place = p } ∷ words_from (p + size_at (get_or text p 0) (drop (suc p) text)) 0 (drop (p + size_at (get_or text p 0) (drop (suc p) text)) text)
  word_step t =
      let b = get_or text p 0 in
      let bs = drop (suc p) text in
      let s = size_bounds (get_or text p 0) (drop (suc p) text) in
      let same : suc p + (size_at (get_or text p 0) (drop (suc p) text) - 1) ≡ p + size_at (get_or text p 0) (drop (suc p) text) = omega (arith, s.0) in
      ap (words_from p 0) (drop-cons text p 0 h) ∙ ap (λ c. cond c (words_from (suc p) 0 bs) (record { token = token_at b bs; place = p } ∷ words_from (suc p) (size_at b bs - 1) bs)) t
      ∙ ap (λ ws. record { token = token_at b bs; place = p } ∷ ws) (skipped (suc p) (size_at b bs - 1) bs ∙ ap (words_from (suc p + (size_at b bs - 1)) 0) (drop-drop (size_at b bs - 1) (suc p) text) ∙ ap (λ k. words_from k 0 (drop k text)) same)

  pub step_within : p + size_at (get_or text p 0) (drop (suc p) text) ≤ length text
  step_within = let s = size_bounds (get_or text p 0) (drop (suc p) text) in let d = lib.ListN.length-drop (suc p) text in omega (arith, s.1)

  pub step_onward : p < p + size_at (get_or text p 0) (drop (suc p) text)
  step_onward = let s = size_bounds (get_or text p 0) (drop (suc p) text) in omega (arith, s.0)

  -- the same, with the words that came before
  pub word_same : (ws : List Word) (tok : Token) (n : ℕ) → separates (get_or text p 0) ≡ false → tok ≡ token_at (get_or text p 0) (drop (suc p) text) → n ≡ size_at (get_or text p 0) (drop (suc p) text) → (ws ++ record { token = tok; place = p } ∷ []) ++ words_from (p + n) 0 (drop (p + n) text) ≡ ws ++ words_from p 0 (drop p text)
  word_same ws tok n t e s = append_assoc ws (record { token = tok; place = p } ∷ []) (words_from (p + n) 0 (drop (p + n) text)) ∙ ap (λ v. ws ++ v) (ap (λ k. record { token = tok; place = p } ∷ words_from (p + k) 0 (drop (p + k) text)) s ∙ ap (λ k. record { token = k; place = p } ∷ words_from (p + size_at (get_or text p 0) (drop (suc p) text)) 0 (drop (p + size_at (get_or text p 0) (drop (suc p) text)) text)) e ∙ sym (word_step t))

  -- the first byte of the part that begins here
  pub part_first : (f : ℕ → Bool) (t : Bool) → t ≡ f (get_or (take (length text - p) (drop p text)) 0 0) → f (get_or text p 0) ≡ t
  part_first f t e = sym (e ∙ ap (λ v. f (get_or v 0 0)) part_is)

-- a run that has the bytes of a word is that word
pub read_as : (f : List ℕ → Token) (s p : List ℕ) → length s ≡ length p → HasBytesAt s 0 p → f p ≡ f s
read_as f s p l h = ap f (sym (text_from_reads s p l h))
