use Rattle.std.proofs.Common.{ℕ, ◌≡◌, ◌≤◌, ◌⊎◌, List, [], ◌∷◌, length, slice_index_or, refl, inl, inr, arith}
use Rattle.text.specs.declared.word.Token.TheVariants.{Number, Empty, OpenParen, Question}
use Rattle.text.specs.declared.word.Word.{Word}
use Rattle.sheet.specs.Owed.{ItemWord, at_empty, at_open, at_question, at_number, ItemBegins}
use Rattle.sheet.proofs.descent.begins_item.Goals as goal

item_word : (w : Word) → (w.token ≡ Empty) ⊎ ((w.token ≡ OpenParen) ⊎ ((w.token ≡ Question) ⊎ ((n : ℕ) × (w.token ≡ Number n)))) → ItemWord w
item_word w (inl e) = at_empty e
item_word w (inr (inl e)) = at_open e
item_word w (inr (inr (inl e))) = at_question e
item_word w (inr (inr (inr e))) = at_number e.0 e.1

begins : (ws : List Word) (d : Word) → 1 ≤ length ws → ItemWord (slice_index_or ws 0 d) → ItemBegins ws
begins [] d some i = absurd (omega arith)
begins (w ∷ ws) d some i = record { word = w; behind = ws; is = refl; begins = i }

pub returns-in-Empty : goal.returns-in-Empty
returns-in-Empty c = begins c.args.words.now _ c.in-len1-up.len_at_least (item_word _ c.in-Empty.is)
