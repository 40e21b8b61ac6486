-- What two reads one after another took from the input. Assumes nothing.
use Rattle.std.proofs.Common.{◌≡◌, ℕ, ◌+◌, List, ◌++◌, take, drop, Option, Some, None, sym, ap, ◌∙◌, arith, append_assoc}
use Rattle.std.proofs.lemmas.List.{take-take, take-append-drop, drop-take}
use Rattle.std.specs.Io.KnownBytes.{Consumes}

take_parts : (f n : ℕ) (ys : List ℕ) → take (f + n) ys ≡ take f ys ++ take n (drop f ys)
take_parts f n ys =
    sym (take-append-drop f (take (f + n) ys)) ∙ ap (λ t. t ++ drop f (take (f + n) ys)) (take-take f (f + n) ys (omega arith))
    ∙ ap (λ t. take f ys ++ t) (drop-take f n ys)

-- the front was read, and then n bytes more behind it
pub read_more : (a b c : Option (List ℕ)) (xs ys : List ℕ) (f n : ℕ) → take f ys ≡ take f xs → Consumes a b (take f xs) → Consumes b c (take n (drop f ys)) → Consumes a c (take (f + n) ys)
read_more None b c xs ys f n front p q = tt
read_more (Some x) None c xs ys f n front p q = absurd p
read_more (Some x) (Some y) None xs ys f n front p q = absurd q
read_more (Some x) (Some y) (Some z) xs ys f n front p q =
    p ∙ ap (λ l. l ++ y) (sym front) ∙ ap (λ l. take f ys ++ l) q ∙ sym (append_assoc (take f ys) (take n (drop f ys)) z) ∙ ap (λ l. l ++ z) (sym (take_parts f n ys))
