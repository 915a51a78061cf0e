-- Lists with one more at the end, and what is written of them.
use Rattle.std.proofs.Common.{◌≡◌, List, [], ◌∷◌, ◌++◌, map, refl, sym, ap, ◌∙◌, append_assoc, append-nil}
use Rattle.express_lexer.specs.declared.marks.Mark.TheVariants as marks
use Rattle.express_syntax.specs.Words.{Word, mark}
use Rattle.express_syntax.specs.WrittenSchemas.{concatenated, with_commas}
use Rattle.express_syntax.specs.Profile.{Every, IsFilled}

pub every_push : {A : Type 0} (Fit : A → Type 0) (xs : List A) (x : A) → Every Fit xs → Fit x → Every Fit (xs ++ x ∷ [])
every_push Fit [] x h g = (g, tt)
every_push Fit (y ∷ ys) x h g = (h.0, every_push Fit ys x h.1 g)

pub filled_push : {A : Type 0} (xs : List A) (x : A) → IsFilled (xs ++ x ∷ [])
filled_push [] x = tt
filled_push (y ∷ ys) x = tt

pub map_push : {A B : Type 0} (f : A → B) (xs : List A) (x : A) → map f (xs ++ x ∷ []) ≡ map f xs ++ f x ∷ []
map_push f [] x = refl
map_push f (y ∷ ys) x = ap (λ l. f y ∷ l) (map_push f ys x)

pub joined_push : {A : Type 0} (write : A → List Word) (xs : List A) (x : A)
    → concatenated (map write (xs ++ x ∷ [])) ≡ concatenated (map write xs) ++ write x
joined_push write [] x = append-nil (write x)
joined_push write (y ∷ ys) x = ap (λ l. write y ++ l) (joined_push write ys x)
    ∙ sym (append_assoc (write y) (concatenated (map write ys)) (write x))

-- with commas between
pub commas_push : {A : Type 0} (write : A → List Word) (xs : List A) (x : A) → IsFilled xs
    → with_commas (map write (xs ++ x ∷ [])) ≡ with_commas (map write xs) ++ mark marks.Comma ∷ write x
commas_push write [] x h = absurd h
commas_push write (y ∷ ys) x h =
    let comma : List Word → List Word = λ ws. mark marks.Comma ∷ ws in
    ap (λ l. write y ++ concatenated (map comma l)) (map_push write ys x)
    ∙ ap (λ l. write y ++ l) (joined_push comma (map write ys) (write x))
    ∙ sym (append_assoc (write y) (concatenated (map comma (map write ys))) (mark marks.Comma ∷ write x))
