-- Names among those of attributes.
use Rattle.std.specs.Prelude.{◌≡◌, Bool, ◌||◌, List, [], ◌∷◌, map, flat_map, bytes_eq}
use Rattle.std.specs.List.{list_any}
use Rattle.std.proofs.Common.{refl, ap, sym, ◌∙◌}
use Rattle.std.proofs.lemmas.List.Folds.{list_any-append}
use Rattle.express_syntax.specs.Schemas.{Attribute, own, redeclared}
use Rattle.schema_semantics.specs.Names.{Name, own_names}
use Rattle.schema_explicit_attributes.specs.steps.Owned.{includes, is_own}

-- a test of what each of a list stands for
pub any-mapped : {X Y : Type 0} (f : X → Y) (p : Y → Bool) (xs : List X) → list_any (λ x. p (f x)) xs
    ≡ list_any p (map f xs)
any-mapped f p [] = refl
any-mapped f p (x ∷ xs) = ap (λ b. p (f x) || b) (any-mapped f p xs)

pub own-listed : (a : Name) (ts : List Attribute) → list_any (is_own a) ts ≡ includes (own_names ts) a
own-listed a [] = refl
own-listed a (own n ∷ ts) = ap (λ b. bytes_eq n a || b) (own-listed a ts)
own-listed a (redeclared q n ∷ ts) = own-listed a ts

pub each-listed : {X : Type 0} (f : X → List Name) (a : Name) (xs : List X) → list_any (λ x. includes (f x) a) xs
    ≡ includes (flat_map f xs) a
each-listed f a [] = refl
each-listed f a (x ∷ xs) =
    ap (λ b. includes (f x) a || b) (each-listed f a xs)
    ∙ sym (list_any-append (λ n. bytes_eq n a) (f x) (flat_map f xs))

pub own-mapped : {Y : Type 0} (f : Y → Attribute) (a : Name) (ys : List Y) → list_any (λ y. is_own a (f y)) ys
    ≡ includes (own_names (map f ys)) a
own-mapped f a ys = any-mapped f (is_own a) ys ∙ own-listed a (map f ys)
