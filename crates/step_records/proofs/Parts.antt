-- Trees side by side, and those right inside a list.
use Rattle.std.proofs.Common.{◌≡◌, List, [], ◌∷◌, refl, sym, ap, ◌∙◌}
use Rattle.step_structures.specs.Trees.{Tree, group, Trees, none, one}
use Rattle.step_records.specs.Cells.{all_of}
use Rattle.step_records.specs.Params.{trees_in, parts_of}

pub trees_all : (xs : List Tree) → trees_in (all_of xs) ≡ xs
trees_all [] = refl
trees_all (x ∷ xs) = ap (λ l. x ∷ l) (trees_all xs)

pub all_in : (xs : Trees) → all_of (trees_in xs) ≡ xs
all_in none = refl
all_in (one x xs) = ap (one x) (all_in xs)

pub parts_all : (xs : List Tree) (x : Tree) → group (all_of xs) ≡ x → xs ≡ parts_of x
parts_all xs x e = sym (trees_all xs) ∙ ap parts_of e
