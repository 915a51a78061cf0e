-- The explicit attributes of declarations in turn.
use Rattle.std.specs.Prelude.{◌≡◌, ℕ, ◌+◌, ◌<◌, List, [], ◌∷◌, ◌++◌, map, flat_map, length, get_or, take, Vec}
use Rattle.std.proofs.Common.{refl, ap, sym, subst, ◌∙◌}
use Rattle.std.proofs.lemmas.List.{append-nil}
use Rattle.graphs.specs.Graphs.{graph_of}
use Rattle.express_syntax.specs.declared.tree.Declaration.{Declaration as Declared}
use Rattle.express_syntax.specs.Views.{declaration_of}
use Rattle.schema_semantics.specs.Attributes.{Place}
use Rattle.schema_explicit_attributes.specs.Places.{ArePlaceRows, Adds, places_in}
use Rattle.schema_names.proofs.Rows.{map-joined, flat-joined, take-more}
use Rattle.schema_names.proofs.Items.{stay-rows, one-more-row}

module _ {Z : Type 0} where
  pub next-declaration : (xs : List Declared) (i : ℕ) (x : Declared) (old new : List Place)
      (rows after : List (Vec ℕ Z)) (row : Vec ℕ Z) → i < length xs → x ≡ get_or xs i x
      → (old ≡ flat_map places_in (map declaration_of (take i xs)))
      × ArePlaceRows old (map declaration_of (take i xs)) (graph_of rows)
      → Adds old [] (places_in (declaration_of x)) new row.items → after ≡ rows ++ row ∷ []
      → (new ≡ flat_map places_in (map declaration_of (take (i + 1) xs)))
      × ArePlaceRows new (map declaration_of (take (i + 1) xs)) (graph_of after)
  next-declaration xs i x old new rows after row lt at (all, each) adds is = (
    adds.places ∙ ap (λ ps. ps ++ places_in (declaration_of x)) all
        ∙ ap (λ ps. flat_map places_in (map declaration_of (take i xs)) ++ ps)
        (sym (append-nil (places_in (declaration_of x))))
        ∙ sym (flat-joined places_in (map declaration_of (take i xs)) (declaration_of x ∷ []))
        ∙ ap (flat_map places_in) (sym next),
    subst (λ ds. ArePlaceRows new ds (graph_of after)) (sym next)
        (subst (ArePlaceRows new (map declaration_of (take i xs) ++ declaration_of x ∷ [])) (sym rows-are)
        (one-more-row places_in new (map declaration_of (take i xs)) (declaration_of x) (graph_of rows) row.items stayed
        (adds.numbers [] refl))),
  )
    where
      next : map declaration_of (take (i + 1) xs) ≡ map declaration_of (take i xs) ++ declaration_of x ∷ []
      next = ap (map declaration_of) (take-more xs i x lt at) ∙ map-joined declaration_of (take i xs) (x ∷ [])

      rows-are : graph_of after ≡ graph_of rows ++ row.items ∷ []
      rows-are = ap graph_of is ∙ map-joined (λ (v : Vec ℕ Z). v.items) rows (row ∷ [])

      stayed : ArePlaceRows new (map declaration_of (take i xs)) (graph_of rows)
      stayed =
          subst (λ ps. ArePlaceRows ps (map declaration_of (take i xs)) (graph_of rows)) (sym adds.places)
          (stay-rows places_in old (places_in (declaration_of x)) (map declaration_of (take i xs)) (graph_of rows) each)
