-- What the rows of resolved types say.
use Rattle.std.specs.Prelude.{◌≡◌, ℕ, ◌<◌, Bool, true, List, Some, length, get_or, Vec, nat_eq, [], ◌∷◌, ◌||◌, IsTrue}
use Rattle.std.proofs.Common.{refl, inl, inr, ap, sym, subst, ◌∙◌, arith}
use Rattle.std.proofs.lemmas.Bool.Decides.{nat_tests}
use Rattle.std.proofs.lemmas.List.{length-map}
use Rattle.std.specs.List.{IsDistinct, list_any}
use Rattle.std.specs.Prelude.{eqb}
use Rattle.graphs.specs.Graphs.{Graph, graph_of, has, next}
use Rattle.graphs.proofs.RowLists.{row-is}
use Rattle.express_syntax.specs.Schemas.{Schema}
use Rattle.schema_semantics.specs.Names.{IsBelow, IsKindOf}
use Rattle.graphs.specs.Closures.{IsClosure}
use Rattle.schema_names.specs.Edges.{IsGraphOf, supertypes_in}
use Rattle.schema_names.specs.Numbers.{number_of, HasNumber, AreAt}
use Rattle.schema_names.proofs.Numbers.{one-name}
use Rattle.schema_names.proofs.Edges.{below-forth, below-back}
use Rattle.schema_explicit_attributes.specs.Places.{all_places, HavePlaces}
use Rattle.schema_explicit_attributes.specs.Supertypes.{AreAbove}
use Rattle.schema_types.specs.steps.Graphs.{AreSupers, IsKind, ArePlacesOf}

pub supers-are : (s : Schema) (rows : Graph) (i : ℕ) (row : List ℕ) → row ≡ next rows i → AreAbove s rows
    → AreSupers s i row
supers-are s rows i row is h = record {
  once = subst (IsDistinct eqb) (sym is) (h.closed.once i);
  names = λ n k j step.
      let (m, l, b) = below-forth s h.graph h.drawn n i j k
      ((h.closed.reached i j).0 (subst (λ r. has r j ≡ true) is step)) in (m, l);
  below = λ m n j k l. (
    (λ step.
        let (x, a, b) = below-forth s h.graph h.drawn n i j k
        ((h.closed.reached i j).0 (subst (λ r. has r j ≡ true) is step)) in
        subst (IsBelow s n) (one-name s x m j a l) b),
    (λ b. subst (λ r. has r j ≡ true) (sym is)
        ((h.closed.reached i j).1 (below-back s h.graph h.drawn n m i j k l b))),
  );
}

pub places-are : (s : Schema) (rows : Graph) (i : ℕ) (row : List ℕ) → row ≡ next rows i → HavePlaces s rows
    → ArePlacesOf s i row
places-are s rows i row is h n entity k =
    let (ps, are, at) = h n i entity k in (ps, are, subst (λ r. AreAt (all_places s) r ps) (sym is) at)

some-is : (i j : ℕ) → Some i ≡ Some j → i ≡ j
some-is i j h = cc

pub kind-itself : (s : Schema) (i j : ℕ) → i ≡ j → IsKind s i j (nat_eq i j)
kind-itself s i j same n m k l =
    ((λ t. inl (one-name s n m j (subst (HasNumber s n) same k) l)), (λ t. grind (arith, nat_tests)))

pub kind-above : (s : Schema) (i j : ℕ) (row : List ℕ) (is : Bool) → (i ≡ j → ⊥) → is ≡ has row j
    → AreSupers s i row → IsKind s i j is
kind-above s i j row is apart told h n m k l = (
  (λ t. inr ((h.below m n j k l).0 (sym told ∙ t))),
  by,
)
  where
    by : IsKindOf s n m → IsTrue is
    by (inl e) = absurd (apart (some-is i j (sym (subst (λ x. number_of s x ≡ Some i) e k) ∙ l)))
    by (inr b) = told ∙ (h.below m n j k l).1 b

-- the row of a number
module _ {Z : Type 0} where
  pub row-seen : (rows : List (Vec ℕ Z)) (i : ℕ) (v : Vec ℕ Z) (row : List ℕ) → i < length rows → v ≡ get_or rows i v
      → row ≡ v.items → row ≡ next (graph_of rows) i
  row-seen rows i v row lt at is = row-is (λ (v : Vec ℕ Z). v.items) rows i v row lt at is

-- whether a number is in a row, asked of each in turn
turned : (a b : ℕ) → eqb a b ≡ eqb b a
turned a b = grind (arith, nat_tests)

pub told-is : (row : List ℕ) (j : ℕ) → list_any (λ y. eqb y j) row ≡ has row j
told-is [] j = refl
told-is (y ∷ row) j = ap (λ b. b || list_any (λ y. eqb y j) row) (turned y j) ∙ ap (λ b. eqb j y || b) (told-is row j)

pub above-are : (s : Schema) (graph rows : Graph) → IsGraphOf s supertypes_in graph → IsClosure graph rows
    → AreAbove s rows
above-are s graph rows drawn closed = record { graph = graph; drawn = drawn; closed = closed }

-- as many rows as declarations
module _ {Z : Type 0} where
  pub rows-many : (s : Schema) (graph : Graph) (rows : List (Vec ℕ Z)) (n : ℕ) → IsGraphOf s supertypes_in graph
      → IsClosure graph (graph_of rows) → length s.declarations ≡ n → length rows ≡ n
  rows-many s graph rows n drawn closed many =
      sym (length-map rows (λ (v : Vec ℕ Z). v.items)) ∙ closed.same ∙ drawn.same ∙ many
