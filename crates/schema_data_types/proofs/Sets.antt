-- Sets of what values may be, held in lists.
use Rattle.std.specs.Prelude.{◌≡◌, ℕ, ◌+◌, suc, Bool, List, [], ◌∷◌, ◌++◌, Some, slice_get, ◌⊎◌, ◌↔◌}
use Rattle.std.specs.List.{cons_option}
use Rattle.std.proofs.Common.{refl, inl, inr, ap, sym, subst, ◌∙◌, arith}
use Rattle.std.proofs.lemmas.List.{append-nil}
use Rattle.express_syntax.specs.Schemas.{Schema, DataType, integer, number, boolean, logical, real, string, binary, named, array, list, bag, set}
use Rattle.schema_semantics.specs.Shapes.{Atom, value, instance, a_number, a_logical, a_string, a_binary, an_item, an_aggregate, IsSort}
use Rattle.schema_semantics.specs.Shapes as shapes
use Rattle.schema_data_types.specs.declared.values.Atom.{Atom as Numbered}
use Rattle.schema_data_types.specs.declared.values.Atom.TheVariants as atoms
use Rattle.schema_data_types.specs.NumberedTypes.{all_data_types, form_in}
use Rattle.schema_data_types.specs.steps.Values.{IsMeant, Holds, AddsAll}
use Rattle.schema_data_types.specs.steps.Leaves.{IsLeaf, LeafGives, leaf_atom}
use Rattle.schema_data_types.proofs.Elements.{element, element-behind}

module _ (s : Schema) where
  holds-left : (xs : List Numbered) (a : Numbered) (x : Atom) → Holds s xs x → Holds s (xs ++ a ∷ []) x
  holds-left [] a x h = elim h [ ]
  holds-left (y ∷ xs) a x (inl h) = inl h
  holds-left (y ∷ xs) a x (inr h) = inr (holds-left xs a x h)

  holds-last : (xs : List Numbered) (a : Numbered) (x : Atom) → IsMeant s a x → Holds s (xs ++ a ∷ []) x
  holds-last [] a x h = inl h
  holds-last (y ∷ xs) a x h = inr (holds-last xs a x h)

  put : {P Q R : Type 0} → Q ⊎ R → (P ⊎ Q) ⊎ R
  put (inl q) = inl (inr q)
  put (inr r) = inr r

  holds-either : (xs : List Numbered) (a : Numbered) (x : Atom) → Holds s (xs ++ a ∷ []) x
      → Holds s xs x ⊎ IsMeant s a x
  holds-either [] a x (inl h) = inr h
  holds-either [] a x (inr h) = elim h [ ]
  holds-either (y ∷ xs) a x (inl h) = inl (inl h)
  holds-either (y ∷ xs) a x (inr h) = put (holds-either xs a x h)

  -- nothing is added
  pub adds-nothing : (old : List Numbered) (P : Atom → Type 0) → ((x : Atom) → P x → ⊥) → AddsAll s old P old
  adds-nothing old P none x = (inl, back)
    where
      back : Holds s old x ⊎ P x → Holds s old x
      back (inl h) = h
      back (inr p) = absurd (none x p)

  pub adds-atom : (old : List Numbered) (a : Numbered) (P : Atom → Type 0) → ((x : Atom) → IsMeant s a x ↔ P x)
      → AddsAll s old P (old ++ a ∷ [])
  adds-atom old a P is x = (λ h. forth (holds-either old a x h), back)
    where
      forth : Holds s old x ⊎ IsMeant s a x → Holds s old x ⊎ P x
      forth (inl h) = inl h
      forth (inr m) = inr ((is x).0 m)

      back : Holds s old x ⊎ P x → Holds s (old ++ a ∷ []) x
      back (inl h) = holds-left old a x h
      back (inr p) = holds-last old a x ((is x).1 p)

  pub adds-alike : (old new : List Numbered) (P Q : Atom → Type 0) → ((x : Atom) → P x ↔ Q x) → AddsAll s old P new
      → AddsAll s old Q new
  adds-alike old new P Q is h x = (λ k. forth ((h x).0 k), λ k. (h x).1 (back k))
    where
      forth : Holds s old x ⊎ P x → Holds s old x ⊎ Q x
      forth (inl k) = inl k
      forth (inr p) = inr ((is x).0 p)

      back : Holds s old x ⊎ Q x → Holds s old x ⊎ P x
      back (inl k) = inl k
      back (inr q) = inr ((is x).1 q)

  pub adds-both : (a b c : List Numbered) (P Q : Atom → Type 0) → AddsAll s a P b → AddsAll s b Q c
      → AddsAll s a (λ x. P x ⊎ Q x) c
  adds-both a b c P Q h k x = (λ m. forth ((k x).0 m), back)
    where
      first : Holds s a x ⊎ P x → Holds s a x ⊎ (P x ⊎ Q x)
      first (inl m) = inl m
      first (inr p) = inr (inl p)

      forth : Holds s b x ⊎ Q x → Holds s a x ⊎ (P x ⊎ Q x)
      forth (inl m) = first ((h x).0 m)
      forth (inr q) = inr (inr q)

      back : Holds s a x ⊎ (P x ⊎ Q x) → Holds s c x
      back (inl m) = (k x).1 (inl ((h x).1 (inl m)))
      back (inr (inl p)) = (k x).1 (inl ((h x).1 (inr p)))
      back (inr (inr q)) = (k x).1 (inr q)

  -- what a data type without a name gives
  module _ (k : DataType) (w : Bool) (leaf : IsLeaf k) (t : shapes.Sort) (only : (u : shapes.Sort) → IsSort s k u → u ≡
      t)
      (is : IsSort s k t) where
    sort-forth : (x : Atom) → x ≡ value t w → LeafGives s k w x
    sort-forth x e = subst (LeafGives s k w) (sym e) (refl, leaf, is)

    sort-back : (x : Atom) → LeafGives s k w x → x ≡ value t w
    sort-back (value u v) (e, l, h) = ap (λ y. value y v) (only u h) ∙ ap (value t) e
    sort-back (instance m) h = elim h [ ]

    sort-is : (x : Atom) → (x ≡ value t w) ↔ LeafGives s k w x
    sort-is x = (sort-forth x, sort-back x)

  module _ (k e : DataType) (n : ℕ) (w : Bool) (here : slice_get (all_data_types s) n ≡ Some k) (has : element k ≡ Some
      e)
      (leaf : IsLeaf k) (only : (u : shapes.Sort) → IsSort s k u → u ≡ an_aggregate e) (is : IsSort s k (an_aggregate
      e)) where
    behind : slice_get (all_data_types s) (n + 1) ≡ Some e
    behind =
        let next : n + 1 ≡ suc n = omega arith in
        subst (λ i. slice_get (all_data_types s) i ≡ Some e) (sym next) (element-behind s n k e here has)

    element-is : (l : DataType) → slice_get (all_data_types s) (n + 1) ≡ Some l → l ≡ e
    element-is l h = let q = sym h ∙ behind in cc

    aggregate-is : (x : Atom) → IsMeant s (atoms.Aggregate (n + 1) w) x ↔ LeafGives s k w x
    aggregate-is x = (forth, λ h. (e, behind, sort-back k w leaf (an_aggregate e) only is x h))
      where
        forth : IsMeant s (atoms.Aggregate (n + 1) w) x → LeafGives s k w x
        forth (l, at, q) =
            sort-forth k w leaf (an_aggregate e) only is x (q ∙ ap (λ y. value (an_aggregate y) w) (element-is l at))

  pub adds-leaf : (k : DataType) (n : ℕ) (w : Bool) (old : List Numbered) → slice_get (all_data_types s) n ≡ Some k
      → AddsAll s old (LeafGives s k w) (old ++ cons_option (leaf_atom (form_in s k) n w) [])
  adds-leaf integer n w old h = adds-atom old _ (LeafGives s integer w) (sort-is integer w tt a_number (λ u e. e) refl)
  adds-leaf number n w old h = adds-atom old _ (LeafGives s number w) (sort-is number w tt a_number (λ u e. e) refl)
  adds-leaf (real y) n w old h =
      adds-atom old _ (LeafGives s (real y) w) (sort-is (real y) w tt a_number (λ u e. e) refl)
  adds-leaf boolean n w old h = adds-atom old _ (LeafGives s boolean w) (sort-is boolean w tt a_logical (λ u e. e) refl)
  adds-leaf logical n w old h = adds-atom old _ (LeafGives s logical w) (sort-is logical w tt a_logical (λ u e. e) refl)
  adds-leaf (string y) n w old h =
      adds-atom old _ (LeafGives s (string y) w) (sort-is (string y) w tt a_string (λ u e. e) refl)
  adds-leaf (binary y) n w old h =
      adds-atom old _ (LeafGives s (binary y) w) (sort-is (binary y) w tt a_binary (λ u e. e) refl)
  adds-leaf (array b o u k) n w old h =
      adds-atom old _ (LeafGives s (array b o u k) w)
      (aggregate-is (array b o u k) k n w h refl tt (λ u e. e) refl)
  adds-leaf (list b u k) n w old h =
      adds-atom old _ (LeafGives s (list b u k) w) (aggregate-is (list b u k) k n w h refl tt (λ u e. e) refl)
  adds-leaf (bag b k) n w old h =
      adds-atom old _ (LeafGives s (bag b k) w) (aggregate-is (bag b k) k n w h refl tt (λ u e. e) refl)
  adds-leaf (set b k) n w old h =
      adds-atom old _ (LeafGives s (set b k) w) (aggregate-is (set b k) k n w h refl tt (λ u e. e) refl)
  adds-leaf (named m) n w old h =
      subst (AddsAll s old (LeafGives s (named m) w)) (sym (append-nil old)) (adds-nothing old (LeafGives s (named m)
      w) none)
    where
      none : (x : Atom) → LeafGives s (named m) w x → ⊥
      none (value t v) (e, leaf, g) = elim leaf [ ]
      none (instance i) g = elim g [ ]
