-- Along an order of what defined types are made of, each name gets its shape.
use Rattle.std.specs.Prelude.{◌≡◌, ℕ, ◌+◌, ◌<◌, Bool, true, false, List, [], ◌∷◌, ◌++◌, Some, ◌⊎◌, map, length, take, slice_get, get_or, eqb}
use Rattle.std.proofs.Common.{refl, inl, inr, ap, sym, subst, ◌∙◌, arith, set}
use Rattle.std.proofs.lemmas.Bool.Decides.{nat_tests}
use Rattle.graphs.specs.Graphs.{Graph, has, Step}
use Rattle.graphs.specs.Orders.{Follows, IsTopologicalOrder}
use Rattle.graphs.proofs.Found.{has-more, taken}
use Rattle.graphs.proofs.Searching.{either}
use Rattle.graphs.proofs.Gathered.{follows-at, set-here, set-elsewhere}
use Rattle.express_syntax.specs.Schemas.{Schema, Declaration, type, entity, skipped, TypeDeclaration, Underlying, enumeration, select, data_type, DataType, named}
use Rattle.schema_semantics.specs.Names.{Name, Among, IsTypeAt, declared_name}
use Rattle.schema_semantics.specs.Faults.{IsResolved}
use Rattle.schema_semantics.specs.Shapes.{of_items, of_instances}
use Rattle.schema_names.specs.Numbers.{HasNumber, IsAt, AreAt}
use Rattle.schema_names.specs.Edges.{IsGraphOf, parts_in, parts_of}
use Rattle.schema_names.proofs.Numbers.{stands-at, what-stands}
use Rattle.schema_names.proofs.Edges.{number-within}
use Rattle.schema_names.proofs.Items.{front-at, mapped-at}
use Rattle.schema_data_types.specs.declared.forms.Form.{Form}
use Rattle.schema_data_types.specs.NumberedTypes.{all_data_types, form_in, whole_types, whole_underlying}
use Rattle.schema_data_types.specs.declared.shapes.Shape.{Shape}
use Rattle.schema_data_types.specs.declared.shapes.Shape.TheVariants.{Instances}
use Rattle.schema_data_types.specs.ShapeTables.{IsShapeOf}
use Rattle.schema_data_types.specs.steps.Making.{shape_declared, shape_behind, shape_first, shape_seen, shape_in, IsDeclaredAt, AreDeclared}
use Rattle.schema_data_types.proofs.Known.{known-behind, all-ordered}
use Rattle.schema_data_types.proofs.Shown.{behind, form-shape}

-- those of what a vertex leads to stand already
abbrev pub AreBelow : Schema → Graph → List Shape → ℕ → Type 0
AreBelow s g declared i = (j : ℕ) → Step g i j → IsDeclaredAt s declared j

-- those of the first of an order stand already
abbrev pub AreSoFar : Schema → List Shape → List ℕ → ℕ → Type 0
AreSoFar s declared order i = (j : ℕ) → has (take i order) j ≡ true → IsDeclaredAt s declared j

module _ (s : Schema) (r : IsResolved s) (g : Graph) (h : IsGraphOf s parts_in g) (forms : List Form)
    (is : forms ≡ map (form_in s) (all_data_types s)) where
  pub numbered : (declared : List Shape) (k : DataType) (m : ℕ) → slice_get (all_data_types s) m ≡ Some k
      → shape_seen declared m (slice_get forms m) ≡ shape_seen declared m (Some (form_in s k))
  numbered declared k m at =
      ap (λ (xs : List Form). shape_seen declared m (slice_get xs m)) is
      ∙ ap (shape_seen declared m) (mapped-at (form_in s) (all_data_types s) m k at)

  of-data-type : (declared : List Shape) (i : ℕ) (n : Name) (t : TypeDeclaration) (k : DataType) (row : List ℕ)
      → IsAt s i (type t) → IsTypeAt s n t → t.underlying ≡ data_type k → AreBelow s g declared i
      → AreAt (all_data_types s) row (k ∷ []) → IsShapeOf s (named n) (shape_first forms declared row)
  of-data-type declared i n t k [] at here e below found = absurd (cc)
  of-data-type declared i n t k (m ∷ row) at here e below found =
      let there : slice_get (all_data_types s) m ≡ Some k = front-at (all_data_types s) m row k [] found in
      let shaped = form-shape s declared k m there (known-behind s r n k (t, here, e))
      (λ (x : Name) (j : ℕ) (same : k ≡ named x) (l : HasNumber s x j).
      below j ((h.edges i j).1 (
        type t,
        at,
        x,
        subst (λ u. Among x (parts_of u)) (sym (e ∙ ap data_type same)) (inl refl),
        l,
      ))) in
      let (f, has-shape, shown) = subst (IsShapeOf s k) (sym (numbered declared k m there)) shaped in
      (f, behind s (named n) k f (t, here, e) has-shape, shown)

  of-underlying : (declared : List Shape) (i : ℕ) (n : Name) (t : TypeDeclaration) (u : Underlying) (row : List ℕ)
      → IsAt s i (type t) → IsTypeAt s n t → t.underlying ≡ u → AreBelow s g declared i
      → AreAt (all_data_types s) row (whole_underlying u) → IsShapeOf s (named n) (shape_behind forms declared row u)
  of-underlying declared i n t (enumeration items) row at here e below found =
      (of_items, (named n, inl refl, inl ((items, (t, here, e)), refl)), refl)
  of-underlying declared i n t (select items) row at here e below found =
      (of_instances, (named n, inl refl, inr (inr (items, (t, here, e)), refl)), refl)
  of-underlying declared i n t (data_type k) row at here e below found =
      of-data-type declared i n t k row at here e below found

  pub up : (declared : List Shape) (i : ℕ) (d : Declaration) (row : List ℕ) → IsAt s i d → AreBelow s g declared i
      → AreAt (all_data_types s) row (whole_types d) → (n : Name) → HasNumber s n i
      → IsShapeOf s (named n) (shape_in forms declared row d)
  up declared i (type t) row at below found n k =
      of-underlying declared i n t t.underlying row at (stands-at s n i k ∙ at) refl below found
  up declared i (entity e) row at below found n k =
      (of_instances, (named n, inl refl, inr (inl (e, stands-at s n i k ∙ at), refl)), refl)
  up declared i (skipped p) row at below found n k =
      let (d, there, called) = what-stands s n i k in
      let same : d ≡ skipped p = cc in
      let none : declared_name (skipped p) ≡ Some n = sym (ap declared_name same) ∙ called in absurd (cc)

  pub below-so : (declared : List Shape) (order : List ℕ) (i : ℕ) → Follows g [] order → i < length order
      → AreSoFar s declared order i → AreBelow s g declared (get_or order i 0)
  below-so declared order i f lt so j step = so j (follows-at g [] order i 0 f lt j step)

  pub one-more : (declared : List Shape) (order : List ℕ) (i x : ℕ) (shape : Shape) → i < length order
      → x ≡ get_or order i 0 → x < length declared → AreSoFar s declared order i
      → ((n : Name) → HasNumber s n x → IsShapeOf s (named n) shape) → AreSoFar s (set declared x shape) order (i + 1)
  one-more declared order i x shape lt at below so made j m = by (eqb j x) refl
    where
      more : take (i + 1) order ≡ take i order ++ x ∷ []
      more = taken order i lt ∙ ap (λ (y : ℕ). take i order ++ y ∷ []) (sym at)

      which : (has (take i order) j ≡ true) ⊎ (eqb j x ≡ true)
      which = either (has (take i order) j) (eqb j x)
          (sym (has-more (take i order) x j) ∙ ap (λ (xs : List ℕ). has xs j) (sym more) ∙ m)

      before : eqb j x ≡ false → (has (take i order) j ≡ true) ⊎ (eqb j x ≡ true) → has (take i order) j ≡ true
      before e (inl k) = k
      before e (inr k) = absurd (cc)

      by : (b : Bool) → eqb j x ≡ b → IsDeclaredAt s (set declared x shape) j
      by true e n k =
          let same : j ≡ x = grind (arith, nat_tests) in
          let here : shape_declared (set declared x shape) j ≡ shape = ap (shape_declared (set declared x shape)) same
          ∙ set-here declared x shape Instances below in
          subst (IsShapeOf s (named n)) (sym here) (made n (subst (HasNumber s n) same k))
      by false e n k =
          let other : j ≡ x → ⊥ = λ (same : j ≡ x).
          (let is-so : eqb j x ≡ true = grind (arith, nat_tests) in absurd (cc)) in
          subst (IsShapeOf s (named n)) (sym (set-elsewhere declared x shape j Instances other))
          (so j (before e which) n k)

  pub all-declared : (declared : List Shape) (order : List ℕ) (i : ℕ) → IsTopologicalOrder g order
      → take i order ≡ order → AreSoFar s declared order i → AreDeclared s declared
  all-declared declared order i o whole so j n k =
      let bound = number-within s n j k in
      let same = h.same in
      so j (ap (λ (xs : List ℕ). has xs j) whole ∙ all-ordered s r g h order o j (omega (arith, bound, same))) n k
