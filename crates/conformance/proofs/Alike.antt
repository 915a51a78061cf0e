-- Data types of one shape take values of one form.
use Rattle.std.specs.Prelude.{◌≡◌, ℕ, zero, suc, Bool, true, List, [], ◌∷◌, ◌⊎◌}
use Rattle.std.proofs.Common.{refl, sym, ◌∙◌, ap, subst, inl, inr}
use Rattle.graphs.specs.Graphs.{Chain}
use Rattle.express_syntax.specs.Schemas.{Schema, TypeDeclaration, Entity, Underlying, enumeration, select, data_type, DataType, named, array, list, bag, set}
use Rattle.express_syntax.specs.Schemas as schemas
use Rattle.schema_semantics.specs.Names.{Name, types, entities, StandsFor, IsEntity, IsOrLeads, Renames}
use Rattle.schema_semantics.specs.Shapes.{TypeShape, of_numbers, of_logicals, of_strings, of_binaries, of_items, of_instances, of_arrays, of_lists, of_collections, IsShapeAt, HasShape, AreOne, KeepsShapes, AreAlikeTypes}
use Rattle.schema_semantics.proofs.Lists.{every-at}
use Rattle.schema_semantics.proofs.Faults.{type-name}
use Rattle.schema_semantics.proofs.Supertypes.{entity-name}
use Rattle.conformance.specs.Bases.{Aggregate, Base, aggregate, Domain, base, base_of_underlying, IsDomain}
use Rattle.conformance.specs.Bases as bases
use Rattle.conformance.specs.ParameterFits.{has_no_order}
use Rattle.conformance.proofs.Returning.{same_aggregate}
use Rattle.conformance.proofs.ValueForms.{Like, IsLike, like_back}

module _ (s : Schema) (d : Domain) (is : IsDomain s d) where
  of_type : (n : Name) (u : Underlying) → StandsFor s n u → d.of_name n ≡ base_of_underlying d n u
  of_type n u (t, at, stands) =
      let known = type-name s n t at in
      subst (λ m. d.of_name m ≡ base_of_underlying d m u) known.1
      (subst (λ v. d.of_name t.name ≡ base_of_underlying d t.name v) stands
      (every-at (λ (t : TypeDeclaration). d.of_name t.name ≡ base_of_underlying d t.name t.underlying) t (types s)
      is.types known.0))

  of_entity : (n : Name) → IsEntity s n → d.of_name n ≡ bases.entity n
  of_entity n (e, at) =
      let known = entity-name s n e at in
      subst (λ m. d.of_name m ≡ bases.entity m) known.1
      (every-at (λ (e : Entity). d.of_name e.name ≡ bases.entity e.name) e (entities s) is.entities known.0)

  behind_name : (k l : DataType) → Renames s k l → base d k ≡ base d l
  behind_name (named n) l h = of_type n (data_type l) h
  behind_name k l h = absurd h

  along : (k : DataType) (ms : List DataType) (l : DataType) → Chain (Renames s) k ms l → base d k ≡ base d l
  along k [] l h = behind_name k l h
  along k (m ∷ ms) l h = behind_name k m h.0 ∙ along m ms l h.1

  behind_names : (k l : DataType) → IsOrLeads (Renames s) k l → base d k ≡ base d l
  behind_names k l (inl e) = ap (base d) e
  behind_names k l (inr h) = along k h.0 l h.1

  -- what a data type of this shape is
  abbrev IsOf : TypeShape → Base → Type 0
  IsOf (of_arrays k) b = (a : Aggregate) × (b ≡ aggregate a) × (a.collection ≡ bases.array) × (a.element ≡ k)
  IsOf (of_lists k) b = (a : Aggregate) × (b ≡ aggregate a) × (a.collection ≡ bases.list) × (a.element ≡ k)
  IsOf (of_collections k) b =
      (a : Aggregate) × (b ≡ aggregate a) × (has_no_order a.collection ≡ true) × (a.element ≡ k)
  IsOf f b = (a : Aggregate) → b ≡ aggregate a → ⊥

  plain : (b : Base) (f : TypeShape) → ((a : Aggregate) → b ≡ aggregate a → ⊥) → (f ≡ of_numbers) ⊎ ((f ≡ of_logicals)
      ⊎ ((f ≡ of_strings) ⊎ ((f ≡ of_binaries) ⊎ ((f ≡ of_items) ⊎ (f ≡ of_instances))))) → IsOf f b
  plain b f h (inl e) = subst (λ g. IsOf g b) (sym e) h
  plain b f h (inr (inl e)) = subst (λ g. IsOf g b) (sym e) h
  plain b f h (inr (inr (inl e))) = subst (λ g. IsOf g b) (sym e) h
  plain b f h (inr (inr (inr (inl e)))) = subst (λ g. IsOf g b) (sym e) h
  plain b f h (inr (inr (inr (inr (inl e))))) = subst (λ g. IsOf g b) (sym e) h
  plain b f h (inr (inr (inr (inr (inr e))))) = subst (λ g. IsOf g b) (sym e) h

  by_name : (n : Name) (b : Base) → d.of_name n ≡ b → ((a : Aggregate) → b ≡ aggregate a → ⊥)
      → (a : Aggregate) → d.of_name n ≡ aggregate a → ⊥
  by_name n b is h a e = h a (sym is ∙ e)

  shape_at : (k : DataType) (f : TypeShape) → IsShapeAt s k f → IsOf f (base d k)
  shape_at schemas.integer f e = plain bases.integer f (λ a e. cc) (inl e)
  shape_at schemas.number f e = plain bases.number f (λ a e. cc) (inl e)
  shape_at (schemas.real w) f e = plain bases.number f (λ a e. cc) (inl e)
  shape_at schemas.boolean f e = plain bases.boolean f (λ a e. cc) (inr (inl e))
  shape_at schemas.logical f e = plain bases.logical f (λ a e. cc) (inr (inl e))
  shape_at (schemas.string w) f e = plain (base d (schemas.string w)) f (λ a e. cc) (inr (inr (inl e)))
  shape_at (schemas.binary w) f e = plain (base d (schemas.binary w)) f (λ a e. cc) (inr (inr (inr (inl e))))
  shape_at (array b o u k) f e = subst (λ g. IsOf g (base d (array b o u k))) (sym e) (_, refl, refl, refl)
  shape_at (list b u k) f e = subst (λ g. IsOf g (base d (list b u k))) (sym e) (_, refl, refl, refl)
  shape_at (bag b k) f e = subst (λ g. IsOf g (base d (bag b k))) (sym e) (_, refl, refl, refl)
  shape_at (set b k) f e = subst (λ g. IsOf g (base d (set b k))) (sym e) (_, refl, refl, refl)
  shape_at (named n) f (inl (h, e)) =
      plain (d.of_name n) f (by_name n (bases.enumeration h.0) (of_type n (enumeration h.0) h.1) (λ a e. cc))
      (inr (inr (inr (inr (inl e)))))
  shape_at (named n) f (inr (inl h, e)) =
      plain (d.of_name n) f (by_name n (bases.entity n) (of_entity n h) (λ a e. cc))
      (inr (inr (inr (inr (inr e)))))
  shape_at (named n) f (inr (inr h, e)) =
      plain (d.of_name n) f (by_name n (bases.select n) (of_type n (select h.0) h.1) (λ a e. cc))
      (inr (inr (inr (inr (inr e)))))

  has_shape : (k : DataType) (f : TypeShape) → HasShape s k f → IsOf f (base d k)
  has_shape k f (l, h, at) = subst (λ b. IsOf f b) (sym (behind_names k l h)) (shape_at l f at)

  module _ (R : DataType → DataType → Bool) (n : ℕ)
      (less : (k l : DataType) → R k l ≡ true → Like s d n (base d k) (base d l)) where
    -- two aggregates
    pair : (b c : Base) (a e : Aggregate) (k l : DataType) → b ≡ aggregate a → c ≡ aggregate e
        → has_no_order a.collection ≡ has_no_order e.collection → a.element ≡ k → e.element ≡ l → R k l ≡ true
        → Like s d (suc n) b c
    pair b c a e k l p q order x y r = (
      (λ z f. let same : a ≡ z = same_aggregate a z (sym p ∙ f) in (
        e,
        q,
        ap (λ u. has_no_order u.collection) (sym same) ∙ order,
        subst (λ u. Like s d n (base d u.element) (base d e.element)) same elements,
      )),
      (λ z f. let same : e ≡ z = same_aggregate e z (sym q ∙ f) in (
        a,
        p,
        ap (λ u. has_no_order u.collection) (sym same) ∙ sym order,
        subst (λ u. Like s d n (base d u.element) (base d a.element)) same
            (like_back s d n (base d a.element) (base d e.element) elements),
      )),
    )
      where
        elements : Like s d n (base d a.element) (base d e.element)
        elements =
            subst (λ u. Like s d n (base d u) (base d e.element)) (sym x)
            (subst (λ u. Like s d n (base d k) (base d u)) (sym y) (less k l r))

    neither : (b c : Base) → ((a : Aggregate) → b ≡ aggregate a → ⊥) → ((a : Aggregate) → c ≡ aggregate a → ⊥)
        → Like s d (suc n) b c
    neither b c h k = ((λ a e. absurd (h a e)), (λ a e. absurd (k a e)))

    shapes_like : (f g : TypeShape) (b c : Base) → AreOne R f g → IsOf f b → IsOf g c → Like s d (suc n) b c
    shapes_like (of_arrays k) (of_arrays l) b c r (a, p, x, i) (e, q, y, j) =
        pair b c a e k l p q (ap has_no_order x ∙ sym (ap has_no_order y)) i j r
    shapes_like (of_lists k) (of_lists l) b c r (a, p, x, i) (e, q, y, j) =
        pair b c a e k l p q (ap has_no_order x ∙ sym (ap has_no_order y)) i j r
    shapes_like (of_collections k) (of_collections l) b c r (a, p, x, i) (e, q, y, j) =
        pair b c a e k l p q (x ∙ sym y) i j r
    shapes_like of_numbers of_numbers b c r h k = neither b c h k
    shapes_like of_logicals of_logicals b c r h k = neither b c h k
    shapes_like of_strings of_strings b c r h k = neither b c h k
    shapes_like of_binaries of_binaries b c r h k = neither b c h k
    shapes_like of_items of_items b c r h k = neither b c h k
    shapes_like of_instances of_instances b c r h k = neither b c h k
    shapes_like f g b c r h k = absurd r

  alike_so_deep : (R : DataType → DataType → Bool) → KeepsShapes s R → (n : ℕ) (k l : DataType) → R k l ≡ true
      → Like s d n (base d k) (base d l)
  alike_so_deep R keeps zero k l r = tt
  alike_so_deep R keeps (suc n) k l r =
      let shapes = keeps k l r in
      shapes_like R n (λ x y q. alike_so_deep R keeps n x y q) shapes.0 shapes.1 (base d k) (base d l) shapes.4
      (has_shape k shapes.0 shapes.2) (has_shape l shapes.1 shapes.3)

  pub alike_are_like : (k l : DataType) → AreAlikeTypes s k l → IsLike s d (base d k) (base d l)
  alike_are_like k l (R, r, keeps) n = alike_so_deep R keeps n k l r
