-- A data type has one shape.
use Rattle.std.specs.Prelude.{◌≡◌, List, [], ◌∷◌}
use Rattle.std.proofs.Common.{inl, inr, ap, sym, subst, ◌∙◌}
use Rattle.graphs.specs.Graphs.{Chain}
use Rattle.express_syntax.specs.Schemas.{Schema, TypeDeclaration, Underlying, enumeration, select, data_type, DataType, integer, number, boolean, logical, real, string, binary, named, array, list, bag, set}
use Rattle.schema_semantics.specs.Names.{Name, StandsFor, Renames}
use Rattle.schema_semantics.specs.Shapes.{TypeShape, IsShapeAt, HasShape}
use Rattle.schema_semantics.proofs.Lists.{first-step}

module _ (s : Schema) where
  stands-one : (n : Name) (u v : Underlying) → StandsFor s n u → StandsFor s n v → u ≡ v
  stands-one n u v (t, at, e) (x, there, f) =
      let same : t ≡ x = cc in sym e ∙ ap (λ (y : TypeDeclaration). y.underlying) same ∙ f

  renames-one : (k l m : DataType) → Renames s k l → Renames s k m → l ≡ m
  renames-one (named n) l m h g = let same = stands-one n (data_type l) (data_type m) h g in cc
  renames-one k l m h g = absurd h

  -- what has a shape of its own stands for nothing else
  no-rename : (k l : DataType) (f : TypeShape) → IsShapeAt s k f → Renames s k l → ⊥
  no-rename (named n) l f (inl ((items, h), is)) step =
      let same = stands-one n (enumeration items) (data_type l) h step in absurd (cc)
  no-rename (named n) l f (inr (inl (e, at), is)) (t, there, has) = absurd (cc)
  no-rename (named n) l f (inr (inr (items, h), is)) step =
      let same = stands-one n (select items) (data_type l) h step in absurd (cc)
  no-rename k l f h step = step

  own-one : (k : DataType) (f g : TypeShape) → IsShapeAt s k f → IsShapeAt s k g → f ≡ g
  own-one integer f g h k = h ∙ sym k
  own-one number f g h k = h ∙ sym k
  own-one boolean f g h k = h ∙ sym k
  own-one logical f g h k = h ∙ sym k
  own-one (real w) f g h k = h ∙ sym k
  own-one (string w) f g h k = h ∙ sym k
  own-one (binary w) f g h k = h ∙ sym k
  own-one (array b o u l) f g h k = h ∙ sym k
  own-one (list b u l) f g h k = h ∙ sym k
  own-one (bag b l) f g h k = h ∙ sym k
  own-one (set b l) f g h k = h ∙ sym k
  own-one (named n) f g (inl (x, h)) (inl (y, k)) = h ∙ sym k
  own-one (named n) f g (inr (x, h)) (inr (y, k)) = h ∙ sym k
  own-one (named n) f g (inl ((items, x), h)) (inr (inl (e, at), k)) = let (t, there, is) = x in absurd (cc)
  own-one (named n) f g (inl ((items, x), h)) (inr (inr (others, y), k)) =
      let same = stands-one n (enumeration items) (select others) x y in absurd (cc)
  own-one (named n) f g (inr (inl (e, at), h)) (inl ((items, y), k)) = let (t, there, is) = y in absurd (cc)
  own-one (named n) f g (inr (inr (others, x), h)) (inl ((items, y), k)) =
      let same = stands-one n (enumeration items) (select others) y x in absurd (cc)

  after : (k m : DataType) (g : TypeShape) → Renames s k m → HasShape s k g → HasShape s m g
  after k m g step (l, inl e, h) = absurd (no-rename k m g (subst (λ x. IsShapeAt s x g) (sym e) h) step)
  after k m g step (l, inr ([], c), h) = (l, inl (renames-one k m l step c), h)
  after k m g step (l, inr (x ∷ xs, c), h) =
      let same : x ≡ m = renames-one k x m c.0 step in
      (l, inr (xs, subst (λ y. Chain (Renames s) y xs l) same c.1), h)

  at-one : (l : DataType) (f g : TypeShape) → IsShapeAt s l f → HasShape s l g → f ≡ g
  at-one l f g h (x, inl e, k) = own-one l f g h (subst (λ y. IsShapeAt s y g) (sym e) k)
  at-one l f g h (x, inr c, k) =
      let (m, step) = first-step (Renames s) l x c in absurd (no-rename l m f h step)

  along-one : (k : DataType) (ms : List DataType) (l : DataType) (f g : TypeShape) → Chain (Renames s) k ms l
      → IsShapeAt s l f → HasShape s k g → f ≡ g
  along-one k [] l f g c h has = at-one l f g h (after k l g c has)
  along-one k (m ∷ ms) l f g c h has = along-one m ms l f g c.1 h (after k m g c.0 has)

  pub shape-one : (k : DataType) (f g : TypeShape) → HasShape s k f → HasShape s k g → f ≡ g
  shape-one k f g (l, inl e, h) has = at-one l f g h (subst (λ x. HasShape s x g) e has)
  shape-one k f g (l, inr (ms, c), h) has = along-one k ms l f g c h has
