-- One data type by its form, and what its values may be.
use Rattle.std.specs.Prelude.{◌≡◌, ℕ, zero, suc, ◌<◌, true, false, List, [], ◌∷◌, map, Option, None, Some, length, get_or, slice_get, ◌↔◌}
use Rattle.std.proofs.Common.{refl, inl, inr, ap, sym, subst, ◌∙◌, arith}
use Rattle.graphs.specs.Graphs.{Chain}
use Rattle.express_syntax.specs.Schemas.{Schema, type, entity, Underlying, enumeration, select, DataType, integer, number, boolean, logical, real, string, binary, named, array, list, bag, set}
use Rattle.schema_semantics.specs.Names.{Name, IsOrLeads, StandsFor, Renames, IsMadeOf}
use Rattle.schema_semantics.specs.Shapes.{Atom, value, instance, IsSort, IsOf}
use Rattle.schema_names.specs.Numbers.{number_of, HasNumber}
use Rattle.schema_names.proofs.Numbers.{each-number}
use Rattle.schema_names.proofs.Edges.{is-name, first-name}
use Rattle.schema_data_types.specs.declared.forms.Form.TheVariants as forms
use Rattle.schema_data_types.specs.NumberedTypes.{form_in}
use Rattle.schema_data_types.specs.steps.Leaves.{IsLeaf, LeafGives}

pub form-at : {A B : Type 0} (g : A → B) (xs : List A) (n : ℕ) (x : A) (y : B) → slice_get xs n ≡ Some x
    → y ≡ get_or (map g xs) n y → y ≡ g x
form-at g [] n x y h e = absurd (cc)
form-at g (z ∷ xs) zero x y h e = let same : z ≡ x = cc in e ∙ ap g same
form-at g (z ∷ xs) (suc n) x y h e = form-at g xs n x y h e

pub what-is : {A : Type 0} (xs : List A) (n : ℕ) → n < length xs → (x : A) × (slice_get xs n ≡ Some x)
what-is [] n lt = absurd (omega (arith, lt))
what-is (x ∷ xs) zero lt = (x, refl)
what-is (x ∷ xs) (suc n) lt = what-is xs n (omega (arith, lt))

module _ (s : Schema) where
  abbrev pub IsNamedBy : DataType → Option ℕ → Type 0
  IsNamedBy k i = (n : Name) × (k ≡ named n) × (number_of s n ≡ i)

  is-number : (i j : Option ℕ) → forms.Named i ≡ forms.Named j → i ≡ j
  is-number i j e = cc

  -- by its form a data type is a name, or has none
  pub form-named : (k : DataType) (i : Option ℕ) → form_in s k ≡ forms.Named i → IsNamedBy k i
  form-named (named n) i e = (n, refl, is-number (number_of s n) i e)
  form-named integer i e = absurd (cc)
  form-named number i e = absurd (cc)
  form-named boolean i e = absurd (cc)
  form-named logical i e = absurd (cc)
  form-named (real w) i e = absurd (cc)
  form-named (string w) i e = absurd (cc)
  form-named (binary w) i e = absurd (cc)
  form-named (array b o u k) i e = absurd (cc)
  form-named (list b u k) i e = absurd (cc)
  form-named (bag b k) i e = absurd (cc)
  form-named (set b k) i e = absurd (cc)

  pub form-leaf : (k : DataType) → ((i : Option ℕ) → form_in s k ≡ forms.Named i → ⊥) → IsLeaf k
  form-leaf (named n) h = absurd (h (number_of s n) refl)
  form-leaf integer h = tt
  form-leaf number h = tt
  form-leaf boolean h = tt
  form-leaf logical h = tt
  form-leaf (real w) h = tt
  form-leaf (string w) h = tt
  form-leaf (binary w) h = tt
  form-leaf (array b o u k) h = tt
  form-leaf (list b u k) h = tt
  form-leaf (bag b k) h = tt
  form-leaf (set b k) h = tt

  not-named : (k : DataType) → IsLeaf k → (a : Name) → k ≡ named a → ⊥
  not-named k leaf a e = subst IsLeaf e leaf

  made-named : (k l : DataType) → Renames s k l → (a : Name) × (k ≡ named a)
  made-named k l h = is-name s k l (inl h)

  no-renaming : (k l : DataType) → IsLeaf k → IsOrLeads (Renames s) k l → k ≡ l
  no-renaming k l leaf (inl e) = e
  no-renaming k l leaf (inr ([], c)) = let (a, e) = made-named k l c in absurd (not-named k leaf a e)
  no-renaming k l leaf (inr (m ∷ ms, c)) = let (a, e) = made-named k m c.0 in absurd (not-named k leaf a e)

  no-making : (k l : DataType) → IsLeaf k → IsOrLeads (IsMadeOf s) k l → k ≡ l
  no-making k l leaf (inl e) = e
  no-making k l leaf (inr (ms, c)) = let (a, e) = first-name s k ms l c in absurd (not-named k leaf a e)

  -- a data type without a name
  pub leaf-is : (k : DataType) → IsLeaf k → (x : Atom) → LeafGives s k false x ↔ IsOf s k x
  leaf-is k leaf x = (forth x, back x)
    where
      forth : (x : Atom) → LeafGives s k false x → IsOf s k x
      forth (value t true) (e, l, h) = absurd (cc)
      forth (value t false) (e, l, h) = (k, inl refl, h)
      forth (instance m) h = elim h [ ]

      back : (x : Atom) → IsOf s k x → LeafGives s k false x
      back (value t false) (l, way, h) =
          (refl, leaf, subst (λ y. IsSort s y t) (sym (no-renaming k l leaf way)) h)
      back (value t true) ((n, way, sel), rest) = absurd (not-named k leaf n (no-renaming k (named n) leaf way))
      back (instance m) (way, ent) = absurd (not-named k leaf m (no-making k (named m) leaf way))

  -- a name that nothing has
  module _ (n : Name) (lost : number_of s n ≡ None) where
    never : (i : ℕ) → HasNumber s n i → ⊥
    never i h = absurd (cc)

    no-step : (l : DataType) → IsMadeOf s (named n) l → ⊥
    no-step l (inl (t, at, e)) = let (i, h) = each-number 0 s.declarations n (type t) at in never i h
    no-step (named m) (inr (items, (t, at, e), among)) =
        let (i, h) = each-number 0 s.declarations n (type t) at in never i h
    no-step l (inr h) = absurd h

    no-leading : (ms : List DataType) (l : DataType) → Chain (IsMadeOf s) (named n) ms l → ⊥
    no-leading [] l c = no-step l c
    no-leading (m ∷ ms) l c = no-step m c.0

    no-renames : (ms : List DataType) (l : DataType) → Chain (Renames s) (named n) ms l → ⊥
    no-renames [] l c = no-step l (inl c)
    no-renames (m ∷ ms) l c = no-step m (inl c.0)

    stands-not : (u : Underlying) → StandsFor s n u → ⊥
    stands-not u (t, at, e) = let (i, h) = each-number 0 s.declarations n (type t) at in never i h

    is-it : (m : Name) → named n ≡ named m → n ≡ m
    is-it m e = cc

    pub lost-is-none : (x : Atom) → IsOf s (named n) x → ⊥
    lost-is-none (value t false) (l, inl e, h) =
        let (items, stands) = (subst (λ y. IsSort s y t) (sym e) h).0 in stands-not (enumeration items) stands
    lost-is-none (value t false) (l, inr (ms, c), h) = no-renames ms l c
    lost-is-none (value t true) ((m, inl e, (items, stands)), rest) =
        stands-not (select items) (subst (λ y. StandsFor s y (select items)) (sym (is-it m e)) stands)
    lost-is-none (value t true) ((m, inr (ms, c), sel), rest) = no-renames ms (named m) c
    lost-is-none (instance m) (inl e, (x, at)) =
        let (i, h) = each-number 0 s.declarations m (entity x) at in
        never i (subst (λ y. HasNumber s y i) (sym (is-it m e)) h)
    lost-is-none (instance m) (inr (ms, c), ent) = no-leading ms (named m) c
