-- What is among atoms, by a test of each.
use Rattle.std.proofs.Common.{◌≡◌, ◌⊎◌, ◌↔◌, ◌||◌, ◌&&◌, ◌<◌, ℕ, Bool, true, false, not, List, [], ◌∷◌, Option, None, Some, length, slice_get, nat_lt, inl, inr, refl, sym, ap, subst, ◌∙◌, arith}
use Rattle.std.specs.Prelude.{IsTrue}
use Rattle.std.specs.List.{list_any}
use Rattle.std.proofs.lemmas.Bool.Decides.{nat_tests}
use Rattle.std.proofs.lemmas.Option.{slice_get_within}
use Rattle.express_syntax.specs.Schemas.{Schema, Declaration, DataType}
use Rattle.schema_semantics.specs.Names.{Name, declared_name}
use Rattle.schema_semantics.specs.Shapes.{Atom, value, instance, a_number, a_logical, a_string, a_binary, an_item, an_aggregate}
use Rattle.schema_semantics.specs.Sets.{Set}
use Rattle.schema_semantics.specs.Reasons.{HasBareValue, MayBeDeep, IsUnordered, MayBeUnordered}
use Rattle.schema_names.specs.Numbers.{HasNumber, number_of}
use Rattle.schema_names.proofs.Numbers.{what-stands}
use Rattle.schema_data_types.specs.declared.values.Sort.TheVariants as sorts
use Rattle.schema_data_types.specs.declared.values.Atom.{Atom as Numbered}
use Rattle.schema_data_types.specs.declared.values.Atom.TheVariants as atoms
use Rattle.schema_data_types.specs.NumberedTypes.{all_data_types}
use Rattle.schema_data_types.specs.steps.Values.{IsMeant, Holds, sort_of}
use Rattle.schema_data_types.proofs.Single.{what-is}
use Rattle.schema_expression_analysis.specs.steps.Questions.{is_number, is_name_at, is_declared_at, is_numbered, is_deep_atom, is_bare_atom, is_unordered_atom}

abbrev IsDeep : Atom → Type 0
IsDeep (instance e) = Unit {0}
IsDeep (value (an_aggregate k) w) = Unit {0}
IsDeep x = ⊥

abbrev IsBare : Atom → Type 0
IsBare (value x false) = Unit {0}
IsBare x = ⊥

abbrev IsUnorderedAtom : Atom → Type 0
IsUnorderedAtom (value x w) = IsUnordered x
IsUnorderedAtom (instance e) = ⊥

-- a test of each decides whether one of D is held
module _ (s : Schema) (D : Atom → Type 0) (test : Numbered → Bool)
    (forth : (a : Numbered) → test a ≡ true → (x : Atom) × IsMeant s a x × D x)
    (back : (a : Numbered) (x : Atom) → IsMeant s a x → D x → test a ≡ true) where
  held : (xs : List Numbered) → list_any test xs ≡ true → (x : Atom) × Holds s xs x × D x
  held [] h = absurd (cc)
  held (a ∷ xs) h = by (test a) refl h (held xs)
    where
      by : (c : Bool) → test a ≡ c → (c || list_any test xs) ≡ true
          → (list_any test xs ≡ true → (x : Atom) × Holds s xs x × D x) → (x : Atom) × Holds s (a ∷ xs) x × D x
      by true e h more = let (x, m, d) = forth a e in (x, inl m, d)
      by false e h more = let (x, m, d) = more h in (x, inr m, d)

  left : (c d : Bool) → c ≡ true → (c || d) ≡ true
  left c d e = rw e refl

  right : (c d : Bool) → d ≡ true → (c || d) ≡ true
  right true d e = refl
  right false d e = e

  tested-true : (xs : List Numbered) (x : Atom) → Holds s xs x → D x → list_any test xs ≡ true
  tested-true [] x h d = elim h [ ]
  tested-true (a ∷ xs) x (inl m) d = left (test a) (list_any test xs) (back a x m d)
  tested-true (a ∷ xs) x (inr h) d = right (test a) (list_any test xs) (tested-true xs x h d)

module _ (s : Schema) where
  numbered-forth : (i : ℕ) → is_numbered s i ≡ true → (n : Name) × HasNumber s n i
  numbered-forth i h = declared (slice_get s.declarations i) h
    where
      number : (o : Option ℕ) → is_number i o ≡ true → o ≡ Some i
      number None h = absurd (cc)
      number (Some j) h = let e : j ≡ i = grind (arith, nat_tests) in ap Some e

      name : (o : Option Name) → is_name_at s i o ≡ true → (n : Name) × HasNumber s n i
      name None h = absurd (cc)
      name (Some n) h = (n, number (number_of s n) h)

      declared : (o : Option Declaration) → is_declared_at s i o ≡ true → (n : Name) × HasNumber s n i
      declared None h = absurd (cc)
      declared (Some d) h = name (declared_name d) h

  numbered-back : (n : Name) (i : ℕ) → HasNumber s n i → is_numbered s i ≡ true
  numbered-back n i k =
      let (d, at, called) = what-stands s n i k in
      ap (is_declared_at s i) at ∙ ap (is_name_at s i) called ∙ ap (is_number i) k ∙ itself i
    where
      itself : (i : ℕ) → is_number i (Some i) ≡ true
      itself i = grind (arith, nat_tests)

  module _ (m : ℕ) (all : m ≡ length (all_data_types s)) where
    below : (n : ℕ) → nat_lt n m ≡ true → (k : DataType) × (slice_get (all_data_types s) n ≡ Some k)
    below n h =
        let lt : n < m = grind (arith, nat_tests) in
        what-is (all_data_types s) n (subst (λ l. n < l) all lt)

    above : (n : ℕ) (k : DataType) → slice_get (all_data_types s) n ≡ Some k → nat_lt n m ≡ true
    above n k h =
        let lt : n < m = subst (λ l. n < l) (sym all) (slice_get_within (all_data_types s) n k h) in
        grind (arith, nat_tests)

    deep-forth : (a : Numbered) → is_deep_atom s m a ≡ true → (x : Atom) × IsMeant s a x × IsDeep x
    deep-forth (atoms.Value t w) h = absurd (cc)
    deep-forth (atoms.Aggregate n w) h = let (k, at) = below n h in (value (an_aggregate k) w, (k, at, refl), tt)
    deep-forth (atoms.Instance i) h = let (n, k) = numbered-forth i h in (instance n, (n, k, refl), tt)

    deep-back : (a : Numbered) (x : Atom) → IsMeant s a x → IsDeep x → is_deep_atom s m a ≡ true
    deep-back (atoms.Value sorts.Number w) x e d = elim (subst IsDeep e d) [ ]
    deep-back (atoms.Value sorts.Logical w) x e d = elim (subst IsDeep e d) [ ]
    deep-back (atoms.Value sorts.String w) x e d = elim (subst IsDeep e d) [ ]
    deep-back (atoms.Value sorts.Binary w) x e d = elim (subst IsDeep e d) [ ]
    deep-back (atoms.Value sorts.Item w) x e d = elim (subst IsDeep e d) [ ]
    deep-back (atoms.Aggregate n w) x (k, at, e) d = above n k at
    deep-back (atoms.Instance i) x (n, k, e) d = numbered-back n i k

    pub deep-decides : (xs : List Numbered) → IsTrue (list_any (is_deep_atom s m) xs) ↔ MayBeDeep (Holds s xs)
    deep-decides xs = ((λ h. say (held s IsDeep (is_deep_atom s m) deep-forth deep-back xs h)), told)
      where
        say : (x : Atom) × Holds s xs x × IsDeep x → MayBeDeep (Holds s xs)
        say (instance e, h, d) = inl (e, h)
        say (value (an_aggregate k) w, h, d) = inr (k, w, h)
        say (value a_number w, h, d) = elim d [ ]
        say (value a_logical w, h, d) = elim d [ ]
        say (value a_string w, h, d) = elim d [ ]
        say (value a_binary w, h, d) = elim d [ ]
        say (value an_item w, h, d) = elim d [ ]

        told : MayBeDeep (Holds s xs) → IsTrue (list_any (is_deep_atom s m) xs)
        told (inl (e, h)) = tested-true s IsDeep (is_deep_atom s m) deep-forth deep-back xs (instance e) h tt
        told (inr (k, w, h)) =
            tested-true s IsDeep (is_deep_atom s m) deep-forth deep-back xs (value (an_aggregate k) w) h tt

    bare-forth : (a : Numbered) → is_bare_atom m a ≡ true → (x : Atom) × IsMeant s a x × IsBare x
    bare-forth (atoms.Value t true) h = absurd (cc)
    bare-forth (atoms.Value t false) h = (value (sort_of t) false, refl, tt)
    bare-forth (atoms.Aggregate n true) h = absurd (cc)
    bare-forth (atoms.Aggregate n false) h =
        let (k, at) = below n h in (value (an_aggregate k) false, (k, at, refl), tt)
    bare-forth (atoms.Instance i) h = absurd (cc)

    bare-back : (a : Numbered) (x : Atom) → IsMeant s a x → IsBare x → is_bare_atom m a ≡ true
    bare-back (atoms.Value t true) x e d = elim (subst IsBare e d) [ ]
    bare-back (atoms.Value t false) x e d = refl
    bare-back (atoms.Aggregate n true) x (k, at, e) d = elim (subst IsBare e d) [ ]
    bare-back (atoms.Aggregate n false) x (k, at, e) d = above n k at
    bare-back (atoms.Instance i) x (n, k, e) d = elim (subst IsBare e d) [ ]

    pub bare-decides : (xs : List Numbered) → IsTrue (list_any (is_bare_atom m) xs) ↔ HasBareValue (Holds s xs)
    bare-decides xs = ((λ h. say (held s IsBare (is_bare_atom m) bare-forth bare-back xs h)), told)
      where
        say : (x : Atom) × Holds s xs x × IsBare x → HasBareValue (Holds s xs)
        say (value x false, h, d) = (x, h)
        say (value x true, h, d) = elim d [ ]
        say (instance e, h, d) = elim d [ ]

        told : HasBareValue (Holds s xs) → IsTrue (list_any (is_bare_atom m) xs)
        told (x, h) = tested-true s IsBare (is_bare_atom m) bare-forth bare-back xs (value x false) h tt

  unordered-forth : (a : Numbered) → is_unordered_atom a ≡ true → (x : Atom) × IsMeant s a x × IsUnorderedAtom x
  unordered-forth (atoms.Value sorts.Number w) h = absurd (cc)
  unordered-forth (atoms.Value sorts.Logical w) h = absurd (cc)
  unordered-forth (atoms.Value sorts.String w) h = (value a_string w, refl, tt)
  unordered-forth (atoms.Value sorts.Binary w) h = (value a_binary w, refl, tt)
  unordered-forth (atoms.Value sorts.Item w) h = (value an_item w, refl, tt)
  unordered-forth (atoms.Aggregate n w) h = absurd (cc)
  unordered-forth (atoms.Instance i) h = absurd (cc)

  unordered-back : (a : Numbered) (x : Atom) → IsMeant s a x → IsUnorderedAtom x → is_unordered_atom a ≡ true
  unordered-back (atoms.Value sorts.Number w) x e d = elim (subst IsUnorderedAtom e d) [ ]
  unordered-back (atoms.Value sorts.Logical w) x e d = elim (subst IsUnorderedAtom e d) [ ]
  unordered-back (atoms.Value sorts.String w) x e d = refl
  unordered-back (atoms.Value sorts.Binary w) x e d = refl
  unordered-back (atoms.Value sorts.Item w) x e d = refl
  unordered-back (atoms.Aggregate n w) x (k, at, e) d = elim (subst IsUnorderedAtom e d) [ ]
  unordered-back (atoms.Instance i) x (n, k, e) d = elim (subst IsUnorderedAtom e d) [ ]

  pub unordered-decides : (xs : List Numbered) → IsTrue (list_any is_unordered_atom xs) ↔ MayBeUnordered (Holds s xs)
  unordered-decides xs = (
    (λ h. say (held s IsUnorderedAtom is_unordered_atom unordered-forth unordered-back xs h)),
    (λ e. tested-true s IsUnorderedAtom is_unordered_atom unordered-forth unordered-back xs (value e.0 e.1) e.3 e.2),
  )
    where
      say : (x : Atom) × Holds s xs x × IsUnorderedAtom x → MayBeUnordered (Holds s xs)
      say (value x w, h, d) = (x, w, d, h)
      say (instance e, h, d) = elim d [ ]
