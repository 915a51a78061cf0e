-- Items of enumerations by the declarations that list them, and by the numbers of these.
use Rattle.std.specs.Prelude.{◌≡◌, ℕ, ◌+◌, ◌<◌, length, get_or, take, Bool, true, false, not, ◌&&◌, ◌||◌, List, [], ◌∷◌, ◌++◌, map, bytes_eq, ◌↔◌}
use Rattle.std.specs.List.{list_any}
use Rattle.std.proofs.Common.{refl, inl, inr, ap, sym, subst, ◌∙◌}
use Rattle.std.proofs.lemmas.Slice.Eq.{bytes_eq-Decides}
use Rattle.std.proofs.lemmas.List.{append-nil}
use Rattle.std.proofs.lemmas.List.Folds.{list_any-append}
use Rattle.graphs.specs.Graphs.{graph_of, next}
use Rattle.express_syntax.specs.Schemas.{Schema, Declaration, type, entity, skipped, Underlying, enumeration, select, data_type, named}
use Rattle.express_syntax.specs.declared.tree.Declaration.{Declaration as Declared}
use Rattle.express_syntax.specs.Views.{declaration_of}
use Rattle.schema_semantics.specs.Names.{Name, Among, StandsFor}
use Rattle.schema_semantics.specs.Faults.{IsResolved, declared, enumerated_items}
use Rattle.schema_semantics.specs.Shapes.{an_item, IsOverSelect}
use Rattle.schema_semantics.specs.Sets.{IsItemOf}
use Rattle.schema_semantics.proofs.Bools.{both-hold, is-false, or-left, or-right}
use Rattle.schema_semantics.proofs.Lists.{among-flat, from-flat, are-fresh}
use Rattle.schema_semantics.proofs.Supertypes.{stands, found}
use Rattle.schema_names.specs.Numbers.{HasNumber, IsAt}
use Rattle.schema_names.proofs.Numbers.{stands-at, what-stands, each-number}
use Rattle.schema_names.proofs.Rows.{take-more, map-joined, flat-joined}
use Rattle.schema_data_types.specs.steps.Values.{AreParts}
use Rattle.schema_data_types.specs.declared.value_givers.Parts.{Parts}
use Rattle.schema_data_types.proofs.Declared.{some-one, one-of, type-here, giving-named, giving-back, enumeration-told}
use Rattle.schema_data_types.proofs.Leading.{Tells, by-names, names-made, named-not-over}
use Rattle.schema_data_types.specs.steps.Enumerated.{includes, items_in, all_items, some_items, has_item_at, has_item_within}

includes-forth : (ns : List Name) (n : Name) → includes ns n ≡ true → Among n ns
includes-forth [] n h = absurd (cc)
includes-forth (m ∷ ns) n h = by (bytes_eq m n) refl h (includes-forth ns n)
  where
    by : (b : Bool) → bytes_eq m n ≡ b → (b || includes ns n) ≡ true → (includes ns n ≡ true → Among n ns)
        → Among n (m ∷ ns)
    by true e k more = inl ((bytes_eq-Decides m n).0 e)
    by false e k more = inr (more k)

includes-back : (ns : List Name) (n : Name) → Among n ns → includes ns n ≡ true
includes-back [] n h = elim h [ ]
includes-back (m ∷ ns) n (inl e) = or-left (bytes_eq m n) (includes ns n) ((bytes_eq-Decides m n).1 e)
includes-back (m ∷ ns) n (inr h) = or-right (bytes_eq m n) (includes ns n) (includes-back ns n h)

of-items : (u : Underlying) (n : Name) → Among n (enumerated_items u) → (items : List Name) × (u ≡ enumeration items)
    × Among n items
of-items (enumeration items) n m = (items, refl, m)
of-items (select items) n m = elim m [ ]
of-items (data_type k) n m = elim m [ ]

not-so : (b : Bool) → not b ≡ true → b ≡ true → ⊥
not-so true h e = absurd (cc)
not-so false h e = absurd (cc)

both-so : (b c : Bool) → b ≡ false → c ≡ true → (not b && c) ≡ true
both-so true c h e = absurd (cc)
both-so false c h e = e

or_assoc : (x y z : Bool) → (x || (y || z)) ≡ ((x || y) || z)
or_assoc true y z = refl
or_assoc false y z = refl

or-false : (b : Bool) → (b || false) ≡ b
or-false true = refl
or-false false = refl

-- names that are added to some
pub includes-more : (ns more all : List Name) (n : Name) (start old new : Bool) → all ≡ ns ++ more
    → old ≡ (start || includes ns n) → new ≡ (old || includes more n) → new ≡ (start || includes all n)
includes-more ns more all n start old new is before here =
    here ∙ ap (λ b. b || includes more n) before ∙ sym (or_assoc start (includes ns n) (includes more n))
    ∙ ap (λ b. start || b) (sym (list_any-append (λ (m : Name). bytes_eq m n) ns more))
    ∙ ap (λ ms. start || includes ms n) (sym is)

-- one more at the end of those that were taken
pub mapped-more : {A B : Type 0} (f : A → B) (xs : List A) (i : ℕ) (x : A) → i < length xs → x ≡ get_or xs i x
    → map f (take (i + 1) xs) ≡ map f (take i xs) ++ f x ∷ []
mapped-more f xs i x lt at = ap (map f) (take-more xs i x lt at) ∙ map-joined f (take i xs) (x ∷ [])

pub items-more : (ds : List Declared) (i : ℕ) (d : Declared) → i < length ds → d ≡ get_or ds i d
    → all_items (map declaration_of (take (i + 1) ds)) ≡ all_items (map declaration_of (take i ds))
    ++ items_in (declaration_of d)
items-more ds i d lt at =
    ap all_items (mapped-more declaration_of ds i d lt at)
    ∙ flat-joined items_in (map declaration_of (take i ds)) (declaration_of d ∷ [])
    ∙ ap (λ ns. all_items (map declaration_of (take i ds)) ++ ns) (append-nil (items_in (declaration_of d)))

pub includes-one : (m n : Name) → bytes_eq m n ≡ includes (m ∷ []) n
includes-one m n = sym (or-false (bytes_eq m n))

pub any-mapped : {X Y : Type 0} (f : X → Y) (p : Y → Bool) (xs : List X) → list_any (λ x. p (f x)) xs
    ≡ list_any p (map f xs)
any-mapped f p [] = refl
any-mapped f p (x ∷ xs) = ap (λ b. p (f x) || b) (any-mapped f p xs)

module _ (s : Schema) where
  -- the items of all enumerations
  listed-forth : IsResolved s → (n : Name) → Among n (all_items s.declarations) → (t : Name) × IsItemOf s t n
  listed-forth r n m = let (d, there, here) = from-flat items_in n s.declarations m in by d there here
    where
      by : (d : Declaration) → Among d s.declarations → Among n (items_in d) → (t : Name) × IsItemOf s t n
      by (type t) there here =
          let (items, is, m) = of-items t.underlying n here in
          let at = stands 1 s.declarations (type t) t.name (are-fresh (declared s) r.once) there refl in
          (t.name, (t.name, items, inl refl, (t, at, is), m))
      by (entity e) there here = elim here [ ]
      by (skipped p) there here = elim here [ ]

  listed-back : (t n : Name) → IsItemOf s t n → Among n (all_items s.declarations)
  listed-back t n (e, items, way, (d, at, u), m) =
      among-flat items_in (type d) n s.declarations (found s.declarations e (type d) at).0
      (subst (λ x. Among n (enumerated_items x)) (sym u) m)

  pub all-told : IsResolved s → (n : Name) → (includes (all_items s.declarations) n ≡ true)
      ↔ ((t : Name) × IsItemOf s t n)
  all-told r n = (
    λ h. listed-forth r n (includes-forth (all_items s.declarations) n h),
    λ h. includes-back (all_items s.declarations) n (listed-back h.0 n h.1),
  )

  number-of : (a : Name) (u : Underlying) → StandsFor s a u → (i : ℕ) × HasNumber s a i
  number-of a u (t, at, e) = each-number 0 s.declarations a (type t) at

  -- what has an item has a number
  pub has-number : (t n : Name) → IsItemOf s t n → (i : ℕ) × HasNumber s t i
  has-number t n (e, items, inl same, stands-for, m) =
      number-of t (enumeration items) (subst (λ a. StandsFor s a (enumeration items)) (name-is e t (sym same)) stands-for)
    where
      name-is : (a b : Name) → named a ≡ named b → a ≡ b
      name-is a b h = cc
  has-number t n (e, items, inr ([], step), stands-for, m) = number-of t (data_type (named e)) step
  has-number t n (e, items, inr (k ∷ ks, (step, c)), stands-for, m) = number-of t (data_type k) step

  -- the enumeration at a number
  at-forth : (n e : Name) (i : ℕ) → HasNumber s e i → has_item_at s n i ≡ true → (items : List Name)
      × StandsFor s e (enumeration items) × Among n items
  at-forth n e i k h =
      let (d, at, called) = what-stands s e i k in
      by d at (includes-forth (items_in d) n (sym (ap (λ o. includes (some_items o) n) at) ∙ h))
    where
      by : (d : Declaration) → IsAt s i d → Among n (items_in d) → (items : List Name)
          × StandsFor s e (enumeration items) × Among n items
      by (type t) at m =
          let (items, is, among) = of-items t.underlying n m in
          (items, subst (StandsFor s e) is (type-here s e i t k at), among)
      by (entity x) at m = elim m [ ]
      by (skipped p) at m = elim m [ ]

  at-back : (n e : Name) (i : ℕ) (items : List Name) → HasNumber s e i → StandsFor s e (enumeration items)
      → Among n items → has_item_at s n i ≡ true
  at-back n e i items k (t, at, u) m =
      ap (λ o. includes (some_items o) n) (sym (stands-at s e i k) ∙ at)
      ∙ includes-back (enumerated_items t.underlying) n (subst (λ x. Among n (enumerated_items x)) (sym u) m)

  module _ (parts : Parts) (are : AreParts s parts) (t n : Name) (i : ℕ) (k : HasNumber s t i) where
    within-forth : (IsOverSelect s (named t) → ⊥) → has_item_within s (graph_of parts.giving.items) n i ≡ true
        → IsItemOf s t n
    within-forth free h =
        let (j, l, here) = some-one (has_item_at s n) (next (graph_of parts.giving.items) i) h in
        let (x, there, leads) = giving-named s parts are t i j k l in
        let (items, stands-for, m) = at-forth n x j there here in
        (x, items, by-names s (named t) (named x) free leads, stands-for, m)

    within-back : IsItemOf s t n → has_item_within s (graph_of parts.giving.items) n i ≡ true
    within-back (e, items, way, stands-for, m) =
        let (j, l) = number-of e (enumeration items) stands-for in
        let (o, there, step) =
        giving-back s parts are t e i j k l (names-made s (named t) (named e) way) (enumeration-told s e j items l stands-for)
        in
        one-of (has_item_at s n) (next (graph_of parts.giving.items) i) o step (at-back n e o items there stands-for m)

    not-over : IsItemOf s t n → IsOverSelect s (named t) → ⊥
    not-over (e, items, way, stands-for, m) over =
        named-not-over s (named t) (named e) an_item way ((items, stands-for), refl) over

    -- the test of `is_item_of`
    pub item-told : (over : Bool) → Tells s t over
        → (not over && has_item_within s (graph_of parts.giving.items) n i) ≡ true ↔ IsItemOf s t n
    item-told over told = (forth, back)
      where
        forth : (not over && has_item_within s (graph_of parts.giving.items) n i) ≡ true → IsItemOf s t n
        forth h =
            let (free, here) = both-hold (not over) (has_item_within s (graph_of parts.giving.items) n i) h in
            within-forth (λ o. not-so over free (told.1 o)) here

        back : IsItemOf s t n → (not over && has_item_within s (graph_of parts.giving.items) n i) ≡ true
        back h =
            both-so over (has_item_within s (graph_of parts.giving.items) n i)
            (is-false over (λ o. not-over h (told.0 o))) (within-back h)
