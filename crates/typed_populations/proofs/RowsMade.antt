-- The rows of a population, by what they are made of.
use Rattle.std.specs.Prelude.{◌≡◌, ℕ, zero, suc, ◌<◌, true, false, ◌||◌, List, [], ◌∷◌, length, map, flat_map, Option, None, Some, Result, Ok, Err, IfOk, slice_get, ◌⊎◌}
use Rattle.std.specs.List.{AllZip, list_any}
use Rattle.std.specs.Option.{option_map, unwrap_or}
use Rattle.std.specs.Str.{bytes_eq}
use Rattle.std.proofs.Common.{refl, inl, inr, sym, ap, subst, ◌∙◌, arith}
use Rattle.std.proofs.lemmas.Option.{slice_get-map, slice_get_past}
use Rattle.std.proofs.lemmas.Slice.Eq.{bytes_eq-Decides}
use Rattle.express_syntax.specs.Schemas.{Schema}
use Rattle.express_syntax.specs.Profile.{Every}
use Rattle.schema_semantics.specs.Attributes.{Place}
use Rattle.schema_names.specs.Schemas.{the_schema}
use Rattle.schema_explicit_attributes.specs.Places.{all_places}
use Rattle.schema_explicit_attributes.proofs.Repeats.{AreOne}
use Rattle.schema_underlying_types.specs.BaseViews.{name_at}
use Rattle.conformance.specs.Entities.{own_places_of}
use Rattle.conformance.specs.Populations.{slot_at}
use Rattle.population_rows.specs.declared.form.SlotForm.{SlotForm}
use Rattle.population_rows.specs.declared.form.Form.{Form}
use Rattle.step_values.specs.Values.{Values, none, more}
use Rattle.step_values.specs.Views.{word_of}
use Rattle.value_equality.specs.Rows.{Row}
use Rattle.value_equality.specs.SortedTypes.{AreInOrder, IsSettled}
use Rattle.value_equality.specs.Views.{head_names, heads_seen, or_none, rows_from, types_at}
use Rattle.value_equality.specs.declared.row.RowHead.{RowHead}
use Rattle.typed_populations.specs.Rows.{or_nowhere, place_at, slots_seen, instance_seen, instances_seen, section_numbers}
use Rattle.typed_populations.specs.PopulationViews.{population_seen}
use Rattle.typed_populations.specs.PopulationTables.{form_among, ArePlaced}
use Rattle.conformance.specs.PlainRows.{or_unset, values_at, IsRowOf, AreRowsOf}
use Rattle.typed_populations.specs.ValueOrder.{position_among, StandAt, IsOrder, AreOrders, picked_at, picked, order_among, row_picked, rows_picked, types_in, types_each, heads_made}
use Rattle.typed_populations.specs.declared.value_order.Order.{Order}
use Rattle.typed_populations.specs.declared.population.Population.{Population}
use Rattle.typed_populations.proofs.Found.{kept, value-at-number}
use Rattle.conformance.proofs.Ordered.{same-order}

within-all : {A : Type 0} (xs : List A) (i : ℕ) (x : A) → slice_get xs i ≡ Some x → i < length xs
within-all [] i x e = absurd (cc)
within-all (y ∷ xs) zero x e = omega arith
within-all (y ∷ xs) (suc i) x e = let rest = within-all xs i x e in omega (arith, rest)

-- a list with the items of none is empty
same-as-none : (ts : List (List ℕ)) → ((w : List ℕ) → list_any (bytes_eq w) ts ≡ false) → ts ≡ []
same-as-none [] h = refl
same-as-none (t ∷ ts) h =
    let itself : bytes_eq t t ≡ true = (bytes_eq-Decides t t).1 refl in
    let here : list_any (bytes_eq t) (t ∷ ts) ≡ true = ap (λ b. b || list_any (bytes_eq t) ts) itself in
    let none : list_any (bytes_eq t) (t ∷ ts) ≡ false = h t in
    absurd (cc (here, none))

-- what stands at one place of two lists that belong together
zip-at : {A B : Type 0} (R : A → B → Type 0) (xs : List A) (ys : List B) → AllZip R xs ys → (n : ℕ)
    → ((slice_get xs n ≡ None) × (slice_get ys n ≡ None))
    ⊎ ((x : A) × (y : B) × (slice_get xs n ≡ Some x) × (slice_get ys n ≡ Some y) × R x y)
zip-at R [] [] h n = inl (refl, refl)
zip-at R [] (y ∷ ys) h n = absurd h
zip-at R (x ∷ xs) [] h n = absurd h
zip-at R (x ∷ xs) (y ∷ ys) h zero = inr (x, y, refl, refl, h.0)
zip-at R (x ∷ xs) (y ∷ ys) h (suc n) = zip-at R xs ys h.1 n

types-among : (o : Option Order) → or_none (option_map (λ (y : Order). map word_of y.types.items) o) ≡ types_in o
types-among None = refl
types-among (Some y) = refl

-- the types of an instance are those of its kind
kind-types : (orders : List Order) (o : Option ℕ) → types_at (types_each orders) (unwrap_or o (length orders)) ≡ types_in
    (order_among orders o)
kind-types orders None =
    ap or_none (slice_get-map (λ (y : Order). map word_of y.types.items) orders (length orders)
    ∙ ap (option_map (λ (y : Order). map word_of y.types.items))
    (slice_get_past orders (length orders) (omega arith)))
kind-types orders (Some n) =
    ap or_none (slice_get-map (λ (y : Order). map word_of y.types.items) orders n)
    ∙ types-among (slice_get orders n)

module _ (s : Schema) (one : AreOne (all_places s)) where
  -- the values at positions are those of the places that stand there
  picked-is : (xs : List SlotForm) (vs : Values) → Every (λ (y : SlotForm). y.place < length (all_places s)) xs
      → (ps : List Place) (os : List (Option ℕ)) → StandAt s xs ps os
      → picked vs os ≡ values_at (slots_seen s xs vs) ps
  picked-is xs vs h [] [] z = refl
  picked-is xs vs h [] (o ∷ os) z = absurd z
  picked-is xs vs h (p ∷ ps) [] z = absurd z
  picked-is xs vs h (p ∷ ps) (o ∷ os) z =
      let at : slice_get (all_places s) z.0.0 ≡ Some p = z.0.1 in
      let stands : o ≡ position_among xs z.0.0 = z.0.2 in
      let place : place_at s z.0.0 ≡ p = ap or_nowhere at in
      let lt = within-all (all_places s) z.0.0 p at in
      let value : picked_at vs o ≡ slot_at (slots_seen s xs vs) p =
      ap (picked_at vs) stands ∙ sym (value-at-number s one z.0.0 lt xs vs h)
      ∙ ap (slot_at (slots_seen s xs vs)) place in
      let rest = picked-is xs vs h ps os z.1 in
      λ i. more (or_unset (value i)) (rest i)

  module _ (forms : List Form) (orders : List Order) (all : AreOrders s forms orders) where
    -- the form and the order of an instance
    HasOrder : Option ℕ → Type 0
    HasOrder o =
        ((form_among forms o ≡ None) × (order_among orders o ≡ None))
        ⊎ ((x : Form) × (y : Order) × (form_among forms o ≡ Some x) × (order_among orders o ≡ Some y) × IsOrder s x y)

    has-order : (o : Option ℕ) → HasOrder o
    unfolding HasOrder
    has-order None = inl (refl, refl)
    has-order (Some n) = zip-at (IsOrder s) forms orders all n

    -- the row of an instance of no form
    formless-row : (n k : ℕ) (vs : Values) (ts : List (List ℕ)) (q : Row) → ts ≡ []
        → IsSettled (record { name = n; section = k; types = ts; values = none }) q
        → IsRowOf s (instance_seen s n k None vs) q
    formless-row n k vs ts q types z =
        let ordered = subst (λ ws. AreInOrder ws q.types) types z.types in
        let empty = same-as-none q.types ordered.same in
        record {
          name = z.name;
          section = z.section;
          types = ordered;
          values = z.values ∙ ap (λ us. values_at [] (flat_map (own_places_of s) us)) (sym empty);
        }

    -- the row of an instance of a form
    formed-row : (n k : ℕ) (vs : Values) (x : Form) (y : Order) (ts : List (List ℕ)) (q : Row)
        → ts ≡ map word_of y.types.items → ArePlaced s (Some x) → IsOrder s x y
        → IsSettled (record { name = n; section = k; types = ts; values = picked vs y.positions.items }) q
        → IsRowOf s (instance_seen s n k (Some x) vs) q
    formed-row n k vs x y ts q types placed order z =
        let ordered = subst (λ ws. AreInOrder ws q.types) types z.types in
        let same = same-order (map word_of y.types.items) q.types order.types.in_order ordered.in_order
        (λ w. sym (ordered.same w)) in
        record {
          name = z.name;
          section = z.section;
          types = subst (AreInOrder (map (name_at s) x.types.items)) same order.types;
          values = z.values
              ∙ picked-is x.slots.items vs placed (flat_map (own_places_of s) (map word_of y.types.items))
              y.positions.items order.positions
              ∙ ap (λ us. values_at (slots_seen s x.slots.items vs) (flat_map (own_places_of s) us)) same;
        }

    row-is : (n k : ℕ) (o : Option ℕ) (vs : Values) (ts : List (List ℕ)) (q : Row) → ts ≡ types_in (order_among orders o)
        → ArePlaced s (form_among forms o)
        → IsSettled (record { name = n; section = k; types = ts; values = row_picked (order_among orders o) vs }) q
        → IsRowOf s (instance_seen s n k (form_among forms o) vs) q
    unfolding HasOrder
    row-is n k o vs ts q types placed z = by (has-order o)
      where
        by : HasOrder o → IsRowOf s (instance_seen s n k (form_among forms o) vs) q
        by (inl neither) =
            subst (λ f. IsRowOf s (instance_seen s n k f vs) q) (sym neither.0)
            (formless-row n k vs ts q (types ∙ ap types_in neither.1)
            (subst (λ y. IsSettled (record { name = n; section = k; types = ts; values = row_picked y vs }) q) neither.1 z))
        by (inr has) =
            subst (λ f. IsRowOf s (instance_seen s n k f vs) q) (sym has.2)
            (formed-row n k vs has.0 has.1 ts q (types ∙ ap types_in has.3) (subst (ArePlaced s) has.2 placed) has.4
            (subst (λ y. IsSettled (record { name = n; section = k; types = ts; values = row_picked y vs }) q) has.3 z))

    pub rows-are : (ns ks : List ℕ) (os : List (Option ℕ)) (vss : List Values) (qs : List Row) → length ks ≡ length ns
        → length os ≡ length ns → length vss ≡ length ns → Every (λ o. ArePlaced s (form_among forms o)) os
        → AllZip IsSettled
        (rows_from (heads_seen (types_each orders) (heads_made (length orders) ks ns os)) (rows_picked orders os vss)) qs
        → AreRowsOf s (instances_seen s forms ns ks os vss) qs
    rows-are [] [] [] vss [] b c d placed z = tt
    rows-are [] [] [] vss (q ∷ qs) b c d placed z = absurd z
    rows-are [] [] (o ∷ os) vss qs b c d placed z = absurd (omega (arith, c))
    rows-are [] (k ∷ ks) os vss qs b c d placed z = absurd (omega (arith, b))
    rows-are (n ∷ ns) [] os vss qs b c d placed z = absurd (omega (arith, b))
    rows-are (n ∷ ns) (k ∷ ks) [] vss qs b c d placed z = absurd (omega (arith, c))
    rows-are (n ∷ ns) (k ∷ ks) (o ∷ os) [] qs b c d placed z = absurd (omega (arith, d))
    rows-are (n ∷ ns) (k ∷ ks) (o ∷ os) (vs ∷ vss) [] b c d placed z = absurd z
    rows-are (n ∷ ns) (k ∷ ks) (o ∷ os) (vs ∷ vss) (q ∷ qs) b c d placed z = (
      row-is n k o vs (types_at (types_each orders) (unwrap_or o (length orders))) q (kind-types orders o) placed.0 z.0,
      rows-are ns ks os vss qs (omega (arith, b)) (omega (arith, c)) (omega (arith, d)) placed.1 z.1,
    )

-- what stands before rows names them, one by one
pub heads-names : (formless : ℕ) (ks ns : List ℕ) (os : List (Option ℕ)) → length ks ≡ length ns → length os ≡ length ns
    → head_names (heads_made formless ks ns os) ≡ ns
heads-names formless [] [] [] b c = refl
heads-names formless [] [] (o ∷ os) b c = absurd (omega (arith, c))
heads-names formless [] (n ∷ ns) os b c = absurd (omega (arith, b))
heads-names formless (k ∷ ks) [] os b c = absurd (omega (arith, b))
heads-names formless (k ∷ ks) (n ∷ ns) [] b c = absurd (omega (arith, c))
heads-names formless (k ∷ ks) (n ∷ ns) (o ∷ os) b c =
    ap (λ ys. n ∷ ys) (heads-names formless ks ns os (omega (arith, b)) (omega (arith, c)))

pub mapped-length : {A B : Type 0} (f : A → B) (xs : List A) → length (map f xs) ≡ length xs
mapped-length f [] = refl
mapped-length f (x ∷ xs) = ap suc (mapped-length f xs)

pub picked-length : (orders : List Order) (os : List (Option ℕ)) (vss : List Values) → length os ≡ length vss
    → length (rows_picked orders os vss) ≡ length vss
picked-length orders [] [] h = refl
picked-length orders [] (vs ∷ vss) h = absurd (omega (arith, h))
picked-length orders (o ∷ os) [] h = absurd (omega (arith, h))
picked-length orders (o ∷ os) (vs ∷ vss) h = ap suc (picked-length orders os vss (omega (arith, h)))

-- the rows that a population is made into
module _ (p : Population) (forms : List Form) (forms-are : forms ≡ p.rows.forms.items) (orders : List Order)
    (ordered : AreOrders (the_schema p.types.now.names) forms orders) (ns : List ℕ)
    (names-are : ns ≡ p.exchange.now.names) (ks : List ℕ)
    (sections-are : ks ≡ section_numbers 0 0 p.exchange.now.sections.items) (os : List (Option ℕ))
    (numbers-are : os ≡ p.rows.form_of.items) (formless : ℕ) (beyond : formless ≡ length orders) (hs : List RowHead)
    (heads : hs ≡ heads_made formless ks ns os) (type_lists : List (List (List ℕ))) (types : type_lists ≡ types_each orders) where
  pub made-rows : (rows : List Values) → rows ≡ rows_picked orders p.rows.form_of.items p.values.rows → (qs : List Row)
      → AllZip IsSettled (rows_from (heads_seen type_lists hs) rows) qs
      → AreRowsOf (the_schema p.types.now.names) (population_seen p) qs
  made-rows rows made qs z =
      let k = kept p in
      let all-heads : hs ≡ heads_made (length orders) (section_numbers 0 0 p.exchange.now.sections.items)
      p.exchange.now.names p.rows.form_of.items =
      heads ∙ (λ i. heads_made (beyond i) (sections-are i) (names-are i) (numbers-are i)) in
      rows-are (the_schema p.types.now.names) k.one p.rows.forms.items orders
      (subst (λ fs. AreOrders (the_schema p.types.now.names) fs orders) forms-are ordered)
      p.exchange.now.names (section_numbers 0 0 p.exchange.now.sections.items) p.rows.form_of.items p.values.rows qs
      k.sections k.forms k.values k.placed
      (subst (λ gs. AllZip IsSettled
      (rows_from (heads_seen (types_each orders) gs) (rows_picked orders p.rows.form_of.items p.values.rows)) qs) all-heads
      (subst (λ ts. AllZip IsSettled
      (rows_from (heads_seen ts hs) (rows_picked orders p.rows.form_of.items p.values.rows)) qs) types
      (subst (λ rs. AllZip IsSettled (rows_from (heads_seen type_lists hs) rs) qs) made z)))

-- what is answered where the values of a population stand in these orders, which are those of its forms
pub plain-rows : {E : Type 0} (p : Population) (orders first last : List Order)
    → AreOrders (the_schema p.types.now.names) p.rows.forms.items orders → first ≡ orders → last ≡ orders
    → (os : List (Option ℕ)) → os ≡ p.rows.form_of.items → (rows : List Values)
    → rows ≡ rows_picked first p.rows.form_of.items p.values.rows → (r : Result (List Row) E)
    → IfOk r (λ q. AllZip IsSettled (rows_from (heads_seen (types_each last) (heads_made (length last)
    (section_numbers 0 0 p.exchange.now.sections.items) p.exchange.now.names os)) rows) q)
    → IfOk r (λ q. AreRowsOf (the_schema p.types.now.names) (population_seen p) q)
plain-rows p orders first last ordered same behind os numbers rows made (Ok q) z =
    made-rows p p.rows.forms.items refl last
    (subst (AreOrders (the_schema p.types.now.names) p.rows.forms.items) (sym behind) ordered)
    p.exchange.now.names refl (section_numbers 0 0 p.exchange.now.sections.items) refl os numbers (length last) refl
    (heads_made (length last) (section_numbers 0 0 p.exchange.now.sections.items) p.exchange.now.names os) refl
    (types_each last) refl rows
    (made ∙ ap (λ l. rows_picked l p.rows.form_of.items p.values.rows) (same ∙ sym behind)) q z
plain-rows p orders first last ordered same behind os numbers rows made (Err e) z = tt
