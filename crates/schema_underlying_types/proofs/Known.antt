-- What is known, and what entries tell by number.
use Rattle.std.specs.Prelude.{◌≡◌, ℕ, ◌+◌, Bool, true, false, ◌||◌, List, [], ◌∷◌, Option, None, Some, ◌⊎◌, slice_get, is_some, eqb}
use Rattle.std.proofs.Common.{refl, inl, inr, ap, sym, subst, ◌∙◌, arith, suc}
use Rattle.graphs.specs.Graphs.{Graph, has, Step}
use Rattle.graphs.specs.Orders.{Follows}
use Rattle.std.proofs.lemmas.Bool.Decides.{nat_tests}
use Rattle.express_syntax.specs.Schemas.{Schema, Declaration, type, entity, skipped, Underlying, select, data_type, DataType, integer, number, boolean, logical, real, string, binary, named, array, list, bag, set}
use Rattle.schema_semantics.specs.Names.{Name, Among, StandsFor, IsType, IsEntity, declared_name}
use Rattle.schema_semantics.specs.Faults.{Demand, a_type, IsMet, IsResolved, demands, demands_of_declaration, demands_of_underlying, demands_of_data_type}
use Rattle.schema_semantics.proofs.Lists.{among-map, among-flat, every-at, every-of}
use Rattle.schema_semantics.proofs.Supertypes.{found}
use Rattle.schema_names.specs.Numbers.{number_of, HasNumber, IsAt}
use Rattle.schema_names.proofs.Numbers.{stands-at, what-stands, each-number}
use Rattle.schema_data_types.specs.NumberedTypes.{all_data_types}
use Rattle.schema_data_types.proofs.Elements.{element, element-behind}
use Rattle.schema_underlying_types.specs.declared.base.Base.{Base}
use Rattle.schema_underlying_types.specs.declared.base.Aggregate.{Aggregate}
use Rattle.schema_underlying_types.specs.BaseViews.{type_at, or_integer}
use Rattle.schema_underlying_types.specs.Tables.{NamesKnownType, IsNumberedBase}
use Rattle.schema_underlying_types.specs.BaseEntries.{is_known, if_known, base_in}

-- what goes up along the edges holds of all that stands in an order
pub climb : (g : Graph) (Holds : ℕ → Type 0) (seen xs : List ℕ) → ((b : ℕ) → has seen b ≡ true → Holds b)
    → Follows g seen xs → ((a : ℕ) → has xs a ≡ true → ((b : ℕ) → Step g a b → Holds b) → Holds a)
    → (a : ℕ) → has xs a ≡ true → Holds a
climb g Holds seen [] before f up a h = absurd (cc)
climb g Holds seen (x ∷ xs) before f up a h =
    by (eqb a x) refl h (climb g Holds (x ∷ seen) xs also f.1 (λ b m rest. up b (behind b m) rest) a)
  where
    here : Holds x
    here = up x (first (eqb-itself x)) (λ b step. before b (f.0 b step))
      where
        eqb-itself : (n : ℕ) → eqb n n ≡ true
        eqb-itself n = grind (arith, nat_tests)

        first : eqb x x ≡ true → has (x ∷ xs) x ≡ true
        first e = ap (λ c. c || has xs x) e

    also : (b : ℕ) → has (x ∷ seen) b ≡ true → Holds b
    also b k = split (eqb b x) refl k
      where
        split : (c : Bool) → eqb b x ≡ c → (c || has seen b) ≡ true → Holds b
        split true e k =
            let is : b ≡ x = grind (arith, nat_tests) in subst Holds (sym is) here
        split false e k = before b k

    behind : (b : ℕ) → has xs b ≡ true → has (x ∷ xs) b ≡ true
    behind b k = split (eqb b x)
      where
        split : (c : Bool) → (c || has xs b) ≡ true
        split true = refl
        split false = k

    by : (c : Bool) → eqb a x ≡ c → (c || has xs a) ≡ true → (has xs a ≡ true → Holds a) → Holds a
    by true e k more = let is : a ≡ x = grind (arith, nat_tests) in subst Holds (sym is) here
    by false e k more = more k

module _ (s : Schema) where
  -- a name is known where it has a number
  met-numbered : (n : Name) → IsType s n ⊎ IsEntity s n → (i : ℕ) × HasNumber s n i
  met-numbered n (inl (t, at)) = each-number 0 s.declarations n (type t) at
  met-numbered n (inr (e, at)) = each-number 0 s.declarations n (entity e) at

  pub numbered-met : (n : Name) (i : ℕ) → HasNumber s n i → IsType s n ⊎ IsEntity s n
  numbered-met n i k = let (d, at, called) = what-stands s n i k in by d at called
    where
      by : (d : Declaration) → IsAt s i d → declared_name d ≡ Some n → IsType s n ⊎ IsEntity s n
      by (type t) at called = inl (t, stands-at s n i k ∙ at)
      by (entity e) at called = inr (e, stands-at s n i k ∙ at)
      by (skipped p) at called = absurd (cc)

  pub known-number : (n : Name) → NamesKnownType s (named n) → (i : ℕ) × HasNumber s n i
  known-number n h = met-numbered n h.0

  number-known : (n : Name) (o : Option ℕ) → number_of s n ≡ o → is_some o ≡ true → NamesKnownType s (named n)
  number-known n None e h = absurd (cc)
  number-known n (Some i) e h = (numbered-met n i e, tt)

  -- the test decides it
  pub known-forth : (k : DataType) → is_known s k ≡ true → NamesKnownType s k
  known-forth (named n) h = number-known n (number_of s n) refl h
  known-forth integer h = tt
  known-forth number h = tt
  known-forth boolean h = tt
  known-forth logical h = tt
  known-forth (real w) h = tt
  known-forth (string w) h = tt
  known-forth (binary w) h = tt
  known-forth (array b o u k) h = known-forth k h
  known-forth (list b u k) h = known-forth k h
  known-forth (bag b k) h = known-forth k h
  known-forth (set b k) h = known-forth k h

  pub known-back : (k : DataType) → NamesKnownType s k → is_known s k ≡ true
  known-back (named n) h = let (i, k) = known-number n h in ap is_some k
  known-back integer h = refl
  known-back number h = refl
  known-back boolean h = refl
  known-back logical h = refl
  known-back (real w) h = refl
  known-back (string w) h = refl
  known-back (binary w) h = refl
  known-back (array b o u k) h = known-back k h
  known-back (list b u k) h = known-back k h
  known-back (bag b k) h = known-back k h
  known-back (set b k) h = known-back k h

  -- the data type of the elements of an aggregate has the next number
  pub element-at : (i : ℕ) (k : DataType) → slice_get (all_data_types s) i ≡ Some k → (x : DataType)
      → element k ≡ Some x → type_at s (i + 1) ≡ x
  element-at i k at x is =
      let next : i + 1 ≡ suc i = omega arith in
      ap (type_at s) next ∙ ap or_integer (element-behind s i k x at is)

  -- e is the number of the data type of its elements, if it has any
  abbrev pub HasElement : DataType → ℕ → Type 0
  HasElement k e = (x : DataType) → element k ≡ Some x → type_at s e ≡ x

  aggregate-numbered : (b : Bool) (a : Aggregate) (x : DataType) → (b ≡ true → NamesKnownType s x) → type_at s a.element ≡ x
      → IsNumberedBase s (if_known b a)
  aggregate-numbered true a x known e = subst (NamesKnownType s) (sym e) (known refl)
  aggregate-numbered false a x known e = tt

  pub base-numbered : (k : DataType) (b : Base) (e : ℕ) → IsNumberedBase s b → HasElement k e
      → IsNumberedBase s (base_in (is_known s k) b e k)
  base-numbered integer b e h at = tt
  base-numbered number b e h at = tt
  base-numbered boolean b e h at = tt
  base-numbered logical b e h at = tt
  base-numbered (real w) b e h at = tt
  base-numbered (string w) b e h at = tt
  base-numbered (binary w) b e h at = tt
  base-numbered (named n) b e h at = h
  base-numbered (array bs o u k) b e h at = aggregate-numbered (is_known s k) _ k (known-forth k) (at k refl)
  base-numbered (list bs u k) b e h at = aggregate-numbered (is_known s k) _ k (known-forth k) (at k refl)
  base-numbered (bag bs k) b e h at = aggregate-numbered (is_known s k) _ k (known-forth k) (at k refl)
  base-numbered (set bs k) b e h at = aggregate-numbered (is_known s k) _ k (known-forth k) (at k refl)

  module _ (r : IsResolved s) where
    asked : (n : Name) (u : Underlying) → StandsFor s n u → (d : Demand) → Among d (demands_of_underlying u)
        → IsMet s d
    asked n u (t, at, is) d m =
        every-at (IsMet s) d (demands s) r.known
        (among-flat demands_of_declaration (type t) d s.declarations (found s.declarations n (type t) at).0
        (subst (λ v. Among d (demands_of_underlying v)) (sym is) m))

    -- what stands behind a name is known
    pub known-behind : (n : Name) (k : DataType) → StandsFor s n (data_type k) → NamesKnownType s k
    known-behind n k h = every-of (IsMet s) (demands_of_data_type k) (λ d m. asked n (data_type k) h d m)

    pub item-known : (n : Name) (items : List Name) → StandsFor s n (select items) → (m : Name) → Among m items
        → (i : ℕ) × HasNumber s m i
    item-known n items h m among =
        met-numbered m (asked n (select items) h (a_type m) (among-map a_type m items among))
