-- The tables of a schema.
use Rattle.std.proofs.Common.{◌≡◌, ◌∙◌, ◌<◌, ℕ, zero, suc, refl, ap, sym, subst, arith}
use Rattle.std.specs.Prelude.{List, [], ◌∷◌, length, slice_get, get_or, Option, Some, None}
use Rattle.express_syntax.specs.Schemas.{Schema, DataType}
use Rattle.schema_semantics.specs.Names.{Name}
use Rattle.schema_names.specs.Numbers.{number_of, HasNumber}
use Rattle.schema_data_types.specs.NumberedTypes.{all_data_types}
use Rattle.conformance.specs.Bases.{Domain, IsDomain, base}
use Rattle.schema_underlying_types.specs.declared.base.Base.{Base}
use Rattle.schema_underlying_types.specs.declared.base.Base.TheVariants.{Integer}
use Rattle.schema_underlying_types.specs.declared.bases.BaseTypes.{BaseTypes}
use Rattle.schema_underlying_types.specs.BaseEntries.{entry}
use Rattle.schema_underlying_types.specs.BaseViews.{base_seen, type_at, or_integer as or_integer_type}
use Rattle.schema_underlying_types.specs.Tables.{AreBaseTypes, NamesKnownType, IsNumberedBase}
use Rattle.rule_values.specs.declared.types.ValueTypes.{ValueTypes}
use Rattle.rule_values.specs.NamedValues.{found, or_integer, entry_in}
use Rattle.rule_values.specs.Tables.{AreValueTypes}

at-get : {A : Type 0} (xs : List A) (i : ℕ) (x d : A) → slice_get xs i ≡ Some x → get_or xs i d ≡ x
at-get [] i x d h = absurd (cc)
at-get (y ∷ ys) zero x d h = cc
at-get (y ∷ ys) (suc i) x d h = at-get ys i x d h

get-none : {A : Type 0} (xs : List A) (i : ℕ) (d : A) → slice_get xs i ≡ None → get_or xs i d ≡ d
get-none [] i d h = refl
get-none (y ∷ ys) zero d h = absurd (cc)
get-none (y ∷ ys) (suc i) d h = get-none ys i d h

within : {A : Type 0} (xs : List A) (i : ℕ) (x : A) → slice_get xs i ≡ Some x → i < length xs
within [] i x h = absurd (cc)
within (y ∷ ys) zero x h = omega arith
within (y ∷ ys) (suc i) x h = let lt = within ys i x h in omega (arith, lt)

none-within : {A : Type 0} (xs : List A) (i : ℕ) → i < length xs → slice_get xs i ≡ None → ⊥
none-within [] i lt h = omega (arith, lt)
none-within (y ∷ ys) zero lt h = cc
none-within (y ∷ ys) (suc i) lt h = none-within ys i (omega (arith, lt)) h

some-is : {A : Type 0} (x y : A) → Some x ≡ Some y → x ≡ y
some-is x y e = cc

module _ (s : Schema) (t : BaseTypes) (are : AreBaseTypes s t) where
  -- of a known data type
  number-some : (i : ℕ) (b : Base) → slice_get t.by_number.items i ≡ Some b → NamesKnownType s (type_at s i)
      → (d : Domain) → IsDomain s d → base_seen s b ≡ base d (type_at s i)
  number-some i b at known d is = by (slice_get (all_data_types s) i) refl
    where
      by : (o : Option DataType) → slice_get (all_data_types s) i ≡ o → base_seen s b ≡ base d (type_at s i)
      by None e =
          let count = are.count in let lt = within t.by_number.items i b at in
          absurd (none-within (all_data_types s) i (omega (arith, count, lt)) e)
      by (Some k) e =
          let same : type_at s i ≡ k = ap or_integer_type e in
          let (c, there, says) = are.by_number d is i k e (subst (NamesKnownType s) same known) in
          ap (base_seen s) (some-is b c (sym at ∙ there)) ∙ says ∙ ap (base d) (sym same)

  number-none : (i : ℕ) → slice_get t.by_number.items i ≡ None → (d : Domain) → IsDomain s d
      → base_seen s Integer ≡ base d (type_at s i)
  number-none i none d is = by (slice_get (all_data_types s) i) refl
    where
      by : (o : Option DataType) → slice_get (all_data_types s) i ≡ o → base_seen s Integer ≡ base d (type_at s i)
      by None e = ap (λ (o : Option DataType). base d (or_integer_type o)) (sym e)
      by (Some k) e =
          let count = are.count in let lt = within (all_data_types s) i k e in
          absurd (none-within t.by_number.items i (omega (arith, count, lt)) none)

  number-says : (i : ℕ) → NamesKnownType s (type_at s i) → (d : Domain) → IsDomain s d
      → base_seen s (entry t.by_number.items i) ≡ base d (type_at s i)
  number-says i known d is = by (slice_get t.by_number.items i) refl
    where
      by : (o : Option Base) → slice_get t.by_number.items i ≡ o
          → base_seen s (entry t.by_number.items i) ≡ base d (type_at s i)
      by None e = ap (base_seen s) (get-none t.by_number.items i Integer e) ∙ number-none i e d is
      by (Some b) e = ap (base_seen s) (at-get t.by_number.items i b Integer e) ∙ number-some i b e known d is

  number-numbered : (i : ℕ) → IsNumberedBase s (entry t.by_number.items i)
  number-numbered i = by (slice_get t.by_number.items i) refl
    where
      by : (o : Option Base) → slice_get t.by_number.items i ≡ o → IsNumberedBase s (entry t.by_number.items i)
      by None e = subst (IsNumberedBase s) (sym (get-none t.by_number.items i Integer e)) tt
      by (Some b) e = subst (IsNumberedBase s) (sym (at-get t.by_number.items i b Integer e)) (are.numbered i b e)

  -- of a name
  entry-says : (d : Domain) → IsDomain s d → (n : Name) (j : ℕ) → HasNumber s n j
      → base_seen s (entry t.by_declaration.items j) ≡ d.of_name n
  entry-says d is n j k =
      let (b, at, says) = are.by_declaration d is n j k in
      ap (base_seen s) (at-get t.by_declaration.items j b Integer at) ∙ says

  entry-numbered : (n : Name) (o : Option ℕ) → number_of s n ≡ o
      → IsNumberedBase s (or_integer (entry_in t.by_declaration.items o))
  entry-numbered n None e = tt
  entry-numbered n (Some j) k =
      let (d, is) = are.exists in
      let (b, at, says) = are.by_declaration d is n j k in
      subst (IsNumberedBase s) (sym (at-get t.by_declaration.items j b Integer at)) (are.declared j b at)

  pub are-value-types : (v : ValueTypes) → v.by_number.now ≡ t.by_number.items
      → v.by_declaration.now ≡ t.by_declaration.items → ((n : Name) → found v.numbers n ≡ number_of s n)
      → AreValueTypes s v
  are-value-types v numbers declared names = record {
    by_number = λ d is i known. ap (λ bs. base_seen s (entry bs i)) numbers ∙ number-says i known d is;
    by_name = λ d is n i k.
        ap (λ bs. base_seen s (or_integer (entry_in bs (found v.numbers n)))) declared
        ∙ ap (λ o. base_seen s (or_integer (entry_in t.by_declaration.items o))) (names n ∙ k) ∙ entry-says d is n i k;
    numbered = λ i. subst (IsNumberedBase s) (sym (ap (λ bs. entry bs i) numbers)) (number-numbered i);
    named = λ n. subst (IsNumberedBase s) (sym (ap (λ bs. or_integer (entry_in bs (found v.numbers n))) declared
        ∙ ap (λ o. or_integer (entry_in t.by_declaration.items o)) (names n))) (entry-numbered n (number_of s n) refl);
  }
