-- What declarations have of their own.
use Rattle.std.specs.Prelude.{◌≡◌, ℕ, ◌<◌, ◌≤◌, Bool, true, false, nat_lt, List, [], Option, None, length, map, slice_get, eqb, ◌⊎◌}
use Rattle.std.proofs.Common.{refl, inl, inr, ap, sym, subst, ◌∙◌, arith}
use Rattle.std.proofs.lemmas.Bool.Decides.{nat_tests}
use Rattle.std.proofs.lemmas.Option.{slice_get_past}
use Rattle.graphs.specs.Graphs.{Graph, has, next, StaysBelow}
use Rattle.graphs.proofs.RowLists.{beyond}
use Rattle.graphs.proofs.Searching.{either, left-holds}
use Rattle.express_syntax.specs.Schemas.{Schema, Declaration}
use Rattle.schema_data_types.specs.steps.Selects.{is_some_select, is_select_at}
use Rattle.schema_data_types.specs.declared.value_givers.Wanted.{Wanted}
use Rattle.schema_data_types.specs.declared.value_givers.Wanted.TheVariants.{Giving, Selects}
use Rattle.schema_data_types.specs.steps.Giving.{one_if, some_gives, gives_at, own_row}

-- what a row of one number has
pub one-has : (b : Bool) (i j : ℕ) → has (one_if b i) j ≡ true → (j ≡ i) × (b ≡ true)
one-has false i j h = absurd (cc)
one-has true i j h = (same (either (eqb j i) false h), refl)
  where
    same : (eqb j i ≡ true) ⊎ (false ≡ true) → j ≡ i
    same (inl e) = grind (arith, nat_tests)
    same (inr e) = absurd (cc)

pub has-one : (b : Bool) (i : ℕ) → b ≡ true → has (one_if b i) i ≡ true
has-one b i e =
    let first : eqb i i ≡ true = grind (arith, nat_tests) in
    ap (λ c. has (one_if c i) i) e ∙ left-holds (eqb i i) false first

module _ (s : Schema) where
  -- only what is declared has something
  within : (P : Option Declaration → Bool) → P None ≡ false → (i : ℕ) → P (slice_get s.declarations i) ≡ true
      → i < length s.declarations
  within P none i h = by (nat_lt i (length s.declarations)) refl
    where
      by : (b : Bool) → nat_lt i (length s.declarations) ≡ b → i < length s.declarations
      by true e = grind (arith, nat_tests)
      by false e =
          let far : length s.declarations ≤ i = grind (arith, nat_tests) in
          let q = sym none ∙ sym (ap P (slice_get_past s.declarations i far)) ∙ h in absurd (cc)

  own-beyond : (w : Wanted) (i : ℕ) → length s.declarations ≤ i → own_row w s i ≡ []
  own-beyond Giving i far = ap (λ o. one_if (some_gives o) i) (slice_get_past s.declarations i far)
  own-beyond Selects i far = ap (λ o. one_if (is_some_select o) 0) (slice_get_past s.declarations i far)

  own-below : (w : Wanted) (i j : ℕ) → has (own_row w s i) j ≡ true → j < length s.declarations
  own-below Giving i j h =
      let (same, gives) = one-has (gives_at s i) i j h in
      let lt = within some_gives refl i gives in omega (arith, same, lt)
  own-below Selects i j h =
      let (same, sel) = one-has (is_select_at s i) 0 j h in
      let lt = within is_some_select refl i sel in omega (arith, same, lt)

  pub own-stay : (w : Wanted) (own : Graph) (n : ℕ) → ((i : ℕ) → next own i ≡ own_row w s i)
      → n ≡ length s.declarations → StaysBelow n own
  own-stay w own n is all a b step =
      let lt = own-below w a b (subst (λ row. has row b ≡ true) (is a) step) in omega (arith, lt, all)

  -- rows of all declarations
  pub own-all : {X : Type 0} (f : X → List ℕ) (w : Wanted) (rows : List X) → length rows ≡ length s.declarations
      → ((a : ℕ) → a < length rows → next (map f rows) a ≡ own_row w s a) → (a : ℕ)
      → next (map f rows) a ≡ own_row w s a
  own-all f w rows long is a = by (nat_lt a (length rows)) refl
    where
      by : (b : Bool) → nat_lt a (length rows) ≡ b → next (map f rows) a ≡ own_row w s a
      by true e = is a (grind (arith, nat_tests))
      by false e =
          let far : length rows ≤ a = grind (arith, nat_tests) in
          beyond f rows a far ∙ sym (own-beyond w a (omega (arith, far, long)))
