-- Formulas that are asked for by the number of an entity.
use Rattle.std.specs.Prelude.{◌≡◌, ℕ, ◌+◌, ◌<◌, ◌≤◌, Bool, true, false, cond, List, [], ◌∷◌, Option, Some, length, flat_map, take, get_or, slice_get, option_map, nat_lt}
use Rattle.std.specs.Option.{option_flatten}
use Rattle.std.proofs.Common.{refl, inr, ap, sym, subst, ◌∙◌, arith, zero, suc}
use Rattle.std.proofs.lemmas.Bool.Decides.{nat_tests}
use Rattle.std.proofs.lemmas.List.{length-append, append-nil, take_all}
use Rattle.std.proofs.lemmas.Option.{slice_get_past}
use Rattle.express_syntax.specs.Schemas.{Schema, Declaration, type, entity, skipped, Derived}
use Rattle.schema_semantics.specs.Names.{Name, listed, declared_name}
use Rattle.schema_semantics.specs.Attributes.{IsNth, IsDerivation}
use Rattle.schema_names.specs.Numbers.{HasNumber, IsAt}
use Rattle.schema_names.proofs.Numbers.{what-stands, stands-at}
use Rattle.schema_names.proofs.Rows.{flat-joined, take-more}
use Rattle.schema_attributes.specs.Derivations.{derivations_in, all_derivations, HasDerivation}
use Rattle.schema_derived_attributes.specs.steps.Asked.{deriveds_in}
use Rattle.schema_derived_attributes.specs.Firsts.{first_of, AreFirsts}
use Rattle.schema_derived_attributes.proofs.Asking.{count-of}
use Rattle.schema_derived_attributes.proofs.Numbering.{number-at}
use Rattle.schema_derived_attributes.proofs.Ranked.{below-end, value-at, something-at}
use Rattle.conformance.specs.Attributes.{IsFormula}
use Rattle.schema_derived_attributes.specs.declared.formula.Formula.{Formula}
use Rattle.schema_derived_attributes.specs.Formulas.{formula_seen, formula_place, AreFormulas}

-- within a list a default plays no part
same-within : (xs : List ℕ) (i a b : ℕ) → i < length xs → get_or xs i a ≡ get_or xs i b
same-within [] i a b lt = absurd (omega (arith, lt))
same-within (x ∷ xs) zero a b lt = refl
same-within (x ∷ xs) (suc i) a b lt = same-within xs i a b (omega (arith, lt))

past : (xs : List ℕ) (i a : ℕ) → length xs ≤ i → get_or xs i a ≡ a
past [] i a le = refl
past (x ∷ xs) zero a le = absurd (omega (arith, le))
past (x ∷ xs) (suc i) a le = past xs i a (omega (arith, le))

nth-below : (ds : List Derived) (n : ℕ) (x : Derived) → IsNth ds n x → n < length ds
nth-below [] n x h = elim h [ ]
nth-below (d ∷ ds) zero x h = omega arith
nth-below (d ∷ ds) (suc n) x h = let lt = nth-below ds n x h in omega (arith, lt)

some-nth : (ds : List Derived) (n : ℕ) → n < length ds → (x : Derived) × IsNth ds n x
some-nth [] n lt = absurd (omega (arith, lt))
some-nth (d ∷ ds) zero lt = (d, refl)
some-nth (d ∷ ds) (suc n) lt = some-nth ds n (omega (arith, lt))

one-name : (m n : Name) → Some m ≡ Some n → m ≡ n
one-name m n e = cc

one-declaration : (c d : Declaration) → Some c ≡ Some d → c ≡ d
one-declaration c d e = cc

-- what stands at the place of a formula, by lists that are the same
pub same-there : (rows xs : List (Option Formula)) (firsts ns : List ℕ) (i n : ℕ) → rows ≡ xs → firsts ≡ ns
    → option_flatten (slice_get rows (formula_place firsts (length rows) i n))
    ≡ option_flatten (slice_get xs (formula_place ns (length xs) i n))
same-there rows xs firsts ns i n same begun =
    ap (λ ys. option_flatten (slice_get ys (formula_place firsts (length ys) i n))) same
    ∙ ap (λ ms. option_flatten (slice_get xs (formula_place ms (length xs) i n))) begun

-- one declaration more
first-more : (ds : List Declaration) (i : ℕ) (d : Declaration) → slice_get ds i ≡ Some d
    → first_of ds (i + 1) ≡ first_of ds i + length (derivations_in d)
first-more ds i d at =
    ap (λ xs. length (flat_map derivations_in xs))
    (take-more ds i d (below-end ds i d at) (sym (value-at ds i d d at)))
    ∙ ap length (flat-joined derivations_in (take i ds) (d ∷ []))
    ∙ length-append (flat_map derivations_in (take i ds)) (flat_map derivations_in (d ∷ []))
    ∙ ap (λ ys. first_of ds i + length ys) (append-nil (derivations_in d))

module _ (s : Schema) (firsts : List ℕ) (f : AreFirsts s firsts) (count : ℕ)
    (whole : count ≡ length (all_derivations s)) where
  -- where those of a declaration begin
  begin : (i : ℕ) → i < length s.declarations → get_or firsts i count ≡ first_of s.declarations i
  begin i lt =
      let same = f.same in
      same-within firsts i count 0 (omega (arith, lt, same)) ∙ f.each i lt

  -- where those of a declaration end
  finish : (i : ℕ) → i < length s.declarations → get_or firsts (i + 1) count ≡ first_of s.declarations (i + 1)
  finish i lt = by (nat_lt (i + 1) (length s.declarations)) refl
    where
      by : (b : Bool) → nat_lt (i + 1) (length s.declarations) ≡ b
          → get_or firsts (i + 1) count ≡ first_of s.declarations (i + 1)
      by true e = begin (i + 1) (let under : i + 1 < length s.declarations = grind (arith, nat_tests) in under)
      by false e =
          let over : length s.declarations ≤ i + 1 = grind (arith, nat_tests) in
          let same = f.same in
          past firsts (i + 1) count (omega (arith, over, same)) ∙ whole
          ∙ ap (λ ds. length (flat_map derivations_in ds))
          (sym (take_all (i + 1) s.declarations over))

  -- the place of one that is there, and of one that isn't
  place-at : (d : Declaration) (i n : ℕ) → IsAt s i d → n < length (deriveds_in d)
      → formula_place firsts count i n ≡ first_of s.declarations i + n
  place-at d i n at lt = by (nat_lt (get_or firsts i count + n) (get_or firsts (i + 1) count)) refl
    where
      here : get_or firsts i count ≡ first_of s.declarations i
      here = begin i (below-end s.declarations i d at)

      by : (b : Bool) → nat_lt (get_or firsts i count + n) (get_or firsts (i + 1) count) ≡ b
          → cond b (get_or firsts i count + n) count ≡ first_of s.declarations i + n
      by true e = ap (λ k. k + n) here
      by false e =
          let over : get_or firsts (i + 1) count ≤ get_or firsts i count + n = grind (arith, nat_tests) in
          let end = finish i (below-end s.declarations i d at) in
          let more = first-more s.declarations i d at in
          let long = count-of d in
          let first : get_or firsts i count ≡ first_of s.declarations i = here in
          absurd (omega (arith, over, end, more, long, first, lt))

  none-at : (d : Declaration) (i n : ℕ) → IsAt s i d → length (deriveds_in d) ≤ n
      → formula_place firsts count i n ≡ count
  none-at d i n at le = by (nat_lt (get_or firsts i count + n) (get_or firsts (i + 1) count)) refl
    where
      by : (b : Bool) → nat_lt (get_or firsts i count + n) (get_or firsts (i + 1) count) ≡ b
          → cond b (get_or firsts i count + n) count ≡ count
      by false e = refl
      by true e =
          let under : get_or firsts i count + n < get_or firsts (i + 1) count = grind (arith, nat_tests) in
          let first = begin i (below-end s.declarations i d at) in
          let end = finish i (below-end s.declarations i d at) in
          let more = first-more s.declarations i d at in
          let long = count-of d in
          absurd (omega (arith, under, end, more, long, first, le))

module _ (s : Schema) (table : List (Option Formula)) (t : AreFormulas s table) (firsts : List ℕ)
    (f : AreFirsts s firsts) where
  abbrev Asked : Name → ℕ → ℕ → Type 0
  Asked e i n =
      IsFormula s (e, n)
      (option_map formula_seen (option_flatten (slice_get table (formula_place firsts (length table) i n))))

  found : (e : Name) (i n j : ℕ) → formula_place firsts (length table) i n ≡ j → HasDerivation s j (e, n) → Asked e i n
  found e i n j is h =
      let long = t.same in
      let lt = below-end (all_derivations s) j (e, n) h in
      let (o, at) = something-at table j (omega (arith, long, lt)) in
      subst (λ p. IsFormula s (e, n) (option_map formula_seen (option_flatten p)))
      (sym (ap (slice_get table) is ∙ at)) (t.each j (e, n) o h at)

  missing : (e : Name) (i n : ℕ) (d : Declaration) → HasNumber s e i → IsAt s i d → length (deriveds_in d) ≤ n
      → Asked e i n
  missing e i n d k at le =
      subst (λ p. IsFormula s (e, n) (option_map formula_seen (option_flatten p)))
      (sym (ap (slice_get table) (none-at s firsts f (length table) t.same d i n at le)
      ∙ slice_get_past table (length table) (omega arith)))
      (inr nothing)
    where
      nothing : (x : Derived) → IsDerivation s (e, n) x → ⊥
      nothing x (y, there, nth) =
          let same : entity y ≡ d = one-declaration (entity y) d (sym there ∙ stands-at s e i k ∙ at) in
          let lt = nth-below (listed y.derived) n x nth in
          let long : length (listed y.derived) ≡ length (deriveds_in d) = ap (λ c. length (deriveds_in c)) same in
          omega (arith, lt, long, le)

  there : (e : Name) (i n : ℕ) (d : Declaration) → HasNumber s e i → IsAt s i d → declared_name d ≡ Some e
      → n < length (deriveds_in d) → Asked e i n
  there e i n (type u) k at called lt = absurd (omega (arith, lt))
  there e i n (skipped p) k at called lt = absurd (omega (arith, lt))
  there e i n (entity y) k at called lt =
      let (x, nth) = some-nth (listed y.derived) n lt in
      found e i n (first_of s.declarations i + n) (place-at s firsts f (length table) t.same (entity y) i n at lt)
      (subst (λ m. HasDerivation s (first_of s.declarations i + n) (m, n)) (one-name y.name e called)
      (number-at s i (first_of s.declarations i + n) n y x at nth refl))

  pub asked-formula : (e : Name) (i n : ℕ) → HasNumber s e i → Asked e i n
  asked-formula e i n k =
      let (d, at, called) = what-stands s e i k in
      by d at called (nat_lt n (length (deriveds_in d))) refl
    where
      by : (d : Declaration) → IsAt s i d → declared_name d ≡ Some e → (b : Bool)
          → nat_lt n (length (deriveds_in d)) ≡ b → Asked e i n
      by d at called true is =
          there e i n d k at called (let lt : n < length (deriveds_in d) = grind (arith, nat_tests) in lt)
      by d at called false is =
          missing e i n d k at (let le : length (deriveds_in d) ≤ n = grind (arith, nat_tests) in le)
