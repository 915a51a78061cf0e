-- Images and quotients by examples.
use Rattle.std.proofs.Common.{◌≡◌, ℕ, Bool, true, cond, List, [], ◌∷◌, Some, None, refl, ◌∙◌, eqb-true, length}
use Rattle.std.specs.Prelude.{◌==◌, ◌&&◌, ◌||◌}
use Rattle.step_values.specs.Values.{AgreeEach, reference, Values, none, more, unchanged}
use Rattle.step_values.specs.References.{EachReferenceOf}
use Rattle.value_equality.specs.Rows.{Row, row_at, IsName, RowsAgree, renamed_row}
use Rattle.value_equality.specs.ValueEquality.{ValueEqual}
use Rattle.value_equality.specs.Images.{IsImage, quotient}
use Rattle.step_values.proofs.References.{each_reordered}
use Rattle.value_equality.proofs.Samples.{each_row, note, free, point, placement, node, bundle, twice}
use Rattle.value_equality.proofs.ValueExamples.{differ, agree_of, bundles, cycles}

abbrev once : List Row
once = point 1 0 ∷ placement 3 1 ∷ []

-- the first of each class stays, with its references led to first ones
once_of_twice : quotient twice (λ x z. (x == z) || ((x == 1) && (z == 2)) || ((x == 3) && (z == 4))) ≡ once
once_of_twice = refl

abbrev to_first : ℕ → ℕ
to_first x = cond (x == 2) 1 (cond (x == 4) 3 x)

same_point : (x y n : ℕ) → RowsAgree (point x n) (point y n)
same_point x y n = record { same_kind = refl; values_agree = ((refl, (refl, tt)), tt) }

same_placement : (x y z : ℕ) → (z == z) ≡ true → RowsAgree (placement x z) (placement y z)
same_placement x y z e = record { same_kind = refl; values_agree = (e, (refl, tt)) }

abbrev Lands : List Row → (ℕ → ℕ) → ℕ → Row → Type 0
Lands Q h x p = (q : Row) × (row_at Q (h x) ≡ Some q) × RowsAgree (renamed_row h p) q

abbrev IsReached : List Row → (ℕ → ℕ) → ℕ → Row → Type 0
IsReached P h y q = (x : ℕ) × IsName P x × (h x ≡ y)

once_is_an_image : IsImage twice once to_first free
once_is_an_image = record {
  lands = each_row (Lands once to_first) twice (
    (point 1 0, refl, same_point 1 1 0),
    (
      (point 1 0, refl, same_point 2 1 0),
      (
        (placement 3 1, refl, same_placement 3 3 1 refl),
        (
          (placement 3 1, refl, same_placement 4 3 1 refl),
          tt,
        ),
      ),
    ),
  );
  onto = λ y n. each_row (IsReached twice to_first) once (
    (1, (point 1 0, refl), refl),
    ((3, (placement 3 1, refl), refl), tt),
  ) y n.0 n.1;
  alone = λ x z n m pinned e. absurd (cc);
}

-- The quotient isn't an image if #1 is pinned.
none_where_pinned : IsImage twice once to_first (λ y. y == 1) → ⊥
none_where_pinned image = differ 2 1 refl (image.alone 2 1 (point 2 0, refl) (point 1 0, refl) refl refl)

-- The quotient isn't an image without its second row.
none_without_placement : IsImage twice (point 1 0 ∷ []) to_first free → ⊥
none_without_placement image =
    let landed = image.lands 3 (placement 3 1) refl in
    let missing : None ≡ Some landed.0 = landed.1 in cc

-- a population is an image of itself, whatever is pinned
itself_is_an_image : (pinned : ℕ → Bool) → IsImage twice twice (λ x. x) pinned
itself_is_an_image pinned = record {
  lands = each_row (Lands twice (λ x. x)) twice (
    (point 1 0, refl, same_point 1 1 0),
    (
      (point 2 0, refl, same_point 2 2 0),
      (
        (placement 3 1, refl, same_placement 3 3 1 refl),
        (
          (placement 4 2, refl, same_placement 4 4 2 refl),
          tt,
        ),
      ),
    ),
  );
  onto = λ y n. (y, n, refl);
  alone = λ x z n m pin e. e;
}

empty_is_an_image : (h : ℕ → ℕ) (pinned : ℕ → Bool) → IsImage [] [] h pinned
empty_is_an_image h pinned = record {
  lands = λ x p n. absurd (cc);
  onto = λ y n. absurd (let e = n.1 in cc);
  alone = λ x z n m pin e. absurd (let f = n.1 in cc);
}

-- cycles of two lengths merge into one of length one
one_cycle : quotient cycles (λ x z. true) ≡ node 1 1 ∷ []
one_cycle = refl

-- sets of the same members merge
bundles_merged : quotient bundles (λ x z. (x == z) || ((x == 3) && (z == 4))) ≡ node 1 1 ∷ node 2 2 ∷ bundle 3 1 2 ∷ []
bundles_merged = refl

-- `#5=NOTE('a',#4);`: where #4 and #5 are pinned, #1 and #2 merge, and #4 refers to the first of them
abbrev noted : List Row
noted = point 1 0 ∷ point 2 0 ∷ placement 3 1 ∷ placement 4 2 ∷ note 5 4 ∷ []

noted_merged : quotient noted (λ x z. (x == z) || ((x == 1) && (z == 2))) ≡ point 1 0 ∷ placement 3 1 ∷ placement 4 1
    ∷ note 5 4 ∷ []
noted_merged = refl

-- Where bags refer to free instances, an image can have fewer rows than the quotient by value equality: #1 and #2
-- are value-equal, and #3 and #4, which are sets of them, aren't, since members are told by name.
abbrev loose : List Row
loose = point 1 0 ∷ point 2 0 ∷ bundle 3 1 1 ∷ bundle 4 2 2 ∷ []

abbrev tight : List Row
tight = point 1 0 ∷ bundle 3 1 1 ∷ []

same_bundle : (x y z : ℕ) → (z == z) ≡ true → RowsAgree (bundle x z z) (bundle y z z)
same_bundle x y z e = record {
  same_kind = refl;
  values_agree = ((more (reference z) (more (reference z) none), unchanged _, (e, (e, tt))), tt);
}

tight_is_an_image : IsImage loose tight to_first free
tight_is_an_image = record {
  lands = each_row (Lands tight to_first) loose (
    (point 1 0, refl, same_point 1 1 0),
    (
      (point 1 0, refl, same_point 2 1 0),
      (
        (bundle 3 1 1, refl, same_bundle 3 3 1 refl),
        (
          (bundle 3 1 1, refl, same_bundle 4 3 1 refl),
          tt,
        ),
      ),
    ),
  );
  onto = λ y n. each_row (IsReached loose to_first) tight (
    (1, (point 1 0, refl), refl),
    ((3, (bundle 3 1 1, refl), refl), tt),
  ) y n.0 n.1;
  alone = λ x z n m pinned e. absurd (cc);
}

three_rows : length (quotient loose (λ x z. (x == z) || ((x == 1) && (z == 2)) || ((x == 2) && (z == 1)))) ≡ 3
three_rows = refl

-- a set of #1 alone isn't one of #2 alone
sets_differ : (us : Values) → EachReferenceOf (λ y. y ≡ 2) us
    → AgreeEach (◌==◌) (more (reference 1) (more (reference 1) none)) us → ⊥
sets_differ none r a = a
sets_differ (more (reference y) us) r a = differ 1 2 refl (eqb-true 1 y a.0 ∙ r.0)
sets_differ (more _ us) r a = absurd a.0

bundles_differ : ValueEqual loose free 3 4 → ⊥
bundles_differ found =
    let agree = (agree_of loose free 3 4 (bundle 3 1 1) (bundle 4 2 2) refl refl found).1.0 in
    sets_differ agree.0 (each_reordered (λ y. y ≡ 2) agree.1 (refl, (refl, tt))) agree.2
