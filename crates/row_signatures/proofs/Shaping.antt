-- Numbers tell the shapes of free rows apart.
use Rattle.std.proofs.Common.{◌≡◌, ◌<◌, ◌+◌, ℕ, Bool, true, false, List, [], ◌∷◌, ◌++◌, length, take, Some, refl, sym, ap, ◌∙◌, subst, arith, slice_get, inl, inr}
use Rattle.std.specs.Prelude.{slice_index}
use Rattle.std.specs.declared.hash.FoldHasher.{FoldHasher}
use Rattle.std.proofs.lemmas.Bool.{false≢true}
use Rattle.std.proofs.lemmas.List.{length-take-le, take_all, take_more}
use Rattle.std.proofs.lemmas.Option.{get_or_from_slice_get, slice_get_within}
use Rattle.step_values.specs.Shapes.{HaveOneShape}
use Rattle.value_equality.specs.Rows.{Row}
use Rattle.row_signatures.specs.declared.shapes.Shape.{Shape}
use Rattle.row_signatures.specs.steps.ComputedFlat.{shape_test}
use Rattle.row_signatures.specs.steps.ComputedShapes.{AreFirsts, AreShapeNumbers, IsShapeNumber, first_place}
use Rattle.row_signatures.specs.steps.ShapeLaws.{one_shape_between, own_shape, test_decides}
use Rattle.row_signatures.specs.steps.Signatures.{AreShapes}
use Rattle.row_signatures.proofs.FirstPlaces.{first_held, first_stays, first_within, one_more_first, own_first, pinned_passed, same_first}
use Rattle.row_signatures.proofs.Naming.{item_at, once}
use Rattle.row_signatures.proofs.Numbering.{before, behind, last_or_before}
use Rattle.row_signatures.proofs.Referring.{longer}

-- one row more
module _ (start : FoldHasher) (pinned : ℕ → Bool) (rows : List Row) (ns : List ℕ) (es next : List (Shape × ℕ)) (n m : ℕ)
    (r : Row) (at : slice_get rows n ≡ Some r) (all : AreShapeNumbers start pinned rows ns es n)
    (one : IsShapeNumber start (pinned r.name) r n m es next) where
  within : n < length rows
  within = slice_get_within rows n r at

  count : length (take n rows) ≡ n
  count = length-take-le n rows (omega (arith, within))

  more_before : take (n + 1) rows ≡ take n rows ++ r ∷ []
  more_before =
      take_more rows n r within ∙ ap (λ (q : Row). take n rows ++ q ∷ []) (get_or_from_slice_get rows n r r at)

  -- it is the new row
  this : (i : ℕ) (s : Row) → i ≡ n → slice_get rows i ≡ Some s → s ≡ r
  this i s e h = once s r (sym h ∙ ap (slice_get rows) e ∙ at)

  firsts_then : (b : Bool) → pinned r.name ≡ b → AreFirsts start pinned (take n rows ++ r ∷ []) next
  firsts_then true own =
      subst (AreFirsts start pinned (take n rows ++ r ∷ [])) (sym (one.of_pinned own).1)
      (pinned_passed start pinned (take n rows) r own es all.firsts)
  firsts_then false free =
      one_more_first start pinned (take n rows) r free n m count es next all.firsts (one.of_free free)

  own_then : pinned r.name ≡ false → Some m ≡ first_place pinned (take (n + 1) rows) r.values
  own_then free =
      sym (own_first start pinned (take n rows) r free n m count es next all.firsts (one.of_free free))
      ∙ ap (λ rs. first_place pinned rs r.values) (sym more_before)

  stays : (i : ℕ) (s : Row) → i < n → slice_get rows i ≡ Some s → pinned s.name ≡ false
      → slice_get (ns ++ m ∷ []) i ≡ first_place pinned (take (n + 1) rows) s.values
  stays i s l h free =
      let each = all.each in
      let item = item_at ns i (omega (arith, l, each)) in
      before ns m i (omega (arith, l, each)) ∙ item.1
      ∙ sym (first_stays pinned (take n rows) s.values r item.0 (sym (all.of_free i s l h free) ∙ item.1))
      ∙ ap (λ rs. first_place pinned rs s.values) (sym more_before)

  pub one_more_shape : AreShapeNumbers start pinned rows (ns ++ m ∷ []) next (n + 1)
  one_more_shape = record {
    each = longer ns m ∙ ap (λ k. k + 1) all.each;
    firsts = subst (λ rs. AreFirsts start pinned rs next) (sym more_before) (firsts_then (pinned r.name) refl);
    of_pinned = λ i s lt h p. elim (last_or_before i n lt) [
      | inl e ↦
          behind ns m i (e ∙ sym all.each)
          ∙ ap Some ((one.of_pinned (ap (λ (q : Row). pinned q.name) (sym (this i s e h)) ∙ p)).0 ∙ sym e)
      | inr l ↦ (let each = all.each in before ns m i (omega (arith, l, each)) ∙ all.of_pinned i s l h p)
    ];
    of_free = λ i s lt h p. elim (last_or_before i n lt) [
      | inl e ↦
          behind ns m i (e ∙ sym all.each)
          ∙ own_then (ap (λ (q : Row). pinned q.name) (sym (this i s e h)) ∙ p)
          ∙ ap (λ (q : Row). first_place pinned (take (n + 1) rows) q.values) (sym (this i s e h))
      | inr l ↦ stays i s l h p
    ];
  }

-- nothing is numbered at first
pub none_shaped : (start : FoldHasher) (pinned : ℕ → Bool) (rows : List Row) → AreShapeNumbers start pinned rows [] [] 0
none_shaped start pinned rows = record {
  each = refl;
  firsts = λ vs s shape. refl;
  of_pinned = λ i r l at p. absurd (omega (arith, l));
  of_free = λ i r l at p. absurd (omega (arith, l));
}

-- So they tell shapes apart.
module _ (start : FoldHasher) (pinned : ℕ → Bool) (rows : List Row) (ns : List ℕ) (es : List (Shape × ℕ))
    (all : AreShapeNumbers start pinned rows ns es (length rows)) where
  abbrev those : List Row
  those = take (length rows) rows

  numbered : (i : ℕ) (r : Row) → slice_get rows i ≡ Some r → slice_get ns i ≡ Some (slice_index ns i)
  numbered i r at =
      let lt = slice_get_within rows i r at in
      let each = all.each in
      let a = item_at ns i (omega (arith, lt, each)) in
      a.1 ∙ ap Some (sym (get_or_from_slice_get ns i a.0 0 a.1))

  own_number : (i : ℕ) (r : Row) → slice_get rows i ≡ Some r → pinned r.name ≡ true → slice_index ns i ≡ i
  own_number i r at own =
      once _ _ (sym (numbered i r at) ∙ all.of_pinned i r (slice_get_within rows i r at) at own)

  shape_number : (i : ℕ) (r : Row) → slice_get rows i ≡ Some r → pinned r.name ≡ false
      → first_place pinned those r.values ≡ Some (slice_index ns i)
  shape_number i r at free =
      sym (all.of_free i r (slice_get_within rows i r at) at free) ∙ numbered i r at

  among : (r : Row) {m : ℕ} → first_place pinned those r.values ≡ Some m → first_place pinned rows r.values ≡ Some m
  among r {m} = subst (λ rs. first_place pinned rs r.values ≡ Some m) (take_all (length rows) rows (omega arith))

  -- the number of a free row is the place of a free row of its shape
  held : (i j : ℕ) (r s : Row) → slice_get rows i ≡ Some r → pinned r.name ≡ false → slice_get rows j ≡ Some s
      → slice_index ns i ≡ j → (pinned s.name ≡ false) × (shape_test r.values s.values ≡ true)
  held i j r s at free there e =
      first_held pinned rows r.values j s (among r (shape_number i r at free) ∙ ap Some e) there

  -- the number of a free row isn't that of a pinned one
  clash : (i j : ℕ) (r s : Row) → slice_get rows i ≡ Some r → slice_get rows j ≡ Some s → pinned r.name ≡ false
      → pinned s.name ≡ true → slice_index ns i ≡ slice_index ns j → ⊥
  clash i j r s at there free own e =
      false≢true (sym (held i j r s at free there (e ∙ own_number j s there own)).0 ∙ own)

  same_held : (i j : ℕ) (r s : Row) → slice_get rows i ≡ Some r → slice_get rows j ≡ Some s → pinned r.name ≡ false
      → pinned s.name ≡ false → slice_index ns i ≡ slice_index ns j → HaveOneShape r.values s.values
  same_held i j r s at there free other e =
      let lt = first_within pinned rows r.values (slice_index ns i) r (among r (shape_number i r at free)) in
      let q = item_at rows (slice_index ns i) lt in
      one_shape_between r.values s.values q.0.values (held i (slice_index ns i) r q.0 at free q.1 refl).1
      (held j (slice_index ns i) s q.0 there other q.1 (sym e)).1

  pub shapes_told : AreShapes rows pinned ns
  shapes_told = record {
    each = all.each;
    alike = λ i j r s at there e. by i j r s at there e (pinned r.name) (pinned s.name) refl refl;
    tell = λ i j r s at there free other h.
        once _ _ (sym (shape_number i r at free) ∙ same_first pinned those r.values s.values h
        ∙ shape_number j s there other);
  }
    where
      by : (i j : ℕ) (r s : Row) → slice_get rows i ≡ Some r → slice_get rows j ≡ Some s
          → slice_index ns i ≡ slice_index ns j → (b c : Bool) → pinned r.name ≡ b → pinned s.name ≡ c
          → HaveOneShape r.values s.values
      by i j r s at there e true true p q =
          let same : i ≡ j = sym (own_number i r at p) ∙ e ∙ own_number j s there q in
          let row : r ≡ s = once r s (sym at ∙ ap (slice_get rows) same ∙ there) in
          subst (λ (x : Row). HaveOneShape r.values x.values) row ((test_decides r.values r.values).0 (own_shape r.values))
      by i j r s at there e true false p q = absurd (clash j i s r there at q p (sym e))
      by i j r s at there e false true p q = absurd (clash i j r s at there p q e)
      by i j r s at there e false false p q = same_held i j r s at there p q e
