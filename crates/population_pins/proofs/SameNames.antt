-- Two sets are equal exactly where they have the same names; and one that goes on with as many as it had has the same.
use Rattle.std.specs.Prelude.{◌≡◌, ◌↔◌, ◌≤◌, ◌+◌, ◌++◌, ◌∷◌, [], ◌||◌, ℕ, nat_eq, length, Bool, true, false, IsTrue}
use Rattle.std.specs.BTreeMap.{is_at}
use Rattle.std.specs.BTreeSet.{BTreeSet, IsOrdered}
use Rattle.std.specs.List.{list_any}
use Rattle.std.specs.Ordering.{nat_cmp, eq_by_cmp, is_eq}
use Rattle.std.proofs.Common.{arith, refl, ap, sym, subst, ◌∙◌}
use Rattle.std.proofs.lemmas.Bool.{eqb-true}
use Rattle.std.proofs.lemmas.Cmp.{nat_cmp_total, eq_by_cmp_equiv}
use Rattle.std.proofs.lemmas.List.{length-append}
use Rattle.std.proofs.lemmas.List.Folds.{list_any-append}
use Rattle.std.proofs.lemmas.Map.Keys.{IsDistinct-from_sorted, IsDistinct-push}
use Rattle.std.proofs.lemmas.Map.Made.{length-le_from_is_member}
use Rattle.std.specs.Cmp.{unsigned_tied, unsigned_Decides}
use Rattle.value_equality.specs.Maps.{is_pinned}
use Rattle.std.specs.Cmp.Lexicographic.{pointwise, pointwise_decides}
use Rattle.std.proofs.lemmas.Map.Lookups.{btree_set_from_contains, exact_unsigned}

pub same-pins : (s t : BTreeSet ℕ) (r : Bool) → IsOrdered nat_cmp s → IsOrdered nat_cmp t
    → r ≡ pointwise nat_eq s.keys t.keys → IsTrue r ↔ ((y : ℕ) → is_pinned s y ≡ is_pinned t y)
same-pins s t r these others is =
    let decides = pointwise_decides unsigned_Decides s.keys t.keys in (
      λ e y. ap (list_any (is_at (nat_cmp y))) (decides.0 (sym is ∙ e)),
      λ same. is ∙ decides.1 (btree_set_from_contains nat_cmp_total s t these others same exact_unsigned),
    )

module _ (old new : BTreeSet ℕ) (these : IsOrdered nat_cmp old) (others : IsOrdered nat_cmp new)
    (grows : (y : ℕ) → IsTrue (is_pinned old y) → IsTrue (is_pinned new y)) where
  one-more : (y : ℕ) → is_pinned old y ≡ false → is_pinned new y ≡ true → length old.keys + 1 ≤ length new.keys
  one-more y none there =
      subst (λ n. n ≤ length new.keys) (length-append old.keys (y ∷ []))
      (length-le_from_is_member (eq_by_cmp_equiv nat_cmp_total) (old.keys ++ y ∷ []) new.keys
      (IsDistinct-push (eq_by_cmp_equiv nat_cmp_total) old.keys y (IsDistinct-from_sorted nat_cmp old.keys these) none)
      (λ q m. by q (is_pinned old q) refl (sym (list_any-append (is_at (nat_cmp q)) old.keys (y ∷ [])) ∙ m)))
    where
      is : (q : ℕ) → (b : Bool) → is_eq (nat_cmp q y) ≡ b → (b || false) ≡ true → q ≡ y
      is q true e m = eqb-true q y (sym (unsigned_tied q y) ∙ e)
      is q false e m = absurd (cc)

      by : (q : ℕ) → (b : Bool) → is_pinned old q ≡ b → (b || list_any (is_at (nat_cmp q)) (y ∷ [])) ≡ true
          → is_pinned new q ≡ true
      by q true e m = grows q e
      by q false e m = subst (λ z. is_pinned new z ≡ true) (sym (is q (is_eq (nat_cmp q y)) refl m)) there

  pub same-where-as-many : length new.keys ≡ length old.keys → (y : ℕ) → is_pinned new y ≡ is_pinned old y
  same-where-as-many as-many y = by (is_pinned old y) refl (is_pinned new y) refl
    where
      by : (b : Bool) → is_pinned old y ≡ b → (c : Bool) → is_pinned new y ≡ c → is_pinned new y ≡ is_pinned old y
      by true e c f = grows y e ∙ sym e
      by false e false f = f ∙ sym e
      by false e true f =
          let longer : length old.keys + 1 ≤ length old.keys = subst (λ n. length old.keys + 1 ≤ n) as-many (one-more y e f) in
          absurd (omega arith)

  pub as-many-where-same : ((y : ℕ) → is_pinned new y ≡ is_pinned old y) → length new.keys ≡ length old.keys
  as-many-where-same same = ap length (btree_set_from_contains nat_cmp_total new old others these same exact_unsigned)
