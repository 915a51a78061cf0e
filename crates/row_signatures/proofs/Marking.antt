-- Marks of rows, one name more.
use Rattle.std.proofs.Common.{◌≡◌, ◌<◌, ◌||◌, ℕ, Bool, true, false, List, [], ◌∷◌, ◌++◌, length, Option, Some, None, refl, sym, ap, ◌∙◌, subst, inl, inr, eq-eqb, set, replicate}
use Rattle.std.specs.Prelude.{◌==◌, slice_get, cond}
use Rattle.std.specs.BTreeMap.{is_at}
use Rattle.std.specs.List.{IsDistinct, list_any}
use Rattle.std.specs.Ordering.{nat_cmp}
use Rattle.std.specs.Cmp.{unsigned_tied}
use Rattle.std.proofs.Math.Bool.{or-true, or-false}
use Rattle.std.proofs.lemmas.Bool.{cases_Bool, cases_eq, eqb-true}
use Rattle.std.proofs.lemmas.List.{get_or-replicate, get_or-set_other, get_or-set_same, length-replicate, length-set}
use Rattle.std.proofs.lemmas.Option.{get_or_from_slice_get, slice_get-get_or, slice_get_within}
use Rattle.value_equality.specs.Rows.{Row, names, row_at}
use Rattle.value_equality.proofs.Lookup.{row_name}
use Rattle.row_signatures.specs.steps.ComputedMarks.{AreMarks}
use Rattle.row_signatures.proofs.Naming.{item_at, once, one_place, row_stands}

-- a name is found by itself alone
same_name : (y name : ℕ) → is_at (nat_cmp y) name ≡ true → y ≡ name
same_name y name e = eqb-true y name (sym (unsigned_tied y name) ∙ e)

found_itself : (y : ℕ) → is_at (nat_cmp y) y ≡ true
found_itself y = unsigned_tied y y ∙ eq-eqb y y refl

other_name : (y name : ℕ) → (y ≡ name → ⊥) → is_at (nat_cmp y) name ≡ false
other_name y name apart = elim (cases_Bool (is_at (nat_cmp y) name)) [ inl t ↦ absurd (apart (same_name y name t)) | inr f ↦ f ]

module _ (rows : List Row) (P : ℕ → Bool) (marks : List Bool) (are : AreMarks rows P marks) (name : ℕ) where
  abbrev More : ℕ → Bool
  More y = P y || is_at (nat_cmp y) name

  same_mark : (i : ℕ) (r : Row) → slice_get rows i ≡ Some r → (r.name ≡ name → ⊥) → slice_get marks i ≡ Some (More r.name)
  same_mark i r at apart =
      are.told i r at ∙ ap Some (sym (ap (λ b. P r.name || b) (other_name r.name name apart) ∙ or-false (P r.name)))

  -- no row has the name
  pub as_marked : row_at rows name ≡ None → IsDistinct (◌==◌) (names rows) → AreMarks rows More marks
  as_marked none distinct = record {
    each = are.each;
    told = λ i r at. same_mark i r at (λ same. let there = row_stands rows i r distinct at in
        absurd (none_some (sym none ∙ ap (row_at rows) (sym same) ∙ there)));
  }
    where
      none_some : {r : Row} → None ≡ Some r → ⊥
      none_some e = cc

  -- the row at this place has the name
  pub marked : (k : ℕ) → k < length rows → slice_get rows k ≡ row_at rows name → IsDistinct (◌==◌) (names rows)
      → AreMarks rows More (set marks k true)
  marked k l found distinct =
      let (s, there) = item_at rows k l in
      let named : s.name ≡ name = row_name rows name s (sym found ∙ there) in record {
        each = length-set marks k true ∙ are.each;
        told = λ i r at. elim (cases_eq i k) [
          | inl same ↦ (let one : s ≡ r = once s r (sym there ∙ ap (slice_get rows) (sym same) ∙ at) in
              let here : r.name ≡ name = ap (λ (q : Row). q.name) (sym one) ∙ named in
              let within : i < length marks = slice_get_within marks i (P r.name) (are.told i r at) in
              subst (λ j. slice_get (set marks j true) i ≡ Some (More r.name)) same
              (slice_get-get_or (set marks i true) i false (subst (λ n. i < n) (sym (length-set marks i true)) within)
              ∙ ap Some (get_or-set_same marks i true false within
              ∙ sym (ap (λ y. P y || is_at (nat_cmp y) name) here ∙ ap (λ b. P name || b) (found_itself name) ∙ or-true (P name)))))
          | inr apart ↦ (let within : i < length marks = slice_get_within marks i (P r.name) (are.told i r at) in
              slice_get-get_or (set marks k true) i false (subst (λ n. i < n) (sym (length-set marks k true)) within)
              ∙ ap Some (get_or-set_other marks k i true false apart)
              ∙ sym (slice_get-get_or marks i false within)
              ∙ same_mark i r at (λ same. apart (one_place rows i k r s distinct at there (same ∙ sym named))))
        ];
      }

-- one test is another
pub marked_alike : (rows : List Row) (P Q : ℕ → Bool) (marks : List Bool) → ((y : ℕ) → P y ≡ Q y)
    → AreMarks rows P marks → AreMarks rows Q marks
marked_alike rows P Q marks same are = record {
  each = are.each;
  told = λ i r at. are.told i r at ∙ ap Some (same r.name);
}
