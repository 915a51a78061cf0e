-- First rows of kinds that are remembered, one row more.
use Rattle.std.proofs.Common.{◌≡◌, ◌⊎◌, ◌<◌, ℕ, replicate, Bool, true, false, cond, List, Option, Some, None, refl, sym, ap, ◌∙◌, subst, slice_get, inl, inr}
use Rattle.std.proofs.lemmas.Bool.{false≢true}
use Rattle.std.proofs.lemmas.List.{get_or-replicate, length-replicate}
use Rattle.std.proofs.lemmas.Option.{get_or_from_slice_get, slice_get_within}
use Rattle.value_equality.specs.steps.ComputedKinds.{kind_test}
use Rattle.value_equality.specs.Rows.{Row, Kind, row_kind}
use Rattle.value_equality.proofs.OneKind.{kinds_decide}
use Rattle.row_signatures.specs.steps.ComputedKinds.{AreRecent, HaveRows, IsFirst, IsNumber, earlier}
use Rattle.row_signatures.proofs.Firsts.{found_again}

-- a free row of a kind that is noted already
pub again : (pinned : ℕ → Bool) (r : Row) (place m : ℕ) (first : Kind → Option ℕ) → pinned r.name ≡ false
    → first (row_kind r) ≡ Some m → IsNumber pinned r place m first first
again pinned r place m first free at = record {
  of_pinned = λ e. absurd (false≢true (sym free ∙ e));
  kept = λ e k. refl;
  of_free = λ e. ap (λ o. earlier o place) (sym at);
  noted = λ e. found_again first (row_kind r) m at;
}

-- a pinned row
pub pinned_number : (pinned : ℕ → Bool) (r : Row) (place : ℕ) (first : Kind → Option ℕ) → pinned r.name ≡ true
    → IsNumber pinned r place place first first
pinned_number pinned r place first is = record {
  of_pinned = λ e. refl;
  kept = λ e k. refl;
  of_free = λ e. absurd (false≢true (sym e ∙ is));
  noted = λ e. absurd (false≢true (sym e ∙ is));
}

-- a free row of a kind that is looked for
pub free_number : (pinned : ℕ → Bool) (r : Row) (place n : ℕ) (old new : Kind → Option ℕ) → pinned r.name ≡ false
    → n ≡ earlier (old (row_kind r)) place
    → ((k : Kind) → new k ≡ cond (kind_test k (row_kind r)) (Some n) (old k)) → IsNumber pinned r place n old new
free_number pinned r place n old new free is noted = record {
  of_pinned = λ e. absurd (false≢true (sym free ∙ e));
  kept = λ e. absurd (false≢true (sym free ∙ e));
  of_free = λ e. is;
  noted = λ e. noted;
}

-- a row that is remembered and has the kind of another
pub recent_by : (rows : List Row) (first : Kind → Option ℕ) (m : ℕ) (r : Row) → IsFirst rows first m
    → ((s : Row) → slice_get rows m ≡ Some s → row_kind s ≡ row_kind r) → first (row_kind r) ≡ Some m
recent_by rows first m r (s, stands, noted) same = ap first (sym (same s stands)) ∙ noted

-- a free row whose kind is noted now
module _ (rows : List Row) (old new : Kind → Option ℕ) (r : Row) (place n : ℕ) (is : n ≡ earlier (old (row_kind r)) place)
    (noted : (j : Kind) → new j ≡ cond (kind_test j (row_kind r)) (Some n) (old j)) where
  stays : (k : Kind) (m : ℕ) → old k ≡ Some m → new k ≡ Some m
  stays k m e = noted k ∙ by (kind_test k (row_kind r)) refl
    where
      by : (b : Bool) → kind_test k (row_kind r) ≡ b → cond b (Some n) (old k) ≡ Some m
      by true t =
          ap Some (is ∙ ap (λ o. earlier o place) (ap old (sym ((kinds_decide k (row_kind r)).0 t)) ∙ e))
      by false t = e

  own : new (row_kind r) ≡ Some n
  own = noted (row_kind r) ∙ ap (λ b. cond b (Some n) (old (row_kind r))) ((kinds_decide (row_kind r) (row_kind r)).1 refl)

  -- the row that is noted stands there
  stands : slice_get rows place ≡ Some r → HaveRows rows old
      → (s : Row) × (slice_get rows n ≡ Some s) × (new (row_kind s) ≡ Some n)
  stands at have = by (old (row_kind r)) refl
    where
      by : (o : Option ℕ) → old (row_kind r) ≡ o → (s : Row) × (slice_get rows n ≡ Some s) × (new (row_kind s) ≡ Some n)
      by None e = (r, ap (slice_get rows) (is ∙ ap (λ o. earlier o place) e) ∙ at, own)
      by (Some y) e =
          let (s, there, its) = have (row_kind r) y e in
          (s, ap (slice_get rows) (is ∙ ap (λ o. earlier o place) e) ∙ there, ap new its ∙ own)

  pub recent_next : slice_get rows place ≡ Some r → HaveRows rows old → (recent newer : List (Option ℕ))
      → AreRecent rows old recent
      → ((i m : ℕ) → slice_get newer i ≡ Some (Some m) → (m ≡ n) ⊎ (slice_get recent i ≡ Some (Some m)))
      → AreRecent rows new newer
  recent_next at have recent newer are written i m e = elim (written i m e) [
    | inl q ↦ subst (λ x. (s : Row) × (slice_get rows x ≡ Some s) × (new (row_kind s) ≡ Some x)) (sym q) (stands at have)
    | inr q ↦ let (s, there, its) = are i m q in (s, there, stays (row_kind s) m its)
  ]

-- nothing is remembered at first
pub none_recent : (rows : List Row) (first : Kind → Option ℕ) (n : ℕ) → AreRecent rows first (replicate n None)
none_recent rows first n i m at =
    let long = length-replicate {A = Option ℕ} n None in
    let within : i < n = subst (λ k. i < k) long (slice_get_within (replicate n None) i (Some m) at) in
    absurd (apart m (sym (get_or-replicate n i None None within) ∙ get_or_from_slice_get (replicate n None) i (Some m) None at))
  where
    apart : (k : ℕ) → None ≡ Some k → ⊥
    apart k e = cc
