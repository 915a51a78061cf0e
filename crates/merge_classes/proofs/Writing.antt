-- A table is written place by place.
use Rattle.std.proofs.Common.{◌≡◌, ◌<◌, ◌≤◌, ℕ, zero, suc, ◌+◌, ◌^◌, List, [], ◌∷◌, ◌++◌, Some, length, take, sym, ◌∙◌, ap, subst, arith, add-one}
use Rattle.std.specs.Prelude.{slice_get, slice_index, map}
use Rattle.std.specs.List.{All}
use Rattle.std.proofs.lemmas.List.Elements.{All-push}
use Rattle.std.proofs.lemmas.List.{map_push, take_all}
use Rattle.value_equality.specs.TableViews.{member_of}
use Rattle.merge_classes.specs.Laws.{members_of}
use Rattle.row_signatures.proofs.Naming.{once}

-- one name more
members_next : (ys ms : List ℕ) (k y : ℕ) → k < length ms → slice_get ys k ≡ Some y
    → members_of (take (suc k) ys) (take (suc k) ms)
    ≡ members_of (take k ys) (take k ms) ++ (y, slice_index ms k) ∷ []
members_next [] ms k y l e = absurd (cc)
members_next (z ∷ ys) [] k y l e = absurd (omega (arith, l))
members_next (z ∷ ys) (m ∷ ms) zero y l e = ap (λ w. (w, m) ∷ []) (once z y e)
members_next (z ∷ ys) (m ∷ ms) (suc k) y l e =
    ap (λ rest. (z, m) ∷ rest) (members_next ys ms k y (omega (arith, l)) e)

pub members_more : (ys ms : List ℕ) (k y m : ℕ) (old new : List (ℕ × ℕ)) → k < length ms → slice_get ys k ≡ Some y
    → m ≡ slice_index ms k → map member_of old ≡ members_of (take k ys) (take k ms) → new ≡ old ++ (y, m) ∷ []
    → map member_of new ≡ members_of (take (k + 1) ys) (take (k + 1) ms)
members_more ys ms k y m old new l e number before is =
    ap (map member_of) is ∙ map_push member_of old (y, m)
    ∙ (λ i. before i ++ (y, number i) ∷ []) ∙ sym (members_next ys ms k y l e)
    ∙ ap (λ n. members_of (take n ys) (take n ms)) (sym (add-one k))

-- all names
pub members_whole : (ys ms : List ℕ) (k : ℕ) (xs : List (ℕ × ℕ)) → length ys ≤ k → length ms ≤ k
    → xs ≡ members_of (take k ys) (take k ms) → xs ≡ members_of ys ms
members_whole ys ms k xs l m e = e ∙ (λ i. members_of (take_all k ys l i) (take_all k ms m i))

-- one member more whose name has 64 bits
pub named_more : (old new : List (ℕ × ℕ)) (y m : ℕ) → y < 2 ^ 64 → All (λ a. a.0 < 2 ^ 64) (map member_of old)
    → new ≡ old ++ (y, m) ∷ [] → All (λ a. a.0 < 2 ^ 64) (map member_of new)
named_more old new y m small all is =
    subst (All (λ a. a.0 < 2 ^ 64)) (sym (ap (map member_of) is ∙ map_push member_of old (y, m)))
    (All-push (λ a. a.0 < 2 ^ 64) (map member_of old) (y, m) all small)
