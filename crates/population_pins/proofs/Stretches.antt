-- Lists that stand side by side in one.
use Rattle.std.specs.Prelude.{◌≡◌, ◌≤◌, ◌<◌, ◌-◌, ◌+◌, ℕ, zero, suc, List, [], ◌∷◌, ◌++◌, length, take, drop, map, Some, slice_get}
use Rattle.std.proofs.Common.{refl, sym, ap, subst, ◌∙◌, arith}
use Rattle.std.proofs.lemmas.List.{map-append, take-append-le, drop-append-le, length-append, length-drop}
use Rattle.std.proofs.Math.Seq.{take-append_seam, drop-append_seam, take-length}
use Rattle.express_syntax.specs.Profile.{Every}
use Rattle.population_pins.specs.Lists.{with_list}
use Rattle.population_pins.specs.steps.Runs.{list_at, lists_at, AreWithin}
use Rattle.population_pins.specs.declared.lists.Run.{Run}

-- names that are added leave a list
list-stays : (names more : List ℕ) (r : Run) → r.first ≤ r.end → r.end ≤ length names
    → list_at (names ++ more) r ≡ list_at names r
list-stays names more r up within =
    let long = length-drop r.first names in
    ap (take (r.end - r.first)) (drop-append-le r.first names more (omega (arith, up, within)))
    ∙ take-append-le (r.end - r.first) (drop r.first names) more (omega (arith, up, within, long))

lists-stay : (names more : List ℕ) (runs : List Run) → AreWithin names runs
    → lists_at (names ++ more) runs ≡ lists_at names runs
lists-stay names more [] h = refl
lists-stay names more (r ∷ runs) h =
    let one = list-stays names more r h.0.0 h.0.1 in
    let others = lists-stay names more runs h.1 in
    λ i. one i ∷ others i

pub within-longer : (names longer : List ℕ) (runs : List Run) → length names ≤ length longer → AreWithin names runs
    → AreWithin longer runs
within-longer names longer [] l h = tt
within-longer names longer (r ∷ runs) l h =
    let end = h.0.1 in
    ((h.0.0, omega (arith, l, end)), within-longer names longer runs l h.1)

every-joined : {A : Type 0} (P : A → Type 0) (xs ys : List A) → Every P xs → Every P ys → Every P (xs ++ ys)
every-joined P [] ys h k = k
every-joined P (x ∷ xs) ys h k = (h.0, every-joined P xs ys h.1 k)

-- a list of fewer than two names is passed over
few : (ls : List (List ℕ)) (l : List ℕ) → length l < 2 → with_list ls l ≡ ls
few ls [] lt = refl
few ls (y ∷ []) lt = refl
few ls (y ∷ z ∷ l) lt = absurd (omega (arith, lt))

many : (ls : List (List ℕ)) (l : List ℕ) → 2 ≤ length l → with_list ls l ≡ ls ++ l ∷ []
many ls [] le = absurd (omega (arith, le))
many ls (y ∷ []) le = absurd (omega (arith, le))
many ls (y ∷ z ∷ l) le = refl

module _ (names added : List ℕ) (runs : List Run) (mid : List ℕ) (is : mid ≡ names ++ added) where
  long : length mid ≡ length names + length added
  long = ap length is ∙ length-append names added

  -- too few names are taken away again
  pub added-few : length mid - length names < 2
      → lists_at (take (length names) mid) runs ≡ with_list (lists_at names runs) added
  added-few lt =
      ap (λ l. lists_at l runs) (ap (take (length names)) is ∙ take-append_seam names added)
      ∙ sym (few (lists_at names runs) added (omega (arith, lt, long)))

  pub within-few : AreWithin names runs → AreWithin (take (length names) mid) runs
  within-few h = subst (λ l. AreWithin l runs) (sym (ap (take (length names)) is ∙ take-append_seam names added)) h

  abbrev last : Run
  last = record { first = length names; end = length mid }

  last-is : list_at mid last ≡ added
  last-is =
      let some : length mid - length names ≡ length added = omega (arith, long) in
      ap (λ l. take (length mid - length names) (drop (length names) l)) is
      ∙ ap (take (length mid - length names)) (drop-append_seam names added)
      ∙ ap (λ n. take n added) some
      ∙ take-length added

  pub added-many : 2 ≤ length mid - length names → AreWithin names runs
      → lists_at mid (runs ++ last ∷ []) ≡ with_list (lists_at names runs) added
  added-many le h =
      map-append (list_at mid) runs (last ∷ [])
      ∙ ap (λ l. l ++ list_at mid last ∷ []) (ap (λ l. lists_at l runs) is ∙ lists-stay names added runs h)
      ∙ ap (λ l. lists_at names runs ++ l ∷ []) last-is
      ∙ sym (many (lists_at names runs) added (omega (arith, le, long)))

  pub within-many : AreWithin names runs → AreWithin mid (runs ++ last ∷ [])
  within-many h =
      let up : length names ≤ length mid = omega (arith, long) in
      every-joined (λ (r : Run). (r.first ≤ r.end) × (r.end ≤ length mid)) runs (last ∷ [])
      (within-longer names mid runs up h) ((up, omega arith), tt)

-- a list by its number
pub list-of : (names : List ℕ) (runs : List Run) (k : ℕ) (r : Run) → slice_get runs k ≡ Some r
    → slice_get (lists_at names runs) k ≡ Some (list_at names r)
list-of names [] k r e = absurd (cc)
list-of names (q ∷ runs) zero r e = let same : q ≡ r = cc in ap (λ x. Some (list_at names x)) same
list-of names (q ∷ runs) (suc k) r e = list-of names runs k r e

pub within-at : (names : List ℕ) (runs : List Run) (k : ℕ) (r : Run) → slice_get runs k ≡ Some r
    → AreWithin names runs → (r.first ≤ r.end) × (r.end ≤ length names)
within-at names [] k r e h = absurd (cc)
within-at names (q ∷ runs) zero r e h =
    let same : q ≡ r = cc in subst (λ (x : Run). (x.first ≤ x.end) × (x.end ≤ length names)) same h.0
within-at names (q ∷ runs) (suc k) r e h = within-at names runs k r e h.1
