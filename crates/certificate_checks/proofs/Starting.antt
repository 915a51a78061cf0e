-- What is alike has one kind, so it starts in one class exactly where kinds determine classes.
use Rattle.std.proofs.Common.{◌≡◌, ◌<◌, ℕ, Bool, true, List, length, Some, sym, ap, ◌∙◌, subst, arith, eqb-true}
use Rattle.std.specs.Prelude.{◌↔◌, slice_index}
use Rattle.std.proofs.lemmas.Option.{slice_get-get_or}
use Rattle.value_equality.specs.ValueEquality.{AreAlike}
use Rattle.value_equality.specs.Rows.{Row, names}
use Rattle.value_equality.specs.Tables.{Table, shares, class_at, same_class}
use Rattle.certificate_checks.specs.steps.ClassesAt.{AreClassesAt}
use Rattle.certificate_checks.proofs.AtRounds.{one_class}
use Rattle.row_signatures.proofs.Naming.{placed, stands}
use Rattle.certificate_checks.specs.steps.ComputedStarts.{Determine}

-- the classes of two instances at a round
one_at : (t : Table) (round x z c d : ℕ) → class_at t x round ≡ Some c → class_at t z round ≡ Some d
    → shares t round x z ≡ true → c ≡ d
one_at t round x z c d e f s = eqb-true c d (sym (λ i. same_class (e i) (f i)) ∙ s)

module _ (P : List Row) (pinned : ℕ → Bool) (t : Table) (kinds classes : List ℕ) (each : length kinds ≡ length P)
    (tell : (i j : ℕ) → i < length P → j < length P → (slice_index kinds i ≡ slice_index kinds j)
    ↔ AreAlike P pinned (slice_index (names P) i) (slice_index (names P) j)) (are : AreClassesAt P t 0 classes) where
  abbrev at : ℕ → ℕ
  at x = slice_index (names P) x

  class_there : (i : ℕ) → i < length P → class_at t (at i) 0 ≡ Some (slice_index classes i)
  class_there i l =
      let p = placed P i l in
      let all = are.each in
      ap (λ y. class_at t y 0) p.named ∙ sym (are.class i p.row p.row_is)
      ∙ slice_get-get_or classes i 0 (omega (arith, l, all))

  start_if : Determine kinds classes → (x z : ℕ) → AreAlike P pinned x z → shares t 0 x z ≡ true
  start_if d x z a =
      let s = stands P x (a.left, a.left_is) in
      let u = stands P z (a.right, a.right_is) in
      let l = s.within in
      let k = u.within in
      let alike : AreAlike P pinned (at s.place) (at u.place) =
      subst (λ y. AreAlike P pinned y (at u.place)) (sym s.index_is)
      (subst (λ w. AreAlike P pinned x w) (sym u.index_is) a) in
      one_class (class_at t x 0) (class_at t z 0) (slice_index classes s.place) (slice_index classes u.place)
      (ap (λ y. class_at t y 0) (sym s.index_is) ∙ class_there s.place l)
      (ap (λ y. class_at t y 0) (sym u.index_is) ∙ class_there u.place k)
      (d s.place u.place (omega (arith, l, each)) (omega (arith, k, each)) ((tell s.place u.place l k).1 alike))

  start_then : ((x z : ℕ) → AreAlike P pinned x z → shares t 0 x z ≡ true) → Determine kinds classes
  start_then s i j li lj same =
      let l : i < length P = omega (arith, li, each) in
      let k : j < length P = omega (arith, lj, each) in
      one_at t 0 (at i) (at j) (slice_index classes i) (slice_index classes j) (class_there i l) (class_there j k)
      (s (at i) (at j) ((tell i j l k).0 same))

  pub starts_where : Determine kinds classes ↔ ((x z : ℕ) → AreAlike P pinned x z → shares t 0 x z ≡ true)
  starts_where = (start_if, start_then)
