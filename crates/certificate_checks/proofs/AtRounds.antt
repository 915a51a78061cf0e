-- The classes of instances at a round, by place.
use Rattle.std.proofs.Common.{◌≡◌, ◌<◌, ◌≤◌, ℕ, suc, true, false, List, length, slice_get, Option, Some, None, refl, sym, ap, ◌∙◌, subst, arith, eqb-true, eq-eqb}
use Rattle.std.specs.Prelude.{◌==◌, slice_index}
use Rattle.std.specs.List.{IsDistinct}
use Rattle.std.proofs.lemmas.Bool.{false≢true}
use Rattle.std.proofs.lemmas.List.{length-map}
use Rattle.std.proofs.lemmas.Option.{slice_get_within, slice_get-get_or, get_or_from_slice_get}
use Rattle.value_equality.specs.Rows.{Row, names}
use Rattle.value_equality.specs.Standard.{IsWellFormed}
use Rattle.value_equality.specs.Tables.{Origin, Table, HasMembers, IsAncestor, itself, through, shares, class_at, same_class, ancestor_of}
use Rattle.value_equality.proofs.Ancestors.{ancestor_is}
use Rattle.certificate_checks.proofs.FirstMembers.{member_at, last_of, get_map}
use Rattle.certificate_checks.specs.steps.ClassesAt.{AreClassesAt}
use Rattle.certificate_checks.specs.steps.ComputedParents.{led_by_classes}

-- an ancestor doesn't stand behind the class
below : (classes : List Origin) (round c a : ℕ) → IsAncestor classes round c a → a ≤ c
below classes round c a (itself d o at begun) = omega arith
below classes round c a (through d parent since b at later less up) =
    let k = below classes round parent b up in omega (arith, k, less)

pub ancestors_below : (t : Table) (round : ℕ) (ancestors : List ℕ)
    → ((c : ℕ) → slice_get ancestors c ≡ ancestor_of t.classes round (Some c))
    → (c a : ℕ) → slice_get ancestors c ≡ Some a → a ≤ c
ancestors_below t round ancestors is c a at =
    below t.classes round c a (ancestor_is t.classes round (suc c) c a (sym (is c) ∙ at))

module _ (P : List Row) (t : Table) (round : ℕ) (members : HasMembers P t) (well : IsWellFormed t)
    (distinct : IsDistinct (◌==◌) (names P)) where
  length_names : (rows : List Row) → length (names rows) ≡ length rows
  length_names rows = length-map rows (λ r. r.name)

  pub led_are_classes : (ancestors : List ℕ) → length ancestors ≡ length t.classes
      → ((c : ℕ) → slice_get ancestors c ≡ ancestor_of t.classes round (Some c)) → (cs : List ℕ)
      → cs ≡ led_by_classes ancestors t.members → AreClassesAt P t round cs
  led_are_classes ancestors each is cs e = record {
    each = ap length e ∙ length-map t.members (λ (m : ℕ × ℕ). slice_index ancestors m.1)
        ∙ sym (length-map t.members (λ (m : ℕ × ℕ). m.0)) ∙ ap length members ∙ length_names P;
    class = λ i r at. (let m = member_at t.members P i r members at in
        let declared : m.0.1 < length t.classes = subst (λ (x : ℕ × ℕ). x.1 < length t.classes)
        (get_or_from_slice_get t.members i m.0 m.0 m.1) (well.declared i m.0 (slice_get_within t.members i m.0 m.1)) in
        let within : m.0.1 < length ancestors = omega (arith, declared, each) in
        ap (λ xs. slice_get xs i) e
        ∙ get_map (λ (n : ℕ × ℕ). slice_index ancestors n.1) t.members i m.0 m.1
        ∙ sym (slice_get-get_or ancestors m.0.1 0 within) ∙ is m.0.1
        ∙ ap (ancestor_of t.classes round) (sym (last_of t.members P i m.0 members distinct m.1))
        ∙ ap (λ x. class_at t x round) m.2);
  }

-- what shares a class has one
pub both : (a b : Option ℕ) → same_class a b ≡ true → (c : ℕ) × (a ≡ Some c) × (b ≡ Some c)
both None b e = absurd (false≢true e)
both (Some a) None e = absurd (false≢true e)
both (Some a) (Some b) e = (a, refl, ap Some (sym (eqb-true a b e)))

pub one_class : (o p : Option ℕ) (c d : ℕ) → o ≡ Some c → p ≡ Some d → c ≡ d → same_class o p ≡ true
one_class o p c d e f same = (λ i. same_class (e i) (f i)) ∙ eq-eqb c d same
