-- The laws of value equality, images and tables. Pins are any set of names.
use Rattle.std.specs.Prelude.{◌≡◌, ◌≤◌, ◌↔◌, ℕ, Bool, true, List, Some, length}
use Rattle.value_equality.specs.Rows.{Row, names, IsName, IsPopulation, BagsArePinned, SamePopulation}
use Rattle.value_equality.specs.ValueEquality.{Keeps, ValueEqual, IsValueEquality, IsCongruence}
use Rattle.value_equality.specs.Images.{IsImage, kernel, head_of, quotient}
use Rattle.value_equality.specs.Tables.{Table, last_class, IsAncestor, class_at, shares, IsValid}
use Rattle.value_equality.specs.Standard.{IsStandard}

-- Value equality is a congruence.
abbrev pub ValueEqualityIsCongruence : Type 0
ValueEqualityIsCongruence =
    (P : List Row) (pinned : ℕ → Bool) (E : ℕ → ℕ → Bool) → IsPopulation P → IsValueEquality P pinned E
    → IsCongruence P pinned E

-- Value equality is the greatest relation that keeps.
abbrev pub ValueEqualityIsGreatest : Type 0
ValueEqualityIsGreatest =
    (P : List Row) (pinned : ℕ → Bool) (E R : ℕ → ℕ → Bool) → IsValueEquality P pinned E → Keeps P pinned R
    → (x z : ℕ) → R x z ≡ true → E x z ≡ true

-- If each reference in a bag of more than one value names a pinned instance, the kernel of an image
-- is a congruence.
abbrev pub KernelsAreCongruences : Type 0
KernelsAreCongruences =
    (P Q : List Row) (pinned : ℕ → Bool) (h : ℕ → ℕ) → IsPopulation P → BagsArePinned P pinned → IsImage P Q h pinned
    → IsCongruence P pinned (kernel P h)

-- If each reference in a bag of more than one value names a pinned instance, no image has fewer
-- instances than the quotient by value equality.
abbrev pub NoImageHasFewer : Type 0
NoImageHasFewer =
    (P Q : List Row) (pinned : ℕ → Bool) (E : ℕ → ℕ → Bool) (h : ℕ → ℕ) → IsPopulation P → BagsArePinned P pinned
    → IsValueEquality P pinned E → IsImage P Q h pinned → length (quotient P E) ≤ length Q

-- Two instances are value-equal exactly if their images are, if each reference in a bag of more
-- than one value names a pinned instance and the image of a name is pinned exactly if the name is.
abbrev pub ImagesCarryValueEquality : Type 0
ImagesCarryValueEquality =
    (P Q : List Row) (pinned kept : ℕ → Bool) (h : ℕ → ℕ) → IsPopulation P → BagsArePinned P pinned
    → IsImage P Q h pinned → ((y : ℕ) → IsName P y → kept (h y) ≡ pinned y)
    → (x z : ℕ) → ValueEqual P pinned x z ↔ (IsName P x × IsName P z × ValueEqual Q kept (h x) (h z))

-- The last partition of a valid table is value equality.
abbrev pub TablesDecide : Type 0
TablesDecide =
    (P : List Row) (pinned : ℕ → Bool) (t : Table) → IsPopulation P → IsValid P pinned t
    → IsValueEquality P pinned (shares t t.rounds)

-- The quotient by a congruence is an image, and a population.
abbrev pub QuotientsAreImages : Type 0
QuotientsAreImages =
    (P : List Row) (pinned : ℕ → Bool) (E : ℕ → ℕ → Bool) → IsPopulation P → IsCongruence P pinned E
    → IsImage P (quotient P E) (head_of (names P) E) pinned × IsPopulation (quotient P E)

-- Value equality on the quotient by value equality is the identity. The pins of the quotient may be
-- another set, if it has the same names of the quotient.
abbrev pub QuotientsAreReduced : Type 0
QuotientsAreReduced =
    (P : List Row) (pinned kept : ℕ → Bool) (E : ℕ → ℕ → Bool) → IsPopulation P → BagsArePinned P pinned
    → IsValueEquality P pinned E → ((y : ℕ) → IsName (quotient P E) y → kept y ≡ pinned y)
    → (x z : ℕ) → ValueEqual (quotient P E) kept x z ↔ (IsName (quotient P E) x × (x ≡ z))

-- A second quotient by value equality changes nothing.
abbrev pub QuotientsStay : Type 0
QuotientsStay =
    (P : List Row) (pinned kept : ℕ → Bool) (E F : ℕ → ℕ → Bool) → IsPopulation P → BagsArePinned P pinned
    → IsValueEquality P pinned E → ((y : ℕ) → IsName (quotient P E) y → kept y ≡ pinned y)
    → IsValueEquality (quotient P E) kept F → quotient (quotient P E) F ≡ quotient P E

-- The table that partition refinement makes is valid.
abbrev pub StandardIsValid : Type 0
StandardIsValid = (P : List Row) (pinned : ℕ → Bool) (t : Table) → IsStandard P pinned t → IsValid P pinned t

-- There is at most one table that partition refinement makes.
abbrev pub StandardIsUnique : Type 0
StandardIsUnique = (P : List Row) (pinned : ℕ → Bool) (s t : Table) → IsPopulation P → IsStandard P pinned s
    → IsStandard P pinned t → s ≡ t

-- The table that partition refinement makes has at most as many rounds as there are instances.
abbrev pub RoundsAreFew : Type 0
RoundsAreFew = (P : List Row) (pinned : ℕ → Bool) (t : Table) → IsPopulation P → IsStandard P pinned t
    → t.rounds ≤ length P

-- There is a table that partition refinement makes.
abbrev pub StandardExists : Type 0
StandardExists = (P : List Row) (pinned : ℕ → Bool) → IsPopulation P → (t : Table) × IsStandard P pinned t

-- There is a test of value equality.
abbrev pub ValueEqualityExists : Type 0
ValueEqualityExists = (P : List Row) (pinned : ℕ → Bool) → IsPopulation P → (E : ℕ → ℕ → Bool)
    × IsValueEquality P pinned E

-- If a table is valid and an output is the quotient by its last partition, the output is an image.
-- If each reference in a bag of more than one value names a pinned instance, no image has fewer
-- instances than the output.
abbrev pub CertificatesProve : Type 0
CertificatesProve =
    (P out : List Row) (pinned : ℕ → Bool) (t : Table) → IsPopulation P → IsValid P pinned t
    → IsPopulation out → SamePopulation out (quotient P (shares t t.rounds))
    → IsImage P out (head_of (names P) (shares t t.rounds)) pinned
    × (BagsArePinned P pinned → (Q : List Row) (h : ℕ → ℕ) → IsImage P Q h pinned → length out ≤ length Q)

-- The class of a name at a round is the nearest ancestor of its last class that had begun by then.
abbrev pub ClassesAreAncestors : Type 0
ClassesAreAncestors =
    (t : Table) (x round a : ℕ) → (class_at t x round ≡ Some a) ↔ ((c : ℕ) × (last_class t.members x ≡ Some c)
    × IsAncestor t.classes round c a)
