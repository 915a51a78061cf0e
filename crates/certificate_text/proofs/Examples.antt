-- Certificates by examples: two points, and a placement of each; and texts that are none.
use Rattle.std.proofs.Common.{◌≡◌, ℕ, zero, suc, ◌<◌, ◌^◌, List, [], ◌∷◌, ◌++◌, length, get_or, Some, slice_get, refl, ap, subst, arith, inl, inr}
use Rattle.std.specs.Prelude.{codes, decimal}
use Rattle.std.specs.Fmt.{digits}
use Rattle.value_equality.specs.Tables.{Origin, start, split, Table}
use Rattle.value_equality.specs.Standard.{IsParent}
use Rattle.certificate_text.specs.Texts.{origin_text, certificate_text, IsHeld, IsCertificate}
use Rattle.certificate_text.specs.Faults.{IsBadLine, IsCertificateFaultOf}
use Rattle.certificate_text.specs.steps.ComputedParts.{Fits, Adds, Reading, Takes}
use Rattle.certificate_text.specs.declared.fault.CertFault.TheVariants.{OldVersion, BadText}
use Rattle.certificate_text.specs.declared.reader.Part.TheVariants.{Opening, FirstRounds, First, Second, Ended}
use Rattle.certificate_text.proofs.NumberTexts.{no_zero_first}
use Rattle.certificate_text.proofs.LineWords.{tails_of}
use Rattle.certificate_text.proofs.Holding.{empty_held}
use Rattle.certificate_text.proofs.Unbroken.{checked}
use Rattle.certificate_text.proofs.Lining.{bad_here, bad_end}

-- the points are equal, and so are the placements
abbrev merged : Table
merged = record {
  rounds = 0;
  classes = start ∷ start ∷ [];
  members = (1, 0) ∷ (2, 0) ∷ (3, 1) ∷ (4, 1) ∷ [];
}

merged_text : certificate_text merged merged
    ≡ codes "STEPCERT 2\ntable 1\nrounds 0\nC0\nC1\n#1=C0\n#2=C0\n#3=C1\n#4=C1\ntable 2\nrounds 0\nC0\nC1\n#1=C0\n#2=C0\n#3=C1\n#4=C1\nend\n"
unfolding digits
merged_text = refl

merged_length : length (certificate_text merged merged) ≡ 109
unfolding digits
merged_length = refl

-- the points differ: they part at round 1, the placements at round 2
abbrev parted : Table
parted = record {
  rounds = 2;
  classes = start ∷ start ∷ split 0 1 ∷ split 1 2 ∷ [];
  members = (1, 0) ∷ (2, 2) ∷ (3, 1) ∷ (4, 3) ∷ [];
}

abbrev parted_text : List ℕ
parted_text =
    codes "STEPCERT 2\ntable 1\nrounds 2\nC0\nC1\nC2=C0@1\nC3=C1@2\n#1=C0\n#2=C2\n#3=C1\n#4=C3\ntable 2\nrounds 2\nC0\nC1\nC2=C0@1\nC3=C1@2\n#1=C0\n#2=C2\n#3=C1\n#4=C3\nend\n"

parted_held : IsHeld parted
parted_held = record {
  well_formed = record { parents = parent_of; declared = declared };
  few_rounds = omega arith;
  few_classes = omega arith;
  names = named;
}
  where
    declared : (k : ℕ) (d : ℕ × ℕ) → k < 4 → (get_or parted.members k d).1 < 4
    declared zero d l = omega arith
    declared (suc zero) d l = omega arith
    declared (suc (suc zero)) d l = omega arith
    declared (suc (suc (suc zero))) d l = omega arith
    declared (suc (suc (suc (suc k)))) d l = absurd (omega arith)

    named : (k : ℕ) (d : ℕ × ℕ) → k < 4 → (get_or parted.members k d).0 < 2 ^ 64
    named zero d l = omega arith
    named (suc zero) d l = omega arith
    named (suc (suc zero)) d l = omega arith
    named (suc (suc (suc zero))) d l = omega arith
    named (suc (suc (suc (suc k)))) d l = absurd (omega arith)

    at : (c a b p r : ℕ) → Some (split a b) ≡ Some (split p r) → IsParent parted c a b → IsParent parted c p r
    at c a b p r e h =
        let parents : a ≡ p = cc in
        let rounds : b ≡ r = cc in
        subst (λ n. IsParent parted c n r) parents (subst (λ n. IsParent parted c a n) rounds h)

    parent_of : (c parent round : ℕ) → slice_get parted.classes c ≡ Some (split parent round) → IsParent parted c parent round
    parent_of zero p r e = absurd (cc)
    parent_of (suc zero) p r e = absurd (cc)
    parent_of (suc (suc zero)) p r e = at 2 0 1 p r e (record {
      before = omega arith;
      origin = start;
      origin_is = refl;
      earlier = omega arith;
      in_time = omega arith;
    })
    parent_of (suc (suc (suc zero))) p r e = at 3 1 2 p r e (record {
      before = omega arith;
      origin = start;
      origin_is = refl;
      earlier = omega arith;
      in_time = omega arith;
    })
    parent_of (suc (suc (suc (suc c)))) p r e = absurd (cc)

parted_is_read : IsCertificate parted_text parted parted
unfolding digits
parted_is_read = record { first_held = parted_held; second_held = parted_held; text_is = refl }

-- two members in the other order, or one twice, are no fault of the text: here #2 stands twice
abbrev twice : Table
twice = record { rounds = 0; classes = start ∷ []; members = (2, 0) ∷ (1, 0) ∷ (2, 0) ∷ [] }

twice_held : IsHeld twice
twice_held = record {
  well_formed = record { parents = parent_of; declared = declared };
  few_rounds = omega arith;
  few_classes = omega arith;
  names = named;
}
  where
    declared : (k : ℕ) (d : ℕ × ℕ) → k < 3 → (get_or twice.members k d).1 < 1
    declared zero d l = omega arith
    declared (suc zero) d l = omega arith
    declared (suc (suc zero)) d l = omega arith
    declared (suc (suc (suc k))) d l = absurd (omega arith)

    named : (k : ℕ) (d : ℕ × ℕ) → k < 3 → (get_or twice.members k d).0 < 2 ^ 64
    named zero d l = omega arith
    named (suc zero) d l = omega arith
    named (suc (suc zero)) d l = omega arith
    named (suc (suc (suc k))) d l = absurd (omega arith)

    parent_of : (c parent round : ℕ) → slice_get twice.classes c ≡ Some (split parent round) → IsParent twice c parent round
    parent_of zero p r e = absurd (cc)
    parent_of (suc c) p r e = absurd (cc)

twice_is_read : IsCertificate (codes
    "STEPCERT 2\ntable 1\nrounds 0\nC0\n#2=C0\n#1=C0\n#2=C0\ntable 2\nrounds 0\nC0\n#2=C0\n#1=C0\n#2=C0\nend\n") twice twice
unfolding digits
twice_is_read = record { first_held = twice_held; second_held = twice_held; text_is = refl }

-- the old version
old : IsCertificateFaultOf (codes "STEPCERT 1\nrounds 0\nend\n") OldVersion
old = (codes "rounds 0\nend\n", refl)

abbrev no_table : Table
no_table = record { rounds = 0; classes = []; members = [] }

-- the first line of the old version has to be ended
old_unended : IsCertificateFaultOf (codes "STEPCERT 1") (BadText 1)
old_unended = (
  λ h. absurd (omega (arith, ap length h.1)),
  bad_end (codes "STEPCERT 1") (codes "STEPCERT 1") 1 (record { part = Opening; first = no_table; second = no_table })
      (record { held = ((refl, refl), (refl, refl)); text_is = refl; count = refl }) (checked (codes "STEPCERT 1") refl)
      (λ e p. absurd (cc)),
)

-- no line at all
nothing : IsCertificateFaultOf [] (BadText 1)
nothing = (
  λ h. absurd (omega (arith, ap length h.1)),
  bad_end [] [] 1 (record { part = Opening; first = no_table; second = no_table })
      (record { held = ((refl, refl), (refl, refl)); text_is = refl; count = refl }) tt (λ e p. absurd (cc)),
)

-- a leading zero, whatever follows
leading_zero : (rest : List ℕ) → IsBadLine (codes "STEPCERT 2\ntable 1\nrounds 02\n" ++ rest) 3
leading_zero rest = bad_here (codes "STEPCERT 2\ntable 1\nrounds 02\n" ++ rest) (codes "rounds 02\n" ++ rest) 3 (record {
  part = FirstRounds;
  first = no_table;
  second = no_table;
}) (record { held = ((refl, refl), (refl, refl)); text_is = refl; count = refl }) (codes "rounds 02") rest refl
    (checked (codes "rounds 02") refl) (λ u q. no_zero_first (codes "02") q.0 (omega (arith, q.1))
    (tails_of (codes "rounds ") (codes "02") (decimal q.0) q.2) refl (omega arith))

-- a class with a parent of its own number
own_parent : (rest : List ℕ) → IsBadLine (codes "STEPCERT 2\ntable 1\nrounds 0\nC0=C0@1\n" ++ rest) 4
unfolding digits
own_parent rest = bad_here (codes "STEPCERT 2\ntable 1\nrounds 0\nC0=C0@1\n" ++ rest) (codes "C0=C0@1\n" ++ rest) 4 (record {
  part = First;
  first = no_table;
  second = no_table;
}) (record {
  held = (empty_held no_table 0 refl refl (omega arith), (refl, refl));
  text_is = refl;
  count = refl;
}) (codes "C0=C0@1") rest refl (checked (codes "C0=C0@1") refl) never
  where
    class : (o : Origin) → codes "C0=C0@1" ≡ codes "C0" ++ origin_text o → Fits no_table o → ⊥
    class start e f = absurd (omega (arith, ap length e))
    class (split p r) e f = absurd (omega (arith, f.before))

    added : (t : Table) → Adds no_table (codes "C0=C0@1") t → ⊥
    added t (inl a) = class a.origin a.line_is a.fits
    added t (inr a) = absurd (omega (arith, ap (λ l. get_or l 0 0) a.line_is))

    never : (u : Reading) → Takes (record { part = First; first = no_table; second = no_table }) (codes "C0=C0@1") u → ⊥
    never u (inl q) = absurd (omega (arith, ap (λ l. get_or l 0 0) q.0))
    never u (inr q) = added q.0 q.1

-- a class behind a member
abbrev one : Table
one = record { rounds = 0; classes = start ∷ []; members = (1, 0) ∷ [] }

one_held : IsHeld one
one_held = record {
  well_formed = record { parents = parent_of; declared = declared };
  few_rounds = omega arith;
  few_classes = omega arith;
  names = named;
}
  where
    declared : (k : ℕ) (d : ℕ × ℕ) → k < 1 → (get_or one.members k d).1 < 1
    declared zero d l = omega arith
    declared (suc k) d l = absurd (omega arith)

    named : (k : ℕ) (d : ℕ × ℕ) → k < 1 → (get_or one.members k d).0 < 2 ^ 64
    named zero d l = omega arith
    named (suc k) d l = absurd (omega arith)

    parent_of : (c parent round : ℕ) → slice_get one.classes c ≡ Some (split parent round) → IsParent one c parent round
    parent_of zero p r e = absurd (cc)
    parent_of (suc c) p r e = absurd (cc)

class_behind_member : (rest : List ℕ) → IsBadLine (codes "STEPCERT 2\ntable 1\nrounds 0\nC0\n#1=C0\nC1\n" ++ rest) 6
unfolding digits
class_behind_member rest = bad_here (codes "STEPCERT 2\ntable 1\nrounds 0\nC0\n#1=C0\nC1\n" ++ rest) (codes "C1\n" ++ rest) 6
    (record { part = First; first = one; second = no_table })
    (record { held = (one_held, (refl, refl)); text_is = refl; count = refl }) (codes "C1") rest refl
    (checked (codes "C1") refl) never
  where
    added : (t : Table) → Adds one (codes "C1") t → ⊥
    added t (inl a) = absurd (omega (arith, ap length a.no_member))
    added t (inr a) = absurd (omega (arith, ap (λ l. get_or l 0 0) a.line_is))

    never : (u : Reading) → Takes (record { part = First; first = one; second = no_table }) (codes "C1") u → ⊥
    never u (inl q) = absurd (omega (arith, ap length q.0))
    never u (inr q) = added q.0 q.1

-- a second `end`
ended_twice : IsBadLine (codes "STEPCERT 2\ntable 1\nrounds 0\ntable 2\nrounds 0\nend\nend\n") 7
unfolding digits
ended_twice = bad_here (codes "STEPCERT 2\ntable 1\nrounds 0\ntable 2\nrounds 0\nend\nend\n") (codes "end\n") 7 (record {
  part = Ended;
  first = no_table;
  second = no_table;
}) (record {
  held = (empty_held no_table 0 refl refl (omega arith), empty_held no_table 0 refl refl (omega arith));
  text_is = refl;
  count = refl;
}) (codes "end") [] refl (checked (codes "end") refl) (λ u q. q)

-- no `end`
not_ended : IsBadLine (codes "STEPCERT 2\ntable 1\nrounds 0\ntable 2\nrounds 0\n") 6
unfolding digits
not_ended = bad_end (codes "STEPCERT 2\ntable 1\nrounds 0\ntable 2\nrounds 0\n") [] 6 (record {
  part = Second;
  first = no_table;
  second = no_table;
}) (record {
  held = (empty_held no_table 0 refl refl (omega arith), empty_held no_table 0 refl refl (omega arith));
  text_is = refl;
  count = refl;
}) tt (λ e p. absurd (cc))
