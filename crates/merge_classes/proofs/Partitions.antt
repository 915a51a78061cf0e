-- The first places of classes, and the rounds at which they begin, are those of partitions by rounds.
use Rattle.std.proofs.Common.{◌≡◌, ◌≤◌, ◌<◌, ℕ, zero, suc, ◌+◌, Bool, true, List, length, subst, arith, add-one}
use Rattle.std.specs.Prelude.{◌↔◌, slice_index}
use Rattle.partitions.specs.Layouts.{Layout, size, count, class_in, IsLaid}
use Rattle.partitions.specs.Refinements.{Above}
use Rattle.partition_refinement.specs.Rounds.{Shared}
use Rattle.partition_refinement.specs.Firsts.{IsFirstOf, IsFirst}
use Rattle.partition_refinement.specs.Births.{AreCounts, IsBirth}
use Rattle.partition_refinement.proofs.Counting.{above_less, above_there}
use Rattle.partition_refinement.proofs.Turns.{above_one}
use Rattle.partition_refinement.proofs.Undoing.{parted_from}
use Rattle.value_equality.proofs.Births as births
use Rattle.value_equality.proofs.Births.{ArePartings, first, first_le, first_below, first_same, first_first, one_class, birth_in_time}

module _ (p : Layout) (counts : List ℕ) (laid : IsLaid p) (counted : AreCounts p counts) (n last : ℕ)
    (R : ℕ → ℕ → ℕ → Bool) (by : ArePartings n last R) (size_is : size p ≡ n) (rounds : last + 1 ≡ length counts)
    (same : (r i j : ℕ) → r < length counts → i < n → j < n → (R r i j ≡ true) ↔ Shared p (slice_index counts r) i j)
  where
    abbrev at : ℕ → ℕ
    at r = slice_index counts r

    -- the first place of a class
    pub first_is : (r i g : ℕ) → r < length counts → i < n → IsFirstOf p (at r) i g → first n last R by r i ≡ g
    first_is r i g l m lead =
        let c : ℕ = lead.0 in
        let in_c : Above p.parent (at r) (class_in p i) c = lead.1 in
        let g_below = lead.2.within in
        let f : ℕ = first n last R by r i in
        let f_below : f < n = first_below n last R by r i m in
        let together : R r f i ≡ true = one_class n last R by r f i f_below m (first_first n last R by r i m) in
        let shared = (same r f i l f_below m).0 together in
        let one : shared.0 ≡ c = above_one p.parent (at r) (class_in p i) shared.0 c shared.2 in_c in
        let f_in : Above p.parent (at r) (class_in p f) c = subst (Above p.parent (at r) (class_in p f)) one shared.1 in
        let le : g ≤ f = lead.2.least f (omega arith) f_in in
        let back : R r g i ≡ true = (same r g i l (omega arith) m).1 (c, lead.2.there, in_c) in
        let heads : first n last R by r g ≡ f = first_same n last R by r g i (omega arith) m back in
        let more = first_le n last R by r g (omega arith) in
        omega arith

    pub leads_first : (r h : ℕ) → r < length counts → IsFirst p (at r) h → first n last R by r h ≡ h
    leads_first r h l first_places =
        let within = first_places.2.within in
        first_is r h h l (omega arith) (first_places.0, first_places.2.there, first_places.2)

    pub first_leads : (r h : ℕ) → r < length counts → h < n → first n last R by r h ≡ h → IsFirst p (at r) h
    first_leads r h l m e =
        let known : class_in p h < count p = (laid.within h (omega arith)).known in
        let there = above_there p (at r) (at r) (class_in p h) (parted_from p counts r laid counted l) (omega arith) known in (
          there.0,
          above_less p.parent (at r) (class_in p h) there.0 there.1,
          record {
            within = omega arith;
            there = there.1;
            least = λ x k in_x.
                let together : R r x h ≡ true = (same r x h l (omega arith) m).1 (there.0, in_x, there.1) in
                let heads : first n last R by r x ≡ first n last R by r h =
                first_same n last R by r x h (omega arith) m together in
                let le = first_le n last R by r x (omega arith) in
                omega arith;
          },
        )

    -- births
    abbrev Birth : ℕ → ℕ → Type 0
    Birth = births.IsBirth n last R by

    fresh_before : (q r h : ℕ) → r < length counts → births.WasNone n last R by r h → q + 1 ≡ r → IsFirst p (at q) h → ⊥
    fresh_before q zero h l none e first_places = omega arith
    fresh_before q (suc r) h l none e first_places =
        let is : q ≡ r = omega arith in
        none (leads_first r h (omega arith) (subst (λ k. IsFirst p (at k) h) is first_places))

    pub birth_to : (q h : ℕ) → Birth q h → IsBirth p counts q h
    birth_to q h b =
        let in_time = birth_in_time n last R by q h b in
        record {
          counted = omega arith;
          first = first_leads q h (omega arith) b.within b.first;
          fresh = λ r e first_places. fresh_before r q h (omega arith) b.fresh e first_places;
        }

    was_none : (r h : ℕ) → r < length counts → h < n → ((q : ℕ) → q + 1 ≡ r → IsFirst p (at q) h → ⊥)
        → births.WasNone n last R by r h
    was_none zero h l m fresh = tt
    was_none (suc r) h l m fresh = λ e. fresh r (add-one r) (first_leads r h (omega arith) m e)

    pub birth_from : (q h : ℕ) → IsBirth p counts q h → Birth q h
    birth_from q h b =
        let within = b.first.2.within in
        record {
          within = omega arith;
          first = leads_first q h b.counted b.first;
          fresh = was_none q h b.counted (omega arith) b.fresh;
        }
