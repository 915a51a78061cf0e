-- The class at a round is the nearest ancestor that had begun by then.
use Rattle.std.proofs.Common.{◌≡◌, ◌<◌, ◌≤◌, ℕ, zero, suc, Bool, true, false, cond, List, Option, Some, None, refl, ◌∙◌, ap, subst, arith, length, get_or, sym}
use Rattle.std.specs.Prelude.{slice_get, nat_le, nat_lt, map}
use Rattle.std.proofs.lemmas.Bool.{ltb-true, leb-true, leb-false, lt-ltb, le-leb, lt-leb}
use Rattle.std.specs.Option.{option_map}
use Rattle.std.proofs.lemmas.Bool.Decides.{nat_tests}
use Rattle.std.proofs.lemmas.Option.{slice_get-map, slice_get-get_or}
use Rattle.value_equality.specs.Tables.{Origin, start, split, began, IsAncestor, itself, through, climbed, ancestor, ancestor_of, last_class}
use Rattle.value_equality.specs.Laws.{ClassesAreAncestors}

-- in any number of steps that is enough
pub ancestor_is : (classes : List Origin) (round n c a : ℕ) → ancestor classes round n c ≡ Some a
    → IsAncestor classes round c a
ancestor_is classes round zero c a h = absurd (cc)
ancestor_is classes round (suc n) c a h = go (slice_get classes c) refl (λ p. ancestor_is classes round n p a) h
  where
    by_parent : (b : Bool) (p since : ℕ) → slice_get classes c ≡ Some (split p since) → round < since
        → (ancestor classes round n p ≡ Some a → IsAncestor classes round p a) → nat_lt p c ≡ b
        → cond b (ancestor classes round n p) None ≡ Some a → IsAncestor classes round c a
    by_parent true p since e l up f k = through c p since a e l (ltb-true p c f) (up k)
    by_parent false p since e l up f k = absurd (cc)

    by_round : (b : Bool) (p since : ℕ) → slice_get classes c ≡ Some (split p since)
        → (ancestor classes round n p ≡ Some a → IsAncestor classes round p a) → nat_le since round ≡ b
        → cond b (Some c) (cond (nat_lt p c) (ancestor classes round n p) None) ≡ Some a → IsAncestor classes round c a
    by_round true p since e up f k = let same : c ≡ a = cc in subst (λ d. IsAncestor classes round c d) same
        (itself c (split p since) e (leb-true since round f))
    by_round false p since e up f k = by_parent (nat_lt p c) p since e (leb-false since round f) up refl k

    go : (o : Option Origin) → slice_get classes c ≡ o → ((p : ℕ) → ancestor classes round n p ≡ Some a
        → IsAncestor classes round p a) → climbed o round c (ancestor classes round n) ≡ Some a
        → IsAncestor classes round c a
    go None e up k = absurd (cc)
    go (Some start) e up k = let same : c ≡ a = cc in subst (λ d. IsAncestor classes round c d) same
        (itself c start e (omega arith))
    go (Some (split p since)) e up k = by_round (nat_le since round) p since e (up p) refl k

pub is_ancestor : (classes : List Origin) (round n c a : ℕ) → c < n → IsAncestor classes round c a
    → ancestor classes round n c ≡ Some a
is_ancestor classes round zero c a l h = absurd (omega arith)
is_ancestor classes round (suc n) c a l (itself d o e b) = ap (λ p. climbed p round c (ancestor classes round n)) e
    ∙ here o b
  where
    here : (p : Origin) → began p ≤ round → climbed (Some p) round c (ancestor classes round n) ≡ Some c
    here start k = refl
    here (split p since) k = ap (λ b. cond b (Some c) (cond (nat_lt p c) (ancestor classes round n p) None))
        (le-leb since round k)
is_ancestor classes round (suc n) c a l (through d p since b e later below up) =
    ap (λ o. climbed o round c (ancestor classes round n)) e
    ∙ ap (λ b. cond b (Some c) (cond (nat_lt p c) (ancestor classes round n p) None)) (lt-leb since round later)
    ∙ ap (λ b. cond b (ancestor classes round n p) None) (lt-ltb p c below)
    ∙ is_ancestor classes round n p a (omega arith) up

pub classes_are_ancestors : ClassesAreAncestors
classes_are_ancestors t x round a = (
  λ h. found (last_class t.members x) h,
  λ h. ap (ancestor_of t.classes round) h.1
      ∙ is_ancestor t.classes round (suc h.0) h.0 a (omega arith) h.2,
)
  where
    found : (o : Option ℕ) → ancestor_of t.classes round o ≡ Some a → (c : ℕ) × (o ≡ Some c)
        × IsAncestor t.classes round c a
    found None k = absurd (cc)
    found (Some c) k = (c, refl, ancestor_is t.classes round (suc c) c a k)

-- Steps up the chain of parents.

le_no : (a b : ℕ) → b < a → nat_le a b ≡ false
le_no a b h = grind (arith, nat_tests)

lt_yes : (a b : ℕ) → a < b → nat_lt a b ≡ true
lt_yes a b h = grind (arith, nat_tests)

lt_from : (a b : ℕ) → nat_lt a b ≡ true → a < b
lt_from a b h = grind (arith, nat_tests)

below : (p n c : ℕ) → p < c → c < suc n → p < n
below p n c h k = omega arith

climbed_same : (o : Option Origin) (round c : ℕ) (f g : ℕ → Option ℕ) → ((p : ℕ) → p < c → f p ≡ g p)
    → climbed o round c f ≡ climbed o round c g
climbed_same None round c f g h = refl
climbed_same (Some start) round c f g h = refl
climbed_same (Some (split parent since)) round c f g h = ap (cond (nat_le since round) (Some c))
    (go (nat_lt parent c) refl)
  where
    go : (b : Bool) → nat_lt parent c ≡ b → cond b (f parent) None ≡ cond b (g parent) None
    go true e = h parent (lt_from parent c e)
    go false e = refl

-- more steps than the class's number change nothing
steps_same : (classes : List Origin) (round n m c : ℕ) → c < n → c < m → ancestor classes round n c ≡ ancestor classes
    round m c
steps_same classes round zero m c h k = absurd (omega arith)
steps_same classes round (suc n) zero c h k = absurd (omega arith)
steps_same classes round (suc n) (suc m) c h k =
    climbed_same (slice_get classes c) round c (ancestor classes round n) (ancestor classes round m)
    (λ p l. steps_same classes round n m p (below p n c l h) (below p m c l k))

pub climbs : (classes : List Origin) (round c parent since : ℕ) → slice_get classes c ≡ Some (split parent since)
    → round < since → parent < c → ancestor classes round (suc c) c ≡ ancestor classes round (suc parent) parent
climbs classes round c parent since at later less =
    ap (λ o. climbed o round c (ancestor classes round c)) at
    ∙ ap (λ b. cond b (Some c) (cond (nat_lt parent c) (ancestor classes round c parent) None))
    (le_no since round later)
    ∙ ap (λ b. cond b (ancestor classes round c parent) None) (lt_yes parent c less)
    ∙ steps_same classes round c (suc parent) parent less (omega arith)

-- an element, as it is seen
pub seen_at : {A B : Type 0} (f : A → B) (xs : List A) (i : ℕ) (x : A) → i < length xs → x ≡ get_or xs i x
    → slice_get (map f xs) i ≡ Some (f x)
seen_at f xs i x h e = slice_get-map f xs i ∙ ap (option_map f) (slice_get-get_or xs i x h ∙ ap Some (sym e))
