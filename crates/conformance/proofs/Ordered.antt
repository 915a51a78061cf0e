-- Two lists in strict order that have the same items are one.
use Rattle.std.specs.Prelude.{◌≡◌, ℕ, Bool, true, false, ◌||◌, List, [], ◌∷◌}
use Rattle.std.proofs.Common.{Ordering, Less, Equal, Greater, refl, sym, ap, subst, ◌∙◌}
use Rattle.std.specs.List.{AllByRecursion, list_any}
use Rattle.std.specs.List.Sorted.{IsStrictlySortedBy}
use Rattle.std.specs.Cmp.Lexicographic.{slice_cmp, texts_ties}
use Rattle.std.specs.Ordering.{nat_cmp, ordering_reverse, is_eq}
use Rattle.std.specs.Str.{bytes_eq}
use Rattle.std.proofs.lemmas.Cmp.{nat_list_cmp_total}
use Rattle.std.proofs.lemmas.Slice.Eq.{bytes_eq-Decides}

abbrev Text : Type 0
Text = List ℕ

abbrev cmp : Text → Text → Ordering
cmp = slice_cmp nat_cmp

itself : (t : Text) → bytes_eq t t ≡ true
itself t = (bytes_eq-Decides t t).1 refl

less-turned : (r : Ordering) → r ≡ ordering_reverse r → r ≡ Less → ⊥
less-turned Less e k = absurd (cc)
less-turned Equal e k = absurd (cc)
less-turned Greater e k = absurd (cc)

apart : (t : Text) → cmp t t ≡ Less → ⊥
apart t k = less-turned (cmp t t) (nat_list_cmp_total.antisymm t t) k

turned : (t u : Text) → cmp t u ≡ Greater → cmp u t ≡ Less
turned t u k = nat_list_cmp_total.antisymm u t ∙ ap ordering_reverse k

-- what comes before all of a list isn't in it
not-above : (t : Text) (us : List Text) → AllByRecursion (λ u. cmp t u ≡ Less) us → list_any (bytes_eq t) us ≡ false
not-above t [] h = refl
not-above t (u ∷ us) h = by (bytes_eq t u) refl (not-above t us h.1)
  where
    by : (b : Bool) → bytes_eq t u ≡ b → list_any (bytes_eq t) us ≡ false → (b || list_any (bytes_eq t) us) ≡ false
    by true f k = absurd (apart t (ap (cmp t) ((bytes_eq-Decides t u).0 f) ∙ h.0))
    by false f k = k

-- what comes before the first of a list in order comes before all of it
below-all : (t u : Text) (us : List Text) → cmp t u ≡ Less → AllByRecursion (λ v. cmp u v ≡ Less) us
    → AllByRecursion (λ v. cmp t v ≡ Less) us
below-all t u [] k h = tt
below-all t u (v ∷ us) k h = (nat_list_cmp_total.trans t u v k h.0, below-all t u us k h.1)

-- the first of each is in the other, so neither comes before the other
first-less : (t u : Text) (ts us : List Text) → cmp t u ≡ Less → AllByRecursion (λ v. cmp u v ≡ Less) us
    → list_any (bytes_eq t) (t ∷ ts) ≡ list_any (bytes_eq t) (u ∷ us) → ⊥
first-less t u ts us k h e =
    let here : list_any (bytes_eq t) (t ∷ ts) ≡ true = ap (λ b. b || list_any (bytes_eq t) ts) (itself t) in
    let there = not-above t (u ∷ us) (k, below-all t u us k h) in
    cc (here, there, e)

-- the rest of each has the same items
rest-same : (t w : Text) (ts us : List Text) → AllByRecursion (λ v. cmp t v ≡ Less) ts
    → AllByRecursion (λ v. cmp t v ≡ Less) us → list_any (bytes_eq w) (t ∷ ts) ≡ list_any (bytes_eq w) (t ∷ us)
    → list_any (bytes_eq w) ts ≡ list_any (bytes_eq w) us
rest-same t w ts us h k e = by (bytes_eq w t) refl e
  where
    by : (b : Bool) → bytes_eq w t ≡ b → (b || list_any (bytes_eq w) ts) ≡ (b || list_any (bytes_eq w) us)
        → list_any (bytes_eq w) ts ≡ list_any (bytes_eq w) us
    by true f g =
        let is = (bytes_eq-Decides w t).0 f in
        ap (λ x. list_any (bytes_eq x) ts) is ∙ not-above t ts h ∙ sym (not-above t us k)
        ∙ ap (λ x. list_any (bytes_eq x) us) (sym is)
    by false f g = g

equal-is : (t u : Text) → cmp t u ≡ Equal → t ≡ u
equal-is t u k =
    let told : bytes_eq t u ≡ true = texts_ties t u ∙ ap is_eq k in
    (bytes_eq-Decides t u).0 told

pub same-order : (ts us : List Text) → IsStrictlySortedBy cmp ts → IsStrictlySortedBy cmp us
    → ((w : Text) → list_any (bytes_eq w) ts ≡ list_any (bytes_eq w) us) → ts ≡ us
unfolding IsStrictlySortedBy
same-order [] [] h k e = refl
same-order [] (u ∷ us) h k e = let here = itself u in let there = e u in absurd (cc (here, there))
same-order (t ∷ ts) [] h k e = let here = itself t in let there = e t in absurd (cc (here, there))
same-order (t ∷ ts) (u ∷ us) h k e = by (cmp t u) refl (λ same. same-order ts us h.1 k.1 same)
  where
    by : (o : Ordering) → cmp t u ≡ o
        → (((w : Text) → list_any (bytes_eq w) ts ≡ list_any (bytes_eq w) us) → ts ≡ us) → (t ∷ ts) ≡ (u ∷ us)
    by Less f more = absurd (first-less t u ts us f k.0 (e t))
    by Greater f more = absurd (first-less u t us ts (turned t u f) h.0 (sym (e u)))
    by Equal f more =
        let is : t ≡ u = equal-is t u f in
        let above = subst (λ x. AllByRecursion (λ v. cmp x v ≡ Less) us) (sym is) k.0 in
        let rest = more (λ w. rest-same t w ts us h.0 above
        (e w ∙ ap (λ x. list_any (bytes_eq w) (x ∷ us)) (sym is))) in
        λ i. is i ∷ rest i
