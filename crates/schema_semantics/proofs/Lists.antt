-- What stands in lists, and chains of steps.
use Rattle.std.specs.Prelude.{◌≡◌, Bool, true, false, cond, List, [], ◌∷◌, ◌++◌, map, flat_map, ◌⊎◌}
use Rattle.std.specs.List.{filter}
use Rattle.std.proofs.Common.{refl, inl, inr, ap, sym, subst, ◌∙◌}
use Rattle.std.proofs.lemmas.Bool.{both_ways}
use Rattle.graphs.specs.Graphs.{Chain, Leads}
use Rattle.express_syntax.specs.Profile.{Every}
use Rattle.schema_semantics.specs.Names.{Among, IsFirst}
use Rattle.schema_semantics.specs.Faults.{StandsTwice, IsFirstAgain}

-- in joined lists
pub among-left : {A : Type 0} (x : A) (xs ys : List A) → Among x xs → Among x (xs ++ ys)
among-left x [] ys h = elim h [ ]
among-left x (y ∷ xs) ys (inl e) = inl e
among-left x (y ∷ xs) ys (inr h) = inr (among-left x xs ys h)

pub among-right : {A : Type 0} (x : A) (xs ys : List A) → Among x ys → Among x (xs ++ ys)
among-right x [] ys h = h
among-right x (y ∷ xs) ys h = inr (among-right x xs ys h)

pub among-either : {A : Type 0} (x : A) (xs ys : List A) → Among x (xs ++ ys) → Among x xs ⊎ Among x ys
among-either x [] ys h = inr h
among-either x (y ∷ xs) ys (inl e) = inl (inl e)
among-either {A} x (y ∷ xs) ys (inr h) = put (among-either x xs ys h)
  where
    put : Among x xs ⊎ Among x ys → Among x (y ∷ xs) ⊎ Among x ys
    put (inl m) = inl (inr m)
    put (inr m) = inr m

-- in mapped lists
pub among-map : {A B : Type 0} (f : A → B) (x : A) (xs : List A) → Among x xs → Among (f x) (map f xs)
among-map f x [] h = elim h [ ]
among-map f x (y ∷ xs) (inl e) = inl (ap f e)
among-map f x (y ∷ xs) (inr h) = inr (among-map f x xs h)

-- what is in a mapped list is that of an item
pub from-map : {A B : Type 0} (f : A → B) (xs : List A) (y : B) → Among y (map f xs) → (x : A) × Among x xs × (f x ≡ y)
from-map f [] y h = elim h [ ]
from-map f (x ∷ xs) y (inl e) = (x, inl refl, e)
from-map f (x ∷ xs) y (inr m) = let rest = from-map f xs y m in (rest.0, inr rest.1, rest.2)

-- in lists that are filtered: an item that passes, and no other
pub among-filter : {A : Type 0} (test : A → Bool) (x : A) (xs : List A) → Among x xs → test x ≡ true
    → Among x (filter test xs)
among-filter test x [] m h = m
among-filter test x (y ∷ ys) m h = by (test y) refl m (λ k. among-filter test x ys k h)
  where
    by : (b : Bool) → test y ≡ b → Among x (y ∷ ys) → (Among x ys → Among x (filter test ys))
        → Among x (cond b (y ∷ filter test ys) (filter test ys))
    by true e (inl s) more = inl s
    by true e (inr k) more = inr (more k)
    by false e (inl s) more = absurd (both_ways (test y) e (ap test s ∙ h))
    by false e (inr k) more = more k

pub from-filter : {A : Type 0} (test : A → Bool) (x : A) (xs : List A) → Among x (filter test xs) → test x ≡ true
from-filter test x [] m = elim m [ ]
from-filter test x (y ∷ ys) m = by (test y) refl m (from-filter test x ys)
  where
    by : (b : Bool) → test y ≡ b → Among x (cond b (y ∷ filter test ys) (filter test ys))
        → (Among x (filter test ys) → test x ≡ true) → test x ≡ true
    by true e (inl s) more = ap test (sym s) ∙ e
    by true e (inr k) more = more k
    by false e k more = more k

pub among-flat : {A B : Type 0} (f : A → List B) (x : A) (b : B) (xs : List A) → Among x xs → Among b (f x)
    → Among b (flat_map f xs)
among-flat f x b [] h m = elim h [ ]
among-flat f x b (y ∷ xs) (inl e) m = among-left b (f y) (flat_map f xs) (subst (λ z. Among b (f z)) (sym e) m)
among-flat f x b (y ∷ xs) (inr h) m = among-right b (f y) (flat_map f xs) (among-flat f x b xs h m)

-- what is in a flattened list is in one of them
one-more : {A B : Type 0} (f : A → List B) (b : B) (y : A) (xs : List A) → Among b (f y)
    ⊎ ((x : A) × Among x xs × Among b (f x)) → (x : A) × Among x (y ∷ xs) × Among b (f x)
one-more f b y xs (inl m) = (y, inl refl, m)
one-more f b y xs (inr (x, m, n)) = (x, inr m, n)

right-part : {P Q R : Type 0} → P ⊎ Q → (Q → R) → P ⊎ R
right-part (inl p) f = inl p
right-part (inr q) f = inr (f q)

pub from-flat : {A B : Type 0} (f : A → List B) (b : B) (xs : List A) → Among b (flat_map f xs) → (x : A)
    × Among x xs × Among b (f x)
from-flat f b [] h = elim h [ ]
from-flat f b (y ∷ xs) h = one-more f b y xs (right-part (among-either b (f y) (flat_map f xs) h) (from-flat f b xs))

-- what holds of each holds of one
pub every-at : {A : Type 0} (P : A → Type 0) (x : A) (xs : List A) → Every P xs → Among x xs → P x
every-at P x [] h m = elim m [ ]
every-at P x (y ∷ xs) h (inl e) = subst P e h.0
every-at P x (y ∷ xs) h (inr m) = every-at P x xs h.1 m

pub every-of : {A : Type 0} (P : A → Type 0) (xs : List A) → ((x : A) → Among x xs → P x) → Every P xs
every-of P [] h = tt
every-of P (x ∷ xs) h = (h x (inl refl), every-of P xs (λ y m. h y (inr m)))

-- P holds of none where it holds of no first one
pub none-holds : {A : Type 0} (P : A → Type 0) (xs : List A) → ((x : A) → IsFirst P xs x → ⊥) → (x : A) → Among x xs
    → P x → ⊥
none-holds P [] h x m p = elim m [ ]
none-holds P (y ∷ ys) h x (inl e) p = h y (inl (subst P (sym e) p, refl))
none-holds P (y ∷ ys) h x (inr m) p = none-holds P ys (λ z f. h z (inr ((λ q. h y (inl (q, refl))), f))) x m p

-- one is the first
pub first-is-one : {A : Type 0} (P : A → Type 0) (xs : List A) (x y : A) → IsFirst P xs x → IsFirst P xs y → x ≡ y
first-is-one P [] x y h k = elim h [ ]
first-is-one P (z ∷ zs) x y (inl h) (inl k) = subst (λ w. w ≡ y) h.1 k.1
first-is-one P (z ∷ zs) x y (inl h) (inr k) = absurd (k.0 h.0)
first-is-one P (z ∷ zs) x y (inr h) (inl k) = absurd (h.0 k.0)
first-is-one P (z ∷ zs) x y (inr h) (inr k) = first-is-one P zs x y h.1 k.1

pub first-holds : {A : Type 0} (P : A → Type 0) (xs : List A) (x : A) → IsFirst P xs x → P x
first-holds P [] x h = elim h [ ]
first-holds P (y ∷ ys) x (inl h) = subst P h.1 h.0
first-holds P (y ∷ ys) x (inr h) = first-holds P ys x h.1

pub first-among : {A : Type 0} (P : A → Type 0) (xs : List A) (x : A) → IsFirst P xs x → Among x xs
first-among P [] x h = elim h [ ]
first-among P (y ∷ ys) x (inl h) = inl h.1
first-among P (y ∷ ys) x (inr h) = inr (first-among P ys x h.1)

-- there is a first one where P is decided
pub first-exists : {A : Type 0} (P : A → Type 0) → ((x : A) → P x ⊎ (P x → ⊥)) → (xs : List A) (x : A)
    → Among x xs → P x → (y : A) × IsFirst P xs y
first-exists P decide [] x m p = elim m [ ]
first-exists {A} P decide (z ∷ zs) x m p = by (decide z) m (λ k. first-exists P decide zs x k p)
  where
    behind : (P z → ⊥) → (y : A) × IsFirst P zs y → (y : A) × IsFirst P (z ∷ zs) y
    behind free (y, f) = (y, inr (free, f))

    by : P z ⊎ (P z → ⊥) → Among x (z ∷ zs) → (Among x zs → (y : A) × IsFirst P zs y)
        → (y : A) × IsFirst P (z ∷ zs) y
    by (inl q) m more = (z, inl (q, refl))
    by (inr free) (inl e) more = absurd (free (subst P (sym e) p))
    by (inr free) (inr m) more = behind free (more m)

-- what fails of none can't fail of all together
pub every-may-hold : {A : Type 0} (P : A → Type 0) (xs : List A)
    → ((x : A) → Among x xs → (P x → ⊥) → ⊥) → (Every P xs → ⊥) → ⊥
every-may-hold P [] h k = k tt
every-may-hold P (x ∷ xs) h k =
    h x (inl refl) (λ p. every-may-hold P xs (λ y m. h y (inr m)) (λ q. k (p, q)))

-- no item comes again
abbrev pub AreFresh : {A : Type 0} → List A → Type 0
AreFresh [] = Unit {0}
AreFresh (x ∷ xs) = (Among x xs → ⊥) × AreFresh xs

-- one is the first that comes again
pub again-is-one : {A : Type 0} (before xs : List A) (x y : A) → IsFirstAgain before xs x → IsFirstAgain before xs y
    → x ≡ y
again-is-one before [] x y h k = elim h [ ]
again-is-one before (z ∷ zs) x y (inl h) (inl k) = subst (λ w. w ≡ y) h.1 k.1
again-is-one before (z ∷ zs) x y (inl h) (inr k) = absurd (k.0 h.0)
again-is-one before (z ∷ zs) x y (inr h) (inl k) = absurd (h.0 k.0)
again-is-one before (z ∷ zs) x y (inr h) (inr k) = again-is-one (z ∷ before) zs x y h.1 k.1

-- what comes again came before the list, or stands in it twice
again-among : {A : Type 0} (before xs : List A) (x : A) → IsFirstAgain before xs x
    → (Among x before × Among x xs) ⊎ StandsTwice xs x
again-among before [] x h = elim h [ ]
again-among before (y ∷ ys) x (inl h) = inl (subst (λ z. Among z before) h.1 h.0, inl h.1)
again-among {A} before (y ∷ ys) x (inr h) = put (again-among (y ∷ before) ys x h.1)
  where
    put : (Among x (y ∷ before) × Among x ys) ⊎ StandsTwice ys x
        → (Among x before × Among x (y ∷ ys)) ⊎ StandsTwice (y ∷ ys) x
    put (inl (inl e, m)) = inr (inl (e, m))
    put (inl (inr b, m)) = inl (b, inr m)
    put (inr t) = inr (inr t)

pub again-twice : {A : Type 0} (xs : List A) (x : A) → IsFirstAgain [] xs x → StandsTwice xs x
again-twice {A} xs x h = put (again-among [] xs x h)
  where
    put : (Among x [] × Among x xs) ⊎ StandsTwice xs x → StandsTwice xs x
    put (inl m) = absurd m.0
    put (inr t) = t

-- where no item is the first that comes again, none is so behind the first item
pub none-behind : {A : Type 0} (before : List A) (y : A) (ys : List A)
    → ((x : A) → IsFirstAgain before (y ∷ ys) x → ⊥) → (x : A) → IsFirstAgain (y ∷ before) ys x → ⊥
none-behind before y ys h x f = h x (inr ((λ n. h y (inl (n, refl))), f))

-- If no item is the first that comes again, no item of the list is in `before`, and none is in the
-- list twice.
none-before : {A : Type 0} (before xs : List A) → ((x : A) → IsFirstAgain before xs x → ⊥) → (x : A) → Among x before
    → Among x xs → ⊥
none-before before [] h x b m = elim m [ ]
none-before before (y ∷ ys) h x b (inl e) = h y (inl (subst (λ z. Among z before) (sym e) b, refl))
none-before before (y ∷ ys) h x b (inr m) =
    none-before (y ∷ before) ys (none-behind before y ys h) x (inr b) m

none-again : {A : Type 0} (before xs : List A) → ((x : A) → IsFirstAgain before xs x → ⊥) → (x : A)
    → StandsTwice xs x → ⊥
none-again before [] h x t = t
none-again before (y ∷ ys) h x (inl t) =
    none-before (y ∷ before) ys (none-behind before y ys h) x (inl t.0) t.1
none-again before (y ∷ ys) h x (inr t) = none-again (y ∷ before) ys (none-behind before y ys h) x t

pub none-twice : {A : Type 0} (xs : List A) → ((x : A) → IsFirstAgain [] xs x → ⊥) → (x : A) → StandsTwice xs x → ⊥
none-twice xs h x t = none-again [] xs h x t

pub are-fresh : {A : Type 0} (xs : List A) → ((x : A) → StandsTwice xs x → ⊥) → AreFresh xs
are-fresh [] h = tt
are-fresh (y ∷ ys) h = ((λ m. h y (inl (refl, m))), are-fresh ys (λ x t. h x (inr t)))

pub fresh-once : {A : Type 0} (xs : List A) → AreFresh xs → (x : A) → StandsTwice xs x → ⊥
fresh-once [] h x t = t
fresh-once (y ∷ ys) h x (inl t) = h.0 (subst (λ z. Among z ys) (sym t.0) t.1)
fresh-once (y ∷ ys) h x (inr t) = fresh-once ys h.1 x t

pub fresh-right : {A : Type 0} (xs ys : List A) → AreFresh (xs ++ ys) → AreFresh ys
fresh-right [] ys h = h
fresh-right (x ∷ xs) ys h = fresh-right xs ys h.1

-- chains, of other steps and one behind the other
pub chain-kept : {A : Type 0} (S T : A → A → Type 0) → ((a b : A) → S a b → T a b) → (a : A) (ms : List A) (b : A)
    → Chain S a ms b → Chain T a ms b
chain-kept S T k a [] b c = k a b c
chain-kept S T k a (m ∷ ms) b c = (k a m c.0, chain-kept S T k m ms b c.1)

pub chain-joined : {A : Type 0} (S : A → A → Type 0) (a : A) (ms : List A) (b : A) (ns : List A) (c : A)
    → Chain S a ms b → Chain S b ns c → Chain S a (ms ++ b ∷ ns) c
chain-joined S a [] b ns c h k = (h, k)
chain-joined S a (m ∷ ms) b ns c h k = (h.0, chain-joined S m ms b ns c h.1 k)

pub leads-kept : {A : Type 0} (S T : A → A → Type 0) → ((a b : A) → S a b → T a b) → (a b : A) → Leads S a b
    → Leads T a b
leads-kept S T k a b h = (h.0, chain-kept S T k a h.0 b h.1)

pub leads-joined : {A : Type 0} (S : A → A → Type 0) (a b c : A) → Leads S a b → Leads S b c → Leads S a c
leads-joined S a b c h k = (h.0 ++ b ∷ k.0, chain-joined S a h.0 b k.0 c h.1 k.1)

pub leads-on : {A : Type 0} (S : A → A → Type 0) (a b c : A) → Leads S a b → S b c → Leads S a c
leads-on S a b c h k = leads-joined S a b c h ([], k)

-- the first step of a chain
pub first-step : {A : Type 0} (S : A → A → Type 0) (a b : A) → Leads S a b → (m : A) × S a m
first-step S a b ([], h) = (b, h)
first-step S a b (m ∷ ms, h) = (m, h.0)

-- the last one
last : {A : Type 0} (S : A → A → Type 0) (a : A) (ms : List A) (b : A) → Chain S a ms b → (m : A) × S m b
last S a [] b h = (a, h)
last S a (m ∷ ms) b h = last S m ms b h.1

pub last-step : {A : Type 0} (S : A → A → Type 0) (a b : A) → Leads S a b → (m : A) × S m b
last-step S a b (ms, h) = last S a ms b h
