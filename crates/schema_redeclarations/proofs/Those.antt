-- Those of a list of which a predicate holds, and one of them.
use Rattle.std.specs.Prelude.{◌≡◌, List, [], ◌∷◌, ◌++◌, ◌⊎◌, ◌↔◌}
use Rattle.std.proofs.Common.{refl, inl, inr, ap, sym, subst, ◌∙◌}
use Rattle.schema_semantics.specs.Names.{OneOf}
use Rattle.conformance.specs.Entities.{AreThose}

-- they are one list
pub those-are-one : {A : Type 0} (P : A → Type 0) (xs ys zs : List A) → AreThose P xs ys → AreThose P xs zs → ys ≡ zs
those-are-one P [] ys zs h k = h ∙ sym k
those-are-one P (x ∷ xs) ys zs (inl (p, us, e, h)) (inl (q, vs, f, k)) =
    e ∙ ap (λ ws. x ∷ ws) (those-are-one P xs us vs h k) ∙ sym f
those-are-one P (x ∷ xs) ys zs (inl h) (inr k) = absurd (k.0 h.0)
those-are-one P (x ∷ xs) ys zs (inr h) (inl k) = absurd (h.0 k.0)
those-are-one P (x ∷ xs) ys zs (inr h) (inr k) = those-are-one P xs ys zs h.1 k.1

pub those-joined : {A : Type 0} (P : A → Type 0) (xs ys us vs : List A) → AreThose P xs us → AreThose P ys vs
    → AreThose P (xs ++ ys) (us ++ vs)
those-joined P [] ys us vs h k = subst (λ ws. AreThose P ys (ws ++ vs)) (sym h) k
those-joined P (x ∷ xs) ys us vs (inl (p, ws, e, h)) k =
    inl (p, ws ++ vs, ap (λ zs. zs ++ vs) e, those-joined P xs ys ws vs h k)
those-joined P (x ∷ xs) ys us vs (inr (never, h)) k = inr (never, those-joined P xs ys us vs h k)

-- of one item
pub those-of-one : {A : Type 0} (P : A → Type 0) (x : A) → P x ⊎ (P x → ⊥) → (ys : List A) × AreThose P (x ∷ []) ys
those-of-one P x (inl p) = (x ∷ [], inl (p, [], refl, refl))
those-of-one P x (inr never) = ([], inr (never, refl))

-- in joined lists
pub one-left : {A : Type 0} (P : A → Type 0) (xs ys : List A) → OneOf P xs → OneOf P (xs ++ ys)
one-left P [] ys h = elim h [ ]
one-left P (x ∷ xs) ys (inl p) = inl p
one-left P (x ∷ xs) ys (inr h) = inr (one-left P xs ys h)

pub one-right : {A : Type 0} (P : A → Type 0) (xs ys : List A) → OneOf P ys → OneOf P (xs ++ ys)
one-right P [] ys h = h
one-right P (x ∷ xs) ys h = inr (one-right P xs ys h)

pub one-either : {A : Type 0} (P : A → Type 0) (xs ys : List A) → OneOf P (xs ++ ys) → OneOf P xs ⊎ OneOf P ys
one-either P [] ys h = inr h
one-either P (x ∷ xs) ys (inl p) = inl (inl p)
one-either {A} P (x ∷ xs) ys (inr h) = put (one-either P xs ys h)
  where
    put : OneOf P xs ⊎ OneOf P ys → OneOf P (x ∷ xs) ⊎ OneOf P ys
    put (inl m) = inl (inr m)
    put (inr m) = inr m

-- Either of two, beside what doesn't depend on the item, holds of one.
pub one-of-two : {A : Type 0} (C : Type 0) (P Q : A → Type 0) (R : Type 0) (xs : List A)
    → ((C × OneOf P xs) ⊎ (OneOf Q xs × R)) ↔ OneOf (λ x. (C × P x) ⊎ (Q x × R)) xs
one-of-two {A} C P Q R xs = (forth xs, back xs)
  where
    forth : (ys : List A) → (C × OneOf P ys) ⊎ (OneOf Q ys × R) → OneOf (λ x. (C × P x) ⊎ (Q x × R)) ys
    forth [] (inl (c, h)) = h
    forth [] (inr (h, r)) = h
    forth (y ∷ ys) (inl (c, inl p)) = inl (inl (c, p))
    forth (y ∷ ys) (inl (c, inr h)) = inr (forth ys (inl (c, h)))
    forth (y ∷ ys) (inr (inl q, r)) = inl (inr (q, r))
    forth (y ∷ ys) (inr (inr h, r)) = inr (forth ys (inr (h, r)))

    later : (y : A) (ys : List A) → (C × OneOf P ys) ⊎ (OneOf Q ys × R)
        → (C × OneOf P (y ∷ ys)) ⊎ (OneOf Q (y ∷ ys) × R)
    later y ys (inl (c, h)) = inl (c, inr h)
    later y ys (inr (h, r)) = inr (inr h, r)

    back : (ys : List A) → OneOf (λ x. (C × P x) ⊎ (Q x × R)) ys → (C × OneOf P ys) ⊎ (OneOf Q ys × R)
    back [] h = elim h [ ]
    back (y ∷ ys) (inl (inl (c, p))) = inl (c, inl p)
    back (y ∷ ys) (inl (inr (q, r))) = inr (inl q, r)
    back (y ∷ ys) (inr h) = later y ys (back ys h)
