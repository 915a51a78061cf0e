-- References along the path of their qualifiers.
use Rattle.std.specs.Prelude.{◌≡◌, ℕ, ◌+◌, ◌<◌, ◌≤◌, Bool, true, false, ◌||◌, IsTrue, List, [], ◌∷◌, ◌++◌, ◌⊎◌, ◌↔◌, get_or, length, drop, map}
use Rattle.std.proofs.Common.{refl, inl, inr, sym, ap, subst, ◌∙◌, suc, arith, drop-cons}
use Rattle.express_syntax.specs.declared.expression.Qualifier.{Qualifier}
use Rattle.express_syntax.specs.Trees.{Qualifiers, plain, attribute, group, index}
use Rattle.express_syntax.specs.ExpressionViews.{Selection, of_attribute, of_group, of_element, selections_of, selection_of, qualifiers_of}
use Rattle.express_syntax.specs.Schemas.{Schema}
use Rattle.schema_semantics.specs.Names.{Name, OneOf}
use Rattle.schema_semantics.specs.Shapes.{Atom}
use Rattle.schema_semantics.specs.Attributes.{Derivation}
use Rattle.schema_semantics.specs.Sets.{Set, AttributeReference, of_set, of_entity, Elements, WithSubtypes, IsUnclear, MayUse, OfTaken, Path, path_with_attribute, path_behind}
use Rattle.schema_data_types.specs.declared.values.Atom.{Atom as Numbered}
use Rattle.schema_data_types.specs.steps.Values.{Holds}
use Rattle.schema_attributes.specs.Derivations.{HasDerivation, HoldsDerivation}
use Rattle.schema_attribute_references.specs.declared.taken_attributes.Taken.{Taken}
use Rattle.schema_attribute_references.specs.steps.Taking.{IsSet, IsTaken}
use Rattle.schema_expression_types.specs.declared.references.Reference.{Reference}
use Rattle.schema_expression_types.specs.steps.Paths.{IsPath, GoesAlong, GoesOn, Joins}
use Rattle.schema_expression_types.proofs.Agreeing.{Same, same-itself, same-back, SameReference, SameReferences, SamePath, references-back, one-of-to, unclear-to, use-to, behind-same}

one-left {ℓ} : {A : Type ℓ} (U : A → Type 0) (xs ys : List A) → OneOf U xs → OneOf U (xs ++ ys)
one-left U [] ys h = elim h [ ]
one-left U (x ∷ xs) ys (inl h) = inl h
one-left U (x ∷ xs) ys (inr h) = inr (one-left U xs ys h)

one-right {ℓ} : {A : Type ℓ} (U : A → Type 0) (xs ys : List A) → OneOf U ys → OneOf U (xs ++ ys)
one-right U [] ys h = h
one-right U (x ∷ xs) ys h = inr (one-right U xs ys h)

one-split {ℓ} : {A : Type ℓ} (U : A → Type 0) (xs ys : List A) → OneOf U (xs ++ ys) → OneOf U xs ⊎ OneOf U ys
one-split U [] ys h = inr h
one-split U (x ∷ xs) ys (inl h) = inl (inl h)
one-split U (x ∷ xs) ys (inr h) = put (one-split U xs ys h)
  where
    put : OneOf U xs ⊎ OneOf U ys → OneOf U (x ∷ xs) ⊎ OneOf U ys
    put (inl k) = inl (inr k)
    put (inr k) = inr k

or-split : (p q : Bool) → IsTrue (p || q) → IsTrue p ⊎ IsTrue q
or-split true q h = inl h
or-split false q h = inr h

or-left : (p q : Bool) → IsTrue p → IsTrue (p || q)
or-left true q h = h
or-left false q h = absurd (cc)

or-right : (p q : Bool) → IsTrue q → IsTrue (p || q)
or-right true q h = refl
or-right false q h = h

-- what holds of what was found, or of the attributes that a reference goes on through
module _ (U : AttributeReference → Type 0) (keeps : (q r : AttributeReference) → SameReference q r → U q → U r)
    (A B C : Type 0) (xs ys zs : List AttributeReference) (same : SameReferences ys zs) (h : B ↔ (A ⊎ OneOf U xs))
    (k : C ↔ (B ⊎ OneOf U ys)) where
  chain-forth : C → A ⊎ OneOf U (xs ++ zs)
  chain-forth c = by (k.0 c)
    where
      first : A ⊎ OneOf U xs → A ⊎ OneOf U (xs ++ zs)
      first (inl a) = inl a
      first (inr o) = inr (one-left U xs zs o)

      by : B ⊎ OneOf U ys → A ⊎ OneOf U (xs ++ zs)
      by (inl b) = first (h.0 b)
      by (inr o) = inr (one-right U xs zs (one-of-to U keeps ys zs same o))

  chain-back : A ⊎ OneOf U (xs ++ zs) → C
  chain-back (inl a) = k.1 (inl (h.1 (inl a)))
  chain-back (inr o) = by (one-split U xs zs o)
    where
      by : OneOf U xs ⊎ OneOf U zs → C
      by (inl m) = k.1 (inl (h.1 (inr m)))
      by (inr m) = k.1 (inr (one-of-to U keeps zs ys (references-back ys zs same) m))

  pub chain : C ↔ (A ⊎ OneOf U (xs ++ zs))
  chain = (chain-forth, chain-back)

back-added : (A B : Type 0) → (A ↔ B) → ⊥ ⊎ (B ⊎ ⊥) → A
back-added A B h (inl e) = elim e [ ]
back-added A B h (inr (inl b)) = h.1 b
back-added A B h (inr (inr e)) = elim e [ ]

added : {A B : Type 0} → (A ↔ B) → A ↔ (⊥ ⊎ (B ⊎ ⊥))
added {A = A} {B = B} h = (λ a. inr (inl (h.0 a)), back-added A B h)

second : (B : Type 0) → ⊥ ⊎ B → B
second B (inl e) = elim e [ ]
second B (inr b) = b

cleaned : {A B : Type 0} → (A ↔ (⊥ ⊎ B)) → A ↔ B
cleaned {A = A} {B = B} h = (λ a. second B (h.0 a), λ b. h.1 (inr b))

module _ (s : Schema) where
  pub list-same : (M : Set) (xs : List Numbered) → IsSet s M xs → Same (Holds s xs) M
  list-same M xs h = record { to = λ x m. (h x).0 m; from = λ x m. (h x).1 m }

  set-same : (M : Set) (t : Reference) → IsSet s M t.may.items → Same (Holds s t.may.items) M
  set-same M t h = list-same M t.may.items h

  pub along-joined : (xs : List AttributeReference) (M : Set) (p q : Path) (a b c : Reference)
      → GoesAlong s a (record { attributes = xs; may = M }) b → GoesAlong s b q c → SamePath q p
      → GoesAlong s a (record { attributes = xs ++ p.attributes; may = p.may }) c
  along-joined xs M p q a b c h k same =
      record {
        unclear =
            chain (IsUnclear s) (unclear-to s) (IsTrue a.is_unclear) (IsTrue b.is_unclear) (IsTrue c.is_unclear) xs
            q.attributes p.attributes same.attributes h.unclear k.unclear;
        may = λ x. (λ m. same.may.to x ((k.may x).0 m), λ m. (k.may x).1 (same.may.from x m));
        uses = λ d.
            chain (MayUse s d) (use-to s d) (HoldsDerivation s a.uses.items d) (HoldsDerivation s b.uses.items d)
            (HoldsDerivation s c.uses.items d) xs q.attributes p.attributes same.attributes (h.uses d) (k.uses d);
      }

  -- first by one qualifier, then by others
  pub goes-joined : (q : Selection) (qs : List Selection) (a b c : Reference) → GoesOn s a (selections_of (q ∷ [])) b
      → GoesOn s b (selections_of qs) c → GoesOn s a (selections_of (q ∷ qs)) c
  goes-joined (of_attribute n) qs a b c h k =
      let r = of_set (WithSubtypes s (Holds s a.may.items)) n in
      along-joined (r ∷ []) (OfTaken s r) (path_behind s (OfTaken s r) (selections_of qs))
      (path_behind s (Holds s b.may.items) (selections_of qs)) a b c h k
      (behind-same s (selections_of qs) (Holds s b.may.items) (OfTaken s r) (set-same (OfTaken s r) b h.may))
  goes-joined (of_group e n) qs a b c h k =
      let r = of_entity e n in
      along-joined (r ∷ []) (OfTaken s r) (path_behind s (OfTaken s r) (selections_of qs))
      (path_behind s (Holds s b.may.items) (selections_of qs)) a b c h k
      (behind-same s (selections_of qs) (Holds s b.may.items) (OfTaken s r) (set-same (OfTaken s r) b h.may))
  goes-joined (of_element i) qs a b c h k =
      let M = Elements s (Holds s a.may.items) in
      along-joined [] M (path_behind s M (selections_of qs)) (path_behind s (Holds s b.may.items) (selections_of qs)) a b
      c h k (behind-same s (selections_of qs) (Holds s b.may.items) M (set-same M b h.may))

  pub goes-nowhere : (a : Reference) → GoesOn s a plain a
  goes-nowhere a =
      record { unclear = (inl, back); may = λ x. (λ h. h, λ h. h); uses = λ d. (inl, back) }
    where
      back : {A : Type 0} → A ⊎ ⊥ → A
      back (inl h) = h
      back (inr e) = elim e [ ]

  -- an attribute is taken
  pub goes-to-taken : (q : AttributeReference) (a : Reference) (t : Taken) (b : Reference) → Joins a t b
      → IsTaken s q t → GoesAlong s a (record { attributes = q ∷ []; may = OfTaken s q }) b
  goes-to-taken q a t b j h =
      record {
        unclear = (
          λ u. forth (or-split a.is_unclear t.is_unclear (subst IsTrue j.unclear u)),
          λ o. subst IsTrue (sym j.unclear) (back o),
        );
        may = subst (IsSet s (OfTaken s q)) (sym j.may) h.may;
        uses = λ d. (
          λ u. use-forth d (one-split (λ (i : ℕ). HasDerivation s i d) a.uses.items t.uses.items
              (subst (λ js. HoldsDerivation s js d) j.uses u)),
          λ o. subst (λ js. HoldsDerivation s js d) (sym j.uses) (use-back d o),
        );
      }
    where
      forth : IsTrue a.is_unclear ⊎ IsTrue t.is_unclear → IsTrue a.is_unclear ⊎ (IsUnclear s q ⊎ ⊥)
      forth (inl u) = inl u
      forth (inr u) = inr (inl (h.unclear.0 u))

      back : IsTrue a.is_unclear ⊎ (IsUnclear s q ⊎ ⊥) → IsTrue (a.is_unclear || t.is_unclear)
      back (inl u) = or-left a.is_unclear t.is_unclear u
      back (inr (inl u)) = or-right a.is_unclear t.is_unclear (h.unclear.1 u)
      back (inr (inr e)) = elim e [ ]

      use-forth : (d : Derivation) → HoldsDerivation s a.uses.items d ⊎ HoldsDerivation s t.uses.items d
          → HoldsDerivation s a.uses.items d ⊎ (MayUse s d q ⊎ ⊥)
      use-forth d (inl u) = inl u
      use-forth d (inr u) = inr (inl ((h.uses d).0 u))

      use-back : (d : Derivation) → HoldsDerivation s a.uses.items d ⊎ (MayUse s d q ⊎ ⊥)
          → HoldsDerivation s (a.uses.items ++ t.uses.items) d
      use-back d (inl u) = one-left (λ (i : ℕ). HasDerivation s i d) a.uses.items t.uses.items u
      use-back d (inr (inl u)) =
          one-right (λ (i : ℕ). HasDerivation s i d) a.uses.items t.uses.items ((h.uses d).1 u)
      use-back d (inr (inr e)) = elim e [ ]

  -- the elements of what it may be
  pub goes-to-elements : (a b : Reference) → b.is_unclear ≡ a.is_unclear → b.uses.items ≡ a.uses.items
      → IsSet s (Elements s (Holds s a.may.items)) b.may.items
      → GoesAlong s a (record { attributes = []; may = Elements s (Holds s a.may.items) }) b
  goes-to-elements a b unclear uses may =
      record {
        unclear = (λ u. inl (subst IsTrue unclear u), λ u. subst IsTrue (sym unclear) (back u));
        may = may;
        uses = λ d. (
          λ u. inl (subst (λ js. HoldsDerivation s js d) uses u),
          λ u. subst (λ js. HoldsDerivation s js d) (sym uses) (back u),
        );
      }
    where
      back : {A : Type 0} → A ⊎ ⊥ → A
      back (inl h) = h
      back (inr e) = elim e [ ]

  pub goes-by : (q r : Selection) (a b : Reference) → q ≡ r → GoesOn s a (selections_of (r ∷ [])) b
      → GoesOn s a (selections_of (q ∷ [])) b
  goes-by q r a b e h = subst (λ x. GoesOn s a (selections_of (x ∷ [])) b) (sym e) h

  -- by the next qualifier of a list
  pub next-goes : (xs : List Qualifier) (i : ℕ) (x : Qualifier) → i < length xs → x ≡ get_or xs i x
      → (a b c : Reference) → GoesOn s a (selections_of (selection_of x ∷ [])) b
      → GoesOn s b (qualifiers_of (drop (i + 1) xs)) c → GoesOn s a (qualifiers_of (drop i xs)) c
  next-goes xs i x lt at a b c h k =
      let next : i + 1 ≡ suc i = omega arith in
      let cut : drop i xs ≡ x ∷ drop (i + 1) xs =
      drop-cons xs i x lt ∙ ap (λ y. y ∷ drop (suc i) xs) (sym at) ∙ ap (λ j. x ∷ drop j xs) (sym next) in
      subst (λ ys. GoesOn s a (qualifiers_of ys) c) (sym cut)
      (goes-joined (selection_of x) (map selection_of (drop (i + 1) xs)) a b c h k)

  pub path-alike : (p q : Path) (t : Reference) → SamePath p q → IsPath s p t → IsPath s q t
  path-alike p q t same h =
      record {
        unclear = (
          λ u. one-of-to (IsUnclear s) (unclear-to s) p.attributes q.attributes same.attributes (h.unclear.0 u),
          λ o. h.unclear.1 (one-of-to (IsUnclear s) (unclear-to s) q.attributes p.attributes
              (references-back p.attributes q.attributes same.attributes) o),
        );
        may = λ x. (λ m. same.may.to x ((h.may x).0 m), λ m. (h.may x).1 (same.may.from x m));
        uses = λ d. (
          λ u. one-of-to (MayUse s d) (use-to s d) p.attributes q.attributes same.attributes ((h.uses d).0 u),
          λ o. (h.uses d).1 (one-of-to (MayUse s d) (use-to s d) q.attributes p.attributes
              (references-back p.attributes q.attributes same.attributes) o),
        );
      }

  pub behind-alike : (M N : Set) (qs : Qualifiers) (t : Reference) → Same M N → IsPath s (path_behind s M qs) t
      → IsPath s (path_behind s N qs) t
  behind-alike M N qs t h = path-alike (path_behind s M qs) (path_behind s N qs) t (behind-same s qs M N h)

  -- where nothing was found before
  pub path-of : (p : Path) (a t : Reference) → (IsTrue a.is_unclear → ⊥)
      → ((d : Derivation) → HoldsDerivation s a.uses.items d → ⊥) → GoesAlong s a p t → IsPath s p t
  path-of p a t clear none h =
      record {
        unclear = (λ u. only clear (h.unclear.0 u), λ o. h.unclear.1 (inr o));
        may = h.may;
        uses = λ d. (λ u. only (none d) ((h.uses d).0 u), λ o. (h.uses d).1 (inr o));
      }
    where
      only : {A B : Type 0} → (A → ⊥) → A ⊎ B → B
      only f (inl a) = absurd (f a)
      only f (inr b) = b

  -- where an attribute was taken before
  pub path-of-taken : (q : AttributeReference) (k : Taken) (a t : Reference) (qs : Qualifiers) → IsTaken s q k
      → a.is_unclear ≡ k.is_unclear → a.may.items ≡ k.may.items → a.uses.items ≡ k.uses.items → GoesOn s a qs t
      → IsPath s (path_with_attribute q (path_behind s (OfTaken s q) qs)) t
  path-of-taken q k a t qs h unclear may uses on =
      let found = subst (IsSet s (OfTaken s q)) (sym may) h.may in
      let p = path_behind s (OfTaken s q) qs in
      let r = path_behind s (Holds s a.may.items) qs in
      let same = behind-same s qs (Holds s a.may.items) (OfTaken s q) (set-same (OfTaken s q) a found) in
      record {
        unclear =
            cleaned (chain (IsUnclear s) (unclear-to s) ⊥ (IsTrue a.is_unclear) (IsTrue t.is_unclear) (q ∷ []) r.attributes
            p.attributes same.attributes (added (subst (λ b. IsTrue b ↔ IsUnclear s q) (sym unclear) h.unclear))
            on.unclear);
        may = λ x. (λ m. same.may.to x ((on.may x).0 m), λ m. (on.may x).1 (same.may.from x m));
        uses = λ d.
            cleaned (chain (MayUse s d) (use-to s d) ⊥ (HoldsDerivation s a.uses.items d) (HoldsDerivation s t.uses.items d)
            (q ∷ []) r.attributes p.attributes same.attributes
            (added (subst (λ js. HoldsDerivation s js d ↔ MayUse s d q) (sym uses) (h.uses d))) (on.uses d));
      }
