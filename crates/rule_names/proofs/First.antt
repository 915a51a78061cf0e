-- What the first declaration of an attribute by its own entity asks of its values.
use Rattle.std.specs.Prelude.{◌≡◌, ℕ, Bool, true, false, cond, List, [], ◌∷◌, None, Some, map, slice_get}
use Rattle.std.specs.List.{AllZip, find, filter}
use Rattle.std.proofs.Common.{refl, inl, inr, ap, sym, subst, ◌∙◌, zero, suc}
use mathlib.Core.List.{map-map}
use Rattle.express_syntax.specs.Schemas.{Schema, Declaration, type, entity, skipped, DataType, Explicit}
use Rattle.schema_semantics.specs.Names.{Name, Among, IsEntity, explicit_names}
use Rattle.schema_semantics.specs.Faults.{IsResolved}
use Rattle.schema_semantics.specs.Attributes.{Place}
use Rattle.schema_semantics.proofs.Lists.{from-flat}
use Rattle.schema_names.specs.Numbers.{number_of, HasNumber}
use Rattle.schema_names.proofs.Numbers.{stands-at}
use Rattle.schema_explicit_attributes.specs.Places.{all_places, places_in}
use Rattle.schema_explicit_attributes.proofs.Distinct.{at-among}
use Rattle.schema_explicit_attributes.proofs.OwnNumbers.{own-number-of}
use Rattle.schema_attributes.proofs.Rows.{among-at}
use Rattle.conformance.specs.Bases.{Domain, IsDomain, base}
use Rattle.conformance.specs.Entities.{Entities, AreEntities}
use Rattle.conformance.specs.Populations.{first_base}
use Rattle.schema_underlying_types.specs.declared.base.Base.{Base}
use Rattle.schema_underlying_types.specs.declared.base.Base.TheVariants.{Integer}
use Rattle.schema_underlying_types.specs.BaseViews.{type_at, base_seen}
use Rattle.schema_underlying_types.specs.Tables.{NamesKnownType, IsNumberedBase}
use Rattle.schema_redeclarations.specs.declared.uses.AttributeUse.{AttributeUse}
use Rattle.schema_redeclarations.specs.declared.uses.Uses.{Uses}
use Rattle.schema_redeclarations.specs.Uses.{HasPlace, of_place, uses_at, seen, said, AreUses}
use Rattle.rule_names.specs.steps.Declaring.{is_of}
use Rattle.rule_names.specs.Tables.{IsDeclaredAs, AreDeclared}

-- those that pass a test begin with the first that does
first-kept : {A : Type 0} (test : A → Bool) (xs : List A) (x : A) → find test xs ≡ Some x
    → (ys : List A) × (filter test xs ≡ x ∷ ys)
first-kept test [] x h = absurd (cc)
first-kept {A} test (y ∷ xs) x h = by (test y) h (first-kept test xs x)
  where
    by : (b : Bool) → cond b (Some y) (find test xs) ≡ Some x
        → (find test xs ≡ Some x → (ys : List A) × (filter test xs ≡ x ∷ ys))
        → (ys : List A) × (cond b (y ∷ filter test xs) (filter test xs) ≡ x ∷ ys)
    by true h more = let same : y ≡ x = cc in (filter test xs, ap (λ z. z ∷ filter test xs) same)
    by false h more = more h

none-kept : {A : Type 0} (test : A → Bool) (xs : List A) → find test xs ≡ None → filter test xs ≡ []
none-kept test [] h = refl
none-kept test (y ∷ xs) h = by (test y) h (none-kept test xs)
  where
    by : (b : Bool) → cond b (Some y) (find test xs) ≡ None → (find test xs ≡ None → filter test xs ≡ [])
        → cond b (y ∷ filter test xs) (filter test xs) ≡ []
    by true h more = absurd (cc)
    by false h more = more h

found-among : {A : Type 0} (test : A → Bool) (xs : List A) (x : A) → find test xs ≡ Some x → Among x xs
found-among test [] x h = absurd (cc)
found-among test (y ∷ xs) x h = by (test y) h (found-among test xs x)
  where
    by : (b : Bool) → cond b (Some y) (find test xs) ≡ Some x → (find test xs ≡ Some x → Among x xs)
        → Among x (y ∷ xs)
    by true h more = let same : y ≡ x = cc in inl same
    by false h more = inr (more h)

-- what is asked by the data type of a number
abbrev pub Says : Schema → ℕ → Base → Type 0
Says s n b =
    (NamesKnownType s (type_at s n) → (d : Domain) → IsDomain s d → base_seen s b ≡ base d (type_at s n)) × IsNumberedBase s b

-- the entity of its own places
of-entity : (e : Name) (ns : List Name) (p : Place) → Among p (map (λ (n : Name). (e, n)) ns) → e ≡ p.0
of-entity e [] p h = elim h [ ]
of-entity e (n ∷ ns) p (inl h) = ap (λ (q : Place). q.0) h
of-entity e (n ∷ ns) p (inr h) = of-entity e ns p h

module _ (s : Schema) (r : IsResolved s) (p : Place) (q : ℕ) (at : HasPlace s p q) where
  -- the entity of a place has a number
  owner : (i : ℕ) × HasNumber s p.0 i × IsEntity s p.0
  owner =
      let (d, m, n) = from-flat places_in p s.declarations (at-among (all_places s) q p at) in by d m n
    where
      by : (d : Declaration) → Among d s.declarations → Among p (places_in d)
          → (i : ℕ) × HasNumber s p.0 i × IsEntity s p.0
      by (type t) m n = elim n [ ]
      by (skipped t) m n = elim n [ ]
      by (entity e) m n =
          let (i, here) = among-at s.declarations (entity e) m in
          let named = of-entity e.name (explicit_names e) p n in
          let number = own-number-of s i (entity e) p.0 r.once here (ap Some named) in
          (i, number, (e, stands-at s p.0 i number ∙ here))

  pub has-owner : number_of s p.0 ≡ None → ⊥
  has-owner none = let (i, k, e) = owner in lacks i (sym none ∙ k)
    where
      lacks : (i : ℕ) → None ≡ Some i → ⊥
      lacks i e = cc

  module _ (uses : Uses) (are : AreUses s uses) (i : ℕ) (k : number_of s p.0 ≡ Some i) where
    -- what its declarations ask, in order
    types-are : (en : Entities) → AreEntities s en
        → map (λ (u : AttributeUse). type_at s u.data_type) (of_place q (uses_at uses i))
        ≡ map (λ (x : Explicit). x.data_type) (en.declarations p.0 p)
    types-are en g =
        let (j, l, ent) = owner in
        sym (map-map (λ (y : DataType × Bool). y.0) (seen s) (of_place q (uses_at uses i)))
        ∙ ap (map (λ (y : DataType × Bool). y.0)) (are.explicit en g p.0 i ent k p q at)
        ∙ map-map (λ (y : DataType × Bool). y.0) said (en.declarations p.0 p)

    pub not-declared : find (is_of q) (uses_at uses i) ≡ None → IsDeclaredAs s p Integer
    not-declared none = record {
      says = λ d en is are2.
          ap (first_base s d en)
          (ap (map (λ (u : AttributeUse). type_at s u.data_type)) (sym (none-kept (is_of q) (uses_at uses i) none))
          ∙ types-are en are2);
      numbered = tt;
    }

    pub declared-first : (u : AttributeUse) (b : Base) → find (is_of q) (uses_at uses i) ≡ Some u
        → Says s u.data_type b → IsDeclaredAs s p b
    declared-first u b first (says, numbered) = record {
      says = λ d en is are2.
          let (us, kept) = first-kept (is_of q) (uses_at uses i) u first in
          says (are.known i u (found-among (is_of q) (uses_at uses i) u first)) d is
          ∙ ap (first_base s d en)
          (ap (map (λ (v : AttributeUse). type_at s v.data_type)) (sym kept) ∙ types-are en are2);
      numbered = numbered;
    }

-- by number
zip-at : {A B : Type 0} (R : A → B → Type 0) (xs : List A) (ys : List B) (i : ℕ) (x : A)
    → AllZip R xs (map (λ (y : B). y) ys) → slice_get xs i ≡ Some x → (y : B) × (slice_get ys i ≡ Some y) × R x y
zip-at R [] ys i x h at = absurd (cc)
zip-at R (z ∷ xs) [] i x h at = elim h [ ]
zip-at {A} {B} R (z ∷ xs) (y ∷ ys) zero x h at =
    let same : z ≡ x = cc in (y, refl, subst (λ (w : A). R w y) same h.0)
zip-at R (z ∷ xs) (y ∷ ys) (suc i) x h at = zip-at R xs ys i x h.1 at

pub are-declared : (s : Schema) (bases : List Base)
    → AllZip (IsDeclaredAs s) (all_places s) (map (λ (b : Base). b) bases) → AreDeclared s bases
are-declared s bases h p q at = zip-at (IsDeclaredAs s) (all_places s) bases q p h at
