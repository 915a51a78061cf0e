-- What weak pins tell of a value, by its parts.
use Rattle.std.specs.Prelude.{◌≡◌, ℕ, ◌+◌, ◌≤◌, true, false, Option, Some, ◌⊎◌, ◌↔◌}
use Rattle.std.proofs.Common.{refl, sym, ap, subst, ◌∙◌, inl, inr}
use Rattle.step_values.specs.AgreementTests.{value_count}
use Rattle.step_values.specs.steps.Slots.{nth}
use Rattle.step_values.specs.Values.{Value, typed, sequence, bag, Values}
use Rattle.step_values.proofs.Walks.{after, after_at, after_all}
use Rattle.express_syntax.specs.Schemas.{Schema}
use Rattle.schema_semantics.specs.Names.{Name}
use Rattle.conformance.specs.Bases.{Aggregate, Base, integer, number, boolean, logical, string, binary, enumeration, entity, select, aggregate, Domain, base}
use Rattle.conformance.specs.ParameterFits.{inner}
use Rattle.conformance.specs.Elements.{HasUnique, HasUniqueAmong}
use Rattle.population_pins.specs.steps.Elements.{Question}
use Rattle.population_pins.specs.steps.Gathering.{Gathers, GathersUpTo}
use Rattle.population_pins.specs.declared.weak_pin_lists.Gathered.{Gathered}
use Rattle.population_pins.proofs.Gathering.{gathers-alike, gathers-both, gathers-nothing}
use Rattle.population_pins.proofs.Gathering as gathering
use Rattle.population_pins.specs.steps.Holding.{is_unique, may_hold, IsUnique, HasInElements}
use Rattle.population_pins.proofs.Unheld.{not-both, none-held-among}

-- an aggregate is one
same-aggregate : (a c : Aggregate) → aggregate a ≡ aggregate c → a ≡ c
same-aggregate a c e = cc

same-base : (b c : Base) (o : Option Base) → o ≡ Some b → o ≡ Some c → b ≡ c
same-base b c o e f = cc

unique-aggregate : (b : Base) → is_unique b ≡ true → (a : Aggregate) × (b ≡ aggregate a) × (a.unique ≡ true)
unique-aggregate integer e = absurd (cc)
unique-aggregate number e = absurd (cc)
unique-aggregate boolean e = absurd (cc)
unique-aggregate logical e = absurd (cc)
unique-aggregate (string w) e = absurd (cc)
unique-aggregate (binary w) e = absurd (cc)
unique-aggregate (enumeration items) e = absurd (cc)
unique-aggregate (entity n) e = absurd (cc)
unique-aggregate (select m) e = absurd (cc)
unique-aggregate (aggregate a) e = (a, refl, e)

module _ (s : Schema) (d : Domain) (P : Question → Values → Type 0) (old new : Gathered) where
  -- a typed value of an item of a SELECT
  pub in-typed : (b c : Base) (word : Name) (v w : Value) → typed word v ≡ w → inner s d b word ≡ Some c
      → Gathers (λ q. HasUnique s d (P q) c v) old new → Gathers (λ q. HasUnique s d (P q) b w) old new
  in-typed b c word v w is at h =
      subst (λ x. Gathers (λ q. HasUnique s d (P q) b x) old new) is
      (gathers-alike (λ q. HasUnique s d (P q) c v) (λ q. HasUnique s d (P q) b (typed word v)) old new
      (λ q. (
        (λ k. (c, at, k)),
        (λ k. subst (λ e. HasUnique s d (P q) e v) (same-base k.0 c (inner s d b word) k.1 at) k.2),
      )) h)

  -- both parts of what is asked of a LIST or ARRAY
  pub in-sequence : (b : Base) (vs : Values) (w : Value) (mid : Gathered) → sequence vs ≡ w
      → Gathers (λ q. IsUnique (P q) b vs) old mid → Gathers (λ q. HasInElements s d (P q) b vs) mid new
      → Gathers (λ q. HasUnique s d (P q) b w) old new
  in-sequence b vs w mid is h k =
      subst (λ x. Gathers (λ q. HasUnique s d (P q) b x) old new) is
      (gathers-alike (λ q. IsUnique (P q) b vs ⊎ HasInElements s d (P q) b vs)
      (λ q. HasUnique s d (P q) b (sequence vs)) old new
      (λ q. (forth q, back q))
      (gathers-both (λ q. IsUnique (P q) b vs) (λ q. HasInElements s d (P q) b vs) old mid new h k))
    where
      forth : (q : Question) → IsUnique (P q) b vs ⊎ HasInElements s d (P q) b vs → HasUnique s d (P q) b (sequence vs)
      forth q (inl (u, p)) = let (a, e, w) = unique-aggregate b u in (a, e, inl (w, p))
      forth q (inr (a, e, h)) = (a, e, inr h)

      back : (q : Question) → HasUnique s d (P q) b (sequence vs) → IsUnique (P q) b vs ⊎ HasInElements s d (P q) b vs
      back q (a, e, inl (u, p)) = inl (ap is_unique e ∙ u, p)
      back q (a, e, inr h) = inr (a, e, h)

  pub in-bag : (b : Base) (vs : Values) (w : Value) → bag vs ≡ w
      → Gathers (λ q. HasInElements s d (P q) b vs) old new → Gathers (λ q. HasUnique s d (P q) b w) old new
  in-bag b vs w is h = subst (λ x. Gathers (λ q. HasUnique s d (P q) b x) old new) is h

  -- the elements of an aggregate, by what is asked of them
  pub in-elements : (b e : Base) (a : Aggregate) (vs : Values) → b ≡ aggregate a → e ≡ base d a.element
      → Gathers (λ q. HasUniqueAmong s d (P q) e vs) old new → Gathers (λ q. HasInElements s d (P q) b vs) old new
  in-elements b e a vs is asked h =
      gathers-alike (λ q. HasUniqueAmong s d (P q) e vs) (λ q. HasInElements s d (P q) b vs) old new
      (λ q. (
        (λ k. (a, is, subst (λ c. HasUniqueAmong s d (P q) c vs) asked k)),
        (λ k. subst (λ c. HasUniqueAmong s d (P q) c vs)
            (ap (λ (c : Aggregate). base d c.element) (same-aggregate k.0 a (sym k.1 ∙ is)) ∙ sym asked) k.2),
      )) h

module _ (P : Question → Values → Type 0) where
  pub if-unique : (old new : Gathered) (b : Base) (vs : Values) → is_unique b ≡ true
      → Gathers (λ q. P q vs) old new → Gathers (λ q. IsUnique (P q) b vs) old new
  if-unique old new b vs u h =
      gathers-alike (λ q. P q vs) (λ q. IsUnique (P q) b vs) old new (λ q. ((λ p. (u, p)), (λ k. k.1))) h

  pub if-not-unique : (set : Gathered) (b : Base) (vs : Values) → is_unique b ≡ false
      → Gathers (λ q. IsUnique (P q) b vs) set set
  if-not-unique set b vs u = gathers-nothing (λ q. IsUnique (P q) b vs) set (λ q h. not-both (is_unique b) u h.0)

module _ (s : Schema) (d : Domain) (P : Question → Values → Type 0) (set : Gathered) where
  pub not-among : (b : Base) (vs : Values) → may_hold d b ≡ false
      → Gathers (λ q. HasUniqueAmong s d (P q) b vs) set set
  not-among b vs e =
      gathers-nothing (λ q. HasUniqueAmong s d (P q) b vs) set (λ q h. none-held-among s d (P q) b vs e h)

-- one value more, and all of them
module _ (s : Schema) (d : Domain) (P : Question → Values → Type 0) (b : Base) (vs : Values) (i : ℕ) (old : Gathered) where
  abbrev One : Question → Values → Type 0
  One q us = HasUniqueAmong s d (P q) b us

  pub next : (v : Value) (mid new : Gathered) → nth vs i ≡ Some v
      → GathersUpTo (λ q. One q vs) (λ q. One q (after i vs)) old mid
      → Gathers (λ q. HasUnique s d (P q) b v) mid new
      → GathersUpTo (λ q. One q vs) (λ q. One q (after (i + 1) vs)) old new
  next v mid new at h k =
      gathering.next (λ q. One q vs) (λ q. One q (after i vs)) (λ q. HasUnique s d (P q) b v)
      (λ q. One q (after (i + 1) vs)) old mid new h k
      (λ q. subst (λ us. One q us ↔ (HasUnique s d (P q) b v ⊎ One q (after (i + 1) vs))) (sym (after_at vs i v at))
      ((λ t. t), (λ t. t)))

  pub ends : (new : Gathered) → value_count vs ≤ i → GathersUpTo (λ q. One q vs) (λ q. One q (after i vs)) old new
      → Gathers (λ q. One q vs) old new
  ends new past h =
      gathering.ends (λ q. One q vs) (λ q. One q (after i vs)) old new h
      (λ q l. subst (One q) (after_all vs i past) l)
