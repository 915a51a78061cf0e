-- Inverse attributes, where names are resolved.
use Rattle.std.specs.Prelude.{◌≡◌, ℕ, Bool, List, [], ◌∷◌, ◌++◌, map, flat_map, filter, Option, cond}
use Rattle.std.proofs.Common.{refl, inl, inr, ap, sym, subst, ◌∙◌}
use Rattle.std.proofs.lemmas.List.Elements.{filter-append}
use Rattle.std.proofs.lemmas.Option.{slice_get_within}
use Rattle.express_syntax.specs.ExpressionViews.{capitals}
use Rattle.express_syntax.specs.Schemas.{Schema, entity, Entity, own, Inverse}
use Rattle.schema_semantics.specs.Names.{Name, Among, listed, supertypes_of, IsFirst}
use Rattle.schema_semantics.specs.Faults.{Demand, an_entity, IsMet, IsResolved, demands, demands_of_declaration, demands_of_supertype, demands_of_explicit, demands_of_derived, demands_of_inverse}
use Rattle.schema_semantics.specs.Attributes.{Place, IsInverted}
use Rattle.schema_semantics.proofs.Lists.{among-right, among-flat, every-at}
use Rattle.schema_semantics.proofs.Supertypes.{among-entities}
use Rattle.schema_semantics.proofs.Nearest.{inverted-are-one}
use Rattle.schema_names.specs.Numbers.{HasNumber, IsAt}
use Rattle.schema_names.proofs.Numbers.{what-stands}
use Rattle.schema_names.proofs.Rows.{map-joined}
use Rattle.schema_explicit_attributes.specs.Places.{all_places}
use Rattle.schema_explicit_attributes.proofs.Distinct.{at-among}
use Rattle.schema_explicit_attributes.proofs.OwnNumbers.{own-number-of}
use Rattle.schema_redeclarations.specs.Uses.{HasPlace}
use Rattle.schema_underlying_types.specs.BaseViews.{name_at, name_in, or_empty}
use Rattle.conformance.specs.Bases.{Domain}
use Rattle.conformance.specs.Rules.{is_own, gathering_of}
use Rattle.schema_constraints.specs.declared.inverses.InverseAttribute.{InverseAttribute}
use Rattle.schema_constraints.specs.RuleViews.{or_nowhere, gathering_seen}
use Rattle.schema_constraints.specs.steps.Making.{AreBounds, IsKnownInverse, HasInverse, inverses_of, IsInverse}

module _ (s : Schema) (r : IsResolved s) where
  -- what an inverse attribute names is there, unless it is redeclared
  pub known-inverse : (i : ℕ) (x : Inverse) (n : Name) → HasInverse s i x → x.attribute ≡ own n → IsKnownInverse s x
  known-inverse i x n (e, at, m) is = record {
    referrer = every-at (IsMet s) (an_entity x.entity) (demands s) r.known asked;
    inverted = let (p, h, one) = inverted-are-one s e x n r (among-entities s.declarations e here) m is in (p, h);
  }
    where
      here : Among (entity e) s.declarations
      here = at-among s.declarations i (entity e) at

      heads : List Demand
      heads = demands_of_supertype e.supertype

      supers : List Demand
      supers = map an_entity (supertypes_of e)

      explicits : List Demand
      explicits = flat_map (demands_of_explicit (supertypes_of e)) e.explicits

      deriveds : List Demand
      deriveds = flat_map (demands_of_derived (supertypes_of e)) (listed e.derived)

      inverses : List Demand
      inverses = flat_map (λ (y : Inverse). demands_of_inverse y.attribute y) (listed e.inverses)

      asked : Among (an_entity x.entity) (demands s)
      asked =
          among-flat demands_of_declaration (entity e) (an_entity x.entity) s.declarations here
          (among-right (an_entity x.entity) (((heads ++ supers) ++ explicits) ++ deriveds) inverses
          (among-flat (λ (y : Inverse). demands_of_inverse y.attribute y) x (an_entity x.entity) (listed e.inverses) m
          (subst (λ a. Among (an_entity x.entity) (demands_of_inverse a x)) (sym is) (inl refl))))

  pub name-is : (n : Name) (i : ℕ) → HasNumber s n i → name_at s i ≡ n
  name-is n i k = let (d, at, named) = what-stands s n i k in ap name_in at ∙ ap or_empty named

  pub own-number : (i : ℕ) (e : Entity) → IsAt s i (entity e) → HasNumber s e.name i
  own-number i e at = own-number-of s i (entity e) e.name r.once at refl

  pub number-seen : (n : Name) (i : ℕ) → HasNumber s n i → HasNumber s (name_at s i) i
  number-seen n i k = subst (λ m. HasNumber s m i) (sym (name-is n i k)) k

  -- a row is that of an inverse attribute
  pub is-inverse : (e : Entity) (x : Inverse) (t : InverseAttribute) (p : Name) → IsAt s t.entity (entity e)
      → x.attribute ≡ own (capitals t.name)
      → ((d : Domain) → AreBounds d → gathering_seen t.gathering ≡ gathering_of d x.collection)
      → HasNumber s x.entity t.referrer → IsInverted s x p → HasPlace s (p, x.inverted) t.inverted
      → IsInverse s (e.name, x) t
  is-inverse e x t p at named gathered refers inverts placed = record {
    seen = λ d is. record {
      entity = name-is e.name t.entity (own-number t.entity e at);
      name = named;
      gathering = gathered d is.bounds;
      referrer = name-is x.entity t.referrer refers;
      holder = subst (λ (o : Option Place). IsInverted s x (or_nowhere o).0) (sym placed) inverts;
      attribute = ap (λ (o : Option Place). (or_nowhere o).1) placed;
    };
    numbered = record {
      entity = number-seen e.name t.entity (own-number t.entity e at);
      referrer = number-seen x.entity t.referrer refers;
      inverted = slice_get_within (all_places s) t.inverted (p, x.inverted) placed;
    };
  }

-- the inverse attributes of an entity
pub own-one : (n : Name) (x : Inverse) (m : Name) → x.attribute ≡ own m → inverses_of n (x ∷ []) ≡ (n, x) ∷ []
own-one n x m is =
    ap (λ (b : Bool). map (λ (i : Inverse). (n, i)) (cond b (x ∷ []) [])) (ap is_own is)

pub inverses-joined : (n : Name) (xs ys : List Inverse)
    → inverses_of n (xs ++ ys) ≡ inverses_of n xs ++ inverses_of n ys
inverses-joined n xs ys =
    ap (map (λ (i : Inverse). (n, i))) (filter-append (λ (i : Inverse). is_own i.attribute) xs ys)
    ∙ map-joined (λ (i : Inverse). (n, i)) (filter (λ (i : Inverse). is_own i.attribute) xs)
    (filter (λ (i : Inverse). is_own i.attribute) ys)

-- the nearest entity that declares an explicit attribute declares it
pub first-holds : {A : Type 0} (P : A → Type 0) (xs : List A) (x : A) → IsFirst P xs x → P x
first-holds P [] x h = absurd h
first-holds P (y ∷ ys) x (inl h) = subst P h.1 h.0
first-holds P (y ∷ ys) x (inr h) = first-holds P ys x h.1
