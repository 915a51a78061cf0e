-- What is found of an instance is what an expression means.
use Rattle.std.specs.Prelude.{◌≡◌, ℕ, List, [], Option, Some, None}
use Rattle.std.proofs.Common.{refl, sym, ap, subst, ◌∙◌, inl, inr}
use Rattle.express_syntax.specs.Schemas.{Schema}
use Rattle.schema_semantics.specs.Names.{Name}
use Rattle.schema_semantics.specs.Attributes.{Place, Derivation}
use Rattle.conformance.specs.Bases.{Domain}
use Rattle.conformance.specs.Entities.{Entities}
use Rattle.conformance.specs.Populations.{Instance, instance_at, types_in, types_at, value_in, value_of}
use Rattle.conformance.specs.Rules.{InverseAttribute}
use Rattle.conformance.specs.Referrers.{inverse_value}
use Rattle.express_logic.specs.Data.{Datum}
use Rattle.conformance.specs.Attributes.{Source, explicit, derived, unclear, Attributes, AreAttributes, IsNamed, IsInGroup}
use Rattle.conformance.specs.Meanings.{referring, found, value_from, attribute_in, group_in}
use Rattle.conformance.specs.Values.{datum_at, first_declared}
use Rattle.conformance.proofs.Led.{at_name}
use Rattle.schema_attribute_sources.specs.SourceViews.{or_unclear}
use Rattle.rule_settings.specs.steps.Worth.{inverse_worth, IsWorth}

module _ (s : Schema) (d : Domain) (en : Entities) (attributes : Attributes) (is : List Instance) (computed : ℕ → Derivation → Datum) where
  pub derived_found : (y : ℕ) (e : Derivation)
      → IsWorth s d en attributes is computed (instance_at is y) (derived e) (Some (computed y e))
  derived_found y e = by (instance_at is y) refl
    where
      by : (o : Option Instance) → instance_at is y ≡ o
          → IsWorth s d en attributes is computed o (derived e) (Some (computed y e))
      by None at = λ u. absurd (cc)
      by (Some x) at = ap (λ n. Some (computed n e)) (sym (at_name y is x at).1)

  pub explicit_found : (y : ℕ) (p : Place) (w : Datum)
      → w ≡ datum_at s d (first_declared s d en p) (value_of is y p)
      → IsWorth s d en attributes is computed (instance_at is y) (explicit p) (Some w)
  explicit_found y p w e = by (instance_at is y) e
    where
      by : (o : Option Instance) → w ≡ datum_at s d (first_declared s d en p) (value_in o p)
          → IsWorth s d en attributes is computed o (explicit p) (Some w)
      by None e = λ u. absurd (cc)
      by (Some i) e = ap Some e

  pub inverse_found : (y : ℕ) (q : Option InverseAttribute) (w : Datum) → w ≡ inverse_worth is y q
      → IsWorth s d en attributes is computed (instance_at is y) (or_unclear q) (Some w)
  inverse_found y q w e = by (instance_at is y) refl q e
    where
      by : (o : Option Instance) → instance_at is y ≡ o → (q : Option InverseAttribute) → w ≡ inverse_worth is y q
          → IsWorth s d en attributes is computed o (or_unclear q) (Some w)
      by None at None e = λ u. ap Some e
      by None at (Some i) e = λ u. absurd (cc)
      by (Some x) at None e = ap Some e
      by (Some x) at (Some i) e =
          ap Some (e ∙ ap (λ n. referring i.gathering (inverse_value is i n)) (sym (at_name y is x at).1))

  -- where no type declares the attribute, nothing is found
  pub is_missing : (y : ℕ) (a : Name) → None ≡ attributes.source (types_at is y) a
      → None ≡ attribute_in s d en attributes is computed (instance_at is y) a
  is_missing y a h = by (instance_at is y) h
    where
      by : (o : Option Instance) → None ≡ attributes.source (types_in o) a
          → None ≡ attribute_in s d en attributes is computed o a
      by None h = refl
      by (Some i) h = ap (λ q. found q (value_from s d en attributes is computed i)) h

  module _ (inverses : List InverseAttribute) (are : AreAttributes s inverses attributes) (y : ℕ) (types : List Name) (known : types ≡ types_at is y) (a : Name) where
    -- no type, no attribute
    nothing_named : (x : Source) → attributes.source [] a ≡ Some x → ⊥
    nothing_named x e = by (subst (IsNamed s inverses [] a) e (are.sources [] a))
      where
        by : IsNamed s inverses [] a (Some x) → ⊥
        by (inl (p, alone, k)) = alone.0.0
        by (inr (two, same)) = two.2.0

    lonely : (e : Name) → attributes.source_of [] e a ≡ unclear
    lonely e = by (are.groups [] e a)
      where
        by : IsInGroup s inverses [] e a (attributes.source_of [] e a) → attributes.source_of [] e a ≡ unclear
        by (inl (p, m, k)) = absurd m.0
        by (inr (none, same)) = same

    pub is_found : (x : Source) (w : Option Datum) → Some x ≡ attributes.source types a
        → IsWorth s d en attributes is computed (instance_at is y) x w
        → w ≡ attribute_in s d en attributes is computed (instance_at is y) a
    is_found x w h g = by (instance_at is y) known g
      where
        by : (o : Option Instance) → types ≡ types_in o → IsWorth s d en attributes is computed o x w
            → w ≡ attribute_in s d en attributes is computed o a
        by None k g = absurd (nothing_named x (sym (h ∙ ap (λ ts. attributes.source ts a) k)))
        by (Some i) k g =
            g ∙ ap (λ q. found q (value_from s d en attributes is computed i)) (h ∙ ap (λ ts. attributes.source ts a) k)

    pub is_member : (e : Name) (x : Source) (w : Option Datum) → x ≡ attributes.source_of types e a
        → IsWorth s d en attributes is computed (instance_at is y) x w
        → w ≡ Some (group_in s d en attributes is computed (instance_at is y) e a)
    is_member e x w h g = by (instance_at is y) known g
      where
        by : (o : Option Instance) → types ≡ types_in o → IsWorth s d en attributes is computed o x w
            → w ≡ Some (group_in s d en attributes is computed o e a)
        by None k g = g (h ∙ ap (λ ts. attributes.source_of ts e a) k ∙ lonely e)
        by (Some i) k g =
            g ∙ ap (λ q. Some (value_from s d en attributes is computed i q)) (h ∙ ap (λ ts. attributes.source_of ts e a) k)
