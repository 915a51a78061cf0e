-- The rules in the rows of the tables, with names in place of numbers.
use Rattle.std.specs.Prelude.{ℕ, ◌<◌, length, [], Option, None, Some, map, slice_get}
use Rattle.express_syntax.specs.ExpressionViews.{capitals}
use Rattle.express_syntax.specs.Schemas.{Schema}
use Rattle.express_syntax.specs.Profile.{Every}
use Rattle.schema_semantics.specs.Names.{Name}
use Rattle.schema_semantics.specs.Attributes.{Place}
use Rattle.schema_semantics.specs.Parts.{label_of}
use Rattle.schema_names.specs.Numbers.{HasNumber}
use Rattle.schema_explicit_attributes.specs.Places.{all_places}
use Rattle.schema_underlying_types.specs.BaseViews.{name_at}
use Rattle.conformance.specs.Rules as rules
use Rattle.schema_constraints.specs.declared.inverse_collections.Gathering.{Gathering}
use Rattle.schema_constraints.specs.declared.inverse_collections.Gathering.TheVariants as gatherings
use Rattle.schema_constraints.specs.declared.inverses.InverseAttribute.{InverseAttribute}
use Rattle.schema_constraints.specs.declared.label.RuleLabel.{RuleLabel}
use Rattle.schema_constraints.specs.declared.label.RuleLabel.TheVariants as labels
use Rattle.schema_constraints.specs.declared.uniques.UniqueRule.{UniqueRule}
use Rattle.schema_constraints.specs.declared.tables.RuleTables.{RuleTables}

abbrev pub or_nowhere : Option Place → Place
or_nowhere None = ([], [])
or_nowhere (Some p) = p

-- The explicit attribute with the number q.
abbrev pub place_at : Schema → ℕ → Place
place_at s q = or_nowhere (slice_get (all_places s) q)

abbrev pub gathering_seen : Gathering → rules.Gathering
gathering_seen gatherings.Alone = rules.alone
gathering_seen (gatherings.Set lower upper) = rules.in_set lower upper
gathering_seen (gatherings.Bag lower upper) = rules.in_bag lower upper

abbrev pub inverse_seen : Schema → InverseAttribute → rules.InverseAttribute
inverse_seen s i = record {
  entity = name_at s i.entity;
  name = capitals i.name;
  gathering = gathering_seen i.gathering;
  referrer = name_at s i.referrer;
  inverted = place_at s i.inverted;
}

-- A label in capitals, or `?` and the number of a rule without a label.
abbrev pub label_seen : RuleLabel → Name
label_seen (labels.Written w) = capitals w
label_seen (labels.Numbered n) = label_of n None

abbrev pub unique_seen : Schema → UniqueRule → rules.UniqueRule
unique_seen s u = record {
  entity = name_at s u.entity;
  label = label_seen u.label;
  is_checked = u.is_checked;
  places = map (place_at s) u.places.items;
}

abbrev pub rules_seen : Schema → RuleTables → rules.Rules
rules_seen s t = record {
  uniques = map (unique_seen s) t.uniques.items;
  inverses = map (inverse_seen s) t.inverses.items;
}

-- The numbers in the row are those of entities and of an explicit attribute.
pub record IsNumberedInverse (s : Schema) (i : InverseAttribute) : Type 0 where
  pub entity : HasNumber s (name_at s i.entity) i.entity
  pub referrer : HasNumber s (name_at s i.referrer) i.referrer
  pub inverted : i.inverted < length (all_places s)

-- The numbers in the row are those of an entity and of explicit attributes.
pub record IsNumberedUnique (s : Schema) (u : UniqueRule) : Type 0 where
  pub entity : HasNumber s (name_at s u.entity) u.entity
  pub places : Every (λ (q : ℕ). q < length (all_places s)) u.places.items

-- The numbers in the tables are those of entities and of explicit attributes.
pub record AreNumbered (s : Schema) (t : RuleTables) : Type 0 where
  pub uniques : Every (IsNumberedUnique s) t.uniques.items
  pub inverses : Every (IsNumberedInverse s) t.inverses.items
