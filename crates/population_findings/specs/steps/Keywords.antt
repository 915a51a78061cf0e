-- The entities that records name, by number.
use Rattle.std.specs.Prelude.{◌≡◌, ℕ, Bool, true, false, not, List, [], Option, None, Some}
use Rattle.std.specs.List.{list_all}
use Rattle.step_literals.specs.declared.literal.Word.{Word}
use Rattle.step_structures.specs.Trees.{Tree, Record}
use Rattle.step_exchange.specs.Views.{record_of, begins_with_keyword}
use Rattle.express_syntax.specs.Schemas.{Schema}
use Rattle.schema_semantics.specs.Names.{Name, IsEntity}
use Rattle.schema_names.specs.Numbers.{HasNumber}
use Rattle.conformance.specs.ParameterFits.{is_entity}
use Rattle.conformance.specs.Entities.{named_entity, how_many}
use Rattle.population_forms.specs.steps.Forms.{NameEntities}

-- the first tree is the keyword w, or no keyword
abbrev pub BeginsWith : List Tree → Option Word → Type 0
BeginsWith xs None = (begins_with_keyword xs ≡ false) × ((record_of xs).keyword ≡ [])
BeginsWith xs (Some w) = (begins_with_keyword xs ≡ true) × ((record_of xs).keyword ≡ w.text.now)

-- i is the number of the entity called n, or there is no such entity
abbrev pub IsEntityOf : Schema → Name → Option ℕ → Type 0
IsEntityOf s n None = is_entity s n ≡ false
IsEntityOf s n (Some i) = (is_entity s n ≡ true) × IsEntity s n × HasNumber s n i

-- all keywords are entities
abbrev pub are_entities : Schema → List Record → Bool
are_entities s rs = list_all (λ (q : Record). is_entity s (named_entity q)) rs

-- is are the numbers of the entities that the records name, or one keyword isn't an entity
abbrev pub NumberAll : Schema → List Record → List ℕ → Bool → Type 0
NumberAll s rs is true = (are_entities s rs ≡ true) × NameEntities s rs is
NumberAll s rs is false = are_entities s rs ≡ false

-- how many records name no entity
abbrev pub unknown_among : Schema → List Record → ℕ
unknown_among s rs = how_many (λ (r : Record). not (is_entity s (named_entity r))) rs
