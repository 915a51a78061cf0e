-- What instances pin by their types, uniqueness rules, SETs and BAGs.
use Rattle.std.specs.Prelude.{◌≡◌, ℕ, Bool, IsTrue, List, Option, None, Some, ◌⊎◌, slice_get}
use Rattle.express_syntax.specs.Schemas.{Schema}
use Rattle.schema_semantics.specs.Names.{Name, OneOf}
use Rattle.schema_semantics.specs.Attributes.{Place}
use Rattle.conformance.specs.Choices.{MergeOptions}
use Rattle.conformance.specs.Entities.{Entities}
use Rattle.conformance.specs.ParameterFits.{is_listed}
use Rattle.conformance.specs.Populations.{Slot, Instance, slot_at}
use Rattle.conformance.specs.CollectionMembers.{InBag}
use Rattle.conformance.specs.Pins.{HasUnchosenLeaf, OccursAt}
use Rattle.conformance.specs.Rules.{UniqueRule}
use Rattle.population_rows.specs.declared.form.Form.{Form}
use Rattle.typed_populations.specs.Rows.{slots_seen}
use Rattle.step_values.specs.steps.Slots.{nth}
use Rattle.step_values.specs.Values.{Values}
use Rattle.population_pins.specs.declared.forms.FormRules.{FormRules}

module _ (s : Schema) (en : Entities) (chosen : MergeOptions) (uniques : List UniqueRule) where
  -- An instance that has these types is pinned: one that has no subtype among them isn't chosen, or
  -- one declares a uniqueness rule.
  abbrev pub ArePinned : List Name → Type 0
  ArePinned types =
      HasUnchosenLeaf s en chosen.entities types ⊎ OneOf (λ (u : UniqueRule). IsTrue (is_listed u.entity types)) uniques

  -- `y` occurs in a value of the instance `x` that the uniqueness rule names.
  abbrev pub StandsInKey : ℕ → Instance → UniqueRule → Type 0
  StandsInKey y x u =
      IsTrue (is_listed u.entity x.types) × OneOf (λ (p : Place). OccursAt y (slot_at x.slots p)) u.places

  -- The instance pins `y`: itself by its types, or `y` in its keys, or `y` in its SETs and BAGs.
  abbrev pub PinsByForm : ℕ → Instance → Type 0
  PinsByForm y x =
      ((y ≡ x.name) × ArePinned x.types)
      ⊎ (OneOf (StandsInKey y x) uniques ⊎ OneOf (λ (z : Slot). InBag chosen.in_sets y z.value) x.slots)

-- The rules of a form pin the instance with this name.
abbrev pub PinnedAt : FormRules → ℕ → ℕ → Type 0
PinnedAt r name y = (y ≡ name) × IsTrue r.is_pinned

-- `y` is pinned by an instance of this form, by these rules.
abbrev pub PinnedBy : Schema → Bool → Form → FormRules → ℕ → Values → ℕ → Type 0
PinnedBy s in_sets x r name vs y =
    PinnedAt r name y
    ⊎ (OneOf (λ p. OccursAt y (nth vs p)) r.keys.items
    ⊎ OneOf (λ (z : Slot). InBag in_sets y z.value) (slots_seen s x.slots.items vs))

abbrev pub PinnedWith : Schema → Bool → Option Form → Option FormRules → ℕ → Values → ℕ → Type 0
PinnedWith s in_sets (Some x) (Some r) name vs y = PinnedBy s in_sets x r name vs y
PinnedWith s in_sets x r name vs y = ⊥

-- `y` is pinned by an instance whose form has this number, if there is such a form.
abbrev pub PinnedAmong : Schema → Bool → List Form → List FormRules → Option ℕ → ℕ → Values → ℕ → Type 0
PinnedAmong s in_sets forms rows None name vs y = ⊥
PinnedAmong s in_sets forms rows (Some n) name vs y = PinnedWith s in_sets (slice_get forms n) (slice_get rows n) name vs y
