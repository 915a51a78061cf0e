-- What an instance pins by the rules of its form.
use Rattle.std.specs.Prelude.{◌≡◌, ℕ, zero, suc, IsTrue, List, [], ◌∷◌, map, Option, None, Some, ◌⊎◌, ◌↔◌}
use Rattle.std.specs.List.{AllZip}
use Rattle.std.proofs.Common.{sym, subst, ◌∙◌, inl, inr}
use Rattle.std.proofs.lemmas.Bool.{or_cases, or_left, or_right}
use Rattle.graphs.specs.Graphs.{graph_of}
use Rattle.express_syntax.specs.Schemas.{Schema}
use Rattle.express_syntax.specs.Profile.{Every}
use Rattle.schema_semantics.specs.Names.{OneOf}
use Rattle.schema_semantics.specs.Faults.{IsResolved}
use Rattle.schema_explicit_attributes.specs.Supertypes.{AreAbove}
use Rattle.schema_explicit_attributes.specs.Places.{all_places}
use Rattle.schema_explicit_attributes.proofs.Repeats.{AreOne}
use Rattle.schema_underlying_types.specs.BaseViews.{name_at}
use Rattle.conformance.specs.Choices.{MergeOptions}
use Rattle.conformance.specs.Entities.{Entities, AreEntities}
use Rattle.conformance.specs.ParameterFits.{is_listed}
use Rattle.conformance.specs.Populations.{Instance}
use Rattle.population_rows.specs.declared.form.Form.{Form}
use Rattle.conformance.specs.Pins.{HasUnchosenLeaf, OccursAt}
use Rattle.conformance.specs.Rules as rules
use Rattle.schema_constraints.specs.RuleViews.{unique_seen, IsNumberedUnique}
use Rattle.merge_choices.specs.ChosenEntities.{AreChosen}
use Rattle.typed_populations.specs.Rows.{instance_seen}
use Rattle.typed_populations.specs.PopulationTables.{form_among, ArePlaced, HaveEntities, AreNumbered}
use Rattle.step_values.specs.steps.Slots.{nth}
use Rattle.step_values.specs.Values.{Values}
use Rattle.population_pins.specs.steps.Forms.{has_unchosen_leaf, states_rule, keys_by, IsFormRules}
use Rattle.population_pins.specs.steps.Rows.{ArePinned, StandsInKey, PinsByForm, PinnedAt, PinnedBy, PinnedAmong}
use Rattle.population_pins.specs.declared.forms.FormRules.{FormRules}
use Rattle.population_pins.specs.declared.forms.Sources.{Sources}
use Rattle.population_pins.proofs.Formed.{unchosen, states, in-keys}

-- An instance of no type pins nothing.
module _ (s : Schema) (en : Entities) (those : MergeOptions) (y name section : ℕ) (vs : Values) where
  not-stated : (uniques : List rules.UniqueRule) → OneOf (λ (u : rules.UniqueRule). IsTrue (is_listed u.entity [])) uniques → ⊥
  not-stated [] h = h
  not-stated (u ∷ uniques) (inl e) = absurd (cc)
  not-stated (u ∷ uniques) (inr h) = not-stated uniques h

  no-key : (uniques : List rules.UniqueRule)
      → OneOf (StandsInKey s en those uniques y (instance_seen s name section None vs)) uniques → ⊥
  no-key uniques h = by uniques h
    where
      by : (us : List rules.UniqueRule)
          → OneOf (StandsInKey s en those uniques y (instance_seen s name section None vs)) us → ⊥
      by [] h = h
      by (u ∷ us) (inl (e, k)) = absurd (cc)
      by (u ∷ us) (inr h) = by us h

  pub nothing : (uniques : List rules.UniqueRule)
      → PinsByForm s en those uniques y (instance_seen s name section None vs) → ⊥
  nothing uniques (inl (e, inl h)) = h
  nothing uniques (inl (e, inr h)) = not-stated uniques h
  nothing uniques (inr (inl h)) = no-key uniques h
  nothing uniques (inr (inr h)) = h

module _ (s : Schema) (resolved : IsResolved s) (c : Sources) (above : AreAbove s (graph_of c.above.now))
    (uniques : Every (IsNumberedUnique s) c.uniques.now) (one : AreOne (all_places s)) (en : Entities)
    (are : AreEntities s en) (those : MergeOptions) (chosen : AreChosen s those c.chosen.now) (y name section : ℕ)
    (vs : Values) where
  abbrev All : List rules.UniqueRule
  All = map (unique_seen s) c.uniques.now

  abbrev Seen : Option Form → Instance
  Seen o = instance_seen s name section o vs

  formed : (x : Form) (r : FormRules) → IsFormRules c x r → AreNumbered s x → ArePlaced s (Some x)
      → HaveEntities s (Some x) → PinnedBy s those.in_sets x r name vs y ↔ PinsByForm s en those All y (Seen (Some x))
  formed x r is numbered placed entities = (
    (λ t. elim t [
      | inl (e, p) ↦ inl (e, itself p)
      | inr h ↦ elim h [ inl k ↦ inr (inl (keys.0 (subst (OneOf At) is.keys k))) | inr b ↦ inr (inr b) ]
    ]),
    (λ t. elim t [
      | inl (e, p) ↦ inl (e, back p)
      | inr h ↦ elim h [ inl k ↦ inr (inl (subst (OneOf At) (sym is.keys) (keys.1 k))) | inr b ↦ inr (inr b) ]
    ]),
  )
    where
      At : ℕ → Type 0
      At p = OccursAt y (nth vs p)

      keys : OneOf At (keys_by c.uniques.now x) ↔ OneOf (StandsInKey s en those All y (Seen (Some x))) All
      keys = in-keys s one x numbered placed y vs c.uniques.now uniques

      leaf : IsTrue (has_unchosen_leaf (graph_of c.above.now) c.chosen.now x.types.items)
          ↔ HasUnchosenLeaf s en those.entities (map (name_at s) x.types.items)
      leaf =
          unchosen s resolved (graph_of c.above.now) above en are those.entities c.chosen.now chosen.0 x.types.items
          numbered entities

      stated : IsTrue (states_rule c.uniques.now x.types.items)
          ↔ OneOf (λ (u : rules.UniqueRule). IsTrue (is_listed u.entity (map (name_at s) x.types.items))) All
      stated = states s c.uniques.now uniques x.types.items numbered

      itself : IsTrue r.is_pinned → ArePinned s en those All (map (name_at s) x.types.items)
      itself p = elim (or_cases (has_unchosen_leaf (graph_of c.above.now) c.chosen.now x.types.items)
          (states_rule c.uniques.now x.types.items) (sym is.is_pinned ∙ p)) [
            | inl k ↦ inl (leaf.0 k)
            | inr k ↦ inr (stated.0 k)
          ]

      back : ArePinned s en those All (map (name_at s) x.types.items) → IsTrue r.is_pinned
      back (inl h) =
          is.is_pinned ∙ or_left (has_unchosen_leaf (graph_of c.above.now) c.chosen.now x.types.items)
          (states_rule c.uniques.now x.types.items) (leaf.1 h)
      back (inr h) =
          is.is_pinned ∙ or_right (has_unchosen_leaf (graph_of c.above.now) c.chosen.now x.types.items)
          (states_rule c.uniques.now x.types.items) (stated.1 h)

  none-is : PinnedAmong s those.in_sets [] [] None name vs y ↔ PinsByForm s en those All y (Seen None)
  none-is = ((λ n. absurd n), (λ h. absurd (nothing s en those y name section vs All h)))

  pub row-is : (forms : List Form) (rows : List FormRules) → AllZip (IsFormRules c) forms rows
      → Every (AreNumbered s) forms → (o : Option ℕ) → ArePlaced s (form_among forms o)
      → HaveEntities s (form_among forms o)
      → PinnedAmong s those.in_sets forms rows o name vs y ↔ PinsByForm s en those All y (Seen (form_among forms o))
  row-is forms rows z numbered None placed entities = none-is
  row-is [] rows z numbered (Some n) placed entities = none-is
  row-is (x ∷ forms) [] z numbered (Some n) placed entities = absurd z
  row-is (x ∷ forms) (r ∷ rows) z numbered (Some zero) placed entities =
      formed x r z.0 numbered.0 placed entities
  row-is (x ∷ forms) (r ∷ rows) z numbered (Some (suc n)) placed entities =
      row-is forms rows z.1 numbered.1 (Some n) placed entities
