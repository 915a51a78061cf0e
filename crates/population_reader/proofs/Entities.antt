-- The types of an instance are entities.
use Rattle.std.specs.Prelude.{◌≡◌, ℕ, Bool, true, false, cond, List, [], ◌∷◌, map, Some, slice_get}
use Rattle.std.specs.List.{filter}
use Rattle.std.proofs.Common.{refl, sym, ap, subst, ◌∙◌, inl, inr}
use Rattle.express_syntax.specs.Schemas.{Schema, entity}
use Rattle.express_syntax.specs.Profile.{Every}
use Rattle.schema_semantics.specs.Names.{Name, Among, IsEntity}
use Rattle.schema_semantics.specs.Faults.{IsResolved}
use Rattle.schema_semantics.proofs.Lists.{among-map, every-at, every-of}
use Rattle.schema_semantics.proofs.Recursion.{to-any}
use Rattle.schema_names.specs.Numbers.{HasNumber}
use Rattle.schema_names.proofs.Numbers.{stands-at}
use Rattle.schema_underlying_types.specs.BaseEntries.{is_some_entity, is_entity_at}
use Rattle.schema_underlying_types.specs.BaseViews.{name_at}
use Rattle.step_structures.specs.Trees as trees
use Rattle.step_structures.specs.Trees.{internal, external}
use Rattle.conformance.specs.Entities.{Entities, named_entity}
use Rattle.conformance.specs.ParameterFits.{entity_names, is_listed, is_entity}
use Rattle.population_forms.specs.steps.Forms.{IsFormOf}
use Rattle.population_rows.specs.declared.form.Form.{Form}
use Rattle.population_findings.proofs.Naming.{no-entity}

filtered : {A : Type 0} (test : A → Bool) (x : A) (xs : List A) → Among x (filter test xs) → Among x xs
filtered test x [] m = elim m [ ]
filtered test x (y ∷ xs) m = by (test y) m (filtered test x xs)
  where
    by : (b : Bool) → Among x (cond b (y ∷ filter test xs) (filter test xs)) → (Among x (filter test xs) → Among x xs)
        → Among x (y ∷ xs)
    by true (inl e) more = inl e
    by true (inr m) more = inr (more m)
    by false m more = inr (more m)

module _ (s : Schema) (resolved : IsResolved s) where
  at-entity : (i : ℕ) → HasNumber s (name_at s i) i → is_entity s (name_at s i) ≡ true → is_entity_at s i ≡ true
  at-entity i h is = by (is_entity_at s i) refl
    where
      none : is_entity_at s i ≡ false → IsEntity s (name_at s i) → ⊥
      none e (x, at) =
          let here : slice_get s.declarations i ≡ Some (entity x) = sym (stands-at s (name_at s i) i h) ∙ at in
          let yes : is_entity_at s i ≡ true = ap is_some_entity here in cc

      by : (b : Bool) → is_entity_at s i ≡ b → is_entity_at s i ≡ true
      by true e = e
      by false e = let no = no-entity s resolved (name_at s i) (none e) in absurd (cc)

  passing-entities : (test : Name → Bool) (xs : List ℕ) → Every (λ i. HasNumber s (name_at s i) i) xs
      → map (name_at s) xs ≡ filter test (entity_names s) → Every (λ i. is_entity_at s i ≡ true) xs
  passing-entities test xs numbered e =
      every-of (λ i. is_entity_at s i ≡ true) xs
      (λ i m. at-entity i (every-at (λ j. HasNumber s (name_at s j) j) i xs numbered m)
      (to-any (name_at s i) (entity_names s) (filtered test (name_at s i) (entity_names s)
      (subst (Among (name_at s i)) e (among-map (name_at s) i xs m)))))

  pub form-entities : (en : Entities) (f : trees.Form) (x : Form) → IsFormOf s en f x
      → Every (λ i. is_entity_at s i ≡ true) x.types.items
  form-entities en (internal r) x is =
      passing-entities (en.is_kind_of (named_entity r)) x.types.items is.numbered is.types
  form-entities en (external rs) x is =
      passing-entities (λ e. is_listed e (map named_entity rs)) x.types.items is.numbered is.types
