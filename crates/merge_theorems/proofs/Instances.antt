-- The population of a merged file.
use Rattle.std.specs.Prelude.{◌≡◌, ℕ, suc, ◌==◌, Bool, true, false, cond, List, [], ◌∷◌, ◌++◌, map, filter}
use Rattle.std.proofs.Common.{refl, sym, ap, ◌∙◌}
use Rattle.step_structures.specs.Trees.{ExchangeRow, Section, File}
use Rattle.step_structures.specs.Normal.{normal_rows, normal_sections, normal_file}
use Rattle.step_structures.specs.MergedTexts.{led_row, merged_sections, merged_file}
use Rattle.step_structures.specs.MergedTexts as texts
use Rattle.express_syntax.specs.Schemas.{Schema}
use Rattle.conformance.specs.Bases.{Domain}
use Rattle.conformance.specs.Entities.{Entities}
use Rattle.conformance.specs.Populations.{Instance, instance_of, instances_from, population_of}
use Rattle.merge_theorems.specs.MergedPopulations.{led_instance, merged_instances}
use Rattle.merge_theorems.proofs.Values.{instance_led}

module _ (h : ℕ → ℕ) where
  abbrev stays : Instance → Bool
  stays i = h i.name == i.name

  pub merged_append : (xs ys : List Instance)
      → merged_instances h (xs ++ ys) ≡ merged_instances h xs ++ merged_instances h ys
  merged_append [] ys = refl
  merged_append (x ∷ xs) ys = go (stays x) (merged_append xs ys)
    where
      go : (b : Bool) → merged_instances h (xs ++ ys) ≡ merged_instances h xs ++ merged_instances h ys
          → map (led_instance h) (cond b (x ∷ filter stays (xs ++ ys)) (filter stays (xs ++ ys)))
          ≡ map (led_instance h) (cond b (x ∷ filter stays xs) (filter stays xs)) ++ merged_instances h ys
      go true e = ap (λ l. led_instance h x ∷ l) e
      go false e = e

  module _ (s : Schema) (d : Domain) (en : Entities) where
    rows_merged : (k : ℕ) (rs : List ExchangeRow) → map (instance_of s d en k) (normal_rows (texts.merged_rows h rs))
        ≡ merged_instances h (map (instance_of s d en k) rs)
    rows_merged k [] = refl
    rows_merged k (r ∷ rs) = go (h r.name == r.name) (rows_merged k rs)
      where
        go : (b : Bool) → map (instance_of s d en k) (normal_rows (texts.merged_rows h rs))
            ≡ merged_instances h (map (instance_of s d en k) rs)
            → map (instance_of s d en k) (normal_rows (map (led_row h)
            (cond b (r ∷ filter (λ (q : ExchangeRow). h q.name == q.name) rs) (filter (λ (q : ExchangeRow). h q.name == q.name) rs))))
            ≡ map (led_instance h) (cond b (instance_of s d en k r ∷ filter stays (map (instance_of s d en k) rs))
            (filter stays (map (instance_of s d en k) rs)))
        go true e = λ i. instance_led h s d en k r i ∷ e i
        go false e = e

    sections_merged : (k : ℕ) (xs : List Section) → instances_from s d en k (normal_sections (merged_sections h xs))
        ≡ merged_instances h (instances_from s d en k xs)
    sections_merged k [] = refl
    sections_merged k (x ∷ xs) =
        (λ i. rows_merged k x.rows i ++ sections_merged (suc k) xs i)
        ∙ sym (merged_append (map (instance_of s d en k) x.rows) (instances_from s d en (suc k) xs))

    pub population_merged : (f : File)
        → population_of s d en (normal_file (merged_file h f)) ≡ merged_instances h (population_of s d en f)
    population_merged f = sections_merged 0 f.sections
