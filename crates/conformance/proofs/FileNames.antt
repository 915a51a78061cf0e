-- The names of the instances of a file.
use Rattle.std.specs.Prelude.{◌≡◌, ℕ, suc, ◌==◌, List, [], ◌∷◌, ◌++◌, map}
use Rattle.std.specs.List.{IsDistinct}
use Rattle.std.proofs.Common.{refl, ap, sym, subst, ◌∙◌}
use Rattle.std.proofs.lemmas.List.{map-append}
use Rattle.step_structures.specs.Trees.{ExchangeRow, Section, rows_of}
use Rattle.step_structures.proofs.Named.{rows_distinct}
use Rattle.express_syntax.specs.Schemas.{Schema}
use Rattle.conformance.specs.Bases.{Domain}
use Rattle.conformance.specs.Entities.{Entities}
use Rattle.conformance.specs.Populations.{Instance, instance_of, instances_from}
use Rattle.conformance.specs.RuleLaws.{names}
use Rattle.conformance.specs.RowLaws.{FilesNameInstances}

module _ (s : Schema) (d : Domain) (en : Entities) where
  own_names : (k : ℕ) (rs : List ExchangeRow) → names (map (instance_of s d en k) rs) ≡ map (λ (r : ExchangeRow). r.name) rs
  own_names k [] = refl
  own_names k (r ∷ rs) = ap (λ l. r.name ∷ l) (own_names k rs)

  -- the names of a population are those of the file
  pub names_from : (k : ℕ) (xs : List Section)
      → names (instances_from s d en k xs) ≡ map (λ (r : ExchangeRow). r.name) (rows_of xs)
  names_from k [] = refl
  names_from k (x ∷ xs) =
      map-append (λ (i : Instance). i.name) (map (instance_of s d en k) x.rows) (instances_from s d en (suc k) xs)
      ∙ (λ i. own_names k x.rows i ++ names_from (suc k) xs i)
      ∙ sym (map-append (λ (r : ExchangeRow). r.name) x.rows (rows_of xs))

pub files_name_instances : FilesNameInstances
files_name_instances s d en f =
    let same = names_from s d en 0 f.sections in (
      same,
      λ fits. subst (IsDistinct (◌==◌)) (sym same) (rows_distinct [] (rows_of f.sections) fits.1.2),
    )
