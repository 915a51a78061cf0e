-- Findings that are added, one behind the other.
use Rattle.std.specs.Prelude.{◌≡◌, ℕ, ◌+◌, List, [], ◌∷◌, ◌++◌, map, flat_map, Some, slice_get}
use Rattle.std.proofs.Common.{refl, sym, subst, ap, ◌∙◌, append_assoc, append-nil, take}
use Rattle.std.proofs.lemmas.Grind.{flat_map-append}
use Rattle.std.proofs.lemmas.List.Concat.{flat_map-cons}
use Rattle.conformance.specs.RuleFindings.{Breach}
use Rattle.schema_constraints.specs.Findings.{IsFindingOf, AreFindingsOf}
use Rattle.schema_constraints.specs.declared.finding.RuleFinding.{RuleFinding}
use Rattle.schema_constraints.specs.declared.finding.RuleFindingKind.{RuleFindingKind}
use Rattle.typed_populations.proofs.Orders.{zip-joined}
use Rattle.schema_names.proofs.Rows.{map-joined}
use Rattle.population_inverses.specs.steps.Findings.{Adds}
use Rattle.population_inverses.proofs.Held.{take-next}

module _ (kind : RuleFindingKind) where
  pub adds-none : (old : List RuleFinding) → Adds kind [] old old
  adds-none old = ([], sym (append-nil old), tt)

  pub adds-one : (b : Breach) (f : RuleFinding) (old new : List RuleFinding) → IsFindingOf kind b f
      → new ≡ old ++ f ∷ [] → Adds kind (b ∷ []) old new
  adds-one b f old new h e = (f ∷ [], e, (h, tt))

  pub adds-more : (xs ys : List Breach) (old mid new : List RuleFinding) → Adds kind xs old mid → Adds kind ys mid new
      → Adds kind (xs ++ ys) old new
  adds-more xs ys old mid new a b = (
    a.0 ++ b.0,
    b.1 ∙ ap (λ l. l ++ b.0) a.1 ∙ append_assoc old a.0 b.0,
    zip-joined (IsFindingOf kind) xs ys a.0 b.0 a.2 b.2,
  )

  pub adds-all : (xs : List Breach) (new : List RuleFinding) → Adds kind xs [] new → AreFindingsOf kind xs new
  adds-all xs new a = subst (AreFindingsOf kind xs) (sym a.1) a.2

pub map-twice : {A B C : Type 0} (f : B → C) (g : A → B) (xs : List A) → map f (map g xs) ≡ map (λ x. f (g x)) xs
map-twice f g [] = refl
map-twice f g (x ∷ xs) = ap (λ l. f (g x) ∷ l) (map-twice f g xs)

-- one item more
pub flat-mapped : {A B C : Type 0} (f : B → List C) (g : A → B) (xs : List A) (k : ℕ) (x : A) → slice_get xs k ≡ Some x
    → flat_map f (map g (take (k + 1) xs)) ≡ flat_map f (map g (take k xs)) ++ f (g x)
flat-mapped f g xs k x at =
    ap (λ l. flat_map f (map g l)) (take-next xs k x at)
    ∙ ap (flat_map f) (map-joined g (take k xs) (x ∷ []))
    ∙ flat_map-append f (map g (take k xs)) (g x ∷ [])
    ∙ ap (λ l. flat_map f (map g (take k xs)) ++ l) (flat_map-cons f (g x) [] ∙ append-nil (f (g x)))
