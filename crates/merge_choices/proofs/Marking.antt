-- The marks of declarations tell which entities are chosen.
use Rattle.std.specs.Prelude.{◌≡◌, ℕ, Bool, false, IsTrue, List, [], ◌∷◌, map, get_or, Some, slice_get}
use Rattle.std.proofs.Common.{refl, sym, ap, ◌∙◌, zero, suc}
use Rattle.express_syntax.specs.Schemas.{Schema, Declaration, type, entity, skipped, Entity}
use Rattle.schema_semantics.specs.Names.{Name, IsEntity, declared_name}
use Rattle.schema_names.specs.Numbers.{HasNumber, IsAt}
use Rattle.schema_names.proofs.Numbers.{what-stands, stands-at}
use Rattle.conformance.specs.ParameterFits.{is_listed}
use Rattle.conformance.specs.Choices.{ChosenNames, chosen_names}
use Rattle.merge_choices.specs.ChosenEntities.{is_chosen_name, is_marked}
use Rattle.merge_choices.proofs.Entities.{chosen-ones}

some-is : {A : Type 0} (x y : A) → Some x ≡ Some y → x ≡ y
some-is x y e = cc

mark-at : (names : ChosenNames) (ds : List Declaration) (i : ℕ) (d : Declaration) → slice_get ds i ≡ Some d
    → get_or (map (is_marked names) ds) i false ≡ is_marked names d
mark-at names [] i d h = absurd (cc)
mark-at names (x ∷ ds) zero d h = ap (is_marked names) (some-is x d h)
mark-at names (x ∷ ds) (suc i) d h = mark-at names ds i d h

pub marked : (s : Schema) (c : ChosenNames) (ms : List Bool) → ms ≡ map (is_marked c) s.declarations
    → (n : Name) (i : ℕ) → IsEntity s n → HasNumber s n i → get_or ms i false ≡ is_listed n (chosen_names s c)
marked s c ms h n i (x, at) k =
    let here : slice_get s.declarations i ≡ Some (entity x) = sym (stands-at s n i k) ∙ at in
    let (d, there, called) = what-stands s n i k in
    let same : d ≡ entity x = some-is d (entity x) (sym there ∙ here) in
    let is : x.name ≡ n = some-is x.name n (sym (ap declared_name same) ∙ called) in
    ap (λ xs. get_or xs i false) h
    ∙ mark-at c s.declarations i (entity x) here
    ∙ ap (is_chosen_name c) is
    ∙ chosen-ones s c n (x, at)

entity-marked : (names : ChosenNames) (ds : List Declaration) (i : ℕ) → IsTrue (get_or (map (is_marked names) ds) i false)
    → (x : Entity) × (slice_get ds i ≡ Some (entity x))
entity-marked names [] i t = absurd (cc)
entity-marked names (type d ∷ ds) zero t = absurd (cc)
entity-marked names (entity e ∷ ds) zero t = (e, refl)
entity-marked names (skipped p ∷ ds) zero t = absurd (cc)
entity-marked names (d ∷ ds) (suc i) t = entity-marked names ds i t

pub of-entities : (s : Schema) (c : ChosenNames) (ms : List Bool) → ms ≡ map (is_marked c) s.declarations
    → (i : ℕ) → IsTrue (get_or ms i false) → (x : Entity) × IsAt s i (entity x)
of-entities s c ms h i t =
    entity-marked c s.declarations i (sym (ap (λ xs. get_or xs i false) h) ∙ t)
