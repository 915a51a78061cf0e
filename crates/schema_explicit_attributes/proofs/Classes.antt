-- The own attributes of an entity, by their classes.
use Rattle.std.specs.Prelude.{◌≡◌, ℕ, Bool, true, false, ◌||◌, List, [], ◌∷◌, ◌++◌, Option, None, Some, bytes_eq, slice_get}
use Rattle.std.proofs.Common.{refl, ap, sym, ◌∙◌}
use Rattle.std.proofs.lemmas.List.{append_assoc}
use Rattle.std.proofs.lemmas.List.Folds.{list_any-append}
use Rattle.std.proofs.lemmas.Slice.Eq.{bytes_eq-Decides}
use Rattle.express_syntax.specs.Schemas.{Schema, Declaration, type, entity, skipped}
use Rattle.schema_semantics.specs.Names.{Name, explicit_names, derived_names, inverse_names}
use Rattle.schema_names.specs.declared.attribute_names.Class.TheVariants as classes
use Rattle.schema_names.specs.steps.Enumerated as names
use Rattle.schema_names.specs.steps.OwnNames.{some_names, names_at}
use Rattle.schema_explicit_attributes.specs.declared.own_attributes.Meant.TheVariants.{All, Explicit}
use Rattle.schema_explicit_attributes.specs.steps.Owned.{includes, declares_in, declares_at}

same-test : (a b : Bool) → (a ≡ true → b ≡ true) → (b ≡ true → a ≡ true) → a ≡ b
same-test true b f g = sym (f refl)
same-test false true f g = g refl
same-test false false f g = refl

turned : (m n : Name) → bytes_eq m n ≡ bytes_eq n m
turned m n =
    same-test (bytes_eq m n) (bytes_eq n m) (λ e. (bytes_eq-Decides n m).1 (sym ((bytes_eq-Decides m n).0 e)))
    (λ e. (bytes_eq-Decides m n).1 (sym ((bytes_eq-Decides n m).0 e)))

pub includes-turned : (ns : List Name) (a : Name) → names.includes ns a ≡ includes ns a
includes-turned [] a = refl
includes-turned (n ∷ ns) a =
    ap (λ b. b || names.includes ns a) (turned a n) ∙ ap (λ b. bytes_eq n a || b) (includes-turned ns a)

explicit-in : (a : Name) (o : Option Declaration) → includes (some_names classes.Explicit o) a ≡ declares_in Explicit a o
explicit-in a None = refl
explicit-in a (Some (type t)) = refl
explicit-in a (Some (entity e)) = refl
explicit-in a (Some (skipped p)) = refl

all-in : (a : Name) (o : Option Declaration)
    → (includes (some_names classes.Explicit o) a || includes (some_names classes.Other o) a) ≡ declares_in All a o
all-in a None = refl
all-in a (Some (type t)) = refl
all-in a (Some (entity e)) =
    sym (list_any-append (λ n. bytes_eq n a) (explicit_names e) (derived_names e ++ inverse_names e))
    ∙ ap (λ ns. includes ns a) (sym (append_assoc (explicit_names e) (derived_names e) (inverse_names e)))
all-in a (Some (skipped p)) = refl

pub explicit-at : (s : Schema) (a : Name) (i : ℕ) → includes (names_at s classes.Explicit i) a ≡ declares_at s Explicit a i
explicit-at s a i = explicit-in a (slice_get s.declarations i)

pub all-at : (s : Schema) (a : Name) (i : ℕ)
    → (includes (names_at s classes.Explicit i) a || includes (names_at s classes.Other i) a) ≡ declares_at s All a i
all-at s a i = all-in a (slice_get s.declarations i)
