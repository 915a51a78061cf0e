-- Names without case, and what is told of an unknown one.
use Rattle.std.specs.Prelude.{◌≡◌, ℕ, Bool, List, map, Some, bytes_eq}
use Rattle.std.specs.Bool.{Decides}
use Rattle.std.specs.Char.{to_ascii_lowercase}
use Rattle.std.proofs.Common.{sym, ap, ◌∙◌}
use Rattle.std.proofs.lemmas.Bool.Decides.{same_from_decides}
use Rattle.std.proofs.lemmas.Slice.Eq.{bytes_eq-Decides}
use Rattle.step_literals.specs.Words.{upper}
use Rattle.step_literals.proofs.CaseLemmas.{same_without_case}
use Rattle.express_syntax.specs.Schemas.{Schema}
use Rattle.express_syntax.specs.declared.fault.NameFault.TheVariants.{UnknownName}
use Rattle.express_syntax.specs.declared.fault.SchemaFault.{SchemaFault}
use Rattle.express_syntax.specs.declared.fault.SchemaFault.TheVariants.{Text, Name as Faulted, Memory}
use Rattle.schema_semantics.specs.Names.{Name}
use Rattle.conformance.specs.Choices.{Choice, unknown_choice}
use Rattle.schema_types.specs.Resolution.{IsSaid}
use Rattle.merge_choices.specs.ChosenEntities.{IsChoiceFault}

-- names are one in capitals where they are one in small letters
pub one-name : (n m : List ℕ) (r : Bool) → Decides r (map to_ascii_lowercase n ≡ map to_ascii_lowercase m)
    → r ≡ bytes_eq (upper n) (upper m)
one-name n m r d =
    let same = same_without_case n m in
    sym (same_from_decides (bytes_eq (upper n) (upper m)) r (bytes_eq-Decides (upper n) (upper m))
    (λ t. same.0 (d.0 t), λ e. d.1 (same.1 e)))

-- what is told of the first unknown name
pub told : (s : Schema) (c : Choice) (n : Name) (f : SchemaFault) → unknown_choice s c ≡ Some n
    → IsSaid UnknownName n f → IsChoiceFault s c f
told s c n (Text k place) u h = elim h [ ]
told s c n (Faulted k text) u h = (h.0, u ∙ ap Some (sym h.1))
told s c n Memory u h = tt
