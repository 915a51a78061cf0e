-- A part that is listed with the reason that is found, or isn't.
use Rattle.std.specs.Prelude.{◌≡◌, List, [], ◌∷◌, ◌++◌, Option, None, Some}
use Rattle.std.proofs.Common.{sym, subst, ◌∙◌, append-nil}
use Rattle.schema_semantics.specs.declared.unchecked.Reason.{Reason}
use Rattle.schema_semantics.specs.Parts.{Unchecked, Candidate}
use Rattle.schema_unchecked.specs.steps.Judging.{IsFirstReason}
use Rattle.schema_unchecked_declarations.specs.UncheckedLists.{Adds}
use Rattle.schema_unchecked_declarations.proofs.Joining.{adds-one, adds-nothing}
use Rattle.schema_unchecked.specs.steps.Listing.{given}

pub adds-given : (c : Candidate) (o : Option Reason) (old new : List Unchecked) → IsFirstReason c.has_reason o
    → new ≡ old ++ given c.kind c.name o → Adds (c ∷ []) old new
adds-given c None old new never is =
    subst (λ us. Adds (c ∷ []) old us) (sym (is ∙ append-nil old)) (adds-nothing c old never)
adds-given c (Some r) old new first is = adds-one c r old new first is
