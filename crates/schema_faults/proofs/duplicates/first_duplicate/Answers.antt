use Rattle.std.proofs.Common.{None, refl, subst, map}
use Rattle.express_syntax.specs.Views.{declaration_of as declaration_seen}
use Rattle.schema_semantics.specs.Faults.{declared_from}
use Rattle.schema_names.specs.Schemas.{the_schema}
use Rattle.schema_faults.specs.steps.Repeated.{Sees}
use Rattle.schema_faults.specs.declared.declared_names.Seen.{Seen}
use Rattle.schema_faults.proofs.Seeing.{seen-nothing}
use Rattle.schema_faults.proofs.Declaring.{duplicate-shown}
use Rattle.schema_faults.proofs.duplicates.first_duplicate.Goals as goal

pub returns : goal.returns
returns c =
    let nothing : Seen = record { names = c.with_hasher.result; duplicate = None } in
    duplicate-shown (the_schema c.args.names.now) nothing c.see_all.new.seen
    (seen-nothing nothing c.with_hasher.ensures.empty refl)
    (subst (λ xs. Sees nothing c.see_all.new.seen (declared_from 1 (map declaration_seen xs))) c.declarations.ensures
    c.in_ok-see_all.ensures)
