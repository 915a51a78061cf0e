use Rattle.std.proofs.Common.{subst}
use Rattle.express_syntax.specs.declared.fault.NameFault.TheVariants.{DuplicateName, SupertypeCycle, TypeCycle}
use Rattle.schema_semantics.proofs.Faults.{none-unknown, resolved}
use Rattle.schema_names.specs.Schemas.{the_schema}
use Rattle.schema_faults.specs.steps.Shown.{IsShown}
use Rattle.schema_types.proofs.resolution.first_fault.Goals as goal

pub returns-in-Some : goal.returns-in-Some
returns-in-Some c =
    let s = the_schema c.args.names.now in (
      none-unknown s c.in_default.ensures,
      subst (IsShown s DuplicateName) c.in-Some.is c.in_ok-name.ensures,
    )

pub returns-in-Some-2 : goal.returns-in-Some-2
returns-in-Some-2 c =
    let s = the_schema c.args.names.now in (
      none-unknown s c.in_default.ensures,
      subst (IsShown s DuplicateName) c.in_default-2.is c.in_ok-name.ensures,
      subst (IsShown s SupertypeCycle) c.in-Some-2.is c.in_ok-name-2.ensures,
    )

pub returns-in-Some-3 : goal.returns-in-Some-3
returns-in-Some-3 c =
    let s = the_schema c.args.names.now in (
      none-unknown s c.in_default.ensures,
      subst (IsShown s DuplicateName) c.in_default-2.is c.in_ok-name.ensures,
      subst (IsShown s SupertypeCycle) c.in_default-3.is c.in_ok-name-2.ensures,
      subst (IsShown s TypeCycle) c.in-Some-3.is c.in_ok-name-3.ensures,
    )

pub returns : goal.returns
returns c =
    let s = the_schema c.args.names.now in
    resolved s c.in_default.ensures (subst (IsShown s DuplicateName) c.in_default-2.is c.in_ok-name.ensures)
    (subst (IsShown s SupertypeCycle) c.in_default-3.is c.in_ok-name-2.ensures)
    (subst (IsShown s TypeCycle) c.in_default-4.is c.in_ok-name-3.ensures)
