use Rattle.express_syntax.specs.Views.{attribute_of, data_type_of, names_of}
use Rattle.schema_semantics.specs.Faults.{demands_of_attribute, demands_of_data_type}
use Rattle.schema_names.specs.Schemas.{the_schema}
use Rattle.schema_faults.proofs.Unmet.{checks-on}
use Rattle.schema_faults.proofs.entities.check_derived.Goals as goal

pub returns : goal.returns
returns c =
    checks-on (the_schema c.args.names.now)
    (demands_of_attribute (names_of c.args.supertypes.now) (attribute_of c.args.derived.now.attribute))
    (demands_of_data_type (data_type_of c.args.derived.now.data_type)) c.check_data_type.result
    c.in_ok-check_attribute.ensures c.check_data_type.ensures
