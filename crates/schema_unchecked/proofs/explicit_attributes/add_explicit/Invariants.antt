use Rattle.std.proofs.Common.{◌++◌, map, take}
use Rattle.express_syntax.specs.ExpressionViews.{capitals}
use Rattle.express_syntax.specs.Schemas.{Attribute}
use Rattle.express_syntax.specs.Views.{attribute_of, data_type_of}
use Rattle.schema_semantics.specs.Parts.{for_each, attribute_label, parts_of_redeclared, parts_of_data_type}
use Rattle.schema_attribute_references.specs.steps.Taking.{schema_in}
use Rattle.schema_unchecked_declarations.specs.UncheckedLists.{Adds, unchecked_in}
use Rattle.schema_unchecked.proofs.explicit_attributes.add_explicit.Given as goal

abbrev pub invariant-loop-attribute : goal.invariant-loop-attribute
invariant-loop-attribute l =
    Adds (for_each (λ (a : Attribute).
    parts_of_redeclared (schema_in l.findings.known) (capitals l.holder) (data_type_of l.explicit.data_type) a
    ++ parts_of_data_type (attribute_label (capitals l.holder) a) (data_type_of l.explicit.data_type))
    (map attribute_of (take l.attribute-index l.attribute-items)))
    (unchecked_in l.initial.list.items) (unchecked_in l.list.items)
