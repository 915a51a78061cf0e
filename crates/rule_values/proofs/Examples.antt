-- Values by tables of data types, worked out.
use Rattle.std.proofs.Common.{◌≡◌, refl}
use Rattle.std.specs.Prelude.{pos, true, false, [], ◌∷◌, Some, codes}
use Rattle.step_values.specs.Leaves as leaves
use Rattle.step_values.specs.Values as values
use Rattle.step_values.specs.Values.{Value, leaf, reference}
use Rattle.express_syntax.specs.declared.expression.Logical.TheVariants.{True}
use Rattle.schema_underlying_types.specs.declared.base.Base.{Base}
use Rattle.schema_underlying_types.specs.declared.base.Base.TheVariants as bases
use Rattle.schema_underlying_types.specs.declared.base.Collection.TheVariants as collections
use Rattle.express_logic.specs.Data.{indeterminate, element, logical, instance, aggregate, array, none, more}
use Rattle.rule_values.specs.declared.types.ValueTypes.{ValueTypes}
use Rattle.rule_values.specs.TableValues.{coded_datum}
use Rattle.rule_values.specs.Parts.{picked}

-- an ARRAY [0:1] of what has number 7
abbrev pair : Base
pair = bases.Aggregate (record {
  collection = collections.Array;
  lower = Some (pos 0);
  upper = Some (pos 1);
  is_optional = true;
  is_unique = false;
  element = 7;
})

element-of-boolean : (t : ValueTypes)
    → coded_datum t bases.Boolean (leaf (leaves.element (codes "T"))) ≡ logical True
element-of-boolean t = refl

element-of-enumeration : (t : ValueTypes)
    → coded_datum t (bases.Enumeration 3) (leaf (leaves.element (codes "T"))) ≡ element (codes "T")
element-of-enumeration t = refl

instances-in-array : (t : ValueTypes)
    → coded_datum t pair (values.sequence (values.more (reference 4) (values.more (leaf leaves.unset) values.none)))
    ≡ aggregate (array (Some (pos 0)) (Some (pos 1))) (more (instance 4) (more indeterminate none))
instances-in-array t = refl

elements-kept : picked (1 ∷ 0 ∷ 1 ∷ 5 ∷ []) (more (instance 4) (more (instance 9) none))
    ≡ more (instance 9) (more (instance 4) (more (instance 9) (more indeterminate none)))
elements-kept = refl
