-- How many elements a value has.
use Rattle.std.proofs.Common.{◌≡◌, true, refl}
use Rattle.express_syntax.specs.declared.expression.Function.{Function}
use Rattle.express_syntax.specs.declared.expression.Function.TheVariants as functions
use Rattle.express_logic.specs.Data.{Datum, indeterminate, number, text, bits, element, logical, instance, typed, aggregate}
use Rattle.conformance.specs.Operations.{bare, size, queried}
use Rattle.conformance.specs.Expressions.{of_call}
use Rattle.rule_values.specs.steps.Forms.{is_sizeof}

pub sizeof-is : (f : Function) (d : Datum) → is_sizeof f ≡ true → size (bare d) ≡ of_call f d
sizeof-is functions.Sizeof d h = refl
sizeof-is functions.Exists d h = absurd (cc)
sizeof-is functions.Hiindex d h = absurd (cc)
sizeof-is functions.Loindex d h = absurd (cc)
sizeof-is functions.Typeof d h = absurd (cc)

-- what a query keeps has no type of its own
pub queried-bare : (f : Datum → Datum) (d : Datum) → queried f d ≡ bare (queried f d)
queried-bare f (aggregate s ds) = refl
queried-bare f indeterminate = refl
queried-bare f (number z) = refl
queried-bare f (text t) = refl
queried-bare f (bits t) = refl
queried-bare f (element t) = refl
queried-bare f (logical t) = refl
queried-bare f (instance t) = refl
queried-bare f (typed n t) = refl
