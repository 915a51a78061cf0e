-- Which underlying types have values that are bags.
use Rattle.std.specs.Prelude.{Bool, false}
use Rattle.conformance.specs.Bases.{Base, aggregate}
use Rattle.conformance.specs.ParameterFits.{has_no_order}

abbrev pub makes_bag : Base → Bool
makes_bag (aggregate a) = has_no_order a.collection
makes_bag b = false
