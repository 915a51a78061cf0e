use Rattle.std.proofs.Common.{◌+◌, ◌*◌, ◌-◌}
use Rattle.express_parts.proofs.data_types.+data_types.Given as goal

abbrev pub decreases-array : goal.decreases-array
decreases-array l = 7 * (64 - l.depth)

abbrev pub decreases-list : goal.decreases-list
decreases-list l = 7 * (64 - l.depth)

abbrev pub decreases-collection : goal.decreases-collection
decreases-collection l = 7 * (64 - l.depth)

abbrev pub decreases-aggregate : goal.decreases-aggregate
decreases-aggregate l = 7 * (64 - l.depth) + 1

abbrev pub decreases-data_type_from : goal.decreases-data_type_from
decreases-data_type_from l = 7 * (64 - l.depth) + 2

abbrev pub decreases-data_type : goal.decreases-data_type
decreases-data_type l = 7 * (64 - l.depth) + 3

abbrev pub decreases-element_from : goal.decreases-element_from
decreases-element_from l = 7 * (64 - l.depth) + 4

abbrev pub decreases-element : goal.decreases-element
decreases-element l = 7 * (64 - l.depth) + 5

abbrev pub decreases-optional_element : goal.decreases-optional_element
decreases-optional_element l = 7 * (64 - l.depth) + 6
