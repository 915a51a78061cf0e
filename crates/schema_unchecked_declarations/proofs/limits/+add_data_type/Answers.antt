use Rattle.express_syntax.specs.Views.{if_some, bounds_of}
use Rattle.schema_semantics.specs.Parts.{parts_of_bounds, parts_of_some_bounds}
use Rattle.schema_unchecked_declarations.specs.UncheckedLists.{label_name, unchecked_in}
use Rattle.schema_unchecked_declarations.proofs.Layers.{parts-of-array, parts-of-others, elements-joined}
use Rattle.schema_unchecked_declarations.proofs.limits.+add_data_type.Goals as goal

pub returns-in_ok-add_bounds-in-Array : goal.returns-in_ok-add_bounds-in-Array
returns-in_ok-add_bounds-in-Array t c =
    let n = label_name c.args.label in
    let x = c.args.data_type.now in
    let b = c.in-Array.bounds in
    let k = c.in-Array.element in
    elements-joined c.add_data_type.result n x (parts_of_bounds n (bounds_of b.value)) c.deref-in-Array.result.now k.value
    (unchecked_in c.args.list.now.items) (unchecked_in c.add_bounds.new.list.items)
    (unchecked_in c.add_data_type.new.list.items)
    (parts-of-array n x c.in-Array.is_optional c.in-Array.is_unique b k c.in-Array.is)
    (rw c.deref.ensures at c.in_ok-add_bounds-in-Array.ensures) c.deref-in-Array.ensures c.add_data_type.ensures

pub returns-in_ok-add_some_bounds-in-List : goal.returns-in_ok-add_some_bounds-in-List
returns-in_ok-add_some_bounds-in-List t c =
    let n = label_name c.args.label in
    let x = c.args.data_type.now in
    let b = c.in-List.bounds in
    let k = c.in-List.element in
    elements-joined c.add_data_type-in-List.result n x (parts_of_some_bounds n (if_some bounds_of b.value))
    c.deref-in-List-2.result.now k.value (unchecked_in c.args.list.now.items)
    (unchecked_in c.add_some_bounds.new.list.items) (unchecked_in c.add_data_type-in-List.new.list.items)
    (parts-of-others n x b k c.in-List.is) (rw c.deref-in-List.ensures at c.in_ok-add_some_bounds-in-List.ensures)
    c.deref-in-List-2.ensures
    c.add_data_type-in-List.ensures
