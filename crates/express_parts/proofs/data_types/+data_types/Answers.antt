use Rattle.std.proofs.lemmas.Result.{err_from_is_err_and}
use Rattle.std.proofs.Common.{rules, ◌<◌, ◌+◌, [], ◌∷◌, ◌++◌, sym, ap, ◌∙◌}
use Rattle.express_syntax.specs.declared.keyword.Keyword.TheVariants as keywords
use Rattle.express_syntax.specs.Words.{keyword}
use Rattle.express_syntax.specs.Grammar.{depth_limit}
use Rattle.express_token_runs.specs.steps.Items.{located_of}
use Rattle.express_syntax.specs.Texts.{token}
use Rattle.express_syntax.specs.Views.{data_type_of, bounds_of, if_some}
use Rattle.express_syntax.specs.WrittenSchemas.{said, words_of_some_bounds}
use Rattle.express_parts.specs.steps.Endings.{ending_of}
use Rattle.express_syntax.specs.steps.Predict.{BoundsOrOf, UniqueOr, DataTypeThen}
use Rattle.express_parts.proofs.DataTypeSteps.{data_type_behind_or, data_type_stopped, last_aggregate, array_symbols, next_array, next_list, next_bag, next_set, bag_done, set_done, array_bounds, array_stopped, array_done, bounded_stopped, collection_done, list_done, begins_or, unique_said, unique_unsaid_stopped, optional_stopped, optional_said, optional_unsaid_stopped, optional_unsaid}
use Rattle.express_syntax.proofs.SameText.{shows_text, passes_text, kept, kept_ok}
use Rattle.express_syntax.specs.Sources.{IsBoundsOf, IsDataTypeOf}
use Rattle.express_parts.proofs.DataTypeSources.{named_of}
use Rattle.express_parts.proofs.data_types.+data_types.Goals as goal

pub aggregate-returns-in_err-bounds-in-Bag-clause-read : goal.aggregate-returns-in_err-bounds-in-Bag-clause-read
aggregate-returns-in_err-bounds-in-Bag-clause-read t c =
    let h : c.args.depth < depth_limit = search rules in
    let p = err_from_is_err_and c.from_residual.result c.from_residual.ensures.1 in
    rw (p.1, p.2) (data_type_stopped _ (keyword keywords.Bag) (BoundsOrOf c.args.depth ∷ DataTypeThen (c.args.depth + 1)
    (ending_of c.args.end) ∷ []) c.args.depth (ending_of c.args.end) (located_of c.args.first) c.args.reader.now
    (c.requires.first ∙ ap (λ k. token (keyword k)) c.in-Bag.is) (next_bag c.args.depth (ending_of c.args.end) h)
    c.in_err-bounds-in-Bag.ensures.read)

pub aggregate-returns-in_err-bounds-in_default-clause-read : goal.aggregate-returns-in_err-bounds-in_default-clause-read
aggregate-returns-in_err-bounds-in_default-clause-read t c =
    let h : c.args.depth < depth_limit = search rules in
    let p = err_from_is_err_and c.from_residual-in_err-bounds-in_default.result
    c.from_residual-in_err-bounds-in_default.ensures.1 in
    rw (p.1, p.2) (data_type_stopped _ (keyword keywords.Set) (BoundsOrOf c.args.depth ∷ DataTypeThen (c.args.depth + 1)
    (ending_of c.args.end) ∷ []) c.args.depth (ending_of c.args.end) (located_of c.args.first) c.args.reader.now
    (c.requires.first ∙ ap (λ k. token (keyword k)) (last_aggregate c.args.found c.requires.found
    c.in_default.not-Array c.in_default.not-List c.in_default.not-Bag))
    (next_set c.args.depth (ending_of c.args.end) h) c.in_err-bounds-in_default.ensures.read)

pub aggregate-returns-in-Array-clause-read : goal.aggregate-returns-in-Array-clause-read
aggregate-returns-in-Array-clause-read t c =
    let h : c.args.depth < depth_limit = search rules in
    data_type_behind_or data_type_of (keyword keywords.Array) (array_symbols c.args.depth (ending_of c.args.end))
    c.args.depth (ending_of c.args.end) (located_of c.args.first) c.array.result c.args.reader.now
    c.array.new.reader (c.requires.first ∙ ap (λ k. token (keyword k)) c.in-Array.is)
    (next_array c.args.depth (ending_of c.args.end) h) c.array.ensures.read

pub aggregate-returns-in-List-clause-read : goal.aggregate-returns-in-List-clause-read
aggregate-returns-in-List-clause-read t c =
    let h : c.args.depth < depth_limit = search rules in
    data_type_behind_or data_type_of (keyword keywords.List) (BoundsOrOf c.args.depth ∷ UniqueOr (c.args.depth + 1)
    (ending_of c.args.end) ∷ []) c.args.depth (ending_of c.args.end) (located_of c.args.first) c.list.result
    c.args.reader.now c.list.new.reader (c.requires.first ∙ ap (λ k. token (keyword k)) c.in-List.is)
    (next_list c.args.depth (ending_of c.args.end) h) c.list.ensures.read

pub aggregate-returns-in_ok-bounds-in-Bag-clause-read : goal.aggregate-returns-in_ok-bounds-in-Bag-clause-read
aggregate-returns-in_ok-bounds-in-Bag-clause-read t c =
    let h : c.args.depth < depth_limit = search rules in
    let x = c.in_ok-bounds-in-Bag.ensures.read in
    rw c.bag.ensures.data_type
    (bag_done c.args.depth (ending_of c.args.end) (if_some bounds_of c.in_ok-bounds-in-Bag.bounds.value)
    (data_type_of c.in_ok-bounds-in-Bag.element.value) (located_of c.args.first) c.args.reader.now
    c.collection.new.reader (c.requires.first ∙ ap (λ k. token (keyword k)) c.in-Bag.is) h x.0 x.1)

pub aggregate-returns-in_ok-bounds-in_default-clause-read : goal.aggregate-returns-in_ok-bounds-in_default-clause-read
aggregate-returns-in_ok-bounds-in_default-clause-read t c =
    let h : c.args.depth < depth_limit = search rules in
    let x = c.in_ok-bounds-in_default.ensures.read in
    rw c.set.ensures.data_type
    (set_done c.args.depth (ending_of c.args.end) (if_some bounds_of c.in_ok-bounds-in_default.bounds.value)
    (data_type_of c.in_ok-bounds-in_default.element.value) (located_of c.args.first) c.args.reader.now
    c.collection-in_default.new.reader (c.requires.first ∙ ap (λ k. token (keyword k))
    (last_aggregate c.args.found c.requires.found c.in_default.not-Array c.in_default.not-List
    c.in_default.not-Bag)) h x.0 x.1)

pub array-returns-in_err-bounds-clause-read : goal.array-returns-in_err-bounds-clause-read
array-returns-in_err-bounds-clause-read t c =
    let p = err_from_is_err_and c.from_residual-in_err-bounds.result c.from_residual-in_err-bounds.ensures.1 in
    rw (p.1, p.2) (array_bounds _ c.args.depth (ending_of c.args.end) c.args.reader.now c.expect.new.self
    c.in_ok-expect.ensures c.in_err-bounds.ensures.read)

pub array-returns-in_err-is_optional-clause-read : goal.array-returns-in_err-is_optional-clause-read
array-returns-in_err-is_optional-clause-read t c =
    let x = c.in_ok-bounds.ensures.read in
    let p = err_from_is_err_and c.from_residual-in_err-is_optional.result c.from_residual-in_err-is_optional.ensures.1
    in
    rw (p.1, p.2) (array_stopped _ c.args.depth (ending_of c.args.end) x.1 c.args.reader.now c.expect.new.self
    c.boxed_indices.new.reader c.in_ok-expect.ensures x.3 c.in_err-is_optional.ensures.read)

pub array-returns-clause-read : goal.array-returns-clause-read
array-returns-clause-read t c =
    let x = c.in_ok-bounds.ensures.read in
    rw c.array.ensures.data_type (array_done c.args.depth (ending_of c.args.end) (bounds_of c.in_ok-bounds.bounds.value)
    c.in_ok-is_optional.is_optional c.in_ok-is_optional.is_unique (data_type_of c.in_ok-is_optional.element.value)
    x.1 c.args.reader.now c.expect.new.self c.boxed_indices.new.reader c.optional_element.new.reader c.requires.depth
    c.in_ok-expect.ensures x.0 x.2 x.3 c.in_ok-is_optional.ensures.read)

pub collection-returns-in_err-element-clause-read : goal.collection-returns-in_err-element-clause-read
collection-returns-in_err-element-clause-read t c =
    let p = err_from_is_err_and c.from_residual-in_err-element.result c.from_residual-in_err-element.ensures.1 in
    rw (p.1, p.2) (bounded_stopped _ c.args.depth (DataTypeThen (c.args.depth + 1) (ending_of c.args.end))
    (words_of_some_bounds (if_some bounds_of c.in_ok-bounds.bounds.value) ++ keyword keywords.Of ∷ []) c.args.reader.now
    c.boxed_bounds.new.reader c.in_ok-bounds.ensures.read.1 c.in_err-element.ensures.read)

pub collection-returns-clause-read : goal.collection-returns-clause-read
collection-returns-clause-read t c =
    rw c.in_ok-boxed.ensures.ok (collection_done c.args.depth (ending_of c.args.end)
    (if_some bounds_of c.in_ok-bounds.bounds.value) (data_type_of c.in_ok-element.element) c.args.reader.now
    c.boxed_bounds.new.reader c.data_type.new.reader c.in_ok-bounds.ensures.read.0 c.in_ok-bounds.ensures.read.1
    c.in_ok-element.ensures.read)

pub element-returns-clause-read : goal.element-returns-clause-read
element-returns-clause-read t c =
    begins_or (λ x. data_type_of x.1.value) (λ x. said keywords.Unique x.0)
    (UniqueOr c.args.depth (ending_of c.args.end) ∷ []) c.args.depth (ending_of c.args.end)
    (located_of c.in_ok-first.first) c.element_from.result c.args.reader.now c.take.new.self
    c.element_from.new.reader c.in_ok-first.ensures c.element_from.ensures.read

pub data_type-returns-clause-read : goal.data_type-returns-clause-read
data_type-returns-clause-read t c =
    begins_or data_type_of (λ _. []) (DataTypeThen c.args.depth (ending_of c.args.end) ∷ []) c.args.depth
    (ending_of c.args.end) (located_of c.in_ok-first.first) c.data_type_from.result c.args.reader.now
    c.take.new.self c.data_type_from.new.reader c.in_ok-first.ensures c.data_type_from.ensures.read

pub element_from-returns-then-is_keyword-clause-read : goal.element_from-returns-then-is_keyword-clause-read
element_from-returns-then-is_keyword-clause-read t c =
    rw c.in_ok-placed.ensures.ok (unique_said c.args.depth (ending_of c.args.end) (located_of c.args.first)
    (data_type_of c.in_ok-unique.unique) c.args.reader.now c.data_type.new.reader (sym c.is_keyword.ensures
    ∙ c.if-is_keyword.true) c.in_ok-unique.ensures.read)

pub element_from-returns-in_err-other-clause-read : goal.element_from-returns-in_err-other-clause-read
element_from-returns-in_err-other-clause-read t c =
    let p = err_from_is_err_and c.from_residual-in_err-other.result c.from_residual-in_err-other.ensures.1 in
    rw (p.1, p.2) (unique_unsaid_stopped _ c.args.depth (ending_of c.args.end) (located_of c.args.first)
    c.args.reader.now (sym c.is_keyword.ensures ∙ c.if-is_keyword.false) c.in_err-other.ensures.read)

pub list-returns-in_err-is_unique-clause-read : goal.list-returns-in_err-is_unique-clause-read
list-returns-in_err-is_unique-clause-read t c =
    let p = err_from_is_err_and c.from_residual-in_err-is_unique.result c.from_residual-in_err-is_unique.ensures.1 in
    rw (p.1, p.2) (bounded_stopped _ c.args.depth (UniqueOr (c.args.depth + 1) (ending_of c.args.end))
    (words_of_some_bounds (if_some bounds_of c.in_ok-bounds.bounds.value) ++ keyword keywords.Of ∷ []) c.args.reader.now
    c.boxed_bounds.new.reader c.in_ok-bounds.ensures.read.1 c.in_err-is_unique.ensures.read)

pub list-returns-clause-read : goal.list-returns-clause-read
list-returns-clause-read t c =
    rw c.list.ensures.data_type (list_done c.args.depth (ending_of c.args.end) (if_some bounds_of c.in_ok-bounds.bounds.value)
    c.in_ok-is_unique.is_unique (data_type_of c.in_ok-is_unique.element.value) c.args.reader.now
    c.boxed_bounds.new.reader c.element.new.reader c.requires.depth c.in_ok-bounds.ensures.read.0
    c.in_ok-bounds.ensures.read.1
    c.in_ok-is_unique.ensures.read)

pub optional_element-returns-in_err-is_unique-clause-read : goal.optional_element-returns-in_err-is_unique-clause-read
optional_element-returns-in_err-is_unique-clause-read t c =
    let p = err_from_is_err_and c.from_residual-in_err-is_unique.result c.from_residual-in_err-is_unique.ensures.1 in
    rw (p.1, p.2) (optional_stopped _ c.args.depth (ending_of c.args.end) (located_of c.in_ok-first.first)
    c.args.reader.now c.take.new.self c.in_ok-first.ensures (sym c.is_keyword.ensures ∙ c.if-is_keyword.true)
    c.in_err-is_unique.ensures.read)

pub optional_element-returns-then-is_keyword-clause-read : goal.optional_element-returns-then-is_keyword-clause-read
optional_element-returns-then-is_keyword-clause-read t c =
    optional_said c.args.depth (ending_of c.args.end) (located_of c.in_ok-first.first) c.in_ok-is_unique.is_unique
    (data_type_of c.in_ok-is_unique.optional.value) c.args.reader.now c.take.new.self c.element.new.reader
    c.in_ok-first.ensures (sym c.is_keyword.ensures ∙ c.if-is_keyword.true) c.in_ok-is_unique.ensures.read

pub optional_element-returns-in_err-unique-clause-read : goal.optional_element-returns-in_err-unique-clause-read
optional_element-returns-in_err-unique-clause-read t c =
    let p = err_from_is_err_and c.from_residual-in_err-unique.result c.from_residual-in_err-unique.ensures.1 in
    rw (p.1, p.2) (optional_unsaid_stopped _ c.args.depth (ending_of c.args.end) (located_of c.in_ok-first.first)
    c.args.reader.now c.take.new.self c.in_ok-first.ensures (sym c.is_keyword.ensures ∙ c.if-is_keyword.false)
    c.in_err-unique.ensures.read)

pub optional_element-returns-clause-read : goal.optional_element-returns-clause-read
optional_element-returns-clause-read t c =
    optional_unsaid c.args.depth (ending_of c.args.end) (located_of c.in_ok-first.first) c.in_ok-unique.unique
    (data_type_of c.in_ok-unique.other.value) c.args.reader.now c.take.new.self c.element_from.new.reader
    c.in_ok-first.ensures (sym c.is_keyword.ensures ∙ c.if-is_keyword.false) c.in_ok-unique.ensures.read

pub aggregate-returns-in_ok-bounds-in-Bag-clause-text : goal.aggregate-returns-in_ok-bounds-in-Bag-clause-text
aggregate-returns-in_ok-bounds-in-Bag-clause-text t c =
    let x = c.in_ok-bounds-in-Bag.ensures.text in c.bag.ensures.text _ x.0 x.1

pub aggregate-returns-in_ok-bounds-in_default-clause-text : goal.aggregate-returns-in_ok-bounds-in_default-clause-text
aggregate-returns-in_ok-bounds-in_default-clause-text t c =
    let x = c.in_ok-bounds-in_default.ensures.text in c.set.ensures.text _ x.0 x.1

pub array-returns-clause-text : goal.array-returns-clause-text
array-returns-clause-text t c =
    let e = passes_text c.in_ok-expect.ensures in
    c.array.ensures.text _ (kept IsBoundsOf c.in_ok-bounds.bounds.value e c.in_ok-bounds.ensures.text)
    (kept IsDataTypeOf c.in_ok-is_optional.element.value (passes_text c.in_ok-bounds.ensures.read.3 ∙ e)
    c.in_ok-is_optional.ensures.text)

pub list-returns-clause-text : goal.list-returns-clause-text
list-returns-clause-text t c =
    c.list.ensures.text _ c.in_ok-bounds.ensures.text (kept IsDataTypeOf c.in_ok-is_unique.element.value
    (passes_text c.in_ok-bounds.ensures.read.1) c.in_ok-is_unique.ensures.text)

pub collection-returns-clause-text : goal.collection-returns-clause-text
collection-returns-clause-text t c = (
  c.in_ok-bounds.ensures.text,
  rw c.in_ok-boxed.ensures.ok (kept IsDataTypeOf c.in_ok-element.element
      (passes_text c.in_ok-bounds.ensures.read.1) c.in_ok-element.ensures.text),
)

pub element-returns-clause-text : goal.element-returns-clause-text
element-returns-clause-text t c =
    kept_ok (λ s x. IsDataTypeOf s x.1.value) c.element_from.result (shows_text _ _ _ c.in_ok-first.ensures)
    c.element_from.ensures.text

pub data_type-returns-clause-text : goal.data_type-returns-clause-text
data_type-returns-clause-text t c =
    kept_ok IsDataTypeOf c.data_type_from.result (shows_text _ _ _ c.in_ok-first.ensures)
    c.data_type_from.ensures.text

pub optional_element-returns-then-is_keyword-clause-text : goal.optional_element-returns-then-is_keyword-clause-text
optional_element-returns-then-is_keyword-clause-text t c =
    kept IsDataTypeOf c.in_ok-is_unique.optional.value (shows_text _ _ _ c.in_ok-first.ensures)
    c.in_ok-is_unique.ensures.text

pub optional_element-returns-clause-text : goal.optional_element-returns-clause-text
optional_element-returns-clause-text t c =
    kept IsDataTypeOf c.in_ok-unique.other.value (shows_text _ _ _ c.in_ok-first.ensures)
    c.in_ok-unique.ensures.text

pub data_type_from-returns-in-Name-clause-text : goal.data_type_from-returns-in-Name-clause-text
data_type_from-returns-in-Name-clause-text t c = c.ended.ensures.text _ (named_of _ _)
