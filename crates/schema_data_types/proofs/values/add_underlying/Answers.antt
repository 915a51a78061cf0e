use Rattle.std.proofs.Common.{◌≡◌, ◌∙◌, ap, sym, subst, length, slice_get, Some, arith}
use Rattle.std.proofs.lemmas.List.{length-map}
use Rattle.std.proofs.lemmas.Option.{slice_get_within}
use Rattle.std.proofs.lemmas.Result.{on_ok_weaker}
use Rattle.graphs.specs.Graphs.{graph_of}
use Rattle.express_syntax.specs.Views.{names_of, data_type_of, underlying_of}
use Rattle.schema_semantics.specs.Names.{StandsFor}
use Rattle.schema_names.specs.Schemas.{the_schema}
use Rattle.schema_names.proofs.Numbers.{one-name}
use Rattle.schema_data_types.specs.declared.values.Sort.TheVariants as sorts
use Rattle.schema_data_types.specs.declared.values.Atom.TheVariants as atoms
use Rattle.schema_data_types.specs.NumberedTypes.{form_in, all_data_types}
use Rattle.schema_data_types.specs.steps.Values.{AddsAll}
use Rattle.schema_data_types.specs.steps.Leaves.{LeafGives, Gives}
use Rattle.schema_data_types.proofs.Sets.{adds-atom, adds-nothing, adds-alike}
use Rattle.schema_data_types.proofs.Declared.{underlying-at, gives-item, gives-none, gives-leaf}
use Rattle.schema_data_types.proofs.values.add_underlying.Goals as goal

pub returns-in_ok-push-in-Enumeration : goal.returns-in_ok-push-in-Enumeration
returns-in_ok-push-in-Enumeration c n k =
    let s = the_schema c.args.tables.now.names.now in
    let w = c.args.is_of_select in
    let old = c.args.atoms.now.items in
    let (m, there, stands) = c.requires.within in
    let here =
    subst (λ y. StandsFor s y (underlying_of c.args.underlying.now)) (one-name s m n c.args.part there k) stands in
    let items = names_of c.in-Enumeration.field-0.items in
    let is = subst (λ u. StandsFor s n (underlying_of u)) c.in-Enumeration.is here in
    subst (AddsAll s old (Gives s n w)) (sym c.in_ok-push-in-Enumeration.ensures.items)
    (adds-atom s old (atoms.Value sorts.Item w) (Gives s n w) (gives-item s n items w is))

pub returns-in-Select : goal.returns-in-Select
returns-in-Select c n k =
    let s = the_schema c.args.tables.now.names.now in
    let w = c.args.is_of_select in
    let (m, there, stands) = c.requires.within in
    let here =
    subst (λ y. StandsFor s y (underlying_of c.args.underlying.now)) (one-name s m n c.args.part there k) stands in
    let is = subst (λ u. StandsFor s n (underlying_of u)) c.in-Select.is here in
    adds-nothing s c.args.atoms.now.items (Gives s n w) (gives-none s n (names_of c.in-Select.field-0.items) w is)

pub add_leaf-requires-clause-within : goal.add_leaf-requires-clause-within
add_leaf-requires-clause-within c =
    let s = the_schema c.args.tables.now.names.now in
    let (n, there, stands) = c.requires.within in
    let k = data_type_of c.in-DataType.field-0 in
    let is = subst (λ u. StandsFor s n (underlying_of u)) c.in-DataType.is stands in
    let (m, first, at) =
    underlying-at s (graph_of c.args.tables.now.data_types.now.rows.items) c.requires.tables.rows n c.args.part k there is
    in
    let lt = slice_get_within (all_data_types s) m k at in
    let same : m ≡ c.in-Some.number = let q = sym first ∙ sym c.underlying_number.ensures ∙ c.in-Some.is in cc in
    let long = ap length c.requires.tables.forms ∙ length-map (all_data_types s) (form_in s) in
    omega (arith, lt, same, long)

pub returns-in-Some : goal.returns-in-Some
returns-in-Some c n has =
    let s = the_schema c.args.tables.now.names.now in
    let w = c.args.is_of_select in
    let (o, there, stands) = c.requires.within in
    let here =
    subst (λ y. StandsFor s y (underlying_of c.args.underlying.now)) (one-name s o n c.args.part there has) stands in
    let k = data_type_of c.in-DataType.field-0 in
    let is = subst (λ u. StandsFor s n (underlying_of u)) c.in-DataType.is here in
    let (m, first, at) =
    underlying-at s (graph_of c.args.tables.now.data_types.now.rows.items) c.requires.tables.rows n c.args.part k has is in
    let same : m ≡ c.in-Some.number = let q = sym first ∙ sym c.underlying_number.ensures ∙ c.in-Some.is in cc in
    on_ok_weaker c.add_leaf.result (adds-alike s c.args.atoms.now.items c.add_leaf.new.atoms.items (LeafGives s k w)
    (Gives s n w) (gives-leaf s n k w is)) (c.add_leaf.ensures k (subst (λ i. slice_get (all_data_types s) i ≡ Some k)
    same at))

pub returns-in-None : goal.returns-in-None
returns-in-None c n has =
    let s = the_schema c.args.tables.now.names.now in
    let (o, there, stands) = c.requires.within in
    let k = data_type_of c.in-DataType.field-0 in
    let is = subst (λ u. StandsFor s o (underlying_of u)) c.in-DataType.is stands in
    let (m, first, at) =
    underlying-at s (graph_of c.args.tables.now.data_types.now.rows.items) c.requires.tables.rows o c.args.part k there is
    in
    let q = sym first ∙ sym c.underlying_number.ensures ∙ c.in-None.is in
    absurd (cc)
