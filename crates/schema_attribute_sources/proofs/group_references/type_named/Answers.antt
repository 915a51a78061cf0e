use Rattle.std.proofs.Common.{ℕ, ◌∙◌, Some, cond, refl, sym, ap, drop, get_or}
use Rattle.std.specs.Prelude.{◌+◌, bytes_eq}
use Rattle.std.proofs.lemmas.List.{drop_all}
use Rattle.express_syntax.specs.ExpressionViews.{capitals}
use Rattle.schema_names.specs.Numbers.{HasNumber}
use Rattle.schema_names.specs.Schemas.{the_schema}
use Rattle.schema_underlying_types.specs.BaseViews.{name_at}
use Rattle.schema_attribute_sources.specs.steps.Grouping.{first_named}
use Rattle.schema_attribute_sources.proofs.Members.{every_get}
use Rattle.schema_attribute_sources.proofs.Walking.{from-here}
use Rattle.schema_attribute_sources.proofs.group_references.type_named.Goals as goal

pub has_name-requires : goal.has_name-requires
has_name-requires c =
    let s = the_schema c.args.names.now in
    every_get (λ (i : ℕ). HasNumber s (name_at s i) i) c.args.types.now c.loop-number.number-index c.requires
    c.loop-number-test.true

pub returns-then-has_name : goal.returns-then-has_name
returns-then-has_name c =
    let s = the_schema c.args.names.now in
    let n = capitals c.args.name in
    let ts = c.args.types.now in
    let k = c.loop-number.number-index in
    ap (λ b. cond b (Some (get_or ts k 0)) (first_named s n (drop (k + 1) ts)))
    (sym c.if-has_name.true ∙ c.has_name.ensures)
    ∙ from-here (λ k xs. first_named s n xs) (λ k x r. cond (bytes_eq (name_at s x) n) (Some x) r) (λ k x xs. refl)
    (first_named s n ts) ts k 0 c.loop-number-test.true c.loop-number.invariant

pub loop-number-preserved : goal.loop-number-preserved
loop-number-preserved c =
    let s = the_schema c.args.names.now in
    let n = capitals c.args.name in
    let ts = c.args.types.now in
    let k = c.loop-number.number-index in
    ap (λ b. cond b (Some (get_or ts k 0)) (first_named s n (drop (k + 1) ts)))
    (sym c.if-has_name.false ∙ c.has_name.ensures)
    ∙ from-here (λ k xs. first_named s n xs) (λ k x r. cond (bytes_eq (name_at s x) n) (Some x) r) (λ k x xs. refl)
    (first_named s n ts) ts k 0 c.loop-number-test.true c.loop-number.invariant

pub returns : goal.returns
returns c =
    let s = the_schema c.args.names.now in
    let n = capitals c.args.name in
    ap (first_named s n) (sym (drop_all c.loop-number.number-index c.args.types.now c.loop-number-test.false))
    ∙ c.loop-number.invariant
