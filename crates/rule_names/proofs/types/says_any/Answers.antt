use Rattle.std.proofs.Common.{ℕ, ◌∙◌, sym}
use Rattle.schema_names.specs.Numbers.{HasNumber}
use Rattle.schema_names.specs.Schemas.{the_schema}
use Rattle.schema_underlying_types.specs.BaseViews.{name_at}
use Rattle.express_logic.specs.Views.{text_of}
use Rattle.schema_attribute_sources.proofs.Members.{every_get}
use Rattle.rule_names.proofs.Saying.{none_more, one_more, none_left}
use Rattle.rule_names.proofs.types.says_any.Goals as goal

pub says_type-requires : goal.says_type-requires
says_type-requires c =
    let s = the_schema c.args.names.now in
    every_get (λ (i : ℕ). HasNumber s (name_at s i) i) c.args.types.now c.loop-number.number-index c.requires
    c.loop-number-test.true

pub loop-number-preserved : goal.loop-number-preserved
loop-number-preserved c =
    none_more (the_schema c.args.names.now) (text_of c.args.text.now) c.args.types.now
    c.loop-number.number-index c.loop-number-test.true c.loop-number.invariant
    (sym c.if-says_type.false ∙ c.says_type.ensures)

pub returns-then-says_type : goal.returns-then-says_type
returns-then-says_type c =
    one_more (the_schema c.args.names.now) (text_of c.args.text.now) c.args.types.now
    c.loop-number.number-index c.loop-number-test.true (sym c.if-says_type.true ∙ c.says_type.ensures)

pub returns : goal.returns
returns c =
    none_left (the_schema c.args.names.now) (text_of c.args.text.now) c.args.types.now
    c.loop-number.number-index c.loop-number-test.false c.loop-number.invariant
