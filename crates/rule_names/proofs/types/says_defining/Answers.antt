use Rattle.std.proofs.Common.{◌∙◌, ◌&&◌, ap, sym}
use Rattle.express_syntax.specs.ExpressionViews.{capitals}
use Rattle.express_syntax.specs.Views.{declaration_of}
use Rattle.express_syntax.specs.SchemaViews.{schema_of}
use Rattle.std.specs.Prelude.{slice_get}
use Rattle.express_logic.specs.Views.{text_of}
use Rattle.schema_names.proofs.Items.{mapped-at}
use Rattle.rule_names.proofs.Saying.{isnt_said, is_said, type_number, defined_told}
use Rattle.rule_names.proofs.types.says_defining.Goals as goal

pub returns-in_default : goal.returns-in_default
returns-in_default c m h defined tells =
    let t = c.args.names.now.schema.now in
    let s = schema_of t in
    let d = c.declaration.result.now in
    isnt_said s defined (text_of c.args.text.now) m (slice_get s.declarations c.args.other) (declaration_of d)
    (mapped-at declaration_of t.declarations.items c.args.other d c.declaration.ensures) c.in_default.ensures

pub returns-then-says_name : goal.returns-then-says_name
returns-then-says_name c m h defined tells =
    let t = c.args.names.now.schema.now in
    let s = schema_of t in
    let text = text_of c.args.text.now in
    let d = c.declaration.result.now in
    let n = capitals c.in-Some.name in
    let at = mapped-at declaration_of t.declarations.items c.args.other d c.declaration.ensures in
    let told =
    c.is_defined_by.ensures m n h (type_number s c.requires.resolved c.args.other (declaration_of d) n at c.in-Some.ensures) in
    let same = defined_told c.is_defined_by.result (defined m n) told (tells n) in
    same ∙ ap (λ b. b && defined m n) (sym c.if-says_name.true ∙ c.says_name.ensures)
    ∙ is_said s defined text m (slice_get s.declarations c.args.other) (declaration_of d) n at c.in-Some.ensures

pub returns-else-says_name : goal.returns-else-says_name
returns-else-says_name c m h defined tells =
    let t = c.args.names.now.schema.now in
    let s = schema_of t in
    let text = text_of c.args.text.now in
    let d = c.declaration.result.now in
    let n = capitals c.in-Some.name in
    let at = mapped-at declaration_of t.declarations.items c.args.other d c.declaration.ensures in
    c.if-says_name.false ∙ ap (λ b. b && defined m n) (sym c.if-says_name.false ∙ c.says_name.ensures)
    ∙ is_said s defined text m (slice_get s.declarations c.args.other) (declaration_of d) n at c.in-Some.ensures
