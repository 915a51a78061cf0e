use Rattle.std.proofs.Common.{rules, ◌≡◌, ◌∙◌, ◌<◌, ◌≤◌, length, sym, arith}
use Rattle.std.proofs.lemmas.List.{length-map}
use Rattle.std.specs.Vec.{vec_len}
use Rattle.express_syntax.specs.Views.{declaration_of}
use Rattle.express_syntax.specs.SchemaViews.{schema_of}
use Rattle.express_logic.specs.Views.{text_of}
use Rattle.rule_names.proofs.Saying.{said_on, said_here, said_never}
use Rattle.rule_names.proofs.types.says_definition.Goals as goal

pub loop-other-preserved : goal.loop-other-preserved
loop-other-preserved c m h defined tells =
    let t = c.args.names.now.schema.now in
    let s = schema_of t in
    let i = c.loop-other.other in
    let long = length-map t.declarations.items declaration_of in
    let count : length t.declarations.items ≡ vec_len t.declarations = search rules in
    let end = c.len-other-end.ensures in
    let more = c.loop-other-test.true in
    let lt : i < length s.declarations = omega (arith, long, count, end, more) in
    said_on s defined (text_of c.args.text.now) m s.declarations i (c.loop-other.invariant m h defined tells) lt
    (sym c.if-says_defining.false ∙ c.says_defining.ensures m h defined tells)

pub returns-then-says_defining : goal.returns-then-says_defining
returns-then-says_defining c m h defined tells =
    let t = c.args.names.now.schema.now in
    let s = schema_of t in
    let i = c.loop-other.other in
    let long = length-map t.declarations.items declaration_of in
    let count : length t.declarations.items ≡ vec_len t.declarations = search rules in
    let end = c.len-other-end.ensures in
    let more = c.loop-other-test.true in
    let lt : i < length s.declarations = omega (arith, long, count, end, more) in
    said_here s defined (text_of c.args.text.now) m s.declarations i (c.loop-other.invariant m h defined tells) lt
    (sym c.if-says_defining.true ∙ c.says_defining.ensures m h defined tells)

pub returns : goal.returns
returns c m h defined tells =
    let t = c.args.names.now.schema.now in
    let s = schema_of t in
    let i = c.loop-other.other in
    let long = length-map t.declarations.items declaration_of in
    let count : length t.declarations.items ≡ vec_len t.declarations = search rules in
    let end = c.len-other-end.ensures in
    let less = c.loop-other-test.false in
    let le : length s.declarations ≤ i = omega (arith, long, count, end, less) in
    said_never s defined (text_of c.args.text.now) m s.declarations i (c.loop-other.invariant m h defined tells) le
