use Rattle.std.proofs.Common.{IfOk, drop, sym, subst, refl}
use Rattle.std.proofs.lemmas.Result.{IfOk-weaker}
use Rattle.express_syntax.specs.Trees.{attribute, named}
use Rattle.express_syntax.specs.ExpressionViews.{capitals, qualifiers_of}
use Rattle.schema_semantics.specs.Shapes.{an_item}
use Rattle.schema_semantics.specs.Sets.{Only, OfVariable, path_behind, variable, attribute_of_self, item_of_type, item}
use Rattle.schema_data_types.specs.steps.Values.{Holds}
use Rattle.schema_attribute_references.specs.steps.Taking.{schema_in}
use Rattle.schema_expression_types.specs.steps.Scopes.{IsReferred, own_in, variables_in}
use Rattle.schema_expression_types.specs.steps.Meanings.{IsMeaning}
use Rattle.schema_expression_types.specs.steps.Paths.{IsPath}
use Rattle.schema_expression_types.proofs.Walking.{behind-alike, list-same}
use Rattle.schema_expression_types.proofs.Choosing.{referred, unreferred, may-mean, path-of-type, rest-is}
use Rattle.schema_expression_types.proofs.references.refer_by_name.Goals as goal

pub returns-in-Variable : goal.returns-in-Variable
returns-in-Variable c =
    let s = schema_in c.args.scope.now.known in
    let self = own_in c.args.scope.now in
    let vs = variables_in c.args.scope.now in
    let n = capitals c.args.name in
    let qs = qualifiers_of c.args.qualifiers.now in
    let m = subst (IsMeaning s self vs n qs) c.in-Variable.is c.in_ok-may.ensures in
    let xs = c.in-Variable.may.items in
    IfOk-weaker c.select.result (λ t. IsPath s (path_behind s (Holds s xs) qs) t) (λ t. IsReferred s self vs (named n) qs t)
    (λ t h. referred s self vs (named n) qs variable t m.0
    (behind-alike s (Holds s xs) (OfVariable vs n) qs t (list-same s (OfVariable vs n) xs m.1) h)) c.select.ensures

pub returns-in-Attribute : goal.returns-in-Attribute
returns-in-Attribute c =
    let s = schema_in c.args.scope.now.known in
    let self = own_in c.args.scope.now in
    let vs = variables_in c.args.scope.now in
    let n = capitals c.args.name in
    let qs = qualifiers_of c.args.qualifiers.now in
    let m = subst (IsMeaning s self vs n qs) c.in-Attribute.is c.in_ok-may.ensures in
    IfOk-weaker c.select_of_taken.result (λ t. IsPath s (path_behind s self (attribute n qs)) t) (λ t. IsReferred s self vs (named n) qs t)
    (λ t h. referred s self vs (named n) qs attribute_of_self t m.0 h)
    (c.select_of_taken.ensures c.args.scope.now.own.now n m.1)

pub returns-in-ItemOfType : goal.returns-in-ItemOfType
returns-in-ItemOfType c =
    let s = schema_in c.args.scope.now.known in
    let self = own_in c.args.scope.now in
    let vs = variables_in c.args.scope.now in
    let n = capitals c.args.name in
    let qs = qualifiers_of c.args.qualifiers.now in
    let m = subst (IsMeaning s self vs n qs) c.in-ItemOfType.is c.in_ok-may.ensures in
    let xs = c.args.qualifiers.now in
    IfOk-weaker c.select_of_item.result (λ t. IsPath s (path_behind s (Only an_item) (qualifiers_of (drop 1 xs))) t) (λ t. IsReferred s self vs (named n) qs t)
    (λ t h. referred s self vs (named n) qs item_of_type t m
    (subst (λ p. IsPath s p t) (sym (path-of-type s self vs n xs (may-mean s self vs (named n) qs item_of_type m))) h))
    (subst (λ ys. IfOk c.select_of_item.result (λ t. IsPath s (path_behind s (Only an_item) (qualifiers_of ys)) t))
    (rest-is xs) c.select_of_item.ensures)

pub returns-in-Item : goal.returns-in-Item
returns-in-Item c =
    let s = schema_in c.args.scope.now.known in
    let self = own_in c.args.scope.now in
    let vs = variables_in c.args.scope.now in
    let n = capitals c.args.name in
    let qs = qualifiers_of c.args.qualifiers.now in
    let m = subst (IsMeaning s self vs n qs) c.in-Item.is c.in_ok-may.ensures in
    IfOk-weaker c.select_of_item-in-Item.result (λ t. IsPath s (path_behind s (Only an_item) qs) t) (λ t. IsReferred s self vs (named n) qs t)
    (λ t h. referred s self vs (named n) qs item t m h) c.select_of_item-in-Item.ensures

pub returns-in-Nothing : goal.returns-in-Nothing
returns-in-Nothing c =
    let s = schema_in c.args.scope.now.known in
    let self = own_in c.args.scope.now in
    let vs = variables_in c.args.scope.now in
    let n = capitals c.args.name in
    let qs = qualifiers_of c.args.qualifiers.now in
    let m = subst (IsMeaning s self vs n qs) c.in-Nothing.is c.in_ok-may.ensures in
    unreferred s self vs (named n) qs _ m refl c.new.ensures.items c.new-in-Nothing.ensures.items
