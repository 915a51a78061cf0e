use Rattle.std.proofs.Common.{◌<◌, ◌++◌, ◌∙◌, length, arith, map, ap, sym, subst}
use Rattle.std.proofs.lemmas.List.{length-map}
use Rattle.express_syntax.specs.Views.{declaration_of}
use Rattle.express_syntax.specs.Profile.{Every}
use Rattle.conformance.specs.Rules.{IsUniqueRule, InTurn, statements}
use Rattle.schema_attribute_references.specs.steps.Taking.{schema_in}
use Rattle.schema_constraints.specs.RuleViews.{unique_seen, IsNumberedUnique}
use Rattle.schema_constraints.specs.steps.Making.{IsUnique}
use Rattle.schema_constraints.proofs.Turns.{each-row, each-seen}
use Rattle.schema_constraints.proofs.uniques.unique_rules.Goals as goal

pub add_all-requires-clause-few : goal.add_all-requires-clause-few
add_all-requires-clause-few c =
    let ds = c.args.sources.now.known.tables.names.now.schema.now.declarations.items in
    let few = c.args.sources.now.known.tables.names.now.few in
    let long = length-map ds declaration_of in
    subst (λ xs. length xs < 4294967296) (sym c.declarations-declarations.ensures) (omega (arith, few, long))

pub add_all-requires-clause-all : goal.add_all-requires-clause-all
add_all-requires-clause-all c = ap (map declaration_of) c.declarations-declarations.ensures

pub returns-clause-seen : goal.returns-clause-seen
returns-clause-seen c =
    let s = schema_in c.args.sources.now.known in
    let (rows, all, turn) = c.in_ok-add_all.ensures in
    subst (λ rs. InTurn (IsUniqueRule s) (statements s) (map (unique_seen s) rs))
    (sym (all ∙ ap (λ xs. xs ++ rows) c.new-rules.ensures.items))
    (each-seen (IsUnique s) (IsUniqueRule s) (unique_seen s) (λ x r h. h.seen) (statements s) rows
    turn)

pub returns-clause-numbered : goal.returns-clause-numbered
returns-clause-numbered c =
    let s = schema_in c.args.sources.now.known in
    let (rows, all, turn) = c.in_ok-add_all.ensures in
    subst (Every (IsNumberedUnique s)) (sym (all ∙ ap (λ xs. xs ++ rows) c.new-rules.ensures.items))
    (each-row (IsUnique s) (IsNumberedUnique s) (λ x r h. h.numbered) (statements s) rows turn)
