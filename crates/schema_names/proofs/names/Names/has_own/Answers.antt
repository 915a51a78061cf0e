use Rattle.std.proofs.Common.{◌≡◌, sym, subst}
use Rattle.std.specs.Prelude.{nat_eq, IfSome}
use Rattle.indexmap.specs.IndexMap.{get}
use Rattle.express_syntax.specs.ExpressionViews.{capitals}
use Rattle.schema_names.specs.declared.attribute_names.Class.TheVariants.{Explicit, Other}
use Rattle.schema_names.specs.steps.Enumerated.{includes}
use Rattle.schema_names.specs.steps.OwnNames.{names_at}
use Rattle.schema_names.specs.Schemas.{the_schema}
use Rattle.schema_names.proofs.Rowed.{row-sorted, row-told}
use Rattle.schema_names.proofs.names.Names.has_own.Goals as goal

pub has_in-requires : goal.has_in-requires
has_in-requires c i =
    row-sorted (get nat_eq c.args.self.now.explicits i) (names_at (the_schema c.args.self.now) Explicit i)
    (c.args.self.now.explicit i)

pub has_in-requires-in-Other : goal.has_in-requires-in-Other
has_in-requires-in-Other c i =
    row-sorted (get nat_eq c.args.self.now.others i) (names_at (the_schema c.args.self.now) Other i)
    (c.args.self.now.other i)

pub returns-in-Explicit : goal.returns-in-Explicit
returns-in-Explicit c =
    let s = the_schema c.args.self.now in
    let i = c.args.number in
    subst (λ x. IfSome c.has_in.result (λ b. b ≡ includes (names_at s x i) (capitals c.args.name))) (sym c.in-Explicit.is)
    (row-told (get nat_eq c.args.self.now.explicits i) (names_at s Explicit i) (capitals c.args.name) c.has_in.result
    (c.args.self.now.explicit i) c.has_in.ensures)

pub returns-in-Other : goal.returns-in-Other
returns-in-Other c =
    let s = the_schema c.args.self.now in
    let i = c.args.number in
    subst (λ x. IfSome c.has_in-in-Other.result (λ b. b ≡ includes (names_at s x i) (capitals c.args.name))) (sym c.in-Other.is)
    (row-told (get nat_eq c.args.self.now.others i) (names_at s Other i) (capitals c.args.name) c.has_in-in-Other.result
    (c.args.self.now.other i) c.has_in-in-Other.ensures)
