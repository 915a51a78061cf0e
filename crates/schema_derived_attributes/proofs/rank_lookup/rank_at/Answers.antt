use Rattle.std.proofs.Common.{◌+◌, ap, arith, get_or, sym, subst}
use Rattle.std.proofs.Math.Logic.{∥∥₁_elim, ∥∥₁_map, ∥∥₁_prop}
use Rattle.std.proofs.Math.Bridge.{le_prop}
use Rattle.std.proofs.lemmas.List.{length-map}
use Rattle.std.proofs.lemmas.Option.{slice_get_within}
use Rattle.express_syntax.specs.ExpressionViews.{capitals}
use Rattle.express_syntax.specs.Views.{declaration_of}
use Rattle.schema_names.specs.Numbers.{IsAt}
use Rattle.schema_names.specs.Schemas.{the_schema}
use Rattle.schema_names.proofs.Edges.{number-within}
use Rattle.schema_semantics.specs.Ranks.{IsRankAt}
use Rattle.schema_names.proofs.Items.{mapped-at}
use Rattle.schema_derived_attributes.proofs.Asking.{none-past, asked-within, asked-some, asked-none}
use Rattle.schema_derived_attributes.proofs.rank_lookup.rank_at.Goals as goal

pub returns-in_err-declaration : goal.returns-in_err-declaration
returns-in_err-declaration c = ∣ (λ e k.
    let s = the_schema c.args.names.now in
    let lt = number-within s e c.args.entity k in
    let long = length-map c.args.names.now.schema.now.declarations.items declaration_of in
    let far = none-past c.args.names.now.schema.now.declarations.items c.args.entity (sym c.in_err-declaration.ensures) in
    absurd (omega (arith, far, lt, long))) ∣₁

pub returns-in_err-place : goal.returns-in_err-place
returns-in_err-place c =
    let s = the_schema c.args.names.now in
    let d = c.in_ok-declaration.declaration.now in
    let all = c.args.names.now.schema.now.declarations.items in
    let at : IsAt s c.args.entity (declaration_of d) =
    mapped-at declaration_of all c.args.entity d (sym c.in_ok-declaration.ensures) in
    ∥∥₁_map c.requires.ranks (λ ranks e k.
    subst (IsRankAt s (e, capitals c.args.attribute)) (sym c.from_residual-in_err-place.ensures)
    (asked-none s c.args.ranks.now ranks c.args.entity (capitals c.args.attribute) (declaration_of d) at (sym c.in_err-place.ensures) e k))

pub rank_behind-requires : goal.rank_behind-requires
rank_behind-requires c =
    let s = the_schema c.args.names.now in
    let d = c.in_ok-declaration.declaration.now in
    let all = c.args.names.now.schema.now.declarations.items in
    let there = sym c.in_ok-declaration.ensures in
    let lt = slice_get_within all c.args.entity d there in
    let long = length-map all declaration_of in
    let at : IsAt s c.args.entity (declaration_of d) = mapped-at declaration_of all c.args.entity d there in
    ∥∥₁_elim c.requires.firsts le_prop (λ firsts. ∥∥₁_elim c.requires.ranks le_prop (λ ranks.
    asked-within s c.args.ranks.now ranks c.args.entity
    (get_or c.args.firsts.now c.args.entity 0 + c.in_ok-place.place) c.in_ok-place.place (capitals c.args.attribute)
    (declaration_of d) at (sym c.in_ok-place.ensures)
    (ap (λ n. n + c.in_ok-place.place) (firsts.each c.args.entity (omega (arith, lt, long))))))

pub returns : goal.returns
returns c =
    let s = the_schema c.args.names.now in
    let d = c.in_ok-declaration.declaration.now in
    let all = c.args.names.now.schema.now.declarations.items in
    let there = sym c.in_ok-declaration.ensures in
    let lt = slice_get_within all c.args.entity d there in
    let long = length-map all declaration_of in
    let at : IsAt s c.args.entity (declaration_of d) = mapped-at declaration_of all c.args.entity d there in
    ∥∥₁_elim c.requires.firsts ∥∥₁_prop (λ firsts. ∥∥₁_map c.requires.ranks (λ ranks e k.
    asked-some s c.args.ranks.now ranks c.args.entity
    (get_or c.args.firsts.now c.args.entity 0 + c.in_ok-place.place) c.in_ok-place.place (capitals c.args.attribute)
    (declaration_of d) c.rank_behind.result at (sym c.in_ok-place.ensures)
    (ap (λ n. n + c.in_ok-place.place) (firsts.each c.args.entity (omega (arith, lt, long))))
    c.rank_behind.ensures e k))

pub bounds-firsts-entity : goal.bounds-firsts-entity
bounds-firsts-entity c =
    let lt = slice_get_within c.args.names.now.schema.now.declarations.items c.args.entity
    c.in_ok-declaration.declaration.now (sym c.in_ok-declaration.ensures) in
    let long = length-map c.args.names.now.schema.now.declarations.items declaration_of in
    ∥∥₁_elim c.requires.firsts le_prop (λ firsts.
    let same = firsts.same in omega (arith, same, lt, long))
