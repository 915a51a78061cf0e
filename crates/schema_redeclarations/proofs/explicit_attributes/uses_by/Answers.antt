use Rattle.std.proofs.Common.{◌∙◌, ap, sym, subst, map}
use Rattle.std.proofs.lemmas.Result.{IfOk-weaker}
use Rattle.graphs.specs.Graphs.{graph_of, next}
use Rattle.express_syntax.specs.Views.{declaration_of, entity_of, explicit_of}
use Rattle.schema_names.specs.Numbers.{IsAt}
use Rattle.schema_names.specs.Schemas.{the_schema}
use Rattle.schema_redeclarations.specs.steps.Speaking.{AreTypesAt, AreOwnAt, names_of, AreUsesOf, AreUsesIn}
use Rattle.schema_redeclarations.proofs.OfDeclarations.{types-at, own-at, none-in}
use Rattle.schema_redeclarations.proofs.explicit_attributes.uses_by.Goals as goal

pub explicit_uses-requires-clause-typed : goal.explicit_uses-requires-clause-typed
explicit_uses-requires-clause-typed c =
    let s = the_schema c.args.sources.now.names.now in
    let e = entity_of c.in-Entity.entity in
    let at = subst (λ d. IsAt s c.args.i (declaration_of d)) c.in-Entity.is c.requires.at in
    subst (λ xs. AreTypesAt s c.row_of-row.result.now (map explicit_of xs)) (sym c.deref-in-Entity.ensures.value)
    (subst (λ row. AreTypesAt s row e.explicits)
    (sym (c.row_of-row.ensures ∙ ap (λ v. next (graph_of v) c.args.i) c.deref.ensures.value))
    (types-at c.data_types_are_known.ensures s c.requires.sources.resolved
    (graph_of c.args.sources.now.data_types.now.rows.items) c.requires.sources.rows c.args.i e at))

pub explicit_uses-requires-clause-owned : goal.explicit_uses-requires-clause-owned
explicit_uses-requires-clause-owned c =
    let s = the_schema c.args.sources.now.names.now in
    let e = entity_of c.in-Entity.entity in
    let at = subst (λ d. IsAt s c.args.i (declaration_of d)) c.in-Entity.is c.requires.at in (
      e.name,
      subst (λ xs. AreOwnAt s e.name c.row_of-own.result.now 0 (names_of (map explicit_of xs)))
          (sym c.deref-in-Entity.ensures.value)
          (subst (λ row. AreOwnAt s e.name row 0 (names_of e.explicits)) (sym c.row_of-own.ensures)
          (own-at s c.requires.sources.resolved (graph_of c.args.sources.now.own.now) c.requires.sources.own c.args.i e at)),
    )

pub returns-in-Entity-clause-uses : goal.returns-in-Entity-clause-uses
returns-in-Entity-clause-uses c =
    let s = the_schema c.args.sources.now.names.now in
    let e = entity_of c.in-Entity.entity in
    let at = subst (λ d. IsAt s c.args.i (declaration_of d)) c.in-Entity.is c.requires.at in
    IfOk-weaker c.explicit_uses.result _ (λ us. AreUsesIn s (declaration_of c.args.declaration.now) us.items) (λ us h.
    subst (λ d. AreUsesIn s (declaration_of d) us.items) (sym c.in-Entity.is)
    (subst (λ xs. AreUsesOf s e.name (map explicit_of xs) us.items) c.deref-in-Entity.ensures.value
    (h e.name (subst (λ xs. AreOwnAt s e.name c.row_of-own.result.now 0 (names_of (map explicit_of xs)))
    (sym c.deref-in-Entity.ensures.value)
    (subst (λ row. AreOwnAt s e.name row 0 (names_of e.explicits)) (sym c.row_of-own.ensures)
    (own-at s c.requires.sources.resolved (graph_of c.args.sources.now.own.now) c.requires.sources.own c.args.i e at))))))
    c.explicit_uses.ensures.uses

pub returns-in_default-clause-uses : goal.returns-in_default-clause-uses
returns-in_default-clause-uses c =
    none-in (the_schema c.args.sources.now.names.now) c.args.declaration.now c.in_default.not-Entity c.new.result.items
    c.new.ensures.items
