use Rattle.std.proofs.Common.{◌∙◌, ap, sym, subst, map, [], ◌++◌, arith}
use Rattle.std.proofs.lemmas.Result.{on_ok_weaker}
use Rattle.graphs.specs.Graphs.{has}
use Rattle.graphs.specs.Rounds.{added}
use Rattle.express_syntax.specs.Views.{explicit_of}
use Rattle.schema_semantics.specs.Names.{own_names}
use Rattle.schema_names.specs.Schemas.{the_schema}
use Rattle.schema_redeclarations.specs.steps.Speaking.{ArePlacesOf, SpeakTogether, AreOwnAt, use_of}
use Rattle.schema_redeclarations.proofs.OfDeclarations.{uses-of-one}
use Rattle.schema_redeclarations.proofs.explicit_attributes.add_explicit.Goals as goal

pub distinct-requires-clause-within : goal.distinct-requires-clause-within
distinct-requires-clause-within c q h =
    let s = the_schema c.args.sources.now.names.now in
    let x = explicit_of c.args.explicit.now in
    let (n, owned) = c.requires.owned in
    let are = c.in_ok-spoken.ensures n x.data_type c.requires.typed
    (subst (λ ys. AreOwnAt s n c.args.own.now c.args.first (own_names ys)) (sym c.as_slice.ensures) owned) in
    let low = are.within q (sym (ap (λ xs. has xs q) c.deref.ensures.value) ∙ h) in
    let many = c.requires.many in
    omega (arith, low, many)

pub returns-clause-uses : goal.returns-clause-uses
returns-clause-uses c =
    let s = the_schema c.args.sources.now.names.now in
    let x = explicit_of c.args.explicit.now in
    let t = c.args.data_type in
    let spoken = c.in_ok-spoken.spoken.items in
    on_ok_weaker c.add_uses.result (λ added-all n owned.
    let are = c.in_ok-spoken.ensures n x.data_type c.requires.typed
    (subst (λ ys. AreOwnAt s n c.args.own.now c.args.first (own_names ys)) (sym c.as_slice.ensures) owned) in
    let here = subst (λ ys. ArePlacesOf s (SpeakTogether s n x.data_type ys) spoken) c.as_slice.ensures are in
    let is = c.deref-2.ensures.value ∙ c.in_ok-places.ensures.distinct ∙ ap (added []) c.deref.ensures.value in (
      map (use_of t x.optional) (added [] spoken),
      added-all ∙ ap (λ ps. c.args.uses.now.items ++ map (use_of t x.optional) ps) is,
      uses-of-one s n x t spoken c.requires.typed here,
    )) c.add_uses.ensures
