use Rattle.std.proofs.Common.{ap, sym, subst, ◌∙◌, map, slice_get, []}
use Rattle.std.specs.List.{AllZip}
use Rattle.express_syntax.specs.Views.{declaration_of}
use Rattle.schema_names.specs.Schemas.{the_schema}
use Rattle.schema_attributes.proofs.Gathered.{seen}
use Rattle.schema_redeclarations.specs.steps.Speaking.{AreUsesIn}
use Rattle.schema_redeclarations.proofs.Going.{zip-next, all-taken}
use Rattle.schema_redeclarations.proofs.explicit_attributes.gathered_uses.Goals as goal

pub loop-n-init : goal.loop-n-init
loop-n-init c = (
  c.requires.clean,
  c.requires.many,
  subst (AllZip (AreUsesIn (the_schema c.args.sources.now.names.now)) []) (sym (ap (map (λ v. v.items)) c.new-rows.ensures.items)) tt,
)

pub uses_by-requires : goal.uses_by-requires
uses_by-requires c = record {
  sources = c.requires.sources;
  clean = c.loop-n.invariant.0;
  many = c.loop-n.invariant.1;
  at = ap (λ xs. slice_get (map declaration_of xs) c.loop-n.n) (sym c.declarations-declarations.ensures)
      ∙ seen declaration_of c.declarations-declarations.result.now c.loop-n.n c.index-declarations-n.result
      c.loop-n-test.true c.index-declarations-n.is;
}

pub loop-n-preserved : goal.loop-n-preserved
loop-n-preserved c = (
  c.in_ok-row.ensures.clean,
  c.in_ok-row.ensures.length ∙ c.loop-n.invariant.1,
  zip-next (AreUsesIn (the_schema c.args.sources.now.names.now)) declaration_of (λ v. v.items) c.declarations-declarations.result.now
      c.loop-n.n c.index-declarations-n.result c.loop-n.rows.items c.push.new.self.items c.in_ok-row.row
      c.loop-n-test.true c.index-declarations-n.is c.loop-n.invariant.2 c.in_ok-row.ensures.uses
      c.in_ok-push.ensures.items,
)

pub returns : goal.returns
returns c =
    let s = the_schema c.args.sources.now.names.now in
    let xs = c.declarations-declarations.result.now in
    subst (λ ds. AllZip (AreUsesIn s) ds (map (λ v. v.items) c.loop-n.rows.items))
    (all-taken declaration_of xs c.loop-n.n c.loop-n-test.false
    ∙ ap (map declaration_of) c.declarations-declarations.ensures)
    c.loop-n.invariant.2
