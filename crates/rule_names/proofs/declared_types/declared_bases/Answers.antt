use Rattle.std.proofs.Common.{ap, sym, subst, ◌∙◌, map, slice_get, []}
use Rattle.std.specs.List.{AllZip}
use Rattle.schema_names.specs.Schemas.{the_schema}
use Rattle.schema_explicit_attributes.specs.Places.{places_of}
use Rattle.schema_underlying_types.specs.declared.base.Base.{Base}
use Rattle.schema_types.specs.steps.Graphs.{place_of}
use Rattle.schema_attributes.proofs.Gathered.{seen}
use Rattle.schema_redeclarations.proofs.Going.{zip-next, all-taken}
use Rattle.rule_names.specs.Tables.{IsDeclaredAs}
use Rattle.rule_names.proofs.First.{are-declared}
use Rattle.rule_names.proofs.declared_types.declared_bases.Goals as goal

pub loop-i-init : goal.loop-i-init
loop-i-init c =
    subst (AllZip (IsDeclaredAs (the_schema c.args.types.now.names)) [])
    (sym (ap (map (λ (b : Base). b)) c.new-bases.ensures.items)) tt

pub declared_base-requires-clause-place : goal.declared_base-requires-clause-place
declared_base-requires-clause-place c =
    ap (λ all. slice_get all c.loop-i.i) (sym c.requires.made.attributes)
    ∙ ap (λ xs. slice_get (places_of xs) c.loop-i.i) (sym c.as_slice-attributes.ensures.value)
    ∙ seen place_of c.as_slice-attributes.result.now c.loop-i.i c.index-attributes-i.result c.loop-i-test.true
    c.index-attributes-i.is

pub loop-i-preserved : goal.loop-i-preserved
loop-i-preserved c =
    zip-next (IsDeclaredAs (the_schema c.args.types.now.names)) place_of (λ (b : Base). b)
    c.as_slice-attributes.result.now c.loop-i.i c.index-attributes-i.result c.loop-i.bases.items c.push.new.self.items
    c.declared_base.result c.loop-i-test.true c.index-attributes-i.is c.loop-i.invariant c.declared_base.ensures
    c.in_ok-push.ensures.items

pub returns : goal.returns
returns c =
    let s = the_schema c.args.types.now.names in
    let xs = c.as_slice-attributes.result.now in
    are-declared s c.loop-i.bases.items
    (subst (λ ps. AllZip (IsDeclaredAs s) ps (map (λ (b : Base). b) c.loop-i.bases.items))
    (all-taken place_of xs c.loop-i.i c.loop-i-test.false ∙ ap places_of c.as_slice-attributes.ensures.value
    ∙ c.requires.made.attributes)
    c.loop-i.invariant)
