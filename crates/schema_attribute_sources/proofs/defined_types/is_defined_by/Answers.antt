use Rattle.std.proofs.Common.{◌<◌, length, arith, refl, sym}
use Rattle.express_syntax.specs.SchemaViews.{schema_of}
use Rattle.schema_names.specs.Schemas.{the_schema}
use Rattle.schema_attribute_sources.proofs.Members.{not-false}
use Rattle.schema_attribute_sources.proofs.Reading.{as-many}
use Rattle.schema_attribute_sources.proofs.Following.{walks-first, walks-on, walks-here, walks-no-further, walks-few, renamed-within}
use Rattle.schema_attribute_sources.proofs.defined_types.is_defined_by.Goals as goal

pub loop-step-init : goal.loop-step-init
loop-step-init c = record {
  within = c.requires.within;
  walks = λ m n h k. walks-first (the_schema c.args.names.now) m n c.args.number h;
}

pub returns-then-at-other : goal.returns-then-at-other
returns-then-at-other c m n h k =
    let s = the_schema c.args.names.now in (
      (λ t. walks-here s c.requires.resolved m n c.loop-step.at c.loop-step._step c.args.other k
          (c.loop-step.invariant.walks m n h k) c.if-at-other.true),
      (λ l. refl),
    )

pub returns-in_default : goal.returns-in_default
returns-in_default c m n h k =
    let s = the_schema c.args.names.now in (
      (λ t. absurd (not-false t)),
      (λ l. absurd (walks-no-further s c.requires.resolved m n c.loop-step.at c.loop-step._step c.args.other k
          (c.loop-step.invariant.walks m n h k) c.if-at-other.false (sym c.in_default.ensures) l)),
    )

pub loop-step-preserved : goal.loop-step-preserved
loop-step-preserved c =
    let t = c.args.names.now.schema.now in
    let s = schema_of t in
    record {
      within = as-many t c.in-Some.next (renamed-within s c.loop-step.at c.in-Some.next (sym c.in-Some.ensures));
      walks = λ m n h k. walks-on s c.requires.resolved m n c.loop-step.at c.loop-step._step c.in-Some.next c.args.other k
          (c.loop-step.invariant.walks m n h k) c.if-at-other.false (sym c.in-Some.ensures);
    }

pub returns : goal.returns
returns c m n h k =
    let t = c.args.names.now.schema.now in
    let s = schema_of t in
    let few : c.loop-step._step < length t.declarations.items =
    as-many t c.loop-step._step
    (walks-few s c.requires.resolved m n c.loop-step.at c.loop-step._step (c.loop-step.invariant.walks m n h k)) in (
      (λ t. absurd (not-false t)),
      (λ l. absurd (omega (arith, few, c.loop-step-test.false, c.len-step-end.ensures))),
    )
