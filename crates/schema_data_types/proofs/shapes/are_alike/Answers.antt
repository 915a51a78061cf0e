use Rattle.std.proofs.Common.{◌≡◌, length, zero, ◌-◌, ◌∙◌, sym, true, refl, arith}
use Rattle.schema_data_types.specs.steps.Comparing.{agree}
use Rattle.schema_data_types.proofs.Relations.{agree-alike, alike-agree, ends-apart, ends-alike, goes-on, leads-below}
use Rattle.schema_data_types.proofs.shapes.are_alike.Goals as goal

pub returns-in-Apart : goal.returns-in-Apart
returns-in-Apart c =
    let n = length c.args.shapes.now in
    let apart = ends-apart c.args.shapes.now n c.loop-step._step c.loop-step.ours c.loop-step.theirs
    c.loop-step-test.true c.in-Apart.ensures in (
      λ t. absurd (cc t),
      λ h. let agreed = alike-agree c.args.shapes.now n c.args.first c.args.second h in
          let on = c.loop-step.invariant.on in absurd (cc),
    )

pub returns-in-Alike : goal.returns-in-Alike
returns-in-Alike c =
    let n = length c.args.shapes.now in
    let told = c.in-Alike.ensures in
    let agreed = ends-alike c.args.shapes.now (n - c.loop-step._step) c.loop-step.ours c.loop-step.theirs told.0 told.1
    told.2 in (
      λ t. agree-alike c.args.shapes.now c.requires.table c.args.first c.args.second c.requires.first_within
          c.requires.second_within (sym c.loop-step.invariant.on ∙ agreed),
      λ h. refl,
    )

pub loop-step-preserved : goal.loop-step-preserved
loop-step-preserved c =
    let told = c.in-Elements.ensures in record {
      ours_within = leads-below c.args.shapes.now c.loop-step.ours c.in-Elements.k c.requires.table
          c.loop-step.invariant.ours_within told.1;
      theirs_within = leads-below c.args.shapes.now c.loop-step.theirs c.in-Elements.l c.requires.table
          c.loop-step.invariant.theirs_within told.2;
      on = sym (goes-on c.args.shapes.now (length c.args.shapes.now) c.loop-step._step c.loop-step.ours
          c.loop-step.theirs c.in-Elements.k c.in-Elements.l c.loop-step-test.true told.0 told.1 told.2)
          ∙ c.loop-step.invariant.on;
    }

pub returns : goal.returns
unfolding agree
returns c =
    let n = length c.args.shapes.now in
    let none : n - c.loop-step._step ≡ zero = omega arith in
    let agreed : agree c.args.shapes.now (n - c.loop-step._step) c.loop-step.ours c.loop-step.theirs ≡ true
    = rw none refl in (
      λ t. agree-alike c.args.shapes.now c.requires.table c.args.first c.args.second c.requires.first_within
          c.requires.second_within (sym c.loop-step.invariant.on ∙ agreed),
      λ h. refl,
    )
