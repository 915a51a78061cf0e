use Rattle.std.proofs.Common.{OnOk, subst, sym}
use Rattle.schema_faults.specs.steps.Repeated.{Sees}
use Rattle.schema_faults.specs.steps.Parts.{own_in}
use Rattle.schema_faults.proofs.parts.see_own.Goals as goal

pub returns-in-Unqualified : goal.returns-in-Unqualified
returns-in-Unqualified c =
    subst (λ a. OnOk c.see.result (Sees c.args.seen.now c.see.new.seen (own_in c.args.scope a)))
    (sym c.in-Unqualified.is) c.see.ensures
