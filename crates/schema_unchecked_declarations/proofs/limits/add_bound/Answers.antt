use Rattle.std.proofs.Common.{◌≡◌, rules}
use Rattle.std.proofs.lemmas.Result.{on_ok_weaker}
use Rattle.express_syntax.specs.declared.tree.Bound.TheVariants as bounds
use Rattle.express_syntax.specs.Views.{bound_of}
use Rattle.schema_unchecked_declarations.specs.UncheckedLists.{label_name, unchecked_in}
use Rattle.schema_unchecked_declarations.proofs.Listing.{bound-unlisted, bound-listed}
use Rattle.schema_unchecked_declarations.proofs.limits.add_bound.Goals as goal
use Rattle.schema_unchecked_declarations.proofs.limits.add_bound.Goals.{in-Unlimited, in_default}

pub returns-in-Some : goal.returns-in-Some
returns-in-Some c =
    bound-unlisted (label_name c.args.label) (bound_of c.args.bound.now) c.in-Some.field-0
    (unchecked_in c.args.list.now.items) (search rules) c.in-Some.ensures

pub returns-in-None : goal.returns-in-None
returns-in-None c =
    let limited : c.args.bound.now ≡ bounds.Unlimited → ⊥ =
    elim c.match-matches.branch [ in-Unlimited w ↦ (λ h. cc) | in_default w ↦ w.in_default.not-Unlimited ] in
    on_ok_weaker c.add_part.result
    (bound-listed (label_name c.args.label) c.args.bound.now (unchecked_in c.args.list.now.items)
    (unchecked_in c.add_part.new.list.items) limited c.in-None.ensures) c.add_part.ensures
