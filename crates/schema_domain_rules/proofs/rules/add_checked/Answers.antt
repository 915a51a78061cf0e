use Rattle.std.proofs.Common.{ap, sym, subst}
use Rattle.express_syntax.specs.Views.{body_of, run_of}
use Rattle.schema_semantics.specs.declared.unchecked.Reason.TheVariants as reasons
use Rattle.conformance.specs.DomainRules.{RuleHasReason}
use Rattle.schema_domain_rules.specs.RuleViews.{holder_seen}
use Rattle.schema_domain_rules.proofs.Holding.{aside-reason}
use Rattle.schema_domain_rules.proofs.rules.add_checked.Goals as goal

pub returns-in-SetAside : goal.returns-in-SetAside
returns-in-SetAside c s numbered free =
    let h = holder_seen s c.args.holder in
    absurd (free reasons.Profile (subst (λ b. RuleHasReason s h b reasons.Profile) (sym (ap body_of c.in-SetAside.is))
    (aside-reason s h (run_of c.in-SetAside.field-0))))
