use Rattle.std.proofs.lemmas.Result.{IfOk-weaker}
use Rattle.express_syntax.specs.Views.{body_of}
use Rattle.schema_semantics.specs.Ranks.{HasReason}
use Rattle.schema_data_types.specs.steps.Values.{Holds}
use Rattle.schema_attribute_references.specs.steps.Taking.{schema_in}
use Rattle.schema_unchecked.specs.steps.Judging.{IsFirstReason, IsReasonFor}
use Rattle.schema_unchecked.specs.steps.Rules.{RuleHasReason}
use Rattle.schema_unchecked.proofs.Selves.{reason-alike}
use Rattle.schema_unchecked.proofs.SelfSets.{over-select, over-none}
use Rattle.schema_unchecked.proofs.rules.reason_of_rule.Goals as goal

pub returns-then-own : goal.returns-then-own
returns-then-own c =
    let s = schema_in c.args.findings.now.known in
    over-select s (Holds s c.args.own.atoms.now) c.args.own.is_over_select (body_of c.args.body.now) c.if-own.true

pub returns : goal.returns
returns c =
    let s = schema_in c.args.findings.now.known in
    let M = Holds s c.args.own.atoms.now in
    let w = c.args.own.is_over_select in
    let b = body_of c.args.body.now in
    IfOk-weaker c.reason_for.result (IsReasonFor s M b) (IsFirstReason (RuleHasReason s M w b))
    (reason-alike (HasReason s M b) (RuleHasReason s M w b) (over-none s M w b c.if-own.false)) c.reason_for.ensures
