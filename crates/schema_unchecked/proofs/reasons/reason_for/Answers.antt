use Rattle.std.proofs.Common.{sym, subst}
use Rattle.express_syntax.specs.Views.{body_of}
use Rattle.schema_data_types.specs.steps.Values.{Holds}
use Rattle.schema_attribute_references.specs.steps.Taking.{schema_in}
use Rattle.schema_unchecked.specs.steps.Judging.{IsReasonFor}
use Rattle.schema_unchecked.proofs.Firsts.{reason-is}
use Rattle.schema_unchecked.proofs.reasons.reason_for.Goals as goal

pub returns : goal.returns
returns c =
    let s = schema_in c.args.known.now in
    subst (IsReasonFor s (Holds s c.args.own.now) (body_of c.args.body.now)) (sym c.reason_with.ensures)
    (reason-is s (Holds s c.args.own.now) c.args.ranks.now c.requires.ranks (body_of c.args.body.now)
    c.in_ok-judgement.judgement c.in_ok-judgement.ensures)
