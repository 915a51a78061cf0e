use Rattle.std.proofs.Common.{◌∙◌, ℕ, sym, subst}
use Rattle.express_syntax.specs.ExpressionViews.{capitals}
use Rattle.schema_names.specs.Numbers.{HasNumber}
use Rattle.schema_names.specs.Schemas.{the_schema}
use Rattle.schema_underlying_types.specs.BaseViews.{name_at}
use Rattle.schema_attribute_sources.proofs.FirstNamed.{first-is, first-none}
use Rattle.schema_attribute_sources.proofs.Members.{every-has}
use Rattle.schema_attribute_sources.proofs.Membership.{not-here, own-member, not-own, inherited-member}
use Rattle.schema_attribute_sources.proofs.group_references.group_member.Goals as goal

pub returns-in_default : goal.returns-in_default
returns-in_default c =
    let s = the_schema c.args.schema.now.names in
    let e = capitals c.args.entity in
    not-here s c.args.types.now c.requires.types (capitals c.args.name) e
    (first-none s e c.args.types.now (sym c.in_default.ensures))

pub returns-then-declares_at : goal.returns-then-declares_at
returns-then-declares_at c =
    let s = the_schema c.args.schema.now.names in
    let e = capitals c.args.entity in
    let i = c.in-Some.entity in
    let (m, is) = first-is s e c.args.types.now i (sym c.in-Some.ensures) in
    let k = subst (λ n. HasNumber s n i) is
    (every-has (λ (x : ℕ). HasNumber s (name_at s x) x) c.args.types.now i c.requires.types m) in
    own-member s c.args.types.now c.requires.types (capitals c.args.name) e i k m
    (sym c.declares_at.ensures ∙ c.if-declares_at.true)

pub returns : goal.returns
returns c =
    let s = the_schema c.args.schema.now.names in
    let e = capitals c.args.entity in
    let a = capitals c.args.name in
    let i = c.in-Some.entity in
    let (m, is) = first-is s e c.args.types.now i (sym c.in-Some.ensures) in
    let k = subst (λ n. HasNumber s n i) is
    (every-has (λ (x : ℕ). HasNumber s (name_at s x) x) c.args.types.now i c.requires.types m) in
    let free =
    not-own s c.args.types.now c.requires.types a e i k (sym c.declares_at.ensures ∙ c.if-declares_at.false) in
    inherited-member s c.args.types.now c.requires.types a e i k m free c.inherited.result
    (c.inherited.ensures e k free)
