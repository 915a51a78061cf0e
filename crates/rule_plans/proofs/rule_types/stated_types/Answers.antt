use Rattle.std.proofs.Common.{rules, ◌≡◌, ◌+◌, ◌∙◌, [], ◌∷◌, ◌++◌, length, take, vec_len, ap, sym, subst, get_or}
use Rattle.std.specs.Prelude.{replicate, false}
use Rattle.std.proofs.lemmas.List.{length-map, length-replicate, take_all, take_more}
use Rattle.std.proofs.lemmas.Option.{slice_get-get_or}
use Rattle.express_syntax.specs.Views.{declaration_of}
use Rattle.schema_names.specs.Schemas.{the_schema}
use Rattle.typed_populations.proofs.Found.{every-at}
use Rattle.schema_domain_rules.specs.declared.rule.DomainRule.{DomainRule}
use Rattle.schema_domain_rules.specs.RuleViews.{IsNumberedRule}
use Rattle.rule_plans.specs.steps.Wanted.{notes_within, AreStated}
use Rattle.rule_plans.proofs.Wanting.{noted-within, noted-length, stated-first, stated-next}
use Rattle.rule_plans.proofs.rule_types.stated_types.Goals as goal

pub loop-rule-init : goal.loop-rule-init
loop-rule-init c =
    let n = length c.args.names.now.schema.now.declarations.items in
    let whole : length c.args.names.now.schema.now.declarations.items ≡ vec_len c.args.names.now.schema.now.declarations =
    search rules in
    let none : c.in_ok-stated.stated.items ≡ replicate n false =
    c.in_ok-stated.ensures.items_if_clones_equal (λ y h. h) ∙ ap (λ k. replicate k false) (c.len.ensures ∙ sym whole) in
    record {
      long = ap length none ∙ length-replicate n false;
      stated = stated-first n c.in_ok-stated.stated.items none;
    }

pub note_holder-requires : goal.note_holder-requires
note_holder-requires c =
    let s = the_schema c.args.names.now in
    let xs = c.args.rules.now in
    let k = c.loop-rule.rule-index in
    let r = c.rule-item.result in
    let here = slice_get-get_or xs k r c.loop-rule-test.true in
    let one = every-at (IsNumberedRule s) xs k _ c.requires.numbered here in
    let many = length-map c.args.names.now.schema.now.declarations.items declaration_of in
    subst (λ (q : DomainRule). notes_within q.holder (length c.loop-rule.stated.items)) (sym c.rule-item.is)
    (noted-within s (get_or xs k r).holder (length c.loop-rule.stated.items) (c.loop-rule.invariant.long ∙ sym many) one)

pub loop-rule-preserved : goal.loop-rule-preserved
loop-rule-preserved c =
    let s = the_schema c.args.names.now in
    let xs = c.args.rules.now in
    let k = c.loop-rule.rule-index in
    let r = c.rule-item.result in
    let stated = c.loop-rule.stated.items in
    let here = slice_get-get_or xs k r c.loop-rule-test.true in
    let one = every-at (IsNumberedRule s) xs k _ c.requires.numbered here in
    let many = length-map c.args.names.now.schema.now.declarations.items declaration_of in
    let within : notes_within r.holder (length stated) =
    subst (λ (q : DomainRule). notes_within q.holder (length stated)) (sym c.rule-item.is)
    (noted-within s (get_or xs k r).holder (length stated) (c.loop-rule.invariant.long ∙ sym many) one) in
    let more : take (k + 1) xs ≡ take k xs ++ r ∷ [] =
    take_more xs k r c.loop-rule-test.true ∙ ap (λ (q : DomainRule). take k xs ++ q ∷ []) (sym c.rule-item.is) in
    record {
      long = ap length c.note_holder.ensures ∙ noted-length r.holder stated ∙ c.loop-rule.invariant.long;
      stated = subst (AreStated (take (k + 1) xs)) (sym c.note_holder.ensures)
          (stated-next (take k xs) (take (k + 1) xs) r stated more within c.loop-rule.invariant.stated);
    }

pub returns-clause-length : goal.returns-clause-length
returns-clause-length c =
    c.loop-rule.invariant.long ∙ sym (length-map c.args.names.now.schema.now.declarations.items declaration_of)

pub returns-clause-stated : goal.returns-clause-stated
returns-clause-stated c =
    subst (λ l. AreStated l c.loop-rule.stated.items)
    (take_all c.loop-rule.rule-index c.args.rules.now c.loop-rule-test.false) c.loop-rule.invariant.stated
