use Rattle.std.proofs.Common.{sym, ◌∙◌, arith, ◌++◌, [], refl, take-append-drop}
use Rattle.std.proofs.lemmas.Bool.Decides.{nat_tests}
use Rattle.step_literals.proofs.Runs.{stops_at}
use Rattle.step_literals.proofs.Found.{none_found}
use Rattle.step_literals.proofs.StringLemmas.{is_quote, string_ends, string_goes_on, string_none}
use Rattle.step_literals.proofs.strings.string_len.Goals as goal

pub loop-at-init : goal.loop-at-init
loop-at-init c = (
  [],
  sym (take-append-drop 1 c.args.bytes.now) ∙ (λ i. c.requires i ++ sym c.split_at.ensures.back i),
  refl,
)

pub loop-at-preserved : goal.loop-at-preserved
loop-at-preserved c =
    let i = c.loop-at.invariant in
    string_goes_on c.args.bytes.now c.loop-at.rest.now i.0 c.loop-at.len c.in-Some.at i.1 i.2 c.in-Some.ensures
    c.split_at-in-Some.result.1.now c.split_at-in-Some-2.result.1.now c.split_at-in-Some.ensures.back
    (grind (arith, nat_tests)) c.if-after-ne-QUOTE.false c.split_at-in-Some-2.ensures.back

pub returns-then-is_empty : goal.returns-then-is_empty
returns-then-is_empty c =
    let i = c.loop-at.invariant in
    string_ends c.args.bytes.now c.loop-at.rest.now i.0 c.loop-at.len c.in-Some.at i.1 i.2 c.in-Some.ensures
    c.split_at-in-Some.result.1.now c.split_at-in-Some.ensures.back (stops_at c.split_at-in-Some.result.1.now
    is_quote (λ h. grind (arith, nat_tests)))

pub returns : goal.returns
returns c =
    let i = c.loop-at.invariant in
    λ k other rest e. string_none i.0 c.loop-at.rest.now (none_found 39 c.loop-at.rest.now c.in_default.ensures) k other
    rest (sym i.1 ∙ e)
