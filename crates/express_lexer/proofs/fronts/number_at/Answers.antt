use Rattle.std.proofs.Common.{take, drop, sym, ◌∙◌, subst, inl, inr}
use Rattle.std.proofs.lemmas.Bool.{false≢true}
use Rattle.step_literals.specs.Numbers.{IsShortNumber}
use Rattle.step_literals.specs.Tokens as literals
use Rattle.express_lexer.proofs.FrontLemmas.{none_number, next_number, next_integer, next_real}
use Rattle.express_lexer.proofs.fronts.number_at.Goals.{then-is_real, else-is_real}
use Rattle.express_lexer.proofs.fronts.number_at.Goals as goal

pub returns-in_err-len : goal.returns-in_err-len
returns-in_err-len c = rw c.from_residual.ensures (inl (none_number c.args.bytes.now c.requires c.in_err-len.ensures))

pub returns-then-not-is_short_number : goal.returns-then-not-is_short_number
returns-then-not-is_short_number c =
    let n = c.in_ok-len.len in
    inr (record {
      len = n;
      within = c.in_ok-len.ensures.0;
      next = next_number c.args.bytes.now n c.in_ok-len.is_real c.requires c.in_ok-len.ensures.1;
      long = λ h. false≢true (sym c.if-not-is_short_number.true ∙ c.is_short_number.ensures.1
          (subst IsShortNumber (sym c.split_at.ensures.front) h));
    })

pub returns : goal.returns
returns c =
    let l = c.args.bytes.now in
    let n = c.in_ok-len.len in
    let spelled = c.from_number-number.ensures ∙ c.split_at.ensures.front in
    let short = subst IsShortNumber c.split_at.ensures.front
    (c.is_short_number.ensures.0 c.if-not-is_short_number.false) in
    elim c.if-is_real.branch [
      | then-is_real w ↦
          let found : literals.IsNext literals.real (take n l) (drop n l) = rw w.if-is_real.true at
          c.in_ok-len.ensures.1 in
          rw w.sort-is (record {
            within = c.in_ok-len.ensures.0;
            next = next_real l c.requires n found;
            value = (spelled, short);
          })
      | else-is_real w ↦
          let found : literals.IsNext literals.integer (take n l) (drop n l) = rw w.if-is_real.false at
          c.in_ok-len.ensures.1 in
          rw w.sort-is (record {
            within = c.in_ok-len.ensures.0;
            next = next_integer l c.requires n found;
            value = (spelled, short);
          })
    ]
