use Rattle.std.proofs.Common.{◌%◌, ◌∷◌, [], sym, ap, ◌∙◌, drop, inl}
use Rattle.std.proofs.lemmas.Bool.{false≢true}
use Rattle.step_literals.specs.Strings.{begins_with}
use Rattle.express_lexer.proofs.FrontLemmas.{none_encoded, next_encoded}
use Rattle.express_lexer.proofs.fronts.encoded_at.Goals.{then-digits-ne0-via-then-digits-ne0, then-digits-ne0-via-else-digits-ne0+then-not-starts_with}
use Rattle.express_lexer.proofs.fronts.encoded_at.Goals as goal

pub returns-then-digits-ne0 : goal.returns-then-digits-ne0
returns-then-digits-ne0 c =
    let r = c.split_at.result.1.now in
    let len = c.hex_len-digits.ensures.len in
    let behind = c.split_at-2.ensures.back ∙ ap (λ n. drop n r) len in
    inl (none_encoded c.args.bytes.now r c.requires c.split_at.ensures.back
    (λ groups closed. elim c.then-digits-ne0.branch [
      | then-digits-ne0-via-then-digits-ne0 w ↦ w.if-digits-ne0.true (ap (λ n. n % 8) len ∙ groups)
      | then-digits-ne0-via-else-digits-ne0+then-not-starts_with w ↦ false≢true (sym w.if-not-starts_with.true
          ∙ w.starts_with.ensures.value ∙ ap (begins_with (34 ∷ [])) behind ∙ closed)
    ]))

pub from_encoded-requires : goal.from_encoded-requires
from_encoded-requires c =
    let r = c.split_at.result.1.now in
    let len = c.hex_len-digits.ensures.len in
    let behind = c.split_at-2.ensures.back ∙ ap (λ n. drop n r) len in
    let found = next_encoded c.args.bytes.now r c.requires c.split_at.ensures.back (ap (λ n. n % 8) (sym len)
    ∙ c.if-digits-ne0.false) (ap (begins_with (34 ∷ [])) (sym behind) ∙ sym c.starts_with.ensures.value
    ∙ c.if-not-starts_with.false) in
    rw (c.split_at-3.ensures.front, len) found.1.allowed

pub returns : goal.returns
returns c =
    let r = c.split_at.result.1.now in
    let len = c.hex_len-digits.ensures.len in
    let behind = c.split_at-2.ensures.back ∙ ap (λ n. drop n r) len in
    let found = next_encoded c.args.bytes.now r c.requires c.split_at.ensures.back (ap (λ n. n % 8) (sym len)
    ∙ c.if-digits-ne0.false) (ap (begins_with (34 ∷ [])) (sym behind) ∙ sym c.starts_with.ensures.value
    ∙ c.if-not-starts_with.false) in
    record {
      within = rw len found.0;
      next = rw len found.1;
      value = c.from_encoded.ensures ∙ c.split_at-3.ensures.front;
    }
