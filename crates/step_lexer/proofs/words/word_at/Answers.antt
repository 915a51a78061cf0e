use Rattle.std.proofs.Common.{◌≡◌, take, drop, sym, ◌∙◌, take-append-drop, refl, codes}
use Rattle.std.specs.List.{prefix_len}
use Rattle.std.proofs.lemmas.Bool.{false≢true}
use Rattle.step_literals.specs.Bytes.{is_word_byte}
use Rattle.step_literals.specs.Tokens.{Says}
use Rattle.step_literals.proofs.Runs.{run_at_prefix}
use Rattle.step_literals.proofs.KeywordLemmas.{keyword_run}
use Rattle.step_lexer.proofs.WordLemmas.{next_begins, next_ends, next_keyword, said_len}
use Rattle.step_lexer.proofs.LeftOutLemmas.{word_run}
use Rattle.step_lexer.proofs.words.word_at.Goals as goal

pub returns-then-says : goal.returns-then-says
returns-then-says c =
    let said : Says (codes "ISO-10303-21") (take 12 c.args.bytes.now) = c.says.ensures.0 c.if-says.true in
    record {
      within = said_len 12 (codes "ISO-10303-21") c.args.bytes.now refl said;
      next = next_begins (take 12 c.args.bytes.now) (drop 12 c.args.bytes.now) said;
      value = tt;
    }

pub returns-then-says-2 : goal.returns-then-says-2
returns-then-says-2 c =
    let said : Says (codes "END-ISO-10303-21") (take 16 c.args.bytes.now) = c.says-2.ensures.0 c.if-says-2.true in
    record {
      within = said_len 16 (codes "END-ISO-10303-21") c.args.bytes.now refl said;
      next = next_ends (take 16 c.args.bytes.now) (drop 16 c.args.bytes.now) said;
      value = tt;
    }

pub returns : goal.returns
returns c =
    let l = c.args.bytes.now in
    let n = prefix_len is_word_byte l in
    let same : c.word_len-len.result ≡ n = c.word_len-len.ensures.len in
    record {
      within = c.word_len-len.ensures.within;
      next = rw same (next_keyword l (take n l) (drop n l) (sym (take-append-drop n l)) (keyword_run l c.requires)
          (run_at_prefix is_word_byte l).stops (λ h. false≢true (sym c.if-says.false ∙ c.says.ensures.1 h))
          (λ h. false≢true (sym c.if-says-2.false ∙ c.says-2.ensures.1 h)));
      value = c.from_keyword.ensures ∙ c.split_at.ensures.front;
    }

pub from_keyword-requires : goal.from_keyword-requires
from_keyword-requires c = word_run c.args.bytes.now c.split_at.result.0.now c.word_len-len.result
    c.word_len-len.ensures.len c.split_at.ensures.front c.requires
