use Rattle.std.proofs.Common.{rules, sym, ap, ◌∙◌, ◌≡◌, ◌<◌, ◌++◌, ◌∷◌, [], subst, List, length, arith}
use Rattle.std.specs.Prelude.{drop}
use Rattle.std.specs.List.{list_any}
use Rattle.std.proofs.lemmas.Bool.Decides.{nat_tests}
use Rattle.std.proofs.lemmas.Result.{err_from_is_err_and}
use Rattle.step_literals.specs.declared.literal.Word.{Word}
use Rattle.step_structures.specs.Words.{located}
use Rattle.step_structures.specs.Fits.{has_keyword}
use Rattle.step_structures.specs.steps.Predict.{PartialRecords, EndOfText}
use Rattle.step_records.specs.steps.Readers.{reading}
use Rattle.step_records.specs.steps.Records.{texts_of, keywords_of, TakesPartial}
use Rattle.step_records.specs.steps.Steps.{StopsIn}
use Rattle.step_records.proofs.RecordSteps.{has_keyword_any}
use Rattle.step_records.proofs.RecordKeywords.{says}
use Rattle.step_records.proofs.Recording.{partials_go_on, partials_end, partials_err_read, partials_err_one, partials_none, partials_less}
use Rattle.step_records.proofs.records.each_partial_record.Goals as goal

pub returns-in_err-token : goal.returns-in_err-token
returns-in_err-token c =
    let p = err_from_is_err_and c.from_residual.result c.from_residual.ensures.1 in
    let s = c.loop-token.invariant.read in
    let ks = keywords_of s.partials in
    rw (p.1, p.2) (partials_err_read _ c.args.reader.now c.loop-token.reader c.loop-token.words.items s
    (c.in_err-token.ensures (PartialRecords ks) (λ (e : PartialRecords ks ≡ EndOfText). cc)))

pub returns-then-is_empty : goal.returns-then-is_empty
returns-then-is_empty c =
    let none : length c.loop-token.words.items ≡ 0 = search (rules, arith, nat_tests) in
    partials_none c.refuse.result c.args.reader.now c.loop-token.reader c.take.new.reader c.in_ok-token.token
    c.loop-token.words.items c.loop-token.invariant.read c.in_ok-token.ensures.0 (sym c.is_mark.ensures
    ∙ c.if-is_mark.true) none c.refuse.ensures

pub returns-then-is_mark : goal.returns-then-is_mark
returns-then-is_mark c =
    let some : 0 < length c.loop-token.words.items = search (rules, arith, nat_tests) in
    partials_end c.args.reader.now c.loop-token.reader c.take.new.reader c.in_ok-token.token
    c.loop-token.words.items c.loop-token.invariant.read c.in_ok-token.ensures.0 c.in_ok-token.ensures.1
    (sym c.is_mark.ensures ∙ c.if-is_mark.true) some

pub returns-in_err-keyword : goal.returns-in_err-keyword
returns-in_err-keyword c =
    let p = err_from_is_err_and c.from_residual-in_err-keyword.result c.from_residual-in_err-keyword.ensures.1 in
    let P : List Word → Type 0 = λ l. StopsIn c.in_err-keyword.field-0.0 (PartialRecords (texts_of l) ∷ [])
    (located c.in_ok-token.token ∷ []) (reading c.take.new.reader) in
    rw (p.1, p.2) (partials_err_one _ c.args.reader.now c.loop-token.reader c.take.new.reader c.in_ok-token.token
    c.loop-token.words.items c.loop-token.invariant.read c.in_ok-token.ensures.0
    (subst P c.deref.ensures.value c.in_err-keyword.ensures))

pub keep_keyword-requires-clause-alone : goal.keep_keyword-requires-clause-alone
keep_keyword-requires-clause-alone c =
    let v = c.in_ok-keyword.ensures in
    ap (list_any (says c.in_ok-keyword.keyword)) (c.deref-in-loop-token.ensures.value ∙ sym c.deref.ensures.value)
    ∙ has_keyword_any c.in_ok-keyword.keyword.text.now c.deref.result.now
    ∙ ap (λ w. has_keyword w (texts_of c.deref.result.now)) v.keyword_is ∙ v.fits.0

pub loop-token-smaller : goal.loop-token-smaller
loop-token-smaller c = partials_less c.loop-token.reader c.take.new.reader c.partial_record.new.reader
    c.in_ok-token.token (texts_of c.deref.result.now) c.in_ok-keyword.keyword c.in_ok-token.ensures.0
    c.in_ok-keyword.ensures

pub loop-token-preserved : goal.loop-token-preserved
loop-token-preserved c =
    let ws = c.loop-token.words.items in
    let w = c.in_ok-keyword.keyword in
    let P : List Word → Type 0 = λ l. TakesPartial (texts_of l) (located c.in_ok-token.token) w c.take.new.reader
    c.partial_record.new.reader in
    rw c.in_ok-push.ensures.items (record {
      read = partials_go_on c.args.reader.now c.loop-token.reader c.take.new.reader c.partial_record.new.reader
          c.in_ok-token.token w ws c.loop-token.invariant.read c.in_ok-token.ensures.0 c.in_ok-token.ensures.1
          (subst P c.deref.ensures.value c.in_ok-keyword.ensures);
      kept = c.in_ok-keep_keyword.ensures ∙ ap (λ (l : List Word). drop 8 (l ++ w ∷ []))
          c.deref-in-loop-token.ensures.value;
    })
