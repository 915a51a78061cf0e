use Rattle.std.proofs.Common.{sym, ap, ◌∙◌, ◌≡◌, subst}
use Rattle.std.proofs.lemmas.Result.{err_from_is_err_and}
use Rattle.step_records.specs.steps.Building.{Building}
use Rattle.step_records.specs.steps.Tokens.{StandsIn, leaf_of}
use Rattle.step_structures.specs.steps.Predict.{Ended, EndOfText}
use Rattle.step_exchange.proofs.HeadSteps.{keyed_err_params, keyed_err_token, keyed_refused}
use Rattle.step_exchange.proofs.HeadKeeping.{keyed_params, keyed_items, keyed_stops, keyed_over}
use Rattle.step_records.specs.steps.Readers.{reading}
use Rattle.step_exchange.proofs.header.record_or_end.Goals as goal

pub returns-in_err-record : goal.returns-in_err-record
returns-in_err-record c =
    let p = err_from_is_err_and c.from_residual.result c.from_residual.ensures.1 in
    rw (p.1, p.2) (keyed_err_params _ c.args.keyword.text.now (reading c.args.reader.now) (sym c.is_said.ensures
    ∙ c.if-not-is_said.true) c.in_err-record.ensures)

pub returns-then-not-is_said : goal.returns-then-not-is_said
returns-then-not-is_said c = keyed_params c.args.key c.args.keyword.text.now c.args.reader.now c.record.new.reader
    (sym c.is_said.ensures ∙ c.if-not-is_said.true) c.in_ok-record.ensures

pub returns-in_err-behind : goal.returns-in_err-behind
returns-in_err-behind c =
    let p = err_from_is_err_and c.from_residual-in_err-behind.result c.from_residual-in_err-behind.ensures.1 in
    rw (p.1, p.2) (keyed_err_token _ c.args.keyword.text.now (reading c.args.reader.now) (sym c.is_said.ensures
    ∙ c.if-not-is_said.false) (c.in_err-behind.ensures Ended (λ (e : Ended ≡ EndOfText). cc)))

pub returns-then-is_mark : goal.returns-then-is_mark
returns-then-is_mark c = keyed_over c.in_ok-behind.behind c.args.keyword.text.now c.args.reader.now c.take.new.reader
    (sym c.is_said.ensures ∙ c.if-not-is_said.false) c.in_ok-behind.ensures.0 c.in_ok-behind.ensures.1
    (sym c.is_mark.ensures ∙ c.if-is_mark.true)

pub returns-then-not-is_mark : goal.returns-then-not-is_mark
returns-then-not-is_mark c =
    keyed_refused c.refuse.result c.args.keyword.text.now c.in_ok-behind.behind (reading c.args.reader.now) (reading c.take.new.reader)
    (sym c.is_said.ensures ∙ c.if-not-is_said.false) c.in_ok-behind.ensures.0 (sym c.is_mark.ensures
    ∙ c.if-is_mark.false) (sym c.is_mark-2.ensures ∙ c.if-not-is_mark.true) c.refuse.ensures

pub push_leaf-requires-clause-kind : goal.push_leaf-requires-clause-kind
push_leaf-requires-clause-kind c = ap leaf_of c.requires.keyword

pub push_leaf-requires-clause-stands : goal.push_leaf-requires-clause-stands
push_leaf-requires-clause-stands c = let P : Building → Type 0 = λ b. StandsIn b.text c.args.key in
    subst P (sym c.in_ok-behind.ensures.1) c.requires.stands

pub returns-in_err-items : goal.returns-in_err-items
returns-in_err-items c =
    let p = err_from_is_err_and c.from_residual-in_err-items.result c.from_residual-in_err-items.ensures.1 in
    rw (p.1, p.2) (keyed_stops _ c.args.keyword.text.now c.args.key c.in_ok-behind.behind c.args.reader.now
    c.take.new.reader c.push_leaf.new.self (sym c.is_said.ensures ∙ c.if-not-is_said.false) c.in_ok-behind.ensures.0
    (sym c.is_mark-2.ensures ∙ c.if-not-is_mark.false) c.in_ok-push_leaf.ensures c.in_err-items.ensures)

pub returns : goal.returns
returns c = keyed_items c.args.key c.in_ok-behind.behind c.args.keyword.text.now c.args.reader.now c.take.new.reader
    c.push_leaf.new.self c.items.new.reader (sym c.is_said.ensures ∙ c.if-not-is_said.false) c.in_ok-behind.ensures.0
    c.in_ok-behind.ensures.1 (sym c.is_mark-2.ensures ∙ c.if-not-is_mark.false) c.in_ok-push_leaf.ensures
    c.in_ok-items.ensures
