use Rattle.std.proofs.Common.{sym, ap, ◌∙◌}
use Rattle.std.proofs.lemmas.Result.{err_from_is_err_and}
use Rattle.express_syntax.specs.Words.{word_of}
use Rattle.express_token_runs.specs.steps.Items.{located_of}
use Rattle.express_syntax.specs.Texts.{token}
use Rattle.express_syntax.specs.steps.Predict.{Body}
use Rattle.express_entities.specs.steps.EntityParts.{clause_of}
use Rattle.express_syntax.proofs.Looking.{stops_refused}
use Rattle.express_entities.proofs.ClauseSteps.{self_stops, self_done, name_begins, boundary_begins, keyword_stops, other_refused}
use Rattle.express_entities.proofs.clauses.take_start.Goals as goal

pub returns-in_err-redeclared : goal.returns-in_err-redeclared
returns-in_err-redeclared c =
    let p = err_from_is_err_and c.from_residual-in_err-redeclared.result c.from_residual-in_err-redeclared.ensures.1 in
    rw (p.1, p.2) (self_stops _ (clause_of c.args.clause) (located_of c.in_ok-item.item) c.args.reader.now
    c.take.new.self c.in_ok-item.ensures (sym c.is_keyword.ensures ∙ c.if-is_keyword.true)
    c.in_err-redeclared.ensures)

pub returns-then-is_keyword : goal.returns-then-is_keyword
returns-then-is_keyword c =
    self_done (clause_of c.args.clause) c.in_ok-redeclared.field-0 (located_of c.in_ok-item.item) c.args.reader.now
    c.take.new.self c.redeclared.new.reader c.in_ok-item.ensures (sym c.is_keyword.ensures ∙ c.if-is_keyword.true)
    c.in_ok-redeclared.ensures

pub returns-in-Name : goal.returns-in-Name
returns-in-Name c = name_begins (clause_of c.args.clause) c.in-Name.word (located_of c.in_ok-item.item)
    c.args.reader.now c.take.new.self c.in_ok-item.ensures (ap (λ l. token (word_of l)) c.in-Name.is)

pub returns-in-Some : goal.returns-in-Some
returns-in-Some c =
    boundary_begins (clause_of c.args.clause) c.in-Keyword.found c.in-Some.boundary (located_of c.in_ok-item.item)
    c.args.reader.now c.take.new.self c.in_ok-item.ensures (ap (λ l. token (word_of l)) c.in-Keyword.is)
    c.in-Some.ensures

pub returns-in-None : goal.returns-in-None
returns-in-None c =
    keyword_stops c.refuse.result (clause_of c.args.clause) c.in-Keyword.found (located_of c.in_ok-item.item)
    c.args.reader.now c.take.new.self c.in_ok-item.ensures (ap (λ l. token (word_of l)) c.in-Keyword.is)
    (sym c.is_keyword.ensures ∙ c.if-is_keyword.false) c.in-None.ensures c.refuse.ensures

pub returns-in_default : goal.returns-in_default
returns-in_default c =
    stops_refused c.refuse-in_default.result (Body (clause_of c.args.clause)) (located_of c.in_ok-item.item)
    c.args.reader.now c.take.new.self c.in_ok-item.ensures
    (other_refused (clause_of c.args.clause) c.in_ok-item.item.lexeme c.in_default.not-Name c.in_default.not-Keyword)
    c.refuse-in_default.ensures
