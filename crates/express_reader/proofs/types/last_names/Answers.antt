use Rattle.std.proofs.lemmas.Result.{err_from_is_err_and}
use Rattle.express_syntax.specs.Views.{names_of}
use Rattle.express_reader.proofs.TypeSteps.{last_names_open, last_names_done}
use Rattle.express_reader.proofs.types.last_names.Goals as goal

pub returns-in_err-expect : goal.returns-in_err-expect
returns-in_err-expect c =
    let p = err_from_is_err_and c.from_residual-in_err-expect.result c.from_residual-in_err-expect.ensures.1 in
    rw (p.1, p.2) (last_names_open _ (names_of c.in_ok-names.names.items) c.args.reader.now c.names.new.reader
    c.in_ok-names.ensures.1 c.in_err-expect.ensures)

pub returns : goal.returns
returns c = (
  c.in_ok-names.ensures.0,
  last_names_done (names_of c.in_ok-names.names.items) c.args.reader.now
      c.names.new.reader c.expect.new.self c.in_ok-names.ensures.1 c.in_ok-expect.ensures,
)
