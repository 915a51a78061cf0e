use Rattle.std.proofs.lemmas.Result.{err_from_is_err_and}
use Rattle.step_exchange.specs.Exchanges.{structure}
use Rattle.verifying.proofs.input.verify_read.Goals as goal

pub returns-in_err-judged : goal.returns-in_err-judged
returns-in_err-judged c schema input header_bytes choice settles are reads =
    let p = err_from_is_err_and c.from_residual.result c.from_residual.ensures.1 in
    rw (p.1, p.2) (c.in_err-judged.ensures.finds schema input header_bytes choice settles are reads
    c.args.claim.output.now)

pub returns : goal.returns
returns c schema input header_bytes choice settles are reads =
    let found = c.in_ok-judged.ensures.finds schema input header_bytes choice settles are reads in
    c.verify_output.ensures schema input c.args.claim.certificate.items choice (structure c.args.exchange)
    c.of-headings.ensures settles found.0 found.1
