use Rattle.std.proofs.Common.{◌≤◌, length, refl, arith}
use Rattle.std.specs.Prelude.{◌^◌}
use Rattle.std.proofs.lemmas.Result.{err_from_is_err_and}
use Rattle.verifying.specs.Sources.{no_certificate, no_file, no_output}
use Rattle.verifying.proofs.sources.read_all.Goals as goal

pub returns-in_err-file-clause-read : goal.returns-in_err-file-clause-read
returns-in_err-file-clause-read g c =
    let p = err_from_is_err_and c.from_residual.result c.from_residual.ensures.1 in
    let small = c.if-schema-gt-LIMIT.false in
    let within : length c.args.schema.now ≤ 2 ^ 40 = omega (arith, small) in
    rw (p.1, p.2) (no_file c.args.schema.now (record { text_is = refl; within = within; fails = refl })
    c.in_err-file.ensures.read)

pub returns-in_err-smaller-clause-read : goal.returns-in_err-smaller-clause-read
returns-in_err-smaller-clause-read g c =
    let p = err_from_is_err_and c.from_residual-in_err-smaller.result c.from_residual-in_err-smaller.ensures.1 in
    let small = c.if-schema-gt-LIMIT.false in
    let within : length c.args.schema.now ≤ 2 ^ 40 = omega (arith, small) in
    rw (p.1, p.2) (no_output c.args.schema.now c.in_ok-file.file.items
    (record { text_is = refl; within = within; fails = refl }) c.in_ok-file.ensures.read c.in_err-smaller.ensures.read)

pub returns-in_err-certificate-clause-read : goal.returns-in_err-certificate-clause-read
returns-in_err-certificate-clause-read g c =
    let p = err_from_is_err_and c.from_residual-in_err-certificate.result c.from_residual-in_err-certificate.ensures.1 in
    let small = c.if-schema-gt-LIMIT.false in
    let within : length c.args.schema.now ≤ 2 ^ 40 = omega (arith, small) in
    rw (p.1, p.2) (no_certificate c.args.schema.now c.in_ok-file.file.items c.in_ok-smaller.smaller.items
    (record { text_is = refl; within = within; fails = refl }) c.in_ok-file.ensures.read c.in_ok-smaller.ensures.read
    c.in_err-certificate.ensures.read)
