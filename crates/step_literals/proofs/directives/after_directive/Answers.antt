use Rattle.std.proofs.Common.{drop}
use Rattle.step_literals.specs.Strings.{clean, shift_at, code_at, groups_at}
use Rattle.step_literals.proofs.PieceLemmas.{slash_first, deeper_row, shift_row, code_row, two_row, four_row}
use Rattle.step_literals.proofs.directives.after_directive.Goals as goal

pub returns-in-Some-strip : goal.returns-in-Some-strip
returns-in-Some-strip c =
    let bytes = c.args.bytes.now in
    deeper_row (shift_at) c.after_shift.result (shift_row (clean (drop 1 bytes)) (clean bytes)
    (slash_first bytes c.requires) c.in_default.ensures c.in-Some-strip.ensures.0) c.in-Some-strip.ensures.1
    c.after_shift.ensures

pub returns-in-Some-strip-2 : goal.returns-in-Some-strip-2
returns-in-Some-strip-2 c =
    let bytes = c.args.bytes.now in
    deeper_row (code_at) c.after_code.result (code_row (clean (drop 1 bytes)) (clean bytes)
    (slash_first bytes c.requires) c.in_default.ensures c.in_default-strip.ensures c.in_default-page_at.ensures
    c.in-Some-strip-2.ensures.0) c.in-Some-strip-2.ensures.1 c.after_code.ensures

pub returns-in-Some-strip-3 : goal.returns-in-Some-strip-3
returns-in-Some-strip-3 c =
    let bytes = c.args.bytes.now in
    deeper_row (groups_at 4) c.after_groups.result
    (two_row (clean (drop 1 bytes)) (clean bytes) (slash_first bytes c.requires) c.in_default.ensures
    c.in_default-strip.ensures c.in_default-page_at.ensures c.in_default-strip-2.ensures
    c.in-Some-strip-3.ensures.0)
    c.in-Some-strip-3.ensures.1 c.after_groups.ensures

pub returns-in-Some-strip-4 : goal.returns-in-Some-strip-4
returns-in-Some-strip-4 c =
    let bytes = c.args.bytes.now in
    deeper_row (groups_at 8) c.after_groups-in-Some-strip-4.result
    (four_row (clean (drop 1 bytes)) (clean bytes) (slash_first bytes c.requires) c.in_default.ensures
    c.in_default-strip.ensures c.in_default-page_at.ensures c.in_default-strip-2.ensures
    c.in_default-strip-3.ensures c.in-Some-strip-4.ensures.0)
    c.in-Some-strip-4.ensures.1 c.after_groups-in-Some-strip-4.ensures
