use Rattle.std.proofs.Common.{sym, ◌∙◌, ap}
use Rattle.value_equality.specs.Rows.{Kind, row_kind}
use Rattle.value_equality.specs.Views.{row_seen}
use Rattle.value_equality.proofs.OneKind.{kinds_decide, two_sections, one_section}
use Rattle.value_equality.proofs.row.is_one_kind.Goals as goal

pub returns-then-row-other-clause-kinds : goal.returns-then-row-other-clause-kinds
returns-then-row-other-clause-kinds c =
    (λ e. absurd (cc), λ e. absurd (c.if-row-other.true (ap (λ (k : Kind). k.0) e)))

pub returns-then-row-other-clause-test : goal.returns-then-row-other-clause-test
returns-then-row-other-clause-test c =
    two_sections (row_kind (row_seen c.args.row.now)) (row_kind (row_seen c.args.other.now)) c.if-row-other.true

pub returns-clause-kinds : goal.returns-clause-kinds
returns-clause-kinds c =
    let a = row_kind (row_seen c.args.row.now) in
    let b = row_kind (row_seen c.args.other.now) in
    let test = one_section a b c.same_words.result c.if-row-other.false c.same_words.ensures in
    (λ e. (kinds_decide a b).0 (sym test ∙ e), λ e. test ∙ (kinds_decide a b).1 e)

pub returns-clause-test : goal.returns-clause-test
returns-clause-test c =
    one_section (row_kind (row_seen c.args.row.now)) (row_kind (row_seen c.args.other.now)) c.same_words.result
    c.if-row-other.false c.same_words.ensures
