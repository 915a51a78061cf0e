use Rattle.std.proofs.Common.{◌∙◌}
use Rattle.std.proofs.lemmas.Result.{err_from_is_err_and}
use Rattle.express_syntax.specs.Views.{if_some, rules_of}
use Rattle.express_entities.proofs.ClauseSteps.{stops_end, after_derived, after_inverses, after_uniques, after_rules}
use Rattle.express_syntax.proofs.SameText.{passes_text, kept}
use Rattle.express_syntax.specs.Sources.{IsDerivedOf, IsInverseOf, IsRuleOf}
use Rattle.express_syntax.specs.Profile.{Every, Maybe}
use Rattle.express_entities.proofs.clauses.read_clauses.Goals as goal

pub returns-in_err-derived-clause-read : goal.returns-in_err-derived-clause-read
returns-in_err-derived-clause-read c =
    let p = err_from_is_err_and c.from_residual-in_err-derived.result c.from_residual-in_err-derived.ensures.1 in
    rw (p.1, p.2) (stops_end _ c.in_ok-explicits.ensures.read.passes c.in_err-derived.ensures.read)

pub returns-in_err-inverses-clause-read : goal.returns-in_err-inverses-clause-read
returns-in_err-inverses-clause-read c =
    let p = err_from_is_err_and c.from_residual-in_err-inverses.result c.from_residual-in_err-inverses.ensures.1 in
    rw (p.1, p.2) (stops_end _ (after_derived c.in_ok-explicits.ensures.read c.in_ok-derived.ensures.read)
    c.in_err-inverses.ensures.read)

pub returns-in_err-uniques-clause-read : goal.returns-in_err-uniques-clause-read
returns-in_err-uniques-clause-read c =
    let p = err_from_is_err_and c.from_residual-in_err-uniques.result c.from_residual-in_err-uniques.ensures.1 in
    rw (p.1, p.2) (stops_end _ (after_inverses c.in_ok-explicits.ensures.read c.in_ok-derived.ensures.read
    c.in_ok-inverses.ensures.read) c.in_err-uniques.ensures)

pub returns-in_err-rules-clause-read : goal.returns-in_err-rules-clause-read
returns-in_err-rules-clause-read c =
    let p = err_from_is_err_and c.from_residual-in_err-rules.result c.from_residual-in_err-rules.ensures.1 in
    rw (p.1, p.2) (stops_end _
    (after_uniques c.in_ok-explicits.ensures.read c.in_ok-derived.ensures.read c.in_ok-inverses.ensures.read
    c.in_ok-uniques.ensures) c.in_err-rules.ensures.read)

pub returns-clause-read : goal.returns-clause-read
returns-clause-read c = (
  record {
    explicits = c.in_ok-explicits.ensures.read.fits;
    derived = c.in_ok-derived.ensures.read.fits;
    inverses = c.in_ok-inverses.ensures.read.fits;
    uniques = c.in_ok-uniques.ensures.fits;
    rules = c.in_ok-rules.ensures.read.0;
  },
  after_rules (if_some (λ rs. rules_of rs.items) c.in_ok-rules.rules) c.in_ok-explicits.ensures.read
      c.in_ok-derived.ensures.read
      c.in_ok-inverses.ensures.read c.in_ok-uniques.ensures (
        c.in_ok-rules.ensures.read.1,
        c.in_ok-rules.ensures.read.2,
        c.in_ok-rules.ensures.read.3,
      ),
)

pub returns-clause-text : goal.returns-clause-text
returns-clause-text c =
    let a = passes_text c.in_ok-explicits.ensures.read.passes in
    let b = passes_text c.in_ok-derived.ensures.read.passes ∙ a in
    let d = passes_text c.in_ok-inverses.ensures.read.passes ∙ b in
    let e = passes_text c.in_ok-uniques.ensures.passes ∙ d in (
      c.in_ok-explicits.ensures.text,
      kept (λ t x. Maybe (λ list. Every (IsDerivedOf t) list.items) x) c.in_ok-derived.derived a
          c.in_ok-derived.ensures.text,
      kept (λ t x. Maybe (λ list. Every (IsInverseOf t) list.items) x) c.in_ok-inverses.inverses b
          c.in_ok-inverses.ensures.text,
      kept (λ t x. Maybe (λ rs. Every (IsRuleOf t) rs.items) x) c.in_ok-rules.rules e c.in_ok-rules.ensures.text,
    )
