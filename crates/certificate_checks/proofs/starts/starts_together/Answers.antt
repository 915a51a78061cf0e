use Rattle.std.proofs.Common.{◌≡◌, ◌∙◌, true, sym, subst, ap, length}
use Rattle.std.specs.Prelude.{◌↔◌}
use Rattle.value_equality.specs.Maps.{is_pinned}
use Rattle.value_equality.specs.TableViews.{table_of}
use Rattle.row_signatures.specs.steps.Numbers.{ArePlaces}
use Rattle.certificate_checks.specs.steps.ComputedStarts.{Determine}
use Rattle.certificate_checks.proofs.Starting.{starts_where}
use Rattle.certificate_checks.proofs.starts.starts_together.Goals as goal

pub determine-requires-clause-each : goal.determine-requires-clause-each
determine-requires-clause-each c =
    ap length c.deref.ensures.value ∙ c.in_ok-kinds.ensures.length ∙ sym c.in_ok-classes.ensures.each
    ∙ sym (ap length c.deref-2.ensures.value)

pub determine-requires-clause-places : goal.determine-requires-clause-places
determine-requires-clause-places c = subst ArePlaces (sym c.deref.ensures.value) c.in_ok-kinds.ensures.places

pub returns : goal.returns
returns c =
    let ks = c.in_ok-kinds.kinds.items in
    let cs = c.in_ok-classes.classes.items in
    let found : (c.determine.result ≡ true) ↔ Determine ks cs =
    subst (λ ys. (c.determine.result ≡ true) ↔ Determine ks ys) c.deref-2.ensures.value
    (subst (λ xs. (c.determine.result ≡ true) ↔ Determine xs c.deref-2.result.now) c.deref.ensures.value
    c.determine.ensures) in
    let starts = starts_where c.args.input.now (is_pinned c.args.pinned.now) (table_of c.args.table.now) ks cs
    c.in_ok-kinds.ensures.length c.in_ok-kinds.ensures.kinds c.in_ok-classes.ensures in
    (λ e. starts.0 (found.0 e), λ h. found.1 (starts.1 h))
