use Rattle.std.proofs.Common.{◌≡◌, sym, ◌∙◌, ap, map}
use Rattle.value_equality.specs.Maps.{is_pinned}
use Rattle.value_equality.specs.TableViews.{table_of, member_of}
use Rattle.certificate_checks.proofs.FirstMembers.{map_members}
use Rattle.certificate_checks.specs.steps.ComputedStability.{classes_of}
use Rattle.certificate_checks.proofs.Finding.{through_ok}
use Rattle.certificate_checks.proofs.Stability.{stable_where}
use Rattle.certificate_checks.proofs.stable_rounds.is_stable.Goals as goal

pub returns : goal.returns
returns c =
    let ms = c.args.table.now.members.items in
    let cs : c.in_ok-classes.classes.items ≡ classes_of (map member_of ms) =
    c.in_ok-classes.ensures ∙ ap classes_of (c.deref.ensures.value ∙ sym (map_members ms)) in
    through_ok c.rows_agree.result c.rows_agree.ensures (stable_where c.args.input.now (is_pinned c.args.pinned.now)
    (table_of c.args.table.now) c.requires.members c.requires.well_formed c.len-rows.ensures.population
    c.in_ok-firsts.firsts.firsts.items c.in_ok-classes.classes.items c.in_ok-firsts.ensures.firsts cs)
