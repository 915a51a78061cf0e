use Rattle.std.proofs.lemmas.Result.{IfOk-weaker}
use Rattle.value_equality.specs.Maps.{is_pinned}
use Rattle.merge_classes.proofs.Finding.{classes_short, rounds_short, rounds_within, table_stands}
use Rattle.merge_classes.proofs.classes.refine_last.Goals as goal

pub returns-clause-standard : goal.returns-clause-standard
returns-clause-standard c =
    let f = c.in_ok-found.found in
    IfOk-weaker c.classes_of.result _ _ (λ t e.
    table_stands c.args.input.now (is_pinned c.args.pinned.now) f.last f.numbering.firsts.items f.numbering.origins.items
    f.numbering.members.items c.in_ok-found.ensures t e) c.classes_of.ensures.table

pub returns-clause-rounds : goal.returns-clause-rounds
returns-clause-rounds c =
    let f = c.in_ok-found.found in
    IfOk-weaker c.classes_of.result _ _ (λ t e.
    rounds_within c.args.input.now (is_pinned c.args.pinned.now) f.last f.numbering.firsts.items f.numbering.origins.items
    f.numbering.members.items c.in_ok-found.ensures t e c.len-rows.ensures.population) c.classes_of.ensures.table

pub returns-clause-short_rounds : goal.returns-clause-short_rounds
returns-clause-short_rounds c =
    let f = c.in_ok-found.found in
    IfOk-weaker c.classes_of.result _ _ (λ t e.
    rounds_short c.args.input.now (is_pinned c.args.pinned.now) f.last f.numbering.firsts.items f.numbering.origins.items
    f.numbering.members.items c.in_ok-found.ensures t e
    c.len-rows.ensures.population c.len-rows.ensures.few) c.classes_of.ensures.table

pub returns-clause-short_classes : goal.returns-clause-short_classes
returns-clause-short_classes c =
    let f = c.in_ok-found.found in
    IfOk-weaker c.classes_of.result _ _ (λ t e.
    classes_short c.args.input.now (is_pinned c.args.pinned.now) f.last f.numbering.firsts.items f.numbering.origins.items
    f.numbering.members.items c.in_ok-found.ensures t e) c.classes_of.ensures.table
