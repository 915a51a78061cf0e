use Rattle.std.proofs.Common.{◌≡◌, ◌∙◌, sym, ap, Some, None}
use Rattle.indexmap.proofs.CallerLemmas.{insert_entry-new}
use Rattle.row_signatures.specs.steps.ComputedKinds.{earlier, first_in, kind_seen}
use Rattle.row_signatures.proofs.Firsts.{added, found_again, looked_up, same_kind}
use Rattle.row_signatures.proofs.kinds.first_of.Goals as goal

pub returns-in-Some-clause-first : goal.returns-in-Some-clause-first
returns-in-Some-clause-first c =
    let q = c.args.kind in
    let es = c.args.firsts.now.entries in
    let at : first_in es (kind_seen q) ≡ Some c.in-Some.first =
    sym (looked_up _ q (same_kind q) es) ∙ sym c.get.ensures.value ∙ sym c.copied.ensures ∙ c.in-Some.is in
    ap (λ o. earlier o c.args.place) (sym at)

pub returns-in-Some-clause-noted : goal.returns-in-Some-clause-noted
returns-in-Some-clause-noted c =
    let q = c.args.kind in
    let es = c.args.firsts.now.entries in
    let at : first_in es (kind_seen q) ≡ Some c.in-Some.first =
    sym (looked_up _ q (same_kind q) es) ∙ sym c.get.ensures.value ∙ sym c.copied.ensures ∙ c.in-Some.is in
    found_again (first_in es) (kind_seen q) c.in-Some.first at

pub returns-clause-first : goal.returns-clause-first
returns-clause-first c =
    let q = c.args.kind in
    let none : first_in c.args.firsts.now.entries (kind_seen q) ≡ None =
    sym (looked_up _ q (same_kind q) c.args.firsts.now.entries) ∙ sym c.get.ensures.value ∙ sym c.copied.ensures
    ∙ c.in_default.is in
    ap (λ o. earlier o c.args.place) (sym none)

pub returns-clause-noted : goal.returns-clause-noted
returns-clause-noted c k =
    let q = c.args.kind in
    let es = c.args.firsts.now.entries in
    let lost = sym c.get.ensures.value ∙ sym c.copied.ensures ∙ c.in_default.is in
    let none : first_in es (kind_seen q) ≡ None = sym (looked_up _ q (same_kind q) es) ∙ lost in
    ap (λ xs. first_in xs k) (c.in_ok-insert.ensures.entries ∙ insert_entry-new _ c.args.firsts.now q c.args.place lost)
    ∙ added es q c.args.place none k
