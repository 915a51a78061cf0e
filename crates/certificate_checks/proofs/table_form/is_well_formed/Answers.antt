use Rattle.std.proofs.Common.{◌≡◌, true, ℕ, ◌<◌, sym, ◌∙◌, subst, length, rules}
use Rattle.std.specs.Prelude.{◌↔◌, All}
use Rattle.value_equality.specs.TableViews.{table_of}
use Rattle.certificate_checks.proofs.Parents.{no_parents, well_formed_where, as_declared}
use Rattle.certificate_checks.proofs.table_form.is_well_formed.Goals as goal

pub returns-then-not-have_parents : goal.returns-then-not-have_parents
returns-then-not-have_parents c = no_parents (table_of c.args.table.now)
    (λ all. sym c.if-not-have_parents.true ∙ c.have_parents.ensures.1 all)

pub returns : goal.returns
returns c =
    let b = c.are_declared.result in
    let os = c.args.table.now.classes.items in
    let ms = c.args.table.now.members.items in
    let count : c.len.result ≡ length os = search rules in
    let declared = subst (λ n. (b ≡ true) ↔ All (λ (m : ℕ × ℕ). m.1 < n) ms) count
    (subst (λ xs. (b ≡ true) ↔ All (λ (m : ℕ × ℕ). m.1 < c.len.result) xs) c.deref.ensures.value
    c.are_declared.ensures) in
    well_formed_where (table_of c.args.table.now) (c.have_parents.ensures.0 c.if-not-have_parents.false) b
    (as_declared b os ms declared)
