use Rattle.std.proofs.Common.{Some, sym, subst, IsTrue}
use Rattle.std.specs.Prelude.{◌≡◌, ◌↔◌}
use Rattle.step_exchange.specs.Sections.{heading_of}
use Rattle.step_headings.specs.Headings.{heading_items}
use Rattle.step_headings.proofs.Headed.{by_schemas}
use Rattle.step_headings.proofs.headings.is_same.Goals as goal

pub returns-then-eq : goal.returns-then-eq
returns-then-eq c =
    let m = c.in-Some-Some in
    subst (λ h. IsTrue c.eq-then-eq.result ↔ (heading_items (heading_of h) ≡ heading_items (heading_of c.args.other.now.heading)))
    (sym m.is-0)
    (subst (λ h. IsTrue c.eq-then-eq.result ↔ (heading_items (heading_of (Some (m.name, m.schema))) ≡ heading_items (heading_of h)))
    (sym m.is-1)
    (by_schemas m.name m.schema m.other_name m.other_schema c.eq.result c.eq-then-eq.result c.eq.ensures c.if-eq.true
    c.eq-then-eq.ensures))
