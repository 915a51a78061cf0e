use Rattle.std.proofs.Common.{◌≡◌, ◌∙◌, sym, ap, subst, arith, length}
use Rattle.std.specs.List.{IsDistinct}
use Rattle.std.specs.Prelude.{◌==◌}
use Rattle.std.specs.Io.KnownBytes.{Appends}
use Rattle.devices.specs.Emits.{Emits, EmitsFront}
use Rattle.value_equality.specs.TableViews.{table_of}
use Rattle.step_exchange.specs.Exchanges.{structure}
use Rattle.step_structures.specs.MergedTexts.{merged_text}
use Rattle.population_rows.specs.Index.{place_of}
use Rattle.merge_output.specs.steps.Leading.{led_by}
use Rattle.merge_output.specs.steps.Rewriting.{first_of_class, smaller_text}
use Rattle.step_exchange.proofs.Named.{distinct, few}
use Rattle.merge_output.proofs.Held.{led_so, reads_smaller}
use Rattle.merge_output.proofs.rewrite.rewrite.Goals as goal

pub heads_of-requires : goal.heads_of-requires
heads_of-requires g c =
    record { distinct = subst (IsDistinct (◌==◌)) (sym c.requires.members) (distinct c.args.exchange.now) }

pub returns-in-Err-clause-reads : goal.returns-in-Err-clause-reads
returns-in-Err-clause-reads g c = reads_smaller c.args.exchange.now (table_of c.args.table.now) c.requires.members

pub of-requires : goal.of-requires
of-requires g c = record { few = omega (arith, few c.args.exchange.now, ap length c.as_slice.ensures) }

pub returns-in-Err-of-clause-reads : goal.returns-in-Err-of-clause-reads
returns-in-Err-of-clause-reads g c = reads_smaller c.args.exchange.now (table_of c.args.table.now) c.requires.members

pub returns-in-Ok-write_led-clause-rewrites : goal.returns-in-Ok-write_led-clause-rewrites
returns-in-Ok-write_led-clause-rewrites g c =
    let x = c.args.exchange.now in
    let t = table_of c.args.table.now in
    let led : led_by c.in-Ok-of.index c.deref.result.now ≡ first_of_class t =
    λ i y. led_so t x.names c.in-Ok-of.index c.deref.result.now c.requires.members
    (λ z. c.in-Ok-of.ensures z ∙ ap (λ ns. place_of ns z) c.as_slice.ensures)
    (c.deref.ensures.value ∙ c.in-Ok.ensures) y i in
    subst (λ h. Appends (g.S.Sink.held c.args.out.now) (g.S.Sink.held c.write_led.new.out)
    (merged_text h x.header_bytes.now (structure x).sections)) led c.in-Ok-write_led.ensures.emits

pub returns-in-Ok-write_led-clause-reads : goal.returns-in-Ok-write_led-clause-reads
returns-in-Ok-write_led-clause-reads g c = reads_smaller c.args.exchange.now (table_of c.args.table.now) c.requires.members

pub returns-clause-rewrites : goal.returns-clause-rewrites
returns-clause-rewrites g c =
    let x = c.args.exchange.now in
    let t = table_of c.args.table.now in
    let led : led_by c.in-Ok-of.index c.deref.result.now ≡ first_of_class t =
    λ i y. led_so t x.names c.in-Ok-of.index c.deref.result.now c.requires.members
    (λ z. c.in-Ok-of.ensures z ∙ ap (λ ns. place_of ns z) c.as_slice.ensures)
    (c.deref.ensures.value ∙ c.in-Ok.ensures) y i in
    subst (λ h. EmitsFront (g.S.Sink.held c.args.out.now) (g.S.Sink.held c.write_led.new.out)
    (merged_text h x.header_bytes.now (structure x).sections) c.in-Err-write_led.fault.written) led
    c.in-Err-write_led.ensures.emits

pub returns-clause-reads : goal.returns-clause-reads
returns-clause-reads g c = reads_smaller c.args.exchange.now (table_of c.args.table.now) c.requires.members
