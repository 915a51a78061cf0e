use Rattle.std.proofs.Common.{map}
use Rattle.express_syntax.specs.Views.{declaration_of as declaration_seen}
use Rattle.schema_semantics.specs.Faults.{declared_from}
use Rattle.schema_faults.proofs.Declaring.{sees-declaration, sees-whole}
use Rattle.schema_faults.proofs.parts.see_all.Goals as goal

pub loop-i-preserved : goal.loop-i-preserved
loop-i-preserved c =
    sees-declaration declaration_seen c.args.declarations.now c.loop-i.i c.args.seen.now c.loop-i.seen
    c.see_declaration.new.seen c.index-declarations-i.result c.loop-i-test.true c.index-declarations-i.is
    c.loop-i.invariant c.in_ok-see_declaration.ensures

pub returns : goal.returns
returns c =
    sees-whole (λ ds. declared_from 1 (map declaration_seen ds)) c.args.declarations.now c.loop-i.i c.args.seen.now
    c.loop-i.seen c.loop-i-test.false c.loop-i.invariant
