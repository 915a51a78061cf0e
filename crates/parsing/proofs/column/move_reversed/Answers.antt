use Rattle.parsing.proofs.Buffers.{front_moved, behind_moved}
use Rattle.parsing.proofs.column.move_reversed.Goals as goal

pub returns-clause-front : goal.returns-clause-front
returns-clause-front g c =
    front_moved c.args.cells.now c.reverse.new.self c.copy_within.new.self c.args.from c.args.end c.args.to
    c.requires.start c.requires.end c.requires.down c.reverse.ensures.after c.copy_within.ensures.after

pub returns-clause-behind : goal.returns-clause-behind
returns-clause-behind g c =
    behind_moved c.args.cells.now c.reverse.new.self c.copy_within.new.self c.args.from c.args.end c.args.to
    c.requires.start c.requires.end c.requires.down c.reverse.ensures.after c.copy_within.ensures.after
