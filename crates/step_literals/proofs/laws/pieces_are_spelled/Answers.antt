use Rattle.step_literals.proofs.PieceSpelling.{piece_stands, directive_stands}
use Rattle.step_literals.proofs.laws.pieces_are_spelled.Goals as goal

pub returns-clause-found : goal.returns-clause-found
returns-clause-found c = piece_stands

pub returns-clause-none : goal.returns-clause-none
returns-clause-none c = directive_stands
