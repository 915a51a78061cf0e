use Rattle.std.proofs.Common.{length, map}
use Rattle.express_lexer.specs.Reading.{left}
use Rattle.express_syntax.specs.Views.{declaration_of}
use Rattle.express_syntax.specs.Profile.{Every}
use Rattle.express_syntax.specs.Sources.{IsDeclarationOf}
use Rattle.express_syntax.specs.Places.{AreDeclarationsAt}
use Rattle.express_reader.proofs.SchemaSteps.{DeclarationsSoFar}
use Rattle.express_reader.proofs.schema.all_declarations.Given as goal

abbrev pub invariant-loop-declarations : goal.invariant-loop-declarations
invariant-loop-declarations l = DeclarationsSoFar l.fn.reader l.reader (map declaration_of l.declarations.items)
    × Every (IsDeclarationOf l.fn.reader.text) l.declarations.items
    × AreDeclarationsAt l.fn.reader.text l.fn.reader.place l.declarations.items l.reader.place

abbrev pub decreases-loop-declarations : goal.decreases-loop-declarations
decreases-loop-declarations l = length (left l.reader)
