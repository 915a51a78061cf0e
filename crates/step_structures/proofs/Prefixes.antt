-- Viable prefixes, as fronts of the language of structures.
use Rattle.std.proofs.Common.{List, ◌++◌}
use Rattle.parsing.specs.Languages as languages
use Rattle.parsing.proofs.Faults.{front_of_front}
use Rattle.step_structures.specs.Words.{Lookahead}
use Rattle.step_structures.specs.Trees.{File, MeetAll, items_of_file}
use Rattle.step_structures.specs.Fits.{StructureRules, the_rules, FitsFile, HasSchema, Where}
use Rattle.step_structures.specs.Texts.{HoldsSchema, IsViablePrefix}
use Rattle.step_structures.specs.steps.Predict.{IsFile}
use Rattle.step_structures.proofs.Schemas.{holds_front, holds_whole}

pub front_of : (rules : StructureRules) (s : List Lookahead) → languages.IsViablePrefix (IsFile rules) s
    → Where rules.headed (HoldsSchema rules s) → IsViablePrefix rules s
front_of rules s h schema = record { rest = h.0; file = h.1.0; fits = h.1.1; tokens = h.1.2; schema = schema }

pub of_front : (rules : StructureRules) (s : List Lookahead) → IsViablePrefix rules s → languages.IsViablePrefix (IsFile rules) s
of_front rules s h = (h.rest, (h.file, h.fits, h.tokens))

-- the front of a viable prefix is one
pub front_viable : (a b : List Lookahead) → IsViablePrefix the_rules (a ++ b) → IsViablePrefix the_rules a
front_viable a b h = front_of the_rules a (front_of_front (IsFile the_rules) a b (of_front the_rules (a ++ b) h))
    (holds_front the_rules a b h.schema)

-- a prefix of the tokens of a structure whose FILE_SCHEMA names a schema is viable
pub front_whole : (x : File) (a b : List Lookahead) → FitsFile the_rules x → HasSchema x.header
    → MeetAll (a ++ b) (items_of_file x) → IsViablePrefix the_rules a
front_whole x a b f schema h = record {
  rest = b;
  file = x;
  fits = f;
  tokens = h;
  schema = holds_front the_rules a b (holds_whole x (a ++ b) f schema h);
}
