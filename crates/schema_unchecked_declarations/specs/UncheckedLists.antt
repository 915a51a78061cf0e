-- Extending lists of unchecked parts, and the names of such parts.
use Rattle.std.specs.Prelude.{◌≡◌, List, ◌++◌, None, map, codes}
use Rattle.std.specs.String.{string_bytes}
use Rattle.express_syntax.specs.ExpressionViews.{capitals}
use Rattle.schema_semantics.specs.Names.{Name}
use Rattle.schema_semantics.specs.Parts.{Unchecked, Candidate, Lists, dotted, label_of}
use Rattle.schema_unchecked_declarations.specs.declared.list.Unchecked.{Unchecked as Part}
use Rattle.schema_unchecked_declarations.specs.declared.list.Label.{Label}
use Rattle.schema_unchecked_declarations.specs.declared.list.Label.TheVariants as labels

abbrev pub unchecked_of : Part → Unchecked
unchecked_of u = record { kind = u.kind; name = string_bytes u.name; reason = u.reason }

abbrev pub unchecked_in : List Part → List Unchecked
unchecked_in us = map unchecked_of us

-- The text of a label.
abbrev pub label_name : Label → Name
label_name (labels.Of w) = capitals w
label_name (labels.Dotted h w) = dotted (capitals h) (capitals w)
label_name (labels.Numbered h n) = dotted (capitals h) (label_of n None)
label_name labels.Constants = codes "CONSTANT"

-- The list is extended by the candidates that have a reason.
abbrev pub Adds : List Candidate → List Unchecked → List Unchecked → Type 0
Adds cs old new = (us : List Unchecked) × Lists cs us × (new ≡ old ++ us)
