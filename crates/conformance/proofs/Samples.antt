-- Trees that are written short, and a schema of SELECTs, redeclarations and bounds, for the examples.
use Prim.Native.String.{String}
use Rattle.std.specs.Prelude.{ℕ, true, false, List, [], ◌∷◌, ◌++◌, Some, None, codes, map}
use Rattle.step_lexer.specs.declared.token.Mark.TheVariants.{Dollar, Asterisk}
use Rattle.step_structures.specs.Words.{name, number, element, string, binary, mark}
use Rattle.step_structures.specs.Trees as trees
use Rattle.step_structures.specs.Trees.{Tree, Trees, Record, ExchangeRow, internal, external, File}
use Rattle.express_syntax.specs.Schemas.{Schema, Entity, DataType, Underlying, Explicit, Declaration, Bounds, Bound}
use Rattle.express_syntax.specs.Schemas as schemas
use Rattle.schema_semantics.proofs.Geo.{bare, having, having_optional, real_type}

abbrev pub num : String → Tree
num t = trees.leaf (number (codes t))

abbrev pub text : String → Tree
text t = trees.leaf (string (39 ∷ codes t ++ 39 ∷ []))

abbrev pub bits : String → Tree
bits t = trees.leaf (binary (34 ∷ codes t ++ 34 ∷ []))

abbrev pub item : String → Tree
item t = trees.leaf (element (codes t))

abbrev pub to : ℕ → Tree
to y = trees.leaf (name y (codes "#"))

abbrev pub dollar : Tree
dollar = trees.leaf (mark Dollar)

abbrev pub star : Tree
star = trees.leaf (mark Asterisk)

abbrev pub trees_of : List Tree → Trees
trees_of [] = trees.none
trees_of (x ∷ xs) = trees.one x (trees_of xs)

abbrev pub group : List Tree → Tree
group xs = trees.group (trees_of xs)

abbrev pub typed : String → Tree → Tree
typed w x = trees.typed (codes w) x

abbrev pub part : String → List Tree → Record
part w xs = record { keyword = codes w; values = trees_of xs }

abbrev pub row : ℕ → String → List Tree → ExchangeRow
row n w xs = record { name = n; form = internal (part w xs) }

abbrev pub parts : ℕ → List Record → ExchangeRow
parts n rs = record { name = n; form = external rs }

-- a file that names this schema
abbrev pub file_of : String → List ExchangeRow → File
file_of schema rows =
    record {
      header = part "FILE_DESCRIPTION" [] ∷ part "FILE_NAME" []
          ∷ part "FILE_SCHEMA" (group (text schema ∷ []) ∷ []) ∷ [];
      sections = record { heading = None; rows = rows } ∷ [];
    }

abbrev pub type_of : String → Underlying → Declaration
type_of n u = schemas.type (record { name = codes n; underlying = u; rules = None })

abbrev pub at : String → Bound
at n = schemas.value None (codes n)

abbrev pub bounds : String → String → Bounds
bounds l u = record { lower = at l; upper = at u }

abbrev pub named : String → DataType
named n = schemas.named (codes n)

abbrev pub redeclaring : String → String → DataType → Explicit
redeclaring q a k =
    record { attributes = schemas.redeclared (codes q) (codes a) ∷ []; optional = false; data_type = k }

abbrev pub mixed_types : List Declaration
mixed_types =
    type_of "LEN" (schemas.data_type real_type)
    ∷ type_of "WHOLE" (schemas.data_type schemas.integer)
    ∷ type_of "LINK" (schemas.data_type (named "A"))
    ∷ type_of "CODE" (schemas.data_type (schemas.string (Some (schemas.width (codes "3"), true))))
    ∷ type_of "MASK" (schemas.data_type (schemas.binary (Some (schemas.width (codes "6"), true))))
    ∷ type_of "TABLE" (schemas.data_type (schemas.array (bounds "0" "1") true true schemas.boolean))
    ∷ type_of "INNER" (schemas.select (codes "LEN" ∷ codes "A" ∷ []))
    ∷ type_of "ALIAS" (schemas.data_type (named "INNER"))
    ∷ type_of "OUTER" (schemas.select (map codes ("ALIAS" ∷ "LINK" ∷ "WHOLE" ∷ "CODE" ∷ "MASK" ∷ "TABLE" ∷ [])))
    ∷ type_of "LINKS" (schemas.select (codes "LINK" ∷ [])) ∷ []

-- x : NUMBER; y : OPTIONAL outer;
abbrev pub the_a : Entity
the_a =
    record (bare (codes "A")) {
      supertype = schemas.of_one_of (codes "B" ∷ codes "C" ∷ []);
      explicits = having (codes "X") schemas.number ∷ having_optional (codes "Y") (named "OUTER") ∷ [];
    }

-- SELF\a.x : INTEGER; SELF\a.y : a;
abbrev pub the_b : Entity
the_b =
    record (bare (codes "B")) {
      supertype = schemas.of_one_of (codes "C" ∷ codes "D" ∷ []);
      subtype_of = Some (codes "A" ∷ []);
      explicits = redeclaring "A" "X" schemas.integer ∷ redeclaring "A" "Y" (named "A") ∷ [];
    }

abbrev pub the_c : Entity
the_c = record (bare (codes "C")) { subtype_of = Some (codes "A" ∷ []) }

abbrev pub the_d : Entity
the_d = record (bare (codes "D")) { subtype_of = Some (codes "B" ∷ codes "C" ∷ []) }

-- an entity with one attribute
abbrev pub with : String → DataType → Declaration
with n k = schemas.entity (record (bare (codes n)) { explicits = having (codes "V") k ∷ [] })

abbrev pub mixed_with : List Declaration → Schema
mixed_with ds =
    record {
      name = codes "MIXED";
      version = None;
      declarations = mixed_types ++ ds ++ schemas.entity the_c ∷ schemas.entity the_d
          ∷ with "ANY" (named "OUTER")
          ∷ with "LINKED" (named "LINKS")
          ∷ with "DIRECT" (named "LINK")
          ∷ with "TABLED" (named "TABLE")
          ∷ with "OPEN_ARRAY" (schemas.array (bounds "1" "99999999999999999999") false false schemas.logical)
          ∷ with "OPEN_LIST" (schemas.list (Some (bounds "2" "99999999999999999999")) false schemas.logical)
          ∷ with "OPEN_TEXT" (schemas.string (Some (schemas.width (codes "99999999999999999999"), true)))
          ∷ with "SETS" (schemas.list None true (schemas.set None (named "A"))) ∷ [];
    }

abbrev pub mixed : Schema
mixed = mixed_with (schemas.entity the_a ∷ schemas.entity the_b ∷ [])

-- the subtype stands before its supertype
abbrev pub mixed_back : Schema
mixed_back = mixed_with (schemas.entity the_b ∷ schemas.entity the_a ∷ [])
