-- The words of EXPRESS that are never names (ISO 10303-11, 7.2.1).
use Rattle.std.specs.Prelude.{ℕ, List, [], ◌∷◌, Option, None, Some, codes, if◌then◌else◌}
use Rattle.std.specs.Str.{bytes_eq}
use Rattle.express_syntax.specs.declared.keyword.Keyword.{Keyword}
use Rattle.express_syntax.specs.declared.keyword.Keyword.TheVariants as keywords

-- the spelling of a keyword in capitals
abbrev pub keyword_text : Keyword → List ℕ
keyword_text keywords.Abstract = codes "ABSTRACT"
keyword_text keywords.And = codes "AND"
keyword_text keywords.Array = codes "ARRAY"
keyword_text keywords.Bag = codes "BAG"
keyword_text keywords.BasedOn = codes "BASED_ON"
keyword_text keywords.Binary = codes "BINARY"
keyword_text keywords.Boolean = codes "BOOLEAN"
keyword_text keywords.Derive = codes "DERIVE"
keyword_text keywords.EndEntity = codes "END_ENTITY"
keyword_text keywords.EndSchema = codes "END_SCHEMA"
keyword_text keywords.EndType = codes "END_TYPE"
keyword_text keywords.Entity = codes "ENTITY"
keyword_text keywords.Enumeration = codes "ENUMERATION"
keyword_text keywords.Exists = codes "EXISTS"
keyword_text keywords.Extensible = codes "EXTENSIBLE"
keyword_text keywords.False = codes "FALSE"
keyword_text keywords.Fixed = codes "FIXED"
keyword_text keywords.For = codes "FOR"
keyword_text keywords.GenericEntity = codes "GENERIC_ENTITY"
keyword_text keywords.Hiindex = codes "HIINDEX"
keyword_text keywords.In = codes "IN"
keyword_text keywords.Integer = codes "INTEGER"
keyword_text keywords.Inverse = codes "INVERSE"
keyword_text keywords.List = codes "LIST"
keyword_text keywords.Logical = codes "LOGICAL"
keyword_text keywords.Loindex = codes "LOINDEX"
keyword_text keywords.Not = codes "NOT"
keyword_text keywords.Number = codes "NUMBER"
keyword_text keywords.Nvl = codes "NVL"
keyword_text keywords.Of = codes "OF"
keyword_text keywords.Optional = codes "OPTIONAL"
keyword_text keywords.Or = codes "OR"
keyword_text keywords.Query = codes "QUERY"
keyword_text keywords.Real = codes "REAL"
keyword_text keywords.Reference = codes "REFERENCE"
keyword_text keywords.Renamed = codes "RENAMED"
keyword_text keywords.Schema = codes "SCHEMA"
keyword_text keywords.Select = codes "SELECT"
keyword_text keywords.SelfWord = codes "SELF"
keyword_text keywords.Set = codes "SET"
keyword_text keywords.Sizeof = codes "SIZEOF"
keyword_text keywords.String = codes "STRING"
keyword_text keywords.Subtype = codes "SUBTYPE"
keyword_text keywords.Supertype = codes "SUPERTYPE"
keyword_text keywords.True = codes "TRUE"
keyword_text keywords.Type = codes "TYPE"
keyword_text keywords.Typeof = codes "TYPEOF"
keyword_text keywords.Unique = codes "UNIQUE"
keyword_text keywords.Unknown = codes "UNKNOWN"
keyword_text keywords.Use = codes "USE"
keyword_text keywords.Where = codes "WHERE"
keyword_text keywords.Xor = codes "XOR"

abbrev pub every_keyword : List Keyword
every_keyword =
    keywords.Abstract ∷ keywords.And ∷ keywords.Array ∷ keywords.Bag ∷ keywords.BasedOn ∷ keywords.Binary
    ∷ keywords.Boolean ∷ keywords.Derive ∷ keywords.EndEntity ∷ keywords.EndSchema ∷ keywords.EndType
    ∷ keywords.Entity ∷ keywords.Enumeration ∷ keywords.Exists ∷ keywords.Extensible ∷ keywords.False
    ∷ keywords.Fixed ∷ keywords.For ∷ keywords.GenericEntity ∷ keywords.Hiindex ∷ keywords.In ∷ keywords.Integer
    ∷ keywords.Inverse ∷ keywords.List ∷ keywords.Logical ∷ keywords.Loindex ∷ keywords.Not ∷ keywords.Number
    ∷ keywords.Nvl ∷ keywords.Of ∷ keywords.Optional ∷ keywords.Or ∷ keywords.Query ∷ keywords.Real
    ∷ keywords.Reference ∷ keywords.Renamed ∷ keywords.Schema ∷ keywords.Select ∷ keywords.SelfWord ∷ keywords.Set
    ∷ keywords.Sizeof ∷ keywords.String ∷ keywords.Subtype ∷ keywords.Supertype ∷ keywords.True ∷ keywords.Type
    ∷ keywords.Typeof ∷ keywords.Unique ∷ keywords.Unknown ∷ keywords.Use ∷ keywords.Where ∷ keywords.Xor ∷ []

abbrev pub keyword_among : List Keyword → List ℕ → Option Keyword
keyword_among [] word = None
keyword_among (k ∷ ks) word = if bytes_eq (keyword_text k) word then Some k else keyword_among ks word

-- the keyword that a word in capitals is, if it is one
abbrev pub keyword_at : List ℕ → Option Keyword
keyword_at word = keyword_among every_keyword word
