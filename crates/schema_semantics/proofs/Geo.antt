-- A schema of points, placements and shapes.
use Rattle.std.specs.Prelude.{false, true, List, [], ◌∷◌, ◌++◌, Option, None, Some, codes}
use Rattle.express_syntax.specs.declared.expression.Function.TheVariants as functions
use Rattle.express_syntax.specs.declared.expression.Relation.TheVariants as relations
use Rattle.express_syntax.specs.Trees.{Tree, reference, comparison, call, query, literal, plain, attribute, number, whole, decimal, text}
use Rattle.express_syntax.specs.Trees as trees
use Rattle.express_syntax.specs.Schemas.{Schema, Declaration, type, entity, TypeDeclaration, Entity, own, redeclared, Explicit, Derived, Inverse, in_set, Rule, parsed, DataType, named, integer, real, string, list, set, Bounds, value, unlimited, width, enumeration, select, data_type, unsaid, of_one_of}
use Rattle.schema_semantics.specs.Names.{Name}

abbrev pub LEN_M : Name
LEN_M = codes "LEN_M"

abbrev pub ANGLE_M : Name
ANGLE_M = codes "ANGLE_M"

abbrev pub FINISH : Name
FINISH = codes "FINISH"

abbrev pub AMOUNT : Name
AMOUNT = codes "AMOUNT"

abbrev pub POINT : Name
POINT = codes "POINT"

abbrev pub DIRECTION : Name
DIRECTION = codes "DIRECTION"

abbrev pub PLACEMENT : Name
PLACEMENT = codes "PLACEMENT"

abbrev pub ITEM : Name
ITEM = codes "ITEM"

abbrev pub LOOP : Name
LOOP = codes "LOOP"

abbrev pub GROUP : Name
GROUP = codes "GROUP"

abbrev pub NOTE : Name
NOTE = codes "NOTE"

abbrev pub NODE : Name
NODE = codes "NODE"

abbrev pub BUNDLE : Name
BUNDLE = codes "BUNDLE"

abbrev pub SHAPE : Name
SHAPE = codes "SHAPE"

abbrev pub SOLID : Name
SOLID = codes "SOLID"

abbrev pub MARKED : Name
MARKED = codes "MARKED"

abbrev pub PLAIN_MARK : Name
PLAIN_MARK = codes "PLAIN_MARK"

abbrev pub COORDS : Name
COORDS = codes "COORDS"

abbrev pub RATIOS : Name
RATIOS = codes "RATIOS"

abbrev pub DIM : Name
DIM = codes "DIM"

abbrev pub LOCATION : Name
LOCATION = codes "LOCATION"

abbrev pub AXIS : Name
AXIS = codes "AXIS"

abbrev pub LABEL : Name
LABEL = codes "LABEL"

abbrev pub VOLUME : Name
VOLUME = codes "VOLUME"

abbrev pub LOOK : Name
LOOK = codes "LOOK"

abbrev pub R : Name
R = codes "R"

-- an entity of this name, and nothing else
abbrev pub bare : Name → Entity
bare n =
    record {
      name = n;
      is_abstract = false;
      supertype = unsaid;
      subtype_of = None;
      explicits = [];
      derived = None;
      inverses = None;
      uniques = None;
      rules = None;
    }

abbrev pub having : Name → DataType → Explicit
having n k = record { attributes = own n ∷ []; optional = false; data_type = k }

abbrev pub having_optional : Name → DataType → Explicit
having_optional n k = record { attributes = own n ∷ []; optional = true; data_type = k }

-- `low : high`
abbrev pub between : Name → Name → Option Bounds
between low high = Some (record { lower = value None low; upper = value None high })

-- `low : ?`
abbrev pub at_least : Name → Option Bounds
at_least low = Some (record { lower = value None low; upper = unlimited })

abbrev pub rule : Name → Tree → Rule
rule n x = record { label = Some n; body = parsed x }

abbrev pub name_tree : Name → Tree
name_tree n = reference (trees.named n) plain

abbrev pub number_tree : Name → Tree
number_tree n = literal (number (whole n))

abbrev pub real_type : DataType
real_type = real None

abbrev pub short_label : DataType
short_label = string (Some (width (codes "8"), false))

abbrev pub coords_type : DataType
coords_type = list (between (codes "1") (codes "3")) false real_type

abbrev pub point : Entity
point = record (bare POINT) { explicits = having COORDS coords_type ∷ [] }

-- HIINDEX(ratios)
abbrev pub dim_tree : Tree
dim_tree = call functions.Hiindex (name_tree RATIOS)

abbrev pub dim : Derived
dim = record { attribute = own DIM; data_type = integer; body = parsed dim_tree }

-- SIZEOF(QUERY(r <* ratios | r <> 0.0)) > 0
abbrev pub some_ratio : Tree
some_ratio =
    comparison (call functions.Sizeof (query R (name_tree RATIOS) (comparison (name_tree R) relations.NotEqual
    (literal (number (decimal (codes "0.0"))))))) relations.Greater (number_tree (codes "0"))

abbrev pub direction : Entity
direction =
    record (bare DIRECTION) {
      explicits = having RATIOS (list (between (codes "2") (codes "3")) false real_type) ∷ [];
      derived = Some (dim ∷ []);
      rules = Some (rule (codes "WR1") some_ratio ∷ []);
    }

-- axis.dim = SIZEOF(location.coords)
abbrev pub as_many : Tree
as_many =
    comparison (reference (trees.named AXIS) (attribute DIM plain)) relations.Equal
    (call functions.Sizeof (reference (trees.named LOCATION) (attribute COORDS plain)))

abbrev pub notes : Inverse
notes =
    record {
      attribute = own (codes "NOTES");
      collection = in_set (between (codes "0") (codes "1"));
      entity = NOTE;
      holder = None;
      inverted = codes "SUBJECT";
    }

abbrev pub placement : Entity
placement =
    record (bare PLACEMENT) {
      explicits = having LOCATION (named POINT) ∷ having_optional AXIS (named DIRECTION) ∷ [];
      inverses = Some (notes ∷ []);
      rules = Some (rule (codes "WR1") as_many ∷ []);
    }

abbrev pub item : Entity
item = record (bare ITEM) { is_abstract = true; supertype = of_one_of (LOOP ∷ GROUP ∷ []) }

abbrev pub loop : Entity
loop =
    record (bare LOOP) {
      subtype_of = Some (ITEM ∷ []);
      explicits = having (codes "CORNERS") (list (at_least (codes "3")) true (named POINT)) ∷ [];
    }

abbrev pub group : Entity
group =
    record (bare GROUP) {
      subtype_of = Some (ITEM ∷ []);
      explicits = having (codes "ID") (string None) ∷ having (codes "MEMBERS") (set (at_least (codes "1")) (named PLACEMENT)) ∷ [];
      uniques = Some (record { label = Some (codes "UR1"); attributes = own (codes "ID") ∷ [] } ∷ []);
    }

abbrev pub note : Entity
note =
    record (bare NOTE) {
      explicits = having (codes "WORDS") (string None) ∷ having (codes "SUBJECT") (named PLACEMENT) ∷ [];
    }

abbrev pub node : Entity
node = record (bare NODE) { explicits = having (codes "NEXT") (named NODE) ∷ [] }

abbrev pub bundle : Entity
bundle = record (bare BUNDLE) { explicits = having (codes "MEMBERS") (set (at_least (codes "1")) (named NODE)) ∷ [] }

abbrev pub shape : Entity
shape = record (bare SHAPE) { explicits = having LABEL short_label ∷ [] }

abbrev pub solid : Entity
solid = record (bare SOLID) { subtype_of = Some (SHAPE ∷ []); explicits = having VOLUME (named AMOUNT) ∷ [] }

abbrev pub marked : Entity
marked = record (bare MARKED) { subtype_of = Some (SHAPE ∷ []); explicits = having LOOK (named FINISH) ∷ [] }

abbrev pub plain_label : Derived
plain_label =
    record { attribute = redeclared SHAPE LABEL; data_type = short_label; body = parsed (literal (text (codes "'p'"))) }

abbrev pub plain_mark : Entity
plain_mark = record (bare PLAIN_MARK) { subtype_of = Some (MARKED ∷ []); derived = Some (plain_label ∷ []) }

abbrev pub len_m : TypeDeclaration
len_m = record { name = LEN_M; underlying = data_type real_type; rules = None }

abbrev pub angle_m : TypeDeclaration
angle_m = record { name = ANGLE_M; underlying = data_type real_type; rules = None }

abbrev pub finish : TypeDeclaration
finish = record { name = FINISH; underlying = enumeration (codes "ROUGH" ∷ codes "FINE" ∷ []); rules = None }

abbrev pub amount : TypeDeclaration
amount = record { name = AMOUNT; underlying = select (LEN_M ∷ ANGLE_M ∷ []); rules = None }

abbrev pub types_of_geo : List Declaration
types_of_geo = type len_m ∷ type angle_m ∷ type finish ∷ type amount ∷ []

abbrev pub behind_points : List Declaration
behind_points =
    entity direction ∷ entity placement ∷ entity item ∷ entity loop ∷ entity group ∷ entity note ∷ entity node
    ∷ entity bundle ∷ entity shape ∷ entity solid ∷ entity marked ∷ entity plain_mark ∷ []

-- with this entity for points
abbrev pub geo_with : Entity → Schema
geo_with p =
    record { name = codes "GEO"; version = None; declarations = types_of_geo ++ entity p ∷ behind_points }

abbrev pub geo : Schema
geo = geo_with point

-- Points with derived attributes that use each other, and with faulty rules.
abbrev pub A : Name
A = codes "A"

abbrev pub B : Name
B = codes "B"

abbrev pub NOTHING : Name
NOTHING = codes "NOTHING"

-- a : REAL := b;
abbrev pub a_by_b : Derived
a_by_b = record { attribute = own A; data_type = real_type; body = parsed (name_tree B) }

-- b : REAL := a;
abbrev pub b_by_a : Derived
b_by_a = record { attribute = own B; data_type = real_type; body = parsed (name_tree A) }

-- coords = coords
abbrev pub same_coords : Tree
same_coords = comparison (name_tree COORDS) relations.Equal (name_tree COORDS)

-- nothing > 0
abbrev pub some_nothing : Tree
some_nothing = comparison (name_tree NOTHING) relations.Greater (number_tree (codes "0"))

-- 'GEO.AMOUNT' IN TYPEOF(SELF)
abbrev pub is_amount : Tree
is_amount =
    comparison (literal (text (codes "'GEO.AMOUNT'"))) relations.In (call functions.Typeof (reference trees.own plain))

abbrev pub busy_point : Entity
busy_point =
    record (bare POINT) {
      explicits = having COORDS coords_type ∷ [];
      derived = Some (a_by_b ∷ b_by_a ∷ []);
      rules = Some (rule (codes "WR1") same_coords ∷ rule (codes "WR2") some_nothing
          ∷ rule (codes "WR3") is_amount ∷ []);
    }

abbrev pub busy : Schema
busy = geo_with busy_point
