-- Declarations of defined types, and the strings that name them.
use Rattle.std.specs.Prelude.{Bool, true, false, ◌&&◌, List, Option, None, Some, map}
use Rattle.std.specs.List.{list_any}
use Rattle.step_literals.specs.declared.literal.items.Item.{Item}
use Rattle.express_syntax.specs.Schemas.{Schema, Declaration, type, entity, skipped, TypeDeclaration}
use Rattle.schema_semantics.specs.Names.{Name, type_declarations_of}
use Rattle.conformance.specs.Meanings.{says_type}

abbrev pub is_type : Declaration → Bool
is_type (type t) = true
is_type (entity e) = false
is_type (skipped p) = false

-- the name of a defined type
abbrev pub type_name : Declaration → Option Name
type_name (type t) = Some t.name
type_name (entity e) = None
type_name (skipped p) = None

-- the names of the defined types among these declarations
abbrev pub types_among : List Declaration → List Name
types_among ds = map (λ (t : TypeDeclaration). t.name) (type_declarations_of ds)

-- Strings that name defined types, where `defined` says which type is defined by which.
module _ (s : Schema) (defined : Name → Name → Bool) (text : List Item) (m : Name) where
  -- the text names a defined type among these declarations by which m is defined
  abbrev pub says_one : List Declaration → Bool
  says_one ds = list_any (λ n. says_type s text n && defined m n) (types_among ds)

  -- the declaration is that of a defined type that the text names and by which m is defined
  abbrev pub says_in : Option Declaration → Bool
  says_in None = false
  says_in (Some (type t)) = says_type s text t.name && defined m t.name
  says_in (Some (entity e)) = false
  says_in (Some (skipped p)) = false
