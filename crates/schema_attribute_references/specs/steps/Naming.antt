-- The findings for the attributes that a UNIQUE rule names (ISO 10303-11, 9.2.2.1).
use Rattle.std.specs.Prelude.{List, ◌||◌, IsTrue, ◌↔◌}
use Rattle.express_syntax.specs.Schemas.{Schema, Attribute}
use Rattle.schema_semantics.specs.Names.{Name, OneOf}
use Rattle.schema_semantics.specs.Parts.{NamesOther, NamesNotOne}
use Rattle.schema_attribute_references.specs.declared.unique_rule_names.Naming.{Naming}

-- The findings for these attributes in a rule of the entity e.
pub record IsNaming (s : Schema) (e : Name) (xs : List Attribute) (t : Naming) : Type 0 where
  pub other : IsTrue t.is_other ↔ OneOf (NamesOther s e) xs
  pub not_one : IsTrue t.is_not_one ↔ OneOf (NamesNotOne s e) xs

-- The union of two findings.
abbrev pub both : Naming → Naming → Naming
both t u = record { is_other = t.is_other || u.is_other; is_not_one = t.is_not_one || u.is_not_one }
