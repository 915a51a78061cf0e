-- The declarations that a reference takes, by number (ISO 10303-11, 12.7.3 and 12.7.4).
use Rattle.std.specs.Prelude.{ℕ, Bool, false, true, cond, not, ◌&&◌, List, [], ◌∷◌, Option, None, Some, eqb, find, filter}
use Rattle.std.specs.List.{list_any}
use Rattle.graphs.specs.Graphs.{Graph}
use Rattle.schema_explicit_attributes.specs.Supertypes.{is_or_leads}
use Rattle.schema_attributes.specs.declared.declaration.AttributeDeclaration.{AttributeDeclaration}

-- Whether i is, or is a subtype of, the entity that declares the attribute.
abbrev pub is_of_kind : Graph → ℕ → AttributeDeclaration → Bool
is_of_kind above i x = is_or_leads above (Some i) x.entity

-- Whether one of the entities has the attribute.
abbrev pub is_of_any : Graph → List ℕ → AttributeDeclaration → Bool
is_of_any above is x = list_any (λ i. is_of_kind above i x) is

-- The attributes that one of the entities has.
abbrev pub of_entities : Graph → List ℕ → List AttributeDeclaration → List AttributeDeclaration
of_entities above is xs = filter (is_of_any above is) xs

-- Whether i has the attribute, and it is declared by another entity than `first`.
abbrev pub is_of_another : Graph → ℕ → ℕ → AttributeDeclaration → Bool
is_of_another above i first x = not (eqb x.entity first) && is_of_kind above i x

abbrev pub has_another : Graph → List AttributeDeclaration → ℕ → ℕ → Bool
has_another above xs i first = list_any (is_of_another above i first) xs

abbrev pub first_of : Graph → List AttributeDeclaration → ℕ → Option AttributeDeclaration
first_of above xs i = find (is_of_kind above i) xs

abbrev pub has_another_than : Graph → List AttributeDeclaration → ℕ → Option AttributeDeclaration → Bool
has_another_than above xs i None = false
has_another_than above xs i (Some x) = has_another above xs i x.entity

-- Whether i has attributes from two entities.
abbrev pub has_two : Graph → List AttributeDeclaration → ℕ → Bool
has_two above xs i = has_another_than above xs i (first_of above xs i)

-- Whether no attribute is taken, or one of the entities has taken attributes from two entities.
abbrev pub is_unclear : Graph → List ℕ → List AttributeDeclaration → Bool
is_unclear above is [] = true
is_unclear above is (x ∷ []) = false
is_unclear above is (x ∷ y ∷ xs) = list_any (has_two above (x ∷ y ∷ xs)) is

-- Whether i itself declares the attribute.
abbrev pub is_of : ℕ → AttributeDeclaration → Bool
is_of i x = eqb x.entity i

abbrev pub only_after : Graph → List AttributeDeclaration → ℕ → Option AttributeDeclaration → Option ℕ
only_after above xs i None = None
only_after above xs i (Some x) = cond (has_another above xs i x.entity) None (Some x.entity)

-- The entity that declares the attributes which i has, if it is only one.
abbrev pub only_owner : Graph → List AttributeDeclaration → ℕ → Option ℕ
only_owner above xs i = only_after above xs i (first_of above xs i)

-- i if it declares one of the attributes, otherwise the only entity from which it inherits some.
abbrev pub owner : Graph → List AttributeDeclaration → ℕ → Option ℕ
owner above xs i = cond (list_any (is_of i) xs) (Some i) (only_owner above xs i)

abbrev pub owner_of : Graph → List AttributeDeclaration → Option ℕ → Option ℕ
owner_of above xs None = None
owner_of above xs (Some i) = owner above xs i

abbrev pub is_owned : Option ℕ → AttributeDeclaration → Bool
is_owned None x = false
is_owned (Some i) x = is_of i x

-- The attributes that the owner declares.
abbrev pub of_owner : Option ℕ → List AttributeDeclaration → List AttributeDeclaration
of_owner o xs = filter (is_owned o) xs
