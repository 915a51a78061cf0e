-- What is found of attributes in a UNIQUE rule.
use Rattle.std.specs.Prelude.{◌≡◌, Bool, true, false, ◌||◌, ◌⊎◌, ◌↔◌, IsTrue, List, [], ◌∷◌, ◌++◌}
use Rattle.std.proofs.Common.{inl, inr}
use Rattle.graphs.proofs.Searching.{either, left-holds}
use Rattle.express_syntax.specs.Schemas.{Schema, Attribute}
use Rattle.schema_semantics.specs.Names.{Name, OneOf}
use Rattle.schema_semantics.specs.Parts.{NamesOther, NamesNotOne}
use Rattle.schema_explicit_attributes.proofs.Having.{right-holds}
use Rattle.schema_attribute_references.specs.declared.unique_rule_names.Naming.{Naming}
use Rattle.schema_attribute_references.specs.steps.Naming.{IsNaming, both}

one-left : {A : Type 0} (P : A → Type 0) (xs ys : List A) → OneOf P xs → OneOf P (xs ++ ys)
one-left P [] ys h = absurd h
one-left P (x ∷ xs) ys (inl p) = inl p
one-left P (x ∷ xs) ys (inr h) = inr (one-left P xs ys h)

one-right : {A : Type 0} (P : A → Type 0) (xs ys : List A) → OneOf P ys → OneOf P (xs ++ ys)
one-right P [] ys h = h
one-right P (x ∷ xs) ys h = inr (one-right P xs ys h)

one-either : {A : Type 0} (P : A → Type 0) (xs ys : List A) → OneOf P (xs ++ ys) → OneOf P xs ⊎ OneOf P ys
one-either P [] ys h = inr h
one-either P (x ∷ xs) ys (inl p) = inl (inl p)
one-either P (x ∷ xs) ys (inr h) = on (one-either P xs ys h)
  where
    on : OneOf P xs ⊎ OneOf P ys → OneOf P (x ∷ xs) ⊎ OneOf P ys
    on (inl k) = inl (inr k)
    on (inr k) = inr k

one-both : {A : Type 0} (P : A → Type 0) (xs ys : List A) (p q : Bool) → IsTrue p ↔ OneOf P xs → IsTrue q ↔ OneOf P ys
    → IsTrue (p || q) ↔ OneOf P (xs ++ ys)
one-both P xs ys p q f g = ((λ h. forth (either p q h)), (λ h. back (one-either P xs ys h)))
  where
    forth : (p ≡ true) ⊎ (q ≡ true) → OneOf P (xs ++ ys)
    forth (inl h) = one-left P xs ys (f.0 h)
    forth (inr h) = one-right P xs ys (g.0 h)

    back : OneOf P xs ⊎ OneOf P ys → IsTrue (p || q)
    back (inl h) = left-holds p q (f.1 h)
    back (inr h) = right-holds p q (g.1 h)

module _ (s : Schema) (e : Name) where
  pub naming-none : (t : Naming) → t.is_other ≡ false → t.is_not_one ≡ false → IsNaming s e [] t
  naming-none t other not_one = record {
    other = ((λ h. cc), (λ h. absurd h));
    not_one = ((λ h. cc), (λ h. absurd h));
  }

  pub naming-both : (xs ys : List Attribute) (t u : Naming) → IsNaming s e xs t → IsNaming s e ys u
      → IsNaming s e (xs ++ ys) (both t u)
  naming-both xs ys t u h k = record {
    other = one-both (NamesOther s e) xs ys t.is_other u.is_other h.other k.other;
    not_one = one-both (NamesNotOne s e) xs ys t.is_not_one u.is_not_one h.not_one k.not_one;
  }
