-- Names of types and the numbers of those that are declared: nothing else counts of the types of an instance.
use Rattle.std.specs.Prelude.{◌≡◌, ℕ, List, [], ◌∷◌, Option, None, Some, ◌↔◌}
use Rattle.std.proofs.Common.{refl, inl, inr, sym, subst, ◌∙◌}
use Rattle.express_syntax.specs.Schemas.{Schema, entity}
use Rattle.schema_semantics.specs.Names.{Name, Among, IsEntity}
use Rattle.schema_names.specs.Numbers.{number_of, HasNumber}
use Rattle.schema_names.proofs.Numbers.{each-number}
use Rattle.schema_underlying_types.specs.BaseViews.{name_at}
use Rattle.conformance.specs.Rules.{InverseAttribute}
use Rattle.conformance.specs.Attributes.{Source, explicit, derived, inverse, unclear, DerivesIt, IsLowest, IsUnderived, IsDeclaring, IsGroupMember, IsSource, IsNamed, IsInGroup}
use Rattle.schema_attribute_sources.specs.SourceViews.{types_seen, AreTypes}
use Rattle.schema_attribute_sources.proofs.Naming.{name-is}

module _ (s : Schema) where
  -- the same entities stand in both
  abbrev pub Agree : List Name → List Name → Type 0
  Agree types others = (e : Name) → IsEntity s e → Among e types ↔ Among e others

  -- the numbers of those that are declared
  pub record Numbered (types : List Name) : Type 0 where
    pub numbers : List ℕ
    pub known : AreTypes s numbers
    pub agree : Agree types (types_seen s numbers)

  pub numbered : (types : List Name) → Numbered types
  numbered [] = record { numbers = []; known = tt; agree = λ e k. ((λ m. m), (λ m. m)) }
  numbered (t ∷ types) = by (number_of s t) refl (numbered types)
    where
      by : (o : Option ℕ) → number_of s t ≡ o → Numbered types → Numbered (t ∷ types)
      by None none rest = record { numbers = rest.numbers; known = rest.known; agree = λ e k. (forth e k, back e k) }
        where
          lacks : (i : ℕ) → None ≡ Some i → ⊥
          lacks i e = cc

          not-it : (e : Name) → IsEntity s e → t ≡ e → ⊥
          not-it e (x, at) is =
              let (i, h) = each-number 0 s.declarations e (entity x) at in
              lacks i (sym none ∙ subst (λ n. HasNumber s n i) (sym is) h)

          forth : (e : Name) → IsEntity s e → Among e (t ∷ types) → Among e (types_seen s rest.numbers)
          forth e k (inl is) = absurd (not-it e k is)
          forth e k (inr m) = (rest.agree e k).0 m

          back : (e : Name) → IsEntity s e → Among e (types_seen s rest.numbers) → Among e (t ∷ types)
          back e k m = inr ((rest.agree e k).1 m)
      by (Some i) h rest = record {
        numbers = i ∷ rest.numbers;
        known = (subst (λ n. HasNumber s n i) (sym (name-is s t i h)) h, rest.known);
        agree = λ e k. (forth e k, back e k);
      }
        where
          forth : (e : Name) → IsEntity s e → Among e (t ∷ types) → Among e (name_at s i ∷ types_seen s rest.numbers)
          forth e k (inl is) = inl (name-is s t i h ∙ is)
          forth e k (inr m) = inr ((rest.agree e k).0 m)

          back : (e : Name) → IsEntity s e → Among e (name_at s i ∷ types_seen s rest.numbers) → Among e (t ∷ types)
          back e k (inl is) = inl (sym (name-is s t i h) ∙ is)
          back e k (inr m) = inr ((rest.agree e k).1 m)

  module _ (types others : List Name) (agree : Agree types others) where
    derives-entity : (p a e : Name) → DerivesIt s p a e → IsEntity s e
    derives-entity p a e (n, (d, (x, at, nth), g)) = (x, at)

    declaring-forth : (a p : Name) → IsDeclaring s types a p → IsDeclaring s others a p
    declaring-forth a p (m, d) = ((agree p (d.0, d.1)).0 m, d)

    declaring-back : (a p : Name) → IsDeclaring s others a p → IsDeclaring s types a p
    declaring-back a p (m, d) = ((agree p (d.0, d.1)).1 m, d)

    lowest-forth : (p a e : Name) → IsLowest s types p a e → IsLowest s others p a e
    lowest-forth p a e (m, d, below) =
        ((agree e (derives-entity p a e d)).0 m, d, λ f k g. below f ((agree f (derives-entity p a f g)).1 k) g)

    lowest-back : (p a e : Name) → IsLowest s others p a e → IsLowest s types p a e
    lowest-back p a e (m, d, below) =
        ((agree e (derives-entity p a e d)).1 m, d, λ f k g. below f ((agree f (derives-entity p a f g)).0 k) g)

    underived-forth : (p a : Name) → IsUnderived s types p a → IsUnderived s others p a
    underived-forth p a free e m d = free e ((agree e (derives-entity p a e d)).1 m) d

    underived-back : (p a : Name) → IsUnderived s others p a → IsUnderived s types p a
    underived-back p a free e m d = free e ((agree e (derives-entity p a e d)).0 m) d

    member-forth : (e a p : Name) → IsGroupMember s types e a p → IsGroupMember s others e a p
    member-forth e a p (k, l, (ent, (kind, d), which)) =
        ((agree e ent).0 k, (agree p (d.0, d.1)).0 l, (ent, (kind, d), which))

    member-back : (e a p : Name) → IsGroupMember s others e a p → IsGroupMember s types e a p
    member-back e a p (k, l, (ent, (kind, d), which)) =
        ((agree e ent).1 k, (agree p (d.0, d.1)).1 l, (ent, (kind, d), which))

    module _ (inverses : List InverseAttribute) where
      source-alike : (p a : Name) (x : Source) → IsSource s inverses others p a x → IsSource s inverses types p a x
      source-alike p a (explicit q) h = (h.0, h.1, underived-back p a h.2)
      source-alike p a (derived (e, n)) h = (lowest-back p a e h.0, h.1)
      source-alike p a (inverse i) h = (h.0, h.1, underived-back p a h.2)
      source-alike p a unclear h =
          ((λ free. h.0 (underived-forth p a free)), (λ e lowest. h.1 e (lowest-forth p a e lowest)))

      pub named-alike : (a : Name) (o : Option Source) → IsNamed s inverses others a o → IsNamed s inverses types a o
      named-alike a None none = λ p d. none p (declaring-forth a p d)
      named-alike a (Some x) (inl (p, (d, only), h)) =
          inl (p, (declaring-back a p d, λ q e. only q (declaring-forth a q e)), source-alike p a x h)
      named-alike a (Some x) (inr ((p, q, d, e, apart), is)) =
          inr ((p, q, declaring-back a p d, declaring-back a q e, apart), is)

      pub group-alike : (e a : Name) (x : Source) → IsInGroup s inverses others e a x → IsInGroup s inverses types e a x
      group-alike e a x (inl (p, m, h)) = inl (p, member-back e a p m, source-alike p a x h)
      group-alike e a x (inr (none, is)) = inr ((λ p m. none p (member-forth e a p m)), is)
