-- Names of entities.
use Rattle.std.specs.Prelude.{◌≡◌, ℕ, Bool, true, false, ◌||◌, List, [], ◌∷◌, map, None, Some, option_map, bytes_eq, slice_get}
use Rattle.std.specs.List.{list_any}
use Rattle.std.proofs.Common.{refl, sym, ap, subst, ◌∙◌, inl, inr, zero, suc}
use Rattle.std.proofs.Math.Bool.{Bool-set}
use Rattle.std.proofs.Math.Logic.{∥∥₁_elim}
use Rattle.std.proofs.lemmas.Slice.Eq.{bytes_eq-Decides}
use Rattle.std.proofs.lemmas.Option.{slice_get-map}
use Rattle.step_literals.specs.Words.{upper}
use Rattle.step_literals.specs.Tokens.{IsKeyword}
use Rattle.step_literals.specs.declared.literal.Word.{Word}
use Rattle.express_syntax.specs.Schemas.{Schema, entity, Entity}
use Rattle.express_syntax.specs.SchemaViews.{schema_of}
use Rattle.express_syntax.specs.declared.tree.SchemaTree.{SchemaTree}
use Rattle.express_syntax.specs.declared.tree.Declaration as code
use Rattle.express_syntax.specs.declared.tree.Declaration.TheVariants as codes
use Rattle.express_syntax.specs.Views.{declaration_of as declaration_seen}
use Rattle.express_syntax.specs.ExpressionViews.{capitals}
use Rattle.schema_semantics.specs.Names.{Name, Among, entities, entities_of, declaration_of, IsEntity, IsEntityAt}
use Rattle.schema_semantics.specs.Faults.{declared, IsResolved}
use Rattle.schema_semantics.proofs.Lists.{among-map, are-fresh}
use Rattle.schema_semantics.proofs.Supertypes.{entity-name, stands}
use Rattle.schema_semantics.proofs.Recursion.{declared-entity, to-any}
use Rattle.schema_names.specs.Numbers.{number_of, HasNumber}
use Rattle.schema_names.proofs.Numbers.{each-number, stands-at}
use Rattle.schema_explicit_attributes.proofs.OwnNumbers.{own-number-of}
use Rattle.conformance.specs.ParameterFits.{entity_names, is_entity}
use Rattle.population_findings.specs.steps.Keywords.{IsEntityOf}

-- an entity's name is among the names of entities, and no other is
pub is-entity : (s : Schema) (n : Name) → IsEntity s n → is_entity s n ≡ true
is-entity s n (e, at) =
    let known = entity-name s n e at in
    to-any n (entity_names s) (subst (λ m. Among m (entity_names s)) known.1
    (among-map (λ (x : Entity). x.name) e (entities s) known.0))

named-so : (n : Name) (es : List Entity) → list_any (bytes_eq n) (map (λ (e : Entity). e.name) es) ≡ true
    → (e : Entity) × Among e es × (e.name ≡ n)
named-so n [] h = absurd (cc)
named-so n (e ∷ es) h = by (bytes_eq n e.name) refl h (λ k. named-so n es k)
  where
    by : (b : Bool) → bytes_eq n e.name ≡ b → (b || list_any (bytes_eq n) (map (λ (x : Entity). x.name) es)) ≡ true
        → (list_any (bytes_eq n) (map (λ (x : Entity). x.name) es) ≡ true
        → (x : Entity) × Among x es × (x.name ≡ n))
        → (x : Entity) × Among x (e ∷ es) × (x.name ≡ n)
    by true same h more = (e, inl refl, sym ((bytes_eq-Decides n e.name).0 same))
    by false same h more = let (x, m, k) = more h in (x, inr m, k)

-- each entity is what its name stands for
stands-for : (s : Schema) → IsResolved s → (e : Entity) → Among e (entities s) → IsEntityAt s e.name e
stands-for s r e m =
    stands 1 s.declarations (entity e) e.name (are-fresh (declared s) r.once)
    (declared-entity s.declarations e m) refl

pub no-entity : (s : Schema) → IsResolved s → (n : Name) → (IsEntity s n → ⊥) → is_entity s n ≡ false
no-entity s r n f = by (is_entity s n) refl
  where
    by : (b : Bool) → is_entity s n ≡ b → b ≡ false
    by true e =
        let (x, m, same) = named-so n (entities s) e in
        absurd (f (x, subst (λ k. IsEntityAt s k x) same (stands-for s r x m)))
    by false e = refl

-- a name without a number
pub none-found : (s : Schema) → IsResolved s → (n : Name) → number_of s n ≡ None → IsEntityOf s n None
none-found s r n e = no-entity s r n f
  where
    f : IsEntity s n → ⊥
    f (x, at) = let found = each-number 0 s.declarations n (entity x) at in absurd (let h = sym e ∙ found.1 in cc)

module _ (t : SchemaTree) (n : Name) (i : ℕ) (d : code.Declaration) (number : HasNumber (schema_of t) n i)
    (at : slice_get t.declarations.items i ≡ Some d) where
  seen-at : (ds : List code.Declaration) (k : ℕ) → slice_get ds k ≡ Some d
      → slice_get (map declaration_seen ds) k ≡ Some (declaration_seen d)
  seen-at [] k e = absurd (cc)
  seen-at (x ∷ ds) zero e = let same : x ≡ d = cc in ap (λ y. Some (declaration_seen y)) same
  seen-at (x ∷ ds) (suc k) e = seen-at ds k e

  -- what the name stands for
  is-seen : declaration_of (schema_of t).declarations n ≡ Some (declaration_seen d)
  is-seen = stands-at (schema_of t) n i number ∙ seen-at t.declarations.items i at

  pub found-entity : (e : _) → d ≡ codes.Entity e → IsEntityOf (schema_of t) n (Some i)
  found-entity e is =
      let entity-at = is-seen ∙ ap (λ x. Some (declaration_seen x)) is in
      (is-entity (schema_of t) n (_, entity-at), (_, entity-at), number)

  other-kind : (x : code.Declaration) → ((e : _) → x ≡ codes.Entity e → ⊥) → (y : Entity)
      → declaration_seen x ≡ entity y → ⊥
  other-kind (codes.Type x) f y e = absurd (cc)
  other-kind (codes.Entity x) f y e = f x refl
  other-kind (codes.Skipped x) f y e = absurd (cc)

  pub found-other : IsResolved (schema_of t) → ((e : _) → d ≡ codes.Entity e → ⊥) → IsEntityOf (schema_of t) n None
  found-other r f = no-entity (schema_of t) r n by
    where
      by : IsEntity (schema_of t) n → ⊥
      by (y, same) = other-kind d f y (let h = sym is-seen ∙ same in cc)

-- the declaration of a number is an entity of this name
pub entity-at : (t : SchemaTree) → IsResolved (schema_of t) → (n : Name) (i : ℕ) (e : _)
    → slice_get t.declarations.items i ≡ Some (codes.Entity e) → capitals e.name ≡ n → IsEntityOf (schema_of t) n (Some i)
entity-at t r n i e at same =
    found-entity t n i (codes.Entity e)
    (own-number-of (schema_of t) i (declaration_seen (codes.Entity e)) n r.once
    (slice_get-map declaration_seen t.declarations.items i ∙ ap (option_map declaration_seen) at) (ap Some same))
    at e refl

-- no entity's name is empty
no-letters : (w : Word) → bytes_eq [] (upper w.text.now) ≡ false
no-letters w = ∥∥₁_elim w.spelled (Bool-set _ _) (λ k. by w.text.now k)
  where
    by : (t : List ℕ) → IsKeyword t → bytes_eq [] (upper t) ≡ false
    by [] k = absurd k
    by (b ∷ bs) k = refl

none-empty : (ds : List code.Declaration)
    → list_any (bytes_eq []) (map (λ (e : Entity). e.name) (entities_of (map declaration_seen ds))) ≡ false
none-empty [] = refl
none-empty (codes.Type x ∷ ds) = none-empty ds
none-empty (codes.Entity x ∷ ds) = rw (no-letters x.name) (none-empty ds)
none-empty (codes.Skipped x ∷ ds) = none-empty ds

pub empty-name : (t : SchemaTree) → IsEntityOf (schema_of t) [] None
empty-name t = none-empty t.declarations.items
