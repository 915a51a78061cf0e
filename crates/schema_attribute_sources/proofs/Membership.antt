-- Which attribute `\entity.attribute` means.
use Rattle.std.specs.Prelude.{◌≡◌, ℕ, true, false, List, Option, None, Some, ◌⊎◌}
use Rattle.std.proofs.Common.{refl, inl, inr, ap, sym, subst, ◌∙◌}
use Rattle.graphs.specs.Graphs.{Graph, has, next}
use Rattle.express_syntax.specs.Schemas.{Schema, entity}
use Rattle.schema_semantics.specs.Names.{Name, Among, Declares, Has, IsEntity, IsSubtypeOf}
use Rattle.schema_semantics.proofs.Lists.{first-step}
use Rattle.schema_names.specs.Numbers.{number_of, HasNumber}
use Rattle.schema_names.proofs.Numbers.{each-number}
use Rattle.schema_names.proofs.Edges.{below-forth, below-back}
use Rattle.schema_explicit_attributes.specs.declared.own_attributes.Meant.TheVariants.{All}
use Rattle.schema_explicit_attributes.specs.steps.Owned.{declares_at}
use Rattle.schema_explicit_attributes.specs.Supertypes.{AreAbove}
use Rattle.schema_underlying_types.specs.BaseViews.{name_at}
use Rattle.conformance.specs.Rules.{InverseAttribute}
use Rattle.conformance.specs.Attributes.{Source, unclear, IsGroupMember, IsDeclaring, IsSource, IsInGroup}
use Rattle.schema_attribute_sources.specs.SourceViews.{types_seen, AreTypes}
use Rattle.schema_attribute_sources.specs.steps.Declaring.{AreDeclaring}
use Rattle.schema_attribute_sources.specs.steps.Grouping.{IsInherited, IsMember}
use Rattle.schema_attribute_sources.specs.declared.declaring_entity.Declarer.{Declarer}
use Rattle.schema_attribute_sources.specs.declared.declaring_entity.Declarer.TheVariants.{Nobody, One, Several}
use Rattle.schema_attribute_sources.proofs.Members.{differ, seen-among, among-seen, every-has, one-number}
use Rattle.schema_attribute_sources.proofs.Naming.{name-is, declares-forth, declares-back}

module _ (s : Schema) (above : Graph) (up : AreAbove s above) (a e : Name) (i : ℕ) (k : HasNumber s e i)
    (free : Declares s e a → ⊥) where
  -- the supertypes that e has the attribute from
  from-above : (j : ℕ) → has (next above i) j ≡ true → declares_at s All a j ≡ true
      → HasNumber s (name_at s j) j × IsEntity s e × Has s e (name_at s j) a
  from-above j step t =
      let (n, l, below) = below-forth s up.graph up.drawn e i j k ((up.closed.reached i j).0 step) in
      let (m, (x, at, among)) = first-step (IsSubtypeOf s) e n below in
      let is = sym (name-is s n j l) in (
        subst (λ y. HasNumber s y j) is l,
        (x, at),
        subst (λ y. Has s e y a) is (inr below, declares-forth s a n j l t),
      )

  has-above : (q : Name) → Has s e q a → (j : ℕ) × (has (next above i) j ≡ true) × (declares_at s All a j ≡ true)
      × HasNumber s q j
  has-above q (inl same, d) = absurd (free (subst (λ n. Declares s n a) (sym same) d))
  has-above q (inr below, d) =
      let (x, at, among) = d in
      let (j, l) = each-number 0 s.declarations q (entity x) at in
      (j, (up.closed.reached i j).1 (below-back s up.graph up.drawn e q i j k l below), declares-back s a q j l d, l)

  module _ (types : List ℕ) where
    pub inherits-none : (d : Declarer) → AreDeclaring (declares_at s All a) (next above i) d
        → ((p : ℕ) → d ≡ One p → ⊥) → IsInherited s types e a None
    inherits-none Nobody none not p (m, ent, h, only) =
        let (j, step, t, l) = has-above p h in differ (declares_at s All a j) t (none j step)
    inherits-none (One p) one not q h = not p refl
    inherits-none Several (p, q, m, t, n, u, apart) not x (l, ent, h, only) =
        let (here, x1, one) = from-above p m t in
        let (there, x2, other) = from-above q n u in
        apart (one-number (number_of s) (name_at s p) (name_at s q) p q here there
        (only (name_at s p) one ∙ sym (only (name_at s q) other)))

    module _ (p : ℕ) (one : AreDeclaring (declares_at s All a) (next above i) (One p)) where
      only-one : (q : Name) → Has s e q a → q ≡ name_at s p
      only-one q h =
          let (j, step, t, l) = has-above q h in
          sym (name-is s q j l) ∙ ap (name_at s) (one.2 j step t)

      pub inherits-one : has types p ≡ true → IsInherited s types e a (Some p)
      inherits-one m =
          let (here, ent, h) = from-above p one.0 one.1 in
          (m, here, (seen-among (name_at s) types p m, ent, h, only-one))

      pub inherits-elsewhere : AreTypes s types → has types p ≡ false → IsInherited s types e a None
      inherits-elsewhere numbered not q (m, ent, h, only) =
          let (here, ent2, h2) = from-above p one.0 one.1 in
          let (j, l, is) = among-seen (name_at s) types q m in
          let same : j ≡ p =
          one-number (number_of s) (name_at s j) (name_at s p) j p
          (every-has (λ (x : ℕ). HasNumber s (name_at s x) x) types j numbered l) here (is ∙ only-one q h) in
          differ (has types p) (subst (λ x. has types x ≡ true) same l) not

-- of instances of these types
module _ (s : Schema) (types : List ℕ) (numbered : AreTypes s types) (a e : Name) where
  numbers : (q : ℕ) → has types q ≡ true → HasNumber s (name_at s q) q
  numbers q m = every-has (λ (x : ℕ). HasNumber s (name_at s x) x) types q numbered m

  pub not-here : ((j : ℕ) → has types j ≡ true → name_at s j ≡ e → ⊥) → IsMember s types e a None
  not-here none p (m, n, rest) = let (j, l, is) = among-seen (name_at s) types e m in none j l is

  module _ (i : ℕ) (k : HasNumber s e i) where
    here : has types i ≡ true → Among e (types_seen s types)
    here m = subst (λ n. Among n (types_seen s types)) (name-is s e i k) (seen-among (name_at s) types i m)

    pub own-member : has types i ≡ true → declares_at s All a i ≡ true → IsMember s types e a (Some i)
    own-member m t =
        let is = name-is s e i k in
        let d = declares-forth s a e i k t in (
          m,
          subst (λ n. HasNumber s n i) (sym is) k,
          subst (λ n. IsGroupMember s (types_seen s types) e a n) (sym is)
              (here m, here m, ((d.0, d.1), (inl refl, d), inl refl)),
        )

    pub not-own : declares_at s All a i ≡ false → Declares s e a → ⊥
    not-own f d = differ (declares_at s All a i) (declares-back s a e i k d) f

    pub inherited-member : has types i ≡ true → (Declares s e a → ⊥) → (o : Option ℕ) → IsInherited s types e a o
        → IsMember s types e a o
    inherited-member m free None h = no-member
      where
        no-member : (p : Name) → IsGroupMember s (types_seen s types) e a p → ⊥
        no-member p (l, n, (ent, it, which)) = by which
          where
            by : (p ≡ e) ⊎ ((q : Name) → Has s e q a → q ≡ p) → ⊥
            by (inl same) = free (subst (λ x. Declares s x a) same it.1)
            by (inr only) = h p (n, ent, it, only)
    inherited-member m free (Some j) (l, n, (k, ent, it, only)) = (l, n, (here m, k, (ent, it, inr only)))

-- what a group member is
module _ (s : Schema) (inverses : List InverseAttribute) (types : List Name) (e a : Name) where
  pub is-declaring : (p : Name) → IsGroupMember s types e a p → IsDeclaring s types a p
  is-declaring p (m, n, (ent, has, which)) = (n, has.1)

  pub in-group : (p : Name) (x : Source) → IsGroupMember s types e a p → IsSource s inverses types p a x
      → IsInGroup s inverses types e a x
  in-group p x m h = inl (p, m, h)

  pub not-in-group : ((p : Name) → IsGroupMember s types e a p → ⊥) → IsInGroup s inverses types e a unclear
  not-in-group none = inr (none, refl)
