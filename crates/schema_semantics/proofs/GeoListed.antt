-- What isn't checked of a schema of points, placements and shapes: nothing; and with faulty rules in it, those alone.
use Rattle.std.specs.Prelude.{◌≡◌, ℕ, ◌<◌, Bool, true, false, List, [], ◌∷◌, map, drop, None, Some, pos, bytes_eq, codes}
use Rattle.std.proofs.Common.{refl, inl, inr, ap, sym, subst, ◌∙◌, arith}
use Rattle.std.specs.Str.{is_utf8, chars}
use Rattle.step_literals.specs.declared.literal.items.Item.{Item}
use Rattle.step_literals.specs.declared.literal.items.Item.TheVariants.{Code}
use Rattle.step_literals.proofs.StringLemmas.{unique}
use Rattle.express_lexer.specs.Meanings.{characters_of}
use Rattle.step_literals.specs.Decimals.{mantissa, exponent, IsWorth}
use Rattle.express_syntax.specs.Trees.{Tree, reference, comparison, call, query, literal, text, plain, attribute}
use Rattle.express_syntax.specs.Trees as trees
use Rattle.express_syntax.specs.Schemas.{Schema, Entity, named, own, Derived, parsed}
use Rattle.schema_semantics.specs.declared.unchecked.PartKind.{PartKind}
use Rattle.schema_semantics.specs.declared.unchecked.PartKind.TheVariants as parts
use Rattle.schema_semantics.specs.declared.unchecked.Reason.{Reason}
use Rattle.schema_semantics.specs.declared.unchecked.Reason.TheVariants as reasons
use Rattle.schema_semantics.specs.Names.{Name, Among, IsFirst, listed, attribute_names, IsEntityAt, DeclaresExplicit}
use Rattle.schema_semantics.specs.Shapes.{Sort, Atom, a_number, IsOverSelect}
use Rattle.schema_semantics.specs.Shapes as shapes
use Rattle.schema_semantics.specs.Attributes.{Derivation, IsNth}
use Rattle.schema_semantics.specs.Sets.{Only, WithSubtypes, AttributeReference, of_set, MayTake, OfTaken, QueryVariable, Meaning, itself, variable, attribute_of_self, item_of_type, item, MayMean, Means, IsUnclearReference, ReferenceMayUse, May}
use Rattle.schema_semantics.specs.Reasons.{SaysName, IsTypeTest, MayBeDeep, MayBeUnordered, IsUnordered, BodyMayUse, bound_to, GivesReason}
use Rattle.schema_semantics.specs.Ranks.{Self, Uses, IsSetAside, HasReason, IsFirstFor, IsRankAt}
use Rattle.schema_semantics.specs.Parts.{Unchecked, Lists, AreUnchecked, all_reasons, for_each, parts_of_declaration, IsBeyond, NamesAttribute, NamesOther, NamesNotOne, UniqueHasReason}
use Rattle.schema_semantics.proofs.Facts.{neither, never, declarers, derivers, one-declarer, of_self, takes-own, clear, uses-none, uses-one, clear-reference, uses-only, means-attribute, means-variable, no-reason, not-set-aside, is-declarer, item-among, no-uses, is-within}
use Rattle.schema_semantics.proofs.Geo.{POINT, DIRECTION, PLACEMENT, GROUP, PLAIN_MARK, COORDS, RATIOS, DIM, LOCATION, AXIS, R, point, direction, placement, group, plain_label, behind_points, coords_type, real_type, dim_tree, some_ratio, as_many, name_tree, geo, A, B, NOTHING, AMOUNT, a_by_b, b_by_a, same_coords, some_nothing, is_amount, busy_point, busy, LEN_M, ANGLE_M, amount}

-- numbers alone
not-deep : MayBeDeep (Only a_number) → ⊥
not-deep (inl (e, h)) = absurd (cc)
not-deep (inr (k, w, h)) = absurd (cc)

not-unordered : MayBeUnordered (Only a_number) → ⊥
not-unordered (x, w, is, h) = subst IsUnordered (same x w h) is
  where
    sort_of : Atom → Sort
    sort_of (shapes.value y v) = y
    sort_of (shapes.instance n) = a_number

    same : (x : Sort) (w : Bool) → shapes.value x w ≡ shapes.value a_number false → x ≡ a_number
    same x w h = ap sort_of h

differ : true ≡ false → ⊥
differ e = cc

abbrev ID : Name
ID = codes "ID"

-- Directions, placements and groups, in a schema that has these, and points.
pub record IsGeo (s : Schema) : Type 0 where
  pub is_point : (p : Entity) × IsEntityAt s POINT p × Among COORDS (attribute_names p)
  pub is_direction : IsEntityAt s DIRECTION direction
  pub is_placement : IsEntityAt s PLACEMENT placement
  pub is_group : IsEntityAt s GROUP group
  pub ratios : declarers s RATIOS ≡ DIRECTION ∷ []
  pub dim : declarers s DIM ≡ DIRECTION ∷ []
  pub axis : declarers s AXIS ≡ PLACEMENT ∷ []
  pub location : declarers s LOCATION ≡ PLACEMENT ∷ []
  pub coords : declarers s COORDS ≡ POINT ∷ []
  pub id : declarers s ID ≡ GROUP ∷ []
  pub no_ratios : derivers s RATIOS ≡ []
  pub no_axis : derivers s AXIS ≡ []
  pub no_location : derivers s LOCATION ≡ []
  pub no_coords : derivers s COORDS ≡ []
  pub one_dim : derivers s DIM ≡ DIRECTION ∷ []

module _ (s : Schema) (known : IsGeo s) where
  takes-ratios : MayTake s (of_self s DIRECTION RATIOS) DIRECTION
  takes-ratios = takes-own s DIRECTION RATIOS (direction, known.is_direction, inl refl)

  means-ratios : Means s (Self DIRECTION) [] (trees.named RATIOS) plain attribute_of_self
  means-ratios = means-attribute s (Self DIRECTION) [] RATIOS DIRECTION plain never takes-ratios

  clear-ratios : IsUnclearReference s (Self DIRECTION) [] (trees.named RATIOS) plain → ⊥
  clear-ratios =
      clear-reference s (Self DIRECTION) [] (trees.named RATIOS) plain attribute_of_self means-ratios
      (neither (clear s (of_self s DIRECTION RATIOS) DIRECTION known.ratios takes-ratios) never)

  unused-ratios : (u : Derivation) → ReferenceMayUse s (Self DIRECTION) u [] (trees.named RATIOS) plain → ⊥
  unused-ratios u h =
      neither (uses-none s u (of_self s DIRECTION RATIOS) known.no_ratios) never
      (uses-only s (Self DIRECTION) [] (trees.named RATIOS) plain attribute_of_self means-ratios u h)

  pub unused-dim : (u : Derivation) → BodyMayUse s (Self DIRECTION) (parsed dim_tree) u → ⊥
  unused-dim u = neither never (neither (unused-ratios u) never)

  sound-dim : (r : Reason) → GivesReason s (Self DIRECTION) (parsed dim_tree) r → ⊥
  sound-dim reasons.Skipped h = h
  sound-dim reasons.Profile h = neither never (neither never never) h
  sound-dim reasons.Name h = neither never (neither clear-ratios never) h
  sound-dim reasons.Typeof h = neither never (neither never never) h
  sound-dim reasons.Kind h = neither never (neither never never) h
  sound-dim reasons.Leads h = h

  pub dim-stays : (n : ℕ) → IsSetAside s (DIRECTION, n) → ⊥
  dim-stays = not-set-aside s DIRECTION direction known.is_direction ((unused-dim, sound-dim), tt)

  pub dim-is-checked : (r : Reason) → HasReason s (Self DIRECTION) (parsed dim_tree) r → ⊥
  dim-is-checked =
      no-reason s (Self DIRECTION) dim_tree (sound-dim reasons.Profile) (sound-dim reasons.Name)
      (sound-dim reasons.Typeof) (sound-dim reasons.Kind) (λ u uses aside. unused-dim u uses)

  -- SIZEOF(QUERY(r <* ratios | r <> 0.0)) > 0
  within : List QueryVariable
  within = bound_to s (Self DIRECTION) [] R (name_tree RATIOS) ∷ []

  means-r : Means s (Self DIRECTION) within (trees.named R) plain variable
  unfolding within
  means-r = means-variable s (Self DIRECTION) within R plain (inl refl)

  clear-r : IsUnclearReference s (Self DIRECTION) within (trees.named R) plain → ⊥
  clear-r = clear-reference s (Self DIRECTION) within (trees.named R) plain variable means-r never

  unused-r : (u : Derivation) → ReferenceMayUse s (Self DIRECTION) u within (trees.named R) plain → ⊥
  unused-r u h = uses-only s (Self DIRECTION) within (trees.named R) plain variable means-r u h

  pub ratio-is-checked : (r : Reason) → HasReason s (Self DIRECTION) (parsed some_ratio) r → ⊥
  unfolding within
  ratio-is-checked =
      no-reason s (Self DIRECTION) some_ratio
      (neither never (neither (neither never (neither (neither never never)
      (neither never (neither (neither never never) never)))) never))
      (neither never (neither (neither never (neither (neither clear-ratios never)
      (neither never (neither (neither clear-r never) never)))) never))
      (neither never (neither (neither never (neither (neither never never)
      (neither never (neither (neither never never) never)))) never))
      (neither (neither not-unordered not-unordered) (neither (neither never (neither (neither never never)
      (neither (λ h. not-deep h.1) (neither (neither never never) never)))) never))
      (λ u uses aside. neither never (neither (neither never (neither (neither (unused-ratios u) never)
      (neither never (neither (neither (unused-r u) never) never)))) never) uses)

  -- axis.dim = SIZEOF(location.coords)
  takes-axis : MayTake s (of_self s PLACEMENT AXIS) PLACEMENT
  takes-axis = takes-own s PLACEMENT AXIS (placement, known.is_placement, inr (inl refl))

  axis-is-direction : OfTaken s (of_self s PLACEMENT AXIS) (shapes.instance DIRECTION)
  axis-is-direction = (
    PLACEMENT,
    named DIRECTION,
    takes-axis,
    inl (placement, known.is_placement, inl (inr (inl (inl refl, refl)))),
    (inl refl, (direction, known.is_direction)),
  )

  abbrev a-dim : AttributeReference
  a-dim = of_set (WithSubtypes s (OfTaken s (of_self s PLACEMENT AXIS))) DIM

  takes-dim : MayTake s a-dim DIRECTION
  takes-dim =
      (DIRECTION, (DIRECTION, axis-is-direction, inl refl), (inl refl, (direction, known.is_direction, inr (inl refl))))

  means-axis : Means s (Self PLACEMENT) [] (trees.named AXIS) (attribute DIM plain) attribute_of_self
  means-axis = means-attribute s (Self PLACEMENT) [] AXIS PLACEMENT (attribute DIM plain) never takes-axis

  clear-axis : IsUnclearReference s (Self PLACEMENT) [] (trees.named AXIS) (attribute DIM plain) → ⊥
  clear-axis =
      clear-reference s (Self PLACEMENT) [] (trees.named AXIS) (attribute DIM plain) attribute_of_self means-axis
      (neither (clear s (of_self s PLACEMENT AXIS) PLACEMENT known.axis takes-axis)
      (neither (clear s a-dim DIRECTION known.dim takes-dim) never))

  used-axis : (u : Derivation) → ReferenceMayUse s (Self PLACEMENT) u [] (trees.named AXIS) (attribute DIM plain)
      → IsSetAside s u → ⊥
  used-axis (e, n) h aside =
      neither (uses-none s (e, n) (of_self s PLACEMENT AXIS) known.no_axis) (neither (λ k. dim-stays n
      (subst (λ x. IsSetAside s (x, n)) (sym (uses-one s e DIRECTION n a-dim known.one_dim k)) aside)) never)
      (uses-only s (Self PLACEMENT) [] (trees.named AXIS) (attribute DIM plain) attribute_of_self means-axis (e, n) h)

  takes-location : MayTake s (of_self s PLACEMENT LOCATION) PLACEMENT
  takes-location = takes-own s PLACEMENT LOCATION (placement, known.is_placement, inl refl)

  location-is-point : OfTaken s (of_self s PLACEMENT LOCATION) (shapes.instance POINT)
  location-is-point = (
    PLACEMENT,
    named POINT,
    takes-location,
    inl (placement, known.is_placement, inl (inl (inl refl, refl))),
    (inl refl, (known.is_point.0, known.is_point.1)),
  )

  abbrev some-coords : AttributeReference
  some-coords = of_set (WithSubtypes s (OfTaken s (of_self s PLACEMENT LOCATION))) COORDS

  takes-coords : MayTake s some-coords POINT
  takes-coords = (POINT, (POINT, location-is-point, inl refl), (inl refl, known.is_point))

  means-location : Means s (Self PLACEMENT) [] (trees.named LOCATION) (attribute COORDS plain) attribute_of_self
  means-location =
      means-attribute s (Self PLACEMENT) [] LOCATION PLACEMENT (attribute COORDS plain) never takes-location

  clear-location : IsUnclearReference s (Self PLACEMENT) [] (trees.named LOCATION) (attribute COORDS plain) → ⊥
  clear-location =
      clear-reference s (Self PLACEMENT) [] (trees.named LOCATION) (attribute COORDS plain) attribute_of_self
      means-location (neither (clear s (of_self s PLACEMENT LOCATION) PLACEMENT known.location takes-location)
      (neither (clear s some-coords POINT known.coords takes-coords) never))

  unused-location : (u : Derivation)
      → ReferenceMayUse s (Self PLACEMENT) u [] (trees.named LOCATION) (attribute COORDS plain) → ⊥
  unused-location u h =
      neither (uses-none s u (of_self s PLACEMENT LOCATION) known.no_location)
      (neither (uses-none s u some-coords known.no_coords) never)
      (uses-only s (Self PLACEMENT) [] (trees.named LOCATION) (attribute COORDS plain) attribute_of_self
      means-location u h)

  pub placement-is-checked : (r : Reason) → HasReason s (Self PLACEMENT) (parsed as_many) r → ⊥
  placement-is-checked =
      no-reason s (Self PLACEMENT) as_many
      (neither never (neither (neither never never) (neither never (neither never never))))
      (neither never (neither (neither clear-axis never) (neither never (neither clear-location never))))
      (neither never (neither (neither never never) (neither never (neither never never))))
      (neither (λ h. not-deep h.1) (neither (neither never never) (neither never (neither never never))))
      (λ u uses aside. neither never (neither (neither (λ h. used-axis u h aside) never)
      (neither never (neither (unused-location u) never))) uses)

  -- UNIQUE ur1 : id
  is-id : (q a : Name) → NamesAttribute s GROUP (own ID) q a → GROUP ≡ q
  is-id q a (same, (kind, declares)) = one-declarer s GROUP q ID known.id declares

  no-other : NamesOther s GROUP (own ID) → ⊥
  no-other (q, a, names, other) =
      other (subst (λ r. DeclaresExplicit s r a) (is-id q a names)
      (subst (λ b. DeclaresExplicit s GROUP b) names.0 (group, known.is_group, inl refl)))

  no-two : NamesNotOne s GROUP (own ID) → ⊥
  no-two (inl lost) = lost GROUP ID (refl, (inl refl, (group, known.is_group, inl refl)))
  no-two (inr (q, r, a, one, two, apart)) = apart (sym (is-id q a one) ∙ is-id r a two)

  pub id-is-checked : (r : Reason) → UniqueHasReason s GROUP (own ID ∷ []) r → ⊥
  id-is-checked reasons.Skipped h = h
  id-is-checked reasons.Profile h = neither no-other never h
  id-is-checked reasons.Name h = neither no-two never h
  id-is-checked reasons.Typeof h = h
  id-is-checked reasons.Kind h = h
  id-is-checked reasons.Leads h = h

-- 'p'
label-is-checked : (s : Schema) (r : Reason) → HasReason s (Self PLAIN_MARK) plain_label.body r → ⊥
label-is-checked s = no-reason s (Self PLAIN_MARK) (literal (text (codes "'p'"))) never never never never (λ u uses aside. uses)

module _ where
  small : (t : Name) (m : ℕ) → mantissa t ≡ pos m → exponent t ≡ pos 0 → m < 9 → (r : Reason)
      → (r ≡ reasons.Profile) × IsBeyond (IsWorth t) → ⊥
  small t m hm he less = is-within t m hm he (omega (arith, less))

  small-0 : (r : Reason) → (r ≡ reasons.Profile) × IsBeyond (IsWorth (codes "0")) → ⊥
  small-0 = small (codes "0") 0 refl refl (omega arith)

  small-1 : (r : Reason) → (r ≡ reasons.Profile) × IsBeyond (IsWorth (codes "1")) → ⊥
  small-1 = small (codes "1") 1 refl refl (omega arith)

  small-2 : (r : Reason) → (r ≡ reasons.Profile) × IsBeyond (IsWorth (codes "2")) → ⊥
  small-2 = small (codes "2") 2 refl refl (omega arith)

  small-3 : (r : Reason) → (r ≡ reasons.Profile) × IsBeyond (IsWorth (codes "3")) → ⊥
  small-3 = small (codes "3") 3 refl refl (omega arith)

  small-8 : (r : Reason) → (r ≡ reasons.Profile) × IsBeyond (IsWorth (codes "8")) → ⊥
  small-8 = small (codes "8") 8 refl refl (omega arith)

is-geo : IsGeo geo
is-geo =
    record {
      is_point = (point, refl, inl refl);
      is_direction = refl;
      is_placement = refl;
      is_group = refl;
      ratios = refl;
      dim = refl;
      axis = refl;
      location = refl;
      coords = refl;
      id = refl;
      no_ratios = refl;
      no_axis = refl;
      no_location = refl;
      no_coords = refl;
      one_dim = refl;
    }

-- nothing is listed
behind-points : (s : Schema) → IsGeo s → Lists (for_each (parts_of_declaration s) behind_points) []
behind-points s known =
    inr (
      small-2,
      inr (
        small-3,
        inr (
          dim-is-checked s known,
          inr (
            ratio-is-checked s known,
            inr (
              small-0,
              inr (
                small-1,
                inr (
                  placement-is-checked s known,
                  inr (
                    small-3,
                    inr (
                      small-1,
                      inr (
                        id-is-checked s known,
                        inr (
                          small-1,
                          inr (
                            small-8,
                            inr (label-is-checked s, inr (small-8, refl)),
                          ),
                        ),
                      ),
                    ),
                  ),
                ),
              ),
            ),
          ),
        ),
      ),
    )

geo-lists-nothing : AreUnchecked geo []
geo-lists-nothing = inr (small-1, inr (small-3, behind-points geo is-geo))

-- Points with derived attributes that use each other, and with faulty rules.
busy-is-geo : IsGeo busy
busy-is-geo =
    record {
      is_point = (busy_point, refl, inl refl);
      is_direction = refl;
      is_placement = refl;
      is_group = refl;
      ratios = refl;
      dim = refl;
      axis = refl;
      location = refl;
      coords = refl;
      id = refl;
      no_ratios = refl;
      no_axis = refl;
      no_location = refl;
      no_coords = refl;
      one_dim = refl;
    }

takes : (a : Name) → Among a (attribute_names busy_point) → MayTake busy (of_self busy POINT a) POINT
takes a m = takes-own busy POINT a (busy_point, refl, m)

means : (a : Name) → Among a (attribute_names busy_point)
    → Means busy (Self POINT) [] (trees.named a) plain attribute_of_self
means a m = means-attribute busy (Self POINT) [] a POINT plain never (takes a m)

is-clear : (a : Name) → Among a (attribute_names busy_point) → declarers busy a ≡ POINT ∷ []
    → IsUnclearReference busy (Self POINT) [] (trees.named a) plain → ⊥
is-clear a m one =
    clear-reference busy (Self POINT) [] (trees.named a) plain attribute_of_self (means a m)
    (neither (clear busy (of_self busy POINT a) POINT one (takes a m)) never)

uses : (a : Name) → Among a (attribute_names busy_point) → (n : ℕ) (d : Derived)
    → IsNth (a_by_b ∷ b_by_a ∷ []) n d → d.attribute ≡ own a
    → BodyMayUse busy (Self POINT) (parsed (name_tree a)) (POINT, n)
uses a m n d nth is =
    inl (attribute_of_self, means a m, inl (POINT, takes a m, (d, (busy_point, refl, nth), inl (is, refl))))

a-uses-b : Uses busy (POINT, 0) (POINT, 1)
a-uses-b = (a_by_b, (busy_point, refl, refl), uses B (inr (inr (inl refl))) 1 b_by_a refl refl)

b-uses-a : Uses busy (POINT, 1) (POINT, 0)
b-uses-a = (b_by_a, (busy_point, refl, refl), uses A (inr (inl refl)) 0 a_by_b refl refl)

-- the name of one that leads to itself
first-leads : (a : Name) → (IsUnclearReference busy (Self POINT) [] (trees.named a) plain → ⊥)
    → HasReason busy (Self POINT) (parsed (name_tree a)) reasons.Leads
    → IsFirst (HasReason busy (Self POINT) (parsed (name_tree a))) all_reasons reasons.Leads
first-leads a free leads =
    inr (
      never,
      inr (
        neither never never,
        inr (
          neither free never,
          inr (neither never never, inr (neither never never, inl (leads, refl))),
        ),
      ),
    )

a-leads : HasReason busy (Self POINT) (parsed (name_tree B)) reasons.Leads
unfolding a-uses-b
a-leads = ((POINT, 1), a-uses-b.2, ((POINT, 1), inl refl, inr ((POINT, 0) ∷ [], (b-uses-a, a-uses-b))))

b-leads : HasReason busy (Self POINT) (parsed (name_tree A)) reasons.Leads
unfolding b-uses-a
b-leads = ((POINT, 0), b-uses-a.2, ((POINT, 0), inl refl, inr ((POINT, 1) ∷ [], (a-uses-b, b-uses-a))))

-- coords = coords
coords-are-deep : MayBeDeep (May busy (Self POINT) [] (name_tree COORDS))
coords-are-deep =
    inr (
      real_type,
      false,
      (
        attribute_of_self,
        means COORDS (inl refl),
        (
          POINT,
          coords_type,
          takes COORDS (inl refl),
          inl (busy_point, refl, inl (inl (inl refl, refl))),
          (coords_type, inl refl, refl),
        ),
      ),
    )

clear-coords : IsUnclearReference busy (Self POINT) [] (trees.named COORDS) plain → ⊥
clear-coords = is-clear COORDS (inl refl) refl

first-kind : IsFirst (HasReason busy (Self POINT) (parsed same_coords)) all_reasons reasons.Kind
first-kind =
    inr (
      never,
      inr (
        neither never (neither (neither never never) (neither never never)),
        inr (
          neither never (neither (neither clear-coords never) (neither clear-coords never)),
          inr (
            neither never (neither (neither never never) (neither never never)),
            inl (inl (coords-are-deep, coords-are-deep), refl),
          ),
        ),
      ),
    )

-- nothing > 0
lost : (m : Meaning) → MayMean busy (Self POINT) [] (trees.named NOTHING) plain m → ⊥
lost itself h = h
lost variable h = h
lost attribute_of_self (p, (e, is, (kind, declares))) = is-declarer busy p NOTHING declares
lost item_of_type h = h
lost item (t, is) = other (item-among busy t NOTHING is)
  where
    other : Among NOTHING (codes "ROUGH" ∷ codes "FINE" ∷ []) → ⊥
    other (inl e) = differ (sym (ap (λ n. bytes_eq n NOTHING) e))
    other (inr (inl e)) = differ (sym (ap (λ n. bytes_eq n NOTHING) e))
    other (inr (inr h)) = h

first-name : IsFirst (HasReason busy (Self POINT) (parsed some_nothing)) all_reasons reasons.Name
first-name =
    inr (
      never,
      inr (
        neither never (neither (neither never never) never),
        inl (inr (inl (inl (inl lost))), refl),
      ),
    )

-- 'GEO.AMOUNT' IN TYPEOF(SELF)
code_of : Item → ℕ
code_of (Code c) = c
code_of x = 0

codes-back : (xs : List ℕ) → map code_of (map Code xs) ≡ xs
unfolding code_of
codes-back [] = refl
codes-back (x ∷ xs) = ap (λ ys. x ∷ ys) (codes-back xs)

says-amount : (n : Name) → SaysName busy (literal (text (codes "'GEO.AMOUNT'"))) n → AMOUNT ≡ n
unfolding is_utf8 chars code_of
says-amount n (content, spelt, said) =
    let same : codes "GEO.AMOUNT" ≡ content = unique (codes "GEO.AMOUNT") content [] [] tt tt (ap (drop 1) spelt) in
    ap (λ cs. drop 4 (map code_of cs)) (ap characters_of same ∙ said) ∙ codes-back n

amount-is-no-entity : (e : Entity) → IsEntityAt busy AMOUNT e → ⊥
amount-is-no-entity e h = cc

is-no-test : IsTypeTest busy (Self POINT) [] (literal (text (codes "'GEO.AMOUNT'"))) (reference trees.own plain) → ⊥
is-no-test (n, said, inl (e, at)) =
    amount-is-no-entity e (subst (λ m. IsEntityAt busy m e) (sym (says-amount n said)) at)
is-no-test (n, said, inr (t, over, bare)) =
    over (subst (λ m. IsOverSelect busy (named m)) (says-amount n said) (AMOUNT, inl refl, (LEN_M ∷ ANGLE_M ∷ [], (amount, refl, refl))))

clear-self : IsUnclearReference busy (Self POINT) [] trees.own plain → ⊥
clear-self = clear-reference busy (Self POINT) [] trees.own plain itself (inl (tt, refl)) never

first-typeof : IsFirst (HasReason busy (Self POINT) (parsed is_amount)) all_reasons reasons.Typeof
first-typeof =
    inr (
      never,
      inr (
        neither never (neither never (neither never (neither never never))),
        inr (neither never (neither never (neither never (neither clear-self never))), inl (inl is-no-test, refl)),
      ),
    )

abbrev part : PartKind → Name → Reason → Unchecked
part k n r = record { kind = k; name = n; reason = r }

busy-lists : AreUnchecked busy (part parts.Derive (codes "POINT.A") reasons.Leads
    ∷ part parts.Derive (codes "POINT.B") reasons.Leads ∷ part parts.Where (codes "POINT.WR1") reasons.Kind
    ∷ part parts.Where (codes "POINT.WR2") reasons.Name ∷ part parts.Where (codes "POINT.WR3") reasons.Typeof ∷ [])
busy-lists =
    inr (
      small-1,
      inr (
        small-3,
        inl (
          reasons.Leads,
          first-leads B (is-clear B (inr (inr (inl refl))) refl) a-leads,
          _,
          refl,
          inl (
            reasons.Leads,
            first-leads A (is-clear A (inr (inl refl)) refl) b-leads,
            _,
            refl,
            inl (
              reasons.Kind,
              first-kind,
              _,
              refl,
              inl (
                reasons.Name,
                first-name,
                _,
                refl,
                inl (reasons.Typeof, first-typeof, _, refl, behind-points busy busy-is-geo),
              ),
            ),
          ),
        ),
      ),
    )

-- the ranks of directions' dim, which uses none, and of points' coords, which aren't derived
unused-label : (s : Schema) (u : Derivation) → BodyMayUse s (Self PLAIN_MARK) plain_label.body u → ⊥
unused-label s u h = h

uses-nothing : (d u : Derivation) → Uses geo d u → ⊥
uses-nothing =
    no-uses geo (
      tt,
      (
        (unused-dim geo is-geo, tt),
        (
          tt,
          (
            tt,
            (
              tt,
              (
                tt,
                (
                  tt,
                  (
                    tt,
                    (
                      tt,
                      (
                        tt,
                        (
                          tt,
                          (
                            tt,
                            ((unused-label geo, tt), tt),
                          ),
                        ),
                      ),
                    ),
                  ),
                ),
              ),
            ),
          ),
        ),
      ),
    )

rank-of-dim : IsRankAt geo (DIRECTION, DIM) (Some 0)
rank-of-dim = (
  (DIRECTION, 0),
  (refl, (direction, refl, refl)),
  dim-stays geo is-geo 0,
  (λ d. 0, (λ d free. record { above = λ u h. absurd (uses-nothing d u h); least = inl refl }), refl),
)

no-rank-of-coords : IsRankAt geo (POINT, COORDS) None
no-rank-of-coords (h, n) (same, (x, at, first)) = absurd (none (is-point x at) first)
  where
    is-point : (x : Entity) → IsEntityAt geo POINT x → point ≡ x
    is-point x at = cc

    none : point ≡ x → IsFirstFor COORDS (listed x.derived) n → ⊥
    none same first = subst (λ y. IsFirstFor COORDS (listed y.derived) n) (sym same) first
