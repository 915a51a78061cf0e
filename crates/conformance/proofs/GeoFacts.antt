-- What a schema of points, placements and shapes says, by the relations of the definitions.
use Rattle.std.specs.Prelude.{◌≡◌, ℕ, ◌<◌, ◌||◌, cond, bytes_eq, List, [], ◌∷◌, codes}
use Rattle.std.proofs.Common.{refl, inl, inr, sym, subst, arith}
use Rattle.express_syntax.specs.Schemas.{Entity}
use Rattle.schema_semantics.specs.Names.{Name, Among, IsEntityAt, IsKindOf, DeclaresExplicit, explicit_names}
use Rattle.schema_semantics.specs.Attributes.{AreLines, Derivation, Derives}
use Rattle.schema_semantics.specs.Ranks.{Uses}
use Rattle.schema_semantics.proofs.Facts.{one-declarer, is-deriver, no-uses}
use Rattle.schema_semantics.proofs.Geo.{geo, point, direction, placement, shape, plain_mark, plain_label, dim, DIRECTION, PLACEMENT, ITEM, LOOP, GROUP, SOLID, SHAPE, MARKED, PLAIN_MARK, DIM, LABEL, LOCATION, AXIS, some_ratio, as_many}
use Rattle.schema_semantics.proofs.GeoListed.{IsGeo, dim-stays, unused-dim, ratio-is-checked, placement-is-checked}
use Rattle.conformance.proofs.GeoRules.{geo_rules}
use Rattle.conformance.specs.Attributes.{IsFormula, IsNamed}
use Rattle.conformance.specs.DomainRules.{AreDomainRules}
use Rattle.conformance.proofs.MeaningSamples.{attributes, rules}

is_geo : IsGeo geo
is_geo = record {
  is_point = (point, refl, inl refl);
  is_direction = refl;
  is_placement = refl;
  is_group = refl;
  ratios = refl;
  dim = refl;
  axis = refl;
  location = refl;
  coords = refl;
  id = refl;
  no_ratios = refl;
  no_axis = refl;
  no_location = refl;
  no_coords = refl;
  one_dim = refl;
}

-- the rules of the examples are those of the schema
rules_are : AreDomainRules geo rules
rules_are =
    inl (
      ratio-is-checked geo is_geo,
      some_ratio,
      refl,
      _,
      refl,
      inl (placement-is-checked geo is_geo, as_many, refl, [], refl, refl),
    )

one : (e f : Name) → Among f (e ∷ []) → IsKindOf geo e f
one e f (inl same) = inl same
one e f (inr m) = elim m [ ]

none_before : (m : ℕ) → m < 0 → ⊥
none_before m h = omega (arith, h)

-- DIM of a direction is derived, by the first DERIVE of its entity
dim_derives : Derives geo DIRECTION DIM (DIRECTION, 0)
dim_derives = (dim, (direction, refl, refl), inl (refl, refl))

dim_is : IsNamed geo geo_rules.inverses (DIRECTION ∷ []) DIM (attributes.source (DIRECTION ∷ []) DIM)
dim_is = inl (
  DIRECTION,
  ((inl refl, (direction, refl, inr (inl refl))), λ q h. sym (one-declarer geo DIRECTION q DIM refl h.1)),
  (
    (inl refl, (0, dim_derives), λ f m h. one DIRECTION f (is-deriver geo DIRECTION DIM f h.0 h.1)),
    (dim_derives, λ m h d. none_before m h),
  ),
)

-- LABEL of a plain mark is declared for shapes, and redeclared as derived
abbrev line : Name → List Name
line n =
    cond (bytes_eq n LOOP || bytes_eq n GROUP) (n ∷ ITEM ∷ [])
    (cond (bytes_eq n SOLID || bytes_eq n MARKED) (n ∷ SHAPE ∷ [])
    (cond (bytes_eq n PLAIN_MARK) (n ∷ MARKED ∷ SHAPE ∷ []) (n ∷ [])))

lines : AreLines geo line
lines = (refl, (refl, (refl, (refl, (refl, (refl, (refl, (refl, (refl, (refl, (refl, (refl, (refl, tt)))))))))))))

label_derives : Derives geo SHAPE LABEL (PLAIN_MARK, 0)
label_derives = (
  plain_label,
  (plain_mark, refl, refl),
  inr (SHAPE, refl, ((shape, refl), line, lines, inl ((shape, refl, inl refl), refl))),
)

abbrev plain_types : List Name
plain_types = SHAPE ∷ MARKED ∷ PLAIN_MARK ∷ []

label_is : IsNamed geo geo_rules.inverses plain_types LABEL (attributes.source plain_types LABEL)
label_is = inl (
  SHAPE,
  ((inl refl, (shape, refl, inl refl)), λ q h. sym (one-declarer geo SHAPE q LABEL refl h.1)),
  (
    (inr (inr (inl refl)), (0, label_derives), λ f m h. one PLAIN_MARK f (is-deriver geo SHAPE LABEL f h.0 h.1)),
    (label_derives, λ m h d. none_before m h),
  ),
)

-- NOTES of a placement is inverse
abbrev NOTES : Name
NOTES = codes "NOTES"

not_explicit : DeclaresExplicit geo PLACEMENT NOTES → ⊥
not_explicit (e, at, m) = by (subst (λ (x : Entity). Among NOTES (explicit_names x)) (sym (same e at)) m)
  where
    same : (e : Entity) → IsEntityAt geo PLACEMENT e → placement ≡ e
    same e at = cc

    by : Among NOTES (LOCATION ∷ AXIS ∷ []) → ⊥
    by (inl q) = absurd (cc)
    by (inr (inl q)) = absurd (cc)
    by (inr (inr m)) = elim m [ ]

notes_are : IsNamed geo geo_rules.inverses (PLACEMENT ∷ []) NOTES (attributes.source (PLACEMENT ∷ []) NOTES)
notes_are = inl (
  PLACEMENT,
  ((inl refl, (placement, refl, inr (inr (inl refl)))), λ q h. sym (one-declarer geo PLACEMENT q NOTES refl h.1)),
  (
    inl ((refl, refl), refl),
    not_explicit,
    λ e m h. elim (is-deriver geo PLACEMENT NOTES e h.0 h.1) [ ],
  ),
)

-- DIM uses no derived attribute, so its rank is 0
uses_nothing : (d u : Derivation) → Uses geo d u → ⊥
uses_nothing =
    no-uses geo (
      tt,
      (
        (unused-dim geo is_geo, tt),
        (
          tt,
          (
            tt,
            (
              tt,
              (
                tt,
                (
                  tt,
                  (
                    tt,
                    (
                      tt,
                      (
                        tt,
                        (
                          tt,
                          (
                            tt,
                            (((λ u h. h), tt), tt),
                          ),
                        ),
                      ),
                    ),
                  ),
                ),
              ),
            ),
          ),
        ),
      ),
    )

dim_formula : IsFormula geo (DIRECTION, 0) (attributes.formula (DIRECTION, 0))
dim_formula = (
  dim-stays geo is_geo 0,
  (dim, (direction, refl, refl), refl),
  (λ d. 0, (λ d free. record { above = λ u h. absurd (uses_nothing d u h); least = inl refl }), refl),
)
