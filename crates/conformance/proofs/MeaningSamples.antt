-- What a schema of points, placements and shapes says of its attributes, as functions, for the examples.
use Rattle.std.specs.Prelude.{ℕ, pos, zero, suc, ◌&&◌, false, cond, List, [], ◌∷◌, Option, Some, None, codes, bytes_eq}
use Rattle.step_values.specs.Leaves as leaves
use Rattle.step_values.specs.Values as values
use Rattle.step_values.specs.Values.{Value, leaf, reference}
use Rattle.schema_semantics.specs.Names.{Name}
use Rattle.schema_semantics.specs.Attributes.{Derivation}
use Rattle.schema_semantics.proofs.Geo.{POINT, DIRECTION, PLACEMENT, SHAPE, SOLID, MARKED, PLAIN_MARK, FINISH, COORDS, RATIOS, DIM, LOCATION, AXIS, LABEL, VOLUME, LOOK, dim_tree, some_ratio, as_many}
use Rattle.express_syntax.specs.Trees.{literal, text}
use Rattle.conformance.specs.Bases as bases
use Rattle.conformance.specs.Bases.{Base, Domain}
use Rattle.conformance.specs.ParameterFits.{is_listed}
use Rattle.conformance.specs.Populations.{Instance}
use Rattle.conformance.proofs.GeoRules.{the_notes}
use Rattle.conformance.proofs.RuleSamples.{instance, slot}
use Rattle.express_logic.specs.Literals.{whole_units}
use Rattle.conformance.specs.Attributes.{Source, explicit, derived, inverse, unclear, Formula, Attributes}
use Rattle.conformance.specs.DomainRules.{DomainRule, of_entity}

-- names of entities and of one enumeration are asked
abbrev pub of_name : Name → Base
of_name n = cond (bytes_eq n FINISH) (bases.enumeration (codes "ROUGH" ∷ codes "FINE" ∷ [])) (bases.entity n)

abbrev pub domain : Domain
domain = record { bound = λ b. None; width = λ w. None; of_name = of_name; is_item = λ m n. false }

-- an attribute, and the entity whose instances find it there
pub record Row : Type 0 where
  pub entity : Name
  pub name : Name
  pub source : Source

abbrev row : Name → Name → Row
row e a = record { entity = e; name = a; source = explicit (e, a) }

-- the label of PLAIN_MARK comes before the one of SHAPE
abbrev rows : List Row
rows =
    row POINT COORDS ∷ row DIRECTION RATIOS
    ∷ record { entity = DIRECTION; name = DIM; source = derived (DIRECTION, 0) } ∷ row PLACEMENT LOCATION
    ∷ row PLACEMENT AXIS ∷ record { entity = PLACEMENT; name = codes "NOTES"; source = inverse the_notes }
    ∷ record { entity = PLAIN_MARK; name = LABEL; source = derived (PLAIN_MARK, 0) } ∷ row SHAPE LABEL
    ∷ row SOLID VOLUME ∷ row MARKED LOOK ∷ []

abbrev source_in : List Name → Name → List Row → Option Source
source_in types a [] = None
source_in types a (r ∷ rs) = cond (is_listed r.entity types && bytes_eq r.name a) (Some r.source) (source_in types a rs)

abbrev or_unclear : Option Source → Source
or_unclear None = unclear
or_unclear (Some x) = x

abbrev formula_of : Derivation → Option Formula
formula_of (e, zero) =
    cond (bytes_eq e DIRECTION) (Some (record { rank = 0; expression = dim_tree }))
    (cond (bytes_eq e PLAIN_MARK) (Some (record { rank = 0; expression = literal (text (codes "'p'")) })) None)
formula_of (e, suc n) = None

abbrev pub attributes : Attributes
attributes = record {
  source = λ types a. source_in types a rows;
  source_of = λ types e a. cond (is_listed e types) (or_unclear (source_in types a rows)) unclear;
  formula = formula_of;
  is_defined_by = λ m n. bytes_eq m n;
}

-- the rules of DIRECTION and PLACEMENT
abbrev pub rules : List DomainRule
rules =
    record { holder = of_entity DIRECTION; label = codes "WR1"; condition = some_ratio }
    ∷ record { holder = of_entity PLACEMENT; label = codes "WR1"; condition = as_many } ∷ []

abbrev pub numbers : List ℕ → values.Values
numbers [] = values.none
numbers (n ∷ ns) = values.more (leaf (leaves.number (whole_units (pos n)))) (numbers ns)

abbrev pub a_point : ℕ → List ℕ → Instance
a_point n xs = instance n (POINT ∷ []) (slot (POINT, COORDS) (values.sequence (numbers xs)) ∷ [])

abbrev pub a_direction : ℕ → List ℕ → Instance
a_direction n xs = instance n (DIRECTION ∷ []) (slot (DIRECTION, RATIOS) (values.sequence (numbers xs)) ∷ [])

abbrev pub a_placement : ℕ → ℕ → Value → Instance
a_placement n y axis =
    instance n (PLACEMENT ∷ []) (slot (PLACEMENT, LOCATION) (reference y) ∷ slot (PLACEMENT, AXIS) axis ∷ [])

abbrev pub unset : Value
unset = leaf leaves.unset
