-- The rules of a schema of points, placements and groups, and that they are those that it states.
use Rattle.std.specs.Prelude.{◌≡◌, ◌||◌, pos, true, cond, List, [], ◌∷◌, Some, None, codes, bytes_eq, ◌⊎◌}
use Rattle.std.proofs.Common.{refl, inl, inr, sym, subst}
use Rattle.express_syntax.specs.Schemas.{own, value}
use Rattle.schema_semantics.specs.Names.{Name, Declares}
use Rattle.schema_semantics.specs.Attributes.{Place, AreLines}
use Rattle.schema_semantics.proofs.Facts.{one-declarer}
use Rattle.schema_semantics.proofs.Geo.{geo, notes, group, note, point, ITEM, LOOP, GROUP, NOTE, SHAPE, SOLID, MARKED, PLAIN_MARK, PLACEMENT}
use Rattle.schema_semantics.proofs.GeoListed.{IsGeo, id-is-checked}
use Rattle.conformance.specs.Bases.{Domain}
use Rattle.conformance.specs.Rules.{UniqueRule, in_set, InverseAttribute, Rules, NamesPlace, IsUniqueRule, IsInverseAttribute, AreRules}

abbrev pub ID : Place
ID = (GROUP, codes "ID")

abbrev pub MEMBERS : Place
MEMBERS = (GROUP, codes "MEMBERS")

abbrev pub SUBJECT : Place
SUBJECT = (NOTE, codes "SUBJECT")

-- UNIQUE ur1 : id;
abbrev pub one_id : UniqueRule
one_id = record { entity = GROUP; label = codes "UR1"; is_checked = true; places = ID ∷ [] }

-- INVERSE notes : SET [0:1] OF note FOR subject;
abbrev pub the_notes : InverseAttribute
the_notes = record {
  entity = PLACEMENT;
  name = codes "NOTES";
  gathering = in_set (Some (pos 0)) (Some (pos 1));
  referrer = NOTE;
  inverted = SUBJECT;
}

abbrev pub geo_rules : Rules
geo_rules = record { uniques = one_id ∷ []; inverses = the_notes ∷ [] }

-- They are those of the schema.
is_geo : IsGeo geo
is_geo = record {
  is_point = (point, refl, inl refl);
  is_direction = refl;
  is_placement = refl;
  is_group = refl;
  ratios = refl;
  dim = refl;
  axis = refl;
  location = refl;
  coords = refl;
  id = refl;
  no_ratios = refl;
  no_axis = refl;
  no_location = refl;
  no_coords = refl;
  one_dim = refl;
}

id_place : (p : Place) → NamesPlace geo GROUP (own (codes "ID")) p → ID ≡ p
id_place (p, a) h =
    let owner : GROUP ≡ p = one-declarer geo GROUP p (codes "ID") refl (subst (Declares geo p) (sym h.0.0) h.0.1.1) in
    subst (λ q. ID ≡ (q, a)) owner (subst (λ b. ID ≡ (GROUP, b)) h.0.0 refl)

the_id : (p : Place) → ID ≡ p → NamesPlace geo GROUP (own (codes "ID")) p
the_id p e =
    subst (NamesPlace geo GROUP (own (codes "ID"))) e
    ((refl, (inl refl, (group, refl, inl refl))), (group, refl, inl refl))

only : {P : Type 0} → P ⊎ ⊥ → P
only (inl p) = p
only (inr n) = absurd n

id_is : IsUniqueRule geo (record { entity = GROUP; label = codes "UR1"; attributes = own (codes "ID") ∷ [] }) one_id
id_is = record {
  entity = refl;
  label = refl;
  checked = ((λ t. id-is-checked geo is_geo), λ f. refl);
  places = λ p. ((λ m. inl (the_id p (only m))), λ h. inl (id_place p (only h)));
}

-- an entity, then those above it
abbrev line : Name → List Name
line n =
    cond (bytes_eq n LOOP || bytes_eq n GROUP) (n ∷ ITEM ∷ [])
    (cond (bytes_eq n SOLID || bytes_eq n MARKED) (n ∷ SHAPE ∷ [])
    (cond (bytes_eq n PLAIN_MARK) (n ∷ MARKED ∷ SHAPE ∷ []) (n ∷ [])))

lines : AreLines geo line
lines = (refl, (refl, (refl, (refl, (refl, (refl, (refl, (refl, (refl, (refl, (refl, (refl, (refl, tt)))))))))))))

notes_are : (d : Domain) → d.bound (value None (codes "0")) ≡ Some (pos 0)
    → d.bound (value None (codes "1")) ≡ Some (pos 1) → IsInverseAttribute geo d (PLACEMENT, notes) the_notes
notes_are d zero one = record {
  entity = refl;
  name = refl;
  gathering = rw (zero, one) refl;
  referrer = refl;
  holder = ((note, refl), line, lines, inl ((note, refl, inr (inl refl)), refl));
  attribute = refl;
}

pub geo_rules_are : (d : Domain) → d.bound (value None (codes "0")) ≡ Some (pos 0)
    → d.bound (value None (codes "1")) ≡ Some (pos 1) → AreRules geo d geo_rules
geo_rules_are d zero one = record { uniques = (id_is, tt); inverses = (notes_are d zero one, tt) }
