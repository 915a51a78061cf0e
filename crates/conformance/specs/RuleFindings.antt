-- Which instances break uniqueness rules, and the bounds of inverse attributes (ISO 10303-11, 9.2.1.3 and 9.2.2.1).
use Rattle.std.specs.Prelude.{ℕ, ◌==◌, ◌&&◌, not, Bool, false, cond, List, [], ◌∷◌, length, map, filter, flat_map, Option, Some, None}
use Rattle.std.specs.List.{list_any}
use Rattle.step_values.specs.Leaves.{unset, derived}
use Rattle.step_values.specs.Values.{Value, leaf, Values, none, more}
use Rattle.step_values.specs.AgreementTests.{same_each_test}
use Rattle.schema_semantics.specs.Names.{Name}
use Rattle.schema_semantics.specs.Attributes.{Place}
use Rattle.conformance.specs.ParameterFits.{is_listed, is_least, is_most}
use Rattle.conformance.specs.Populations.{Slot, Instance, slot_at}
use Rattle.conformance.specs.Rules.{UniqueRule, Gathering, alone, in_set, in_bag, InverseAttribute, Rules}
use Rattle.conformance.specs.Referrers.{inverse_value}

-- An instance that breaks a rule. The rule is printed as HOLDER.LABEL.
pub record Breach : Type 0 where
  pub instance : ℕ
  pub holder : Name
  pub label : Name

-- The value, if it is neither unset nor derived.
abbrev pub given : Option Value → Option Value
given (Some (leaf unset)) = None
given (Some (leaf derived)) = None
given v = v

abbrev pub with_part : Option Value → Option Values → Option Values
with_part (Some v) (Some vs) = Some (more v vs)
with_part v vs = None

-- The values of these attributes; `None` if one of them is missing, unset or derived.
abbrev pub parts : List Place → List Slot → Option Values
parts [] slots = Some none
parts (p ∷ ps) slots = with_part (given (slot_at slots p)) (parts ps slots)

-- The key of an instance of the entity or of a subtype: its values of the attributes that the rule
-- names (ISO 10303-11, 9.2.3.5). It is `None` if one of these values is missing, unset or derived.
abbrev pub key : UniqueRule → Instance → Option Values
key u x = cond (is_listed u.entity x.types) (parts u.places x.slots) None

-- Both keys exist and agree value by value. References agree if they name the same instance, and
-- the elements of a BAG or SET may be in any order.
abbrev pub same_keys : Option Values → Option Values → Bool
same_keys (Some vs) (Some ws) = same_each_test vs ws
same_keys k l = false

-- The instances of a list whose key also belongs to an earlier one in the list, or to one in
-- `before`. `RepeatsComeLater` says this without recursion.
abbrev pub repeats : UniqueRule → List Instance → List Instance → List Instance
repeats u before [] = []
repeats u before (x ∷ xs) =
    cond (list_any (λ z. same_keys (key u x) (key u z)) before) (x ∷ repeats u (x ∷ before) xs)
    (repeats u (x ∷ before) xs)

abbrev pub breaches_of_unique : List Instance → UniqueRule → List Breach
breaches_of_unique is u =
    cond u.is_checked (map (λ (x : Instance). record { instance = x.name; holder = u.entity; label = u.label })
    (repeats u [] is)) []

-- The instances that break a uniqueness rule, by rule in the order of the text, then by instance in
-- the order of the file.
abbrev pub unique_findings : Rules → List Instance → List Breach
unique_findings rules is = flat_map (breaches_of_unique is) rules.uniques

-- An inverse attribute may hold `n` instances: exactly one, or, as a SET or BAG, as many as its
-- bounds allow.
abbrev pub may_hold : Gathering → ℕ → Bool
may_hold alone n = n == 1
may_hold (in_set lower upper) n = is_least lower n && is_most upper n
may_hold (in_bag lower upper) n = is_least lower n && is_most upper n

abbrev pub breaks : List Instance → Instance → InverseAttribute → Bool
breaks is x i = is_listed i.entity x.types && not (may_hold i.gathering (length (inverse_value is i x.name)))

abbrev pub breaches_of_inverse : Rules → List Instance → Instance → List Breach
breaches_of_inverse rules is x =
    map (λ (i : InverseAttribute). record { instance = x.name; holder = i.entity; label = i.name })
    (filter (breaks is x) rules.inverses)

-- The inverse attributes that hold more or fewer instances than they may, by instance in the order
-- of the file, then by attribute in the order of the text.
abbrev pub inverse_findings : Rules → List Instance → List Breach
inverse_findings rules is = flat_map (breaches_of_inverse rules is) is
