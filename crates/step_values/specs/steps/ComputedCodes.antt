-- Codes of values, by which the logic distinguishes them; no promise stands here. Equal codes
-- belong to equal values.
use Rattle.std.specs.Prelude.{◌≡◌, ℕ, Bool, List, refl}
use Rattle.std.specs.Coded.{Coded, coded_ℕ, coded_ℤ, coded_bool, coded_list}
use Rattle.std.proofs.Common.{ap}
use base.Stored.{Gv, gnil, gnum, gcons}
use Rattle.step_literals.specs.declared.literal.items.Item.{Item}
use Rattle.step_literals.specs.declared.literal.items.Item.TheVariants.{Code, Page, Raw}
use Rattle.step_values.specs.Leaves.{Leaf, unset, derived, number, text, bits, element}
use Rattle.step_values.specs.Values.{Value, leaf, reference, typed, sequence, bag, Values, none, more}

abbrev pub bytes : Coded (List ℕ)
bytes = coded_list coded_ℕ

-- a tag before a code
abbrev pub next : Gv → Gv
next g = gcons gnil g

abbrev pub item_code : Item → Gv
item_code (Code c) = gnum c
item_code (Page page byte) = gcons (gnum page) (gnum byte)
item_code (Raw byte) = next (gcons (gnum byte) gnil)

pub item_inj : (a b : Item) → item_code a ≡ item_code b → a ≡ b
item_inj (Code c) (Code d) e = cc
item_inj (Page p b) (Page q c) e = cc
item_inj (Raw b) (Raw c) e = cc
item_inj _ _ e = absurd (cc)

abbrev pub items : Coded (List Item)
items = coded_list (record { code = item_code; inj = item_inj })

abbrev pub flags : Coded (List Bool)
flags = coded_list coded_bool

abbrev pub leaf_code : Leaf → Gv
leaf_code unset = gnil
leaf_code derived = next gnil
leaf_code (number z) = next (next (gcons (gnum 0) (coded_ℤ.code z)))
leaf_code (text s) = next (next (next (gcons (gnum 0) (items.code s))))
leaf_code (bits b) = next (next (next (next (gcons (gnum 0) (flags.code b)))))
leaf_code (element s) = next (next (next (next (next (gcons (gnum 0) (bytes.code s))))))

pub leaf_inj : (a b : Leaf) → leaf_code a ≡ leaf_code b → a ≡ b
leaf_inj unset unset e = refl
leaf_inj derived derived e = refl
leaf_inj (number y) (number z) e = ap number (coded_ℤ.inj y z (cc))
leaf_inj (text s) (text t) e = ap text (items.inj s t (cc))
leaf_inj (bits b) (bits c) e = ap bits (flags.inj b c (cc))
leaf_inj (element s) (element t) e = ap element (bytes.inj s t (cc))
leaf_inj _ _ e = absurd (cc)

abbrev mutual
  pub value_code : Value → Gv
  value_code (leaf a) = next (gcons (gnum 0) (leaf_code a))
  value_code (reference y) = gnum y
  value_code (typed n v) = next (next (gcons (gnum 0) (gcons (bytes.code n) (value_code v))))
  value_code (sequence vs) = next (next (next (gcons (gnum 0) (values_code vs))))
  value_code (bag vs) = next (next (next (next (gcons (gnum 0) (values_code vs)))))

  pub values_code : Values → Gv
  values_code none = gnil
  values_code (more v vs) = gcons (value_code v) (values_code vs)

mutual
  pub value_inj : (v w : Value) → value_code v ≡ value_code w → v ≡ w
  value_inj (leaf a) (leaf b) e = ap leaf (leaf_inj a b (cc))
  value_inj (reference y) (reference z) e = cc
  value_inj (typed n v) (typed m w) e = let first : n ≡ m = bytes.inj n m (cc) in let second : v ≡ w =
      value_inj v w (cc) in cc
  value_inj (sequence vs) (sequence ws) e = ap sequence (values_inj vs ws (cc))
  value_inj (bag vs) (bag ws) e = ap bag (values_inj vs ws (cc))
  value_inj _ _ e = absurd (cc)

  pub values_inj : (vs ws : Values) → values_code vs ≡ values_code ws → vs ≡ ws
  values_inj none none e = refl
  values_inj (more v vs) (more w ws) e = let first : v ≡ w = value_inj v w (cc) in let second : vs ≡ ws =
      values_inj vs ws (cc) in cc
  values_inj _ _ e = absurd (cc)

abbrev pub coded_value : Coded Value
coded_value = record { code = value_code; inj = value_inj }

abbrev pub coded_values : Coded Values
coded_values = record { code = values_code; inj = values_inj }
