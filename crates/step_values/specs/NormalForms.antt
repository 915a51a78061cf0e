-- What the code computes: normal forms, whose references are numbers of labels, and whose bags have
-- their members in order.
use Rattle.std.specs.Prelude.{◌≡◌, ℕ, Bool, List, [], ◌∷◌}
use Rattle.std.specs.List.Sorted.{IsPermutation, IsSorted}
use Rattle.std.specs.declared.cmp.Ordering.{Ordering}
use Rattle.step_values.specs.declared.normal.Normal.{Normal, out-Normal}
use Rattle.step_values.specs.declared.normal.Normal.TheOpen.{Normal-F}
use Rattle.step_values.specs.declared.normal.Normal.TheOpen as layer
use Rattle.step_values.specs.contracts.normal.NormalOrd.TheImpl.{ghosts}
use Rattle.step_values.specs.contracts.normal.NormalPartialEq.TheImpl.{ghosts as equals}
use Rattle.step_values.specs.LabelledValues.{code}
use Rattle.step_values.specs.Leaves.{Leaf, unset, derived, element}
use Rattle.step_values.specs.Values.{Value, leaf, reference, typed, sequence, bag, Values, none, more}
use Rattle.step_values.specs.Views.{word_of, number_leaf, text_leaf, bits_leaf}

-- the outermost part of a normal form
pub data Form : Type 0 where
  plain : Leaf → Form
  to : ℕ → Form
  called : List ℕ → Normal → Form
  listed : List Normal → Form
  bagged : List Normal → Form

abbrev pub form_of : Normal-F Normal → Form
form_of layer.Unset = plain unset
form_of layer.Derived = plain derived
form_of (layer.Number d) = plain (number_leaf d)
form_of (layer.Text t) = plain (text_leaf t)
form_of (layer.Bits b) = plain (bits_leaf b)
form_of (layer.Element w) = plain (element (word_of w))
form_of (layer.Reference l) = to (code l)
form_of (layer.Typed w n) = called (word_of w) n.value
form_of (layer.Sequence ns) = listed ns.items
form_of (layer.Bag ns) = bagged ns.items

abbrev pub form : Normal → Form
form n = form_of (out-Normal n)

-- the derived equality and order
abbrev pub normal_eq : Normal → Normal → Bool
normal_eq m n = equals.eq m n

abbrev pub normal_cmp : Normal → Normal → Ordering
normal_cmp m n = ghosts.cmp m n

-- The form has the parts of the value, position by position; those of a bag are sorted.
abbrev mutual
  pub IsNormal : Value → Normal → Type 0
  IsNormal (leaf a) n = form n ≡ plain a
  IsNormal (reference y) n = form n ≡ to y
  IsNormal (typed s v) n = (m : Normal) × (form n ≡ called s m) × IsNormal v m
  IsNormal (sequence vs) n = (ns : List Normal) × (form n ≡ listed ns) × AreNormal vs ns
  IsNormal (bag vs) n = (ns : List Normal) × (form n ≡ bagged ns)
      × ((ms : List Normal) × AreNormal vs ms × IsPermutation ms ns × IsSorted normal_cmp ns)

  pub AreNormal : Values → List Normal → Type 0
  AreNormal none [] = Unit {0}
  AreNormal (more v vs) (n ∷ ns) = IsNormal v n × AreNormal vs ns
  AreNormal _ _ = ⊥

abbrev pub AreSorted : Values → List Normal → Type 0
AreSorted vs ns = (ms : List Normal) × AreNormal vs ms × IsPermutation ms ns × IsSorted normal_cmp ns
