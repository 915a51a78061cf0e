-- Agreement of values as a boolean test, if each reference agrees with itself alone. Two findings
-- are defined by these tests: no two elements of a SET, or of an aggregate OF UNIQUE, are equal
-- (F14), and no two keys of a uniqueness rule (F17). The law `TestsDecideAgreement` says that the
-- tests pass exactly if the values agree.
use Rattle.std.specs.Prelude.{ℕ, suc, ◌==◌, ◌&&◌, Bool, true, false, cond, List, [], ◌∷◌}
use Rattle.std.specs.Ordering.{int_eq}
use Rattle.std.specs.Bool.{beq}
use Rattle.std.specs.Cmp.Lexicographic.{pointwise}
use Rattle.std.specs.Str.{bytes_eq}
use Rattle.step_literals.specs.declared.literal.items.Item.{Item}
use Rattle.step_literals.specs.declared.literal.items.Item.TheVariants.{Code, Page, Raw}
use Rattle.step_values.specs.Leaves.{Leaf, unset, derived, number, text, bits, element}
use Rattle.step_values.specs.Values.{Value, leaf, reference, typed, sequence, bag, Values, none, more, is_crowd}

abbrev pub item_test : Item → Item → Bool
item_test (Code c) (Code d) = c == d
item_test (Page p b) (Page q c) = (p == q) && (b == c)
item_test (Raw b) (Raw c) = b == c
item_test _ _ = false

abbrev pub each_test : {A : Type 0} → (A → A → Bool) → List A → List A → Bool
each_test test [] [] = true
each_test test (x ∷ xs) (y ∷ ys) = test x y && each_test test xs ys
each_test test _ _ = false

abbrev pub leaf_test : Leaf → Leaf → Bool
leaf_test unset unset = true
leaf_test derived derived = true
leaf_test (number y) (number z) = int_eq y z
leaf_test (text s) (text t) = each_test item_test s t
leaf_test (bits b) (bits c) = pointwise beq b c
leaf_test (element s) (element t) = bytes_eq s t
leaf_test _ _ = false

abbrev pub count_in : (Value → Bool) → Values → ℕ
count_in p none = 0
count_in p (more v vs) = cond (p v) (suc (count_in p vs)) (count_in p vs)

abbrev pub value_count : Values → ℕ
value_count none = 0
value_count (more v vs) = suc (value_count vs)

-- Two bags agree if they are of one size and each value of the first occurs equally often in both.
abbrev mutual
  pub same_test : Value → Value → Bool
  same_test (leaf a) (leaf b) = leaf_test a b
  same_test (reference y) (reference z) = y == z
  same_test (typed n v) (typed m w) = bytes_eq n m && same_test v w
  same_test (sequence vs) (sequence ws) = same_each_test vs ws
  same_test (bag vs) (bag ws) = (value_count vs == value_count ws) && counts_test vs vs ws
  same_test _ _ = false

  pub same_each_test : Values → Values → Bool
  same_each_test none none = true
  same_each_test (more v vs) (more w ws) = same_test v w && same_each_test vs ws
  same_each_test _ _ = false

  pub counts_test : Values → Values → Values → Bool
  counts_test none vs ws = true
  counts_test (more v rest) vs ws = (count_in (same_test v) vs == count_in (same_test v) ws) && counts_test rest vs ws

-- Agreement under a test of references, as a boolean test.
abbrev mutual
  pub agree_by : (ℕ → ℕ → Bool) → Value → Value → Bool
  agree_by test (leaf a) (leaf b) = leaf_test a b
  agree_by test (reference y) (reference z) = test y z
  agree_by test (typed n v) (typed m w) = bytes_eq n m && agree_by test v w
  agree_by test (sequence vs) (sequence ws) = agree_each_by test vs ws
  agree_by test (bag vs) (bag ws) = cond (is_crowd vs) (same_test (bag vs) (bag ws)) (agree_each_by test vs ws)
  agree_by test _ _ = false

  pub agree_each_by : (ℕ → ℕ → Bool) → Values → Values → Bool
  agree_each_by test none none = true
  agree_each_by test (more v vs) (more w ws) = agree_by test v w && agree_each_by test vs ws
  agree_each_by test _ _ = false
