-- What the code computes; no promise stands here. Whether the references of rows pass a test.
use Rattle.std.specs.Prelude.{◌≡◌, ⊤, ℕ, ◌&&◌, Bool, true, false, List}
use Rattle.std.specs.List.{list_all}
use Rattle.step_values.specs.Values.{Value, leaf, reference, typed, sequence, bag, Values, none, more}
use Rattle.value_equality.specs.declared.fault.PlainFault.{PlainFault}
use Rattle.value_equality.specs.declared.fault.PlainFault.TheVariants.{UnknownReference, Memory}
use Rattle.value_equality.specs.Rows.{Row}

-- Each reference, at any depth, passes the test.
abbrev mutual
  pub references_pass : (ℕ → Bool) → Value → Bool
  references_pass p (leaf a) = true
  references_pass p (reference y) = p y
  references_pass p (typed n v) = references_pass p v
  references_pass p (sequence vs) = all_references_pass p vs
  references_pass p (bag vs) = all_references_pass p vs

  pub all_references_pass : (ℕ → Bool) → Values → Bool
  all_references_pass p none = true
  all_references_pass p (more v vs) = references_pass p v && all_references_pass p vs

-- Each reference of each row passes the test.
abbrev pub rows_pass : (ℕ → Bool) → List Row → Bool
rows_pass p rows = list_all (λ r. all_references_pass p r.values) rows

-- The fault with which values are refused: a reference doesn't pass, or memory ran out.
abbrev pub IsRefusal : Bool → PlainFault → Type 0
IsRefusal passes UnknownReference = passes ≡ false
IsRefusal passes Memory = ⊤
IsRefusal passes _ = ⊥
