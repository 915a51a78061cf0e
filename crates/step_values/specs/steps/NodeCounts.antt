-- The number of nodes of values: each value is one node, and so is each value inside it at any
-- depth.
use Rattle.std.specs.Prelude.{ℕ, suc, ◌+◌}
use Rattle.step_values.specs.Values.{Value, leaf, reference, typed, sequence, bag, Values, none, more}

abbrev mutual
  pub nodes_of : Value → ℕ
  nodes_of (leaf a) = 1
  nodes_of (reference y) = 1
  nodes_of (typed n v) = suc (nodes_of v)
  nodes_of (sequence vs) = suc (nodes_in vs)
  nodes_of (bag vs) = suc (nodes_in vs)

  pub nodes_in : Values → ℕ
  nodes_in none = 0
  nodes_in (more v vs) = nodes_of v + nodes_in vs
