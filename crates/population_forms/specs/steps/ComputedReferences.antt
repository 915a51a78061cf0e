-- What the code computes; nothing is promised here. References from declarations to their attributes.
use Rattle.std.specs.Prelude.{ℕ, ◌+◌, List, [], ◌∷◌}
use Rattle.graphs.specs.declared.referrers.Reference.{Reference}
use Rattle.schema_redeclarations.specs.declared.uses.AttributeUse.{AttributeUse}

-- the references of the declarations, whose positions count from k
abbrev pub references_from : ℕ → List AttributeUse → List Reference
references_from k [] = []
references_from k (u ∷ us) = record { target = u.place; referrer = k } ∷ references_from (k + 1) us
