-- What clauses list, of which some are absent.
use Rattle.std.specs.Prelude.{◌≡◌, List, [], map, Option, None, Some, Vec, MatchOption}
use Rattle.std.proofs.Common.{ap}
use Rattle.express_syntax.specs.Views.{if_some}
use Rattle.schema_semantics.specs.Names.{listed}

pub clause-listed : {X Y Z : Type 0} (f : X → Y) (o : Option (Vec X Z)) (xs : List X)
    → MatchOption o (xs ≡ []) (λ (v : Vec X Z). xs ≡ v.items) → map f xs ≡ listed (if_some (λ v. map f v.items) o)
clause-listed f None xs e = ap (map f) e
clause-listed f (Some v) xs e = ap (map f) e
