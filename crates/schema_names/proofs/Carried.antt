-- The laws of numbers.
use Rattle.std.proofs.Common.{subst}
use Rattle.graphs.specs.Graphs.{Leads}
use Rattle.express_syntax.specs.Schemas.{named}
use Rattle.schema_semantics.specs.Names.{IsBelow, IsMadeOf}
use Rattle.schema_names.specs.Edges.{supertypes_in, parts_in}
use Rattle.schema_names.specs.Laws.{ReachedAreSupertypes, ReachedAreParts, EdgesLeadWithin}
use Rattle.schema_names.proofs.Numbers.{one-name}
use Rattle.schema_names.proofs.Edges.{below-forth, below-back, made-of-forth, made-of-back, is-graph}

pub reached-are-supertypes : ReachedAreSupertypes
reached-are-supertypes s g h m i k = (
  (λ n j l. (
    (λ r. let (x, a, b) = below-forth s g h m i j k r in subst (IsBelow s m) (one-name s x n j a l) b),
    below-back s g h m n i j k l,
  )),
  (λ j r. let (x, a, b) = below-forth s g h m i j k r in (x, a)),
)

pub reached-are-parts : ReachedAreParts
reached-are-parts s g h m i k = (
  (λ n j l. (
    (λ r.
        let (x, a, b) = made-of-forth s g h m i j k r in
        subst (λ y. Leads (IsMadeOf s) (named m) (named y)) (one-name s x n j a l) b),
    made-of-back s g h m n i j k l,
  )),
  (λ j r. let (x, a, b) = made-of-forth s g h m i j k r in (x, a)),
)

pub edges-lead-within : EdgesLeadWithin
edges-lead-within s g = (is-graph s supertypes_in g, is-graph s parts_in g)
