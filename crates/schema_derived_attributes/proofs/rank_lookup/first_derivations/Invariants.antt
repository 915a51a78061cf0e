use Rattle.std.proofs.Common.{◌≡◌, ◌<◌, ℕ, map, length, get_or}
use Rattle.express_syntax.specs.Views.{declaration_of}
use Rattle.schema_derived_attributes.specs.Firsts.{first_of}
use Rattle.schema_derived_attributes.proofs.rank_lookup.first_derivations.Given as goal

abbrev pub invariant-loop-declaration : goal.invariant-loop-declaration
invariant-loop-declaration l =
    record {
      long : length l.firsts.items ≡ l.declaration-index;
      each : (i : ℕ) → i < l.declaration-index
          → get_or l.firsts.items i 0 ≡ first_of (map declaration_of l.names.schema.now.declarations.items) i;
      next : l.count ≡ first_of (map declaration_of l.names.schema.now.declarations.items) l.declaration-index;
    }
