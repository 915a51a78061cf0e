use Rattle.std.specs.Prelude.{◌≡◌, ◌||◌, find, not, map, drop, string_bytes}
use Rattle.step_literals.specs.Words.{upper}
use Rattle.express_syntax.specs.SchemaViews.{schema_of}
use Rattle.conformance.specs.ParameterFits.{is_entity}
use Rattle.merge_choices.specs.ChosenEntities.{is_preset}
use Rattle.merge_choices.proofs.names.find_unknown.Given as goal

-- what is left decides
abbrev pub invariant-loop-name : goal.invariant-loop-name
invariant-loop-name l =
    find (λ n. not (is_preset n || is_entity (schema_of l.schema) n)) (map upper (map string_bytes (drop l.name-index l.given)))
    ≡ find (λ n. not (is_preset n || is_entity (schema_of l.schema) n)) (map upper (map string_bytes l.given))
