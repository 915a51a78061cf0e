-- The options of a request, as the grammar of the arguments has them.
use Rattle.std.specs.Prelude.{ℕ, List, Option, option_map}
use Rattle.std.specs.Borrow.{Bor}
use Rattle.command_line.specs.Commands.{Options, no_options}
use Rattle.command_line.specs.declared.command_words.CheckRequest.{CheckRequest}
use Rattle.command_line.specs.declared.merge_words.ShrinkRequest.{ShrinkRequest}
use Rattle.command_line.specs.declared.merge_words.VerifyRequest.{VerifyRequest}

-- the text that a reference refers to, if any
abbrev pub text_of : Option (Bor (List ℕ)) → Option (List ℕ)
text_of = option_map (λ text. text.now)

-- the options of each request; those that its command doesn't take are absent
abbrev pub check_options : CheckRequest → Options
check_options asked = record no_options { schema_alias = text_of asked.schema_alias }

abbrev pub shrink_options : ShrinkRequest → Options
shrink_options asked = record {
  merge = text_of asked.merge;
  schema_alias = text_of asked.schema_alias;
  in_sets = asked.in_sets;
  strict = asked.strict;
}

abbrev pub verify_options : VerifyRequest → Options
verify_options asked = record no_options {
  merge = text_of asked.merge;
  schema_alias = text_of asked.schema_alias;
  in_sets = asked.in_sets;
}
