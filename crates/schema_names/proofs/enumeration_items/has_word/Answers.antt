use Rattle.std.proofs.Common.{◌∙◌}
use Rattle.schema_names.proofs.Ordered.{found-is}
use Rattle.schema_names.proofs.enumeration_items.has_word.Goals as goal

pub returns : goal.returns
returns c =
    c.is_ok.ensures.value
    ∙ found-is c.args.words.now c.args.word c.requires c.binary_search.result c.binary_search.ensures.bound
    c.binary_search.ensures.position
