use Rattle.std.proofs.lemmas.Result.{on_ok_weaker}
use Rattle.express_syntax.specs.Views.{skipped_of}
use Rattle.schema_unchecked_declarations.specs.UncheckedLists.{label_name, unchecked_in}
use Rattle.schema_unchecked_declarations.proofs.Listing.{adds-skipped}
use Rattle.schema_unchecked_declarations.proofs.declarations.add_skipped.Goals as goal

pub returns : goal.returns
returns c =
    on_ok_weaker c.add_part.result
    (adds-skipped (skipped_of c.args.skipped.now) c.skipped_part-kind.result.0 (label_name c.skipped_part-kind.result.1)
    (unchecked_in c.args.list.now.items) (unchecked_in c.add_part.new.list.items) c.skipped_part-kind.ensures.kind
    c.skipped_part-kind.ensures.name) c.add_part.ensures
