use Rattle.std.proofs.Common.{◌≡◌, ap, subst}
use Rattle.std.specs.Prelude.{IfOk}
use Rattle.std.specs.BTreeMap.{is_at}
use Rattle.std.specs.List.{list_any}
use Rattle.std.specs.Ordering.{nat_cmp}
use Rattle.value_equality.specs.Maps.{is_pinned}
use Rattle.row_signatures.specs.steps.Signatures.{AreSignatures, none_pinned}
use Rattle.row_signatures.proofs.signatures.all_signatures.Goals as goal

pub returns : goal.returns
returns c =
    let none : is_pinned c.new-none.result ≡ none_pinned =
    λ i y. ap (list_any (is_at (nat_cmp y))) c.new-none.ensures.empty i in
    subst (λ pins. IfOk c.signatures_of.result (AreSignatures c.args.input.now pins)) none c.signatures_of.ensures
