use Rattle.std.proofs.Common.{rules, ◌≡◌, ◌∙◌, ◌==◌, not, sym}
use Rattle.std.specs.List.{list_any}
use Rattle.parameter_fits.proofs.Integers.{of-decimal}
use Rattle.parameter_fits.proofs.leaves.is_integer.Goals as goal

pub returns : goal.returns
returns c =
    let t = c.args.number.now.text.now in
    let found : not c.contains.result ≡ not (list_any (λ b. b == 46) t) = search rules in
    found ∙ sym (of-decimal t c.args.number.now.spelled)
