use Rattle.std.proofs.Common.{◌≡◌, ℕ, ◌<◌, get_or, ◌∙◌, ap, sym, subst, map}
use Rattle.std.specs.Str.{IsUtf8}
use Rattle.std.specs.Char.{to_ascii_uppercase}
use Rattle.std.proofs.Math.Logic.{∥∥₁_elim}
use Rattle.std.proofs.Math.Bridge.{le_prop}
use Rattle.std.proofs.lemmas.Str.{IsUtf8-from_ascii}
use Rattle.schema_names.proofs.Ascii.{word-below}
use Rattle.schema_names.proofs.capital_names.in_capitals.Goals as goal

pub returns : goal.returns
returns c =
    let bytes = c.args.name.text.now in
    let ascii : (i : ℕ) → get_or bytes i 0 < 128 =
    λ i. ∥∥₁_elim c.args.name.spelled le_prop (λ k. word-below bytes k i) in
    let spelled : c.spelling.result.now ≡ bytes = λ i. (c.spelling.ensures i).now in
    let utf = subst IsUtf8 (sym spelled) (IsUtf8-from_ascii bytes ascii) in
    c.make_ascii_uppercase.ensures.bytes ∙ ap (map to_ascii_uppercase) (c.in_ok-text.ensures.ok utf ∙ spelled)
