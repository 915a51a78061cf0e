use Rattle.std.proofs.Common.{map, sym}
use Rattle.std.specs.Char.{to_ascii_lowercase}
use Rattle.std.specs.Str.{bytes_eq}
use Rattle.std.proofs.lemmas.Bool.Decides.{same_from_decides}
use Rattle.std.proofs.lemmas.Slice.Eq.{bytes_eq-Decides}
use Rattle.command_line.proofs.merge_words.is_same_word.Goals as goal

pub returns : goal.returns
returns c =
    let word = map to_ascii_lowercase c.args.word.now in
    let other = map to_ascii_lowercase c.args.other.now in
    sym (same_from_decides (bytes_eq word other) c.eq_ignore_ascii_case.result (bytes_eq-Decides word other)
    c.eq_ignore_ascii_case.ensures.test)
