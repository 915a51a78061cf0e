use Rattle.std.proofs.Common.{rules}
use Rattle.std.proofs.lemmas.Fmt.{length-decimal-le}
use Rattle.certificate_text.proofs.write.put_origin.Goals as goal

pub write_digits-at-requires : goal.write_digits-at-requires
write_digits-at-requires c = search (rules, length-decimal-le 20)

pub put_before-at-requires-clause-first : goal.put_before-at-requires-clause-first
put_before-at-requires-clause-first c = search (rules, length-decimal-le 20)

pub write_digits-at-requires-2 : goal.write_digits-at-requires-2
write_digits-at-requires-2 c = search (rules, length-decimal-le 20)

pub put_before-at-requires-2-clause-first : goal.put_before-at-requires-2-clause-first
put_before-at-requires-2-clause-first c = search (rules, length-decimal-le 20)

pub put_before-requires-clause-first : goal.put_before-requires-clause-first
put_before-requires-clause-first c = search (rules, length-decimal-le 20)

pub returns-clause-start : goal.returns-clause-start
returns-clause-start c = search (rules, length-decimal-le 20)
