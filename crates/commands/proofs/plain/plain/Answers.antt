use Rattle.step_exchange.specs.Exchanges.{structure, normal_text}
use Rattle.commands.proofs.Answering.{gave_plain, cut_short}
use Rattle.commands.proofs.Failing.{not_written}
use Rattle.commands.proofs.plain.plain.Goals as goal

pub returns-in-Ok-write_plain-clause-plain : goal.returns-in-Ok-write_plain-clause-plain
returns-in-Ok-write_plain-clause-plain g c =
    let x = c.in-Ok-read_exchange.exchange in
    let reads = rw c.deref.ensures.value at c.in-Ok-read_exchange.ensures.found in (
      normal_text x,
      gave_plain _ _ _ _ (structure x) c.in-Ok.ensures.all.0 c.in-Ok.ensures.all.1
          c.in-Ok.ensures.within reads,
      c.in-Ok-write_plain.ensures.emits,
    )

pub returns-clause-plain : goal.returns-clause-plain
returns-clause-plain g c =
    let x = c.in-Ok-read_exchange.exchange in
    let reads = rw c.deref.ensures.value at c.in-Ok-read_exchange.ensures.found in
    let whole = gave_plain _ _ _ _ (structure x) c.in-Ok.ensures.all.0
    c.in-Ok.ensures.all.1 c.in-Ok.ensures.within reads in
    cut_short _ _ _ (normal_text x) _ _ c.of_write.ensures whole
    c.in-Err-write_plain.ensures.emits

pub returns-clause-told : goal.returns-clause-told
returns-clause-told g c = not_written _ _ _ c.of_write.ensures c.in-Ok.ensures.told
