use Rattle.std.proofs.Common.{◌≡◌, ◌≤◌, ◌+◌, length, take, rules, true, is_ok}
use Rattle.std.proofs.lemmas.List.{length-take-le, places}
use Rattle.files.proofs.Filling.{filled, front_kept}
use Rattle.files.proofs.read.read_more.Goals as goal

pub returns-in-Ok-clause-read : goal.returns-in-Ok-clause-read
returns-in-Ok-clause-read g c =
    let whole = c.deref_mut.result.now in
    let within : c.in-Ok.count ≤ length c.take.new.buffer = c.in-Ok.ensures.count in
    let start : c.len-start.result ≡ length c.args.bytes.now.items = search (rules, places) in
    let made : is_ok c.resize.result ≡ true = search rules in
    let kept : take c.len-start.result whole ≡ c.args.bytes.now.items = front_kept c.args.bytes.now.items whole
    c.resize.new.self.items _ _ c.len-start.result (c.len-start.result + c.args.room) _ c.deref_mut.ensures.value
    c.resize.ensures.items made start (search rules) in
    let fits : c.len-start.result + c.in-Ok.count ≤ c.resize.new.self.len = search (rules, places) in (
      take c.in-Ok.count c.take.new.buffer,
      filled _ _ _ _ _ _ c.len-start.result c.in-Ok.count c.resize.new.self.len
          c.truncate.ensures.items fits within start kept,
      length-take-le _ _ within,
      c.in-Ok.ensures.bytes.0,
    )
