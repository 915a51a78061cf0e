use Rattle.std.proofs.Common.{arith}
use Rattle.devices.proofs.Sending.{sends_nothing, sends_more}
use Rattle.devices.proofs.printer.send.Goals as goal

pub loop-rest-init : goal.loop-rest-init
loop-rest-init g c = record {
  sent = sends_nothing (g.S.Sink.held c.args.out.now) c.args.written.now c.args.bytes.now;
  fine = (λ h. h);
}

pub loop-rest-preserved : goal.loop-rest-preserved
loop-rest-preserved g c = record {
  sent = sends_more (omega arith) c.loop-rest.invariant.sent c.in_ok-count.ensures.count c.in_ok-count.ensures.bytes
      c.saturating_add.ensures c.split_at.ensures.back;
  fine = (λ h. c.in_ok-count.ensures.failed (c.loop-rest.invariant.fine h));
}
