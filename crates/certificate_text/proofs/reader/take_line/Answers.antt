use Rattle.certificate_text.proofs.Entries.{in_first_rounds, in_first, in_second_rounds, in_second}
use Rattle.certificate_text.proofs.reader.take_line.Goals as goal

pub returns-in_ok-taken-in-First : goal.returns-in_ok-taken-in-First
returns-in_ok-taken-in-First c = in_first _ _ _ _ _ c.args.line.now c.in_ok-taken-in-First.taken c.in-First.is
    (c.if-pass.ensures).1 (c.if-pass.ensures).0 c.in_ok-taken-in-First.ensures

pub returns-in_ok-taken-in-Second : goal.returns-in_ok-taken-in-Second
returns-in_ok-taken-in-Second c = in_second _ _ _ _ _ c.args.line.now c.in_ok-taken-in-Second.taken c.in-Second.is
    (c.if-pass-2.ensures).1 (c.if-pass-2.ensures).0 c.in_ok-taken-in-Second.ensures

pub returns-in-FirstRounds : goal.returns-in-FirstRounds
returns-in-FirstRounds c = in_first_rounds _ _ _ _ _ c.args.line.now c.take_rounds.result c.in-FirstRounds.is c.take_rounds.ensures

pub returns-in-SecondRounds : goal.returns-in-SecondRounds
returns-in-SecondRounds c = in_second_rounds _ _ _ _ _ c.args.line.now c.take_rounds-in-SecondRounds.result c.in-SecondRounds.is
    c.take_rounds-in-SecondRounds.ensures
