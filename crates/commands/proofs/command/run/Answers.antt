use Rattle.std.proofs.Common.{IfSome, inl, inr, refl, subst, sym}
use Rattle.commands.specs.steps.ComputedRequests.{IsWritten}
use Rattle.commands.specs.Plain.{FailsAs, Plain}
use Rattle.commands.proofs.Keeping.{done_as}
use Rattle.commands.proofs.Opening.{opens_none, request_opens}
use Rattle.commands.proofs.command.run.Goals as goal

pub returns-in-Plain-clause-does : goal.returns-in-Plain-clause-does
returns-in-Plain-clause-does g c = done_as _ _ _ _ _ _ (sym c.in-Plain.is) (record {
  outcome = c.plain.result;
  plain = subst (λ coming. Plain coming (g.O.Sink.held c.args.out.now) (g.O.Sink.held c.plain.new.out) c.plain.result)
      c.reader-source.ensures.contents c.plain.ensures.plain;
  file_fails = subst (λ told. IfSome told (FailsAs c.plain.result)) c.reader-source.ensures.fails c.plain.ensures.told;
  output_fails = c.plain.ensures.output_fault;
  ends = c.finish.ensures.ends;
})

pub returns-in-Check-clause-does : goal.returns-in-Check-clause-does
returns-in-Check-clause-does g c =
    done_as _ _ _ _ _ _ (sym c.in-Check.is) c.check_asked.ensures.checks

pub returns-in-Presets-clause-does : goal.returns-in-Presets-clause-does
returns-in-Presets-clause-does g c =
    done_as _ _ _ _ _ _ (sym c.in-Presets.is) (inl (c.tell_presets.ensures, refl))

pub returns-in-Shrink-clause-does : goal.returns-in-Shrink-clause-does
returns-in-Shrink-clause-does g c =
    done_as _ _ _ _ _ _ (sym c.in-Shrink.is) c.shrink_asked.ensures.makes

pub returns-in-Verify-clause-does : goal.returns-in-Verify-clause-does
returns-in-Verify-clause-does g c =
    done_as _ _ _ _ _ _ (sym c.in-Verify.is) c.verify_asked.ensures.verifies

pub returns-in-Plain-clause-kept : goal.returns-in-Plain-clause-kept
returns-in-Plain-clause-kept g c path apart = c.reader-source.ensures.kept path

pub returns-in-Check-clause-kept : goal.returns-in-Check-clause-kept
returns-in-Check-clause-kept g c path apart = c.check_asked.ensures.kept path

pub returns-in-Verify-clause-kept : goal.returns-in-Verify-clause-kept
returns-in-Verify-clause-kept g c path apart = c.verify_asked.ensures.kept path

pub returns-in-Shrink-clause-kept : goal.returns-in-Shrink-clause-kept
returns-in-Shrink-clause-kept g c path apart =
    let other = subst (λ request. IsWritten request path → ⊥) c.in-Shrink.is apart in
    c.shrink_asked.ensures.kept path (λ same. other (inl same)) (λ same. other (inr same))

pub returns-in-Plain-clause-opened : goal.returns-in-Plain-clause-opened
returns-in-Plain-clause-opened g c = request_opens _ _ _ _ _ _ (sym c.in-Plain.is) (inl c.reader-source.ensures.opened)

pub returns-in-Check-clause-opened : goal.returns-in-Check-clause-opened
returns-in-Check-clause-opened g c = request_opens _ _ _ _ _ _ (sym c.in-Check.is) c.check_asked.ensures.opened

pub returns-in-Presets-clause-opened : goal.returns-in-Presets-clause-opened
returns-in-Presets-clause-opened g c = request_opens _ _ _ _ _ _ (sym c.in-Presets.is) (inl (opens_none _))

pub returns-in-Shrink-clause-opened : goal.returns-in-Shrink-clause-opened
returns-in-Shrink-clause-opened g c = request_opens _ _ _ _ _ _ (sym c.in-Shrink.is) c.shrink_asked.ensures.opened

pub returns-in-Verify-clause-opened : goal.returns-in-Verify-clause-opened
returns-in-Verify-clause-opened g c = request_opens _ _ _ _ _ _ (sym c.in-Verify.is) c.verify_asked.ensures.opened
