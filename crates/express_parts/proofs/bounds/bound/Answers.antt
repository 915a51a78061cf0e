use Rattle.std.proofs.Common.{ap, ◌∙◌, subst, List}
use Rattle.express_syntax.specs.Words.{Word, words_of}
use Rattle.express_syntax.specs.Profile.{IsBoundText}
use Rattle.express_syntax.specs.Views.{run_of, bound_of}
use Rattle.express_token_runs.specs.steps.OpenRuns.{part_of, may_of}
use Rattle.express_parts.proofs.BoundSteps.{bound_known, bound_other}
use Rattle.express_parts.proofs.bounds.bound.Goals as goal

pub returns-in-Some-clause-read : goal.returns-in-Some-clause-read
returns-in-Some-clause-read c =
    rw (← c.reader.view_is) (bound_known (part_of c.args.part) c.args.around c.next_run.new.buffer.lexemes.items
    (run_of c.in_ok-tokens.tokens) (bound_of c.in-Some.bound) c.reader.inside.lexer c.next_run.new.lexer
    c.in_ok-tokens.ensures.read
    (c.in-Some.ensures.known.0 ∙ ap words_of c.deref.ensures.value)
    (c.in-Some.ensures.known.1 (may_of (part_of c.args.part))
    c.args.around))

pub returns-clause-read : goal.returns-clause-read
returns-clause-read c =
    let P : List Word → Type 0 = λ l. IsBoundText l → ⊥ in
    rw (← c.reader.view_is, c.in_ok-boxed.ensures.ok) (bound_other (part_of c.args.part) c.args.around c.next_run.new.buffer.lexemes.items
    (run_of c.in_ok-tokens.tokens) c.reader.inside.lexer c.next_run.new.lexer c.in_ok-tokens.ensures.read
    (subst P (ap words_of c.deref.ensures.value) c.in_default.ensures.known))

pub returns-clause-text : goal.returns-clause-text
returns-clause-text c = rw (← c.reader.view_is, c.in_ok-boxed.ensures.ok) c.in_ok-tokens.ensures.text

pub returns-in-Some-clause-text : goal.returns-in-Some-clause-text
returns-in-Some-clause-text c = c.in-Some.ensures.text _
