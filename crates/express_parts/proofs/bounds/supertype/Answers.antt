use Rattle.std.proofs.Common.{ap, ◌∙◌, subst, List}
use Rattle.express_syntax.specs.Words.{Word, words_of}
use Rattle.express_syntax.specs.WrittenSchemas.{words_of_expression}
use Rattle.express_syntax.specs.Profile.{IsSupertypeText}
use Rattle.express_syntax.specs.Views.{run_of, supertype_of}
use Rattle.express_parts.proofs.BoundSteps.{supertype_known, supertype_other, IsKnown}
use Rattle.express_parts.proofs.bounds.supertype.Goals as goal

pub returns-in-Some-clause-read : goal.returns-in-Some-clause-read
returns-in-Some-clause-read c =
    let k = subst (IsKnown (words_of c.deref.result.now)) c.in-Some.is c.in_ok-known.ensures.known in
    rw (← c.reader.view_is) (supertype_known c.next_run.new.buffer.lexemes.items (run_of c.in_ok-tokens.tokens)
    (supertype_of c.in-Some.supertype) c.reader.inside.lexer c.next_run.new.lexer c.in_ok-tokens.ensures.read k.0
    (k.1 ∙ ap (λ ls. words_of_expression (words_of ls)) c.deref.ensures.value))

pub returns-clause-read : goal.returns-clause-read
returns-clause-read c =
    let k = subst (IsKnown (words_of c.deref.result.now)) c.in_default.is c.in_ok-known.ensures.known in
    let P : List Word → Type 0 = λ l. IsSupertypeText l → ⊥ in
    rw (← c.reader.view_is) (supertype_other c.next_run.new.buffer.lexemes.items (run_of c.in_ok-tokens.tokens)
    c.reader.inside.lexer c.next_run.new.lexer c.in_ok-tokens.ensures.read (subst P (ap words_of c.deref.ensures.value)
    k))

pub returns-clause-text : goal.returns-clause-text
returns-clause-text c = rw (← c.reader.view_is) c.in_ok-tokens.ensures.text

pub returns-in-Some-clause-text : goal.returns-in-Some-clause-text
returns-in-Some-clause-text c = rw c.in-Some.is at (c.in_ok-known.ensures.text c.args.reader.now.text)
