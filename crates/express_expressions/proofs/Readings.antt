-- What is read, and what is read of it further on.
use Rattle.std.proofs.Common.{◌≡◌, ℕ, List, Result, Ok, Err, sym, ◌∙◌, subst}
use Rattle.std.specs.Global.{Box}
use Rattle.express_syntax.specs.declared.lexeme.Lexeme.{Lexeme}
use Rattle.express_syntax.specs.declared.expression.Expr.{Expr}
use Rattle.express_syntax.specs.Words.{Word}
use Rattle.express_syntax.specs.Trees.{Tree}
use Rattle.express_expressions.specs.declared.refusals.NotRead.{NotRead}
use Rattle.express_expressions.specs.declared.refusals.NotRead.TheVariants as failures
use Rattle.express_expressions.specs.steps.Pieces.{words_from, boxed_tree, Unless, MatchRead, Builds}

pub failed : {n m : Type 0} (e : NotRead) → (n → m) → Unless e n → Unless e m
failed failures.NoExpression f h = f h
failed failures.Memory f h = tt

pub reading_map : {X n m : Type 0} {p q : X → Type 0} (r : Result X NotRead) → (n → m) → ((x : X) → p x → q x)
    → MatchRead r n p → MatchRead r m q
reading_map (Ok x) f g h = g x h
reading_map (Err e) f g h = failed e f h

-- a tree that is put on the heap is the one that stands there
pub built : (n : Type 0) (q : Tree → List Word → Type 0) (lexemes : List Lexeme) (t u : Tree) (end : ℕ)
    (r : Result (Box Expr × ℕ) NotRead) → t ≡ u → Builds t end r → q u (words_from end lexemes)
    → MatchRead r n (λ p. q (boxed_tree p.0) (words_from p.1 lexemes))
built n q lexemes t u end (Ok p) e h k = subst (λ i. q (boxed_tree p.0) (words_from i lexemes)) (sym h.1)
    (subst (λ x. q x (words_from end lexemes)) (sym (h.0 ∙ e)) k)
built n q lexemes t u end (Err failures.NoExpression) e h k = cc
built n q lexemes t u end (Err failures.Memory) e h k = tt

pub built_same : (t u : Tree) (end : ℕ) (r : Result (Box Expr × ℕ) NotRead) → t ≡ u → Builds t end r → Builds u end r
built_same t u end r e h = subst (λ x. Builds x end r) e h
