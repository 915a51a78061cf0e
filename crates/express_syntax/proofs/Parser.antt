-- A parser as a function: uniqueness follows, since it gives back each tree from its words. Its steps are counted
-- by the words: no call goes deeper than these.
use Rattle.std.proofs.Common.{ℕ, zero, suc, List, [], ◌∷◌, Option, None, Some}
use Rattle.express_lexer.specs.declared.marks.Mark.TheVariants as marks
use Rattle.express_syntax.specs.declared.keyword.Keyword.TheVariants as keywords
use Rattle.express_syntax.specs.declared.expression.Relation.{Relation}
use Rattle.express_syntax.specs.declared.expression.Relation.TheVariants as relations
use Rattle.express_syntax.specs.declared.expression.Limit.{Limit}
use Rattle.express_syntax.specs.declared.expression.Limit.TheVariants as limits
use Rattle.express_syntax.specs.declared.expression.Junction.{Junction}
use Rattle.express_syntax.specs.declared.expression.Junction.TheVariants as junctions
use Rattle.express_syntax.specs.Words.{Word, keyword, name, integer, real, mark}
use Rattle.express_syntax.specs.Trees.{Number, whole, decimal, Tree, literal, signed, reference, parenthesized, aggregate, interval, query, call, nvl, negation, comparison, Trees, none, one, Alternatives, finish, another, Qualifiers, plain, attribute, group, index}
use Rattle.express_syntax.specs.Grammar.{Level, primary, unary, term, simple, expression}
use Rattle.express_syntax.proofs.Standing.{First, value, root, parenthesis, bracket, brace, querying, calling, choosing, denying, signing, other, first_of, conjunction_of, disjunction_of}

abbrev pub bind : {A B : Type 0} → Option A → (A → Option B) → Option B
bind None k = None
bind (Some a) k = k a

abbrev pub orelse : {A : Type 0} → Option A → Option A → Option A
orelse None b = b
orelse (Some a) b = Some a

-- what is behind this mark
abbrev pub past_open : List Word → Option (List Word)
past_open (mark marks.Open ∷ ws) = Some ws
past_open _ = None

abbrev pub past_close : List Word → Option (List Word)
past_close (mark marks.Close ∷ ws) = Some ws
past_close _ = None

abbrev pub past_close_bracket : List Word → Option (List Word)
past_close_bracket (mark marks.CloseBracket ∷ ws) = Some ws
past_close_bracket _ = None

abbrev pub past_close_brace : List Word → Option (List Word)
past_close_brace (mark marks.CloseBrace ∷ ws) = Some ws
past_close_brace _ = None

abbrev pub past_comma : List Word → Option (List Word)
past_comma (mark marks.Comma ∷ ws) = Some ws
past_comma _ = None

abbrev pub past_bar : List Word → Option (List Word)
past_bar (mark marks.Bar ∷ ws) = Some ws
past_bar _ = None

abbrev pub past_query_source : List Word → Option (List Word)
past_query_source (mark marks.QuerySource ∷ ws) = Some ws
past_query_source _ = None

abbrev pub past_dot : List Word → Option (List Word)
past_dot (mark marks.Dot ∷ ws) = Some ws
past_dot _ = None

-- and this word, with what it says
abbrev pub past_name : List Word → Option (List ℕ × List Word)
past_name (name n ∷ ws) = Some (n, ws)
past_name _ = None

abbrev pub past_number : List Word → Option (Number × List Word)
past_number (integer t ∷ ws) = Some (whole t, ws)
past_number (real t ∷ ws) = Some (decimal t, ws)
past_number _ = None

abbrev pub past_limit : List Word → Option (Limit × List Word)
past_limit (mark marks.Less ∷ ws) = Some (limits.Less, ws)
past_limit (mark marks.LessOrEqual ∷ ws) = Some (limits.LessOrEqual, ws)
past_limit _ = None

abbrev pub relation_of : Word → Option Relation
relation_of (mark marks.Equal) = Some relations.Equal
relation_of (mark marks.NotEqual) = Some relations.NotEqual
relation_of (mark marks.Less) = Some relations.Less
relation_of (mark marks.Greater) = Some relations.Greater
relation_of (mark marks.LessOrEqual) = Some relations.LessOrEqual
relation_of (mark marks.GreaterOrEqual) = Some relations.GreaterOrEqual
relation_of (keyword keywords.In) = Some relations.In
relation_of _ = None

abbrev pub junction_of : Word → Option Junction
junction_of (keyword keywords.Or) = Some junctions.Or
junction_of (keyword keywords.Xor) = Some junctions.Xor
junction_of _ = None

-- how many steps deeper can be read
pub record Parser : Type 0 where
  pub at : Level → List Word → Option (Tree × List Word)
  pub conjuncts : List Word → Option (Trees × List Word)
  pub alternatives : List Word → Option (Alternatives × List Word)
  pub qualifiers : List Word → Option (Qualifiers × List Word)
  -- behind an element, with the closing bracket
  pub more : List Word → Option (Trees × List Word)

abbrev pub more_by : Parser → List Word → Option (Trees × List Word)
more_by p (mark marks.CloseBracket ∷ ws) = Some (none, ws)
more_by p (mark marks.Comma ∷ ws) = bind (p.at expression ws) (λ a. bind (p.more a.1) (λ b. Some (one a.0 b.0, b.1)))
more_by p _ = None

abbrev pub elements_by : Parser → List Word → Option (Trees × List Word)
elements_by p ws = orelse (bind (p.at expression ws) (λ a. bind (p.more a.1) (λ b. Some (one a.0 b.0, b.1))))
    (bind (past_close_bracket ws) (λ vs. Some (none, vs)))

abbrev pub qualifiers_by : Parser → List Word → Option (Qualifiers × List Word)
qualifiers_by p (mark marks.Dot ∷ ws) = bind (past_name ws)
    (λ a. bind (p.qualifiers a.1) (λ b. Some (attribute a.0 b.0, b.1)))
qualifiers_by p (mark marks.Backslash ∷ ws) =
    bind (past_name ws) (λ e. bind (past_dot e.1)
    (λ vs. bind (past_name vs) (λ a. bind (p.qualifiers a.1) (λ b. Some (group e.0 a.0 b.0, b.1)))))
qualifiers_by p (mark marks.OpenBracket ∷ ws) = bind (p.at simple ws)
    (λ a. bind (past_close_bracket a.1) (λ vs. bind (p.qualifiers vs) (λ b. Some (index a.0 b.0, b.1))))
qualifiers_by p ws = Some (plain, ws)

abbrev pub interval_by : Parser → List Word → Option (Tree × List Word)
interval_by p ws = bind (p.at simple ws)
    (λ a. bind (past_limit a.1) (λ l. bind (p.at simple l.1)
    (λ b. bind (past_limit b.1) (λ h. bind (p.at simple h.1)
    (λ c. bind (past_close_brace c.1) (λ vs. Some (interval a.0 l.0 b.0 h.0 c.0, vs)))))))

abbrev pub query_by : Parser → List Word → Option (Tree × List Word)
query_by p ws = bind (past_open ws) (λ vs. bind (past_name vs)
    (λ v. bind (past_query_source v.1) (λ us. bind (p.at simple us)
    (λ a. bind (past_bar a.1) (λ ts. bind (p.at expression ts)
    (λ b. bind (past_close b.1) (λ rs. Some (query v.0 a.0 b.0, rs))))))))

abbrev pub primary_from : Parser → First → List Word → Option (Tree × List Word)
primary_from p (value l) ws = Some (literal l, ws)
primary_from p (root r) ws = bind (qualifiers_by p ws) (λ a. Some (reference r a.0, a.1))
primary_from p parenthesis ws = bind (p.at expression ws)
    (λ a. bind (past_close a.1) (λ vs. Some (parenthesized a.0, vs)))
primary_from p bracket ws = bind (elements_by p ws) (λ a. Some (aggregate a.0, a.1))
primary_from p brace ws = interval_by p ws
primary_from p querying ws = query_by p ws
primary_from p (calling f) ws = bind (past_open ws)
    (λ vs. bind (p.at expression vs) (λ a. bind (past_close a.1) (λ us. Some (call f a.0, us))))
primary_from p choosing ws = bind (past_open ws)
    (λ vs. bind (p.at expression vs) (λ a. bind (past_comma a.1)
    (λ us. bind (p.at expression us) (λ b. bind (past_close b.1) (λ ts. Some (nvl a.0 b.0, ts))))))
primary_from p denying ws = None
primary_from p (signing s) ws = None
primary_from p other ws = None

abbrev pub primary_by : Parser → List Word → Option (Tree × List Word)
primary_by p [] = None
primary_by p (w ∷ ws) = primary_from p (first_of w) ws

abbrev pub unary_from : Parser → First → List Word → Option (Tree × List Word)
unary_from p denying ws = bind (p.at primary ws) (λ a. Some (negation a.0, a.1))
unary_from p (signing s) ws = bind (past_number ws) (λ a. Some (signed s a.0, a.1))
unary_from p f ws = primary_from p f ws

abbrev pub unary_by : Parser → List Word → Option (Tree × List Word)
unary_by p [] = None
unary_by p (w ∷ ws) = unary_from p (first_of w) ws

abbrev pub conjuncts_by : Parser → List Word → Option (Trees × List Word)
conjuncts_by p (keyword keywords.And ∷ ws) = bind (p.at unary ws)
    (λ a. bind (p.conjuncts a.1) (λ b. Some (one a.0 b.0, b.1)))
conjuncts_by p ws = Some (none, ws)

abbrev pub term_by : Parser → List Word → Option (Tree × List Word)
term_by p ws = bind (unary_by p ws) (λ a. bind (conjuncts_by p a.1) (λ b. Some (conjunction_of a.0 b.0, b.1)))

abbrev pub alternatives_from : Parser → Option Junction → Word → List Word → Option (Alternatives × List Word)
alternatives_from p None w ws = Some (finish, w ∷ ws)
alternatives_from p (Some j) w ws = bind (p.at term ws)
    (λ a. bind (p.alternatives a.1) (λ b. Some (another j a.0 b.0, b.1)))

abbrev pub alternatives_by : Parser → List Word → Option (Alternatives × List Word)
alternatives_by p [] = Some (finish, [])
alternatives_by p (w ∷ ws) = alternatives_from p (junction_of w) w ws

abbrev pub simple_by : Parser → List Word → Option (Tree × List Word)
simple_by p ws = bind (term_by p ws) (λ a. bind (alternatives_by p a.1) (λ b. Some (disjunction_of a.0 b.0, b.1)))

abbrev pub comparison_from : Parser → Tree → Option Relation → Word → List Word → Option (Tree × List Word)
comparison_from p x None w ws = Some (x, w ∷ ws)
comparison_from p x (Some r) w ws = bind (p.at simple ws) (λ a. Some (comparison x r a.0, a.1))

abbrev pub comparison_by : Parser → Tree → List Word → Option (Tree × List Word)
comparison_by p x [] = Some (x, [])
comparison_by p x (w ∷ ws) = comparison_from p x (relation_of w) w ws

abbrev pub expression_by : Parser → List Word → Option (Tree × List Word)
expression_by p ws = bind (simple_by p ws) (λ a. comparison_by p a.0 a.1)

abbrev pub at_by : Parser → Level → List Word → Option (Tree × List Word)
at_by p primary ws = primary_by p ws
at_by p unary ws = unary_by p ws
at_by p term ws = term_by p ws
at_by p simple ws = simple_by p ws
at_by p expression ws = expression_by p ws

abbrev pub parser : ℕ → Parser
parser zero = record {
  at = λ l ws. None;
  conjuncts = λ ws. None;
  alternatives = λ ws. None;
  qualifiers = λ ws. None;
  more = λ ws. None;
}
parser (suc f) = record {
  at = at_by (parser f);
  conjuncts = conjuncts_by (parser f);
  alternatives = alternatives_by (parser f);
  qualifiers = qualifiers_by (parser f);
  more = more_by (parser f);
}
