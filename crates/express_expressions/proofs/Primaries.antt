-- Primaries by their first word.
use Rattle.std.proofs.Common.{◌≡◌, ℕ, ◌+◌, ◌<◌, ◌≤◌, inl, inr, List, [], ◌∷◌, ◌++◌, None, Some, refl, sym, ap, ◌∙◌, subst, append_assoc, arith}
use Rattle.express_lexer.specs.declared.marks.Mark.TheVariants as marks
use Rattle.express_syntax.specs.declared.keyword.Keyword.TheVariants as keywords
use Rattle.express_syntax.specs.declared.expression.Logical.TheVariants as logicals
use Rattle.express_syntax.specs.declared.expression.Limit.{Limit}
use Rattle.express_syntax.specs.declared.expression.Sign.{Sign}
use Rattle.express_syntax.specs.declared.expression.Sign.TheVariants as signs
use Rattle.express_syntax.specs.declared.expression.Function.{Function}
use Rattle.express_syntax.specs.declared.expression.Function.TheVariants as functions
use Rattle.express_syntax.specs.Words.{Word, keyword, name, mark}
use Rattle.express_syntax.specs.Trees.{Number, whole, decimal, Literal, number, text, codes_of_text, bits, constant, indeterminate, Root, own, named, Tree, literal, signed, reference, parenthesized, aggregate, interval, query, call, nvl, negation, conjunction, disjunction, comparison, Trees, Qualifiers, words, words_of_trees, words_of_qualifiers, word_of_number, word_of_sign, word_of_literal, word_of_limit, word_of_function, word_of_root}
use Rattle.express_syntax.specs.Grammar.{Level, primary, unary, simple, expression, depth_limit, FitsLevel}
use Rattle.express_syntax.specs.steps.Reads.{Stops, Stands, StandsNone}
use Rattle.express_expressions.specs.steps.Pieces.{Lacks, Before, BeforeNone, BoundNone, Elements, ElementsNone, Selects, SelectsNone, VariableNone, Beginning, value, parenthesis, bracket, brace, querying, calling, either, referring, beginning_word, beginning_of, NoBeginning, Heads}
use Rattle.express_syntax.proofs.Stopping.{stops_primary, limit_behind}
use Rattle.express_syntax.proofs.UniqueExpressions.{one_elements, one_qualifiers}
use Rattle.express_expressions.proofs.Parts.{stands_same, stands_along, primary_stops, unary_parts}
use Rattle.express_expressions.proofs.Chains.{before_same, before_along}

-- the parts of an interval, behind its brace
pub record Bounds (n : ℕ) (ws rest : List Word) : Type 0 where
  pub low : Tree
  pub above : Limit
  pub second : List Word
  pub item : Tree
  pub below : Limit
  pub third : List Word
  pub high : Tree
  pub low_stands : Before n simple (word_of_limit above) ws low second
  pub item_stands : Before n simple (word_of_limit below) second item third
  pub high_stands : Before n simple (mark marks.CloseBrace) third high rest

-- the parts of a query, behind its first word
pub record Queried (n : ℕ) (ws rest : List Word) : Type 0 where
  pub variable : List ℕ
  pub first : List Word
  pub source : Tree
  pub second : List Word
  pub condition : Tree
  pub begun : ws ≡ mark marks.Open ∷ name variable ∷ mark marks.QuerySource ∷ first
  pub source_stands : Before n simple (mark marks.Bar) first source second
  pub condition_stands : Before n expression (mark marks.Close) second condition rest

-- the argument of a function
pub record Called (n : ℕ) (ws rest : List Word) : Type 0 where
  pub first : List Word
  pub argument : Tree
  pub begun : ws ≡ mark marks.Open ∷ first
  pub argument_stands : Before n expression (mark marks.Close) first argument rest

-- the arguments of NVL
pub record Substituted (n : ℕ) (ws rest : List Word) : Type 0 where
  pub first : List Word
  pub item : Tree
  pub second : List Word
  pub substitute : Tree
  pub begun : ws ≡ mark marks.Open ∷ first
  pub item_stands : Before n expression (mark marks.Comma) first item second
  pub substitute_stands : Before n expression (mark marks.Close) second substitute rest

-- what stands between the first word of a primary and what is behind it
abbrev pub Shape : ℕ → Beginning → List Word → List Word → Type 0
Shape n (value v) ws rest = ws ≡ rest
Shape n parenthesis ws rest = (x : Tree) × Before n expression (mark marks.Close) ws x rest
Shape n bracket ws rest = (xs : Trees) × Elements n ws xs rest
Shape n brace ws rest = Bounds n ws rest
Shape n querying ws rest = Queried n ws rest
Shape n (calling f) ws rest = Called n ws rest
Shape n either ws rest = Substituted n ws rest
Shape n (referring r) ws rest = (qs : Qualifiers) × Selects n ws qs rest

record Shaped (n : ℕ) (ws rest : List Word) : Type 0 where
  beginning : Beginning
  more : List Word
  begun : ws ≡ beginning_word beginning ∷ more
  shape : Shape n beginning more rest

-- a tree, a word that ends it, and more behind it
enclosed : (n : ℕ) (l : Level) (x : Tree) (w : Word) (more rest : List Word) → n < depth_limit → FitsLevel (n + 1) l x
    → Stops l (w ∷ more) → Before n l w (words x ++ w ∷ more) x more
enclosed n l x w more rest d f s = record { shallow = d; stands = record { fits = f; spelled = refl; whole = s } }

shaped : (n : ℕ) (ws : List Word) (y : Tree) (rest : List Word) → Stands n primary ws y rest → Shaped n ws rest
shaped n ws (literal v) rest h = record { beginning = value v; more = rest; begun = h.spelled; shape = refl }
shaped n ws (signed s v) rest h = absurd (omega (arith, h.fits))
shaped n ws (reference r qs) rest h = record {
  beginning = referring r;
  more = words_of_qualifiers qs ++ rest;
  begun = h.spelled;
  shape = (
    qs,
    record {
      fits = h.fits;
      spelled = refl;
      whole = h.whole;
    },
  );
}
shaped n ws (parenthesized x) rest h = record {
  beginning = parenthesis;
  more = words x ++ mark marks.Close ∷ rest;
  begun = h.spelled ∙ ap (λ t. mark marks.Open ∷ t) (append_assoc (words x) (mark marks.Close ∷ []) rest);
  shape = (x, enclosed n expression x (mark marks.Close) rest rest h.fits.0 h.fits.1 refl);
}
shaped n ws (aggregate xs) rest h = record {
  beginning = bracket;
  more = words_of_trees xs ++ mark marks.CloseBracket ∷ rest;
  begun = h.spelled ∙ ap (λ t. mark marks.OpenBracket ∷ t) (append_assoc (words_of_trees xs) (mark marks.CloseBracket
      ∷ []) rest);
  shape = (xs, record { shallow = h.fits.0; fits = h.fits.1; spelled = refl });
}
shaped n ws (interval low above x below high) rest h = record {
  beginning = brace;
  more = words low ++ word_of_limit above
      ∷ (words x ++ word_of_limit below ∷ (words high ++ mark marks.CloseBrace ∷ rest));
  begun = h.spelled ∙ ap (λ t. mark marks.OpenBrace ∷ t) (simp append_assoc);
  shape = record {
    low = low;
    above = above;
    second = words x ++ word_of_limit below ∷ (words high ++ mark marks.CloseBrace ∷ rest);
    item = x;
    below = below;
    third = words high ++ mark marks.CloseBrace ∷ rest;
    high = high;
    low_stands = enclosed n simple low (word_of_limit above) _ rest h.fits.0 h.fits.1 (limit_behind above);
    item_stands = enclosed n simple x (word_of_limit below) _ rest h.fits.0 h.fits.2 (limit_behind below);
    high_stands = enclosed n simple high (mark marks.CloseBrace) rest rest h.fits.0 h.fits.3 refl;
  };
}
shaped n ws (query v source condition) rest h = record {
  beginning = querying;
  more = mark marks.Open ∷ name v ∷ mark marks.QuerySource
      ∷ (words source ++ mark marks.Bar ∷ (words condition ++ mark marks.Close ∷ rest));
  begun = h.spelled ∙ ap (λ t. keyword keywords.Query ∷ mark marks.Open ∷ name v ∷ mark marks.QuerySource ∷ t)
      (simp append_assoc);
  shape = record {
    variable = v;
    first = words source ++ mark marks.Bar ∷ (words condition ++ mark marks.Close ∷ rest);
    source = source;
    second = words condition ++ mark marks.Close ∷ rest;
    condition = condition;
    begun = refl;
    source_stands = enclosed n simple source (mark marks.Bar) _ rest h.fits.0 h.fits.1 refl;
    condition_stands = enclosed n expression condition (mark marks.Close) rest rest h.fits.0 h.fits.2 refl;
  };
}
shaped n ws (call f x) rest h = record {
  beginning = calling f;
  more = mark marks.Open ∷ (words x ++ mark marks.Close ∷ rest);
  begun = h.spelled ∙ ap (λ t. word_of_function f ∷ mark marks.Open ∷ t) (append_assoc (words x) (mark marks.Close ∷ [])
      rest);
  shape = record {
    first = words x ++ mark marks.Close ∷ rest;
    argument = x;
    begun = refl;
    argument_stands = enclosed n expression x (mark marks.Close) rest rest h.fits.0 h.fits.1 refl;
  };
}
shaped n ws (nvl x y) rest h = record {
  beginning = either;
  more = mark marks.Open ∷ (words x ++ mark marks.Comma ∷ (words y ++ mark marks.Close ∷ rest));
  begun = h.spelled ∙ ap (λ t. keyword keywords.Nvl ∷ mark marks.Open ∷ t) (simp append_assoc);
  shape = record {
    first = words x ++ mark marks.Comma ∷ (words y ++ mark marks.Close ∷ rest);
    item = x;
    second = words y ++ mark marks.Close ∷ rest;
    substitute = y;
    begun = refl;
    item_stands = enclosed n expression x (mark marks.Comma) _ rest h.fits.0 h.fits.1 refl;
    substitute_stands = enclosed n expression y (mark marks.Close) rest rest h.fits.0 h.fits.2 refl;
  };
}
shaped n ws (negation x) rest h = absurd (omega (arith, h.fits.0))
shaped n ws (conjunction x xs) rest h = absurd (omega (arith, h.fits.0))
shaped n ws (disjunction x xs) rest h = absurd (omega (arith, h.fits.0))
shaped n ws (comparison x r y) rest h = absurd (omega (arith, h.fits.0))

-- a beginning is known by its word
begins_so : (b : Beginning) → beginning_of (beginning_word b) ≡ Some b
begins_so (value (number (whole t))) = refl
begins_so (value (number (decimal t))) = refl
begins_so (value (text t)) = refl
begins_so (value (codes_of_text t)) = refl
begins_so (value (bits t)) = refl
begins_so (value (constant logicals.False)) = refl
begins_so (value (constant logicals.Unknown)) = refl
begins_so (value (constant logicals.True)) = refl
begins_so (value indeterminate) = refl
begins_so parenthesis = refl
begins_so bracket = refl
begins_so brace = refl
begins_so querying = refl
begins_so (calling functions.Exists) = refl
begins_so (calling functions.Sizeof) = refl
begins_so (calling functions.Hiindex) = refl
begins_so (calling functions.Loindex) = refl
begins_so (calling functions.Typeof) = refl
begins_so either = refl
begins_so (referring own) = refl
begins_so (referring (named t)) = refl

same_beginning : (a b : Beginning) → beginning_word a ≡ beginning_word b → a ≡ b
same_beginning a b e = let i = begins_so a in let j = begins_so b in let k = ap beginning_of e in cc

pub shape_of : (n : ℕ) (b : Beginning) (ws : List Word) (y : Tree) (rest : List Word)
    → Stands n primary (beginning_word b ∷ ws) y rest → Shape n b ws rest
shape_of n b ws y rest h =
    let s = shaped n (beginning_word b ∷ ws) y rest h in
    let w : beginning_word b ≡ beginning_word s.beginning = (let e = s.begun in cc) in
    let m : s.more ≡ ws = (let e = s.begun in cc) in
    let i : s.beginning ≡ b = sym (same_beginning b s.beginning w) in
    subst (λ t. Shape n b t rest) m (subst (λ a. Shape n a s.more rest) i s.shape)

pub primary_none : (n : ℕ) (ws : List Word) → NoBeginning ws → StandsNone n primary ws
primary_none n ws f y rest h = let s = shaped n ws y rest h in f s.beginning s.more s.begun

-- no primary begins with NOT or a sign
pub not_begins : (n : ℕ) (ws more : List Word) (y : Tree) (rest : List Word) → ws ≡ keyword keywords.Not ∷ more
    → Stands n primary ws y rest → ⊥
not_begins n ws more y rest e h =
    let s = shaped n ws y rest h in
    let w : beginning_word s.beginning ≡ keyword keywords.Not = (let i = s.begun in cc) in
    let i = begins_so s.beginning in
    let k : beginning_of (beginning_word s.beginning) ≡ None = ap beginning_of w in
    cc

sign_begins_none : (s : Sign) → beginning_of (word_of_sign s) ≡ None
sign_begins_none signs.Plus = refl
sign_begins_none signs.Minus = refl

sign_begins : (n : ℕ) (ws more : List Word) (s : Sign) (y : Tree) (rest : List Word) → ws ≡ word_of_sign s ∷ more
    → Stands n primary ws y rest → ⊥
sign_begins n ws more s y rest e h =
    let p = shaped n ws y rest h in
    let w : beginning_word p.beginning ≡ word_of_sign s = (let i = p.begun in cc) in
    let i = begins_so p.beginning in
    let k : beginning_of (beginning_word p.beginning) ≡ None = ap beginning_of w ∙ sign_begins_none s in
    cc

not_sign : (s : Sign) (ws more rest : List Word) → ws ≡ word_of_sign s ∷ more → ws ≡ keyword keywords.Not ∷ rest → ⊥
not_sign signs.Plus ws more rest e f = cc
not_sign signs.Minus ws more rest e f = cc

pub negation_none : (n : ℕ) (ws more : List Word) → ws ≡ keyword keywords.Not ∷ more → StandsNone n primary more
    → StandsNone n unary ws
negation_none n ws more e f y rest h =
    elim (unary_parts n ws y rest h) [
      | inl a ↦ not_begins n ws more y rest e a
      | inr b ↦ elim b [
        | inl i ↦ (let m : i.more ≡ more = (let j = i.spelled in cc) in f i.inner rest (stands_along m i.inner_stands))
        | inr i ↦ not_sign i.sign ws _ more i.spelled e
      ]
    ]

pub signed_none : (n : ℕ) (s : Sign) (more : List Word) → ((v : Number) → Lacks (word_of_number v) more)
    → StandsNone n unary (word_of_sign s ∷ more)
signed_none n s more f y rest h =
    elim (unary_parts n (word_of_sign s ∷ more) y rest h) [
      | inl a ↦ sign_begins n (word_of_sign s ∷ more) more s y rest
          refl a
      | inr b ↦ elim b [
        | inl i ↦ not_sign s (word_of_sign s ∷ more) more i.more refl i.spelled
        | inr i ↦
            (let e : more ≡ word_of_number i.value ∷ rest = (let j = i.spelled in cc) in f i.value rest e)
      ]
    ]

pub signed_cut : (n : ℕ) (s : Sign) (more : List Word) (v : Number) (rest : List Word) → more ≡ word_of_number v ∷ rest
    → (Stops primary rest → ⊥) → StandsNone n unary (word_of_sign s ∷ more)
signed_cut n s more v rest e f y end h =
    elim (unary_parts n (word_of_sign s ∷ more) y end h) [
      | inl a ↦ sign_begins n (word_of_sign s ∷ more) more s y end
          refl a
      | inr b ↦ elim b [
        | inl i ↦ not_sign s (word_of_sign s ∷ more) more i.more refl i.spelled
        | inr i ↦
            (let m : end ≡ rest = (let j = i.spelled in cc) in
            f (stops_primary rest (let P : List Word → Type 0 = Stops unary in subst P m i.whole)))
      ]
    ]

pub signed_done : (n : ℕ) (s : Sign) (more : List Word) (v : Number) (rest : List Word) → more ≡ word_of_number v ∷ rest
    → Stops primary rest → Stands n unary (word_of_sign s ∷ more) (signed s v) rest
signed_done n s more v rest e h = record {
  fits = omega arith;
  spelled = ap (λ t. word_of_sign s ∷ t) e;
  whole = primary_stops rest h;
}

pub before_lacks : (n : ℕ) (l : Level) (w : Word) (ws : List Word) (x : Tree) (middle : List Word)
    → Stands (n + 1) l ws x middle → Lacks w middle → BeforeNone n l w ws
before_lacks n l w ws x middle a f y rest h = f rest (stands_same a h.stands).1

-- the kinds
pub literal_heads : (n : ℕ) (v : Literal) (ws : List Word) → Heads n (word_of_literal v ∷ ws) (literal v) ws
literal_heads n v ws = record { fits = tt; spelled = refl; alone = λ y s h. shape_of n (value v) ws y s h }

pub parenthesized_none : (n : ℕ) (ws : List Word) → BeforeNone n expression (mark marks.Close) ws
    → StandsNone n primary (mark marks.Open ∷ ws)
parenthesized_none n ws f y rest h = let s = shape_of n parenthesis ws y rest h in f s.0 rest s.1

pub parenthesized_heads : (n : ℕ) (ws : List Word) (x : Tree) (rest : List Word)
    → Before n expression (mark marks.Close) ws x rest → Heads n (mark marks.Open ∷ ws) (parenthesized x) rest
parenthesized_heads n ws x rest a = record {
  fits = (a.shallow, a.stands.fits);
  spelled = ap (λ t. mark marks.Open ∷ t) (a.stands.spelled
      ∙ sym (append_assoc (words x) (mark marks.Close ∷ []) rest));
  alone = λ y s h. let p = shape_of n parenthesis ws y s h in before_same a p.1;
}

pub aggregate_none : (n : ℕ) (ws : List Word) → ElementsNone n ws → StandsNone n primary (mark marks.OpenBracket ∷ ws)
aggregate_none n ws f y rest h = let s = shape_of n bracket ws y rest h in f s.0 rest s.1

pub aggregate_heads : (n : ℕ) (ws : List Word) (xs : Trees) (rest : List Word) → Elements n ws xs rest
    → Heads n (mark marks.OpenBracket ∷ ws) (aggregate xs) rest
aggregate_heads n ws xs rest a = record {
  fits = (a.shallow, a.fits);
  spelled = ap (λ t. mark marks.OpenBracket ∷ t)
      (a.spelled ∙ sym (append_assoc (words_of_trees xs) (mark marks.CloseBracket ∷ []) rest));
  alone = λ y s h. let p = shape_of n bracket ws y s h in
      (one_elements (n + 1) xs p.0 rest s a.fits p.1.fits (sym a.spelled ∙ p.1.spelled)).1;
}

pub reference_none : (n : ℕ) (r : Root) (ws : List Word) → SelectsNone n ws → StandsNone n primary (word_of_root r ∷ ws)
reference_none n r ws f y rest h = let s = shape_of n (referring r) ws y rest h in f s.0 rest s.1

pub reference_heads : (n : ℕ) (r : Root) (ws : List Word) (qs : Qualifiers) (rest : List Word) → Selects n ws qs rest
    → Heads n (word_of_root r ∷ ws) (reference r qs) rest
reference_heads n r ws qs rest a = record {
  fits = a.fits;
  spelled = ap (λ t. word_of_root r ∷ t) a.spelled;
  alone = λ y s h. let p = shape_of n (referring r) ws y s h in
      (one_qualifiers n qs p.0 rest s a.fits p.1.fits (sym a.spelled ∙ p.1.spelled) a.whole p.1.whole).1;
}

-- a call
pub call_lacks : (n : ℕ) (f : Function) (ws : List Word) → Lacks (mark marks.Open) ws
    → StandsNone n primary (word_of_function f ∷ ws)
call_lacks n f ws l y rest h = let s = shape_of n (calling f) ws y rest h in l s.first s.begun

pub call_none : (n : ℕ) (f : Function) (ws more : List Word) → ws ≡ mark marks.Open ∷ more → BeforeNone n expression
    (mark marks.Close) more → StandsNone n primary (word_of_function f ∷ ws)
call_none n f ws more e g y rest h = let s = shape_of n (calling f) ws y rest h in let m : s.first ≡ more =
    (let i = s.begun in cc) in g s.argument rest (before_along m s.argument_stands)

pub call_heads : (n : ℕ) (f : Function) (ws more : List Word) (x : Tree) (rest : List Word) → ws ≡ mark marks.Open
    ∷ more → Before n expression (mark marks.Close) more x rest → Heads n (word_of_function f ∷ ws) (call f x) rest
call_heads n f ws more x rest e a = record {
  fits = (a.shallow, a.stands.fits);
  spelled = ap (λ t. word_of_function f ∷ t)
      (e ∙ ap (λ t. mark marks.Open ∷ t) (a.stands.spelled
      ∙ sym (append_assoc (words x) (mark marks.Close ∷ []) rest)));
  alone = λ y s h. let p = shape_of n (calling f) ws y s h in let m : p.first ≡ more = (let i = p.begun in cc) in
      before_same a (before_along m p.argument_stands);
}

-- NVL
pub nvl_lacks : (n : ℕ) (ws : List Word) → Lacks (mark marks.Open) ws → StandsNone n primary (keyword keywords.Nvl ∷ ws)
nvl_lacks n ws l y rest h = let s = shape_of n either ws y rest h in l s.first s.begun

nvl_item : (n : ℕ) (ws first rest : List Word) → ws ≡ mark marks.Open ∷ first → (s : Substituted n ws rest)
    → Before n expression (mark marks.Comma) first s.item s.second
nvl_item n ws first rest e s = let m : s.first ≡ first = (let i = s.begun in cc) in before_along m s.item_stands

pub nvl_none : (n : ℕ) (ws first : List Word) → ws ≡ mark marks.Open ∷ first → BeforeNone n expression
    (mark marks.Comma) first → StandsNone n primary (keyword keywords.Nvl ∷ ws)
nvl_none n ws first e f y rest h = let s = shape_of n either ws y rest h in
    f s.item s.second (nvl_item n ws first rest e s)

pub nvl_half : (n : ℕ) (ws first : List Word) (x : Tree) (second : List Word) → ws ≡ mark marks.Open ∷ first
    → Before n expression (mark marks.Comma) first x second → BeforeNone n expression (mark marks.Close) second
    → StandsNone n primary (keyword keywords.Nvl ∷ ws)
nvl_half n ws first x second e a f y rest h = let s = shape_of n either ws y rest h in
    f s.substitute rest (before_along (before_same (nvl_item n ws first rest e s) a) s.substitute_stands)

pub nvl_heads : (n : ℕ) (ws first : List Word) (x : Tree) (second : List Word) (z : Tree) (rest : List Word)
    → ws ≡ mark marks.Open ∷ first → Before n expression (mark marks.Comma) first x second
    → Before n expression (mark marks.Close) second z rest → Heads n (keyword keywords.Nvl ∷ ws) (nvl x z) rest
nvl_heads n ws first x second z rest e a b = record {
  fits = (a.shallow, a.stands.fits, b.stands.fits);
  spelled = ap (λ t. keyword keywords.Nvl ∷ t)
      (e ∙ ap (λ t. mark marks.Open ∷ t) (a.stands.spelled ∙ ap (λ t. words x ++ mark marks.Comma ∷ t) b.stands.spelled
      ∙ simp append_assoc));
  alone = λ y s h. let p = shape_of n either ws y s h in
      before_same b (before_along (before_same (nvl_item n ws first s e p) a) p.substitute_stands);
}

-- a query
pub query_lacks : (n : ℕ) (ws : List Word) → VariableNone ws → StandsNone n primary (keyword keywords.Query ∷ ws)
query_lacks n ws l y rest h = let s = shape_of n querying ws y rest h in l s.variable s.first s.begun

query_source : (n : ℕ) (ws : List Word) (v : List ℕ) (first rest : List Word) → ws ≡ mark marks.Open ∷ name v
    ∷ mark marks.QuerySource ∷ first → (s : Queried n ws rest) → Before n simple (mark marks.Bar) first s.source
    s.second
query_source n ws v first rest e s = let m : s.first ≡ first = (let i = s.begun in cc) in before_along m s.source_stands

pub query_none : (n : ℕ) (ws : List Word) (v : List ℕ) (first : List Word) → ws ≡ mark marks.Open ∷ name v
    ∷ mark marks.QuerySource ∷ first → BeforeNone n simple (mark marks.Bar) first
    → StandsNone n primary (keyword keywords.Query ∷ ws)
query_none n ws v first e f y rest h = let s = shape_of n querying ws y rest h in
    f s.source s.second (query_source n ws v first rest e s)

pub query_half : (n : ℕ) (ws : List Word) (v : List ℕ) (first : List Word) (x : Tree) (second : List Word)
    → ws ≡ mark marks.Open ∷ name v ∷ mark marks.QuerySource ∷ first → Before n simple (mark marks.Bar) first x second
    → BeforeNone n expression (mark marks.Close) second → StandsNone n primary (keyword keywords.Query ∷ ws)
query_half n ws v first x second e a f y rest h = let s = shape_of n querying ws y rest h in
    f s.condition rest (before_along (before_same (query_source n ws v first rest e s) a) s.condition_stands)

pub query_heads : (n : ℕ) (ws : List Word) (v : List ℕ) (first : List Word) (x : Tree) (second : List Word) (z : Tree)
    (rest : List Word) → ws ≡ mark marks.Open ∷ name v ∷ mark marks.QuerySource ∷ first
    → Before n simple (mark marks.Bar) first x second → Before n expression (mark marks.Close) second z rest
    → Heads n (keyword keywords.Query ∷ ws) (query v x z) rest
query_heads n ws v first x second z rest e a b = record {
  fits = (a.shallow, a.stands.fits, b.stands.fits);
  spelled = ap (λ t. keyword keywords.Query ∷ t) (e ∙ ap (λ t. mark marks.Open ∷ name v ∷ mark marks.QuerySource ∷ t)
      (a.stands.spelled ∙ ap (λ t. words x ++ mark marks.Bar ∷ t) b.stands.spelled ∙ simp append_assoc));
  alone = λ y s h. let p = shape_of n querying ws y s h in
      before_same b (before_along (before_same (query_source n ws v first s e p) a) p.condition_stands);
}

-- an interval
bound_same : {n : ℕ} (k j : Limit) {ws r s : List Word} {x y : Tree} → Before n simple (word_of_limit k) ws x r
    → Before n simple (word_of_limit j) ws y s → r ≡ s
bound_same {n} k j {ws} {r} {s} {x} {y} a b = let e : word_of_limit k ∷ r ≡ word_of_limit j ∷ s =
    (stands_same a.stands b.stands).1 in cc

pub bound_lacks : (n : ℕ) (ws : List Word) (x : Tree) (middle : List Word) → Stands (n + 1) simple ws x middle
    → ((k : Limit) → Lacks (word_of_limit k) middle) → BoundNone n ws
bound_lacks n ws x middle a f k = before_lacks n simple (word_of_limit k) ws x middle a (f k)

pub interval_none : (n : ℕ) (ws : List Word) → BoundNone n ws → StandsNone n primary (mark marks.OpenBrace ∷ ws)
interval_none n ws f y rest h = let s = shape_of n brace ws y rest h in f s.above s.low s.second s.low_stands

pub interval_second : (n : ℕ) (ws : List Word) (low : Tree) (above : Limit) (second : List Word)
    → Before n simple (word_of_limit above) ws low second → BoundNone n second
    → StandsNone n primary (mark marks.OpenBrace ∷ ws)
interval_second n ws low above second a f y rest h = let s = shape_of n brace ws y rest h in f s.below s.item s.third
    (before_along (bound_same s.above above s.low_stands a) s.item_stands)

interval_third : (n : ℕ) (ws : List Word) (low : Tree) (above : Limit) (second : List Word) (x : Tree) (below : Limit)
    (third rest : List Word) → Before n simple (word_of_limit above) ws low second
    → Before n simple (word_of_limit below) second x third → (s : Bounds n ws rest)
    → Before n simple (mark marks.CloseBrace) third s.high rest
interval_third n ws low above second x below third rest a b s =
    before_along (bound_same s.below below (before_along (bound_same s.above above s.low_stands a) s.item_stands) b)
    s.high_stands

pub interval_half : (n : ℕ) (ws : List Word) (low : Tree) (above : Limit) (second : List Word) (x : Tree)
    (below : Limit) (third : List Word) → Before n simple (word_of_limit above) ws low second
    → Before n simple (word_of_limit below) second x third → BeforeNone n simple (mark marks.CloseBrace) third
    → StandsNone n primary (mark marks.OpenBrace ∷ ws)
interval_half n ws low above second x below third a b f y rest h = let s = shape_of n brace ws y rest h in
    f s.high rest (interval_third n ws low above second x below third rest a b s)

pub interval_heads : (n : ℕ) (ws : List Word) (low : Tree) (above : Limit) (second : List Word) (x : Tree)
    (below : Limit) (third : List Word) (high : Tree) (rest : List Word) → Before n simple (word_of_limit above) ws low
    second → Before n simple (word_of_limit below) second x third → Before n simple (mark marks.CloseBrace) third high
    rest → Heads n (mark marks.OpenBrace ∷ ws) (interval low above x below high) rest
interval_heads n ws low above second x below third high rest a b d = record {
  fits = (a.shallow, a.stands.fits, b.stands.fits, d.stands.fits);
  spelled = ap (λ t. mark marks.OpenBrace ∷ t) (a.stands.spelled ∙ ap (λ t. words low ++ word_of_limit above ∷ t)
      (b.stands.spelled ∙ ap (λ t. words x ++ word_of_limit below ∷ t) d.stands.spelled) ∙ simp append_assoc);
  alone = λ y s h. let p = shape_of n brace ws y s h in
      before_same d (interval_third n ws low above second x below third s a b p);
}
