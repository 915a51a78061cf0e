-- What a tree that stands at a level of the grammar has at the level below.
use Rattle.std.proofs.Common.{◌≡◌, ℕ, ◌≤◌, ◌⊎◌, inl, inr, false, List, [], ◌∷◌, ◌++◌, refl, sym, ◌∙◌, subst, append_assoc, arith}
use Rattle.express_lexer.specs.declared.marks.Mark.TheVariants as marks
use Rattle.express_syntax.specs.declared.keyword.Keyword.TheVariants as keywords
use Rattle.express_syntax.specs.declared.expression.Sign.{Sign}
use Rattle.express_syntax.specs.declared.expression.Relation.{Relation}
use Rattle.express_syntax.specs.declared.expression.Relation.TheVariants as relations
use Rattle.express_syntax.specs.declared.expression.Junction.{Junction}
use Rattle.express_syntax.specs.declared.expression.Junction.TheVariants as junctions
use Rattle.express_syntax.specs.Words.{Word, keyword, mark}
use Rattle.express_syntax.specs.Trees.{Number, Tree, literal, signed, reference, parenthesized, aggregate, interval, query, call, nvl, negation, conjunction, disjunction, comparison, Trees, none, one, Alternatives, finish, another, words, words_of_others, words_of_alternatives, word_of_number, word_of_sign, word_of_relation, word_of_junction}
use Rattle.express_syntax.specs.Grammar.{Level, primary, unary, term, simple, expression, level_rank, FitsLevel}
use Rattle.express_syntax.specs.steps.Reads.{goes_on, Stops, Stands}
use Rattle.express_expressions.specs.steps.Pieces.{Lacks, Others, More}
use Rattle.express_syntax.proofs.Stopping.{stops_primary, stops_unary, stops_term, stops_simple, conjuncts_behind, alternatives_behind, relation_behind}
use Rattle.express_syntax.proofs.UniqueExpressions.{one_front}

pub stands_same : {n : ℕ} {l : Level} {ws r s : List Word} {x y : Tree} → Stands n l ws x r → Stands n l ws y s
    → (x ≡ y) × (r ≡ s)
stands_same {n} {l} {ws} {r} {s} {x} {y} a b = one_front n l x y r s a.fits b.fits (sym a.spelled ∙ b.spelled) a.whole
    b.whole

pub stands_along : {n : ℕ} {l : Level} {ws vs r : List Word} {x : Tree} → ws ≡ vs → Stands n l ws x r
    → Stands n l vs x r
stands_along {n} {l} {ws} {vs} {r} {x} e h = record { fits = h.fits; spelled = sym e ∙ h.spelled; whole = h.whole }

-- and with other words behind it
pub stands_behind : {n : ℕ} {l : Level} {ws r s : List Word} {x : Tree} → r ≡ s → Stands n l ws x r → Stands n l ws x s
stands_behind {n} {l} {ws} {r} {s} {x} e h = subst (λ t. Stands n l ws x t) e h

-- what ends a tree at a level ends it one level up, unless it goes on there
unary_word : (w : Word) → goes_on primary w ≡ false → goes_on unary w ≡ false
unary_word (mark marks.Dot) h = h
unary_word (mark marks.Backslash) h = h
unary_word (mark marks.OpenBracket) h = h
unary_word _ h = refl

pub primary_stops : (ws : List Word) → Stops primary ws → Stops unary ws
primary_stops [] h = tt
primary_stops (w ∷ ws) h = unary_word w h

term_word : (w : Word) (ws : List Word) → goes_on unary w ≡ false → Lacks (keyword keywords.And) (w ∷ ws)
    → goes_on term w ≡ false
term_word (mark marks.Dot) ws h l = h
term_word (mark marks.Backslash) ws h l = h
term_word (mark marks.OpenBracket) ws h l = h
term_word (keyword keywords.And) ws h l = absurd (l ws refl)
term_word _ ws h l = refl

pub unary_stops : (ws : List Word) → Stops unary ws → Lacks (keyword keywords.And) ws → Stops term ws
unary_stops [] h l = tt
unary_stops (w ∷ ws) h l = term_word w ws h l

simple_word : (w : Word) (ws : List Word) → goes_on term w ≡ false
    → ((j : Junction) → Lacks (word_of_junction j) (w ∷ ws)) → goes_on simple w ≡ false
simple_word (mark marks.Dot) ws h l = h
simple_word (mark marks.Backslash) ws h l = h
simple_word (mark marks.OpenBracket) ws h l = h
simple_word (keyword keywords.And) ws h l = h
simple_word (keyword keywords.Or) ws h l = absurd (l junctions.Or ws refl)
simple_word (keyword keywords.Xor) ws h l = absurd (l junctions.Xor ws refl)
simple_word _ ws h l = refl

pub term_stops : (ws : List Word) → Stops term ws → ((j : Junction) → Lacks (word_of_junction j) ws) → Stops simple ws
term_stops [] h l = tt
term_stops (w ∷ ws) h l = simple_word w ws h l

expression_word : (w : Word) (ws : List Word) → goes_on simple w ≡ false
    → ((r : Relation) → Lacks (word_of_relation r) (w ∷ ws)) → goes_on expression w ≡ false
expression_word (mark marks.Dot) ws h l = h
expression_word (mark marks.Backslash) ws h l = h
expression_word (mark marks.OpenBracket) ws h l = h
expression_word (keyword keywords.And) ws h l = h
expression_word (keyword keywords.Or) ws h l = h
expression_word (keyword keywords.Xor) ws h l = h
expression_word (keyword keywords.In) ws h l = absurd (l relations.In ws refl)
expression_word (mark marks.Equal) ws h l = absurd (l relations.Equal ws refl)
expression_word (mark marks.NotEqual) ws h l = absurd (l relations.NotEqual ws refl)
expression_word (mark marks.Less) ws h l = absurd (l relations.Less ws refl)
expression_word (mark marks.Greater) ws h l = absurd (l relations.Greater ws refl)
expression_word (mark marks.LessOrEqual) ws h l = absurd (l relations.LessOrEqual ws refl)
expression_word (mark marks.GreaterOrEqual) ws h l = absurd (l relations.GreaterOrEqual ws refl)
expression_word _ ws h l = refl

pub simple_stops : (ws : List Word) → Stops simple ws → ((r : Relation) → Lacks (word_of_relation r) ws)
    → Stops expression ws
simple_stops [] h l = tt
simple_stops (w ∷ ws) h l = expression_word w ws h l

pub related : (r : Relation) → goes_on expression (word_of_relation r) ≡ false → ⊥
related relations.Equal h = cc
related relations.NotEqual h = cc
related relations.Less h = cc
related relations.Greater h = cc
related relations.LessOrEqual h = cc
related relations.GreaterOrEqual h = cc
related relations.In h = cc

-- a tree that stands at a level stands at those above
pub fits_up : (n : ℕ) (l m : Level) (x : Tree) → level_rank l ≤ level_rank m → FitsLevel n l x → FitsLevel n m x
fits_up n l m (literal v) e h = tt
fits_up n l m (signed s v) e h = omega (arith, h)
fits_up n l m (reference r qs) e h = h
fits_up n l m (parenthesized x) e h = h
fits_up n l m (aggregate xs) e h = h
fits_up n l m (interval low above x below high) e h = h
fits_up n l m (query v source condition) e h = h
fits_up n l m (call f x) e h = h
fits_up n l m (nvl x y) e h = h
fits_up n l m (negation x) e h = (omega (arith, h.0), h.1)
fits_up n l m (conjunction x xs) e h = (omega (arith, h.0), h.1, h.2)
fits_up n l m (disjunction x xs) e h = (omega (arith, h.0), h.1, h.2)
fits_up n l m (comparison x r y) e h = (omega (arith, h.0), h.1, h.2)

-- a simple expression, or two compared
pub record Compared (n : ℕ) (ws : List Word) (y : Tree) (rest : List Word) : Type 0 where
  pub left : Tree
  pub relation : Relation
  pub right : Tree
  pub more : List Word
  pub left_stands : Stands n simple ws left (word_of_relation relation ∷ more)
  pub right_stands : Stands n simple more right rest

pub expression_parts : (n : ℕ) (ws : List Word) (y : Tree) (rest : List Word) → Stands n expression ws y rest
    → Stands n simple ws y rest ⊎ Compared n ws y rest
expression_parts n ws (literal v) rest h = inl (record {
  fits = tt;
  spelled = h.spelled;
  whole = stops_simple rest h.whole;
})
expression_parts n ws (signed s v) rest h = inl (record {
  fits = (omega arith);
  spelled = h.spelled;
  whole = stops_simple rest h.whole;
})
expression_parts n ws (reference r qs) rest h = inl (record {
  fits = h.fits;
  spelled = h.spelled;
  whole = stops_simple rest h.whole;
})
expression_parts n ws (parenthesized x) rest h = inl (record {
  fits = h.fits;
  spelled = h.spelled;
  whole = stops_simple rest h.whole;
})
expression_parts n ws (aggregate xs) rest h = inl (record {
  fits = h.fits;
  spelled = h.spelled;
  whole = stops_simple rest h.whole;
})
expression_parts n ws (interval low above x below high) rest h = inl (record {
  fits = h.fits;
  spelled = h.spelled;
  whole = stops_simple rest h.whole;
})
expression_parts n ws (query v source condition) rest h = inl (record {
  fits = h.fits;
  spelled = h.spelled;
  whole = stops_simple rest h.whole;
})
expression_parts n ws (call f x) rest h = inl (record {
  fits = h.fits;
  spelled = h.spelled;
  whole = stops_simple rest h.whole;
})
expression_parts n ws (nvl x y) rest h = inl (record {
  fits = h.fits;
  spelled = h.spelled;
  whole = stops_simple rest h.whole;
})
expression_parts n ws (negation x) rest h = inl (record {
  fits = (omega arith, h.fits.1);
  spelled = h.spelled;
  whole = stops_simple rest h.whole;
})
expression_parts n ws (conjunction x xs) rest h = inl (record {
  fits = (omega arith, h.fits.1, h.fits.2);
  spelled = h.spelled;
  whole = stops_simple rest h.whole;
})
expression_parts n ws (disjunction x xs) rest h = inl (record {
  fits = (omega arith, h.fits.1, h.fits.2);
  spelled = h.spelled;
  whole = stops_simple rest h.whole;
})
expression_parts n ws (comparison x r y) rest h = inr (record {
  left = x;
  relation = r;
  right = y;
  more = words y ++ rest;
  left_stands = record {
    fits = h.fits.1;
    spelled = h.spelled ∙ append_assoc (words x) (word_of_relation r ∷ words y) rest;
    whole = relation_behind r;
  };
  right_stands = record { fits = h.fits.2; spelled = refl; whole = stops_simple rest h.whole };
})

-- the first term of a simple expression, and what OR and XOR add
pub record Terms (n : ℕ) (ws : List Word) (rest : List Word) : Type 0 where
  pub first : Tree
  pub middle : List Word
  pub others : Alternatives
  pub first_stands : Stands n term ws first middle
  pub others_stand : More n middle others rest

pub simple_parts : (n : ℕ) (ws : List Word) (y : Tree) (rest : List Word) → Stands n simple ws y rest → Terms n ws rest
simple_parts n ws (literal v) rest h = record {
  first = literal v;
  middle = rest;
  others = finish;
  first_stands = record {
    fits = tt;
    spelled = h.spelled;
    whole = stops_term rest h.whole;
  };
  others_stand = record {
    fits = tt;
    spelled = refl;
    whole = h.whole;
  };
}
simple_parts n ws (signed s v) rest h = record {
  first = signed s v;
  middle = rest;
  others = finish;
  first_stands = record {
    fits = (omega arith);
    spelled = h.spelled;
    whole = stops_term rest h.whole;
  };
  others_stand = record {
    fits = tt;
    spelled = refl;
    whole = h.whole;
  };
}
simple_parts n ws (reference r qs) rest h = record {
  first = reference r qs;
  middle = rest;
  others = finish;
  first_stands = record {
    fits = h.fits;
    spelled = h.spelled;
    whole = stops_term rest h.whole;
  };
  others_stand = record {
    fits = tt;
    spelled = refl;
    whole = h.whole;
  };
}
simple_parts n ws (parenthesized x) rest h = record {
  first = parenthesized x;
  middle = rest;
  others = finish;
  first_stands = record {
    fits = h.fits;
    spelled = h.spelled;
    whole = stops_term rest h.whole;
  };
  others_stand = record {
    fits = tt;
    spelled = refl;
    whole = h.whole;
  };
}
simple_parts n ws (aggregate xs) rest h = record {
  first = aggregate xs;
  middle = rest;
  others = finish;
  first_stands = record {
    fits = h.fits;
    spelled = h.spelled;
    whole = stops_term rest h.whole;
  };
  others_stand = record {
    fits = tt;
    spelled = refl;
    whole = h.whole;
  };
}
simple_parts n ws (interval low above x below high) rest h = record {
  first = interval low above x below high;
  middle = rest;
  others = finish;
  first_stands = record {
    fits = h.fits;
    spelled = h.spelled;
    whole = stops_term rest h.whole;
  };
  others_stand = record {
    fits = tt;
    spelled = refl;
    whole = h.whole;
  };
}
simple_parts n ws (query v source condition) rest h = record {
  first = query v source condition;
  middle = rest;
  others = finish;
  first_stands = record {
    fits = h.fits;
    spelled = h.spelled;
    whole = stops_term rest h.whole;
  };
  others_stand = record {
    fits = tt;
    spelled = refl;
    whole = h.whole;
  };
}
simple_parts n ws (call f x) rest h = record {
  first = call f x;
  middle = rest;
  others = finish;
  first_stands = record {
    fits = h.fits;
    spelled = h.spelled;
    whole = stops_term rest h.whole;
  };
  others_stand = record {
    fits = tt;
    spelled = refl;
    whole = h.whole;
  };
}
simple_parts n ws (nvl x y) rest h = record {
  first = nvl x y;
  middle = rest;
  others = finish;
  first_stands = record {
    fits = h.fits;
    spelled = h.spelled;
    whole = stops_term rest h.whole;
  };
  others_stand = record {
    fits = tt;
    spelled = refl;
    whole = h.whole;
  };
}
simple_parts n ws (negation x) rest h = record {
  first = negation x;
  middle = rest;
  others = finish;
  first_stands = record {
    fits = (omega arith, h.fits.1);
    spelled = h.spelled;
    whole = stops_term rest h.whole;
  };
  others_stand = record {
    fits = tt;
    spelled = refl;
    whole = h.whole;
  };
}
simple_parts n ws (conjunction x xs) rest h = record {
  first = conjunction x xs;
  middle = rest;
  others = finish;
  first_stands = record {
    fits = (omega arith, h.fits.1, h.fits.2);
    spelled = h.spelled;
    whole = stops_term rest h.whole;
  };
  others_stand = record { fits = tt; spelled = refl; whole = h.whole };
}
simple_parts n ws (disjunction x finish) rest h = absurd h.fits.2
simple_parts n ws (disjunction x (another j y ys)) rest h = record {
  first = x;
  middle = words_of_alternatives (another j y ys) ++ rest;
  others = another j y ys;
  first_stands = record {
    fits = h.fits.1;
    spelled = h.spelled ∙ append_assoc (words x) (words_of_alternatives (another j y ys)) rest;
    whole = alternatives_behind (another j y ys) rest h.whole;
  };
  others_stand = record { fits = h.fits.2; spelled = refl; whole = h.whole };
}
simple_parts n ws (comparison x r y) rest h = absurd (omega (arith, h.fits.0))

-- the first unary of a term, and what AND adds
pub record Unaries (n : ℕ) (ws : List Word) (rest : List Word) : Type 0 where
  pub first : Tree
  pub middle : List Word
  pub others : Trees
  pub first_stands : Stands n unary ws first middle
  pub others_stand : Others n middle others rest

pub term_parts : (n : ℕ) (ws : List Word) (y : Tree) (rest : List Word) → Stands n term ws y rest → Unaries n ws rest
term_parts n ws (literal v) rest h = record {
  first = literal v;
  middle = rest;
  others = none;
  first_stands = record {
    fits = tt;
    spelled = h.spelled;
    whole = stops_unary rest h.whole;
  };
  others_stand = record {
    fits = tt;
    spelled = refl;
    whole = h.whole;
  };
}
term_parts n ws (signed s v) rest h = record {
  first = signed s v;
  middle = rest;
  others = none;
  first_stands = record {
    fits = (omega arith);
    spelled = h.spelled;
    whole = stops_unary rest h.whole;
  };
  others_stand = record {
    fits = tt;
    spelled = refl;
    whole = h.whole;
  };
}
term_parts n ws (reference r qs) rest h = record {
  first = reference r qs;
  middle = rest;
  others = none;
  first_stands = record {
    fits = h.fits;
    spelled = h.spelled;
    whole = stops_unary rest h.whole;
  };
  others_stand = record {
    fits = tt;
    spelled = refl;
    whole = h.whole;
  };
}
term_parts n ws (parenthesized x) rest h = record {
  first = parenthesized x;
  middle = rest;
  others = none;
  first_stands = record {
    fits = h.fits;
    spelled = h.spelled;
    whole = stops_unary rest h.whole;
  };
  others_stand = record {
    fits = tt;
    spelled = refl;
    whole = h.whole;
  };
}
term_parts n ws (aggregate xs) rest h = record {
  first = aggregate xs;
  middle = rest;
  others = none;
  first_stands = record {
    fits = h.fits;
    spelled = h.spelled;
    whole = stops_unary rest h.whole;
  };
  others_stand = record {
    fits = tt;
    spelled = refl;
    whole = h.whole;
  };
}
term_parts n ws (interval low above x below high) rest h = record {
  first = interval low above x below high;
  middle = rest;
  others = none;
  first_stands = record {
    fits = h.fits;
    spelled = h.spelled;
    whole = stops_unary rest h.whole;
  };
  others_stand = record {
    fits = tt;
    spelled = refl;
    whole = h.whole;
  };
}
term_parts n ws (query v source condition) rest h = record {
  first = query v source condition;
  middle = rest;
  others = none;
  first_stands = record {
    fits = h.fits;
    spelled = h.spelled;
    whole = stops_unary rest h.whole;
  };
  others_stand = record {
    fits = tt;
    spelled = refl;
    whole = h.whole;
  };
}
term_parts n ws (call f x) rest h = record {
  first = call f x;
  middle = rest;
  others = none;
  first_stands = record {
    fits = h.fits;
    spelled = h.spelled;
    whole = stops_unary rest h.whole;
  };
  others_stand = record {
    fits = tt;
    spelled = refl;
    whole = h.whole;
  };
}
term_parts n ws (nvl x y) rest h = record {
  first = nvl x y;
  middle = rest;
  others = none;
  first_stands = record {
    fits = h.fits;
    spelled = h.spelled;
    whole = stops_unary rest h.whole;
  };
  others_stand = record {
    fits = tt;
    spelled = refl;
    whole = h.whole;
  };
}
term_parts n ws (negation x) rest h = record {
  first = negation x;
  middle = rest;
  others = none;
  first_stands = record {
    fits = (omega arith, h.fits.1);
    spelled = h.spelled;
    whole = stops_unary rest h.whole;
  };
  others_stand = record {
    fits = tt;
    spelled = refl;
    whole = h.whole;
  };
}
term_parts n ws (conjunction x none) rest h = absurd h.fits.2
term_parts n ws (conjunction x (one y ys)) rest h = record {
  first = x;
  middle = words_of_others (keyword keywords.And) (one y ys) ++ rest;
  others = one y ys;
  first_stands = record {
    fits = h.fits.1;
    spelled = h.spelled ∙ append_assoc (words x) (words_of_others (keyword keywords.And) (one y ys))
        rest;
    whole = conjuncts_behind (one y ys) rest h.whole;
  };
  others_stand = record { fits = h.fits.2; spelled = refl; whole = h.whole };
}
term_parts n ws (disjunction x xs) rest h = absurd (omega (arith, h.fits.0))
term_parts n ws (comparison x r y) rest h = absurd (omega (arith, h.fits.0))

-- NOT and a primary
pub record Negated (n : ℕ) (ws : List Word) (rest : List Word) : Type 0 where
  pub inner : Tree
  pub more : List Word
  pub spelled : ws ≡ keyword keywords.Not ∷ more
  pub inner_stands : Stands n primary more inner rest

-- a sign and a number
pub record SignedOne (ws : List Word) (rest : List Word) : Type 0 where
  pub sign : Sign
  pub value : Number
  pub spelled : ws ≡ word_of_sign sign ∷ word_of_number value ∷ rest
  pub whole : Stops unary rest

pub unary_parts : (n : ℕ) (ws : List Word) (y : Tree) (rest : List Word) → Stands n unary ws y rest
    → Stands n primary ws y rest ⊎ (Negated n ws rest ⊎ SignedOne ws rest)
unary_parts n ws (literal v) rest h = inl (record {
  fits = tt;
  spelled = h.spelled;
  whole = stops_primary rest h.whole;
})
unary_parts n ws (signed s v) rest h = inr (inr (record { sign = s; value = v; spelled = h.spelled; whole = h.whole }))
unary_parts n ws (reference r qs) rest h = inl (record {
  fits = h.fits;
  spelled = h.spelled;
  whole = stops_primary rest h.whole;
})
unary_parts n ws (parenthesized x) rest h = inl (record {
  fits = h.fits;
  spelled = h.spelled;
  whole = stops_primary rest h.whole;
})
unary_parts n ws (aggregate xs) rest h = inl (record {
  fits = h.fits;
  spelled = h.spelled;
  whole = stops_primary rest h.whole;
})
unary_parts n ws (interval low above x below high) rest h = inl (record {
  fits = h.fits;
  spelled = h.spelled;
  whole = stops_primary rest h.whole;
})
unary_parts n ws (query v source condition) rest h = inl (record {
  fits = h.fits;
  spelled = h.spelled;
  whole = stops_primary rest h.whole;
})
unary_parts n ws (call f x) rest h = inl (record {
  fits = h.fits;
  spelled = h.spelled;
  whole = stops_primary rest h.whole;
})
unary_parts n ws (nvl x y) rest h = inl (record {
  fits = h.fits;
  spelled = h.spelled;
  whole = stops_primary rest h.whole;
})
unary_parts n ws (negation x) rest h = inr (inl (record {
  inner = x;
  more = words x ++ rest;
  spelled = h.spelled;
  inner_stands = record {
    fits = h.fits.1;
    spelled = refl;
    whole = stops_primary rest h.whole;
  };
}))
unary_parts n ws (conjunction x xs) rest h = absurd (omega (arith, h.fits.0))
unary_parts n ws (disjunction x xs) rest h = absurd (omega (arith, h.fits.0))
unary_parts n ws (comparison x r y) rest h = absurd (omega (arith, h.fits.0))
