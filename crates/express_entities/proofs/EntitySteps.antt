-- The head of an entity, token by token, and an entity put together.
use Rattle.std.proofs.Common.{◌≡◌, ℕ, true, false, List, [], ◌∷◌, ◌++◌, map, Some, Result, Ok, Err, MatchResult, refl, sym, ap, ◌∙◌, append_assoc}
use Rattle.express_lexer.specs.declared.marks.Mark.TheVariants as marks
use Rattle.express_lexer.specs.Reading.{Reading}
use Rattle.express_syntax.specs.declared.keyword.Keyword.TheVariants as keywords
use Rattle.express_syntax.specs.Words.{Word, keyword, name, mark}
use Rattle.express_syntax.specs.Grammar.{depth_limit}
use Rattle.express_syntax.specs.declared.fault.SyntaxFault.{SyntaxFault}
use Rattle.express_entities.specs.declared.entities.Head as code
use Rattle.express_entities.specs.declared.clauses.Clauses.{Clauses}
use Rattle.express_syntax.specs.Schemas.{Supertype, Entity}
use Rattle.express_syntax.specs.Views.{if_some, names_of, supertype_of, explicit_of, derived_of, inverse_of, unique_of, rules_of}
use Rattle.express_syntax.specs.Profile.{FitsEntity}
use Rattle.express_syntax.specs.WrittenSchemas.{concatenated, words_of_names, words_of_clause, words_of_supertype, words_of_subtype, words_of_explicit, words_of_derived, words_of_inverse, words_of_unique, words_of_rule, words_of_entity}
use Rattle.express_syntax.specs.Texts.{Lookahead, token, LocatedToken, Shows}
use Rattle.express_syntax.specs.steps.Predict.{Symbol, Just, Say, Id, Running, in_parentheses, Head, Super, SuperOf, Sub, Body, explicits, names_symbols, next_sub, next_super, next_super_of, next_head, is_keyword}
use Rattle.express_entities.specs.steps.EntityParts.{FitsHead, words_of_types, words_of_beginning, FitsClauses, words_of_clauses}
use Rattle.express_syntax.specs.steps.Steps.{StopsIn, Passes}
use Rattle.express_syntax.proofs.Looking.{keyword_met}
use Rattle.express_syntax.proofs.Taking.{passes_as, passes_join, passes_more, passes_then, passes_token, passes_taken, passes_first, stops_behind, stops_first, passes_other, stops_as}

super_of_next : (s : Lookahead) → is_keyword keywords.Of s ≡ false → next_super_of s ≡ next_sub s
super_of_next (token (keyword keywords.Of)) a = absurd cc
super_of_next _ a = refl

super_next : (s : Lookahead) → is_keyword keywords.Supertype s ≡ false → next_super s ≡ next_sub s
super_next (token (keyword keywords.Supertype)) a = absurd cc
super_next _ a = refl

head_next : (s : Lookahead) → is_keyword keywords.Abstract s ≡ false → next_head s ≡ next_super s
head_next (token (keyword keywords.Abstract)) a = absurd cc
head_next _ a = refl

-- behind SUBTYPE
sub_begins : (s : LocatedToken) (here : Reading) → is_keyword keywords.Subtype s.lookahead ≡ true
    → Passes (Sub ∷ []) (Say keywords.Of ∷ (names_symbols ++ Just marks.Semicolon ∷ [])) (s ∷ [])
    (keyword keywords.Subtype ∷ []) here here
sub_begins s here e = passes_taken Sub (Say keywords.Of ∷ (names_symbols ++ Just marks.Semicolon ∷ []))
    (keyword keywords.Subtype) s here (keyword_met keywords.Subtype s.lookahead e) refl

sub_of : (s : LocatedToken) (here a : Reading) → is_keyword keywords.Subtype s.lookahead ≡ true
    → Passes (Say keywords.Of ∷ []) [] [] (keyword keywords.Of ∷ []) here a
    → Passes (Sub ∷ []) (names_symbols ++ Just marks.Semicolon ∷ []) (s ∷ []) (keyword keywords.Subtype
    ∷ keyword keywords.Of ∷ []) here a
sub_of s here a e h = passes_join (sub_begins s here e) (passes_more (names_symbols ++ Just marks.Semicolon ∷ []) h)

sub_names : (names : List (List ℕ)) (s : LocatedToken) (here a b : Reading) → is_keyword keywords.Subtype
    s.lookahead ≡ true → Passes (Say keywords.Of ∷ []) [] [] (keyword keywords.Of ∷ []) here a → Passes names_symbols []
    [] (words_of_names names) a b
    → Passes (Sub ∷ []) (Just marks.Semicolon ∷ []) (s ∷ []) (words_of_subtype (Some names)) here b
sub_names names s here a b e h g = passes_join (sub_of s here a e h) (passes_more (Just marks.Semicolon ∷ []) g)

-- what stops the names
pub sub_err_names : (f : SyntaxFault) (s : LocatedToken) (here a : Reading) → is_keyword keywords.Subtype
    s.lookahead ≡ true → Passes (Say keywords.Of ∷ []) [] [] (keyword keywords.Of ∷ []) here a → StopsIn f names_symbols
    [] a → StopsIn f (Sub ∷ []) (s ∷ []) here
sub_err_names f s here a e h g = stops_behind f names_symbols (Just marks.Semicolon ∷ []) (sub_of s here a e h) g

-- what stops the semicolon after the names
pub sub_err_semicolon : (f : SyntaxFault) (names : List (List ℕ)) (s : LocatedToken) (here a b : Reading)
    → is_keyword keywords.Subtype s.lookahead ≡ true → Passes (Say keywords.Of ∷ []) [] [] (keyword keywords.Of ∷ [])
    here a
    → Passes names_symbols [] [] (words_of_names names) a b → StopsIn f (Just marks.Semicolon ∷ []) [] b
    → StopsIn f (Sub ∷ []) (s ∷ []) here
sub_err_semicolon f names s here a b e h g stop = stops_behind f (Just marks.Semicolon ∷ []) []
    (sub_names names s here a b e h g) stop

-- SUBTYPE OF names ;
pub sub_done : (names : List (List ℕ)) (s : LocatedToken) (here a b c : Reading) → is_keyword keywords.Subtype
    s.lookahead ≡ true → Passes (Say keywords.Of ∷ []) [] [] (keyword keywords.Of ∷ []) here a → Passes names_symbols []
    [] (words_of_names names) a b
    → Passes (Just marks.Semicolon ∷ []) [] [] (mark marks.Semicolon ∷ []) b c → Passes (Sub ∷ []) [] (s ∷ [])
    (words_of_subtype (Some names) ++ mark marks.Semicolon ∷ []) here c
sub_done names s here a b c e h g k = passes_join (sub_names names s here a b e h g) k

-- no SUPERTYPE
pub super_err_unsaid : (f : SyntaxFault) (s : LocatedToken) (old : Reading) → is_keyword keywords.Supertype
    s.lookahead ≡ false → StopsIn f (Sub ∷ []) (s ∷ []) old → StopsIn f (Super ∷ []) (s ∷ []) old
super_err_unsaid f s old e h = stops_as f Super Sub s old (super_next s.lookahead e) h

super_begins : (s : LocatedToken) (here : Reading) → is_keyword keywords.Supertype s.lookahead ≡ true
    → Passes (Super ∷ []) (SuperOf ∷ []) (s ∷ []) (keyword keywords.Supertype ∷ []) here here
super_begins s here e = passes_taken Super (SuperOf ∷ []) (keyword keywords.Supertype) s here
    (keyword_met keywords.Supertype s.lookahead e) refl

-- what stops behind SUPERTYPE
pub super_err_second : (f : SyntaxFault) (s : LocatedToken) (here : Reading) → is_keyword keywords.Supertype
    s.lookahead ≡ true → StopsIn f (SuperOf ∷ []) [] here → StopsIn f (Super ∷ []) (s ∷ []) here
super_err_second f s here e g = stops_behind f (SuperOf ∷ []) [] (super_begins s here e) g

-- SUPERTYPE without an expression
pub super_bare : {ws : List Word} {a new : Reading} (s t : LocatedToken) (here : Reading)
    → is_keyword keywords.Supertype s.lookahead ≡ true → Shows here t a → is_keyword keywords.Of t.lookahead ≡ false
    → Passes (Sub ∷ []) [] (t ∷ []) ws a new
    → Passes (Super ∷ []) [] (s ∷ []) (keyword keywords.Supertype ∷ ws) here new
super_bare s t here e shows k h = passes_join (super_begins s here e)
    (passes_first t here shows (passes_other SuperOf Sub t (super_of_next t.lookahead k) h))

-- a fault after SUPERTYPE without an expression
pub super_err_bare : {a : Reading} (f : SyntaxFault) (s t : LocatedToken) (here : Reading)
    → is_keyword keywords.Supertype s.lookahead ≡ true → Shows here t a → is_keyword keywords.Of t.lookahead ≡ false
    → StopsIn f (Sub ∷ []) (t ∷ []) a
    → StopsIn f (Super ∷ []) (s ∷ []) here
super_err_bare {a} f s t here e shows k h = super_err_second f s here e
    (stops_first f (SuperOf ∷ []) t shows (stops_as f SuperOf Sub t a (super_of_next t.lookahead k) h))

-- SUPERTYPE OF
super_of : {a : Reading} (s t : LocatedToken) (here : Reading) → is_keyword keywords.Supertype s.lookahead ≡ true
    → Shows here t a → is_keyword keywords.Of t.lookahead ≡ true
    → Passes (Super ∷ []) (Just marks.Open ∷ Running in_parentheses 1 [] false ∷ Sub ∷ []) (s ∷ [])
    (keyword keywords.Supertype ∷ keyword keywords.Of ∷ []) here a
super_of {a} s t here e shows k =
    passes_join (super_begins s here e) (passes_token SuperOf (Just marks.Open ∷ Running in_parentheses 1 [] false ∷ Sub
    ∷ []) (keyword keywords.Of) t here a shows (keyword_met keywords.Of t.lookahead k) refl)

super_open : {a b : Reading} (s t : LocatedToken) (here : Reading) → is_keyword keywords.Supertype s.lookahead ≡ true
    → Shows here t a → is_keyword keywords.Of t.lookahead ≡ true → Passes (Just marks.Open ∷ []) [] [] (mark marks.Open
    ∷ []) a b
    → Passes (Super ∷ []) (Running in_parentheses 1 [] false ∷ Sub ∷ []) (s ∷ []) (keyword keywords.Supertype
    ∷ keyword keywords.Of ∷ mark marks.Open ∷ []) here b
super_open s t here e shows k h = passes_join (super_of s t here e shows k)
    (passes_more (Running in_parentheses 1 [] false ∷ Sub ∷ []) h)

super_said : {a b c : Reading} (x : Supertype) (s t : LocatedToken) (here : Reading) → is_keyword keywords.Supertype
    s.lookahead ≡ true → Shows here t a → is_keyword keywords.Of t.lookahead ≡ true → Passes (Just marks.Open ∷ []) []
    [] (mark marks.Open ∷ []) a b
    → ((ws : List Word) × (words_of_supertype x ≡ keyword keywords.Supertype ∷ keyword keywords.Of ∷ mark marks.Open
    ∷ ws) × Passes (Running in_parentheses 1 [] false ∷ []) [] [] ws b c) → Passes (Super ∷ []) (Sub ∷ []) (s ∷ [])
    (words_of_supertype x) here c
super_said x s t here e shows k h g = passes_as (words_of_supertype x) (sym g.1)
    (passes_join (super_open s t here e shows k h) (passes_more (Sub ∷ []) g.2))

-- a fault after SUPERTYPE OF
pub super_err_open : {a : Reading} (f : SyntaxFault) (s t : LocatedToken) (here : Reading)
    → is_keyword keywords.Supertype s.lookahead ≡ true → Shows here t a → is_keyword keywords.Of t.lookahead ≡ true
    → StopsIn f (Just marks.Open ∷ []) [] a → StopsIn f (Super ∷ []) (s ∷ []) here
super_err_open f s t here e shows k g = stops_behind f (Just marks.Open ∷ []) (Running in_parentheses 1 [] false ∷ Sub
    ∷ []) (super_of s t here e shows k) g

-- a fault in the supertype expression
pub super_err_expression : {a b : Reading} (f : SyntaxFault) (s t : LocatedToken) (here : Reading)
    → is_keyword keywords.Supertype s.lookahead ≡ true → Shows here t a → is_keyword keywords.Of t.lookahead ≡ true
    → Passes (Just marks.Open ∷ []) [] [] (mark marks.Open ∷ []) a b
    → StopsIn f (Running in_parentheses 1 [] false ∷ []) [] b → StopsIn f (Super ∷ []) (s ∷ []) here
super_err_expression f s t here e shows k h g = stops_behind f (Running in_parentheses 1 [] false ∷ []) (Sub ∷ [])
    (super_open s t here e shows k h) g

-- a fault after the supertype expression
pub super_err_behind : {a b c : Reading} (f : SyntaxFault) (x : Supertype) (s t : LocatedToken) (here : Reading)
    → is_keyword keywords.Supertype s.lookahead ≡ true → Shows here t a → is_keyword keywords.Of t.lookahead ≡ true
    → Passes (Just marks.Open ∷ []) [] [] (mark marks.Open ∷ []) a b
    → ((ws : List Word) × (words_of_supertype x ≡ keyword keywords.Supertype ∷ keyword keywords.Of ∷ mark marks.Open
    ∷ ws) × Passes (Running in_parentheses 1 [] false ∷ []) [] [] ws b c) → StopsIn f (Sub ∷ []) [] c
    → StopsIn f (Super ∷ []) (s ∷ []) here
super_err_behind f x s t here e shows k h g stop = stops_behind f (Sub ∷ []) [] (super_said x s t here e shows k h g)
    stop

-- a fault after the supertype expression, from a token on that is taken
pub super_err_sub : {a b c d : Reading} (f : SyntaxFault) (x : Supertype) (s t u : LocatedToken) (here : Reading)
    → is_keyword keywords.Supertype s.lookahead ≡ true → Shows here t a → is_keyword keywords.Of t.lookahead ≡ true
    → Passes (Just marks.Open ∷ []) [] [] (mark marks.Open ∷ []) a b
    → ((ws : List Word) × (words_of_supertype x ≡ keyword keywords.Supertype ∷ keyword keywords.Of ∷ mark marks.Open
    ∷ ws) × Passes (Running in_parentheses 1 [] false ∷ []) [] [] ws b c) → Shows c u d
    → StopsIn f (Sub ∷ []) (u ∷ []) d → StopsIn f (Super ∷ []) (s ∷ []) here
super_err_sub f x s t u here e shows k h g last stop = super_err_behind f x s t here e shows k h g
    (stops_first f (Sub ∷ []) u last stop)

-- SUPERTYPE OF an expression, and what SUBTYPE says
pub super_done : {a b c d new : Reading} (us vs : List Word) (x : Supertype) (s t u : LocatedToken) (here : Reading)
    → is_keyword keywords.Supertype s.lookahead ≡ true → Shows here t a → is_keyword keywords.Of t.lookahead ≡ true
    → Passes (Just marks.Open ∷ []) [] [] (mark marks.Open ∷ []) a b
    → ((ws : List Word) × (words_of_supertype x ≡ keyword keywords.Supertype ∷ keyword keywords.Of ∷ mark marks.Open
    ∷ ws) × Passes (Running in_parentheses 1 [] false ∷ []) [] [] ws b c) → Shows c u d
    → Passes (Sub ∷ []) [] (u ∷ []) (us ++ vs) d new
    → Passes (Super ∷ []) [] (s ∷ []) (words_of_supertype x ++ us ++ vs) here new
super_done {a} {b} {c} {d} {new} us vs x s t u here e shows k h g last j =
    passes_as (words_of_supertype x ++ us ++ vs) (sym (append_assoc (words_of_supertype x) us vs))
    (passes_join (super_said x s t here e shows k h g) (passes_first u c last j))

-- one answer for another
pub answers_as : {A E : Type 0} {P Q : A → Type 0} {S T : E → Type 0} (r : Result A E) → ((x : A) → P x → Q x)
    → ((e : E) → S e → T e) → MatchResult r P S → MatchResult r Q T
answers_as (Ok x) f g h = f x h
answers_as (Err e) f g h = g e h

-- no ABSTRACT
pub head_plain : {a new : Reading} (h : code.Head) (s : LocatedToken) (old : Reading) → Shows old s a
    → is_keyword keywords.Abstract s.lookahead ≡ false → (h.is_abstract ≡ false) × FitsHead h
    × Passes (Super ∷ []) [] (s ∷ []) (words_of_types h) a new
    → FitsHead h × Passes (Head ∷ []) [] [] (words_of_beginning h) old new
head_plain h s old shows e g = (
  g.1,
  rw g.0
      (passes_first s old shows (passes_other Head Super s (head_next s.lookahead e) g.2)),
)

-- a fault in a head without ABSTRACT
pub head_err_plain : {a : Reading} (f : SyntaxFault) (s : LocatedToken) (old : Reading) → Shows old s a
    → is_keyword keywords.Abstract s.lookahead ≡ false → StopsIn f (Super ∷ []) (s ∷ []) a → StopsIn f (Head ∷ []) []
    old
head_err_plain {a} f s old shows e h = stops_first f (Head ∷ []) s shows
    (stops_as f Head Super s a (head_next s.lookahead e) h)

head_begins : {a : Reading} (s : LocatedToken) (old : Reading) → Shows old s a → is_keyword keywords.Abstract
    s.lookahead ≡ true → Passes (Head ∷ []) (Super ∷ []) [] (keyword keywords.Abstract ∷ []) old a
head_begins {a} s old shows e = passes_token Head (Super ∷ []) (keyword keywords.Abstract) s old a shows
    (keyword_met keywords.Abstract s.lookahead e) refl

-- what stops behind ABSTRACT
pub head_err_second : {a : Reading} (f : SyntaxFault) (s : LocatedToken) (old : Reading) → Shows old s a
    → is_keyword keywords.Abstract s.lookahead ≡ true → StopsIn f (Super ∷ []) [] a → StopsIn f (Head ∷ []) [] old
head_err_second f s old shows e g = stops_behind f (Super ∷ []) [] (head_begins s old shows e) g

-- ABSTRACT
pub head_abstract : {a b new : Reading} (h : code.Head) (s t : LocatedToken) (old : Reading) → Shows old s a
    → is_keyword keywords.Abstract s.lookahead ≡ true → Shows a t b → (h.is_abstract ≡ true) × FitsHead h
    × Passes (Super ∷ []) [] (t ∷ []) (words_of_types h) b new
    → FitsHead h × Passes (Head ∷ []) [] [] (words_of_beginning h) old new
head_abstract {a} h s t old shows e more g =
    (g.1, rw g.0 (passes_join (head_begins s old shows e) (passes_first t a more g.2)))

-- a fault after ABSTRACT, from a token on that is taken
pub head_err_abstract : {a b : Reading} (f : SyntaxFault) (s t : LocatedToken) (old : Reading) → Shows old s a
    → is_keyword keywords.Abstract s.lookahead ≡ true → Shows a t b → StopsIn f (Super ∷ []) (t ∷ []) b
    → StopsIn f (Head ∷ []) [] old
head_err_abstract f s t old shows e more g = head_err_second f s old shows e (stops_first f (Super ∷ []) t more g)

-- the parts of an entity, one behind another
abbrev entity_symbols : List Symbol
entity_symbols = Id ∷ Head ∷ Body explicits ∷ []

-- what stops the head
pub entity_err_head : {u : List Word} {old a : Reading} (f : SyntaxFault) → Passes (Id ∷ []) [] [] u old a
    → StopsIn f (Head ∷ []) [] a → StopsIn f entity_symbols [] old
entity_err_head f h g = stops_behind f (Head ∷ []) (Body explicits ∷ []) (passes_more (Head ∷ Body explicits ∷ []) h) g

-- what stops the clauses
pub entity_err_clauses : {u v : List Word} {old a b : Reading} (f : SyntaxFault) → Passes (Id ∷ []) [] [] u old a
    → Passes (Head ∷ []) [] [] v a b → StopsIn f (Body explicits ∷ []) [] b → StopsIn f entity_symbols [] old
entity_err_clauses f h g stop = stops_behind f (Body explicits ∷ []) []
    (passes_then h (passes_more (Body explicits ∷ []) g)) stop

-- a head and clauses, grouped by what stands first
words_regrouped : (h a b c d e f : List Word) → h ++ a ++ b ++ c ++ d ++ e ++ f ≡ h ++ (a ++ b ++ c ++ d ++ e ++ f)
words_regrouped h a b c d e f =
    append_assoc (h ++ a ++ b ++ c ++ d) e f ∙ append_assoc (h ++ a ++ b ++ c) d (e ++ f) ∙ append_assoc (h ++ a ++ b) c
    (d ++ (e ++ f)) ∙ append_assoc (h ++ a) b (c ++ (d ++ (e ++ f)))
    ∙ append_assoc h a (b ++ (c ++ (d ++ (e ++ f))))
    ∙ ap (λ l. h ++ l) (sym (append_assoc (a ++ b ++ c ++ d) e f ∙ append_assoc (a ++ b ++ c) d (e ++ f)
    ∙ append_assoc (a ++ b) c (d ++ (e ++ f)) ∙ append_assoc a b (c ++ (d ++ (e ++ f)))))

-- an entity of a name, a head and clauses
abbrev entity_with : List ℕ → code.Head → Clauses → Entity
entity_with n h x = record {
  name = n;
  is_abstract = h.is_abstract;
  supertype = supertype_of h.supertype;
  subtype_of = if_some (λ names. names_of names.items) h.subtype_of;
  explicits = map explicit_of x.explicits.items;
  derived = if_some (λ list. map derived_of list.items) x.derived;
  inverses = if_some (λ list. map inverse_of list.items) x.inverses;
  uniques = if_some (λ us. map unique_of us.items) x.uniques;
  rules = if_some (λ rs. rules_of rs.items) x.rules;
}

entity_fits : (n : List ℕ) (h : code.Head) (x : Clauses) → FitsHead h → FitsClauses x
    → FitsEntity depth_limit (entity_with n h x)
entity_fits n h x f g = record {
  supertype = f.supertype;
  subtype_of = f.subtype_of;
  explicits = g.explicits;
  derived = g.derived;
  inverses = g.inverses;
  uniques = g.uniques;
  rules = g.rules;
}

entity_words : (n : List ℕ) (h : code.Head) (x : Clauses) → words_of_entity (entity_with n h x) ≡ keyword
    keywords.Entity ∷ name n ∷ (words_of_beginning h ++ words_of_clauses x)
entity_words n h x =
    ap (λ l. keyword keywords.Entity ∷ name n ∷ l)
    (words_regrouped (words_of_beginning h) (concatenated (map words_of_explicit (map explicit_of x.explicits.items)))
    (words_of_clause keywords.Derive words_of_derived (if_some (λ list. map derived_of list.items) x.derived))
    (words_of_clause keywords.Inverse words_of_inverse (if_some (λ list. map inverse_of list.items) x.inverses))
    (words_of_clause keywords.Unique words_of_unique (if_some (λ us. map unique_of us.items) x.uniques))
    (words_of_clause keywords.Where words_of_rule (if_some (λ rs. rules_of rs.items) x.rules))
    (keyword keywords.EndEntity ∷ mark marks.Semicolon ∷ []))

-- an entity of a name, a head and clauses is read
pub entity_done : (n : List ℕ) (h : code.Head) (x : Clauses) (old a b new : Reading)
    → Passes (Id ∷ []) [] [] (name n ∷ []) old a → FitsHead h × Passes (Head ∷ []) [] [] (words_of_beginning h) a b
    → FitsClauses x × Passes (Body explicits ∷ []) [] [] (words_of_clauses x) b new
    → FitsEntity depth_limit (entity_with n h x) × (ws : List Word)
    × (words_of_entity (entity_with n h x) ≡ keyword keywords.Entity ∷ ws) × Passes entity_symbols [] [] ws old new
entity_done n h x old a b new p f g = (
  entity_fits n h x f.0 g.0,
  name n ∷ (words_of_beginning h ++ words_of_clauses x),
  entity_words n h x,
  passes_then p (passes_then f.1 g.1),
)
