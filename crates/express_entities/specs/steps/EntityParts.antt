-- Parts of an entity as they are read: its head, and its clauses one after another.
use Rattle.std.specs.Prelude.{◌≡◌, ℕ, Bool, true, List, [], ◌∷◌, ◌++◌, map, Option, None, Some}
use Rattle.express_lexer.specs.declared.marks.Mark.TheVariants as marks
use Rattle.express_lexer.specs.Reading.{Reading}
use Rattle.express_syntax.specs.declared.keyword.Keyword.{Keyword}
use Rattle.express_syntax.specs.declared.keyword.Keyword.TheVariants as keywords
use Rattle.express_syntax.specs.Words.{Word, keyword, mark}
use Rattle.express_syntax.specs.Grammar.{depth_limit}
use Rattle.express_entities.specs.declared.entities.Head.{Head}
use Rattle.express_entities.specs.declared.clauses.Boundary.{Boundary}
use Rattle.express_entities.specs.declared.clauses.Boundary.TheVariants as boundaries
use Rattle.express_entities.specs.declared.clauses.Clause as code
use Rattle.express_entities.specs.declared.clauses.Clause.TheVariants as clauses
use Rattle.express_entities.specs.declared.clauses.ClauseStart.{ClauseStart}
use Rattle.express_entities.specs.declared.clauses.ClauseStart.TheVariants as starts
use Rattle.express_entities.specs.declared.clauses.Clauses.{Clauses}
use Rattle.express_syntax.specs.Schemas.{Attribute, own, redeclared}
use Rattle.express_syntax.specs.Views.{if_some, names_of, supertype_of, attribute_of, explicit_of, derived_of, inverse_of, unique_of, rules_of}
use Rattle.express_syntax.specs.WrittenSchemas.{concatenated, said, words_of_attribute, words_of_clause, words_of_supertype, words_of_subtype, words_of_explicit, words_of_derived, words_of_inverse, words_of_unique, words_of_rule}
use Rattle.express_syntax.specs.Profile.{Every, Maybe, IsFilled, FitsSupertype, FitsExplicit, FitsDerived, FitsInverse, FitsUnique, FitsRules}
use Rattle.express_syntax.specs.Sources.{IsExplicitOf, IsDerivedOf, IsInverseOf, IsRuleOf}
use Rattle.express_syntax.specs.steps.Predict.{Clause, explicits, derived, inverses, uniques, follows, behind_name, behind_attribute, Symbol, Just, Body, Rules}
use Rattle.express_syntax.specs.steps.Steps.{Passes}

pub record FitsHead (h : Head) : Type 0 where
  pub supertype : FitsSupertype depth_limit (supertype_of h.supertype)
  pub subtype_of : Maybe IsFilled (if_some (λ names. names_of names.items) h.subtype_of)

-- the supertype and subtype clauses of a head, and the semicolon
abbrev pub words_of_types : Head → List Word
words_of_types h = words_of_supertype (supertype_of h.supertype)
    ++ words_of_subtype (if_some (λ names. names_of names.items) h.subtype_of) ++ mark marks.Semicolon ∷ []

-- ABSTRACT, if it is there, the supertype and subtype clauses of a head, and the semicolon
abbrev pub words_of_beginning : Head → List Word
words_of_beginning h = said keywords.Abstract h.is_abstract ++ words_of_supertype (supertype_of h.supertype)
    ++ words_of_subtype (if_some (λ names. names_of names.items) h.subtype_of) ++ mark marks.Semicolon ∷ []

abbrev pub clause_of : code.Clause → Clause
clause_of clauses.Explicits = explicits
clause_of clauses.Derived = derived
clause_of clauses.Inverses = inverses
clause_of clauses.Uniques = uniques

-- whether the keyword ends the clause
abbrev pub may_end : Clause → Boundary → Bool
may_end c boundaries.Derive = follows c derived
may_end c boundaries.Inverse = follows c inverses
may_end c boundaries.Unique = follows c uniques
may_end c boundaries.Where = true
may_end c boundaries.EndEntity = true

abbrev pub keyword_of : Boundary → Keyword
keyword_of boundaries.Derive = keywords.Derive
keyword_of boundaries.Inverse = keywords.Inverse
keyword_of boundaries.Unique = keywords.Unique
keyword_of boundaries.Where = keywords.Where
keyword_of boundaries.EndEntity = keywords.EndEntity

abbrev pub boundary_of : Keyword → Option Boundary
boundary_of keywords.Derive = Some boundaries.Derive
boundary_of keywords.Inverse = Some boundaries.Inverse
boundary_of keywords.Unique = Some boundaries.Unique
boundary_of keywords.Where = Some boundaries.Where
boundary_of keywords.EndEntity = Some boundaries.EndEntity
boundary_of _ = None

-- what is expected after the keyword
abbrev pub symbols_behind : Boundary → List Symbol
symbols_behind boundaries.Derive = Body derived ∷ []
symbols_behind boundaries.Inverse = Body inverses ∷ []
symbols_behind boundaries.Unique = Body uniques ∷ []
symbols_behind boundaries.Where = Rules keywords.EndEntity ∷ []
symbols_behind boundaries.EndEntity = Just marks.Semicolon ∷ []

-- what is expected after the first attribute of an item of the clause
abbrev pub behind_first : Clause → Attribute → List Symbol
behind_first c (own n) = behind_name c
behind_first c (redeclared e n) = behind_attribute c

-- the next part of the clause is read
abbrev pub Begins : Clause → ClauseStart → Reading → Reading → Type 0
Begins c (starts.Attribute a) old new = Passes (Body c ∷ []) (behind_first c (attribute_of a) ++ Body c ∷ []) []
    (words_of_attribute (attribute_of a)) old new
Begins c (starts.Boundary b) old new = (may_end c b ≡ true) × Passes (Body c ∷ []) (symbols_behind b) []
    (keyword (keyword_of b) ∷ []) old new

-- these items of the clause are read and satisfy the conditions
pub record Stand {A : Type 0} (c : Clause) (Fit : A → Type 0) (write : A → List Word) (xs : List A)
    (old new : Reading) : Type 0 where
  pub fits : Every Fit xs
  pub passes : Passes (Body c ∷ []) (Body c ∷ []) [] (concatenated (map write xs)) old new

-- these items of the clause up to this keyword are read and satisfy the conditions
pub record Ended {A : Type 0} (c : Clause) (Fit : A → Type 0) (write : A → List Word) (xs : List A) (b : Boundary)
    (old new : Reading) : Type 0 where
  pub fits : Every Fit xs
  pub ends : may_end c b ≡ true
  pub passes : Passes (Body c ∷ []) (symbols_behind b) [] (concatenated (map write xs) ++ keyword (keyword_of b) ∷ []) old new

-- A clause that may be absent is read from one keyword up to another. If the clause is present, the
-- first keyword is its own.
pub record Clausal {A : Type 0} (c : Clause) (k : Keyword) (Fit : A → Type 0) (write : A → List Word)
    (xs : Option (List A)) (from to : Boundary) (old new : Reading) : Type 0 where
  pub fits : Maybe (Every Fit) xs
  pub ends : may_end c to ≡ true
  pub behind : List Word
  pub words : keyword (keyword_of from) ∷ behind ≡ words_of_clause k write xs ++ keyword (keyword_of to) ∷ []
  pub passes : Passes (symbols_behind from) (symbols_behind to) [] behind old new

pub record FitsClauses (x : Clauses) : Type 0 where
  pub explicits : Every (FitsExplicit depth_limit) (map explicit_of x.explicits.items)
  pub derived : Maybe (Every (FitsDerived depth_limit)) (if_some (λ list. map derived_of list.items) x.derived)
  pub inverses : Maybe (Every (FitsInverse depth_limit)) (if_some (λ list. map inverse_of list.items) x.inverses)
  pub uniques : Maybe (Every FitsUnique) (if_some (λ us. map unique_of us.items) x.uniques)
  pub rules : Maybe (FitsRules depth_limit keywords.EndEntity) (if_some (λ rs. rules_of rs.items) x.rules)

abbrev pub words_of_clauses : Clauses → List Word
words_of_clauses x =
    concatenated (map words_of_explicit (map explicit_of x.explicits.items)) ++ words_of_clause keywords.Derive
    words_of_derived (if_some (λ list. map derived_of list.items) x.derived)
    ++ words_of_clause keywords.Inverse words_of_inverse (if_some (λ list. map inverse_of list.items) x.inverses)
    ++ words_of_clause keywords.Unique words_of_unique (if_some (λ us. map unique_of us.items) x.uniques)
    ++ words_of_clause keywords.Where words_of_rule (if_some (λ rs. rules_of rs.items) x.rules)
    ++ keyword keywords.EndEntity ∷ mark marks.Semicolon ∷ []

-- the passages in the clauses belong to this text
abbrev pub AreClausesOf : List ℕ → Clauses → Type 0
AreClausesOf text x =
    Every (IsExplicitOf text) x.explicits.items
    × Maybe (λ list. Every (IsDerivedOf text) list.items) x.derived
    × Maybe (λ list. Every (IsInverseOf text) list.items) x.inverses
    × Maybe (λ rs. Every (IsRuleOf text) rs.items) x.rules
