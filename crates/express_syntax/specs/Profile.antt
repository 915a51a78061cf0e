-- The trees that are schemas: the conditions on them beside their words, and the parts that are
-- runs of tokens.
use Rattle.std.specs.Prelude.{◌≡◌, ℕ, ◌+◌, ◌<◌, List, [], ◌∷◌, ◌++◌, Option, None, Some, codes, ◌⊎◌, Bool}
use Rattle.express_lexer.specs.declared.marks.Mark.TheVariants as marks
use Rattle.express_syntax.specs.declared.keyword.Keyword.{Keyword}
use Rattle.express_syntax.specs.declared.keyword.Keyword.TheVariants as keywords
use Rattle.express_syntax.specs.Words.{Word, keyword, name, mark}
use Rattle.express_syntax.specs.Words as words
use Rattle.express_syntax.specs.Grammar.{FitsLevel, expression, IsNone}
use Rattle.express_syntax.specs.Runs.{words_of_run, FitsRun, IsSome, in_rule, in_lower, in_brackets, FitsRoutine}
use Rattle.express_syntax.specs.Schemas.{Body, parsed, set_aside, Rule, Bound, value, unlimited, other_bound, Bounds, Width, width, other_width, DataType, real, string, binary, array, list, bag, set, Underlying, enumeration, select, data_type, TypeDeclaration, Supertype, of_one_of, of_other, Explicit, Derived, Collection, alone, in_set, in_bag, Inverse, Unique, Entity, Skipped, function, procedure, rule, constants, subtype_constraint, Declaration, type, entity, skipped, Schema}
use Rattle.express_syntax.specs.WrittenSchemas.{words_of_sign, words_of_names, words_of_body}

-- P holds of each element of a list
abbrev pub Every : {A : Type 0} → (A → Type 0) → List A → Type 0
Every P [] = Unit {0}
Every P (x ∷ xs) = P x × Every P xs

-- P holds of the element, if any
abbrev pub Maybe : {A : Type 0} → (A → Type 0) → Option A → Type 0
Maybe P None = Unit {0}
Maybe P (Some x) = P x

-- the list has at least one element
abbrev pub IsFilled : {A : Type 0} → List A → Type 0
IsFilled [] = ⊥
IsFilled (x ∷ xs) = Unit {0}

-- An expression, or at least one word up to the semicolon, where the words are no expression.
abbrev pub FitsBody : ℕ → Body → Type 0
FitsBody levels (parsed x) = FitsLevel 0 expression x
FitsBody levels (set_aside r) = FitsRun levels in_rule 0 r × IsSome r × IsNone 0 (words_of_run r)

-- What a rule without a label may begin with: not a name and a colon, which would be its label, and
-- not the word that ends the rules.
abbrev pub Begins : Keyword → List Word → Type 0
Begins end (keyword k ∷ ws) = (k ≡ end → ⊥)
Begins end (name n ∷ mark marks.Colon ∷ ws) = ⊥
Begins end ws = Unit {0}

abbrev pub BeginsRule : Keyword → Rule → Type 0
BeginsRule end r = r.label ≡ None → Begins end (words_of_body r.body)

-- rules up to the word that ends them
abbrev pub FitsRules : ℕ → Keyword → List Rule → Type 0
FitsRules levels end rules = Every (λ (r : Rule). FitsBody levels r.body × BeginsRule end r) rules

-- the words of a bound that has a tree
abbrev pub IsBoundText : List Word → Type 0
IsBoundText ws = ((s : _) × (n : List ℕ) × (ws ≡ words_of_sign s ++ words.integer n ∷ []))
    ⊎ (ws ≡ mark marks.Unknown ∷ [])

-- a bound, with n brackets and aggregate types open around it
abbrev pub FitsBound : ℕ → (Word → Bool) → ℕ → Bound → Type 0
FitsBound levels may n (value s t) = Unit {0}
FitsBound levels may n unlimited = Unit {0}
FitsBound levels may n (other_bound r) = FitsRun levels may n r × IsSome r × (IsBoundText (words_of_run r) → ⊥)

-- bounds inside their brackets, with n brackets and aggregate types open around these
abbrev pub FitsBounds : ℕ → ℕ → Bounds → Type 0
FitsBounds levels n b = (n < levels) × FitsBound levels in_lower (n + 1) b.lower × FitsBound levels in_brackets (n + 1)
    b.upper

abbrev pub FitsWidth : ℕ → ℕ → Width → Type 0
FitsWidth levels n (width t) = n < levels
FitsWidth levels n (other_width r) = (n < levels) × FitsRun levels in_brackets (n + 1) r × IsSome r
    × ((t : List ℕ) → words_of_run r ≡ words.integer t ∷ [] → ⊥)

-- A data type, with n aggregate types open around it. An aggregate type counts for what follows its
-- OF.
abbrev pub FitsDataType : ℕ → ℕ → DataType → Type 0
FitsDataType levels n (real w) = Maybe (FitsWidth levels n) w
FitsDataType levels n (string w) = Maybe (λ p. FitsWidth levels n p.0) w
FitsDataType levels n (binary w) = Maybe (λ p. FitsWidth levels n p.0) w
FitsDataType levels n (array b o u k) = (n < levels) × FitsBounds levels n b × FitsDataType levels (n + 1) k
FitsDataType levels n (list b u k) = (n < levels) × Maybe (FitsBounds levels n) b × FitsDataType levels (n + 1) k
FitsDataType levels n (bag b k) = (n < levels) × Maybe (FitsBounds levels n) b × FitsDataType levels (n + 1) k
FitsDataType levels n (set b k) = (n < levels) × Maybe (FitsBounds levels n) b × FitsDataType levels (n + 1) k
FitsDataType levels n k = Unit {0}

abbrev pub FitsUnderlying : ℕ → Underlying → Type 0
FitsUnderlying levels (enumeration names) = IsFilled names
FitsUnderlying levels (select names) = IsFilled names
FitsUnderlying levels (data_type k) = FitsDataType levels 0 k

abbrev pub FitsType : ℕ → TypeDeclaration → Type 0
FitsType levels t = FitsUnderlying levels t.underlying × Maybe (FitsRules levels keywords.EndType) t.rules

-- the words of a supertype expression that has a tree
abbrev pub IsSupertypeText : List Word → Type 0
IsSupertypeText ws = ((n : List ℕ) × (ws ≡ name n ∷ [])) ⊎ ((names : List (List ℕ)) × IsFilled names
    × (ws ≡ name (codes "ONEOF") ∷ words_of_names names))

abbrev pub FitsSupertype : ℕ → Supertype → Type 0
FitsSupertype levels (of_one_of names) = IsFilled names
FitsSupertype levels (of_other r) = FitsRun levels in_brackets 1 r × IsSome r × (IsSupertypeText (words_of_run r) → ⊥)
FitsSupertype levels s = Unit {0}

abbrev pub FitsCollection : ℕ → Collection → Type 0
FitsCollection levels alone = Unit {0}
FitsCollection levels (in_set b) = Maybe (FitsBounds levels 0) b
FitsCollection levels (in_bag b) = Maybe (FitsBounds levels 0) b

abbrev pub FitsExplicit : ℕ → Explicit → Type 0
FitsExplicit levels a = IsFilled a.attributes × FitsDataType levels 0 a.data_type

abbrev pub FitsDerived : ℕ → Derived → Type 0
FitsDerived levels a = FitsDataType levels 0 a.data_type × FitsBody levels a.body

abbrev pub FitsInverse : ℕ → Inverse → Type 0
FitsInverse levels a = FitsCollection levels a.collection

abbrev pub FitsUnique : Unique → Type 0
FitsUnique u = IsFilled u.attributes

pub record FitsEntity (levels : ℕ) (e : Entity) : Type 0 where
  pub supertype : FitsSupertype levels e.supertype
  pub subtype_of : Maybe IsFilled e.subtype_of
  pub explicits : Every (FitsExplicit levels) e.explicits
  pub derived : Maybe (Every (FitsDerived levels)) e.derived
  pub inverses : Maybe (Every (FitsInverse levels)) e.inverses
  pub uniques : Maybe (Every FitsUnique) e.uniques
  pub rules : Maybe (FitsRules levels keywords.EndEntity) e.rules

-- no word after the head of a declaration is the one that ends it
abbrev pub IsWithout : List ℕ → List Word → Type 0
IsWithout end ws = Every (λ w. w ≡ name end → ⊥) ws

abbrev pub FitsSkipped : Skipped → Type 0
FitsSkipped (function n r) = FitsRoutine r
FitsSkipped (procedure n r) = FitsRoutine r
FitsSkipped (rule n ws) = IsWithout (codes "END_RULE") ws
FitsSkipped (constants ws) = IsWithout (codes "END_CONSTANT") ws
FitsSkipped (subtype_constraint n ws) = IsWithout (codes "END_SUBTYPE_CONSTRAINT") ws

abbrev pub FitsDeclaration : ℕ → Declaration → Type 0
FitsDeclaration levels (type t) = FitsType levels t
FitsDeclaration levels (entity e) = FitsEntity levels e
FitsDeclaration levels (skipped s) = FitsSkipped s

-- a string, plain or encoded
abbrev pub IsVersion : Word → Type 0
IsVersion (words.string t) = Unit {0}
IsVersion (words.encoded t) = Unit {0}
IsVersion _ = ⊥

abbrev pub FitsSchema : ℕ → Schema → Type 0
FitsSchema levels x = Maybe IsVersion x.version × Every (FitsDeclaration levels) x.declarations
