-- Words are decided: whether two are the same, and whether some are those of an expression, a bound, a width or a
-- supertype expression.
use Rattle.std.proofs.Common.{◌≡◌, ℕ, ◌+◌, ◌<◌, ◌≤◌, suc, ltb, Bool, true, false, if◌then◌else◌, List, [], ◌∷◌, ◌++◌, length, Option, None, Some, map, codes, refl, sym, ap, ◌∙◌, subst, arith, append-nil, ◌⊎◌, inl, inr}
use Rattle.std.specs.Str.{bytes_eq}
use Rattle.std.proofs.lemmas.Slice.Eq.{bytes_eq-Decides}
use Rattle.express_lexer.specs.declared.marks.Mark.{Mark}
use Rattle.express_lexer.specs.declared.marks.Mark.TheVariants as marks
use Rattle.express_lexer.specs.Marks.{mark_text}
use Rattle.express_syntax.specs.declared.keyword.Keyword.{Keyword}
use Rattle.express_syntax.specs.declared.keyword.Keyword.TheVariants as keywords
use Rattle.express_syntax.specs.declared.expression.Sign.TheVariants as signs
use Rattle.express_syntax.specs.Keywords.{keyword_text, keyword_at}
use Rattle.express_syntax.specs.Words.{Word, keyword, name, integer, real, string, encoded, binary, mark}
use Rattle.express_syntax.specs.Trees.{Tree, literal, signed, reference, parenthesized, aggregate, interval, query, call, nvl, negation, conjunction, disjunction, comparison, Trees, none, one, Alternatives, finish, another, Qualifiers, plain, attribute, group, index, words}
use Rattle.express_syntax.specs.Grammar.{Level, primary, unary, term, simple, expression, level_rank, depth_limit, FitsLevel, FitsEach, FitsOthers, FitsAlternatives, FitsMore, FitsQualifiers, IsExpression, IsNone}
use Rattle.express_syntax.proofs.Parser.{parser}
use Rattle.express_syntax.proofs.Parsed.{reads}
use Rattle.express_syntax.proofs.Nothing.{none_parsed, none_fits}
use Rattle.express_syntax.specs.Schemas as schemas
use Rattle.express_syntax.specs.WrittenSchemas.{words_of_name, words_of_names, words_of_bound, concatenated}
use Rattle.express_syntax.specs.Profile.{IsFilled, IsBoundText, IsSupertypeText}

-- it holds or it doesn't
abbrev pub Decided : Type 0 → Type 0
Decided A = A ⊎ (A → ⊥)

pub both : {A B : Type 0} → Decided A → Decided B → Decided (A × B)
both (inl a) (inl b) = inl (a, b)
both (inl a) (inr g) = inr (λ h. g h.1)
both (inr f) b = inr (λ h. f h.0)

pub all_three : {A B C : Type 0} → Decided A → Decided B → Decided C → Decided (A × B × C)
all_three (inl a) (inl b) (inl c) = inl (a, b, c)
all_three (inr f) b c = inr (λ h. f h.0)
all_three (inl a) (inr f) c = inr (λ h. f h.1)
all_three (inl a) (inl b) (inr f) = inr (λ h. f h.2)

pub all_four : {A B C D : Type 0} → Decided A → Decided B → Decided C → Decided D → Decided (A × B × C × D)
all_four (inl a) (inl b) (inl c) (inl d) = inl (a, b, c, d)
all_four (inr f) b c d = inr (λ h. f h.0)
all_four (inl a) (inr f) c d = inr (λ h. f h.1)
all_four (inl a) (inl b) (inr f) d = inr (λ h. f h.2)
all_four (inl a) (inl b) (inl c) (inr f) = inr (λ h. f h.3)

-- numbers
pub below : (a b : ℕ) → Decided (a < b)
below a b = by (ltb a b) refl
  where
    by : (t : Bool) → ltb a b ≡ t → Decided (a < b)
    by true e = inl (let h : a < b = grind arith in h)
    by false e = inr (λ h. grind arith)

pub at_most : (a b : ℕ) → Decided (a ≤ b)
at_most a b = by (below b a)
  where
    by : Decided (b < a) → Decided (a ≤ b)
    by (inl h) = inr (λ k. omega arith)
    by (inr h) = inl (by_other h)
      where
        by_other : (b < a → ⊥) → a ≤ b
        by_other h = grind arith

-- marks are told apart by their spelling
abbrev mark_among : List Mark → List ℕ → Option Mark
mark_among [] t = None
mark_among (m ∷ ms) t = if bytes_eq (mark_text m) t then Some m else mark_among ms t

abbrev every_mark : List Mark
every_mark = marks.Semicolon ∷ marks.Comma ∷ marks.Colon ∷ marks.Dot ∷ marks.Open ∷ marks.Close ∷ marks.OpenBracket
    ∷ marks.CloseBracket ∷ marks.OpenBrace ∷ marks.CloseBrace ∷ marks.Equal ∷ marks.NotEqual ∷ marks.Less
    ∷ marks.Greater ∷ marks.LessOrEqual ∷ marks.GreaterOrEqual ∷ marks.Assign ∷ marks.InstanceEqual
    ∷ marks.InstanceNotEqual ∷ marks.Plus ∷ marks.Minus ∷ marks.Times ∷ marks.Divide ∷ marks.Power ∷ marks.Combine
    ∷ marks.Bar ∷ marks.QuerySource ∷ marks.Unknown ∷ marks.Backslash ∷ []

mark_found : (m : Mark) → mark_among every_mark (mark_text m) ≡ Some m
mark_found marks.Semicolon = refl
mark_found marks.Comma = refl
mark_found marks.Colon = refl
mark_found marks.Dot = refl
mark_found marks.Open = refl
mark_found marks.Close = refl
mark_found marks.OpenBracket = refl
mark_found marks.CloseBracket = refl
mark_found marks.OpenBrace = refl
mark_found marks.CloseBrace = refl
mark_found marks.Equal = refl
mark_found marks.NotEqual = refl
mark_found marks.Less = refl
mark_found marks.Greater = refl
mark_found marks.LessOrEqual = refl
mark_found marks.GreaterOrEqual = refl
mark_found marks.Assign = refl
mark_found marks.InstanceEqual = refl
mark_found marks.InstanceNotEqual = refl
mark_found marks.Plus = refl
mark_found marks.Minus = refl
mark_found marks.Times = refl
mark_found marks.Divide = refl
mark_found marks.Power = refl
mark_found marks.Combine = refl
mark_found marks.Bar = refl
mark_found marks.QuerySource = refl
mark_found marks.Unknown = refl
mark_found marks.Backslash = refl

keyword_found : (k : Keyword) → keyword_at (keyword_text k) ≡ Some k
keyword_found keywords.Abstract = refl
keyword_found keywords.And = refl
keyword_found keywords.Array = refl
keyword_found keywords.Bag = refl
keyword_found keywords.BasedOn = refl
keyword_found keywords.Binary = refl
keyword_found keywords.Boolean = refl
keyword_found keywords.Derive = refl
keyword_found keywords.EndEntity = refl
keyword_found keywords.EndSchema = refl
keyword_found keywords.EndType = refl
keyword_found keywords.Entity = refl
keyword_found keywords.Enumeration = refl
keyword_found keywords.Exists = refl
keyword_found keywords.Extensible = refl
keyword_found keywords.False = refl
keyword_found keywords.Fixed = refl
keyword_found keywords.For = refl
keyword_found keywords.GenericEntity = refl
keyword_found keywords.Hiindex = refl
keyword_found keywords.In = refl
keyword_found keywords.Integer = refl
keyword_found keywords.Inverse = refl
keyword_found keywords.List = refl
keyword_found keywords.Logical = refl
keyword_found keywords.Loindex = refl
keyword_found keywords.Not = refl
keyword_found keywords.Number = refl
keyword_found keywords.Nvl = refl
keyword_found keywords.Of = refl
keyword_found keywords.Optional = refl
keyword_found keywords.Or = refl
keyword_found keywords.Query = refl
keyword_found keywords.Real = refl
keyword_found keywords.Reference = refl
keyword_found keywords.Renamed = refl
keyword_found keywords.Schema = refl
keyword_found keywords.Select = refl
keyword_found keywords.SelfWord = refl
keyword_found keywords.Set = refl
keyword_found keywords.Sizeof = refl
keyword_found keywords.String = refl
keyword_found keywords.Subtype = refl
keyword_found keywords.Supertype = refl
keyword_found keywords.True = refl
keyword_found keywords.Type = refl
keyword_found keywords.Typeof = refl
keyword_found keywords.Unique = refl
keyword_found keywords.Unknown = refl
keyword_found keywords.Use = refl
keyword_found keywords.Where = refl
keyword_found keywords.Xor = refl

same_some : {A : Type 0} (a b : A) → ◌≡◌ {A = Option A} (Some a) (Some b) → a ≡ b
same_some a b e = cc

pub mark_is : (m k : Mark) → bytes_eq (mark_text m) (mark_text k) ≡ true → m ≡ k
mark_is m k e = same_some m k (sym (mark_found m) ∙ ap (mark_among every_mark)
    ((bytes_eq-Decides (mark_text m) (mark_text k)).0 e) ∙ mark_found k)

pub keyword_is : (k j : Keyword) → bytes_eq (keyword_text k) (keyword_text j) ≡ true → k ≡ j
keyword_is k j e = same_some k j (sym (keyword_found k)
    ∙ ap keyword_at ((bytes_eq-Decides (keyword_text k) (keyword_text j)).0 e) ∙ keyword_found j)

true_or_false : (b : Bool) → b ≡ true → b ≡ false → ⊥
true_or_false b e f = cc

pub bytes_decided : (s t : List ℕ) → Decided (s ≡ t)
bytes_decided s t = by (bytes_eq s t) refl
  where
    by : (b : Bool) → bytes_eq s t ≡ b → Decided (s ≡ t)
    by true e = inl ((bytes_eq-Decides s t).0 e)
    by false e = inr (λ h. true_or_false (bytes_eq s t) ((bytes_eq-Decides s t).1 h) e)

pub mark_decided : (m k : Mark) → Decided (m ≡ k)
mark_decided m k = by (bytes_decided (mark_text m) (mark_text k))
  where
    by : Decided (mark_text m ≡ mark_text k) → Decided (m ≡ k)
    by (inl e) = inl (mark_is m k ((bytes_eq-Decides (mark_text m) (mark_text k)).1 e))
    by (inr f) = inr (λ e. f (ap mark_text e))

pub keyword_decided : (k j : Keyword) → Decided (k ≡ j)
keyword_decided k j = by (bytes_decided (keyword_text k) (keyword_text j))
  where
    by : Decided (keyword_text k ≡ keyword_text j) → Decided (k ≡ j)
    by (inl e) = inl (keyword_is k j ((bytes_eq-Decides (keyword_text k) (keyword_text j)).1 e))
    by (inr f) = inr (λ e. f (ap keyword_text e))

-- equality of words with one constructor is decided if that of their parts is
made : {A : Type 0} (c : A → Word) (a b : A) → (c a ≡ c b → a ≡ b) → Decided (a ≡ b) → Decided (c a ≡ c b)
made c a b inside (inl e) = inl (ap c e)
made c a b inside (inr f) = inr (λ e. f (inside e))

pub word_decided : (v w : Word) → Decided (v ≡ w)
word_decided (keyword k) (keyword j) = made keyword k j (λ e. cc) (keyword_decided k j)
word_decided (name s) (name t) = made name s t (λ e. cc) (bytes_decided s t)
word_decided (integer s) (integer t) = made integer s t (λ e. cc) (bytes_decided s t)
word_decided (real s) (real t) = made real s t (λ e. cc) (bytes_decided s t)
word_decided (string s) (string t) = made string s t (λ e. cc) (bytes_decided s t)
word_decided (encoded s) (encoded t) = made encoded s t (λ e. cc) (bytes_decided s t)
word_decided (binary s) (binary t) = made binary s t (λ e. cc) (bytes_decided s t)
word_decided (mark m) (mark k) = made mark m k (λ e. cc) (mark_decided m k)
word_decided _ _ = inr (λ e. cc)

pub words_decided : (v w : List Word) → Decided (v ≡ w)
words_decided [] [] = inl refl
words_decided [] (y ∷ w) = inr (λ e. cc)
words_decided (x ∷ v) [] = inr (λ e. cc)
words_decided (x ∷ v) (y ∷ w) = by (word_decided x y) (words_decided v w)
  where
    by : Decided (x ≡ y) → Decided (v ≡ w) → Decided (x ∷ v ≡ y ∷ w)
    by (inl e) (inl f) = inl cc
    by (inr f) d = inr (λ e. f (cc))
    by (inl e) (inr f) = inr (λ e. f (cc))

-- whether a tree fits
mutual
  pub fits_decided : (n : ℕ) (l : Level) (x : Tree) → Decided (FitsLevel n l x)
  fits_decided n l (literal v) = inl tt
  fits_decided n l (signed s v) = at_most (level_rank unary) (level_rank l)
  fits_decided n l (reference r qs) = qualifiers_decided n qs
  fits_decided n l (parenthesized x) = both (below n depth_limit) (fits_decided (n + 1) expression x)
  fits_decided n l (aggregate xs) = both (below n depth_limit) (each_decided (n + 1) expression xs)
  fits_decided n l (interval low above x under high) = all_four (below n depth_limit) (fits_decided (n + 1) simple low)
      (fits_decided (n + 1) simple x) (fits_decided (n + 1) simple high)
  fits_decided n l (query v source condition) = all_three (below n depth_limit) (fits_decided (n + 1) simple source)
      (fits_decided (n + 1) expression condition)
  fits_decided n l (call f x) = both (below n depth_limit) (fits_decided (n + 1) expression x)
  fits_decided n l (nvl x y) = all_three (below n depth_limit) (fits_decided (n + 1) expression x)
      (fits_decided (n + 1) expression y)
  fits_decided n l (negation x) = both (at_most (level_rank unary) (level_rank l)) (fits_decided n primary x)
  fits_decided n l (conjunction x xs) = all_three (at_most (level_rank term) (level_rank l)) (fits_decided n unary x)
      (others_decided n xs)
  fits_decided n l (disjunction x xs) = all_three (at_most (level_rank simple) (level_rank l)) (fits_decided n term x)
      (alternatives_decided n xs)
  fits_decided n l (comparison x r y) = all_three (at_most (level_rank expression) (level_rank l)) (fits_decided n simple x)
      (fits_decided n simple y)

  pub each_decided : (n : ℕ) (l : Level) (xs : Trees) → Decided (FitsEach n l xs)
  each_decided n l none = inl tt
  each_decided n l (one x xs) = both (fits_decided n l x) (each_decided n l xs)

  pub others_decided : (n : ℕ) (xs : Trees) → Decided (FitsOthers n xs)
  others_decided n none = inr (λ h. h)
  others_decided n (one x xs) = both (fits_decided n unary x) (each_decided n unary xs)

  pub alternatives_decided : (n : ℕ) (xs : Alternatives) → Decided (FitsAlternatives n xs)
  alternatives_decided n finish = inr (λ h. h)
  alternatives_decided n (another j x xs) = both (fits_decided n term x) (more_decided n xs)

  pub more_decided : (n : ℕ) (xs : Alternatives) → Decided (FitsMore n xs)
  more_decided n finish = inl tt
  more_decided n (another j x xs) = both (fits_decided n term x) (more_decided n xs)

  pub qualifiers_decided : (n : ℕ) (qs : Qualifiers) → Decided (FitsQualifiers n qs)
  qualifiers_decided n plain = inl tt
  qualifiers_decided n (attribute a qs) = qualifiers_decided n qs
  qualifiers_decided n (group e a qs) = qualifiers_decided n qs
  qualifiers_decided n (index x qs) = all_three (below n depth_limit) (fits_decided (n + 1) simple x)
      (qualifiers_decided n qs)

-- whether words are those of an expression
pub expression_decided : (n : ℕ) (ws : List Word) → ((x : Tree) × IsExpression n ws x) ⊎ IsNone n ws
expression_decided n ws = by ((parser (suc (length ws))).at expression ws) refl
  where
    by : (o : Option (Tree × List Word)) → (parser (suc (length ws))).at expression ws ≡ o
        → ((x : Tree) × IsExpression n ws x) ⊎ IsNone n ws
    by None e = inr (none_parsed n ws (rw e refl))
    by (Some (x, w ∷ more)) e = inr (none_parsed n ws (rw e refl))
    by (Some (x, [])) e = whole (fits_decided n expression x) (words_decided ws (words x))
      where
        whole : Decided (FitsLevel n expression x) → Decided (ws ≡ words x) → ((x : Tree) × IsExpression n ws x)
            ⊎ IsNone n ws
        whole (inl f) (inl s) = inl (x, record { fits = f; spelled = s })
        whole (inr f) s = inr (none_fits n ws x e f)
        whole (inl f) (inr s) = inr (λ y h. s (spelled y h))
          where
            spelled : (y : Tree) → IsExpression n ws y → ws ≡ words x
            spelled y h =
                let long : length ws ≡ length (words y) = ap length h.spelled in
                let d : ws ≡ words y ++ [] = h.spelled ∙ sym (append-nil (words y)) in
                let g : ◌≡◌ {A = Option (Tree × List Word)} (Some (y, [])) (Some (x, [])) =
                sym (reads y n expression [] (suc (length ws)) h.fits tt (omega arith))
                ∙ sym (ap ((parser (suc (length ws))).at expression) d) ∙ e in
                let f : Option (Tree × List Word) → Tree = elim [ None ↦ x | Some p ↦ p.0 ] in
                h.spelled ∙ ap (λ o. words (f o)) g

-- the integer among words that is spelt last
integer_in : List Word → List ℕ
integer_in [] = []
integer_in (integer n ∷ ws) = n
integer_in (w ∷ ws) = integer_in ws

-- a bound that is no run
abbrev pub IsPlainBound : schemas.Bound → Type 0
IsPlainBound (schemas.other_bound r) = ⊥
IsPlainBound b = Unit {0}

abbrev PlainBound : List Word → Type 0
PlainBound ws = (b : schemas.Bound) × IsPlainBound b × (words_of_bound b ≡ ws)

pub bound_decided : (ws : List Word) → PlainBound ws ⊎ (IsBoundText ws → ⊥)
unfolding integer_in
bound_decided ws =
    let n : List ℕ = integer_in ws in
    by n (λ m e. ap integer_in e) (λ m e. ap integer_in e) (λ m e. ap integer_in e) (words_decided ws (integer n ∷ []))
    (words_decided ws (mark marks.Plus ∷ integer n ∷ [])) (words_decided ws (mark marks.Minus ∷ integer n ∷ []))
    (words_decided ws (mark marks.Unknown ∷ []))
  where
    by : (n : List ℕ) → ((m : List ℕ) → ws ≡ integer m ∷ [] → n ≡ m) → ((m : List ℕ) → ws ≡ mark marks.Plus ∷ integer m
        ∷ [] → n ≡ m) → ((m : List ℕ) → ws ≡ mark marks.Minus ∷ integer m ∷ [] → n ≡ m)
        → Decided (ws ≡ integer n ∷ []) → Decided (ws ≡ mark marks.Plus ∷ integer n ∷ [])
        → Decided (ws ≡ mark marks.Minus ∷ integer n ∷ []) → Decided (ws ≡ mark marks.Unknown ∷ []) → PlainBound ws
        ⊎ (IsBoundText ws → ⊥)
    by n a b c (inl e) q r u = inl (schemas.value None n, tt, sym e)
    by n a b c (inr f) (inl e) r u = inl (schemas.value (Some signs.Plus) n, tt, sym e)
    by n a b c (inr f) (inr g) (inl e) u = inl (schemas.value (Some signs.Minus) n, tt, sym e)
    by n a b c (inr f) (inr g) (inr h) (inl e) = inl (schemas.unlimited, tt, sym e)
    by n a b c (inr f) (inr g) (inr h) (inr k) = inr (λ t. out t)
      where
        out : IsBoundText ws → ⊥
        out (inl (None, m, e)) = f (e ∙ ap (λ t. integer t ∷ []) (sym (a m e)))
        out (inl (Some signs.Plus, m, e)) = g (e ∙ ap (λ t. mark marks.Plus ∷ integer t ∷ []) (sym (b m e)))
        out (inl (Some signs.Minus, m, e)) = h (e ∙ ap (λ t. mark marks.Minus ∷ integer t ∷ []) (sym (c m e)))
        out (inr e) = k e

-- one integer
pub width_decided : (ws : List Word) → ((t : List ℕ) × (ws ≡ integer t ∷ [])) ⊎ ((t : List ℕ) → ws ≡ integer t ∷ [] → ⊥)
unfolding integer_in
width_decided ws =
    let n : List ℕ = integer_in ws in
    by n (λ m e. ap integer_in e) (words_decided ws (integer n ∷ []))
  where
    by : (n : List ℕ) → ((m : List ℕ) → ws ≡ integer m ∷ [] → n ≡ m) → Decided (ws ≡ integer n ∷ [])
        → ((t : List ℕ) × (ws ≡ integer t ∷ [])) ⊎ ((t : List ℕ) → ws ≡ integer t ∷ [] → ⊥)
    by n a (inl e) = inl (n, e)
    by n a (inr f) = inr (λ t e. f (e ∙ ap (λ l. integer l ∷ []) (sym (a t e))))

-- the names among words
names_in : List Word → List (List ℕ)
names_in [] = []
names_in (name n ∷ ws) = n ∷ names_in ws
names_in (w ∷ ws) = names_in ws

-- names with a comma before each
abbrev pub words_of_more_names : List (List ℕ) → List Word
words_of_more_names names = concatenated (map (λ us. mark marks.Comma ∷ us) (map words_of_name names))

names_in_more : (names : List (List ℕ)) → names_in (words_of_more_names names ++ mark marks.Close ∷ []) ≡ names
unfolding names_in
names_in_more [] = refl
names_in_more (n ∷ names) = ap (λ l. n ∷ l) (names_in_more names)

names_in_names : (names : List (List ℕ)) → names_in (words_of_names names) ≡ names
unfolding names_in
names_in_names [] = refl
names_in_names (n ∷ names) = ap (λ l. n ∷ l) (names_in_more names)

first_name : List (List ℕ) → List ℕ
first_name [] = []
first_name (n ∷ names) = n

other_names : List (List ℕ) → List (List ℕ)
other_names [] = []
other_names (n ∷ names) = names

abbrev words_of_one_of : List (List ℕ) → List Word
words_of_one_of names = name (codes "ONEOF") ∷ words_of_names names

filled_decided : {A : Type 0} (xs : List A) → Decided (IsFilled xs)
filled_decided [] = inr (λ h. h)
filled_decided (x ∷ xs) = inl tt

pub supertype_decided : (ws : List Word) → Decided (IsSupertypeText ws)
unfolding names_in first_name other_names
supertype_decided ws =
    let n : List ℕ = first_name (names_in ws) in
    let ns : List (List ℕ) = other_names (names_in ws) in
    by n ns (λ m e. ap (λ l. first_name (names_in l)) e) (λ ms e. ap (λ l. other_names (names_in l)) e
    ∙ names_in_names ms) (words_decided ws (name n ∷ [])) (filled_decided ns)
    (words_decided ws (words_of_one_of ns))
  where
    by : (n : List ℕ) (ns : List (List ℕ)) → ((m : List ℕ) → ws ≡ name m ∷ [] → n ≡ m)
        → ((ms : List (List ℕ)) → ws ≡ words_of_one_of ms → ns ≡ ms) → Decided (ws ≡ name n ∷ [])
        → Decided (IsFilled ns) → Decided (ws ≡ words_of_one_of ns) → Decided (IsSupertypeText ws)
    by n ns a b (inl e) p q = inl (inl (n, e))
    by n ns a b (inr f) (inl p) (inl e) = inl (inr (ns, p, e))
    by n ns a b (inr f) (inr g) q = inr (λ t. out t)
      where
        out : IsSupertypeText ws → ⊥
        out (inl h) = f (h.1 ∙ ap (λ l. name l ∷ []) (sym (a h.0 h.1)))
        out (inr h) = g (subst IsFilled (sym (b h.0 h.2)) h.1)
    by n ns a b (inr f) (inl p) (inr g) = inr (λ t. out t)
      where
        out : IsSupertypeText ws → ⊥
        out (inl h) = f (h.1 ∙ ap (λ l. name l ∷ []) (sym (a h.0 h.1)))
        out (inr h) = g (h.2 ∙ ap words_of_one_of (sym (b h.0 h.2)))
