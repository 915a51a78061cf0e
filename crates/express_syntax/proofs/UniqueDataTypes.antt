-- Kinds, the types under defined types and the collections of inverse attributes are told by their words.
use Rattle.std.proofs.Common.{◌≡◌, ℕ, ◌+◌, Bool, true, false, List, [], ◌∷◌, ◌++◌, Option, None, Some, refl, sym, ap, ◌∙◌, subst, append_assoc}
use Rattle.express_lexer.specs.declared.marks.Mark.TheVariants as marks
use Rattle.express_syntax.specs.declared.keyword.Keyword.TheVariants as keywords
use Rattle.express_syntax.specs.Words.{Word, keyword, name, mark}
use Rattle.express_syntax.specs.Words as words
use Rattle.express_syntax.specs.Grammar.{depth_limit}
use Rattle.express_syntax.specs.Runs.{words_of_run}
use Rattle.express_syntax.specs.Schemas as schemas
use Rattle.express_syntax.specs.Schemas.{Bounds, Width, DataType, integer, number, boolean, logical, real, string, binary, named, array, list, bag, set, Underlying, enumeration, select, data_type, Collection, alone, in_set, in_bag}
use Rattle.express_syntax.specs.WrittenSchemas.{said, words_of_bounds, words_of_some_bounds, words_of_width, words_of_some_width, words_of_fixed, words_of_data_type, words_of_underlying, words_of_collection}
use Rattle.express_syntax.specs.Profile.{Maybe, FitsBounds, FitsWidth, FitsDataType, FitsUnderlying, FitsCollection}
use Rattle.express_syntax.specs.steps.Predict.{Ending, ending_mark, semicolon, assignment}
use Rattle.express_syntax.proofs.Apart.{tail_is, regrouped, Headed, said_once}
use Rattle.express_syntax.proofs.UniqueRuns.{bounds_once, width_once, names_once}

-- bounds or none, and OF
some_bounds_once : (n : ℕ) (b c : Option Bounds) (u v : List Word) → Maybe (FitsBounds depth_limit n) b
    → Maybe (FitsBounds depth_limit n) c
    → words_of_some_bounds b ++ keyword keywords.Of ∷ u ≡ words_of_some_bounds c ++ keyword keywords.Of ∷ v → (b ≡ c)
    × (u ≡ v)
some_bounds_once n None None u v f g e = (refl, tail_is e)
some_bounds_once n None (Some c) u v f g e = absurd cc
some_bounds_once n (Some b) None u v f g e = absurd cc
some_bounds_once n (Some b) (Some c) u v f g e = let r = bounds_once n b c (keyword keywords.Of ∷ u)
    (keyword keywords.Of ∷ v) f g e in (ap Some r.0, tail_is r.1)

not_open : (end : Ending) (u v : List Word) → mark (ending_mark end) ∷ u ≡ mark marks.Open ∷ v → ⊥
not_open semicolon u v e = cc
not_open assignment u v e = cc

opens : (w : Width) (u : List Word) → (rest : List Word) × (words_of_width w ++ u ≡ mark marks.Open ∷ rest)
opens (schemas.width t) u = (words.integer t ∷ mark marks.Close ∷ u, refl)
opens (schemas.other_width r) u = ((words_of_run r ++ mark marks.Close ∷ []) ++ u, refl)

some_width_once : (n : ℕ) (end : Ending) (w x : Option Width) (u v : List Word) → Maybe (FitsWidth depth_limit n) w
    → Maybe (FitsWidth depth_limit n) x
    → words_of_some_width w ++ mark (ending_mark end) ∷ u ≡ words_of_some_width x ++ mark (ending_mark end) ∷ v
    → (w ≡ x) × (u ≡ v)
some_width_once n end None None u v f g e = (refl, tail_is e)
some_width_once n end None (Some x) u v f g e = let o = opens x (mark (ending_mark end) ∷ v) in
    absurd (not_open end u o.0 (e ∙ o.1))
some_width_once n end (Some w) None u v f g e = let o = opens w (mark (ending_mark end) ∷ u) in
    absurd (not_open end v o.0 (sym e ∙ o.1))
some_width_once n end (Some w) (Some x) u v f g e = let r = width_once n w x (mark (ending_mark end) ∷ u)
    (mark (ending_mark end) ∷ v) f g e in (ap Some r.0, tail_is r.1)

fixed_once : (n : ℕ) (end : Ending) (w x : Option (Width × Bool)) (u v : List Word)
    → Maybe (λ p. FitsWidth depth_limit n p.0) w → Maybe (λ p. FitsWidth depth_limit n p.0) x
    → words_of_fixed w ++ mark (ending_mark end) ∷ u ≡ words_of_fixed x ++ mark (ending_mark end) ∷ v → (w ≡ x)
    × (u ≡ v)
fixed_once n end None None u v f g e = (refl, tail_is e)
fixed_once n end None (Some x) u v f g e =
    let last = mark (ending_mark end) ∷ v in
    let o = opens x.0 (said keywords.Fixed x.1 ++ last) in
    absurd (not_open end u o.0 (e ∙ append_assoc (words_of_width x.0) (said keywords.Fixed x.1) last ∙ o.1))
fixed_once n end (Some w) None u v f g e =
    let last = mark (ending_mark end) ∷ u in
    let o = opens w.0 (said keywords.Fixed w.1 ++ last) in
    absurd (not_open end v o.0 (sym e ∙ append_assoc (words_of_width w.0) (said keywords.Fixed w.1) last ∙ o.1))
fixed_once n end (Some w) (Some x) u v f g e =
    let last = mark (ending_mark end) ∷ u in
    let last' = mark (ending_mark end) ∷ v in
    let fixed = said keywords.Fixed w.1 in
    let fixed' = said keywords.Fixed x.1 in
    let r = width_once n w.0 x.0 (fixed ++ last) (fixed' ++ last') f g (regrouped (words_of_width w.0) fixed last
    (words_of_width x.0) fixed' last' e) in
    let s = said_once keywords.Fixed w.1 x.1 last last' (λ h. let no_mark = h.1 in cc) (λ h. let no_mark = h.1 in cc)
    r.1 in
    ((λ i. Some (r.0 i, s.0 i)), tail_is s.1)

-- a data type begins with none of these words
abbrev IsDataTypeFirst : List Word → Type 0
IsDataTypeFirst (keyword keywords.Optional ∷ ws) = ⊥
IsDataTypeFirst (keyword keywords.Unique ∷ ws) = ⊥
IsDataTypeFirst (keyword keywords.Enumeration ∷ ws) = ⊥
IsDataTypeFirst (keyword keywords.Select ∷ ws) = ⊥
IsDataTypeFirst ws = Unit {0}

kind_first : (k : DataType) (u : List Word) → IsDataTypeFirst (words_of_data_type k ++ u)
kind_first integer u = tt
kind_first number u = tt
kind_first boolean u = tt
kind_first logical u = tt
kind_first (real w) u = tt
kind_first (string w) u = tt
kind_first (binary w) u = tt
kind_first (named m) u = tt
kind_first (array b o t k) u = tt
kind_first (list b t k) u = tt
kind_first (bag b k) u = tt
kind_first (set b k) u = tt

unique_once : (o p : Bool) (k l : DataType) (u v : List Word) → said keywords.Unique o
    ++ (words_of_data_type k ++ u) ≡ said keywords.Unique p ++ (words_of_data_type l ++ v) → (o ≡ p)
    × (words_of_data_type k ++ u ≡ words_of_data_type l ++ v)
unique_once o p k l u v e = said_once keywords.Unique o p (words_of_data_type k ++ u) (words_of_data_type l ++ v)
    (λ h. subst IsDataTypeFirst h.1 (kind_first k u)) (λ h. subst IsDataTypeFirst h.1 (kind_first l v)) e

pub optional_once : (o p : Bool) (k l : DataType) (u v : List Word) → said keywords.Optional o
    ++ (words_of_data_type k ++ u) ≡ said keywords.Optional p ++ (words_of_data_type l ++ v) → (o ≡ p)
    × (words_of_data_type k ++ u ≡ words_of_data_type l ++ v)
optional_once o p k l u v e = said_once keywords.Optional o p (words_of_data_type k ++ u) (words_of_data_type l ++ v)
    (λ h. subst IsDataTypeFirst h.1 (kind_first k u)) (λ h. subst IsDataTypeFirst h.1 (kind_first l v)) e

-- no OPTIONAL begins UNIQUE and a data type
not_optional : (o : Bool) (k : DataType) (u : List Word) → Headed keywords.Optional (said keywords.Unique o
    ++ (words_of_data_type k ++ u)) → ⊥
not_optional true k u h = let first = h.1 in cc
not_optional false k u h = subst IsDataTypeFirst h.1 (kind_first k u)

-- OF and a data type, behind bounds or none
collected_once : (n : ℕ) (b c : Option Bounds) (x y u v : List Word) → Maybe (FitsBounds depth_limit n) b
    → Maybe (FitsBounds depth_limit n) c
    → (words_of_some_bounds b ++ keyword keywords.Of ∷ x) ++ u ≡ (words_of_some_bounds c ++ keyword keywords.Of ∷ y)
    ++ v → (b ≡ c) × (x ++ u ≡ y ++ v)
collected_once n b c x y u v f g e =
    some_bounds_once n b c (x ++ u) (y ++ v) f g (regrouped (words_of_some_bounds b) (keyword keywords.Of ∷ x) u
    (words_of_some_bounds c) (keyword keywords.Of ∷ y) v e)

-- a data type, and the mark behind it
pub kind_once : (n : ℕ) (end : Ending) (k l : DataType) (u v : List Word) → FitsDataType depth_limit n k
    → FitsDataType depth_limit n l
    → words_of_data_type k ++ mark (ending_mark end) ∷ u ≡ words_of_data_type l ++ mark (ending_mark end) ∷ v → (k ≡ l)
    × (u ≡ v)
kind_once n end integer integer u v f g e = (refl, tail_is (tail_is e))
kind_once n end number number u v f g e = (refl, tail_is (tail_is e))
kind_once n end boolean boolean u v f g e = (refl, tail_is (tail_is e))
kind_once n end logical logical u v f g e = (refl, tail_is (tail_is e))
kind_once n end (real w) (real x) u v f g e = let r = some_width_once n end w x u v f g (tail_is e) in
    (ap real r.0, r.1)
kind_once n end (string w) (string x) u v f g e = let r = fixed_once n end w x u v f g (tail_is e) in
    (ap string r.0, r.1)
kind_once n end (binary w) (binary x) u v f g e = let r = fixed_once n end w x u v f g (tail_is e) in
    (ap binary r.0, r.1)
kind_once n end (named m) (named p) u v f g e = let same : m ≡ p = cc in (ap named same, tail_is (tail_is e))
kind_once n end (array b o t k) (array c p s l) u v f g e =
    let last = mark (ending_mark end) ∷ u in
    let last' = mark (ending_mark end) ∷ v in
    let optional = said keywords.Optional o in
    let optional' = said keywords.Optional p in
    let unique = said keywords.Unique t in
    let unique' = said keywords.Unique s in
    let behind = optional ++ unique ++ words_of_data_type k in
    let behind' = optional' ++ unique' ++ words_of_data_type l in
    let bounds = bounds_once n b c (keyword keywords.Of ∷ behind ++ last) (keyword keywords.Of ∷ behind' ++ last') f.1
    g.1
    (regrouped (words_of_bounds b) (keyword keywords.Of ∷ behind) last (words_of_bounds c) (keyword keywords.Of
    ∷ behind') last' (tail_is e)) in
    let first = said_once keywords.Optional o p (unique ++ (words_of_data_type k ++ last))
    (unique' ++ (words_of_data_type l ++ last')) (not_optional t k last) (not_optional s l last')
    (regrouped optional unique (words_of_data_type k ++ last) optional' unique' (words_of_data_type l ++ last')
    (regrouped (optional ++ unique) (words_of_data_type k) last (optional' ++ unique') (words_of_data_type l) last'
    (tail_is bounds.1))) in
    let second = unique_once t s k l last last' first.1 in
    let more = kind_once (n + 1) end k l u v f.2 g.2 second.1 in
    ((λ i. array (bounds.0 i) (first.0 i) (second.0 i) (more.0 i)), more.1)
kind_once n end (list b t k) (list c s l) u v f g e =
    let last = mark (ending_mark end) ∷ u in
    let last' = mark (ending_mark end) ∷ v in
    let unique = said keywords.Unique t in
    let unique' = said keywords.Unique s in
    let bounds = collected_once n b c (unique ++ words_of_data_type k) (unique' ++ words_of_data_type l) last last' f.1
    g.1 (tail_is e) in
    let second = unique_once t s k l last last' (regrouped unique (words_of_data_type k) last unique'
    (words_of_data_type l) last' bounds.1) in
    let more = kind_once (n + 1) end k l u v f.2 g.2 second.1 in
    ((λ i. list (bounds.0 i) (second.0 i) (more.0 i)), more.1)
kind_once n end (bag b k) (bag c l) u v f g e =
    let bounds = collected_once n b c (words_of_data_type k) (words_of_data_type l) (mark (ending_mark end) ∷ u)
    (mark (ending_mark end) ∷ v) f.1 g.1 (tail_is e) in
    let more = kind_once (n + 1) end k l u v f.2 g.2 bounds.1 in
    ((λ i. bag (bounds.0 i) (more.0 i)), more.1)
kind_once n end (set b k) (set c l) u v f g e =
    let bounds = collected_once n b c (words_of_data_type k) (words_of_data_type l) (mark (ending_mark end) ∷ u)
    (mark (ending_mark end) ∷ v) f.1 g.1 (tail_is e) in
    let more = kind_once (n + 1) end k l u v f.2 g.2 bounds.1 in
    ((λ i. set (bounds.0 i) (more.0 i)), more.1)
kind_once n end _ _ u v f g e = absurd cc

-- what a type is, and the semicolon
pub underlying_once : (x y : Underlying) (u v : List Word) → FitsUnderlying depth_limit x → FitsUnderlying depth_limit y
    → words_of_underlying x ++ mark marks.Semicolon ∷ u ≡ words_of_underlying y ++ mark marks.Semicolon ∷ v → (x ≡ y)
    × (u ≡ v)
underlying_once (enumeration ns) (enumeration ms) u v f g e = let r = names_once ns ms (mark marks.Semicolon ∷ u)
    (mark marks.Semicolon ∷ v) (tail_is (tail_is e)) in (ap enumeration r.0, tail_is r.1)
underlying_once (select ns) (select ms) u v f g e = let r = names_once ns ms (mark marks.Semicolon ∷ u)
    (mark marks.Semicolon ∷ v) (tail_is e) in (ap select r.0, tail_is r.1)
underlying_once (data_type k) (data_type l) u v f g e = let r = kind_once 0 semicolon k l u v f g e in
    (ap data_type r.0, r.1)
underlying_once (enumeration ns) (select ms) u v f g e = absurd cc
underlying_once (select ns) (enumeration ms) u v f g e = absurd cc
underlying_once (enumeration ns) (data_type k) u v f g e =
    absurd (subst IsDataTypeFirst (sym e) (kind_first k (mark marks.Semicolon ∷ v)))
underlying_once (select ns) (data_type k) u v f g e =
    absurd (subst IsDataTypeFirst (sym e) (kind_first k (mark marks.Semicolon ∷ v)))
underlying_once (data_type k) (enumeration ns) u v f g e =
    absurd (subst IsDataTypeFirst e (kind_first k (mark marks.Semicolon ∷ u)))
underlying_once (data_type k) (select ns) u v f g e =
    absurd (subst IsDataTypeFirst e (kind_first k (mark marks.Semicolon ∷ u)))

-- the entity whose attribute is inverted, in a collection or alone
pub collection_once : (c d : Collection) (n m : List ℕ) (u v : List Word) → FitsCollection depth_limit c
    → FitsCollection depth_limit d
    → words_of_collection c ++ name n ∷ u ≡ words_of_collection d ++ name m ∷ v → (c ≡ d) × (n ≡ m) × (u ≡ v)
collection_once alone alone n m u v f g e = (refl, cc, tail_is e)
collection_once (in_set b) (in_set c) n m u v f g e =
    let r = collected_once 0 b c [] [] (name n ∷ u) (name m ∷ v) f g (tail_is e) in
    (ap in_set r.0, (let behind = r.1 in cc), tail_is r.1)
collection_once (in_bag b) (in_bag c) n m u v f g e =
    let r = collected_once 0 b c [] [] (name n ∷ u) (name m ∷ v) f g (tail_is e) in
    (ap in_bag r.0, (let behind = r.1 in cc), tail_is r.1)
collection_once _ _ n m u v f g e = absurd cc
