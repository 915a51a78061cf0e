-- Where a part may stand as a run of tokens, its words are those of one tree or one run.
use Rattle.std.proofs.Common.{◌≡◌, ℕ, ◌+◌, Bool, true, false, List, [], ◌∷◌, ◌++◌, Option, None, Some, refl, sym, ap, ◌∙◌, subst, append_assoc, codes, inl, inr, map}
use Rattle.express_lexer.specs.declared.marks.Mark.TheVariants as marks
use Rattle.express_syntax.specs.declared.keyword.Keyword.TheVariants as keywords
use Rattle.express_syntax.specs.declared.expression.Sign.{Sign}
use Rattle.express_syntax.specs.declared.expression.Sign.TheVariants as signs
use Rattle.express_syntax.specs.Words.{Word, keyword, name, mark}
use Rattle.express_syntax.specs.Words as words
use Rattle.express_syntax.specs.Trees.{words as words_of_tree}
use Rattle.express_syntax.specs.Grammar.{depth_limit}
use Rattle.express_syntax.proofs.UniqueExpressions.{one_tree}
use Rattle.express_syntax.specs.Runs.{parenthesis, Run, words_of_run, FitsRun}
use Rattle.express_syntax.specs.steps.PassageLemmas.{run_once}
use Rattle.express_syntax.specs.Schemas.{Body, parsed, set_aside, Bound, value, unlimited, other_bound, Bounds, Width, width, other_width, Supertype, unsaid, bare, of_one, of_one_of, of_other}
use Rattle.express_syntax.specs.WrittenSchemas.{words_of_body, words_of_sign, words_of_bound, words_of_bounds, words_of_width, words_of_names, words_of_name, words_of_supertype, with_commas, concatenated}
use Rattle.express_syntax.specs.Profile.{FitsBody, FitsBound, FitsBounds, FitsWidth, FitsSupertype}
use Rattle.express_syntax.specs.steps.Predict.{RunEnd, in_lower, in_upper, in_parentheses, in_rule, Running}
use Rattle.express_syntax.proofs.StandLemmas.{fits_is_run}
use Rattle.express_syntax.proofs.Passing.{Led, regroup, step}
use Rattle.express_syntax.proofs.PassingRuns.{may_of, end_of, pass_some, pass_end}
use Rattle.express_syntax.proofs.PassingRules.{pass_body}
use Rattle.express_syntax.proofs.PassingDataTypes.{pass_bound}
use Rattle.express_syntax.proofs.PassingHeads.{names_inside}
use Rattle.express_syntax.proofs.Apart.{tail_is, same_name, regrouped, alone, run_apart}

-- the words of one run
same_run : (r s : Run) (may : Word → Bool) (n : ℕ) → FitsRun depth_limit may n r → FitsRun depth_limit may n s
    → words_of_run r ≡ words_of_run s → r ≡ s
same_run r s may n f g e = (run_once r s [] [] (fits_is_run depth_limit may n r f) (fits_is_run depth_limit may n s g)
    tt tt (ap (λ l. l ++ []) e)).0

same_body : (b c : Body) → FitsBody depth_limit b → FitsBody depth_limit c → words_of_body b ≡ words_of_body c → b ≡ c
same_body (parsed x) (parsed y) f g e =
    ap parsed (one_tree 0 (words_of_tree x) x y (record { fits = f; spelled = refl }) (record {
      fits = g;
      spelled = e;
    }))
same_body (parsed x) (set_aside r) f g e = absurd (g.2 x (record { fits = f; spelled = sym e }))
same_body (set_aside r) (parsed x) f g e = absurd (f.2 x (record { fits = g; spelled = e }))
same_body (set_aside r) (set_aside s) f g e = ap set_aside (same_run r s (may_of in_rule) 0 f.0 g.0 e)

-- a body is told by its semicolon
pub body_once : (b c : Body) (u v : List Word) → FitsBody depth_limit b → FitsBody depth_limit c → words_of_body b
    ++ mark marks.Semicolon ∷ u ≡ words_of_body c ++ mark marks.Semicolon ∷ v → (b ≡ c) × (u ≡ v)
body_once b c u v f g e =
    let r = run_apart in_rule 0 (words_of_body b) (words_of_body c) u v (pass_body alone b [] [] f refl)
    (pass_body alone c [] [] g refl) e in
    (same_body b c f g r.0, r.1)

same_integer : (t u : List ℕ) (a b : List Word) → words.integer t ∷ a ≡ words.integer u ∷ b → t ≡ u
same_integer t u a b e = cc

same_value : (s r : Option Sign) (t u : List ℕ) → words_of_sign s ++ words.integer t ∷ [] ≡ words_of_sign r
    ++ words.integer u ∷ [] → (s ≡ r) × (t ≡ u)
same_value None None t u e = (refl, same_integer t u [] [] e)
same_value None (Some signs.Plus) t u e = absurd cc
same_value None (Some signs.Minus) t u e = absurd cc
same_value (Some signs.Plus) None t u e = absurd cc
same_value (Some signs.Minus) None t u e = absurd cc
same_value (Some signs.Plus) (Some signs.Plus) t u e = (refl, same_integer t u [] [] (tail_is e))
same_value (Some signs.Plus) (Some signs.Minus) t u e = absurd cc
same_value (Some signs.Minus) (Some signs.Plus) t u e = absurd cc
same_value (Some signs.Minus) (Some signs.Minus) t u e = (refl, same_integer t u [] [] (tail_is e))

not_unlimited : (s : Option Sign) (t : List ℕ) → words_of_sign s ++ words.integer t ∷ [] ≡ mark marks.Unknown ∷ [] → ⊥
not_unlimited None t e = cc
not_unlimited (Some signs.Plus) t e = cc
not_unlimited (Some signs.Minus) t e = cc

same_bound : (b c : Bound) (may : Word → Bool) (n : ℕ) → FitsBound depth_limit may n b → FitsBound depth_limit may n c
    → words_of_bound b ≡ words_of_bound c → b ≡ c
same_bound (value s t) (value r u) may n f g e = let v = same_value s r t u e in λ i. value (v.0 i) (v.1 i)
same_bound (value s t) unlimited may n f g e = absurd (not_unlimited s t e)
same_bound (value s t) (other_bound r) may n f g e = absurd (g.2 (inl (s, t, sym e)))
same_bound unlimited (value s t) may n f g e = absurd (not_unlimited s t (sym e))
same_bound unlimited unlimited may n f g e = refl
same_bound unlimited (other_bound r) may n f g e = absurd (g.2 (inr (sym e)))
same_bound (other_bound r) (value s t) may n f g e = absurd (f.2 (inl (s, t, e)))
same_bound (other_bound r) unlimited may n f g e = absurd (f.2 (inr e))
same_bound (other_bound r) (other_bound s) may n f g e = ap other_bound (same_run r s may n f.0 g.0 e)

bound_once : (part : RunEnd) (n : ℕ) (b c : Bound) (u v : List Word) → FitsBound depth_limit (may_of part) n b
    → FitsBound depth_limit (may_of part) n c
    → words_of_bound b ++ mark (end_of part) ∷ u ≡ words_of_bound c ++ mark (end_of part) ∷ v → (b ≡ c) × (u ≡ v)
bound_once part n b c u v f g e =
    let r = run_apart part n (words_of_bound b) (words_of_bound c) u v (pass_bound alone b part n [] [] f refl)
    (pass_bound alone c part n [] [] g refl) e in
    (same_bound b c (may_of part) n f g r.0, r.1)

-- bounds in their brackets
pub bounds_once : (n : ℕ) (b c : Bounds) (u v : List Word) → FitsBounds depth_limit n b → FitsBounds depth_limit n c
    → words_of_bounds b ++ u ≡ words_of_bounds c ++ v → (b ≡ c) × (u ≡ v)
bounds_once n b c u v f g e =
    let last = mark marks.CloseBracket ∷ [] in
    let up = words_of_bound b.upper ++ last in
    let up' = words_of_bound c.upper ++ last in
    let low = bound_once in_lower (n + 1) b.lower c.lower (up ++ u) (up' ++ v) f.1 g.1
    (regrouped (words_of_bound b.lower) (mark marks.Colon ∷ up) u (words_of_bound c.lower) (mark marks.Colon ∷ up')
    v (tail_is e)) in
    let high = bound_once in_upper (n + 1) b.upper c.upper u v f.2 g.2 (regrouped (words_of_bound b.upper) last u
    (words_of_bound c.upper) last v low.1) in
    ((λ i. record { lower = low.0 i; upper = high.0 i }), high.1)

-- a width between its parentheses
abbrev inside_width : Width → List Word
inside_width (width t) = words.integer t ∷ []
inside_width (other_width r) = words_of_run r

width_text : (w : Width) (u : List Word) → words_of_width w ++ u ≡ mark marks.Open
    ∷ (inside_width w ++ mark marks.Close ∷ u)
width_text (width t) u = refl
width_text (other_width r) u = ap (λ l. mark marks.Open ∷ l) (append_assoc (words_of_run r) (mark marks.Close ∷ []) u)

pass_width : (n : ℕ) (w : Width) → FitsWidth depth_limit n w → Led alone (Running in_parentheses (n + 1) [] false ∷ [])
    (inside_width w ++ mark marks.Close ∷ [])
pass_width n (width t) f = pass_bound alone (value None t) in_parentheses (n + 1) [] [] tt refl
pass_width n (other_width r) f = pass_some alone r in_parentheses (n + 1) [] (mark marks.Close ∷ []) f.1 f.2
    (pass_end alone in_parentheses (n + 1) [] [] refl)

same_width : (n : ℕ) (w x : Width) → FitsWidth depth_limit n w → FitsWidth depth_limit n x
    → inside_width w ≡ inside_width x → w ≡ x
same_width n (width t) (width u) f g e = ap width (same_integer t u [] [] e)
same_width n (width t) (other_width r) f g e = absurd (g.3 t (sym e))
same_width n (other_width r) (width t) f g e = absurd (f.3 t e)
same_width n (other_width r) (other_width s) f g e = ap other_width (same_run r s (may_of in_parentheses) (n + 1) f.1
    g.1 e)

pub width_once : (n : ℕ) (w x : Width) (u v : List Word) → FitsWidth depth_limit n w → FitsWidth depth_limit n x
    → words_of_width w ++ u ≡ words_of_width x ++ v → (w ≡ x) × (u ≡ v)
width_once n w x u v f g e =
    let r = run_apart in_parentheses (n + 1) (inside_width w) (inside_width x) u v (pass_width n w f) (pass_width n x g)
    (tail_is (sym (width_text w u) ∙ e ∙ width_text x v)) in
    (same_width n w x f g r.0, r.1)

more_names : (ns ms : List (List ℕ)) (u v : List Word)
    → concatenated (map (λ us. mark marks.Comma ∷ us) (map words_of_name ns)) ++ mark marks.Close
    ∷ u ≡ concatenated (map (λ us. mark marks.Comma ∷ us) (map words_of_name ms)) ++ mark marks.Close ∷ v → (ns ≡ ms)
    × (u ≡ v)
more_names [] [] u v e = (refl, tail_is e)
more_names [] (m ∷ ms) u v e = absurd cc
more_names (n ∷ ns) [] u v e = absurd cc
more_names (n ∷ ns) (m ∷ ms) u v e =
    let behind = tail_is e in
    let first : n ≡ m = cc in
    let more = more_names ns ms u v (tail_is behind) in
    ((λ i. first i ∷ more.0 i), more.1)

all_names : (ns ms : List (List ℕ)) (u v : List Word) → with_commas (map words_of_name ns) ++ mark marks.Close
    ∷ u ≡ with_commas (map words_of_name ms) ++ mark marks.Close ∷ v → (ns ≡ ms) × (u ≡ v)
all_names [] [] u v e = (refl, tail_is e)
all_names [] (m ∷ ms) u v e = absurd cc
all_names (n ∷ ns) [] u v e = absurd cc
all_names (n ∷ ns) (m ∷ ms) u v e =
    let first : n ≡ m = cc in
    let more = more_names ns ms u v (tail_is e) in
    ((λ i. first i ∷ more.0 i), more.1)

-- names in parentheses
pub names_once : (ns ms : List (List ℕ)) (u v : List Word) → words_of_names ns ++ u ≡ words_of_names ms ++ v → (ns ≡ ms)
    × (u ≡ v)
names_once ns ms u v e = all_names ns ms u v (regrouped (with_commas (map words_of_name ns)) (mark marks.Close ∷ []) u
    (with_commas (map words_of_name ms)) (mark marks.Close ∷ []) v (tail_is e))

-- a supertype expression between its parentheses
abbrev inside_expression : Supertype → List Word
inside_expression unsaid = []
inside_expression bare = []
inside_expression (of_one n) = name n ∷ []
inside_expression (of_one_of names) = name (codes "ONEOF") ∷ words_of_names names
inside_expression (of_other r) = words_of_run r

abbrev IsSaid : Supertype → Type 0
IsSaid unsaid = ⊥
IsSaid bare = ⊥
IsSaid s = Unit {0}

pass_inside : (s : Supertype) → IsSaid s → FitsSupertype depth_limit s → Led alone (Running in_parentheses 1 [] false
    ∷ []) (inside_expression s ++ mark marks.Close ∷ [])
pass_inside unsaid said f = absurd said
pass_inside bare said f = absurd said
pass_inside (of_one n) said f =
    step alone (Running in_parentheses 1 [] false) (Running in_parentheses 1 [] true ∷ []) [] (name n) (mark marks.Close
    ∷ []) refl (pass_end alone in_parentheses 1 [] [] refl)
pass_inside (of_one_of names) said f =
    let here = Running in_parentheses 1 [] true in
    let there = Running in_parentheses 1 (parenthesis ∷ []) true in
    let close = mark marks.Close in
    step alone (Running in_parentheses 1 [] false) (here ∷ []) [] (name (codes "ONEOF")) (words_of_names names ++ close
    ∷ []) refl
    (step alone here (there ∷ []) [] (mark marks.Open) ((with_commas (map words_of_name names) ++ close ∷ []) ++ close
    ∷ []) refl
    (regroup alone (there ∷ []) (with_commas (map words_of_name names)) (close ∷ []) (close ∷ [])
    (names_inside alone names [] (close ∷ close ∷ [])
    (step alone there (here ∷ []) [] close (close ∷ []) refl (pass_end alone in_parentheses 1 [] [] refl)))))
pass_inside (of_other r) said f = pass_some alone r in_parentheses 1 [] (mark marks.Close ∷ []) f.0 f.1
    (pass_end alone in_parentheses 1 [] [] refl)

same_expression : (s t : Supertype) → IsSaid s → IsSaid t → FitsSupertype depth_limit s → FitsSupertype depth_limit t
    → inside_expression s ≡ inside_expression t → s ≡ t
same_expression (of_one n) (of_one m) said said' f g e = ap of_one (same_name n m [] [] e)
same_expression (of_one n) (of_one_of names) said said' f g e = absurd cc
same_expression (of_one n) (of_other r) said said' f g e = absurd (g.2 (inl (n, sym e)))
same_expression (of_one_of names) (of_one n) said said' f g e = absurd cc
same_expression (of_one_of ns) (of_one_of ms) said said' f g e =
    ap of_one_of (names_once ns ms [] [] (ap (λ l. l ++ []) (tail_is e))).0
same_expression (of_one_of names) (of_other r) said said' f g e = absurd (g.2 (inr (names, f, sym e)))
same_expression (of_other r) (of_one n) said said' f g e = absurd (f.2 (inl (n, e)))
same_expression (of_other r) (of_one_of names) said said' f g e = absurd (f.2 (inr (names, g, e)))
same_expression (of_other r) (of_other s) said said' f g e =
    ap of_other (same_run r s (may_of in_parentheses) 1 f.0 g.0 e)
same_expression unsaid t said said' f g e = absurd said
same_expression bare t said said' f g e = absurd said
same_expression s unsaid said said' f g e = absurd said'
same_expression s bare said said' f g e = absurd said'

-- what stands behind SUPERTYPE is told from an expression
abbrev pub IsBehind : List Word → Type 0
IsBehind (keyword keywords.Supertype ∷ ws) = ⊥
IsBehind (keyword keywords.Of ∷ ws) = ⊥
IsBehind ws = Unit {0}

expression_text : (s : Supertype) (u : List Word) → IsSaid s → words_of_supertype s ++ u ≡ keyword keywords.Supertype
    ∷ keyword keywords.Of ∷ mark marks.Open ∷ (inside_expression s ++ mark marks.Close ∷ u)
expression_text unsaid u said = absurd said
expression_text bare u said = absurd said
expression_text (of_one n) u said = refl
expression_text (of_one_of names) u said =
    ap (λ l. keyword keywords.Supertype ∷ keyword keywords.Of ∷ mark marks.Open ∷ l)
    (append_assoc (inside_expression (of_one_of names)) (mark marks.Close ∷ []) u)
expression_text (of_other r) u said =
    ap (λ l. keyword keywords.Supertype ∷ keyword keywords.Of ∷ mark marks.Open ∷ l)
    (append_assoc (words_of_run r) (mark marks.Close ∷ []) u)

expression_once : (s t : Supertype) (u v : List Word) → IsSaid s → IsSaid t → FitsSupertype depth_limit s
    → FitsSupertype depth_limit t → words_of_supertype s ++ u ≡ words_of_supertype t ++ v → (s ≡ t) × (u ≡ v)
expression_once s t u v said said' f g e =
    let r = run_apart in_parentheses 1 (inside_expression s) (inside_expression t) u v (pass_inside s said f)
    (pass_inside t said' g) (tail_is
    (tail_is (tail_is (sym (expression_text s u said) ∙ e ∙ expression_text t v said')))) in
    (same_expression s t said said' f g r.0, r.1)

not_said : (s : Supertype) (u v : List Word) → IsSaid s → IsBehind v → words_of_supertype s ++ u ≡ v → ⊥
not_said s u v said behind e = subst IsBehind (sym e ∙ expression_text s u said) behind

not_bare : (s : Supertype) (u v : List Word) → IsSaid s → IsBehind v → words_of_supertype s
    ++ u ≡ keyword keywords.Supertype ∷ v → ⊥
not_bare s u v said behind e = subst IsBehind (sym (tail_is (sym (expression_text s u said) ∙ e))) behind

-- what SUPERTYPE says
pub supertype_once : (s t : Supertype) (u v : List Word) → FitsSupertype depth_limit s → FitsSupertype depth_limit t
    → IsBehind u → IsBehind v → words_of_supertype s ++ u ≡ words_of_supertype t ++ v → (s ≡ t) × (u ≡ v)
supertype_once unsaid unsaid u v f g c d e = (refl, e)
supertype_once unsaid bare u v f g c d e = absurd (subst IsBehind e c)
supertype_once unsaid t u v f g c d e = absurd (not_said t v u tt c (sym e))
supertype_once bare unsaid u v f g c d e = absurd (subst IsBehind (sym e) d)
supertype_once bare bare u v f g c d e = (refl, tail_is e)
supertype_once bare t u v f g c d e = absurd (not_bare t v u tt c (sym e))
supertype_once s unsaid u v f g c d e = absurd (not_said s u v tt d e)
supertype_once s bare u v f g c d e = absurd (not_bare s u v tt d e)
supertype_once s t u v f g c d e = expression_once s t u v tt tt f g e
