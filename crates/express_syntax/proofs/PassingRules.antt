-- The words of rules lead to the word that ends them, and those of a rule's body to its semicolon.
use Rattle.std.proofs.Common.{◌≡◌, ℕ, true, false, List, [], ◌∷◌, ◌++◌, Option, None, Some, Ok, refl, sym, ap, ◌∙◌, subst, append_assoc, map}
use Rattle.express_lexer.specs.declared.marks.Mark.TheVariants as marks
use Rattle.express_syntax.specs.declared.keyword.Keyword.{Keyword}
use Rattle.express_syntax.specs.Keywords.{keyword_text}
use Rattle.express_syntax.specs.Words.{Word, keyword, name, mark}
use Rattle.express_syntax.specs.Grammar.{expression}
use Rattle.express_syntax.specs.Texts.{token}
use Rattle.express_syntax.specs.Schemas.{Body, parsed, set_aside, Rule}
use Rattle.express_syntax.specs.WrittenSchemas.{concatenated, words_of_body, words_of_label, words_of_rule}
use Rattle.express_syntax.specs.Profile.{FitsBody, Begins, FitsRules}
use Rattle.express_syntax.specs.steps.Predict.{Symbol, Just, Running, Rules, Labelled, then_rules, next}
use Rattle.express_syntax.specs.steps.Predict as predict
use Rattle.express_syntax.proofs.Passing.{Goal, Led, step, behind_word, regroup, same_bytes, pass_mark}
use Rattle.express_syntax.proofs.SameKeywords.{other_keyword}
use Rattle.express_syntax.proofs.PassingRuns.{pass_some, pass_end}
use Rattle.express_syntax.proofs.PassingTrees.{pass_tree}

-- a body up to its semicolon
pub pass_body : (g : Goal) (b : Body) (ys : List Symbol) (ws : List Word) → FitsBody g.levels b → Led g ys ws
    → Led g (Running predict.in_rule 0 [] false ∷ ys) (words_of_body b ++ mark marks.Semicolon ∷ ws)
pass_body g (parsed x) ys ws f h = pass_tree g x 0 expression [] false ys (mark marks.Semicolon ∷ ws) f refl
    (pass_end g predict.in_rule 0 ys ws h)
pass_body g (set_aside r) ys ws f h = pass_some g r predict.in_rule 0 ys (mark marks.Semicolon ∷ ws) f.0 f.1
    (pass_end g predict.in_rule 0 ys ws h)

-- a word of a rule's body, where the rules are still to come
joined_rules : (g : Goal) (end : Keyword) (y z : Symbol) (ys : List Symbol) (w : Word) (ws : List Word)
    → next g.levels z (token w) ≡ then_rules end (next g.levels y (token w)) → Led g (y ∷ Rules end ∷ ys) (w ∷ ws)
    → Led g (z ∷ ys) (w ∷ ws)
joined_rules g end y z ys w ws e h =
    let P : List Symbol → Type 0 = λ l. Led g l ws in
    (h.0 ++ Rules end ∷ [], e ∙ ap (then_rules end) h.1, subst P (sym (append_assoc h.0 (Rules end ∷ []) ys)) h.2)

pub next_rules_keyword : (levels : ℕ) (end k : Keyword) → (k ≡ end → ⊥) → next levels (Rules end)
    (token (keyword k)) ≡ Ok (Running predict.in_rule 0 [] true ∷ Rules end ∷ [])
next_rules_keyword levels end k f = rw (other_keyword k end f) refl

-- behind a name with which a rule begins, a word that makes no label of it
pub next_labelled_word : (levels : ℕ) (end : Keyword) (n : List ℕ) (v : Word) (b : List Word)
    → Begins end (name n ∷ v ∷ b) → next levels (Labelled end) (token v) ≡ then_rules end
    (next levels (Running predict.in_rule 0 [] true) (token v))
next_labelled_word levels end n (mark marks.Colon) b f = absurd f
next_labelled_word levels end n (mark m) b f = refl
next_labelled_word levels end n v b f = refl

-- what begins a rule without a label
begin_rule : (g : Goal) (end : Keyword) (b : List Word) (ys : List Symbol) (ws : List Word) → Begins end b
    → Led g (Running predict.in_rule 0 [] false ∷ Rules end ∷ ys) (b ++ mark marks.Semicolon ∷ ws)
    → Led g (Rules end ∷ ys) (b ++ mark marks.Semicolon ∷ ws)
begin_rule g end [] ys ws f h = joined_rules g end (Running predict.in_rule 0 [] false) (Rules end) ys
    (mark marks.Semicolon) ws refl h
begin_rule g end (keyword k ∷ b) ys ws f h =
    let start = Running predict.in_rule 0 [] false in
    let on = Running predict.in_rule 0 [] true in
    let more = b ++ mark marks.Semicolon ∷ ws in
    step g (Rules end) (on ∷ Rules end ∷ []) ys (keyword k) more (next_rules_keyword g.levels end k f)
    (behind_word g start (on ∷ []) (Rules end ∷ ys) (keyword k) more refl h)
begin_rule g end (name n ∷ []) ys ws f h =
    let start = Running predict.in_rule 0 [] false in
    let on = Running predict.in_rule 0 [] true in
    let more = mark marks.Semicolon ∷ ws in
    step g (Rules end) (Labelled end ∷ []) ys (name n) more refl
    (joined_rules g end on (Labelled end) ys (mark marks.Semicolon) ws refl
    (behind_word g start (on ∷ []) (Rules end ∷ ys) (name n) more refl h))
begin_rule g end (name n ∷ v ∷ b) ys ws f h =
    let start = Running predict.in_rule 0 [] false in
    let on = Running predict.in_rule 0 [] true in
    let more = b ++ mark marks.Semicolon ∷ ws in
    step g (Rules end) (Labelled end ∷ []) ys (name n) (v ∷ more) refl
    (joined_rules g end on (Labelled end) ys v more (next_labelled_word g.levels end n v b f)
    (behind_word g start (on ∷ []) (Rules end ∷ ys) (name n) (v ∷ more) refl h))
begin_rule g end (w ∷ b) ys ws f h = joined_rules g end (Running predict.in_rule 0 [] false) (Rules end) ys w
    (b ++ mark marks.Semicolon ∷ ws) refl h

-- a rule with its label, if it has one
labelled_rule : (g : Goal) (end : Keyword) (label : Option (List ℕ)) (b : Body) (ys : List Symbol) (ws : List Word)
    → FitsBody g.levels b → (label ≡ None → Begins end (words_of_body b))
    → Led g (Rules end ∷ ys) ws → Led g (Rules end ∷ ys) (words_of_label label
    ++ (words_of_body b ++ mark marks.Semicolon ∷ ws))
labelled_rule g end None b ys ws f begins h = begin_rule g end (words_of_body b) ys ws (begins refl)
    (pass_body g b (Rules end ∷ ys) ws f h)
labelled_rule g end (Some n) b ys ws f begins h =
    let more = words_of_body b ++ mark marks.Semicolon ∷ ws in
    step g (Rules end) (Labelled end ∷ []) ys (name n) (mark marks.Colon ∷ more) refl
    (step g (Labelled end) (Running predict.in_rule 0 [] false ∷ Rules end ∷ []) ys (mark marks.Colon) more refl
    (pass_body g b (Rules end ∷ ys) ws f h))

-- the rules
pub pass_rules : (g : Goal) (end : Keyword) (rules : List Rule) (ys : List Symbol) (ws : List Word)
    → FitsRules g.levels end rules
    → Led g (Rules end ∷ ys) ws → Led g (Rules end ∷ ys) (concatenated (map words_of_rule rules) ++ ws)
pass_rules g end [] ys ws f h = h
pass_rules g end (r ∷ rules) ys ws f h =
    let others = concatenated (map words_of_rule rules) in
    let label = words_of_label r.label in
    let body = words_of_body r.body in
    let all = Rules end ∷ ys in
    regroup g all (words_of_rule r) others ws
    (regroup g all (label ++ body) (mark marks.Semicolon ∷ []) (others ++ ws)
    (regroup g all label body (mark marks.Semicolon ∷ others ++ ws)
    (labelled_rule g end r.label r.body ys (others ++ ws) f.0.0 f.0.1 (pass_rules g end rules ys ws f.1 h))))

pub next_rules_end : (levels : ℕ) (end : Keyword) → next levels (Rules end) (token (keyword end)) ≡ Ok
    (Just marks.Semicolon ∷ [])
next_rules_end levels end = rw (same_bytes (keyword_text end) (keyword_text end) refl) refl

-- the word that ends them, and its semicolon
pub pass_rules_end : (g : Goal) (end : Keyword) (ys : List Symbol) (ws : List Word) → Led g ys ws
    → Led g (Rules end ∷ ys) (keyword end ∷ mark marks.Semicolon ∷ ws)
pass_rules_end g end ys ws h = step g (Rules end) (Just marks.Semicolon ∷ []) ys (keyword end) (mark marks.Semicolon
    ∷ ws) (next_rules_end g.levels end) (pass_mark g marks.Semicolon ys ws h)
