-- Rules, and what they say, token by token.
use Rattle.std.proofs.Common.{◌≡◌, ℕ, ◌≤◌, ◌<◌, Bool, true, false, List, [], ◌∷◌, ◌++◌, map, length, Some, None, Result, Ok, Err, MatchResult, refl, sym, ap, ◌∙◌, subst, append_assoc, arith}
use Rattle.std.proofs.lemmas.Bool.{false≢true}
use Rattle.parsing.specs.Tables.{step_on, lookaheads}
use Rattle.step_literals.specs.declared.literal.Word as literal
use Rattle.express_lexer.specs.declared.marks.Mark.TheVariants as marks
use Rattle.express_lexer.specs.Reading.{Reading, left}
use Rattle.express_syntax.specs.declared.keyword.Keyword.{Keyword}
use Rattle.express_syntax.specs.declared.lexeme.Lexeme.{Lexeme}
use Rattle.express_syntax.specs.declared.lexeme.Lexeme.TheVariants as lexemes
use Rattle.express_syntax.specs.Keywords.{keyword_text}
use Rattle.express_syntax.specs.Words.{Word, words_of, word_of, keyword, name, mark}
use Rattle.express_syntax.specs.ExpressionViews.{capitals}
use Rattle.express_syntax.specs.Grammar.{depth_limit}
use Rattle.express_syntax.specs.declared.fault.SyntaxFault.{SyntaxFault}
use Rattle.express_syntax.specs.declared.fault.SyntaxFault.TheVariants as faults
use Rattle.express_token_runs.specs.declared.runs.Buffer.{Buffer}
use Rattle.express_token_runs.specs.declared.runs.Bracket as code
use Rattle.express_syntax.specs.declared.tree.Body as tree
use Rattle.express_syntax.specs.declared.tree.Rule as tree_rule
use Rattle.express_token_runs.specs.steps.Items.{named}
use Rattle.express_syntax.specs.Views.{body_of, rule_of}
use Rattle.express_syntax.specs.Schemas.{Body, Rule}
use Rattle.express_syntax.specs.WrittenSchemas.{concatenated, words_of_body, words_of_rule}
use Rattle.express_syntax.specs.Profile.{FitsBody, Begins, BeginsRule, FitsRules}
use Rattle.express_token_runs.specs.steps.OpenRuns.{brackets_of}
use Rattle.express_syntax.specs.Runs.{has_some}
use Rattle.express_syntax.specs.Texts.{token, LocatedToken, Shows, ShowsAll}
use Rattle.express_syntax.specs.steps.Predict.{Symbol, Just, Running, in_rule, Rules, Labelled, Next, then_rules, next, run, is_mark, is_keyword, same_keyword}
use Rattle.express_syntax.specs.steps.Steps.{StopsIn, Passes}
use Rattle.express_parts.specs.steps.RuleReading.{BodyRead, RuleRead}
use Rattle.express_syntax.proofs.Passing.{same_bytes}
use Rattle.express_syntax.proofs.PassingRules.{next_rules_keyword, next_labelled_word, next_rules_end}
use Rattle.express_syntax.proofs.Looking.{mark_met, keyword_met, shown_less, tokens_less}
use Rattle.express_syntax.proofs.Taking.{passes_as, passes_join, passes_more, passes_token, passes_taken, passes_first, stops_behind, stops_behind_taken, stops_first}
use Rattle.express_syntax.proofs.Lists.{every_push, joined_push}

-- what a symbol says of a token is what a rule's body says, with the other rules behind it
GoesOn : Keyword → Symbol → Bool → Word → Type 0
GoesOn end y some w = next depth_limit y (token w) ≡ then_rules end (next depth_limit (Running in_rule 0 [] some)
    (token w))

then_on : (end : Keyword) (place : ℕ) (q : List LocatedToken) (more : List Symbol) (t : Next)
    → step_on place (λ zs. run depth_limit zs q) more (then_rules end t) ≡ step_on place (λ zs. run depth_limit zs q)
    (Rules end ∷ more) t
then_on end place q more (Ok zs) = ap (λ l. run depth_limit l q) (append_assoc zs (Rules end ∷ []) more)
then_on end place q more (Err k) = refl

same_run : (end : Keyword) (y : Symbol) (some : Bool) (w : Word) (place : ℕ) (q : List LocatedToken)
    (more : List Symbol) → GoesOn end y some w
    → (let s : LocatedToken = record {
      lookahead = token w;
      place = place;
    } in run depth_limit (y ∷ more) (s ∷ q) ≡ run depth_limit
    (Running in_rule 0 [] some ∷ Rules end ∷ more) (s ∷ q))
unfolding GoesOn
same_run end y some w place q more e = ap (step_on place (λ zs. run depth_limit zs q) more) e ∙ then_on end place q more
    (next depth_limit (Running in_rule 0 [] some) (token w))

passes_on : (end : Keyword) (y : Symbol) (some : Bool) (w : Word) (place : ℕ) (ws : List Word) (old new : Reading)
    → GoesOn end y some w
    → (let s : LocatedToken = record {
      lookahead = token w;
      place = place;
    } in Passes (Running in_rule 0 [] some ∷ []) [] (s ∷ []) ws old new
    → Passes (y ∷ []) (Rules end ∷ []) (s ∷ []) ws old new)
passes_on end y some w place ws old new e = λ h. record {
  shown = h.shown;
  shown_all = h.shown_all;
  words = h.words;
  turned = λ more q. same_run end y some w place (h.shown ++ q) more e ∙ h.turned (Rules end ∷ more) q;
}

stops_on : (f : SyntaxFault) (end : Keyword) (y : Symbol) (some : Bool) (w : Word) (place : ℕ) (old : Reading)
    → GoesOn end y some w
    → (let s : LocatedToken = record {
      lookahead = token w;
      place = place;
    } in StopsIn f (Running in_rule 0 [] some ∷ []) (s ∷ []) old
    → StopsIn f (y ∷ []) (s ∷ []) old)
stops_on faults.Memory end y some w place old e = λ h. tt
stops_on (faults.Fault k p) end y some w place old e = λ h. (
  h.0,
  h.1,
  h.2,
  λ more. same_run end y some w place h.0 more
      e ∙ h.3 (Rules end ∷ more),
)

other_than : (end k : Keyword) → same_keyword end k ≡ false → k ≡ end → ⊥
other_than end k e q = false≢true (sym e ∙ same_bytes (keyword_text end) (keyword_text k) (ap keyword_text (sym q)))

-- a token that is no name, and doesn't end the rules, begins a rule
rules_word : (end : Keyword) (l : Lexeme) → ((w : _) → l ≡ lexemes.Name w → ⊥)
    → is_keyword end (token (word_of l)) ≡ false → GoesOn end (Rules end) false (word_of l)
unfolding GoesOn
rules_word end (lexemes.Name w) f e = absurd (f w refl)
rules_word end (lexemes.Keyword k) f e = next_rules_keyword depth_limit end k (other_than end k e)
rules_word end _ f e = refl

begins_word : (end : Keyword) (l : Lexeme) (ws : List Word) → ((w : _) → l ≡ lexemes.Name w → ⊥)
    → is_keyword end (token (word_of l)) ≡ false → Begins end (word_of l ∷ ws)
begins_word end (lexemes.Name w) ws f e = absurd (f w refl)
begins_word end (lexemes.Keyword k) ws f e = other_than end k e
begins_word end _ ws f e = tt

-- behind a name any token but a colon goes on with the rule
begins_named : (end : Keyword) (n : List ℕ) (w : Word) (ws : List Word) → is_mark marks.Colon (token w) ≡ false
    → Begins end (name n ∷ w ∷ ws)
begins_named end n (mark marks.Colon) ws e = absurd (false≢true (sym e))
begins_named end n (mark m) ws e = tt
begins_named end n w ws e = tt

labelled_word : (end : Keyword) (n : List ℕ) (w : Word) → is_mark marks.Colon (token w) ≡ false
    → GoesOn end (Labelled end) true w
unfolding GoesOn
labelled_word end n w e = next_labelled_word depth_limit end n w [] (begins_named end n w [] e)

-- The first of some words is that of the token that they begin with.
first_is : (P : List Word → Type 0) (w : Word) (shown : List LocatedToken) (ws : List Word) → token w
    ∷ lookaheads shown ≡ map token (ws ++ mark marks.Semicolon ∷ []) → P [] → ((us : List Word) → P (w ∷ us)) → P ws
first_is P w shown [] e none some = none
first_is P w shown (v ∷ ws) e none some = let d : w ≡ v = cc in subst (λ x. P (x ∷ ws)) d (some ws)

-- a body behind the tokens of a buffer without open brackets
read_passes : (before : Buffer) (us : List Word) (s : LocatedToken) (b : Body) (old new : Reading)
    → words_of before.lexemes.items ≡ us → before.open.items ≡ [] → (g : BodyRead before s b old new)
    → Passes (Running in_rule 0 [] (has_some us) ∷ []) [] (s ∷ []) (g.further ++ mark marks.Semicolon ∷ []) old new
read_passes before us s b old new e o g =
    let P : List code.Bracket → Type 0 = λ l. Passes (Running in_rule 0 (brackets_of l) (has_some us) ∷ []) [] (s ∷ [])
    (g.further ++ mark marks.Semicolon ∷ []) old new in
    let Q : List Word → Type 0 = λ l. Passes (Running in_rule 0 (brackets_of before.open.items) (has_some l) ∷ []) []
    (s ∷ []) (g.further ++ mark marks.Semicolon ∷ []) old new in
    subst P o (subst Q e g.passes)

read_stops : (f : SyntaxFault) (before : Buffer) (us : List Word) (s : LocatedToken) (old : Reading)
    → words_of before.lexemes.items ≡ us → before.open.items ≡ []
    → StopsIn f (Running in_rule 0 (brackets_of before.open.items) (has_some (words_of before.lexemes.items)) ∷ [])
    (s ∷ []) old → StopsIn f (Running in_rule 0 [] (has_some us) ∷ []) (s ∷ []) old
read_stops f before us s old e o h =
    let P : List code.Bracket → Type 0 = λ l. StopsIn f (Running in_rule 0 (brackets_of l) (has_some us) ∷ []) (s ∷ [])
    old in
    let Q : List Word → Type 0 = λ l. StopsIn f (Running in_rule 0 (brackets_of before.open.items) (has_some l) ∷ [])
    (s ∷ []) old in
    subst P o (subst Q e h)

-- a body after an empty buffer
read_empty : (before : Buffer) (s : LocatedToken) (b : Body) (old new : Reading) → before.lexemes.items ≡ []
    → before.open.items ≡ [] → BodyRead before s b old new
    → Passes (Running in_rule 0 [] false ∷ []) [] (s ∷ []) (words_of_body b ++ mark marks.Semicolon ∷ []) old new
read_empty before s b old new e o g =
    let d : words_of before.lexemes.items ≡ [] = ap words_of e in
    passes_as (words_of_body b ++ mark marks.Semicolon ∷ []) (ap (λ l. l ++ mark marks.Semicolon ∷ [])
    (sym (g.words ∙ ap (λ l. l ++ g.further) d))) (read_passes before [] s b old new d o g)

-- a body of which the first token is taken
pub body_done : (r : Result tree.Body SyntaxFault) (before : Buffer) (s : LocatedToken) (old mid new : Reading)
    → before.lexemes.items ≡ [] → before.open.items ≡ [] → Shows old s mid
    → MatchResult r (λ b. BodyRead before s (body_of b) mid new)
    (λ f. StopsIn f (Running in_rule 0 (brackets_of before.open.items) (has_some (words_of before.lexemes.items))
    ∷ []) (s ∷ []) mid)
    → MatchResult r (λ b. FitsBody depth_limit (body_of b) × Passes (Running in_rule 0 [] false ∷ []) [] []
    (words_of_body (body_of b) ++ mark marks.Semicolon ∷ []) old new)
    (λ f. StopsIn f (Running in_rule 0 [] false ∷ []) [] old)
body_done (Ok b) before s old mid new e o h g =
    (g.fits, passes_first s old h (read_empty before s (body_of b) mid new e o g))
body_done (Err f) before s old mid new e o h g = stops_first f (Running in_rule 0 [] false ∷ []) s h
    (read_stops f before [] s mid (ap words_of e) o g)

-- a rule without a label, of which the first token is taken
pub bare_read : (end : Keyword) (l : Lexeme) (place : ℕ) (before : Buffer) (b : Body) (old new : Reading)
    → before.lexemes.items ≡ [] → before.open.items ≡ [] → ((w : _) → l ≡ lexemes.Name w → ⊥)
    → is_keyword end (token (word_of l)) ≡ false
    → (let s : LocatedToken = record {
      lookahead = token (word_of l);
      place = place;
    } in BodyRead before s b old new → RuleRead end s (record {
      label = None;
      body = b;
    }) old new)
bare_read end l place before b old new e o f k = λ g.
    let s : LocatedToken = record { lookahead = token (word_of l); place = place } in
    let p = read_empty before s b old new e o g in record {
      fits = g.fits;
      begins = λ _. first_is (Begins end) (word_of l) p.shown (words_of_body b) p.words tt
          (λ us. begins_word end l us f k);
      passes = passes_on end (Rules end) false (word_of l) place (words_of_body b ++ mark marks.Semicolon ∷ []) old new
          (rules_word end l f k) p;
    }

pub bare_stops : (x : SyntaxFault) (end : Keyword) (l : Lexeme) (place : ℕ) (before : Buffer) (old : Reading)
    → before.lexemes.items ≡ [] → before.open.items ≡ [] → ((w : _) → l ≡ lexemes.Name w → ⊥)
    → is_keyword end (token (word_of l)) ≡ false
    → (let s : LocatedToken = record {
      lookahead = token (word_of l);
      place = place;
    } in StopsIn x (Running in_rule 0 (brackets_of before.open.items)
    (has_some (words_of before.lexemes.items)) ∷ []) (s ∷ []) old → StopsIn x (Rules end ∷ []) (s ∷ []) old)
bare_stops x end l place before old e o f k = λ g.
    let s : LocatedToken = record { lookahead = token (word_of l); place = place } in
    stops_on x end (Rules end) false (word_of l) place old (rules_word end l f k)
    (read_stops x before [] s old (ap words_of e) o g)

-- a name with which a rule begins, taken already
name_taken : (end : Keyword) (w : literal.Word) (place : ℕ) (here : Reading) → Passes (Rules end ∷ [])
    (Labelled end ∷ []) (named w place ∷ []) (name (capitals w) ∷ []) here here
name_taken end w place here = passes_taken (Rules end) (Labelled end ∷ []) (name (capitals w)) (named w place) here refl
    refl

-- what stops behind it
pub behind_name : (x : SyntaxFault) (end : Keyword) (w : literal.Word) (place : ℕ) (here : Reading)
    → StopsIn x (Labelled end ∷ []) [] here → StopsIn x (Rules end ∷ []) (named w place ∷ []) here
behind_name x end w place here h = stops_behind x (Labelled end ∷ []) [] (name_taken end w place here) h

-- a label
label_taken : (end : Keyword) (w : literal.Word) (place : ℕ) (t : LocatedToken) (here mid : Reading) → Shows here t mid
    → is_mark marks.Colon t.lookahead ≡ true
    → Passes (Rules end ∷ []) (Running in_rule 0 [] false ∷ Rules end ∷ []) (named w place ∷ []) (name (capitals w)
    ∷ mark marks.Colon ∷ []) here mid
label_taken end w place t here mid h e = passes_join (name_taken end w place here)
    (passes_token (Labelled end) (Running in_rule 0 [] false ∷ Rules end ∷ []) (mark marks.Colon) t here mid h
    (mark_met marks.Colon t.lookahead e) refl)

pub behind_label : (x : SyntaxFault) (end : Keyword) (w : literal.Word) (place : ℕ) (t : LocatedToken)
    (here mid : Reading) → Shows here t mid → is_mark marks.Colon t.lookahead ≡ true
    → StopsIn x (Running in_rule 0 [] false ∷ []) [] mid → StopsIn x (Rules end ∷ []) (named w place ∷ []) here
behind_label x end w place t here mid h e g = stops_behind x (Running in_rule 0 [] false ∷ []) (Rules end ∷ [])
    (label_taken end w place t here mid h e) g

-- a rule with a label
pub labelled_read : (end : Keyword) (w : literal.Word) (place : ℕ) (t : LocatedToken) (b : Body)
    (here mid new : Reading) → Shows here t mid → is_mark marks.Colon t.lookahead ≡ true
    → FitsBody depth_limit b × Passes (Running in_rule 0 [] false ∷ []) [] [] (words_of_body b ++ mark marks.Semicolon
    ∷ []) mid new
    → RuleRead end (named w place) (record { label = Some (capitals w); body = b }) here new
labelled_read end w place t b here mid new h e g = record {
  fits = g.0;
  begins = λ q. absurd cc;
  passes = passes_join (label_taken end w place t here mid h e) (passes_more (Rules end ∷ []) g.1);
}

-- a rule without a label that begins with a name
module _ (end : Keyword) (w : literal.Word) (place : ℕ) (v : Word) (at : ℕ) (before : Buffer) (here mid : Reading) where
  pub second_stops : (x : SyntaxFault) → words_of before.lexemes.items ≡ name (capitals w) ∷ [] → before.open.items ≡ []
      → is_mark marks.Colon (token v) ≡ false
      → (let t : LocatedToken = record {
        lookahead = token v;
        place = at;
      } in Shows here t mid
      → StopsIn x (Running in_rule 0 (brackets_of before.open.items) (has_some (words_of before.lexemes.items))
      ∷ []) (t ∷ []) mid → StopsIn x (Rules end ∷ []) (named w place ∷ []) here)
  second_stops x e o k = λ h g.
      let t : LocatedToken = record { lookahead = token v; place = at } in
      stops_behind_taken x (Labelled end ∷ []) [] t (name_taken end w place here) h
      (stops_on x end (Labelled end) true v at mid (labelled_word end (capitals w) v k)
      (read_stops x before (name (capitals w) ∷ []) t mid e o g))

  pub second_read : (b : Body) (new : Reading) → words_of before.lexemes.items ≡ name (capitals w) ∷ []
      → before.open.items ≡ [] → is_mark marks.Colon (token v) ≡ false
      → (let t : LocatedToken = record {
        lookahead = token v;
        place = at;
      } in Shows here t mid → BodyRead before t b mid new
      → RuleRead end (named w place) (record { label = None; body = b }) here new)
  second_read b new e o k = λ h g.
      let t : LocatedToken = record { lookahead = token v; place = at } in
      let n = name (capitals w) in
      let p = read_passes before (n ∷ []) t b mid new e o g in
      let all : words_of_body b ≡ n ∷ g.further = g.words ∙ ap (λ l. l ++ g.further) e in
      record {
        fits = g.fits;
        begins = λ _. subst (Begins end) (sym all) (first_is (λ l. Begins end (n ∷ l)) v p.shown g.further p.words tt
            (λ us. begins_named end (capitals w) v us k));
        passes = passes_as (words_of_body b ++ mark marks.Semicolon ∷ []) (ap (λ l. l ++ mark marks.Semicolon ∷ [])
            (sym all))
            (passes_join (name_taken end w place here)
            (passes_first t here h (passes_on end (Labelled end) true v at (g.further ++ mark marks.Semicolon ∷ [])
            mid new (labelled_word end (capitals w) v k) p)));
      }

-- the rules so far
pub record RulesSoFar (end : Keyword) (rs : List Rule) (old here : Reading) : Type 0 where
  pub fits : FitsRules depth_limit end rs
  pub passes : Passes (Rules end ∷ []) (Rules end ∷ []) [] (concatenated (map words_of_rule rs)) old here

-- one rule more
pub rules_next : (end : Keyword) (rs : List Rule) (r : Rule) (s : LocatedToken) (old here mid new : Reading)
    → RulesSoFar end rs old here → Shows here s mid → RuleRead end s r mid new → RulesSoFar end (rs ++ r ∷ []) old new
rules_next end rs r s old here mid new so h g = record {
  fits = every_push (λ (q : Rule). FitsBody depth_limit q.body × BeginsRule end q) rs r so.fits (g.fits, g.begins);
  passes = passes_as (concatenated (map words_of_rule (rs ++ r ∷ []))) (sym (joined_push words_of_rule rs r))
      (passes_join so.passes (passes_first s here h g.passes));
}

pub rules_err_first : (x : SyntaxFault) (end : Keyword) (rs : List Rule) (old here : Reading)
    → RulesSoFar end rs old here → StopsIn x (Rules end ∷ []) [] here → StopsIn x (Rules end ∷ []) [] old
rules_err_first x end rs old here so h = stops_behind x (Rules end ∷ []) [] so.passes h

pub rules_err_rule : (x : SyntaxFault) (end : Keyword) (rs : List Rule) (s : LocatedToken) (old here mid : Reading)
    → RulesSoFar end rs old here → Shows here s mid → StopsIn x (Rules end ∷ []) (s ∷ []) mid
    → StopsIn x (Rules end ∷ []) [] old
rules_err_rule x end rs s old here mid so h g = stops_behind_taken x (Rules end ∷ []) [] s so.passes h g

-- the word that ends the rules
rules_ended : (end : Keyword) (rs : List Rule) (s : LocatedToken) (old here mid : Reading) → RulesSoFar end rs old here
    → Shows here s mid → is_keyword end s.lookahead ≡ true
    → Passes (Rules end ∷ []) (Just marks.Semicolon ∷ []) [] (concatenated (map words_of_rule rs) ++ keyword end ∷ []) old mid
rules_ended end rs s old here mid so h e = passes_join so.passes (passes_token (Rules end) (Just marks.Semicolon ∷ [])
    (keyword end) s here mid h (keyword_met end s.lookahead e) (next_rules_end depth_limit end))

pub rules_err_end : (x : SyntaxFault) (end : Keyword) (rs : List Rule) (s : LocatedToken) (old here mid : Reading)
    → RulesSoFar end rs old here → Shows here s mid → is_keyword end s.lookahead ≡ true
    → StopsIn x (Just marks.Semicolon ∷ []) [] mid → StopsIn x (Rules end ∷ []) [] old
rules_err_end x end rs s old here mid so h e g = stops_behind x (Just marks.Semicolon ∷ []) []
    (rules_ended end rs s old here mid so h e) g

pub rules_done : (end : Keyword) (rs : List Rule) (s : LocatedToken) (old here mid new : Reading)
    → RulesSoFar end rs old here → Shows here s mid → is_keyword end s.lookahead ≡ true
    → Passes (Just marks.Semicolon ∷ []) [] [] (mark marks.Semicolon ∷ []) mid new
    → FitsRules depth_limit end rs × Passes (Rules end ∷ []) [] [] (concatenated (map words_of_rule rs) ++ keyword end
    ∷ mark marks.Semicolon ∷ []) old new
rules_done end rs s old here mid new so h e g = (
  so.fits,
  passes_as (concatenated (map words_of_rule rs) ++ keyword end ∷ mark marks.Semicolon ∷ [])
      (append_assoc (concatenated (map words_of_rule rs)) (keyword end ∷ []) (mark marks.Semicolon ∷ []))
      (passes_join (rules_ended end rs s old here mid so h e) g),
)

tokens_behind : (w : Word) (shown : List LocatedToken) (ws : List Word) (old new : Reading) → token w
    ∷ lookaheads shown ≡ map token ws → ShowsAll old shown new → length (left new) ≤ length (left old)
tokens_behind w shown [] old new e h = absurd cc
tokens_behind w shown (v ∷ ws) old new e h = let d : lookaheads shown ≡ map token ws = cc in tokens_less shown ws old
    new h d

-- a rule leaves less of the text
pub rules_smaller : (end : Keyword) (w : Word) (place : ℕ) (r : Rule) (here mid new : Reading)
    → (let s : LocatedToken = record {
      lookahead = token w;
      place = place;
    } in Shows here s mid → RuleRead end s r mid new → length (left new) < length
    (left here))
rules_smaller end w place r here mid new = λ h g.
    let s : LocatedToken = record { lookahead = token w; place = place } in
    omega (
      arith,
      shown_less w s here mid h refl,
      tokens_behind w g.passes.shown (words_of_rule r) mid new
          g.passes.words g.passes.shown_all,
    )

-- a lexeme that is this name
pub named_done : (end : Keyword) (l : Lexeme) (w : literal.Word) (place : ℕ) (r : Result tree_rule.Rule SyntaxFault)
    (old new : Reading) → l ≡ lexemes.Name w
    → MatchResult r (λ x. RuleRead end (named w place) (rule_of x) old new)
    (λ f. StopsIn f (Rules end ∷ []) (named w place ∷ []) old)
    → (let s : LocatedToken = record {
      lookahead = token (word_of l);
      place = place;
    } in MatchResult r (λ x. RuleRead end s (rule_of x) old new)
    (λ f. StopsIn f (Rules end ∷ []) (s ∷ []) old))
named_done end l w place r old new e h =
    let P : Lexeme → Type 0 = λ k. (let s : LocatedToken = record {
      lookahead = token (word_of k);
      place = place;
    } in MatchResult r (λ x. RuleRead end s (rule_of x) old new)
    (λ f. StopsIn f (Rules end ∷ []) (s ∷ []) old)) in
    subst P (sym e) h
