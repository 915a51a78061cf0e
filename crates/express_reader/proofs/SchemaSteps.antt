-- A schema, token by token.
use Rattle.std.proofs.Common.{◌≡◌, ℕ, ◌<◌, ◌≤◌, true, List, [], ◌∷◌, ◌++◌, length, map, Option, Some, Ok, Err, refl, sym, ap, ◌∙◌, subst, append_assoc, length-drop, le_of_eq, arith}
use Rattle.parsing.specs.Tables.{lookaheads}
use Rattle.parsing.proofs.Lists.{lookaheads_append}
use Rattle.parsing.proofs.Shown as shown
use Rattle.express_lexer.specs.declared.marks.Mark.TheVariants as marks
use Rattle.express_lexer.specs.declared.token.Token.{Token}
use Rattle.express_lexer.specs.Reading.{Reading, start, left, Takes, IsAtEnd, Answers}
use Rattle.express_syntax.specs.declared.keyword.Keyword.{Keyword}
use Rattle.express_syntax.specs.declared.keyword.Keyword.TheVariants as keywords
use Rattle.express_syntax.specs.declared.lexeme.Lexeme.{Lexeme}
use Rattle.express_syntax.specs.Words.{Word, keyword, name, mark, word_of, word_of_sort}
use Rattle.express_syntax.specs.Grammar.{depth_limit}
use Rattle.express_syntax.specs.declared.fault.FaultKind.{FaultKind}
use Rattle.express_syntax.specs.declared.fault.SyntaxFault.{SyntaxFault}
use Rattle.express_syntax.specs.declared.fault.SyntaxFault.TheVariants as faults
use Rattle.express_syntax.specs.declared.tree.Version.{Version}
use Rattle.express_syntax.specs.declared.tree.Version.TheVariants as versions
use Rattle.express_syntax.specs.declared.tree.Declaration as code
use Rattle.express_syntax.specs.Schemas.{Declaration, Schema}
use Rattle.express_syntax.specs.Views.{version_of, declaration_of}
use Rattle.express_syntax.specs.WrittenSchemas.{concatenated, words_of_declaration, words_of_version, words_of_opening, words_of_schema}
use Rattle.express_syntax.specs.Profile.{Every, IsVersion, FitsDeclaration, FitsSchema}
use Rattle.express_syntax.specs.Texts.{token, end_of_text, LocatedToken, Shows, shows_token, shows_fault, shows_end, ShowsAll, lookaheads_of, ReadsAs}
use Rattle.express_syntax.specs.steps.Predict.{Symbol, Just, Say, Id, Declarations, EndOfText, refused, is_mark, is_keyword, next, next_version, schema_symbols}
use Rattle.express_syntax.specs.steps.Predict as predict
use Rattle.express_syntax.specs.steps.Steps.{StopsIn, Passes}
use Rattle.express_syntax.proofs.Turning.{stops_shown}
use Rattle.express_syntax.proofs.Looking.{mark_met, keyword_met, reads_shown, shows_lexeme, shown_less, takes_less}
use Rattle.express_syntax.proofs.Taking.{passes_as, passes_join, passes_more, passes_token, passes_taken, passes_first, stops_behind, stops_behind_taken}
use Rattle.express_token_runs.proofs.SkippedSteps.{passes_both, shown_within}
use Rattle.express_syntax.proofs.Lists.{every_push, joined_push, map_push}
use Rattle.express_syntax.proofs.SameText.{shows_text}
use Rattle.express_syntax.proofs.StandLemmas.{reads_stands}
use Rattle.express_syntax.specs.Passages.{StandsBehind}
use Rattle.express_syntax.specs.Places.{IsDeclarationAt, AreDeclarationsAt}

-- a fault at a token
pub stops_at : (e : SyntaxFault) (k : FaultKind) (y : Symbol) (s : LocatedToken) (old new : Reading) → Shows old s new
    → next depth_limit y s.lookahead ≡ Err k → e ≡ faults.Fault k s.place → StopsIn e (y ∷ []) [] old
stops_at e k y s old new h n q = let P : SyntaxFault → Type 0 = λ x. StopsIn x (y ∷ []) [] old in
    subst P (sym q) (stops_shown k y s old new h n)

version_next : (v : Version) → next depth_limit predict.Version (token (version_of v)) ≡ Ok (Just marks.Semicolon ∷ [])
version_next (versions.String t) = refl
version_next (versions.Encoded t) = refl

pub version_is : (v : Version) → IsVersion (version_of v)
version_is (versions.String t) = tt
version_is (versions.Encoded t) = tt

pub passes_version : (v : Version) (s : LocatedToken) (old new : Reading) → Shows old s new
    → s.lookahead ≡ token (version_of v) → Passes (predict.Version ∷ []) (Just marks.Semicolon ∷ []) []
    (version_of v ∷ []) old new
passes_version v s old new h is = passes_token predict.Version (Just marks.Semicolon ∷ []) (version_of v) s old new h is
    (version_next v)

-- no version
pub passes_unversioned : (s : LocatedToken) (old new : Reading) → Shows old s new → is_mark marks.Semicolon
    s.lookahead ≡ true → Passes (predict.Version ∷ []) [] [] (mark marks.Semicolon ∷ []) old new
passes_unversioned s old new h e = passes_token predict.Version [] (mark marks.Semicolon) s old new h
    (mark_met marks.Semicolon s.lookahead e) refl

-- a declaration that begins with a keyword, which is taken
keyword_taken : (k : Keyword) (ys : List Symbol) (s : LocatedToken) (here : Reading) → is_keyword k s.lookahead ≡ true
    → next depth_limit Declarations (token (keyword k)) ≡ Ok (ys ++ Declarations ∷ []) → Passes (Declarations ∷ [])
    (ys ++ Declarations ∷ []) (s ∷ []) (keyword k ∷ []) here here
keyword_taken k ys s here e n = passes_taken Declarations (ys ++ Declarations ∷ []) (keyword k) s here
    (keyword_met k s.lookahead e) n

pub declared : {ws : List Word} {old new : Reading} (k : Keyword) (ys : List Symbol) (us : List Word) (s : LocatedToken)
    → is_keyword k s.lookahead ≡ true → next depth_limit Declarations (token (keyword k)) ≡ Ok (ys ++ Declarations ∷ [])
    → us ≡ keyword k ∷ ws → Passes ys [] [] ws old new → Passes (Declarations ∷ []) (Declarations ∷ []) (s ∷ []) us old
    new
declared {ws} {old} k ys us s e n is h = passes_as us (sym is) (passes_join (keyword_taken k ys s old e n)
    (passes_more (Declarations ∷ []) h))

-- the declarations so far
pub record DeclarationsSoFar (old here : Reading) (ds : List Declaration) : Type 0 where
  pub fits : Every (FitsDeclaration depth_limit) ds
  pub passes : Passes (Declarations ∷ []) (Declarations ∷ []) [] (concatenated (map words_of_declaration ds)) old here

pub declarations_next : (old here mid new : Reading) (ds all : List code.Declaration) (d : code.Declaration)
    (s : LocatedToken) → DeclarationsSoFar old here (map declaration_of ds) → Shows here s mid → all ≡ ds ++ d ∷ []
    → FitsDeclaration depth_limit (declaration_of d)
    → Passes (Declarations ∷ []) (Declarations ∷ []) (s ∷ []) (words_of_declaration (declaration_of d)) mid new
    → DeclarationsSoFar old new (map declaration_of all)
declarations_next old here mid new ds all d s so h e fits p =
    let P : List Declaration → Type 0 = DeclarationsSoFar old new in
    let trees = map declaration_of ds in
    subst P (sym (ap (map declaration_of) e ∙ map_push declaration_of ds d)) (record {
      fits = every_push (FitsDeclaration depth_limit) trees (declaration_of d) so.fits fits;
      passes = passes_as (concatenated (map words_of_declaration (trees ++ declaration_of d ∷ [])))
          (sym (joined_push words_of_declaration trees (declaration_of d)))
          (passes_join so.passes (passes_first s here h p));
    })

-- one declaration more, whose first word and all of whose words stand behind the others
one_more : (text : List ℕ) (from : ℕ) (ds : List code.Declaration) (d : code.Declaration) (w : Word)
    (here behind to : ℕ) → AreDeclarationsAt text from ds here → StandsBehind text here (w ∷ []) behind
    → IsDeclarationAt text behind d → StandsBehind text here (words_of_declaration (declaration_of d)) to
    → AreDeclarationsAt text from (ds ++ d ∷ []) to
one_more text from [] d w here behind to h first is all =
    subst (λ p. AreDeclarationsAt text p (d ∷ []) to) (sym h) (w, behind, first, is, to, all, refl)
one_more text from (x ∷ ds) d w here behind to h first is all =
    (h.0, h.1, h.2, h.3, h.4, h.5, one_more text h.4 ds d w here behind to h.6 first is all)

-- one declaration more stands behind the others
pub declarations_at : (old here mid new : Reading) (ds all : List code.Declaration) (d : code.Declaration)
    (s : LocatedToken) (w : Word) → s.lookahead ≡ token w → here.text ≡ old.text
    → AreDeclarationsAt old.text old.place ds here.place → Shows here s mid → all ≡ ds ++ d ∷ []
    → IsDeclarationAt mid.text mid.place d
    → Passes (Declarations ∷ []) (Declarations ∷ []) (s ∷ []) (words_of_declaration (declaration_of d)) mid new
    → AreDeclarationsAt old.text old.place all new.place
declarations_at old here mid new ds all d s w shown same so h e is p =
    let within = shown_within here mid s w h shown in
    let q = passes_first s here h p in
    let first = reads_stands here mid (w ∷ []) within (reads_shown w s here mid h shown) in
    let words = words_of_declaration (declaration_of d) in
    let whole = reads_stands here new words within (q.shown, q.shown_all, q.words) in
    let kept = subst (λ t. IsDeclarationAt t mid.place d) (shows_text here s mid h) is in
    let others = subst (λ t. AreDeclarationsAt t old.place ds here.place) (sym same) so in
    let more = one_more here.text old.place ds d w here.place mid.place new.place others first kept whole in
    subst (λ l. AreDeclarationsAt old.text old.place l new.place) (sym e)
    (subst (λ t. AreDeclarationsAt t old.place (ds ++ d ∷ []) new.place) same more)

pub declarations_stop : (e : SyntaxFault) (old here : Reading) (ds : List Declaration) → DeclarationsSoFar old here ds
    → StopsIn e (Declarations ∷ []) [] here → StopsIn e (Declarations ∷ []) [] old
declarations_stop e old here ds so h = stops_behind e (Declarations ∷ []) [] so.passes h

pub declarations_stop_taken : (e : SyntaxFault) (old here mid : Reading) (ds : List Declaration) (s : LocatedToken)
    → DeclarationsSoFar old here ds → Shows here s mid → StopsIn e (Declarations ∷ []) (s ∷ []) mid
    → StopsIn e (Declarations ∷ []) [] old
declarations_stop_taken e old here mid ds s so h g = stops_behind_taken e (Declarations ∷ []) [] s so.passes h g

passes_end : (old here mid : Reading) (ds : List Declaration) (s : LocatedToken) → DeclarationsSoFar old here ds
    → Shows here s mid → is_keyword keywords.EndSchema s.lookahead ≡ true → Passes (Declarations ∷ [])
    (Just marks.Semicolon ∷ []) [] (concatenated (map words_of_declaration ds) ++ keyword keywords.EndSchema ∷ []) old mid
passes_end old here mid ds s so h e = passes_join so.passes (passes_token Declarations (Just marks.Semicolon ∷ [])
    (keyword keywords.EndSchema) s here mid h (keyword_met keywords.EndSchema s.lookahead e) refl)

pub declarations_stop_end : (e : SyntaxFault) (old here mid : Reading) (ds : List Declaration) (s : LocatedToken)
    → DeclarationsSoFar old here ds → Shows here s mid → is_keyword keywords.EndSchema s.lookahead ≡ true
    → StopsIn e (Just marks.Semicolon ∷ []) [] mid → StopsIn e (Declarations ∷ []) [] old
declarations_stop_end e old here mid ds s so h q g = stops_behind e (Just marks.Semicolon ∷ []) []
    (passes_end old here mid ds s so h q) g

pub declarations_done : (old here mid new : Reading) (ds : List Declaration) (s : LocatedToken)
    → DeclarationsSoFar old here ds → Shows here s mid → is_keyword keywords.EndSchema s.lookahead ≡ true
    → Passes (Just marks.Semicolon ∷ []) [] [] (mark marks.Semicolon ∷ []) mid new
    → Every (FitsDeclaration depth_limit) ds × Passes (Declarations ∷ []) [] [] (concatenated (map words_of_declaration ds)
    ++ keyword keywords.EndSchema ∷ mark marks.Semicolon ∷ []) old new
declarations_done old here mid new ds s so h e p =
    let words = concatenated (map words_of_declaration ds) in (
      so.fits,
      passes_as (words ++ keyword keywords.EndSchema ∷ mark marks.Semicolon ∷ [])
          (append_assoc words (keyword keywords.EndSchema ∷ []) (mark marks.Semicolon ∷ []))
          (passes_join (passes_end old here mid ds s so h e) p),
    )

-- what is shown leaves no more of the text
falls : (old : Reading) (s : LocatedToken) (new : Reading) → Shows old s new → length (left new) ≤ length (left old)
falls old s new (shows_token t h e) = let l = takes_less old new t h in omega (arith, l)
falls old s new (shows_fault f h e) = le_of_eq (ap (λ r. length (left r)) h.same)
falls old s new (shows_end h e) = omega (arith, length-drop new.place new.text, h.new_place, ap length h.new_text)

pub declaration_less : {ys zs : List Symbol} {before : List LocatedToken} {ws : List Word} (here mid new : Reading)
    (l : Lexeme) (place : ℕ) → (let s : LocatedToken = record {
      lookahead = token (word_of l);
      place = place;
    } in Shows here s mid) → Passes ys zs before ws mid new
    → length (left new) < length (left here)
declaration_less here mid new l place h p =
    let s : LocatedToken = record { lookahead = token (word_of l); place = place } in
    let one = shown_less (word_of l) s here mid h refl in
    let more = shown.shows_falls Shows (λ r. length (left r)) falls mid p.shown new p.shown_all in
    omega (arith, one, more)

-- what a schema begins with
pub passes_opening : {a b c d : Reading} (n : List ℕ) (version : Option Word) → Passes (Say keywords.Schema ∷ []) [] []
    (keyword keywords.Schema ∷ []) a b → Passes (Id ∷ []) [] [] (name n ∷ []) b c → Passes (predict.Version ∷ []) [] []
    (words_of_version version ++ mark marks.Semicolon ∷ []) c d
    → Passes (Say keywords.Schema ∷ Id ∷ predict.Version ∷ []) [] [] (keyword keywords.Schema ∷ name n
    ∷ (words_of_version version ++ mark marks.Semicolon ∷ [])) a d
passes_opening n version h k g = passes_both h (passes_both k g)

-- a schema, and the end of the text
pub schema_done : {a b c : Reading} (x : Schema) (new : Reading) → Passes (Say keywords.Schema ∷ Id ∷ predict.Version
    ∷ []) [] [] (words_of_opening x) a b → Passes (Declarations ∷ []) [] []
    (concatenated (map words_of_declaration x.declarations) ++ keyword keywords.EndSchema ∷ mark marks.Semicolon ∷ []) b c
    → IsAtEnd c new
    → (shown : List LocatedToken) × ShowsAll a shown new × (lookaheads shown ≡ lookaheads_of x)
schema_done {a} {b} {c} x new h k e =
    let p = passes_as (words_of_schema x)
    (sym (append_assoc (words_of_opening x) (concatenated (map words_of_declaration x.declarations))
    (keyword keywords.EndSchema ∷ mark marks.Semicolon ∷ []))) (passes_both h k) in
    let s : LocatedToken = record { lookahead = end_of_text; place = length c.text } in (
      p.shown ++ s ∷ [],
      shown.shows_join Shows a p.shown c (s ∷ []) new p.shown_all (shown.shows_one Shows c s new (shows_end e refl)),
      lookaheads_append p.shown (s ∷ []) ∙ ap (λ l. l ++ end_of_text ∷ []) p.words,
    )

-- what is read of a whole text is what it reads as
pub reads_as : (text : List ℕ) (old new : Reading) (x : Schema) → old ≡ start text → FitsSchema depth_limit x
    → (shown : List LocatedToken) → ShowsAll old shown new → lookaheads shown ≡ lookaheads_of x → ReadsAs text x
reads_as text old new x e fits shown h are = record {
  fits = fits;
  shown = shown;
  end = new;
  shows = let P : Reading → Type 0 = λ r. ShowsAll r shown new in subst P e h;
  are = are;
}

at_some : (old : Reading) (o : Option Token) (t : Token) (new : Reading) → o ≡ Some t → Answers old (Ok o) new
    → Takes old t new
at_some old o t new e h = let P : Option Token → Type 0 = λ p. Answers old (Ok p) new in subst P e h

-- a token behind the schema
pub stops_over : (e : SyntaxFault) (k : FaultKind) (old : Reading) (o : Option Token) (t : Token) (l : Lexeme)
    (new : Reading) → o ≡ Some t → Answers old (Ok o) new → word_of l ≡ word_of_sort t.sort → next depth_limit EndOfText
    (token (word_of l)) ≡ Err k → e ≡ faults.Fault k t.place → StopsIn e (EndOfText ∷ []) [] old
stops_over e k old o t l new is h w n q =
    let s : LocatedToken = record { lookahead = token (word_of l); place = t.place } in
    stops_at e k EndOfText s old new (shows_lexeme t l old new w (at_some old o t new is h)) n q

-- a stop at the start of a text
pub stops_at_start : (e : SyntaxFault) (text : List ℕ) (old : Reading) → old ≡ start text
    → StopsIn e schema_symbols [] old → StopsIn e schema_symbols [] (start text)
stops_at_start e text old h s = let P : Reading → Type 0 = λ r. StopsIn e schema_symbols [] r in subst P h s
