-- What a token, a fault or the end of the text means for what was to come.
use Rattle.std.proofs.Common.{◌≡◌, ℕ, ◌<◌, ◌≤◌, map, true, false, List, [], ◌∷◌, ◌++◌, length, drop, Option, Some, None, Err, refl, sym, ap, ◌∙◌, subst, arith, length-append, length-drop}
use Rattle.std.proofs.lemmas.Bool.{false≢true}
use Rattle.std.proofs.lemmas.Slice.Eq.{bytes_eq-Decides}
use Rattle.parsing.specs.Tables.{lookaheads}
use Rattle.parsing.proofs.Turning as turning
use Rattle.express_lexer.specs.declared.marks.Mark.{Mark}
use Rattle.express_lexer.specs.declared.token.Token.{Token}
use Rattle.express_lexer.specs.declared.token.TextFault.{TextFault}
use Rattle.express_lexer.specs.Marks.{mark_text}
use Rattle.express_lexer.specs.Layout.{joined}
use Rattle.express_lexer.specs.Reading.{Reading, Takes, IsAtEnd, IsFaulty, left}
use Rattle.express_lexer.proofs.MarkLemmas.{one_mark}
use Rattle.express_lexer.proofs.ReadingLemmas.{some_bytes}
use Rattle.express_syntax.specs.declared.keyword.Keyword.{Keyword}
use Rattle.express_syntax.specs.declared.keyword.Keyword.TheVariants as keywords
use Rattle.express_syntax.specs.declared.lexeme.Lexeme.{Lexeme}
use Rattle.express_syntax.specs.declared.lexeme.Lexeme.TheVariants as lexemes
use Rattle.express_syntax.specs.Keywords.{keyword_text, keyword_at}
use Rattle.express_syntax.specs.Words.{Word, keyword, mark, word_of, word_of_sort}
use Rattle.express_syntax.specs.Grammar.{depth_limit}
use Rattle.express_syntax.specs.declared.fault.FaultKind.TheVariants as fault_kinds
use Rattle.express_syntax.specs.declared.fault.SyntaxFault.{SyntaxFault}
use Rattle.express_syntax.specs.declared.fault.SyntaxFault.TheVariants as faults
use Rattle.express_syntax.specs.Texts.{Lookahead, token, flawed, end_of_text, LocatedToken, ShowsAll, Shows, shows_token, shows_fault, shows_end}
use Rattle.express_syntax.specs.steps.Predict.{Symbol, Just, Say, Id, EndOfText, next, refused, is_mark, is_keyword}
use Rattle.express_syntax.specs.steps.Steps.{Reads, StopsIn, Passes}
use Rattle.express_syntax.proofs.Turning.{stops_shown}

at_end : (y : Symbol) → (y ≡ EndOfText → ⊥) → next depth_limit y end_of_text ≡ Err fault_kinds.Expected
at_end EndOfText h = absurd (h refl)
at_end _ h = refl

at_flaw : (y : Symbol) → next depth_limit y flawed ≡ Err fault_kinds.BadToken
at_flaw EndOfText = refl
at_flaw _ = refl

-- the end of the text stops all but what ends it
pub stops_end : (place : ℕ) (old new : Reading) → IsAtEnd old new → place ≡ new.place → (y : Symbol)
    → (y ≡ EndOfText → ⊥) → StopsIn (faults.Fault fault_kinds.Expected place) (y ∷ []) [] old
stops_end place old new h e y not_over =
    let P : ℕ → Type 0 = λ p. StopsIn (faults.Fault fault_kinds.Expected p) (y ∷ []) [] old in
    let s : LocatedToken = record { lookahead = end_of_text; place = length old.text } in
    subst P (sym (e ∙ h.new_place)) (stops_shown fault_kinds.Expected y s old new (shows_end h refl)
    (at_end y not_over))

-- a fault of the lexer stops all
pub stops_flaw : (f : TextFault) (old new : Reading) → IsFaulty old f new → (y : Symbol)
    → StopsIn (faults.Fault fault_kinds.BadToken f.place) (y ∷ []) [] old
stops_flaw f old new h y =
    let s : LocatedToken = record { lookahead = flawed; place = f.place } in
    stops_shown fault_kinds.BadToken y s old new (shows_fault f h refl) (at_flaw y)

-- a token that is taken, as a lexeme
pub shows_lexeme : (t : Token) (l : Lexeme) (old new : Reading) → word_of l ≡ word_of_sort t.sort → Takes old t new
    → (let s : LocatedToken = record { lookahead = token (word_of l); place = t.place } in Shows old s new)
shows_lexeme t l old new e h = shows_token t h (λ i. record { lookahead = token (e i); place = t.place })

-- a token that can't stand there is refused
pub stops_refused : (e : SyntaxFault) (y : Symbol) (s : LocatedToken) (old new : Reading) → Shows old s new
    → next depth_limit y s.lookahead ≡ Err (refused s.lookahead) → e ≡ faults.Fault (refused s.lookahead) s.place
    → StopsIn e (y ∷ []) [] old
stops_refused e y s old new h n q = let P : SyntaxFault → Type 0 = λ x. StopsIn x (y ∷ []) [] old in
    subst P (sym q) (stops_shown (refused s.lookahead) y s old new h n)

-- one token
pub reads_shown : (w : Word) (s : LocatedToken) (old new : Reading) → Shows old s new → s.lookahead ≡ token w
    → Reads old (w ∷ []) new
reads_shown w s old new h e = (s ∷ [], (new, h, refl), ap (λ (x : Lookahead). x ∷ []) e)

-- what shows a word is a token
pub shown_token : (w : Word) (s : LocatedToken) (old new : Reading) → Shows old s new → s.lookahead ≡ token w
    → (t : Token) × Takes old t new × (word_of_sort t.sort ≡ w) × (s.place ≡ t.place)
shown_token w s old new (shows_token t h q) e =
    let d : token (word_of_sort t.sort) ≡ token w = sym (ap (λ (x : LocatedToken). x.lookahead) q) ∙ e in
    (t, h, cc, ap (λ (x : LocatedToken). x.place) q)
shown_token w s old new (shows_fault f h q) e = let d : flawed ≡ token w =
    sym (ap (λ (x : LocatedToken). x.lookahead) q) ∙ e in absurd cc
shown_token w s old new (shows_end h q) e = let d : end_of_text ≡ token w =
    sym (ap (λ (x : LocatedToken). x.lookahead) q) ∙ e in absurd cc

-- a token leaves less of the text
pub takes_less : (old new : Reading) (t : Token) → Takes old t new → length (left new) < length (left old)
takes_less old new t h =
    omega (
      arith,
      some_bytes (drop t.place old.text) t.sort (length t.text.now) h.front,
      ap length h.reaches.layout.split,
      length-append (joined h.reaches.layout.blanks) (drop t.place old.text),
      length-drop t.place old.text,
      length-drop old.place old.text,
      length-drop new.place new.text,
      ap length h.new_text,
      h.new_place,
      h.front.within,
    )

pub shown_less : (w : Word) (s : LocatedToken) (old new : Reading) → Shows old s new → s.lookahead ≡ token w
    → length (left new) < length (left old)
shown_less w s old new h e = let t = shown_token w s old new h e in takes_less old new t.0 t.1

-- tokens leave no more of the text
pub tokens_less : (shown : List LocatedToken) (ws : List Word) (old new : Reading) → ShowsAll old shown new
    → lookaheads shown ≡ map token ws → length (left new) ≤ length (left old)
tokens_less [] ws old new h e = rw h (omega arith)
tokens_less (s ∷ shown) [] old new h e = absurd cc
tokens_less (s ∷ shown) (w ∷ ws) old new h e =
    let d : s.lookahead ≡ token w = cc in
    let r : lookaheads shown ≡ map token ws = cc in
    omega (arith, shown_less w s old h.0 h.1 d, tokens_less shown ws h.0 new h.2 r)

-- words that pass leave no more of the text
pub passes_within : {ys zs : List Symbol} {ws : List Word} {old new : Reading} → Passes ys zs [] ws old new
    → length (left new) ≤ length (left old)
passes_within {ys} {zs} {ws} {old} {new} h = tokens_less h.shown ws old new h.shown_all h.words

pub mark_met : (m : Mark) (s : Lookahead) → is_mark m s ≡ true → s ≡ token (mark m)
mark_met m (token (mark k)) e = ap (λ x. token (mark x))
    (sym (one_mark m k ((bytes_eq-Decides (mark_text m) (mark_text k)).0 e)))
mark_met m _ e = absurd (false≢true e)

pub mark_refused : (m : Mark) (s : Lookahead) → is_mark m s ≡ false → next depth_limit (Just m) s ≡ Err (refused s)
mark_refused m s e = rw e refl

-- a keyword is found by its spelling
keyword_found : (k : Keyword) → keyword_at (keyword_text k) ≡ Some k
keyword_found keywords.Abstract = refl
keyword_found _ = refl

keyword_or : Option Keyword → Keyword → Keyword
keyword_or None k = k
keyword_or (Some j) k = j

pub same_keyword_text : (k j : Keyword) → keyword_text k ≡ keyword_text j → k ≡ j
unfolding keyword_or
same_keyword_text k j e = ap (λ o. keyword_or o k) (sym (keyword_found k) ∙ ap keyword_at e ∙ keyword_found j)

pub keyword_met : (k : Keyword) (s : Lookahead) → is_keyword k s ≡ true → s ≡ token (keyword k)
keyword_met k (token (keyword j)) e = ap (λ x. token (keyword x))
    (sym (same_keyword_text k j ((bytes_eq-Decides (keyword_text k) (keyword_text j)).0 e)))
keyword_met k _ e = absurd (false≢true e)

pub keyword_refused : (k : Keyword) (s : Lookahead) → is_keyword k s ≡ false → next depth_limit (Say k) s ≡ Err
    (refused s)
keyword_refused k s e = rw e refl

pub name_refused : (l : Lexeme) → ((w : _) → l ≡ lexemes.Name w → ⊥) → next depth_limit Id (token (word_of l)) ≡ Err
    (refused (token (word_of l)))
name_refused (lexemes.Name w) h = absurd (h w refl)
name_refused _ h = refl
