-- A lexer shows one thing at each place of a text.
use Rattle.std.proofs.Common.{◌≡◌, ℕ, List, refl, sym, ap, ◌∙◌, Some, None, Ok, Err}
use Rattle.parsing.proofs.Shown.{IsDetermined}
use Rattle.step_lexer.specs.declared.token.Sort.{Sort}
use Rattle.step_lexer.specs.declared.token.Sort.TheVariants as sorts
use Rattle.step_lexer.specs.declared.token.Token.{Token}
use Rattle.step_lexer.specs.Reading.{SameSort}
use Rattle.step_lexer.proofs.Determined.{determined}
use Rattle.step_structures.specs.Words.{Word, keyword, user_defined, name, number, element, string, binary, mark, word_of, token, LocatedToken, located, located_fault, Shows, shows_token, shows_fault, shows_end}

same_word : (s u : Sort) (t : List ℕ) → SameSort s u → word_of s t ≡ word_of u t
same_word sorts.Begin sorts.Begin t h = refl
same_word sorts.End sorts.End t h = refl
same_word (sorts.Keyword v) (sorts.Keyword w) t h = ap keyword h
same_word (sorts.UserDefined v) (sorts.UserDefined w) t h = ap user_defined h
same_word sorts.Scope sorts.Scope t h = refl
same_word (sorts.Name m) (sorts.Name n) t h = ap (λ k. name k t) h
same_word (sorts.Integer a) (sorts.Integer b) t h = ap number h
same_word (sorts.Real a) (sorts.Real b) t h = ap number h
same_word (sorts.Element v) (sorts.Element w) t h = ap element h
same_word (sorts.String a) (sorts.String b) t h = ap string h
same_word (sorts.Binary a) (sorts.Binary b) t h = ap binary h
same_word (sorts.Mark m) (sorts.Mark n) t h = ap mark h
same_word _ _ t h = absurd h

at_place : (v w : Word) (p q : ℕ) → v ≡ w → p ≡ q → (let s : LocatedToken = record {
  lookahead = token v;
  place = p;
} in s) ≡ record { lookahead = token w; place = q }
at_place v w p q e f = λ i. record { lookahead = token (e i); place = f i }

same_located : (t u : Token) → t.place ≡ u.place → t.text.now ≡ u.text.now → SameSort t.sort u.sort
    → located t ≡ located u
same_located t u p e h = at_place (word_of t.sort t.text.now) (word_of u.sort u.text.now) t.place u.place
    (same_word t.sort u.sort t.text.now h ∙ ap (word_of u.sort) e) p

-- what a lexer shows is determined, and how far the text is read then
pub shown_once : IsDetermined Shows
shown_once old a b s t h k = by h k
  where
    by : Shows old s a → Shows old t b → (s ≡ t) × (a ≡ b)
    by (shows_token x h e) (shows_token y k f) =
        let d = determined old a b (Ok (Some x)) (Ok (Some y)) h k in
        (e ∙ same_located x y d.0.0 d.0.1 d.0.2 ∙ sym f, d.1)
    by (shows_token x h e) (shows_fault y k f) =
        absurd ((determined old a b (Ok (Some x)) (Err y) h k).0)
    by (shows_token x h e) (shows_end k f) = absurd ((determined old a b (Ok (Some x)) (Ok None) h k).0)
    by (shows_fault x h e) (shows_token y k f) =
        absurd ((determined old a b (Err x) (Ok (Some y)) h k).0)
    by (shows_fault x h e) (shows_fault y k f) =
        let d = determined old a b (Err x) (Err y) h k in (e ∙ ap located_fault d.0 ∙ sym f, d.1)
    by (shows_fault x h e) (shows_end k f) = absurd ((determined old a b (Err x) (Ok None) h k).0)
    by (shows_end h e) (shows_token y k f) = absurd ((determined old a b (Ok None) (Ok (Some y)) h k).0)
    by (shows_end h e) (shows_fault y k f) = absurd ((determined old a b (Ok None) (Err y) h k).0)
    by (shows_end h e) (shows_end k f) = (e ∙ sym f, (determined old a b (Ok None) (Ok None) h k).1)
