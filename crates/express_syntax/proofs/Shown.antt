-- A lexer shows one thing at each place of a text.
use Rattle.std.proofs.Common.{◌≡◌, ℕ, sym, ap, ◌∙◌, Some, None, Ok, Err}
use Rattle.parsing.proofs.Shown.{IsDetermined}
use Rattle.express_lexer.specs.declared.token.Sort.{Sort}
use Rattle.express_lexer.specs.declared.token.Sort.TheVariants as sorts
use Rattle.express_lexer.specs.declared.token.Token.{Token}
use Rattle.express_lexer.specs.declared.token.TextFault.{TextFault}
use Rattle.express_lexer.specs.Reading.{SameSort}
use Rattle.express_lexer.proofs.Determined.{determined}
use Rattle.step_literals.specs.Words.{upper}
use Rattle.express_syntax.specs.Keywords.{keyword_at}
use Rattle.express_syntax.specs.Words.{Word, integer, real, string, encoded, binary, mark, keyword_or_name, word_of_sort}
use Rattle.express_syntax.specs.Texts.{token, flawed, LocatedToken, located, Shows, shows_token, shows_fault, shows_end}

same_word : (s u : Sort) → SameSort s u → word_of_sort s ≡ word_of_sort u
same_word (sorts.Word v) (sorts.Word w) h = ap (λ t. keyword_or_name (upper t) (keyword_at (upper t))) h
same_word (sorts.Integer a) (sorts.Integer b) h = ap integer h
same_word (sorts.Real a) (sorts.Real b) h = ap real h
same_word (sorts.String a) (sorts.String b) h = ap string h
same_word (sorts.Encoded a) (sorts.Encoded b) h = ap encoded h
same_word (sorts.Binary a) (sorts.Binary b) h = ap binary h
same_word (sorts.Mark m) (sorts.Mark n) h = ap mark h
same_word _ _ h = absurd h

at_place : (v w : Word) (p q : ℕ) → v ≡ w → p ≡ q → (let s : LocatedToken = record {
  lookahead = token v;
  place = p;
} in s) ≡ record { lookahead = token w; place = q }
at_place v w p q e f = λ i. record { lookahead = token (e i); place = f i }

same_located : (t u : Token) → t.place ≡ u.place → SameSort t.sort u.sort → located t ≡ located u
same_located t u p h = at_place (word_of_sort t.sort) (word_of_sort u.sort) t.place u.place (same_word t.sort u.sort h)
    p

same_fault : (f g : TextFault) → f ≡ g → (let s : LocatedToken = record {
  lookahead = flawed;
  place = f.place;
} in s) ≡ record { lookahead = flawed; place = g.place }
same_fault f g e = λ i. record { lookahead = flawed; place = (e i).place }

-- what a lexer shows is determined, and how far the text is read then
pub shown_once : IsDetermined Shows
shown_once old a b s t h k = by h k
  where
    by : Shows old s a → Shows old t b → (s ≡ t) × (a ≡ b)
    by (shows_token x h e) (shows_token y k f) = let d = determined old a b (Ok (Some x)) (Ok (Some y)) h k in
        (e ∙ same_located x y d.0.0 d.0.2 ∙ sym f, d.1)
    by (shows_token x h e) (shows_fault y k f) = absurd ((determined old a b (Ok (Some x)) (Err y) h k).0)
    by (shows_token x h e) (shows_end k f) = absurd ((determined old a b (Ok (Some x)) (Ok None) h k).0)
    by (shows_fault x h e) (shows_token y k f) = absurd ((determined old a b (Err x) (Ok (Some y)) h k).0)
    by (shows_fault x h e) (shows_fault y k f) = let d = determined old a b (Err x) (Err y) h k in
        (e ∙ same_fault x y d.0 ∙ sym f, d.1)
    by (shows_fault x h e) (shows_end k f) = absurd ((determined old a b (Err x) (Ok None) h k).0)
    by (shows_end h e) (shows_token y k f) = absurd ((determined old a b (Ok None) (Ok (Some y)) h k).0)
    by (shows_end h e) (shows_fault y k f) = absurd ((determined old a b (Ok None) (Err y) h k).0)
    by (shows_end h e) (shows_end k f) = (e ∙ sym f, (determined old a b (Ok None) (Ok None) h k).1)
