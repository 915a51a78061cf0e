-- A lexer has an answer.
use Rattle.std.proofs.Common.{◌≡◌, ℕ, List, length, take, sym, ap, refl, arith, length-take, subst, inl, inr}
use Rattle.express_lexer.specs.declared.token.Token.{Token}
use Rattle.express_lexer.specs.declared.token.Sort.{Sort}
use Rattle.express_lexer.specs.Front.{IsFront}
use Rattle.express_lexer.specs.Reading.{lexis}
use Rattle.express_lexer.specs.Laws.{EachReadingHasAnAnswer}
use Rattle.express_lexer.proofs.LayoutFound.{layout_found}
use Rattle.express_lexer.proofs.FrontFound.{FrontAt, front_found}
use Rattle.parsing.proofs.Answered as lexing

abbrev token_at : ℕ → Sort → List ℕ → Token
token_at place sort t = record { sort = sort; text = record { ref_ptr = (0, 0); now = t }; place = place }

found : (l : List ℕ) (place : ℕ) → FrontAt l → lexing.FrontAt lexis l place
found l place (inl f) =
    let t = take f.1 l in
    let len : length t ≡ f.1 = omega (arith, length-take f.1 l, f.2.within) in
    inl (record {
      token = token_at place f.0 t;
      front = subst (IsFront l f.0) (sym len) f.2;
      text = ap (λ n. take n l) (sym len);
      at = refl;
    })
found l place (inr flawed) = inr (record { place = place }, (flawed, refl))

-- each reading has an answer
pub answered : EachReadingHasAnAnswer
answered = lexing.answered lexis (record {
  layout_found = layout_found;
  front_found = λ l place some. found l place (front_found l some);
})
