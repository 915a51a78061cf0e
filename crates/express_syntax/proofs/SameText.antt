-- Reading goes on in the same text.
use Rattle.std.proofs.Common.{◌≡◌, ℕ, List, [], ◌∷◌, Result, IfOk, sym, ap, ◌∙◌, subst}
use Rattle.express_lexer.specs.Reading.{Reading}
use Rattle.express_syntax.specs.Words.{Word}
use Rattle.express_syntax.specs.declared.fault.SyntaxFault.{SyntaxFault}
use Rattle.express_syntax.specs.Texts.{LocatedToken, Shows, shows_token, shows_fault, shows_end, ShowsAll}
use Rattle.express_syntax.specs.steps.Predict.{Symbol}
use Rattle.express_syntax.specs.steps.Steps.{Passes}

pub shows_text : (old : Reading) (s : LocatedToken) (new : Reading) → Shows old s new → new.text ≡ old.text
shows_text old s new (shows_token t h e) = h.new_text
shows_text old s new (shows_fault f h e) = ap (λ (r : Reading). r.text) h.same
shows_text old s new (shows_end h e) = h.new_text

all_text : (old : Reading) (s : List LocatedToken) (new : Reading) → ShowsAll old s new → new.text ≡ old.text
all_text old [] new h = ap (λ (r : Reading). r.text) (sym h)
all_text old (x ∷ s) new h = all_text h.0 s new h.2 ∙ shows_text old x h.0 h.1

-- what passes leaves the text as it is
pub passes_text : {ys zs : List Symbol} {before : List LocatedToken} {ws : List Word} {old new : Reading}
    → Passes ys zs before ws old new → new.text ≡ old.text
passes_text {ys} {zs} {before} {ws} {old} {new} h = all_text old h.shown new h.shown_all

-- what holds of a text after a part is read holds of the text before
pub kept : {A : Type 0} (P : List ℕ → A → Type 0) (x : A) {new old : List ℕ} → new ≡ old → P new x → P old x
kept P x e h = subst (λ t. P t x) e h

pub kept_ok : {A : Type 0} (P : List ℕ → A → Type 0) (r : Result A SyntaxFault) {new old : List ℕ} → new ≡ old
    → IfOk r (P new) → IfOk r (P old)
kept_ok P r e h = subst (λ t. IfOk r (P t)) e h
