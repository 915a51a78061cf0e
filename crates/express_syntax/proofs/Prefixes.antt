-- Fronts and first faults of schemas, as those of the language of schemas.
use Rattle.std.proofs.Common.{◌≡◌, ℕ, List, [], ◌∷◌, ◌++◌, sym, ap, ◌∙◌}
use Rattle.parsing.specs.Tables.{lookaheads}
use Rattle.parsing.specs.Languages as languages
use Rattle.parsing.proofs.Texts as texts
use Rattle.parsing.proofs.Shown.{shows_join, shows_one}
use Rattle.express_lexer.specs.Reading.{Reading, start}
use Rattle.express_syntax.specs.Grammar.{depth_limit}
use Rattle.express_syntax.specs.declared.fault.FaultKind.{FaultKind}
use Rattle.express_syntax.specs.Texts.{Lookahead, LocatedToken, Shows, ShowsAll, IsViablePrefix, IsKind, IsFirstFault}
use Rattle.express_syntax.specs.steps.Steps.{IsSchema}
use Rattle.express_syntax.proofs.Shown.{shown_once}

pub front_of : (levels : ℕ) (s : List Lookahead) → languages.IsViablePrefix (IsSchema levels) s
    → IsViablePrefix levels s
front_of levels s h = record { rest = h.0; schema = h.1.0; fits = h.1.1; tokens = h.1.2 }

pub of_front : (levels : ℕ) (s : List Lookahead) → IsViablePrefix levels s → languages.IsViablePrefix (IsSchema levels)
    s
of_front levels s h = (h.rest, (h.schema, h.fits, h.tokens))

-- the first fault of what a lexer shows is that of the text, where its kind is due
pub fault_of : (text : List ℕ) (s : List LocatedToken) (new : Reading) (kind : FaultKind) (place : ℕ)
    → ShowsAll (start text) s new → (f : languages.IsFirstFault (IsSchema depth_limit) s place)
    → IsKind (lookaheads f.before) f.at.lookahead kind → IsFirstFault text kind place
fault_of text s new kind place h f k =
    let a = texts.fault_shown Shows (IsSchema depth_limit) (start text) new s place h f in
    record {
      before = f.before;
      at = f.at;
      here = a.0;
      next = a.1;
      read = a.2;
      shown = a.3;
      viable = front_of depth_limit (lookaheads f.before) f.viable;
      unended = λ x fits e. f.unended (x, fits, e);
      refused = λ h. f.refused (of_front depth_limit (lookaheads (f.before ++ f.at ∷ [])) h);
      kind_is = k;
      place_is = f.place_is;
    }

-- two faults of a text stand at one token
pub same_token : (text : List ℕ) (k l : FaultKind) (p q : ℕ) (f : IsFirstFault text k p) (g : IsFirstFault text l q)
    → (f.before ≡ g.before) × (f.at ≡ g.at)
same_token text k l p q f g =
    texts.same_token Shows shown_once (IsSchema depth_limit) (start text) f.next g.next f.before g.before f.at g.at
    (shows_join Shows (start text) f.before f.here (f.at ∷ []) f.next f.read
    (shows_one Shows f.here f.at f.next f.shown))
    (shows_join Shows (start text) g.before g.here (g.at ∷ []) g.next g.read
    (shows_one Shows g.here g.at g.next g.shown))
    (of_front depth_limit (lookaheads f.before) f.viable)
    (λ h. f.refused (front_of depth_limit (lookaheads (f.before ++ f.at ∷ [])) h))
    (of_front depth_limit (lookaheads g.before) g.viable)
    (λ h. g.refused (front_of depth_limit (lookaheads (g.before ++ g.at ∷ [])) h))

pub same_place : (text : List ℕ) (k l : FaultKind) (p q : ℕ) → IsFirstFault text k p → IsFirstFault text l q → p ≡ q
same_place text k l p q f g = f.place_is ∙ ap (λ (t : LocatedToken). t.place) (same_token text k l p q f g).1
    ∙ sym g.place_is
