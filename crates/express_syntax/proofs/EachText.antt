-- Each text reads as a schema, or has a first fault.
use Rattle.std.proofs.Common.{◌≡◌, ℕ, ◌-◌, ◌≤◌, List, [], ◌∷◌, ◌++◌, map, length, refl, sym, ap, ◌∙◌, subst, arith, append_assoc, Option, Some, None, Result, Ok, Err, ◌⊎◌, inl, inr}
use Rattle.parsing.specs.Tables.{lookaheads, stops}
use Rattle.parsing.specs.Languages as languages
use Rattle.parsing.proofs.Shown.{shows_split}
use Rattle.parsing.proofs.Ending.{ShowsOne, shown_to_last, BeginsWhole, whole_or_stops}
use Rattle.express_lexer.specs.declared.token.Token.{Token}
use Rattle.express_lexer.specs.declared.token.TextFault.{TextFault}
use Rattle.express_lexer.specs.Reading.{Reading, Answers, start}
use Rattle.express_lexer.proofs.Determined.{places_rise}
use Rattle.express_lexer.proofs.ReadingLemmas.{token_within, start_within}
use Rattle.express_lexer.proofs.Answered.{answered}
use Rattle.express_syntax.specs.Words.{Word}
use Rattle.express_syntax.specs.Grammar.{depth_limit}
use Rattle.express_syntax.specs.declared.fault.FaultKind.{FaultKind}
use Rattle.express_syntax.specs.Schemas.{Schema}
use Rattle.express_syntax.specs.WrittenSchemas.{words_of_schema}
use Rattle.express_syntax.specs.Texts.{Lookahead, token, flawed, end_of_text, LocatedToken, located, Shows, shows_token, shows_fault, shows_end, ShowsAll, ReadsAs, IsFirstFault}
use Rattle.express_syntax.specs.SchemaLaws.{ReadsOrFails}
use Rattle.express_syntax.specs.steps.Predict.{schema_symbols, run}
use Rattle.express_syntax.specs.steps.Steps.{table, IsSchema}
use Rattle.express_syntax.proofs.Complete.{IsAny}
use Rattle.express_syntax.proofs.Exact.{exact}
use Rattle.express_syntax.proofs.FaultKinds.{nothing_more, one_more, ended_once}
use Rattle.express_syntax.proofs.FirstFault.{stopped}

-- the text ends here, or no token stands here
abbrev IsLast : Lookahead → Type 0
IsLast (token w) = ⊥
IsLast _ = Unit {0}

abbrev IsWithin : Reading → Type 0
IsWithin r = r.place ≤ length r.text

-- how many bytes are still to be read
abbrev left_of : Reading → ℕ
left_of r = length r.text - r.place

shown_answer : (old : Reading) → IsWithin old → (r : Result (Option Token) TextFault) (new : Reading)
    → Answers old r new → ShowsOne Shows IsLast IsWithin left_of old
shown_answer old within (Ok None) new h = (
  record {
    lookahead = end_of_text;
    place = length old.text;
  },
  new,
  shows_end h refl,
  inl tt,
)
shown_answer old within (Err f) new h = (
  record {
    lookahead = flawed;
    place = f.place;
  },
  new,
  shows_fault f h refl,
  inl tt,
)
shown_answer old within (Ok (Some t)) new h =
    let inside = token_within old new t h in (
      located t,
      new,
      shows_token t h refl,
      inr (inside, omega (arith, inside, ap length h.new_text, places_rise old new t within h)),
    )

-- a lexer shows something wherever a text is read up to
shown_next : (old : Reading) → IsWithin old → ShowsOne Shows IsLast IsWithin left_of old
shown_next old within = let a = answered old within in shown_answer old within a.0 a.1 a.2

-- what is no token is in no schema
never_flawed : (a rest : List Lookahead) (ws : List Word) → a ++ flawed ∷ rest ≡ map token ws ++ end_of_text ∷ [] → ⊥
never_flawed [] rest [] e = cc
never_flawed [] rest (w ∷ ws) e = cc
never_flawed (s ∷ a) rest [] e = nothing_more a flawed rest (let t : a ++ flawed ∷ rest ≡ [] = cc in t)
never_flawed (s ∷ a) rest (w ∷ ws) e = never_flawed a rest ws (let t : a ++ flawed ∷ rest ≡ map token ws ++ end_of_text
    ∷ [] = cc in t)

-- up to the last lookahead a front is a whole schema
whole_to : (before : List LocatedToken) (s : Lookahead) → IsLast s → languages.IsViablePrefix (IsSchema depth_limit)
    (lookaheads before ++ s ∷ []) → IsSchema depth_limit (lookaheads before ++ s ∷ [])
whole_to before (token w) l f = absurd l
whole_to before end_of_text l f = ended_once before f
whole_to before flawed l f = absurd (never_flawed (lookaheads before) f.0 (words_of_schema f.1.0)
    (sym (append_assoc (lookaheads before) (flawed ∷ []) f.0) ∙ f.1.2))

whole_at_last : (before : List LocatedToken) (last : LocatedToken) → IsLast last.lookahead → languages.IsViablePrefix
    (IsSchema depth_limit) (lookaheads (before ++ last ∷ [])) → IsSchema depth_limit (lookaheads (before ++ last ∷ []))
whole_at_last before last l =
    let P : List Lookahead → Type 0 = λ ws. (languages.IsViablePrefix (IsSchema depth_limit) ws
    → IsSchema depth_limit ws) in
    subst P (sym (one_more before last)) (whole_to before last.lookahead l)

decided : (text : List ℕ) (s : List LocatedToken) (new : Reading) → ShowsAll (start text) s new
    → BeginsWhole (IsSchema depth_limit) s
    ⊎ ((kind : FaultKind) × (place : ℕ) × (run depth_limit schema_symbols s ≡ stops kind place))
    → ((x : Schema) × ReadsAs text x) ⊎ ((kind : FaultKind) × (place : ℕ) × IsFirstFault text kind place)
decided text s new h (inl w) =
    let P : List LocatedToken → Type 0 = λ l. ShowsAll (start text) l new in
    let a = shows_split Shows (start text) w.0 w.1 new (subst P w.2 h) in
    let whole : IsSchema depth_limit (lookaheads w.0) = w.3 in
    inl (whole.0, record { fits = whole.1; shown = w.0; end = a.0; shows = a.1; are = whole.2 })
decided text s new h (inr f) = inr (f.0, f.1, stopped text s new f.0 f.1 h f.2)

pub reads_or_fails : ReadsOrFails
reads_or_fails text =
    let g = shown_to_last Shows IsLast IsWithin left_of shown_next (start text) (start_within text) in
    let s = g.0 ++ g.1 ∷ [] in
    decided text s g.2 g.3 (whole_or_stops table IsAny schema_symbols (IsSchema depth_limit)
    (exact depth_limit (omega arith)) s (whole_at_last g.0 g.1 g.4))
