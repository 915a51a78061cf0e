-- Where reading stops is the first fault by the definition; a text has one at most, and none where it reads.
use Rattle.std.proofs.Common.{◌≡◌, ℕ, List, [], ◌∷◌, ◌++◌, refl, sym, ap, ◌∙◌, subst, arith, ◌⊎◌, inl, inr}
use Rattle.parsing.specs.Tables.{lookaheads, passes, stops}
use Rattle.parsing.specs.Languages as languages
use Rattle.parsing.proofs.Lists.{passes_or_stops, same_stop}
use Rattle.parsing.proofs.Running.{run_append, stops_append}
use Rattle.parsing.proofs.Faults.{first_fault, spot_of, whole_ends}
use Rattle.parsing.proofs.Shown.{IsMore, shown_alike, shows_join, shows_one}
use Rattle.parsing.proofs.Texts as texts
use Rattle.parsing.proofs.Turning.{stops_run}
use Rattle.express_lexer.specs.Reading.{Reading, start}
use Rattle.express_syntax.specs.Grammar.{depth_limit}
use Rattle.express_syntax.specs.declared.fault.FaultKind.{FaultKind}
use Rattle.express_syntax.specs.declared.fault.SyntaxFault.{SyntaxFault}
use Rattle.express_syntax.specs.declared.fault.SyntaxFault.TheVariants as faults
use Rattle.express_syntax.specs.Schemas.{Schema}
use Rattle.express_syntax.specs.steps.Faults.{schema_fault}
use Rattle.express_syntax.specs.Texts.{LocatedToken, Shows, ShowsAll, ReadsAs, IsKind, IsFirstFault, IsFaultOf, IsMemory}
use Rattle.express_syntax.specs.SchemaLaws.{ReadsWithoutFault, FaultsOnce}
use Rattle.express_syntax.specs.steps.Predict.{schema_symbols, run}
use Rattle.express_syntax.specs.steps.Steps.{table, IsSchema, StopsIn}
use Rattle.express_syntax.proofs.Shown.{shown_once}
use Rattle.express_syntax.proofs.Prefixes.{front_of, of_front, fault_of, same_token, same_place}
use Rattle.express_syntax.proofs.Complete.{IsAny}
use Rattle.express_syntax.proofs.Exact.{exact}
use Rattle.express_syntax.proofs.FaultKinds.{data_type_of, kind_is}

-- where the table stops in what a lexer shows
pub stopped : (text : List ℕ) (s : List LocatedToken) (new : Reading) (kind : FaultKind) (place : ℕ)
    → ShowsAll (start text) s new → run depth_limit schema_symbols s ≡ stops kind place → IsFirstFault text kind place
stopped text s new kind place h e =
    let x = exact depth_limit (omega arith) in
    let f = first_fault table IsAny schema_symbols (IsSchema depth_limit) x s kind place e in
    let t = spot_of table IsAny schema_symbols (IsSchema depth_limit) x s place f in
    let k = (same_stop (run depth_limit schema_symbols s) t.2 kind place place t.5 e).0 in
    fault_of text s new kind place h f (subst (IsKind (lookaheads f.before) f.at.lookahead) k
    (data_type_of f.before f.at t.0 t.1 t.3 t.2 t.4))

-- a stop of the table is the text's first fault
pub stop_is_fault : (e : SyntaxFault) (text : List ℕ) → StopsIn e schema_symbols [] (start text)
    → IsFaultOf text (schema_fault e)
stop_is_fault faults.Memory text h = tt
stop_is_fault (faults.Fault kind place) text h =
    let g = stops_run table Shows kind place schema_symbols (start text) h in
    stopped text g.0 g.1 kind place g.2 g.3

reads_on : (text : List ℕ) (x : Schema) (r : ReadsAs text x) (kind : FaultKind) (place : ℕ) (s : List LocatedToken)
    (new : Reading) → ShowsAll (start text) s new → run depth_limit schema_symbols s ≡ stops kind place → ⊥
reads_on text x r kind place s new h e = by (shown_alike Shows shown_once (start text) r.end new r.shown s r.shows h)
  where
    through : run depth_limit schema_symbols r.shown ≡ passes []
    through = (exact depth_limit (omega arith)).passing r.shown (x, r.fits, r.are)

    by : IsMore Shows r.shown r.end s new ⊎ IsMore Shows s new r.shown r.end → ⊥
    by (inl m) = passes_or_stops (run depth_limit schema_symbols s) m.0 kind place
        (ap (run depth_limit schema_symbols) (sym m.1) ∙ run_append table r.shown m.0 schema_symbols through) e
    by (inr m) = passes_or_stops (run depth_limit schema_symbols r.shown) [] kind place through
        (ap (run depth_limit schema_symbols) (sym m.1) ∙ stops_append table s m.0 schema_symbols kind place e)

-- what reads as a schema stops nowhere
pub reads_never_stops : (e : SyntaxFault) (text : List ℕ) (x : Schema) → ReadsAs text x → StopsIn e schema_symbols []
    (start text) → IsMemory (schema_fault e)
reads_never_stops faults.Memory text x r h = refl
reads_never_stops (faults.Fault kind place) text x r h =
    let g = stops_run table Shows kind place schema_symbols (start text) h in
    absurd (reads_on text x r kind place g.0 g.1 g.2 g.3)

-- the laws
shown_up_to : (text : List ℕ) (kind : FaultKind) (place : ℕ) (f : IsFirstFault text kind place)
    → ShowsAll (start text) (f.before ++ f.at ∷ []) f.next
shown_up_to text kind place f = shows_join Shows (start text) f.before f.here (f.at ∷ []) f.next f.read
    (shows_one Shows f.here f.at f.next f.shown)

pub reads_no_fault : ReadsWithoutFault
reads_no_fault text x kind place r f =
    texts.whole_no_fault Shows shown_once (IsSchema depth_limit)
    (whole_ends table IsAny schema_symbols (IsSchema depth_limit) (exact depth_limit (omega arith))) (start text)
    r.end f.next r.shown f.before f.at r.shows (x, r.fits, r.are) (shown_up_to text kind place f)
    (of_front depth_limit (lookaheads f.before) f.viable) (λ w. f.unended w.0 w.1 w.2)
    (λ h. f.refused (front_of depth_limit (lookaheads (f.before ++ f.at ∷ [])) h))

-- what stands up to a first fault, as a list of its own
as_first : (text : List ℕ) (kind : FaultKind) (place : ℕ) (f : IsFirstFault text kind place)
    → languages.IsFirstFault (IsSchema depth_limit) (f.before ++ f.at ∷ []) place
as_first text kind place f = record {
  before = f.before;
  at = f.at;
  after = [];
  text = refl;
  viable = of_front depth_limit (lookaheads f.before) f.viable;
  unended = λ w. f.unended w.0 w.1 w.2;
  refused = λ h. f.refused (front_of depth_limit (lookaheads (f.before ++ f.at ∷ [])) h);
  place_is = f.place_is;
}

same_kind : (text : List ℕ) (k l : FaultKind) (p q : ℕ) → IsFirstFault text k p → IsFirstFault text l q → k ≡ l
unfolding as_first
same_kind text k l p q f g =
    let t = same_token text k l p q f g in
    let s = spot_of table IsAny schema_symbols (IsSchema depth_limit) (exact depth_limit (omega arith))
    (f.before ++ f.at ∷ []) p (as_first text k p f) in
    let P : List LocatedToken → LocatedToken → Type 0 = λ b a. IsKind (lookaheads b) a.lookahead l in
    let other : IsKind (lookaheads f.before) f.at.lookahead l = subst (λ b. P b f.at) (sym t.0)
    (subst (P g.before) (sym t.1) g.kind_is) in
    sym (kind_is f.before f.at s.0 s.1 s.3 s.2 k s.4 f.kind_is) ∙ kind_is f.before f.at s.0 s.1 s.3 s.2 l s.4 other

pub one_fault : FaultsOnce
one_fault text kind other place other_place f g = (
  same_kind text kind other place other_place f g,
  same_place text kind
      other place other_place f g,
)
