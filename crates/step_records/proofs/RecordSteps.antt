-- Instances, token by token.
use Rattle.std.proofs.Common.{◌≡◌, ℕ, ◌<◌, ◌||◌, true, false, List, [], ◌∷◌, ◌++◌, length, Ok, Err, refl, sym, ap, ◌∙◌, subst, append_assoc, append-nil, arith}
use Rattle.std.proofs.lemmas.Bool.{false≢true}
use Rattle.step_lexer.specs.declared.token.Mark.TheVariants.{Open, Close, Semicolon, Equals}
use Rattle.step_lexer.specs.Reading.{Reading, Takes, left}
use Rattle.step_lexer.specs.declared.token.Token.{Token}
use Rattle.step_lexer.specs.declared.token.Sort.{Sort}
use Rattle.step_lexer.specs.declared.token.Sort.TheVariants as sorts
use Rattle.step_lexer.proofs.ReadingLemmas.{takes_less}
use Rattle.step_structures.specs.declared.fault.FaultKind.TheVariants as kinds
use Rattle.step_structures.specs.declared.fault.TextFault.{TextFault}
use Rattle.step_structures.specs.declared.fault.TextFault.TheVariants as faults
use Rattle.step_literals.specs.declared.literal.Word as literal
use Rattle.step_structures.specs.Words.{Lookahead, token, mark, keyword, located, word_of}
use Rattle.step_structures.specs.Trees.{Record, Form, internal, external, this, is_said, items_of_record, items_of_partial_records, items_of_form}
use Rattle.step_structures.specs.Fits.{the_rules, FitsRecord, FitsPartialRecords, FitsForm, has_keyword}
use Rattle.step_structures.specs.steps.Predict.{Just, Body, PartialRecords, refused, is_mark, row_symbols, table, params_symbols}
use Rattle.step_records.specs.steps.Steps.{StopsIn, Passes}
use Rattle.step_records.specs.steps.Records.{FitsBehind, FitsPartials, keywords_of, any_is, texts_of}
use Rattle.step_structures.proofs.Meeting.{meets_is}
use Rattle.step_records.proofs.Taking.{passes_as, passes_join, passes_more, passes_then, passes_token, passes_taken, passes_first, passes_within, stops_behind, stops_behind_taken, stops_taken}
use Rattle.step_records.proofs.Looking.{stops_refused, mark_met, meets_mark}
use Rattle.step_records.proofs.ParamSteps.{Params}

pub has_keyword_any : (word : List ℕ) (ws : List literal.Word) → any_is word ws ≡ has_keyword word (texts_of ws)
has_keyword_any word [] = refl
has_keyword_any word (w ∷ ws) = ap (λ b. is_said w.text.now word || b) (has_keyword_any word ws)

-- a partial record
partial_next : (before : List (List ℕ)) (text : List ℕ) (s : Lookahead) → s ≡ token (keyword text)
    → has_keyword text before ≡ false → table (PartialRecords before) s ≡ Ok (params_symbols 1
    ++ PartialRecords (before ++ text ∷ []) ∷ [])
partial_next before text s is h = ap (table (PartialRecords before)) is ∙ (rw h refl)

partial_repeated : (before : List (List ℕ)) (text : List ℕ) (s : Lookahead) → s ≡ token (keyword text)
    → has_keyword text before ≡ true → table (PartialRecords before) s ≡ Err kinds.DuplicateName
partial_repeated before text s is h = ap (table (PartialRecords before)) is ∙ (rw h refl)

pub partial_twice : (e : TextFault) (before : List (List ℕ)) (t : Token) (text : List ℕ) (r : Reading)
    → (located t).lookahead ≡ token (keyword text) → has_keyword text before ≡ true
    → e ≡ faults.Fault kinds.DuplicateName t.place → StopsIn e (PartialRecords before ∷ []) (located t ∷ []) r
partial_twice e before t text r is h q = stops_taken e kinds.DuplicateName (PartialRecords before) t r
    (partial_repeated before text (located t).lookahead is h) q

passes_keyword : (before : List (List ℕ)) (t : Token) (text : List ℕ) (r : Reading) → (located t).lookahead ≡ token
    (keyword text) → has_keyword text before ≡ false → Passes (PartialRecords before ∷ []) (params_symbols 1
    ++ PartialRecords (before ++ text ∷ []) ∷ []) (located t ∷ []) (this (keyword text) ∷ []) r r
passes_keyword before t text r is h = passes_taken (PartialRecords before) (params_symbols 1
    ++ PartialRecords (before ++ text ∷ []) ∷ []) (this (keyword text)) t r
    (meets_is (keyword text) (located t).lookahead is) (partial_next before text (located t).lookahead is h)

pub partial_err : (e : TextFault) (before : List (List ℕ)) (t : Token) (text : List ℕ) (r : Reading)
    → (located t).lookahead ≡ token (keyword text) → has_keyword text before ≡ false → StopsIn e (params_symbols 1) [] r
    → StopsIn e (PartialRecords before ∷ []) (located t ∷ []) r
partial_err e before t text r is h g = stops_behind e (params_symbols 1) (PartialRecords (before ++ text ∷ []) ∷ [])
    (passes_keyword before t text r is h) g

-- a partial record behind others, of which the first token is taken already
abbrev pub Added : List (List ℕ) → Token → Reading → Record → Reading → Type 0
Added before t old p new = FitsBehind before p × Passes (PartialRecords before ∷ [])
    (PartialRecords (before ++ p.keyword ∷ []) ∷ []) (located t ∷ []) (items_of_record p) old new

pub partial_done : (before : List (List ℕ)) (t : Token) (p : Record) (r new : Reading) → (located t).lookahead ≡ token
    (keyword p.keyword) → has_keyword p.keyword before ≡ false → Params 1 r p.values new → Added before t r p new
partial_done before t p r new is h g = (
  (h, (omega arith, g.0)),
  passes_join (passes_keyword before t p.keyword r is h)
      (passes_more (PartialRecords (before ++ p.keyword ∷ []) ∷ []) g.1),
)

-- the partial records so far, with the others and the closing parenthesis behind them
pub record PartialRecordsSoFar (old : Reading) (ps : List Record) (here : Reading) : Type 0 where
  pub fits : FitsPartialRecords the_rules [] ps
  pub passes : Passes (PartialRecords [] ∷ []) (PartialRecords (keywords_of ps) ∷ []) [] (items_of_partial_records ps)
      old here

pub partials_err_token : (e : TextFault) (old : Reading) (ps : List Record) (here : Reading)
    → PartialRecordsSoFar old ps here → StopsIn e (PartialRecords (keywords_of ps) ∷ []) [] here
    → StopsIn e (PartialRecords [] ∷ []) [] old
partials_err_token e old ps here so g = stops_behind e (PartialRecords (keywords_of ps) ∷ []) [] so.passes g

pub partials_err_partial : (e : TextFault) (old : Reading) (ps : List Record) (here : Reading) (t : Token)
    (a : Reading) → PartialRecordsSoFar old ps here → Takes here t a
    → StopsIn e (PartialRecords (keywords_of ps) ∷ []) (located t ∷ []) a → StopsIn e (PartialRecords [] ∷ []) [] old
partials_err_partial e old ps here t a so h g = stops_behind_taken e (PartialRecords (keywords_of ps) ∷ []) [] t
    so.passes h g

none_closed : (s : Lookahead) → s ≡ token (mark Close) → table (PartialRecords []) s ≡ Err (refused s)
none_closed s e = rw e refl

empty_of : (ps : List Record) → length ps ≡ 0 → ps ≡ []
empty_of [] e = refl
empty_of (p ∷ ps) e = absurd (omega (arith, e))

pub partials_empty : (e : TextFault) (old : Reading) (ps : List Record) (here : Reading) (t : Token) (a : Reading)
    → PartialRecordsSoFar old ps here → Takes here t a → is_mark Close (located t).lookahead ≡ true → length ps ≡ 0
    → e ≡ faults.Fault (refused (located t).lookahead) t.place → StopsIn e (PartialRecords [] ∷ []) [] old
partials_empty e old ps here t a so h c none q =
    let n : keywords_of ps ≡ [] = ap keywords_of (empty_of ps none) in
    let P : List (List ℕ) → Type 0 = λ l. StopsIn e (PartialRecords l ∷ []) [] here in
    partials_err_token e old ps here so (subst P (sym n)
    (stops_refused e (PartialRecords []) t here a h
    (none_closed (located t).lookahead (mark_met Close (located t).lookahead c)) q))

fits_push : (before : List (List ℕ)) (ps : List Record) (p : Record) → FitsPartialRecords the_rules before ps
    → has_keyword p.keyword (before ++ keywords_of ps) ≡ false → FitsRecord the_rules 1 p → FitsPartialRecords the_rules
    before (ps ++ p ∷ [])
fits_push before [] p h g f = (subst (λ l. has_keyword p.keyword l ≡ false) (append-nil before) g, f, tt)
fits_push before (q ∷ ps) p h g f = (
  h.0,
  h.1,
  fits_push (before ++ q.keyword ∷ []) ps p h.2
      (subst (λ l. has_keyword p.keyword l ≡ false) (sym (append_assoc before (q.keyword ∷ []) (keywords_of ps))) g) f,
)

items_push : (ps : List Record) (p : Record) → items_of_partial_records (ps ++ p ∷ []) ≡ items_of_partial_records
    ps ++ items_of_record p
items_push [] p = append-nil (items_of_record p)
items_push (q ∷ ps) p = ap (λ l. items_of_record q ++ l) (items_push ps p)
    ∙ sym (append_assoc (items_of_record q) (items_of_partial_records ps) (items_of_record p))

keywords_push : (ps : List Record) (p : Record) → keywords_of (ps ++ p ∷ []) ≡ keywords_of ps ++ p.keyword ∷ []
keywords_push [] p = refl
keywords_push (q ∷ ps) p = ap (λ l. q.keyword ∷ l) (keywords_push ps p)

pub partials_next : (old : Reading) (ps : List Record) (here : Reading) (t : Token) (a : Reading) (p : Record)
    (b : Reading) → PartialRecordsSoFar old ps here → Takes here t a → Added (keywords_of ps) t a p b
    → PartialRecordsSoFar old (ps ++ p ∷ []) b
partials_next old ps here t a p b so h g = record {
  fits = fits_push [] ps p so.fits g.0.0 g.0.1;
  passes =
      let P : List (List ℕ) → Type 0 = λ l. Passes (PartialRecords [] ∷ []) (PartialRecords l ∷ []) []
      (items_of_partial_records (ps ++ p ∷ [])) old b in
      subst P (sym (keywords_push ps p)) (passes_as (items_of_partial_records (ps ++ p ∷ [])) (sym (items_push ps p))
      (passes_join so.passes (passes_first t here h g.1)));
}

closed : (ps : List Record) (s : Lookahead) → 0 < length ps → s ≡ token (mark Close)
    → table (PartialRecords (keywords_of ps)) s ≡ Ok []
closed [] s some e = absurd (omega (arith, some))
closed (p ∷ ps) s some e = ap (table (PartialRecords (keywords_of (p ∷ ps)))) e

pub partials_done : (old : Reading) (ps : List Record) (here : Reading) (t : Token) (a : Reading)
    → PartialRecordsSoFar old ps here → Takes here t a → is_mark Close (located t).lookahead ≡ true → 0 < length ps
    → FitsPartials ps × Passes (PartialRecords [] ∷ []) [] [] (items_of_partial_records ps ++ this (mark Close) ∷ [])
    old a
partials_done old ps here t a so h c some =
    let s = (located t).lookahead in (
      (some, so.fits),
      passes_join so.passes (passes_token (PartialRecords (keywords_of ps)) [] (this (mark Close)) t here a h
          (meets_mark Close s c) (closed ps s some (mark_met Close s c))),
    )

pub partials_smaller : (here : Reading) (t : Token) (a : Reading) (before : List (List ℕ)) (p : Record) (b : Reading)
    → Takes here t a → Added before t a p b → length (left b) < length (left here)
partials_smaller here t a before p b h g = omega (arith, takes_less here a t h, passes_within g.1)

-- one record, or partial ones
passes_word : (t : Token) (text : List ℕ) (old a : Reading) → Takes old t a → (located t).lookahead ≡ token
    (keyword text) → Passes (Body ∷ []) (params_symbols 0) [] (this (keyword text) ∷ []) old a
passes_word t text old a h is = passes_token Body (params_symbols 0) (this (keyword text)) t old a h
    (meets_is (keyword text) (located t).lookahead is) (ap (table Body) is)

passes_open : (t : Token) (old a : Reading) → Takes old t a → (located t).lookahead ≡ token (mark Open)
    → Passes (Body ∷ []) (PartialRecords [] ∷ []) [] (this (mark Open) ∷ []) old a
passes_open t old a h is = passes_token Body (PartialRecords [] ∷ []) (this (mark Open)) t old a h
    (meets_is (mark Open) (located t).lookahead is) (ap (table Body) is)

pub form_err_params : (e : TextFault) (t : Token) (text : List ℕ) (old a : Reading) → Takes old t a
    → (located t).lookahead ≡ token (keyword text) → StopsIn e (params_symbols 0) [] a → StopsIn e (Body ∷ []) [] old
form_err_params e t text old a h is g = stops_behind e (params_symbols 0) [] (passes_word t text old a h is) g

pub form_err_partials : (e : TextFault) (t : Token) (old a : Reading) → Takes old t a → (located t).lookahead ≡ token
    (mark Open) → StopsIn e (PartialRecords [] ∷ []) [] a → StopsIn e (Body ∷ []) [] old
form_err_partials e t old a h is g = stops_behind e (PartialRecords [] ∷ []) [] (passes_open t old a h is) g

abbrev Formed : Reading → Form → Reading → Type 0
Formed old f new = FitsForm the_rules f × Passes (Body ∷ []) [] [] (items_of_form f) old new

pub form_internal : (t : Token) (p : Record) (old a b : Reading) → Takes old t a → (located t).lookahead ≡ token
    (keyword p.keyword) → Params 0 a p.values b → Formed old (internal p) b
form_internal t p old a b h is g = ((omega arith, g.0), passes_join (passes_word t p.keyword old a h is) g.1)

pub form_external : (t : Token) (ps : List Record) (old a b : Reading) → Takes old t a → (located t).lookahead ≡ token
    (mark Open) → FitsPartials ps × Passes (PartialRecords [] ∷ []) [] [] (items_of_partial_records ps
    ++ this (mark Close) ∷ []) a b → Formed old (external ps) b
form_external t ps old a b h is g = ((omega arith, g.0.0, g.0.1), passes_join (passes_open t old a h is) g.1)

pub row_err_form : (e : TextFault) (old a : Reading) → Passes (Just Equals ∷ []) [] [] (this (mark Equals) ∷ []) old a
    → StopsIn e (Body ∷ []) [] a → StopsIn e row_symbols [] old
row_err_form e old a h g = stops_behind e (Body ∷ []) (Just Semicolon ∷ []) (passes_more (Body ∷ Just Semicolon ∷ [])
    h) g

pub row_err_end : (e : TextFault) (f : Form) (old a b : Reading) → Passes (Just Equals ∷ []) [] [] (this (mark Equals)
    ∷ []) old a → Formed a f b → StopsIn e (Just Semicolon ∷ []) [] b → StopsIn e row_symbols [] old
row_err_end e f old a b h g stop = stops_behind e (Just Semicolon ∷ []) []
    (passes_then h (passes_more (Just Semicolon ∷ []) g.1)) stop

abbrev pub Lined : Reading → Form → Reading → Type 0
Lined old f new = FitsForm the_rules f × Passes row_symbols [] [] (this (mark Equals) ∷ (items_of_form f
    ++ this (mark Semicolon) ∷ [])) old new

pub row_done : (f : Form) (old a b c : Reading) → Passes (Just Equals ∷ []) [] [] (this (mark Equals) ∷ []) old a
    → Formed a f b → Passes (Just Semicolon ∷ []) [] [] (this (mark Semicolon) ∷ []) b c → Lined old f c
row_done f old a b c h g i = (g.0, passes_then h (passes_then g.1 i))

pub body_refused : (sort : Sort) (text : List ℕ) → ((w : _) → sort ≡ sorts.Keyword w → ⊥)
    → is_mark Open (token (word_of sort text)) ≡ false → table Body (token (word_of sort text)) ≡ Err
    (refused (token (word_of sort text)))
body_refused (sorts.Keyword w) text h c = absurd (h w refl)
body_refused (sorts.Mark Open) text h c = absurd (false≢true (sym c))
body_refused _ text h c = refl
