-- The header, token by token.
use Rattle.std.proofs.Common.{◌≡◌, ℕ, ◌<◌, Bool, true, false, List, [], ◌∷◌, ◌++◌, length, Ok, Err, refl, sym, ap, ◌∙◌, subst, append_assoc, append-nil, arith, codes}
use Rattle.std.proofs.lemmas.Bool.{false≢true}
use Rattle.parsing.specs.Tables.{lookaheads}
use Rattle.step_lexer.specs.declared.token.Mark.TheVariants.{Open, Semicolon}
use Rattle.step_lexer.specs.declared.token.Sort.{Sort}
use Rattle.step_lexer.specs.declared.token.Sort.TheVariants as sorts
use Rattle.step_lexer.specs.Reading.{Reading, Takes, left}
use Rattle.step_lexer.specs.declared.token.Token.{Token}
use Rattle.step_lexer.proofs.ReadingLemmas.{takes_less}
use Rattle.step_structures.specs.declared.fault.FaultKind.TheVariants as kinds
use Rattle.step_structures.specs.declared.fault.TextFault.{TextFault}
use Rattle.step_structures.specs.declared.fault.TextFault.TheVariants as faults
use Rattle.step_structures.specs.Words.{Lookahead, token, mark, begins, keyword, LocatedToken, located, word_of, Shows, shows_token, shows_fault, shows_end, ShowsAll}
use Rattle.step_structures.specs.Trees.{Record, Trees, Item, this, says, Meets, MeetAll, is_said, items_of_start, items_of_record, items_of_records, items_of_header, items_of_list, section}
use Rattle.step_structures.specs.Fits.{the_rules, FitsTrees, FitsRecord, FitsRecords, NamesSchema}
use Rattle.step_structures.specs.Texts.{items_of_opening}
use Rattle.step_structures.specs.steps.Predict.{Symbol, Just, Start, Say, Head, Records, Ended, Items, refused, is_mark, opening_symbols, table, start_symbols, params_symbols}
use Rattle.step_records.specs.steps.Steps.{StopsIn, Passes}
use Rattle.step_exchange.specs.steps.Steps.{Starts, IsHead, TakesHead, StopsAtSchema, stops_before, stops_unnamed, HeaderSoFar, TakesHeader, StopsInHeader, in_opening, unnamed, in_records, after_keyword}
use Rattle.step_structures.proofs.Meeting.{meets_is}
use Rattle.step_structures.proofs.Passing.{header_items}
use Rattle.step_records.proofs.Taking.{reads_of, passes_here, passes_as, passes_join, passes_more, passes_then, passes_token, shown_within, stops_behind, stops_all, stops_token}
use Rattle.step_records.proofs.Looking.{stops_refused, mark_met, meets_mark, passes_mark}
use Rattle.step_records.proofs.ParamSteps.{Params, Listed}

abbrev pub Ends : Reading → Reading → Type 0
Ends old new = Passes (Just Semicolon ∷ []) [] [] (this (mark Semicolon) ∷ []) old new

-- up to the first record
pub start_refused : (sort : Sort) (text : List ℕ) → (sort ≡ sorts.Begin → ⊥)
    → table Start (token (word_of sort text)) ≡ Err (refused (token (word_of sort text)))
start_refused sorts.Begin text h = absurd (h refl)
start_refused _ text h = refl

abbrev behind_first : List Symbol
behind_first = Just Semicolon ∷ Say (codes "HEADER") ∷ Just Semicolon ∷ []

pub start_err : (e : TextFault) (old : Reading) → StopsIn e (Start ∷ []) [] old → StopsIn e start_symbols [] old
start_err e old h = stops_all e (Start ∷ []) behind_first [] old h

passes_begin : (t : Token) (old a : Reading) → Takes old t a → (located t).lookahead ≡ token begins
    → Passes (Start ∷ []) [] [] (this begins ∷ []) old a
passes_begin t old a h is = passes_token Start [] (this begins) t old a h (meets_is begins (located t).lookahead is)
    (ap (table Start) is)

pub start_err_mark : (e : TextFault) (t : Token) (old a : Reading) → Takes old t a → (located t).lookahead ≡ token
    begins → StopsIn e (Just Semicolon ∷ []) [] a → StopsIn e start_symbols [] old
start_err_mark e t old a h is g = stops_behind e (Just Semicolon ∷ []) (Say (codes "HEADER") ∷ Just Semicolon ∷ [])
    (passes_more behind_first (passes_begin t old a h is)) g

passes_to_word : (t : Token) (old a b : Reading) → Takes old t a → (located t).lookahead ≡ token begins → Ends a b
    → Passes start_symbols (Say (codes "HEADER") ∷ Just Semicolon ∷ []) [] (this begins ∷ this (mark Semicolon) ∷ [])
    old b
passes_to_word t old a b h is r = passes_then (passes_begin t old a h is) (passes_more (Say (codes "HEADER")
    ∷ Just Semicolon ∷ []) r)

pub start_err_word : (e : TextFault) (t : Token) (old a b : Reading) → Takes old t a → (located t).lookahead ≡ token
    begins → Ends a b → StopsIn e (Say (codes "HEADER") ∷ []) [] b → StopsIn e start_symbols [] old
start_err_word e t old a b h is r g = stops_behind e (Say (codes "HEADER") ∷ []) (Just Semicolon ∷ [])
    (passes_to_word t old a b h is r) g

abbrev Said : Reading → Reading → Type 0
Said old new = Passes (Say (codes "HEADER") ∷ []) [] [] (says (codes "HEADER") ∷ []) old new

pub start_err_last : (e : TextFault) (t : Token) (old a b d : Reading) → Takes old t a → (located t).lookahead ≡ token
    begins → Ends a b → Said b d → StopsIn e (Just Semicolon ∷ []) [] d → StopsIn e start_symbols [] old
start_err_last e t old a b d h is r w g = stops_behind e (Just Semicolon ∷ []) []
    (passes_join (passes_to_word t old a b h is r) (passes_more (Just Semicolon ∷ []) w)) g

pub start_done : (t : Token) (old a b d f : Reading) → Takes old t a → (located t).lookahead ≡ token begins → Ends a b
    → Said b d → Ends d f → Starts old t.place f
start_done t old a b d f h is r w l = record {
  first = h.reaches;
  passes = passes_join (passes_to_word t old a b h is r) (passes_then w l);
}

-- a record with its keyword
pub head_refused : (word : List ℕ) (sort : Sort) (text : List ℕ) → ((w : _) → sort ≡ sorts.Keyword w → ⊥)
    → table (Head word) (token (word_of sort text)) ≡ Err (refused (token (word_of sort text)))
head_refused word (sorts.Keyword w) text h = absurd (h w refl)
head_refused word _ text h = refl

head_other : (word text : List ℕ) (s : Lookahead) → s ≡ token (keyword text) → is_said word text ≡ false
    → table (Head word) s ≡ Err kinds.HeaderFault
head_other word text s is h = ap (table (Head word)) is ∙ (rw h refl)

head_next : (word text : List ℕ) (s : Lookahead) → s ≡ token (keyword text) → is_said word text ≡ true
    → table (Head word) s ≡ Ok (params_symbols 0)
head_next word text s is h = ap (table (Head word)) is ∙ (rw h refl)

pub head_fault : (e : TextFault) (word : List ℕ) (t : Token) (text : List ℕ) (old a : Reading) → Takes old t a
    → (located t).lookahead ≡ token (keyword text) → is_said word text ≡ false → e ≡ faults.Fault kinds.HeaderFault
    t.place → StopsIn e (Head word ∷ []) [] old
head_fault e word t text old a h is other q = stops_token e kinds.HeaderFault (Head word) t old a h
    (head_other word text (located t).lookahead is other) q

passes_keyword : (word : List ℕ) (t : Token) (text : List ℕ) (old a : Reading) → Takes old t a
    → (located t).lookahead ≡ token (keyword text) → is_said word text ≡ true
    → Passes (Head word ∷ []) (params_symbols 0) [] (this (keyword text) ∷ []) old a
passes_keyword word t text old a h is said = passes_token (Head word) (params_symbols 0) (this (keyword text)) t old a h
    (meets_is (keyword text) (located t).lookahead is) (head_next word text (located t).lookahead is said)

pub head_err : (e : TextFault) (word : List ℕ) (t : Token) (text : List ℕ) (old a : Reading) → Takes old t a
    → (located t).lookahead ≡ token (keyword text) → is_said word text ≡ true → StopsIn e (params_symbols 0) [] a
    → StopsIn e (Head word ∷ []) [] old
head_err e word t text old a h is said g = stops_behind e (params_symbols 0) [] (passes_keyword word t text old a h is
    said) g

pub head_done : (word : List ℕ) (t : Token) (p : Record) (old a b : Reading) → Takes old t a
    → (located t).lookahead ≡ token (keyword p.keyword) → is_said word p.keyword ≡ true → Params 0 a p.values b
    → TakesHead word old p t.place b
head_done word t p old a b h is said g = record {
  head = (said, (omega arith, g.0));
  key = t;
  inside = a;
  taken = h;
  key_is = is;
  place_is = refl;
  passes = g.1;
}

passes_head : (word : List ℕ) (old : Reading) (p : Record) (place : ℕ) (new : Reading) → TakesHead word old p place new
    → Passes (Head word ∷ []) [] [] (items_of_record p) old new
passes_head word old p place new h = passes_join (passes_keyword word h.key p.keyword old h.inside h.taken h.key_is
    h.head.0) h.passes

-- a record with its keyword and its semicolon
pub record_err_head : (e : TextFault) (word : List ℕ) (old : Reading) → StopsIn e (Head word ∷ []) [] old
    → StopsIn e (Head word ∷ Just Semicolon ∷ []) [] old
record_err_head e word old h = stops_all e (Head word ∷ []) (Just Semicolon ∷ []) [] old h

pub record_err_mark : (e : TextFault) (word : List ℕ) (old : Reading) (p : Record) (place : ℕ) (a : Reading)
    → TakesHead word old p place a → StopsIn e (Just Semicolon ∷ []) [] a → StopsIn e (Head word ∷ Just Semicolon ∷ [])
    [] old
record_err_mark e word old p place a h g = stops_behind e (Just Semicolon ∷ []) [] (passes_more (Just Semicolon ∷ [])
    (passes_head word old p place a h)) g

abbrev pub Line : List ℕ → Reading → Record → Reading → Type 0
Line word old p new = Passes (Head word ∷ Just Semicolon ∷ []) [] [] (items_of_record p ++ this (mark Semicolon) ∷ [])
    old new

pub record_done : (word : List ℕ) (old : Reading) (p : Record) (place : ℕ) (a b : Reading) → TakesHead word old p place
    a → Ends a b → IsHead word p × Line word old p b
record_done word old p place a b h g = (h.head, passes_then (passes_head word old p place a h) g)

-- FILE_SCHEMA
pub schema_err : (e : TextFault) (old : Reading) → StopsIn e (Head (codes "FILE_SCHEMA") ∷ []) [] old
    → StopsAtSchema e old
schema_err e old h = stops_before (record_err_head e (codes "FILE_SCHEMA") old h)

pub schema_err_mark : (e : TextFault) (old : Reading) (p : Record) (place : ℕ) (a : Reading)
    → TakesHead (codes "FILE_SCHEMA") old p place a → StopsIn e (Just Semicolon ∷ []) [] a → StopsAtSchema e old
schema_err_mark e old p place a h g = stops_before (record_err_mark e (codes "FILE_SCHEMA") old p place a h g)

pub schema_unnamed : (e : TextFault) (old : Reading) (p : Record) (place : ℕ) (a : Reading) (t : Token) (b : Reading)
    → TakesHead (codes "FILE_SCHEMA") old p place a → Takes a t b → is_mark Semicolon (located t).lookahead ≡ true
    → (NamesSchema p.values → ⊥) → e ≡ faults.Fault kinds.HeaderFault place → StopsAtSchema e old
schema_unnamed e old p place a t b h g m n q = stops_unnamed p place a b t h g (mark_met Semicolon (located t).lookahead
    m) n q

abbrev pub Schema : Reading → Record → Reading → Type 0
Schema old p new = (IsHead (codes "FILE_SCHEMA") p × NamesSchema p.values) × Line (codes "FILE_SCHEMA") old p new

pub schema_done : (old : Reading) (p : Record) (place : ℕ) (a : Reading) (t : Token) (b : Reading)
    → TakesHead (codes "FILE_SCHEMA") old p place a → Takes a t b → is_mark Semicolon (located t).lookahead ≡ true
    → NamesSchema p.values → Schema old p b
schema_done old p place a t b h g m n =
    let r = record_done (codes "FILE_SCHEMA") old p place a b h (passes_mark Semicolon t a b g m) in
    ((r.0, n), r.1)

-- behind the keyword of one more record
after_ended : (text : List ℕ) → is_said (codes "ENDSEC") text ≡ true → after_keyword text ≡ Ended ∷ []
after_ended text h = rw h refl

after_other : (text : List ℕ) → is_said (codes "ENDSEC") text ≡ false → after_keyword text ≡ params_symbols 0
    ++ Just Semicolon ∷ Records ∷ []
after_other text h = rw h refl

abbrev pub Keyed : List ℕ → Reading → Trees → Reading → Type 0
Keyed text old xs new = FitsTrees the_rules 1 xs × Passes (after_keyword text) (Just Semicolon ∷ Records ∷ []) []
    (this (mark Open) ∷ items_of_list xs) old new

pub keyed_err_params : (e : TextFault) (text : List ℕ) (old : Reading) → is_said (codes "ENDSEC") text ≡ false
    → StopsIn e (params_symbols 0) [] old → StopsIn e (after_keyword text) [] old
keyed_err_params e text old o h =
    let P : List Symbol → Type 0 = λ l. StopsIn e l [] old in
    subst P (sym (after_other text o)) (stops_all e (params_symbols 0) (Just Semicolon ∷ Records ∷ []) [] old h)

pub keyed_other : (text : List ℕ) (old : Reading) (xs : Trees) (new : Reading) → is_said (codes "ENDSEC") text ≡ false
    → Params 0 old xs new → Keyed text old xs new
keyed_other text old xs new o h =
    let P : List Symbol → Type 0 = λ l. Passes l (Just Semicolon ∷ Records ∷ []) [] (this (mark Open)
    ∷ items_of_list xs) old new in
    (h.0, subst P (sym (after_other text o)) (passes_more (Just Semicolon ∷ Records ∷ []) h.1))

pub keyed_err_token : (e : TextFault) (text : List ℕ) (old : Reading) → is_said (codes "ENDSEC") text ≡ true
    → StopsIn e (Ended ∷ []) [] old → StopsIn e (after_keyword text) [] old
keyed_err_token e text old o h = let P : List Symbol → Type 0 = λ l. StopsIn e l [] old in
    subst P (sym (after_ended text o)) h

passes_open : (text : List ℕ) (t : Token) (old a : Reading) → is_said (codes "ENDSEC") text ≡ true → Takes old t a
    → is_mark Open (located t).lookahead ≡ true → Passes (after_keyword text) (Items 1 ∷ Just Semicolon ∷ Records ∷ [])
    [] (this (mark Open) ∷ []) old a
passes_open text t old a o h m =
    let s = (located t).lookahead in
    let P : List Symbol → Type 0 = λ l. Passes l (Items 1 ∷ Just Semicolon ∷ Records ∷ []) [] (this (mark Open) ∷ [])
    old a in
    subst P (sym (after_ended text o)) (passes_token Ended (Items 1 ∷ Just Semicolon ∷ Records ∷ []) (this (mark Open))
    t old a h (meets_mark Open s m) (ap (table Ended) (mark_met Open s m)))

pub keyed_err_items : (e : TextFault) (text : List ℕ) (t : Token) (old a : Reading) → is_said (codes "ENDSEC")
    text ≡ true → Takes old t a → is_mark Open (located t).lookahead ≡ true → StopsIn e (Items 1 ∷ []) [] a
    → StopsIn e (after_keyword text) [] old
keyed_err_items e text t old a o h m g = stops_behind e (Items 1 ∷ []) (Just Semicolon ∷ Records ∷ [])
    (passes_open text t old a o h m) g

ended_refused : (s : Lookahead) → is_mark Semicolon s ≡ false → is_mark Open s ≡ false → table Ended s ≡ Err (refused s)
ended_refused (token (mark Semicolon)) a b = absurd (false≢true (sym a))
ended_refused (token (mark Open)) a b = absurd (false≢true (sym b))
ended_refused _ a b = refl

pub keyed_refused : (e : TextFault) (text : List ℕ) (t : Token) (old a : Reading) → is_said (codes "ENDSEC") text ≡ true
    → Takes old t a → is_mark Semicolon (located t).lookahead ≡ false → is_mark Open (located t).lookahead ≡ false
    → e ≡ faults.Fault (refused (located t).lookahead) t.place → StopsIn e (after_keyword text) [] old
keyed_refused e text t old a o h m n q = keyed_err_token e text old o
    (stops_refused e Ended t old a h (ended_refused (located t).lookahead m n) q)

pub keyed_ended : (text : List ℕ) (t : Token) (old a : Reading) (xs : Trees) (b : Reading) → is_said (codes "ENDSEC")
    text ≡ true → Takes old t a → is_mark Open (located t).lookahead ≡ true → Listed 1 a xs b → Keyed text old xs b
keyed_ended text t old a xs b o h m g = (
  g.0,
  passes_join (passes_open text t old a o h m) (passes_more (Just Semicolon ∷ Records ∷ []) g.1),
)

abbrev pub Ending : List ℕ → Reading → Reading → Type 0
Ending text old new = (is_said (codes "ENDSEC") text ≡ true) × Passes (after_keyword text) [] [] (this (mark Semicolon)
    ∷ []) old new

pub keyed_end : (text : List ℕ) (t : Token) (old a : Reading) → is_said (codes "ENDSEC") text ≡ true → Takes old t a
    → is_mark Semicolon (located t).lookahead ≡ true → Ending text old a
keyed_end text t old a o h m =
    let s = (located t).lookahead in
    let P : List Symbol → Type 0 = λ l. Passes l [] [] (this (mark Semicolon) ∷ []) old a in (
      o,
      subst P (sym (after_ended text o)) (passes_token Ended [] (this (mark Semicolon)) t old a h
          (meets_mark Semicolon s m) (ap (table Ended) (mark_met Semicolon s m))),
    )

-- one more record, or the end
records_next : (text : List ℕ) (s : Lookahead) → s ≡ token (keyword text) → table Records s ≡ Ok
    (after_keyword text)
records_next text s e = ap (table Records) e ∙ by (is_said (codes "ENDSEC") text) refl
  where
    by : (b : Bool) → is_said (codes "ENDSEC") text ≡ b → table Records (token (keyword text)) ≡ Ok
        (after_keyword text)
    by true h = rw h refl
    by false h = rw h refl

passes_key : (t : Token) (text : List ℕ) (i : Item) (old a : Reading) → Takes old t a → (located t).lookahead ≡ token
    (keyword text) → Meets (located t).lookahead i → Passes (Records ∷ []) (after_keyword text) [] (i ∷ []) old a
passes_key t text i old a h is m = passes_token Records (after_keyword text) i t old a h m
    (records_next text (located t).lookahead is)

pub more_err_keyed : (e : TextFault) (t : Token) (text : List ℕ) (old a : Reading) → Takes old t a
    → (located t).lookahead ≡ token (keyword text) → StopsIn e (after_keyword text) [] a → StopsIn e (Records ∷ []) []
    old
more_err_keyed e t text old a h is g =
    let P : List Symbol → Type 0 = λ l. Passes (Records ∷ []) l [] (this (keyword text) ∷ []) old a in
    stops_behind e (after_keyword text) [] (subst P (sym (append-nil (after_keyword text)))
    (passes_key t text (this (keyword text)) old a h is (meets_is (keyword text) (located t).lookahead is))) g

passes_params : (t : Token) (text : List ℕ) (old a : Reading) (xs : Trees) (b : Reading) → Takes old t a
    → (located t).lookahead ≡ token (keyword text) → Keyed text a xs b
    → Passes (Records ∷ []) (Just Semicolon ∷ Records ∷ []) [] (items_of_record (record {
      keyword = text;
      values = xs;
    })) old b
passes_params t text old a xs b h is g = passes_join (passes_key t text (this (keyword text)) old a h is
    (meets_is (keyword text) (located t).lookahead is)) g.1

pub more_err_mark : (e : TextFault) (t : Token) (text : List ℕ) (old a : Reading) (xs : Trees) (b : Reading)
    → Takes old t a → (located t).lookahead ≡ token (keyword text) → Keyed text a xs b
    → StopsIn e (Just Semicolon ∷ []) [] b → StopsIn e (Records ∷ []) [] old
more_err_mark e t text old a xs b h is g stop = stops_behind e (Just Semicolon ∷ []) (Records ∷ [])
    (passes_params t text old a xs b h is g) stop

abbrev pub OneMore : Reading → Record → Reading → Type 0
OneMore old p new = FitsRecord the_rules 0 p × Passes (Records ∷ []) (Records ∷ []) [] (items_of_record p
    ++ this (mark Semicolon) ∷ []) old new

pub more_done : (t : Token) (text : List ℕ) (old a : Reading) (xs : Trees) (b d : Reading) → Takes old t a
    → (located t).lookahead ≡ token (keyword text) → Keyed text a xs b → Ends b d
    → OneMore old (record { keyword = text; values = xs }) d
more_done t text old a xs b d h is g m = (
  (omega arith, g.0),
  passes_join (passes_params t text old a xs b h is g) (passes_more (Records ∷ []) m),
)

abbrev pub Over : Reading → Reading → Type 0
Over old new = Passes (Records ∷ []) [] [] (section (codes "ENDSEC")) old new

meets_says : (word text : List ℕ) (s : Lookahead) → s ≡ token (keyword text) → is_said word text ≡ true
    → Meets s (says word)
meets_says word text s e h = let P : Lookahead → Type 0 = λ x. Meets x (says word) in subst P (sym e) h

pub more_end : (t : Token) (text : List ℕ) (old a b : Reading) → Takes old t a → (located t).lookahead ≡ token
    (keyword text) → Ending text a b → Over old b
more_end t text old a b h is g = passes_join (passes_key t text (says (codes "ENDSEC")) old a h is
    (meets_says (codes "ENDSEC") text (located t).lookahead is g.0)) g.1

pub records_refused : (sort : Sort) (text : List ℕ) → ((w : _) → sort ≡ sorts.Keyword w → ⊥)
    → table Records (token (word_of sort text)) ≡ Err (refused (token (word_of sort text)))
records_refused (sorts.Keyword w) text h = absurd (h w refl)
records_refused _ text h = refl

-- the opening of the header
abbrev heads : List Symbol
heads = Head (codes "FILE_DESCRIPTION") ∷ Just Semicolon ∷ Head (codes "FILE_NAME") ∷ Just Semicolon
    ∷ Head (codes "FILE_SCHEMA") ∷ Just Semicolon ∷ []

pub opening_err_start : (e : TextFault) (old : Reading) → StopsIn e start_symbols [] old → StopsInHeader e old
opening_err_start e old h = in_opening (stops_all e start_symbols heads [] old h)

pub opening_err_first : (e : TextFault) (old : Reading) (place : ℕ) (a : Reading) → Starts old place a
    → StopsIn e (Head (codes "FILE_DESCRIPTION") ∷ Just Semicolon ∷ []) [] a → StopsInHeader e old
opening_err_first e old place a h g = in_opening (stops_behind e (Head (codes "FILE_DESCRIPTION") ∷ Just Semicolon ∷ [])
    (Head (codes "FILE_NAME") ∷ Just Semicolon ∷ Head (codes "FILE_SCHEMA") ∷ Just Semicolon ∷ [])
    (passes_more heads h.passes) g)

abbrev Described : Reading → Record → Reading → Type 0
Described old p new = IsHead (codes "FILE_DESCRIPTION") p × Line (codes "FILE_DESCRIPTION") old p new

abbrev Named : Reading → Record → Reading → Type 0
Named old p new = IsHead (codes "FILE_NAME") p × Line (codes "FILE_NAME") old p new

pub opening_err_second : (e : TextFault) (old : Reading) (place : ℕ) (a : Reading) (p : Record) (b : Reading)
    → Starts old place a → Described a p b → StopsIn e (Head (codes "FILE_NAME") ∷ Just Semicolon ∷ []) [] b
    → StopsInHeader e old
opening_err_second e old place a p b h r g = in_opening (stops_behind e (Head (codes "FILE_NAME") ∷ Just Semicolon ∷ [])
    (Head (codes "FILE_SCHEMA") ∷ Just Semicolon ∷ []) (passes_then h.passes (passes_more (Head (codes "FILE_NAME")
    ∷ Just Semicolon ∷ Head (codes "FILE_SCHEMA") ∷ Just Semicolon ∷ []) r.1)) g)

-- up to the third record
passes_two : (old : Reading) (place : ℕ) (a : Reading) (p : Record) (b : Reading) (q : Record) (d : Reading)
    → Starts old place a → Described a p b → Named b q d
    → Passes (opening_symbols ++ Just Semicolon ∷ []) (Head (codes "FILE_SCHEMA") ∷ Just Semicolon ∷ []) []
    (items_of_start ++ items_of_records (p ∷ q ∷ [])) old d
passes_two old place a p b q d h r i =
    let last = Head (codes "FILE_SCHEMA") ∷ Just Semicolon ∷ [] in
    let semi = this (mark Semicolon) ∷ [] in
    passes_as (items_of_start ++ items_of_records (p ∷ q ∷ [])) (ap (λ l. items_of_start ++ l)
    (append_assoc (items_of_record p) semi (items_of_record q ++ semi)))
    (passes_then h.passes (passes_then r.1 (passes_more last i.1)))

pub opening_err_third : (e : TextFault) (old : Reading) (place : ℕ) (a : Reading) (p : Record) (b : Reading)
    (q : Record) (d : Reading) → Starts old place a → Described a p b → Named b q d → StopsAtSchema e d
    → StopsInHeader e old
opening_err_third e old place a p b q d h r i (stops_before g) = in_opening (stops_behind e
    (Head (codes "FILE_SCHEMA") ∷ Just Semicolon ∷ []) [] (passes_two old place a p b q d h r i) g)
opening_err_third e old place a p b q d h r i (stops_unnamed s at mid new t head taken semi other fault) =
    unnamed p q s at d mid new t (r.0.1, (i.0.1, tt)) r.0.0 i.0.0 (reads_of (passes_two old place a p b q d h r i)) head
    taken semi other fault

pub opening_done : (old : Reading) (place : ℕ) (a : Reading) (p : Record) (b : Reading) (q : Record) (d : Reading)
    (r : Record) (f : Reading) → Starts old place a → Described a p b → Named b q d → Schema d r f
    → HeaderSoFar old place (p ∷ q ∷ r ∷ []) f
opening_done old place a p b q d r f h g i s = record {
  p = p;
  q = q;
  r = r;
  more = [];
  opening = record {
    are = refl;
    fits = (g.0.1, (i.0.1, (s.0.0.1, tt)));
    named = (g.0.0, i.0.0, s.0.0.0);
    schema = s.0.1;
  };
  first = h.first;
  mid = f;
  opens = passes_as (items_of_opening p q r ++ this (mark Semicolon) ∷ [])
      (sym (append_assoc (items_of_start ++ items_of_records (p ∷ q ∷ [])) (items_of_record r) (this (mark Semicolon)
      ∷ []))) (passes_join (passes_two old place a p b q d h g i) s.1);
  fits = tt;
  passes = passes_here (Records ∷ []) f;
}

-- the other records
fits_push : (ps : List Record) (p : Record) → FitsRecords the_rules ps → FitsRecord the_rules 0 p
    → FitsRecords the_rules (ps ++ p ∷ [])
fits_push [] p h g = (g, tt)
fits_push (q ∷ ps) p h g = (h.0, fits_push ps p h.1 g)

records_push : (ps : List Record) (p : Record) → items_of_records (ps ++ p ∷ []) ≡ items_of_records ps
    ++ (items_of_record p ++ this (mark Semicolon) ∷ [])
records_push [] p = refl
records_push (q ∷ ps) p = ap (λ l. items_of_record q ++ this (mark Semicolon) ∷ l) (records_push ps p)
    ∙ sym (append_assoc (items_of_record q) (this (mark Semicolon) ∷ items_of_records ps) (items_of_record p
    ++ this (mark Semicolon) ∷ []))

pub header_next : (old : Reading) (place : ℕ) (header : List Record) (here : Reading) (p : Record) (new : Reading)
    → HeaderSoFar old place header here → OneMore here p new → HeaderSoFar old place (header ++ p ∷ []) new
header_next old place header here p new so g = record {
  p = so.p;
  q = so.q;
  r = so.r;
  more = so.more ++ p ∷ [];
  opening = record {
    are = ap (λ l. l ++ p ∷ []) so.opening.are;
    fits = so.opening.fits;
    named = so.opening.named;
    schema = so.opening.schema;
  };
  first = so.first;
  mid = so.mid;
  opens = so.opens;
  fits = fits_push so.more p so.fits g.0;
  passes = passes_as (items_of_records (so.more ++ p ∷ [])) (sym (records_push so.more p)) (passes_join so.passes g.1);
}

pub header_err : (e : TextFault) (old : Reading) (place : ℕ) (header : List Record) (here : Reading)
    → HeaderSoFar old place header here → StopsIn e (Records ∷ []) [] here → StopsInHeader e old
header_err e old place header here so g = in_records so.p so.q so.r header so.more so.mid so.opening so.opens
    (stops_behind e (Records ∷ []) [] so.passes g)

pub header_done : (old : Reading) (place : ℕ) (header : List Record) (here new : Reading) → HeaderSoFar old place header
    here → Over here new → TakesHeader old place header new
header_done old place header here new so g =
    let P : List Record → Type 0 = λ l. TakesHeader old place l new in
    let opened = items_of_opening so.p so.q so.r in
    let semi = this (mark Semicolon) ∷ [] in
    let last = items_of_records so.more ++ section (codes "ENDSEC") in
    subst P (sym so.opening.are) (record {
      first = so.first;
      fits = ((so.opening.fits.0, (so.opening.fits.1.0, (so.opening.fits.1.1.0, so.fits))), tt, so.opening.named);
      schema = so.opening.schema;
      passes = passes_as (items_of_header (so.p ∷ so.q ∷ so.r ∷ so.more)) (append_assoc opened semi last
          ∙ sym (header_items so.p so.q so.r so.more)) (passes_then so.opens (passes_join so.passes g));
    })

-- what a keyword shows is a token
keyword_less : (old : Reading) (t : LocatedToken) (new : Reading) (text : List ℕ) → Shows old t new
    → Meets t.lookahead (this (keyword text)) → length (left new) < length (left old)
keyword_less old t new text (shows_token u g e) m = takes_less old new u g
keyword_less old t new text (shows_fault f g e) m = absurd (let Q : LocatedToken → Type 0 = λ x. Meets x.lookahead
    (this (keyword text)) in subst Q e m)
keyword_less old t new text (shows_end g e) m = absurd (let Q : LocatedToken → Type 0 = λ x. Meets x.lookahead
    (this (keyword text)) in subst Q e m)

pub header_smaller : (here : Reading) (p : Record) (new : Reading) → OneMore here p new
    → length (left new) < length (left here)
header_smaller here p new g = by g.1.shown g.1.shown_all g.1.words
  where
    by : (s : List LocatedToken) → ShowsAll here s new → MeetAll (lookaheads s) (items_of_record p
        ++ this (mark Semicolon) ∷ []) → length (left new) < length (left here)
    by [] h m = absurd m
    by (t ∷ s) h m = omega (arith, keyword_less here t h.0 p.keyword h.1 m.0, shown_within s h.0 new h.2)
