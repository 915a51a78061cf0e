-- The data sections and the end of the file, token by token.
use Rattle.std.proofs.Common.{◌≡◌, ℕ, zero, suc, ◌+◌, ◌<◌, ◌≤◌, nat_lt, Bool, true, false, ◌==◌, List, [], ◌∷◌, ◌++◌, length, Option, Result, Ok, Err, MatchResult, IfOk, refl, sym, ap, ◌∙◌, subst, append_assoc, append-nil, length-append, arith, codes}
use Rattle.std.proofs.lemmas.Bool.{false≢true}
use Rattle.std.proofs.lemmas.Bool.Decides.{nat_tests}
use Rattle.parsing.proofs.Taking as taking
use Rattle.step_literals.specs.declared.literal.Text as literal
use Rattle.step_lexer.specs.declared.token.Mark.TheVariants.{Open, Semicolon}
use Rattle.step_lexer.specs.declared.token.Sort.{Sort}
use Rattle.step_lexer.specs.declared.token.Sort.TheVariants as sorts
use Rattle.step_lexer.specs.declared.token.Token.{Token}
use Rattle.step_lexer.specs.Reading.{Reading, Takes, IsAtEnd, left}
use Rattle.step_lexer.proofs.ReadingLemmas.{takes_less}
use Rattle.step_structures.specs.declared.fault.FaultKind.{FaultKind}
use Rattle.step_structures.specs.declared.fault.FaultKind.TheVariants as kinds
use Rattle.step_structures.specs.declared.fault.LeftOut.TheVariants as left_out
use Rattle.step_structures.specs.declared.fault.TextFault.{TextFault}
use Rattle.step_structures.specs.declared.fault.TextFault.TheVariants as faults
use Rattle.step_structures.specs.Words.{Word, ends, keyword, string, mark, Lookahead, token, located, located_end, word_of, Shows, shows_end}
use Rattle.step_structures.specs.Trees.{ExchangeRow, Section, rows_of, Item, this, says, finish, MeetAll, section, items_of_rows, items_of_heading, items_of_section, items_of_sections, items_of_end}
use Rattle.step_structures.specs.Fits.{the_rules, FitsRows}
use Rattle.step_structures.specs.steps.Predict.{Symbol, Just, Sections, Behind, Quoted, Rows, EndOfText, refused, is_mark, is_word, heading_symbols, data_symbols, table}
use Rattle.step_exchange.specs.declared.section.Section as code
use Rattle.step_exchange.specs.Sections.{CountsTo, heading_of, sections_of}
use Rattle.step_records.specs.steps.Readers.{Progress, reading}
use Rattle.step_records.specs.steps.Steps.{StopsIn, Passes, ParsesWhere}
use Rattle.step_records.specs.steps.Instances.{StopsInRows, names_of}
use Rattle.step_exchange.specs.steps.Steps.{TakesData, BeginsSection, section_refused}
use Rattle.step_structures.proofs.Meeting.{meets_is}
use Rattle.step_records.proofs.Taking.{passes_here, passes_as, passes_join, passes_more, passes_then, passes_token, passes_taken, passes_first, passes_within, stops_behind, stops_behind_taken, stops_all, stops_token}
use Rattle.step_records.proofs.Looking.{mark_met, meets_mark, word_met}
use Rattle.step_exchange.proofs.Cuts.{Cut, cut_is, cut_counts, cut_push, rows_more}

-- what stops at the first of what is to come stops it all
pub stops_first : (e : TextFault) (y : Symbol) (ys : List Symbol) (old : Reading) → StopsIn e (y ∷ []) [] old
    → StopsIn e (y ∷ ys) [] old
stops_first e y ys old h = stops_all e (y ∷ []) ys [] old h

-- a token that can't stand there stops it
pub stops_at : (e : TextFault) (k : FaultKind) (y : Symbol) (ys : List Symbol) (t : Token) (old new : Reading)
    → Takes old t new → table y (located t).lookahead ≡ Err k → e ≡ faults.Fault k t.place → StopsIn e (y ∷ ys) [] old
stops_at e k y ys t old new h n q = stops_first e y ys old (stops_token e k y t old new h n q)

-- a string
pub string_at : (t : Token) (w : literal.Text) → t.sort ≡ sorts.String w → (located t).lookahead ≡ token
    (string w.text.now)
string_at t w e = ap (λ s. token (word_of s t.text.now)) e

pub string_refused : (sort : Sort) (text : List ℕ) → ((w : literal.Text) → sort ≡ sorts.String w → ⊥)
    → table Quoted (token (word_of sort text)) ≡ Err (refused (token (word_of sort text)))
string_refused (sorts.String w) text h = absurd (h w refl)
string_refused _ text h = refl

pub passes_string : (t : Token) (w : literal.Text) (old new : Reading) → Takes old t new → t.sort ≡ sorts.String w
    → Passes (Quoted ∷ []) [] [] (this (string w.text.now) ∷ []) old new
passes_string t w old new h e =
    let is = string_at t w e in
    passes_token Quoted [] (this (string w.text.now)) t old new h (meets_is (string w.text.now) (located t).lookahead is)
    (ap (table Quoted) is)

-- the heading of a section
pub behind_open : (s : Lookahead) → is_mark Open s ≡ true → table Behind s ≡ Ok heading_symbols
behind_open s e = ap (table Behind) (mark_met Open s e)

pub behind_refused : (s : Lookahead) → is_mark Semicolon s ≡ false → is_mark Open s ≡ false → table Behind s ≡ Err
    (refused s)
behind_refused (token (mark Open)) e g = absurd (false≢true (sym g))
behind_refused (token (mark Semicolon)) e g = absurd (false≢true (sym e))
behind_refused _ e g = refl

pub passes_behind : (t : Token) (old new : Reading) → Takes old t new → is_mark Semicolon (located t).lookahead ≡ true
    → Passes (Behind ∷ []) [] [] (this (mark Semicolon) ∷ []) old new
passes_behind t old new h m =
    let s = (located t).lookahead in
    passes_token Behind [] (this (mark Semicolon)) t old new h (meets_mark Semicolon s m) (ap (table Behind)
    (mark_met Semicolon s m))

pub passes_opened : (t : Token) (old new : Reading) → Takes old t new → is_mark Open (located t).lookahead ≡ true
    → Passes (Behind ∷ []) heading_symbols [] (this (mark Open) ∷ []) old new
passes_opened t old new h m =
    let s = (located t).lookahead in
    passes_token Behind heading_symbols (this (mark Open)) t old new h (meets_mark Open s m) (behind_open s m)

-- the word of a section
data_said : (n : ℕ) (names : List ℕ) (s : Lookahead) → is_word (codes "DATA") s ≡ true → n < the_rules.sections
    → table (Sections n names) s ≡ Ok (Behind ∷ Rows (suc n) names ∷ [])
data_said n names (token (keyword text)) e h = let l : nat_lt n the_rules.sections ≡ true = grind (arith, nat_tests) in
    rw (e, l) refl
data_said n names _ e h = absurd (false≢true e)

pub data_too_many : (n : ℕ) (names : List ℕ) (s : Lookahead) → is_word (codes "DATA") s ≡ true
    → the_rules.sections ≤ n → table (Sections n names) s ≡ Err (kinds.LeftOut left_out.TooMany)
data_too_many n names (token (keyword text)) e h =
    let l : nat_lt n the_rules.sections ≡ false = grind (arith, nat_tests) in rw (e, l) refl
data_too_many n names _ e h = absurd (false≢true e)

pub data_refused : (n : ℕ) (names : List ℕ) (s : Lookahead) → is_word (codes "DATA") s ≡ false → (s ≡ token ends → ⊥)
    → table (Sections n names) s ≡ Err (section_refused s)
data_refused n names (token (keyword text)) e h = rw e refl
data_refused n names (token ends) e h = absurd (h refl)
data_refused n names _ e h = refl

passes_data : (n : ℕ) (names : List ℕ) (t : Token) (here : Reading) → is_word (codes "DATA") (located t).lookahead
    ≡ true → n < the_rules.sections → Passes (Sections n names ∷ []) (Behind ∷ Rows (suc n) names ∷ []) (located t ∷ [])
    (says (codes "DATA") ∷ []) here here
passes_data n names t here w h = passes_taken (Sections n names) (Behind ∷ Rows (suc n) names ∷ [])
    (says (codes "DATA")) t here (word_met (codes "DATA") (located t).lookahead w) (data_said n names
    (located t).lookahead w h)

pub begun : (r : Result (Option (literal.Text × literal.Text)) TextFault) (n : ℕ) (names : List ℕ) (t : Token)
    (old new : Progress) → is_word (codes "DATA") (located t).lookahead ≡ true → n < the_rules.sections
    → ParsesWhere r (Behind ∷ []) (λ h. items_of_heading (heading_of h) ++ this (mark Semicolon) ∷ [])
    (λ _. new.built ≡ old.built) (reading old) (reading new)
    → MatchResult r (λ h. BeginsSection (located t) n names (heading_of h) (reading old) (reading new))
    (λ e. StopsIn e (Sections n names ∷ []) (located t ∷ []) (reading old))
begun (Ok h) n names t old new w few p = (
  few,
  passes_join (passes_data n names t (reading old) w few) (passes_more (Rows (suc n) names ∷ []) p.1),
)
begun (Err e) n names t old new w few p = stops_behind e (Behind ∷ []) (Rows (suc n) names ∷ [])
    (passes_data n names t (reading old) w few) p

-- what a parser leaves built
pub left_built : {A : Type 0} (r : Result A TextFault) (ys : List Symbol) (items : A → List Item) (old new : Progress)
    → ParsesWhere r ys items (λ _. new.built ≡ old.built) (reading old) (reading new)
    → IfOk r (λ _. new.built ≡ old.built)
left_built (Ok h) ys items old new p = p.0
left_built (Err e) ys items old new p = tt

-- the end of the text
pub over_signature : (s : Lookahead) → is_word (codes "SIGNATURE") s ≡ true → table EndOfText s ≡ Err
    (kinds.LeftOut left_out.Signature)
over_signature (token (keyword text)) e = rw e refl
over_signature _ e = absurd (false≢true e)

pub over_refused : (w : Word) → is_word (codes "SIGNATURE") (token w) ≡ false → table EndOfText (token w) ≡ Err
    (refused (token w))
over_refused (keyword text) e = rw e refl
over_refused _ e = refl

pub over_done : (old new : Reading) → IsAtEnd old new → Passes (EndOfText ∷ []) [] [] (finish ∷ []) old new
over_done old new h = taking.passes_token table Shows MeetAll EndOfText [] finish (located_end old) old new
    (shows_end h refl) (tt, tt) refl

-- the end of the file
pub is_end : (t : Token) → t.sort ≡ sorts.End → (located t).lookahead ≡ token ends
is_end t e = ap (λ s. token (word_of s t.text.now)) e

pub isnt_end : (t : Token) → (t.sort ≡ sorts.End → ⊥) → (located t).lookahead ≡ token ends → ⊥
isnt_end t h e = by t.sort t.text.now h e
  where
    by : (sort : Sort) (text : List ℕ) → (sort ≡ sorts.End → ⊥) → (let l : Lookahead = token (word_of sort text) in l)
        ≡ token ends → ⊥
    by sorts.End text h e = h refl
    by sorts.Begin text h e = cc
    by (sorts.Keyword w) text h e = cc
    by (sorts.UserDefined w) text h e = cc
    by sorts.Scope text h e = cc
    by (sorts.Name n) text h e = cc
    by (sorts.Integer d) text h e = cc
    by (sorts.Real d) text h e = cc
    by (sorts.Element w) text h e = cc
    by (sorts.String w) text h e = cc
    by (sorts.Binary b) text h e = cc
    by (sorts.Mark m) text h e = cc

passes_ends : (n : ℕ) (names : List ℕ) (t : Token) (old a : Reading) → Takes old t a
    → (located t).lookahead ≡ token ends
    → Passes (Sections (suc n) names ∷ []) (Just Semicolon ∷ EndOfText ∷ []) [] (this ends ∷ []) old a
passes_ends n names t old a h e = passes_token (Sections (suc n) names) (Just Semicolon ∷ EndOfText ∷ []) (this ends) t
    old a h (meets_is ends (located t).lookahead e) (ap (table (Sections (suc n) names)) e)

no_more : (n : ℕ) → (n == 0) ≡ true → n ≡ 0
no_more n e = grind (arith, nat_tests)

some_at_least : (n : ℕ) → (n == 0) ≡ false → n ≡ 0 → ⊥
some_at_least n e d = let z : (n == 0) ≡ true = grind (arith, nat_tests) in false≢true (sym e ∙ z)

-- there are none, or some
pub no_sections : (ss : List code.Section) (n : ℕ) (b : Bool) → b ≡ (n == 0) → length ss ≡ n → b ≡ true → length ss ≡ 0
no_sections ss n b e l t = l ∙ no_more n (sym e ∙ t)

pub some_sections : (ss : List code.Section) (n : ℕ) (b : Bool) → b ≡ (n == 0) → length ss ≡ n → b ≡ false
    → length ss ≡ 0 → ⊥
some_sections ss n b e l t d = some_at_least n (sym e ∙ t) (sym l ∙ d)

pub end_done : (r : Result Unit TextFault) (a b c : Progress) → b.built ≡ a.built
    → Passes (Just Semicolon ∷ []) [] [] (this (mark Semicolon) ∷ []) (reading a) (reading b)
    → ParsesWhere r (EndOfText ∷ []) (λ _. finish ∷ []) (λ _. c.built ≡ b.built) (reading b) (reading c)
    → ParsesWhere r (Just Semicolon ∷ EndOfText ∷ []) (λ _. this (mark Semicolon) ∷ finish ∷ [])
    (λ _. c.built ≡ a.built) (reading a) (reading c)
end_done (Ok u) a b c e m g = (g.0 ∙ e, passes_then m g.1)
end_done (Err f) a b c e m g = stops_behind f (EndOfText ∷ []) [] (passes_more (EndOfText ∷ []) m) g

-- the sections so far, with these instances, and others and the end of the file behind
pub record SectionsSoFar (old : Reading) (ss : List code.Section) (rows : List ExchangeRow) (here : Reading) : Type 0 where
  pub sections : List Section
  pub cut : Cut 0 ss sections
  pub are : rows ≡ rows_of sections
  pub fits : FitsRows the_rules [] rows
  pub few : length ss ≤ the_rules.sections
  pub count : length ss ≡ length sections
  pub passes : Passes (Sections 0 [] ∷ []) (Sections (length ss) (names_of rows) ∷ []) [] (items_of_sections sections)
      old here

pub sections_start : (r : Reading) → SectionsSoFar r [] [] r
sections_start r = record {
  sections = [];
  cut = tt;
  are = refl;
  fits = tt;
  few = omega arith;
  count = refl;
  passes = passes_here (Sections 0 [] ∷ []) r;
}

pub sections_err_token : (e : TextFault) (old : Reading) (ss : List code.Section) (rows : List ExchangeRow) (here : Reading)
    → SectionsSoFar old ss rows here → StopsIn e (Sections (length ss) (names_of rows) ∷ []) [] here
    → StopsIn e data_symbols [] old
sections_err_token e old ss rows here so g = stops_behind e (Sections (length ss) (names_of rows) ∷ []) [] so.passes g

-- there is none yet
pub sections_err_none : (e : TextFault) (old : Reading) (ss : List code.Section) (rows : List ExchangeRow) (here : Reading)
    (t : Token) (a : Reading) → SectionsSoFar old ss rows here → Takes here t a → (located t).lookahead ≡ token ends
    → length ss ≡ 0 → e ≡ faults.Fault (refused (located t).lookahead) t.place → StopsIn e data_symbols [] old
sections_err_none e old ss rows here t a so h is none q =
    let k : refused (located t).lookahead ≡ kinds.Expected = ap refused is in
    sections_err_token e old ss rows here so (stops_token e kinds.Expected (Sections (length ss) (names_of rows)) t here
    a h (ap (λ n. table (Sections n (names_of rows)) (located t).lookahead) none ∙ ap (table (Sections 0 (names_of rows)))
    is) (q ∙ ap (λ v. faults.Fault v t.place) k))

one_less : (n : ℕ) → (n ≡ 0 → ⊥) → (m : ℕ) × (n ≡ suc m)
one_less zero h = absurd (h refl)
one_less (suc n) h = (n, refl)

ends_here : (old : Reading) (ss : List code.Section) (rows : List ExchangeRow) (here : Reading) (t : Token) (a : Reading)
    → (so : SectionsSoFar old ss rows here) → Takes here t a → (located t).lookahead ≡ token ends → (length ss ≡ 0 → ⊥)
    → Passes data_symbols (Just Semicolon ∷ EndOfText ∷ []) [] (items_of_sections so.sections ++ this ends ∷ []) old a
ends_here old ss rows here t a so h is some =
    let m = one_less (length ss) some in
    let P : ℕ → Type 0 = λ n. Passes (Sections n (names_of rows) ∷ []) (Just Semicolon ∷ EndOfText ∷ []) []
    (this ends ∷ []) here a in
    passes_join so.passes (subst P (sym m.1) (passes_ends m.0 (names_of rows) t here a h is))

pub sections_err_end : (e : TextFault) (old : Reading) (ss : List code.Section) (rows : List ExchangeRow) (here : Reading)
    (t : Token) (a : Reading) → SectionsSoFar old ss rows here → Takes here t a → (located t).lookahead ≡ token ends
    → (length ss ≡ 0 → ⊥) → StopsIn e (Just Semicolon ∷ EndOfText ∷ []) [] a → StopsIn e data_symbols [] old
sections_err_end e old ss rows here t a so h is some g = stops_behind e (Just Semicolon ∷ EndOfText ∷ []) []
    (ends_here old ss rows here t a so h is some) g

pub sections_done : (old : Reading) (ss : List code.Section) (rows : List ExchangeRow) (here : Reading) (t : Token)
    (a b : Reading) → SectionsSoFar old ss rows here → Takes here t a → (located t).lookahead ≡ token ends
    → (length ss ≡ 0 → ⊥) → Passes (Just Semicolon ∷ EndOfText ∷ []) [] [] (this (mark Semicolon) ∷ finish ∷ []) a b
    → TakesData (sections_of 0 ss rows) old b × CountsTo 0 ss (length rows)
sections_done old ss rows here t a b so h is some m =
    let e : sections_of 0 ss rows ≡ so.sections = ap (sections_of 0 ss) so.are ∙ cut_is 0 ss so.sections so.cut in
    let P : List Section → Type 0 = λ xs. TakesData xs old b in
    let all : 0 + length (rows_of so.sections) ≡ length rows = omega (arith, ap length so.are) in (
      subst P (sym e) (record {
        fits = (
          omega (arith, so.count, some_more (length ss) some),
          omega (arith, so.count, so.few),
          subst (FitsRows the_rules []) so.are so.fits,
        );
        passes = passes_as (items_of_sections so.sections ++ items_of_end) (append_assoc (items_of_sections so.sections)
            (this ends ∷ []) (this (mark Semicolon) ∷ finish ∷ [])) (passes_join (ends_here old ss rows here t a so h is
            some) m);
      }),
      subst (CountsTo 0 ss) all (cut_counts 0 ss so.sections so.cut),
    )
  where
    some_more : (n : ℕ) → (n ≡ 0 → ⊥) → 0 < n
    some_more zero g = absurd (g refl)
    some_more (suc n) g = omega arith

pub sections_err_begin : (e : TextFault) (old : Reading) (ss : List code.Section) (rows : List ExchangeRow) (here : Reading)
    (t : Token) (a : Reading) → SectionsSoFar old ss rows here → Takes here t a
    → StopsIn e (Sections (length ss) (names_of rows) ∷ []) (located t ∷ []) a → StopsIn e data_symbols [] old
sections_err_begin e old ss rows here t a so h g = stops_behind_taken e (Sections (length ss) (names_of rows) ∷ []) [] t
    so.passes h g

begins_here : (old : Reading) (ss : List code.Section) (rows : List ExchangeRow) (here : Reading) (t : Token) (a b : Reading)
    (heading : Option (List ℕ × List ℕ)) → (so : SectionsSoFar old ss rows here) → Takes here t a
    → BeginsSection (located t) (length ss) (names_of rows) heading a b
    → Passes data_symbols (Rows (suc (length ss)) (names_of rows) ∷ []) [] (items_of_sections so.sections
    ++ (says (codes "DATA") ∷ (items_of_heading heading ++ this (mark Semicolon) ∷ []))) old b
begins_here old ss rows here t a b heading so h g = passes_join so.passes (passes_first t here h g.1)

pub sections_err_rows : (e : TextFault) (old : Reading) (ss : List code.Section) (rows : List ExchangeRow) (here : Reading)
    (t : Token) (a b : Reading) (heading : Option (List ℕ × List ℕ)) → SectionsSoFar old ss rows here → Takes here t a
    → BeginsSection (located t) (length ss) (names_of rows) heading a b → StopsInRows e (names_of rows) b
    → StopsIn e data_symbols [] old
sections_err_rows e old ss rows here t a b heading so h g stop = stops_behind e (Rows (suc (length ss)) (names_of rows)
    ∷ []) [] (begins_here old ss rows here t a b heading so h g) (stop (suc (length ss)))

items_more : (xs : List Section) (x : Section) → items_of_sections (xs ++ x ∷ []) ≡ items_of_sections xs
    ++ items_of_section x
items_more [] x = append-nil (items_of_section x)
items_more (y ∷ xs) x = ap (λ l. items_of_section y ++ l) (items_more xs x)
    ∙ sym (append_assoc (items_of_section y) (items_of_sections xs) (items_of_section x))

-- instances that fit behind others fit with them
fits_join : (rs ts : List ExchangeRow) (before : List ℕ) → FitsRows the_rules before rs
    → FitsRows the_rules (before ++ names_of rs) ts → FitsRows the_rules before (rs ++ ts)
fits_join [] ts before f g = subst (λ l. FitsRows the_rules l ts) (append-nil before) g
fits_join (r ∷ rs) ts before f g = (
  f.0,
  f.1,
  f.2,
  fits_join rs ts (before ++ r.name ∷ []) f.3 (subst (λ l. FitsRows the_rules l ts)
      (sym (append_assoc before (r.name ∷ []) (names_of rs))) g),
)

-- no more instances fit than may stand
pub fits_few : (rs : List ExchangeRow) (before : List ℕ) → length before ≤ the_rules.instances → FitsRows the_rules before rs
    → length before + length rs ≤ the_rules.instances
fits_few [] before h f = omega (arith, h)
fits_few (r ∷ rs) before h f =
    let l = length-append before (r.name ∷ []) in
    let g = fits_few rs (before ++ r.name ∷ []) (omega (arith, l, f.1)) f.3 in
    omega (arith, l, g)

-- instances behind others, and the end of their section, whatever its number
pub record RowsRead (before more : List ExchangeRow) (old new : Reading) : Type 0 where
  pub fits : FitsRows the_rules (names_of before) more
  pub passes : (n : ℕ) → Passes (Rows n (names_of before) ∷ []) (Sections n (names_of (before ++ more)) ∷ []) []
      (items_of_rows more ++ section (codes "ENDSEC")) old new

pub rows_few : (old : Reading) (ss : List code.Section) (rows : List ExchangeRow) (here : Reading) (more : List ExchangeRow)
    (b c : Reading) → SectionsSoFar old ss rows here → RowsRead rows more b c
    → length (rows ++ more) ≤ the_rules.instances
rows_few old ss rows here more b c so read =
    let all = fits_few (rows ++ more) [] (omega arith) (fits_join rows more [] so.fits read.fits) in omega (arith, all)

pub sections_next : (old : Reading) (ss : List code.Section) (rows : List ExchangeRow) (here : Reading) (t : Token)
    (a b c : Reading) (s : code.Section) (more : List ExchangeRow) → SectionsSoFar old ss rows here → Takes here t a
    → BeginsSection (located t) (length ss) (names_of rows) (heading_of s.heading) a b → RowsRead rows more b c
    → s.past ≡ length (rows ++ more) → SectionsSoFar old (ss ++ s ∷ []) (rows ++ more) c
sections_next old ss rows here t a b c s more so h g read past =
    let heading = heading_of s.heading in
    let x : Section = record { heading = heading; rows = more } in
    let head = says (codes "DATA") ∷ (items_of_heading heading ++ this (mark Semicolon) ∷ []) in
    let body = items_of_rows more ++ section (codes "ENDSEC") in
    let count : length (ss ++ s ∷ []) ≡ suc (length ss) = length-append ss (s ∷ []) ∙ omega arith in
    let P : ℕ → Type 0 = λ n. Passes data_symbols (Sections n (names_of (rows ++ more)) ∷ []) [] (items_of_sections
    (so.sections ++ x ∷ [])) old c in
    let items : (items_of_sections so.sections ++ head) ++ body ≡ items_of_sections (so.sections ++ x ∷ []) =
    append_assoc (items_of_sections so.sections) head body ∙ ap (λ l. items_of_sections so.sections ++ says
    (codes "DATA") ∷ l) (append_assoc (items_of_heading heading) (this (mark Semicolon) ∷ []) body)
    ∙ sym (items_more so.sections x) in
    record {
      sections = so.sections ++ x ∷ [];
      cut = cut_push 0 ss so.sections s x so.cut refl (omega (
        arith,
        past,
        ap length (ap (λ l. l ++ more) so.are),
        length-append (rows_of so.sections) more,
      ));
      are = ap (λ l. l ++ more) so.are ∙ sym (rows_more so.sections x);
      fits = fits_join rows more [] so.fits read.fits;
      few = omega (arith, count, g.0);
      count = count ∙ ap (λ n. suc n) so.count ∙ sym (length-append so.sections (x ∷ []) ∙ omega arith);
      passes = subst P (sym count) (passes_as (items_of_sections (so.sections ++ x ∷ [])) items
          (passes_join (begins_here old ss rows here t a b heading so h g) (read.passes (suc (length ss)))));
    }

-- a section leaves less of the text
pub sections_smaller : (here : Reading) (t : Token) (n : ℕ) (names : List ℕ) (heading : Option (List ℕ × List ℕ))
    (a b c : Reading) (before more : List ExchangeRow) → Takes here t a → BeginsSection (located t) n names heading a b
    → RowsRead before more b c → length (left c) < length (left here)
sections_smaller here t n names heading a b c before more h g read = omega (
  arith,
  takes_less here a t h,
  passes_within g.1,
  passes_within (read.passes 0),
)
