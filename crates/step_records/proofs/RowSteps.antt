-- The instances, one after another.
use Rattle.std.proofs.Common.{◌≡◌, ℕ, ◌<◌, ◌≤◌, true, false, List, [], ◌∷◌, ◌++◌, length, Ok, Err, refl, sym, ap, ◌∙◌, subst, append_assoc, append-nil, arith, nat_lt, codes, inl, inr}
use Rattle.std.proofs.lemmas.Bool.{false≢true}
use Rattle.std.proofs.lemmas.Bool.Decides.{nat_tests}
use Rattle.step_lexer.specs.declared.token.Mark.TheVariants.{Semicolon}
use Rattle.step_lexer.specs.declared.token.Sort.{Sort}
use Rattle.step_lexer.specs.declared.token.Sort.TheVariants as sorts
use Rattle.step_lexer.specs.Reading.{Reading, Takes, left}
use Rattle.step_lexer.specs.declared.token.Token.{Token}
use Rattle.step_lexer.proofs.ReadingLemmas.{takes_less}
use Rattle.step_structures.specs.declared.fault.FaultKind.TheVariants as kinds
use Rattle.step_structures.specs.declared.fault.LeftOut.TheVariants as left_out
use Rattle.step_structures.specs.declared.fault.TextFault.{TextFault}
use Rattle.step_structures.specs.declared.fault.TextFault.TheVariants as faults
use Rattle.step_structures.specs.Words.{Lookahead, token, keyword, name, mark, located, word_of}
use Rattle.step_structures.specs.Trees.{ExchangeRow, Form, this, named, says, section, items_of_row, items_of_rows}
use Rattle.step_structures.specs.Fits.{the_rules, FitsForm, FitsRows, has_name}
use Rattle.step_structures.specs.steps.Predict.{Just, Rows, Sections, refused, is_word, row_symbols, table}
use Rattle.step_records.specs.steps.Steps.{StopsIn, Passes}
use Rattle.step_records.specs.steps.Instances.{StopsInRows, IsNextName, IsNoName, HasNoName, names_of}
use Rattle.step_structures.proofs.Meeting.{meets_named}
use Rattle.step_records.proofs.Taking.{passes_here, passes_as, passes_join, passes_more, passes_token, passes_within, stops_behind, stops_token}
use Rattle.step_records.proofs.Looking.{word_met}
use Rattle.step_records.proofs.RecordSteps.{Lined}

-- a name that may stand, or its fault
pub name_refused : (names : List ℕ) (t : Token) (e : TextFault) → ((n : ℕ) → t.sort ≡ sorts.Name n → ⊥)
    → is_word (codes "ENDSEC") (located t).lookahead ≡ false → e ≡ faults.Fault (refused (located t).lookahead) t.place
    → IsNoName names (located t) e
name_refused names t e h c q = record {
  kind = refused (located t).lookahead;
  refused = λ k. by k t.sort t.text.now h c;
  fault_is = q;
}
  where
    by : (k : ℕ) (sort : Sort) (text : List ℕ) → ((n : ℕ) → sort ≡ sorts.Name n → ⊥) → is_word (codes "ENDSEC")
        (token (word_of sort text)) ≡ false → table (Rows k names) (token (word_of sort text)) ≡ Err
        (refused (token (word_of sort text)))
    by k (sorts.Name n) text h c = absurd (h n refl)
    by k (sorts.Keyword w) text h c = rw c refl
    by k _ text h c = refl

name_at : (t : Token) (n : ℕ) → t.sort ≡ sorts.Name n → (located t).lookahead ≡ token (name n t.text.now)
name_at t n e = ap (λ s. token (word_of s t.text.now)) e

twice_next : (k : ℕ) (names : List ℕ) (n : ℕ) (text : List ℕ) → has_name n names ≡ true → table (Rows k names)
    (token (name n text)) ≡ Err kinds.DuplicateName
twice_next k names n text h = rw h refl

many_next : (k : ℕ) (names : List ℕ) (n : ℕ) (text : List ℕ) → has_name n names ≡ false
    → the_rules.instances ≤ length names → table (Rows k names) (token (name n text)) ≡ Err
    (kinds.LeftOut left_out.TooMany)
many_next k names n text h m = let e : nat_lt (length names) the_rules.instances ≡ false = grind (arith, nat_tests) in
    rw (h, e) refl

name_next : (k : ℕ) (names : List ℕ) (n : ℕ) (text : List ℕ) → has_name n names ≡ false
    → length names < the_rules.instances → table (Rows k names) (token (name n text)) ≡ Ok (row_symbols
    ++ Rows k (names ++ n ∷ []) ∷ [])
name_next k names n text h m = let e : nat_lt (length names) the_rules.instances ≡ true = grind (arith, nat_tests) in
    rw (h, e) refl

pub name_twice : (names : List ℕ) (t : Token) (n : ℕ) (e : TextFault) → t.sort ≡ sorts.Name n → has_name n names ≡ true
    → e ≡ faults.Fault kinds.DuplicateName t.place → IsNoName names (located t) e
name_twice names t n e is h q = record {
  kind = kinds.DuplicateName;
  refused = λ k. ap (table (Rows k names)) (name_at t n is) ∙ twice_next k names n t.text.now h;
  fault_is = q;
}

pub name_too_many : (names : List ℕ) (t : Token) (n : ℕ) (e : TextFault) → t.sort ≡ sorts.Name n
    → has_name n names ≡ false → the_rules.instances ≤ length names → e ≡ faults.Fault (kinds.LeftOut left_out.TooMany)
    t.place → IsNoName names (located t) e
name_too_many names t n e is h m q = record {
  kind = kinds.LeftOut left_out.TooMany;
  refused = λ k. ap (table (Rows k names)) (name_at t n is) ∙ many_next k names n t.text.now h m;
  fault_is = q;
}

pub name_fits : (names : List ℕ) (t : Token) (n : ℕ) → t.sort ≡ sorts.Name n → has_name n names ≡ false
    → length names < the_rules.instances → IsNextName names (located t) n
name_fits names t n is h m = record { text = t.text.now; is = name_at t n is; alone = h; few = m }

-- the instances of a section behind those of others so far, with the others and the end of the section behind
pub record RowsSoFar (before : List ℕ) (old : Reading) (now : List ℕ) (here : Reading) : Type 0 where
  pub rows : List ExchangeRow
  pub are : now ≡ before ++ names_of rows
  pub fits : FitsRows the_rules (before) rows
  pub passes : (k : ℕ) → Passes (Rows k (before) ∷ []) (Rows k (now) ∷ []) [] (items_of_rows rows) old
      here

unfoldable pub rows_start : (before : List ℕ) (r : Reading) → RowsSoFar before r before r
rows_start before r = record {
  rows = [];
  are = sym (append-nil before);
  fits = tt;
  passes = λ k. passes_here (Rows k (before) ∷ []) r;
}

pub rows_err_token : (e : TextFault) (before : List ℕ) (old : Reading) (now : List ℕ) (here : Reading)
    → RowsSoFar before old now here → StopsInRows e (now) here → StopsInRows e (before) old
rows_err_token e before old now here so g k = stops_behind e (Rows k (now) ∷ []) [] (so.passes k) (g k)

pub rows_err_name : (e : TextFault) (before : List ℕ) (old : Reading) (now : List ℕ) (here : Reading) (t : Token)
    (a : Reading) → RowsSoFar before old now here → Takes here t a → HasNoName now (located t) e → StopsInRows e before old
rows_err_name faults.Memory before old now here t a so h g k = tt
rows_err_name (faults.Fault kind place) before old now here t a so h (inl g) k = elim g [ ]
rows_err_name e before old now here t a so h (inr g) k = rows_err_token e before old now here so
    (λ j. stops_token e g.kind (Rows j now) t here a h (g.refused j) g.fault_is) k

pub passes_name : (k : ℕ) (names : List ℕ) (t : Token) (n : ℕ) (here a : Reading) → Takes here t a
    → IsNextName names (located t) n
    → Passes (Rows k names ∷ []) (row_symbols ++ Rows k (names ++ n ∷ []) ∷ []) [] (named n ∷ []) here a
passes_name k names t n here a h is = passes_token (Rows k names) (row_symbols ++ Rows k (names ++ n ∷ []) ∷ [])
    (named n) t here a h (meets_named (located t).lookahead n is.text is.is) (ap (table (Rows k names)) is.is
    ∙ name_next k names n is.text is.alone is.few)

pub rows_err_row : (e : TextFault) (before : List ℕ) (old : Reading) (now : List ℕ) (here : Reading) (t : Token)
    (n : ℕ) (a : Reading) → RowsSoFar before old now here → Takes here t a → IsNextName (now) (located t) n
    → StopsIn e row_symbols [] a → StopsInRows e (before) old
rows_err_row e before old now here t n a so h is g k = stops_behind e row_symbols (Rows k (now ++ n ∷ []) ∷ [])
    (passes_join (so.passes k) (passes_name k (now) t n here a h is)) g

pub fits_push : (before : List ℕ) (rs : List ExchangeRow) (r : ExchangeRow) → FitsRows the_rules before rs
    → has_name r.name (before ++ names_of rs) ≡ false → length (before ++ names_of rs) < the_rules.instances
    → FitsForm the_rules r.form → FitsRows the_rules before (rs ++ r ∷ [])
fits_push before [] r h g m f = (
  subst (λ l. has_name r.name l ≡ false) (append-nil before) g,
  subst (λ l. length l < the_rules.instances) (append-nil before) m,
  f,
  tt,
)
fits_push before (q ∷ rs) r h g m f =
    let e = sym (append_assoc before (q.name ∷ []) (names_of rs)) in (
      h.0,
      h.1,
      h.2,
      fits_push (before ++ q.name ∷ []) rs r h.3 (subst (λ l. has_name r.name l ≡ false) e g)
          (subst (λ l. length l < the_rules.instances) e m) f,
    )

pub items_push : (rs : List ExchangeRow) (r : ExchangeRow) → items_of_rows (rs ++ r ∷ []) ≡ items_of_rows rs ++ items_of_row r
items_push [] r = append-nil (items_of_row r)
items_push (q ∷ rs) r = ap (λ l. items_of_row q ++ l) (items_push rs r)
    ∙ sym (append_assoc (items_of_row q) (items_of_rows rs) (items_of_row r))

pub names_push : (rs : List ExchangeRow) (r : ExchangeRow) → names_of (rs ++ r ∷ []) ≡ names_of rs ++ r.name ∷ []
names_push [] r = refl
names_push (q ∷ rs) r = ap (λ l. q.name ∷ l) (names_push rs r)

unfoldable pub rows_next : (before : List ℕ) (old : Reading) (now : List ℕ) (here : Reading) (t : Token) (n : ℕ) (a : Reading)
    (f : Form) (b : Reading) → RowsSoFar before old now here → Takes here t a → IsNextName (now) (located t) n
    → Lined a f b → RowsSoFar before old (now ++ n ∷ []) b
rows_next before old now here t n a f b so h is g =
    let r : ExchangeRow = record { name = n; form = f } in
    let all = so.are in
    record {
      rows = so.rows ++ r ∷ [];
      are = ap (λ l. l ++ n ∷ []) so.are ∙ append_assoc before (names_of so.rows) (n ∷ [])
          ∙ ap (λ l. before ++ l) (sym (names_push so.rows r));
      fits = fits_push before so.rows r so.fits (subst (λ l. has_name n l ≡ false) all is.alone)
          (subst (λ l. length l < the_rules.instances) all is.few) g.0;
      passes = λ k. passes_as (items_of_rows (so.rows ++ r ∷ [])) (sym (items_push so.rows r))
          (passes_join (so.passes k) (passes_join (passes_name k now t n here a h is)
          (passes_more (Rows k (now ++ n ∷ []) ∷ []) g.1)));
    }

end_next : (k : ℕ) (names : List ℕ) (s : Lookahead) → is_word (codes "ENDSEC") s ≡ true → table (Rows k names) s ≡ Ok
    (Just Semicolon ∷ Sections k names ∷ [])
end_next k names (token (keyword text)) e = rw e refl
end_next k names _ e = absurd (false≢true e)

passes_end : (k : ℕ) (names : List ℕ) (t : Token) (here a : Reading) → Takes here t a
    → is_word (codes "ENDSEC") (located t).lookahead ≡ true
    → Passes (Rows k names ∷ []) (Just Semicolon ∷ Sections k names ∷ []) [] (says (codes "ENDSEC") ∷ []) here a
passes_end k names t here a h c = passes_token (Rows k names) (Just Semicolon ∷ Sections k names ∷ [])
    (says (codes "ENDSEC")) t here a h (word_met (codes "ENDSEC") (located t).lookahead c) (end_next k names
    (located t).lookahead c)

pub rows_err_end : (e : TextFault) (before : List ℕ) (old : Reading) (now : List ℕ) (here : Reading) (t : Token)
    (a : Reading) → RowsSoFar before old now here → Takes here t a
    → is_word (codes "ENDSEC") (located t).lookahead ≡ true → StopsIn e (Just Semicolon ∷ []) [] a
    → StopsInRows e (before) old
rows_err_end e before old now here t a so h c g k = stops_behind e (Just Semicolon ∷ []) (Sections k (now)
    ∷ []) (passes_join (so.passes k) (passes_end k (now) t here a h c)) g

pub rows_end : (before : List ℕ) (old : Reading) (now : List ℕ) (here : Reading) (t : Token) (a b : Reading)
    (so : RowsSoFar before old now here) → Takes here t a → is_word (codes "ENDSEC") (located t).lookahead ≡ true
    → Passes (Just Semicolon ∷ []) [] [] (this (mark Semicolon) ∷ []) a b → (k : ℕ) → Passes (Rows k before ∷ [])
    (Sections k now ∷ []) [] (items_of_rows so.rows ++ section (codes "ENDSEC")) old b
rows_end before old now here t a b so h c m k = passes_join (so.passes k) (passes_join (passes_end k now t here a h c)
    (passes_more (Sections k now ∷ []) m))

pub rows_smaller : (here : Reading) (t : Token) (a : Reading) (f : Form) (b : Reading) → Takes here t a → Lined a f b
    → length (left b) < length (left here)
rows_smaller here t a f b h g = omega (arith, takes_less here a t h, passes_within g.1)
