-- The data sections, and what is kept of them.
use Rattle.std.proofs.Common.{◌≡◌, ℕ, ◌<◌, ◌≤◌, List, [], ◌∷◌, ◌++◌, length, map, Option, refl, sym, ap, ◌∙◌, subst, append_assoc, append-nil, arith, codes}
use Rattle.std.proofs.lemmas.List.{length-map, map-append}
use Rattle.step_lexer.specs.declared.token.Mark.TheVariants.{Semicolon}
use Rattle.step_lexer.specs.declared.token.Token.{Token}
use Rattle.step_lexer.specs.Reading.{Takes, left}
use Rattle.step_structures.specs.declared.fault.TextFault.{TextFault}
use Rattle.step_structures.specs.declared.fault.TextFault.TheVariants as faults
use Rattle.step_structures.specs.Words.{ends, mark, token, located}
use Rattle.step_structures.specs.Trees.{Tree, ExchangeRow, this, finish, section, items_of_rows}
use Rattle.step_structures.specs.Fits.{the_rules, FitsRows}
use Rattle.step_structures.specs.steps.Predict.{Just, Sections, Rows, EndOfText, refused, data_symbols}
use Rattle.step_records.specs.steps.Readers.{Progress, reading}
use Rattle.step_records.specs.steps.Steps.{StopsIn, Passes}
use Rattle.step_records.specs.steps.Instances.{names_of, tree_of_row, TakesRows, StopsInRows}
use Rattle.step_exchange.specs.declared.section.Section as code
use Rattle.step_exchange.specs.Sections.{CountsTo, heading_of}
use Rattle.step_exchange.specs.steps.Steps.{BeginsSection}
use Rattle.step_exchange.specs.steps.Keeping.{KeepsData}
use Rattle.step_exchange.proofs.DataSteps.{SectionsSoFar, RowsRead, sections_start, sections_err_token, sections_err_none, sections_err_end, sections_err_begin, sections_err_rows, sections_done, sections_next, sections_smaller, rows_few}

-- the sections so far, with instances of these names
pub record DataSoFar (old : Progress) (ss : List code.Section) (names : List ℕ) (here : Progress) : Type 0 where
  pub rows : List ExchangeRow
  pub named : names ≡ names_of rows
  pub keeps : here.built ≡ record old.built { kept = old.built.kept ++ map tree_of_row rows }
  pub so : SectionsSoFar (reading old) ss rows (reading here)

pub data_start : (r : Progress) → DataSoFar r [] [] r
data_start r = record {
  rows = [];
  named = refl;
  keeps = ap {A = List Tree} (λ l. record r.built { kept = l }) (sym (append-nil r.built.kept));
  so = sections_start (reading r);
}

pub data_err_token : (e : TextFault) (old : Progress) (ss : List code.Section) (names : List ℕ) (here : Progress)
    → DataSoFar old ss names here → StopsIn e (Sections (length ss) names ∷ []) [] (reading here)
    → StopsIn e data_symbols [] (reading old)
data_err_token e old ss names here d g =
    let P : List ℕ → Type 0 = λ l. StopsIn e (Sections (length ss) l ∷ []) [] (reading here) in
    sections_err_token e (reading old) ss d.rows (reading here) d.so (subst P d.named g)

pub data_err_none : (e : TextFault) (old : Progress) (ss : List code.Section) (names : List ℕ) (here : Progress)
    (t : Token) (a : Progress) → DataSoFar old ss names here → Takes (reading here) t (reading a)
    → (located t).lookahead ≡ token ends → length ss ≡ 0 → e ≡ faults.Fault (refused (located t).lookahead) t.place
    → StopsIn e data_symbols [] (reading old)
data_err_none e old ss names here t a d h is none q =
    sections_err_none e (reading old) ss d.rows (reading here) t (reading a) d.so h is none q

pub data_err_end : (e : TextFault) (old : Progress) (ss : List code.Section) (names : List ℕ) (here : Progress)
    (t : Token) (a : Progress) → DataSoFar old ss names here → Takes (reading here) t (reading a)
    → (located t).lookahead ≡ token ends → (length ss ≡ 0 → ⊥)
    → StopsIn e (Just Semicolon ∷ EndOfText ∷ []) [] (reading a) → StopsIn e data_symbols [] (reading old)
data_err_end e old ss names here t a d h is some g =
    sections_err_end e (reading old) ss d.rows (reading here) t (reading a) d.so h is some g

pub data_done : (old : Progress) (ss : List code.Section) (names : List ℕ) (here : Progress) (t : Token)
    (a b : Progress) → DataSoFar old ss names here → Takes (reading here) t (reading a) → a.built ≡ here.built
    → (located t).lookahead ≡ token ends → (length ss ≡ 0 → ⊥) → b.built ≡ a.built
    → Passes (Just Semicolon ∷ EndOfText ∷ []) [] [] (this (mark Semicolon) ∷ finish ∷ []) (reading a) (reading b)
    → KeepsData ss names old b
data_done old ss names here t a b d h e is some f m =
    let done = sections_done (reading old) ss d.rows (reading here) t (reading a) (reading b) d.so h is some m in
    let many : length d.rows ≡ length names = sym (ap length d.named ∙ length-map d.rows (λ (r : ExchangeRow). r.name)) in
    record {
      rows = d.rows;
      named = d.named;
      keeps = f ∙ e ∙ d.keeps;
      takes = done.0;
      counts = subst (CountsTo 0 ss) many done.1;
    }

pub data_err_begin : (e : TextFault) (old : Progress) (ss : List code.Section) (names : List ℕ) (here : Progress)
    (t : Token) (a : Progress) → DataSoFar old ss names here → Takes (reading here) t (reading a)
    → StopsIn e (Sections (length ss) names ∷ []) (located t ∷ []) (reading a)
    → StopsIn e data_symbols [] (reading old)
data_err_begin e old ss names here t a d h g =
    let P : List ℕ → Type 0 = λ l. StopsIn e (Sections (length ss) l ∷ []) (located t ∷ []) (reading a) in
    sections_err_begin e (reading old) ss d.rows (reading here) t (reading a) d.so h (subst P d.named g)

begins_as : (t : Token) (n : ℕ) (names : List ℕ) (rows : List ExchangeRow) (heading : Option (List ℕ × List ℕ))
    (a b : Progress) → names ≡ names_of rows → BeginsSection (located t) n names heading (reading a) (reading b)
    → BeginsSection (located t) n (names_of rows) heading (reading a) (reading b)
begins_as t n names rows heading a b e g =
    let P : List ℕ → Type 0 = λ l. BeginsSection (located t) n l heading (reading a) (reading b) in subst P e g

pub data_err_rows : (e : TextFault) (old : Progress) (ss : List code.Section) (names : List ℕ) (here : Progress)
    (t : Token) (a b : Progress) (heading : Option (List ℕ × List ℕ)) → DataSoFar old ss names here
    → Takes (reading here) t (reading a)
    → BeginsSection (located t) (length ss) names heading (reading a) (reading b)
    → StopsInRows e names (reading b) → StopsIn e data_symbols [] (reading old)
data_err_rows e old ss names here t a b heading d h g stop =
    let P : List ℕ → Type 0 = λ l. StopsInRows e l (reading b) in
    sections_err_rows e (reading old) ss d.rows (reading here) t (reading a) (reading b) heading d.so h
    (begins_as t (length ss) names d.rows heading a b d.named g) (subst P d.named stop)

-- what the reader of instances read
rows_read : (names after : List ℕ) (rows : List ExchangeRow) (b c : Progress) → names ≡ names_of rows
    → (lines : TakesRows names after b c)
    → (after ≡ names_of (rows ++ lines.rows)) × RowsRead rows lines.rows (reading b) (reading c)
rows_read names after rows b c e lines =
    let all : after ≡ names_of (rows ++ lines.rows) = lines.are ∙ ap (λ l. l ++ names_of lines.rows) e
    ∙ sym (map-append (λ (r : ExchangeRow). r.name) rows lines.rows) in
    let P : List ℕ → Type 0 = λ l. FitsRows the_rules l lines.rows in
    let body = items_of_rows lines.rows ++ section (codes "ENDSEC") in
    let Q : ℕ → List ℕ → List ℕ → Type 0 = λ n l k. Passes (Rows n l ∷ []) (Sections n k ∷ []) [] body (reading b)
    (reading c) in (
      all,
      record {
        fits = subst P e lines.fits;
        passes = λ n. subst (λ k. Q n (names_of rows) k) all (subst (λ l. Q n l after) e (lines.passes n));
      },
    )

pub data_few : (old : Progress) (ss : List code.Section) (names after : List ℕ) (here b c : Progress)
    → DataSoFar old ss names here → TakesRows names after b c → length after ≤ the_rules.instances
data_few old ss names after here b c d lines =
    let read = rows_read names after d.rows b c d.named lines in
    omega (
      arith,
      rows_few (reading old) ss d.rows (reading here) lines.rows (reading b) (reading c) d.so read.1,
      ap length read.0,
      length-map (d.rows ++ lines.rows) (λ (r : ExchangeRow). r.name),
    )

pub data_next : (old : Progress) (ss : List code.Section) (names after : List ℕ) (here : Progress)
    (t : Token) (a b c : Progress) (s : code.Section) → DataSoFar old ss names here
    → Takes (reading here) t (reading a) → a.built ≡ here.built
    → BeginsSection (located t) (length ss) names (heading_of s.heading) (reading a) (reading b) → b.built ≡ a.built
    → TakesRows names after b c → s.past ≡ length after → DataSoFar old (ss ++ s ∷ []) after c
data_next old ss names after here t a b c s d h e g f lines past =
    let read = rows_read names after d.rows b c d.named lines in
    let k = old.built.kept in
    let size = ap length read.0 ∙ length-map (d.rows ++ lines.rows) (λ (r : ExchangeRow). r.name) in
    let from : b.built ≡ record old.built { kept = k ++ map tree_of_row d.rows } = f ∙ e ∙ d.keeps in
    let all : (k ++ map tree_of_row d.rows) ++ map tree_of_row lines.rows ≡ k ++ map tree_of_row (d.rows ++ lines.rows) =
    append_assoc k (map tree_of_row d.rows) (map tree_of_row lines.rows)
    ∙ ap (λ l. k ++ l) (sym (map-append tree_of_row d.rows lines.rows)) in
    record {
      rows = d.rows ++ lines.rows;
      named = read.0;
      keeps = lines.keeps ∙ (λ i. record (from i) { kept = (from i).kept ++ map tree_of_row lines.rows })
          ∙ (λ i. record old.built { kept = all i });
      so = sections_next (reading old) ss d.rows (reading here) t (reading a) (reading b) (reading c) s lines.rows d.so h
          (begins_as t (length ss) names d.rows (heading_of s.heading) a b d.named g) read.1 (past ∙ size);
    }

pub data_less : (n : ℕ) (names after : List ℕ) (here : Progress) (t : Token)
    (heading : Option (List ℕ × List ℕ)) (a b c : Progress) (rows : List ExchangeRow) → names ≡ names_of rows
    → Takes (reading here) t (reading a) → BeginsSection (located t) n names heading (reading a) (reading b)
    → TakesRows names after b c → length (left (reading c)) < length (left (reading here))
data_less n names after here t heading a b c rows e h g lines =
    let read = rows_read names after rows b c e lines in
    sections_smaller (reading here) t n names heading (reading a) (reading b) (reading c) rows lines.rows h g read.1
