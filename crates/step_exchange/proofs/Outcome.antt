-- What was read, against the definitions.
use Rattle.std.proofs.Common.{◌≡◌, ℕ, ◌+◌, ◌-◌, ◌≤◌, List, [], ◌∷◌, ◌++◌, take, drop, refl, sym, ap, ◌∙◌, subst, append_assoc, arith, codes}
use Rattle.std.proofs.lemmas.List.{drop-take}
use Rattle.parsing.specs.Tables.{lookaheads, stops, run}
use Rattle.parsing.proofs.Lists.{cut_at, lookaheads_append, passes_or_stops}
use Rattle.parsing.proofs.Leading.{Leads}
use Rattle.parsing.proofs.Running.{reaches_run}
use Rattle.parsing.proofs.Shown.{shows_join}
use Rattle.step_lexer.specs.declared.token.Mark.TheVariants.{Semicolon}
use Rattle.step_lexer.specs.Reading.{Reading, start}
use Rattle.step_structures.specs.declared.fault.FaultKind.{FaultKind}
use Rattle.step_structures.specs.declared.fault.FaultKind.TheVariants as kinds
use Rattle.step_structures.specs.declared.fault.TextFault.{TextFault}
use Rattle.step_structures.specs.declared.fault.TextFault.TheVariants as faults
use Rattle.step_structures.specs.Words.{mark, keyword, Lookahead, LocatedToken, located, Shows, shows_token}
use Rattle.step_structures.specs.Trees.{Record, Section, File, Item, this, MeetAll, items_of_records, items_of_header, section}
use Rattle.step_structures.specs.Fits.{the_rules, FitsRecords, FitsHeader, IsHeader, HasSchema, NamesSchema}
use Rattle.step_structures.specs.Texts.{ReadsAs, items_of_opening, HoldsSchema, IsFirstFault, IsFaultOf, IsMemory}
use Rattle.step_structures.specs.steps.Predict.{Just, Records, opening_symbols, data_symbols, table}
use Rattle.step_records.specs.steps.Steps.{StopsIn}
use Rattle.step_exchange.specs.steps.Steps.{TakesHeader, TakesData, StopsInHeader, in_opening, unnamed, in_records}
use Rattle.step_structures.proofs.Meeting.{meet_as, meet_split, meets_is}
use Rattle.step_structures.proofs.Passing.{pass_opened, header_items}
use Rattle.step_structures.proofs.Schemas.{holds_named}
use Rattle.step_structures.proofs.Once.{reads_once, reads_no_fault}
use Rattle.step_records.proofs.Taking.{reads_of}
use Rattle.step_structures.proofs.FirstFault.{first_fault, schema_fault}
use Rattle.step_exchange.proofs.Places.{header_bounds}

-- tokens that stop in the opening hold no opening
opening_holds : (s : List LocatedToken) (kind : FaultKind) (place : ℕ)
    → run table (opening_symbols ++ Just Semicolon ∷ []) s ≡ stops kind place → HoldsSchema the_rules (lookaheads s)
opening_holds s kind place f p q r first rest e fits named met =
    let opened = opening_symbols ++ Just Semicolon ∷ [] in
    let c = cut_at s first rest e in
    let P : List Lookahead → Type 0 = λ l. Leads table opened l [] in
    let through = ap (run table opened) c.2 ∙ reaches_run table c.0 opened [] c.1 (subst P (sym c.3)
    (pass_opened the_rules p q r fits named first met)) in
    absurd (passes_or_stops (run table opened s) c.1 kind place through f)

-- tokens that begin with an opening whose third record names a schema hold it
opened_holds : (p q r : Record) (items : List Item) (s more : List LocatedToken) → FitsRecords the_rules (p ∷ q ∷ r ∷ [])
    → IsHeader (p ∷ q ∷ r ∷ []) → NamesSchema r.values → MeetAll (lookaheads s) (items_of_opening p q r ++ items)
    → HoldsSchema the_rules (lookaheads (s ++ more))
opened_holds p q r items s more fits named schema met =
    let m = meet_split (lookaheads s) (items_of_opening p q r) items met in
    holds_named p q r m.0 (m.1 ++ lookaheads more) (lookaheads (s ++ more)) fits named schema m.3
    (lookaheads_append s more ∙ ap (λ l. l ++ lookaheads more) m.2 ∙ append_assoc m.0 m.1 (lookaheads more))

header_holds : (header : List Record) (s more : List LocatedToken) → FitsHeader the_rules header → HasSchema header
    → MeetAll (lookaheads s) (items_of_header header) → HoldsSchema the_rules (lookaheads (s ++ more))
header_holds [] s more f schema h = absurd schema
header_holds (p ∷ []) s more f schema h = absurd schema
header_holds (p ∷ q ∷ []) s more f schema h = absurd schema
header_holds (p ∷ q ∷ r ∷ rest) s more f schema h =
    let tail = this (mark Semicolon) ∷ (items_of_records rest ++ section (codes "ENDSEC")) in
    opened_holds p q r tail s more (f.0.0, (f.0.1.0, (f.0.1.1.0, tt))) f.2 schema (meet_as (lookaheads s)
    (items_of_header (p ∷ q ∷ r ∷ rest)) (items_of_opening p q r ++ tail) (header_items p q r rest) h)

header_fault : (text : List ℕ) (kind : FaultKind) (place : ℕ) → StopsInHeader (faults.Fault kind place) (start text)
    → IsFirstFault text kind place
header_fault text kind place (in_opening g) = first_fault text g.0 g.1 kind place g.2 (g.3 (Records ∷ data_symbols))
    (opening_holds g.0 kind place (g.3 []))
header_fault text kind place (unnamed p q r at a mid new t fits first second reads head taken semi other e) =
    let k : kinds.HeaderFault ≡ kind = cc in
    let l : at ≡ place = cc in
    let P : FaultKind → Type 0 = λ v. IsFirstFault text v place in
    let Q : ℕ → Type 0 = λ v. IsFirstFault text kinds.HeaderFault v in
    subst P k (subst Q (sym head.place_is ∙ l) (schema_fault text p q r reads.0 head.passes.shown (located head.key)
    (located t) mid new (fits.0, (fits.1.0, (head.head.1, tt))) (first, second, head.head.0)
    (shows_join Shows (start text) reads.0 a (located head.key ∷ head.passes.shown) mid reads.1
    (head.inside, shows_token head.key head.taken refl, head.passes.shown_all))
    reads.2 (meets_is (keyword r.keyword) (located head.key).lookahead head.key_is, head.passes.words)
    (shows_token t taken refl) semi other))
header_fault text kind place (in_records p q r header more mid op opens g) =
    first_fault text (opens.shown ++ g.0) g.1 kind place
    (shows_join Shows (start text) opens.shown mid g.0 g.1 opens.shown_all g.2)
    (opens.turned (Records ∷ data_symbols) g.0 ∙ g.3 data_symbols)
    (opened_holds p q r (this (mark Semicolon) ∷ []) opens.shown g.0 op.fits op.named op.schema opens.words)

data_fault : (text : List ℕ) (kind : FaultKind) (place first : ℕ) (header : List Record) (mid : Reading)
    → TakesHeader (start text) first header mid → StopsIn (faults.Fault kind place) data_symbols [] mid
    → IsFirstFault text kind place
data_fault text kind place first header mid h g =
    first_fault text (h.passes.shown ++ g.0) g.1 kind place
    (shows_join Shows (start text) h.passes.shown mid g.0 g.1 h.passes.shown_all g.2)
    (h.passes.turned data_symbols g.0 ∙ g.3 [])
    (header_holds header h.passes.shown g.0 h.fits h.schema h.passes.words)

pub header_is_fault : (text : List ℕ) (e : TextFault) → StopsInHeader e (start text) → IsFaultOf text e
header_is_fault text faults.Memory h = tt
header_is_fault text (faults.Fault kind place) h = header_fault text kind place h

pub data_is_fault : (text : List ℕ) (e : TextFault) (first : ℕ) (header : List Record) (mid : Reading)
    → TakesHeader (start text) first header mid → StopsIn e data_symbols [] mid → IsFaultOf text e
data_is_fault text faults.Memory first header mid h g = tt
data_is_fault text (faults.Fault kind place) first header mid h g = data_fault text kind place first header mid h g

-- the bytes between two places
between : (text : List ℕ) (first end : ℕ) → first ≤ end → drop first (take end text) ≡ take (end - first)
    (drop first text)
between text first end h =
    let e : end ≡ first + (end - first) = omega (arith, h) in
    ap (λ n. drop first (take n text)) e ∙ drop-take first (end - first) text

pub is_read : (text header_bytes opened : List ℕ) (first place : ℕ) (header : List Record) (sections : List Section)
    (mid end : Reading) → TakesHeader (start text) first header mid → TakesData sections mid end
    → place ≡ mid.place → opened ≡ take place text → header_bytes ≡ drop first opened
    → ReadsAs text header_bytes (record { header = header; sections = sections })
is_read text header_bytes opened first place header sections mid end h d p o f = record {
  fits = (h.fits, d.fits);
  schema = h.schema;
  headed = mid;
  end = end;
  header = reads_of h.passes;
  sections = reads_of d.passes;
  first = first;
  begins = h.first;
  header_bytes_are = f ∙ ap (drop first) (o ∙ ap (λ n. take n text) p) ∙ between text first mid.place
      (header_bounds text first header mid h).0;
}

pub found_all : (text header_bytes : List ℕ) (x : File) → ReadsAs text header_bytes x → (other : List ℕ) (y : File)
    → ReadsAs text other y → (header_bytes ≡ other) × (x ≡ y)
found_all text header_bytes x h other y g = reads_once text header_bytes other x y h g

pub fault_all : (text : List ℕ) (e : TextFault) → IsFaultOf text e → (header_bytes : List ℕ) (x : File)
    → ReadsAs text header_bytes x → IsMemory e
fault_all text faults.Memory h header_bytes x g = tt
fault_all text (faults.Fault kind place) h header_bytes x g = absurd (reads_no_fault text header_bytes x kind place g h)
