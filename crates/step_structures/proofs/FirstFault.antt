-- A fault of the table is the first one by the definition; so is a third record that names no schema. A text has one
-- first fault at most.
use Rattle.std.proofs.Common.{◌≡◌, ℕ, List, [], ◌∷◌, ◌++◌, Result, Ok, Err, refl, sym, ap, ◌∙◌, subst, append_assoc, append-nil, arith}
use Rattle.parsing.specs.Tables.{lookaheads, stops, run}
use Rattle.parsing.specs.Languages as languages
use Rattle.parsing.proofs.Lists.{lookaheads_append, same_stop}
use Rattle.parsing.proofs.Leading.{Leads, leads_more, leads_once}
use Rattle.parsing.proofs.Running.{Wants, wants}
use Rattle.parsing.proofs.Faults as table_faults
use Rattle.parsing.proofs.Shown.{shows_join, shows_one}
use Rattle.parsing.proofs.Texts as texts
use Rattle.step_lexer.specs.declared.token.Mark.TheVariants.{Semicolon}
use Rattle.step_lexer.specs.Reading.{Reading, start}
use Rattle.step_structures.specs.declared.fault.FaultKind.{FaultKind}
use Rattle.step_structures.specs.declared.fault.FaultKind.TheVariants as kinds
use Rattle.step_structures.specs.Words.{mark, Lookahead, token, LocatedToken, Shows, ShowsAll}
use Rattle.step_structures.specs.Trees.{Record, this, MeetAll, items_of_record, items_of_records, items_of_start}
use Rattle.step_structures.specs.Fits.{the_rules, FitsRecords, IsHeader, NamesSchema}
use Rattle.step_structures.specs.Texts.{items_of_opening, HoldsSchema, IsViablePrefix, IsKind, IsPlace, own_place, place_of_schema, unheaded, IsFirstFault, FaultsOnce}
use Rattle.step_structures.specs.steps.Predict.{Symbol, Just, Records, next, opening_symbols, data_symbols, file_symbols, table, IsFile}
use Rattle.step_structures.proofs.Meeting.{located_join, meet_split, meets_is, one_more}
use Rattle.step_structures.proofs.Shown.{shown_once}
use Rattle.step_structures.proofs.Passing.{two_symbols, pass_here, pass_two, pass_opening, pass_opened}
use Rattle.step_structures.proofs.Looser.{looser_records, unheaded_looser}
use Rattle.step_structures.proofs.Wider.{looser_self}
use Rattle.step_structures.proofs.Forms.{Little}
use Rattle.step_structures.proofs.Complete.{exact}
use Rattle.step_structures.proofs.Schemas.{holds_front}
use Rattle.step_structures.proofs.Prefixes.{front_of, of_front, front_viable}
use Rattle.step_structures.proofs.FaultKinds.{reason, can, kind_of, kind_is, unnamed_kind}

-- what holds of the table
exact_table : languages.IsExact table (Little the_rules) file_symbols (IsFile the_rules)
exact_table = exact the_rules (omega arith) (omega arith)

held_before : (a b s : List LocatedToken) → s ≡ a ++ b → HoldsSchema the_rules (lookaheads s)
    → HoldsSchema the_rules (lookaheads a)
held_before a b s e h = holds_front the_rules (lookaheads a) (lookaheads b)
    (subst (HoldsSchema the_rules) (ap lookaheads e ∙ lookaheads_append a b) h)

-- the first fault, by the definition
pub first_fault : (text : List ℕ) (s : List LocatedToken) (new : Reading) (kind : FaultKind) (place : ℕ)
    → ShowsAll (start text) s new → run table file_symbols s ≡ stops kind place → HoldsSchema the_rules (lookaheads s)
    → IsFirstFault text kind place
first_fault text s new kind place shown e holds =
    let f = table_faults.first_fault table (Little the_rules) file_symbols (IsFile the_rules) exact_table s kind place e
    in
    let t = table_faults.spot_of table (Little the_rules) file_symbols (IsFile the_rules) exact_table s place f in
    let k = (same_stop (run table file_symbols s) t.2 kind place place t.5 e).0 in
    let cannot : table t.0 f.at.lookahead ≡ Err kind = t.4 ∙ ap (λ j. Err j) k in
    let a = texts.fault_shown Shows (IsFile the_rules) (start text) new s place shown f in
    let viable = front_of the_rules (lookaheads f.before) f.viable
    (held_before f.before (f.at ∷ f.after) s f.text holds)
    in
    record {
      before = f.before;
      at = f.at;
      here = a.0;
      next = a.1;
      read = a.2;
      shown = a.3;
      viable = viable;
      unended = λ x fits m. f.unended (x, fits, m);
      refused = λ v. f.refused (of_front the_rules (lookaheads (f.before ++ f.at ∷ [])) v);
      kind_is = kind_of f.before f.at t.0 t.1 t.3 viable kind cannot;
      place_is = own_place (λ g. (reason f.before f.at t.0 t.1 t.3 viable kinds.HeaderFault (cannot ∙ ap (λ j. Err j)
          g)).1) f.place_is;
    }

-- an opening's tokens are not those of one with its semicolon
opening_ends : (p q r : Record) (ws : List Lookahead) → FitsRecords the_rules (p ∷ q ∷ r ∷ []) → IsHeader (p ∷ q ∷ r
    ∷ []) → MeetAll ws (items_of_opening p q r) → HoldsSchema the_rules ws
opening_ends p q r ws f named h x y z first rest e g other k =
    let m = meet_split first (items_of_opening x y z) (this (mark Semicolon) ∷ []) k in
    let o = leads_once table opening_symbols ws m.0 [] (m.1 ++ rest) (pass_opening the_rules p q r f named ws h)
    (pass_opening the_rules x y z g other m.0 m.3)
    (append-nil ws ∙ e ∙ ap (λ l. l ++ rest) m.2 ∙ append_assoc m.0 m.1 rest) in
    absurd (nothing m.1 o.1 m.4)
  where
    nothing : (v : List Lookahead) → [] ≡ v ++ rest → MeetAll v (this (mark Semicolon) ∷ []) → ⊥
    nothing [] d met = met
    nothing (s ∷ v) d met = cc

-- a third record that names no schema is a fault at its semicolon, told at its keyword
pub schema_fault : (text : List ℕ) (p q r : Record) (earlier inner : List LocatedToken) (key at : LocatedToken)
    (here new : Reading) → FitsRecords the_rules (p ∷ q ∷ r ∷ []) → IsHeader (p ∷ q ∷ r ∷ [])
    → ShowsAll (start text) (earlier ++ key ∷ inner) here
    → MeetAll (lookaheads earlier) (items_of_start ++ items_of_records (p ∷ q ∷ []))
    → MeetAll (lookaheads (key ∷ inner)) (items_of_record r)
    → Shows here at new → at.lookahead ≡ token (mark Semicolon) → (NamesSchema r.values → ⊥)
    → IsFirstFault text kinds.HeaderFault key.place
schema_fault text p q r earlier inner key at here new fits header read h k shown semi unnamed =
    let before = earlier ++ key ∷ inner in
    let ws = lookaheads before in
    let through = lookaheads (before ++ at ∷ []) in
    let opening : MeetAll ws (items_of_opening p q r) = located_join earlier (key ∷ inner) (items_of_start
    ++ items_of_records (p ∷ q ∷ [])) (items_of_record r) h k in
    let whole : MeetAll through (items_of_opening p q r ++ this (mark Semicolon) ∷ []) = located_join before (at ∷ [])
    (items_of_opening p q r) (this (mark Semicolon) ∷ []) opening (meets_is (mark Semicolon) at.lookahead semi, tt) in
    let leads : Leads table file_symbols ws (Just Semicolon ∷ Records ∷ data_symbols) = leads_more table ws
    opening_symbols [] (Just Semicolon ∷ Records ∷ data_symbols) (pass_opening the_rules p q r fits header ws opening)
    in
    let loose : Leads (next unheaded) file_symbols through (Records ∷ data_symbols) = leads_more (next unheaded) through
    (opening_symbols ++ Just Semicolon ∷ []) [] (Records ∷ data_symbols) (pass_opened unheaded p q r
    (looser_records the_rules unheaded unheaded_looser (p ∷ q ∷ r ∷ []) fits) tt through whole) in
    record {
      before = before;
      at = at;
      here = here;
      next = new;
      read = read;
      shown = shown;
      viable = front_of the_rules ws (table_faults.front_from table (Little the_rules) file_symbols (IsFile the_rules)
          exact_table before (Just Semicolon ∷ Records ∷ data_symbols) leads) (opening_ends p q r ws fits header
          opening);
      unended = λ x f m. table_faults.not_whole table (Little the_rules) file_symbols (IsFile the_rules) exact_table
          before (Just Semicolon) (Records ∷ data_symbols) leads (x, f, m);
      refused = λ v. unnamed (v.schema p q r through [] (sym (append-nil through)) fits header whole);
      kind_is = front_of unheaded (ws ++ at.lookahead ∷ []) (subst (languages.IsViablePrefix (IsFile unheaded))
          (one_more before at) (table_faults.front_from (next unheaded) (Little unheaded) file_symbols
          (IsFile unheaded) (exact unheaded (omega arith) (omega arith)) (before ++ at ∷ []) (Records ∷ data_symbols)
          loose)) tt;
      place_is = place_of_schema refl semi earlier inner key p q refl (fits.0, (fits.1.0, tt)) h refl;
    }

-- two faults of a text stand at one token
pub shown_up_to : (text : List ℕ) (kind : FaultKind) (place : ℕ) (f : IsFirstFault text kind place)
    → ShowsAll (start text) (f.before ++ f.at ∷ []) f.next
shown_up_to text kind place f = shows_join Shows (start text) f.before f.here (f.at ∷ []) f.next f.read
    (shows_one Shows f.here f.at f.next f.shown)

same_token : (text : List ℕ) (k l : FaultKind) (p q : ℕ) (f : IsFirstFault text k p) (g : IsFirstFault text l q)
    → (f.before ≡ g.before) × (f.at ≡ g.at)
same_token text k l p q f g =
    texts.one_stop Shows shown_once (λ s. IsViablePrefix the_rules (lookaheads s))
    (λ a b v. front_viable (lookaheads a) (lookaheads b) (subst (IsViablePrefix the_rules) (lookaheads_append a b) v))
    (start text) f.next g.next f.before g.before f.at g.at (shown_up_to text k p f) (shown_up_to text l q g) f.viable
    f.refused g.viable g.refused

-- what is to come where a fault stands
to_come : (text : List ℕ) (kind : FaultKind) (place : ℕ) (f : IsFirstFault text kind place)
    → Wants table file_symbols f.before
to_come text kind place f = wants table f.before file_symbols
    ((table_faults.asks_for_more table (Little the_rules) file_symbols (IsFile the_rules) exact_table f.before).1
    (of_front the_rules (lookaheads f.before) f.viable, λ m. f.unended m.0 m.1 m.2))

-- a fault has one kind
one_kind : (text : List ℕ) (kind : FaultKind) (place : ℕ) (f : IsFirstFault text kind place) (other : FaultKind)
    → IsKind (lookaheads f.before) f.at.lookahead other → kind ≡ other
one_kind text kind place f other h = by (to_come text kind place f)
  where
    by : Wants table file_symbols f.before → kind ≡ other
    by w = cases (table w.0 f.at.lookahead) refl
      where
        cases : (r : Result (List Symbol) FaultKind) → table w.0 f.at.lookahead ≡ r → kind ≡ other
        cases (Err k) e = sym (kind_is f.before f.at w.0 w.1 w.2 f.viable k kind e f.kind_is)
            ∙ kind_is f.before f.at w.0 w.1 w.2 f.viable k other e h
        cases (Ok zs) e =
            let ws = lookaheads f.before ++ f.at.lookahead ∷ [] in
            let unnamed : HoldsSchema the_rules ws → ⊥ = λ holds. f.refused (subst (IsViablePrefix the_rules)
            (sym (one_more f.before f.at)) (front_of the_rules ws (can f.before f.at w.0 w.1 w.2 f.viable the_rules
            (looser_self the_rules) (zs, e)) holds)) in
            unnamed_kind f.before f.at w.0 w.1 w.2 f.viable zs e unnamed kind f.kind_is
            ∙ sym (unnamed_kind f.before f.at w.0 w.1 w.2 f.viable zs e unnamed other h)

-- the token behind as many others
same_next : (a b m n : List LocatedToken) (x y : LocatedToken) → lookaheads a ≡ lookaheads b → a ++ x ∷ m ≡ b ++ y ∷ n
    → x ≡ y
same_next [] [] m n x y h e = cc
same_next [] (t ∷ b) m n x y h e = absurd cc
same_next (t ∷ a) [] m n x y h e = absurd cc
same_next (t ∷ a) (u ∷ b) m n x y h e = same_next a b m n x y (let q : lookaheads a ≡ lookaheads b = cc in q)
    (let q : a ++ x ∷ m ≡ b ++ y ∷ n = cc in q)

-- the keyword behind the first two records
same_key : (a b m n : List LocatedToken) (key other : LocatedToken) (p q x y : Record)
    → FitsRecords the_rules (p ∷ q ∷ []) → FitsRecords the_rules (x ∷ y ∷ [])
    → MeetAll (lookaheads a) (items_of_start ++ items_of_records (p ∷ q ∷ []))
    → MeetAll (lookaheads b) (items_of_start ++ items_of_records (x ∷ y ∷ [])) → a ++ key ∷ m ≡ b ++ other ∷ n
    → key ≡ other
same_key a b m n key other p q x y f g h k e =
    let two = λ (p q : Record) (f : FitsRecords the_rules (p ∷ q ∷ [])). pass_two unheaded p q [] [] tt tt
    (looser_records the_rules unheaded unheaded_looser (p ∷ q ∷ []) f) (pass_here unheaded []) in
    let same = leads_once (next unheaded) two_symbols (lookaheads a) (lookaheads b) (lookaheads (key ∷ m))
    (lookaheads (other ∷ n)) (two p q f (lookaheads a) h) (two x y g (lookaheads b) k)
    (sym (lookaheads_append a (key ∷ m)) ∙ ap lookaheads e ∙ lookaheads_append b (other ∷ n)) in
    same_next a b m n key other same.0 e

-- a fault has one byte offset
one_place : (before : List LocatedToken) (at : LocatedToken) (kind : FaultKind) (p q : ℕ) → IsPlace before at kind p
    → IsPlace before at kind q → p ≡ q
one_place before at kind p q (own_place n e) (own_place m d) = e ∙ sym d
one_place before at kind p q (own_place n e) (place_of_schema k s a i key x y t f h d) = absurd (n k s)
one_place before at kind p q (place_of_schema k s a i key x y t f h d) (own_place n e) = absurd (n k s)
one_place before at kind p q (place_of_schema k s a i key x y t f h d) (place_of_schema l u b j other v w r g c e) =
    d ∙ ap (λ (z : LocatedToken). z.place) (same_key a b i j key other x y v w f g h c (sym t ∙ r)) ∙ sym e

-- a text has one first fault at most
pub one_fault : FaultsOnce
one_fault text kind other place elsewhere f g =
    let t = same_token text kind other place elsewhere f g in
    let K : List LocatedToken → LocatedToken → Type 0 = λ b a. IsKind (lookaheads b) a.lookahead other in
    let kind_is : K f.before f.at = subst (λ b. K b f.at) (sym t.0) (subst (K g.before) (sym t.1) g.kind_is) in
    let P : List LocatedToken → LocatedToken → Type 0 = λ b a. IsPlace b a other elsewhere in
    let place_is : P f.before f.at = subst (λ b. P b f.at) (sym t.0) (subst (P g.before) (sym t.1) g.place_is) in
    let kind = one_kind text kind place f other kind_is in
    let R : FaultKind → Type 0 = λ x. IsPlace f.before f.at x elsewhere in
    (kind, one_place f.before f.at _ place elsewhere f.place_is (subst R (sym kind) place_is))
