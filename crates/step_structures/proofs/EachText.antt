-- Each text reads as a structure, or has a first fault.
use Rattle.std.proofs.Common.{◌≡◌, ℕ, ◌-◌, ◌≤◌, Bool, true, false, if◌then◌else◌, nat_eq, List, [], ◌∷◌, ◌++◌, length, take, drop, refl, sym, ap, ◌∙◌, subst, arith, length-drop, append_assoc, Option, Some, None, Result, Ok, Err, ◌⊎◌, inl, inr}
use Rattle.std.specs.List.{starts_with}
use Rattle.parsing.specs.Tables.{lookaheads, stops, run}
use Rattle.parsing.specs.Languages as languages
use Rattle.parsing.proofs.Leading.{Leads, leads_split}
use Rattle.parsing.proofs.Lists.{lookaheads_append, cut_at}
use Rattle.parsing.proofs.Shown.{shows_split}
use Rattle.parsing.proofs.Ending.{ShowsOne, shown_to_last, BeginsWhole, whole_or_stops}
use Rattle.step_literals.specs.declared.fault.TextFault.{TextFault}
use Rattle.step_literals.proofs.CleanLemmas.{begins_split}
use Rattle.step_lexer.specs.declared.token.Mark.TheVariants.{Semicolon}
use Rattle.step_lexer.specs.declared.token.Token.{Token}
use Rattle.step_lexer.specs.Reading.{Reading, Reaches, Takes, Answers, start}
use Rattle.step_lexer.proofs.Determined.{places_rise}
use Rattle.step_lexer.proofs.Answered.{answered}
use Rattle.step_structures.specs.declared.fault.FaultKind.{FaultKind}
use Rattle.step_structures.specs.declared.fault.FaultKind.TheVariants as kinds
use Rattle.step_structures.specs.Words.{ends, mark, Lookahead, token, flawed, end_of_text, LocatedToken, located, located_fault, located_end, Shows, shows_token, shows_fault, shows_end, ShowsAll}
use Rattle.step_structures.specs.Trees.{File, this, finish, MeetAll, items_of_start, items_of_record, items_of_records, items_of_header, items_of_sections, items_of_end, items_of_file}
use Rattle.step_structures.specs.Fits.{the_rules, FitsFile}
use Rattle.step_structures.specs.Texts.{ReadsAs, items_of_opening, HoldsSchema, IsFirstFault, ReadsOrFails}
use Rattle.step_structures.specs.steps.Predict.{Symbol, file_symbols, table, IsFile}
use Rattle.step_structures.proofs.Meeting.{meet_as, meet_split, meets_this, meets_finish, one_more}
use Rattle.step_structures.proofs.Passing.{pass_file}
use Rattle.step_structures.proofs.Forms.{Little}
use Rattle.step_structures.proofs.Complete.{exact}
use Rattle.step_structures.proofs.Schemas.{Unnamed, held_or_not, schema_held, holds_front}
use Rattle.step_structures.proofs.Sections.{ended_file, over_only, last_met}
use Rattle.step_structures.proofs.FaultKinds.{odd_refused}
use Rattle.step_structures.proofs.FirstFault.{first_fault, schema_fault}

-- the text ends here, or no token stands here
abbrev IsLast : Lookahead → Type 0
IsLast (token w) = ⊥
IsLast _ = Unit {0}

abbrev IsWithin : Reading → Type 0
IsWithin r = r.place ≤ length r.text

-- how many bytes are still to be read
abbrev left_of : Reading → ℕ
left_of r = length r.text - r.place

token_within : (old new : Reading) (t : Token) → Takes old t new → IsWithin new
token_within old new t h = omega (
  arith,
  h.new_place,
  ap length h.new_text,
  h.reaches.within,
  h.front.within,
  length-drop t.place old.text,
)

shown_answer : (old : Reading) → IsWithin old → (r : Result (Option Token) TextFault) (new : Reading)
    → Answers old r new → ShowsOne Shows IsLast IsWithin left_of old
shown_answer old within (Ok None) new h = (located_end old, new, shows_end h refl, inl tt)
shown_answer old within (Err f) new h = (located_fault f, new, shows_fault f h refl, inl tt)
shown_answer old within (Ok (Some t)) new h =
    let inside = token_within old new t h in
    let rise = places_rise old new t within h in
    (located t, new, shows_token t h refl, inr (inside, omega (arith, inside, ap length h.new_text, rise)))

-- a lexer shows something wherever a text is read up to
shown_next : (old : Reading) → IsWithin old → ShowsOne Shows IsLast IsWithin left_of old
shown_next old within = let a = answered old within in shown_answer old within a.0 a.1 a.2

-- a byte order mark is skipped only where one stands
mark_within : (text : List ℕ) (b : Bool) → starts_with nat_eq text (239 ∷ 187 ∷ 191 ∷ []) ≡ b
    → (if b then 3 else 0) ≤ length text
mark_within text true h = omega (arith, ap length (begins_split (239 ∷ 187 ∷ 191 ∷ []) text h))
mark_within text false h = omega arith

-- what a front's next lookahead turns
next_of_front : (ws : List Lookahead) (s : Lookahead) → languages.IsViablePrefix (IsFile the_rules) (ws ++ s ∷ [])
    → (y : Symbol) × (ys zs : List Symbol) × Leads table file_symbols ws (y ∷ ys) × (table y s ≡ Ok zs)
next_of_front ws s f =
    let whole = pass_file the_rules ((ws ++ s ∷ []) ++ f.0) f.1 in
    let P : List Lookahead → Type 0 = λ l. Leads table file_symbols l [] in
    let l = leads_split table ws (s ∷ f.0) file_symbols [] (subst P (append_assoc ws (s ∷ []) f.0) whole) in
    by l.0 l.1 l.2
  where
    by : (ys : List Symbol) → Leads table file_symbols ws ys → Leads table ys (s ∷ f.0) []
        → (y : Symbol) × (ys zs : List Symbol) × Leads table file_symbols ws (y ∷ ys) × (table y s ≡ Ok zs)
    by [] h k = absurd k
    by (y ∷ ys) h k = (y, ys, k.0, h, k.1)

-- up to the last lookahead a front is a whole structure
whole_to : (ws : List Lookahead) (s : Lookahead) → IsLast s → languages.IsViablePrefix (IsFile the_rules)
    (ws ++ s ∷ []) → IsFile the_rules (ws ++ s ∷ [])
whole_to ws (token w) l f = absurd l
whole_to ws (flawed g) l f =
    let n = next_of_front ws (flawed g) f in
    let q : (let r : Result (List Symbol) FaultKind = Ok n.2 in r) ≡ Err (kinds.Token g) = sym n.4
    ∙ odd_refused n.0 (flawed g) tt in
    absurd cc
whole_to ws end_of_text l f =
    let n = next_of_front ws end_of_text f in
    let e = ended_file ws n.0 n.1 n.3 (over_only n.0 n.2 n.4) in
    let opened = items_of_header e.1.header ++ items_of_sections e.1.sections in
    let closed = opened ++ this ends ∷ this (mark Semicolon) ∷ [] in
    let over : e.0 ≡ end_of_text = meets_finish e.0 (last_met ws e.0 closed finish (meet_as (ws ++ e.0 ∷ [])
    (items_of_file e.1) (closed ++ finish ∷ []) (sym (append_assoc opened (this ends ∷ this (mark Semicolon) ∷ [])
    (finish ∷ []))) e.3)).1 in
    (e.1, e.2, subst (λ s. MeetAll (ws ++ s ∷ []) (items_of_file e.1)) over e.3)

whole_at_last : (before : List LocatedToken) (last : LocatedToken) → IsLast last.lookahead → languages.IsViablePrefix
    (IsFile the_rules) (lookaheads (before ++ last ∷ [])) → IsFile the_rules (lookaheads (before ++ last ∷ []))
whole_at_last before last l =
    let P : List Lookahead → Type 0 = λ ws. (languages.IsViablePrefix (IsFile the_rules) ws → IsFile the_rules ws) in
    subst P (sym (one_more before last)) (whole_to (lookaheads before) last.lookahead l)

abbrev IsRead : List ℕ → Type 0
IsRead text = (header_bytes : List ℕ) × (x : File) × ReadsAs text header_bytes x

abbrev Fails : List ℕ → Type 0
Fails text = (kind : FaultKind) × (place : ℕ) × IsFirstFault text kind place

-- where what is shown begins
shown_at : (old new : Reading) (s : LocatedToken) → Shows old s new → (place : ℕ) × Reaches old place
shown_at old new s (shows_token t h e) = (t.place, h.reaches)
shown_at old new s (shows_fault f h e) = (h.place, h.reaches)
shown_at old new s (shows_end h e) = (length old.text, h.reaches)

-- tokens of a whole structure
whole_reads : (text : List ℕ) (x : File) (s : List LocatedToken) (new : Reading) → ShowsAll (start text) s new
    → FitsFile the_rules x → MeetAll (lookaheads s) (items_of_file x) → HoldsSchema the_rules (lookaheads s)
    → IsRead text
whole_reads text x s new shown f met holds =
    let rest = items_of_sections x.sections ++ items_of_end in
    let m = meet_split (lookaheads s) (items_of_header x.header) rest (meet_as (lookaheads s) (items_of_file x)
    (items_of_header x.header ++ rest)
    (append_assoc (items_of_header x.header) (items_of_sections x.sections) items_of_end)
    met) in
    let c = cut_at s m.0 m.1 m.2 in
    let P : List LocatedToken → Type 0 = λ l. ShowsAll (start text) l new in
    let a = shows_split Shows (start text) c.0 c.1 new (subst P c.2 shown) in
    let header : MeetAll (lookaheads c.0) (items_of_header x.header) = subst (λ l. MeetAll l (items_of_header x.header))
    (sym c.3) m.3 in
    let first = begun c.0 a.0 header a.1 in
    let header_bytes = take (a.0.place - first.0) (drop first.0 text) in (
      header_bytes,
      x,
      record {
        fits = f;
        schema = schema_held x (lookaheads s) f holds met;
        headed = a.0;
        end = new;
        header = (c.0, a.1, header);
        sections = (c.1, a.2, subst (λ l. MeetAll l rest) (sym c.4) m.4);
        first = first.0;
        begins = first.1;
        header_bytes_are = refl {a = header_bytes};
      },
    )
  where
    begun : (s : List LocatedToken) (new : Reading) → MeetAll (lookaheads s) (items_of_header x.header)
        → ShowsAll (start text) s new → (place : ℕ) × Reaches (start text) place
    begun [] new h shown = absurd h
    begun (t ∷ s) new h shown = shown_at (start text) shown.0 t shown.1

-- a list of which the first is cut twice
cut_twice : (ws first rest m n o p : List Lookahead) → ws ≡ first ++ rest → first ≡ m ++ n → m ≡ o ++ p
    → ws ≡ o ++ (p ++ (n ++ rest))
cut_twice ws first rest m n o p e f g = e ∙ ap (λ l. l ++ rest) (f ∙ ap (λ l. l ++ n) g) ∙ append_assoc (o ++ p) n rest
    ∙ append_assoc o p (n ++ rest)

cut_three : (s : List LocatedToken) (u v w : List Lookahead) → lookaheads s ≡ u ++ (v ++ w)
    → (a b c : List LocatedToken) × (s ≡ a ++ (b ++ c)) × (lookaheads a ≡ u) × (lookaheads b ≡ v) × (lookaheads c ≡ w)
cut_three s u v w e =
    let x = cut_at s u (v ++ w) e in
    let y = cut_at x.1 v w x.4 in
    (x.0, y.0, y.1, x.2 ∙ ap (λ l. x.0 ++ l) y.2, x.3, y.3, y.4)

-- a third record that names no schema
unnamed_fails : (text : List ℕ) (s : List LocatedToken) (new : Reading) → ShowsAll (start text) s new
    → Unnamed (lookaheads s) → Fails text
unnamed_fails text s new shown u =
    let two = items_of_start ++ items_of_records (u.p ∷ u.q ∷ []) in
    let m = meet_split u.first (items_of_opening u.p u.q u.r) (this (mark Semicolon) ∷ []) u.met in
    let o = meet_split m.0 two (items_of_record u.r) m.3 in
    let c = cut_three s o.0 o.1 (m.1 ++ u.rest) (cut_twice (lookaheads s) u.first u.rest m.0 m.1 o.0 o.1 u.text m.2
    o.2) in
    let P : List LocatedToken → Type 0 = λ l. ShowsAll (start text) l new in
    by c.0 c.1 c.2 m.1 (subst P c.3 shown) (subst (λ l. MeetAll l two) (sym c.4) o.3)
    (subst (λ l. MeetAll l (items_of_record u.r)) (sym c.5) o.4) c.6 m.4
  where
    by : (earlier third behind : List LocatedToken) (semi : List Lookahead)
        → ShowsAll (start text) (earlier ++ (third ++ behind)) new
        → MeetAll (lookaheads earlier) (items_of_start ++ items_of_records (u.p ∷ u.q ∷ []))
        → MeetAll (lookaheads third) (items_of_record u.r) → lookaheads behind ≡ semi ++ u.rest
        → MeetAll semi (this (mark Semicolon) ∷ []) → Fails text
    by earlier [] behind semi h a b e c = absurd b
    by earlier (key ∷ inner) behind [] h a b e c = absurd c
    by earlier (key ∷ inner) [] (w ∷ semi) h a b e c = (let q : [] ≡ w ∷ (semi ++ u.rest) = e in absurd cc)
    by earlier (key ∷ inner) (at ∷ after) (w ∷ semi) h a b e c =
        let P : List LocatedToken → Type 0 = λ l. ShowsAll (start text) l new in
        let i = shows_split Shows (start text) (earlier ++ key ∷ inner) (at ∷ after) new
        (subst P (sym (append_assoc earlier (key ∷ inner) (at ∷ after))) h) in
        let same : at.lookahead ≡ w = cc in (
          kinds.HeaderFault,
          key.place,
          schema_fault text u.p u.q u.r earlier inner key at i.0 i.2.0 u.fits u.named i.1 a b i.2.1
              (same ∙ meets_this w (mark Semicolon) c.0) u.unnamed,
        )

decided : (text : List ℕ) (s : List LocatedToken) (new : Reading) → ShowsAll (start text) s new
    → BeginsWhole (IsFile the_rules) s ⊎ ((kind : FaultKind) × (place : ℕ) × (run table file_symbols s ≡ stops kind
    place)) → HoldsSchema the_rules (lookaheads s) ⊎ Unnamed (lookaheads s) → IsRead text ⊎ Fails text
decided text s new h f (inr u) = inr (unnamed_fails text s new h u)
decided text s new h (inr f) (inl holds) = inr (f.0, f.1, first_fault text s new f.0 f.1 h f.2 holds)
decided text s new h (inl w) (inl holds) =
    let P : List LocatedToken → Type 0 = λ l. ShowsAll (start text) l new in
    let a = shows_split Shows (start text) w.0 w.1 new (subst P w.2 h) in
    let whole : IsFile the_rules (lookaheads w.0) = w.3 in
    inl (whole_reads text whole.0 w.0 a.0 a.1 whole.1 whole.2 (holds_front the_rules (lookaheads w.0) (lookaheads w.1)
    (subst (HoldsSchema the_rules) (ap lookaheads w.2 ∙ lookaheads_append w.0 w.1) holds)))

pub reads_or_fails : ReadsOrFails
reads_or_fails text =
    let g = shown_to_last Shows IsLast IsWithin left_of shown_next (start text) (mark_within text _ refl) in
    let s = g.0 ++ g.1 ∷ [] in
    decided text s g.2 g.3 (whole_or_stops table (Little the_rules) file_symbols (IsFile the_rules)
    (exact the_rules (omega arith) (omega arith)) s (whole_at_last g.0 g.1 g.4)) (held_or_not (lookaheads s))
