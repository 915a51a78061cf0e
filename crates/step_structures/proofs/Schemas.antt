-- What the rule on FILE_SCHEMA asks of tokens.
use Rattle.std.proofs.Common.{◌≡◌, Bool, true, false, List, [], ◌∷◌, ◌++◌, sym, ap, ◌∙◌, subst, append_assoc, arith, codes, ◌⊎◌, inl, inr}
use Rattle.parsing.specs.Tables.{LocatedToken, lookaheads, passes, run}
use Rattle.parsing.proofs.Lists.{lookaheads_append, placed, lookaheads_placed, cut_at, passes_or_stops, passes_or_short}
use Rattle.parsing.proofs.Leading.{Leads, leads_once}
use Rattle.parsing.proofs.Running.{reaches_run, Passed, passed, Ends, ends}
use Rattle.step_lexer.specs.declared.token.Mark.TheVariants.{Semicolon}
use Rattle.step_structures.specs.Words.{string, mark, Lookahead, token}
use Rattle.step_structures.specs.Trees.{leaf, group, Trees, none, one, Record, File, Item, this, Meets, MeetAll, items_of_record, items_of_records, items_of_header, items_of_sections, items_of_end, items_of_file, section}
use Rattle.step_structures.specs.Fits.{StructureRules, the_rules, FitsRecords, FitsHeader, FitsFile, IsHeader, HasSchema, NamesSchema, Where}
use Rattle.step_structures.specs.Texts.{items_of_opening, HoldsSchema}
use Rattle.step_structures.specs.steps.Predict.{Just, next, opening_symbols, table}
use Rattle.step_structures.proofs.Meeting.{meet_as, meet_join, meet_split, met_last, meets_this}
use Rattle.step_structures.proofs.Passing.{pass_opening, pass_opened, header_items, regroup_two}
use Rattle.step_structures.proofs.Sound.{langs_split, single, sound, opening_of}
use Rattle.step_structures.proofs.Unique.{same_two, same_third}
use Rattle.step_structures.proofs.Looser.{IsLooser, looser_records, looser_header}

-- what holds of tokens holds of those that come first
pub holds_front : (rules : StructureRules) (a b : List Lookahead) → HoldsSchema rules (a ++ b) → HoldsSchema rules a
holds_front rules a b h p q r first rest e fits named met = h p q r first (rest ++ b)
    (ap (λ l. l ++ b) e ∙ append_assoc first rest b) fits named met

-- what holds of tokens under looser rules holds under stricter ones
pub holds_stricter : (a b : StructureRules) → IsLooser a b → (s : List Lookahead) → HoldsSchema b s → HoldsSchema a s
holds_stricter a b l s h p q r first rest e fits named met = h p q r first rest e (looser_records a b l (p ∷ q ∷ r ∷ [])
    fits) named met

-- tokens are those of one opening
three_same : (p q r x y z : Record) (rules : StructureRules) (ws : List Lookahead) → FitsRecords rules (p ∷ q ∷ r ∷ [])
    → FitsRecords rules (x ∷ y ∷ z ∷ []) → MeetAll ws (items_of_opening p q r) → MeetAll ws (items_of_opening x y z)
    → (p ≡ x) × (q ≡ y) × (r ≡ z)
three_same p q r x y z rules [] f g h k = absurd h
three_same p q r x y z rules (a ∷ []) f g h k = absurd h.1
three_same p q r x y z rules (a ∷ b ∷ []) f g h k = absurd h.1.1
three_same p q r x y z rules (a ∷ b ∷ c ∷ []) f g h k = absurd h.1.1.1
three_same p q r x y z rules (a ∷ b ∷ c ∷ d ∷ ws) f g h k =
    let semi = this (mark Semicolon) in
    let t = same_two p q x y rules (items_of_record r) (items_of_record z) ws (f.0, (f.1.0, tt)) (g.0, (g.1.0, tt))
    (meet_as ws (items_of_record p ++ semi ∷ (items_of_record q ++ semi ∷ []) ++ items_of_record r) (items_of_record p
    ++ semi ∷ (items_of_record q ++ semi ∷ items_of_record r)) (regroup_two (items_of_record p) semi (items_of_record q)
    (items_of_record r)) h.1.1.1.1)
    (meet_as ws (items_of_record x ++ semi ∷ (items_of_record y ++ semi ∷ []) ++ items_of_record z) (items_of_record x
    ++ semi ∷ (items_of_record y ++ semi ∷ items_of_record z)) (regroup_two (items_of_record x) semi (items_of_record y)
    (items_of_record z)) k.1.1.1.1) in
    (t.0, t.1, same_third r z rules t.2 f.1.1.0 g.1.1.0 t.3 t.4)

pub one_opening : (rules : StructureRules) (p q r x y z : Record) (u v a b : List Lookahead)
    → FitsRecords rules (p ∷ q ∷ r ∷ []) → Where rules.headed (IsHeader (p ∷ q ∷ r ∷ []))
    → FitsRecords rules (x ∷ y ∷ z ∷ []) → Where rules.headed (IsHeader (x ∷ y ∷ z ∷ []))
    → MeetAll u (items_of_opening p q r) → MeetAll v (items_of_opening x y z) → u ++ a ≡ v ++ b
    → (p ≡ x) × (q ≡ y) × (r ≡ z)
one_opening rules p q r x y z u v a b f d g c h k e =
    let o = leads_once (next rules) opening_symbols u v a b (pass_opening rules p q r f d u h)
    (pass_opening rules x y z g c v k) e in
    three_same p q r x y z rules u f g h (subst (λ l. MeetAll l (items_of_opening x y z)) (sym o.0) k)

-- tokens that begin with an opening whose third record names a schema hold it
pub holds_named : (p q r : Record) (u v ws : List Lookahead) → FitsRecords the_rules (p ∷ q ∷ r ∷ [])
    → IsHeader (p ∷ q ∷ r ∷ []) → NamesSchema r.values → MeetAll u (items_of_opening p q r) → ws ≡ u ++ v
    → HoldsSchema the_rules ws
holds_named p q r u v ws f named schema h e x y z first rest d g other k =
    let m = meet_split first (items_of_opening x y z) (this (mark Semicolon) ∷ []) k in
    let same = one_opening the_rules p q r x y z u m.0 v (m.1 ++ rest) f named g other h m.3
    (sym e ∙ d ∙ ap (λ l. l ++ rest) m.2 ∙ append_assoc m.0 m.1 rest) in
    let P : Record → Type 0 = λ t. NamesSchema t.values in
    subst P same.2 schema

-- a header begins with its opening
regroup_file : (o t d e : List Item) → (o ++ t) ++ d ++ e ≡ o ++ (t ++ d ++ e)
regroup_file o t d e = ap (λ l. l ++ e) (append_assoc o t d) ∙ append_assoc o (t ++ d) e

pub opening_in : (p q r : Record) (more : List Record) (d e : List Item) (ws : List Lookahead)
    → MeetAll ws (items_of_header (p ∷ q ∷ r ∷ more) ++ d ++ e) → (u v : List Lookahead) × (ws ≡ u ++ v)
    × MeetAll u (items_of_opening p q r)
opening_in p q r more d e ws h =
    let tail = this (mark Semicolon) ∷ (items_of_records more ++ section (codes "ENDSEC")) in
    let m = meet_split ws (items_of_opening p q r) (tail ++ d ++ e) (meet_as ws (items_of_header (p ∷ q ∷ r ∷ more)
    ++ d ++ e) (items_of_opening p q r ++ (tail ++ d ++ e)) (ap (λ l. l ++ d ++ e) (header_items p q r more)
    ∙ regroup_file (items_of_opening p q r) tail d e) h) in
    (m.0, m.1, m.2, m.3)

-- the tokens of a structure whose FILE_SCHEMA names a schema hold it
pub holds_whole : (x : File) (ws : List Lookahead) → FitsFile the_rules x → HasSchema x.header
    → MeetAll ws (items_of_file x) → HoldsSchema the_rules ws
holds_whole x ws f schema h = by x.header f.0 schema h
  where
    by : (header : List Record) → FitsHeader the_rules header → HasSchema header
        → MeetAll ws (items_of_header header ++ items_of_sections x.sections ++ items_of_end) → HoldsSchema the_rules ws
    by [] g s k = absurd s
    by (p ∷ []) g s k = absurd s
    by (p ∷ q ∷ []) g s k = absurd s
    by (p ∷ q ∷ r ∷ more) g s k =
        let o = opening_in p q r more (items_of_sections x.sections) items_of_end ws k in
        holds_named p q r o.0 o.1 ws (g.0.0, (g.0.1.0, (g.0.1.1.0, tt))) g.2 s o.3 o.2

-- if the tokens of a structure hold it, FILE_SCHEMA names a schema
pub schema_held : (x : File) (ws : List Lookahead) → FitsFile the_rules x → HoldsSchema the_rules ws
    → MeetAll ws (items_of_file x) → HasSchema x.header
schema_held x ws f holds h = by x.header f.0 h
  where
    by : (header : List Record) → FitsHeader the_rules header
        → MeetAll ws (items_of_header header ++ items_of_sections x.sections ++ items_of_end) → HasSchema header
    by [] g k = absurd g.1
    by (p ∷ []) g k = absurd g.1
    by (p ∷ q ∷ []) g k = absurd g.1
    by (p ∷ q ∷ r ∷ more) g k =
        let semi = this (mark Semicolon) ∷ [] in
        let d = items_of_sections x.sections in
        let last = items_of_records more ++ section (codes "ENDSEC") in
        let opened = items_of_opening p q r ++ semi in
        let e : items_of_header (p ∷ q ∷ r ∷ more) ++ d ++ items_of_end ≡ opened ++ (last ++ d ++ items_of_end) =
        ap (λ l. l ++ d ++ items_of_end) (header_items p q r more ∙ sym (append_assoc (items_of_opening p q r) semi
        last)) ∙ regroup_file opened last d items_of_end in
        let m = meet_split ws opened (last ++ d ++ items_of_end) (meet_as ws (items_of_header (p ∷ q ∷ r ∷ more) ++ d
        ++ items_of_end) (opened ++ (last ++ d ++ items_of_end)) e k) in
        holds p q r m.0 m.1 m.2 (g.0.0, (g.0.1.0, (g.0.1.1.0, tt))) g.2 m.3

-- The first three records of a structure fit its rules, also where looser ones were asked for.
fits_in : (rules w : StructureRules) → IsLooser rules w → (x : File) (ws u v : List Lookahead) (p q r : Record)
    → FitsFile rules x → MeetAll ws (items_of_file x) → FitsRecords w (p ∷ q ∷ r ∷ []) → IsHeader (p ∷ q ∷ r ∷ [])
    → ws ≡ u ++ v → MeetAll u (items_of_opening p q r) → FitsRecords rules (p ∷ q ∷ r ∷ [])
fits_in rules w i x ws u v p q r f h fits named e met = by x.header f.0 h
  where
    by : (header : List Record) → FitsHeader rules header
        → MeetAll ws (items_of_header header ++ items_of_sections x.sections ++ items_of_end)
        → FitsRecords rules (p ∷ q ∷ r ∷ [])
    by [] g k = absurd g.1
    by (a ∷ []) g k = absurd g.1
    by (a ∷ b ∷ []) g k = absurd g.1
    by (a ∷ b ∷ c ∷ more) g k =
        let o = opening_in a b c more (items_of_sections x.sections) items_of_end ws k in
        let loose = looser_header rules w i (a ∷ b ∷ c ∷ more) g in
        let same = one_opening w a b c p q r o.0 u o.1 v (loose.0.0, (loose.0.1.0, (loose.0.1.1.0, tt))) loose.2 fits
        (always w.headed named) o.3 met (sym o.2 ∙ e) in
        let P : Record → Record → Record → Type 0 = λ x y z. FitsRecords rules (x ∷ y ∷ z ∷ []) in
        subst (λ x. P x q r) same.0 (subst (λ y. P a y r) same.1 (subst (λ z. P a b z) same.2
        (g.0.0, (g.0.1.0, (g.0.1.1.0, tt)))))
      where
        always : (d : Bool) → IsHeader (p ∷ q ∷ r ∷ []) → Where d (IsHeader (p ∷ q ∷ r ∷ []))
        always true n = n
        always false n = tt

-- no token but a semicolon completes a third record
pub holds_behind : (rules w : StructureRules) → IsLooser rules w → (x : File) (before rest : List Lookahead) (s : Lookahead)
    → FitsFile rules x → MeetAll (before ++ rest) (items_of_file x) → HoldsSchema rules before
    → (s ≡ token (mark Semicolon) → ⊥) → HoldsSchema w (before ++ s ∷ [])
holds_behind rules w i x before rest s f h holds other p q r first more e fits named met =
    by (met_last before s first more (items_of_opening p q r) (this (mark Semicolon)) e met)
  where
    by : Meets s (this (mark Semicolon)) ⊎ ((m : List Lookahead) × (before ≡ first ++ m)) → NamesSchema r.values
    by (inl k) = absurd (other (meets_this s (mark Semicolon) k))
    by (inr k) =
        let m = meet_split first (items_of_opening p q r) (this (mark Semicolon) ∷ []) met in
        let d : before ++ rest ≡ m.0 ++ (m.1 ++ (k.0 ++ rest)) = ap (λ l. l ++ rest) (k.1 ∙ ap (λ l. l ++ k.0) m.2
        ∙ append_assoc m.0 m.1 k.0) ∙ append_assoc m.0 (m.1 ++ k.0) rest ∙ ap (λ l. m.0 ++ l)
        (append_assoc m.1 k.0 rest) in
        holds p q r first k.0 k.1 (fits_in rules w i x (before ++ rest) m.0 (m.1 ++ (k.0 ++ rest)) p q r f h fits named
        d m.3) named met

-- parameters name one schema, or they don't
names_schema : (xs : Trees) → NamesSchema xs ⊎ (NamesSchema xs → ⊥)
names_schema (one (group (one (leaf (string text)) none)) none) = inl tt
names_schema _ = inr (λ h. h)

-- the semicolon of a third record that names no schema stands among the tokens
pub record Unnamed (ws : List Lookahead) : Type 0 where
  pub p : Record
  pub q : Record
  pub r : Record
  pub first : List Lookahead
  pub rest : List Lookahead
  pub text : ws ≡ first ++ rest
  pub fits : FitsRecords the_rules (p ∷ q ∷ r ∷ [])
  pub named : IsHeader (p ∷ q ∷ r ∷ [])
  pub met : MeetAll first (items_of_opening p q r ++ this (mark Semicolon) ∷ [])
  pub unnamed : NamesSchema r.values → ⊥

-- tokens that aren't led through the opening hold no opening
not_opened : (ws : List Lookahead) → ((rest : List (LocatedToken Lookahead))
    → run table (opening_symbols ++ Just Semicolon ∷ []) (placed ws) ≡ passes rest → ⊥) → HoldsSchema the_rules ws
not_opened ws f p q r first rest e fits named met =
    let c = cut_at (placed ws) first rest (lookaheads_placed ws ∙ e) in
    let P : List Lookahead → Type 0 = λ l. Leads table (opening_symbols ++ Just Semicolon ∷ []) l [] in
    absurd (f c.1 (ap (run table (opening_symbols ++ Just Semicolon ∷ [])) c.2
    ∙ reaches_run table c.0 (opening_symbols ++ Just Semicolon ∷ []) [] c.1 (subst P (sym c.3)
    (pass_opened the_rules p q r fits named first met))))

named_or_not : (p q r : Record) (first rest ws : List Lookahead) → ws ≡ first ++ rest
    → FitsRecords the_rules (p ∷ q ∷ r ∷ []) → IsHeader (p ∷ q ∷ r ∷ [])
    → MeetAll first (items_of_opening p q r ++ this (mark Semicolon) ∷ [])
    → NamesSchema r.values ⊎ (NamesSchema r.values → ⊥) → HoldsSchema the_rules ws ⊎ Unnamed ws
named_or_not p q r first rest ws e fits named met (inl n) =
    let m = meet_split first (items_of_opening p q r) (this (mark Semicolon) ∷ []) met in
    inl (holds_named p q r m.0 (m.1 ++ rest) ws fits named n m.3 (e ∙ ap (λ l. l ++ rest) m.2
    ∙ append_assoc m.0 m.1 rest))
named_or_not p q r first rest ws e fits named met (inr n) = inr (record {
  p = p;
  q = q;
  r = r;
  first = first;
  rest = rest;
  text = e;
  fits = fits;
  named = named;
  met = met;
  unnamed = n;
})

-- tokens hold a schema, or they don't
pub held_or_not : (ws : List Lookahead) → HoldsSchema the_rules ws ⊎ Unnamed ws
held_or_not ws = by (ends (run table (opening_symbols ++ Just Semicolon ∷ []) (placed ws)))
  where
    opened : (rest : List (LocatedToken Lookahead)) → Passed table (opening_symbols ++ Just Semicolon ∷ []) (placed ws)
        rest → HoldsSchema the_rules ws ⊎ Unnamed ws
    opened rest h =
        let semi = this (mark Semicolon) ∷ [] in
        let taken = lookaheads h.taken in
        let l = langs_split the_rules opening_symbols (Just Semicolon ∷ []) taken
        (sound the_rules (omega arith) taken (opening_symbols ++ Just Semicolon ∷ []) h.reached) in
        let o = opening_of the_rules l.0 l.3 in
        let items = items_of_opening o.0 o.1 o.2 in
        named_or_not o.0 o.1 o.2 taken (lookaheads rest) ws
        (sym (lookaheads_placed ws) ∙ ap lookaheads h.text ∙ lookaheads_append h.taken rest) o.3 o.4
        (subst (λ w. MeetAll w (items ++ semi)) (sym l.2) (meet_join l.0 l.1 items semi o.5
        (single the_rules (Just Semicolon) l.1 l.4))) (names_schema o.2.values)

    by : Ends (run table (opening_symbols ++ Just Semicolon ∷ []) (placed ws)) → HoldsSchema the_rules ws ⊎ Unnamed ws
    by (inl h) = opened h.0 (passed table (placed ws) (opening_symbols ++ Just Semicolon ∷ []) h.0 h.1)
    by (inr (inl h)) = inl (not_opened ws (λ rest e. passes_or_stops (run table (opening_symbols ++ Just Semicolon ∷ [])
        (placed ws)) rest h.0 h.1 e h.2))
    by (inr (inr h)) = inl (not_opened ws (λ rest e. passes_or_short (run table (opening_symbols ++ Just Semicolon ∷ [])
        (placed ws)) rest e h))
