-- What stands before the symbols that stand up to the end of the file, and which symbol is to come there.
use Rattle.std.proofs.Common.{◌≡◌, ℕ, zero, suc, Bool, true, false, List, [], ◌∷◌, ◌++◌, Ok, codes, refl, sym, ap, ◌∙◌, subst, append_assoc, append-nil, arith, ◌⊎◌, inl, inr}
use Rattle.parsing.specs.Languages.{AllAre}
use Rattle.parsing.proofs.Leading.{Leads, leads_join, leads_more, leads_parts, leads_same, leads_split}
use Rattle.parsing.proofs.Lists.{all_append}
use Rattle.step_lexer.specs.declared.token.Mark.TheVariants.{Semicolon}
use Rattle.step_structures.specs.Words.{keyword, ends, mark, Lookahead, token, end_of_text}
use Rattle.step_structures.specs.Trees.{Section, Item, this, finish, is_said, Meets, MeetAll, items_of_header, items_of_sections, items_of_end}
use Rattle.step_structures.specs.Fits.{the_rules}
use Rattle.step_structures.specs.Texts.{EndsHeader, EndsData, EndsFile}
use Rattle.step_structures.specs.steps.Predict.{Symbol, Just, Sections, EndOfText, Next, header_symbols, data_symbols, file_symbols, table}
use Rattle.step_structures.proofs.Meeting.{meet_as, meets_finish}
use Rattle.step_structures.proofs.Passing.{names_after, sections_after, pass_header, pass_sectioned, pass_file}
use Rattle.step_structures.proofs.Sound.{sound, header_of, file_of}
use Rattle.step_structures.proofs.Forms.{Small, IsBehindSections}
use Rattle.step_structures.proofs.Complete.{Ordered, EachBy, small_ordered, small_after, ordered_after, ordered_section}

-- what is ordered stays so
ordered_turn : (d : Bool) (y : Symbol) (ys : List Symbol) (s : Lookahead) (zs : List Symbol)
    → Ordered the_rules d (y ∷ ys) → table y s ≡ Ok zs → Ordered the_rules d (zs ++ ys)
ordered_turn d y [] s zs h e = subst (Ordered the_rules d) (sym (append-nil zs)) (ordered_after the_rules (omega arith)
    d y s zs h.0 h.1 e)
ordered_turn d y (x ∷ ys) s zs h e = small_ordered the_rules d zs (x ∷ ys) (small_after the_rules (omega arith) y s zs
    h.0 e) h.1

ordered_to : (d : Bool) (ws : List Lookahead) (ys zs : List Symbol) → Ordered the_rules d ys → Leads table ys ws zs
    → Ordered the_rules d zs
ordered_to d [] ys zs h l = subst (Ordered the_rules d) l h
ordered_to d (s ∷ ws) [] zs h l = absurd l
ordered_to d (s ∷ ws) (y ∷ ys) zs h l = ordered_to d ws (l.0 ++ ys) zs (ordered_turn d y ys s l.0 h l.1) l.2

file_ordered : Ordered the_rules false file_symbols
file_ordered = (tt, (tt, (tt, (tt, (tt, (tt, (tt, (tt, (tt, (tt, (tt, ((omega arith, omega arith), tt))))))))))))

-- so nothing is to come behind what stands up to the end of the file
alone : (d : Bool) (top : Symbol) (others : List Symbol) → Ordered the_rules d (top ∷ others)
    → (Small the_rules top → ⊥) → others ≡ []
alone d top [] h n = refl
alone d top (z ∷ zs) h n = absurd (n h.0)

only : (ws : List Lookahead) (y top : Symbol) (others : List Symbol) → Leads table file_symbols ws (top ∷ others)
    → top ≡ y → (Small the_rules y → ⊥) → Leads table file_symbols ws (y ∷ [])
only ws y top others h e n =
    let none = alone false top others (ordered_to false ws file_symbols (top ∷ others) file_ordered h)
    (λ k. n (subst (Small the_rules) e k)) in
    subst (λ l. Leads table file_symbols ws l) (λ i. e i ∷ none i) h

-- the header stands before the first section
first_turn : (s : Lookahead) → EachBy (Ordered the_rules true) (table (Sections 0 []) s)
first_turn (token ends) = tt
first_turn (token (keyword text)) = ordered_section the_rules true 0 [] text (is_said (codes "DATA") text)
    (omega arith, omega arith)
first_turn s = tt

first_begun : (s : Lookahead) (zs : List Symbol) → table (Sections 0 []) s ≡ Ok zs → Ordered the_rules true zs
first_begun s zs e = let P : Next → Type 0 = EachBy (Ordered the_rules true) in subst P e (first_turn s)

not_begun : (names : List ℕ) (others : List Symbol) → Ordered the_rules true (Sections 0 names ∷ others) → ⊥
not_begun names [] h = omega (arith, h.1)
not_begun names (z ∷ zs) h = h.0

-- the symbols of the header leave none that stands up to the end of the file
small_in_header : (ws : List Lookahead) (y : Symbol) (more : List Symbol) → Leads table header_symbols ws (y ∷ more)
    → Small the_rules y
small_in_header ws y more h = (small_to ws header_symbols (y ∷ more)
    (tt, (tt, (tt, (tt, (tt, (tt, (tt, (tt, (tt, (tt, (tt, tt))))))))))) h).0
  where
    small_to : (ws : List Lookahead) (ys zs : List Symbol) → AllAre (Small the_rules) ys → Leads table ys ws zs
        → AllAre (Small the_rules) zs
    small_to [] ys zs h l = subst (AllAre (Small the_rules)) l h
    small_to (s ∷ ws) [] zs h l = absurd l
    small_to (s ∷ ws) (y ∷ ys) zs h l = small_to ws (l.0 ++ ys) zs (all_append (Small the_rules) l.0 ys
        (small_after the_rules (omega arith) y s l.0 h.0 l.1) h.1) l.2

ended_header : (ws : List Lookahead) (names : List ℕ) → Leads table file_symbols ws (Sections 0 names ∷ [])
    → EndsHeader ws
ended_header ws names h = by (leads_parts table ws header_symbols data_symbols (Sections 0 names ∷ []) h)
  where
    in_data : (u v : List Lookahead) → ws ≡ u ++ v → Leads table header_symbols u []
        → Leads table data_symbols v (Sections 0 names ∷ []) → EndsHeader ws
    in_data u [] e done l = subst EndsHeader (sym (e ∙ append-nil u)) (header_of the_rules u
        (sound the_rules (omega arith) u header_symbols done))
    in_data u (s ∷ v) e done l = absurd (not_begun names [] (ordered_to true v l.0 (Sections 0 names ∷ [])
        (first_begun s l.0 l.1) (subst (λ k. Leads table k v (Sections 0 names ∷ [])) (append-nil l.0) l.2)))

    by : ((y : Symbol) × (more : List Symbol) × Leads table header_symbols ws (y ∷ more)
        × (Sections 0 names ∷ [] ≡ y ∷ more ++ data_symbols)) ⊎ ((u v : List Lookahead) × (ws ≡ u ++ v)
        × Leads table header_symbols u [] × Leads table data_symbols v (Sections 0 names ∷ [])) → EndsHeader ws
    by (inl k) =
        let same : Sections 0 names ≡ k.0 = cc in
        absurd (subst (Small the_rules) (sym same) (small_in_header ws k.0 k.1 k.2))
    by (inr k) = in_data k.0 k.1 k.2 k.3 k.4

-- the last lookahead meets the last item
pub last_met : (ws : List Lookahead) (s : Lookahead) (a : List Item) (i : Item) → MeetAll (ws ++ s ∷ []) (a ++ i ∷ [])
    → MeetAll ws a × Meets s i
last_met [] s [] i h = (tt, h.0)
last_met [] s (j ∷ []) i h = absurd h.1
last_met [] s (j ∷ l ∷ a) i h = absurd h.1
last_met (w ∷ []) s [] i h = absurd h.1
last_met (w ∷ x ∷ ws) s [] i h = absurd h.1
last_met (w ∷ ws) s (j ∷ a) i h = let m = last_met ws s a i h.1 in ((h.0, m.0), m.1)

-- the data sections stand before the end of the file
ended_data : (ws : List Lookahead) (k : ℕ) (names : List ℕ) → Leads table file_symbols ws (Sections (suc k) names ∷ [])
    → EndsData ws
ended_data ws k names h =
    let end = token ends ∷ token (mark Semicolon) ∷ end_of_text ∷ [] in
    let whole : Leads table file_symbols (ws ++ end) [] = leads_join table ws end file_symbols (Sections (suc k) names
    ∷ []) [] h (Just Semicolon ∷ EndOfText ∷ [], refl, ([], refl, ([], refl, refl))) in
    let f = file_of the_rules (ws ++ end) (sound the_rules (omega arith) (ws ++ end) file_symbols whole) in
    let before = items_of_header f.0.header ++ items_of_sections f.0.sections in
    let a = last_met ((ws ++ token ends ∷ []) ++ token (mark Semicolon) ∷ []) end_of_text ((before ++ this ends ∷ [])
    ++ this (mark Semicolon) ∷ []) finish (as_last ws before f.2) in
    let b = last_met (ws ++ token ends ∷ []) (token (mark Semicolon)) (before ++ this ends ∷ []) (this (mark Semicolon))
    a.0 in
    (f.0, f.1, (last_met ws (token ends) before (this ends) b.0).0)
  where
    regrouped : {A : Type 0} → (l : List A) (x y z : A) → ((l ++ x ∷ []) ++ y ∷ []) ++ z ∷ [] ≡ l ++ x ∷ y ∷ z ∷ []
    regrouped l x y z = append_assoc (l ++ x ∷ []) (y ∷ []) (z ∷ []) ∙ append_assoc l (x ∷ []) (y ∷ z ∷ [])

    as_last : (ws : List Lookahead) (before : List Item) → MeetAll (ws ++ token ends ∷ token (mark Semicolon)
        ∷ end_of_text ∷ []) (before ++ items_of_end) → MeetAll (((ws ++ token ends ∷ []) ++ token (mark Semicolon) ∷ [])
        ++ end_of_text ∷ []) (((before ++ this ends ∷ []) ++ this (mark Semicolon) ∷ []) ++ finish ∷ [])
    as_last ws before h = subst (λ l. MeetAll l (((before ++ this ends ∷ []) ++ this (mark Semicolon) ∷ [])
        ++ finish ∷ [])) (sym (regrouped ws (token ends) (token (mark Semicolon)) end_of_text)) (meet_as (ws
        ++ token ends ∷ token (mark Semicolon) ∷ end_of_text ∷ []) (before ++ items_of_end) (((before ++ this ends ∷ [])
        ++ this (mark Semicolon) ∷ []) ++ finish ∷ []) (sym (regrouped before (this ends) (this (mark Semicolon))
        finish)) h)

-- a section or the end of the file is to come behind the header or sections
pub between_ends : (ws : List Lookahead) (top : Symbol) (others : List Symbol)
    → Leads table file_symbols ws (top ∷ others)
    → IsBehindSections top → EndsHeader ws ⊎ EndsData ws
between_ends ws top others h (zero, names, e) = inl (ended_header ws names (only ws (Sections 0 names) top others h e
    (λ k. k)))
between_ends ws top others h (suc k, names, e) =
    inr (ended_data ws k names (only ws (Sections (suc k) names) top others h
    e (λ n. n)))

-- if only the end of the text is expected, the tokens are a whole file without it
pub ended_file : (ws : List Lookahead) (top : Symbol) (others : List Symbol)
    → Leads table file_symbols ws (top ∷ others)
    → top ≡ EndOfText → EndsFile ws
ended_file ws top others h e =
    let over = only ws EndOfText top others h e (λ n. n) in
    let whole : Leads table file_symbols (ws ++ end_of_text ∷ []) [] = leads_join table ws (end_of_text ∷ [])
    file_symbols (EndOfText ∷ []) [] over ([], refl, refl) in
    let f = file_of the_rules (ws ++ end_of_text ∷ []) (sound the_rules (omega arith) (ws ++ end_of_text ∷ [])
    file_symbols whole) in
    (end_of_text, f.0, f.1, f.2)

-- the other way: behind these tokens this is to come
to_come : (ws : List Lookahead) (y top : Symbol) (ys others : List Symbol) → Leads table file_symbols ws (y ∷ ys)
    → Leads table file_symbols ws (top ∷ others) → top ≡ y
to_come ws y top ys others h g =
    let e : y ∷ ys ≡ top ∷ others = leads_same table ws file_symbols (y ∷ ys) (top ∷ others) h g in
    cc

sections_after_is : (xs : List Section) (k : ℕ) (names : List ℕ) → IsBehindSections (sections_after k names xs)
sections_after_is [] k names = (k, names, refl)
sections_after_is (x ∷ xs) k names = sections_after_is xs (suc k) (names_after names x.rows)

pub section_to_come : (ws : List Lookahead) (top : Symbol) (others : List Symbol) → Leads table file_symbols ws
    (top ∷ others) → EndsHeader ws ⊎ EndsData ws → IsBehindSections top
section_to_come ws top others g (inl h) = (
  0,
  [],
  to_come ws (Sections 0 []) top [] others (leads_more table ws header_symbols [] data_symbols (pass_header
      the_rules h.0 h.1 ws h.2)) g,
)
section_to_come ws top others g (inr h) =
    let y = sections_after 0 [] h.0.sections in
    let e = to_come ws y top [] others (pass_sectioned the_rules h.0 h.1 ws h.2) g in
    let k = sections_after_is h.0.sections 0 [] in
    (k.0, k.1, e ∙ k.2)

pub over_only : (y : Symbol) (zs : List Symbol) → table y end_of_text ≡ Ok zs → y ≡ EndOfText
over_only EndOfText zs e = refl
over_only y zs e = cc

pub end_to_come : (ws : List Lookahead) (top : Symbol) (others : List Symbol) → EndsFile ws
    → Leads table file_symbols ws (top ∷ others) → top ≡ EndOfText
end_to_come ws top others h g =
    let last = h.0 in
    let x = h.1 in
    let opened = items_of_header x.header ++ items_of_sections x.sections in
    let l = leads_split table ws (last ∷ []) file_symbols [] (pass_file the_rules (ws ++ last ∷ []) (x, h.2, h.3)) in
    let P : List Symbol → Type 0 = λ ys. Leads table ys (last ∷ []) [] in
    let r = subst P (leads_same table ws file_symbols l.0 (top ∷ others) l.1 g) l.2 in
    let Q : List Item → Type 0 = λ l. MeetAll (ws ++ last ∷ []) l in
    let over = meets_finish last (last_met ws last (opened ++ this ends ∷ this (mark Semicolon) ∷ []) finish
    (subst Q (sym (append_assoc opened (this ends ∷ this (mark Semicolon) ∷ []) (finish ∷ []))) h.3)).1 in
    over_only top r.0 (ap (table top) (sym over) ∙ r.1)
