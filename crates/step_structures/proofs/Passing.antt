-- The tokens of a structure and of its parts lead from what is to come, by the table, to nothing more.
use Rattle.std.proofs.Common.{◌≡◌, ℕ, ◌+◌, ◌<◌, ◌≤◌, Bool, true, false, not, ◌&&◌, ltb, List, [], ◌∷◌, ◌++◌, length, suc, Option, Some, None, Ok, codes, refl, sym, ap, ◌∙◌, subst, append_assoc, append-nil, arith, eq-eqb}
use Rattle.parsing.proofs.Leading.{Leads, leads_join, leads_more}
use Rattle.step_lexer.specs.declared.token.Mark.{Mark}
use Rattle.step_lexer.specs.declared.token.Mark.TheVariants.{Open, Close, Comma, Semicolon, Equals, Dollar, Asterisk}
use Rattle.step_structures.specs.Words.{Word, begins, ends, keyword, name, number, element, string, binary, mark, Lookahead, token, end_of_text, flawed}
use Rattle.step_structures.specs.Trees.{Tree, leaf, typed, group, Trees, none, one, Record, Form, internal, external, ExchangeRow, Section, File, rows_of, Item, this, says, named, finish, is_said, Meets, MeetAll, items_of_tree, items_of_more, items_of_list, items_of_record, items_of_partial_records, items_of_form, items_of_row, items_of_rows, items_of_records, section, items_of_start, items_of_header, items_of_heading, items_of_section, items_of_sections, items_of_end}
use Rattle.step_structures.specs.Fits.{StructureRules, IsLeaf, FitsTree, FitsTrees, FitsRecord, Where, has_keyword, FitsPartialRecords, FitsForm, has_name, FitsRows, FitsSections, FitsRecords, IsHeader, FitsHeader, FitsFile}
use Rattle.step_structures.specs.Texts.{items_of_opening}
use Rattle.step_structures.specs.steps.Predict.{Symbol, Just, Start, Say, Head, Records, Ended, Sections, Behind, Quoted, Rows, Body, PartialRecords, Value, Items, More, EndOfText, is_mark, mark_code, record_symbols, row_symbols, opening_symbols, header_symbols, heading_symbols, data_symbols, file_symbols, next, next_name, next_value, then_more, start_symbols, params_symbols, IsFile}
use Rattle.step_structures.proofs.Meeting.{meet_split, meet_as, meets_this, meets_finish}

-- whatever the items ask for leads from these symbols to those
abbrev pub Passing : StructureRules → List Symbol → List Item → List Symbol → Type 0
Passing rules ys items zs = (ws : List Lookahead) → MeetAll ws items → Leads (next rules) ys ws zs

-- what the table answers at whatever meets an item
abbrev pub Takes : StructureRules → Symbol → List Symbol → Item → Type 0
Takes rules y zs i = (s : Lookahead) → Meets s i → next rules y s ≡ Ok zs

pub pass_here : (rules : StructureRules) (ys : List Symbol) → Passing rules ys [] ys
pass_here rules ys [] h = refl
pass_here rules ys (s ∷ ws) h = absurd h

-- one item, and what is behind it
pub pass_item : (rules : StructureRules) (y : Symbol) (us ys zs : List Symbol) (i : Item) (items : List Item)
    → Takes rules y us i → Passing rules (us ++ ys) items zs → Passing rules (y ∷ ys) (i ∷ items) zs
pass_item rules y us ys zs i items f go [] h = absurd h
pass_item rules y us ys zs i items f go (s ∷ ws) h = (us, f s h.0, go ws h.1)

-- some items, and what is behind them
pub pass_join : (rules : StructureRules) (xs ys zs : List Symbol) (a b : List Item) → Passing rules xs a ys
    → Passing rules ys b zs → Passing rules xs (a ++ b) zs
pass_join rules xs ys zs a b f g ws h =
    let p = meet_split ws a b h in
    subst (λ l. Leads (next rules) xs l zs) (sym p.2) (leads_join (next rules) p.0 p.1 xs ys zs (f p.0 p.3) (g p.1 p.4))

-- with more to come behind
pub pass_more : (rules : StructureRules) (ys zs b : List Symbol) (items : List Item) → Passing rules ys items zs
    → Passing rules (ys ++ b) items (zs ++ b)
pass_more rules ys zs b items f ws h = leads_more (next rules) ws ys zs b (f ws h)

-- what was to come first, and then what was to come behind it
pub pass_then : (rules : StructureRules) (ys b zs : List Symbol) (a items : List Item) → Passing rules ys a []
    → Passing rules b items zs → Passing rules (ys ++ b) (a ++ items) zs
pass_then rules ys b zs a items f g = pass_join rules (ys ++ b) b zs a items (pass_more rules ys [] b a f) g

-- the same items, written otherwise
pub pass_as : (rules : StructureRules) (ys zs : List Symbol) (a b : List Item) → a ≡ b → Passing rules ys a zs
    → Passing rules ys b zs
pass_as rules ys zs a b e f ws h = f ws (meet_as ws b a (sym e) h)

-- one item
takes_this : (rules : StructureRules) (y : Symbol) (zs : List Symbol) (w : Word) → next rules y (token w) ≡ Ok zs
    → Takes rules y zs (this w)
takes_this rules y zs w e = λ s h. ap (next rules y) (meets_this s w h) ∙ e

takes_says : (rules : StructureRules) (y : Symbol) (zs : List Symbol) (word : List ℕ)
    → ((text : List ℕ) → is_said word text ≡ true → next rules y (token (keyword text)) ≡ Ok zs)
    → Takes rules y zs (says word)
takes_says rules y zs word f = by
  where
    by : (s : Lookahead) → Meets s (says word) → next rules y s ≡ Ok zs
    by (token (keyword text)) h = f text h
    by (token w) h = absurd h
    by (flawed g) h = absurd h
    by end_of_text h = absurd h

takes_named : (rules : StructureRules) (y : Symbol) (zs : List Symbol) (n : ℕ)
    → ((text : List ℕ) → next rules y (token (name n text)) ≡ Ok zs) → Takes rules y zs (named n)
takes_named rules y zs n f = by
  where
    by : (s : Lookahead) → Meets s (named n) → next rules y s ≡ Ok zs
    by (token (name m text)) h = ap (λ k. next rules y (token (name k text))) h ∙ f text
    by (token w) h = absurd h
    by (flawed g) h = absurd h
    by end_of_text h = absurd h

pub pass_this : (rules : StructureRules) (y : Symbol) (us ys zs : List Symbol) (w : Word) (items : List Item)
    → next rules y (token w) ≡ Ok us → Passing rules (us ++ ys) items zs → Passing rules (y ∷ ys) (this w ∷ items) zs
pass_this rules y us ys zs w items e go = pass_item rules y us ys zs (this w) items (takes_this rules y us w e) go

-- marks
pub next_mark : (rules : StructureRules) (m : Mark) → next rules (Just m) (token (mark m)) ≡ Ok []
next_mark rules m = rw (eq-eqb (mark_code m) (mark_code m) refl) refl

pub take_mark : (rules : StructureRules) (m : Mark) (ys zs : List Symbol) (items : List Item) → Passing rules ys items zs
    → Passing rules (Just m ∷ ys) (this (mark m) ∷ items) zs
take_mark rules m ys zs items go = pass_this rules (Just m) [] ys zs (mark m) items (next_mark rules m) go

pub pass_mark : (rules : StructureRules) (m : Mark) → Passing rules (Just m ∷ []) (this (mark m) ∷ []) []
pass_mark rules m = take_mark rules m [] [] [] (pass_here rules [])

-- words
next_said : (rules : StructureRules) (word text : List ℕ) → is_said word text ≡ true
    → next rules (Say word) (token (keyword text)) ≡ Ok []
next_said rules word text h = rw h refl

pub take_word : (rules : StructureRules) (word : List ℕ) (ys zs : List Symbol) (items : List Item) → Passing rules ys items zs
    → Passing rules (Say word ∷ ys) (says word ∷ items) zs
take_word rules word ys zs items go = pass_item rules (Say word) [] ys zs (says word) items
    (takes_says rules (Say word) [] word (next_said rules word)) go

-- the tests of the table
open_below : (rules : StructureRules) (n : ℕ) → n < rules.levels → ltb n rules.levels ≡ true
open_below rules n h = grind arith

pub next_leaf : (rules : StructureRules) (n : ℕ) (w : Word) → IsLeaf w → next rules (Value n) (token w) ≡ Ok []
next_leaf rules n (mark Dollar) f = refl
next_leaf rules n (mark Asterisk) f = refl
next_leaf rules n (name m text) f = refl
next_leaf rules n (number text) f = refl
next_leaf rules n (element text) f = refl
next_leaf rules n (string text) f = refl
next_leaf rules n (binary text) f = refl
next_leaf rules n w f = absurd f

next_typed : (rules : StructureRules) (n : ℕ) (text : List ℕ) → n < rules.levels
    → next rules (Value n) (token (keyword text)) ≡ Ok (Just Open ∷ Value (n + 1) ∷ Just Close ∷ [])
next_typed rules n text h = rw (open_below rules n h) refl

next_group : (rules : StructureRules) (n : ℕ) → n < rules.levels → next rules (Value n) (token (mark Open)) ≡ Ok
    (Items (n + 1) ∷ [])
next_group rules n h = rw (open_below rules n h) refl

-- behind an opening parenthesis, what isn't the closing one begins a parameter
pub items_as_value : (rules : StructureRules) (n : ℕ) (s : Lookahead) → is_mark Close s ≡ false
    → next rules (Items n) s ≡ then_more n (next_value rules n s)
items_as_value rules n (token (mark Close)) h = cc
items_as_value rules n s h = refl

leaf_not_close : (w : Word) → IsLeaf w → is_mark Close (token w) ≡ false
leaf_not_close (mark Dollar) f = refl
leaf_not_close (mark Asterisk) f = refl
leaf_not_close (mark m) f = absurd f
leaf_not_close w f = refl

-- a tree has a first token, which is no closing parenthesis
pub begins_tree : (rules : StructureRules) (x : Tree) (n : ℕ) (b : List Item) (ws : List Lookahead) → FitsTree rules n x
    → MeetAll ws (items_of_tree x ++ b) → (s : Lookahead) × (more : List Lookahead) × (ws ≡ s ∷ more)
    × (is_mark Close s ≡ false)
begins_tree rules (leaf w) n b [] f h = absurd h
begins_tree rules (typed text x) n b [] f h = absurd h
begins_tree rules (group xs) n b [] f h = absurd h
begins_tree rules (leaf w) n b (s ∷ ws) f h = (
  s,
  ws,
  refl,
  ap (is_mark Close) (meets_this s w h.0)
      ∙ leaf_not_close w f,
)
begins_tree rules (typed text x) n b (s ∷ ws) f h = (s, ws, refl, ap (is_mark Close) (meets_this s (keyword text) h.0))
begins_tree rules (group xs) n b (s ∷ ws) f h = (s, ws, refl, ap (is_mark Close) (meets_this s (mark Open) h.0))

-- a parameter that passes is the first of some
as_first : (rules : StructureRules) (n : ℕ) (s : Lookahead) (ws : List Lookahead) → is_mark Close s ≡ false
    → Leads (next rules) (Value n ∷ []) (s ∷ ws) [] → Leads (next rules) (Items n ∷ []) (s ∷ ws) (More n ∷ [])
as_first rules n s ws c h =
    let us = h.0 in
    let e : (us ++ []) ++ More n ∷ [] ≡ (us ++ More n ∷ []) ++ [] = ap (λ l. l ++ More n ∷ []) (append-nil us)
    ∙ sym (append-nil (us ++ More n ∷ [])) in (
      us ++ More n ∷ [],
      items_as_value rules n s c ∙ ap (then_more n) h.1,
      subst (λ l. Leads (next rules) l ws (More n ∷ [])) e
          (leads_more (next rules) ws (us ++ []) [] (More n ∷ []) h.2),
    )

first_passes : (rules : StructureRules) (x : Tree) (n : ℕ) → FitsTree rules n x
    → Passing rules (Value n ∷ []) (items_of_tree x) []
    → Passing rules (Items n ∷ []) (items_of_tree x) (More n ∷ [])
first_passes rules x n f go ws h =
    let e = append-nil (items_of_tree x) in
    let b = begins_tree rules x n [] ws f (meet_as ws (items_of_tree x) (items_of_tree x ++ []) (sym e) h) in
    let P : List Lookahead → Type 0 = λ l. Leads (next rules) (Value n ∷ []) l [] in
    let Q : List Lookahead → Type 0 = λ l. Leads (next rules) (Items n ∷ []) l (More n ∷ []) in
    subst Q (sym b.2) (as_first rules n b.0 b.1 b.3 (subst P b.2 (go ws h)))

-- the tokens of a tree pass where a parameter is asked for
mutual
  pub pass_tree : (rules : StructureRules) (x : Tree) (n : ℕ) → FitsTree rules n x → Passing rules (Value n ∷ [])
      (items_of_tree x) []
  pass_tree rules (leaf w) n f = pass_this rules (Value n) [] [] [] w [] (next_leaf rules n w f) (pass_here rules [])
  pass_tree rules (typed text x) n f =
      pass_this rules (Value n) (Just Open ∷ Value (n + 1) ∷ Just Close ∷ []) [] [] (keyword text) (this (mark Open)
      ∷ (items_of_tree x ++ this (mark Close) ∷ [])) (next_typed rules n text f.0)
      (take_mark rules Open (Value (n + 1) ∷ Just Close ∷ []) [] (items_of_tree x ++ this (mark Close) ∷ [])
      (pass_then rules (Value (n + 1) ∷ []) (Just Close ∷ []) [] (items_of_tree x) (this (mark Close) ∷ [])
      (pass_tree rules x (n + 1) f.1) (pass_mark rules Close)))
  pass_tree rules (group xs) n f =
      pass_this rules (Value n) (Items (n + 1) ∷ []) [] [] (mark Open) (items_of_list xs) (next_group rules n f.0)
      (pass_list rules xs (n + 1) f.1)

  pub pass_list : (rules : StructureRules) (xs : Trees) (n : ℕ) → FitsTrees rules n xs → Passing rules (Items n ∷ [])
      (items_of_list xs) []
  pass_list rules none n f = pass_this rules (Items n) [] [] [] (mark Close) [] refl (pass_here rules [])
  pass_list rules (one x xs) n f =
      let tail = items_of_more xs ++ this (mark Close) ∷ [] in
      pass_as rules (Items n ∷ []) [] (items_of_tree x ++ tail) (items_of_list (one x xs))
      (sym (append_assoc (items_of_tree x) (items_of_more xs) (this (mark Close) ∷ [])))
      (pass_join rules (Items n ∷ []) (More n ∷ []) [] (items_of_tree x) tail
      (first_passes rules x n f.0 (pass_tree rules x n f.0))
      (pass_further rules xs n f.1))

  pub pass_further : (rules : StructureRules) (xs : Trees) (n : ℕ) → FitsTrees rules n xs → Passing rules (More n ∷ [])
      (items_of_more xs ++ this (mark Close) ∷ []) []
  pass_further rules none n f = pass_this rules (More n) [] [] [] (mark Close) [] refl (pass_here rules [])
  pass_further rules (one x xs) n f =
      let tail = items_of_more xs ++ this (mark Close) ∷ [] in
      pass_this rules (More n) (Value n ∷ More n ∷ []) [] [] (mark Comma) ((items_of_tree x ++ items_of_more xs)
      ++ this (mark Close) ∷ []) refl
      (pass_as rules (Value n ∷ More n ∷ []) [] (items_of_tree x ++ tail) ((items_of_tree x ++ items_of_more xs)
      ++ this (mark Close) ∷ []) (sym (append_assoc (items_of_tree x) (items_of_more xs) (this (mark Close) ∷ [])))
      (pass_then rules (Value n ∷ []) (More n ∷ []) [] (items_of_tree x) tail (pass_tree rules x n f.0)
      (pass_further rules xs n f.1)))

-- a rule that holds where it is asked for rules nothing out
pub ruled : (d b : Bool) → Where d (b ≡ false) → (d && b) ≡ false
ruled true b h = h
ruled false b h = refl

pub ruled_not : (d b : Bool) → Where d (b ≡ true) → (d && not b) ≡ false
ruled_not true b h = rw h refl
ruled_not false b h = refl

pub where_map : {A B : Type 0} → (d : Bool) → (A → B) → Where d A → Where d B
where_map true f h = f h
where_map false f h = tt

-- the parameters of a record, with so many parentheses open around it
pub pass_params : (rules : StructureRules) (xs : Trees) (n : ℕ) → FitsTrees rules (n + 1) xs → Passing rules (params_symbols n)
    (this (mark Open) ∷ items_of_list xs) []
pass_params rules xs n f = take_mark rules Open (Items (n + 1) ∷ []) [] (items_of_list xs) (pass_list rules xs (n + 1)
    f)

next_partial : (rules : StructureRules) (before : List (List ℕ)) (text : List ℕ)
    → Where rules.distinct (has_keyword text before ≡ false) → next rules (PartialRecords before)
    (token (keyword text)) ≡ Ok (Just Open ∷ Items 2 ∷ PartialRecords (before ++ text ∷ []) ∷ [])
next_partial rules before text h = rw (ruled rules.distinct (has_keyword text before) h) refl

next_closing : (rules : StructureRules) (before : List (List ℕ)) → 0 < length before → next rules (PartialRecords before)
    (token (mark Close)) ≡ Ok []
next_closing rules [] h = absurd (let e : ⊥ = omega (arith, h) in e)
next_closing rules (w ∷ ws) h = refl

length_more : (before : List (List ℕ)) (w : List ℕ) → 0 < length (before ++ w ∷ [])
length_more [] w = omega arith
length_more (v ∷ before) w = omega arith

-- one partial record
pass_partial : (rules : StructureRules) (p : Record) (before : List (List ℕ))
    → Where rules.distinct (has_keyword p.keyword before ≡ false) → FitsRecord rules 1 p
    → Passing rules (PartialRecords before ∷ []) (items_of_record p) (PartialRecords (before ++ p.keyword ∷ []) ∷ [])
pass_partial rules p before d f =
    let after = PartialRecords (before ++ p.keyword ∷ []) ∷ [] in
    pass_this rules (PartialRecords before) (params_symbols 1 ++ after) [] after (keyword p.keyword) (this (mark Open)
    ∷ items_of_list p.values) (next_partial rules before p.keyword d)
    (pass_more rules (params_symbols 1) [] after (this (mark Open) ∷ items_of_list p.values)
    (pass_params rules p.values 1 f.1))

-- partial records and the parenthesis behind them
pub pass_partial_records : (rules : StructureRules) (ps : List Record) (before : List (List ℕ)) → 0 < length before + length ps
    → FitsPartialRecords rules before ps → Passing rules (PartialRecords before ∷ []) (items_of_partial_records ps
    ++ this (mark Close) ∷ []) []
pass_partial_records rules [] before some f = pass_this rules (PartialRecords before) [] [] [] (mark Close) []
    (next_closing rules before (omega (arith, some))) (pass_here rules [])
pass_partial_records rules (p ∷ ps) before some f =
    let after = before ++ p.keyword ∷ [] in
    let tail = items_of_partial_records ps ++ this (mark Close) ∷ [] in
    pass_as rules (PartialRecords before ∷ []) [] (items_of_record p ++ tail) (items_of_partial_records (p ∷ ps)
    ++ this (mark Close) ∷ []) (sym (append_assoc (items_of_record p) (items_of_partial_records ps) (this (mark Close)
    ∷ [])))
    (pass_join rules (PartialRecords before ∷ []) (PartialRecords after ∷ []) [] (items_of_record p) tail
    (pass_partial rules p before f.0 f.1)
    (pass_partial_records rules ps after (omega (arith, length_more before p.keyword)) f.2))

-- a record or partial records
pub pass_form : (rules : StructureRules) (x : Form) → FitsForm rules x → Passing rules (Body ∷ []) (items_of_form x) []
pass_form rules (internal p) f = pass_this rules Body record_symbols [] [] (keyword p.keyword) (this (mark Open)
    ∷ items_of_list p.values) refl (pass_params rules p.values 0 f.1)
pass_form rules (external ps) f = pass_this rules Body (PartialRecords [] ∷ []) [] [] (mark Open)
    (items_of_partial_records ps ++ this (mark Close) ∷ []) refl
    (pass_partial_records rules ps [] (omega (arith, f.1)) f.2)

next_name_row : (rules : StructureRules) (k : ℕ) (names : List ℕ) (n : ℕ) → Where rules.distinct (has_name n names ≡ false)
    → length names < rules.instances → next_name rules k names n ≡ Ok (row_symbols ++ Rows k (names ++ n ∷ []) ∷ [])
next_name_row rules k names n d h = let e : ltb (length names) rules.instances ≡ true = grind (arith, h) in
    rw (ruled rules.distinct (has_name n names) d) (rw e refl)

-- one instance
pass_row : (rules : StructureRules) (r : ExchangeRow) (k : ℕ) (names : List ℕ) → Where rules.distinct (has_name r.name names ≡ false)
    → length names < rules.instances → FitsForm rules r.form
    → Passing rules (Rows k names ∷ []) (items_of_row r) (Rows k (names ++ r.name ∷ []) ∷ [])
pass_row rules r k names d room f =
    let after = Rows k (names ++ r.name ∷ []) ∷ [] in
    let items = items_of_form r.form ++ this (mark Semicolon) ∷ [] in
    pass_item rules (Rows k names) (row_symbols ++ after) [] after (named r.name) (this (mark Equals) ∷ items)
    (takes_named rules (Rows k names) (row_symbols ++ after) r.name
    (λ text. next_name_row rules k names r.name d room))
    (pass_more rules row_symbols [] after (this (mark Equals) ∷ items)
    (take_mark rules Equals (Body ∷ Just Semicolon ∷ []) [] items
    (pass_then rules (Body ∷ []) (Just Semicolon ∷ []) [] (items_of_form r.form) (this (mark Semicolon) ∷ [])
    (pass_form rules r.form f) (pass_mark rules Semicolon))))

-- these names, and those of the instances
abbrev pub names_after : List ℕ → List ExchangeRow → List ℕ
names_after names [] = names
names_after names (r ∷ rs) = names_after (names ++ r.name ∷ []) rs

-- instances that fit one after another
pub fits_both : (rules : StructureRules) (rs ts : List ExchangeRow) (names : List ℕ) → FitsRows rules names (rs ++ ts)
    → FitsRows rules names rs × FitsRows rules (names_after names rs) ts
fits_both rules [] ts names f = (tt, f)
fits_both rules (r ∷ rs) ts names f =
    let g = fits_both rules rs ts (names ++ r.name ∷ []) f.3 in ((f.0, f.1, f.2, g.0), g.1)

-- the instances
pub pass_rows : (rules : StructureRules) (rs : List ExchangeRow) (k : ℕ) (names : List ℕ) → FitsRows rules names rs
    → Passing rules (Rows k names ∷ []) (items_of_rows rs) (Rows k (names_after names rs) ∷ [])
pass_rows rules [] k names f = pass_here rules (Rows k names ∷ [])
pass_rows rules (r ∷ rs) k names f =
    pass_join rules (Rows k names ∷ []) (Rows k (names ++ r.name ∷ []) ∷ [])
    (Rows k (names_after (names ++ r.name ∷ []) rs) ∷ []) (items_of_row r) (items_of_rows rs)
    (pass_row rules r k names f.0 f.1 f.2) (pass_rows rules rs k (names ++ r.name ∷ []) f.3)

next_records_word : (rules : StructureRules) (text : List ℕ) → is_said (codes "ENDSEC") text ≡ false
    → next rules Records (token (keyword text)) ≡ Ok (Just Open ∷ Items 1 ∷ Just Semicolon ∷ Records ∷ [])
next_records_word rules text h = rw h refl

next_records_end : (rules : StructureRules) (text : List ℕ) → is_said (codes "ENDSEC") text ≡ true
    → next rules Records (token (keyword text)) ≡ Ok (Ended ∷ [])
next_records_end rules text h = rw h refl

-- one more record of the header and its semicolon; its keyword may be ENDSEC
pass_one_more : (rules : StructureRules) (p : Record) → FitsRecord rules 0 p
    → Passing rules (Records ∷ []) (items_of_record p ++ this (mark Semicolon) ∷ []) (Records ∷ [])
pass_one_more rules p f = by (is_said (codes "ENDSEC") p.keyword) refl
  where
    items : List Item
    items = items_of_list p.values ++ this (mark Semicolon) ∷ []

    values : Passing rules (Items 1 ∷ Just Semicolon ∷ Records ∷ []) items (Records ∷ [])
    values = pass_then rules (Items 1 ∷ []) (Just Semicolon ∷ Records ∷ []) (Records ∷ []) (items_of_list p.values)
        (this (mark Semicolon) ∷ []) (pass_list rules p.values 1 f.1)
        (take_mark rules Semicolon (Records ∷ []) (Records ∷ []) [] (pass_here rules (Records ∷ [])))

    by : (b : Bool) → is_said (codes "ENDSEC") p.keyword ≡ b
        → Passing rules (Records ∷ []) (items_of_record p ++ this (mark Semicolon) ∷ []) (Records ∷ [])
    by true e = pass_this rules Records (Ended ∷ []) [] (Records ∷ []) (keyword p.keyword) (this (mark Open) ∷ items)
        (next_records_end rules p.keyword e)
        (pass_this rules Ended (Items 1 ∷ Just Semicolon ∷ Records ∷ []) [] (Records ∷ []) (mark Open) items refl
        values)
    by false e = pass_this rules Records (Just Open ∷ Items 1 ∷ Just Semicolon ∷ Records ∷ []) [] (Records ∷ [])
        (keyword p.keyword) (this (mark Open) ∷ items) (next_records_word rules p.keyword e)
        (take_mark rules Open (Items 1 ∷ Just Semicolon ∷ Records ∷ []) (Records ∷ []) items values)

regroup_past : (a : List Item) (i : Item) (b c : List Item) → (a ++ i ∷ []) ++ (b ++ c) ≡ a ++ i ∷ b ++ c
regroup_past a i b c = append_assoc a (i ∷ []) (b ++ c) ∙ sym (append_assoc a (i ∷ b) c)

-- the records of the header and its end
pub pass_records : (rules : StructureRules) (ps : List Record) → FitsRecords rules ps → Passing rules (Records ∷ [])
    (items_of_records ps ++ section (codes "ENDSEC")) []
pass_records rules [] f =
    pass_item rules Records (Ended ∷ []) [] [] (says (codes "ENDSEC")) (this (mark Semicolon) ∷ [])
    (takes_says rules Records (Ended ∷ []) (codes "ENDSEC") (next_records_end rules))
    (pass_this rules Ended [] [] [] (mark Semicolon) [] refl (pass_here rules []))
pass_records rules (p ∷ ps) f =
    let last = section (codes "ENDSEC") in
    pass_as rules (Records ∷ []) [] ((items_of_record p ++ this (mark Semicolon) ∷ []) ++ (items_of_records ps ++ last))
    (items_of_records (p ∷ ps) ++ last) (regroup_past (items_of_record p) (this (mark Semicolon)) (items_of_records ps)
    last)
    (pass_join rules (Records ∷ []) (Records ∷ []) [] (items_of_record p ++ this (mark Semicolon) ∷ [])
    (items_of_records ps ++ last) (pass_one_more rules p f.0) (pass_records rules ps f.1))

next_head_word : (rules : StructureRules) (word text : List ℕ) → Where rules.headed (is_said word text ≡ true)
    → next rules (Head word) (token (keyword text)) ≡ Ok record_symbols
next_head_word rules word text h = rw (ruled_not rules.headed (is_said word text) h) refl

-- a record of the header with this keyword, and with its semicolon
pass_head : (rules : StructureRules) (word : List ℕ) (p : Record) → Where rules.headed (is_said word p.keyword ≡ true)
    → FitsRecord rules 0 p → Passing rules (Head word ∷ []) (items_of_record p) []
pass_head rules word p d f = pass_this rules (Head word) record_symbols [] [] (keyword p.keyword) (this (mark Open)
    ∷ items_of_list p.values) (next_head_word rules word p.keyword d) (pass_params rules p.values 0 f.1)

pass_head_line : (rules : StructureRules) (word : List ℕ) (p : Record) (b : List Symbol) (items : List Item)
    → Where rules.headed (is_said word p.keyword ≡ true) → FitsRecord rules 0 p → Passing rules b items []
    → Passing rules (Head word ∷ Just Semicolon ∷ b) (items_of_record p ++ this (mark Semicolon) ∷ items) []
pass_head_line rules word p b items d f go =
    pass_then rules (Head word ∷ []) (Just Semicolon ∷ b) [] (items_of_record p)
    (this (mark Semicolon) ∷ items) (pass_head rules word p d f) (take_mark rules Semicolon b [] items go)

-- up to the first record of the header
pub pass_start : (rules : StructureRules) (b : List Symbol) (items : List Item) → Passing rules b items []
    → Passing rules (start_symbols ++ b) (items_of_start ++ items) []
pass_start rules b items go =
    pass_this rules Start [] (Just Semicolon ∷ Say (codes "HEADER") ∷ Just Semicolon ∷ b) [] begins
    (this (mark Semicolon) ∷ says (codes "HEADER") ∷ this (mark Semicolon) ∷ items) refl
    (take_mark rules Semicolon (Say (codes "HEADER") ∷ Just Semicolon ∷ b) [] (says (codes "HEADER")
    ∷ this (mark Semicolon) ∷ items)
    (take_word rules (codes "HEADER") (Just Semicolon ∷ b) [] (this (mark Semicolon) ∷ items)
    (take_mark rules Semicolon b [] items go)))

-- the first two records of the header
abbrev pub two_symbols : List Symbol
two_symbols = start_symbols ++ Head (codes "FILE_DESCRIPTION") ∷ Just Semicolon ∷ Head (codes "FILE_NAME")
    ∷ Just Semicolon ∷ []

pub pass_two : (rules : StructureRules) (p q : Record) (b : List Symbol) (items : List Item)
    → Where rules.headed (is_said (codes "FILE_DESCRIPTION") p.keyword ≡ true)
    → Where rules.headed (is_said (codes "FILE_NAME") q.keyword ≡ true) → FitsRecords rules (p ∷ q ∷ [])
    → Passing rules b items []
    → Passing rules (two_symbols ++ b) (items_of_start ++ (items_of_record p ++ this (mark Semicolon)
    ∷ (items_of_record q ++ this (mark Semicolon) ∷ items))) []
pass_two rules p q b items d e f go =
    pass_start rules (Head (codes "FILE_DESCRIPTION") ∷ Just Semicolon ∷ Head (codes "FILE_NAME") ∷ Just Semicolon ∷ b)
    (items_of_record p ++ this (mark Semicolon) ∷ (items_of_record q ++ this (mark Semicolon) ∷ items))
    (pass_head_line rules (codes "FILE_DESCRIPTION") p (Head (codes "FILE_NAME") ∷ Just Semicolon ∷ b)
    (items_of_record q ++ this (mark Semicolon) ∷ items) d f.0
    (pass_head_line rules (codes "FILE_NAME") q b items e f.1.0 go))

pub regroup_two : (a : List Item) (i : Item) (b c : List Item) → a ++ i ∷ (b ++ i ∷ []) ++ c ≡ a ++ i ∷ (b ++ i ∷ c)
regroup_two a i b c = append_assoc a (i ∷ (b ++ i ∷ [])) c ∙ ap (λ l. a ++ i ∷ l) (append_assoc b (i ∷ []) c)

-- what begins the file, and the first three records of the header
pub pass_opening : (rules : StructureRules) (p q r : Record) → FitsRecords rules (p ∷ q ∷ r ∷ [])
    → Where rules.headed (IsHeader (p ∷ q ∷ r ∷ [])) → Passing rules opening_symbols (items_of_opening p q r) []
pass_opening rules p q r f d =
    pass_as rules opening_symbols [] (items_of_start ++ (items_of_record p ++ this (mark Semicolon) ∷ (items_of_record q
    ++ this (mark Semicolon) ∷ items_of_record r))) (items_of_opening p q r)
    (ap (λ l. items_of_start ++ l) (sym (regroup_two (items_of_record p) (this (mark Semicolon)) (items_of_record q)
    (items_of_record r))))
    (pass_two rules p q (Head (codes "FILE_SCHEMA") ∷ []) (items_of_record r) (where_map rules.headed (λ e. e.0) d)
    (where_map rules.headed (λ e. e.1) d) (f.0, (f.1.0, tt))
    (pass_head rules (codes "FILE_SCHEMA") r (where_map rules.headed (λ e. e.2) d) f.1.1.0))

-- the beginning of the file and the first three records of the header, with the last semicolon
pub pass_opened : (rules : StructureRules) (p q r : Record) → FitsRecords rules (p ∷ q ∷ r ∷ [])
    → Where rules.headed (IsHeader (p ∷ q ∷ r ∷ [])) → Passing rules (opening_symbols ++ Just Semicolon ∷ [])
    (items_of_opening p q r ++ this (mark Semicolon) ∷ []) []
pass_opened rules p q r f d = pass_then rules opening_symbols (Just Semicolon ∷ []) [] (items_of_opening p q r)
    (this (mark Semicolon) ∷ []) (pass_opening rules p q r f d) (pass_mark rules Semicolon)

regroup_header : (a b c d e : List Item) (i : Item) → (a ++ i ∷ (b ++ i ∷ (c ++ i ∷ d)))
    ++ e ≡ (a ++ i ∷ (b ++ i ∷ []) ++ c) ++ i ∷ (d ++ e)
regroup_header a b c d e i =
    append_assoc a (i ∷ (b ++ i ∷ (c ++ i ∷ d))) e
    ∙ ap (λ l. a ++ i ∷ l) (append_assoc b (i ∷ (c ++ i ∷ d)) e)
    ∙ ap (λ l. a ++ i ∷ (b ++ i ∷ l)) (append_assoc c (i ∷ d) e)
    ∙ sym (append_assoc (a ++ i ∷ (b ++ i ∷ [])) c (i ∷ (d ++ e)) ∙ regroup_two a i b (c ++ i ∷ (d ++ e)))

-- the tokens of a header are those up to its third record, a semicolon, and the others with its end
pub header_items : (p q r : Record) (more : List Record) → items_of_header (p ∷ q ∷ r ∷ more) ≡ items_of_opening p q r
    ++ this (mark Semicolon) ∷ (items_of_records more ++ section (codes "ENDSEC"))
header_items p q r more =
    ap (λ l. items_of_start ++ l) (regroup_header (items_of_record p) (items_of_record q) (items_of_record r)
    (items_of_records more) (section (codes "ENDSEC")) (this (mark Semicolon)))

-- the header
pub pass_header : (rules : StructureRules) (header : List Record) → FitsHeader rules header
    → Passing rules header_symbols (items_of_header header) []
pass_header rules [] f = absurd f.1
pass_header rules (p ∷ []) f = absurd f.1
pass_header rules (p ∷ q ∷ []) f = absurd f.1
pass_header rules (p ∷ q ∷ r ∷ more) f =
    let last = items_of_records more ++ section (codes "ENDSEC") in
    pass_as rules header_symbols [] (items_of_opening p q r ++ this (mark Semicolon) ∷ last)
    (items_of_header (p ∷ q ∷ r ∷ more)) (sym (header_items p q r more))
    (pass_then rules opening_symbols (Just Semicolon ∷ Records ∷ []) [] (items_of_opening p q r) (this (mark Semicolon)
    ∷ last) (pass_opening rules p q r (f.0.0, (f.0.1.0, (f.0.1.1.0, tt))) f.2)
    (take_mark rules Semicolon (Records ∷ []) [] last (pass_records rules more f.0.1.1.1)))

-- the word and the heading of a data section
next_data_word : (rules : StructureRules) (k : ℕ) (names text : List ℕ) → k < rules.sections
    → is_said (codes "DATA") text ≡ true
    → next rules (Sections k names) (token (keyword text)) ≡ Ok (Behind ∷ Rows (suc k) names ∷ [])
next_data_word rules k names text h e = let l : ltb k rules.sections ≡ true = grind (arith, h) in rw (e, l) refl

pub pass_heading : (rules : StructureRules) (h : Option (List ℕ × List ℕ))
    → Passing rules (Behind ∷ []) (items_of_heading h ++ this (mark Semicolon) ∷ []) []
pass_heading rules None = pass_this rules Behind [] [] [] (mark Semicolon) [] refl (pass_here rules [])
pass_heading rules (Some h) =
    let closing = this (mark Close) ∷ this (mark Close) ∷ this (mark Semicolon) ∷ [] in
    let close = Just Close ∷ Just Close ∷ Just Semicolon ∷ [] in
    pass_this rules Behind heading_symbols [] [] (mark Open) (this (string h.0) ∷ this (mark Comma) ∷ this (mark Open)
    ∷ this (string h.1) ∷ closing) refl
    (pass_this rules Quoted [] (Just Comma ∷ Just Open ∷ Quoted ∷ close) [] (string h.0) (this (mark Comma)
    ∷ this (mark Open) ∷ this (string h.1) ∷ closing) refl
    (take_mark rules Comma (Just Open ∷ Quoted ∷ close) [] (this (mark Open) ∷ this (string h.1) ∷ closing)
    (take_mark rules Open (Quoted ∷ close) [] (this (string h.1) ∷ closing)
    (pass_this rules Quoted [] close [] (string h.1) closing refl
    (take_mark rules Close (Just Close ∷ Just Semicolon ∷ []) [] (this (mark Close) ∷ this (mark Semicolon) ∷ [])
    (take_mark rules Close (Just Semicolon ∷ []) [] (this (mark Semicolon) ∷ []) (pass_mark rules Semicolon)))))))

next_rows_end : (rules : StructureRules) (k : ℕ) (names text : List ℕ) → is_said (codes "ENDSEC") text ≡ true
    → next rules (Rows k names) (token (keyword text)) ≡ Ok (Just Semicolon ∷ Sections k names ∷ [])
next_rows_end rules k names text h = rw h refl

-- the end of a data section
pub pass_rows_end : (rules : StructureRules) (k : ℕ) (names : List ℕ)
    → Passing rules (Rows k names ∷ []) (section (codes "ENDSEC")) (Sections k names ∷ [])
pass_rows_end rules k names =
    let after = Sections k names ∷ [] in
    pass_item rules (Rows k names) (Just Semicolon ∷ after) [] after (says (codes "ENDSEC")) (this (mark Semicolon)
    ∷ []) (takes_says rules (Rows k names) (Just Semicolon ∷ after) (codes "ENDSEC") (next_rows_end rules k names))
    (take_mark rules Semicolon after after [] (pass_here rules after))

-- the items of a section behind its word, cut behind its heading
pub regroup_heading : (h : List Item) (i : Item) (l : List Item) → (h ++ i ∷ []) ++ l ≡ h ++ i ∷ l
regroup_heading h i l = append_assoc h (i ∷ []) l

-- the end of a section, other sections, and the end of the file
abbrev pub items_behind : List Section → List Item
items_behind xs = section (codes "ENDSEC") ++ (items_of_sections xs ++ items_of_end)

-- data sections: the first one cut behind its heading, and behind its instances
pub regroup_sections : (x : Section) (xs : List Section) → (items_of_heading x.heading ++ this (mark Semicolon) ∷ [])
    ++ (items_of_rows x.rows ++ items_behind xs) ≡ (items_of_heading x.heading ++ this (mark Semicolon)
    ∷ (items_of_rows x.rows ++ section (codes "ENDSEC"))) ++ items_of_sections xs ++ items_of_end
regroup_sections x xs =
    let semi = this (mark Semicolon) in
    let h = items_of_heading x.heading in
    let r = items_of_rows x.rows in
    let e = section (codes "ENDSEC") in
    let more = items_of_sections xs ++ items_of_end in
    regroup_heading h semi (r ++ (e ++ more))
    ∙ ap (λ l. h ++ semi ∷ l) (sym (append_assoc r e more))
    ∙ sym (append_assoc h (semi ∷ (r ++ e)) more)
    ∙ sym (append_assoc (h ++ semi ∷ (r ++ e)) (items_of_sections xs) items_of_end)

-- a data section
pub pass_section : (rules : StructureRules) (x : Section) (k : ℕ) (names : List ℕ) → k < rules.sections
    → FitsRows rules names x.rows → Passing rules (Sections k names ∷ []) (items_of_section x)
    (Sections (suc k) (names_after names x.rows) ∷ [])
pass_section rules x k names few f =
    let after = Sections (suc k) (names_after names x.rows) ∷ [] in
    let semi = this (mark Semicolon) in
    let lines = items_of_rows x.rows ++ section (codes "ENDSEC") in
    pass_item rules (Sections k names) (Behind ∷ Rows (suc k) names ∷ []) [] after (says (codes "DATA"))
    (items_of_heading x.heading ++ semi ∷ lines)
    (takes_says rules (Sections k names) (Behind ∷ Rows (suc k) names ∷ []) (codes "DATA")
    (λ text e. next_data_word rules k names text few e))
    (pass_as rules (Behind ∷ Rows (suc k) names ∷ []) after ((items_of_heading x.heading ++ semi ∷ []) ++ lines)
    (items_of_heading x.heading ++ semi ∷ lines) (regroup_heading (items_of_heading x.heading) semi lines)
    (pass_then rules (Behind ∷ []) (Rows (suc k) names ∷ []) after (items_of_heading x.heading ++ semi ∷ []) lines
    (pass_heading rules x.heading)
    (pass_join rules (Rows (suc k) names ∷ []) (Rows (suc k) (names_after names x.rows) ∷ []) after
    (items_of_rows x.rows) (section (codes "ENDSEC")) (pass_rows rules x.rows (suc k) names f)
    (pass_rows_end rules (suc k) (names_after names x.rows)))))

-- what is to come behind data sections
abbrev pub sections_after : ℕ → List ℕ → List Section → Symbol
sections_after k names [] = Sections k names
sections_after k names (x ∷ xs) = sections_after (suc k) (names_after names x.rows) xs

pub pass_sections : (rules : StructureRules) (xs : List Section) (k : ℕ) (names : List ℕ) → k + length xs ≤ rules.sections
    → FitsRows rules names (rows_of xs) → Passing rules (Sections k names ∷ []) (items_of_sections xs)
    (sections_after k names xs ∷ [])
pass_sections rules [] k names few f = pass_here rules (Sections k names ∷ [])
pass_sections rules (x ∷ xs) k names few f =
    let g = fits_both rules x.rows (rows_of xs) names f in
    pass_join rules (Sections k names ∷ []) (Sections (suc k) (names_after names x.rows) ∷ [])
    (sections_after (suc k) (names_after names x.rows) xs ∷ []) (items_of_section x) (items_of_sections xs)
    (pass_section rules x k names (omega (arith, few)) g.0)
    (pass_sections rules xs (suc k) (names_after names x.rows) (omega (arith, few)) g.1)

-- the end of the file
pub pass_end : (rules : StructureRules) (xs : List Section) (k : ℕ) (names : List ℕ)
    → Passing rules (sections_after (suc k) names xs ∷ []) items_of_end []
pass_end rules [] k names =
    pass_this rules (Sections (suc k) names) (Just Semicolon ∷ EndOfText ∷ []) [] [] ends (this (mark Semicolon)
    ∷ finish ∷ []) refl
    (take_mark rules Semicolon (EndOfText ∷ []) [] (finish ∷ [])
    (pass_item rules EndOfText [] [] [] finish [] (λ s h. ap (next rules EndOfText) (meets_finish s h))
    (pass_here rules [])))
pass_end rules (x ∷ xs) k names = pass_end rules xs (suc k) (names_after names x.rows)

-- the data sections and the end
pub pass_rest : (rules : StructureRules) (xs : List Section) → FitsSections rules xs → Passing rules data_symbols
    (items_of_sections xs ++ items_of_end) []
pass_rest rules [] f = absurd (let e : ⊥ = omega (arith, f.0) in e)
pass_rest rules (x ∷ xs) f =
    pass_join rules data_symbols (sections_after 0 [] (x ∷ xs) ∷ []) [] (items_of_sections (x ∷ xs)) items_of_end
    (pass_sections rules (x ∷ xs) 0 [] (omega (arith, f.1)) f.2) (pass_end rules xs 0 (names_after [] x.rows))

-- the header and the data sections
pub pass_sectioned : (rules : StructureRules) (x : File) → FitsFile rules x → Passing rules file_symbols
    (items_of_header x.header ++ items_of_sections x.sections) (sections_after 0 [] x.sections ∷ [])
pass_sectioned rules x f = pass_then rules header_symbols data_symbols (sections_after 0 [] x.sections ∷ [])
    (items_of_header x.header) (items_of_sections x.sections) (pass_header rules x.header f.0)
    (pass_sections rules x.sections 0 [] (omega (arith, f.1.1)) f.1.2)

-- a whole structure
pub pass_file : (rules : StructureRules) (ws : List Lookahead) → IsFile rules ws → Leads (next rules) file_symbols ws []
pass_file rules ws h =
    let x = h.0 in
    pass_as rules file_symbols [] (items_of_header x.header ++ (items_of_sections x.sections ++ items_of_end))
    (items_of_header x.header ++ items_of_sections x.sections ++ items_of_end)
    (sym (append_assoc (items_of_header x.header) (items_of_sections x.sections) items_of_end))
    (pass_then rules header_symbols data_symbols [] (items_of_header x.header) (items_of_sections x.sections
    ++ items_of_end) (pass_header rules x.header h.1.0) (pass_rest rules x.sections h.1.1)) ws h.2
