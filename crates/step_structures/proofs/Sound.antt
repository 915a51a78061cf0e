-- What leads from what is to come, by the table, to nothing more is a structure, or the part of one that is asked for.
use Rattle.std.proofs.Common.{◌≡◌, ℕ, ◌+◌, ◌<◌, Bool, true, false, not, ◌&&◌, eqb, ltb, suc, zero, ◌-◌, ◌≤◌, List, [], ◌∷◌, ◌++◌, length, Option, Some, None, Ok, Err, codes, refl, sym, ap, ◌∙◌, subst, append_assoc, append-nil, arith, if◌then◌else◌, ◌⊎◌, inl, inr, MatchResult}
use Rattle.parsing.proofs.Leading.{Leads}
use Rattle.step_lexer.specs.declared.token.Mark.{Mark}
use Rattle.step_lexer.specs.declared.token.Mark.TheVariants.{Open, Close, Comma, Semicolon, Equals, Dollar, Asterisk}
use Rattle.step_structures.specs.declared.fault.FaultKind.{FaultKind}
use Rattle.step_structures.specs.declared.fault.FaultKind.TheVariants as kinds
use Rattle.step_structures.specs.declared.fault.LeftOut.TheVariants as left_out
use Rattle.step_structures.specs.Words.{begins, ends, keyword, name, number, element, string, binary, mark, Lookahead, token, end_of_text}
use Rattle.step_structures.specs.Trees.{Tree, leaf, typed, group, Trees, none, one, Record, Form, internal, external, ExchangeRow, Section, rows_of, Item, this, says, finish, is_said, MeetAll, items_of_tree, items_of_more, items_of_list, items_of_record, items_of_partial_records, items_of_form, items_of_rows, items_of_records, section, items_of_start, items_of_header, items_of_heading, items_of_sections, items_of_end}
use Rattle.step_structures.specs.Fits.{StructureRules, FitsTree, FitsTrees, FitsRecord, Where, has_keyword, FitsPartialRecords, FitsForm, has_name, FitsRows, FitsRecords, IsHeader, FitsHeader}
use Rattle.step_structures.specs.Texts.{items_of_opening}
use Rattle.step_structures.specs.steps.Predict.{refused, Symbol, Just, Start, Say, Head, Records, Ended, Sections, Behind, Quoted, Rows, Body, PartialRecords, Value, Items, More, EndOfText, Next, mark_code, record_symbols, row_symbols, heading_symbols, opening_symbols, header_symbols, data_symbols, file_symbols, next_end, section_kind, next, next_value, next_close, then_more, IsFile}
use Rattle.step_structures.proofs.Meeting.{meet_join, meet_as}
use Rattle.step_structures.proofs.Passing.{regroup_two, header_items, items_behind, regroup_sections}

-- what a symbol asks for stands
abbrev pub Lang : StructureRules → Symbol → List Lookahead → Type 0
Lang rules (Just m) ws = MeetAll ws (this (mark m) ∷ [])
Lang rules Start ws = MeetAll ws (this begins ∷ [])
Lang rules (Say word) ws = MeetAll ws (says word ∷ [])
Lang rules (Head word) ws = (p : Record) × FitsRecord rules 0 p × Where rules.headed (is_said word p.keyword ≡ true)
    × MeetAll ws (items_of_record p)
Lang rules Records ws = (ps : List Record) × FitsRecords rules ps
    × MeetAll ws (items_of_records ps ++ section (codes "ENDSEC"))
Lang rules Ended ws = MeetAll ws (this (mark Semicolon) ∷ [])
    ⊎ ((xs : Trees) × (ps : List Record) × FitsTrees rules 1 xs × FitsRecords rules ps
    × MeetAll ws (this (mark Open) ∷ (items_of_list xs ++ this (mark Semicolon) ∷ items_of_records ps
    ++ section (codes "ENDSEC"))))
Lang rules (Sections k names) ws = (xs : List Section) × (0 < k + length xs) × (length xs ≤ rules.sections - k)
    × FitsRows rules names (rows_of xs) × MeetAll ws (items_of_sections xs ++ items_of_end)
Lang rules Behind ws = (h : Option (List ℕ × List ℕ)) × MeetAll ws (items_of_heading h ++ this (mark Semicolon) ∷ [])
Lang rules Quoted ws = (text : List ℕ) × MeetAll ws (this (string text) ∷ [])
Lang rules (Rows k names) ws = (rs : List ExchangeRow) × (xs : List Section) × (length xs ≤ rules.sections - k)
    × FitsRows rules names (rs ++ rows_of xs) × MeetAll ws (items_of_rows rs ++ items_behind xs)
Lang rules Body ws = (x : Form) × FitsForm rules x × MeetAll ws (items_of_form x)
Lang rules (PartialRecords before) ws = (ps : List Record) × (0 < length before + length ps)
    × FitsPartialRecords rules before ps × MeetAll ws (items_of_partial_records ps ++ this (mark Close) ∷ [])
Lang rules (Value n) ws = (x : Tree) × FitsTree rules n x × MeetAll ws (items_of_tree x)
Lang rules (Items n) ws = (xs : Trees) × FitsTrees rules n xs × MeetAll ws (items_of_list xs)
Lang rules (More n) ws = (xs : Trees) × FitsTrees rules n xs × MeetAll ws (items_of_more xs ++ this (mark Close) ∷ [])
Lang rules EndOfText ws = MeetAll ws (finish ∷ [])

-- what symbols ask for, one after another
abbrev pub Langs : StructureRules → List Symbol → List Lookahead → Type 0
Langs rules [] ws = ws ≡ []
Langs rules (y ∷ ys) ws = (u v : List Lookahead) × (ws ≡ u ++ v) × Lang rules y u × Langs rules ys v

pub langs_split : (rules : StructureRules) (zs ys : List Symbol) (ws : List Lookahead) → Langs rules (zs ++ ys) ws
    → (u v : List Lookahead) × (ws ≡ u ++ v) × Langs rules zs u × Langs rules ys v
langs_split rules [] ys ws h = ([], ws, refl, refl, h)
langs_split rules (z ∷ zs) ys ws h =
    let p = langs_split rules zs ys h.1 h.4 in (
      h.0 ++ p.0,
      p.1,
      h.2 ∙ ap (λ l. h.0 ++ l) p.2 ∙ sym (append_assoc h.0 p.0 p.1),
      (h.0, p.0, refl, h.3, p.3),
      p.4,
    )

pub single : (rules : StructureRules) (y : Symbol) (ws : List Lookahead) → Langs rules (y ∷ []) ws → Lang rules y ws
single rules y ws h = subst (Lang rules y) (sym (append-nil h.0) ∙ ap (λ l. h.0 ++ l) (sym h.4) ∙ sym h.2) h.3

-- some items and others
joined : (ws u v : List Lookahead) (a b : List Item) → ws ≡ u ++ v → MeetAll u a → MeetAll v b → MeetAll ws (a ++ b)
joined ws u v a b e h k = subst (λ l. MeetAll l (a ++ b)) (sym e) (meet_join u v a b h k)

-- a symbol is there, if this stands first and then what comes in its place
abbrev Held : StructureRules → Symbol → Lookahead → List Symbol → Type 0
Held rules y s zs = (ws : List Lookahead) → Langs rules zs ws → Lang rules y (s ∷ ws)

abbrev Answer : StructureRules → Symbol → Lookahead → Next → Type 0
Answer rules y s v = MatchResult v (Held rules y s) (λ _. Unit {0})

abbrev Production : StructureRules → Symbol → Lookahead → Type 0
Production rules y s = Answer rules y s (next rules y s)

neither : (rules : StructureRules) (y : Symbol) (s : Lookahead) (k j : FaultKind) (b : Bool)
    → Answer rules y s (if b then Err k else Err j)
neither rules y s k j true = tt
neither rules y s k j false = tt

-- a symbol that a token alone is
at_end : (rules : StructureRules) (y : Symbol) (s : Lookahead) (i : Item) → MeetAll (s ∷ []) (i ∷ [])
    → ((ws : List Lookahead) → MeetAll ws (i ∷ []) → Lang rules y ws) → Held rules y s []
at_end rules y s i m f = λ ws h. f (s ∷ ws) (subst (λ l. MeetAll (s ∷ l) (i ∷ [])) (sym h) m)

-- marks
mark_of : ℕ → Mark
mark_of n = if eqb n 0 then Open else (if eqb n 1 then Close else
    (if eqb n 2 then Comma else (if eqb n 3 then Semicolon else
    (if eqb n 4 then Equals else (if eqb n 5 then Dollar else Asterisk)))))

mark_of-code : (m : Mark) → mark_of (mark_code m) ≡ m
unfolding mark_of
mark_of-code Open = refl
mark_of-code Close = refl
mark_of-code Comma = refl
mark_of-code Semicolon = refl
mark_of-code Equals = refl
mark_of-code Dollar = refl
mark_of-code Asterisk = refl

pub same_mark : (m k : Mark) → eqb (mark_code m) (mark_code k) ≡ true → k ≡ m
same_mark m k h =
    let e : mark_code m ≡ mark_code k = grind arith in
    sym (mark_of-code k) ∙ ap mark_of (sym e) ∙ mark_of-code m

just_held : (rules : StructureRules) (m k : Mark) (b : Bool) → eqb (mark_code m) (mark_code k) ≡ b
    → Answer rules (Just m) (token (mark k)) (if b then Ok [] else Err (refused (token (mark k))))
just_held rules m k true g = at_end rules (Just m) (token (mark k)) (this (mark m)) (ap mark (same_mark m k g), tt)
    (λ ws h. h)
just_held rules m k false g = tt

just_production : (rules : StructureRules) (m : Mark) (s : Lookahead) → Production rules (Just m) s
just_production rules m (token (mark k)) = just_held rules m k (eqb (mark_code m) (mark_code k)) refl
just_production rules m s = tt

open_below : (n levels : ℕ) → ltb n levels ≡ true → n < levels
open_below n levels h = grind arith

-- a parameter
leaf_held : (rules : StructureRules) (n : ℕ) (s : Lookahead) (x : Tree) (i : Item) → FitsTree rules n x
    → items_of_tree x ≡ i ∷ []
    → MeetAll (s ∷ []) (i ∷ []) → Held rules (Value n) s []
leaf_held rules n s x i f e m = at_end rules (Value n) s i m (λ ws h. (
  x,
  f,
  meet_as ws (i ∷ []) (items_of_tree x)
      (sym e) h,
))

typed_held : (rules : StructureRules) (n : ℕ) (text : List ℕ) (b : Bool) → ltb n rules.levels ≡ b
    → Answer rules (Value n) (token (keyword text)) (if b then Ok (Just Open ∷ Value (n + 1) ∷ Just Close ∷ []) else Err
    kinds.TooDeep)
typed_held rules n text true g = λ ws h.
    let k = h.4 in
    let x = k.3 in
    let close = single rules (Just Close) k.1 k.4 in (
      typed text x.0,
      (open_below n rules.levels g, x.1),
      (
        refl,
        joined ws h.0 h.1 (this (mark Open) ∷ []) (items_of_tree x.0 ++ this (mark Close) ∷ []) h.2 h.3
            (joined h.1 k.0 k.1 (items_of_tree x.0) (this (mark Close) ∷ []) k.2 x.2 close),
      ),
    )
typed_held rules n text false g = tt

group_held : (rules : StructureRules) (n : ℕ) (b : Bool) → ltb n rules.levels ≡ b → Answer rules (Value n) (token (mark Open))
    (if b then Ok (Items (n + 1) ∷ []) else Err kinds.TooDeep)
group_held rules n true g = λ ws h.
    let xs = single rules (Items (n + 1)) ws h in
    (group xs.0, (open_below n rules.levels g, xs.1), (refl, xs.2))
group_held rules n false g = tt

value_production : (rules : StructureRules) (n : ℕ) (s : Lookahead) → Production rules (Value n) s
value_production rules n (token (mark Dollar)) = leaf_held rules n (token (mark Dollar)) (leaf (mark Dollar))
    (this (mark Dollar)) tt refl (refl, tt)
value_production rules n (token (mark Asterisk)) = leaf_held rules n (token (mark Asterisk)) (leaf (mark Asterisk))
    (this (mark Asterisk)) tt refl (refl, tt)
value_production rules n (token (name m text)) = leaf_held rules n (token (name m text)) (leaf (name m text))
    (this (name m text)) tt refl (refl, tt)
value_production rules n (token (number text)) = leaf_held rules n (token (number text)) (leaf (number text))
    (this (number text)) tt refl (refl, tt)
value_production rules n (token (element text)) = leaf_held rules n (token (element text)) (leaf (element text))
    (this (element text)) tt refl (refl, tt)
value_production rules n (token (string text)) = leaf_held rules n (token (string text)) (leaf (string text))
    (this (string text)) tt refl (refl, tt)
value_production rules n (token (binary text)) = leaf_held rules n (token (binary text)) (leaf (binary text))
    (this (binary text)) tt refl (refl, tt)
value_production rules n (token (keyword text)) = typed_held rules n text (ltb n rules.levels) refl
value_production rules n (token (mark Open)) = group_held rules n (ltb n rules.levels) refl
value_production rules n s = tt

-- parameters
list_joined : (ws u v : List Lookahead) (x : Tree) (xs : Trees) → ws ≡ u ++ v → MeetAll u (items_of_tree x)
    → MeetAll v (items_of_more xs ++ this (mark Close) ∷ [])
    → MeetAll ws (items_of_tree x ++ items_of_more xs ++ this (mark Close) ∷ [])
list_joined ws u v x xs e h k =
    let tail = items_of_more xs ++ this (mark Close) ∷ [] in
    meet_as ws (items_of_tree x ++ tail) (items_of_tree x ++ items_of_more xs ++ this (mark Close) ∷ [])
    (sym (append_assoc (items_of_tree x) (items_of_more xs) (this (mark Close) ∷ [])))
    (joined ws u v (items_of_tree x) tail e h k)

items_from_value : (rules : StructureRules) (n : ℕ) (s : Lookahead) (v : Next) → Answer rules (Value n) s v
    → Answer rules (Items n) s (then_more n v)
items_from_value rules n s (Err k) f = tt
items_from_value rules n s (Ok zs) f = λ ws h.
    let p = langs_split rules zs (More n ∷ []) ws h in
    let y = f p.0 p.3 in
    let ys = single rules (More n) p.1 p.4 in
    (one y.0 ys.0, (y.1, ys.1), list_joined (s ∷ ws) (s ∷ p.0) p.1 y.0 ys.0 (ap (λ l. s ∷ l) p.2) y.2 ys.2)

items_production : (rules : StructureRules) (n : ℕ) (s : Lookahead) → Production rules (Items n) s
items_production rules n (token (mark Close)) = at_end rules (Items n) (token (mark Close)) (this (mark Close))
    (refl, tt) (λ ws h. (none, tt, h))
items_production rules n s = items_from_value rules n s (next_value rules n s) (value_production rules n s)

more_production : (rules : StructureRules) (n : ℕ) (s : Lookahead) → Production rules (More n) s
more_production rules n (token (mark Close)) = at_end rules (More n) (token (mark Close)) (this (mark Close))
    (refl, tt) (λ ws h. (none, tt, h))
more_production rules n (token (mark Comma)) = λ ws h.
    let y = h.3 in
    let ys = single rules (More n) h.1 h.4 in
    (one y.0 ys.0, (y.1, ys.1), (refl, list_joined ws h.0 h.1 y.0 ys.0 h.2 y.2 ys.2))
more_production rules n s = tt

-- a rule that rules nothing out holds where it is asked for
unruled : (d b : Bool) → (d && b) ≡ false → Where d (b ≡ false)
unruled true b h = h
unruled false b h = tt

unruled_not : (d b : Bool) → (d && not b) ≡ false → Where d (b ≡ true)
unruled_not true true h = refl
unruled_not true false h = cc
unruled_not false b h = tt

-- parameters in parentheses, and what is behind them
params_joined : (ws a b u v : List Lookahead) (xs : Trees) (items : List Item) → ws ≡ a ++ b → b ≡ u ++ v
    → MeetAll a (this (mark Open) ∷ []) → MeetAll u (items_of_list xs) → MeetAll v items
    → MeetAll ws (this (mark Open) ∷ (items_of_list xs ++ items))
params_joined ws a b u v xs items e f h k l = joined ws a b (this (mark Open) ∷ []) (items_of_list xs ++ items) e h
    (joined b u v (items_of_list xs) items f k l)

-- partial records
partial_held : (rules : StructureRules) → 1 < rules.levels → (before : List (List ℕ)) (text : List ℕ) (b : Bool)
    → (rules.distinct && has_keyword text before) ≡ b → Answer rules (PartialRecords before) (token (keyword text))
    (if b then Err kinds.DuplicateName else Ok (Just Open ∷ Items 2 ∷ PartialRecords (before ++ text ∷ []) ∷ []))
partial_held rules deep before text true g = tt
partial_held rules deep before text false g = λ ws h.
    let k = h.4 in
    let xs = k.3 in
    let ps = single rules (PartialRecords (before ++ text ∷ [])) k.1 k.4 in
    let p : Record = record { keyword = text; values = xs.0 } in
    let close = this (mark Close) ∷ [] in (
      p ∷ ps.0,
      omega arith,
      (unruled rules.distinct (has_keyword text before) g, (deep, xs.1), ps.2),
      (
        refl,
        meet_as ws (this (mark Open) ∷ (items_of_list xs.0 ++ (items_of_partial_records ps.0 ++ close)))
            (this (mark Open) ∷ (items_of_list xs.0 ++ items_of_partial_records ps.0 ++ close))
            (ap (λ l. this (mark Open) ∷ l) (sym (append_assoc (items_of_list xs.0) (items_of_partial_records ps.0)
            close)))
            (params_joined ws h.0 h.1 k.0 k.1 xs.0 (items_of_partial_records ps.0 ++ close) h.2 k.2 h.3 xs.2 ps.3),
      ),
    )

close_held : (rules : StructureRules) (before : List (List ℕ)) → Answer rules (PartialRecords before) (token (mark Close))
    (next_close before)
close_held rules [] = tt
close_held rules (w ∷ before) = at_end rules (PartialRecords (w ∷ before)) (token (mark Close)) (this (mark Close))
    (refl, tt) (λ ws h. ([], omega arith, tt, h))

partials_production : (rules : StructureRules) → 1 < rules.levels → (before : List (List ℕ)) (s : Lookahead)
    → Production rules (PartialRecords before) s
partials_production rules deep before (token (keyword text)) = partial_held rules deep before text
    (rules.distinct && has_keyword text before) refl
partials_production rules deep before (token (mark Close)) = close_held rules before
partials_production rules deep before s = tt

-- parameters in parentheses
list_held : (rules : StructureRules) (ws : List Lookahead) → Langs rules record_symbols ws → (xs : Trees)
    × FitsTrees rules 1 xs × MeetAll ws (this (mark Open) ∷ items_of_list xs)
list_held rules ws h = let xs = single rules (Items 1) h.1 h.4 in
    (xs.0, xs.1, joined ws h.0 h.1 (this (mark Open) ∷ []) (items_of_list xs.0) h.2 h.3 xs.2)

body_production : (rules : StructureRules) → 1 < rules.levels → (s : Lookahead) → Production rules Body s
body_production rules deep (token (keyword text)) = λ ws h.
    let xs = list_held rules ws h in
    (internal (record { keyword = text; values = xs.0 }), (omega (arith, deep), xs.1), (refl, xs.2))
body_production rules deep (token (mark Open)) = λ ws h.
    let ps = single rules (PartialRecords []) ws h in
    (external ps.0, (omega (arith, deep), omega (arith, ps.1), ps.2), (refl, ps.3))
body_production rules deep s = tt

-- instances
name_held : (rules : StructureRules) (k : ℕ) (names : List ℕ) (n : ℕ) (text : List ℕ) (a b : Bool)
    → (rules.distinct && has_name n names) ≡ a → ltb (length names) rules.instances ≡ b → Answer rules (Rows k names)
    (token (name n text)) (if a then Err kinds.DuplicateName else
    (if b then Ok (row_symbols ++ Rows k (names ++ n ∷ []) ∷ []) else Err (kinds.LeftOut left_out.TooMany)))
name_held rules k names n text true b g e = tt
name_held rules k names n text false false g e = tt
name_held rules k names n text false true g e = λ ws h.
    let form = h.4 in
    let semi = form.4 in
    let x = form.3 in
    let rs = single rules (Rows k (names ++ n ∷ [])) semi.1 semi.4 in
    let r : ExchangeRow = record { name = n; form = x.0 } in
    let equals = this (mark Equals) ∷ [] in
    let semicolon = this (mark Semicolon) ∷ [] in
    let last = items_of_rows rs.0 ++ items_behind rs.1 in
    let items = items_of_form x.0 ++ semicolon in
    let d : this (mark Equals) ∷ (items_of_form x.0 ++ (semicolon ++ last)) ≡ this (mark Equals)
    ∷ (items ++ items_of_rows rs.0 ++ items_behind rs.1) = ap (λ l. this (mark Equals) ∷ l)
    (sym (append_assoc (items_of_form x.0) semicolon last) ∙ sym (append_assoc items (items_of_rows rs.0)
    (items_behind rs.1))) in (
      r ∷ rs.0,
      rs.1,
      rs.2,
      (unruled rules.distinct (has_name n names) g, open_below (length names) rules.instances e, x.1, rs.3),
      (
        refl,
        meet_as ws (this (mark Equals) ∷ (items_of_form x.0 ++ (semicolon ++ last))) (this (mark Equals)
            ∷ (items ++ items_of_rows rs.0 ++ items_behind rs.1)) d
            (joined ws h.0 h.1 equals (items_of_form x.0 ++ (semicolon ++ last)) h.2 h.3
            (joined h.1 form.0 form.1 (items_of_form x.0) (semicolon ++ last) form.2 x.2
            (joined form.1 semi.0 semi.1 semicolon last semi.2 semi.3 rs.4))),
      ),
    )

rows_end_held : (rules : StructureRules) (k : ℕ) (names text : List ℕ) (b : Bool) → is_said (codes "ENDSEC") text ≡ b
    → Answer rules (Rows k names) (token (keyword text)) (if b then Ok (Just Semicolon ∷ Sections k names ∷ []) else
    Err kinds.Expected)
rows_end_held rules k names text true g = λ ws h.
    let xs = single rules (Sections k names) h.1 h.4 in (
      [],
      xs.0,
      xs.2,
      xs.3,
      (
        g,
        joined ws h.0 h.1 (this (mark Semicolon) ∷ []) (items_of_sections xs.0 ++ items_of_end)
            h.2 h.3 xs.4,
      ),
    )
rows_end_held rules k names text false g = tt

rows_production : (rules : StructureRules) (k : ℕ) (names : List ℕ) (s : Lookahead) → Production rules (Rows k names) s
rows_production rules k names (token (name n text)) = name_held rules k names n text
    (rules.distinct && has_name n names) (ltb (length names) rules.instances) refl refl
rows_production rules k names (token (keyword text)) = rows_end_held rules k names text (is_said (codes "ENDSEC") text)
    refl
rows_production rules k names s = tt

section_held : (rules : StructureRules) (k : ℕ) (names text : List ℕ) → is_said (codes "DATA") text ≡ true → (b : Bool)
    → ltb k rules.sections ≡ b → Answer rules (Sections k names) (token (keyword text))
    (if b then Ok (Behind ∷ Rows (suc k) names ∷ []) else Err (kinds.LeftOut left_out.TooMany))
section_held rules k names text g false e = tt
section_held rules k names text g true e = λ ws h.
    let heading = h.3 in
    let rs = single rules (Rows (suc k) names) h.1 h.4 in
    let x : Section = record { heading = heading.0; rows = rs.0 } in
    let few = open_below k rules.sections e in
    let begun = items_of_heading heading.0 ++ this (mark Semicolon) ∷ [] in
    let lines = items_of_rows rs.0 ++ items_behind rs.1 in (
      x ∷ rs.1,
      omega arith,
      omega (arith, few, rs.2),
      rs.3,
      (
        g,
        meet_as ws (begun ++ lines) ((items_of_heading heading.0 ++ this (mark Semicolon) ∷ (items_of_rows rs.0
            ++ section (codes "ENDSEC"))) ++ items_of_sections rs.1 ++ items_of_end) (regroup_sections x rs.1)
            (joined ws h.0 h.1 begun lines h.2 heading.1 rs.4),
      ),
    )

data_held : (rules : StructureRules) (k : ℕ) (names text : List ℕ) (b : Bool) → is_said (codes "DATA") text ≡ b
    → Answer rules (Sections k names) (token (keyword text)) (if b then (if ltb k rules.sections then
    Ok (Behind ∷ Rows (suc k) names ∷ []) else Err (kinds.LeftOut left_out.TooMany)) else Err (section_kind text))
data_held rules k names text true g = section_held rules k names text g (ltb k rules.sections) refl
data_held rules k names text false g = tt

end_held : (rules : StructureRules) (k : ℕ) (names : List ℕ) → Answer rules (Sections k names) (token ends) (next_end k)
end_held rules zero names = tt
end_held rules (suc k) names = λ ws h.
    let last = single rules EndOfText h.1 h.4 in (
      [],
      omega arith,
      omega arith,
      tt,
      (refl, joined ws h.0 h.1 (this (mark Semicolon) ∷ []) (finish ∷ []) h.2 h.3 last),
    )

sections_production : (rules : StructureRules) (k : ℕ) (names : List ℕ) (s : Lookahead) → Production rules (Sections k names) s
sections_production rules k names (token ends) = end_held rules k names
sections_production rules k names (token (keyword text)) = data_held rules k names text (is_said (codes "DATA") text)
    refl
sections_production rules k names s = tt

-- the header
records_joined : (rules : StructureRules) (ws : List Lookahead) → Langs rules (Items 1 ∷ Just Semicolon ∷ Records ∷ []) ws
    → (xs : Trees) × (ps : List Record) × FitsTrees rules 1 xs × FitsRecords rules ps
    × MeetAll ws (items_of_list xs ++ this (mark Semicolon) ∷ items_of_records ps ++ section (codes "ENDSEC"))
records_joined rules ws h =
    let k = h.4 in
    let ps = single rules Records k.1 k.4 in
    let last = items_of_records ps.0 ++ section (codes "ENDSEC") in
    let items = items_of_list h.3.0 in (
      h.3.0,
      ps.0,
      h.3.1,
      ps.1,
      meet_as ws (items ++ (this (mark Semicolon) ∷ last)) (items ++ this (mark Semicolon) ∷ items_of_records ps.0
          ++ section (codes "ENDSEC")) (sym (append_assoc items (this (mark Semicolon) ∷ items_of_records ps.0)
          (section (codes "ENDSEC"))))
          (joined ws h.0 h.1 items (this (mark Semicolon) ∷ last) h.2 h.3.2
          (joined h.1 k.0 k.1 (this (mark Semicolon) ∷ []) last k.2 k.3 ps.2)),
    )

ended_production : (rules : StructureRules) (s : Lookahead) → Production rules Ended s
ended_production rules (token (mark Semicolon)) = at_end rules Ended (token (mark Semicolon)) (this (mark Semicolon))
    (refl, tt) (λ ws h. inl h)
ended_production rules (token (mark Open)) = λ ws h.
    let r = records_joined rules ws h in
    inr (r.0, r.1, r.2, r.3, (refl, r.4))
ended_production rules s = tt

records_held : (rules : StructureRules) → 0 < rules.levels → (text : List ℕ) (b : Bool) → is_said (codes "ENDSEC") text ≡ b
    → Answer rules Records (token (keyword text)) (if b then Ok (Ended ∷ []) else Ok (Just Open ∷ Items 1
    ∷ Just Semicolon ∷ Records ∷ []))
records_held rules deep text true g = λ ws h. by ws (single rules Ended ws h)
  where
    by : (ws : List Lookahead) → Lang rules Ended ws → Lang rules Records (token (keyword text) ∷ ws)
    by ws (inl k) = ([], tt, (g, k))
    by ws (inr k) = let p : Record = record {
      keyword = text;
      values = k.0;
    } in (p ∷ k.1, ((deep, k.2), k.3), (refl, k.4))
records_held rules deep text false g = λ ws h.
    let r = records_joined rules h.1 h.4 in
    let p : Record = record { keyword = text; values = r.0 } in
    let items = items_of_list r.0 ++ this (mark Semicolon) ∷ items_of_records r.1 ++ section (codes "ENDSEC") in
    (p ∷ r.1, ((deep, r.2), r.3), (refl, joined ws h.0 h.1 (this (mark Open) ∷ []) items h.2 h.3 r.4))

records_production : (rules : StructureRules) → 0 < rules.levels → (s : Lookahead) → Production rules Records s
records_production rules deep (token (keyword text)) = records_held rules deep text (is_said (codes "ENDSEC") text) refl
records_production rules deep s = tt

head_held : (rules : StructureRules) → 0 < rules.levels → (word text : List ℕ) (b : Bool)
    → (rules.headed && not (is_said word text)) ≡ b → Answer rules (Head word) (token (keyword text))
    (if b then Err kinds.HeaderFault else Ok record_symbols)
head_held rules deep word text true g = tt
head_held rules deep word text false g = λ ws h.
    let xs = list_held rules ws h in (
      record { keyword = text; values = xs.0 },
      (deep, xs.1),
      unruled_not rules.headed (is_said word text) g,
      (refl, xs.2),
    )

head_production : (rules : StructureRules) → 0 < rules.levels → (word : List ℕ) (s : Lookahead) → Production rules (Head word) s
head_production rules deep word (token (keyword text)) = head_held rules deep word text
    (rules.headed && not (is_said word text)) refl
head_production rules deep word s = tt

-- words and marks
said_held : (rules : StructureRules) (y : Symbol) (word text : List ℕ) (k : FaultKind) (b : Bool) → is_said word text ≡ b
    → ((ws : List Lookahead) → MeetAll ws (says word ∷ []) → Lang rules y ws)
    → Answer rules y (token (keyword text)) (if b then Ok [] else Err k)
said_held rules y word text k true g f = at_end rules y (token (keyword text)) (says word) (g, tt) f
said_held rules y word text k false g f = tt

say_production : (rules : StructureRules) (word : List ℕ) (s : Lookahead) → Production rules (Say word) s
say_production rules word (token (keyword text)) = said_held rules (Say word) word text kinds.Expected
    (is_said word text) refl (λ ws h. h)
say_production rules word s = tt

start_production : (rules : StructureRules) (s : Lookahead) → Production rules Start s
start_production rules (token begins) = at_end rules Start (token begins) (this begins) (refl, tt) (λ ws h. h)
start_production rules s = tt

-- what stands behind the word of a data section
heading_held : (rules : StructureRules) (ws : List Lookahead) → Langs rules heading_symbols ws
    → Lang rules Behind (token (mark Open) ∷ ws)
heading_held rules ws a =
    let b = a.4 in
    let c = b.4 in
    let d = c.4 in
    let e = d.4 in
    let f = e.4 in
    let name = a.3 in
    let schema = d.3 in
    let closing = this (mark Close) ∷ this (mark Close) ∷ this (mark Semicolon) ∷ [] in
    let last = single rules (Just Semicolon) f.1 f.4 in (
      Some (name.0, schema.0),
      (
        refl,
        joined ws a.0 a.1 (this (string name.0) ∷ []) (this (mark Comma) ∷ this (mark Open) ∷ this (string schema.0)
            ∷ closing) a.2 name.1
            (joined a.1 b.0 b.1 (this (mark Comma) ∷ []) (this (mark Open) ∷ this (string schema.0) ∷ closing) b.2 b.3
            (joined b.1 c.0 c.1 (this (mark Open) ∷ []) (this (string schema.0) ∷ closing) c.2 c.3
            (joined c.1 d.0 d.1 (this (string schema.0) ∷ []) closing d.2 schema.1
            (joined d.1 e.0 e.1 (this (mark Close) ∷ []) (this (mark Close) ∷ this (mark Semicolon) ∷ []) e.2 e.3
            (joined e.1 f.0 f.1 (this (mark Close) ∷ []) (this (mark Semicolon) ∷ []) f.2 f.3 last))))),
      ),
    )

behind_production : (rules : StructureRules) (s : Lookahead) → Production rules Behind s
behind_production rules (token (mark Semicolon)) = at_end rules Behind (token (mark Semicolon)) (this (mark Semicolon))
    (refl, tt) (λ ws h. (None, h))
behind_production rules (token (mark Open)) = λ ws h. heading_held rules ws h
behind_production rules s = tt

quoted_production : (rules : StructureRules) (s : Lookahead) → Production rules Quoted s
quoted_production rules (token (string text)) = at_end rules Quoted (token (string text)) (this (string text))
    (refl, tt) (λ ws h. (text, h))
quoted_production rules s = tt

over_production : (rules : StructureRules) (s : Lookahead) → Production rules EndOfText s
over_production rules end_of_text = at_end rules EndOfText end_of_text finish (tt, tt) (λ ws h. h)
over_production rules (token (keyword text)) = neither rules EndOfText (token (keyword text))
    (kinds.LeftOut left_out.Signature) kinds.Expected (is_said (codes "SIGNATURE") text)
over_production rules s = tt

production : (rules : StructureRules) → 1 < rules.levels → (y : Symbol) (s : Lookahead) → Production rules y s
production rules deep (Just m) s = just_production rules m s
production rules deep Start s = start_production rules s
production rules deep (Say word) s = say_production rules word s
production rules deep (Head word) s = head_production rules (omega (arith, deep)) word s
production rules deep Records s = records_production rules (omega (arith, deep)) s
production rules deep Ended s = ended_production rules s
production rules deep (Sections k names) s = sections_production rules k names s
production rules deep Behind s = behind_production rules s
production rules deep Quoted s = quoted_production rules s
production rules deep (Rows k names) s = rows_production rules k names s
production rules deep Body s = body_production rules deep s
production rules deep (PartialRecords before) s = partials_production rules deep before s
production rules deep (Value n) s = value_production rules n s
production rules deep (Items n) s = items_production rules n s
production rules deep (More n) s = more_production rules n s
production rules deep EndOfText s = over_production rules s

-- what leads to nothing more is what was asked for
pub sound : (rules : StructureRules) → 1 < rules.levels → (ws : List Lookahead) (ys : List Symbol) → Leads (next rules) ys ws []
    → Langs rules ys ws
sound rules deep [] [] h = refl
sound rules deep [] (y ∷ ys) h = absurd cc
sound rules deep (s ∷ ws) [] h = absurd h
sound rules deep (s ∷ ws) (y ∷ ys) h =
    let p = langs_split rules h.0 ys ws (sound rules deep ws (h.0 ++ ys) h.2) in
    let P : Next → Type 0 = Answer rules y s in
    let held : Held rules y s h.0 = subst P h.1 (production rules deep y s) in
    (s ∷ p.0, p.1, ap (λ l. s ∷ l) p.2, held p.0 p.3, p.4)

where_three : (A B C : Type 0) → (d : Bool) → Where d A → Where d B → Where d C → Where d (A × B × C)
where_three A B C true a b c = (a, b, c)
where_three A B C false a b c = tt

-- what begins the file, and the first three records of the header
abbrev pub IsOpened : StructureRules → List Lookahead → Type 0
IsOpened rules ws = (p q r : Record) × FitsRecords rules (p ∷ q ∷ r ∷ []) × Where rules.headed (IsHeader (p ∷ q ∷ r
    ∷ [])) × MeetAll ws (items_of_opening p q r)

pub opening_of : (rules : StructureRules) (ws : List Lookahead) → Langs rules opening_symbols ws → IsOpened rules ws
opening_of rules ws a =
    let semi = this (mark Semicolon) in
    let b = a.4 in
    let c = b.4 in
    let d = c.4 in
    let e = d.4 in
    let f = e.4 in
    let g = f.4 in
    let h = g.4 in
    let p = e.3 in
    let q = g.3 in
    let r = single rules (Head (codes "FILE_SCHEMA")) h.1 h.4 in
    let x = items_of_record p.0 in
    let y = items_of_record q.0 in
    let z = items_of_record r.0 in
    let word = says (codes "HEADER") in
    let three = x ++ (semi ∷ (y ++ (semi ∷ z))) in
    let all = this begins ∷ semi ∷ word ∷ semi ∷ three in (
      p.0,
      q.0,
      r.0,
      (p.1, (q.1, (r.1, tt))),
      where_three _ _ _ rules.headed p.2 q.2 r.2,
      meet_as ws all (items_of_opening p.0 q.0 r.0) (ap (λ l. items_of_start ++ l) (sym (regroup_two x semi y z)))
          (joined ws a.0 a.1 (this begins ∷ []) (semi ∷ word ∷ semi ∷ three) a.2 a.3
          (joined a.1 b.0 b.1 (semi ∷ []) (word ∷ semi ∷ three) b.2 b.3
          (joined b.1 c.0 c.1 (word ∷ []) (semi ∷ three) c.2 c.3
          (joined c.1 d.0 d.1 (semi ∷ []) three d.2 d.3
          (joined d.1 e.0 e.1 x (semi ∷ (y ++ (semi ∷ z))) e.2 p.3
          (joined e.1 f.0 f.1 (semi ∷ []) (y ++ (semi ∷ z)) f.2 f.3
          (joined f.1 g.0 g.1 y (semi ∷ z) g.2 q.3
          (joined g.1 h.0 h.1 (semi ∷ []) z h.2 h.3 r.3)))))))),
    )

-- the header
abbrev pub IsHeaded : StructureRules → List Lookahead → Type 0
IsHeaded rules ws = (header : List Record) × FitsHeader rules header × MeetAll ws (items_of_header header)

pub header_of : (rules : StructureRules) (ws : List Lookahead) → Langs rules header_symbols ws → IsHeaded rules ws
header_of rules ws h =
    let l = langs_split rules opening_symbols (Just Semicolon ∷ Records ∷ []) ws h in
    let x = opening_of rules l.0 l.3 in
    let more = single rules Records l.4.1 l.4.4 in
    let last = items_of_records more.0 ++ section (codes "ENDSEC") in (
      x.0 ∷ x.1 ∷ x.2 ∷ more.0,
      ((x.3.0, (x.3.1.0, (x.3.1.1.0, more.1))), tt, x.4),
      meet_as ws (items_of_opening x.0 x.1 x.2 ++ (this (mark Semicolon) ∷ last)) (items_of_header (x.0 ∷ x.1 ∷ x.2
          ∷ more.0)) (sym (header_items x.0 x.1 x.2 more.0))
          (joined ws l.0 l.1 (items_of_opening x.0 x.1 x.2) (this (mark Semicolon) ∷ last) l.2 x.5
          (joined l.1 l.4.0 l.4.1 (this (mark Semicolon) ∷ []) last l.4.2 l.4.3 more.2)),
    )

-- a whole structure
pub file_of : (rules : StructureRules) (ws : List Lookahead) → Langs rules file_symbols ws → IsFile rules ws
file_of rules ws h =
    let l = langs_split rules header_symbols data_symbols ws h in
    let header = header_of rules l.0 l.3 in
    let xs = single rules (Sections 0 []) l.1 l.4 in
    let before = items_of_header header.0 in (
      record { header = header.0; sections = xs.0 },
      (header.1, (omega (arith, xs.1), omega (arith, xs.2), xs.3)),
      meet_as ws (before ++ (items_of_sections xs.0 ++ items_of_end)) (before ++ items_of_sections xs.0 ++ items_of_end)
          (sym (append_assoc before (items_of_sections xs.0) items_of_end))
          (joined ws l.0 l.1 before (items_of_sections xs.0 ++ items_of_end) l.2 header.2 xs.4),
    )
