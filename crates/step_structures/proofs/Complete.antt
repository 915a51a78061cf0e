-- Each symbol can be completed, and leaves only symbols around which no more is open, and stands, than may be.
use Rattle.std.proofs.Common.{◌≡◌, ℕ, ◌+◌, ◌<◌, ◌≤◌, nat_lt, Bool, true, false, not, ◌&&◌, if◌then◌else◌, List, [], ◌∷◌, ◌++◌, length, suc, zero, Ok, Err, refl, ap, subst, append-nil, length-append, ◌⊎◌, inl, inr, arith, codes, bytes_eq, eq-eqb}
use Rattle.std.specs.Str.{str_to_ascii_lowercase}
use Rattle.parsing.specs.Languages.{AllAre, IsComplete, IsExact}
use Rattle.parsing.proofs.Lists.{all_append}
use Rattle.parsing.proofs.Leading.{Leads}
use Rattle.parsing.proofs.Running.{completed_by}
use Rattle.parsing.proofs.Accepted.{exact_leads}
use Rattle.step_lexer.specs.declared.token.Mark.TheVariants.{Open, Close, Comma, Semicolon, Dollar, Asterisk}
use Rattle.step_structures.specs.declared.fault.FaultKind.{FaultKind}
use Rattle.step_structures.specs.declared.fault.FaultKind.TheVariants as kinds
use Rattle.step_structures.specs.declared.fault.LeftOut.TheVariants as left_out
use Rattle.step_structures.specs.Words.{begins, ends, keyword, name, number, element, string, binary, mark, Lookahead, token, end_of_text}
use Rattle.step_structures.specs.Trees.{is_said}
use Rattle.step_structures.specs.Fits.{StructureRules, Where, has_name, has_keyword}
use Rattle.step_structures.specs.steps.Predict.{Symbol, Just, Start, Say, Head, Records, Ended, Sections, Behind, Quoted, Rows, Body, PartialRecords, Value, Items, More, EndOfText, refused, Next, is_mark, next, next_value, next_items, next_close, next_end, next_section, then_more, section_kind, row_symbols, file_symbols, IsFile}
use Rattle.step_structures.proofs.Forms.{Little, Small}
use Rattle.step_structures.proofs.Passing.{next_mark, pass_file}
use Rattle.step_structures.proofs.Sound.{sound, file_of}

-- what comes in the place of a symbol that doesn't stand up to the end of the file is none that does
abbrev pub EachBy : (List Symbol → Type 0) → Next → Type 0
EachBy Q (Ok zs) = Q zs
EachBy Q (Err k) = Unit {0}

each_if : (Q : List Symbol → Type 0) (b : Bool) (zs ys : List Symbol) → Q zs → Q ys
    → EachBy Q (if b then Ok zs else Ok ys)
each_if Q true zs ys h k = h
each_if Q false zs ys h k = k

pub each_test : (Q : List Symbol → Type 0) (b : Bool) (zs : List Symbol) (k : FaultKind) → (b ≡ true → Q zs)
    → EachBy Q (if b then Ok zs else Err k)
each_test Q true zs k h = h refl
each_test Q false zs k h = tt

each_rule : (Q : List Symbol → Type 0) (b : Bool) (v : Next) (k : FaultKind) → EachBy Q v
    → EachBy Q (if b then Err k else v)
each_rule Q true v k h = tt
each_rule Q false v k h = h

level_up : (n a : ℕ) → nat_lt n a ≡ true → n + 1 ≤ a
level_up n a e = grind arith

small_value : (rules : StructureRules) (n : ℕ) (s : Lookahead) → n ≤ rules.levels
    → EachBy (AllAre (Small rules)) (next_value rules n s)
small_value rules n (token (mark Dollar)) h = tt
small_value rules n (token (mark Asterisk)) h = tt
small_value rules n (token (name m text)) h = tt
small_value rules n (token (number text)) h = tt
small_value rules n (token (element text)) h = tt
small_value rules n (token (string text)) h = tt
small_value rules n (token (binary text)) h = tt
small_value rules n (token (keyword text)) h =
    each_test (AllAre (Small rules)) (nat_lt n rules.levels) (Just Open ∷ Value (n + 1)
    ∷ Just Close ∷ []) kinds.TooDeep (λ e. (tt, (level_up n rules.levels e, (tt, tt))))
small_value rules n (token (mark Open)) h =
    each_test (AllAre (Small rules)) (nat_lt n rules.levels) (Items (n + 1) ∷ []) kinds.TooDeep
    (λ e. (level_up n rules.levels e, tt))
small_value rules n s h = tt

small_then : (rules : StructureRules) (n : ℕ) (v : Next) → n ≤ rules.levels → EachBy (AllAre (Small rules)) v
    → EachBy (AllAre (Small rules)) (then_more n v)
small_then rules n (Ok zs) h k = all_append (Small rules) zs (More n ∷ []) k (h, tt)
small_then rules n (Err e) h k = tt

small_items : (rules : StructureRules) (n : ℕ) (s : Lookahead) → n ≤ rules.levels
    → EachBy (AllAre (Small rules)) (next_items rules n s)
small_items rules n (token (mark Close)) h = tt
small_items rules n s h = small_then rules n (next_value rules n s) h (small_value rules n s h)

longer : (names : List ℕ) (n a : ℕ) → nat_lt (length names) a ≡ true → length (names ++ n ∷ []) ≤ a
longer names n a e = let g = length-append names (n ∷ []) in grind (arith, g)

small_next : (rules : StructureRules) → 1 < rules.levels → (y : Symbol) (s : Lookahead) → Small rules y
    → EachBy (AllAre (Small rules)) (next rules y s)
small_next rules l (Just m) s h = each_test (AllAre (Small rules)) (is_mark m s) [] (refused s) (λ e. tt)
small_next rules l Start (token begins) h = tt
small_next rules l Start s h = tt
small_next rules l (Say word) (token (keyword text)) h =
    each_test (AllAre (Small rules)) (is_said word text) [] kinds.Expected
    (λ e. tt)
small_next rules l (Say word) s h = tt
small_next rules l (Head word) (token (keyword text)) h =
    each_rule (AllAre (Small rules)) (rules.headed && not (is_said word text))
    (Ok (Just Open ∷ Items 1 ∷ [])) kinds.HeaderFault (tt, (omega arith, tt))
small_next rules l (Head word) s h = tt
small_next rules l Records (token (keyword text)) h =
    each_if (AllAre (Small rules)) (is_said (codes "ENDSEC") text) (Ended ∷ [])
    (Just Open ∷ Items 1 ∷ Just Semicolon ∷ Records ∷ []) (tt, tt) (tt, (omega arith, (tt, (tt, tt))))
small_next rules l Records s h = tt
small_next rules l Ended (token (mark Semicolon)) h = tt
small_next rules l Ended (token (mark Open)) h = (omega arith, (tt, (tt, tt)))
small_next rules l Ended s h = tt
small_next rules l (Sections k names) s h = absurd h
small_next rules l Behind (token (mark Semicolon)) h = tt
small_next rules l Behind (token (mark Open)) h = (tt, (tt, (tt, (tt, (tt, (tt, (tt, tt)))))))
small_next rules l Behind s h = tt
small_next rules l Quoted (token (string text)) h = tt
small_next rules l Quoted s h = tt
small_next rules l (Rows k names) s h = absurd h
small_next rules l Body (token (keyword text)) h = (tt, (omega arith, tt))
small_next rules l Body (token (mark Open)) h = (tt, tt)
small_next rules l Body s h = tt
small_next rules l (PartialRecords before) (token (keyword text)) h =
    each_rule (AllAre (Small rules)) (rules.distinct && has_keyword text before)
    (Ok (Just Open ∷ Items 2 ∷ PartialRecords (before ++ text ∷ []) ∷ [])) kinds.DuplicateName
    (tt, (omega arith, (tt, tt)))
small_next rules l (PartialRecords before) (token (mark Close)) h = by before
  where
    by : (ws : List (List ℕ)) → EachBy (AllAre (Small rules)) (next_close ws)
    by [] = tt
    by (w ∷ ws) = tt
small_next rules l (PartialRecords before) s h = tt
small_next rules l (Value n) s h = small_value rules n s h
small_next rules l (Items n) s h = small_items rules n s h
small_next rules l (More n) (token (mark Comma)) h = (h, (h, tt))
small_next rules l (More n) (token (mark Close)) h = tt
small_next rules l (More n) s h = tt
small_next rules l EndOfText s h = absurd h

pub small_after : (rules : StructureRules) → 1 < rules.levels → (y : Symbol) (s : Lookahead) (zs : List Symbol) → Small rules y
    → next rules y s ≡ Ok zs → AllAre (Small rules) zs
small_after rules l y s zs h e = let P : Next → Type 0 = λ v. EachBy (AllAre (Small rules)) v in
    subst P e (small_next rules l y s h)

-- a section has begun
abbrev pub Begun : Symbol → Type 0
Begun (Sections k names) = 0 < k
Begun (Rows k names) = 0 < k
Begun y = Unit {0}

-- only the last of these symbols may stand up to the end of the file, behind the first section if that is asked
abbrev pub Ordered : StructureRules → Bool → List Symbol → Type 0
Ordered rules d [] = Unit {0}
Ordered rules d (y ∷ []) = Little rules y × Where d (Begun y)
Ordered rules d (y ∷ z ∷ zs) = Small rules y × Ordered rules d (z ∷ zs)

where_begun : (d : Bool) (y : Symbol) → Begun y → Where d (Begun y)
where_begun true y h = h
where_begun false y h = tt

small_begun : (rules : StructureRules) (y : Symbol) → Small rules y → Little rules y × Begun y
small_begun rules (Sections k names) h = absurd h
small_begun rules (Rows k names) h = absurd h
small_begun rules EndOfText h = absurd h
small_begun rules y h = (h, tt)

pub small_ordered : (rules : StructureRules) (d : Bool) (ys zs : List Symbol) → AllAre (Small rules) ys → Ordered rules d zs
    → Ordered rules d (ys ++ zs)
small_ordered rules d [] zs h k = k
small_ordered rules d (y ∷ []) [] h k = let b = small_begun rules y h.0 in (b.0, where_begun d y b.1)
small_ordered rules d (y ∷ []) (z ∷ zs) h k = (h.0, k)
small_ordered rules d (y ∷ x ∷ ys) zs h k = (h.0, small_ordered rules d (x ∷ ys) zs h.1 k)

ordered_little : (rules : StructureRules) (d : Bool) (ys : List Symbol) → Ordered rules d ys → AllAre (Little rules) ys
ordered_little rules d [] h = tt
ordered_little rules d (y ∷ []) h = (h.0, tt)
ordered_little rules d (y ∷ z ∷ zs) h = ((small_begun rules y h.0).0, ordered_little rules d (z ∷ zs) h.1)

-- what comes in the place of what stands up to the end of the file
ordered_end : (rules : StructureRules) (d : Bool) (k : ℕ) → EachBy (Ordered rules d) (next_end k)
ordered_end rules d zero = tt
ordered_end rules d (suc k) = (tt, (tt, where_begun d EndOfText tt))

pub ordered_section : (rules : StructureRules) (d : Bool) (k : ℕ) (names text : List ℕ) (b : Bool)
    → Little rules (Sections k names)
    → EachBy (Ordered rules d) (if b then next_section rules k names else Err (section_kind text))
ordered_section rules d k names text true h = each_test (Ordered rules d) (nat_lt k rules.sections) (Behind
    ∷ Rows (suc k) names ∷ []) (kinds.LeftOut left_out.TooMany)
    (λ e. (tt, ((one_up k rules.sections e, h.1), where_begun d (Rows (suc k) names) (omega arith))))
  where
    one_up : (k a : ℕ) → nat_lt k a ≡ true → suc k ≤ a
    one_up k a e = grind arith
ordered_section rules d k names text false h = tt

ordered_next : (rules : StructureRules) (d : Bool) (y : Symbol) (s : Lookahead) → Little rules y → Where d (Begun y)
    → EachBy (Ordered rules d) (next rules y s) ⊎ Small rules y
ordered_next rules d (Sections k names) (token ends) h b = inl (ordered_end rules d k)
ordered_next rules d (Sections k names) (token (keyword text)) h b = inl (ordered_section rules d k names text
    (is_said (codes "DATA") text) h)
ordered_next rules d (Sections k names) s h b = inl tt
ordered_next rules d (Rows k names) (token (name n text)) h b =
    inl (each_rule (Ordered rules d) (rules.distinct && has_name n names) (if nat_lt (length names) rules.instances then
    Ok (row_symbols ++ Rows k (names ++ n ∷ []) ∷ []) else Err (kinds.LeftOut left_out.TooMany)) kinds.DuplicateName
    (each_test (Ordered rules d) (nat_lt (length names) rules.instances) (row_symbols ++ Rows k (names ++ n ∷ []) ∷ [])
    (kinds.LeftOut left_out.TooMany) (λ e. (tt, (tt, (tt, ((h.0, longer names n rules.instances e), b)))))))
ordered_next rules d (Rows k names) (token (keyword text)) h b = inl (each_test (Ordered rules d)
    (is_said (codes "ENDSEC") text) (Just Semicolon ∷ Sections k names ∷ []) kinds.Expected (λ e. (tt, (h, b))))
ordered_next rules d (Rows k names) s h b = inl tt
ordered_next rules d EndOfText end_of_text h b = inl tt
ordered_next rules d EndOfText (token (keyword text)) h b = inl (neither (is_said (codes "SIGNATURE") text))
  where
    neither : (b : Bool) → EachBy (Ordered rules d) (if b then Err (kinds.LeftOut left_out.Signature) else
        Err kinds.Expected)
    neither true = tt
    neither false = tt
ordered_next rules d EndOfText s h b = inl tt
ordered_next rules d y s h b = inr h

pub ordered_after : (rules : StructureRules) → 1 < rules.levels → (d : Bool) (y : Symbol) (s : Lookahead) (zs : List Symbol)
    → Little rules y → Where d (Begun y) → next rules y s ≡ Ok zs → Ordered rules d zs
ordered_after rules l d y s zs h b e = by (ordered_next rules d y s h b)
  where
    by : EachBy (Ordered rules d) (next rules y s) ⊎ Small rules y → Ordered rules d zs
    by (inl k) = (let P : Next → Type 0 = EachBy (Ordered rules d) in subst P e k)
    by (inr k) = subst (Ordered rules d) (append-nil zs) (small_ordered rules d zs [] (small_after rules l y s zs k e)
        tt)

little_after : (rules : StructureRules) → 1 < rules.levels → (y : Symbol) (s : Lookahead) (zs : List Symbol) → Little rules y
    → next rules y s ≡ Ok zs → AllAre (Little rules) zs
little_after rules l y s zs h e = ordered_little rules false zs (ordered_after rules l false y s zs h tt e)

-- a keyword says itself
same_bytes : (xs : List ℕ) → bytes_eq xs xs ≡ true
same_bytes [] = refl
same_bytes (x ∷ xs) = rw (eq-eqb x x refl) (same_bytes xs)

says_itself : (word : List ℕ) → is_said word word ≡ true
says_itself word = same_bytes (str_to_ascii_lowercase word)

head_itself : (rules : StructureRules) (word : List ℕ) (b : Bool) → is_said word word ≡ true
    → (let v : Next = if b && not (is_said word word) then Err kinds.HeaderFault else Ok (Just Open ∷ Items 1 ∷ []) in
    v) ≡ Ok (Just Open ∷ Items 1 ∷ [])
head_itself rules word true e = rw e refl
head_itself rules word false e = refl

partial_first : (b : Bool) (text : List ℕ) → (let v : Next = if b && has_keyword text [] then Err kinds.DuplicateName
    else Ok (Just Open ∷ Items 2 ∷ PartialRecords (text ∷ []) ∷ []) in v) ≡ Ok (Just Open ∷ Items 2
    ∷ PartialRecords (text ∷ []) ∷ [])
partial_first true text = refl
partial_first false text = refl

-- some lookaheads with which each symbol is over
abbrev Completed : StructureRules → Symbol → Type 0
Completed rules y = (ws : List Lookahead) × Leads (next rules) (y ∷ []) ws []

-- the end of a section, and what is behind it
ended_rows : (rules : StructureRules) (k : ℕ) (names : List ℕ) → Completed rules (Sections k names)
    → Completed rules (Rows k names)
ended_rows rules k names c = (
  token (keyword (codes "ENDSEC")) ∷ token (mark Semicolon) ∷ c.0,
  (Just Semicolon ∷ Sections k names ∷ [], refl, ([], refl, c.1)),
)

ended_file : (rules : StructureRules) (k : ℕ) (names : List ℕ) → Completed rules (Sections (suc k) names)
ended_file rules k names = (
  token ends ∷ token (mark Semicolon) ∷ end_of_text ∷ [],
  (Just Semicolon ∷ EndOfText ∷ [], refl, ([], refl, ([], refl, refl))),
)

first_data : (rules : StructureRules) (names : List ℕ) → 0 < rules.sections
    → next rules (Sections 0 names) (token (keyword (codes "DATA"))) ≡ Ok (Behind ∷ Rows 1 names ∷ [])
first_data rules names m = let e : nat_lt 0 rules.sections ≡ true = grind (arith, m) in rw e refl

completed_sections : (rules : StructureRules) → 0 < rules.sections → (k : ℕ) (names : List ℕ)
    → Completed rules (Sections k names)
completed_sections rules m zero names =
    let c = ended_rows rules 1 names (ended_file rules 0 names) in (
      token (keyword (codes "DATA")) ∷ token (mark Semicolon) ∷ c.0,
      (Behind ∷ Rows 1 names ∷ [], first_data rules names m, ([], refl, c.1)),
    )
completed_sections rules m (suc k) names = ended_file rules k names

completed : (rules : StructureRules) → 0 < rules.sections → (y : Symbol) → Completed rules y
completed rules m (Just k) = (token (mark k) ∷ [], ([], next_mark rules k, refl))
completed rules m Start = (token begins ∷ [], ([], refl, refl))
completed rules m (Say word) = (
  token (keyword word) ∷ [],
  ([], ap (λ b. if b then Ok [] else Err kinds.Expected) (says_itself word), refl),
)
completed rules m (Head word) = (
  token (keyword word) ∷ token (mark Open) ∷ token (mark Close) ∷ [],
  (Just Open ∷ Items 1 ∷ [], head_itself rules word rules.headed (says_itself word), ([], refl, ([], refl, refl))),
)
completed rules m Records = (
  token (keyword (codes "ENDSEC")) ∷ token (mark Semicolon) ∷ [],
  (Ended ∷ [], refl, ([], refl, refl)),
)
completed rules m Ended = (token (mark Semicolon) ∷ [], ([], refl, refl))
completed rules m (Sections k names) = completed_sections rules m k names
completed rules m Behind = (token (mark Semicolon) ∷ [], ([], refl, refl))
completed rules m Quoted = (token (string []) ∷ [], ([], refl, refl))
completed rules m (Rows k names) = ended_rows rules k names (completed_sections rules m k names)
completed rules m Body = (
  token (keyword []) ∷ token (mark Open) ∷ token (mark Close) ∷ [],
  (Just Open ∷ Items 1 ∷ [], refl, ([], refl, ([], refl, refl))),
)
completed rules m (PartialRecords []) = (
  token (keyword []) ∷ token (mark Open) ∷ token (mark Close) ∷ token (mark Close) ∷ [],
  (
    Just Open ∷ Items 2 ∷ PartialRecords ([] ∷ []) ∷ [],
    partial_first rules.distinct [],
    ([], refl, ([], refl, ([], refl, refl))),
  ),
)
completed rules m (PartialRecords (w ∷ ws)) = (token (mark Close) ∷ [], ([], refl, refl))
completed rules m (Value n) = (token (mark Dollar) ∷ [], ([], refl, refl))
completed rules m (Items n) = (token (mark Close) ∷ [], ([], refl, refl))
completed rules m (More n) = (token (mark Close) ∷ [], ([], refl, refl))
completed rules m EndOfText = (end_of_text ∷ [], ([], refl, refl))

pub complete : (rules : StructureRules) → 1 < rules.levels → 0 < rules.sections → IsComplete (next rules) (Little rules)
complete rules l m = record {
  kept = λ y s zs h e. little_after rules l y s zs h e;
  completing = λ y h. let c = completed rules m y in completed_by (next rules) y c.0 c.1;
}

-- the symbols of a file
pub starts : (rules : StructureRules) → AllAre (Little rules) file_symbols
starts rules = (tt, (tt, (tt, (tt, (tt, (tt, (tt, (tt, (tt, (tt, (tt, ((omega arith, omega arith), tt))))))))))))

-- the table takes the lookaheads of structures that fit the rules, and no others
pub exact : (rules : StructureRules) → 1 < rules.levels → 0 < rules.sections → IsExact (next rules) (Little rules) file_symbols
    (IsFile rules)
exact rules l m = exact_leads (next rules) (Little rules) file_symbols (IsFile rules) (complete rules l m)
    (starts rules) (pass_file rules) (λ ws h. file_of rules ws (sound rules l ws file_symbols h))
