-- On what the next symbols depend: mostly on no rule, else on one test.
use Rattle.std.proofs.Common.{◌≡◌, ℕ, ◌+◌, ◌≤◌, nat_lt, suc, zero, Bool, true, false, not, ◌&&◌, if◌then◌else◌, List, [], ◌∷◌, ◌++◌, length, Ok, Err, refl, ◌⊎◌, inl, inr, codes}
use Rattle.step_lexer.specs.declared.token.Mark.{Mark}
use Rattle.step_lexer.specs.declared.token.Mark.TheVariants.{Open, Close, Comma, Semicolon, Dollar, Asterisk}
use Rattle.step_structures.specs.declared.fault.FaultKind.{FaultKind}
use Rattle.step_structures.specs.declared.fault.FaultKind.TheVariants as kinds
use Rattle.step_structures.specs.declared.fault.LeftOut.TheVariants as left_out
use Rattle.step_structures.specs.Words.{begins, ends, keyword, user_defined, scope, name, number, element, string, binary, mark, Lookahead, token, flawed, end_of_text}
use Rattle.step_structures.specs.Trees.{is_said}
use Rattle.step_structures.specs.Fits.{StructureRules, has_name, has_keyword}
use Rattle.step_structures.specs.Texts.{IsWord}
use Rattle.step_structures.specs.steps.Predict.{Symbol, Just, Start, Say, Head, Records, Ended, Sections, Behind, Quoted, Rows, Body, PartialRecords, Value, Items, More, EndOfText, refused, Next, is_mark, next, next_start, next_say, next_records, next_ended, next_end, next_behind, next_quoted, next_body, next_close, next_more, next_end_of_text, then_more, section_kind, record_symbols, row_symbols}

-- another data section may come, or the end of the file
abbrev pub IsBehindSections : Symbol → Type 0
IsBehindSections y = (k : ℕ) × (names : List ℕ) × (y ≡ Sections k names)

-- where a fault by no rule comes from
abbrev pub Told : Symbol → Lookahead → FaultKind → Type 0
Told y s (kinds.Token f) = s ≡ flawed f
Told y s kinds.Expected = Unit {0}
Told y s (kinds.LeftOut left_out.UserDefined) = (text : List ℕ) × (s ≡ token (user_defined text))
Told y s (kinds.LeftOut left_out.Scope) = s ≡ token scope
Told y s (kinds.LeftOut left_out.Anchor) = IsWord (codes "ANCHOR") s × IsBehindSections y
Told y s (kinds.LeftOut left_out.Reference) = IsWord (codes "REFERENCE") s × IsBehindSections y
Told y s (kinds.LeftOut left_out.Signature) = IsWord (codes "SIGNATURE") s × (IsBehindSections y ⊎ (y ≡ EndOfText))
Told y s _ = ⊥

abbrev pub ToldBy : Symbol → Lookahead → Next → Type 0
ToldBy y s (Ok zs) = Unit {0}
ToldBy y s (Err k) = Told y s k

told_refused : (y : Symbol) (s : Lookahead) → Told y s (refused s)
told_refused y (flawed f) = refl
told_refused y (token (user_defined text)) = (text, refl)
told_refused y (token scope) = refl
told_refused y _ = tt

-- no more levels, instances and sections than may be
abbrev pub Little : StructureRules → Symbol → Type 0
Little rules (Value n) = n ≤ rules.levels
Little rules (Items n) = n ≤ rules.levels
Little rules (More n) = n ≤ rules.levels
Little rules (Sections k names) = (k ≤ rules.sections) × (length names ≤ rules.instances)
Little rules (Rows k names) = (k ≤ rules.sections) × (length names ≤ rules.instances)
Little rules _ = Unit {0}

-- a symbol within the limits that doesn't go on to the end of the file
abbrev pub Small : StructureRules → Symbol → Type 0
Small rules (Sections k names) = ⊥
Small rules (Rows k names) = ⊥
Small rules EndOfText = ⊥
Small rules y = Little rules y

-- by which test, if any, the rules decide what is next
pub data Form (y : Symbol) (s : Lookahead) : Type 0 where
  fixed : (v : Next) → ((w : StructureRules) → next w y s ≡ v) → ToldBy y s v → Form y s
  by_level : (n : ℕ) (zs : List Symbol) → ((w : StructureRules)
      → next w y s ≡ (if nat_lt n w.levels then Ok zs else Err kinds.TooDeep))
      → ((w : StructureRules) → Little w y → n ≤ w.levels) → (s ≡ token (mark Semicolon) → ⊥) → Form y s
  by_section : (n : ℕ) (zs : List Symbol) → ((w : StructureRules)
      → next w y s ≡ (if nat_lt n w.sections then Ok zs else Err (kinds.LeftOut left_out.TooMany)))
      → ((w : StructureRules) → Little w y → n ≤ w.sections) → (s ≡ token (mark Semicolon) → ⊥) → Form y s
  by_head : (b : Bool) (zs : List Symbol)
      → ((w : StructureRules) → next w y s ≡ (if w.headed && b then Err kinds.HeaderFault else Ok zs))
      → (s ≡ token (mark Semicolon) → ⊥) → Form y s
  by_keyword : (b : Bool) (zs : List Symbol)
      → ((w : StructureRules) → next w y s ≡ (if w.distinct && b then Err kinds.DuplicateName else Ok zs))
      → (s ≡ token (mark Semicolon) → ⊥) → Form y s
  by_name : (b : Bool) (n : ℕ) (zs : List Symbol)
      → ((w : StructureRules) → next w y s ≡ (if w.distinct && b then Err kinds.DuplicateName else
      (if nat_lt n w.instances then Ok zs else Err (kinds.LeftOut left_out.TooMany))))
      → ((w : StructureRules) → Little w y → n ≤ w.instances) → (s ≡ token (mark Semicolon) → ⊥) → Form y s

told_just : (m : Mark) (s : Lookahead) (b : Bool) → ToldBy (Just m) s (if b then Ok [] else Err (refused s))
told_just m s true = tt
told_just m s false = told_refused (Just m) s

told_start : (s : Lookahead) → ToldBy Start s (next_start s)
told_start (token begins) = tt
told_start s = told_refused Start s

told_if : (y : Symbol) (s : Lookahead) (b : Bool) (zs ys : List Symbol) → ToldBy y s (if b then Ok zs else Ok ys)
told_if y s true zs ys = tt
told_if y s false zs ys = tt

told_expected : (y : Symbol) (text : List ℕ) (b : Bool) (zs : List Symbol) → ToldBy y (token (keyword text))
    (if b then Ok zs else Err kinds.Expected)
told_expected y text true zs = tt
told_expected y text false zs = tt

told_say : (word : List ℕ) (s : Lookahead) → ToldBy (Say word) s (next_say word s)
told_say word (token (keyword text)) = told_expected (Say word) text (is_said word text) []
told_say word s = told_refused (Say word) s

told_records : (s : Lookahead) → ToldBy Records s (next_records s)
told_records (token (keyword text)) = told_if Records (token (keyword text)) (is_said (codes "ENDSEC") text)
    (Ended ∷ []) (Just Open ∷ Items 1 ∷ Just Semicolon ∷ Records ∷ [])
told_records s = told_refused Records s

told_ended : (s : Lookahead) → ToldBy Ended s (next_ended s)
told_ended (token (mark Semicolon)) = tt
told_ended (token (mark Open)) = tt
told_ended s = told_refused Ended s

told_section : (y : Symbol) (text : List ℕ) → IsBehindSections y → Told y (token (keyword text)) (section_kind text)
told_section y text h = by (is_said (codes "ANCHOR") text) (is_said (codes "REFERENCE") text)
    (is_said (codes "SIGNATURE") text) refl refl refl
  where
    by : (a b c : Bool) → is_said (codes "ANCHOR") text ≡ a → is_said (codes "REFERENCE") text ≡ b
        → is_said (codes "SIGNATURE") text ≡ c → Told y (token (keyword text)) (if a then kinds.LeftOut left_out.Anchor
        else (if b then kinds.LeftOut left_out.Reference else (if c then kinds.LeftOut left_out.Signature else
        kinds.Expected)))
    by true b c e f g = (e, h)
    by false true c e f g = (f, h)
    by false false true e f g = (g, inl h)
    by false false false e f g = tt

told_end : (k : ℕ) (names : List ℕ) → ToldBy (Sections k names) (token ends) (next_end k)
told_end zero names = tt
told_end (suc k) names = tt

told_behind : (s : Lookahead) → ToldBy Behind s (next_behind s)
told_behind (token (mark Semicolon)) = tt
told_behind (token (mark Open)) = tt
told_behind s = told_refused Behind s

told_quoted : (s : Lookahead) → ToldBy Quoted s (next_quoted s)
told_quoted (token (string text)) = tt
told_quoted s = told_refused Quoted s

told_body : (s : Lookahead) → ToldBy Body s (next_body s)
told_body (token (keyword text)) = tt
told_body (token (mark Open)) = tt
told_body s = told_refused Body s

told_more : (n : ℕ) (s : Lookahead) → ToldBy (More n) s (next_more n s)
told_more n (token (mark Comma)) = tt
told_more n (token (mark Close)) = tt
told_more n s = told_refused (More n) s

told_over : (s : Lookahead) → ToldBy EndOfText s (next_end_of_text s)
told_over end_of_text = tt
told_over (token (keyword text)) = by (is_said (codes "SIGNATURE") text) refl
  where
    by : (b : Bool) → is_said (codes "SIGNATURE") text ≡ b → ToldBy EndOfText (token (keyword text))
        (if b then Err (kinds.LeftOut left_out.Signature) else Err kinds.Expected)
    by true e = (e, inr refl)
    by false e = tt
told_over s = told_refused EndOfText s

form_head : (word : List ℕ) (s : Lookahead) → Form (Head word) s
form_head word (token (keyword text)) = by_head (not (is_said word text)) record_symbols (λ w. refl) (λ e. cc)
form_head word s = fixed (Err (refused s)) (λ w. refl) (told_refused (Head word) s)

form_data : (k : ℕ) (names text : List ℕ) (b : Bool) → is_said (codes "DATA") text ≡ b
    → Form (Sections k names) (token (keyword text))
form_data k names text true e = by_section k (Behind ∷ Rows (suc k) names ∷ []) (λ w. rw e refl) (λ w h. h.0) (λ d. cc)
form_data k names text false e = fixed (Err (section_kind text)) (λ w. rw e refl)
    (told_section (Sections k names) text (k, names, refl))

form_sections : (k : ℕ) (names : List ℕ) (s : Lookahead) → Form (Sections k names) s
form_sections k names (token ends) = fixed (next_end k) (λ w. refl) (told_end k names)
form_sections k names (token (keyword text)) = form_data k names text (is_said (codes "DATA") text) refl
form_sections k names s = fixed (Err (refused s)) (λ w. refl) (told_refused (Sections k names) s)

form_rows : (k : ℕ) (names : List ℕ) (s : Lookahead) → Form (Rows k names) s
form_rows k names (token (name n text)) = by_name (has_name n names) (length names) (row_symbols
    ++ Rows k (names ++ n ∷ []) ∷ []) (λ w. refl) (λ w h. h.1) (λ e. cc)
form_rows k names (token (keyword text)) = fixed (if is_said (codes "ENDSEC") text then Ok (Just Semicolon
    ∷ Sections k names ∷ []) else Err kinds.Expected) (λ w. refl)
    (told_expected (Rows k names) text (is_said (codes "ENDSEC") text) (Just Semicolon ∷ Sections k names ∷ []))
form_rows k names s = fixed (Err (refused s)) (λ w. refl) (told_refused (Rows k names) s)

told_close : (before : List (List ℕ)) → ToldBy (PartialRecords before) (token (mark Close)) (next_close before)
told_close [] = tt
told_close (w ∷ ws) = tt

form_partials : (before : List (List ℕ)) (s : Lookahead) → Form (PartialRecords before) s
form_partials before (token (keyword text)) = by_keyword (has_keyword text before) (Just Open ∷ Items 2
    ∷ PartialRecords (before ++ text ∷ []) ∷ []) (λ w. refl) (λ e. cc)
form_partials before (token (mark Close)) = fixed (next_close before) (λ w. refl) (told_close before)
form_partials before s = fixed (Err (refused s)) (λ w. refl) (told_refused (PartialRecords before) s)

form_value : (n : ℕ) (s : Lookahead) → Form (Value n) s
form_value n (token (mark Dollar)) = fixed (Ok []) (λ w. refl) tt
form_value n (token (mark Asterisk)) = fixed (Ok []) (λ w. refl) tt
form_value n (token (name m text)) = fixed (Ok []) (λ w. refl) tt
form_value n (token (number text)) = fixed (Ok []) (λ w. refl) tt
form_value n (token (element text)) = fixed (Ok []) (λ w. refl) tt
form_value n (token (string text)) = fixed (Ok []) (λ w. refl) tt
form_value n (token (binary text)) = fixed (Ok []) (λ w. refl) tt
form_value n (token (keyword text)) = by_level n (Just Open ∷ Value (n + 1) ∷ Just Close ∷ []) (λ w. refl) (λ w h. h)
    (λ e. cc)
form_value n (token (mark Open)) = by_level n (Items (n + 1) ∷ []) (λ w. refl) (λ w h. h) (λ e. cc)
form_value n s = fixed (Err (refused s)) (λ w. refl) (told_refused (Value n) s)

then_if : (n : ℕ) (b : Bool) (zs : List Symbol) (k : FaultKind)
    → then_more n (if b then Ok zs else Err k) ≡ (if b then Ok (zs ++ More n ∷ []) else Err k)
then_if n true zs k = refl
then_if n false zs k = refl

form_items : (n : ℕ) (s : Lookahead) → Form (Items n) s
form_items n (token (mark Close)) = fixed (Ok []) (λ w. refl) tt
form_items n (token (mark Dollar)) = fixed (Ok (More n ∷ [])) (λ w. refl) tt
form_items n (token (mark Asterisk)) = fixed (Ok (More n ∷ [])) (λ w. refl) tt
form_items n (token (name m text)) = fixed (Ok (More n ∷ [])) (λ w. refl) tt
form_items n (token (number text)) = fixed (Ok (More n ∷ [])) (λ w. refl) tt
form_items n (token (element text)) = fixed (Ok (More n ∷ [])) (λ w. refl) tt
form_items n (token (string text)) = fixed (Ok (More n ∷ [])) (λ w. refl) tt
form_items n (token (binary text)) = fixed (Ok (More n ∷ [])) (λ w. refl) tt
form_items n (token (keyword text)) = by_level n (Just Open ∷ Value (n + 1) ∷ Just Close ∷ More n ∷ [])
    (λ w. then_if n (nat_lt n w.levels) (Just Open ∷ Value (n + 1) ∷ Just Close ∷ []) kinds.TooDeep) (λ w h. h)
    (λ e. cc)
form_items n (token (mark Open)) = by_level n (Items (n + 1) ∷ More n ∷ [])
    (λ w. then_if n (nat_lt n w.levels) (Items (n + 1) ∷ []) kinds.TooDeep) (λ w h. h) (λ e. cc)
form_items n s = fixed (Err (refused s)) (λ w. refl) (told_refused (Items n) s)

-- the form of each symbol's row
pub form : (y : Symbol) (s : Lookahead) → Form y s
form (Just m) s = fixed (if is_mark m s then Ok [] else Err (refused s)) (λ w. refl) (told_just m s (is_mark m s))
form Start s = fixed (next_start s) (λ w. refl) (told_start s)
form (Say word) s = fixed (next_say word s) (λ w. refl) (told_say word s)
form (Head word) s = form_head word s
form Records s = fixed (next_records s) (λ w. refl) (told_records s)
form Ended s = fixed (next_ended s) (λ w. refl) (told_ended s)
form (Sections k names) s = form_sections k names s
form Behind s = fixed (next_behind s) (λ w. refl) (told_behind s)
form Quoted s = fixed (next_quoted s) (λ w. refl) (told_quoted s)
form (Rows k names) s = form_rows k names s
form Body s = fixed (next_body s) (λ w. refl) (told_body s)
form (PartialRecords before) s = form_partials before s
form (Value n) s = form_value n s
form (Items n) s = form_items n s
form (More n) s = fixed (next_more n s) (λ w. refl) (told_more n s)
form EndOfText s = fixed (next_end_of_text s) (λ w. refl) (told_over s)
