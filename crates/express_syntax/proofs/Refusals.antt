-- What the table answers where so many brackets may be open, against what it answers where one more may: what it
-- lets stand leaves only such symbols and stands there too; and each fault has its reason.
use Rattle.std.proofs.Common.{◌≡◌, ℕ, ◌+◌, ◌≤◌, ◌<◌, nat_lt, Bool, true, false, if◌then◌else◌, List, [], ◌∷◌, ◌++◌, length, Ok, Err, MatchResult, refl, sym, ap, ◌∙◌, arith}
use Rattle.parsing.specs.Languages.{AllAre}
use Rattle.parsing.proofs.Lists.{all_append}
use Rattle.express_lexer.specs.declared.marks.Mark.{Mark}
use Rattle.express_lexer.specs.declared.marks.Mark.TheVariants as marks
use Rattle.express_syntax.specs.declared.keyword.Keyword.{Keyword}
use Rattle.express_syntax.specs.declared.keyword.Keyword.TheVariants as keywords
use Rattle.express_syntax.specs.Words.{keyword, name, string, encoded, mark}
use Rattle.express_syntax.specs.declared.fault.FaultKind.{FaultKind}
use Rattle.express_syntax.specs.declared.fault.FaultKind.TheVariants as fault_kinds
use Rattle.express_syntax.specs.declared.fault.LeftOut.{LeftOut}
use Rattle.express_syntax.specs.declared.fault.LeftOut.TheVariants as left_out
use Rattle.express_syntax.specs.Runs.{Bracket, parenthesis, square, brace}
use Rattle.express_syntax.specs.Texts.{Lookahead, token, flawed}
use Rattle.express_syntax.specs.steps.Predict.{RunEnd, in_rule, in_parentheses, Ending, semicolon, ending_mark, Clause, explicits, derived, inverses, uniques, Symbol, Just, Say, Id, Names, Version, Declarations, EndOfText, SkippedName, SkippedEnd, Routine, Until, Underlying, DataTypeThen, WidthOr, FixedWidthOr, FixedOr, BoundsOrOf, OptionalOr, UniqueOr, Running, TypeEnd, Rules, Labelled, Head, Super, SuperOf, Sub, Body, AnAttribute, Explicits, OptionalDataType, Inverted, Holder, Uniques, UniqueNamed, refused, Next, same_keyword, is_mark, is_keyword, bounds_symbols, if_shallow, next_data_type, next_unique, next_optional, next_mark_or, next_fixed, ends_part, same_bracket, opened, closed, next_outside, next_mark, next_running, then_rules, next_rules, next_labelled, next_sub, next_super_of, next_super, next_head, next_attribute, follows, next_clause, next_body, next_explicits, next_optional_data_type, next_inverted, next_holder, next_uniques, next_unique_named, next_type_end, next_underlying, next_bounds, next_id, next_names, next_version, next}
use Rattle.express_syntax.proofs.SoundRuns.{is_below}

-- a symbol of what is read, with no more brackets open around it than may be
abbrev pub IsRead : ℕ → Symbol → Type 0
IsRead levels Declarations = ⊥
IsRead levels EndOfText = ⊥
IsRead levels SkippedName = ⊥
IsRead levels SkippedEnd = ⊥
IsRead levels (Routine n) = ⊥
IsRead levels (Until end) = ⊥
IsRead levels (DataTypeThen n end) = n ≤ levels
IsRead levels (WidthOr n end) = n ≤ levels
IsRead levels (FixedWidthOr n end) = n ≤ levels
IsRead levels (BoundsOrOf n) = n ≤ levels
IsRead levels (OptionalOr n end) = n ≤ levels
IsRead levels (UniqueOr n end) = n ≤ levels
IsRead levels (Running part n inner some) = n + length inner ≤ levels
IsRead levels _ = Unit {0}

-- where a symbol stands: in what is read, or in a skipped declaration
pub data Place : Type 0 where
  in_schema : Place
  in_skipped : Place

-- this word is left out there
abbrev pub Leaves : Place → Lookahead → LeftOut → Type 0
Leaves in_skipped s part = ⊥
Leaves p s left_out.Use = s ≡ token (keyword keywords.Use)
Leaves p s left_out.Reference = s ≡ token (keyword keywords.Reference)
Leaves p s left_out.Renamed = s ≡ token (keyword keywords.Renamed)
Leaves p s left_out.Extensible = s ≡ token (keyword keywords.Extensible)
Leaves p s left_out.BasedOn = s ≡ token (keyword keywords.BasedOn)
Leaves p s left_out.GenericEntity = s ≡ token (keyword keywords.GenericEntity)
Leaves p s left_out.SecondSchema = s ≡ token (keyword keywords.Schema)
Leaves p s part = ⊥

-- it is no fault of its own there
abbrev pub IsQuiet : Place → Lookahead → Type 0
IsQuiet p s = (s ≡ flawed → ⊥) × ((part : LeftOut) → Leaves p s part → ⊥)

-- why the table, told for each number of brackets, has this fault
abbrev pub Told : Place → (ℕ → Next) → ℕ → Lookahead → FaultKind → Type 0
Told p f levels s fault_kinds.BadToken = (s ≡ flawed) × (f (levels + 1) ≡ Err fault_kinds.BadToken)
Told p f levels s (fault_kinds.LeftOut part) = Leaves p s part × (f (levels + 1) ≡ Err (fault_kinds.LeftOut part))
Told p f levels s fault_kinds.TooDeep = IsQuiet p s × (zs : List Symbol) × (f (levels + 1) ≡ Ok zs)
Told p f levels s fault_kinds.Expected = IsQuiet p s × (f (levels + 1) ≡ Err fault_kinds.Expected)

abbrev pub Answer : (ℕ → Next) → ℕ → Lookahead → Next → Type 0
Answer f levels s v = MatchResult v (λ zs. AllAre (IsRead levels) zs × (f (levels + 1) ≡ Ok zs))
    (Told in_schema f levels s)

-- what stands in no place of its own
pub bad_is : (s : Lookahead) → refused s ≡ fault_kinds.BadToken → s ≡ flawed
bad_is flawed e = refl
bad_is (token (keyword keywords.Use)) e = absurd cc
bad_is s e = absurd cc

pub deep_never : (s : Lookahead) → refused s ≡ fault_kinds.TooDeep → ⊥
deep_never (token (keyword keywords.Use)) e = cc
deep_never s e = cc

pub left_is : (s : Lookahead) (part : LeftOut) → refused s ≡ fault_kinds.LeftOut part → Leaves in_schema s part
left_is (token (keyword keywords.Use)) left_out.Use e = refl
left_is (token (keyword keywords.Reference)) left_out.Reference e = refl
left_is (token (keyword keywords.Renamed)) left_out.Renamed e = refl
left_is (token (keyword keywords.Extensible)) left_out.Extensible e = refl
left_is (token (keyword keywords.BasedOn)) left_out.BasedOn e = refl
left_is (token (keyword keywords.GenericEntity)) left_out.GenericEntity e = refl
left_is (token (keyword keywords.Schema)) left_out.SecondSchema e = refl
left_is s part e = absurd cc

not_expected : (k : FaultKind) (s t : Lookahead) → refused s ≡ fault_kinds.Expected → s ≡ t → refused t ≡ k
    → (k ≡ fault_kinds.Expected → ⊥) → ⊥
not_expected k s t e g r n = n (sym r ∙ ap refused (sym g) ∙ e)

pub quiet : (s : Lookahead) → refused s ≡ fault_kinds.Expected → IsQuiet in_schema s
quiet s e = ((λ g. not_expected fault_kinds.BadToken s flawed e g refl (λ d. cc)), λ part h. by part h)
  where
    by : (part : LeftOut) → Leaves in_schema s part → ⊥
    by left_out.Use h = not_expected (fault_kinds.LeftOut left_out.Use) s (token (keyword keywords.Use)) e h refl
        (λ d. cc)
    by left_out.Reference h = not_expected (fault_kinds.LeftOut left_out.Reference) s
        (token (keyword keywords.Reference)) e h refl (λ d. cc)
    by left_out.Renamed h = not_expected (fault_kinds.LeftOut left_out.Renamed) s (token (keyword keywords.Renamed)) e h
        refl (λ d. cc)
    by left_out.Extensible h = not_expected (fault_kinds.LeftOut left_out.Extensible) s
        (token (keyword keywords.Extensible)) e h refl (λ d. cc)
    by left_out.BasedOn h = not_expected (fault_kinds.LeftOut left_out.BasedOn) s (token (keyword keywords.BasedOn)) e h
        refl (λ d. cc)
    by left_out.GenericEntity h = not_expected (fault_kinds.LeftOut left_out.GenericEntity) s
        (token (keyword keywords.GenericEntity)) e h refl (λ d. cc)
    by left_out.SecondSchema h = not_expected (fault_kinds.LeftOut left_out.SecondSchema) s
        (token (keyword keywords.Schema)) e h refl (λ d. cc)
    by left_out.TooLarge h = h

pub refusal : (f : ℕ → Next) (levels : ℕ) (s : Lookahead) → f (levels + 1) ≡ Err (refused s) → Told in_schema f levels s
    (refused s)
refusal f levels s e = by (refused s) refl e
  where
    by : (k : FaultKind) → refused s ≡ k → f (levels + 1) ≡ Err k → Told in_schema f levels s k
    by fault_kinds.BadToken g e = (bad_is s g, e)
    by (fault_kinds.LeftOut part) g e = (left_is s part g, e)
    by fault_kinds.Expected g e = (quiet s g, e)
    by fault_kinds.TooDeep g e = absurd (deep_never s g)

-- an answer that brackets don't matter to
if_answer : (levels : ℕ) (s : Lookahead) (b : Bool) → Answer (λ l. if b then Ok [] else Err (refused s)) levels s
    (if b then Ok [] else Err (refused s))
if_answer levels s true = (tt, refl)
if_answer levels s false = refusal (λ l. Err (refused s)) levels s refl

under : (n levels : ℕ) → n ≤ levels → nat_lt n (levels + 1) ≡ true
under n levels h = let l : n < levels + 1 = omega (arith, h) in grind arith

-- one that they do
shallow_answer : (levels n : ℕ) (ys : List Symbol) (s : Lookahead) → refused s ≡ fault_kinds.Expected → n ≤ levels
    → (n < levels → AllAre (IsRead levels) ys) → Answer (λ l. if_shallow l n ys) levels s (if_shallow levels n ys)
shallow_answer levels n ys s q h all = by (nat_lt n levels) refl
  where
    by : (b : Bool) → nat_lt n levels ≡ b → Answer (λ l. if_shallow l n ys) levels s
        (if b then Ok ys else Err fault_kinds.TooDeep)
    by true e = (all (is_below n levels e), rw (under n levels h) refl)
    by false e = (quiet s q, ys, rw (under n levels h) refl)

-- kinds
bounds_read : (levels n : ℕ) (y : Symbol) → n < levels → IsRead levels y → AllAre (IsRead levels) (bounds_symbols n ++ y
    ∷ [])
bounds_read levels n y d h = (omega (arith, d), (omega (arith, d), (tt, (h, tt))))

kind_answer : (levels n : ℕ) (end : Ending) (s : Lookahead) → n ≤ levels → Answer (λ l. next_data_type l n end s) levels
    s (next_data_type levels n end s)
kind_answer levels n end (token (keyword keywords.Integer)) h = ((tt, tt), refl)
kind_answer levels n end (token (keyword keywords.Number)) h = ((tt, tt), refl)
kind_answer levels n end (token (keyword keywords.Boolean)) h = ((tt, tt), refl)
kind_answer levels n end (token (keyword keywords.Logical)) h = ((tt, tt), refl)
kind_answer levels n end (token (keyword keywords.Real)) h = ((h, tt), refl)
kind_answer levels n end (token (keyword keywords.String)) h = ((h, tt), refl)
kind_answer levels n end (token (keyword keywords.Binary)) h = ((h, tt), refl)
kind_answer levels n end (token (name m)) h = ((tt, tt), refl)
kind_answer levels n end (token (keyword keywords.Array)) h =
    shallow_answer levels n (Just marks.OpenBracket ∷ (bounds_symbols n ++ OptionalOr (n + 1) end ∷ []))
    (token (keyword keywords.Array)) refl h
    (λ d. (tt, bounds_read levels n (OptionalOr (n + 1) end) d (omega (arith, d))))
kind_answer levels n end (token (keyword keywords.List)) h = shallow_answer levels n
    (BoundsOrOf n ∷ UniqueOr (n + 1) end ∷ []) (token (keyword keywords.List)) refl h (λ d. (h, (omega (arith, d), tt)))
kind_answer levels n end (token (keyword keywords.Bag)) h = shallow_answer levels n
    (BoundsOrOf n ∷ DataTypeThen (n + 1) end ∷ []) (token (keyword keywords.Bag)) refl h
    (λ d. (h, (omega (arith, d), tt)))
kind_answer levels n end (token (keyword keywords.Set)) h = shallow_answer levels n
    (BoundsOrOf n ∷ DataTypeThen (n + 1) end ∷ []) (token (keyword keywords.Set)) refl h
    (λ d. (h, (omega (arith, d), tt)))
kind_answer levels n end s h = refusal (λ l. next_data_type l n end s) levels s refl

underlying_answer : (levels : ℕ) (s : Lookahead) → Answer (λ l. next_underlying l s) levels s (next_underlying levels s)
underlying_answer levels (token (keyword keywords.Enumeration)) = ((tt, (tt, (tt, (tt, (tt, tt))))), refl)
underlying_answer levels (token (keyword keywords.Select)) = ((tt, (tt, (tt, (tt, tt)))), refl)
underlying_answer levels s = kind_answer levels 0 semicolon s (omega arith)

unique_answer : (levels n : ℕ) (end : Ending) (s : Lookahead) → n ≤ levels → Answer (λ l. next_unique l n end s) levels
    s (next_unique levels n end s)
unique_answer levels n end (token (keyword keywords.Unique)) h = ((h, tt), refl)
unique_answer levels n end s h = kind_answer levels n end s h

optional_answer : (levels n : ℕ) (end : Ending) (s : Lookahead) → n ≤ levels → Answer (λ l. next_optional l n end s)
    levels s (next_optional levels n end s)
optional_answer levels n end (token (keyword keywords.Optional)) h = ((h, tt), refl)
optional_answer levels n end s h = unique_answer levels n end s h

optional_kind_answer : (levels : ℕ) (s : Lookahead) → Answer (λ l. next_optional_data_type l s) levels s
    (next_optional_data_type levels s)
optional_kind_answer levels (token (keyword keywords.Optional)) = ((omega arith, tt), refl)
optional_kind_answer levels s = kind_answer levels 0 semicolon s (omega arith)

mark_or_answer : (levels n : ℕ) (end : Ending) (ys : List Symbol) (s : Lookahead) → n ≤ levels
    → AllAre (IsRead levels) ys → Answer (λ l. next_mark_or l n end ys s) levels s (next_mark_or levels n end ys s)
mark_or_answer levels n end ys (token (mark marks.Open)) h all = shallow_answer levels n
    (Running in_parentheses (n + 1) [] false ∷ ys) (token (mark marks.Open)) refl h (λ d. (omega (arith, d), all))
mark_or_answer levels n end ys s h all = if_answer levels s (is_mark (ending_mark end) s)

fixed_answer : (levels : ℕ) (end : Ending) (s : Lookahead) → Answer (λ l. next_fixed end s) levels s (next_fixed end s)
fixed_answer levels end (token (keyword keywords.Fixed)) = ((tt, tt), refl)
fixed_answer levels end s = if_answer levels s (is_mark (ending_mark end) s)

bounds_answer : (levels n : ℕ) (s : Lookahead) → n ≤ levels → Answer (λ l. next_bounds l n s) levels s
    (next_bounds levels n s)
bounds_answer levels n (token (mark marks.OpenBracket)) h = shallow_answer levels n (bounds_symbols n)
    (token (mark marks.OpenBracket)) refl h (λ d. (omega (arith, d), (omega (arith, d), (tt, tt))))
bounds_answer levels n (token (keyword keywords.Of)) h = (tt, refl)
bounds_answer levels n s h = refusal (λ l. next_bounds l n s) levels s refl

-- runs
abbrev OfMark : ℕ → Next → Type 0
OfMark levels v = MatchResult v (AllAre (IsRead levels)) (λ k. k ≡ fault_kinds.Expected)

mark_answer : (levels : ℕ) (m : Mark) (v : Next) → OfMark levels v → Answer (λ l. v) levels (token (mark m)) v
mark_answer levels m (Ok zs) h = (h, refl)
mark_answer levels m (Err fault_kinds.Expected) h = refusal (λ l. Err fault_kinds.Expected) levels (token (mark m)) refl
mark_answer levels m (Err k) h = absurd cc

outside_marks : (levels : ℕ) (part : RunEnd) (n : ℕ) (some closes : Bool) (m : Mark) → n ≤ levels
    → OfMark levels (next_outside part n some closes m)
outside_marks levels part n some closes m h = by (ends_part part m) some closes
  where
    by : (a b c : Bool) → OfMark levels (if a then (if b then Ok [] else Err fault_kinds.Expected) else
        (if c then Err fault_kinds.Expected else Ok (Running part n [] true ∷ [])))
    by true true c = tt
    by true false c = refl
    by false b true = refl
    by false b false = (omega (arith, h), tt)

closed_marks : (levels : ℕ) (part : RunEnd) (n : ℕ) (inner : List Bracket) (some : Bool) (b : Bracket) (m : Mark)
    → n + length inner ≤ levels → OfMark levels (closed part n inner some b m)
closed_marks levels part n [] some b m h = outside_marks levels part n some true m (omega (arith, h))
closed_marks levels part n (c ∷ inner) some b m h = by (same_bracket b c)
  where
    by : (t : Bool) → OfMark levels (if t then Ok (Running part n inner true ∷ []) else Err fault_kinds.Expected)
    by true = (omega (arith, h), tt)
    by false = refl

other_marks : (levels : ℕ) (part : RunEnd) (n : ℕ) (inner : List Bracket) (some : Bool) (m : Mark)
    → n + length inner ≤ levels → OfMark levels (next_mark part n inner some m)
other_marks levels part n [] some m h = outside_marks levels part n some false m (omega (arith, h))
other_marks levels part n (c ∷ inner) some m h = (h, tt)

opened_answer : (levels : ℕ) (part : RunEnd) (n : ℕ) (inner : List Bracket) (b : Bracket) (m : Mark)
    → n + length inner ≤ levels → Answer (λ l. opened l part n inner b) levels (token (mark m))
    (opened levels part n inner b)
opened_answer levels part n inner b m h = shallow_answer levels (n + length inner) (Running part n (b ∷ inner) true
    ∷ []) (token (mark m)) refl h (λ d. (omega (arith, d), tt))

running_answer : (levels : ℕ) (part : RunEnd) (n : ℕ) (inner : List Bracket) (some : Bool) (s : Lookahead)
    → n + length inner ≤ levels → Answer (λ l. next_running l part n inner some s) levels s
    (next_running levels part n inner some s)
running_answer levels part n inner some (token (mark marks.Open)) h = opened_answer levels part n inner parenthesis
    marks.Open h
running_answer levels part n inner some (token (mark marks.OpenBracket)) h = opened_answer levels part n inner square
    marks.OpenBracket h
running_answer levels part n inner some (token (mark marks.OpenBrace)) h = opened_answer levels part n inner brace
    marks.OpenBrace h
running_answer levels part n inner some (token (mark marks.Close)) h = mark_answer levels marks.Close
    (closed part n inner some parenthesis marks.Close) (closed_marks levels part n inner some parenthesis marks.Close h)
running_answer levels part n inner some (token (mark marks.CloseBracket)) h = mark_answer levels marks.CloseBracket
    (closed part n inner some square marks.CloseBracket) (closed_marks levels part n inner some square
    marks.CloseBracket h)
running_answer levels part n inner some (token (mark marks.CloseBrace)) h = mark_answer levels marks.CloseBrace
    (closed part n inner some brace marks.CloseBrace) (closed_marks levels part n inner some brace marks.CloseBrace h)
running_answer levels part n inner some (token (mark m)) h = mark_answer levels m (next_mark part n inner some m)
    (other_marks levels part n inner some m h)
running_answer levels part n inner some (token w) h = ((h, tt), refl)
running_answer levels part n inner some s h = refusal (λ l. Err (refused s)) levels s refl

-- rules
then_answer : (g : ℕ → Next) (levels : ℕ) (s : Lookahead) (end : Keyword) → Answer g levels s (g levels)
    → Answer (λ l. then_rules end (g l)) levels s (then_rules end (g levels))
then_answer g levels s end h = by (g levels) h
  where
    by : (v : Next) → Answer g levels s v → Answer (λ l. then_rules end (g l)) levels s (then_rules end v)
    by (Ok ys) h = (all_append (IsRead levels) ys (Rules end ∷ []) h.0 (tt, tt), ap (then_rules end) h.1)
    by (Err fault_kinds.BadToken) h = (h.0, ap (then_rules end) h.1)
    by (Err (fault_kinds.LeftOut part)) h = (h.0, ap (then_rules end) h.1)
    by (Err fault_kinds.TooDeep) h = (h.0, h.1 ++ Rules end ∷ [], ap (then_rules end) h.2)
    by (Err fault_kinds.Expected) h = (h.0, ap (then_rules end) h.1)

rules_answer : (levels : ℕ) (end : Keyword) (s : Lookahead) → Answer (λ l. next_rules l end s) levels s
    (next_rules levels end s)
rules_answer levels end (token (keyword k)) = by (same_keyword k end)
  where
    by : (b : Bool) → Answer (λ l. if b then Ok (Just marks.Semicolon ∷ []) else Ok (Running in_rule 0 [] true
        ∷ Rules end ∷ [])) levels (token (keyword k)) (if b then Ok (Just marks.Semicolon ∷ []) else Ok
        (Running in_rule 0 [] true ∷ Rules end ∷ []))
    by true = ((tt, tt), refl)
    by false = ((omega arith, (tt, tt)), refl)
rules_answer levels end (token (name n)) = ((tt, tt), refl)
rules_answer levels end s = then_answer (λ l. next_running l in_rule 0 [] false s) levels s end
    (running_answer levels in_rule 0 [] false s (omega arith))

labelled_answer : (levels : ℕ) (end : Keyword) (s : Lookahead) → Answer (λ l. next_labelled l end s) levels s
    (next_labelled levels end s)
labelled_answer levels end (token (mark marks.Colon)) = ((omega arith, (tt, tt)), refl)
labelled_answer levels end s = then_answer (λ l. next_running l in_rule 0 [] true s) levels s end
    (running_answer levels in_rule 0 [] true s (omega arith))

type_end_answer : (levels : ℕ) (s : Lookahead) → Answer (λ l. next_type_end s) levels s (next_type_end s)
type_end_answer levels (token (keyword keywords.Where)) = ((tt, tt), refl)
type_end_answer levels (token (keyword keywords.EndType)) = ((tt, tt), refl)
type_end_answer levels s = refusal (λ l. next_type_end s) levels s refl

-- names
id_answer : (levels : ℕ) (s : Lookahead) → Answer (λ l. next_id s) levels s (next_id s)
id_answer levels (token (name n)) = (tt, refl)
id_answer levels s = refusal (λ l. next_id s) levels s refl

names_answer : (levels : ℕ) (s : Lookahead) → Answer (λ l. next_names s) levels s (next_names s)
names_answer levels (token (mark marks.Comma)) = ((tt, (tt, tt)), refl)
names_answer levels (token (mark marks.Close)) = (tt, refl)
names_answer levels s = refusal (λ l. next_names s) levels s refl

version_answer : (levels : ℕ) (s : Lookahead) → Answer (λ l. next_version s) levels s (next_version s)
version_answer levels (token (string t)) = ((tt, tt), refl)
version_answer levels (token (encoded t)) = ((tt, tt), refl)
version_answer levels (token (mark marks.Semicolon)) = (tt, refl)
version_answer levels s = refusal (λ l. next_version s) levels s refl

-- entities
sub_answer : (levels : ℕ) (s : Lookahead) → Answer (λ l. next_sub s) levels s (next_sub s)
sub_answer levels (token (keyword keywords.Subtype)) = ((tt, (tt, (tt, (tt, (tt, tt))))), refl)
sub_answer levels (token (mark marks.Semicolon)) = (tt, refl)
sub_answer levels s = refusal (λ l. next_sub s) levels s refl

super_of_answer : (levels : ℕ) (s : Lookahead) → 0 < levels → Answer (λ l. next_super_of s) levels s (next_super_of s)
super_of_answer levels (token (keyword keywords.Of)) h = ((tt, (omega (arith, h), (tt, tt))), refl)
super_of_answer levels s h = sub_answer levels s

super_answer : (levels : ℕ) (s : Lookahead) → Answer (λ l. next_super s) levels s (next_super s)
super_answer levels (token (keyword keywords.Supertype)) = ((tt, tt), refl)
super_answer levels s = sub_answer levels s

head_answer : (levels : ℕ) (s : Lookahead) → Answer (λ l. next_head s) levels s (next_head s)
head_answer levels (token (keyword keywords.Abstract)) = ((tt, tt), refl)
head_answer levels s = super_answer levels s

attribute_answer : (levels : ℕ) (s : Lookahead) → Answer (λ l. next_attribute s) levels s (next_attribute s)
attribute_answer levels (token (name n)) = (tt, refl)
attribute_answer levels (token (keyword keywords.SelfWord)) = ((tt, (tt, (tt, (tt, tt)))), refl)
attribute_answer levels s = refusal (λ l. next_attribute s) levels s refl

name_read : (levels : ℕ) (c : Clause) (n : List ℕ) → Answer (λ l. next_body c (token (name n))) levels (token (name n))
    (next_body c (token (name n)))
name_read levels explicits n = ((tt, (tt, tt)), refl)
name_read levels derived n = ((tt, (omega arith, (omega arith, (tt, tt)))), refl)
name_read levels inverses n = ((tt, (tt, (tt, (tt, (tt, (tt, tt)))))), refl)
name_read levels uniques n = ((tt, (tt, tt)), refl)

own_read : (levels : ℕ) (c : Clause) → Answer (λ l. next_body c (token (keyword keywords.SelfWord))) levels
    (token (keyword keywords.SelfWord)) (next_body c (token (keyword keywords.SelfWord)))
own_read levels explicits = ((tt, (tt, (tt, (tt, (tt, (tt, tt)))))), refl)
own_read levels derived = ((tt, (tt, (tt, (tt, (tt, (omega arith, (omega arith, (tt, tt)))))))), refl)
own_read levels inverses = ((tt, (tt, (tt, (tt, (tt, (tt, (tt, (tt, (tt, (tt, tt)))))))))), refl)
own_read levels uniques = ((tt, (tt, (tt, (tt, (tt, (tt, tt)))))), refl)

clause_answer : (levels : ℕ) (c d : Clause) (s : Lookahead) → refused s ≡ fault_kinds.Expected
    → Answer (λ l. next_clause c d) levels s (next_clause c d)
clause_answer levels c d s q = by (follows c d)
  where
    by : (b : Bool) → Answer (λ l. if b then Ok (Body d ∷ []) else Err fault_kinds.Expected) levels s
        (if b then Ok (Body d ∷ []) else Err fault_kinds.Expected)
    by true = ((tt, tt), refl)
    by false = (quiet s q, refl)

body_answer : (levels : ℕ) (c : Clause) (s : Lookahead) → Answer (λ l. next_body c s) levels s (next_body c s)
body_answer levels c (token (name n)) = name_read levels c n
body_answer levels c (token (keyword keywords.SelfWord)) = own_read levels c
body_answer levels c (token (keyword keywords.Derive)) = clause_answer levels c derived
    (token (keyword keywords.Derive)) refl
body_answer levels c (token (keyword keywords.Inverse)) = clause_answer levels c inverses
    (token (keyword keywords.Inverse)) refl
body_answer levels c (token (keyword keywords.Unique)) = clause_answer levels c uniques
    (token (keyword keywords.Unique)) refl
body_answer levels c (token (keyword keywords.Where)) = ((tt, tt), refl)
body_answer levels c (token (keyword keywords.EndEntity)) = ((tt, tt), refl)
body_answer levels c s = refusal (λ l. next_body c s) levels s refl

explicits_answer : (levels : ℕ) (s : Lookahead) → Answer (λ l. next_explicits s) levels s (next_explicits s)
explicits_answer levels (token (mark marks.Comma)) = ((tt, (tt, tt)), refl)
explicits_answer levels (token (mark marks.Colon)) = ((tt, tt), refl)
explicits_answer levels s = refusal (λ l. next_explicits s) levels s refl

inverted_answer : (levels : ℕ) (s : Lookahead) → Answer (λ l. next_inverted s) levels s (next_inverted s)
inverted_answer levels (token (keyword keywords.Set)) = ((omega arith, (tt, tt)), refl)
inverted_answer levels (token (keyword keywords.Bag)) = ((omega arith, (tt, tt)), refl)
inverted_answer levels s = id_answer levels s

holder_answer : (levels : ℕ) (s : Lookahead) → Answer (λ l. next_holder s) levels s (next_holder s)
holder_answer levels (token (mark marks.Dot)) = ((tt, (tt, tt)), refl)
holder_answer levels (token (mark marks.Semicolon)) = (tt, refl)
holder_answer levels s = refusal (λ l. next_holder s) levels s refl

uniques_answer : (levels : ℕ) (s : Lookahead) → Answer (λ l. next_uniques s) levels s (next_uniques s)
uniques_answer levels (token (mark marks.Comma)) = ((tt, (tt, tt)), refl)
uniques_answer levels (token (mark marks.Semicolon)) = (tt, refl)
uniques_answer levels s = refusal (λ l. next_uniques s) levels s refl

unique_named_answer : (levels : ℕ) (s : Lookahead) → Answer (λ l. next_unique_named s) levels s (next_unique_named s)
unique_named_answer levels (token (mark marks.Colon)) = ((tt, (tt, tt)), refl)
unique_named_answer levels s = uniques_answer levels s

-- each symbol of what is read
pub read_answer : (levels : ℕ) → 0 < levels → (y : Symbol) → IsRead levels y → (s : Lookahead)
    → Answer (λ l. next l y s) levels s (next levels y s)
read_answer levels d (Just m) h s = if_answer levels s (is_mark m s)
read_answer levels d (Say k) h s = if_answer levels s (is_keyword k s)
read_answer levels d Id h s = id_answer levels s
read_answer levels d Names h s = names_answer levels s
read_answer levels d Version h s = version_answer levels s
read_answer levels d Declarations h s = absurd h
read_answer levels d EndOfText h s = absurd h
read_answer levels d SkippedName h s = absurd h
read_answer levels d SkippedEnd h s = absurd h
read_answer levels d (Routine n) h s = absurd h
read_answer levels d (Until end) h s = absurd h
read_answer levels d Underlying h s = underlying_answer levels s
read_answer levels d (DataTypeThen n end) h s = kind_answer levels n end s h
read_answer levels d (WidthOr n end) h s = mark_or_answer levels n end (Just (ending_mark end) ∷ []) s h (tt, tt)
read_answer levels d (FixedWidthOr n end) h s = mark_or_answer levels n end (FixedOr end ∷ []) s h (tt, tt)
read_answer levels d (FixedOr end) h s = fixed_answer levels end s
read_answer levels d (BoundsOrOf n) h s = bounds_answer levels n s h
read_answer levels d (OptionalOr n end) h s = optional_answer levels n end s h
read_answer levels d (UniqueOr n end) h s = unique_answer levels n end s h
read_answer levels d (Running part n inner some) h s = running_answer levels part n inner some s h
read_answer levels d TypeEnd h s = type_end_answer levels s
read_answer levels d (Rules end) h s = rules_answer levels end s
read_answer levels d (Labelled end) h s = labelled_answer levels end s
read_answer levels d Head h s = head_answer levels s
read_answer levels d Super h s = super_answer levels s
read_answer levels d SuperOf h s = super_of_answer levels s d
read_answer levels d Sub h s = sub_answer levels s
read_answer levels d (Body c) h s = body_answer levels c s
read_answer levels d AnAttribute h s = attribute_answer levels s
read_answer levels d Explicits h s = explicits_answer levels s
read_answer levels d OptionalDataType h s = optional_kind_answer levels s
read_answer levels d Inverted h s = inverted_answer levels s
read_answer levels d Holder h s = holder_answer levels s
read_answer levels d Uniques h s = uniques_answer levels s
read_answer levels d UniqueNamed h s = unique_named_answer levels s
