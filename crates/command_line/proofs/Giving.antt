-- What the words behind a command give, where clap finds no fault in them.
use Rattle.std.proofs.Common.{◌≡◌, ◌⊎◌, ◌∙◌, ◌++◌, ◌+◌, ◌<◌, ◌≤◌, ◌==◌, ℕ, List, [], ◌∷◌, Option, Some, None, Bool, true, false, inl, inr, refl, sym, ap, ap₂, codes, subst, arith, append-nil, append_assoc, option_map, true≢false}
use Rattle.std.specs.Prelude.{if◌then◌else◌, is_some, length}
use Rattle.std.specs.List.{fold}
use Rattle.std.specs.Str.{IsUtf8, bytes_eq}
use Rattle.std.proofs.lemmas.Bool.{cases_lt}
use Rattle.std.proofs.lemmas.List.{length-append}
use Rattle.clap.specs.Kinds.{Kinds, or_else}
use Rattle.clap.specs.Lexer.{long_of, name_and_value}
use Rattle.clap.specs.Walk.{Held, Row, Rule, Text, Waiting, Walk, arg_by_long, has_row, idle, option, settled_rows, subcommand_met, takes_values, used, value, walked}
use Rattle.clap.specs.Faults.{bundle_fault, long_fault, option_fault, react_fault, settle_fault, step_fault, turn_fault, use_fault, walk_fault, word_fault}
use Rattle.clap.specs.declared.error.kind.ErrorKind.{ErrorKind}
use Rattle.clap.specs.declared.error.kind.ErrorKind.TheVariants as kind
use Rattle.command_line.specs.Commands.{Command, Flag, Given, Gives, IsOperand, Options, TakesOptions, Valued, dashes, flag_name, given_as, has_flag, merge_option, alias_option, in_sets_flag, strict_flag, no_options, nothing, one_flag, one_joined, one_operand, one_value, only_operands, takes_flag, takes_value, value_name, value_of, with_flag, with_option}
use Rattle.command_line.proofs.Rows.{found, given_row, has_found}
use Rattle.command_line.proofs.Levels.{Holds, Stands, TakesFlag, TakesValue, count, flag_absent, flag_at, flag_built, flag_is_taken, flag_taken, fresh, level, never_again, next, one_use, operand_fits, operand_moves, operand_refused, rules, single_value, stand, stands_flag, stands_joined, stands_nothing, stands_operand, stands_value, text_at, value_absent, value_at, value_built, value_is_taken, value_taken}
use Rattle.command_line.proofs.Steps.{IsNamed, dashes_turn, dashes_walk, flag_named, flag_turn, flag_walk, joined_turn, joined_walk, named, named_turn, named_walk, option_turn, option_walk, other, short_asks, spelt, trailing_turn, trailing_walk, unnamed, unnamed_waits, value_named, value_turn, value_walk}
use Rattle.command_line.proofs.Walking.{AreTexts, LooksShort, begins, cut_text, first_turn, flags_refused, long_refused, looks_short, none_first, none_second, some_kind, waits}

-- ---- a walk that goes on

-- no fault from here on, up to the use of what waits at the end
pub record Passes (b : Command) (w : Walk) (words : List Text) : Type 0 where
  pub fits : walk_fault (level b) [] w words ≡ []
  pub ends : settle_fault (rules b) false (fold (walked (rules b) []) w words).held ≡ []

passes_on : (b : Command) (w : Walk) (x : Text) (rest : List Text) → Passes b w (x ∷ rest)
    → Passes b (walked (rules b) [] w x) rest
passes_on b w x rest p = record { fits = (first_turn (level b) [] w x rest p.fits).1; ends = p.ends }

turn_fits : (b : Command) (w : Walk) (x : Text) (rest : List Text) → Passes b w (x ∷ rest)
    → turn_fault (level b) [] w x ≡ []
turn_fits b w x rest p = (first_turn (level b) [] w x rest p.fits).0

-- no fault, and at the end this is given
pub record EndsWith (b : Command) (w : Walk) (words : List Text) (all : Given) : Type 0 where
  pub fits : walk_fault (level b) [] w words ≡ []
  pub rows : List Row
  pub pending : Option (Text × List Text)
  pub held : (fold (walked (rules b) []) w words).held ≡ waits rows pending
  pub stands : Stands b all rows pending

goes_on : (b : Command) (w w' : Walk) (x : Text) (rest : List Text) (all : Given) → turn_fault (level b) [] w x ≡ []
    → walked (rules b) [] w x ≡ w' → EndsWith b w' rest all → EndsWith b w (x ∷ rest) all
unfolding walk_fault
goes_on b w w' x rest all fits is e = record {
  fits = ap₂ or_else fits (ap (λ v. walk_fault (level b) [] v rest) is ∙ e.fits);
  rows = e.rows;
  pending = e.pending;
  held = ap (λ v. (fold (walked (rules b) []) v rest).held) is ∙ e.held;
  stands = e.stands;
}

ended : (b : Command) (trailing : Bool) (rows : List Row) (pending : Option (Text × List Text)) (p : ℕ) (all : Given)
    → Stands b all rows pending → EndsWith b (stand trailing (waits rows pending) p) [] all
unfolding walk_fault
ended b trailing rows pending p all s =
    record { fits = refl; rows = rows; pending = pending; held = refl; stands = s }

-- ---- what is given fits

-- a command has room for the operands, and takes the options
abbrev pub Fitting : Command → Given → Type 0
Fitting b all = (length all.operands ≤ count b) × TakesOptions b all.options

one_longer : (os : List Text) (w : Text) → length (os ++ w ∷ []) ≡ length os + 1
one_longer os w = length-append os (w ∷ [])

-- an option that was given stays
record Stay (before after : Given) : Type 0 where
  operands : length before.operands ≤ length after.operands
  values : (o : Valued) → is_some (value_of o before.options) ≡ true → is_some (value_of o after.options) ≡ true
  flags : (f : Flag) → has_flag f before.options ≡ true → has_flag f after.options ≡ true

value_stays : (o x : Valued) (v : Text) (all : Options) → is_some (value_of x all) ≡ true
    → is_some (value_of x (with_option o v all)) ≡ true
value_stays merge_option merge_option v all e = refl
value_stays merge_option alias_option v all e = e
value_stays alias_option merge_option v all e = e
value_stays alias_option alias_option v all e = refl

value_here : (o : Valued) (v : Text) (all : Options) → is_some (value_of o (with_option o v all)) ≡ true
value_here merge_option v all = refl
value_here alias_option v all = refl

value_keeps : (o : Valued) (f : Flag) (v : Text) (all : Options) → has_flag f (with_option o v all) ≡ has_flag f all
value_keeps merge_option in_sets_flag v all = refl
value_keeps merge_option strict_flag v all = refl
value_keeps alias_option in_sets_flag v all = refl
value_keeps alias_option strict_flag v all = refl

flag_stays : (f x : Flag) (all : Options) → has_flag x all ≡ true → has_flag x (with_flag f all) ≡ true
flag_stays in_sets_flag in_sets_flag all e = refl
flag_stays in_sets_flag strict_flag all e = e
flag_stays strict_flag in_sets_flag all e = e
flag_stays strict_flag strict_flag all e = refl

flag_here : (f : Flag) (all : Options) → has_flag f (with_flag f all) ≡ true
flag_here in_sets_flag all = refl
flag_here strict_flag all = refl

flag_keeps : (f : Flag) (o : Valued) (all : Options) → value_of o (with_flag f all) ≡ value_of o all
flag_keeps in_sets_flag merge_option all = refl
flag_keeps in_sets_flag alias_option all = refl
flag_keeps strict_flag merge_option all = refl
flag_keeps strict_flag alias_option all = refl

grows : {before after : Given} {words : List Text} → Gives before words after → Stay before after
grows nothing = record { operands = omega arith; values = λ o e. e; flags = λ f e. e }
grows (one_operand {operands = os} {word = word} is more) =
    let g = grows more in
    record { operands = omega (arith, g.operands, one_longer os word); values = g.values; flags = g.flags }
grows (one_flag {options = all} f absent more) =
    let g = grows more in
    record {
      operands = g.operands;
      values = λ o e. g.values o (ap is_some (flag_keeps f o all) ∙ e);
      flags = λ x e. g.flags x (flag_stays f x all e);
    }
grows (one_value {options = all} {value = v} o absent is more) =
    let g = grows more in
    record {
      operands = g.operands;
      values = λ x e. g.values x (value_stays o x v all e);
      flags = λ f e. g.flags f (value_keeps o f v all ∙ e);
    }
grows (one_joined {options = all} o v absent more) =
    let g = grows more in
    record {
      operands = g.operands;
      values = λ x e. g.values x (value_stays o x v all e);
      flags = λ f e. g.flags f (value_keeps o f v all ∙ e);
    }
grows (only_operands {operands = os} {more = more}) =
    record { operands = omega (arith, length-append os more); values = λ o e. e; flags = λ f e. e }

-- what a fitting command was given, it takes
value_fits : (b : Command) (o : Valued) (all : Options) → TakesOptions b all → is_some (value_of o all) ≡ true → TakesValue b o
value_fits b o all takes has = value_taken b o (go (takes_value b o) refl)
  where
    go : (t : Bool) → takes_value b o ≡ t → takes_value b o ≡ true
    go true e = e
    go false e = absurd (true≢false (sym has ∙ ap is_some (takes.0 o e)))

flag_fits : (b : Command) (f : Flag) (all : Options) → TakesOptions b all → has_flag f all ≡ true → TakesFlag b f
flag_fits b f all takes has = flag_taken b f (go (takes_flag b f) refl)
  where
    go : (t : Bool) → takes_flag b f ≡ t → takes_flag b f ≡ true
    go true e = e
    go false e = absurd (true≢false (sym has ∙ takes.1 f e))

trailing_ends : (b : Command) (words : List Text) (os : List Text) (all : Options) (rows : List Row)
    (pending : Option (Text × List Text)) → length (os ++ words) ≤ count b → Stands b (given_as os all) rows pending
    → EndsWith b (stand true (waits rows pending) (length os + 1)) words (given_as (os ++ words) all)
trailing_ends b [] os all rows pending few h =
    subst (λ ws. EndsWith b (stand true (waits rows pending) (length os + 1)) [] (given_as ws all)) (sym (append-nil os))
    (ended b true rows pending (length os + 1) (given_as os all) h)
trailing_ends b (w ∷ rest) os all rows pending few h =
    let more : length os < count b = omega (arith, few, length-append os (w ∷ rest)) in
    let joined : (os ++ w ∷ []) ++ rest ≡ os ++ (w ∷ rest) = append_assoc os (w ∷ []) rest in
    goes_on b _ _ w rest _
    (trailing_turn (level b) (waits rows pending) (length os + 1) w ∙ operand_fits b os rows pending more ∙ h.fits)
    (trailing_walk (rules b) (waits rows pending) (length os + 1) w ∙ operand_moves b true os rows pending w more)
    (subst (λ ws. EndsWith b (stand true (waits (settled_rows (rules b) pending rows) (Some (next b os, w ∷ [])))
    (length (os ++ w ∷ []) + 1)) rest (given_as ws all)) joined
    (trailing_ends b rest (os ++ w ∷ []) all (settled_rows (rules b) pending rows) (Some (next b os, w ∷ []))
    (subst (λ ws. length ws ≤ count b) (sym joined) few) (stands_operand b os all rows pending w more h)))

react_fits : (b : Command) (a : Rule) (values : List Text) (rows : List Row) (pending : Option (Text × List Text))
    → settle_fault (rules b) false (waits rows pending) ≡ []
    → use_fault false a values (settled_rows (rules b) pending rows) ≡ []
    → or_else (react_fault (rules b) false a values (waits rows pending)) [] ≡ []
react_fits b a values rows pending before uses = ap (λ k. or_else k []) (ap₂ or_else before uses)

pub ends : (b : Command) {before after : Given} {words : List Text} → Gives before words after → Fitting b after
    → (rows : List Row) (pending : Option (Text × List Text)) → Stands b before rows pending
    → EndsWith b (stand false (waits rows pending) (length before.operands + 1)) words after
ends b (nothing {all = all}) fits rows pending h = ended b false rows pending (length all.operands + 1) all h
ends b (one_operand {operands = os} {options = all} {word = word} {rest = rest} is more) fits rows pending h =
    let few : length os < count b = omega (arith, fits.0, (grows more).operands, one_longer os word) in
    goes_on b _ _ word rest _
    (value_turn (level b) (waits rows pending) (length os + 1) word is
    ∙ operand_fits b os rows pending few ∙ h.fits)
    (value_walk (rules b) (waits rows pending) (length os + 1) word is
    ∙ operand_moves b false os rows pending word few)
    (ends b more fits (settled_rows (rules b) pending rows) (Some (next b os, word ∷ []))
    (stands_operand b os all rows pending word few h))
ends b (one_flag {operands = os} {options = all} {after = after} {rest = rest} f absent more) fits rows pending h =
    let old = settled_rows (rules b) pending rows in
    let t = flag_fits b f after.options fits.1 ((grows more).flags f (flag_here f all)) in
    goes_on b _ _ (dashes ++ flag_name f) rest _
    (flag_turn t rows pending (length os + 1) ∙ react_fits b (flag_built (flag_name f)) [] rows pending h.fits
    (fresh (flag_name f) old (flag_absent b os all f old h.holds absent)))
    (flag_walk t rows pending (length os + 1))
    (ends b more fits (used (flag_built (flag_name f)) [] old) None (stands_flag b f os all rows pending absent h))
ends b (one_value {operands = os} {options = all} {after = after} {value = v} {rest = rest} o absent is more) fits rows pending h =
    let old = settled_rows (rules b) pending rows in
    let t = value_fits b o after.options fits.1 ((grows more).values o (value_here o v all)) in
    goes_on b _ _ (dashes ++ value_name o) (v ∷ rest) _
    (option_turn t rows pending (length os + 1) ∙ ap (λ k. or_else k []) h.fits)
    (option_walk t rows pending (length os + 1))
    (goes_on b _ _ v rest _ (named_turn t old (length os + 1) v is) (named_walk t old (length os + 1) v is)
    (ends b more fits old (Some (value_name o, v ∷ [])) (stands_value t os all rows pending v absent h)))
ends b (one_joined {operands = os} {options = all} {after = after} {rest = rest} o v absent more) fits rows pending h =
    let old = settled_rows (rules b) pending rows in
    let t = value_fits b o after.options fits.1 ((grows more).values o (value_here o v all)) in
    goes_on b _ _ (dashes ++ (value_name o ++ 61 ∷ v)) rest _
    (joined_turn t rows pending (length os + 1) v
    ∙ react_fits b (value_built (value_name o)) (v ∷ []) rows pending h.fits
    (fresh (value_name o) old (value_absent b os all o old h.holds absent)))
    (joined_walk t rows pending (length os + 1) v)
    (ends b more fits (used (value_built (value_name o)) (v ∷ []) old) None
    (stands_joined b o os all rows pending v absent h))
ends b (only_operands {operands = os} {options = all} {more = more}) fits rows pending h =
    goes_on b _ _ dashes more _ (dashes_turn (level b) (waits rows pending) (length os + 1))
    (dashes_walk (rules b) (waits rows pending) (length os + 1))
    (trailing_ends b more os all rows pending fits.0 h)

-- ---- what fits is given

full_or_fewer : (n m : ℕ) → n ≤ m → (n ≡ m) ⊎ (n < m)
full_or_fewer n m few = elim (cases_lt n m) [
  | inl less ↦ inr less
  | inr more ↦ inl (omega (arith, few, more))
]

trailing_few : (b : Command) (words os : List Text) (all : Options) (rows : List Row)
    (pending : Option (Text × List Text)) → length os ≤ count b → Stands b (given_as os all) rows pending
    → Passes b (stand true (waits rows pending) (length os + 1)) words → length (os ++ words) ≤ count b
trailing_few b [] os all rows pending few h p = subst (λ ws. length ws ≤ count b) (sym (append-nil os)) few
trailing_few b (w ∷ rest) os all rows pending few h p = elim (full_or_fewer (length os) (count b) few) [
  | inl is ↦ absurd (some_kind _ _ (sym (operand_refused b os (waits rows pending) is)
      ∙ sym (trailing_turn (level b) (waits rows pending) (length os + 1) w) ∙ turn_fits b _ w rest p))
  | inr more ↦ subst (λ ws. length ws ≤ count b) (append_assoc os (w ∷ []) rest)
      (trailing_few b rest (os ++ w ∷ []) all (settled_rows (rules b) pending rows) (Some (next b os, w ∷ []))
      (omega (arith, more, one_longer os w)) (stands_operand b os all rows pending w more h)
      (subst (λ v. Passes b v rest) (trailing_walk (rules b) (waits rows pending) (length os + 1) w
      ∙ operand_moves b true os rows pending w more) (passes_on b _ w rest p)))
]

-- ---- words that are refused

-- where what waits doesn't fit, no option does
settles_first : (c : List Rule) (again : Bool) (o : Option Rule) (v : Option Text) (h : Held) (k : ErrorKind) (ks : Kinds)
    → settle_fault c again h ≡ k ∷ ks → long_fault c again o v h ≡ [] → ⊥
settles_first c again None v h k ks bad e = some_kind _ _ e
settles_first c again (Some a) v h k ks bad e = go (takes_values a) v e
  where
    go : (t : Bool) (v : Option Text) → (if t then option_fault c again a v h
        else (if is_some v then kind.TooManyValues ∷ [] else react_fault c again a [] h)) ≡ [] → ⊥
    go true (Some x) e = some_kind k ks (sym bad ∙ none_first _ _ e)
    go true None e = some_kind k ks (sym bad ∙ e)
    go false (Some x) e = some_kind _ _ e
    go false None e = some_kind k ks (sym bad ∙ none_first _ _ e)

long_word : (b : Command) (waiting : Waiting) (w : Text) (z : ℕ) (zs : List ℕ) (h : Held)
    → subcommand_met [] waiting w ≡ None → w ≡ 45 ∷ 45 ∷ z ∷ zs → word_fault (level b) [] false waiting w h
    ≡ long_fault (rules b) false (arg_by_long (rules b) (name_and_value (z ∷ zs)).0) (name_and_value (z ∷ zs)).1 h
long_word b waiting w z zs h none is =
    let l : long_of w ≡ Some (name_and_value (z ∷ zs)) = ap long_of is in
    let d : bytes_eq w dashes ≡ false = ap (λ v. bytes_eq v dashes) is in
    let here : word_fault (level b) [] false waiting w h ≡ long_fault (rules b) (level b).args_override_self
    (arg_by_long (rules b) (name_and_value (z ∷ zs)).0) (name_and_value (z ∷ zs)).1 h = rw (none, d, l) refl in
    here ∙ ap (λ again. long_fault (rules b) again (arg_by_long (rules b) (name_and_value (z ∷ zs)).0)
    (name_and_value (z ∷ zs)).1 h) (never_again b)

short_word_fault : (b : Command) (waiting : Waiting) (w : Text) (y : ℕ) (ys : List ℕ) (rows : List Row)
    (pending : Option (Text × List Text)) → subcommand_met [] waiting w ≡ None → LooksShort w (y ∷ ys)
    → word_fault (level b) [] false waiting w (waits rows pending)
    ≡ bundle_fault (rules b) false (y ∷ ys) (waits rows pending)
short_word_fault b waiting w y ys rows pending none looks =
    let d = looks.dash in
    let l = looks.long in
    let sh = looks.short in
    let here : word_fault (level b) [] false waiting w (waits rows pending)
    ≡ bundle_fault (rules b) (level b).args_override_self (y ∷ ys) (waits rows pending) = rw (none, d, l, sh) refl in
    here ∙ ap (λ again. bundle_fault (rules b) again (y ∷ ys) (waits rows pending)) (never_again b)

short_word : (b : Command) (waiting : Waiting) (w : Text) (y : ℕ) (ys : List ℕ) (rows : List Row)
    (pending : Option (Text × List Text)) → subcommand_met [] waiting w ≡ None → IsUtf8 w → (y == 45) ≡ false
    → w ≡ 45 ∷ y ∷ ys → word_fault (level b) [] false waiting w (waits rows pending) ≡ [] → ⊥
short_word b waiting w y ys rows pending none text apart is e =
    cut_text y ys (subst IsUtf8 is text) (flags_refused (rules b) false (length ys) (y ∷ ys) (waits rows pending)
    (short_asks b) (sym (short_word_fault b waiting w y ys rows pending none
    (subst (λ v. LooksShort v (y ∷ ys)) (sym is) (looks_short y ys apart))) ∙ e))

-- where what waits doesn't fit, a word is an operand or `--`
no_option_fits : (b : Command) (waiting : Waiting) (w : Text) (rows : List Row) (pending : Option (Text × List Text))
    (k : ErrorKind) (ks : Kinds) → subcommand_met [] waiting w ≡ None → IsUtf8 w
    → settle_fault (rules b) false (waits rows pending) ≡ k ∷ ks
    → word_fault (level b) [] false waiting w (waits rows pending) ≡ [] → IsOperand w ⊎ (w ≡ dashes)
no_option_fits b waiting w rows pending k ks none text bad e = elim (begins w) [
  | inl is ↦ inl is
  | inr (inl is) ↦ inr is
  | inr (inr (inl is)) ↦ absurd (settles_first (rules b) false (arg_by_long (rules b) (name_and_value (is.0 ∷ is.1)).0)
      (name_and_value (is.0 ∷ is.1)).1 (waits rows pending) k ks bad
      (sym (long_word b waiting w is.0 is.1 (waits rows pending) none is.2) ∙ e))
  | inr (inr (inr is)) ↦ absurd (short_word b waiting w is.0 is.1 rows pending none text is.2 is.3 e)
]

word_fits : (b : Command) (w : Text) (h : Held) (p : ℕ) → turn_fault (level b) [] (stand false h p) w ≡ []
    → word_fault (level b) [] false idle w h ≡ []
word_fits b w h p e = none_first (word_fault (level b) [] false idle w h) _ e

operand_here : (b : Command) (trailing : Bool) (os : List Text) (rows : List Row) (pending : Option (Text × List Text))
    → length os ≤ count b → step_fault (level b) (length os + 1) (waits rows pending) value ≡ []
    → settle_fault (rules b) false (waits rows pending) ≡ []
operand_here b trailing os rows pending few e = elim (full_or_fewer (length os) (count b) few) [
  | inl is ↦ absurd (some_kind _ _ (sym (operand_refused b os (waits rows pending) is) ∙ e))
  | inr more ↦ sym (operand_fits b os rows pending more) ∙ e
]

-- what waits fits, since something uses it in the end
trailing_waiting_fits : (b : Command) (os words : List Text) (rows : List Row) (pending : Option (Text × List Text))
    → length os ≤ count b → Passes b (stand true (waits rows pending) (length os + 1)) words
    → settle_fault (rules b) false (waits rows pending) ≡ []
trailing_waiting_fits b os [] rows pending few p = p.ends
trailing_waiting_fits b os (w ∷ rest) rows pending few p = operand_here b true os rows pending few
    (sym (trailing_turn (level b) (waits rows pending) (length os + 1) w) ∙ turn_fits b _ w rest p)

waiting_fits : (b : Command) (os words : List Text) (rows : List Row) (pending : Option (Text × List Text))
    → length os ≤ count b → AreTexts words → Passes b (stand false (waits rows pending) (length os + 1)) words
    → settle_fault (rules b) false (waits rows pending) ≡ []
waiting_fits b os [] rows pending few texts p = p.ends
waiting_fits b os (w ∷ rest) rows pending few texts p = go (settle_fault (rules b) false (waits rows pending)) refl
  where
    by : IsOperand w ⊎ (w ≡ dashes) → settle_fault (rules b) false (waits rows pending) ≡ []
    by (inl is) = operand_here b false os rows pending few
        (sym (value_turn (level b) (waits rows pending) (length os + 1) w is) ∙ turn_fits b _ w rest p)
    by (inr is) = trailing_waiting_fits b os rest rows pending few (subst (λ v. Passes b v rest)
        (ap (walked (rules b) [] (stand false (waits rows pending) (length os + 1))) is
        ∙ dashes_walk (rules b) (waits rows pending) (length os + 1)) (passes_on b _ w rest p))

    go : (ks : Kinds) → settle_fault (rules b) false (waits rows pending) ≡ ks
        → settle_fault (rules b) false (waits rows pending) ≡ []
    go [] is = is
    go (k ∷ ks) bad = by (no_option_fits b idle w rows pending k ks refl texts.0 bad
        (word_fits b w (waits rows pending) (length os + 1) (turn_fits b _ w rest p)))

-- ---- a word that clap takes

data IsWord (b : Command) (all : Options) (w : Text) : Type 0 where
  is_operand : IsOperand w → IsWord b all w
  is_dashes : w ≡ dashes → IsWord b all w
  is_flag : (f : Flag) → TakesFlag b f → w ≡ dashes ++ flag_name f → has_flag f all ≡ false → IsWord b all w
  is_option : (o : Valued) → TakesValue b o → w ≡ dashes ++ value_name o → IsWord b all w
  is_joined : (o : Valued) → TakesValue b o → (v : Text) → w ≡ dashes ++ (value_name o ++ 61 ∷ v)
      → value_of o all ≡ None → IsWord b all w

not_again : (id : Text) (rows : List Row) → one_use (has_row id rows) ≡ [] → is_some (found id rows) ≡ false
not_again id rows e = sym (has_found id rows) ∙ go (has_row id rows) e
  where
    go : (again : Bool) → one_use again ≡ [] → again ≡ false
    go true e = absurd (some_kind _ _ e)
    go false e = refl

-- what the rows don't hold wasn't given
not_given : (b : Command) (all : Given) (id : Text) (rows : List Row) → Holds b all rows
    → one_use (has_row id rows) ≡ [] → text_at b all id ≡ None
not_given b all id rows h e = go (given_row id) (text_at b all id) (sym (ap is_some (h id)) ∙ not_again id rows e)
  where
    go : (f : Text → Row) (m : Option Text) → is_some (option_map f m) ≡ false → m ≡ None
    go f None e = refl
    go f (Some x) e = absurd (true≢false e)

no_value_yet : (b : Command) (os : List Text) (all : Options) (o : Valued) (rows : List Row)
    → Holds b (given_as os all) rows → one_use (has_row (value_name o) rows) ≡ [] → value_of o all ≡ None
no_value_yet b os all o rows h e =
    sym (value_at b (given_as os all) o) ∙ not_given b (given_as os all) (value_name o) rows h e

no_flag_yet : (b : Command) (os : List Text) (all : Options) (f : Flag) (rows : List Row)
    → Holds b (given_as os all) rows → one_use (has_row (flag_name f) rows) ≡ [] → has_flag f all ≡ false
no_flag_yet b os all f rows h e = go (codes "true") (has_flag f all) (sym (flag_at b (given_as os all) f)
    ∙ not_given b (given_as os all) (flag_name f) rows h e)
  where
    go : (x : Text) (present : Bool) → (if present then Some x else None) ≡ None → present ≡ false
    go x true e = absurd (true≢false (ap is_some e))
    go x false e = refl

joined_uses : (b : Command) (name v : Text) (rows : List Row) (pending : Option (Text × List Text))
    → long_fault (rules b) false (Some (value_built name)) (Some v) (waits rows pending) ≡ []
    → one_use (has_row name (settled_rows (rules b) pending rows)) ≡ []
joined_uses b name v rows pending e = none_second (settle_fault (rules b) false (waits rows pending)) _ e

flag_uses : (b : Command) (name : Text) (v : Option Text) (rows : List Row) (pending : Option (Text × List Text))
    → long_fault (rules b) false (Some (flag_built name)) v (waits rows pending) ≡ []
    → (v ≡ None) × (one_use (has_row name (settled_rows (rules b) pending rows)) ≡ [])
flag_uses b name (Some v) rows pending e = absurd (some_kind _ _ e)
flag_uses b name None rows pending e = (refl, none_second (settle_fault (rules b) false (waits rows pending)) _ e)

some_text : (v : Text) → Some v ≡ None → ⊥
some_text v e = true≢false (ap is_some e)

word : (b : Command) (os : List Text) (all : Options) (w : Text) (rows : List Row) (pending : Option (Text × List Text))
    → Stands b (given_as os all) rows pending → IsUtf8 w → word_fault (level b) [] false idle w (waits rows pending) ≡ []
    → IsWord b all w
word b os all w rows pending h text e = elim (begins w) [
  | inl is ↦ is_operand is
  | inr (inl is) ↦ is_dashes is
  | inr (inr (inl is)) ↦ long is.0 is.1 is.2
  | inr (inr (inr is)) ↦ absurd (short_word b idle w is.0 is.1 rows pending refl text is.2 is.3 e)
]
  where
    after : List Row
    after = settled_rows (rules b) pending rows

    long : (z : ℕ) (zs : List ℕ) → w ≡ 45 ∷ 45 ∷ z ∷ zs → IsWord b all w
    long z zs is = by (named b (name_and_value (z ∷ zs)).0) (spelt (z ∷ zs)).cut
      where
        fault : long_fault (rules b) false (arg_by_long (rules b) (name_and_value (z ∷ zs)).0)
            (name_and_value (z ∷ zs)).1 (waits rows pending) ≡ []
        fault = sym (long_word b idle w z zs (waits rows pending) refl is) ∙ e

        met : (o : Option Rule) (v : Option Text) → arg_by_long (rules b) (name_and_value (z ∷ zs)).0 ≡ o
            → (name_and_value (z ∷ zs)).1 ≡ v → long_fault (rules b) false o v (waits rows pending) ≡ []
        met o v a c = ap₂ (λ o v. long_fault (rules b) false o v (waits rows pending)) (sym a) (sym c) ∙ fault

        by : IsNamed b (name_and_value (z ∷ zs)).0 → (((name_and_value (z ∷ zs)).1 ≡ None)
            × (z ∷ zs ≡ (name_and_value (z ∷ zs)).0)) ⊎ ((v : Text) × ((name_and_value (z ∷ zs)).1 ≡ Some v)
            × (z ∷ zs ≡ (name_and_value (z ∷ zs)).0 ++ 61 ∷ v)) → IsWord b all w
        by (value_named o name t a) (inl c) = is_option o t (is ∙ ap (λ t. 45 ∷ 45 ∷ t) (c.1 ∙ name))
        by (value_named o name t a) (inr c) = is_joined o t c.0
            (is ∙ ap (λ t. 45 ∷ 45 ∷ t) (c.2 ∙ ap (λ t. t ++ 61 ∷ c.0) name))
            (no_value_yet b os all o after h.holds (joined_uses b (value_name o) c.0 rows pending (met _ _ a c.1)))
        by (flag_named f name t a) c =
            let uses = flag_uses b (flag_name f) _ rows pending (met _ _ a refl) in
            is_flag f t (elim c [
              | inl c ↦ is ∙ ap (λ t. 45 ∷ 45 ∷ t) (c.1 ∙ name)
              | inr c ↦ absurd (some_text c.0 (sym c.1 ∙ uses.0))
            ]) (no_flag_yet b os all f after h.holds uses.1)
        by (other asks) c = absurd (long_refused (rules b) false _ (name_and_value (z ∷ zs)).1 (waits rows pending)
            asks fault)

-- ---- the words

abbrev Taken : Command → Given → List Text → Type 0
Taken b before words = (after : Given) × Gives before words after × Fitting b after

-- the words, where nothing waits for a value, and where an option waits for its value
abbrev Idle : Command → List Text → Type 0
Idle b words = (os : List Text) (all : Options) (rows : List Row) (pending : Option (Text × List Text))
    → length os ≤ count b → TakesOptions b all → Stands b (given_as os all) rows pending
    → Passes b (stand false (waits rows pending) (length os + 1)) words → Taken b (given_as os all) words

abbrev Naming : Command → List Text → Type 0
Naming b words = (o : Valued) → TakesValue b o → (os : List Text) (all : Options) (rows : List Row)
    → length os ≤ count b → TakesOptions b all → Holds b (given_as os all) rows
    → Passes b (unnamed (value_name o) rows (length os + 1)) words
    → Taken b (given_as os all) ((dashes ++ value_name o) ∷ words)

nothing_named : (b : Command) → Naming b []
nothing_named b o t os all rows few takes h p = absurd (some_kind _ _ (sym (unnamed_waits t rows) ∙ p.ends))

-- an option that is taken may be given
takes_more : (b : Command) (o : Valued) (v : Text) (all : Options) → TakesValue b o → TakesOptions b all
    → TakesOptions b (with_option o v all)
takes_more b o v all t takes = (λ x e. go o x t e, λ f e. value_keeps o f v all ∙ takes.1 f e)
  where
    go : (o x : Valued) → TakesValue b o → takes_value b x ≡ false → value_of x (with_option o v all) ≡ None
    go merge_option merge_option t e = absurd (true≢false (sym (value_is_taken t) ∙ e))
    go merge_option alias_option t e = takes.0 alias_option e
    go alias_option merge_option t e = takes.0 merge_option e
    go alias_option alias_option t e = absurd (true≢false (sym (value_is_taken t) ∙ e))

takes_flag_more : (b : Command) (f : Flag) (all : Options) → TakesFlag b f → TakesOptions b all → TakesOptions b (with_flag f all)
takes_flag_more b f all t takes = (λ o e. flag_keeps f o all ∙ takes.0 o e, λ x e. go f x t e)
  where
    go : (f x : Flag) → TakesFlag b f → takes_flag b x ≡ false → has_flag x (with_flag f all) ≡ false
    go in_sets_flag in_sets_flag t e = absurd (true≢false (sym (flag_is_taken t) ∙ e))
    go in_sets_flag strict_flag t e = takes.1 strict_flag e
    go strict_flag in_sets_flag t e = takes.1 in_sets_flag e
    go strict_flag strict_flag t e = absurd (true≢false (sym (flag_is_taken t) ∙ e))

idle_on : (b : Command) (w : Text) (rest : List Text) → IsUtf8 w → Idle b rest → Naming b rest → Idle b (w ∷ rest)
idle_on b w rest text idles names os all rows pending few takes h p =
    by (word b os all w rows pending h text (word_fits b w (waits rows pending) (length os + 1)
    (turn_fits b _ w rest p)))
  where
    after : List Row
    after = settled_rows (rules b) pending rows

    goes : {w' : Walk} (v : Text) → w ≡ v
        → walked (rules b) [] (stand false (waits rows pending) (length os + 1)) v ≡ w' → Passes b w' rest
    goes v is to = subst (λ u. Passes b u rest)
        (ap (walked (rules b) [] (stand false (waits rows pending) (length os + 1))) is ∙ to) (passes_on b _ w rest p)

    by : IsWord b all w → Taken b (given_as os all) (w ∷ rest)
    by (is_operand is) = elim (full_or_fewer (length os) (count b) few) [
      | inl full ↦ absurd (some_kind _ _ (sym (operand_refused b os (waits rows pending) full)
          ∙ sym (value_turn (level b) (waits rows pending) (length os + 1) w is) ∙ turn_fits b _ w rest p))
      | inr more ↦ let r = idles (os ++ w ∷ []) all after (Some (next b os, w ∷ [])) (omega (
        arith,
        more,
        one_longer os w,
      )) takes (stands_operand b os all rows pending w more h)
          (goes w refl (value_walk (rules b) (waits rows pending) (length os + 1) w is
          ∙ operand_moves b false os rows pending w more)) in
          (r.0, one_operand is r.1, r.2)
    ]
    by (is_dashes is) = (
      given_as (os ++ rest) all,
      subst (λ v. Gives (given_as os all) (v ∷ rest) (given_as (os ++ rest) all)) (sym is) only_operands,
      (
        trailing_few b rest os all rows pending few h (goes dashes is (dashes_walk (rules b) (waits rows pending)
            (length os + 1))),
        takes,
      ),
    )
    by (is_flag f t is absent) =
        let r = idles os (with_flag f all) (used (flag_built (flag_name f)) [] after) None few
        (takes_flag_more b f all t takes) (stands_flag b f os all rows pending absent h)
        (goes (dashes ++ flag_name f) is (flag_walk t rows pending (length os + 1))) in
        (r.0, subst (λ v. Gives (given_as os all) (v ∷ rest) r.0) (sym is) (one_flag f absent r.1), r.2)
    by (is_option o t is) = subst (λ v. Taken b (given_as os all) (v ∷ rest)) (sym is)
        (names o t os all after few takes h.holds
        (goes (dashes ++ value_name o) is (option_walk t rows pending (length os + 1))))
    by (is_joined o t v is absent) =
        let r = idles os (with_option o v all) (used (value_built (value_name o)) (v ∷ []) after) None few
        (takes_more b o v all t takes) (stands_joined b o os all rows pending v absent h)
        (goes (dashes ++ (value_name o ++ 61 ∷ v)) is (joined_walk t rows pending (length os + 1) v)) in
        (r.0, subst (λ x. Gives (given_as os all) (x ∷ rest) r.0) (sym is) (one_joined o v absent r.1), r.2)

-- where `--` comes in place of the value
abbrev dashed : Text → List Row → ℕ → Walk
dashed name rows p = record (unnamed name rows p) { is_trailing = true }

dashed_walk : (c : List Rule) (name : Text) (rows : List Row) (p : ℕ)
    → walked c [] (unnamed name rows p) dashes ≡ dashed name rows p
unfolding walked
dashed_walk c name rows p = refl

dashed_fits : (b : Command) (name : Text) (os words : List Text) (rows : List Row) → length os ≤ count b
    → Passes b (dashed name rows (length os + 1)) words
    → settle_fault (rules b) false (waits rows (Some (name, []))) ≡ []
dashed_fits b name os [] rows few p = p.ends
dashed_fits b name os (w ∷ rest) rows few p =
    operand_here b true os rows (Some (name, [])) few (turn_fits b _ w rest p)

naming_on : (b : Command) (w : Text) (rest : List Text) → IsUtf8 w → AreTexts rest → Idle b rest → Naming b (w ∷ rest)
naming_on b w rest text texts idles o t os all rows few takes h p =
    by (no_option_fits b (option (value_name o)) w rows (Some (value_name o, [])) kind.InvalidValue [] refl text
    (unnamed_waits t rows) (none_first (word_fault (level b) [] false (option (value_name o)) w
    (waits rows (Some (value_name o, [])))) _ (turn_fits b _ w rest p)))
  where
    by : IsOperand w ⊎ (w ≡ dashes) → Taken b (given_as os all) ((dashes ++ value_name o) ∷ w ∷ rest)
    by (inl is) =
        let on : Passes b (stand false (waits rows (Some (value_name o, w ∷ []))) (length os + 1)) rest =
        subst (λ u. Passes b u rest) (named_walk t rows (length os + 1) w is) (passes_on b _ w rest p) in
        let fits = waiting_fits b os rest rows (Some (value_name o, w ∷ [])) few texts on in
        let absent = no_value_yet b os all o rows h (sym ((single_value t).fault w rows) ∙ fits) in
        let before : Stands b (given_as os all) rows None = record { fits = refl; holds = h } in
        let r = idles os (with_option o w all) rows (Some (value_name o, w ∷ [])) few (takes_more b o w all t takes)
        (stands_value t os all rows None w absent before) on in
        (r.0, one_value o absent is r.1, r.2)
    by (inr is) = absurd (some_kind _ _ (sym (unnamed_waits t rows) ∙ dashed_fits b (value_name o) os rest rows few
        (subst (λ u. Passes b u rest) (ap (walked (rules b) [] (unnamed (value_name o) rows (length os + 1))) is
        ∙ dashed_walk (rules b) (value_name o) rows (length os + 1)) (passes_on b _ w rest p))))

sound : (b : Command) (words : List Text) → AreTexts words → Idle b words × Naming b words
sound b [] texts =
    ((λ os all rows pending few takes h p. (given_as os all, nothing, (few, takes))), nothing_named b)
sound b (w ∷ rest) texts =
    let r = sound b rest texts.1 in
    (idle_on b w rest texts.0 r.0 r.1, naming_on b w rest texts.0 texts.1 r.0)

no_option_given : (b : Command) → TakesOptions b no_options
no_option_given b = (λ o e. none o, λ f e. absent f)
  where
    none : (o : Valued) → value_of o no_options ≡ None
    none merge_option = refl
    none alias_option = refl

    absent : (f : Flag) → has_flag f no_options ≡ false
    absent in_sets_flag = refl
    absent strict_flag = refl

pub gives : (b : Command) (words : List Text) → AreTexts words → Passes b (stand false (waits [] None) 1) words
    → Taken b (given_as [] no_options) words
gives b words texts p =
    (sound b words texts).0 [] no_options [] None (omega arith) (no_option_given b) (stands_nothing b) p
