-- What clap makes of each word of a command.
use Rattle.std.proofs.Common.{◌≡◌, ◌⊎◌, ◌∙◌, ◌++◌, ◌+◌, ◌||◌, ◌==◌, ℕ, List, [], ◌∷◌, Option, Some, None, Bool, true, false, inl, inr, refl, sym, ap, ap₂, arith, codes}
use Rattle.std.specs.Prelude.{drop, if◌then◌else◌, suc, take}
use Rattle.std.specs.List.{before_first, after_first, position_or_len}
use Rattle.std.specs.Str.{bytes_eq}
use Rattle.std.proofs.lemmas.Slice.Eq.{bytes_eq-Decides}
use Rattle.std.proofs.lemmas.Bool.Decides.{eqb_tells}
use Rattle.clap.specs.Kinds.{or_else}
use Rattle.clap.specs.Lexer.{has_byte, name_and_value}
use Rattle.clap.specs.Walk.{Held, Row, Rule, Step, Text, Walk, after_step, arg_by_index, arg_by_long, idle, option, settled_rows, to_positional, used, value, walked, word_met}
use Rattle.clap.specs.Simple.{Shape, filled, help_rule, with_index}
use Rattle.clap.specs.Faults.{react_fault, settle_fault, step_fault, turn_fault, word_fault}
use Rattle.clap.specs.declared.error.kind.ErrorKind.TheVariants as kind
use Rattle.command_line.specs.Commands.{Command, Flag, IsOperand, Valued, alias_option, check_command, dashes, flag_name, in_sets_flag, merge_option, plain_command, presets_command, shrink_command, strict_flag, value_name, verify_command}
use Rattle.command_line.proofs.Levels.{TakesFlag, TakesValue, check_alias, flag_built, level, rules, shrink_alias, shrink_in_sets, shrink_merge, shrink_strict, stand, value_built, verify_alias, verify_in_sets, verify_merge}
use Rattle.command_line.proofs.Walking.{AsksIf, AsksShort, help_asks, no_option, waits}

-- ---- operands

value_met : (c : List Rule) (h : Held) (p : ℕ) (w : Text) → IsOperand w
    → word_met c [] false idle p w h ≡ (h, value)
value_met c h p w is = let n = no_option w is in rw (n.2, n.0, n.1) refl

value_word : (s : Shape) (h : Held) (w : Text) → IsOperand w → word_fault s [] false idle w h ≡ []
value_word s h w is = let n = no_option w is in rw (n.2, n.0, n.1) refl

pub value_turn : (s : Shape) (h : Held) (p : ℕ) (w : Text) → IsOperand w
    → turn_fault s [] (stand false h p) w ≡ step_fault s p h value
value_turn s h p w is = ap₂ or_else (value_word s h w is)
    (ap (λ (m : Held × Step). step_fault s p m.0 m.1) (value_met s.rules h p w is))

pub value_walk : (c : List Rule) (h : Held) (p : ℕ) (w : Text) → IsOperand w
    → walked c [] (stand false h p) w ≡ to_positional c (arg_by_index c p) w (stand false h p) h
unfolding walked
value_walk c h p w is = ap (λ (m : Held × Step). after_step c w (stand false h p) m.0 m.1) (value_met c h p w is)

-- behind `--`
pub trailing_turn : (s : Shape) (h : Held) (p : ℕ) (w : Text)
    → turn_fault s [] (stand true h p) w ≡ step_fault s p h value
trailing_turn s h p w = refl

pub trailing_walk : (c : List Rule) (h : Held) (p : ℕ) (w : Text)
    → walked c [] (stand true h p) w ≡ to_positional c (arg_by_index c p) w (stand true h p) h
unfolding walked
trailing_walk c h p w = refl

pub dashes_turn : (s : Shape) (h : Held) (p : ℕ) → turn_fault s [] (stand false h p) dashes ≡ []
dashes_turn s h p = refl

pub dashes_walk : (c : List Rule) (h : Held) (p : ℕ) → walked c [] (stand false h p) dashes ≡ stand true h p
unfolding walked
dashes_walk c h p = refl

-- ---- options

pub flag_turn : {b : Command} {f : Flag} → TakesFlag b f → (rows : List Row) (pending : Option (Text × List Text)) (p : ℕ)
    → turn_fault (level b) [] (stand false (waits rows pending) p) (dashes ++ flag_name f)
    ≡ or_else (react_fault (rules b) false (flag_built (flag_name f)) [] (waits rows pending)) []
flag_turn shrink_in_sets rows pending p = refl
flag_turn shrink_strict rows pending p = refl
flag_turn verify_in_sets rows pending p = refl

pub flag_walk : {b : Command} {f : Flag} → TakesFlag b f → (rows : List Row) (pending : Option (Text × List Text)) (p : ℕ)
    → walked (rules b) [] (stand false (waits rows pending) p) (dashes ++ flag_name f)
    ≡ stand false (waits (used (flag_built (flag_name f)) [] (settled_rows (rules b) pending rows)) None) p
unfolding walked
flag_walk shrink_in_sets rows pending p = refl
flag_walk shrink_strict rows pending p = refl
flag_walk verify_in_sets rows pending p = refl

pub joined_turn : {b : Command} {o : Valued} → TakesValue b o → (rows : List Row) (pending : Option (Text × List Text)) (p : ℕ) (v : Text)
    → turn_fault (level b) [] (stand false (waits rows pending) p) (dashes ++ (value_name o ++ 61 ∷ v))
    ≡ or_else (react_fault (rules b) false (value_built (value_name o)) (v ∷ []) (waits rows pending)) []
joined_turn check_alias rows pending p v = refl
joined_turn shrink_merge rows pending p v = refl
joined_turn shrink_alias rows pending p v = refl
joined_turn verify_merge rows pending p v = refl
joined_turn verify_alias rows pending p v = refl

pub joined_walk : {b : Command} {o : Valued} → TakesValue b o → (rows : List Row) (pending : Option (Text × List Text)) (p : ℕ) (v : Text)
    → walked (rules b) [] (stand false (waits rows pending) p) (dashes ++ (value_name o ++ 61 ∷ v))
    ≡ stand false (waits (used (value_built (value_name o)) (v ∷ []) (settled_rows (rules b) pending rows)) None) p
unfolding walked
joined_walk check_alias rows pending p v = refl
joined_walk shrink_merge rows pending p v = refl
joined_walk shrink_alias rows pending p v = refl
joined_walk verify_merge rows pending p v = refl
joined_walk verify_alias rows pending p v = refl

-- an option has come, and its value hasn't
abbrev pub unnamed : Text → List Row → ℕ → Walk
unnamed name rows p = record (stand false (waits rows (Some (name, []))) p) { waiting = option name }

pub option_turn : {b : Command} {o : Valued} → TakesValue b o → (rows : List Row) (pending : Option (Text × List Text)) (p : ℕ)
    → turn_fault (level b) [] (stand false (waits rows pending) p) (dashes ++ value_name o)
    ≡ or_else (settle_fault (rules b) false (waits rows pending)) []
option_turn check_alias rows pending p = refl
option_turn shrink_merge rows pending p = refl
option_turn shrink_alias rows pending p = refl
option_turn verify_merge rows pending p = refl
option_turn verify_alias rows pending p = refl

pub option_walk : {b : Command} {o : Valued} → TakesValue b o → (rows : List Row) (pending : Option (Text × List Text)) (p : ℕ)
    → walked (rules b) [] (stand false (waits rows pending) p) (dashes ++ value_name o)
    ≡ unnamed (value_name o) (settled_rows (rules b) pending rows) p
unfolding walked
option_walk check_alias rows pending p = refl
option_walk shrink_merge rows pending p = refl
option_walk shrink_alias rows pending p = refl
option_walk verify_merge rows pending p = refl
option_walk verify_alias rows pending p = refl

pub named_turn : {b : Command} {o : Valued} → TakesValue b o → (rows : List Row) (p : ℕ) (v : Text) → IsOperand v
    → turn_fault (level b) [] (unnamed (value_name o) rows p) v ≡ []
named_turn check_alias rows p v is = let n = no_option v is in rw (n.2, n.0, n.1) refl
named_turn shrink_merge rows p v is = let n = no_option v is in rw (n.2, n.0, n.1) refl
named_turn shrink_alias rows p v is = let n = no_option v is in rw (n.2, n.0, n.1) refl
named_turn verify_merge rows p v is = let n = no_option v is in rw (n.2, n.0, n.1) refl
named_turn verify_alias rows p v is = let n = no_option v is in rw (n.2, n.0, n.1) refl

pub named_walk : {b : Command} {o : Valued} → TakesValue b o → (rows : List Row) (p : ℕ) (v : Text) → IsOperand v
    → walked (rules b) [] (unnamed (value_name o) rows p) v
    ≡ stand false (waits rows (Some (value_name o, v ∷ []))) p
unfolding walked
named_walk check_alias rows p v is = let n = no_option v is in rw (n.2, n.0, n.1) refl
named_walk shrink_merge rows p v is = let n = no_option v is in rw (n.2, n.0, n.1) refl
named_walk shrink_alias rows p v is = let n = no_option v is in rw (n.2, n.0, n.1) refl
named_walk verify_merge rows p v is = let n = no_option v is in rw (n.2, n.0, n.1) refl
named_walk verify_alias rows p v is = let n = no_option v is in rw (n.2, n.0, n.1) refl

pub unnamed_waits : {b : Command} {o : Valued} → TakesValue b o → (rows : List Row)
    → settle_fault (rules b) false (waits rows (Some (value_name o, []))) ≡ kind.InvalidValue ∷ []
unnamed_waits check_alias rows = refl
unnamed_waits shrink_merge rows = refl
unnamed_waits shrink_alias rows = refl
unnamed_waits verify_merge rows = refl
unnamed_waits verify_alias rows = refl

-- ---- names of options

-- the name of an option, and what stands behind the first `=` (61)
pub record IsCut (text : Text) : Type 0 where
  pub cut : (((name_and_value text).1 ≡ None) × (text ≡ (name_and_value text).0))
      ⊎ ((v : Text) × ((name_and_value text).1 ≡ Some v) × (text ≡ (name_and_value text).0 ++ 61 ∷ v))

cut_kept : (n x : ℕ) (xs : Text) → take (1 + n) (x ∷ xs) ≡ x ∷ take n xs
cut_kept n x xs = let on : 1 + n ≡ suc n = omega arith in ap (λ j. take j (x ∷ xs)) on

left_kept : (n x : ℕ) (xs : Text) → drop (1 + n + 1) (x ∷ xs) ≡ drop (n + 1) xs
left_kept n x xs = let on : 1 + n + 1 ≡ suc (n + 1) = omega arith in ap (λ j. drop j (x ∷ xs)) on

parts : (text : Text) → ((has_byte 61 text ≡ false) × (text ≡ before_first (λ x. x == 61) text))
    ⊎ ((has_byte 61 text ≡ true)
    × (text ≡ before_first (λ x. x == 61) text ++ 61 ∷ after_first (λ x. x == 61) text))
parts [] = inl (refl, refl)
parts (x ∷ xs) = elim (eqb_tells x 61) [
  | inl e ↦ rw e.0 (inr (refl, ap (λ y. y ∷ xs) e.1))
  | inr e ↦ rw e.0 (elim (parts xs) [
    | inl p ↦ inl (p.0, ap (λ ys. x ∷ ys) p.1 ∙ sym (cut_kept (position_or_len (λ y. y == 61) xs) x xs))
    | inr p ↦ inr (
      p.0,
      ap (λ ys. x ∷ ys) p.1 ∙ sym (ap₂ (λ ys zs. ys ++ 61 ∷ zs)
          (cut_kept (position_or_len (λ y. y == 61) xs) x xs) (left_kept (position_or_len (λ y. y == 61) xs) x xs)),
    )
  ])
]

pub spelt : (text : Text) → IsCut text
spelt text = elim (parts text) [
  | inl p ↦ record { cut = inl (rw p.0 refl, p.1) }
  | inr p ↦ record { cut = inr (after_first (λ x. x == 61) text, rw p.0 refl, p.1) }
]

-- the options of a level
pub data IsNamed (b : Command) (name : Text) : Type 0 where
  value_named : (o : Valued) → name ≡ value_name o → TakesValue b o
      → arg_by_long (rules b) name ≡ Some (value_built (value_name o)) → IsNamed b name
  flag_named : (f : Flag) → name ≡ flag_name f → TakesFlag b f
      → arg_by_long (rules b) name ≡ Some (flag_built (flag_name f)) → IsNamed b name
  other : AsksIf (arg_by_long (rules b) name) → IsNamed b name

same_name : (known name : Text) → bytes_eq known name ≡ true → name ≡ known
same_name known name is = sym ((bytes_eq-Decides known name).0 is)

help_only : (h : Bool) → AsksIf (if h || false then Some (with_index 1 (filled help_rule)) else None)
help_only true = help_asks
help_only false = tt

named_check : (name : Text) (a : Bool) → bytes_eq (codes "schema-alias") name ≡ a → IsNamed check_command name
named_check name true is = value_named alias_option (same_name (codes "schema-alias") name is) check_alias (rw is refl)
named_check name false a = other (rw a (help_only (bytes_eq (codes "help") name)))

named_shrink : (name : Text) (m a n s : Bool) → bytes_eq (codes "merge") name ≡ m
    → bytes_eq (codes "schema-alias") name ≡ a → bytes_eq (codes "in-sets") name ≡ n
    → bytes_eq (codes "strict") name ≡ s → IsNamed shrink_command name
named_shrink name true a n s is _ _ _ =
    value_named merge_option (same_name (codes "merge") name is) shrink_merge (rw is refl)
named_shrink name false true n s m is _ _ =
    value_named alias_option (same_name (codes "schema-alias") name is) shrink_alias (rw (m, is) refl)
named_shrink name false false true s m a is _ =
    flag_named in_sets_flag (same_name (codes "in-sets") name is) shrink_in_sets (rw (m, a, is) refl)
named_shrink name false false false true m a n is =
    flag_named strict_flag (same_name (codes "strict") name is) shrink_strict (rw (m, a, n, is) refl)
named_shrink name false false false false m a n s =
    other (rw (m, a, n, s) (help_only (bytes_eq (codes "help") name)))

named_verify : (name : Text) (m a n : Bool) → bytes_eq (codes "merge") name ≡ m
    → bytes_eq (codes "schema-alias") name ≡ a → bytes_eq (codes "in-sets") name ≡ n → IsNamed verify_command name
named_verify name true a n is _ _ =
    value_named merge_option (same_name (codes "merge") name is) verify_merge (rw is refl)
named_verify name false true n m is _ =
    value_named alias_option (same_name (codes "schema-alias") name is) verify_alias (rw (m, is) refl)
named_verify name false false true m a is =
    flag_named in_sets_flag (same_name (codes "in-sets") name is) verify_in_sets (rw (m, a, is) refl)
named_verify name false false false m a n = other (rw (m, a, n) (help_only (bytes_eq (codes "help") name)))

pub named : (b : Command) (name : Text) → IsNamed b name
named plain_command name = other (help_only (bytes_eq (codes "help") name))
named check_command name = named_check name (bytes_eq (codes "schema-alias") name) refl
named shrink_command name = named_shrink name (bytes_eq (codes "merge") name) (bytes_eq (codes "schema-alias") name)
    (bytes_eq (codes "in-sets") name) (bytes_eq (codes "strict") name) refl refl refl refl
named verify_command name = named_verify name (bytes_eq (codes "merge") name) (bytes_eq (codes "schema-alias") name)
    (bytes_eq (codes "in-sets") name) refl refl refl
named presets_command name = other (help_only (bytes_eq (codes "help") name))

-- the one short flag asks for help
pub short_asks : (b : Command) → AsksShort (rules b)
short_asks plain_command x = help_only (104 == x)
short_asks check_command x = help_only (104 == x)
short_asks shrink_command x = help_only (104 == x)
short_asks verify_command x = help_only (104 == x)
short_asks presets_command x = help_only (104 == x)
