-- What clap makes of the words of a level, one by one.
use Rattle.std.proofs.Common.{◌≡◌, ◌⊎◌, ◌==◌, ◌||◌, ℕ, List, [], ◌∷◌, ◌++◌, Option, Some, None, Bool, true, false, refl, sym, ap, ◌∙◌, inl, inr, codes, arith, rules, true≢false, append-nil, append_assoc, subst}
use Rattle.std.specs.List.{fold}
use Rattle.std.specs.Str.{bytes_eq, chars}
use Rattle.clap.specs.Kinds.{Kinds, or_else}
use Rattle.clap.specs.Walk.{Step, value, subcommand_met, idle, word_met, arg_by_short, reacted, finished, settled, Held, Names, Rule, Row, Text, Walk, arg_by_long, nothing_held, takes_values, walk, walk_from, walked}
use Rattle.clap.specs.Simple.{entered, help_rule, version_rule, filled, with_index, Shape, built, names_of, is_simple}
use Rattle.std.specs.Str.{IsUtf8}
use Rattle.std.proofs.lemmas.Str.{encodes-IsAscii, encodes-chars}
use Rattle.std.proofs.Math.Utf8.{encodes}
use Rattle.std.proofs.lemmas.Bool.{ne_eqb}
use Rattle.std.proofs.lemmas.Bool.Decides.{eqb_tells}
use Rattle.std.specs.Prelude.{length, drop, encode_utf8, slice_get, suc, if◌then◌else◌, is_some}
use Rattle.clap.specs.Lexer.{name_and_value, long_of, short_of}
use Rattle.clap.specs.Faults.{bundle_fault, step_fault, word_fault, bundle_step_fault, flags_fault, react_fault, short_fault, use_fault, check_fault, defaults_fault, entered_fault, settle_fault, fault_of, is_simple_and_free, long_fault, walk_fault, turn_fault}
use Rattle.clap.specs.declared.error.kind.ErrorKind.{ErrorKind}
use Rattle.command_line.specs.Clap.{stepmin_app}
use Rattle.command_line.specs.Commands.{IsOperand, dashes}

abbrev pub top : Shape
top = (built stepmin_app).top

abbrev pub names : Names
names = names_of (built stepmin_app)

pub simple_and_free : is_simple_and_free stepmin_app ≡ true
simple_and_free = refl

pub simple_stepmin : is_simple stepmin_app ≡ true
simple_stepmin = refl

-- ---- kinds

pub some_kind : (k : ErrorKind) (ks : Kinds) → (k ∷ ks) ≡ [] → ⊥
some_kind k ks e =
    let is_empty : Kinds → Bool = λ xs. elim xs [ [] ↦ true | k ∷ ks ↦ false ] in
    true≢false (sym (ap is_empty e))

pub none_first : (a b : Kinds) → or_else a b ≡ [] → a ≡ []
none_first [] b e = refl
none_first (k ∷ ks) b e = absurd (some_kind k ks e)

pub none_second : (a b : Kinds) → or_else a b ≡ [] → b ≡ []
none_second [] b e = e
none_second (k ∷ ks) b e = absurd (some_kind k ks e)

-- ---- the words behind a subcommand

abbrev pub stopped : Text → List Text → Walk
stopped name earlier = record (walk_from nothing_held) { stopped = Some (name, earlier) }

pub walk_stopped : (s : Shape) (ns : Names) (name : Text) (earlier rest : List Text)
    → walk_fault s ns (stopped name earlier) rest ≡ []
unfolding walk_fault walked
walk_stopped s ns name earlier [] = refl
walk_stopped s ns name earlier (w ∷ ws) = walk_stopped s ns name (earlier ++ w ∷ []) ws

pub fold_stopped : (c : List Rule) (ns : Names) (name : Text) (earlier rest : List Text)
    → fold (walked c ns) (stopped name earlier) rest ≡ stopped name (earlier ++ rest)
unfolding walked
fold_stopped c ns name earlier [] = ap (stopped name) (sym (append-nil earlier))
fold_stopped c ns name earlier (w ∷ ws) = fold_stopped c ns name (earlier ++ w ∷ []) ws
    ∙ ap (stopped name) (append_assoc earlier (w ∷ []) ws)

-- what is left to fail behind a walk over the words
abbrev pub after : Walk → Kinds → Kinds
after w faults =
    let a = built stepmin_app in
    or_else faults
    (or_else (entered_fault a w.stopped) (or_else (settle_fault top.rules top.args_override_self w.held)
    (or_else (defaults_fault (settled top.rules w.held).rows top.rules)
    (check_fault top (finished top.rules w.held) (is_some (entered a w.stopped))))))

pub fault_after : (program : Text) (words : List Text) → fault_of stepmin_app (program ∷ words) ≡ after
    (walk top.rules names nothing_held words) (walk_fault top names (walk_from nothing_held) words)
fault_after program words = refl

pub only_first : (a : Kinds) → or_else a [] ≡ a
only_first [] = refl
only_first (k ∷ ks) = refl

-- ---- the words that are read

-- how a word begins
abbrev pub Begins : Text → Type 0
Begins word = IsOperand word ⊎ ((word ≡ dashes) ⊎ (((z : ℕ) × (zs : List ℕ) × (word ≡ 45 ∷ 45 ∷ z ∷ zs))
    ⊎ ((y : ℕ) × (ys : List ℕ) × ((y == 45) ≡ false) × (word ≡ 45 ∷ y ∷ ys))))

begins_hyphen : (y : ℕ) (ys : List ℕ) → Begins (45 ∷ y ∷ ys)
begins_hyphen y ys = elim (eqb_tells y 45) [
  | inl e ↦ second y ys e.1
  | inr e ↦ inr (inr (inr (y, ys, e.0, refl)))
]
  where
    second : (y : ℕ) (ys : List ℕ) → y ≡ 45 → Begins (45 ∷ y ∷ ys)
    second y [] e = inr (inl (ap (λ n. 45 ∷ n ∷ []) e))
    second y (z ∷ zs) e = inr (inr (inl (z, zs, ap (λ n. 45 ∷ n ∷ z ∷ zs) e)))

pub begins : (word : Text) → Begins word
begins [] = inl tt
begins (x ∷ []) = inl tt
begins (x ∷ y ∷ ys) = elim (eqb_tells x 45) [
  | inl e ↦ subst (λ n. Begins (n ∷ y ∷ ys)) (sym e.1) (begins_hyphen y ys)
  | inr e ↦ inl e.1
]

pub no_option : (word : Text) → IsOperand word → (long_of word ≡ None) × (short_of word ≡ None)
    × (bytes_eq word dashes ≡ false)
no_option [] is = (refl, refl, refl)
no_option (x ∷ []) is = elim (eqb_tells x 45) [
  | inl e ↦ rw e.0 (refl, refl, refl)
  | inr e ↦ rw e.0 (refl, refl, refl)
]
no_option (x ∷ y ∷ ys) is = rw (ne_eqb x 45 is) (refl, refl, refl)

-- ---- the flags, which ask for a text

-- the flag ends the reading of the words
pub record Asks (flag : Rule) : Type 0 where
  pub alone : takes_values flag ≡ false
  pub used : (again : Bool) (rows : List Row) → use_fault again flag [] rows ≡ [] → ⊥

-- if a flag was found, it is one of these
abbrev pub AsksIf : Option Rule → Type 0
AsksIf None = Unit {0}
AsksIf (Some flag) = Asks flag

-- each short flag asks for a text
abbrev pub AsksShort : List Rule → Type 0
AsksShort c = (x : ℕ) → AsksIf (arg_by_short c x)

-- each flag asks for a text
pub record AsksOnly (c : List Rule) : Type 0 where
  pub long : (name : Text) → AsksIf (arg_by_long c name)
  pub short : AsksShort c

pub help_asks : Asks (with_index 1 (filled help_rule))
help_asks = record { alone = refl; used = λ again rows e. some_kind _ _ e }

version_asks : Asks (with_index 1 (filled version_rule))
version_asks = record { alone = refl; used = λ again rows e. some_kind _ _ e }

pub top_asks : AsksOnly top.rules
top_asks = record {
  long = λ name. either (bytes_eq (codes "help") name) (bytes_eq (codes "version") name);
  short = λ x. either (104 == x) (86 == x);
}
  where
    either : (h v : Bool) → AsksIf (if h || false then Some (with_index 1 (filled help_rule))
        else (if v || false then Some (with_index 1 (filled version_rule)) else None))
    either true v = help_asks
    either false true = version_asks
    either false false = tt

asks_refused : (c : List Rule) (again : Bool) (flag : Rule) (h : Held) → Asks flag
    → react_fault c again flag [] h ≡ [] → ⊥
asks_refused c again flag h asks e = asks.used again (settled c h).rows (none_second (settle_fault c again h)
    (use_fault again flag [] (settled c h).rows) e)

pub long_refused : (c : List Rule) (again : Bool) (found : Option Rule) (v : Option Text) (h : Held) → AsksIf found
    → long_fault c again found v h ≡ [] → ⊥
long_refused c again None v h asks e = some_kind _ _ e
long_refused c again (Some flag) (Some x) h asks e = some_kind _ _ (rw asks.alone at e)
long_refused c again (Some flag) None h asks e = asks_refused c again flag h asks (rw asks.alone at e)

short_refused : (c : List Rule) (again : Bool) (found : Option Rule) (rest : Text) (h : Held) (next : Held → Kinds)
    → AsksIf found → short_fault c again found rest h next ≡ [] → ⊥
short_refused c again None rest h next asks e = some_kind _ _ e
short_refused c again (Some flag) rest h next asks e = asks_refused c again flag h asks
    (none_first (react_fault c again flag [] h) (next (reacted c flag [] h)) (rw asks.alone at e))

-- one hyphen begins no option only where no character follows it
pub flags_refused : (c : List Rule) (again : Bool) (k : ℕ) (flags : Text) (h : Held) → AsksShort c
    → flags_fault c again (suc k) flags 0 h ≡ [] → slice_get (chars flags) 0 ≡ None
unfolding flags_fault
flags_refused c again k flags h only e = go (slice_get (chars flags) 0) e
  where
    go : (o : Option ℕ) → bundle_step_fault c again o flags 0 h (flags_fault c again k) ≡ [] → o ≡ None
    go None e = refl
    go (Some x) e = absurd (short_refused c again (arg_by_short c x) (drop (length (encode_utf8 x)) flags) h
        (flags_fault c again k (drop (length (encode_utf8 x)) flags) 0) (only x) e)

-- ---- a word that is no option

abbrev pub waits : List Row → Option (Text × List Text) → Held
waits rows pending = record { rows = rows; pending = pending; skip = 0 }

abbrev pub at : Held → ℕ → Walk
at h p = record (walk_from h) { position = p }

-- what a level makes of a word that goes to a positional
pub record IsValue (s : Shape) (ns : Names) (h : Held) (p : ℕ) (w : Text) : Type 0 where
  pub operand : IsOperand w
  pub met : word_met s.rules ns false idle p w h ≡ (h, value)
  pub fits : step_fault s p h value ≡ []

-- one hyphen and more, as clap sees it
pub record LooksShort (w flags : Text) : Type 0 where
  pub long : long_of w ≡ None
  pub short : short_of w ≡ Some flags
  pub dash : bytes_eq w dashes ≡ false

pub looks_short : (y : ℕ) (ys : List ℕ) → (y == 45) ≡ false → LooksShort (45 ∷ y ∷ ys) (y ∷ ys)
looks_short y ys e = record { long = rw e refl; short = rw e refl; dash = rw e refl }

no_chars : (xs : List ℕ) → slice_get xs 0 ≡ None → xs ≡ []
no_chars [] e = refl
no_chars (x ∷ xs) e = absurd (true≢false (ap is_some e))

-- a character follows
pub cut_text : (y : ℕ) (ys : List ℕ) → IsUtf8 (45 ∷ y ∷ ys) → slice_get (chars (y ∷ ys)) 0 ≡ None → ⊥
unfolding chars
cut_text y ys text e =
    let all : encodes (45 ∷ chars (y ∷ ys)) ≡ 45 ∷ y ∷ ys = encodes-chars (45 ∷ y ∷ ys) text in
    let one : encodes (45 ∷ []) ≡ 45 ∷ [] = encodes-IsAscii (45 ∷ []) (search (rules, arith)) in
    let short : 45 ∷ [] ≡ 45 ∷ y ∷ ys = sym one ∙ subst (λ cs. encodes (45 ∷ cs) ≡ 45 ∷ y ∷ ys)
    (no_chars (chars (y ∷ ys)) e) all in
    let lengths : 1 ≡ suc (suc (length ys)) = ap length short in
    absurd (omega (arith, lengths))

pub is_value : (s : Shape) (ns : Names) (rows : List Row) (pending : Option (Text × List Text)) (p : ℕ) (w : Text)
    → AsksOnly s.rules → IsUtf8 w → subcommand_met ns idle w ≡ None
    → turn_fault s ns (at (waits rows pending) p) w ≡ [] → (w ≡ dashes) ⊎ IsValue s ns (waits rows pending) p w
is_value s ns rows pending p w only text none e = elim (begins w) [
  | inl is ↦ inr (operand is)
  | inr (inl is) ↦ inl is
  | inr (inr (inl is)) ↦ absurd (long is.0 is.1 is.2)
  | inr (inr (inr is)) ↦ absurd (short is.0 is.1 (subst IsUtf8 is.3 text) (subst (λ v. LooksShort v (is.0 ∷ is.1))
      (sym is.3) (looks_short is.0 is.1 is.2)))
]
  where
    word_fits : word_fault s ns false idle w (waits rows pending) ≡ []
    word_fits = let met = word_met s.rules ns false idle p w (waits rows pending) in
        none_first (word_fault s ns false idle w (waits rows pending)) (step_fault s p met.0 met.1) e

    value_fits : word_met s.rules ns false idle p w (waits rows pending) ≡ (waits rows pending, value)
        → step_fault s p (waits rows pending) value ≡ []
    value_fits m = let met = word_met s.rules ns false idle p w (waits rows pending) in
        subst (λ (m : Held × Step). step_fault s p m.0 m.1 ≡ []) m
        (none_second (word_fault s ns false idle w (waits rows pending)) (step_fault s p met.0 met.1) e)

    operand : IsOperand w → IsValue s ns (waits rows pending) p w
    operand is =
        let n = no_option w is in
        let m : word_met s.rules ns false idle p w (waits rows pending) ≡ (waits rows pending, value) =
        rw (none, n.2, n.0, n.1) refl in
        record { met = m; fits = value_fits m; operand = is }

    long : (z : ℕ) (zs : List ℕ) → w ≡ 45 ∷ 45 ∷ z ∷ zs → ⊥
    long z zs is =
        let q = name_and_value (z ∷ zs) in
        let l : long_of w ≡ Some q = ap long_of is in
        let d : bytes_eq w dashes ≡ false = ap (λ v. bytes_eq v dashes) is in
        long_refused s.rules s.args_override_self (arg_by_long s.rules q.0) q.1 (waits rows pending) (only.long q.0)
        (rw (none, d, l) at word_fits)

    short : (y : ℕ) (ys : List ℕ) → IsUtf8 (45 ∷ y ∷ ys) → LooksShort w (y ∷ ys) → ⊥
    short y ys text looks =
        let l = looks.long in
        let sh = looks.short in
        let f : bundle_fault s.rules s.args_override_self (y ∷ ys) (waits rows pending) ≡ [] =
        rw (none, looks.dash, l, sh) at word_fits in
        cut_text y ys text (flags_refused s.rules s.args_override_self (length ys) (y ∷ ys) (waits rows pending) only.short f)

pub first_turn : (s : Shape) (ns : Names) (before : Walk) (w : Text) (rest : List Text)
    → walk_fault s ns before (w ∷ rest) ≡ []
    → (turn_fault s ns before w ≡ []) × (walk_fault s ns (walked s.rules ns before w) rest ≡ [])
unfolding walk_fault
first_turn s ns before w rest e = (
  none_first (turn_fault s ns before w) _ e,
  none_second (turn_fault s ns before w) _
      e,
)

abbrev pub AreTexts : List Text → Type 0
AreTexts [] = Unit {0}
AreTexts (w ∷ ws) = IsUtf8 w × AreTexts ws
