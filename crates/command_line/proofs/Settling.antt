-- What is answered for the words of a command.
use Rattle.std.proofs.Common.{◌≡◌, ◌∙◌, List, [], ◌∷◌, Option, Some, None, Result, Ok, Err, Bool, true, false, IfOk, IfErr, IfSome, inr, refl, sym, ap, codes, map, subst, arith, option_map, true≢false, ◌⊎◌, inl}
use Rattle.std.specs.Prelude.{drop, if◌then◌else◌, is_some, length, unwrap_or}
use Rattle.std.specs.Str.{bytes_eq}
use Rattle.clap.specs.Walk.{Row, Text}
use Rattle.clap.specs.Simple.{subcommand_rows_of}
use Rattle.clap.specs.declared.parser.matches.ArgMatches.{ArgMatches}
use Rattle.command_line.specs.Clap.{HasGiven, HasValues}
use Rattle.command_line.specs.Commands.{AreOfCommand, Asks, AsksClashing, AsksNothing, Command, Flag, Given, IsAskedFor, Options, TakesOptions, Valued, alias_option, check_command, clash, command_name, for_check, for_plain, for_presets, for_shrink, for_verify, four, given_as, has_flag, in_sets_flag, merge_option, no_options, plain_command, presets_command, shrink_command, strict_flag, takes_flag, takes_value, verify_command}
use Rattle.command_line.specs.Requests.{AskFor, CallFor, Settles}
use Rattle.command_line.specs.declared.command_words.Refusal.{Refusal}
use Rattle.command_line.specs.declared.command_words.Refusal.TheVariants.{Shown, Usage, Memory}
use Rattle.command_line.specs.declared.command_words.Request.{Request}
use Rattle.command_line.proofs.Asking.{Finds, asks_or_not, command_found, met_is, name_in}
use Rattle.command_line.proofs.Walking.{AreTexts}

-- ---- the same values

pub same : {X : Type 0} (x y : X) → Some x ≡ Some y → x ≡ y
same x y e = ap (λ o. unwrap_or o x) e

unwrapped : (xs : List Text) → map (λ o. unwrap_or o []) (map (λ x. Some x) xs) ≡ xs
unwrapped [] = refl
unwrapped (x ∷ xs) = ap (λ ys. x ∷ ys) (unwrapped xs)

same_texts : (xs ys : List Text) → map (λ x. Some x) xs ≡ map (λ x. Some x) ys → xs ≡ ys
same_texts xs ys e = sym (unwrapped xs) ∙ ap (map (λ o. unwrap_or o [])) e ∙ unwrapped ys

pub same_options : (one other : Options) → one.merge ≡ other.merge → one.schema_alias ≡ other.schema_alias
    → one.in_sets ≡ other.in_sets → one.strict ≡ other.strict → one ≡ other
same_options one other m a n s =
    λ i. record { merge = m i; schema_alias = a i; in_sets = n i; strict = s i }

same_all : (one other : Given) → one.operands ≡ other.operands → one.options ≡ other.options → one ≡ other
same_all one other e f = λ i. given_as (e i) (f i)

-- options that a command takes, by those that it takes
same_flag : (s t : Bool) → Some (if s then codes "true" else codes "false")
    ≡ Some (if t then codes "true" else codes "false") → s ≡ t
same_flag true true e = refl
same_flag false false e = refl
same_flag true false e = absurd (true≢false (ap (λ o. bytes_eq (codes "true") (unwrap_or o (codes "true"))) e))
same_flag false true e = absurd (true≢false (ap (λ o. bytes_eq (codes "false") (unwrap_or o (codes "false"))) e))

-- rows have the values of one thing that was given
rows_once : (b : Command) (rows : List Row) (one other : Given) → HasGiven rows b one → HasGiven rows b other
    → TakesOptions b one.options → TakesOptions b other.options → one ≡ other
rows_once b rows one other p q t u = same_all one other
    (same_texts one.operands other.operands (sym p.operands ∙ q.operands))
    (same_options one.options other.options (sym (p.values merge_option) ∙ q.values merge_option)
    (sym (p.values alias_option) ∙ q.values alias_option)
    (flag in_sets_flag (takes_flag b in_sets_flag) refl) (flag strict_flag (takes_flag b strict_flag) refl))
  where
    flag : (f : Flag) (takes : Bool) → takes_flag b f ≡ takes → has_flag f one.options ≡ has_flag f other.options
    flag f true e = same_flag (has_flag f one.options) (has_flag f other.options) (sym (p.flags f e) ∙ q.flags f e)
    flag f false e = t.1 f e ∙ sym (u.1 f e)

-- the rows of the command that was found
pub values_among : (o : Option (Text × List Row)) (b : Command) (all : Given) (rows : List Row) → HasValues o b all
    → option_map (λ p. p.1) o ≡ Some rows → HasGiven rows b all
values_among o b all rows has is =
    subst (λ r. HasGiven r b all) (same has.0 rows (sym (ap (option_map (λ p. p.1)) has.1) ∙ is)) has.2

given_once : (words : List Text) (b : Command) (one other : Given) → AreOfCommand words b one
    → AreOfCommand words b other → one ≡ other
given_once words b one other p q =
    let x = command_found words b one p in
    let y = command_found words b other q in
    rows_once b x.0 one other x.2 (values_among _ b other x.0 y (ap (option_map (λ p. p.1)) x.1)) p.5 q.5

-- ---- the command

abbrev command_of : Text → Command
command_of name =
    if bytes_eq name (codes "plain") then plain_command
    else (if bytes_eq name (codes "check") then check_command
    else (if bytes_eq name (codes "shrink") then shrink_command
    else (if bytes_eq name (codes "verify") then verify_command else presets_command)))

command_is : (b : Command) → command_of (command_name b) ≡ b
command_is plain_command = refl
command_is check_command = refl
command_is shrink_command = refl
command_is verify_command = refl
command_is presets_command = refl

same_command : (b c : Command) → command_name b ≡ command_name c → b ≡ c
same_command b c e = sym (command_is b) ∙ ap command_of e ∙ command_is c

-- the words name one command
abbrev second : List Text → Text
second (a ∷ b ∷ rest) = b
second other = []

pub command_once : (words : List Text) (b c : Command) (one other : Given) → AreOfCommand words b one
    → AreOfCommand words c other → b ≡ c
command_once words b c one other p q = same_command b c (ap second (sym p.2 ∙ q.2))

-- words give one thing to one command
pub once : (words : List Text) (b c : Command) (one other : Given) → AreOfCommand words b one
    → AreOfCommand words c other → one ≡ other
once words b c one other p q = given_once words b one other p
    (subst (λ x. AreOfCommand words x other) (sym (command_once words b c one other p q)) q)

-- what the command that was met was given
pub meets : (b : Command) {words : List Text} {m : ArgMatches} → Finds words m
    → Some (command_name b) ≡ name_in (subcommand_rows_of m)
    → (all : Given) × AreOfCommand words b all × HasValues (subcommand_rows_of m) b all
meets b {words} {m} f name =
    let is = same_command f.command b (same _ _ (sym (met_is f) ∙ sym name)) in (
      f.all,
      subst (λ x. AreOfCommand words x f.all) is f.of,
      subst (λ x. HasValues (subcommand_rows_of m) x f.all) is f.found,
    )

-- ---- the values of a command that was met

pub flag_is : (s r : Bool) (o : Option Text) → o ≡ Some (if s then codes "true" else codes "false")
    → (o ≡ Some (codes "true") → r ≡ true) → (o ≡ Some (codes "false") → r ≡ false) → r ≡ s
flag_is true r o is on off = on is
flag_is false r o is on off = off is

-- the same operands and options
pub merging_same : (all : Given) (s f o c : Text) (options : Options)
    → Some s ∷ Some f ∷ Some o ∷ Some c ∷ [] ≡ map (λ text. Some text) all.operands → options ≡ all.options
    → four s f o c options ≡ all
merging_same all s f o c options e same =
    same_all (four s f o c options) all (same_texts (s ∷ f ∷ o ∷ c ∷ []) all.operands e) same

pub reading_same : (all : Given) (s f : Text) (options : Options)
    → Some s ∷ Some f ∷ [] ≡ map (λ text. Some text) all.operands → options ≡ all.options
    → given_as (s ∷ f ∷ []) options ≡ all
reading_same all s f options e same =
    same_all (given_as (s ∷ f ∷ []) options) all (same_texts (s ∷ f ∷ []) all.operands e) same

-- what follows from a fact of what is there
pub if_some : {T : Type 0} (o : Option T) (P Q : T → Type 0) → ((x : T) → P x → Q x) → IfSome o P → IfSome o Q
if_some None P Q on fact = fact
if_some (Some x) P Q on fact = on x fact

-- `shrink` has what `verify` has
pub as_verified : (rows : List Row) (all : Given) → HasGiven rows shrink_command all → HasGiven rows verify_command all
as_verified rows all has =
    record { operands = has.operands; values = has.values; flags = λ flag e. has.flags flag refl }

-- an operand that was given was found
pub lacks_first : (os : List Text) {x : Option Text} {xs : List (Option Text)} → None ≡ x
    → x ∷ xs ≡ map (λ text. Some text) os → ⊥
lacks_first os {xs = xs} none e = lacks os (ap (λ o. o ∷ xs) none ∙ e)
  where
    first : List (Option Text) → Bool
    first [] = false
    first (None ∷ ys) = true
    first (Some y ∷ ys) = false

    lacks : (os : List Text) → None ∷ xs ≡ map (λ text. Some text) os → ⊥
    lacks [] e = true≢false (ap first e)
    lacks (o ∷ os) e = true≢false (ap first e)

pub lacks_second : (os : List Text) {w x : Option Text} {xs : List (Option Text)} → None ≡ x
    → w ∷ x ∷ xs ≡ map (λ text. Some text) os → ⊥
lacks_second [] {xs = xs} none e = true≢false (ap some e)
  where
    some : List (Option Text) → Bool
    some [] = false
    some (y ∷ ys) = true
lacks_second (o ∷ os) {xs = xs} none e = lacks_first os none (ap (drop 1) e)

-- a command that takes no options has none
pub no_options_of : (b : Command) (options : Options) → ((f : Flag) → takes_flag b f ≡ false)
    → ((o : Valued) → takes_value b o ≡ false) → TakesOptions b options → options ≡ no_options
no_options_of b options no_flag no_value takes = same_options options no_options
    (takes.0 merge_option (no_value merge_option)) (takes.0 alias_option (no_value alias_option))
    (takes.1 in_sets_flag (no_flag in_sets_flag)) (takes.1 strict_flag (no_flag strict_flag))

pub one_path : (os : List Text) → length os ≡ 1 → (path : Text) × (os ≡ path ∷ [])
one_path [] are = absurd (omega (arith, are))
one_path (path ∷ []) are = (path, refl)
one_path (path ∷ other ∷ os) are = absurd (omega (arith, are))

pub plain_is : (all : Given) → length all.operands ≡ 1 → TakesOptions plain_command all.options
    → (path : Text) × (all ≡ given_as (path ∷ []) no_options)
plain_is all are takes =
    let one = one_path all.operands are in (
      one.0,
      same_all all (given_as (one.0 ∷ []) no_options) one.1
          (no_options_of plain_command all.options (λ f. refl) (λ o. refl) takes),
    )

no_path : (os : List Text) → length os ≡ 0 → os ≡ []
no_path [] are = refl
no_path (x ∷ os) are = absurd (omega (arith, are))

pub presets_is : (all : Given) → length all.operands ≡ 0 → TakesOptions presets_command all.options
    → all ≡ given_as [] no_options
presets_is all are takes = same_all all (given_as [] no_options) (no_path all.operands are)
    (no_options_of presets_command all.options (λ f. refl) (λ o. refl) takes)

-- ---- words that ask for something, or for nothing

-- what the words ask for
pub any_asked : {words : List Text} → IsAskedFor words → (b : Command) × (all : Given) × Asks words b all
any_asked (for_plain path asks) = (plain_command, given_as (path ∷ []) no_options, asks)
any_asked (for_check schema file options asks) = (check_command, given_as (schema ∷ file ∷ []) options, asks)
any_asked (for_shrink s f o c options asks) = (shrink_command, four s f o c options, asks)
any_asked (for_verify s f o c options asks) = (verify_command, four s f o c options, asks)
any_asked (for_presets asks) = (presets_command, given_as [] no_options, asks)

two_asked : (words os : List Text) (options : Options) → length os ≡ 2 → Asks words check_command (given_as os options)
    → IsAskedFor words
two_asked words [] options are asks = absurd (omega (arith, are))
two_asked words (s ∷ []) options are asks = absurd (omega (arith, are))
two_asked words (s ∷ f ∷ []) options are asks = for_check s f options asks
two_asked words (s ∷ f ∷ o ∷ os) options are asks = absurd (omega (arith, are))

four_asked : (words os : List Text) (b : Command) (options : Options) → length os ≡ 4
    → ((s f o c : Text) → Asks words b (four s f o c options) → IsAskedFor words)
    → Asks words b (given_as os options) → IsAskedFor words
four_asked words [] b options are to asks = absurd (omega (arith, are))
four_asked words (s ∷ []) b options are to asks = absurd (omega (arith, are))
four_asked words (s ∷ f ∷ []) b options are to asks = absurd (omega (arith, are))
four_asked words (s ∷ f ∷ o ∷ []) b options are to asks = absurd (omega (arith, are))
four_asked words (s ∷ f ∷ o ∷ c ∷ []) b options are to asks = to s f o c asks
four_asked words (s ∷ f ∷ o ∷ c ∷ d ∷ os) b options are to asks = absurd (omega (arith, are))

pub is_asked : (words : List Text) (b : Command) (all : Given) → Asks words b all → IsAskedFor words
is_asked words plain_command all asks =
    let is = plain_is all asks.0.4 asks.0.5 in
    for_plain is.0 (subst (Asks words plain_command) is.1 asks)
is_asked words check_command all asks = two_asked words all.operands all.options asks.0.4 asks
is_asked words shrink_command all asks = four_asked words all.operands shrink_command all.options asks.0.4
    (λ s f o c. for_shrink s f o c all.options) asks
is_asked words verify_command all asks = four_asked words all.operands verify_command all.options asks.0.4
    (λ s f o c. for_verify s f o c all.options) asks
is_asked words presets_command all asks =
    for_presets (subst (Asks words presets_command) (presets_is all asks.0.4 asks.0.5) asks)

-- what is said of the words is said of all that they can be taken for
pub clash_once : (words : List Text) (b : Command) (all : Given) → AreOfCommand words b all → IsAskedFor words
    → clash all ≡ None
clash_once words b all of asked =
    let any = any_asked asked in
    ap clash (once words b any.0 all any.1 of any.2.0) ∙ any.2.1

some_said : (x : Text) → Some x ≡ None → ⊥
some_said x e = true≢false (ap is_some e)

pub any_or_nothing : (words : List Text) → AreTexts words → IsAskedFor words ⊎ AsksNothing words
any_or_nothing words texts = elim (asks_or_not words texts) [
  | inl any ↦ go any.0 any.1 any.2 (clash any.1) refl
  | inr none ↦ inr (λ asked. let any = any_asked asked in none any.0 any.1 any.2.0)
]
  where
    go : (b : Command) (all : Given) → AreOfCommand words b all → (said : Option Text) → clash all ≡ said
        → IsAskedFor words ⊎ AsksNothing words
    go b all of None is = inl (is_asked words b all (of, is))
    go b all of (Some said) is = inr (λ asked. some_said said (sym is ∙ clash_once words b all of asked))

-- ---- the answer

pub settled_asked : (words : List Text) (said : Option Text) (request : Request) (r : Result Request Refusal)
    → Settles said request r → (said ≡ None → AskFor words request) → IfOk r (AskFor words)
settled_asked words said request (Ok answer) s asks = subst (AskFor words) (sym s.1) (asks s.0)
settled_asked words said request (Err refusal) s asks = tt

pub settled_called : (words : List Text) (b : Command) (all : Given) (said : Option Text) (request : Request)
    (r : Result Request Refusal) → Settles said request r → AreOfCommand words b all → said ≡ clash all
    → IfErr r (CallFor words)
settled_called words b all said request (Ok answer) s of is = tt
settled_called words b all said request (Err (Shown text)) s of is = absurd s.2
settled_called words b all said request (Err (Usage text)) s of is =
    inr (subst (AsksClashing words) (sym s.2) (b, all, of, sym is ∙ s.1))
settled_called words b all said request (Err Memory) s of is = tt

pub settled_granted : (words : List Text) (b : Command) (all : Given) (said : Option Text) (request : Request)
    (r : Result Request Refusal) → Settles said request r → AreOfCommand words b all → said ≡ clash all
    → IsAskedFor words → IfErr r (λ refusal. refusal ≡ Memory)
settled_granted words b all said request (Ok answer) s of is asked = tt
settled_granted words b all said request (Err refusal) s of is asked =
    absurd (true≢false (ap is_some (sym s.1 ∙ is ∙ clash_once words b all of asked)))
