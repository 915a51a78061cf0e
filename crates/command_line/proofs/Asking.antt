-- What clap makes of the words.
use Rattle.std.proofs.Common.{arith, ◌≡◌, ◌⊎◌, List, [], ◌∷◌, Option, Some, None, Bool, true, false, refl, sym, ap, ◌∙◌, inl, inr, codes, option_map, true≢false, subst}
use Rattle.std.specs.Str.{bytes_eq}
use Rattle.clap.specs.Kinds.{HasKind, Kinds}
use Rattle.clap.specs.Walk.{subcommand_met, idle, Row, Text, nothing_held, walk_from}
use Rattle.clap.specs.Simple.{HasMatchesOf, subcommand_rows, subcommand_rows_of, App, subcommand_of, is_simple}
use Rattle.std.specs.Str.{IsUtf8}
use Rattle.std.proofs.lemmas.Str.{IsUtf8-string_bytes}
use Rattle.std.proofs.lemmas.Slice.Eq.{bytes_eq-Decides}
use Rattle.std.specs.Prelude.{Box, String, map, string_bytes}
use Rattle.clap.specs.Faults.{fault_of, is_simple_and_free, walk_fault, turn_fault}
use Rattle.clap.specs.declared.error.kind.ErrorKind.TheVariants as kind
use Rattle.clap.specs.declared.error.Error.{Error}
use Rattle.clap.specs.declared.parser.matches.ArgMatches.{ArgMatches}
use Rattle.clap.specs.declared.parser.matches.SubCommand.{SubCommand}
use Rattle.clap.specs.declared.parser.matches.ArgMatches.TheViews.{out-SubCommand}
use Rattle.clap.specs.Values.{kind_of}
use Rattle.std.specs.Box.{box_value}
use Rattle.clap.proofs.OnLiterals.{clap_on_literals}
use Rattle.command_line.specs.Clap.{HasValues, stepmin_app}
use Rattle.command_line.specs.Requests.{CallFor, CallsFor, is_shown}
use Rattle.command_line.specs.declared.command_words.Refusal.{Refusal}
use Rattle.command_line.specs.declared.command_words.Refusal.TheVariants.{Shown, Usage, Memory}
use Rattle.command_line.specs.Commands.{AreOfCommand, Command, Given, check_command, command_name, dashes, plain_command, presets_command, shrink_command, verify_command}
use Rattle.command_line.proofs.Finishing.{command_fault, command_values, given_by, given_fits}
use Rattle.command_line.proofs.Giving.{Fitting}
use Rattle.command_line.proofs.Walking.{AreTexts, fault_after, first_turn, is_value, names, none_first, simple_and_free, simple_stepmin, some_kind, top, top_asks}

-- ---- the words that ask for something

not_dashes : (program : Text) (rest : List Text) → fault_of stepmin_app (program ∷ dashes ∷ rest) ≡ [] → ⊥
unfolding clap_on_literals
not_dashes program [] e = some_kind _ _ e
not_dashes program (w ∷ rest) e = some_kind _ _ e

not_none : (program : Text) → fault_of stepmin_app (program ∷ []) ≡ [] → ⊥
unfolding clap_on_literals
not_none program e = some_kind _ _ e

none_at_all : fault_of stepmin_app [] ≡ [] → ⊥
unfolding clap_on_literals
none_at_all e = some_kind _ _ e

-- the first word is a command
is_command : (program w : Text) (rest : List Text) → IsUtf8 w → fault_of stepmin_app (program ∷ w ∷ rest) ≡ []
    → (b : Command) × (command_name b ≡ w)
is_command program w rest text e = go (bytes_eq (codes "plain") w) (bytes_eq (codes "check") w)
    (bytes_eq (codes "shrink") w) (bytes_eq (codes "verify") w) (bytes_eq (codes "presets") w)
    (bytes_eq (codes "help") w) refl refl refl refl refl refl
  where
    turn : turn_fault top names (walk_from nothing_held) w ≡ []
    turn = (first_turn top names (walk_from nothing_held) w rest
        (none_first (walk_fault top names (walk_from nothing_held) (w ∷ rest)) _ (sym (fault_after program (w ∷ rest))
        ∙ e))).0

    other : subcommand_met names idle w ≡ None → ⊥
    other none = elim (is_value top names [] None 1 w top_asks text none turn) [
      | inl is ↦ not_dashes program rest (subst (λ v. fault_of stepmin_app (program ∷ v ∷ rest) ≡ []) is e)
      | inr is ↦ some_kind _ _ is.fits
    ]

    go : (p c s v l h : Bool) → bytes_eq (codes "plain") w ≡ p → bytes_eq (codes "check") w ≡ c
        → bytes_eq (codes "shrink") w ≡ s → bytes_eq (codes "verify") w ≡ v → bytes_eq (codes "presets") w ≡ l
        → bytes_eq (codes "help") w ≡ h → (b : Command) × (command_name b ≡ w)
    go true c s v l h is _ _ _ _ _ = (plain_command, (bytes_eq-Decides (codes "plain") w).0 is)
    go false true s v l h _ is _ _ _ _ = (check_command, (bytes_eq-Decides (codes "check") w).0 is)
    go false false true v l h _ _ is _ _ _ = (shrink_command, (bytes_eq-Decides (codes "shrink") w).0 is)
    go false false false true l h _ _ _ is _ _ = (verify_command, (bytes_eq-Decides (codes "verify") w).0 is)
    go false false false false true h _ _ _ _ is _ = (presets_command, (bytes_eq-Decides (codes "presets") w).0 is)
    go false false false false false true no_plain no_check no_shrink no_verify no_presets is =
        absurd (some_kind _ _ (rw (no_plain, no_check, no_shrink, no_verify, no_presets, is) at turn))
    go false false false false false false no_plain no_check no_shrink no_verify no_presets no_help =
        absurd (other (rw (no_plain, no_check, no_shrink, no_verify, no_presets, no_help) refl))

-- the words are those of a command
abbrev pub AreAny : List Text → Type 0
AreAny words = (b : Command) × (all : Given) × AreOfCommand words b all

-- where clap finds no fault, they are
pub asked : (words : List Text) → AreTexts words → fault_of stepmin_app words ≡ [] → AreAny words
asked [] texts e = absurd (none_at_all e)
asked (program ∷ []) texts e = absurd (not_none program e)
asked (program ∷ w ∷ rest) texts e =
    let is = is_command program w rest texts.1.0 e in
    let fits = sym (command_fault is.0 program rest) ∙ subst (λ v. fault_of stepmin_app (program ∷ v ∷ rest) ≡ [])
    (sym is.1) e in
    let found = given_by is.0 rest texts.1.1 fits in
    (is.0, found.0, (program, rest, ap (λ v. program ∷ v ∷ rest) (sym is.1), found.1, found.3, found.2.1))

-- what a command needs fits it
are_fit : (words : List Text) (b : Command) (all : Given) → AreOfCommand words b all → Fitting b all
are_fit words b all of =
    let are = of.4 in
    (omega (arith, are), of.5)

-- ---- what clap finds in them

-- words of a command fit, and give these values
pub command_fits : (words : List Text) (b : Command) (all : Given) → AreOfCommand words b all
    → fault_of stepmin_app words ≡ []
command_fits words b all of = subst (λ ws. fault_of stepmin_app ws ≡ []) (sym of.2)
    (command_fault b of.0 of.1 ∙ (given_fits b of.1 all of.3 (are_fit words b all of) of.4).0)

pub command_found : (words : List Text) (b : Command) (all : Given) → AreOfCommand words b all
    → HasValues (subcommand_of stepmin_app words) b all
command_found words b all of =
    subst (λ ws. HasValues (subcommand_of stepmin_app ws) b all) (sym of.2)
    (command_values b of.0 of.1 all (given_fits b of.1 all of.3 (are_fit words b all of) of.4).1)

-- the words ask for something, or say what can't be meant, or ask for nothing
pub asks_or_not : (words : List Text) → AreTexts words
    → AreAny words ⊎ ((b : Command) → (all : Given) → AreOfCommand words b all → ⊥)
asks_or_not words texts = go (fault_of stepmin_app words) refl
  where
    go : (kinds : Kinds) → fault_of stepmin_app words ≡ kinds
        → AreAny words ⊎ ((b : Command) → (all : Given) → AreOfCommand words b all → ⊥)
    go [] none = inl (asked words texts none)
    go (k ∷ ks) some = inr (λ b all of. some_kind k ks (sym some ∙ command_fits words b all of))

pub are_texts : {Z : Type 0} (words : List (String Z)) → AreTexts (map string_bytes words)
are_texts [] = tt
are_texts (w ∷ ws) = (IsUtf8-string_bytes w, are_texts ws)

-- ---- what clap answers

-- the name of the command that was found
abbrev pub name_in : Option (Text × List Row) → Option Text
name_in = option_map (λ p. p.0)

-- the words are those of a command, and its values were found
pub record Finds (words : List Text) (m : ArgMatches) : Type 0 where
  pub command : Command
  pub all : Given
  pub of : AreOfCommand words command all
  pub found : HasValues (subcommand_rows_of m) command all

-- a parse that succeeds is of such words
pub parsed : (app : App) (words : List Text) (m : ArgMatches) → app ≡ stepmin_app → AreTexts words
    → (is_simple_and_free app ≡ true → fault_of app words ≡ []) → HasMatchesOf app words m → Finds words m
parsed app words m is texts fits matches =
    let any = asked words texts (ap (λ a. fault_of a words) (sym is)
    ∙ fits (ap is_simple_and_free is ∙ simple_and_free)) in
    let simple : is_simple app ≡ true = ap is_simple is ∙ simple_stepmin in
    let rows : subcommand_rows_of m ≡ subcommand_of stepmin_app words =
    (matches simple).1 ∙ ap (λ a. subcommand_of a words) is in
    record {
      command = any.0;
      all = any.1;
      of = any.2;
      found = subst (λ o. HasValues o any.0 any.1) (sym rows) (command_found words any.0 any.1 any.2);
    }

-- the command that was met has its name
pub met_is : {words : List Text} {m : ArgMatches} (f : Finds words m)
    → name_in (subcommand_rows_of m) ≡ Some (command_name f.command)
met_is f = ap name_in f.found.1

-- a parse that fails does so for want of memory, or by a kind that is due
fails : (app : App) (words : List Text) (e : Error) → app ≡ stepmin_app
    → (is_simple_and_free app ≡ true → HasKind (fault_of app words) e) → HasKind (fault_of stepmin_app words) e
fails app words e is due = subst (λ a. HasKind (fault_of a words) e) is
    (due (ap is_simple_and_free is ∙ simple_and_free))

-- words in which clap finds no fault fail for want of memory alone
pub failed : (app : App) (words : List Text) (e : Error) → app ≡ stepmin_app
    → (is_simple_and_free app ≡ true → HasKind (fault_of app words) e)
    → fault_of stepmin_app words ≡ [] → kind_of e ≡ kind.OutOfMemory
failed app words e is due fits = memory (subst (λ ks. HasKind ks e) fits (fails app words e is due))
  where
    memory : HasKind [] e → kind_of e ≡ kind.OutOfMemory
    memory (inl m) = m
    memory (inr never) = absurd never

-- the refusal is the one that the words call for
pub refused_calls : (app : App) (words : List Text) (e : Error) (refusal : Refusal) → app ≡ stepmin_app
    → (is_simple_and_free app ≡ true → HasKind (fault_of app words) e)
    → CallsFor (kind_of e) refusal → CallFor words refusal
refused_calls app words e refusal is due = calls refusal (fails app words e is due)
  where
    calls : (r : Refusal) → HasKind (fault_of stepmin_app words) e → CallsFor (kind_of e) r → CallFor words r
    calls (Shown text) (inl memory) shown = absurd (true≢false (sym shown ∙ ap is_shown memory))
    calls (Shown text) (inr among) shown = (kind_of e, among, shown)
    calls (Usage text) (inl memory) other = absurd (other.1 memory)
    calls (Usage text) (inr among) other = inl (kind_of e, among, other.0)
    calls Memory among other = tt

-- the name of the subcommand is that of its rows
pub same_name : {Z : Type 0} (o : Option (Box SubCommand Z))
    → option_map (λ b. (out-SubCommand (box_value b)).name.now) o ≡ name_in (subcommand_rows o)
same_name None = refl
same_name (Some b) = refl
