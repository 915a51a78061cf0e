-- Skipped declarations, token by token.
use Rattle.std.proofs.Common.{◌≡◌, ℕ, zero, suc, ◌+◌, ◌<◌, ◌≤◌, Bool, true, false, ◌==◌, List, [], ◌∷◌, ◌++◌, length, map, Some, None, Ok, Err, codes, refl, sym, ap, ◌∙◌, subst, append_assoc, append-nil, drop, length-append, length-drop, arith, inl, inr, if◌then◌else◌}
use Rattle.std.specs.Bool.{Decides}
use Rattle.std.specs.Char.{to_ascii_lowercase}
use Rattle.std.specs.Str.{bytes_eq}
use Rattle.std.proofs.lemmas.Bool.{false≢true}
use Rattle.std.proofs.lemmas.Bool.Decides.{nat_tests, same_from_decides}
use Rattle.std.proofs.lemmas.Slice.Eq.{bytes_eq-Decides}
use Rattle.step_literals.specs.Words.{upper}
use Rattle.step_literals.proofs.CaseLemmas.{same_without_case}
use Rattle.express_lexer.specs.declared.marks.Mark.TheVariants as marks
use Rattle.express_lexer.specs.declared.token.Token.{Token}
use Rattle.express_lexer.specs.Layout as blanks
use Rattle.express_lexer.specs.Reading.{Reading, Takes}
use Rattle.express_lexer.proofs.Determined.{places_rise}
use Rattle.express_lexer.proofs.ReadingLemmas.{some_bytes}
use Rattle.express_syntax.specs.declared.lexeme.Lexeme.{Lexeme}
use Rattle.express_syntax.specs.declared.lexeme.Lexeme.TheVariants as lexemes
use Rattle.express_syntax.specs.Words as words
use Rattle.express_syntax.specs.Words.{Word, name, mark, word_of}
use Rattle.express_syntax.specs.Grammar.{depth_limit}
use Rattle.express_syntax.specs.declared.fault.FaultKind.TheVariants as fault_kinds
use Rattle.express_syntax.specs.declared.fault.SyntaxFault.{SyntaxFault}
use Rattle.express_syntax.specs.declared.fault.SyntaxFault.TheVariants as faults
use Rattle.parsing.specs.Tables.{lookaheads}
use Rattle.express_syntax.specs.Texts.{token, LocatedToken, Shows, ShowsAll}
use Rattle.express_syntax.specs.Passages.{at_place, BeginsBehind, BeginsNext, Stands, StandsBehind}
use Rattle.express_syntax.specs.steps.PassageLemmas.{stands_within, stands_some}
use Rattle.express_syntax.specs.declared.passage.Passage.{Passage}
use Rattle.express_syntax.specs.Sources.{IsPassageAt}
use Rattle.express_syntax.specs.Runs.{Routine, ending, further, nested, words_of_routine, BeginsRoutine, EndsRoutine, FitsRoutine}
use Rattle.express_syntax.specs.WrittenSchemas.{concatenated}
use Rattle.express_syntax.specs.Profile.{Every, IsWithout}
use Rattle.express_token_runs.specs.steps.Skips.{is_name, still_open}
use Rattle.express_syntax.specs.steps.Predict.{Symbol, Next, Declarations, SkippedName, SkippedEnd, Until, is_mark, opens_routine, closes_routine, left_routine, next, next_routine}
use Rattle.express_syntax.specs.steps.Predict as predict
use Rattle.express_syntax.specs.steps.Steps.{StopsIn, Passes}
use Rattle.express_syntax.proofs.Passing.{same_bytes}
use Rattle.express_syntax.proofs.Turning.{stops_shown}
use Rattle.express_syntax.proofs.Looking.{shown_token, reads_shown}
use Rattle.express_syntax.proofs.SameText.{passes_text}
use Rattle.express_syntax.proofs.StandLemmas.{reads_stands, stands_join, stands_own, shown_text}
use Rattle.express_syntax.proofs.Taking.{passes_here, passes_join, passes_more, passes_token, passes_taken, stops_behind}

-- a name is a word in capitals where both are the same but for the case of letters
pub spelled : (text wanted : List ℕ) (r : Bool) → upper wanted ≡ wanted
    → Decides r (map to_ascii_lowercase text ≡ map to_ascii_lowercase wanted) → r ≡ bytes_eq (upper text) wanted
spelled text wanted r capital d =
    let same = same_without_case text wanted in
    sym (same_from_decides (bytes_eq (upper text) wanted) r (bytes_eq-Decides (upper text) wanted) (
      λ t. same.0 (d.0 t)
          ∙ capital,
      λ e. d.1 (same.1 (e ∙ sym capital)),
    ))

-- another token is expected
pub stops_expected : (e : SyntaxFault) (y : Symbol) (s : LocatedToken) (old new : Reading) → Shows old s new
    → next depth_limit y s.lookahead ≡ Err fault_kinds.Expected → e ≡ faults.Fault fault_kinds.Expected s.place
    → StopsIn e (y ∷ []) [] old
stops_expected e y s old new h n q = let P : SyntaxFault → Type 0 = λ x. StopsIn x (y ∷ []) [] old in
    subst P (sym q) (stops_shown fault_kinds.Expected y s old new h n)

pub name_expected : (l : Lexeme) → ((w : _) → l ≡ lexemes.Name w → ⊥) → next depth_limit SkippedName
    (token (word_of l)) ≡ Err fault_kinds.Expected
name_expected (lexemes.Name w) h = absurd (h w refl)
name_expected _ h = refl

pub end_expected : (w : Word) → is_mark marks.Semicolon (token w) ≡ false → next depth_limit SkippedEnd (token w) ≡ Err
    fault_kinds.Expected
end_expected (mark marks.Semicolon) h = absurd (false≢true (sym h))
end_expected (mark _) h = refl
end_expected _ h = refl

-- a token stands behind what is read of the text
within_before : (old new : Reading) (t : Token) → Takes old t new → old.place ≤ length old.text
within_before old new t h =
    omega (
      arith,
      some_bytes (drop t.place old.text) t.sort (length t.text.now) h.front,
      h.front.within,
      ap length h.reaches.layout.split,
      length-append (blanks.joined h.reaches.layout.blanks) (drop t.place old.text),
      length-drop t.place old.text,
      length-drop old.place old.text,
    )

pub shown_within : (old new : Reading) (s : LocatedToken) (w : Word) → Shows old s new → s.lookahead ≡ token w
    → old.place ≤ length old.text
shown_within old new s w h is = let t = shown_token w s old new h is in within_before old new t.0 t.1

-- tokens, of which there are some, and one more
pub begun_more : (from to : ℕ) (ws : List Word) (w : Word) (place : ℕ) (old new : Reading) → (from ≡ to → ⊥)
    → Stands old.text from ws to → to ≡ old.place → (let s : LocatedToken = record {
      lookahead = token w;
      place = place;
    } in Shows old s new) → Stands new.text from (ws ++ w ∷ []) new.place
begun_more from to [] w place old new some h e k = absurd (some h.0)
begun_more from to (v ∷ ws) w place old new some h e k =
    let s : LocatedToken = record { lookahead = token w; place = place } in
    let within = stands_within old.text from (v ∷ ws) to h in
    let one = reads_stands old new (w ∷ []) (omega (arith, e, within.1)) (reads_shown w s old new k refl) in
    let P : ℕ → Type 0 = λ p. Stands old.text from (v ∷ ws) p in
    let Q : List ℕ → Type 0 = λ text. Stands text from (v ∷ (ws ++ w ∷ [])) new.place in
    subst Q (sym (shown_text old new s w k refl)) (stands_join old.text from v ws old.place (w ∷ []) new.place
    (subst P e h) one)

-- the first token, with no token before it
pub begun_first : (from to : ℕ) (ws : List Word) (w : Word) (place : ℕ) (old new : Reading) → from ≡ to
    → Stands old.text from ws to → (let s : LocatedToken = record {
      lookahead = token w;
      place = place;
    } in Shows old s new) → Stands new.text place (ws ++ w ∷ []) new.place
begun_first from to [] w place old new e h k = let s : LocatedToken = record {
  lookahead = token w;
  place = place;
} in stands_own old new s w k refl
begun_first from to (v ∷ ws) w place old new e h k = absurd (omega (arith, e, stands_some old.text from v ws to h))

-- Where tokens begin behind a place and one more is read, they begin there still, or with this one, the first.
next_begins : (here old new : Reading) (ws : List Word) (w : Word) (from to place begun : ℕ)
    → BeginsNext here.text here.place ws from → Stands old.text from ws to → to ≡ old.place → old.text ≡ here.text
    → (let s : LocatedToken = record {
      lookahead = token w;
      place = place;
    } in Shows old s new) → begun ≡ (if from == to then place else from)
    → BeginsNext here.text here.place (ws ++ w ∷ []) begun
next_begins here old new [] w from to place begun b h e same k is =
    let s : LocatedToken = record { lookahead = token w; place = place } in
    let t = shown_token w s old new k refl in
    let none : (from == to) ≡ true = grind (arith, nat_tests, h.0) in
    let first : begun ≡ place = is ∙ ap (λ b. if b then place else from) none in
    let stood : old.place ≡ here.place = sym e ∙ sym h.0 ∙ b in
    let next : new ≡ at_place old.text new.place = λ i. record { text = t.1.new_text i; place = new.place } in
    let P : Reading → Type 0 = λ r. Takes old t.0 r in
    let Q : List ℕ → ℕ → Type 0 = λ text p. BeginsBehind text p begun in
    let own : BeginsBehind old.text old.place begun =
    (t.0, at_place old.text new.place, subst P next t.1, sym t.3 ∙ sym first) in
    subst (λ text. Q text here.place) same (subst (Q old.text) stood own)
next_begins here old new (v ∷ ws) w from to place begun b h e same k is =
    let lt = stands_some old.text from v ws to h in
    let more : (from == to) ≡ false = grind (arith, nat_tests, lt) in
    let kept : begun ≡ from = is ∙ ap (λ b. if b then place else from) more in
    subst (BeginsBehind here.text here.place) (sym kept) b

-- a passage that is this one, with these words from here, stands right behind the place where they begin
pub passage_at : (text : List ℕ) (place : ℕ) (p q : Passage) (ws : List Word) (from : ℕ) → p ≡ q → p.words.0 ≡ ws
    → p.from ≡ from → p.text.now ≡ text → BeginsNext text place ws from → IsPassageAt text place q
passage_at text place p q ws from same is begins of next =
    let P : List Word → ℕ → Type 0 = BeginsNext text place in
    let next_of : BeginsNext text place p.words.0 p.from = subst (λ f. P p.words.0 f) (sym begins)
    (subst (λ l. P l from) (sym is) next) in
    subst (IsPassageAt text place) same (of, next_of)

-- words that are read stand behind the place where the reader was
pub words_stand : {ys zs : List Symbol} {old new : Reading} (w : Word) (ws : List Word) → Passes ys zs [] (w ∷ ws) old
    new → StandsBehind old.text old.place (w ∷ ws) new.place
words_stand {ys} {zs} {old} {new} w ws h = by h.shown h.shown_all h.words
  where
    by : (s : List LocatedToken) → ShowsAll old s new → lookaheads s ≡ token w ∷ map token ws
        → StandsBehind old.text old.place (w ∷ ws) new.place
    by [] all e = absurd cc
    by (x ∷ s) all e =
        let first : x.lookahead ≡ token w = cc in
        reads_stands old new (w ∷ ws) (shown_within old all.0 x w all.1 first) (x ∷ s, all, e)

-- what the words of a function or procedure leave to come
abbrev chosen : Bool → Bool → ℕ → Next
chosen opens closes n = if opens then Ok (predict.Routine (n + 1) ∷ []) else (if closes then Ok (left_routine n) else Ok
    (predict.Routine n ∷ []))

routine_name : (n : ℕ) (m : List ℕ) (opens closes : Bool) → opens_routine m ≡ opens → closes_routine m ≡ closes
    → next_routine n (token (name m)) ≡ chosen opens closes n
routine_name n m opens closes e f = ap (λ b. chosen b (closes_routine m) n) e ∙ ap (λ b. chosen opens b n) f

-- with a routine for what is to come, and one for each that is open around it, words are those of a routine
abbrev pub Completes : ℕ → List Word → Type 0
Completes n ws = (r : Routine) (rs : List Routine) → length rs ≡ n → FitsRoutine r → Every FitsRoutine rs
    → (x : Routine) × FitsRoutine x × (words_of_routine x ≡ ws
    ++ (words_of_routine r ++ concatenated (map words_of_routine rs)))

completes_none : Completes 0 []
completes_none r [] e f g = (r, f, sym (append-nil (words_of_routine r)))
completes_none r (s ∷ rs) e f g = absurd (omega (arith, e))

completes_further : (n : ℕ) (ws : List Word) (w : Word) → Completes n ws → (BeginsRoutine w → ⊥) → (EndsRoutine w → ⊥)
    → Completes n (ws ++ w ∷ [])
completes_further n ws w h b e r rs l f g =
    let x = h (further w r) rs l (b, e, f) g in
    (x.0, x.1, x.2 ∙ sym (append_assoc ws (w ∷ []) (words_of_routine r ++ concatenated (map words_of_routine rs))))

completes_nested : (n : ℕ) (ws : List Word) (w : Word) → Completes n ws → BeginsRoutine w
    → Completes (n + 1) (ws ++ w ∷ [])
completes_nested n ws w h b r [] l f g = absurd (omega (arith, l))
completes_nested n ws w h b r (s ∷ rs) l f g =
    let more = concatenated (map words_of_routine rs) in
    let x = h (nested w r s) rs (omega (arith, l)) (b, f, g.0) g.1 in (
      x.0,
      x.1,
      x.2 ∙ ap (λ k. ws ++ w ∷ k) (append_assoc (words_of_routine r) (words_of_routine s) more)
          ∙ sym (append_assoc ws (w ∷ []) (words_of_routine r ++ (words_of_routine s ++ more))),
    )

completes_ended : (n m : ℕ) (ws : List Word) (w : Word) → Completes n ws → n ≡ m + 1 → EndsRoutine w
    → Completes m (ws ++ w ∷ [])
completes_ended n m ws w h d e r rs l f g =
    let x = h (ending w) (r ∷ rs) (omega (arith, d, l)) e (f, g) in
    (x.0, x.1, x.2 ∙ sym (append_assoc ws (w ∷ []) (words_of_routine r ++ concatenated (map words_of_routine rs))))

-- the words so far are those of a routine
abbrev IsWhole : List Word → Type 0
IsWhole ws = (x : Routine) × FitsRoutine x × (words_of_routine x ≡ ws)

completes_all : (n : ℕ) (ws : List Word) (w : Word) → Completes n ws → n ≡ 0 → EndsRoutine w → IsWhole (ws ++ w ∷ [])
completes_all n ws w h d e = h (ending w) [] (sym d) e tt

-- what the words so far are, by what is to come behind them
abbrev Grown : ℕ → List Word → Next → Type 0
Grown n ws (Ok []) = IsWhole ws
Grown n ws (Ok (predict.Routine m ∷ [])) = (m ≤ n + 1) × Completes m ws
Grown n ws _ = Unit {0}

begins_is : (m : List ℕ) → opens_routine m ≡ true → BeginsRoutine (name m)
begins_is m e = by (bytes_eq m (codes "FUNCTION")) refl
  where
    by : (b : Bool) → bytes_eq m (codes "FUNCTION") ≡ b → BeginsRoutine (name m)
    by true d = inl (ap name ((bytes_eq-Decides m (codes "FUNCTION")).0 d))
    by false d = inr (ap name ((bytes_eq-Decides m (codes "PROCEDURE")).0
        (sym (ap (λ b. if b then true else bytes_eq m (codes "PROCEDURE")) d) ∙ e)))

ends_is : (m : List ℕ) → closes_routine m ≡ true → EndsRoutine (name m)
ends_is m e = by (bytes_eq m (codes "END_FUNCTION")) refl
  where
    by : (b : Bool) → bytes_eq m (codes "END_FUNCTION") ≡ b → EndsRoutine (name m)
    by true d = inl (ap name ((bytes_eq-Decides m (codes "END_FUNCTION")).0 d))
    by false d = inr (ap name ((bytes_eq-Decides m (codes "END_PROCEDURE")).0
        (sym (ap (λ b. if b then true else bytes_eq m (codes "END_PROCEDURE")) d) ∙ e)))

name_of : Word → List ℕ
name_of (name m) = m
name_of _ = []

begins_not : (m : List ℕ) → opens_routine m ≡ false → BeginsRoutine (name m) → ⊥
unfolding name_of
begins_not m e (inl q) = let p : m ≡ codes "FUNCTION" = ap name_of q in false≢true (sym e ∙ ap opens_routine p)
begins_not m e (inr q) = let p : m ≡ codes "PROCEDURE" = ap name_of q in false≢true (sym e ∙ ap opens_routine p)

ends_not : (m : List ℕ) → closes_routine m ≡ false → EndsRoutine (name m) → ⊥
unfolding name_of
ends_not m e (inl q) = let p : m ≡ codes "END_FUNCTION" = ap name_of q in false≢true (sym e ∙ ap closes_routine p)
ends_not m e (inr q) = let p : m ≡ codes "END_PROCEDURE" = ap name_of q in false≢true (sym e ∙ ap closes_routine p)

left_grown : (n : ℕ) (ws : List Word) (w : Word) → Completes n ws → EndsRoutine w
    → Grown n (ws ++ w ∷ []) (Ok (left_routine n))
left_grown zero ws w h e = completes_all zero ws w h refl e
left_grown (suc n) ws w h e = (omega arith, completes_ended (suc n) n ws w h (omega arith) e)

grown_name : (n : ℕ) (ws : List Word) (m : List ℕ) → Completes n ws → Grown n (ws ++ name m ∷ [])
    (next_routine n (token (name m)))
grown_name n ws m h = by (opens_routine m) (closes_routine m) refl refl
  where
    by : (opens closes : Bool) → opens_routine m ≡ opens → closes_routine m ≡ closes → Grown n (ws ++ name m ∷ [])
        (next_routine n (token (name m)))
    by true closes e f = subst (Grown n (ws ++ name m ∷ [])) (sym (routine_name n m true closes e f))
        (omega arith, completes_nested n ws (name m) h (begins_is m e))
    by false true e f = subst (Grown n (ws ++ name m ∷ [])) (sym (routine_name n m false true e f))
        (left_grown n ws (name m) h (ends_is m f))
    by false false e f = subst (Grown n (ws ++ name m ∷ [])) (sym (routine_name n m false false e f))
        (omega arith, completes_further n ws (name m) h (begins_not m e) (ends_not m f))

no_name : (n : ℕ) (ws : List Word) (w : Word) → Completes n ws → ((m : List ℕ) → w ≡ name m → ⊥) → (n ≤ n + 1)
    × Completes n (ws ++ w ∷ [])
no_name n ws w h f = (omega arith, completes_further n ws w h begins ends)
  where
    begins : BeginsRoutine w → ⊥
    begins (inl q) = f (codes "FUNCTION") q
    begins (inr q) = f (codes "PROCEDURE") q

    ends : EndsRoutine w → ⊥
    ends (inl q) = f (codes "END_FUNCTION") q
    ends (inr q) = f (codes "END_PROCEDURE") q

grown : (n : ℕ) (ws : List Word) (w : Word) → Completes n ws → Grown n (ws ++ w ∷ []) (next_routine n (token w))
grown n ws (name m) h = grown_name n ws m h
grown n ws (words.keyword k) h = no_name n ws (words.keyword k) h (λ m (e : words.keyword k ≡ name m). cc)
grown n ws (words.integer t) h = no_name n ws (words.integer t) h (λ m (e : words.integer t ≡ name m). cc)
grown n ws (words.real t) h = no_name n ws (words.real t) h (λ m (e : words.real t ≡ name m). cc)
grown n ws (words.string t) h = no_name n ws (words.string t) h (λ m (e : words.string t ≡ name m). cc)
grown n ws (words.encoded t) h = no_name n ws (words.encoded t) h (λ m (e : words.encoded t ≡ name m). cc)
grown n ws (words.binary t) h = no_name n ws (words.binary t) h (λ m (e : words.binary t ≡ name m). cc)
grown n ws (mark m) h = no_name n ws (mark m) h (λ k (e : mark m ≡ name k). cc)

-- a function or procedure so far, with so many others open in it: its tokens stand between these places
pub record RoutineSoFar (old here : Reading) (from to n : ℕ) : Type 0 where
  pub words : List Word
  pub passes : Passes (predict.Routine 0 ∷ []) (predict.Routine n ∷ []) [] words old here
  pub completes : Completes n words
  pub stand : here.place ≤ length here.text → Stands here.text from words to
  pub begins : BeginsNext old.text old.place words from
  pub behind : to ≡ here.place
  pub few : n ≤ here.place

pub routine_start : (old : Reading) (place : ℕ) → place ≡ old.place → RoutineSoFar old old place place 0
routine_start old place e = record {
  words = [];
  passes = passes_here (predict.Routine 0 ∷ []) old;
  completes = completes_none;
  stand = λ le. (refl, omega (arith, e, le));
  begins = e;
  behind = e;
  few = omega arith;
}

-- the next token is a byte at least
pub routine_few : (old here new : Reading) (from to n place : ℕ) (w : Word) → RoutineSoFar old here from to n
    → (let s : LocatedToken = record { lookahead = token w; place = place } in Shows here s new) → n < new.place
routine_few old here new from to n place w so h =
    let s : LocatedToken = record { lookahead = token w; place = place } in
    let t = shown_token w s here new h refl in
    let rise = places_rise here new t.0 (within_before here new t.0 t.1) t.1 in
    omega (arith, so.few, rise.0, rise.1)

-- what a begun passage is with one more token
pub record IsBegun (from to begun : ℕ) (s : LocatedToken) (w : Word) : Type 0 where
  pub stand : (ws : List Word) (old new : Reading) → Stands old.text from ws to → to ≡ old.place → Shows old s new
      → Stands new.text begun (ws ++ w ∷ []) new.place
  pub place : begun ≡ (if from == to then s.place else from)

pub routine_next : (old here new : Reading) (from to begun n left place : ℕ) (w : Word) → RoutineSoFar old here from to
    n → (let s : LocatedToken = record {
      lookahead = token w;
      place = place;
    } in Shows here s new × IsBegun from to begun s w)
    → next_routine n (token w) ≡ Ok (still_open (Some left)) → (end : ℕ) → end ≡ new.place
    → RoutineSoFar old new begun end left
routine_next old here new from to begun n left place w so h e end at =
    let s : LocatedToken = record { lookahead = token w; place = place } in
    let grows : (left ≤ n + 1) × Completes left (so.words ++ w ∷ []) = subst (Grown n (so.words ++ w ∷ [])) e
    (grown n so.words w so.completes) in
    let P : ℕ → Type 0 = λ p. Stands new.text begun (so.words ++ w ∷ []) p in
    record {
      words = so.words ++ w ∷ [];
      passes = passes_join so.passes (passes_token (predict.Routine n) (predict.Routine left ∷ []) w s here new h.0 refl
          e);
      completes = grows.1;
      stand = λ _. subst P (sym at) (h.1.stand so.words here new
          (so.stand (shown_within here new s w h.0 refl)) so.behind h.0);
      begins = next_begins old here new so.words w from to place begun so.begins (so.stand (shown_within here new s w
          h.0 refl)) so.behind (passes_text so.passes) h.0 h.1.place;
      behind = at;
      few = let more = routine_few old here new from to n place w so h.0 in omega (arith, grows.0, more);
    }

-- the whole of it
pub record RoutineDone (old new : Reading) (text : List ℕ) (from to : ℕ) : Type 0 where
  pub routine : Routine
  pub fits : FitsRoutine routine
  pub stand : Stands text from (words_of_routine routine) to
  pub begins : BeginsNext old.text old.place (words_of_routine routine) from
  pub passes : Passes (predict.Routine 0 ∷ []) [] [] (words_of_routine routine) old new

pub routine_done : (old here new : Reading) (from to begun n place : ℕ) (w : Word) → RoutineSoFar old here from to n
    → (let s : LocatedToken = record {
      lookahead = token w;
      place = place;
    } in Shows here s new × IsBegun from to begun s w)
    → next_routine n (token w) ≡ Ok (still_open None) → (end : ℕ) → end ≡ new.place → (text : List ℕ) → text ≡ new.text
    → RoutineDone old new text begun end
routine_done old here new from to begun n place w so h e end at text is =
    let s : LocatedToken = record { lookahead = token w; place = place } in
    let x : IsWhole (so.words ++ w ∷ []) = subst (Grown n (so.words ++ w ∷ [])) e (grown n so.words w so.completes) in
    let P : ℕ → Type 0 = λ p. Stands new.text begun (so.words ++ w ∷ []) p in
    let T : List ℕ → Type 0 = λ l. Stands l begun (so.words ++ w ∷ []) end in
    let Q : List Word → Type 0 = λ ws. Stands text begun ws end in
    let B : List Word → Type 0 = λ ws. BeginsNext old.text old.place ws begun in
    let R : List Word → Type 0 = λ ws. Passes (predict.Routine 0 ∷ []) [] [] ws old new in
    record {
      routine = x.0;
      fits = x.1;
      stand = subst Q (sym x.2) (subst T (sym is)
          (subst P (sym at) (h.1.stand so.words here new
          (so.stand (shown_within here new s w h.0 refl)) so.behind h.0)));
      begins = subst B (sym x.2) (next_begins old here new so.words w from to place begun so.begins
          (so.stand (shown_within here new s w h.0 refl)) so.behind (passes_text so.passes) h.0 h.1.place);
      passes = subst R (sym x.2) (passes_join so.passes (passes_token (predict.Routine n) [] w s here new h.0 refl e));
    }

pub routine_is_done : (old new : Reading) (text : List ℕ) (from to : ℕ) (d : RoutineDone old new text from to)
    (r : Routine) → r ≡ d.routine → FitsRoutine r × Passes (predict.Routine 0 ∷ []) [] [] (words_of_routine r) old new
routine_is_done old new text from to d r e = let P : Routine → Type 0 = λ x. FitsRoutine x
    × Passes (predict.Routine 0 ∷ []) [] [] (words_of_routine x) old new in subst P (sym e) (d.fits, d.passes)

-- the tokens before the word that ends a declaration, so far
pub record UntilSoFar (end : List ℕ) (old here : Reading) (from to : ℕ) : Type 0 where
  pub words : List Word
  pub passes : Passes (Until end ∷ []) (Until end ∷ []) [] words old here
  pub without : IsWithout end words
  pub stand : here.place ≤ length here.text → Stands here.text from words to
  pub begins : BeginsNext old.text old.place words from
  pub behind : to ≡ here.place

pub until_start : (end : List ℕ) (old : Reading) (place : ℕ) → place ≡ old.place → UntilSoFar end old old place place
until_start end old place e = record {
  words = [];
  passes = passes_here (Until end ∷ []) old;
  without = tt;
  stand = λ le. (refl, omega (arith, e, le));
  begins = e;
  behind = e;
}

until_other : (end : List ℕ) (w : Word) → is_name end (token w) ≡ false → next depth_limit (Until end) (token w) ≡ Ok
    (Until end ∷ [])
until_other end (name m) e = let P : Bool → Next = λ b. if b then Ok [] else Ok (Until end ∷ []) in ap P e
until_other end _ e = refl

without_push : (end : List ℕ) (ws : List Word) (w : Word) → IsWithout end ws → (w ≡ name end → ⊥)
    → IsWithout end (ws ++ w ∷ [])
without_push end [] w h f = (f, tt)
without_push end (v ∷ ws) w h f = (h.0, without_push end ws w h.1 f)

pub until_next : (end : List ℕ) (old here new : Reading) (from to begun place : ℕ) (w : Word) → UntilSoFar end old here
    from to → (let s : LocatedToken = record {
      lookahead = token w;
      place = place;
    } in Shows here s new × IsBegun from to begun s w)
    → is_name end (token w) ≡ false → (behind : ℕ) → behind ≡ new.place → UntilSoFar end old new begun behind
until_next end old here new from to begun place w so h e behind at =
    let s : LocatedToken = record { lookahead = token w; place = place } in
    let P : ℕ → Type 0 = λ p. Stands new.text begun (so.words ++ w ∷ []) p in
    record {
      words = so.words ++ w ∷ [];
      passes = passes_join so.passes (passes_token (Until end) (Until end ∷ []) w s here new h.0 refl
          (until_other end w e));
      without = without_push end so.words w so.without (λ q. false≢true (sym e ∙ ap (λ v. is_name end (token v)) q
          ∙ same_bytes end end refl));
      stand = λ _. subst P (sym at) (h.1.stand so.words here new
          (so.stand (shown_within here new s w h.0 refl)) so.behind h.0);
      begins = next_begins old here new so.words w from to place begun so.begins (so.stand (shown_within here new s w
          h.0 refl)) so.behind (passes_text so.passes) h.0 h.1.place;
      behind = at;
    }

name_is : (end : List ℕ) (w : Word) → is_name end (token w) ≡ true → w ≡ name end
name_is end (name m) e = ap name ((bytes_eq-Decides m end).0 e)
name_is end _ e = absurd (false≢true e)

until_end : (end : List ℕ) → next depth_limit (Until end) (token (name end)) ≡ Ok []
until_end end = let P : Bool → Next = λ b. if b then Ok [] else Ok (Until end ∷ []) in ap P (same_bytes end end refl)

pub until_done : (end : List ℕ) (old here new : Reading) (from to : ℕ) (s : LocatedToken) (w : Word) (words : List Word)
    → (so : UntilSoFar end old here from to) → words ≡ so.words → Shows here s new → s.lookahead ≡ token w
    → is_name end s.lookahead ≡ true
    → IsWithout end words × Passes (Until end ∷ []) [] [] (words ++ name end ∷ []) old new
until_done end old here new from to s w words so q h is e =
    let is_end : s.lookahead ≡ token (name end) = is ∙ ap token (name_is end w (sym (ap (is_name end) is) ∙ e)) in
    let P : List Word → Type 0 = λ ws. IsWithout end ws × Passes (Until end ∷ []) [] [] (ws ++ name end ∷ []) old new in
    subst P (sym q) (
      so.without,
      passes_join so.passes (passes_token (Until end) [] (name end) s here new h is_end
          (until_end end)),
    )

-- the same text, further on
pub until_text : (end : List ℕ) (old here new : Reading) (from to : ℕ) (s : LocatedToken) (w : Word)
    → (so : UntilSoFar end old here from to) → Shows here s new → s.lookahead ≡ token w → (text : List ℕ)
    → text ≡ new.text → Stands text from so.words to
until_text end old here new from to s w so h is text e =
    let P : List ℕ → Type 0 = λ x. Stands x from so.words to in
    subst P (sym (e ∙ shown_text here new s w h is)) (so.stand (shown_within here new s w h is))

-- one part stops behind another
pub stops_second : {ys : List Symbol} {ws : List Word} {old mid : Reading} (e : SyntaxFault) (zs xs : List Symbol)
    → Passes ys [] [] ws old mid → StopsIn e zs [] mid → StopsIn e (ys ++ (zs ++ xs)) [] old
stops_second e zs xs h g = stops_behind e zs xs (passes_more (zs ++ xs) h) g

-- two parts, one behind another
pub passes_both : {ys xs : List Symbol} {u v : List Word} {a b c : Reading} → Passes ys [] [] u a b
    → Passes xs [] [] v b c → Passes (ys ++ xs) [] [] (u ++ v) a c
passes_both {ys} {xs} h k = passes_join (passes_more xs h) k

-- a declaration by its first word, which is taken
taken_word : (n : List ℕ) (text : List ℕ) (ys : List Symbol) (place : ℕ) (here : Reading) → text ≡ n
    → next depth_limit Declarations (token (name n)) ≡ Ok (ys ++ Declarations ∷ []) → (let s : LocatedToken = record {
      lookahead = token (name text);
      place = place;
    } in Passes (Declarations ∷ []) (ys ++ Declarations ∷ []) (s ∷ [])
    (name n ∷ []) here here)
taken_word n text ys place here e t = let s : LocatedToken = record {
  lookahead = token (name text);
  place = place;
} in passes_taken Declarations (ys ++ Declarations ∷ []) (name n) s
    here (ap (λ m. token (name m)) e) t

pub skipped_done : {ws : List Word} {old new : Reading} (n text : List ℕ) (ys : List Symbol) (place : ℕ)
    → bytes_eq text n ≡ true → next depth_limit Declarations (token (name n)) ≡ Ok (ys ++ Declarations ∷ [])
    → Passes ys [] [] ws old new → (let s : LocatedToken = record {
      lookahead = token (name text);
      place = place;
    } in Passes (Declarations ∷ []) (Declarations ∷ []) (s ∷ [])
    (name n ∷ ws) old new)
skipped_done {ws} {old} n text ys place e t h =
    passes_join (taken_word n text ys place old ((bytes_eq-Decides text n).0 e) t) (passes_more (Declarations ∷ []) h)

pub skipped_stops : (e : SyntaxFault) (n text : List ℕ) (ys : List Symbol) (place : ℕ) (old : Reading)
    → bytes_eq text n ≡ true → next depth_limit Declarations (token (name n)) ≡ Ok (ys ++ Declarations ∷ [])
    → StopsIn e ys [] old → (let s : LocatedToken = record {
      lookahead = token (name text);
      place = place;
    } in StopsIn e (Declarations ∷ []) (s ∷ []) old)
skipped_stops e n text ys place old q t h = stops_behind e ys (Declarations ∷ [])
    (taken_word n text ys place old ((bytes_eq-Decides text n).0 q) t) h
