-- Runs of tokens, as their reader goes on.
use Rattle.std.proofs.Common.{◌≡◌, ℕ, ◌+◌, ◌<◌, ◌≤◌, Bool, true, false, not, ◌==◌, List, [], ◌∷◌, ◌++◌, length, nat_lt, Result, Ok, Err, ◌⊎◌, inl, inr, if◌then◌else◌, refl, sym, ap, ap₂, ◌∙◌, subst, append_assoc, append-nil, arith}
use Rattle.std.proofs.lemmas.Bool.{false≢true}
use Rattle.std.proofs.lemmas.Bool.Decides.{nat_tests}
use Rattle.parsing.proofs.Turning as turning
use Rattle.express_lexer.specs.declared.marks.Mark.{Mark}
use Rattle.express_lexer.specs.declared.marks.Mark.TheVariants as marks
use Rattle.express_lexer.specs.Reading.{Reading}
use Rattle.express_syntax.specs.declared.lexeme.Lexeme.{Lexeme}
use Rattle.express_syntax.specs.Words.{Word, mark, name, word_of, words_of}
use Rattle.express_syntax.specs.Grammar.{depth_limit}
use Rattle.express_syntax.specs.declared.fault.FaultKind.{FaultKind}
use Rattle.express_syntax.specs.declared.fault.FaultKind.TheVariants as fault_kinds
use Rattle.express_syntax.specs.declared.fault.SyntaxFault.{SyntaxFault}
use Rattle.express_syntax.specs.declared.fault.SyntaxFault.TheVariants as faults
use Rattle.express_token_runs.specs.declared.runs.Bracket as code
use Rattle.express_token_runs.specs.declared.runs.Buffer.{Buffer}
use Rattle.express_token_runs.specs.declared.tokens.Item.{Item}
use Rattle.express_token_runs.specs.steps.Items.{located_of}
use Rattle.express_syntax.specs.Runs.{Bracket, Run, ended, word, bracketed, words_of_run, FitsRun, IsSome}
use Rattle.express_syntax.specs.Texts.{token, LocatedToken, Shows}
use Rattle.express_syntax.specs.steps.Predict.{RunEnd, in_rule, in_lower, in_upper, in_parentheses, Symbol, Running, EndOfText, Next, next, opened, closed, next_outside, next_mark, next_running, same_bracket}
use Rattle.express_syntax.specs.Passages.{Stands, IsRun}
use Rattle.express_syntax.specs.steps.Steps.{table, Passes, StopsIn}
use Rattle.express_token_runs.specs.steps.OpenRuns.{bracket_of, stacked, brackets_of, may_of, end_of, level, IsOpenRun, going_on, Agrees, IsBegun, IsPushed, Gathered, begin_of}
use Rattle.express_syntax.specs.Runs.{has_some}
use Rattle.express_syntax.proofs.Taking.{passes_as, passes_join, passes_taken, passes_first, stops_behind, stops_behind_taken}
use Rattle.express_token_runs.proofs.OpenRunLemmas.{Grown, grown, level_is}
use Rattle.express_syntax.proofs.StandLemmas.{stands_own, shown_text, stands_more, fits_is_run}

pub stacked_push : (xs : List code.Bracket) (x : code.Bracket) (inner : List Bracket)
    → stacked (xs ++ x ∷ []) inner ≡ bracket_of x ∷ stacked xs inner
stacked_push [] x inner = refl
stacked_push (y ∷ ys) x inner = stacked_push ys x (bracket_of y ∷ inner)

pub stacked_length : (xs : List code.Bracket) (inner : List Bracket) → length (stacked xs inner) ≡ length xs + length
    inner
stacked_length [] inner = omega arith
stacked_length (y ∷ ys) inner = omega (arith, stacked_length ys (bracket_of y ∷ inner))

pub brackets_length : (xs : List code.Bracket) → length (brackets_of xs) ≡ length xs
brackets_length xs = omega (arith, stacked_length xs [])

-- an answer that is a fault
pub agrees_fault : (t : Next) (part : RunEnd) (n : ℕ) (inner : List Bracket) (place : ℕ) (kind : FaultKind)
    (e : SyntaxFault) → e ≡ faults.Fault kind place → t ≡ Err kind → Agrees t part n inner place (Err e)
agrees_fault t part n inner place kind e h g = let P : SyntaxFault → Type 0 = λ f. Agrees t part n inner place (Err f)
    in subst P (sym h) (g, refl)

pub opened_deep : (part : RunEnd) (n : ℕ) (xs : List code.Bracket) (b : Bracket) → depth_limit ≤ n + length xs
    → opened depth_limit part n (brackets_of xs) b ≡ Err fault_kinds.TooDeep
opened_deep part n xs b h =
    let l = brackets_length xs in
    let e : nat_lt (n + length (brackets_of xs)) depth_limit ≡ false = grind (arith, nat_tests) in
    rw e refl

-- the run goes on with these open
abbrev going : RunEnd → ℕ → List Bracket → Next
going part n inner = Ok (Running part n inner true ∷ [])

pub opened_next : (part : RunEnd) (n : ℕ) (xs ys : List code.Bracket) (x : code.Bracket) → n + length xs < depth_limit
    → ys ≡ xs ++ x ∷ [] → opened depth_limit part n (brackets_of xs) (bracket_of x) ≡ Ok
    (Running part n (brackets_of ys) true ∷ [])
opened_next part n xs ys x h e =
    let l = brackets_length xs in
    let lt : nat_lt (n + length (brackets_of xs)) depth_limit ≡ true = grind (arith, nat_tests) in
    let same : bracket_of x ∷ brackets_of xs ≡ brackets_of ys = sym (ap brackets_of e ∙ stacked_push xs x []) in
    rw lt (ap (going part n) same)

pub closed_none : (part : RunEnd) (n : ℕ) (xs ys : List code.Bracket) (some : Bool) (b : Bracket) (m : Mark) (place : ℕ)
    (r : Result Bool SyntaxFault) → length xs ≡ 0 → length ys ≡ 0
    → Agrees (next_outside part n some true m) part n [] place r → Agrees (closed part n (brackets_of xs) some b m) part
    n (brackets_of ys) place r
closed_none part n [] [] some b m place r e f h = h
closed_none part n [] (y ∷ ys) some b m place r e f h = absurd (omega (arith, f))
closed_none part n (x ∷ xs) ys some b m place r e f h = absurd (omega (arith, e))

closed_is : (part : RunEnd) (n : ℕ) (xs ys : List code.Bracket) (x : code.Bracket) (some : Bool) (b : Bracket)
    (m : Mark) → xs ≡ ys ++ x ∷ [] → closed part n (brackets_of xs) some b m ≡ closed part n
    (bracket_of x ∷ brackets_of ys) some b m
closed_is part n xs ys x some b m e = ap (λ l. closed part n l some b m) (ap brackets_of e ∙ stacked_push ys x [])

pub closed_same : (part : RunEnd) (n : ℕ) (xs ys : List code.Bracket) (x : code.Bracket) (some : Bool) (b : Bracket)
    (m : Mark) → xs ≡ ys ++ x ∷ [] → same_bracket b (bracket_of x) ≡ true
    → closed part n (brackets_of xs) some b m ≡ Ok (Running part n (brackets_of ys) true ∷ [])
closed_same part n xs ys x some b m e s = closed_is part n xs ys x some b m e ∙ rw s refl

pub closed_other : (part : RunEnd) (n : ℕ) (xs ys : List code.Bracket) (x : code.Bracket) (some : Bool) (b : Bracket)
    (m : Mark) → xs ≡ ys ++ x ∷ [] → same_bracket b (bracket_of x) ≡ false
    → closed part n (brackets_of xs) some b m ≡ Err fault_kinds.Expected
closed_other part n xs ys x some b m e s = closed_is part n xs ys x some b m e ∙ rw s refl

pub beside_none : (part : RunEnd) (n : ℕ) (xs : List code.Bracket) (some : Bool) (m : Mark) (place : ℕ)
    (r : Result Bool SyntaxFault) → length xs ≡ 0
    → Agrees (next_outside part n some false m) part n [] place r → Agrees (next_mark part n (brackets_of xs) some m)
    part n (brackets_of xs) place r
beside_none part n [] some m place r e h = h
beside_none part n (x ∷ xs) some m place r e h = absurd (omega (arith, e))

beside_open : (part : RunEnd) (n : ℕ) (inner : List Bracket) (some : Bool) (m : Mark) → (length inner ≡ 0 → ⊥)
    → next_mark part n inner some m ≡ Ok (Running part n inner true ∷ [])
beside_open part n [] some m h = absurd (h refl)
beside_open part n (c ∷ inner) some m h = refl

pub beside_some : (part : RunEnd) (n : ℕ) (xs : List code.Bracket) (some : Bool) (m : Mark) → (length xs ≡ 0 → ⊥)
    → next_mark part n (brackets_of xs) some m ≡ Ok (Running part n (brackets_of xs) true ∷ [])
beside_some part n xs some m h = beside_open part n (brackets_of xs) some m (λ e. h (sym (brackets_length xs) ∙ e))

-- one word in the place of another that is the same
pub agrees_word : (part : RunEnd) (n : ℕ) (xs ys : List Bracket) (some : Bool) (v w : Word) (place : ℕ)
    (r : Result Bool SyntaxFault) → v ≡ w
    → Agrees (next_running depth_limit part n xs some (token w)) part n ys place r
    → Agrees (next_running depth_limit part n xs some (token v)) part n ys place r
agrees_word part n xs ys some v w place r e h = let P : Word → Type 0 =
    λ u. Agrees (next_running depth_limit part n xs some (token u)) part n ys place r in subst P (sym e) h

pub step_beside : (part : RunEnd) (n : ℕ) (xs : List Bracket) (some : Bool) (m : Mark) → (m ≡ marks.Open → ⊥)
    → (m ≡ marks.Close → ⊥) → (m ≡ marks.OpenBracket → ⊥) → (m ≡ marks.CloseBracket → ⊥) → (m ≡ marks.OpenBrace → ⊥)
    → (m ≡ marks.CloseBrace → ⊥)
    → next_running depth_limit part n xs some (token (mark m)) ≡ next_mark part n xs some m
step_beside part n xs some marks.Open a b c d e f = absurd (a refl)
step_beside part n xs some marks.Close a b c d e f = absurd (b refl)
step_beside part n xs some marks.OpenBracket a b c d e f = absurd (c refl)
step_beside part n xs some marks.CloseBracket a b c d e f = absurd (d refl)
step_beside part n xs some marks.OpenBrace a b c d e f = absurd (e refl)
step_beside part n xs some marks.CloseBrace a b c d e f = absurd (f refl)
step_beside part n xs some _ a b c d e f = refl

pub few_open : (part : RunEnd) (n : ℕ) (inner : List Bracket) (u : List Word) → IsOpenRun part n inner u
    → length inner ≤ 64
few_open part n [] u h = omega arith
few_open part n (b ∷ inner) u h = let l = level_is n inner in let lt : level n inner < 64 = h.3 in omega (arith, l, lt)

may_name : (part : RunEnd) (x : List ℕ) → may_of part (name x) ≡ true
may_name in_rule x = refl
may_name in_lower x = refl
may_name in_upper x = refl
may_name in_parentheses x = refl

-- a name begins a run
pub begun_named : (part : RunEnd) (n : ℕ) (b : Buffer) (x : List ℕ) (s : LocatedToken) (old here : Reading)
    → words_of b.lexemes.items ≡ name x ∷ [] → b.open.items ≡ [] → b.from ≡ s.place → b.to ≡ here.place
    → Shows old s here → s.lookahead ≡ token (name x)
    → IsBegun part n b here
begun_named part n b x s old here e f p q h is =
    let P : List code.Bracket → Type 0 = λ l. IsOpenRun part n (brackets_of l) (words_of b.lexemes.items) in
    let Q : ℕ → Type 0 = λ a. Stands here.text a (words_of b.lexemes.items) b.to in
    let R : List Word → Type 0 = λ l. Stands here.text s.place l b.to in
    let O : ℕ → Type 0 = λ a. Stands here.text s.place (name x ∷ []) a in
    record {
      run = subst P (sym f) (word (name x) ended, (refl, may_name part x, tt), e);
      stand = inr (q, subst Q (sym p) (subst R (sym e) (subst O (sym q) (stands_own old here s (name x) h is))));
    }

-- what is to come of a run behind the tokens of a buffer
abbrev pub running : RunEnd → ℕ → Buffer → Symbol
running part n b = Running part n (brackets_of b.open.items) (has_some (words_of b.lexemes.items))

-- the table's answer to a token behind those of a buffer
abbrev pub answer : RunEnd → ℕ → Buffer → LocatedToken → Next
answer part n b s = next_running depth_limit part n (brackets_of b.open.items) (has_some (words_of b.lexemes.items))
    s.lookahead

answer_is : (part : RunEnd) (n : ℕ) (b : Buffer) (s : LocatedToken) (w : Word) (t : Next) → s.lookahead ≡ token w
    → answer part n b s ≡ t → next depth_limit (running part n b) (token w) ≡ t
answer_is part n b s w t is a = ap (next depth_limit (running part n b)) (sym is) ∙ a

done_stand : (ws : List Word) (from to : ℕ) (last here : Reading) (s : LocatedToken) (w : Word) → Shows last s here
    → s.lookahead ≡ token w → has_some ws ≡ true → (ws ≡ []) ⊎ ((to ≡ last.place) × Stands last.text from ws to)
    → Stands here.text from ws to
done_stand ws from to last here s w h is some (inl none) = absurd (false≢true (sym (ap has_some none) ∙ some))
done_stand ws from to last here s w h is some (inr st) = let P : List ℕ → Type 0 = λ x. Stands x from ws to in
    subst P (sym (shown_text last here s w h is)) st.1

-- a buffer and the token behind it that is taken: what they lead to, the buffer and the token at first lead to
pub record SoFar (part : RunEnd) (n : ℕ) (before : Buffer) (first : LocatedToken) (old : Reading) (b : Buffer)
    (s : LocatedToken) (here : Reading) : Type 0 where
  pub last : Reading
  pub begun : IsBegun part n b last
  pub shown : Shows last s here
  pub further : List Word
  pub words : words_of b.lexemes.items ≡ words_of before.lexemes.items ++ further
  pub begins : begin_of b s.place ≡ begin_of before first.place
  pub passes : (zs : List Symbol) (ws : List Word) (new : Reading) → Passes (running part n b ∷ []) zs (s ∷ []) ws here
      new → Passes (running part n before ∷ []) zs (first ∷ []) (further ++ ws) old new
  pub stops : (e : SyntaxFault) → StopsIn e (running part n b ∷ []) (s ∷ []) here
      → StopsIn e (running part n before ∷ []) (first ∷ []) old

pub so_start : (part : RunEnd) (n : ℕ) (b : Buffer) (s : LocatedToken) (here last : Reading) → IsBegun part n b last
    → Shows last s here → SoFar part n b s here b s here
so_start part n b s here last h g = record {
  last = last;
  begun = h;
  shown = g;
  further = [];
  words = sym (append-nil (words_of b.lexemes.items));
  begins = refl;
  passes = λ zs ws new p. p;
  stops = λ e p. p;
}

stops_agreed : (e : SyntaxFault) (part : RunEnd) (n : ℕ) (b : Buffer) (left : List Bracket) (s : LocatedToken)
    (here : Reading) → Agrees (answer part n b s) part n left s.place (Err e) → StopsIn e (running part n b ∷ [])
    (s ∷ []) here
stops_agreed faults.Memory part n b left s here a = tt
stops_agreed (faults.Fault k p) part n b left s here a =
    let P : ℕ → Type 0 = λ q. StopsIn (faults.Fault k q) (running part n b ∷ []) (s ∷ []) here in
    subst P (sym a.1) (turning.stops_taken table Shows k (running part n b) s here a.0)

-- the token can't stand there
pub so_err_step : (e : SyntaxFault) (part : RunEnd) (n : ℕ) (before : Buffer) (first : LocatedToken) (old : Reading)
    (b : Buffer) (left : List Bracket) (s : LocatedToken) (here : Reading) (some : Bool) → SoFar part n before first old
    b s here
    → some ≡ has_some (words_of b.lexemes.items) → Agrees (next_running depth_limit part n (brackets_of b.open.items)
    some s.lookahead) part n left s.place (Err e) → StopsIn e (running part n before ∷ []) (first ∷ []) old
so_err_step e part n before first old b left s here some so same a =
    let P : Bool → Type 0 = λ x. Agrees (next_running depth_limit part n (brackets_of b.open.items) x s.lookahead) part
    n left s.place (Err e) in
    so.stops e (stops_agreed e part n b left s here (subst P same a))

-- no token stands behind it
pub so_err_take : (e : SyntaxFault) (part : RunEnd) (n : ℕ) (before : Buffer) (first : LocatedToken) (old : Reading)
    (b : Buffer) (left : List Bracket) (w : Word) (s : LocatedToken) (here : Reading) → SoFar part n before first old b
    s here
    → s.lookahead ≡ token w → answer part n b s ≡ Ok (Running part n left true ∷ [])
    → ((y : Symbol) → (y ≡ EndOfText → ⊥) → StopsIn e (y ∷ []) [] here) → StopsIn e (running part n before ∷ [])
    (first ∷ []) old
so_err_take e part n before first old b left w s here so is a g =
    let y : Symbol = Running part n left true in
    so.stops e (stops_behind e (y ∷ []) [] (passes_taken (running part n b) (y ∷ []) w s here is
    (answer_is part n b s w (Ok (y ∷ [])) is a)) (g y (λ (q : y ≡ EndOfText). cc)))

has_some_push : (ws : List Word) (w : Word) → has_some (ws ++ w ∷ []) ≡ true
has_some_push [] w = refl
has_some_push (v ∷ ws) w = refl

-- the token is one more of the run, and another is taken
pub so_next : (part : RunEnd) (n : ℕ) (before : Buffer) (first : LocatedToken) (old : Reading) (b opened : Buffer)
    (i : Item) (here : Reading) (after : Buffer) (u : LocatedToken) (new : Reading) → SoFar part n before first old b
    (located_of i) here
    → words_of opened.lexemes.items ≡ words_of b.lexemes.items → opened.from ≡ b.from
    → answer part n b (located_of i) ≡ Ok (Running part n (brackets_of opened.open.items) true ∷ [])
    → IsPushed opened i here.place after → Shows here u new
    → SoFar part n before first old after u new
so_next part n before first old b opened i here after u new so same from a pushed h =
    let w = word_of i.lexeme in
    let ws = words_of b.lexemes.items in
    let y : Symbol = Running part n (brackets_of opened.open.items) true in
    let words : words_of after.lexemes.items ≡ ws ++ w ∷ [] = pushed.words ∙ ap (λ l. l ++ w ∷ []) same in
    let some : has_some (words_of after.lexemes.items) ≡ true = ap has_some words ∙ has_some_push ws w in
    let is_y : running part n after ≡ y = ap₂ (λ l t. Running part n (brackets_of l) t) pushed.brackets some in
    let t : Passes (running part n b ∷ []) (y ∷ []) (located_of i ∷ []) (w ∷ []) here here =
    passes_taken (running part n b) (y ∷ []) w (located_of i) here refl a in
    let P : Symbol → Type 0 = λ x. Passes (running part n b ∷ []) (x ∷ []) (located_of i ∷ []) (w ∷ []) here here in
    let taken : Passes (running part n b ∷ []) (running part n after ∷ []) (located_of i ∷ []) (w ∷ []) here here =
    subst P (sym is_y) t in
    let G : Next → Type 0 = Grown part n (brackets_of b.open.items) (has_some ws) ws w in
    let open_run : IsOpenRun part n (brackets_of opened.open.items) (ws ++ w ∷ []) =
    subst G a (grown part n (brackets_of b.open.items) (has_some ws) ws w so.begun.run) in
    let Q : List code.Bracket → Type 0 = λ l. IsOpenRun part n (brackets_of l) (ws ++ w ∷ []) in
    let R : List Word → Type 0 = λ l. IsOpenRun part n (brackets_of after.open.items) l in
    let begins : after.from ≡ (if has_some ws then b.from else i.place) = pushed.from
    ∙ ap₂ (λ l f. if has_some l then f else i.place) same from in
    let O : ℕ → Type 0 = λ p. Stands here.text after.from (words_of after.lexemes.items) p in
    record {
      last = here;
      begun = record {
        run = subst R (sym words) (subst Q (sym pushed.brackets) open_run);
        stand = inr (
          pushed.to,
          subst O (sym pushed.to) (stands_more ws (words_of after.lexemes.items) w b.from b.to
              after.from so.last here (located_of i) so.begun.stand so.shown refl words begins),
        );
      };
      shown = h;
      further = so.further ++ w ∷ [];
      words = words ∙ ap (λ l. l ++ w ∷ []) so.words ∙ append_assoc (words_of before.lexemes.items) so.further (w ∷ []);
      begins = ap (λ t. if t then after.from else u.place) some ∙ begins ∙ so.begins;
      passes = λ zs vs end p. passes_as ((so.further ++ w ∷ []) ++ vs) (sym (append_assoc so.further (w ∷ []) vs))
          (so.passes zs (w ∷ vs) end (passes_join taken (passes_first u here h p)));
      stops = λ e p. so.stops e (stops_behind_taken e (running part n after ∷ []) [] u taken h p);
    }

filled : (r : Run) → has_some (words_of_run r) ≡ true → IsSome r
filled ended h = absurd (false≢true h)
filled (word w r) h = tt
filled (bracketed b i r) h = tt

-- the token is what ends the run, which the buffer has
pub record IsDone (part : RunEnd) (n : ℕ) (b : Buffer) (s : LocatedToken) (here : Reading) : Type 0 where
  pub run : Run
  pub fits : FitsRun depth_limit (may_of part) n run
  pub some : IsSome run
  pub words : words_of_run run ≡ words_of b.lexemes.items
  pub stand : Stands here.text b.from (words_of_run run) b.to
  pub ending : s.lookahead ≡ token (mark (end_of part))

pub so_done : (part : RunEnd) (n : ℕ) (before : Buffer) (first : LocatedToken) (old : Reading) (b : Buffer) (i : Item)
    (here : Reading) → SoFar part n before first old b (located_of i) here → answer part n b (located_of i) ≡ Ok []
    → IsDone part n b (located_of i) here
so_done part n before first old b i here so a =
    let w = word_of i.lexeme in
    let ws = words_of b.lexemes.items in
    let P : Next → Type 0 = Grown part n (brackets_of b.open.items) (has_some ws) ws w in
    let g : (brackets_of b.open.items ≡ []) × (w ≡ mark (end_of part)) × (has_some ws ≡ true) =
    subst P a (grown part n (brackets_of b.open.items) (has_some ws) ws w so.begun.run) in
    let Q : List Bracket → Type 0 = λ l. IsOpenRun part n l ws in
    let r : IsOpenRun part n [] ws = subst Q g.0 so.begun.run in
    let R : List Word → Type 0 = λ l. Stands here.text b.from l b.to in
    record {
      run = r.0;
      fits = r.1;
      some = filled r.0 (sym (ap has_some r.2) ∙ g.2);
      words = sym r.2;
      stand = subst R r.2 (done_stand ws b.from b.to so.last here (located_of i) w so.shown refl g.2 so.begun.stand);
      ending = ap token g.1;
    }

-- it begins where its first token was taken
pub so_begins : (part : RunEnd) (n : ℕ) (before : Buffer) (first : LocatedToken) (old : Reading) (b : Buffer) (i : Item)
    (here : Reading) → SoFar part n before first old b (located_of i) here → answer part n b (located_of i) ≡ Ok []
    → b.from ≡ begin_of before first.place
so_begins part n before first old b i here so a =
    let ws = words_of b.lexemes.items in
    let P : Next → Type 0 = Grown part n (brackets_of b.open.items) (has_some ws) ws (word_of i.lexeme) in
    let g : (brackets_of b.open.items ≡ []) × (word_of i.lexeme ≡ mark (end_of part)) × (has_some ws ≡ true) =
    subst P a (grown part n (brackets_of b.open.items) (has_some ws) ws (word_of i.lexeme) so.begun.run) in
    sym (ap (λ t. if t then b.from else i.place) g.2) ∙ so.begins

-- the run stands in the text
pub so_stands : (part : RunEnd) (n : ℕ) (before : Buffer) (first : LocatedToken) (old : Reading) (b : Buffer) (i : Item)
    (here : Reading) → SoFar part n before first old b (located_of i) here → answer part n b (located_of i) ≡ Ok []
    → (text : List ℕ) → text ≡ here.text
    → (r : Run) × IsRun r × Stands text b.from (words_of_run r) b.to
so_stands part n before first old b i here so a text e =
    let d = so_done part n before first old b i here so a in
    let P : List ℕ → Type 0 = λ x. Stands x b.from (words_of_run d.run) b.to in
    (d.run, fits_is_run depth_limit (may_of part) n d.run d.fits, subst P (sym e) d.stand)

-- the run is what stands there, and it is read
pub so_gathered : (part : RunEnd) (n : ℕ) (before : Buffer) (first : LocatedToken) (old : Reading) (b : Buffer)
    (i : Item) (here : Reading) (after : Buffer) (r : Run) (text : List ℕ) → SoFar part n before first old b
    (located_of i) here → answer part n b (located_of i) ≡ Ok []
    → words_of after.lexemes.items ≡ words_of b.lexemes.items → text ≡ here.text
    → ((q : Run) → IsRun q → Stands text b.from (words_of_run q) b.to → r ≡ q) → Gathered part n before after first
    r old here
so_gathered part n before first old b i here after r text so a same e only =
    let d = so_done part n before first old b i here so a in
    let P : Run → Type 0 = λ x. Gathered part n before after first x old here in
    let Q : List ℕ → Type 0 = λ x. Stands x b.from (words_of_run d.run) b.to in
    let is : r ≡ d.run = only d.run (fits_is_run depth_limit (may_of part) n d.run d.fits) (subst Q (sym e) d.stand) in
    subst P (sym is) record {
      further = so.further;
      words = same ∙ so.words;
      run = d.words ∙ sym same;
      fits = d.fits;
      some = d.some;
      passes = so.passes [] (mark (end_of part) ∷ []) here (passes_taken (running part n b) [] (mark (end_of part))
          (located_of i) here d.ending (answer_is part n b (located_of i) (mark (end_of part)) (Ok []) d.ending a));
    }

none_is : (n : ℕ) → n ≡ 0 → (n == 0) ≡ true
none_is n h = grind (arith, nat_tests)

more_is : (n : ℕ) → 0 < n → (n == 0) ≡ false
more_is n h = grind (arith, nat_tests)

-- whether a buffer has tokens
pub some_is : (ls : List Lexeme) (n : ℕ) (b : Bool) → b ≡ (n == 0) → length ls ≡ n → not b ≡ has_some (words_of ls)
some_is [] n b e l = ap not (e ∙ none_is n (sym l))
some_is (x ∷ xs) n b e l = ap not (e ∙ more_is n (omega (arith, l)))

-- an answer to the token behind those of the buffer: that the run is ended, or that it goes on
pub agreed_ended : (part : RunEnd) (n : ℕ) (b : Buffer) (left : List Bracket) (s : LocatedToken) (some f : Bool)
    → some ≡ has_some (words_of b.lexemes.items) → next_running depth_limit part n (brackets_of b.open.items) some
    s.lookahead ≡ Ok (going_on part n left f) → f ≡ true
    → answer part n b s ≡ Ok []
agreed_ended part n b left s some f same h e =
    let G : Bool → Next = λ x. Ok (going_on part n left x) in
    ap (λ x. next_running depth_limit part n (brackets_of b.open.items) x s.lookahead) (sym same) ∙ h ∙ ap G e

pub agreed_further : (part : RunEnd) (n : ℕ) (b : Buffer) (left : List Bracket) (s : LocatedToken) (some f : Bool)
    → some ≡ has_some (words_of b.lexemes.items) → next_running depth_limit part n (brackets_of b.open.items) some
    s.lookahead ≡ Ok (going_on part n left f) → f ≡ false
    → answer part n b s ≡ Ok (Running part n left true ∷ [])
agreed_further part n b left s some f same h e =
    let G : Bool → Next = λ x. Ok (going_on part n left x) in
    ap (λ x. next_running depth_limit part n (brackets_of b.open.items) x s.lookahead) (sym same) ∙ h ∙ ap G e
