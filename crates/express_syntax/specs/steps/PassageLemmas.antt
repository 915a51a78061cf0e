-- Lemmas for the ghost fields of passages: the words of a passage, and its run or routine, are
-- determined. No promise stands here.
use Rattle.std.specs.Prelude.{◌≡◌, ℕ, ◌≤◌, ◌<◌, true, false, List, [], ◌∷◌, ◌++◌, length, codes, Ok, Some, refl}
use Rattle.std.proofs.Common.{sym, ap, ◌∙◌, subst, arith, inl, inr}
use Rattle.std.proofs.Math.Logic.{∥∥₁_elim}
use mathlib.Core.HLevel.{Σ_prop_path}
use Rattle.express_lexer.specs.declared.token.Sort.{Sort}
use Rattle.express_lexer.specs.declared.token.Sort.TheVariants as sorts
use Rattle.express_lexer.specs.Reading.{Reading, SameSort}
use Rattle.express_lexer.proofs.Determined.{determined, places_rise}
use Rattle.step_literals.specs.Words.{upper}
use Rattle.express_syntax.specs.Keywords.{keyword_at}
use Rattle.express_syntax.specs.Words.{Word, keyword_or_name, integer, real, string, encoded, binary, mark, name, word_of_sort}
use Rattle.express_syntax.specs.Runs.{Bracket, parenthesis, square, brace, opening, closing, Run, ended, word, bracketed, words_of_run, inside, BeginsRoutine, EndsRoutine, Routine, ending, further, nested, words_of_routine, FitsRoutine}
use Rattle.express_syntax.specs.Passages.{at_place, StandsBehind, Stands, IsRun}
use Rattle.express_syntax.specs.steps.Sets.{Words-set, Run-set, Routine-set}

behind_within : (text : List ℕ) (from : ℕ) (ws : List Word) (to : ℕ) → StandsBehind text from ws to → (from ≤ to)
    × (to ≤ length text)
behind_within text from [] to h = (omega (arith, h.0), h.1)
behind_within text from (w ∷ ws) to h =
    let more = behind_within text h.2 ws to h.5 in
    let rise = places_rise (at_place text from) (at_place text h.2) h.1 h.0 h.3 in
    (omega (arith, rise.0, rise.1, more.0), more.1)

-- words that begin at a byte offset also follow it
pub stands_behind : (text : List ℕ) (from : ℕ) (ws : List Word) (to : ℕ) → Stands text from ws to
    → StandsBehind text from ws to
stands_behind text from [] to h = h
stands_behind text from (w ∷ ws) to h = h.0

pub stands_within : (text : List ℕ) (from : ℕ) (ws : List Word) (to : ℕ) → Stands text from ws to → (from ≤ to)
    × (to ≤ length text)
stands_within text from ws to h = behind_within text from ws to (stands_behind text from ws to h)

behind_some : (text : List ℕ) (from : ℕ) (w : Word) (ws : List Word) (to : ℕ) → StandsBehind text from (w ∷ ws) to
    → from < to
behind_some text from w ws to h =
    let more = behind_within text h.2 ws to h.5 in
    let rise = places_rise (at_place text from) (at_place text h.2) h.1 h.0 h.3 in
    omega (arith, rise.0, rise.1, more.0)

-- at least one word ends after the offset where the words begin
pub stands_some : (text : List ℕ) (from : ℕ) (w : Word) (ws : List Word) (to : ℕ) → Stands text from (w ∷ ws) to
    → from < to
stands_some text from w ws to h = behind_some text from w ws to h.0

same_word : (s u : Sort) → SameSort s u → word_of_sort s ≡ word_of_sort u
same_word (sorts.Word v) (sorts.Word w) h = ap (λ t. keyword_or_name (upper t) (keyword_at (upper t))) h
same_word (sorts.Integer a) (sorts.Integer b) h = ap integer h
same_word (sorts.Real a) (sorts.Real b) h = ap real h
same_word (sorts.String a) (sorts.String b) h = ap string h
same_word (sorts.Encoded a) (sorts.Encoded b) h = ap encoded h
same_word (sorts.Binary a) (sorts.Binary b) h = ap binary h
same_word (sorts.Mark m) (sorts.Mark n) h = ap mark h
same_word _ _ h = absurd h

behind_once : (text : List ℕ) (from : ℕ) (u v : List Word) (to : ℕ) → StandsBehind text from u to
    → StandsBehind text from v to → u ≡ v
behind_once text from [] [] to h g = refl
behind_once text from [] (w ∷ ws) to h g = let l = behind_some text from w ws to g in absurd (omega (arith, l, h.0))
behind_once text from (w ∷ ws) [] to h g = let l = behind_some text from w ws to h in absurd (omega (arith, l, g.0))
behind_once text from (w ∷ ws) (v ∷ vs) to h g =
    let d = determined (at_place text from) (at_place text h.2) (at_place text g.2) (Ok (Some h.1)) (Ok (Some g.1)) h.3
    g.3 in
    let e : w ≡ v = sym h.4 ∙ same_word h.1.sort g.1.sort d.0.2 ∙ g.4 in
    let n : h.2 ≡ g.2 = ap (λ (r : Reading). r.place) d.1 in
    let P : ℕ → Type 0 = λ p. StandsBehind text p ws to in
    let f = behind_once text g.2 ws vs to (subst P n h.5) g.5 in
    λ i. e i ∷ f i

pub stands_once : (text : List ℕ) (from : ℕ) (u v : List Word) (to : ℕ) → Stands text from u to → Stands text from v to
    → u ≡ v
stands_once text from u v to h g = behind_once text from u v to (stands_behind text from u to h)
    (stands_behind text from v to g)

-- the words of a passage are determined
pub words_prop : (text : List ℕ) (from to : ℕ) → IsProp ((ws : List Word) × ∥ Stands text from ws to ∥₁)
words_prop text from to x y =
    Σ_prop_path (λ ws. squash₁) (∥∥₁_elim x.1 (Words-set x.0 y.0)
    (λ h. ∥∥₁_elim y.1 (Words-set x.0 y.0) (λ g. stands_once text from x.0 y.0 to h g)))

head_is : {v w : Word} {vs ws : List Word} → v ∷ vs ≡ w ∷ ws → v ≡ w
head_is e = cc

tail_is : {v w : Word} {vs ws : List Word} → v ∷ vs ≡ w ∷ ws → vs ≡ ws
tail_is e = cc

-- a bracket closes, or nothing follows
abbrev Closes : List Word → Type 0
Closes [] = Unit {0}
Closes (w ∷ ws) = (b : Bracket) × (w ≡ closing b)

inside_not_opening : (w : Word) (b : Bracket) → inside w ≡ true → w ≡ opening b → ⊥
inside_not_opening w parenthesis h e = let d : false ≡ true = sym (ap inside e) ∙ h in cc
inside_not_opening w square h e = let d : false ≡ true = sym (ap inside e) ∙ h in cc
inside_not_opening w brace h e = let d : false ≡ true = sym (ap inside e) ∙ h in cc

inside_not_closing : (w : Word) (b : Bracket) → inside w ≡ true → w ≡ closing b → ⊥
inside_not_closing w parenthesis h e = let d : false ≡ true = sym (ap inside e) ∙ h in cc
inside_not_closing w square h e = let d : false ≡ true = sym (ap inside e) ∙ h in cc
inside_not_closing w brace h e = let d : false ≡ true = sym (ap inside e) ∙ h in cc

opening_not_closing : (b c : Bracket) → opening b ≡ closing c → ⊥
opening_not_closing parenthesis parenthesis e = cc
opening_not_closing parenthesis square e = cc
opening_not_closing parenthesis brace e = cc
opening_not_closing square parenthesis e = cc
opening_not_closing square square e = cc
opening_not_closing square brace e = cc
opening_not_closing brace parenthesis e = cc
opening_not_closing brace square e = cc
opening_not_closing brace brace e = cc

same_opening : (b c : Bracket) → opening b ≡ opening c → b ≡ c
same_opening parenthesis parenthesis e = refl
same_opening parenthesis square e = absurd (cc)
same_opening parenthesis brace e = absurd (cc)
same_opening square parenthesis e = absurd (cc)
same_opening square square e = refl
same_opening square brace e = absurd (cc)
same_opening brace parenthesis e = absurd (cc)
same_opening brace square e = absurd (cc)
same_opening brace brace e = refl

word_closes_not : (w : Word) (ws x : List Word) → inside w ≡ true → Closes x → x ≡ w ∷ ws → ⊥
word_closes_not w ws [] h c e = cc
word_closes_not w ws (v ∷ vs) h c e = inside_not_closing w c.0 h (sym (head_is e) ∙ c.1)

opening_closes_not : (b : Bracket) (ws x : List Word) → Closes x → x ≡ opening b ∷ ws → ⊥
opening_closes_not b ws [] c e = cc
opening_closes_not b ws (v ∷ vs) c e = opening_not_closing b c.0 (sym (head_is e) ∙ c.1)

-- the words in a bracket, those after it, and more
spread : (b : Bracket) (u v x : List Word) → (u ++ closing b ∷ v) ++ x ≡ u ++ closing b ∷ (v ++ x)
spread b [] v x = refl
spread b (w ∷ u) v x = ap (λ l. w ∷ l) (spread b u v x)

-- a list of words is that of at most one run
pub run_once : (r s : Run) (x y : List Word) → IsRun r → IsRun s → Closes x → Closes y → words_of_run r
    ++ x ≡ words_of_run s ++ y → (r ≡ s) × (x ≡ y)
run_once ended ended x y f g c d e = (refl, e)
run_once ended (word w s) x y f g c d e = absurd (word_closes_not w (words_of_run s ++ y) x g.0 c e)
run_once ended (bracketed b i s) x y f g c d e =
    absurd (opening_closes_not b ((words_of_run i ++ closing b ∷ words_of_run s) ++ y) x c e)
run_once (word w r) ended x y f g c d e = absurd (word_closes_not w (words_of_run r ++ x) y f.0 d (sym e))
run_once (word w r) (word v s) x y f g c d e =
    let more = run_once r s x y f.1 g.1 c d (tail_is e) in
    let h : w ≡ v = head_is e in
    (λ i. word (h i) (more.0 i), more.1)
run_once (word w r) (bracketed b j s) x y f g c d e = absurd (inside_not_opening w b f.0 (head_is e))
run_once (bracketed b i r) ended x y f g c d e =
    absurd (opening_closes_not b ((words_of_run i ++ closing b ∷ words_of_run r) ++ x) y d (sym e))
run_once (bracketed b i r) (word v s) x y f g c d e = absurd (inside_not_opening v b g.0 (sym (head_is e)))
run_once (bracketed b i r) (bracketed k j s) x y f g c d e =
    let within = run_once i j (closing b ∷ (words_of_run r ++ x)) (closing k ∷ (words_of_run s ++ y)) f.0 g.0 (b, refl)
    (k, refl)
    (sym (spread b (words_of_run i) (words_of_run r) x) ∙ tail_is e ∙ spread k (words_of_run j) (words_of_run s) y) in
    let more = run_once r s x y f.1 g.1 c d (tail_is within.1) in
    let h : b ≡ k = same_opening b k (head_is e) in
    (λ n. bracketed (h n) (within.0 n) (more.0 n), more.1)

append_none : (u : List Word) → u ++ [] ≡ u
append_none [] = refl
append_none (w ∷ u) = ap (λ l. w ∷ l) (append_none u)

pub run_same : (ws : List Word) (r s : Run) → IsRun r → words_of_run r ≡ ws → IsRun s → words_of_run s ≡ ws → r ≡ s
run_same ws r s f h g k = (run_once r s [] [] f g tt tt (append_none (words_of_run r) ∙ h ∙ sym k
    ∙ sym (append_none (words_of_run s)))).0

-- the run of a list of words is determined
pub run_prop : (ws : List Word) → IsProp ((r : Run) × ∥ IsRun r × (words_of_run r ≡ ws) ∥₁)
run_prop ws x y =
    Σ_prop_path (λ r. squash₁) (∥∥₁_elim x.1 (Run-set x.0 y.0)
    (λ h. ∥∥₁_elim y.1 (Run-set x.0 y.0) (λ g. run_same ws x.0 y.0 h.0 h.1 g.0 g.1)))

begins_not_ends : (w : Word) → BeginsRoutine w → EndsRoutine w → ⊥
begins_not_ends w (inl h) (inl g) = let e : name (codes "FUNCTION") ≡ name (codes "END_FUNCTION") = sym h ∙ g in cc
begins_not_ends w (inl h) (inr g) = let e : name (codes "FUNCTION") ≡ name (codes "END_PROCEDURE") = sym h ∙ g in cc
begins_not_ends w (inr h) (inl g) = let e : name (codes "PROCEDURE") ≡ name (codes "END_FUNCTION") = sym h ∙ g in cc
begins_not_ends w (inr h) (inr g) = let e : name (codes "PROCEDURE") ≡ name (codes "END_PROCEDURE") = sym h ∙ g in cc

along : (P : Word → Type 0) {v w : Word} → v ≡ w → P v → P w
along P e h = subst P e h

joined_words : (u v x : List Word) → (u ++ v) ++ x ≡ u ++ (v ++ x)
joined_words [] v x = refl
joined_words (w ∷ u) v x = ap (λ l. w ∷ l) (joined_words u v x)

-- a list of words is that of at most one routine
pub routine_once : (r s : Routine) (x y : List Word) → FitsRoutine r → FitsRoutine s → words_of_routine r
    ++ x ≡ words_of_routine s ++ y → (r ≡ s) × (x ≡ y)
routine_once (ending w) (ending v) x y f g e = (ap ending (head_is e), tail_is e)
routine_once (ending w) (further v s) x y f g e = absurd (g.1 (along EndsRoutine (head_is e) f))
routine_once (ending w) (nested v j s) x y f g e = absurd (begins_not_ends v g.0 (along EndsRoutine (head_is e) f))
routine_once (further w r) (ending v) x y f g e = absurd (f.1 (along EndsRoutine (sym (head_is e)) g))
routine_once (further w r) (further v s) x y f g e =
    let more = routine_once r s x y f.2 g.2 (tail_is e) in
    let h : w ≡ v = head_is e in
    (λ i. further (h i) (more.0 i), more.1)
routine_once (further w r) (nested v j s) x y f g e = absurd (f.0 (along BeginsRoutine (sym (head_is e)) g.0))
routine_once (nested w i r) (ending v) x y f g e =
    absurd (begins_not_ends w f.0 (along EndsRoutine (sym (head_is e)) g))
routine_once (nested w i r) (further v s) x y f g e = absurd (g.0 (along BeginsRoutine (head_is e) f.0))
routine_once (nested w i r) (nested v j s) x y f g e =
    let within = routine_once i j (words_of_routine r ++ x) (words_of_routine s ++ y) f.1 g.1
    (sym (joined_words (words_of_routine i) (words_of_routine r) x) ∙ tail_is e ∙ joined_words (words_of_routine j)
    (words_of_routine s) y) in
    let more = routine_once r s x y f.2 g.2 within.1 in
    let h : w ≡ v = head_is e in
    (λ n. nested (h n) (within.0 n) (more.0 n), more.1)

pub routine_same : (ws : List Word) (r s : Routine) → FitsRoutine r → words_of_routine r ≡ ws → FitsRoutine s
    → words_of_routine s ≡ ws → r ≡ s
routine_same ws r s f h g k = (routine_once r s [] [] f g (append_none (words_of_routine r) ∙ h ∙ sym k
    ∙ sym (append_none (words_of_routine s)))).0

-- the routine of a list of words is determined
pub routine_prop : (ws : List Word) → IsProp ((r : Routine) × ∥ FitsRoutine r × (words_of_routine r ≡ ws) ∥₁)
routine_prop ws x y =
    Σ_prop_path (λ r. squash₁) (∥∥₁_elim x.1 (Routine-set x.0 y.0) (λ h. ∥∥₁_elim y.1 (Routine-set x.0 y.0)
    (λ g. routine_same ws x.0 y.0 h.0 h.1 g.0 g.1)))
