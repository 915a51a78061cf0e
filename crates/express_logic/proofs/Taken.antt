-- Texts, compared from the front on.
use Rattle.std.proofs.Common.{◌≡◌, ℕ, ◌+◌, ◌<◌, Bool, true, false, ◌&&◌, not, List, [], ◌∷◌, ◌++◌, length, get_or, take, drop, Option, Some, None, MatchOption, is_some, sym, ap, subst, ◌∙◌}
use Rattle.std.proofs.lemmas.List.{append_assoc, append-nil, map-append, map_more, take-append-drop}
use Rattle.std.specs.Char.{to_ascii_uppercase}
use Rattle.step_literals.specs.Words.{upper}
use Rattle.step_literals.specs.declared.literal.items.Item.{Item}
use Rattle.step_literals.specs.declared.literal.items.Item.TheVariants.{Code}
use Rattle.express_logic.specs.Comparison.{same_text}
use Rattle.express_logic.specs.steps.Taking.{of_codes, Takes}

parted : (cs ds : List ℕ) (rest : List Item) → of_codes (cs ++ ds) ++ rest ≡ of_codes cs ++ (of_codes ds ++ rest)
parted cs ds rest =
    ap (λ l. l ++ rest) (map-append (λ (c : ℕ). Code c) cs ds) ∙ append_assoc (of_codes cs) (of_codes ds) rest

-- more characters behind those that are there
then_takes : (old middle new : List Item) (answer : Bool) (cs ds : List ℕ) → Takes cs old middle true
    → Takes ds middle new answer → Takes (cs ++ ds) old new answer
then_takes old middle new answer cs ds t u rest =
    ap (same_text old) (parted cs ds rest) ∙ t (of_codes ds ++ rest) ∙ u rest

-- the whole text
takes_all : (old new : List Item) (answer : Bool) (cs : List ℕ) → Takes cs old new answer
    → (answer && same_text new []) ≡ same_text old (of_codes cs)
takes_all old new answer cs t = sym (t []) ∙ ap (same_text old) (append-nil (of_codes cs))

-- a text fails to begin with two parts if it fails to begin with the first
stops : (old middle new : List Item) (cs ds : List ℕ) → Takes cs old middle false → Takes (cs ++ ds) old new false
stops old middle new cs ds t rest = ap (same_text old) (parted cs ds rest) ∙ t (of_codes ds ++ rest)

raised_parts : (bytes : List ℕ) (n : ℕ) → upper (take n bytes) ++ upper (drop n bytes) ≡ upper bytes
raised_parts bytes n =
    sym (map-append to_ascii_uppercase (take n bytes) (drop n bytes)) ∙ ap upper (take-append-drop n bytes)

-- a letter of a name that isn't there
pub falls_short : (old middle new : List Item) (bytes name : List ℕ) (n code : ℕ) → n < length bytes
    → code ≡ to_ascii_uppercase (get_or bytes n 0) → bytes ≡ name → Takes (upper (take n bytes)) old middle true
    → (answer : Bool) → Takes (code ∷ []) middle new answer → answer ≡ false → Takes (upper name) old new false
falls_short old middle new bytes name n code within raised spelled before answer one h =
    subst (λ l. Takes l old new false) (raised_parts bytes (n + 1) ∙ ap upper spelled)
    (stops old new new (upper (take (n + 1) bytes)) (upper (drop (n + 1) bytes))
    (subst (λ l. Takes l old new false)
    (ap (λ c. upper (take n bytes) ++ c ∷ []) raised ∙ sym (map_more to_ascii_uppercase bytes n 0 within))
    (then_takes old middle new false (upper (take n bytes)) (code ∷ []) before
    (subst (λ a. Takes (code ∷ []) middle new a) h one))))

-- a text that ends behind what is taken
ends : (left behind : List Item) (next : Option Item) → MatchOption next ((left ≡ []) × (behind ≡ [])) (λ x. left ≡ x ∷ behind)
    → not (is_some next) ≡ same_text left []
ends left behind None h = ap (λ l. same_text l []) (sym h.0)
ends left behind (Some x) h = ap (λ l. same_text l []) (sym h)

pub is_whole : (text old new behind : List Item) (cs : List ℕ) (answer nothing : Bool) (next : Option Item) → old ≡ text
    → Takes cs old new answer → answer ≡ true
    → MatchOption next ((new ≡ []) × (behind ≡ [])) (λ x. new ≡ x ∷ behind) → is_some next ≡ not nothing
    → nothing ≡ same_text text (of_codes cs)
is_whole text old new behind cs answer nothing next from t h after e =
    by nothing (sym e) ∙ ends new behind next after
    ∙ takes_all old new true cs (subst (λ a. Takes cs old new a) h t) ∙ ap (λ l. same_text l (of_codes cs)) from
  where
    by : (n : Bool) → not n ≡ is_some next → n ≡ not (is_some next)
    by true q = ap not q
    by false q = ap not q

pub isnt_there : (text old new : List Item) (cs : List ℕ) (answer : Bool) → old ≡ text → Takes cs old new answer
    → answer ≡ false → false ≡ same_text text (of_codes cs)
isnt_there text old new cs answer from t h =
    takes_all old new false cs (subst (λ a. Takes cs old new a) h t) ∙ ap (λ l. same_text l (of_codes cs)) from
