-- Words that stand side by side are told apart in one way only.
use Rattle.std.proofs.Common.{◌≡◌, ℕ, ◌≤◌, Bool, true, false, List, [], ◌∷◌, ◌++◌, Option, None, Some, map, refl, sym, ap, ◌∙◌, subst, append_assoc, arith}
use Rattle.std.proofs.lemmas.List.{append_cancel_right}
use Rattle.parsing.proofs.Leading.{leads_once}
use Rattle.express_syntax.specs.declared.keyword.Keyword.{Keyword}
use Rattle.express_syntax.specs.Words.{Word, keyword, name, mark}
use Rattle.express_syntax.specs.Grammar.{depth_limit}
use Rattle.express_syntax.specs.Texts.{token}
use Rattle.express_syntax.specs.WrittenSchemas.{concatenated, said, words_of_clause}
use Rattle.express_syntax.specs.Profile.{Every, Maybe}
use Rattle.express_syntax.specs.steps.Predict.{Symbol, RunEnd, Running, next}
use Rattle.express_syntax.proofs.Passing.{Goal, Led, by_itself, leads_part}
use Rattle.express_syntax.proofs.PassingRuns.{end_of}

-- the first word
pub head_is : {v w : Word} {vs ws : List Word} → v ∷ vs ≡ w ∷ ws → v ≡ w
head_is e = cc

-- the words after the first
pub tail_is : {v w : Word} {vs ws : List Word} → v ∷ vs ≡ w ∷ ws → vs ≡ ws
tail_is e = cc

-- a name that is first
pub same_name : (n m : List ℕ) (u v : List Word) → name n ∷ u ≡ name m ∷ v → n ≡ m
same_name n m u v e = cc

-- two parts and what stands behind them, on both sides
pub regrouped : (u v a x y b : List Word) → (u ++ v) ++ a ≡ (x ++ y) ++ b → u ++ (v ++ a) ≡ x ++ (y ++ b)
regrouped u v a x y b e = sym (append_assoc u v a) ∙ e ∙ append_assoc x y b

-- tokens show which words they are
pub same_tokens : (u v : List Word) → map token u ≡ map token v → u ≡ v
same_tokens [] [] e = refl
same_tokens [] (w ∷ v) e = absurd cc
same_tokens (w ∷ u) [] e = absurd cc
same_tokens (w ∷ u) (x ∷ v) e =
    let first : w ≡ x = cc in
    let more = same_tokens u v cc in
    λ i. first i ∷ more i

map_append : (u v : List Word) → map token (u ++ v) ≡ map token u ++ map token v
map_append [] v = refl
map_append (w ∷ u) v = ap (λ l. token w ∷ l) (map_append u v)

-- as many brackets as may be open
pub within : depth_limit ≤ depth_limit
within = omega arith

-- words with nothing behind them
abbrev pub alone : Goal
alone = by_itself depth_limit within

-- words that pass the same symbols are told from what is behind them
pub apart : (ys : List Symbol) (u v a b : List Word) → Led alone ys u → Led alone ys v → u ++ a ≡ v ++ b → (u ≡ v)
    × (a ≡ b)
apart ys u v a b h g e =
    let r = leads_once (next depth_limit) ys (map token u) (map token v) (map token a) (map token b)
    (leads_part depth_limit within ys u h) (leads_part depth_limit within ys v g)
    (sym (map_append u a) ∙ ap (map token) e ∙ map_append v b) in
    (same_tokens u v r.0, same_tokens a b r.1)

-- the words of a run are told by the mark that ends them
pub run_apart : (part : RunEnd) (n : ℕ) (u v a b : List Word) → Led alone (Running part n [] false ∷ [])
    (u ++ mark (end_of part) ∷ []) → Led alone (Running part n [] false ∷ []) (v ++ mark (end_of part) ∷ [])
    → u ++ mark (end_of part) ∷ a ≡ v ++ mark (end_of part) ∷ b → (u ≡ v) × (a ≡ b)
run_apart part n u v a b h g e =
    let last = mark (end_of part) ∷ [] in
    let r = apart (Running part n [] false ∷ []) (u ++ last) (v ++ last) a b h g (append_assoc u last a ∙ e
    ∙ sym (append_assoc v last b)) in
    (append_cancel_right u v last r.0, r.1)

-- the words begin with this one
abbrev pub Headed : Keyword → List Word → Type 0
Headed k ws = (rest : List Word) × (ws ≡ keyword k ∷ rest)

-- a word that may be said
pub said_once : (k : Keyword) (o p : Bool) (a b : List Word) → (Headed k a → ⊥) → (Headed k b → ⊥) → said k o
    ++ a ≡ said k p ++ b → (o ≡ p) × (a ≡ b)
said_once k true true a b f g e = (refl, tail_is e)
said_once k true false a b f g e = absurd (g (a, sym e))
said_once k false true a b f g e = absurd (f (b, e))
said_once k false false a b f g e = (refl, e)

module _ {A : Type 0} (write : A → List Word) (Fit : A → Type 0) (Ends : List Word → Type 0)
    (one : (x y : A) (a b : List Word) → Fit x → Fit y → write x ++ a ≡ write y ++ b → (x ≡ y) × (a ≡ b))
    (none : (x : A) (a : List Word) → Fit x → Ends (write x ++ a) → ⊥) where
  -- each of a list, where its end is told from another
  pub each_once : (xs ys : List A) (a b : List Word) → Every Fit xs → Every Fit ys → Ends a → Ends b
      → concatenated (map write xs) ++ a ≡ concatenated (map write ys) ++ b → (xs ≡ ys) × (a ≡ b)
  each_once [] [] a b f g c d e = (refl, e)
  each_once [] (y ∷ ys) a b f g c d e = absurd (none y (concatenated (map write ys) ++ b) g.0
      (subst Ends (e ∙ append_assoc (write y) (concatenated (map write ys)) b) c))
  each_once (x ∷ xs) [] a b f g c d e = absurd (none x (concatenated (map write xs) ++ a) f.0
      (subst Ends (sym e ∙ append_assoc (write x) (concatenated (map write xs)) a) d))
  each_once (x ∷ xs) (y ∷ ys) a b f g c d e =
      let first = one x y (concatenated (map write xs) ++ a) (concatenated (map write ys) ++ b) f.0 g.0
      (regrouped (write x) (concatenated (map write xs)) a (write y) (concatenated (map write ys)) b e) in
      let more = each_once xs ys a b f.1 g.1 c d first.1 in
      ((λ i. first.0 i ∷ more.0 i), more.1)

  -- a clause that may be absent
  pub clause_once : (k : Keyword) → ((a : List Word) → Ends (keyword k ∷ a) → ⊥) → (xs ys : Option (List A))
      (a b : List Word) → Maybe (Every Fit) xs → Maybe (Every Fit) ys → Ends a → Ends b
      → words_of_clause k write xs ++ a ≡ words_of_clause k write ys ++ b → (xs ≡ ys) × (a ≡ b)
  clause_once k other None None a b f g c d e = (refl, e)
  clause_once k other None (Some ys) a b f g c d e = absurd (other (concatenated (map write ys) ++ b) (subst Ends e c))
  clause_once k other (Some xs) None a b f g c d e = absurd (other (concatenated (map write xs) ++ a) (subst Ends (sym e) d))
  clause_once k other (Some xs) (Some ys) a b f g c d e = let r = each_once xs ys a b f g c d (tail_is e) in
      (ap Some r.0, r.1)
