-- A search that goes on where what it has found leads.
use Rattle.std.proofs.Common.{◌≡◌, ℕ, nat_lt, ◌+◌, ◌<◌, ◌≤◌, ◌∙◌, sym, Bool, true, false, cond, ◌||◌, List, [], ◌∷◌, ◌++◌, get_or, length, eqb, refl, subst, arith, ◌⊎◌, inl, inr, ◌↔◌}
use Rattle.std.specs.List.{IsDistinct}
use Rattle.std.proofs.lemmas.Bool.Decides.{nat_tests}
use Rattle.std.proofs.lemmas.List.{length-append}
use Rattle.std.proofs.lemmas.Map.Steps.{length-le_from_distinct_below}
use Rattle.graphs.specs.Graphs.{IsGraph, Graph, has, next, Step, Chain, Leads, Reaches}
use Rattle.graphs.specs.Rounds.{added, IsSearched}
use Rattle.graphs.proofs.Found.{has-added, once-added, added-kept, member-at, at-member}

-- one step more
pub chain-more : {A : Type 0} (S : A → A → Type 0) (a : A) (ms : List A) (x b : A) → Chain S a ms x → S x b
    → Chain S a (ms ++ x ∷ []) b
chain-more S a [] x b h e = (h, e)
chain-more S a (m ∷ ms) x b h e = (h.0, chain-more S m ms x b h.1 e)

pub leads-more : {A : Type 0} (S : A → A → Type 0) (a x b : A) → Leads S a x → S x b → Leads S a b
leads-more S a x b h e = (h.0 ++ x ∷ [], chain-more S a h.0 x b h.1 e)

pub either : (p q : Bool) → (p || q) ≡ true → (p ≡ true) ⊎ (q ≡ true)
either true q h = inl refl
either false q h = inr h

pub left-holds : (p q : Bool) → p ≡ true → (p || q) ≡ true
left-holds p q h = rw h

pub right-holds : (p q : Bool) → q ≡ true → (p || q) ≡ true
right-holds true q h = refl
right-holds false q h = h

pub stays : (xs ys : List ℕ) (b : ℕ) → has xs b ≡ true → has (added xs ys) b ≡ true
stays xs ys b h = has-added xs ys b ∙ left-holds (has xs b) (has ys b) h

pub joins : (xs ys : List ℕ) (b : ℕ) → has ys b ≡ true → has (added xs ys) b ≡ true
joins xs ys b h = has-added xs ys b ∙ right-holds (has xs b) (has ys b) h

pub nothing : IsDistinct eqb []
unfolding IsDistinct
nothing = tt

pub searched-first : (g : Graph) (a : ℕ) → IsSearched g a (added [] (next g a)) 0
searched-first g a = record {
  reached = λ b h. ([], sym (has-added [] (next g a) b) ∙ h);
  once = once-added [] (next g a) nothing;
  first = λ b h. joins [] (next g a) b h;
  onward = λ k b lt h. absurd (omega (arith, lt));
}

pub searched-next : (g : Graph) (a : ℕ) (found : List ℕ) (n : ℕ) → IsSearched g a found n → n < length found
    → IsSearched g a (added found (next g (get_or found n 0))) (n + 1)
searched-next g a found n h lt = record {
  reached = λ b m. reach b
      (either (has found b) (has (next g (get_or found n 0)) b)
      (sym (has-added found (next g (get_or found n 0)) b) ∙ m));
  once = once-added found (next g (get_or found n 0)) h.once;
  first = λ b e. stays found (next g (get_or found n 0)) b (h.first b e);
  onward = λ k b below e. split k b (nat_lt k n) refl below
      (subst (λ (x : ℕ). Step g x b) (added-kept found (next g (get_or found n 0)) k 0 (omega (arith, below, lt))) e);
}
  where
    reach : (b : ℕ) → (has found b ≡ true) ⊎ (has (next g (get_or found n 0)) b ≡ true) → Reaches g a b
    reach b (inl m) = h.reached b m
    reach b (inr m) = leads-more (Step g) a (get_or found n 0) b (h.reached (get_or found n 0) (at-member found n 0 lt))
        m

    split : (k b : ℕ) (c : Bool) → nat_lt k n ≡ c → k < n + 1 → Step g (get_or found k 0) b
        → has (added found (next g (get_or found n 0))) b ≡ true
    split k b true is below e = stays found (next g (get_or found n 0)) b (h.onward k b (grind (arith, nat_tests)) e)
    split k b false is below e = let same : k ≡ n = grind (arith, nat_tests) in
        joins found (next g (get_or found n 0)) b (subst (λ (i : ℕ). Step g (get_or found i 0) b) same e)

pub searched-closed : (g : Graph) (a : ℕ) (found : List ℕ) → IsSearched g a found (length found)
    → (x : ℕ) (ms : List ℕ) (b : ℕ) → has found x ≡ true → Chain (Step g) x ms b → has found b ≡ true
searched-closed g a found h x [] b m e =
    let at = member-at found x m in
    h.onward at.0 b at.1 (subst (λ (y : ℕ). Step g y b) (sym at.2) e)
searched-closed g a found h x (y ∷ ms) b m e =
    let at = member-at found x m in
    searched-closed g a found h y ms b (h.onward at.0 y at.1 (subst (λ (z : ℕ). Step g z y) (sym at.2) e.0)) e.1

pub searched-all : (g : Graph) (a : ℕ) (found : List ℕ) → IsSearched g a found (length found) → (b : ℕ)
    → has found b ≡ true ↔ Reaches g a b
searched-all g a found h b = (λ m. h.reached b m, λ r. all r.0 r.1)
  where
    all : (ms : List ℕ) → Chain (Step g) a ms b → has found b ≡ true
    all [] e = h.first b e
    all (y ∷ ms) e = searched-closed g a found h y ms b (h.first y e.0) e.1

last-within : (g : Graph) → IsGraph g → (a : ℕ) (ms : List ℕ) (b : ℕ) → Chain (Step g) a ms b → b < length g
last-within g h a [] b e = h a b e
last-within g h a (m ∷ ms) b e = last-within g h m ms b e.1

pub reached-within : (g : Graph) → IsGraph g → (a b : ℕ) → Reaches g a b → b < length g
reached-within g h a b r = last-within g h a r.0 b r.1

pub found-within : (g : Graph) (a : ℕ) (found : List ℕ) (n k d : ℕ) → IsGraph g → IsSearched g a found n
    → k < length found → get_or found k d < length g
found-within g a found n k d h s lt =
    reached-within g h a (get_or found k d) (s.reached (get_or found k d) (at-member found k d lt))

pub found-few : (g : Graph) (a : ℕ) (found : List ℕ) (n : ℕ) → IsGraph g → IsSearched g a found n
    → length found ≤ length g
found-few g a found n h s =
    length-le_from_distinct_below found (length g) s.once (λ q m. reached-within g h a q (s.reached q m))

longer-once : (c : Bool) (xs : List ℕ) (y : ℕ) → length xs ≤ length (cond c xs (xs ++ y ∷ []))
longer-once true xs y = omega arith
longer-once false xs y = let h : length (xs ++ y ∷ []) ≡ length xs + 1 = length-append xs (y ∷ []) in omega (arith, h)

pub longer : (xs ys : List ℕ) → length xs ≤ length (added xs ys)
longer xs [] = omega arith
longer xs (y ∷ ys) = let first = longer-once (has xs y) xs y in
    let more = longer (cond (has xs y) xs (xs ++ y ∷ [])) ys in omega (arith, first, more)
