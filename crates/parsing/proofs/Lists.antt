-- Lists of tokens, and of their lookaheads.
use Rattle.std.proofs.Common.{◌≡◌, ℕ, List, [], ◌∷◌, ◌++◌, refl, sym, ap, ◌⊎◌, inl, inr}
use Rattle.parsing.specs.Tables.{LocatedToken, lookaheads, Outcome, passes, stops, short}
use Rattle.parsing.specs.Languages.{AllAre}

pub lookaheads_append : {W : Type 0} (a b : List (LocatedToken W)) → lookaheads (a ++ b) ≡ lookaheads a ++ lookaheads b
lookaheads_append [] b = refl
lookaheads_append (t ∷ a) b = ap (λ l. t.lookahead ∷ l) (lookaheads_append a b)

-- tokens of these lookaheads
abbrev pub placed : {W : Type 0} → List W → List (LocatedToken W)
placed [] = []
placed (w ∷ ws) = record { lookahead = w; place = 0 } ∷ placed ws

pub lookaheads_placed : {W : Type 0} (ws : List W) → lookaheads (placed ws) ≡ ws
lookaheads_placed [] = refl
lookaheads_placed (w ∷ ws) = ap (λ l. w ∷ l) (lookaheads_placed ws)

-- tokens are cut where their lookaheads are
pub cut_at : {W : Type 0} (s : List (LocatedToken W)) (u v : List W) → lookaheads s ≡ u ++ v
    → (a b : List (LocatedToken W)) × (s ≡ a ++ b) × (lookaheads a ≡ u) × (lookaheads b ≡ v)
cut_at s [] v e = ([], s, refl, refl, e)
cut_at [] (w ∷ u) v e = absurd cc
cut_at (t ∷ s) (w ∷ u) v e =
    let first : t.lookahead ≡ w = cc in
    let r = cut_at s u v (let q : lookaheads s ≡ u ++ v = cc in q) in
    (t ∷ r.0, r.1, ap (λ l. t ∷ l) r.2, (λ i. first i ∷ r.3 i), r.4)

pub all_append : {X : Type 0} (P : X → Type 0) (xs ys : List X) → AllAre P xs → AllAre P ys → AllAre P (xs ++ ys)
all_append P [] ys h k = k
all_append P (x ∷ xs) ys h k = (h.0, all_append P xs ys h.1 k)

pub same_stop : {W K : Type 0} (o : Outcome W K) (k l : K) (p q : ℕ) → o ≡ stops k p → o ≡ stops l q → (k ≡ l) × (p ≡ q)
same_stop o k l p q e f = (cc, cc)

pub same_rest : {W K : Type 0} (o : Outcome W K) (s t : List (LocatedToken W)) → o ≡ passes s → o ≡ passes t → s ≡ t
same_rest o s t e f = cc

pub passes_or_stops : {W K : Type 0} (o : Outcome W K) (s : List (LocatedToken W)) (k : K) (p : ℕ) → o ≡ passes s
    → o ≡ stops k p → ⊥
passes_or_stops o s k p e f = cc

pub passes_or_short : {W K : Type 0} (o : Outcome W K) (s : List (LocatedToken W)) → o ≡ passes s → o ≡ short → ⊥
passes_or_short o s e f = cc

pub short_or_stops : {W K : Type 0} (o : Outcome W K) (k : K) (p : ℕ) → o ≡ short → o ≡ stops k p → ⊥
short_or_stops o k p e f = cc

pub none_before : {X : Type 0} (a b : List X) → a ++ b ≡ [] → a ≡ []
none_before [] b e = refl
none_before (x ∷ a) b e = absurd cc

-- one front of a list against another
abbrev pub IsWithin : {X : Type 0} → List X → X → List X → Type 0
IsWithin {X} a x b = (i : List X) × (b ≡ a ++ x ∷ i)

pub cut : {X : Type 0} (a b m n : List X) (x : X) → a ++ m ≡ b ++ x ∷ n → IsWithin b x a ⊎ ((i : List X) × (b ≡ a ++ i))
cut [] b m n x e = inr (b, refl)
cut (y ∷ a) [] m n x e =
    let h : y ≡ x = cc in
    inl (a, (λ i. h i ∷ a))
cut {X} (y ∷ a) (z ∷ b) m n x e = behind (let h : y ≡ z = cc in h)
    (cut a b m n x (let h : a ++ m ≡ b ++ x ∷ n = cc in h))
  where
    behind : y ≡ z → IsWithin b x a ⊎ ((i : List X) × (b ≡ a ++ i)) → IsWithin (z ∷ b) x (y ∷ a)
        ⊎ ((i : List X) × (z ∷ b ≡ y ∷ a ++ i))
    behind h (inl g) = inl (g.0, (λ i. h i ∷ g.1 i))
    behind h (inr g) = inr (g.0, (λ i. sym h i ∷ g.1 i))

-- two places of a list
pub compare : {X : Type 0} (a b m n : List X) (x y : X) → a ++ x ∷ m ≡ b ++ y ∷ n → IsWithin a x b
    ⊎ (IsWithin b y a ⊎ ((a ≡ b) × (x ≡ y) × (m ≡ n)))
compare [] [] m n x y e = inr (inr (refl, cc, cc))
compare [] (z ∷ b) m n x y e =
    let h : z ≡ x = cc in
    inl (b, (λ i. h i ∷ b))
compare (z ∷ a) [] m n x y e =
    let h : z ≡ y = cc in
    inr (inl (a, (λ i. h i ∷ a)))
compare (z ∷ a) (w ∷ b) m n x y e = behind (let h : z ≡ w = cc in h)
    (compare a b m n x y (let h : a ++ x ∷ m ≡ b ++ y ∷ n = cc in h))
  where
    behind : z ≡ w → IsWithin a x b ⊎ (IsWithin b y a ⊎ ((a ≡ b) × (x ≡ y) × (m ≡ n))) → IsWithin (z ∷ a) x (w ∷ b)
        ⊎ (IsWithin (w ∷ b) y (z ∷ a) ⊎ ((z ∷ a ≡ w ∷ b) × (x ≡ y) × (m ≡ n)))
    behind h (inl g) = inl (g.0, (λ i. sym h i ∷ g.1 i))
    behind h (inr (inl g)) = inr (inl (g.0, (λ i. h i ∷ g.1 i)))
    behind h (inr (inr g)) = inr (inr ((λ i. h i ∷ g.0 i), g.1, g.2))
