-- What items ask for, piece by piece.
use Rattle.std.proofs.Common.{◌≡◌, ℕ, ◌∷◌, ◌++◌, List, [], refl, sym, ap, ◌∙◌, subst, ◌⊎◌, inl, inr}
use Rattle.parsing.specs.Tables.{lookaheads}
use Rattle.parsing.proofs.Lists.{lookaheads_append}
use Rattle.step_structures.specs.Words.{Word, keyword, name, Lookahead, token, flawed, end_of_text, LocatedToken}
use Rattle.step_structures.specs.Trees.{Item, this, named, finish, Meets, MeetAll}

pub meet_join : (u v : List Lookahead) (a b : List Item) → MeetAll u a → MeetAll v b → MeetAll (u ++ v) (a ++ b)
meet_join [] v [] b h k = k
meet_join [] v (i ∷ a) b h k = absurd h
meet_join (s ∷ u) v [] b h k = absurd h
meet_join (s ∷ u) v (i ∷ a) b h k = (h.0, meet_join u v a b h.1 k)

-- what is asked for first stands first
abbrev pub MeetBoth : List Lookahead → List Item → List Item → Type 0
MeetBoth ws a b = (u v : List Lookahead) × (ws ≡ u ++ v) × MeetAll u a × MeetAll v b

pub meet_split : (ws : List Lookahead) (a b : List Item) → MeetAll ws (a ++ b) → MeetBoth ws a b
meet_split [] [] b h = ([], [], refl, tt, h)
meet_split [] (i ∷ a) b h = absurd h
meet_split (s ∷ ws) [] b h = ([], s ∷ ws, refl, tt, h)
meet_split (s ∷ ws) (i ∷ a) b h = let p = meet_split ws a b h.1 in
    (s ∷ p.0, p.1, ap (λ l. s ∷ l) p.2, (h.0, p.3), p.4)

-- the same, where it is asked for in other words
pub meet_as : (ws : List Lookahead) (a b : List Item) → a ≡ b → MeetAll ws a → MeetAll ws b
meet_as ws a b e h = subst (MeetAll ws) e h

-- of tokens
pub located_join : (s t : List LocatedToken) (a b : List Item) → MeetAll (lookaheads s) a → MeetAll (lookaheads t) b
    → MeetAll (lookaheads (s ++ t)) (a ++ b)
located_join s t a b h k = subst (λ l. MeetAll l (a ++ b)) (sym (lookaheads_append s t))
    (meet_join (lookaheads s) (lookaheads t) a b h k)

pub one_more : (s : List LocatedToken) (at : LocatedToken) → lookaheads (s ++ at ∷ []) ≡ lookaheads s ++ at.lookahead
    ∷ []
one_more s at = lookaheads_append s (at ∷ [])

-- the last item is met by the last lookahead, or it stands before that
pub met_last : (b : List Lookahead) (s : Lookahead) (u v : List Lookahead) (a : List Item) (i : Item)
    → b ++ s ∷ [] ≡ u ++ v → MeetAll u (a ++ i ∷ []) → Meets s i ⊎ ((m : List Lookahead) × (b ≡ u ++ m))
met_last b s [] v [] i e h = absurd h
met_last b s [] v (j ∷ a) i e h = absurd h
met_last [] s (w ∷ []) v [] i e h = inl (let q : w ≡ s = cc in subst (λ x. Meets x i) q h.0)
met_last [] s (w ∷ []) v (j ∷ []) i e h = absurd h.1
met_last [] s (w ∷ []) v (j ∷ l ∷ a) i e h = absurd h.1
met_last [] s (w ∷ x ∷ u) v a i e h = (let q : [] ≡ x ∷ (u ++ v) = cc in absurd cc)
met_last (c ∷ b) s (w ∷ []) v [] i e h = (let q : c ≡ w = cc in inr (b, (λ k. q k ∷ b)))
met_last (c ∷ b) s (w ∷ x ∷ u) v [] i e h = absurd h.1
met_last (c ∷ b) s (w ∷ u) v (j ∷ a) i e h = more (let q : c ≡ w = cc in q)
    (met_last b s u v a i (let q : b ++ s ∷ [] ≡ u ++ v = cc in q) h.1)
  where
    more : c ≡ w → Meets s i ⊎ ((m : List Lookahead) × (b ≡ u ++ m))
        → Meets s i ⊎ ((m : List Lookahead) × (c ∷ b ≡ w ∷ u ++ m))
    more q (inl k) = inl k
    more q (inr k) = inr (k.0, (λ n. q n ∷ k.1 n))

-- what meets an item
pub meets_this : (s : Lookahead) (w : Word) → Meets s (this w) → s ≡ token w
meets_this (token v) w h = ap token h
meets_this (flawed f) w h = absurd h
meets_this end_of_text w h = absurd h

pub meets_finish : (s : Lookahead) → Meets s finish → s ≡ end_of_text
meets_finish (token v) h = absurd h
meets_finish (flawed f) h = absurd h
meets_finish end_of_text h = refl

pub meets_is : (w : Word) (s : Lookahead) → s ≡ token w → Meets s (this w)
meets_is w s e = let P : Lookahead → Type 0 = λ x. Meets x (this w) in subst P (sym e) refl

pub meets_named : (s : Lookahead) (n : ℕ) (text : List ℕ) → s ≡ token (name n text) → Meets s (named n)
meets_named s n text e = let P : Lookahead → Type 0 = λ x. Meets x (named n) in subst P (sym e) refl

-- an item that asks for a token meets no other
pub same_this : (s : Lookahead) (v w : Word) → Meets s (this v) → Meets s (this w) → v ≡ w
same_this (token u) v w h k = sym h ∙ k
same_this (flawed f) v w h k = absurd h
same_this end_of_text v w h k = absurd h

pub same_name : (s : Lookahead) (m n : ℕ) → Meets s (named m) → Meets s (named n) → m ≡ n
same_name (token (name i text)) m n h k = sym h ∙ k
same_name _ m n h k = absurd h

pub same_keyword : (s : Lookahead) (a b : List ℕ) → Meets s (this (keyword a)) → Meets s (this (keyword b)) → a ≡ b
same_keyword s a b h k = let e : keyword a ≡ keyword b = same_this s (keyword a) (keyword b) h k in cc
