-- First faults of what a lexer shows, which is determined: a text has one at most, and none where it is whole.
use Rattle.std.proofs.Common.{◌≡◌, ℕ, List, [], ◌∷◌, ◌++◌, refl, sym, ap, ◌∙◌, subst, append_assoc, append-nil, ◌⊎◌, inl, inr}
use Rattle.parsing.specs.Tables.{LocatedToken, lookaheads, Table}
use Rattle.parsing.specs.Lexers.{ShowsAll}
use Rattle.parsing.specs.Languages.{IsViablePrefix, IsFirstFault}
use Rattle.parsing.proofs.Leading.{Leads, leads_once}
use Rattle.parsing.proofs.Lists.{lookaheads_append, IsWithin, cut}
use Rattle.parsing.proofs.Shown.{IsDetermined, IsMore, shown_alike, shows_split}
use Rattle.parsing.proofs.Faults.{front_before, whole_is_front}

-- no text is the front of a longer one
abbrev pub EndsAlone : {W : Type 0} → (List W → Type 0) → Type 0
EndsAlone {W} L = (s more : List (LocatedToken W)) → L (lookaheads s) → IsViablePrefix L (lookaheads (s ++ more))
    → more ≡ []

no_last : {X : Type 0} (a m : List X) (s : X) → (a ++ s ∷ []) ++ m ≡ [] → ⊥
no_last [] m s e = cc
no_last (y ∷ a) m s e = cc

-- where a list ends by a token
ends_by : {X : Type 0} (a b m : List X) (s t : X) → (a ++ s ∷ []) ++ m ≡ b ++ t ∷ [] → ((a ≡ b) × (s ≡ t))
    ⊎ ((i : List X) × (b ≡ (a ++ s ∷ []) ++ i))
ends_by [] [] m s t e = inl (refl, cc)
ends_by [] (z ∷ b) m s t e =
    let h : z ≡ s = cc in
    inr (b, (λ i. h i ∷ b))
ends_by (y ∷ a) [] m s t e = absurd (no_last a m s (let h : (a ++ s ∷ []) ++ m ≡ [] = cc in h))
ends_by {X} (y ∷ a) (z ∷ b) m s t e = behind (let h : y ≡ z = cc in h)
    (ends_by a b m s t (let h : (a ++ s ∷ []) ++ m ≡ b ++ t ∷ [] = cc in h))
  where
    behind : y ≡ z → ((a ≡ b) × (s ≡ t)) ⊎ ((i : List X) × (b ≡ (a ++ s ∷ []) ++ i)) → ((y ∷ a ≡ z ∷ b) × (s ≡ t))
        ⊎ ((i : List X) × (z ∷ b ≡ (y ∷ a ++ s ∷ []) ++ i))
    behind h (inl g) = inl ((λ i. h i ∷ g.0 i), g.1)
    behind h (inr g) = inr (g.0, (λ i. sym h i ∷ g.1 i))

-- where the lexer stands before the first fault and behind it
pub fault_shown : {R W : Type 0} (shows : R → LocatedToken W → R → Type 0) (L : List W → Type 0) (old new : R)
    (s : List (LocatedToken W)) (place : ℕ) → ShowsAll shows old s new → (f : IsFirstFault L s place) → (here next : R)
    × ShowsAll shows old f.before here × shows here f.at next
fault_shown {R} {W} shows L old new s place h f =
    let P : List (LocatedToken W) → Type 0 = λ l. ShowsAll shows old l new in
    let a = shows_split shows old f.before (f.at ∷ f.after) new (subst P f.text h) in
    (a.0, a.2.0, a.1, a.2.1)

module _ {R W : Type 0} (shows : R → LocatedToken W → R → Type 0) (d : IsDetermined shows) where
  -- Of what holds of each front of a list that it holds of: where it holds of some tokens, and no longer with the next
  -- one, is told by the text.
  pub one_stop : (V : List (LocatedToken W) → Type 0) → ((a b : List (LocatedToken W)) → V (a ++ b) → V a)
      → (old x y : R) (a b : List (LocatedToken W)) (s t : LocatedToken W) → ShowsAll shows old (a ++ s ∷ []) x
      → ShowsAll shows old (b ++ t ∷ []) y → V a → (V (a ++ s ∷ []) → ⊥) → V b → (V (b ++ t ∷ []) → ⊥) → (a ≡ b)
      × (s ≡ t)
  one_stop V front old x y a b s t h k viable refused viable' refused' =
      by (shown_alike shows d old x y (a ++ s ∷ []) (b ++ t ∷ []) h k)
    where
      longest : (a b m : List (LocatedToken W)) (s t : LocatedToken W) → (V (a ++ s ∷ []) → ⊥) → V b
          → (a ++ s ∷ []) ++ m ≡ b ++ t ∷ [] → (a ≡ b) × (s ≡ t)
      longest a b m s t refused viable e = cases (ends_by a b m s t e)
        where
          cases : ((a ≡ b) × (s ≡ t)) ⊎ ((i : List (LocatedToken W)) × (b ≡ (a ++ s ∷ []) ++ i)) → (a ≡ b) × (s ≡ t)
          cases (inl h) = h
          cases (inr h) = absurd (refused (front (a ++ s ∷ []) h.0 (subst V h.1 viable)))

      by : IsMore shows (a ++ s ∷ []) x (b ++ t ∷ []) y ⊎ IsMore shows (b ++ t ∷ []) y (a ++ s ∷ []) x → (a ≡ b)
          × (s ≡ t)
      by (inl m) = longest a b m.0 s t refused viable' m.1
      by (inr m) = let e = longest b a m.0 t s refused' viable m.1 in (sym e.0, sym e.1)

  -- what passes from one place is one list of tokens
  pub passes_once : {S K : Type 0} (table : Table S W K) (ys : List S) (old x y : R) (v w : List (LocatedToken W))
      → ShowsAll shows old v x → ShowsAll shows old w y → Leads table ys (lookaheads v) []
      → Leads table ys (lookaheads w) [] → (v ≡ w) × (x ≡ y)
  passes_once {S} {K} table ys old x y v w h k f g = by (shown_alike shows d old x y v w h k)
    where
      longer : (v w m : List (LocatedToken W)) (x y : R) → v ++ m ≡ w → ShowsAll shows x m y
          → Leads table ys (lookaheads v) [] → Leads table ys (lookaheads w) [] → (v ≡ w) × (x ≡ y)
      longer v w [] x y e more f g = (sym (append-nil v) ∙ e, more)
      longer v w (t ∷ m) x y e more f g =
          let split = sym (lookaheads_append v (t ∷ m)) ∙ ap lookaheads e ∙ sym (append-nil (lookaheads w)) in
          let none : t.lookahead ∷ lookaheads m ≡ [] = (leads_once table ys (lookaheads v) (lookaheads w)
          (t.lookahead ∷ lookaheads m) [] f g split).1 in
          absurd cc

      by : IsMore shows v x w y ⊎ IsMore shows w y v x → (v ≡ w) × (x ≡ y)
      by (inl m) = longer v w m.0 x y m.1 m.2 f g
      by (inr m) = let e = longer w v m.0 y x m.1 m.2 g f in (sym e.0, sym e.1)

module _ {R W : Type 0} (shows : R → LocatedToken W → R → Type 0) (d : IsDetermined shows) (L : List W → Type 0) where
  -- two first faults of a text stand at one token
  pub same_token : (old x y : R) (a b : List (LocatedToken W)) (s t : LocatedToken W) → ShowsAll shows old (a ++ s ∷ [])
      x → ShowsAll shows old (b ++ t ∷ []) y
      → IsViablePrefix L (lookaheads a) → (IsViablePrefix L (lookaheads (a ++ s ∷ [])) → ⊥)
      → IsViablePrefix L (lookaheads b) → (IsViablePrefix L (lookaheads (b ++ t ∷ [])) → ⊥) → (a ≡ b) × (s ≡ t)
  same_token old x y a b s t h k viable refused viable' refused' =
      one_stop shows d (λ l. IsViablePrefix L (lookaheads l)) (λ a b f. front_before L (a ++ b) a b refl f) old x y a b
      s
      t h k viable refused viable' refused'

  -- a text that is whole goes on where tokens that are a front, and not whole, are shown up to a next one
  pub whole_through : EndsAlone L → (old x y : R) (w a : List (LocatedToken W)) (s : LocatedToken W)
      → ShowsAll shows old w x → L (lookaheads w) → ShowsAll shows old (a ++ s ∷ []) y
      → IsViablePrefix L (lookaheads a) → (L (lookaheads a) → ⊥) → (m : List (LocatedToken W))
      × (w ≡ (a ++ s ∷ []) ++ m)
  whole_through alone old x y w a s h whole k viable unended = by (shown_alike shows d old x y w (a ++ s ∷ []) h k)
    where
      within : IsWithin a s w ⊎ ((i : List (LocatedToken W)) × (a ≡ w ++ i)) → (m : List (LocatedToken W))
          × (w ≡ (a ++ s ∷ []) ++ m)
      within (inl g) = (g.0, g.1 ∙ sym (append_assoc a (s ∷ []) g.0))
      within (inr g) =
          let P : List (LocatedToken W) → Type 0 = λ l. IsViablePrefix L (lookaheads l) in
          let none = alone w g.0 whole (subst P g.1 viable) in
          let same : w ≡ a = sym (append-nil w) ∙ ap (λ l. w ++ l) (sym none) ∙ sym g.1 in
          absurd (unended (subst L (ap lookaheads same) whole))

      by : IsMore shows w x (a ++ s ∷ []) y ⊎ IsMore shows (a ++ s ∷ []) y w x → (m : List (LocatedToken W))
          × (w ≡ (a ++ s ∷ []) ++ m)
      by (inl m) = within (cut w a m.0 [] s m.1)
      by (inr m) = (m.0, sym m.1)

  -- a whole text has no first fault
  pub whole_no_fault : EndsAlone L → (old x y : R) (w a : List (LocatedToken W)) (s : LocatedToken W)
      → ShowsAll shows old w x → L (lookaheads w) → ShowsAll shows old (a ++ s ∷ []) y
      → IsViablePrefix L (lookaheads a) → (L (lookaheads a) → ⊥) → (IsViablePrefix L (lookaheads (a ++ s ∷ [])) → ⊥) → ⊥
  whole_no_fault alone old x y w a s h whole k viable unended refused =
      let m = whole_through alone old x y w a s h whole k viable unended in
      refused (front_before L w (a ++ s ∷ []) m.0 m.1 (whole_is_front L (lookaheads w) whole))
