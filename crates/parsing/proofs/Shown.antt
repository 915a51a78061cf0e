-- What a lexer shows in turn.
use Rattle.std.proofs.Common.{◌≡◌, ℕ, ◌≤◌, List, [], ◌∷◌, ◌++◌, length, refl, sym, ap, ◌∙◌, subst, arith, le_of_eq, ◌⊎◌, inl, inr}
use Rattle.parsing.specs.Tables.{LocatedToken, lookaheads}
use Rattle.parsing.specs.Lexers.{ShowsAll, Reads}
use Rattle.parsing.proofs.Lists.{lookaheads_append}

-- one run behind another
pub shows_join : {R W : Type 0} (shows : R → LocatedToken W → R → Type 0) (a : R) (s : List (LocatedToken W)) (b : R)
    (t : List (LocatedToken W)) (c : R) → ShowsAll shows a s b → ShowsAll shows b t c → ShowsAll shows a (s ++ t) c
shows_join {R} shows a [] b t c h k = let P : R → Type 0 = λ x. ShowsAll shows x t c in subst P (sym h) k
shows_join shows a (x ∷ s) b t c h k = (h.0, h.1, shows_join shows h.0 s b t c h.2 k)

pub shows_split : {R W : Type 0} (shows : R → LocatedToken W → R → Type 0) (a : R) (s t : List (LocatedToken W)) (c : R)
    → ShowsAll shows a (s ++ t) c → (b : R) × ShowsAll shows a s b × ShowsAll shows b t c
shows_split shows a [] t c h = (a, refl, h)
shows_split shows a (x ∷ s) t c h = let p = shows_split shows h.0 s t c h.2 in (p.0, (h.0, h.1, p.1), p.2)

-- one token
pub shows_one : {R W : Type 0} (shows : R → LocatedToken W → R → Type 0) (a : R) (t : LocatedToken W) (b : R)
    → shows a t b → ShowsAll shows a (t ∷ []) b
shows_one shows a t b h = (b, h, refl)

-- what a lexer shows is determined, and how far the text is read then
abbrev pub IsDetermined : {R W : Type 0} → (R → LocatedToken W → R → Type 0) → Type 0
IsDetermined {R} {W} shows = (old a b : R) (s t : LocatedToken W) → shows old s a → shows old t b → (s ≡ t) × (a ≡ b)

abbrev pub IsMore : {R W : Type 0} → (R → LocatedToken W → R → Type 0) → List (LocatedToken W) → R
    → List (LocatedToken W) → R → Type 0
IsMore {R} {W} shows s a t b = (more : List (LocatedToken W)) × (s ++ more ≡ t) × ShowsAll shows a more b

-- of two runs from one place one goes on where the other ends
pub shown_alike : {R W : Type 0} (shows : R → LocatedToken W → R → Type 0) → IsDetermined shows
    → (old a b : R) (s t : List (LocatedToken W)) → ShowsAll shows old s a → ShowsAll shows old t b
    → IsMore shows s a t b ⊎ IsMore shows t b s a
shown_alike {R} shows d old a b [] t h k =
    inl (t, refl, (let P : R → Type 0 = λ x. ShowsAll shows x t b in subst P h k))
shown_alike {R} shows d old a b (x ∷ s) [] h k =
    inr (x ∷ s, refl, (let P : R → Type 0 = λ z. ShowsAll shows z (x ∷ s) a in subst P k h))
shown_alike {R} {W} shows d old a b (x ∷ s) (y ∷ t) h k =
    let o = d old h.0 k.0 x y h.1 k.1 in
    let P : R → Type 0 = λ z. ShowsAll shows z t b in
    both o.0 (shown_alike shows d h.0 a b s t h.2 (subst P (sym o.1) k.2))
  where
    both : x ≡ y → IsMore shows s a t b ⊎ IsMore shows t b s a → IsMore shows (x ∷ s) a (y ∷ t) b
        ⊎ IsMore shows (y ∷ t) b (x ∷ s) a
    both e (inl m) = inl (m.0, (λ i. e i ∷ m.1 i), m.2)
    both e (inr m) = inr (m.0, (λ i. sym e i ∷ m.1 i), m.2)

-- two runs of one length from one place are the same
pub shown_same : {R W : Type 0} (shows : R → LocatedToken W → R → Type 0) → IsDetermined shows
    → (old a b : R) (s t : List (LocatedToken W)) → ShowsAll shows old s a → ShowsAll shows old t b
    → length s ≡ length t → (s ≡ t) × (a ≡ b)
shown_same shows d old a b [] [] h k e = (refl, sym h ∙ k)
shown_same shows d old a b [] (y ∷ t) h k e = absurd (cc)
shown_same shows d old a b (x ∷ s) [] h k e = absurd (cc)
shown_same {R} shows d old a b (x ∷ s) (y ∷ t) h k e =
    let o = d old h.0 k.0 x y h.1 k.1 in
    let P : R → Type 0 = λ z. ShowsAll shows z t b in
    let r = shown_same shows d h.0 a b s t h.2 (subst P (sym o.1) k.2) cc in
    ((λ i. o.0 i ∷ r.0 i), r.1)

-- what no token raises is not raised
pub shows_falls : {R W : Type 0} (shows : R → LocatedToken W → R → Type 0) (size : R → ℕ)
    → ((old : R) (t : LocatedToken W) (new : R) → shows old t new → size new ≤ size old)
    → (old : R) (s : List (LocatedToken W)) (new : R) → ShowsAll shows old s new → size new ≤ size old
shows_falls shows size falls old [] new h = le_of_eq (ap size (sym h))
shows_falls shows size falls old (t ∷ s) new h = omega (
  arith,
  falls old t h.0 h.1,
  shows_falls shows size falls h.0 s
      new h.2,
)

-- nothing is read
pub reads_none : {R W : Type 0} (shows : R → LocatedToken W → R → Type 0) (a : R) → Reads shows a [] a
reads_none shows a = ([], refl, refl)

-- one token
pub reads_token : {R W : Type 0} (shows : R → LocatedToken W → R → Type 0) (a : R) (t : LocatedToken W) (b : R)
    → shows a t b → Reads shows a (t.lookahead ∷ []) b
reads_token shows a t b h = (t ∷ [], (b, h, refl), refl)

-- some tokens and others
pub reads_join : {R W : Type 0} (shows : R → LocatedToken W → R → Type 0) (a : R) (v : List W) (b : R) (w : List W)
    (c : R) → Reads shows a v b → Reads shows b w c → Reads shows a (v ++ w) c
reads_join {R} {W} shows a v b w c h g = (
  h.0 ++ g.0,
  shows_join shows a h.0 b g.0 c h.1 g.1,
  lookaheads_append h.0 g.0
      ∙ ap (λ l. l ++ lookaheads g.0) h.2 ∙ ap (λ l. v ++ l) g.2,
)

-- a token and more
pub reads_first : {R W : Type 0} (shows : R → LocatedToken W → R → Type 0) (a : R) (t : LocatedToken W) (b : R)
    (w : List W) (c : R) → shows a t b → Reads shows b w c → Reads shows a (t.lookahead ∷ w) c
reads_first shows a t b w c h g = (t ∷ g.0, (b, h, g.1), ap (λ l. t.lookahead ∷ l) g.2)

-- tokens of which the first is taken already
pub reads_taken : {R W : Type 0} (shows : R → LocatedToken W → R → Type 0) (a : R) (t : LocatedToken W) (b : R)
    (w : List W) (c : R) → shows a t b → (s : List (LocatedToken W)) → ShowsAll shows b s c → lookaheads (t ∷ s) ≡ w
    → Reads shows a w c
reads_taken shows a t b w c h s all e = (t ∷ s, (b, h, all), e)

-- the same lookaheads under another name
pub reads_as : {R W : Type 0} (shows : R → LocatedToken W → R → Type 0) (a : R) (v w : List W) (c : R) → v ≡ w
    → Reads shows a v c → Reads shows a w c
reads_as shows a v w c e h = (h.0, h.1, h.2 ∙ e)
