-- A table that takes a language stops just at the first token with which those so far are no front.
use Rattle.std.proofs.Common.{◌≡◌, ◌↔◌, ℕ, List, [], ◌∷◌, ◌++◌, Err, sym, ap, ◌∙◌, subst, append_assoc, append-nil, ◌⊎◌, inl, inr}
use Rattle.parsing.specs.Tables.{LocatedToken, lookaheads, Table, passes, stops, short, run}
use Rattle.parsing.specs.Languages.{IsViablePrefix, IsFirstFault, IsExact}
use Rattle.parsing.proofs.Lists.{lookaheads_append, placed, lookaheads_placed, none_before, same_rest, passes_or_stops, passes_or_short, IsWithin, cut, compare}
use Rattle.parsing.proofs.Running.{Reaches, run_err, run_append, reaches_run, reaches_keeps, completes, Spot, locate, Passed, passed, wants, Ends, ends}

-- the front of a front is one
pub front_of_front : {W : Type 0} (L : List W → Type 0) (a b : List W) → IsViablePrefix L (a ++ b) → IsViablePrefix L a
front_of_front L a b h = (b ++ h.0, subst L (append_assoc a b h.0) h.1)

-- a prefix of tokens with a viable prefix is viable
pub front_before : {W : Type 0} (L : List W → Type 0) (s a b : List (LocatedToken W)) → s ≡ a ++ b
    → IsViablePrefix L (lookaheads s) → IsViablePrefix L (lookaheads a)
front_before {W} L s a b e h =
    let P : List W → Type 0 = λ l. IsViablePrefix L l in
    front_of_front L (lookaheads a) (lookaheads b) (subst P (ap lookaheads e ∙ lookaheads_append a b) h)

pub whole_is_front : {W : Type 0} (L : List W → Type 0) (ws : List W) → L ws → IsViablePrefix L ws
whole_is_front L ws h = ([], subst L (sym (append-nil ws)) h)

-- the lookaheads of tokens up to one of them
up_to : {W : Type 0} (a : List (LocatedToken W)) (t : LocatedToken W) (b : List (LocatedToken W)) → a ++ t
    ∷ b ≡ (a ++ t ∷ []) ++ b
up_to a t b = sym (append_assoc a (t ∷ []) b)

-- two first faults of a list stand at one token
pub one_token : {W : Type 0} (L : List W → Type 0) (s : List (LocatedToken W)) (p q : ℕ) (f : IsFirstFault L s p)
    (g : IsFirstFault L s q) → (f.before ≡ g.before) × (f.at ≡ g.at)
one_token {W} L s p q f g = by (compare f.before g.before f.after g.after f.at g.at (sym f.text ∙ g.text))
  where
    by : IsWithin f.before f.at g.before
        ⊎ (IsWithin g.before g.at f.before ⊎ ((f.before ≡ g.before) × (f.at ≡ g.at) × (f.after ≡ g.after)))
        → (f.before ≡ g.before) × (f.at ≡ g.at)
    by (inl h) = absurd (f.refused (front_before L g.before (f.before ++ f.at ∷ []) h.0 (h.1 ∙ up_to f.before f.at h.0)
        g.viable))
    by (inr (inl h)) = absurd (g.refused (front_before L f.before (g.before ++ g.at ∷ []) h.0
        (h.1 ∙ up_to g.before g.at h.0) f.viable))
    by (inr (inr h)) = (h.0, h.1)

pub one_place : {W : Type 0} (L : List W → Type 0) (s : List (LocatedToken W)) (p q : ℕ) → IsFirstFault L s p
    → IsFirstFault L s q → p ≡ q
one_place L s p q f g = f.place_is ∙ ap (λ (t : LocatedToken _). t.place) (one_token L s p q f g).1 ∙ sym g.place_is

module _ {S W K : Type 0} (table : Table S W K) (sort : S → Type 0) (start : List S) (L : List W → Type 0)
    (x : IsExact table sort start L) where
  -- tokens that turn the start into a stack are a front
  pub front_from : (s : List (LocatedToken W)) (zs : List S) → Reaches table start s zs
      → IsViablePrefix L (lookaheads s)
  front_from s zs h =
      let c = completes table sort x.complete zs (reaches_keeps table sort x.complete s start zs x.starts h) in (
        lookaheads c.0,
        subst L (lookaheads_append s c.0) (x.sound (s ++ c.0) (reaches_run table s start zs c.0 h
            ∙ c.1)),
      )

  -- what is behind a front may pass
  pub front_passes : (s : List (LocatedToken W)) (f : IsViablePrefix L (lookaheads s))
      → run table start (s ++ placed f.0) ≡ passes []
  front_passes s f = x.passing (s ++ placed f.0) (subst L (ap (λ l. lookaheads s ++ l) (sym (lookaheads_placed f.0))
      ∙ sym (lookaheads_append s (placed f.0))) f.1)

  -- with a token that can't be next they are none
  pub not_front : (s : List (LocatedToken W)) (at : LocatedToken W) (top : S) (others : List S) (k : K)
      → Reaches table start s (top ∷ others) → table top at.lookahead ≡ Err k
      → IsViablePrefix L (lookaheads (s ++ at ∷ [])) → ⊥
  not_front s at top others k h e f =
      passes_or_stops (run table start ((s ++ at ∷ []) ++ placed f.0)) [] k at.place (front_passes (s ++ at ∷ []) f)
      (ap (run table start) (append_assoc s (at ∷ []) (placed f.0)) ∙ reaches_run table s start (top ∷ others)
      (at ∷ placed f.0) h ∙ run_err table top k others at (placed f.0) e)

  -- where more is to come they aren't whole
  pub not_whole : (s : List (LocatedToken W)) (top : S) (others : List S) → Reaches table start s (top ∷ others)
      → L (lookaheads s) → ⊥
  not_whole s top others h w =
      passes_or_short (run table start s) [] (x.passing s w) (ap (run table start) (sym (append-nil s))
      ∙ reaches_run table s start (top ∷ others) [] h)

  pub whole_taken : (s : List (LocatedToken W)) → Reaches table start s [] → L (lookaheads s)
  whole_taken s h = x.sound s (ap (run table start) (sym (append-nil s)) ∙ reaches_run table s start [] [] h)

  -- the first fault, where the table stops
  pub spot_is_first : (s : List (LocatedToken W)) (k : K) (place : ℕ) → Spot table start s k place
      → IsFirstFault L s place
  spot_is_first s k place h = record {
    before = h.before;
    at = h.at;
    after = h.after;
    text = h.text;
    viable = front_from h.before (h.top ∷ h.others) h.reached;
    unended = not_whole h.before h.top h.others h.reached;
    refused = not_front h.before h.at h.top h.others k h.reached h.cannot;
    place_is = h.place_is;
  }

  pub first_fault : (s : List (LocatedToken W)) (k : K) (place : ℕ) → run table start s ≡ stops k place
      → IsFirstFault L s place
  first_fault s k place e = spot_is_first s k place (locate table s start k place e)

  -- nothing stands behind a whole text
  pub nothing_behind : (s rest : List (LocatedToken W)) → run table start s ≡ passes rest
      → IsViablePrefix L (lookaheads s) → rest ≡ []
  nothing_behind s rest e f =
      let h = passed table s start rest e in
      let through = ap (λ l. run table start (l ++ placed f.0)) (sym h.text) ∙ front_passes s f in
      let same = ap (run table start) (append_assoc h.taken rest (placed f.0)) ∙ reaches_run table h.taken start []
      (rest ++ placed f.0) h.reached in
      none_before rest (placed f.0) (same_rest (run table start ((h.taken ++ rest) ++ placed f.0)) (rest ++ placed f.0)
      [] same through)

  -- what passes has no fault
  pub passes_no_fault : (s rest : List (LocatedToken W)) (place : ℕ) → run table start s ≡ passes rest
      → IsFirstFault L s place → ⊥
  passes_no_fault s rest place e f = by (passed table s start rest e)
    where
      by : Passed table start s rest → ⊥
      by h = cases (cut h.taken f.before rest f.after f.at (sym h.text ∙ f.text))
        where
          run_taken : run table start h.taken ≡ passes []
          run_taken = ap (run table start) (sym (append-nil h.taken)) ∙ reaches_run table h.taken start [] [] h.reached

          cases : IsWithin f.before f.at h.taken ⊎ ((i : List (LocatedToken W)) × (f.before ≡ h.taken ++ i)) → ⊥
          cases (inl g) = f.refused (front_before L h.taken (f.before ++ f.at ∷ []) g.0 (g.1 ∙ up_to f.before f.at g.0)
              (whole_is_front L (lookaheads h.taken) (x.sound h.taken run_taken)))
          cases (inr g) =
              let none = nothing_behind f.before g.0 (ap (run table start) g.1 ∙ run_append table h.taken g.0 start
              run_taken) f.viable in
              let same : h.taken ≡ f.before = sym (append-nil h.taken) ∙ ap (λ l. h.taken ++ l) (sym none) ∙ sym g.1 in
              f.unended (subst L (ap lookaheads same) (x.sound h.taken run_taken))

  -- what is too short has none
  pub short_no_fault : (s : List (LocatedToken W)) (place : ℕ) → run table start s ≡ short → IsFirstFault L s place → ⊥
  short_no_fault s place e f =
      let h = wants table s start e in
      f.refused (front_before L s (f.before ++ f.at ∷ []) f.after (f.text ∙ up_to f.before f.at f.after)
      (front_from s (h.0 ∷ h.1) h.2))

  -- where a first fault stands the table stops
  pub stops_there : (s : List (LocatedToken W)) (place : ℕ) → IsFirstFault L s place → (k : K)
      × (run table start s ≡ stops k place)
  stops_there s place f = by (ends (run table start s))
    where
      by : Ends (run table start s) → (k : K) × (run table start s ≡ stops k place)
      by (inl h) = absurd (passes_no_fault s h.0 place h.1 f)
      by (inr (inl h)) = (h.0, h.2 ∙ ap (stops h.0) (one_place L s h.1 place (first_fault s h.0 h.1 h.2) f))
      by (inr (inr h)) = absurd (short_no_fault s place h f)

  pub stops_at_first_fault : (s : List (LocatedToken W)) (place : ℕ) → ((k : K) × (run table start s ≡ stops k place))
      ↔ IsFirstFault L s place
  stops_at_first_fault s place = ((λ h. first_fault s h.0 place h.1), stops_there s place)

  -- at the first fault, the table reports the kind of the fault
  pub spot_of : (s : List (LocatedToken W)) (place : ℕ) (f : IsFirstFault L s place) → (top : S) × (others : List S)
      × (k : K) × Reaches table start f.before (top ∷ others) × (table top f.at.lookahead ≡ Err k)
      × (run table start s ≡ stops k place)
  unfolding spot_is_first
  spot_of s place f =
      let k = stops_there s place f in
      let h = locate table s start k.0 place k.1 in
      let e = one_token L s place place (spot_is_first s k.0 place h) f in
      let P : List (LocatedToken W) → Type 0 = λ l. Reaches table start l (h.top ∷ h.others) in (
        h.top,
        h.others,
        k.0,
        subst P e.0 h.reached,
        ap (λ (t : LocatedToken W). table h.top t.lookahead) (sym e.1)
            ∙ h.cannot,
        k.1,
      )

  -- it asks for more just where they are a front and not whole
  pub asks_for_more : (s : List (LocatedToken W)) → (run table start s ≡ short)
      ↔ (IsViablePrefix L (lookaheads s) × (L (lookaheads s) → ⊥))
  asks_for_more s = (
    (λ e. let h = wants table s start e in (front_from s (h.0 ∷ h.1) h.2, not_whole s h.0 h.1 h.2)),
    (λ h. by h.0 h.1 (ends (run table start s))),
  )
    where
      by : IsViablePrefix L (lookaheads s) → (L (lookaheads s) → ⊥) → Ends (run table start s)
          → run table start s ≡ short
      by f g (inl h) = absurd (g (x.sound s (h.1 ∙ ap passes (nothing_behind s h.0 h.1 f))))
      by f g (inr (inl h)) =
          let d = first_fault s h.0 h.1 h.2 in
          absurd (d.refused (front_before L s (d.before ++ d.at ∷ []) d.after (d.text ∙ up_to d.before d.at d.after) f))
      by f g (inr (inr h)) = h

  -- each list passes, stops or is too short: it begins with a whole text, has a first fault, or is a front of more
  pub decided : (s : List (LocatedToken W)) → ((u v : List (LocatedToken W)) × (s ≡ u ++ v) × L (lookaheads u))
      ⊎ (((place : ℕ) × IsFirstFault L s place) ⊎ (IsViablePrefix L (lookaheads s) × (L (lookaheads s) → ⊥)))
  decided s = by (ends (run table start s))
    where
      by : Ends (run table start s) → ((u v : List (LocatedToken W)) × (s ≡ u ++ v) × L (lookaheads u))
          ⊎ (((place : ℕ) × IsFirstFault L s place) ⊎ (IsViablePrefix L (lookaheads s) × (L (lookaheads s) → ⊥)))
      by (inl h) = let p = passed table s start h.0 h.1 in inl (p.taken, h.0, p.text, whole_taken p.taken p.reached)
      by (inr (inl h)) = inr (inl (h.1, first_fault s h.0 h.1 h.2))
      by (inr (inr h)) = inr (inr ((asks_for_more s).0 h))

  -- no text is the front of a longer one
  pub whole_ends : (s more : List (LocatedToken W)) → L (lookaheads s) → IsViablePrefix L (lookaheads (s ++ more))
      → more ≡ []
  whole_ends s more w f = nothing_behind (s ++ more) more (run_append table s more start (x.passing s w)) f
