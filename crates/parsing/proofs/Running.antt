-- Running a table, token by token.
use Rattle.std.proofs.Common.{◌≡◌, ℕ, List, [], ◌∷◌, ◌++◌, Result, Ok, Err, refl, sym, ap, ◌∙◌, subst, append_assoc, append-nil, ◌⊎◌, inl, inr}
use Rattle.parsing.specs.Tables.{LocatedToken, lookaheads, Table, Outcome, passes, stops, short, step_on, run}
use Rattle.parsing.specs.Languages.{AllAre, IsComplete}
use Rattle.parsing.proofs.Leading.{Leads, leads_same, leads_parts}
use Rattle.parsing.proofs.Lists.{cut_at, placed, lookaheads_placed, all_append, same_stop, passes_or_stops, passes_or_short, short_or_stops}

-- these tokens turn what is to come into something else
abbrev pub Reaches : {S W K : Type 0} → Table S W K → List S → List (LocatedToken W) → List S → Type 0
Reaches table ys s zs = Leads table ys (lookaheads s) zs

pub run_ok : {S W K : Type 0} (table : Table S W K) (y : S) (zs ys : List S) (t : LocatedToken W)
    (q : List (LocatedToken W)) → table y t.lookahead ≡ Ok zs → run table (y ∷ ys) (t ∷ q) ≡ run table (zs ++ ys) q
run_ok table y zs ys t q e = ap (step_on t.place (λ ws. run table ws q) ys) e

pub run_err : {S W K : Type 0} (table : Table S W K) (y : S) (k : K) (ys : List S) (t : LocatedToken W)
    (q : List (LocatedToken W)) → table y t.lookahead ≡ Err k → run table (y ∷ ys) (t ∷ q) ≡ stops k t.place
run_err table y k ys t q e = ap (step_on t.place (λ ws. run table ws q) ys) e

-- tokens that turn the stack may as well be run
pub reaches_run : {S W K : Type 0} (table : Table S W K) (s : List (LocatedToken W)) (ys zs : List S)
    (q : List (LocatedToken W)) → Reaches table ys s zs → run table ys (s ++ q) ≡ run table zs q
reaches_run table [] ys zs q h = ap (λ l. run table l q) h
reaches_run table (t ∷ s) [] zs q h = absurd h
reaches_run table (t ∷ s) (y ∷ ys) zs q h = run_ok table y h.0 ys t (s ++ q) h.1 ∙ reaches_run table s (h.0 ++ ys) zs q
    h.2

-- one token
pub reaches_one : {S W K : Type 0} (table : Table S W K) (y : S) (zs ys : List S) (t : LocatedToken W)
    → table y t.lookahead ≡ Ok zs → Reaches table (y ∷ ys) (t ∷ []) (zs ++ ys)
reaches_one table y zs ys t e = (zs, e, refl)

-- some tokens and others
pub reaches_join : {S W K : Type 0} (table : Table S W K) (a b : List (LocatedToken W)) (xs ys zs : List S)
    → Reaches table xs a ys → Reaches table ys b zs → Reaches table xs (a ++ b) zs
reaches_join {S} table [] b xs ys zs h g = let P : List S → Type 0 = λ l. Reaches table l b zs in subst P (sym h) g
reaches_join table (t ∷ a) b [] ys zs h g = absurd h
reaches_join table (t ∷ a) b (x ∷ xs) ys zs h g = (h.0, h.1, reaches_join table a b (h.0 ++ xs) ys zs h.2 g)

pub reaches_split : {S W K : Type 0} (table : Table S W K) (a b : List (LocatedToken W)) (xs zs : List S)
    → Reaches table xs (a ++ b) zs → (ys : List S) × Reaches table xs a ys × Reaches table ys b zs
reaches_split table [] b xs zs h = (xs, refl, h)
reaches_split table (t ∷ a) b [] zs h = absurd h
reaches_split table (t ∷ a) b (x ∷ xs) zs h = let r = reaches_split table a b (h.0 ++ xs) zs h.2 in
    (r.0, (h.0, h.1, r.1), r.2)

-- with more to come behind
pub reaches_more : {S W K : Type 0} (table : Table S W K) (s : List (LocatedToken W)) (ys zs b : List S)
    → Reaches table ys s zs → Reaches table (ys ++ b) s (zs ++ b)
reaches_more table [] ys zs b h = ap (λ l. l ++ b) h
reaches_more table (t ∷ s) [] zs b h = absurd h
reaches_more {S} table (t ∷ s) (y ∷ ys) zs b h =
    let P : List S → Type 0 = λ l. Reaches table l s (zs ++ b) in
    (h.0, h.1, subst P (append_assoc h.0 ys b) (reaches_more table s (h.0 ++ ys) zs b h.2))

-- what the tokens reach is determined
pub reaches_once : {S W K : Type 0} (table : Table S W K) (s : List (LocatedToken W)) (ys zs ws : List S)
    → Reaches table ys s zs → Reaches table ys s ws → zs ≡ ws
reaches_once table s ys zs ws h g = leads_same table (lookaheads s) ys zs ws h g

-- what tokens reach depends only on their lookaheads
pub reaches_alike : {S W K : Type 0} (table : Table S W K) (s r : List (LocatedToken W)) (ys zs : List S)
    → lookaheads s ≡ lookaheads r → Reaches table ys s zs → Reaches table ys r zs
reaches_alike {S} {W} table s r ys zs e h = let P : List W → Type 0 = λ l. Leads table ys l zs in subst P e h

-- symbols of a sort that is kept leave only such
pub reaches_keeps : {S W K : Type 0} (table : Table S W K) (sort : S → Type 0) → IsComplete table sort
    → (s : List (LocatedToken W)) (ys zs : List S) → AllAre sort ys → Reaches table ys s zs → AllAre sort zs
reaches_keeps table sort c [] ys zs a h = subst (AllAre sort) h a
reaches_keeps table sort c (t ∷ s) [] zs a h = absurd h
reaches_keeps table sort c (t ∷ s) (y ∷ ys) zs a h = reaches_keeps table sort c s (h.0 ++ ys) zs
    (all_append sort h.0 ys (c.kept y t.lookahead h.0 a.0 h.1) a.1) h.2

-- some tokens complete all symbols of a sort that is complete
pub completes : {S W K : Type 0} (table : Table S W K) (sort : S → Type 0) → IsComplete table sort → (ys : List S)
    → AllAre sort ys → (u : List (LocatedToken W)) × (run table ys u ≡ passes [])
completes table sort c [] a = ([], refl)
completes table sort c (y ∷ ys) a =
    let h = c.completing y a.0 in
    let r = completes table sort c ys a.1 in
    (h.0 ++ r.0, h.1 ys r.0 ∙ r.1)

-- lookaheads that lead from a symbol to nothing more complete it
pub completed_by : {S W K : Type 0} (table : Table S W K) (y : S) (ws : List W) → Leads table (y ∷ []) ws []
    → (u : List (LocatedToken W)) × ((b : List S) (q : List (LocatedToken W)) → run table (y ∷ b) (u ++ q) ≡ run table b
    q)
completed_by {S} {W} table y ws h =
    let P : List W → Type 0 = λ l. Leads table (y ∷ []) l [] in (
      placed ws,
      λ b q. reaches_run table (placed ws) (y ∷ b) b q (reaches_more table (placed ws) (y ∷ []) [] b
          (subst P (sym (lookaheads_placed ws)) h)),
    )

-- What was to come at first is still to come, or it all stood, and others of the tokens are for what is behind it.
pub reaches_parts : {S W K : Type 0} (table : Table S W K) (s : List (LocatedToken W)) (ys b zs : List S)
    → Reaches table (ys ++ b) s zs
    → ((y : S) × (more : List S) × Reaches table ys s (y ∷ more) × (zs ≡ y ∷ more ++ b))
    ⊎ ((u v : List (LocatedToken W)) × (s ≡ u ++ v) × Reaches table ys u [] × Reaches table b v zs)
reaches_parts {S} {W} table s ys b zs h = by (leads_parts table (lookaheads s) ys b zs h)
  where
    by : ((y : S) × (more : List S) × Leads table ys (lookaheads s) (y ∷ more) × (zs ≡ y ∷ more ++ b))
        ⊎ ((u v : List W) × (lookaheads s ≡ u ++ v) × Leads table ys u [] × Leads table b v zs)
        → ((y : S) × (more : List S) × Reaches table ys s (y ∷ more) × (zs ≡ y ∷ more ++ b))
        ⊎ ((u v : List (LocatedToken W)) × (s ≡ u ++ v) × Reaches table ys u [] × Reaches table b v zs)
    by (inl g) = inl g
    by (inr g) =
        let c = cut_at s g.0 g.1 g.2 in
        let P : List W → Type 0 = λ l. Leads table ys l [] in
        let Q : List W → Type 0 = λ l. Leads table b l zs in
        inr (c.0, c.1, c.2, subst P (sym c.3) g.3, subst Q (sym c.4) g.4)

-- where the table stops: a token that can't be next to what stands first on the stack then
pub record Spot {S W K : Type 0} (table : Table S W K) (ys : List S) (s : List (LocatedToken W)) (k : K)
    (place : ℕ) : Type 0 where
  pub before : List (LocatedToken W)
  pub at : LocatedToken W
  pub after : List (LocatedToken W)
  pub text : s ≡ before ++ at ∷ after
  pub place_is : place ≡ at.place
  pub top : S
  pub others : List S
  pub reached : Reaches table ys before (top ∷ others)
  pub cannot : table top at.lookahead ≡ Err k

pub locate : {S W K : Type 0} (table : Table S W K) (s : List (LocatedToken W)) (ys : List S) (k : K) (place : ℕ)
    → run table ys s ≡ stops k place → Spot table ys s k place
locate table s [] k place e = absurd (passes_or_stops (run table [] s) s k place refl e)
locate table [] (y ∷ ys) k place e = absurd (short_or_stops (run table (y ∷ ys) []) k place refl e)
locate {S} {W} {K} table (t ∷ s) (y ∷ ys) k place e = by (λ zs g. locate table s zs k place g) (table y t.lookahead)
    refl e
  where
    by : ((zs : List S) → run table zs s ≡ stops k place → Spot table zs s k place) → (r : Result (List S) K)
        → table y t.lookahead ≡ r → step_on t.place (λ zs. run table zs s) ys r ≡ stops k place
        → Spot table (y ∷ ys) (t ∷ s) k place
    by go (Err j) d g =
        let o : Outcome W K = stops j t.place in
        let p = same_stop o j k t.place place refl g in
        record {
          before = [];
          at = t;
          after = s;
          text = refl;
          place_is = sym p.1;
          top = y;
          others = ys;
          reached = refl;
          cannot = d ∙ ap (λ i. Err i) p.0;
        }
    by go (Ok zs) d g =
        let h = go (zs ++ ys) g in
        record {
          before = t ∷ h.before;
          at = h.at;
          after = h.after;
          text = ap (λ l. t ∷ l) h.text;
          place_is = h.place_is;
          top = h.top;
          others = h.others;
          reached = (zs, d, h.reached);
          cannot = h.cannot;
        }

pub stops_at : {S W K : Type 0} (table : Table S W K) (s : List (LocatedToken W)) (ys : List S) (k : K) (place : ℕ)
    (h : Spot table ys s k place) → run table ys s ≡ stops k place
stops_at table s ys k place h =
    ap (run table ys) h.text ∙ reaches_run table h.before ys (h.top ∷ h.others) (h.at ∷ h.after) h.reached
    ∙ run_err table h.top k h.others h.at h.after h.cannot ∙ ap (stops k) (sym h.place_is)

-- all that was to come stood
pub record Passed {S W K : Type 0} (table : Table S W K) (ys : List S) (s rest : List (LocatedToken W)) : Type 0 where
  pub taken : List (LocatedToken W)
  pub text : s ≡ taken ++ rest
  pub reached : Reaches table ys taken []

pub passed : {S W K : Type 0} (table : Table S W K) (s : List (LocatedToken W)) (ys : List S)
    (rest : List (LocatedToken W)) → run table ys s ≡ passes rest → Passed table ys s rest
passed {S} {W} {K} table s [] rest e = record { taken = []; text = rest_is s rest e; reached = refl }
  where
    rest_is : (s rest : List (LocatedToken W)) → (let o : Outcome W K = passes s in o) ≡ passes rest → s ≡ rest
    rest_is s rest e = cc
passed table [] (y ∷ ys) rest e = absurd (passes_or_short (run table (y ∷ ys) []) rest e refl)
passed {S} {W} {K} table (t ∷ s) (y ∷ ys) rest e = by (λ zs g. passed table s zs rest g) (table y t.lookahead) refl e
  where
    by : ((zs : List S) → run table zs s ≡ passes rest → Passed table zs s rest) → (r : Result (List S) K)
        → table y t.lookahead ≡ r → step_on t.place (λ zs. run table zs s) ys r ≡ passes rest
        → Passed table (y ∷ ys) (t ∷ s) rest
    by go (Err j) d g = absurd (let o : Outcome W K = stops j t.place in passes_or_stops o rest j t.place g refl)
    by go (Ok zs) d g =
        let h = go (zs ++ ys) g in
        record { taken = t ∷ h.taken; text = ap (λ l. t ∷ l) h.text; reached = (zs, d, h.reached) }

-- more is to come
abbrev pub Wants : {S W K : Type 0} → Table S W K → List S → List (LocatedToken W) → Type 0
Wants {S} table ys s = (top : S) × (others : List S) × Reaches table ys s (top ∷ others)

pub wants : {S W K : Type 0} (table : Table S W K) (s : List (LocatedToken W)) (ys : List S) → run table ys s ≡ short
    → Wants table ys s
wants table s [] e = absurd (passes_or_short (run table [] s) s refl e)
wants table [] (y ∷ ys) e = (y, ys, refl)
wants {S} {W} {K} table (t ∷ s) (y ∷ ys) e = by (λ zs g. wants table s zs g) (table y t.lookahead) refl e
  where
    by : ((zs : List S) → run table zs s ≡ short → Wants table zs s) → (r : Result (List S) K) → table y t.lookahead ≡ r
        → step_on t.place (λ zs. run table zs s) ys r ≡ short → Wants table (y ∷ ys) (t ∷ s)
    by go (Err j) d g = absurd (let o : Outcome W K = stops j t.place in short_or_stops o j t.place g refl)
    by go (Ok zs) d g = let h = go (zs ++ ys) g in (h.0, h.1, (zs, d, h.2))

-- a table passes, stops or asks for more
abbrev pub Ends : {W K : Type 0} → Outcome W K → Type 0
Ends {W} {K} o = ((rest : List (LocatedToken W)) × (o ≡ passes rest)) ⊎ (((k : K) × (place : ℕ) × (o ≡ stops k place))
    ⊎ (o ≡ short))

pub ends : {W K : Type 0} (o : Outcome W K) → Ends o
ends (passes rest) = inl (rest, refl)
ends (stops k place) = inr (inl (k, place, refl))
ends short = inr (inr refl)

pub stops_behind : {S W K : Type 0} (table : Table S W K) (s : List (LocatedToken W)) (ys b : List S) (k : K)
    (place : ℕ) → run table ys s ≡ stops k place → run table (ys ++ b) s ≡ stops k place
stops_behind table s ys b k place e =
    let h = locate table s ys k place e in
    stops_at table s (ys ++ b) k place (record {
      before = h.before;
      at = h.at;
      after = h.after;
      text = h.text;
      place_is = h.place_is;
      top = h.top;
      others = h.others ++ b;
      reached = reaches_more table h.before ys (h.top ∷ h.others) b h.reached;
      cannot = h.cannot;
    })

-- one list of tokens and another
pub run_append : {S W K : Type 0} (table : Table S W K) (s q : List (LocatedToken W)) (ys : List S)
    → run table ys s ≡ passes [] → run table ys (s ++ q) ≡ passes q
run_append {S} {W} table s q ys e =
    let h = passed table s ys [] e in
    let P : List (LocatedToken W) → Type 0 = λ l. Reaches table ys l [] in
    reaches_run table s ys [] q (subst P (sym (append-nil h.taken) ∙ sym h.text) h.reached)

-- a stop stays where more follows
pub stops_append : {S W K : Type 0} (table : Table S W K) (s q : List (LocatedToken W)) (ys : List S) (k : K)
    (place : ℕ) → run table ys s ≡ stops k place → run table ys (s ++ q) ≡ stops k place
stops_append table s q ys k place e =
    let h = locate table s ys k place e in
    stops_at table (s ++ q) ys k place (record {
      before = h.before;
      at = h.at;
      after = h.after ++ q;
      text = ap (λ l. l ++ q) h.text ∙ append_assoc h.before (h.at ∷ h.after) q;
      place_is = h.place_is;
      top = h.top;
      others = h.others;
      reached = h.reached;
      cannot = h.cannot;
    })
