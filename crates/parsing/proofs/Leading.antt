-- What turns a stack into another, by lookaheads alone.
use Rattle.std.proofs.Common.{◌≡◌, List, [], ◌∷◌, ◌++◌, Ok, refl, sym, ap, ◌∙◌, subst, append_assoc, ◌⊎◌, inl, inr}
use Rattle.parsing.specs.Tables.{Table}

-- these lookaheads turn what is to come into something else
abbrev pub Leads : {S W K : Type 0} → Table S W K → List S → List W → List S → Type 0
Leads table ys [] zs = ys ≡ zs
Leads table [] (w ∷ ws) zs = ⊥
Leads {S} table (y ∷ ys) (w ∷ ws) zs = (us : List S) × (table y w ≡ Ok us) × Leads table (us ++ ys) ws zs

-- some lookaheads and others
pub leads_join : {S W K : Type 0} (table : Table S W K) (u v : List W) (xs ys zs : List S) → Leads table xs u ys
    → Leads table ys v zs → Leads table xs (u ++ v) zs
leads_join {S} table [] v xs ys zs h g = let P : List S → Type 0 = λ l. Leads table l v zs in subst P (sym h) g
leads_join table (w ∷ u) v [] ys zs h g = absurd h
leads_join table (w ∷ u) v (x ∷ xs) ys zs h g = (h.0, h.1, leads_join table u v (h.0 ++ xs) ys zs h.2 g)

pub leads_split : {S W K : Type 0} (table : Table S W K) (u v : List W) (xs zs : List S) → Leads table xs (u ++ v) zs
    → (ys : List S) × Leads table xs u ys × Leads table ys v zs
leads_split table [] v xs zs h = (xs, refl, h)
leads_split table (w ∷ u) v [] zs h = absurd h
leads_split table (w ∷ u) v (x ∷ xs) zs h = let r = leads_split table u v (h.0 ++ xs) zs h.2 in
    (r.0, (h.0, h.1, r.1), r.2)

-- with more to come behind
pub leads_more : {S W K : Type 0} (table : Table S W K) (ws : List W) (ys zs b : List S) → Leads table ys ws zs
    → Leads table (ys ++ b) ws (zs ++ b)
leads_more table [] ys zs b h = ap (λ l. l ++ b) h
leads_more table (w ∷ ws) [] zs b h = absurd h
leads_more {S} table (w ∷ ws) (y ∷ ys) zs b h =
    let P : List S → Type 0 = λ l. Leads table l ws (zs ++ b) in
    (h.0, h.1, subst P (append_assoc h.0 ys b) (leads_more table ws (h.0 ++ ys) zs b h.2))

-- if symbols and those after them leave nothing, the lookaheads split into those of each
pub leads_apart : {S W K : Type 0} (table : Table S W K) (ws : List W) (ys b : List S) → Leads table (ys ++ b) ws []
    → (u v : List W) × (ws ≡ u ++ v) × Leads table ys u [] × Leads table b v []
leads_apart table ws [] b h = ([], ws, refl, refl, h)
leads_apart table [] (y ∷ ys) b h = absurd cc
leads_apart {S} table (w ∷ ws) (y ∷ ys) b h =
    let P : List S → Type 0 = λ l. Leads table l ws [] in
    let r = leads_apart table ws (h.0 ++ ys) b (subst P (sym (append_assoc h.0 ys b)) h.2) in
    (w ∷ r.0, r.1, ap (λ l. w ∷ l) r.2, (h.0, h.1, r.3), r.4)

-- what they lead to is determined
pub leads_same : {S W K : Type 0} (table : Table S W K) (ws : List W) (ys zs xs : List S) → Leads table ys ws zs
    → Leads table ys ws xs → zs ≡ xs
leads_same table [] ys zs xs h g = sym h ∙ g
leads_same table (w ∷ ws) [] zs xs h g = absurd h
leads_same {S} table (w ∷ ws) (y ∷ ys) zs xs h g =
    let same : g.0 ≡ h.0 = cc in
    let P : List S → Type 0 = λ l. Leads table (l ++ ys) ws xs in
    leads_same table ws (h.0 ++ ys) zs xs h.2 (subst P same g.2)

-- What was to come at first is still to come, or it all stood, and others of the lookaheads are for what is behind it.
pub leads_parts : {S W K : Type 0} (table : Table S W K) (ws : List W) (ys b zs : List S) → Leads table (ys ++ b) ws zs
    → ((y : S) × (more : List S) × Leads table ys ws (y ∷ more) × (zs ≡ y ∷ more ++ b))
    ⊎ ((u v : List W) × (ws ≡ u ++ v) × Leads table ys u [] × Leads table b v zs)
leads_parts table ws [] b zs h = inr ([], ws, refl, refl, h)
leads_parts table [] (y ∷ ys) b zs h = inl (y, ys, refl, sym h)
leads_parts {S} {W} table (w ∷ ws) (y ∷ ys) b zs h =
    let P : List S → Type 0 = λ l. Leads table l ws zs in
    by (leads_parts table ws (h.0 ++ ys) b zs (subst P (sym (append_assoc h.0 ys b)) h.2))
  where
    by : ((x : S) × (more : List S) × Leads table (h.0 ++ ys) ws (x ∷ more) × (zs ≡ x ∷ more ++ b))
        ⊎ ((u v : List W) × (ws ≡ u ++ v) × Leads table (h.0 ++ ys) u [] × Leads table b v zs)
        → ((x : S) × (more : List S) × Leads table (y ∷ ys) (w ∷ ws) (x ∷ more) × (zs ≡ x ∷ more ++ b))
        ⊎ ((u v : List W) × (w ∷ ws ≡ u ++ v) × Leads table (y ∷ ys) u [] × Leads table b v zs)
    by (inl g) = inl (g.0, g.1, (h.0, h.1, g.2), g.3)
    by (inr g) = inr (w ∷ g.0, g.1, ap (λ l. w ∷ l) g.2, (h.0, h.1, g.3), g.4)

-- of lookaheads no more and no fewer lead to nothing more
pub leads_once : {S W K : Type 0} (table : Table S W K) (ys : List S) (u v a b : List W) → Leads table ys u []
    → Leads table ys v [] → u ++ a ≡ v ++ b → (u ≡ v) × (a ≡ b)
leads_once table ys [] [] a b h g e = (refl, e)
leads_once table [] [] (w ∷ v) a b h g e = absurd g
leads_once table (y ∷ ys) [] (w ∷ v) a b h g e = absurd cc
leads_once table [] (w ∷ u) v a b h g e = absurd h
leads_once table (y ∷ ys) (w ∷ u) [] a b h g e = absurd cc
leads_once {S} {W} table (y ∷ ys) (w ∷ u) (x ∷ v) a b h g e =
    let first : w ≡ x = cc in
    let behind : u ++ a ≡ v ++ b = cc in
    let same : g.0 ≡ h.0 = cc in
    let P : List S → Type 0 = λ l. Leads table (l ++ ys) v [] in
    let more = leads_once table (h.0 ++ ys) u v a b h.2 (subst P same g.2) behind in
    ((λ i. first i ∷ more.0 i), more.1)
