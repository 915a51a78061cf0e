-- Copies of values, and rows that are put together of them.
use Rattle.std.proofs.Common.{◌≡◌, ℕ, zero, suc, ◌+◌, Bool, true, false, cond, List, [], ◌∷◌, ◌++◌, Option, Some, Result, Ok, Err, length, take, drop, slice_get, refl, sym, ◌∙◌, ap, subst, append_assoc, append-nil, eq-eqb}
use Rattle.std.specs.Prelude.{◌==◌, MatchResult, OnOk}
use Rattle.std.specs.Option.{option_map}
use Rattle.step_values.specs.steps.Building.{Building}
use Rattle.step_values.specs.References.{EachReference, EachReferenceOf}
use Rattle.step_values.specs.steps.Slots.{nth}
use Rattle.step_values.specs.steps.Targets.{ReferTo}
use Rattle.step_values.specs.Values.{Value, Values, none, more}
use Rattle.step_values.specs.Views as views
use Rattle.step_values.proofs.References.{each_weaker_of}
use Rattle.population_rows.specs.Index.{place_of}
use Rattle.parameter_fits.specs.steps.Pushing.{listed, Pushes, PushesEach}
use Rattle.parameter_fits.specs.steps.References.{IsFound}
use Rattle.parameter_fits.proofs.Pushed.{closed}
use Rattle.typed_populations.specs.declared.value_order.Order.{Order}
use Rattle.typed_populations.specs.ValueOrder.{order_among, row_picked, rows_picked}

-- so many values more are pending, once these others are
abbrev pub PushesUpTo : Building → Building → Values → Values → Type 0
PushesUpTo old new vs left = record new { pending = new.pending ++ listed left }
    ≡ record old { pending = old.pending ++ listed vs }

-- the names stay
pub names_stay : (old new : Building) (vs left : Values) → PushesUpTo old new vs left → new.names ≡ old.names
names_stay old new vs left p = ap (λ (b : Building). b.names) p

-- one more of what is left
pub pushed_one : (old mid new : Building) (vs left behind : Values) (v : Value) → left ≡ more v behind
    → PushesUpTo old mid vs left → Pushes mid new v → PushesUpTo old new vs behind
pushed_one old mid new vs left behind v cut before now =
    ap (λ (b : Building). record b { pending = b.pending ++ listed behind }) now
    ∙ ap (λ (l : List Value). record mid { pending = l })
    (append_assoc mid.pending (v ∷ []) (listed behind) ∙ ap (λ us. mid.pending ++ listed us) (sym cut))
    ∙ before

pub pushed_all : (old new : Building) (vs left : Values) → left ≡ none → PushesUpTo old new vs left
    → PushesEach old new vs
pushed_all old new vs left end p =
    ap (λ (l : List Value). record new { pending = l })
    (sym (append-nil new.pending) ∙ ap (λ us. new.pending ++ listed us) (sym end))
    ∙ p

-- copies that are put together in a list, as the call that closes it answers
pub list_copied : {A E : Type 0} (make : Values → Value) (old mid new : Building) (mark : ℕ)
    → mark ≡ length old.pending → (vs : Values) → PushesEach old mid vs → (r : Result A E)
    → MatchResult r (λ _. new ≡ record mid {
      pending = take mark mid.pending
          ++ make (views.all_of (drop mark mid.pending)) ∷ [];
    })
    (λ _. new.names ≡ mid.names)
    → MatchResult r (λ _. Pushes old new (make vs)) (λ _. new.names ≡ old.names)
list_copied make old mid new mark m vs p (Ok u) e = closed make old mid new vs mark p m e
list_copied make old mid new mark m vs p (Err u) e = e ∙ ap (λ (b : Building). b.names) p

-- the references in one of some values
pub refers_at : (P : ℕ → Type 0) (vs : Values) (i : ℕ) (v : Value) → nth vs i ≡ Some v → EachReferenceOf P vs
    → EachReference P v
refers_at P none i v e h = absurd (cc)
refers_at P (more u vs) zero v e h = let same : u ≡ v = cc in subst (EachReference P) same h.0
refers_at P (more u vs) (suc i) v e h = refers_at P vs i v e h.1

-- what is pending is closed as a row
all_listed : (vs : Values) → views.all_of (listed vs) ≡ vs
all_listed none = refl
all_listed (more v vs) = ap (more v) (all_listed vs)

pub pushes_none : (old : Building) → PushesEach old old none
pushes_none old = ap (λ (l : List Value). record old { pending = l }) (sym (append-nil old.pending))

pub row_closed : {A E : Type 0} (old mid new : Building) (vs : Values) → old.pending ≡ [] → PushesEach old mid vs
    → (r : Result A E)
    → MatchResult r (λ _. new ≡ record mid {
      rows = mid.rows ++ views.all_of mid.pending ∷ [];
      pending = [];
    })
    (λ _. new.names ≡ mid.names)
    → OnOk r (new ≡ record old { rows = old.rows ++ vs ∷ [] })
row_closed old mid new vs whole p (Ok u) e =
    e ∙ ap (λ (b : Building). record b { rows = b.rows ++ views.all_of b.pending ∷ []; pending = [] }) p
    ∙ ap (λ (l : List Value). record old { rows = old.rows ++ views.all_of (l ++ listed vs) ∷ []; pending = [] }) whole
    ∙ ap (λ us. record old { rows = old.rows ++ us ∷ []; pending = [] }) (all_listed vs)
    ∙ ap (λ (l : List Value). record old { rows = old.rows ++ vs ∷ []; pending = l }) (sym whole)
row_closed old mid new vs whole p (Err u) e = tt

-- all names that stand in a list have places
behind_found : (b : Bool) (o : Option ℕ) → (row : ℕ) × (o ≡ Some row)
    → (row : ℕ) × (cond b (Some 0) (option_map suc o) ≡ Some row)
behind_found true o h = (0, refl)
behind_found false o h = (suc h.0, ap (option_map suc) h.1)

pub has_place : (y : ℕ) (names : List ℕ) (i : ℕ) → slice_get names i ≡ Some y
    → (row : ℕ) × (place_of names y ≡ Some row)
has_place y [] i e = absurd (cc)
has_place y (n ∷ names) zero e =
    let same : n ≡ y = cc in
    (0, ap (λ b. cond b (Some 0) (option_map suc (place_of names y))) (eq-eqb n y same))
has_place y (n ∷ names) (suc i) e = behind_found (n == y) (place_of names y) (has_place y names i e)

pub row_refers : (names : List ℕ) (rows : List Values) (i : ℕ) (vs : Values) → slice_get rows i ≡ Some vs
    → ReferTo names rows → EachReferenceOf (λ y. (k : ℕ) × (slice_get names k ≡ Some y)) vs
row_refers names [] i vs e h = absurd (cc)
row_refers names (us ∷ rows) zero vs e h =
    let same : us ≡ vs = cc in
    subst (EachReferenceOf (λ y. (k : ℕ) × (slice_get names k ≡ Some y))) same h.0
row_refers names (us ∷ rows) (suc i) vs e h = row_refers names rows i vs e h.1

-- each reference of a row is found, where the names of all are
pub row_found : (names : List ℕ) (find : ℕ → Option ℕ) → ((y : ℕ) → find y ≡ place_of names y)
    → (rows : List Values) (i : ℕ) (vs : Values) → slice_get rows i ≡ Some vs → ReferTo names rows
    → EachReferenceOf (IsFound find) vs
row_found names find same rows i vs e h =
    each_weaker_of (λ y. (k : ℕ) × (slice_get names k ≡ Some y)) (IsFound find) there vs
    (row_refers names rows i vs e h)
  where
    there : (y : ℕ) → (k : ℕ) × (slice_get names k ≡ Some y) → IsFound find y
    there y at = let row = has_place y names at.0 at.1 in (row.0, same y ∙ row.1)

-- one more row
pub row_next : (orders : List Order) (ns : List (Option ℕ)) (rows : List Values) (i : ℕ) (n : Option ℕ) (vs : Values)
    → drop i ns ≡ n ∷ drop (i + 1) ns → drop i rows ≡ vs ∷ drop (i + 1) rows
    → rows_picked orders (drop i ns) (drop i rows)
    ≡ row_picked (order_among orders n) vs ∷ rows_picked orders (drop (i + 1) ns) (drop (i + 1) rows)
row_next orders ns rows i n vs numbers values = λ k. rows_picked orders (numbers k) (values k)

pub row_made : (old new : Building) (vs : Values) (left behind all : List Values)
    → new ≡ record old { rows = old.rows ++ vs ∷ [] } → left ≡ vs ∷ behind → old.rows ++ left ≡ all
    → new.rows ++ behind ≡ all
row_made old new vs left behind all now cut before =
    ap (λ (b : Building). b.rows ++ behind) now ∙ append_assoc old.rows (vs ∷ []) behind
    ∙ ap (λ l. old.rows ++ l) (sym cut)
    ∙ before
