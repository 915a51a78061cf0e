-- What is built, as cells are pushed and lists closed.
use Rattle.std.proofs.Common.{◌≡◌, ◌<◌, ◌≤◌, ◌+◌, ℕ, suc, List, [], ◌∷◌, ◌++◌, length, take, drop, map, refl, sym, ◌∙◌, ap, subst, arith, length-append, length-drop, append-nil, ◌⊎◌, inl, inr}
use Rattle.std.specs.List.{All, Contains, sum_by}
use Rattle.std.proofs.lemmas.List.{map-append, take_at, drop_at, drop-map, take-map, take-append-drop}
use Rattle.std.proofs.lemmas.List.Elements.{All-nil, All-push, All-take, All-drop, Contains-append_cases, Contains-append_left, Contains-append_right, Contains-push}
use Rattle.std.proofs.lemmas.List.Sums.{sum_by_push}
use Rattle.parsing.specs.steps.Cells.{Cells}
use Rattle.parsing.specs.steps.Closing.{Closes}
use Rattle.parsing.specs.Nodes.{run, said_by, IsColumn, AreBefore, GoesOn}
use Rattle.parsing.specs.declared.column.Run.{Run}
use Rattle.parsing.proofs.Grown.{goes_on, place_same, said_same, all_later}
use Rattle.step_literals.specs.declared.literal.Word.{Word}
use Rattle.step_values.specs.declared.cell.Cell.{Cell}
use Rattle.step_values.specs.declared.cell.Cell.TheVariants as cells
use Rattle.step_values.specs.steps.Building.{AreReached, AreWithin, built, Builds, Building, Holds, IsOutside, StandApart, rows_by}
use Rattle.step_values.specs.Cells.{flat_value, inner_of, reach_of, IsIn, IsInside, value_at, value_by, value_nodes, values_of_run}
use Rattle.step_values.specs.steps.NodeCounts.{nodes_of, nodes_in}
use Rattle.step_values.specs.steps.Targets.{target_of, targets_of, LeadTo}
use Rattle.step_values.specs.Leaves.{unset}
use Rattle.step_values.specs.Values.{Value, leaf, typed}
use Rattle.step_values.specs.Views.{all_of, word_of}
use Rattle.step_values.proofs.Apart.{grown_apart, none_apart, outside_behind, row_apart}
use Rattle.step_values.proofs.Asking.{asks_inside, inside_reach, run_alike}
use Rattle.step_values.proofs.Counting.{nodes_all, nodes_one, sum_cut, leads_join, leads_split}

before_join : (i : ℕ) (cs ds : List Cell) → AreBefore value_nodes i cs → AreBefore value_nodes i ds
    → AreBefore value_nodes i (cs ++ ds)
before_join i [] ds h g = g
before_join i (c ∷ cs) ds h g = (h.0, before_join i cs ds h.1 g)

before_split : (i : ℕ) (cs ds : List Cell) → AreBefore value_nodes i (cs ++ ds)
    → AreBefore value_nodes i cs × AreBefore value_nodes i ds
before_split i [] ds h = (tt, h)
before_split i (c ∷ cs) ds h = let rest = before_split i cs ds h.1 in ((h.0, rest.0), rest.1)

within_later : (m n : ℕ) (rs : List Run) → m ≤ n → AreWithin m rs → AreWithin n rs
within_later m n [] l h = tt
within_later m n (r ∷ rs) l h = let end = h.0 in (omega (arith, l, end), within_later m n rs l h.1)

within_join : (n : ℕ) (rs ss : List Run) → AreWithin n rs → AreWithin n ss → AreWithin n (rs ++ ss)
within_join n [] ss h g = g
within_join n (r ∷ rs) ss h g = (h.0, within_join n rs ss h.1 g)

-- the rows of a column stay as it grows
rows_stay : (old rest : List Cell) (rs : List Run) → IsColumn value_nodes old → AreWithin (length old) rs
    → rows_by (old ++ rest) rs ≡ rows_by old rs
rows_stay old rest [] h w = refl
rows_stay old rest (r ∷ rs) h w =
    let end = w.0 in
    let row : values_of_run (old ++ rest) r ≡ values_of_run old r =
    ap all_of (run_alike (value_at (old ++ rest)) (value_at old) r.first r.count
    (λ k l m. place_same value_nodes asks_inside old rest h k (omega (arith, m, end)))) in
    λ i. row i ∷ rows_stay old rest rs h w.1 i

said_push : (column cs : List Cell) (c : Cell) → said_by value_nodes column (cs ++ c ∷ [])
    ≡ said_by value_nodes column cs ++ value_by (value_at column) c ∷ []
said_push column cs c = map-append (value_by (value_at column)) cs (c ∷ [])

nothing_mapped : {A B : Type 0} (f : A → B) (xs : List A) → map f xs ≡ [] → xs ≡ []
nothing_mapped f [] e = refl
nothing_mapped f (x ∷ xs) e = absurd (cc)

head_same : (v w : Value) → v ∷ [] ≡ w ∷ [] → v ≡ w
head_same v w e = cc

-- a cell with nothing inside says the same over any column, and is one node
pub flat_says : (f : ℕ → Value) (c : Cell) → reach_of c ≡ 0 → value_by f c ≡ flat_value c
flat_says f c e = asks_inside f (λ _. leaf unset) c (λ k l. absurd (omega (arith, e, l)))

flat_nodes : (c : Cell) → reach_of c ≡ 0 → nodes_of (flat_value c) ≡ 1
flat_nodes (cells.Typed high low w) e = absurd (omega (arith, e))
flat_nodes (cells.Sequence r) e = let none : r.count ≡ 0 = omega (arith, e) in
    ap (λ n. suc (nodes_in (all_of (run (λ _. leaf unset) r.first n)))) none
flat_nodes (cells.Bag r) e = let none : r.count ≡ 0 = omega (arith, e) in
    ap (λ n. suc (nodes_in (all_of (run (λ _. leaf unset) r.first n)))) none
flat_nodes cells.Unset e = refl
flat_nodes cells.Derived e = refl
flat_nodes (cells.Number d) e = refl
flat_nodes (cells.Text t) e = refl
flat_nodes (cells.Bits b) e = refl
flat_nodes (cells.Element w) e = refl
flat_nodes (cells.Reference y row) e = refl

pub flat_one : (f : ℕ → Value) (c : Cell) → reach_of c ≡ 0 → nodes_of (value_by f c) ≡ 1
flat_one f c e = ap nodes_of (flat_says f c e) ∙ flat_nodes c e

-- what is reached stays so, where no cell and no run is lost
reached_still : (n : ℕ) (runs more : List Run) (cs ds : List Cell) → ((r : Run) → Contains runs r → Contains more r)
    → ((c : Cell) → Contains cs c → Contains ds c) → AreReached n runs cs → AreReached n more ds
reached_still n runs more cs ds kept stay h k l = elim (h k l) [
  | inl there ↦ inl (there.0, kept there.0 there.1, there.2)
  | inr there ↦ inr (there.0, stay there.0 there.1, there.2)
]

-- what is reached stays so if further indices are reached too
reached_behind : (m n : ℕ) (runs : List Run) (cs : List Cell) → AreReached m runs cs → ((k : ℕ) → m ≤ k → k < n
    → ((r : Run) × Contains runs r × IsIn r k) ⊎ ((c : Cell) × Contains cs c × IsInside c k)) → AreReached n runs cs
reached_behind m n runs cs h behind k l = go (low_or_high k)
  where
    low_or_high : (k : ℕ) → (k < m) ⊎ (m ≤ k)
    low_or_high k = search arith

    go : (k < m) ⊎ (m ≤ k) → ((r : Run) × Contains runs r × IsIn r k) ⊎ ((c : Cell) × Contains cs c × IsInside c k)
    go (inl low) = h k low
    go (inr high) = behind k high l

-- pending cells of which the last ones go behind a column
moved_still : (mark : ℕ) (column pending : List Cell) (c : Cell) → Contains (column ++ pending) c
    → Contains ((column ++ drop mark pending) ++ take mark pending) c
moved_still mark column pending c h = elim (Contains-append_cases column pending c h) [
  | inl there ↦ Contains-append_left (column ++ drop mark pending) (take mark pending) c
      (Contains-append_left column (drop mark pending) c there)
  | inr there ↦ elim (Contains-append_cases (take mark pending) (drop mark pending) c
      (subst (λ l. Contains l c) (sym (take-append-drop mark pending)) there)) [
        | inl front ↦ Contains-append_right (column ++ drop mark pending) (take mark pending) c front
        | inr back ↦ Contains-append_left (column ++ drop mark pending) (take mark pending) c
            (Contains-append_right column (drop mark pending) c back)
      ]
]

-- one more is pending
pending_still : (column pending : List Cell) (d c : Cell) → Contains (column ++ pending) c
    → Contains (column ++ (pending ++ d ∷ [])) c
pending_still column pending d c h = elim (Contains-append_cases column pending c h) [
  | inl there ↦ Contains-append_left column (pending ++ d ∷ []) c there
  | inr there ↦ Contains-append_right column (pending ++ d ∷ []) c (Contains-append_left pending (d ∷ []) c there)
]

module _ (names : List ℕ) where
  -- nothing is built yet
  pub nothing_built : Builds names [] [] []
  nothing_built = record {
    column_is = λ i c e. absurd (cc);
    within = tt;
    apart = none_apart;
    before = tt;
    outside = All-nil (IsOutside []);
    reached = λ k l. absurd (omega (arith, l));
    count = refl;
    column_leads = tt;
    pending_leads = tt;
  }

  -- a list of pending cells is closed: the others say what they said, and the list's cells stand side by side
  pub record IsClosed (old : Cells Cell) (runs : List Run) (mark : ℕ) (r : Run) (new : Cells Cell) : Type 0 where
    pub column_is : IsColumn value_nodes new.column
    pub within : AreWithin (length new.column) runs
    pub behind : AreWithin r.first runs
    pub apart : StandApart new.column runs
    pub before : AreBefore value_nodes (length new.column) new.pending
    pub outside : All (IsOutside runs) new.pending
    pub reached : AreReached r.first runs (new.column ++ new.pending)
    pub column_leads : LeadTo names (targets_of new.column)
    pub pending_leads : LeadTo names (targets_of new.pending)
    pub count : length new.column + length new.pending ≡ sum_by nodes_in (rows_by old.column runs)
        + sum_by nodes_of (take mark (said_by value_nodes old.column old.pending))
        + sum_by nodes_of (drop mark (said_by value_nodes old.column old.pending))
    pub end : r.first + r.count ≡ length new.column
    pub rows_same : rows_by new.column runs ≡ rows_by old.column runs
    pub pending_same : said_by value_nodes new.column new.pending
        ≡ take mark (said_by value_nodes old.column old.pending)
    pub moved : run (value_at new.column) r.first r.count ≡ drop mark (said_by value_nodes old.column old.pending)

  pub closed : (old : Cells Cell) (runs : List Run) (mark : ℕ) (r : Run) (new : Cells Cell)
      → Builds names old.column runs old.pending → Closes old mark r new → IsClosed old runs mark r new
  closed old runs mark r new h c =
      let cs = drop mark old.pending in
      let parts : AreBefore value_nodes (length old.column) (take mark old.pending)
      × AreBefore value_nodes (length old.column) cs =
      before_split (length old.column) (take mark old.pending) cs (subst
      (AreBefore value_nodes (length old.column)) (sym (take-append-drop mark old.pending)) h.before) in
      let leads : LeadTo names (targets_of (take mark old.pending)) × LeadTo names (targets_of cs) =
      leads_split names (take mark old.pending) cs (subst (λ l. LeadTo names (targets_of l))
      (sym (take-append-drop mark old.pending)) h.pending_leads) in
      let longer : length (old.column ++ cs) ≡ length old.column + length cs = length-append old.column cs in
      let up : length old.column ≤ length (old.column ++ cs) = omega (arith, longer) in
      let go : GoesOn value_nodes old.column cs =
      goes_on value_nodes asks_inside old.column cs h.column_is parts.1 in
      let count : r.count ≡ length cs = omega (arith, c.count, length-drop mark old.pending) in
      let both : length (take mark old.pending) + length cs ≡ length old.pending =
      sym (length-append (take mark old.pending) cs) ∙ ap length (take-append-drop mark old.pending) in
      let nodes = sum_cut nodes_of mark (said_by value_nodes old.column old.pending) in
      let all = h.count in
      rw (c.column, c.pending, c.first) (record {
        column_is = go.column;
        within = within_later (length old.column) (length (old.column ++ cs)) runs up h.within;
        behind = h.within;
        apart = grown_apart old.column runs h.within h.apart cs (All-drop (IsOutside runs) mark old.pending h.outside);
        before = all_later value_nodes asks_inside (length old.column) (length (old.column ++ cs))
            (take mark old.pending) up parts.0;
        outside = All-take (IsOutside runs) mark old.pending h.outside;
        reached = reached_still (length old.column) runs runs (old.column ++ old.pending)
            ((old.column ++ cs) ++ take mark old.pending) (λ q there. there) (moved_still mark old.column old.pending)
            h.reached;
        column_leads = leads_join names old.column cs h.column_leads leads.1;
        pending_leads = leads.0;
        count = omega (arith, longer, both, nodes, all);
        end = omega (arith, count, longer);
        rows_same = rows_stay old.column cs runs h.column_is h.within;
        pending_same = said_same value_nodes asks_inside old.column cs h.column_is (take mark old.pending) parts.0
            ∙ sym (take-map (value_by (value_at old.column)) mark old.pending);
        moved = ap (run (value_at (old.column ++ cs)) (length old.column)) count ∙ go.moved
            ∙ sym (drop-map (value_by (value_at old.column)) mark old.pending);
      })

  alone : (c : Cell) → LeadTo names (target_of c) → LeadTo names (targets_of (c ∷ []))
  alone c t = subst (LeadTo names) (sym (append-nil (target_of c))) t

  -- one more cell is pending that has nothing inside
  module _ (column : List Cell) (runs : List Run) (pending : List Cell) (c : Cell) where
    pub pending_pushed : Builds names column runs pending → reach_of c ≡ 0
        → LeadTo names (target_of c) → nodes_of (value_by (value_at column) c) ≡ 1
        → Builds names column runs (pending ++ c ∷ [])
    pending_pushed h b t one =
        let nodes = sum_by_push nodes_of (said_by value_nodes column pending) (value_by (value_at column) c) in
        let more : sum_by nodes_of (said_by value_nodes column (pending ++ c ∷ [])) ≡ _ =
        ap (sum_by nodes_of) (said_push column pending c) in
        let longer = length-append pending (c ∷ []) in
        let all = h.count in
        record {
          column_is = h.column_is;
          within = h.within;
          apart = h.apart;
          before = before_join (length column) pending (c ∷ []) h.before (omega (arith, b), tt);
          outside = All-push (IsOutside runs) pending c h.outside
              (outside_behind (length column) runs h.within c
              (λ k i. let low = inside_reach c k i in absurd (omega (arith, low, b))));
          reached = reached_still (length column) runs runs (column ++ pending) (column ++ (pending ++ c ∷ []))
              (λ q there. there) (pending_still column pending c) h.reached;
          count = omega (arith, nodes, more, longer, all, one);
          column_leads = h.column_leads;
          pending_leads = leads_join names pending (c ∷ []) h.pending_leads (alone c t);
        }

    pub pending_built : (x : Value) → value_by (value_at column) c ≡ x
        → built names column runs (pending ++ c ∷ []) ≡ record (built names column runs pending) {
          pending = said_by value_nodes column pending ++ x ∷ [];
        }
    pending_built x says =
        let more = said_push column pending c ∙ ap (λ y. said_by value_nodes column pending ++ y ∷ []) says in
        λ i. record { names = names; rows = rows_by column runs; pending = more i }

  -- the parent of a closed list is pending in its place
  module _ (old : Cells Cell) (runs : List Run) (mark : ℕ) (r : Run) (new : Cells Cell)
      (h : IsClosed old runs mark r new) (c : Cell) (x : Value) (low : reach_of c ≤ length new.column)
      (none : target_of c ≡ []) (says : value_by (value_at new.column) c ≡ x)
      (nodes : nodes_of x ≡ suc (sum_by nodes_of (drop mark (said_by value_nodes old.column old.pending)))) where
    parents : said_by value_nodes new.column (new.pending ++ c ∷ [])
        ≡ take mark (said_by value_nodes old.column old.pending) ++ x ∷ []
    parents = said_push new.column new.pending c ∙ (λ i. h.pending_same i ++ says i ∷ [])

    pub parent_pushed : ((k : ℕ) → IsInside c k → r.first ≤ k)
        → ((k : ℕ) → r.first ≤ k → k < length new.column → IsInside c k)
        → Builds names new.column runs (new.pending ++ c ∷ [])
    parent_pushed start full =
        let kept = take mark (said_by value_nodes old.column old.pending) in
        let all : sum_by nodes_of (said_by value_nodes new.column (new.pending ++ c ∷ []))
        ≡ sum_by nodes_of kept + nodes_of x = ap (sum_by nodes_of) parents ∙ sum_by_push nodes_of kept x in
        let rows : sum_by nodes_in (rows_by new.column runs) ≡ sum_by nodes_in (rows_by old.column runs) =
        ap (sum_by nodes_in) h.rows_same in
        let longer = length-append new.pending (c ∷ []) in
        let count = h.count in
        record {
          column_is = h.column_is;
          within = h.within;
          apart = h.apart;
          before = before_join (length new.column) new.pending (c ∷ []) h.before (low, tt);
          outside = All-push (IsOutside runs) new.pending c h.outside (outside_behind r.first runs h.behind c start);
          reached = reached_behind r.first (length new.column) runs (new.column ++ (new.pending ++ c ∷ []))
              (reached_still r.first runs runs (new.column ++ new.pending) (new.column ++ (new.pending ++ c ∷ []))
              (λ q there. there) (pending_still new.column new.pending c) h.reached)
              (λ k from to. inr (
                c,
                Contains-append_right new.column (new.pending ++ c ∷ []) c
                    (Contains-push new.pending c),
                full k from to,
              ));
          count = omega (arith, all, rows, longer, count, nodes);
          column_leads = h.column_leads;
          pending_leads = leads_join names new.pending (c ∷ []) h.pending_leads
              (alone c (subst (LeadTo names) (sym none) tt));
        }

    pub parent_built : built names new.column runs (new.pending ++ c ∷ []) ≡ record {
      names = names;
      rows = rows_by old.column runs;
      pending = take mark (said_by value_nodes old.column old.pending) ++ x ∷ [];
    }
    parent_built = λ i. record { names = names; rows = h.rows_same i; pending = parents i }

  -- the last value becomes a typed one
  module _ (old : Cells Cell) (runs : List Run) (mark : ℕ) (r : Run) (new : Cells Cell)
      (h : IsClosed old runs mark r new) (w : Word) (high low : ℕ) (inner : inner_of high low ≡ r.first)
      (one : r.count ≡ 1) where
    low_typed : suc (inner_of high low) ≤ length new.column
    low_typed = let end = h.end in omega (arith, end, one, inner)

    says_inner : typed (word_of w) (value_at new.column (inner_of high low))
        ≡ typed (word_of w) (value_at new.column r.first)
    says_inner = ap (λ k. typed (word_of w) (value_at new.column k)) inner

    last_said : value_at new.column r.first ∷ [] ≡ drop mark (said_by value_nodes old.column old.pending)
    last_said = ap (run (value_at new.column) r.first) (sym one) ∙ h.moved

    pub typed_pushed : Builds names new.column runs (new.pending ++ cells.Typed high low w ∷ [])
    typed_pushed = parent_pushed old runs mark r new h (cells.Typed high low w)
        (typed (word_of w) (value_at new.column r.first)) low_typed refl says_inner
        (nodes_one _ _ last_said) (λ k i. omega (arith, i, inner))
        (λ k from to. let end = h.end in omega (arith, from, to, end, one, inner))

    pub typed_built : (front : List Value) (v : Value)
        → said_by value_nodes old.column old.pending ≡ front ++ v ∷ [] → mark ≡ length front
        → built names new.column runs (new.pending ++ cells.Typed high low w ∷ []) ≡ record {
          names = names;
          rows = rows_by old.column runs;
          pending = front ++ typed (word_of w) v ∷ [];
        }
    typed_built front v e m =
        let said = said_by value_nodes old.column old.pending in
        let last : drop mark said ≡ v ∷ [] = ap (drop mark) e ∙ drop_at front (v ∷ []) mark (sym m) in
        let before : take mark said ≡ front = ap (take mark) e ∙ take_at front (v ∷ []) mark (sym m) in
        let is : value_at new.column r.first ≡ v =
        head_same (value_at new.column r.first) v (last_said ∙ last) in
        parent_built old runs mark r new h (cells.Typed high low w) (typed (word_of w) v) low_typed refl
        (says_inner ∙ ap (typed (word_of w)) is) (nodes_one v _ (sym last))
        ∙ (λ i. record
        { names = names; rows = rows_by old.column runs; pending = before i ++ typed (word_of w) v ∷ [] })

  -- all that is pending becomes a row
  module _ (old : Cells Cell) (runs : List Run) (r q : Run) (new : Cells Cell)
      (builds : Builds names old.column runs old.pending) (closes : Closes old 0 q new)
      (first : r.first ≡ length old.column) (count : r.count ≡ length old.pending) where
    same_run : r ≡ q
    same_run =
        let f : r.first ≡ q.first = first ∙ sym closes.first in
        let all = closes.count in
        let n : r.count ≡ q.count = omega (arith, all, count) in
        λ i. record { first = f i; count = n i }

    all_closed : IsClosed old runs 0 r new
    all_closed = closed old runs 0 r new builds (subst (λ x. Closes old 0 x new) (sym same_run) closes)

    rows_more : rows_by new.column (runs ++ r ∷ [])
        ≡ rows_by old.column runs ++ all_of (said_by value_nodes old.column old.pending) ∷ []
    rows_more =
        let h = all_closed in
        map-append (values_of_run new.column) runs (r ∷ []) ∙ (λ i. h.rows_same i ++ all_of (h.moved i) ∷ [])

    pub row_pushed : Builds names new.column (runs ++ r ∷ []) new.pending
    row_pushed =
        let h = all_closed in
        let said = said_by value_nodes old.column old.pending in
        let sums : sum_by nodes_in (rows_by new.column (runs ++ r ∷ []))
        ≡ sum_by nodes_in (rows_by old.column runs) + nodes_in (all_of said) =
        ap (sum_by nodes_in) rows_more ∙ sum_by_push nodes_in (rows_by old.column runs) (all_of said) in
        let inside : nodes_in (all_of said) ≡ sum_by nodes_of said = nodes_all said in
        let empty : sum_by nodes_of (said_by value_nodes new.column new.pending) ≡ 0 =
        ap (sum_by nodes_of) h.pending_same in
        let all = h.count in
        let end = h.end in
        record {
          column_is = h.column_is;
          within = within_join (length new.column) runs (r ∷ []) h.within (omega (arith, end), tt);
          apart = subst (λ l. StandApart l (runs ++ r ∷ [])) (sym closes.column)
              (row_apart old.column runs builds.within builds.apart old.pending builds.outside builds.column_is
              builds.before r first);
          before = h.before;
          outside = subst (All (IsOutside (runs ++ r ∷ []))) (sym closes.pending) (All-nil (IsOutside (runs ++ r ∷ [])));
          reached = reached_behind r.first (length new.column) (runs ++ r ∷ []) (new.column ++ new.pending)
              (reached_still r.first runs (runs ++ r ∷ []) (new.column ++ new.pending) (new.column ++ new.pending)
              (λ q there. Contains-append_left runs (r ∷ []) q there) (λ c there. there) h.reached)
              (λ k from to. inl (r, Contains-push runs r, (from, omega (arith, to, end))));
          count = omega (arith, sums, inside, empty, all);
          column_leads = h.column_leads;
          pending_leads = h.pending_leads;
        }

    pub row_built : built names new.column (runs ++ r ∷ []) new.pending ≡ record {
      names = names;
      rows = rows_by old.column runs ++ all_of (said_by value_nodes old.column old.pending) ∷ [];
      pending = [];
    }
    row_built =
        let h = all_closed in λ i. record { names = names; rows = rows_more i; pending = h.pending_same i }

  module _ (column : List Cell) (runs : List Run) (pending : List Cell) (b : Building)
      (is : built names column runs pending ≡ b) (h : Builds names column runs pending) where
    -- rows that are whole, where no value is pending
    pub finished : b.pending ≡ [] → Holds column runs
    finished e =
        let seen : said_by value_nodes column pending ≡ [] = ap (λ x. x.pending) is ∙ e in
        let none : pending ≡ [] = nothing_mapped _ pending seen in
        let all : Builds names column runs [] = subst (Builds names column runs) none h in
        let count = all.count in
        record {
          column_is = all.column_is;
          within = all.within;
          apart = all.apart;
          reached = subst (AreReached (length column) runs) (append-nil column) all.reached;
          count = omega (arith, count);
        }
