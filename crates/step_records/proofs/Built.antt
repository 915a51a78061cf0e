-- What is built, as cells are pushed and lists closed.
use Rattle.std.proofs.Common.{◌≡◌, ◌≤◌, ◌+◌, ℕ, List, [], ◌∷◌, ◌++◌, length, take, drop, sym, ◌∙◌, ap, subst, arith, length-append, length-drop}
use Rattle.std.proofs.lemmas.List.{map-append, drop-map, take-map, take-append-drop, length-map}
use Rattle.parsing.specs.steps.Cells.{Cells}
use Rattle.parsing.specs.steps.Closing.{Closes}
use Rattle.parsing.specs.Nodes.{run, said_at, said_by, AreBefore, GoesOn}
use Rattle.parsing.specs.declared.column.Run.{Run}
use Rattle.parsing.proofs.Grown.{goes_on, said_same, all_later}
use Rattle.step_structures.specs.Trees.{Tree}
use Rattle.step_records.specs.declared.cell.Cell.{Cell}
use Rattle.step_records.specs.Cells.{parameters, IsInText, AreInText}
use Rattle.step_records.specs.steps.Building.{Building, built, Builds}
use Rattle.step_records.proofs.Asking.{asks_inside}

module _ (text : List ℕ) where
  before_join : (i : ℕ) (cs ds : List Cell) → AreBefore (parameters text) i cs → AreBefore (parameters text) i ds
      → AreBefore (parameters text) i (cs ++ ds)
  before_join i [] ds h g = g
  before_join i (c ∷ cs) ds h g = (h.0, before_join i cs ds h.1 g)

  pub before_split : (i : ℕ) (cs ds : List Cell) → AreBefore (parameters text) i (cs ++ ds)
      → AreBefore (parameters text) i cs × AreBefore (parameters text) i ds
  before_split i [] ds h = (tt, h)
  before_split i (c ∷ cs) ds h = let rest = before_split i cs ds h.1 in ((h.0, rest.0), rest.1)

  text_join : (cs ds : List Cell) → AreInText text cs → AreInText text ds → AreInText text (cs ++ ds)
  text_join [] ds h g = g
  text_join (c ∷ cs) ds h g = (h.0, text_join cs ds h.1 g)

  pub text_split : (cs ds : List Cell) → AreInText text (cs ++ ds) → AreInText text cs × AreInText text ds
  text_split [] ds h = (tt, h)
  text_split (c ∷ cs) ds h = let rest = text_split cs ds h.1 in ((h.0, rest.0), rest.1)

  -- a part of what is kept
  pub kept_cut : (n : ℕ) (column kept : List Cell) → Builds text column kept []
      → Builds text column (take n kept) [] × Builds text column (drop n kept) []
  kept_cut n column kept h =
      let places = before_split (length column) (take n kept) (drop n kept) (subst
      (AreBefore (parameters text) (length column)) (sym (take-append-drop n kept)) h.kept_before) in
      let spelt = text_split (take n kept) (drop n kept) (subst (AreInText text)
      (sym (take-append-drop n kept)) h.kept_in_text) in
      (over (take n kept) places.0 spelt.0, over (drop n kept) places.1 spelt.1)
    where
      over : (cs : List Cell) → AreBefore (parameters text) (length column) cs → AreInText text cs
          → Builds text column cs []
      over cs b t = record {
        column_is = h.column_is;
        kept_before = b;
        pending_before = tt;
        column_in_text = h.column_in_text;
        kept_in_text = t;
        pending_in_text = tt;
      }

  -- a list of pending cells is closed: the others say what they said, and the list's cells stand side by side
  pub record IsClosed (old : Cells Cell) (kept : List Cell) (mark : ℕ) (r : Run) (new : Cells Cell) : Type 0 where
    pub builds : Builds text new.column kept new.pending
    pub end : r.first + r.count ≡ length new.column
    pub kept_same : said_by (parameters text) new.column kept ≡ said_by (parameters text) old.column kept
    pub pending_same : said_by (parameters text) new.column new.pending
        ≡ take mark (said_by (parameters text) old.column old.pending)
    pub moved : run (said_at (parameters text) new.column) r.first r.count
        ≡ drop mark (said_by (parameters text) old.column old.pending)

  pub closed : (old : Cells Cell) (kept : List Cell) (mark : ℕ) (r : Run) (new : Cells Cell)
      → Builds text old.column kept old.pending → Closes old mark r new → IsClosed old kept mark r new
  closed old kept mark r new h c =
      let nodes = parameters text in
      let looks = asks_inside text in
      let cs = drop mark old.pending in
      let parts = before_split (length old.column) (take mark old.pending) cs (subst
      (AreBefore nodes (length old.column)) (sym (take-append-drop mark old.pending)) h.pending_before) in
      let spelt = text_split (take mark old.pending) cs (subst (AreInText text)
      (sym (take-append-drop mark old.pending)) h.pending_in_text) in
      let longer : length (old.column ++ cs) ≡ length old.column + length cs = length-append old.column cs in
      let up : length old.column ≤ length (old.column ++ cs) = omega (arith, longer) in
      let go : GoesOn nodes old.column cs = goes_on nodes looks old.column cs h.column_is parts.1 in
      let count : r.count ≡ length cs = omega (arith, c.count, length-drop mark old.pending) in
      rw (c.column, c.pending, c.first) (record {
        builds = record {
          column_is = go.column;
          kept_before = all_later nodes looks (length old.column) (length (old.column ++ cs)) kept up h.kept_before;
          pending_before = all_later nodes looks (length old.column) (length (old.column ++ cs))
              (take mark old.pending) up parts.0;
          column_in_text = text_join old.column cs h.column_in_text spelt.1;
          kept_in_text = h.kept_in_text;
          pending_in_text = spelt.0;
        };
        end = omega (arith, count, longer);
        kept_same = said_same nodes looks old.column cs h.column_is kept h.kept_before;
        pending_same = said_same nodes looks old.column cs h.column_is (take mark old.pending) parts.0
            ∙ sym (take-map (nodes.says (said_at nodes old.column)) mark old.pending);
        moved = ap (run (said_at nodes (old.column ++ cs)) (length old.column)) count ∙ go.moved
            ∙ sym (drop-map (nodes.says (said_at nodes old.column)) mark old.pending);
      })

  -- one more cell is pending, or kept
  pub pending_pushed : (column kept pending : List Cell) (c : Cell) → Builds text column kept pending
      → (parameters text).reach c ≤ length column → IsInText text c.kind c.at c.len
      → Builds text column kept (pending ++ c ∷ [])
  pending_pushed column kept pending c h b t = record {
    column_is = h.column_is;
    kept_before = h.kept_before;
    column_in_text = h.column_in_text;
    kept_in_text = h.kept_in_text;
    pending_before = before_join (length column) pending (c ∷ []) h.pending_before (b, tt);
    pending_in_text = text_join pending (c ∷ []) h.pending_in_text (t, tt);
  }

  pub kept_pushed : (column kept pending : List Cell) (c : Cell) → Builds text column kept pending
      → (parameters text).reach c ≤ length column → IsInText text c.kind c.at c.len
      → Builds text column (kept ++ c ∷ []) pending
  kept_pushed column kept pending c h b t = record {
    column_is = h.column_is;
    pending_before = h.pending_before;
    column_in_text = h.column_in_text;
    pending_in_text = h.pending_in_text;
    kept_before = before_join (length column) kept (c ∷ []) h.kept_before (b, tt);
    kept_in_text = text_join kept (c ∷ []) h.kept_in_text (t, tt);
  }

  pub said_push : (column cs : List Cell) (c : Cell) → said_by (parameters text) column (cs ++ c ∷ [])
      ≡ said_by (parameters text) column cs ++ (parameters text).says (said_at (parameters text) column) c ∷ []
  said_push column cs c = map-append ((parameters text).says (said_at (parameters text) column)) cs (c ∷ [])

  module _ (column kept pending : List Cell) (c : Cell) (x : Tree)
      (says : (parameters text).says (said_at (parameters text) column) c ≡ x) where
    pub pending_built : built text column kept (pending ++ c ∷ []) ≡ record (built text column kept pending) {
      pending = said_by (parameters text) column pending ++ x ∷ [];
    }
    pending_built =
        let more = said_push column pending c ∙ ap (λ y. said_by (parameters text) column pending ++ y ∷ []) says in
        λ i. record { text = text; kept = said_by (parameters text) column kept; pending = more i }

  -- what is built once a list is closed
  module _ (old : Cells Cell) (kept : List Cell) (mark : ℕ) (r : Run) (new : Cells Cell) (h : IsClosed old kept mark r new)
      (c : Cell) (x : Tree) (says : (parameters text).says (said_at (parameters text) new.column) c ≡ x) where
    pub closed_pending : built text new.column kept (new.pending ++ c ∷ []) ≡ record {
      text = text;
      kept = said_by (parameters text) old.column kept;
      pending = take mark (said_by (parameters text) old.column old.pending) ++ x ∷ [];
    }
    closed_pending =
        let more = said_push new.column new.pending c ∙ (λ i. h.pending_same i ++ says i ∷ []) in
        λ i. record { text = text; kept = h.kept_same i; pending = more i }

    pub closed_kept : built text new.column (kept ++ c ∷ []) new.pending ≡ record {
      text = text;
      kept = said_by (parameters text) old.column kept ++ x ∷ [];
      pending = take mark (said_by (parameters text) old.column old.pending);
    }
    closed_kept =
        let more = said_push new.column kept c ∙ (λ i. h.kept_same i ++ says i ∷ []) in
        λ i. record { text = text; kept = more i; pending = h.pending_same i }

  -- how many cells a closed list has
  pub counted : (column kept pending : List Cell) (b : Building) (mark n count : ℕ) → built text column kept pending ≡ b
      → mark + n ≡ length b.pending → mark + count ≡ length pending → count ≡ n
  counted column kept pending b mark n count e f g =
      let seen : length (said_by (parameters text) column pending) ≡ length b.pending = ap (λ x. length x.pending) e in
      let size : length (said_by (parameters text) column pending) ≡ length pending =
      length-map pending ((parameters text).says (said_at (parameters text) column)) in
      omega (arith, seen, size, f, g)

  -- what is pending may be dropped
  pub pending_dropped : (column kept pending : List Cell) → Builds text column kept pending → Builds text column kept []
  pending_dropped column kept pending h = record {
    column_is = h.column_is;
    kept_before = h.kept_before;
    pending_before = tt;
    column_in_text = h.column_in_text;
    kept_in_text = h.kept_in_text;
    pending_in_text = tt;
  }
