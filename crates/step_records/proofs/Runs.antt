-- Cells that stand side by side in a column, and what they say.
use Rattle.std.proofs.Common.{◌≡◌, ◌<◌, ◌≤◌, ◌+◌, ℕ, zero, suc, List, [], ◌∷◌, ◌++◌, length, take, drop, Some, refl, sym, ◌∙◌, ap, subst, arith, append_assoc, length-append, slice_get}
use Rattle.std.proofs.lemmas.List.{take-append-drop, length-take-le, length-map}
use Rattle.std.proofs.lemmas.Option.{slice_get_within}
use Rattle.parsing.specs.Nodes.{run, said_at, IsColumn, AreBefore}
use Rattle.parsing.proofs.Grown.{place_same, cell_same, pushed_place}
use Rattle.step_structures.specs.Trees.{Tree}
use Rattle.step_records.specs.declared.cell.Cell.{Cell}
use Rattle.step_records.specs.Cells.{parameters, IsInText, AreInText}
use Rattle.step_records.specs.steps.Building.{Builds, kept_by, tree_of}
use Rattle.step_records.proofs.Asking.{asks_inside}
use Rattle.step_records.proofs.Built.{before_split, text_split}

pub first_of : {A : Type 0} (x : A) (xs : List A) (c : A) → slice_get (x ∷ xs) 0 ≡ Some c → x ≡ c
first_of x xs c e = cc

-- what stands from a place on
pub drop_at_place : {A : Type 0} (xs : List A) (i : ℕ) (c : A) → slice_get xs i ≡ Some c → drop i xs ≡ c ∷ drop (suc i) xs
drop_at_place [] i c e = absurd (cc)
drop_at_place (x ∷ xs) zero c e = ap (λ y. y ∷ xs) (first_of x xs c e)
drop_at_place (x ∷ xs) (suc i) c e = drop_at_place xs i c e

some_at : {A : Type 0} (xs : List A) (i : ℕ) → i < length xs → (c : A) × (slice_get xs i ≡ Some c)
some_at [] i l = absurd (omega (arith, l))
some_at (x ∷ xs) zero l = (x, refl)
some_at (x ∷ xs) (suc i) l = some_at xs i (omega (arith, l))

got_front : {A : Type 0} (xs ys : List A) (i : ℕ) (c : A) → slice_get xs i ≡ Some c → slice_get (xs ++ ys) i ≡ Some c
got_front [] ys i c e = absurd (cc)
got_front (x ∷ xs) ys zero c e = e
got_front (x ∷ xs) ys (suc i) c e = got_front xs ys i c e

got_seam : {A : Type 0} (xs : List A) (c : A) (rest : List A) → slice_get (xs ++ c ∷ rest) (length xs) ≡ Some c
got_seam [] c rest = refl
got_seam (x ∷ xs) c rest = got_seam xs c rest

module _ (text : List ℕ) where
  front_column : (xs ys : List Cell) → IsColumn (parameters text) (xs ++ ys) → IsColumn (parameters text) xs
  front_column xs ys h = λ i c e. h i c (got_front xs ys i c e)

  seam_said : (xs : List Cell) (c : Cell) (rest : List Cell) → IsColumn (parameters text) (xs ++ c ∷ rest)
      → said_at (parameters text) (xs ++ c ∷ rest) (length xs) ≡ tree_of text (xs ++ c ∷ rest) c
  seam_said xs c rest h =
      let nodes = parameters text in
      let looks = asks_inside text in
      let whole : (xs ++ c ∷ []) ++ rest ≡ xs ++ c ∷ rest = append_assoc xs (c ∷ []) rest in
      let with_it : IsColumn nodes (xs ++ c ∷ []) =
      front_column (xs ++ c ∷ []) rest (subst (IsColumn nodes) (sym whole) h) in
      let front : IsColumn nodes xs = front_column xs (c ∷ rest) h in
      let low : nodes.reach c ≤ length xs = h (length xs) c (got_seam xs c rest) in
      let longer = length-append xs (c ∷ []) in
      ap (λ l. said_at nodes l (length xs)) (sym whole)
      ∙ place_same nodes looks (xs ++ c ∷ []) rest with_it (length xs) (omega (arith, longer))
      ∙ pushed_place nodes looks xs c front low ∙ sym (cell_same nodes looks xs (c ∷ rest) front c low)

  before_all : (n : ℕ) (cs : List Cell)
      → ((i : ℕ) (c : Cell) → slice_get cs i ≡ Some c → (parameters text).reach c ≤ n)
      → AreBefore (parameters text) n cs
  before_all n [] h = tt
  before_all n (c ∷ cs) h = (h 0 c refl, before_all n cs (λ i d e. h (suc i) d e))

  before_one : (n : ℕ) (cs : List Cell) (i : ℕ) (c : Cell) → slice_get cs i ≡ Some c → AreBefore (parameters text) n cs
      → (parameters text).reach c ≤ n
  before_one n [] i c e h = absurd (cc)
  before_one n (d ∷ cs) zero c e h = subst (λ x. (parameters text).reach x ≤ n) (first_of d cs c e) h.0
  before_one n (d ∷ cs) (suc i) c e h = before_one n cs i c e h.1

  pub text_one : (cs : List Cell) (i : ℕ) (c : Cell) → slice_get cs i ≡ Some c → AreInText text cs
      → IsInText text c.kind c.at c.len
  text_one [] i c e h = absurd (cc)
  text_one (d ∷ cs) zero c e h = subst (λ x. IsInText text x.kind x.at x.len) (first_of d cs c e) h.0
  text_one (d ∷ cs) (suc i) c e h = text_one cs i c e h.1

  module _ (column : List Cell) where
    -- as many cells as trees
    pub within_cells : (cs : List Cell) (xs : List Tree) (i : ℕ) → kept_by text column cs ≡ xs → i < length xs
        → i < length cs
    within_cells cs xs i e l =
        let size = ap length e in
        let same = length-map cs (tree_of text column) in
        omega (arith, size, same, l)

    -- the cells of the column are read like those over it
    pub column_builds : (cs ds : List Cell) → Builds text column cs ds → Builds text column column []
    column_builds cs ds h = record {
      column_is = h.column_is;
      kept_before = before_all (length column) column (λ i c e.
          let at = h.column_is i c e in
          let within = slice_get_within column i c e in
          omega (arith, at, within));
      pending_before = tt;
      column_in_text = h.column_in_text;
      kept_in_text = h.column_in_text;
      pending_in_text = tt;
    }

    -- one of them
    pub one_builds : (cs ds : List Cell) (i : ℕ) (c : Cell) → slice_get cs i ≡ Some c → Builds text column cs ds
        → Builds text column (c ∷ []) []
    one_builds cs ds i c e h = record {
      column_is = h.column_is;
      kept_before = (before_one (length column) cs i c e h.kept_before, tt);
      pending_before = tt;
      column_in_text = h.column_in_text;
      kept_in_text = (text_one cs i c e h.kept_in_text, tt);
      pending_in_text = tt;
    }

    -- so many of them from a place on
    pub part_builds : (cs ds : List Cell) (at len : ℕ) → Builds text column cs ds
        → Builds text column (take len (drop at cs)) []
    part_builds cs ds at len h =
        let nodes = parameters text in
        let behind = before_split text (length column) (take at cs) (drop at cs) (subst
        (AreBefore nodes (length column)) (sym (take-append-drop at cs)) h.kept_before) in
        let part = before_split text (length column) (take len (drop at cs)) (drop len (drop at cs)) (subst
        (AreBefore nodes (length column)) (sym (take-append-drop len (drop at cs))) behind.1) in
        let spelt_behind = text_split text (take at cs) (drop at cs) (subst (AreInText text)
        (sym (take-append-drop at cs)) h.kept_in_text) in
        let spelt = text_split text (take len (drop at cs)) (drop len (drop at cs)) (subst (AreInText text)
        (sym (take-append-drop len (drop at cs))) spelt_behind.1) in
        record {
          column_is = h.column_is;
          kept_before = part.0;
          pending_before = tt;
          column_in_text = h.column_in_text;
          kept_in_text = spelt.0;
          pending_in_text = tt;
        }

    module _ (h : IsColumn (parameters text) column) where
      -- what is said at a place
      pub place_said : (i : ℕ) (c : Cell) → slice_get column i ≡ Some c
          → said_at (parameters text) column i ≡ tree_of text column c
      place_said i c e =
          let nodes = parameters text in
          let cut : take i column ++ c ∷ drop (suc i) column ≡ column =
          ap (λ l. take i column ++ l) (sym (drop_at_place column i c e)) ∙ take-append-drop i column in
          let within = slice_get_within column i c e in
          let size : length (take i column) ≡ i = length-take-le i column (omega (arith, within)) in
          let there = seam_said (take i column) c (drop (suc i) column) (subst (IsColumn nodes) (sym cut) h) in
          subst (λ k. said_at nodes column k ≡ tree_of text column c) size
          (subst (λ l. said_at nodes l (length (take i column)) ≡ tree_of text l c) cut there)

      -- what is said at a number of indices from one on
      pub run_said : (at len : ℕ) → at + len ≤ length column
          → run (said_at (parameters text) column) at len ≡ kept_by text column (take len (drop at column))
      run_said at zero l = refl
      run_said at (suc len) l =
          let here = some_at column at (omega (arith, l)) in
          let rest = run_said (suc at) len (omega (arith, l)) in
          (λ i. place_said at here.0 here.1 i ∷ rest i)
          ∙ ap (λ cs. kept_by text column (take (suc len) cs)) (sym (drop_at_place column at here.0 here.1))
