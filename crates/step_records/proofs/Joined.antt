-- Literals with one comma between each and the next, and the stretch of the text where they stand.
use Rattle.std.proofs.Common.{◌≡◌, ◌<◌, ◌≤◌, ◌+◌, ◌-◌, ℕ, zero, suc, add-one, Bool, true, false, List, [], ◌∷◌, ◌++◌, Some, length, take, drop, slice_get, refl, sym, ◌∙◌, ap, subst, arith, append_assoc, append-nil, length-append, length-drop}
use Rattle.std.specs.Prelude.{◌&&◌, Option, None, IfSome}
use Rattle.parsing.specs.Nodes.{said_at}
use Rattle.std.proofs.lemmas.Bool.{false≢true}
use Rattle.std.proofs.lemmas.List.{drop-take, drop-drop, take_at, take-append-drop, take_all}
use Rattle.std.proofs.lemmas.Option.{slice_get_within}
use Rattle.step_structures.specs.Trees.{Tree, group}
use Rattle.step_structures.specs.Normal.{plain_tree, plain_trees, plain_more}
use Rattle.step_records.specs.declared.cell.Cell.{Cell}
use Rattle.step_records.specs.declared.cell.Kind.{Kind}
use Rattle.step_records.specs.declared.cell.Kind.TheVariants as kinds
use Rattle.step_records.specs.declared.cell.Leaf.TheVariants as leaves
use Rattle.step_records.specs.Cells.{all_of, part, parameters, reach_as, says_as, is_literal, IsInText, AreInText}
use Rattle.step_records.specs.steps.Building.{Builds, kept_by, tree_of}
use Rattle.step_records.specs.Params.{is_literal_tree, are_literals}
use Rattle.step_records.specs.steps.Places.{IsAt, Stands, AreStanding}
use Rattle.step_records.proofs.Runs.{drop_at_place, first_of, text_one, run_said, part_builds, column_builds}

both_true : (a b : Bool) → a ≡ true → b ≡ true → (a && b) ≡ true
both_true true b e f = f
both_true false b e f = absurd (false≢true e)

both : (a b : Bool) → (a && b) ≡ true → (a ≡ true) × (b ≡ true)
both true b e = (refl, e)
both false b e = absurd (false≢true e)

module _ (text : List ℕ) where
  at_part : (at len : ℕ) → at + len ≤ length text → IsAt text (part text at len) at (at + len)
  at_part at len h = record {
    before = omega arith;
    within = h;
    reads = sym (take-append-drop len (drop at text)) ∙ ap (λ l. part text at len ++ l) (drop-drop len at text);
  }

  at_byte : (b i : ℕ) → slice_get text i ≡ Some b → IsAt text (b ∷ []) i (i + 1)
  at_byte b i e =
      let within = slice_get_within text i b e in
      let next : suc i ≡ i + 1 = omega arith in
      record {
        before = omega arith;
        within = omega (arith, within);
        reads = drop_at_place text i b e ∙ ap (λ n. b ∷ drop n text) next;
      }

  at_join : (u w : List ℕ) (from mid end : ℕ) → IsAt text u from mid → IsAt text w mid end
      → IsAt text (u ++ w) from end
  at_join u w from mid end h g = let a = h.before in
      let b = g.before in
      record {
        before = omega (arith, a, b);
        within = g.within;
        reads = h.reads ∙ ap (λ l. u ++ l) g.reads ∙ sym (append_assoc u w (drop end text));
      }

  -- the stretch of the text
  pub at_stretch : (w : List ℕ) (from end : ℕ) → IsAt text w from end → w ≡ drop from (take end text)
  at_stretch w from end h =
      let a = h.before in
      let b = h.within in
      let size : length text - from ≡ length w + (length text - end) = sym (length-drop from text) ∙ ap length h.reads
      ∙ length-append w (drop end text) ∙ ap (λ n. length w + n) (length-drop end text) in
      let last : from + length w ≡ end = omega (arith, size, a, b) in
      sym (take_at w (drop end text) (length w) refl) ∙ ap (take (length w)) (sym h.reads)
      ∙ sym (drop-take from (length w) text) ∙ ap (λ n. drop from (take n text)) last

  -- a leaf that is a literal
  pub literal_within : (k : Kind) (at len : ℕ) → is_literal k ≡ true → IsInText text k at len → at + len ≤ length text
  literal_within (kinds.Leaf k) at len e h = h.0
  literal_within _ at len e h = absurd (false≢true e)

  pub literal_stands : (f : ℕ → Tree) (k : Kind) (at len : ℕ) → is_literal k ≡ true → IsInText text k at len
      → Stands text (says_as text f k at len) at (at + len)
  literal_stands f (kinds.Leaf leaves.Number) at len e h = (at_part at len h.0, refl)
  literal_stands f (kinds.Leaf leaves.Text) at len e h = (at_part at len h.0, refl)
  literal_stands f (kinds.Leaf leaves.Bits) at len e h = (at_part at len h.0, refl)
  literal_stands f _ at len e h = absurd (false≢true e)

  -- one alone
  pub one_stands : (x : Tree) (from end : ℕ) → Stands text x from end → AreStanding text (x ∷ []) from end
  one_stands x from end h = (
    subst (λ w. IsAt text w from end) (sym (append-nil (plain_tree x))) h.0,
    both_true (is_literal_tree x) true h.1 refl,
  )

  more_push : (xs : List Tree) (y : Tree) → plain_more (all_of (xs ++ y ∷ [])) ≡ plain_more (all_of xs)
      ++ (44 ∷ plain_tree y)
  more_push [] y = append-nil (44 ∷ plain_tree y)
  more_push (x ∷ xs) y = ap (λ l. (44 ∷ plain_tree x) ++ l) (more_push xs y)
      ∙ sym (append_assoc (44 ∷ plain_tree x) (plain_more (all_of xs)) (44 ∷ plain_tree y))

  literals_push : (xs : List Tree) (y : Tree) → are_literals (all_of xs) ≡ true → is_literal_tree y ≡ true
      → are_literals (all_of (xs ++ y ∷ [])) ≡ true
  literals_push [] y e f = both_true (is_literal_tree y) true f refl
  literals_push (x ∷ xs) y e f =
      let p = both (is_literal_tree x) (are_literals (all_of xs)) e in
      both_true (is_literal_tree x) (are_literals (all_of (xs ++ y ∷ []))) p.0 (literals_push xs y p.1 f)

  -- one more behind a comma
  pub next_stands : (x : Tree) (xs : List Tree) (y : Tree) (from end past : ℕ) → AreStanding text (x ∷ xs) from end
      → slice_get text end ≡ Some 44 → Stands text y (end + 1) past
      → AreStanding text ((x ∷ xs) ++ y ∷ []) from past
  next_stands x xs y from end past h comma g =
      let all = plain_tree x ++ plain_more (all_of xs) in
      let words : all ++ (44 ∷ plain_tree y) ≡ plain_trees (all_of ((x ∷ xs) ++ y ∷ [])) =
      append_assoc (plain_tree x) (plain_more (all_of xs)) (44 ∷ plain_tree y)
      ∙ ap (λ l. plain_tree x ++ l) (sym (more_push xs y)) in (
        subst (λ w. IsAt text w from past) words (at_join all (44 ∷ plain_tree y) from end past h.0
            (at_join (44 ∷ []) (plain_tree y) end (end + 1) past (at_byte 44 end comma) g.0)),
        literals_push (x ∷ xs) y h.1 g.1,
      )

  -- parentheses around them
  pub list_stands : (ts : List Tree) (from end : ℕ) → 0 < from → AreStanding text ts from end
      → slice_get text (from - 1) ≡ Some 40 → slice_get text end ≡ Some 41
      → Stands text (group (all_of ts)) (from - 1) (end + 1)
  list_stands ts from end some h opens closes =
      let whole : from - 1 + 1 ≡ from = omega (arith, some) in
      let words = plain_trees (all_of ts) in
      let begun : IsAt text (40 ∷ []) (from - 1) from = subst (λ n. IsAt text (40 ∷ []) (from - 1) n) whole
      (at_byte 40 (from - 1) opens) in (
        at_join (40 ∷ []) (words ++ 41 ∷ []) (from - 1) from (end + 1) begun (at_join words (41 ∷ []) from end (end + 1)
            h.0 (at_byte 41 end closes)),
        h.1,
      )

  -- a cell behind the first
  pub got_behind : (cells further : List Cell) (d : Cell) (i : ℕ) (c : Cell) → cells ≡ d ∷ further
      → slice_get further i ≡ Some c → slice_get cells (i + 1) ≡ Some c
  got_behind cells further d i c e g = ap (λ l. slice_get l (i + 1)) e ∙ (rw add-one g)

  pub text_behind : (cells further : List Cell) (d : Cell) (i : ℕ) (c : Cell) → cells ≡ d ∷ further
      → slice_get further i ≡ Some c → AreInText text cells → IsInText text c.kind c.at c.len
  text_behind cells further d i c e g h = text_one text further i c g (subst (AreInText text) e h).1

  module _ (column : List Cell) where
    kept_push : (xs : List Cell) (i : ℕ) (c : Cell) → slice_get xs i ≡ Some c → kept_by text column (take (suc i) xs)
        ≡ kept_by text column (take i xs) ++ tree_of text column c ∷ []
    kept_push [] i c e = absurd (cc)
    kept_push (x ∷ xs) zero c e = ap (λ d. tree_of text column d ∷ []) (first_of x xs c e)
    kept_push (x ∷ xs) (suc i) c e = ap (λ l. tree_of text column x ∷ l) (kept_push xs i c e)

    -- the first of some cells
    pub first_taken : (cells further : List Cell) (d : Cell) (from end : ℕ) → cells ≡ d ∷ further
        → Stands text (tree_of text column d) from end
        → AreStanding text (kept_by text column (take 1 cells)) from end
    first_taken cells further d from end e h =
        subst (λ cs. AreStanding text (kept_by text column (take 1 cs)) from end) (sym e)
        (one_stands (tree_of text column d) from end h)

    -- one more cell after the first ones
    pub next_taken : (cells further : List Cell) (d : Cell) (i : ℕ) (c : Cell) (from end start past : ℕ)
        → cells ≡ d ∷ further → slice_get further i ≡ Some c
        → AreStanding text (kept_by text column (take (i + 1) cells)) from end → slice_get text end ≡ Some 44
        → start ≡ end + 1 → Stands text (tree_of text column c) start past
        → AreStanding text (kept_by text column (take (i + 1 + 1) cells)) from past
    next_taken cells further d i c from end start past e got h comma next g =
        let x = tree_of text column d in
        let y = tree_of text column c in
        let xs = kept_by text column (take i further) in
        let now : AreStanding text (x ∷ xs) from end =
        subst (λ n. AreStanding text (kept_by text column (take n (d ∷ further))) from end) (add-one-is i)
        (subst (λ cs. AreStanding text (kept_by text column (take (i + 1) cs)) from end) e h) in
        let more : (x ∷ xs) ++ y ∷ [] ≡ kept_by text column (take (i + 1 + 1) cells) =
        ap (λ l. x ∷ l) (sym (kept_push further i c got))
        ∙ (λ j. kept_by text column (take (two_is i j) (sym e j))) in
        subst (λ ts. AreStanding text ts from past) more (next_stands x xs y from end past now comma
        (subst (λ n. Stands text y n past) next g))
      where
        add-one-is : (n : ℕ) → n + 1 ≡ suc n
        add-one-is n = omega arith

        two_is : (n : ℕ) → suc (suc n) ≡ n + 1 + 1
        two_is n = omega arith

    -- all of the cells
    pub all_taken : (cells further : List Cell) (d : Cell) (i from end : ℕ) → cells ≡ d ∷ further
        → length further ≤ i → AreStanding text (kept_by text column (take (i + 1) cells)) from end
        → AreStanding text (kept_by text column cells) from end
    all_taken cells further d i from end e l h =
        let size : length cells ≡ suc (length further) = ap length e in
        subst (λ cs. AreStanding text (kept_by text column cs) from end)
        (take_all (i + 1) cells (omega (arith, size, l))) h

    -- what a list says, by the cells inside it
    pub list_says : (c : Cell) (cells : List Cell) → Builds text column (c ∷ []) [] → c.kind ≡ kinds.List
        → cells ≡ take c.len (drop c.at column) → group (all_of (kept_by text column cells)) ≡ tree_of text column c
    list_says c cells h e is =
        let within = subst (λ k. reach_as k c.at c.len ≤ length column) e h.kept_before.0 in
        let says = ap (λ k. says_as text (said_at (parameters text) column) k c.at c.len) e in
        ap (λ cs. group (all_of (kept_by text column cs))) is
        ∙ ap (λ xs. group (all_of xs)) (sym (run_said text column h.column_is c.at c.len within)) ∙ sym says

    pub list_text : (c : Cell) (cells : List Cell) → Builds text column (c ∷ []) []
        → cells ≡ take c.len (drop c.at column) → AreInText text cells
    list_text c cells h is =
        let inside = part_builds text column column [] c.at c.len (column_builds text column (c ∷ []) [] h) in
        subst (AreInText text) (sym is) inside.kept_in_text

pub some_else : {A : Type 0} {P Q : A → Type 0} (o : Option A) → ((a : A) → P a → Q a) → IfSome o P → IfSome o Q
some_else None f h = tt
some_else (Some a) f h = f a h
