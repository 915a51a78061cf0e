-- What a typed parameter is, by the cell that its keyword is to stand in.
use Rattle.std.proofs.Common.{◌≡◌, ◌≤◌, ◌+◌, ℕ, suc, true, false, List, [], ◌∷◌, length, Some, slice_get, refl, ◌∙◌, ap, subst, arith}
use Rattle.std.specs.List.{slice_index_or}
use Rattle.std.proofs.lemmas.Option.{slice_get-get_or}
use Rattle.parsing.specs.Nodes.{run, said_at}
use Rattle.step_literals.specs.Tokens.{IsKeyword}
use Rattle.step_structures.specs.Words.{begins, ends, keyword, user_defined, scope, name, number, element, string, binary, mark}
use Rattle.step_structures.specs.Trees.{Tree, leaf, typed, group, none}
use Rattle.step_records.specs.declared.cell.Kind.{Kind}
use Rattle.step_records.specs.declared.cell.Kind.TheVariants as kinds
use Rattle.step_records.specs.declared.cell.Leaf.TheVariants as leaves
use Rattle.step_records.specs.declared.cell.Cell.{Cell}
use Rattle.step_records.specs.steps.Building.{Builds, tree_of}
use Rattle.step_records.specs.Cells.{is_keyword, typed_of, says_as, part, parameters, IsInText}
use Rattle.step_records.proofs.Runs.{column_builds, one_builds, place_said}

twice : (y z x : Tree) → typed_of (typed_of (y ∷ z ∷ []) ∷ x ∷ []) ≡ group none
twice (leaf begins) z x = refl
twice (leaf ends) z x = refl
twice (leaf (keyword s)) z x = refl
twice (leaf (user_defined s)) z x = refl
twice (leaf scope) z x = refl
twice (leaf (name n s)) z x = refl
twice (leaf (number s)) z x = refl
twice (leaf (element s)) z x = refl
twice (leaf (string s)) z x = refl
twice (leaf (binary s)) z x = refl
twice (leaf (mark m)) z x = refl
twice (typed s y) z x = refl
twice (group ys) z x = refl

keyword_kind : (kind : Kind) → is_keyword kind ≡ true → kind ≡ kinds.Leaf leaves.Keyword
keyword_kind (kinds.Leaf leaves.Keyword) e = refl
keyword_kind (kinds.Leaf leaves.Unset) e = absurd (cc)
keyword_kind (kinds.Leaf leaves.Star) e = absurd (cc)
keyword_kind (kinds.Leaf leaves.Number) e = absurd (cc)
keyword_kind (kinds.Leaf leaves.Text) e = absurd (cc)
keyword_kind (kinds.Leaf leaves.Bits) e = absurd (cc)
keyword_kind (kinds.Leaf leaves.Element) e = absurd (cc)
keyword_kind (kinds.Leaf leaves.Reference) e = absurd (cc)
keyword_kind kinds.Typed e = absurd (cc)
keyword_kind kinds.List e = absurd (cc)

module _ (text : List ℕ) (at len : ℕ) where
  keyword_in : (kind : Kind) → is_keyword kind ≡ true → IsInText text kind at len
      → (at + len ≤ length text) × IsKeyword (part text at len)
  keyword_in kind e h = subst (λ k. IsInText text k at len) (keyword_kind kind e) h

  module _ (f : ℕ → Tree) (x : Tree) where
    with_keyword : (kind : Kind) → is_keyword kind ≡ true
        → typed_of (says_as text f kind at len ∷ x ∷ []) ≡ typed (part text at len) x
    with_keyword kind e = ap (λ k. typed_of (says_as text f k at len ∷ x ∷ [])) (keyword_kind kind e)

    with_none : (kind : Kind) → is_keyword kind ≡ false → typed_of (says_as text f kind at len ∷ x ∷ []) ≡ group none
    with_none (kinds.Leaf leaves.Unset) e = refl
    with_none (kinds.Leaf leaves.Star) e = refl
    with_none (kinds.Leaf leaves.Number) e = refl
    with_none (kinds.Leaf leaves.Text) e = refl
    with_none (kinds.Leaf leaves.Bits) e = refl
    with_none (kinds.Leaf leaves.Element) e = refl
    with_none (kinds.Leaf leaves.Reference) e = refl
    with_none (kinds.Leaf leaves.Keyword) e = absurd (cc)
    with_none kinds.Typed e = twice (f at) (f (suc at)) x
    with_none kinds.List e = refl

-- what the code reads where nothing stands
abbrev pub blank : Cell
blank = record { kind = kinds.Leaf leaves.Unset; len = 0; at = 0 }

module _ (text : List ℕ) (column : List Cell) (h : Builds text column [] []) (at : ℕ)
    (within : at + 2 ≤ length column) where
  -- the cells of the keyword and of the parameter inside
  abbrev pub first : Cell
  first = slice_index_or column at blank

  abbrev pub second : Cell
  second = slice_index_or column (at + 1) blank

  at_first : slice_get column at ≡ Some first
  at_first = slice_get-get_or column at blank (omega (arith, within))

  at_second : slice_get column (at + 1) ≡ Some second
  at_second = slice_get-get_or column (at + 1) blank (omega (arith, within))

  pub first_in : is_keyword first.kind ≡ true
      → (first.at + first.len ≤ length text) × IsKeyword (part text first.at first.len)
  first_in e =
      let all = column_builds text column [] [] h in
      let here = one_builds text column column [] at first at_first all in
      keyword_in text first.at first.len first.kind e here.kept_in_text.0

  pub second_builds : Builds text column (second ∷ []) []
  second_builds =
      let all = column_builds text column [] [] h in
      one_builds text column column [] (at + 1) second at_second all

  both_said : run (said_at (parameters text) column) at 2 ≡ tree_of text column first ∷ tree_of text column second ∷ []
  both_said =
      let one = place_said text column h.column_is at first at_first in
      let next : suc at ≡ at + 1 = omega arith in
      let two = ap (said_at (parameters text) column) next
      ∙ place_said text column h.column_is (at + 1) second at_second in
      λ i. one i ∷ two i ∷ []

  pub typed_said : is_keyword first.kind ≡ true → typed_of (run (said_at (parameters text) column) at 2)
      ≡ typed (part text first.at first.len) (tree_of text column second)
  typed_said e = ap typed_of both_said ∙ with_keyword text first.at first.len (said_at (parameters text) column)
      (tree_of text column second) first.kind e

  pub none_said : is_keyword first.kind ≡ false → typed_of (run (said_at (parameters text) column) at 2) ≡ group none
  none_said e = ap typed_of both_said ∙ with_none text first.at first.len (said_at (parameters text) column)
      (tree_of text column second) first.kind e
