-- A text is merged in one way.
use Rattle.std.specs.Prelude.{◌≡◌, ◌↔◌, ℕ, Bool, IsTrue, List}
use Rattle.std.proofs.Common.{sym, subst, ◌∙◌}
use Rattle.step_structures.specs.Trees.{File, Section}
use Rattle.step_structures.proofs.Once.{reads_once}
use Rattle.step_structures.specs.MergedTexts.{merged_text}
use Rattle.value_equality.specs.Rows.{Row, names}
use Rattle.value_equality.specs.ValueEquality.{IsValueEquality}
use Rattle.value_equality.specs.Images.{head_of}
use Rattle.express_syntax.specs.Schemas.{Schema}
use Rattle.conformance.specs.Choices.{MergeOptions}
use Rattle.conformance.specs.PlainRows.{AreRowsOf}
use Rattle.conformance.specs.Pins.{IsWeaklyPinned, IsGentlyPinned}
use Rattle.conformance.specs.SchemaMeanings.{Said, instances}
use Rattle.conformance.proofs.MeaningOneness.{one_truth}
use Rattle.conformance.proofs.RowOneness.{rows_are_one}
use Rattle.merge_theorems.specs.Headline.{IsMergeInput, IsMergeOf}
use Rattle.merge_theorems.specs.MergedFileLaws.{merged_by}

-- two tests of one property
pub one_test : (P : ℕ → Type 0) (b c : ℕ → Bool) → ((y : ℕ) → IsTrue (b y) ↔ P y) → ((y : ℕ) → IsTrue (c y) ↔ P y) → b ≡ c
one_test P b c h k = λ i y. one_truth (b y) (c y) (λ t. (k y).1 ((h y).0 t)) (λ t. (h y).1 ((k y).0 t)) i

-- two tests of value equality
same_equality : (P : List Row) (pinned : ℕ → Bool) (E F : ℕ → ℕ → Bool) → IsValueEquality P pinned E
    → IsValueEquality P pinned F → E ≡ F
same_equality P pinned E F h k =
    λ i x z. one_truth (E x z) (F x z) (λ t. (k x z).1 ((h x z).0 t)) (λ t. (h x z).1 ((k x z).0 t)) i

abbrev sections_of : File → List Section
sections_of x = x.sections

module _ (s : Schema) (said : Said s) (chosen : MergeOptions) (text : List ℕ) where
  -- two inputs are one
  pub record AreOne (a b : IsMergeInput s said chosen text) : Type 0 where
    pub header : a.header_bytes ≡ b.header_bytes
    pub file : a.file ≡ b.file
    pub rows : a.rows ≡ b.rows
    pub weak : a.pins.weak ≡ b.pins.weak
    pub pinned : a.pinned ≡ b.pinned

  pub inputs_once : (a b : IsMergeInput s said chosen text) → AreOne a b
  inputs_once a b =
      let one = reads_once text a.header_bytes b.header_bytes a.file b.file a.reads b.reads in
      let rows : a.rows ≡ b.rows = rows_are_one s (instances s said b.file) a.rows b.rows
      (subst (λ x. AreRowsOf s (instances s said x) a.rows) one.1 a.are_rows) b.are_rows in
      let weak : a.pins.weak ≡ b.pins.weak = one_test _ a.pins.weak b.pins.weak
      (subst (λ x. (y : ℕ) → IsTrue (a.pins.weak y)
      ↔ IsWeaklyPinned s said.domain said.entities said.rules chosen (instances s said x) y) one.1 a.pins.are_weak)
      b.pins.are_weak in
      let classes : a.pins.classes ≡ b.pins.classes =
      same_equality b.rows b.pins.weak a.pins.classes b.pins.classes
      (subst (λ w. IsValueEquality b.rows w a.pins.classes) weak
      (subst (λ P. IsValueEquality P a.pins.weak a.pins.classes) rows a.pins.are_classes)) b.pins.are_classes in
      let pinned : a.pinned ≡ b.pinned = one_test _ a.pinned b.pinned
      (subst (λ E. (y : ℕ) → IsTrue (a.pinned y)
      ↔ IsGentlyPinned s said.domain said.entities said.rules chosen (instances s said b.file) E y) classes
      (subst (λ x. (y : ℕ) → IsTrue (a.pinned y)
      ↔ IsGentlyPinned s said.domain said.entities said.rules chosen (instances s said x) a.pins.classes y) one.1
      a.pins.are_gentle)) b.pins.are_gentle in
      record { header = one.0; file = one.1; rows = rows; weak = weak; pinned = pinned }

  -- the output is one text, and is made of one structure
  pub merges_once : (output again : List ℕ) (m : IsMergeOf s said chosen text output)
      (n : IsMergeOf s said chosen text again) → (again ≡ output)
      × (merged_by n.input.rows n.equal n.input.file ≡ merged_by m.input.rows m.equal m.input.file)
  merges_once output again m n =
      let one = inputs_once n.input m.input in
      let equal : n.equal ≡ m.equal = same_equality m.input.rows m.input.pinned n.equal m.equal
      (subst (λ p. IsValueEquality m.input.rows p n.equal) one.pinned
      (subst (λ P. IsValueEquality P n.input.pinned n.equal) one.rows n.equality)) m.equality in (
        n.output_is
            ∙ (λ k. merged_text (head_of (names (one.rows k)) (equal k)) (one.header k) (sections_of (one.file k)))
            ∙ sym m.output_is,
        λ k. merged_by (one.rows k) (equal k) (one.file k),
      )
