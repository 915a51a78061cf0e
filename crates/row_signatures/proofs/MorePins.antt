-- Signatures serve where more is pinned.
use Rattle.std.proofs.Common.{◌≡◌, ℕ, Bool, true, false, IsTrue, List, sym, refl, ◌∙◌}
use Rattle.std.proofs.lemmas.Bool.{false≢true}
use Rattle.value_equality.specs.Rows.{Row}
use Rattle.row_signatures.specs.steps.Signatures.{AreSignatures}
use Rattle.row_signatures.specs.declared.signatures.Signatures.{Signatures}

pub signatures_under_more : (rows : List Row) (pinned more : ℕ → Bool) (s : Signatures)
    → ((y : ℕ) → IsTrue (pinned y) → IsTrue (more y)) → AreSignatures rows pinned s → AreSignatures rows more s
signatures_under_more rows pinned more s grows are = record {
  references = are.references;
  shaped = record {
    each = are.shaped.each;
    alike = are.shaped.alike;
    tell = λ i j r q at there free other. are.shaped.tell i j r q at there (still r.name free) (still q.name other);
  };
}
  where
    still : (y : ℕ) → more y ≡ false → pinned y ≡ false
    still y free = by (pinned y) refl
      where
        by : (b : Bool) → pinned y ≡ b → pinned y ≡ false
        by true e = absurd (false≢true (sym free ∙ grows y e))
        by false e = e
