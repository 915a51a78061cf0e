use Rattle.std.proofs.Common.{◌≡◌, true, false, refl, sym, ◌∙◌, subst}
use Rattle.std.specs.Prelude.{IfOk, Ok, Err, Result}
use Rattle.std.proofs.lemmas.Bool.{false≢true}
use Rattle.value_equality.specs.Rows.{Row}
use Rattle.value_equality.specs.Views.{row_seen}
use Rattle.row_signatures.specs.steps.ComputedShapes.{IsShapeOf}
use Rattle.row_signatures.proofs.Naming.{once}
use Rattle.row_signatures.proofs.shapes.number_of.Goals as goal

pub returns-then-is_pinned : goal.returns-then-is_pinned
returns-then-is_pinned c r at = record {
  of_pinned = λ own. (refl, refl);
  of_free = λ free. absurd (false≢true (sym free ∙ c.if-is_pinned.true));
}

both : {X Y : Type 0} (r : Result X Y) (P Q R : X → Type 0) → ((x : X) → P x → Q x → R x) → IfOk r P → IfOk r Q
    → IfOk r R
both (Ok x) P Q R f p q = f x p q
both (Err y) P Q R f p q = tt

pub returns : goal.returns
returns c r at =
    let seen : row_seen c.row.result ≡ r = once (row_seen c.row.result) r (sym c.row.ensures ∙ at) in
    both c.first_of.result _ _ _ (λ number first noted. record {
      of_pinned = λ own. absurd (false≢true (sym c.if-is_pinned.false ∙ own));
      of_free = λ free. record {
        shape = c.in_ok-shape.shape;
        shape_is = subst (λ (q : Row). IsShapeOf c.args.start q.values c.in_ok-shape.shape) seen c.in_ok-shape.ensures;
        number_is = first;
        noted = noted;
      };
    }) c.first_of.ensures.first c.first_of.ensures.noted
