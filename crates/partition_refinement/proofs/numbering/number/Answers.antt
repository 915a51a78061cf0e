use Rattle.std.proofs.Common.{◌≡◌, ℕ, List, subst, sym}
use Rattle.partitions.specs.Layouts.{Layout}
use Rattle.partitions.specs.Views.{layout}
use Rattle.partition_refinement.specs.steps.Working.{IsTraced}
use Rattle.partition_refinement.proofs.numbering.number.Goals as goal

-- equal lists say the same
traced : (p : Layout) (counts rounds others before befores heads firsts : List ℕ) (n m : ℕ) → others ≡ rounds
    → befores ≡ before → firsts ≡ heads → m ≡ n → IsTraced p counts rounds before heads n
    → IsTraced p counts others befores firsts m
traced p counts rounds others before befores heads firsts n m a b d e h =
    subst (λ rs. IsTraced p counts rs befores firsts m) (sym a)
    (subst (λ bs. IsTraced p counts rounds bs firsts m) (sym b)
    (subst (λ hs. IsTraced p counts rounds before hs m) (sym d)
    (subst (IsTraced p counts rounds before heads) (sym e) h)))

pub in_order-requires : goal.in_order-requires
in_order-requires c = (
  layout c.args.parts,
  traced _ _ _ _ _ _ _ _ _ _ c.deref.ensures.value c.deref-2.ensures.value c.deref-3.ensures.value c.len-size.ensures
      c.in_ok-history.ensures,
)

pub returns : goal.returns
returns c =
    c.in_order.ensures (layout c.args.parts) (traced _ _ _ _ _ _ _ _ _ _ c.deref.ensures.value c.deref-2.ensures.value
    c.deref-3.ensures.value c.len-size.ensures c.in_ok-history.ensures)
