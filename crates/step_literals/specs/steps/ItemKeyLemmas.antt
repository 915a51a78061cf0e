-- Lemmas for the laws of the traits: strings are equal exactly if their characters are, and then feed a hasher
-- the same.
use Rattle.std.proofs.Common.{◌≡◌, List, [], ◌∷◌, ◌++◌, IsTrue, ap, refl, get_or, drop, arith}
use Rattle.std.specs.Prelude.{nat_eq}
use Rattle.std.specs.Cmp.Lexicographic.{pointwise, bytes_decides}
use Rattle.std.specs.Hash as fed
use Rattle.std.specs.List.{flat_map}
use Rattle.std.specs.Ordering.{on}
use Rattle.step_literals.specs.Items.{text_items}
use Rattle.step_literals.specs.ItemKeys.{items_key, text_key, item_writes, text_writes, TextsAreTheirItems}
use Rattle.step_literals.specs.declared.literal.items.Item.{Item}
use Rattle.step_literals.specs.declared.literal.items.Item.TheVariants.{Code, Page, Raw}
use Rattle.step_literals.specs.declared.literal.Text.{Text}

-- equal keys are equal characters
same_items : (is js : List Item) → items_key is ≡ items_key js → is ≡ js
same_items [] [] e = refl
same_items [] (Code c ∷ js) e = absurd (cc)
same_items [] (Page p b ∷ js) e = absurd (cc)
same_items [] (Raw b ∷ js) e = absurd (cc)
same_items (Code c ∷ is) [] e = absurd (cc)
same_items (Page p b ∷ is) [] e = absurd (cc)
same_items (Raw b ∷ is) [] e = absurd (cc)
same_items (Code c ∷ is) (Code d ∷ js) e = λ i. Code (get_or (e i) 1 0) ∷ same_items is js (ap (λ l. drop 3 l) e) i
same_items (Page p b ∷ is) (Page q c ∷ js) e = λ i. Page (get_or (e i) 1 0) (get_or (e i) 2 0)
    ∷ same_items is js (ap (λ l. drop 3 l) e) i
same_items (Raw b ∷ is) (Raw c ∷ js) e = λ i. Raw (get_or (e i) 1 0) ∷ same_items is js (ap (λ l. drop 3 l) e) i
same_items (Code c ∷ is) (Page q d ∷ js) e = absurd (omega (arith, ap (λ l. get_or l 0 0) e))
same_items (Code c ∷ is) (Raw d ∷ js) e = absurd (omega (arith, ap (λ l. get_or l 0 0) e))
same_items (Page p b ∷ is) (Code d ∷ js) e = absurd (omega (arith, ap (λ l. get_or l 0 0) e))
same_items (Page p b ∷ is) (Raw d ∷ js) e = absurd (omega (arith, ap (λ l. get_or l 0 0) e))
same_items (Raw b ∷ is) (Code d ∷ js) e = absurd (omega (arith, ap (λ l. get_or l 0 0) e))
same_items (Raw b ∷ is) (Page q d ∷ js) e = absurd (omega (arith, ap (λ l. get_or l 0 0) e))

pub texts_are_their_items : TextsAreTheirItems
texts_are_their_items s t =
    let d = bytes_decides (text_key s) (text_key t) in (
      λ h. same_items (text_items s) (text_items t) (d.0 h),
      λ e. d.1 (ap items_key e),
    )

-- equal strings feed a hasher the same
pub writes_respect_eq : (s t : Text) → IsTrue (on text_key (pointwise nat_eq) s t) → text_writes s ≡ text_writes t
writes_respect_eq s t h = ap (λ is. flat_map item_writes is ++ fed.u8 255) ((texts_are_their_items s t).0 h)
