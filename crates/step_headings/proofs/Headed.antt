-- Headings of a structure by the sections of a program's values.
use Rattle.std.proofs.Common.{◌≡◌, ◌<◌, ◌≤◌, ◌+◌, ◌-◌, ◌∙◌, ℕ, Bool, true, false, List, [], ◌∷◌, Some, None, map, take, drop, length, get_or, IsTrue, refl, sym, ap, subst, arith}
use Rattle.std.specs.Prelude.{◌↔◌, nat_eq}
use Rattle.std.specs.Cmp.Lexicographic.{pointwise}
use Rattle.std.specs.Ordering.{on}
use Rattle.std.proofs.lemmas.Bool.{false≢true}
use Rattle.std.proofs.lemmas.List.{length-map, take_all, take_more_same, get_or-map}
use Rattle.step_literals.specs.Items.{text_items}
use Rattle.step_literals.specs.ItemKeys.{text_key}
use Rattle.step_literals.specs.steps.ItemKeyLemmas.{texts_are_their_items}
use Rattle.step_literals.specs.declared.literal.Text.{Text}
use Rattle.step_literals.specs.declared.literal.items.Item.{Item}
use Rattle.step_structures.specs.Trees.{ExchangeRow}
use Rattle.step_structures.specs.Trees as trees
use Rattle.step_exchange.specs.declared.section.Section.{Section}
use Rattle.step_exchange.specs.declared.structure.Exchange.{Exchange}
use Rattle.step_exchange.specs.Exchanges.{structure}
use Rattle.step_exchange.specs.Sections.{heading_of, sections_of}
use Rattle.step_headings.specs.Headings.{Heading, heading_items, headings, SameHeadings}
use Rattle.step_headings.specs.steps.Views.{heading_seen}

abbrev in_structure : trees.Section → Heading
in_structure x = heading_items x.heading

-- wherever the instances are cut
of_sections : (from : ℕ) (ss : List Section) (rows : List ExchangeRow)
    → map in_structure (sections_of from ss rows) ≡ map heading_seen ss
of_sections from [] rows = refl
of_sections from (s ∷ ss) rows =
    λ i. heading_seen s ∷ of_sections s.past ss (drop (s.past - from) rows) i

pub headings_seen : (x : Exchange) → headings (structure x) ≡ map heading_seen x.sections.items
headings_seen x = of_sections 0 x.sections.items _

abbrev schema_items : Heading → List Item
schema_items None = []
schema_items (Some h) = h.1

-- where the names of two sections are the same, their schemas decide
pub by_schemas : (n s m t : Text) (b c : Bool) → b ≡ on text_key (pointwise nat_eq) n m → b ≡ true
    → c ≡ on text_key (pointwise nat_eq) s t
    → IsTrue c ↔ (heading_items (heading_of (Some (n, s))) ≡ heading_items (heading_of (Some (m, t))))
by_schemas n s m t b c first same second =
    let names = (texts_are_their_items n m).0 (sym first ∙ same) in
    let schemas = texts_are_their_items s t in (
      λ e. let e' = schemas.0 (sym second ∙ e) in λ i. Some (names i, e' i),
      λ e. second ∙ schemas.1 (ap schema_items e),
    )

module _ (xs ys : List Section) where
  module _ (i : ℕ) (a b : Section) (before : i < length xs) (here : i < length ys) (at : a ≡ get_or xs i a)
      (there : b ≡ get_or ys i b) where
    heading_at : get_or (map heading_seen xs) i None ≡ heading_seen a
    heading_at = get_or-map heading_seen xs i a None before ∙ sym (ap heading_seen at)

    other_at : get_or (map heading_seen ys) i None ≡ heading_seen b
    other_at = get_or-map heading_seen ys i b None here ∙ sym (ap heading_seen there)

    -- one section more
    pub one_more : heading_seen a ≡ heading_seen b → take i (map heading_seen xs) ≡ take i (map heading_seen ys)
        → take (i + 1) (map heading_seen xs) ≡ take (i + 1) (map heading_seen ys)
    one_more same e =
        take_more_same (map heading_seen xs) (map heading_seen ys) i None
        (subst (λ n. i < n) (sym (length-map xs heading_seen)) before)
        (subst (λ n. i < n) (sym (length-map ys heading_seen)) here) e (heading_at ∙ same ∙ sym other_at)

    -- another heading than that of the section at its place
    pub another : (heading_seen a ≡ heading_seen b → ⊥) → IsTrue false ↔ (map heading_seen xs ≡ map heading_seen ys)
    another other = (
      λ e. absurd (false≢true e),
      λ h. absurd (other (sym heading_at ∙ ap (λ l. get_or l i None) h ∙ other_at)),
    )

  -- all of them
  pub whole : (i : ℕ) → length xs ≤ i → length ys ≤ i → take i (map heading_seen xs) ≡ take i (map heading_seen ys)
      → IsTrue true ↔ (map heading_seen xs ≡ map heading_seen ys)
  whole i past beyond e = (
    λ _. sym (take_all i (map heading_seen xs) (subst (λ n. n ≤ i) (sym (length-map xs heading_seen)) past)) ∙ e
        ∙ take_all i (map heading_seen ys) (subst (λ n. n ≤ i) (sym (length-map ys heading_seen)) beyond),
    λ _. refl,
  )

  -- more sections, or fewer
  pub as_many : (length xs ≡ length ys → ⊥) → IsTrue false ↔ (map heading_seen xs ≡ map heading_seen ys)
  as_many differ = (
    λ e. absurd (false≢true e),
    λ h. absurd (differ (sym (length-map xs heading_seen) ∙ ap length h ∙ length-map ys heading_seen)),
  )

-- What is found of slices of sections is found of those of a structure: these are its headings
pub by_sections : (xs mine others : List Section) (y : Exchange) (b : Bool) → mine ≡ xs → others ≡ y.sections.items
    → (IsTrue b ↔ (map heading_seen mine ≡ map heading_seen others))
    → IsTrue b ↔ (map heading_seen xs ≡ headings (structure y))
by_sections xs mine others y b front behind same = (
  λ e. sym (ap (λ l. map heading_seen l) front) ∙ same.0 e ∙ ap (λ l. map heading_seen l) behind
      ∙ sym (headings_seen y),
  λ h. same.1 (ap (λ l. map heading_seen l) front ∙ h ∙ headings_seen y
      ∙ sym (ap (λ l. map heading_seen l) behind)),
)

-- two structures have the same headings if the slices of their sections do
pub by_structures : (mine others : List Section) (x y : Exchange) (b : Bool) → mine ≡ x.sections.items
    → others ≡ y.sections.items → (IsTrue b ↔ (map heading_seen mine ≡ map heading_seen others))
    → IsTrue b ↔ SameHeadings (structure x) (structure y)
by_structures mine others x y b front behind same =
    let seen = by_sections x.sections.items mine others y b front behind same in (
      λ e. headings_seen x ∙ seen.0 e,
      λ h. seen.1 (sym (headings_seen x) ∙ h),
    )
