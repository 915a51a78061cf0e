-- What is found by names, as more is added.
use Rattle.std.specs.Prelude.{◌≡◌, Bool, true, false, cond, [], ◌∷◌, ◌++◌, Some, bytes_eq, ◌⊎◌, ◌↔◌}
use Rattle.indexmap.specs.IndexMap.{IndexMap, get, get_by}
use Rattle.std.proofs.Common.{refl, inl, inr, ap, sym, subst, ◌∙◌}
use Rattle.std.proofs.lemmas.Slice.Eq.{bytes_eq-Decides}
use Rattle.step_literals.specs.declared.literal.Word.{Word}
use Rattle.express_syntax.specs.ExpressionViews.{capitals}
use Rattle.schema_names.specs.Words.{same_word}
use Rattle.schema_semantics.specs.Names.{Name, Among}
use Rattle.schema_semantics.proofs.Lists.{among-left, among-right, among-either}
use Rattle.schema_attributes.specs.declared.attributes.Attributes.{Attributes}
use Rattle.schema_attributes.specs.declared.declaration.AttributeDeclaration.{AttributeDeclaration}
use Rattle.schema_attributes.specs.declared.row.Row.{Row}
use Rattle.schema_attributes.specs.steps.Declarations.{items_of, row_in, found}
use Rattle.schema_attributes.specs.steps.Gathering.{Holds, AddsAll, SaysIs}

-- words of one name
one-spelling : (v w : Word) → same_word v w ≡ true → capitals v ≡ capitals w
one-spelling v w h = (bytes_eq-Decides (capitals v) (capitals w)).0 h

same-of : (v w : Word) → capitals v ≡ capitals w → same_word v w ≡ true
same-of v w e = (bytes_eq-Decides (capitals v) (capitals w)).1 e

-- a map by words is by names
by-name : {V S : Type 0} (m : IndexMap Word V S) (v w : Word) → capitals v ≡ capitals w
    → get same_word m v ≡ get same_word m w
by-name m v w e = ap (λ c. get_by (λ k. bytes_eq c (capitals k)) m) e

-- what is found by a name is what it holds
pub found-held : (t : Attributes) (w : Word) (x : AttributeDeclaration) → Among x (found t w) ↔ Holds t (capitals w) x
found-held t w x = (
  (λ m. (w, refl, m)),
  (λ (v, e, m). subst (λ r. Among x (row_in r)) (by-name t.rows v w e) m),
)

-- where the row of a name is made longer by one
module _ (old new : Attributes) (name : Word) (d : AttributeDeclaration) (r : Row)
    (is : (w : Word) → get same_word new.rows w ≡ cond (same_word name w) (Some r) (get same_word old.rows w))
    (more : items_of r ≡ found old name ++ d ∷ []) where
  to : (w : Word) (b : Bool) → same_word name w ≡ b → found new w ≡ row_in (cond b (Some r) (get same_word old.rows w))
  to w b q = ap row_in (is w ∙ ap (λ c. cond c (Some r) (get same_word old.rows w)) q)

  -- the row itself
  here : found new name ≡ found old name ++ d ∷ []
  here = to name true (same-of name name refl) ∙ more

  kept : (w : Word) (x : AttributeDeclaration) (b : Bool) → same_word name w ≡ b → Among x (found old w)
      → Holds new (capitals w) x
  kept w x true q m =
      let e = one-spelling name w q in
      let there = (found-held old name x).1 ((w, sym e, m)) in
      (name, e, subst (Among x) (sym here) (among-left x (found old name) (d ∷ []) there))
  kept w x false q m = (w, refl, subst (Among x) (sym (to w false q)) m)

  alone : (x : AttributeDeclaration) (a : Name) → capitals name ≡ a
      → Among x (found old name) ⊎ Among x (d ∷ []) → Holds old a x ⊎ SaysIs (capitals name) d a x
  alone x a e (inl m) = inl (name, e, m)
  alone x a e (inr (inl same)) = inr (e, same)
  alone x a e (inr (inr none)) = elim none [ ]

  which : (w : Word) (x : AttributeDeclaration) (a : Name) (b : Bool) → same_word name w ≡ b → capitals w ≡ a
      → Among x (found new w) → Holds old a x ⊎ SaysIs (capitals name) d a x
  which w x a true q e m =
      alone x a (one-spelling name w q ∙ e)
      (among-either x (found old name) (d ∷ []) (subst (Among x) (to w true q ∙ more) m))
  which w x a false q e m = inl (w, e, subst (Among x) (to w false q) m)

  pub adds-one : AddsAll old (SaysIs (capitals name) d) new
  adds-one a x = ((λ (w, e, m). which w x a (same_word name w) refl e m), back)
    where
      back : Holds old a x ⊎ SaysIs (capitals name) d a x → Holds new a x
      back (inl (w, e, m)) = subst (λ c. Holds new c x) e (kept w x (same_word name w) refl m)
      back (inr (e, same)) =
          (name, e, subst (Among x) (sym here) (among-right x (found old name) (d ∷ []) (inl same)))
