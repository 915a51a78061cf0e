-- What a value is that two data types alike take.
use Rattle.std.proofs.Common.{◌≡◌, ℕ, zero, suc, Bool, true, false, cond, refl, sym, ◌∙◌, ap, subst, ◌⊎◌, inl, inr, Some, None}
use Rattle.std.specs.Prelude.{⊤, ◌&&◌, not}
use Rattle.step_literals.specs.Words.{upper}
use Rattle.step_structures.specs.Trees as trees
use Rattle.step_structures.specs.Trees.{Tree, Trees}
use Rattle.step_values.specs.Leaves.{unset}
use Rattle.step_values.specs.Values.{leaf, typed, sequence, bag, Values, more}
use Rattle.express_syntax.specs.Schemas.{Schema, named}
use Rattle.schema_semantics.specs.Names.{Name}
use Rattle.conformance.specs.Bases.{Aggregate, Base, select, aggregate, Domain, base}
use Rattle.conformance.specs.ParameterFits.{is_entity, has_no_order, inner, base_or_this, gathered, element, value_as, values_as}
use Rattle.conformance.specs.Fits.{IsLeftOut, Gathers, Typing, Fits, FitEach}
use Rattle.conformance.proofs.Returning.{same_aggregate, gathered_set}

module _ (s : Schema) (d : Domain) where
  -- the keywords and parentheses of a parameter are those of a value that this takes
  abbrev mutual
    pub HasForm : Base → Tree → Type 0
    HasForm b (trees.leaf w) = ⊤
    HasForm b (trees.typed word x) = (c : Base) × (inner s d b (upper word) ≡ Some c) × HasForm c x
    HasForm b (trees.group xs) = (a : Aggregate) × (b ≡ aggregate a) × HaveForm (base d a.element) xs

    pub HaveForm : Base → Trees → Type 0
    HaveForm b trees.none = ⊤
    HaveForm b (trees.one x xs) = HasForm b x × HaveForm b xs

  module _ (typing : Typing) where
    gathers : (b c : Base) (vs : Values) → Fits s d typing c (gathered b vs) → (no_order : Bool)
        × Gathers no_order c vs (λ a. FitEach s d typing a.optional (base d a.element) vs)
    gathers (aggregate a) c vs f = go (has_no_order a.collection) f
      where
        go : (t : Bool) → Fits s d typing c (cond t (bag vs) (sequence vs)) → (no_order : Bool)
            × Gathers no_order c vs (λ a. FitEach s d typing a.optional (base d a.element) vs)
        go true f = (true, f)
        go false f = (false, f)
    gathers b c vs f = (false, f)

    unset_form : (b c : Base) (x : Tree) → value_as s d b x ≡ leaf unset → HasForm c x
    unset_form b c (trees.leaf w) e = tt
    unset_form b c (trees.typed word x) e = absurd (cc)
    unset_form b c (trees.group xs) e = absurd (gathered_set b (values_as s d (element s d b) xs) e)

    mutual
      pub form_fits : (b c : Base) (x : Tree) → Fits s d typing c (value_as s d b x) → HasForm c x
      form_fits b c (trees.leaf w) f = tt
      form_fits b c (trees.typed word x) f =
          (f.0, f.1, form_fits (base_or_this s d b (inner s d b (upper word))) f.0 x f.2)
      form_fits b c (trees.group xs) f =
          let g = gathers b c (values_as s d (element s d b) xs) f in
          (g.1.of, g.1.is_of, forms_fit g.1.of.optional (element s d b) (base d g.1.of.element) xs g.1.each)

      forms_fit : (optional : Bool) (b c : Base) (xs : Trees) → FitEach s d typing optional c (values_as s d b xs)
          → HaveForm c xs
      forms_fit optional b c trees.none f = tt
      forms_fit optional b c (trees.one x xs) f = (one_form (form_fits b c x) f.0, forms_fit optional b c xs f.1)
        where
          one_form : (Fits s d typing c (value_as s d b x) → HasForm c x)
              → IsLeftOut optional (value_as s d b x) ⊎ Fits s d typing c (value_as s d b x) → HasForm c x
          one_form g (inl e) = unset_form b c x e.1
          one_form g (inr f) = g f

  -- an aggregate is another's, with the same order or none, and with elements of which P holds
  abbrev pub Matches : (Base → Base → Type 0) → Base → Base → Type 0
  Matches P b c =
      (a : Aggregate) → b ≡ aggregate a
      → (e : Aggregate) × (c ≡ aggregate e) × (has_no_order a.collection ≡ has_no_order e.collection)
      × P (base d a.element) (base d e.element)

  -- they are alike so many levels deep
  abbrev pub Like : ℕ → Base → Base → Type 0
  Like zero b c = ⊤
  Like (suc n) b c = Matches (Like n) b c × Matches (Like n) c b

  abbrev pub IsLike : Base → Base → Type 0
  IsLike b c = (n : ℕ) → Like n b c

  pub like_same : (n : ℕ) (b : Base) → Like n b b
  like_same zero b = tt
  like_same (suc n) b = (
    (λ a e. (a, e, refl, like_same n (base d a.element))),
    (λ a e. (a, e, refl, like_same n (base d a.element))),
  )

  pub like_back : (n : ℕ) (b c : Base) → Like n b c → Like n c b
  like_back zero b c h = tt
  like_back (suc n) b c h = (h.1, h.0)

  matches_through : (P : Base → Base → Type 0) → ((a b c : Base) → P a b → P b c → P a c) → (a b c : Base)
      → Matches P a b → Matches P b c → Matches P a c
  matches_through P through a b c h k x e =
      let one = h x e in
      let two = k one.0 one.1 in (
        two.0,
        two.1,
        one.2 ∙ two.2,
        through (base d x.element) (base d one.0.element) (base d two.0.element) one.3 two.3,
      )

  pub like_through : (n : ℕ) (a b c : Base) → Like n a b → Like n b c → Like n a c
  like_through zero a b c h k = tt
  like_through (suc n) a b c h k = (
    matches_through (Like n) (λ x y z f g. like_through n x y z f g) a b c h.0 k.0,
    matches_through (Like n) (λ x y z f g. like_through n x y z f g) c b a k.1 h.1,
  )

  -- what stands behind the name of a defined type doesn't depend on the SELECT
  inner_named : (b c : Base) (word : Name) → inner s d b word ≡ Some c → c ≡ base d (named word)
  inner_named (select m) c word e = go (d.is_item m word && not (is_entity s word)) e
    where
      go : (t : Bool) → cond t (Some (base d (named word))) None ≡ Some c → c ≡ base d (named word)
      go true e = cc
      go false e = absurd (cc)
  inner_named b c word e = absurd (cc)

  gathered_same : (a e : Aggregate) (vs ws : Values) → has_no_order a.collection ≡ has_no_order e.collection → vs ≡ ws
      → gathered (aggregate a) vs ≡ gathered (aggregate e) ws
  gathered_same a e vs ws order same =
      ap (λ t. cond t (bag vs) (sequence vs)) order
      ∙ ap (λ us. cond (has_no_order e.collection) (bag us) (sequence us)) same

  elements_like : (b c : Base) (a e : Aggregate) → IsLike b c → b ≡ aggregate a → c ≡ aggregate e
      → (has_no_order a.collection ≡ has_no_order e.collection) × IsLike (base d a.element) (base d e.element)
  elements_like b c a e h p q = (order, each)
    where
      one : (x : Aggregate) → c ≡ aggregate x → x ≡ e
      one x r = same_aggregate x e (sym r ∙ q)

      order : has_no_order a.collection ≡ has_no_order e.collection
      order = let m = (h 1).0 a p in m.2 ∙ ap (λ x. has_no_order x.collection) (one m.0 m.1)

      each : IsLike (base d a.element) (base d e.element)
      each n =
          let m = (h (suc n)).0 a p in
          subst (λ x. Like n (base d a.element) (base d x.element)) (one m.0 m.1) m.3

  mutual
    -- a parameter has one value by two data types alike that take its form
    pub one_value : (b c : Base) (x : Tree) → IsLike b c → HasForm b x → HasForm c x
        → value_as s d b x ≡ value_as s d c x
    one_value b c (trees.leaf w) h f g = refl
    one_value b c (trees.typed word x) h f g =
        let same : f.0 ≡ g.0 = inner_named b f.0 (upper word) f.1 ∙ sym (inner_named c g.0 (upper word) g.1) in
        ap (λ o. typed (upper word) (value_as s d (base_or_this s d b o) x)) f.1
        ∙ ap (λ e. typed (upper word) (value_as s d e x)) same
        ∙ sym (ap (λ o. typed (upper word) (value_as s d (base_or_this s d c o) x)) g.1)
    one_value b c (trees.group xs) h f g =
        let parts = elements_like b c f.0 g.0 h f.1 g.1 in
        ap (λ e. gathered e (values_as s d (element s d e) xs)) f.1
        ∙ gathered_same f.0 g.0 (values_as s d (base d f.0.element) xs) (values_as s d (base d g.0.element) xs) parts.0
        (one_list (base d f.0.element) (base d g.0.element) xs parts.1 f.2 g.2)
        ∙ sym (ap (λ e. gathered e (values_as s d (element s d e) xs)) g.1)

    one_list : (b c : Base) (xs : Trees) → IsLike b c → HaveForm b xs → HaveForm c xs
        → values_as s d b xs ≡ values_as s d c xs
    one_list b c trees.none h f g = refl
    one_list b c (trees.one x xs) h f g =
        ap (λ v. more v (values_as s d b xs)) (one_value b c x h f.0 g.0)
        ∙ ap (λ vs. more (value_as s d c x) vs) (one_list b c xs h f.1 g.1)
