-- What a parameter's finding depends on, and what follows where there is none.
use Rattle.std.proofs.Common.{◌≡◌, ℕ, suc, Bool, true, false, cond, List, [], ◌∷◌, Option, Some, None, slice_get, ◌⊎◌, inl, inr, refl, sym, ◌∙◌, ap, eqb-true}
use Rattle.std.specs.Prelude.{◌==◌, ◌&&◌}
use Rattle.std.specs.Option.{option_map}
use Rattle.step_literals.specs.Words.{upper}
use Rattle.step_structures.specs.Words.{Word, name}
use Rattle.step_structures.specs.Trees.{Tree, leaf, typed, group, Trees, none, one}
use Rattle.express_syntax.specs.Schemas.{Schema}
use Rattle.population_rows.specs.Index.{place_of}
use Rattle.conformance.specs.Bases as bases
use Rattle.conformance.specs.Bases.{Domain, Base, aggregate, entity, select}
use Rattle.conformance.specs.ParameterFits.{Target, absent, is_dollar, inner, first_finding, misfit, misfit_each, misfit_inner, misfit_reference, misfit_word, other_kind}
use Rattle.conformance.specs.declared.finding.FindingKind.{FindingKind}
use Rattle.parameter_fits.specs.steps.References.{IsFound, AreFound, RefersWithin, ReferWithin}

stands_behind : (n y row : ℕ) (ns : List ℕ) (b : Bool) → (n == y) ≡ b → (o : Option ℕ)
    → ((r : ℕ) → o ≡ Some r → slice_get ns r ≡ Some y) → cond b (Some 0) (option_map suc o) ≡ Some row
    → slice_get (n ∷ ns) row ≡ Some y
stands_behind n y row ns true is o later e =
    let first : 0 ≡ row = cc in
    ap (slice_get (n ∷ ns)) (sym first) ∙ ap Some (eqb-true n y is)
stands_behind n y row ns false is None later e = absurd (cc)
stands_behind n y row ns false is (Some r) later e =
    let behind : suc r ≡ row = cc in
    ap (slice_get (n ∷ ns)) (sym behind) ∙ later r refl

stands : (y : ℕ) (ns : List ℕ) (row : ℕ) → place_of ns y ≡ Some row → slice_get ns row ≡ Some y
stands y [] row e = absurd (cc)
stands y (n ∷ ns) row e = stands_behind n y row ns (n == y) refl (place_of ns y) (λ r at. stands y ns r at) e

-- a name that an index of rows finds has its row
pub places_stand : (names : List ℕ) (find : ℕ → Option ℕ) → ((y : ℕ) → find y ≡ place_of names y) → AreFound names find
places_stand names find same y row e = stands y names row (sym (same y) ∙ e)

or_first_none : (f g : Option FindingKind) → first_finding f g ≡ None → f ≡ None
or_first_none None g e = refl
or_first_none (Some k) g e = absurd (cc)

or_last_none : (f g : Option FindingKind) → first_finding f g ≡ None → g ≡ None
or_last_none None g e = e
or_last_none (Some k) g e = absurd (cc)

dollar_refers : (find : ℕ → Option ℕ) (x : Tree) → is_dollar x ≡ true → RefersWithin find x
dollar_refers find (leaf (name y t)) e = absurd (cc)
dollar_refers find (leaf w) e = tt
dollar_refers find (typed word x) e = absurd (cc)
dollar_refers find (group xs) e = absurd (cc)

module _ (s : Schema) (d : Domain) (target : ℕ → Target) (find : ℕ → Option ℕ)
    (known : (y : ℕ) → (target y ≡ absent) ⊎ IsFound find y) where
  dangles : (b : Base) → misfit_reference s d b absent ≡ None → ⊥
  dangles (entity e) h = absurd (cc)
  dangles (select m) h = absurd (cc)
  dangles _ h = absurd (cc)

  name_refers : (b : Base) (y : ℕ) → misfit_reference s d b (target y) ≡ None → IsFound find y
  name_refers b y e = go (known y)
    where
      go : (target y ≡ absent) ⊎ IsFound find y → IsFound find y
      go (inl gone) = absurd (dangles b (ap (misfit_reference s d b) (sym gone) ∙ e))
      go (inr there) = there

  word_refers : (b : Base) (w : Word) → misfit_word s d target b w ≡ None → RefersWithin find (leaf w)
  word_refers b (name y t) e = name_refers b y e
  word_refers b w e = tt

  inner_refers : (k : FindingKind) (o : Option Base) (x : Tree) → ((c : Base) → misfit s d target c x ≡ None
      → RefersWithin find x) → misfit_inner s d target k o (λ c. misfit s d target c x) ≡ None → RefersWithin find x
  inner_refers k None x each e = absurd (cc)
  inner_refers k (Some c) x each e = each c e

  element_refers : (o : Bool) (b : Base) (x : Tree) → (misfit s d target b x ≡ None → RefersWithin find x)
      → cond (o && is_dollar x) None (misfit s d target b x) ≡ None → RefersWithin find x
  element_refers true b x each e = go (is_dollar x) refl e
    where
      go : (t : Bool) → is_dollar x ≡ t → cond t None (misfit s d target b x) ≡ None → RefersWithin find x
      go true is e = dollar_refers find x is
      go false is e = each e
  element_refers false b x each e = each e

  group_refers : (b : Base) (xs : Trees) → ((o : Bool) (c : Base) → misfit_each s d target o c xs ≡ None
      → ReferWithin find xs) → misfit s d target b (group xs) ≡ None → ReferWithin find xs
  group_refers (aggregate a) xs each e =
      each a.optional (bases.base d a.element) (or_first_none
      (misfit_each s d target a.optional (bases.base d a.element) xs) _
      (or_last_none _ _ e))
  group_refers _ xs each e = absurd (cc)

  mutual
    -- each reference in a parameter that fits is found
    pub fitting_refers : (b : Base) (x : Tree) → misfit s d target b x ≡ None → RefersWithin find x
    fitting_refers b (leaf w) e = word_refers b w e
    fitting_refers b (typed word x) e =
        inner_refers (other_kind b) (inner s d b (upper word)) x (λ c h. fitting_refers c x h) e
    fitting_refers b (group xs) e = group_refers b xs (λ o c h. fitting_refer o c xs h) e

    fitting_refer : (o : Bool) (b : Base) (xs : Trees) → misfit_each s d target o b xs ≡ None → ReferWithin find xs
    fitting_refer o b none e = tt
    fitting_refer o b (one x xs) e = (
      element_refers o b x (λ h. fitting_refers b x h) (or_first_none _ (misfit_each s d target o b xs) e),
      fitting_refer o b xs (or_last_none _ (misfit_each s d target o b xs) e),
    )
