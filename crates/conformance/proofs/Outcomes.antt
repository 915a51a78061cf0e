-- What rules say of instances that are led along.
use Rattle.std.specs.Prelude.{◌≡◌, ℕ, ◌≤◌, List, [], ◌∷◌, ◌++◌, map, filter, flat_map, Some, ◌⊎◌}
use Rattle.std.proofs.Common.{refl, ap, sym, subst, ◌∙◌, inl, inr, arith}
use Rattle.express_syntax.specs.declared.expression.Logical.{Logical}
use Rattle.express_syntax.specs.declared.expression.Logical.TheVariants.{False, Unknown, True}
use Rattle.express_syntax.specs.Schemas.{Schema}
use Rattle.schema_semantics.specs.Names.{Among}
use Rattle.schema_semantics.proofs.Lists.{among-map, from-map}
use Rattle.conformance.specs.Bases.{Domain}
use Rattle.conformance.specs.Entities.{Entities}
use Rattle.conformance.specs.Populations.{Instance, instance_at}
use Rattle.conformance.specs.Images.{IsLed}
use Rattle.conformance.specs.Rules.{InverseAttribute}
use Rattle.conformance.specs.RuleFindings.{Breach}
use Rattle.express_logic.specs.Logic.{both, rank}
use Rattle.express_logic.specs.Data.{Datum}
use Rattle.conformance.specs.Operations.{says}
use Rattle.conformance.specs.Attributes.{Attributes, AreAttributes}
use Rattle.conformance.specs.Meanings.{meaning}
use Rattle.conformance.specs.DomainRules.{DomainRule, holder_name}
use Rattle.conformance.specs.DomainFindings.{least, is_false, selves, outcome, breaches_at}
use Rattle.conformance.specs.MeaningImages.{LeadsBy, IsKept}
use Rattle.conformance.specs.MeaningLaws.{ImagesKeepRules, NoBreachInImages}
use Rattle.conformance.proofs.Comparisons.{alike_says}
use Rattle.conformance.proofs.Led.{at_name}
use Rattle.conformance.proofs.Settings.{kept_meaning}
use Rattle.conformance.proofs.Selves.{SameValues, selves_same}

-- AND is the lesser of its two
both_left : (p q : Logical) → rank (both p q) ≤ rank p
both_left False False = omega arith
both_left False Unknown = omega arith
both_left False True = omega arith
both_left Unknown False = omega arith
both_left Unknown Unknown = omega arith
both_left Unknown True = omega arith
both_left True False = omega arith
both_left True Unknown = omega arith
both_left True True = omega arith

both_right : (p q : Logical) → rank (both p q) ≤ rank q
both_right False False = omega arith
both_right False Unknown = omega arith
both_right False True = omega arith
both_right Unknown False = omega arith
both_right Unknown Unknown = omega arith
both_right Unknown True = omega arith
both_right True False = omega arith
both_right True Unknown = omega arith
both_right True True = omega arith

both_is : (p q : Logical) → (p ≡ both p q) ⊎ (q ≡ both p q)
both_is False False = inl refl
both_is False Unknown = inl refl
both_is False True = inl refl
both_is Unknown False = inr refl
both_is Unknown Unknown = inl refl
both_is Unknown True = inl refl
both_is True False = inr refl
both_is True Unknown = inr refl
both_is True True = inl refl

pub rank_most : (p : Logical) → rank p ≤ 2
rank_most False = omega arith
rank_most Unknown = omega arith
rank_most True = omega arith

pub rank_tells : (p q : Logical) → rank p ≡ rank q → p ≡ q
rank_tells False False h = refl
rank_tells Unknown Unknown h = refl
rank_tells True True h = refl
rank_tells False Unknown h = absurd (omega (arith, h))
rank_tells False True h = absurd (omega (arith, h))
rank_tells Unknown False h = absurd (omega (arith, h))
rank_tells Unknown True h = absurd (omega (arith, h))
rank_tells True False h = absurd (omega (arith, h))
rank_tells True Unknown h = absurd (omega (arith, h))

-- the least is below all, and it is one of them, or TRUE
pub least_below : (p : Logical) (ps : List Logical) → Among p ps → rank (least ps) ≤ rank p
least_below p [] m = elim m [ ]
least_below p (q ∷ ps) (inl e) = subst (λ r. rank (both q (least ps)) ≤ rank r) e (both_left q (least ps))
least_below p (q ∷ ps) (inr m) =
    let first : rank (both q (least ps)) ≤ rank (least ps) = both_right q (least ps) in
    let rest : rank (least ps) ≤ rank p = least_below p ps m in
    omega (arith, first, rest)

pub least_in : (ps : List Logical) → Among (least ps) ps ⊎ (least ps ≡ True)
least_in [] = inr refl
least_in (q ∷ ps) = by (both_is q (least ps)) (least_in ps)
  where
    by : (q ≡ both q (least ps)) ⊎ (least ps ≡ both q (least ps)) → Among (least ps) ps ⊎ (least ps ≡ True)
        → Among (both q (least ps)) (q ∷ ps) ⊎ (both q (least ps) ≡ True)
    by (inl e) rest = inl (inl e)
    by (inr e) (inl m) = inl (inr (subst (λ r. Among r ps) e m))
    by (inr e) (inr t) = inr (sym e ∙ t)

no_more : (ps qs : List Logical) → ((p : Logical) → Among p ps → Among p qs) → rank (least qs) ≤ rank (least ps)
no_more ps qs f = by (least_in ps)
  where
    by : Among (least ps) ps ⊎ (least ps ≡ True) → rank (least qs) ≤ rank (least ps)
    by (inl m) = least_below (least ps) qs (f (least ps) m)
    by (inr e) = subst (λ r. rank (least qs) ≤ rank r) (sym e) (rank_most (least qs))

least_same : (ps qs : List Logical) → ((p : Logical) → Among p ps → Among p qs)
    → ((p : Logical) → Among p qs → Among p ps) → least ps ≡ least qs
least_same ps qs f g =
    let some : rank (least qs) ≤ rank (least ps) = no_more ps qs f in
    let other : rank (least ps) ≤ rank (least qs) = no_more qs ps g in
    rank_tells (least ps) (least qs) (omega (arith, some, other))

module _ (s : Schema) (d : Domain) (en : Entities) (inverses : List InverseAttribute) (attributes : Attributes)
    (are : AreAttributes s inverses attributes)
    (is js : List Instance) (h : ℕ → ℕ) (keeps : IsKept inverses is js h) (y : ℕ) (x z : Instance)
    (at : instance_at is y ≡ Some x) (there : instance_at js (h y) ≡ Some z) where
  some_instance : (u v : Instance) → Some u ≡ Some v → u ≡ v
  some_instance u v e = cc

  led : IsLed h x z
  led =
      let to = keeps.instances_led.led y x at in
      subst (λ (i : Instance). IsLed h x i) (some_instance to.0 z (sym to.1 ∙ there)) to.2

  pub same_outcome : (r : DomainRule) → outcome s d en attributes is x r ≡ outcome s d en attributes js z r
  same_outcome r = least_same (map before (selves s d en attributes x r.holder))
      (map after (selves s d en attributes z r.holder)) forth back
    where
      before : Datum → Logical
      before self = says (meaning s d en attributes is self r.condition)

      after : Datum → Logical
      after self = says (meaning s d en attributes js self r.condition)

      same : SameValues (LeadsBy is h) (selves s d en attributes x r.holder) (selves s d en attributes z r.holder)
      same = selves_same s d en attributes is js h keeps.instances_led y x z at there led r.holder

      forth : (p : Logical) → Among p (map before (selves s d en attributes x r.holder))
          → Among p (map after (selves s d en attributes z r.holder))
      forth p m =
          let from = from-map before (selves s d en attributes x r.holder) p m in
          let to = same.forth from.0 from.1 in
          let one : after to.0 ≡ p =
          sym (alike_says (LeadsBy is h) (meaning s d en attributes is from.0 r.condition)
          (meaning s d en attributes js to.0 r.condition)
          (kept_meaning s d en inverses attributes are is js h keeps from.0 to.0 to.2 r.condition)) ∙ from.2 in
          subst (λ q. Among q (map after (selves s d en attributes z r.holder))) one
          (among-map after to.0 (selves s d en attributes z r.holder) to.1)

      back : (p : Logical) → Among p (map after (selves s d en attributes z r.holder))
          → Among p (map before (selves s d en attributes x r.holder))
      back p m =
          let from = from-map after (selves s d en attributes z r.holder) p m in
          let to = same.back from.0 from.1 in
          let one : before to.0 ≡ p =
          alike_says (LeadsBy is h) (meaning s d en attributes is to.0 r.condition)
          (meaning s d en attributes js from.0 r.condition)
          (kept_meaning s d en inverses attributes are is js h keeps to.0 from.0 to.2 r.condition) ∙ from.2 in
          subst (λ q. Among q (map before (selves s d en attributes x r.holder))) one
          (among-map before to.0 (selves s d en attributes x r.holder) to.1)

pub images_keep_rules : ImagesKeepRules
images_keep_rules s d en inverses attributes are is js h keeps y x z at there r =
    same_outcome s d en inverses attributes are is js h keeps y x z at there r

-- a list that is made of lists
front_empty : (xs ys : List Breach) → xs ++ ys ≡ [] → xs ≡ []
front_empty [] ys e = refl
front_empty (x ∷ xs) ys e = absurd (cc)

rest_empty : (xs ys : List Breach) → xs ++ ys ≡ [] → ys ≡ []
rest_empty [] ys e = e
rest_empty (x ∷ xs) ys e = absurd (cc)

pub each_empty : (f : Instance → List Breach) (xs : List Instance) → flat_map f xs ≡ [] → (x : Instance) → Among x xs
    → f x ≡ []
each_empty f [] e x m = elim m [ ]
each_empty f (z ∷ xs) e x (inl q) = subst (λ (i : Instance). f i ≡ []) q (front_empty (f z) (flat_map f xs) e)
each_empty f (z ∷ xs) e x (inr m) = each_empty f xs (rest_empty (f z) (flat_map f xs) e) x m

pub all_empty : (f : Instance → List Breach) (xs : List Instance) → ((x : Instance) → Among x xs → f x ≡ [])
    → flat_map f xs ≡ []
all_empty f [] h = refl
all_empty f (x ∷ xs) h = ap (λ ys. ys ++ flat_map f xs) (h x (inl refl)) ∙ all_empty f xs (λ z m. h z (inr m))

abbrev pub breaches : ℕ → List DomainRule → List Breach
breaches n rs = map (λ (r : DomainRule). record { instance = n; holder = holder_name r.holder; label = r.label }) rs

told : (n m : ℕ) (rs : List DomainRule) → breaches n rs ≡ [] → breaches m rs ≡ []
told n m [] e = refl
told n m (r ∷ rs) e = absurd (cc)

pub no_breach_in_images : NoBreachInImages
no_breach_in_images s d en inverses attributes are rules is js h keeps onto none =
    all_empty (breaches_at s d en attributes js rules) js unbroken
  where
    unbroken : (z : Instance) → Among z js → breaches_at s d en attributes js rules z ≡ []
    unbroken z m =
        let from = onto z m in
        let free : breaches from.1.name
        (filter (λ (r : DomainRule). is_false (outcome s d en attributes is from.1 r)) rules) ≡ [] =
        each_empty (breaches_at s d en attributes is rules) is none from.1 (at_name from.0 is from.1 from.2).0 in
        told from.1.name z.name (filter (λ (r : DomainRule). is_false (outcome s d en attributes js z r)) rules)
        (subst (λ (f : DomainRule → Logical). breaches from.1.name (filter (λ (r : DomainRule). is_false (f r)) rules)
        ≡ []) (λ i r. same_outcome s d en inverses attributes are is js h keeps from.0 from.1 z from.2 from.3 r i) free)
