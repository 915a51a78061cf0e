-- Inverse attributes hold as many as they did.
use Rattle.std.specs.Prelude.{◌≡◌, ℕ, suc, IsTrue, List, [], ◌∷◌, length, Some}
use Rattle.std.proofs.Common.{refl, ap, sym, subst, ◌∙◌}
use Rattle.express_syntax.specs.Profile.{Every}
use Rattle.schema_semantics.specs.Names.{Among}
use Rattle.schema_semantics.proofs.Lists.{every-at, every-of}
use Rattle.conformance.specs.ParameterFits.{is_listed}
use Rattle.conformance.specs.Populations.{Instance, instance_at}
use Rattle.conformance.specs.Images.{IsLed}
use Rattle.conformance.specs.Rules.{InverseAttribute}
use Rattle.conformance.specs.Referrers.{inverse_value}
use Rattle.conformance.specs.RuleFindings.{may_hold}
use Rattle.conformance.proofs.Keys.{no_finding_exactly_where_bounds_hold}
use Rattle.express_logic.specs.Data.{bag}
use Rattle.express_logic.specs.Holdings.{size_of}
use Rattle.conformance.specs.Meanings.{instance_data}
use Rattle.conformance.specs.MeaningImages.{LeadsBy}
use Rattle.conformance.specs.MeaningLaws.{InverseBoundsStay}
use Rattle.conformance.proofs.Elements.{size_same}
use Rattle.conformance.proofs.Led.{at_name}

size_of_instances : (ys : List ℕ) → size_of (instance_data ys) ≡ length ys
size_of_instances [] = refl
size_of_instances (y ∷ ys) = ap suc (size_of_instances ys)

pub inverse_bounds_stay : InverseBoundsStay
inverse_bounds_stay rules is js h keeps onto none =
    (no_finding_exactly_where_bounds_hold rules js).1
    (every-of (λ (z : Instance). Every (λ (i : InverseAttribute). IsTrue (is_listed i.entity z.types)
    → IsTrue (may_hold i.gathering (length (inverse_value js i z.name)))) rules.inverses) js at)
  where
    held : (y : ℕ) (x z : Instance) → instance_at is y ≡ Some x → instance_at js (h y) ≡ Some z
        → (i : InverseAttribute) → Among i rules.inverses
        → length (inverse_value is i x.name) ≡ length (inverse_value js i z.name)
    held y x z e f i m =
        let before = at_name y is x e in
        let after = at_name (h y) js z f in
        ap (λ n. length (inverse_value is i n)) before.1
        ∙ (sym (size_of_instances (inverse_value is i y))
        ∙ (size_same (LeadsBy is h) bag (instance_data (inverse_value is i y)) (instance_data (inverse_value js i (h y)))
        (keeps.referrers_led i m y (x, e))
        ∙ (size_of_instances (inverse_value js i (h y))
        ∙ sym (ap (λ n. length (inverse_value js i n)) after.1))))

    some_instance : (v w : Instance) → Some v ≡ Some w → v ≡ w
    some_instance v w e = cc

    led : (y : ℕ) (x z : Instance) → instance_at is y ≡ Some x → instance_at js (h y) ≡ Some z → IsLed h x z
    led y x z e f =
        let a = keeps.instances_led.led y x e in
        subst (λ (v : Instance). IsLed h x v) (some_instance a.0 z (sym a.1 ∙ f)) a.2

    at : (z : Instance) → Among z js → Every (λ (i : InverseAttribute). IsTrue (is_listed i.entity z.types)
        → IsTrue (may_hold i.gathering (length (inverse_value js i z.name)))) rules.inverses
    at z n =
        let from = onto z n in
        let known = at_name from.0 is from.1 from.2 in
        let holds = every-at (λ (x : Instance). Every (λ (i : InverseAttribute). IsTrue (is_listed i.entity x.types)
        → IsTrue (may_hold i.gathering (length (inverse_value is i x.name)))) rules.inverses) from.1 is
        ((no_finding_exactly_where_bounds_hold rules is).0 none) known.0 in
        every-of (λ (i : InverseAttribute). IsTrue (is_listed i.entity z.types)
        → IsTrue (may_hold i.gathering (length (inverse_value js i z.name)))) rules.inverses
        (λ i m t. subst (λ k. IsTrue (may_hold i.gathering k)) (held from.0 from.1 z from.2 from.3 i m)
        (every-at (λ (i : InverseAttribute). IsTrue (is_listed i.entity from.1.types)
        → IsTrue (may_hold i.gathering (length (inverse_value is i from.1.name)))) i rules.inverses holds m
        (ap (is_listed i.entity) (led from.0 from.1 z from.2 from.3).types ∙ t)))
