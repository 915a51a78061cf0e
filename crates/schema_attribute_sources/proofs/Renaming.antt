-- Whether a type is defined by another has an answer.
use Rattle.std.specs.Prelude.{◌≡◌, ℕ, zero, suc, ◌+◌, ◌≤◌, Bool, true, false, Option, None, Some, length, eqb, bytes_eq, ◌⊎◌, ◌↔◌, IsTrue}
use Rattle.std.proofs.Common.{refl, inl, inr, ap, sym, subst, ◌∙◌, arith}
use Rattle.std.proofs.lemmas.Bool.Decides.{nat_tests}
use Rattle.std.proofs.lemmas.Slice.Eq.{bytes_eq-Decides}
use Rattle.express_syntax.specs.Schemas.{Schema, type, entity, DataType, named}
use Rattle.schema_semantics.specs.Names.{Name, Among, IsType, IsEntity, IsOrLeads, Renames}
use Rattle.schema_semantics.specs.Faults.{a_type, IsMet, IsResolved, demands, demands_of_declaration, demands_of_underlying}
use Rattle.schema_semantics.proofs.Lists.{among-flat, every-at, first-step, last-step}
use Rattle.schema_semantics.proofs.Supertypes.{found}
use Rattle.schema_names.specs.Numbers.{number_of, HasNumber}
use Rattle.schema_names.proofs.Numbers.{each-number}
use Rattle.schema_attribute_sources.specs.steps.Defined.{renamed_at}
use Rattle.schema_attribute_sources.proofs.Members.{differ, not-false}
use Rattle.schema_attribute_sources.proofs.Following.{Walks, walks-first, walks-on, walks-here, walks-no-further, walks-few}

module _ (s : Schema) (r : IsResolved s) (m n : Name) where
  abbrev Answer : Type 0
  Answer = (b : Bool) × (IsTrue b ↔ IsOrLeads (Renames s) (named m) (named n))

  yes : IsOrLeads (Renames s) (named m) (named n) → Answer
  yes l = (true, ((λ t. l), (λ k. refl)))

  not : (IsOrLeads (Renames s) (named m) (named n) → ⊥) → Answer
  not never = (false, ((λ t. absurd (not-false t)), (λ l. absurd (never l))))

  -- along the names that are followed
  module _ (other : ℕ) (k : HasNumber s n other) where
    along : (left at steps : ℕ) → length s.declarations ≤ left + steps → Walks s m n at steps → Answer
    along zero at steps far w = let few = walks-few s r m n at steps w in absurd (omega (arith, far, few))
    along (suc left) at steps far w =
        here (eqb at other) refl (λ next on. along left next (steps + 1) (omega (arith, far)) on)
      where
        apart : eqb at other ≡ false → at ≡ other → ⊥
        apart f is = let e : eqb at other ≡ true = grind (arith, nat_tests) in differ (eqb at other) e f

        onward : eqb at other ≡ false → (o : Option ℕ) → renamed_at s at ≡ o
            → ((next : ℕ) → Walks s m n next (steps + 1) → Answer) → Answer
        onward f None none more = not (walks-no-further s r m n at steps other k w (apart f) none)
        onward f (Some next) e more = more next (walks-on s r m n at steps next other k w (apart f) e)

        here : (b : Bool) → eqb at other ≡ b → ((next : ℕ) → Walks s m n next (steps + 1) → Answer) → Answer
        here true t more =
            let is : at ≡ other = grind (arith, nat_tests) in yes (walks-here s r m n at steps other k w is)
        here false f more = onward f (renamed_at s at) refl more

  -- what stands behind the `=` of a type is declared
  behind : (k : DataType) → Renames s k (named n) → IsType s n ⊎ IsEntity s n
  behind (named x) (t, at, is) =
      every-at (IsMet s) (a_type n) (demands s) r.known
      (among-flat demands_of_declaration (type t) (a_type n) s.declarations (found s.declarations x (type t) at).0
      (subst (λ u. Among (a_type n) (demands_of_underlying u)) (sym is) (inl refl)))
  behind k h = absurd h

  one-name : named m ≡ named n → m ≡ n
  one-name e = cc

  -- A name that isn't declared leads to itself alone, and nothing leads to it.
  module _ (apart : m ≡ n → ⊥) where
    lacks : (i : ℕ) → None ≡ Some i → ⊥
    lacks i e = cc

    none-from : number_of s m ≡ None → IsOrLeads (Renames s) (named m) (named n) → ⊥
    none-from none (inl is) = apart (one-name is)
    none-from none (inr leads) =
        let (y, (t, at, is)) = first-step (Renames s) (named m) (named n) leads in
        let (i, h) = each-number 0 s.declarations m (type t) at in lacks i (sym none ∙ h)

    none-to : number_of s n ≡ None → IsOrLeads (Renames s) (named m) (named n) → ⊥
    none-to none (inl is) = apart (one-name is)
    none-to none (inr leads) = let (k, step) = last-step (Renames s) (named m) (named n) leads in met (behind k step)
      where
        met : IsType s n ⊎ IsEntity s n → ⊥
        met (inl (t, at)) = let (i, h) = each-number 0 s.declarations n (type t) at in lacks i (sym none ∙ h)
        met (inr (e, at)) = let (i, h) = each-number 0 s.declarations n (entity e) at in lacks i (sym none ∙ h)

  pub some-defined : (b : Bool) × (IsTrue b ↔ IsOrLeads (Renames s) (named m) (named n))
  some-defined = same (bytes_eq m n) refl
    where
      to : (m ≡ n → ⊥) → (i : ℕ) → HasNumber s m i → (o : Option ℕ) → number_of s n ≡ o → Answer
      to apart i h None none = not (none-to apart none)
      to apart i h (Some other) k = along other k (length s.declarations) i 0 (omega arith) (walks-first s m n i h)

      from : (m ≡ n → ⊥) → (o : Option ℕ) → number_of s m ≡ o → Answer
      from apart None none = not (none-from apart none)
      from apart (Some i) h = to apart i h (number_of s n) refl

      same : (b : Bool) → bytes_eq m n ≡ b → Answer
      same true e = yes (inl (ap named ((bytes_eq-Decides m n).0 e)))
      same false f =
          from (λ is. differ (bytes_eq m n) ((bytes_eq-Decides m n).1 is) f) (number_of s m) refl
