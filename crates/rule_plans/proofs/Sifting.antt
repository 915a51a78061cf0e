-- Of values that are told with the numbers of their types, all, and those whose types pass a test.
use Rattle.std.specs.Prelude.{◌≡◌, ℕ, Bool, true, false, ◌||◌, cond, List, [], ◌∷◌, ◌++◌, map, eqb, Option, None, Some}
use Rattle.std.proofs.Common.{refl, sym, ap, ◌∙◌, arith}
use Rattle.std.proofs.lemmas.Bool.Decides.{nat_tests}
use Rattle.graphs.specs.Graphs.{has}
use Rattle.express_syntax.specs.Schemas.{Schema}
use Rattle.schema_semantics.specs.Names.{Name}
use Rattle.schema_underlying_types.specs.BaseViews.{name_at}
use Rattle.express_logic.specs.Data.{Datum}
use Rattle.rule_plans.specs.steps.Coded.{is_wanted, wanted_in, Told, told_by}
use Rattle.rule_plans.specs.steps.Seeking.{IsDeclared, Agrees, Covers, Tells, those, worth, number}

-- whether what is declared at a number passes a test of its name
abbrev pub told : Schema → (Name → Bool) → Option ℕ → Bool
told s test None = false
told s test (Some i) = test (name_at s i)

module _ (p : ℕ → Bool) where
  pub those-joined : (ts us : List Told) → those p (ts ++ us) ≡ those p ts ++ those p us
  those-joined [] us = refl
  those-joined (t ∷ ts) us = by (p t.0) (those-joined ts us)
    where
      by : (b : Bool) → those p (ts ++ us) ≡ those p ts ++ those p us
          → cond b (t.1 ∷ those p (ts ++ us)) (those p (ts ++ us)) ≡ cond b (t.1 ∷ those p ts) (those p ts) ++ those p us
      by true h = ap (λ (l : List Datum). t.1 ∷ l) h
      by false h = h

  -- where no number passes, there are none
  or-right : (a b : Bool) → b ≡ true → (a || b) ≡ true
  or-right true b e = refl
  or-right false b e = e

  itself : (n : ℕ) → eqb n n ≡ true
  itself n = grind (arith, nat_tests)

  pub none-pass : (ts : List Told) → ((i : ℕ) → has (map number ts) i ≡ true → p i ≡ false) → those p ts ≡ []
  none-pass [] h = refl
  none-pass (t ∷ ts) h =
      ap (λ b. cond b (t.1 ∷ those p ts) (those p ts)) (h t.0 (ap (λ b. b || has (map number ts) t.0) (itself t.0)))
      ∙ none-pass ts (λ i e. h i (or-right (eqb i t.0) (has (map number ts) i) e))

-- one value, by the number that its data type names
module _ (s : Schema) (test : Name → Bool) (wanted : List Bool) where
  pub exactly-one : Tells s wanted test → (o : Option ℕ) → IsDeclared s o → (z : Datum)
      → map worth (told_by (wanted_in wanted o) z) ≡ cond (told s test o) (z ∷ []) []
  exactly-one tells None h z = refl
  exactly-one tells (Some i) h z = by (is_wanted wanted i) refl
    where
      by : (b : Bool) → is_wanted wanted i ≡ b
          → map worth (told_by (cond b (Some i) None) z) ≡ cond (test (name_at s i)) (z ∷ []) []
      by true e = ap (λ c. cond c (z ∷ []) []) (sym e ∙ tells i h)
      by false e = ap (λ c. cond c (z ∷ []) []) (sym e ∙ tells i h)

  pub those-of-one : (p : ℕ → Bool) → Agrees s p test → Covers s wanted test → (o : Option ℕ) → IsDeclared s o
      → (z : Datum) → those p (told_by (wanted_in wanted o) z) ≡ cond (told s test o) (z ∷ []) []
  those-of-one p agrees covers None h z = refl
  those-of-one p agrees covers (Some i) h z = by (is_wanted wanted i) refl
    where
      unwanted : is_wanted wanted i ≡ false → (b : Bool) → test (name_at s i) ≡ b → [] ≡ cond b (z ∷ []) []
      unwanted e true k = absurd (let no : true ≡ false = sym (covers i h k) ∙ e in cc)
      unwanted e false k = refl

      by : (b : Bool) → is_wanted wanted i ≡ b
          → those p (told_by (cond b (Some i) None) z) ≡ cond (test (name_at s i)) (z ∷ []) []
      by true e = ap (λ c. cond c (z ∷ []) []) (agrees i h)
      by false e = unwanted e (test (name_at s i)) refl
