-- Where the limit is above the ranks of all derived attributes, each has its value below it.
use Rattle.std.specs.Prelude.{◌≡◌, ℕ, zero, suc, ◌<◌, ◌≤◌, List, [], ◌∷◌, Option, Some, None, length, slice_get}
use Rattle.std.specs.Option.{option_map}
use Rattle.std.proofs.Common.{refl, inl, inr, sym, ap, subst, ◌∙◌, arith}
use Rattle.express_syntax.specs.Schemas.{Schema}
use Rattle.express_syntax.specs.Trees.{Tree}
use Rattle.schema_semantics.specs.Attributes.{Derivation}
use Rattle.schema_semantics.proofs.Ranking.{ranks-are-one}
use Rattle.schema_attributes.specs.Derivations.{all_derivations}
use Rattle.schema_derived_attributes.proofs.Numbering.{has-number}
use Rattle.typed_populations.proofs.Turns.{got}
use Rattle.express_logic.specs.Data.{Datum}
use Rattle.conformance.specs.Attributes as attributes
use Rattle.conformance.specs.Attributes.{IsFormula}
use Rattle.conformance.specs.Expressions.{means, Variable}
use Rattle.conformance.specs.Meanings.{above, derived_value}
use Rattle.schema_derived_attributes.specs.declared.formula.Formula.{Formula}
use Rattle.schema_derived_attributes.specs.Formulas.{formula_seen}
use Rattle.rule_settings.specs.declared.setting.Setting.{Setting}
use Rattle.rule_settings.specs.Settings.{IsSetting, Meant, schema_in, population_in, setting_by, below_rank}
use Rattle.rule_evaluation.proofs.Ranked.{below-none, below-rank}
use Rattle.rule_plans.specs.Limits.{above_rank, AreRanksBelow, IsLimit}

abbrev rank_of : Option attributes.Formula → ℕ
rank_of None = 0
rank_of (Some f) = f.rank

below-length : {A : Type 0} (xs : List A) (i : ℕ) (x : A) → slice_get xs i ≡ Some x → i < length xs
below-length [] i x e = absurd (let k : None ≡ Some x = e in cc)
below-length (y ∷ xs) zero x e = omega arith
below-length (y ∷ xs) (suc i) x e = omega (arith, below-length xs i x e)

limit-at : (fs : List (Option Formula)) (i n : ℕ) (o : Option Formula) → AreRanksBelow fs n → slice_get fs i ≡ Some o
    → above_rank o ≤ n
limit-at [] i n o h e = absurd (let k : None ≡ Some o = e in cc)
limit-at (p ∷ fs) zero n o h e =
    let same : p ≡ o = cc in
    subst (λ q. above_rank q ≤ n) same h.0
limit-at (p ∷ fs) (suc i) n o h e = limit-at fs i n o h.1 e

-- a formula of the table has a rank below the limit
rank-below : (o : Option Formula) (n : ℕ) (g : attributes.Formula) → above_rank o ≤ n → option_map formula_seen o ≡ Some g
    → g.rank < n
rank-below None n g l e = absurd (let k : None ≡ Some g = e in cc)
rank-below (Some f) n g l e =
    let same : f.rank ≡ g.rank = ap rank_of e in
    omega (arith, l, same)

-- how a derived attribute is computed has one rank
same-rank : (s : Schema) (d : Derivation) (f : attributes.Formula) (o : Option attributes.Formula) → IsFormula s d (Some f)
    → IsFormula s d o → (g : attributes.Formula) × (o ≡ Some g) × (g.rank ≡ f.rank)
same-rank s d f None h (inl aside) = absurd (h.0 aside)
same-rank s d f None h (inr none) = absurd (none h.1.0 h.1.1)
same-rank s d f (Some g) h k =
    (g, refl, sym k.2.2 ∙ (ranks-are-one s k.2.0 h.2.0 d k.2.1 h.2.1 k.0 ∙ h.2.2))

module _ (S : Setting) (m : Meant S) (known : IsSetting S) (n : ℕ) (limit : IsLimit S.formulas.now n) where
  ranked : (e : Derivation) (f : attributes.Formula) → m.said.attributes.formula e ≡ Some f → f.rank < n
  ranked e f h =
      let s = schema_in S in
      let there : IsFormula s e (Some f) = subst (IsFormula s e) h (m.said.are_attributes.formulas e) in
      let (j, number) = has-number s e there.1.0 there.1.1 in
      let rows = S.formulas.now.rows.items in
      let within : j < length rows = subst (λ k. j < k) (sym known.formulas.rows.same) (below-length (all_derivations s) j e number) in
      let (o, at) = got rows j within in
      let (g, is, same) = same-rank s e f (option_map formula_seen o) there (known.formulas.rows.each j e o number at) in
      let less = rank-below o n g (limit-at rows j n o limit at) is in
      omega (arith, less, same)

  settled-by : (y : ℕ) (e : Derivation) (o : Option attributes.Formula) → m.said.attributes.formula e ≡ o
      → below_rank S m n y e ≡ below_rank S m (above o) y e
  settled-by y e None h = below-none S m n y e h ∙ sym (below-none S m 0 y e h)
  settled-by y e (Some f) h =
      below-rank S m n y e f h (ranked e f h) ∙ sym (below-rank S m (suc f.rank) y e f h (omega arith))

  abbrev computed : ℕ → Derivation → Datum
  computed = derived_value (schema_in S) m.said.domain m.said.entities m.said.attributes (population_in S)

  settled : (y : ℕ) (e : Derivation) → below_rank S m n y e ≡ computed y e
  settled y e = settled-by y e (m.said.attributes.formula e) refl

  pub meant-whole : (vs : List Variable) (me : Datum) (x : Tree)
      → means (setting_by S m (below_rank S m n)) vs me x
      ≡ means (setting_by S m (derived_value (schema_in S) m.said.domain m.said.entities m.said.attributes (population_in S))) vs me x
  meant-whole vs me x = ap (λ c. means (setting_by S m c) vs me x) (λ i y e. settled y e i)
