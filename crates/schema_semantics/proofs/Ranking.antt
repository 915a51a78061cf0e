-- Ranks of derived attributes.
use Rattle.std.specs.Prelude.{◌≡◌, ℕ, zero, suc, ◌<◌, ◌≤◌, [], ◌⊎◌}
use Rattle.std.proofs.Common.{inl, inr, subst, sym, arith}
use Rattle.express_syntax.specs.Schemas.{Schema}
use Rattle.schema_semantics.specs.Attributes.{Derivation}
use Rattle.schema_semantics.specs.Ranks.{Uses, IsSetAside, IsRank, AreAttributeRanks}
use Rattle.schema_semantics.specs.Laws.{AttributeRanksFall, RanksAreOne}
use Rattle.schema_semantics.proofs.Lists.{leads-joined}

pub ranks-fall : AttributeRanksFall
ranks-fall s rank d u ranks free uses = (ranks d free).above u uses

-- what one that isn't set aside may use isn't set aside either
free-below : (s : Schema) (d u : Derivation) → (IsSetAside s d → ⊥) → Uses s d u → IsSetAside s u → ⊥
free-below s d u free uses (v, inl e, why) = free (v, inr ([], subst (λ x. Uses s d x) e uses), why)
free-below s d u free uses (v, inr leads, why) = free (v, inr (leads-joined (Uses s) d u v ([], uses) leads), why)

no-more : (s : Schema) (rank other : Derivation → ℕ) (d : Derivation) → IsRank s rank d → IsRank s other d
    → ((u : Derivation) → Uses s d u → rank u ≡ other u) → other d ≤ rank d
no-more s rank other d r o same = by o.least
  where
    by : (other d ≡ 0) ⊎ ((u : Derivation) × Uses s d u × (other d ≡ suc (other u))) → other d ≤ rank d
    by (inl e) = omega arith
    by (inr (u, uses, e)) =
        let less : rank u < rank d = r.above u uses in let one : rank u ≡ other u = same u uses in omega arith

-- by the first of the two ranks
alike : (s : Schema) (rank other : Derivation → ℕ) → AreAttributeRanks s rank → AreAttributeRanks s other → (k : ℕ) (d : Derivation)
    → (IsSetAside s d → ⊥) → rank d < k → rank d ≡ other d
alike s rank other r o zero d free h = absurd (omega arith)
alike s rank other r o (suc k) d free h =
    let more =
    no-more s rank other d (r d free) (o d free) (λ u uses. below u uses
    (alike s rank other r o k u (free-below s d u free uses))) in
    let less =
    no-more s other rank d (o d free) (r d free) (λ u uses. sym
    (below u uses (alike s rank other r o k u (free-below s d u free uses)))) in
    omega arith
  where
    below : (u : Derivation) → Uses s d u → (rank u < k → rank u ≡ other u) → rank u ≡ other u
    below u uses same = let less : rank u < rank d = (r d free).above u uses in same (omega arith)

pub ranks-are-one : RanksAreOne
ranks-are-one s rank other d r o free = alike s rank other r o (suc (rank d)) d free (omega arith)
