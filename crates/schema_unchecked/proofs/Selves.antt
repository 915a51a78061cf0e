-- SELF in an entity, by number.
use Rattle.std.specs.Prelude.{◌≡◌, ℕ, List, [], ◌∷◌, Option, None, Some, ◌↔◌}
use Rattle.std.proofs.Common.{inl, inr, ap, sym, subst, ◌∙◌}
use Rattle.express_syntax.specs.Schemas.{Schema, Body}
use Rattle.schema_semantics.specs.declared.unchecked.Reason.{Reason}
use Rattle.schema_semantics.specs.Names.{Name, IsFirst}
use Rattle.schema_semantics.specs.Shapes.{Atom, instance}
use Rattle.schema_semantics.specs.Sets.{Set}
use Rattle.schema_semantics.specs.Reasons.{GivesReason}
use Rattle.schema_semantics.specs.Ranks.{Self}
use Rattle.schema_semantics.specs.Parts.{all_reasons}
use Rattle.schema_names.specs.Numbers.{HasNumber}
use Rattle.schema_names.proofs.Numbers.{one-name}
use Rattle.schema_data_types.specs.declared.values.Atom.TheVariants as atoms
use Rattle.schema_data_types.specs.steps.Values.{Holds}
use Rattle.schema_unchecked.specs.declared.judgement.Judgement.{Judgement}
use Rattle.schema_expression_analysis.proofs.Agreeing.{chain}
use Rattle.schema_expression_analysis.proofs.Bodies.{gives-same, use-same}
use Rattle.schema_unchecked.specs.steps.Judging.{IsFirstReason, IsJudged}

pub self-is : (s : Schema) (n : Name) (i : ℕ) → HasNumber s n i → (x : Atom)
    → Holds s (atoms.Instance i ∷ []) x ↔ Self n x
self-is s n i k x = (forth, λ e. inl (n, k, e))
  where
    forth : Holds s (atoms.Instance i ∷ []) x → Self n x
    forth (inl (m, there, e)) = e ∙ ap instance (one-name s m n i there k)
    forth (inr h) = elim h [ ]

-- reasons that hold alike
abbrev pub Alike : (Reason → Type 0) → (Reason → Type 0) → Type 0
Alike P Q = (r : Reason) → P r ↔ Q r

first-alike : (P Q : Reason → Type 0) → Alike P Q → (rs : List Reason) (r : Reason) → IsFirst P rs r → IsFirst Q rs r
first-alike P Q same [] r h = absurd h
first-alike P Q same (q ∷ rs) r (inl (p, e)) = inl ((same q).0 p, e)
first-alike P Q same (q ∷ rs) r (inr (never, h)) = inr ((λ k. never ((same q).1 k)), first-alike P Q same rs r h)

pub reason-alike : (P Q : Reason → Type 0) → Alike P Q → (o : Option Reason) → IsFirstReason P o → IsFirstReason Q o
reason-alike P Q same None never = λ r k. never r ((same r).1 k)
reason-alike P Q same (Some r) h = first-alike P Q same all_reasons r h

-- What a body says depends on what is in the set of SELF alone.
pub judged-same : (s : Schema) (M N : Set) → ((x : Atom) → M x ↔ N x) → (b : Body) (j : Judgement) → IsJudged s M b j
    → IsJudged s N b j
judged-same s M N h b j is = record {
  reason = reason-alike (GivesReason s M b) (GivesReason s N b) (gives-same s M N h b) j.reason is.reason;
  uses = λ d. chain (is.uses d) (use-same s M N h b d);
}
