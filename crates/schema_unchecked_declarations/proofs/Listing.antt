-- Parts of each kind that are listed, and those that aren't.
use Rattle.std.specs.Prelude.{◌≡◌, ℕ, ℤ, List, [], ◌∷◌, ◌++◌, FitsSigned, codes}
use Rattle.std.specs.Int.{w64}
use Rattle.std.proofs.Common.{refl, subst}
use Rattle.step_literals.specs.Decimals.{IsWorth}
use Rattle.express_syntax.specs.Schemas.{Bound, value, unlimited, other_bound, width, Skipped, function, procedure, rule, constants, subtype_constraint}
use Rattle.express_syntax.specs.Clauses.{IsInteger}
use Rattle.express_syntax.specs.declared.tree.Bound.{Bound as Written}
use Rattle.express_syntax.specs.declared.tree.Bound.TheVariants as bounds
use Rattle.express_syntax.specs.Views.{bound_of}
use Rattle.schema_semantics.specs.declared.unchecked.PartKind.{PartKind}
use Rattle.schema_semantics.specs.declared.unchecked.PartKind.TheVariants as parts
use Rattle.schema_semantics.specs.declared.unchecked.Reason.TheVariants as reasons
use Rattle.schema_semantics.specs.Names.{Name}
use Rattle.schema_semantics.specs.Parts.{Unchecked, always, part_of_skipped, parts_of_bound, parts_of_width, IsBeyond}
use Rattle.schema_unchecked_declarations.specs.UncheckedLists.{Adds}
use Rattle.schema_unchecked_declarations.proofs.Joining.{adds-part, adds-unlisted}

-- this part stands behind the others now
abbrev pub Lies : PartKind → Name → List Unchecked → List Unchecked → Type 0
Lies k n old new = new ≡ old ++ record { kind = k; name = n; reason = reasons.Profile } ∷ []

pub bound-unlisted : (n : Name) (b : Bound) (k : ℤ) (us : List Unchecked) → FitsSigned w64 k → IsInteger b k
    → Adds (parts_of_bound n b) us us
bound-unlisted n (value s t) k us fits is =
    adds-unlisted parts.Bound n reasons.Profile (IsBeyond (IsInteger (value s t))) us (λ beyond. beyond k fits is)
bound-unlisted n unlimited k us fits is = absurd is
bound-unlisted n (other_bound r) k us fits is = absurd is

pub bound-listed : (n : Name) (b : Written) (old new : List Unchecked) → (b ≡ bounds.Unlimited → ⊥)
    → IsBeyond (IsInteger (bound_of b)) → Lies parts.Bound n old new → Adds (parts_of_bound n (bound_of b)) old new
bound-listed n (bounds.Value s d) old new not beyond is =
    adds-part parts.Bound n reasons.Profile (IsBeyond (IsInteger (value s d.text.now))) old new beyond is
bound-listed n bounds.Unlimited old new not beyond is = absurd (not refl)
bound-listed n (bounds.Other r) old new not beyond is =
    adds-part parts.Bound n reasons.Profile (Unit {0}) old new tt is

pub width-unlisted : (n : Name) (t : List ℕ) (k : ℤ) (us : List Unchecked) → FitsSigned w64 k → IsWorth t k
    → Adds (parts_of_width n (width t)) us us
width-unlisted n t k us fits is =
    adds-unlisted parts.Width n reasons.Profile (IsBeyond (IsWorth t)) us (λ beyond. beyond k fits is)

pub width-listed : (n : Name) (t : List ℕ) (old new : List Unchecked) → IsBeyond (IsWorth t)
    → Lies parts.Width n old new → Adds (parts_of_width n (width t)) old new
width-listed n t old new beyond is = adds-part parts.Width n reasons.Profile (IsBeyond (IsWorth t)) old new beyond is

adds-skipped-part : (j : PartKind) (m : Name) (k : PartKind) (n : Name) (old new : List Unchecked) → k ≡ j → n ≡ m
    → new ≡ old ++ record { kind = k; name = n; reason = reasons.Skipped } ∷ []
    → Adds (always j m reasons.Skipped ∷ []) old new
adds-skipped-part j m k n old new kind name is =
    adds-part j m reasons.Skipped (Unit {0}) old new tt
    (subst (λ i. new ≡ old ++ record { kind = i; name = m; reason = reasons.Skipped } ∷ []) kind
    (subst (λ l. new ≡ old ++ record { kind = k; name = l; reason = reasons.Skipped } ∷ []) name is))

pub adds-skipped : (p : Skipped) (k : PartKind) (n : Name) (old new : List Unchecked) → k ≡ (part_of_skipped p).kind
    → n ≡ (part_of_skipped p).name → new ≡ old ++ record { kind = k; name = n; reason = reasons.Skipped } ∷ []
    → Adds (part_of_skipped p ∷ []) old new
adds-skipped (function m r) k n old new kind name is = adds-skipped-part parts.Function m k n old new kind name is
adds-skipped (procedure m r) k n old new kind name is = adds-skipped-part parts.Procedure m k n old new kind name is
adds-skipped (rule m r) k n old new kind name is = adds-skipped-part parts.Rule m k n old new kind name is
adds-skipped (constants r) k n old new kind name is =
    adds-skipped-part parts.Constant (codes "CONSTANT") k n old new kind name is
adds-skipped (subtype_constraint m r) k n old new kind name is =
    adds-skipped-part parts.SubtypeConstraint m k n old new kind name is
