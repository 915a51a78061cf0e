-- A part has one reason at most, and a schema one list of unchecked parts.
use Rattle.std.specs.Prelude.{◌≡◌, List, [], ◌∷◌}
use Rattle.std.proofs.Common.{refl, inl, inr, sym, ◌∙◌}
use Rattle.schema_semantics.specs.declared.unchecked.PartKind.{PartKind}
use Rattle.schema_semantics.specs.declared.unchecked.Reason.{Reason}
use Rattle.schema_semantics.specs.Names.{Name}
use Rattle.schema_semantics.specs.Parts.{Unchecked, Candidate, Lists, all_reasons, candidates}
use Rattle.schema_semantics.specs.Laws.{UncheckedAreOne}
use Rattle.schema_semantics.proofs.Lists.{first-is-one, first-holds}

one-more : (k : PartKind) (n : Name) (r q : Reason) (us vs : List Unchecked) → r ≡ q → us ≡ vs
    → ◌≡◌ {A = List Unchecked} (record { kind = k; name = n; reason = r } ∷ us)
    (record { kind = k; name = n; reason = q } ∷ vs)
one-more k n r q us vs e f = rw (e, f) refl

lists-are-one : (cs : List Candidate) → (us vs : List Unchecked) → Lists cs us → Lists cs vs → us ≡ vs
lists-are-one [] us vs h k = h ∙ sym k
lists-are-one (c ∷ cs) us vs (inl (r, w, more, e, l)) (inl (q, x, rest, f, m)) =
    e ∙ one-more c.kind c.name r q more rest (first-is-one c.has_reason all_reasons r q w x)
    (lists-are-one cs more rest l m) ∙ sym f
lists-are-one (c ∷ cs) us vs (inl (r, w, more, e, l)) (inr k) =
    absurd (k.0 r (first-holds c.has_reason all_reasons r w))
lists-are-one (c ∷ cs) us vs (inr h) (inl (q, x, rest, f, m)) =
    absurd (h.0 q (first-holds c.has_reason all_reasons q x))
lists-are-one (c ∷ cs) us vs (inr h) (inr k) = lists-are-one cs us vs h.1 k.1

pub unchecked-are-one : UncheckedAreOne
unchecked-are-one s us vs h k = lists-are-one (candidates s) us vs h k
