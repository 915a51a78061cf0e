-- Candidates behind candidates, and one that is listed or isn't.
use Rattle.std.specs.Prelude.{◌≡◌, List, [], ◌∷◌, ◌++◌}
use Rattle.std.proofs.Common.{refl, inl, inr, ap, sym, subst, ◌∙◌, append-nil, append_assoc}
use Rattle.schema_semantics.specs.declared.unchecked.PartKind.{PartKind}
use Rattle.schema_semantics.specs.declared.unchecked.Reason.{Reason}
use Rattle.schema_semantics.specs.declared.unchecked.Reason.TheVariants as reasons
use Rattle.schema_semantics.specs.Names.{Name, IsFirst}
use Rattle.schema_semantics.specs.Parts.{Unchecked, Candidate, Lists, all_reasons, because}
use Rattle.schema_unchecked_declarations.specs.UncheckedLists.{Adds}

lists-joined : (cs ds : List Candidate) (us vs : List Unchecked) → Lists cs us → Lists ds vs
    → Lists (cs ++ ds) (us ++ vs)
lists-joined [] ds us vs e h = subst (λ ws. Lists ds (ws ++ vs)) (sym e) h
lists-joined (c ∷ cs) ds us vs (inl (r, first, ws, is, more)) h =
    inl (r, first, ws ++ vs, ap (λ l. l ++ vs) is, lists-joined cs ds ws vs more h)
lists-joined (c ∷ cs) ds us vs (inr (none, more)) h = inr (none, lists-joined cs ds us vs more h)

pub adds-none : (us : List Unchecked) → Adds [] us us
adds-none us = ([], refl, sym (append-nil us))

pub adds-joined : (cs ds : List Candidate) (a b c : List Unchecked) → Adds cs a b → Adds ds b c → Adds (cs ++ ds) a c
adds-joined cs ds a b c (us, h, e) (vs, k, f) =
    (us ++ vs, lists-joined cs ds us vs h k, f ∙ ap (λ l. l ++ vs) e ∙ append_assoc a us vs)

-- no other reason holds of a candidate that has one
first-of-one : (r : Reason) (P : Type 0) → P → IsFirst (λ q. (q ≡ r) × P) all_reasons r
first-of-one reasons.Skipped P p = inl ((refl, p), refl)
first-of-one reasons.Profile P p = inr ((λ h. cc), inl ((refl, p), refl))
first-of-one reasons.Name P p = inr ((λ h. cc), inr ((λ h. cc), inl ((refl, p), refl)))
first-of-one reasons.Typeof P p = inr ((λ h. cc), inr ((λ h. cc), inr ((λ h. cc), inl ((refl, p), refl))))
first-of-one reasons.Kind P p =
    inr ((λ h. cc), inr ((λ h. cc), inr ((λ h. cc), inr ((λ h. cc), inl ((refl, p), refl)))))
first-of-one reasons.Leads P p =
    inr ((λ h. cc), inr ((λ h. cc), inr ((λ h. cc), inr ((λ h. cc), inr ((λ h. cc), inl ((refl, p), refl))))))

-- a candidate that has a reason stands behind the others now
pub adds-one : (c : Candidate) (r : Reason) (old new : List Unchecked) → IsFirst c.has_reason all_reasons r
    → new ≡ old ++ record { kind = c.kind; name = c.name; reason = r } ∷ [] → Adds (c ∷ []) old new
adds-one c r old new first is =
    (record { kind = c.kind; name = c.name; reason = r } ∷ [], inl (r, first, [], refl, refl), is)

-- one that has none doesn't
pub adds-nothing : (c : Candidate) (us : List Unchecked) → ((r : Reason) → c.has_reason r → ⊥) → Adds (c ∷ []) us us
adds-nothing c us never = ([], inr (never, refl), sym (append-nil us))

pub adds-part : (k : PartKind) (n : Name) (r : Reason) (P : Type 0) (old new : List Unchecked) → P
    → new ≡ old ++ record { kind = k; name = n; reason = r } ∷ [] → Adds (because k n r P ∷ []) old new
adds-part k n r P old new p is = adds-one (because k n r P) r old new (first-of-one r P p) is

pub adds-unlisted : (k : PartKind) (n : Name) (r : Reason) (P : Type 0) (us : List Unchecked) → (P → ⊥)
    → Adds (because k n r P ∷ []) us us
adds-unlisted k n r P us never = adds-nothing (because k n r P) us (λ q h. never h.1)
