-- A certificate is refused in one way at most, or it proves one thing.
use Rattle.std.specs.Prelude.{◌≡◌, ℕ, Bool, List, length, Result, Ok, Err}
use Rattle.std.proofs.Common.{refl, sym, ap, subst, ◌∙◌, inl, inr}
use Rattle.step_structures.specs.Trees.{File}
use Rattle.value_equality.specs.Rows.{Row}
use Rattle.value_equality.specs.Tables.{Table, IsValid}
use Rattle.express_syntax.specs.Schemas.{Schema}
use Rattle.conformance.specs.Choices.{MergeOptions}
use Rattle.conformance.specs.SchemaMeanings.{Said, instances}
use Rattle.conformance.proofs.RowOneness.{rows_are_one}
use Rattle.merge_theorems.proofs.Once.{one_test}
use Rattle.certificate_text.specs.Faults.{IsOld}
use Rattle.certificate_text.specs.declared.fault.CertFault.TheVariants as certificates
use Rattle.certificate_text.proofs.Lining.{one_certificate, no_fault, one_bad_line}
use Rattle.reports.specs.declared.refusal.Refusal.{Refusal}
use Rattle.reports.specs.declared.refusal.Refusal.TheVariants.{OldVersion, BadText, WrongNames, GroundlessSplit, Unstable, NotTheImage}
use Rattle.reports.specs.declared.fault.Fault.{Fault}
use Rattle.reports.specs.declared.fault.Fault.TheVariants as faults
use Rattle.verifying.specs.declared.proof.Proof.{Proof}
use Rattle.verifying.specs.Verifying.{Lacks}
use Rattle.verifying.specs.Laws.{ProofsSayTheSame}
use Rattle.verifying.proofs.Levels.{AreImage, AtImage, AtSecond, AtFirst, AtTables, AtLines, AtText}

module _ (rows : List Row) (pinned : ℕ → Bool) (t : Table) where
  lacks_once : (a b : Refusal) → Lacks rows pinned t a → Lacks rows pinned t b → a ≡ b
  lacks_once OldVersion b h k = absurd h
  lacks_once (BadText line) b h k = absurd h
  lacks_once NotTheImage b h k = absurd h
  lacks_once WrongNames OldVersion h k = absurd k
  lacks_once WrongNames (BadText line) h k = absurd k
  lacks_once WrongNames NotTheImage h k = absurd k
  lacks_once WrongNames WrongNames h k = refl
  lacks_once WrongNames GroundlessSplit h k = absurd (h k.0)
  lacks_once WrongNames Unstable h k = absurd (h k.0)
  lacks_once GroundlessSplit OldVersion h k = absurd k
  lacks_once GroundlessSplit (BadText line) h k = absurd k
  lacks_once GroundlessSplit NotTheImage h k = absurd k
  lacks_once GroundlessSplit WrongNames h k = absurd (k h.0)
  lacks_once GroundlessSplit GroundlessSplit h k = refl
  lacks_once GroundlessSplit Unstable h k = absurd (h.1 k.1)
  lacks_once Unstable OldVersion h k = absurd k
  lacks_once Unstable (BadText line) h k = absurd k
  lacks_once Unstable NotTheImage h k = absurd k
  lacks_once Unstable WrongNames h k = absurd (k h.0)
  lacks_once Unstable GroundlessSplit h k = absurd (k.1 h.1)
  lacks_once Unstable Unstable h k = refl

  valid_lacks_none : IsValid rows pinned t → (a : Refusal) → Lacks rows pinned t a → ⊥
  valid_lacks_none v OldVersion h = h
  valid_lacks_none v (BadText line) h = h
  valid_lacks_none v NotTheImage h = h
  valid_lacks_none v WrongNames h = h v.members
  valid_lacks_none v GroundlessSplit h = h.1 v.grounded
  valid_lacks_none v Unstable h = h.2 v.stable

-- what two answers say is what they are
pub says : (r q x y : Result Proof Fault) → r ≡ x → q ≡ y → ProofsSayTheSame x y → ProofsSayTheSame r q
says r q x y e d h = subst (λ z. ProofsSayTheSame z q) (sym e) (subst (ProofsSayTheSame x) (sym d) h)

module _ (s : Schema) (said : Said s) (chosen : MergeOptions) (f g : File) (r q : Result Proof Fault) where
  refused_once : (a b : Refusal) → r ≡ Err (faults.Certificate a) → q ≡ Err (faults.Certificate b) → a ≡ b → ProofsSayTheSame r q
  refused_once a b e d same = says r q (Err (faults.Certificate a)) (Err (faults.Certificate b)) e d same

  at_image : (rows : List Row) (second : Table) → AtImage s said chosen f g r rows second
      → AtImage s said chosen f g q rows second → ProofsSayTheSame r q
  at_image rows second (inl a) (inl b) = refused_once NotTheImage NotTheImage a.0 b.0 refl
  at_image rows second (inl a) (inr b) =
      let one = rows_are_one s (instances s said g) b.2 a.1 b.3 a.2 in
      absurd (a.3 (subst (AreImage s said chosen f g r rows second) one b.4))
  at_image rows second (inr b) (inl a) =
      let one = rows_are_one s (instances s said g) b.2 a.1 b.3 a.2 in
      absurd (a.3 (subst (AreImage s said chosen f g r rows second) one b.4))
  at_image rows second (inr a) (inr b) =
      let one = rows_are_one s (instances s said g) a.2 b.2 a.3 b.3 in
      let instances : a.0.instances ≡ b.0.instances = a.5 ∙ sym b.5 in
      let kept : a.0.kept ≡ b.0.kept = a.6 ∙ ap length one ∙ sym b.6 in
      let rounds : a.0.rounds ≡ b.0.rounds = a.7 ∙ sym b.7 in
      says r q (Ok a.0) (Ok b.0) a.1 b.1
      (λ i. record { instances = instances i; kept = kept i; rounds = rounds i })

  at_second : (rows : List Row) (second : Table) (gentle : ℕ → Bool)
      → AtSecond s said chosen f g r rows second gentle → AtSecond s said chosen f g q rows second gentle
      → ProofsSayTheSame r q
  at_second rows second gentle (inl a) (inl b) =
      refused_once a.0 b.0 a.1 b.1 (lacks_once rows gentle second a.0 b.0 a.2 b.2)
  at_second rows second gentle (inl a) (inr b) = absurd (valid_lacks_none rows gentle second b.0 a.0 a.2)
  at_second rows second gentle (inr a) (inl b) = absurd (valid_lacks_none rows gentle second a.0 b.0 b.2)
  at_second rows second gentle (inr a) (inr b) = at_image rows second a.1 b.1

  at_first : (rows : List Row) (weak : ℕ → Bool) (first second : Table)
      → AtFirst s said chosen f g r rows weak first second → AtFirst s said chosen f g q rows weak first second
      → ProofsSayTheSame r q
  at_first rows weak first second (inl a) (inl b) =
      refused_once a.0 b.0 a.1 b.1 (lacks_once rows weak first a.0 b.0 a.2 b.2)
  at_first rows weak first second (inl a) (inr b) = absurd (valid_lacks_none rows weak first b.0 a.0 a.2)
  at_first rows weak first second (inr a) (inl b) = absurd (valid_lacks_none rows weak first a.0 b.0 b.2)
  at_first rows weak first second (inr a) (inr b) =
      at_second rows second a.1 a.3
      (subst (AtSecond s said chosen f g q rows second) (one_test _ b.1 a.1 b.2 a.2) b.3)

  module _ (certificate : List ℕ) where
    at_tables : AtTables s said chosen f g r certificate → AtTables s said chosen f g q certificate → ProofsSayTheSame r q
    at_tables a b =
        let tables = one_certificate certificate b.0 b.1 a.0 a.1 b.2 a.2 in
        let rows = rows_are_one s (instances s said f) b.3 a.3 b.4 a.4 in
        let weak = one_test _ b.5 a.5 b.6 a.6 in
        at_first a.3 a.5 a.0 a.1 a.7
        (subst (λ t. AtFirst s said chosen f g q a.3 a.5 a.0 t) tables.1
        (subst (λ t. AtFirst s said chosen f g q a.3 a.5 t b.1) tables.0
        (subst (λ w. AtFirst s said chosen f g q a.3 w b.0 b.1) weak
        (subst (λ l. AtFirst s said chosen f g q l b.5 b.0 b.1) rows b.7))))

    at_lines : AtLines s said chosen f g r certificate → AtLines s said chosen f g q certificate → ProofsSayTheSame r q
    at_lines (inl a) (inl b) =
        refused_once (BadText a.0) (BadText b.0) a.1 b.1 (ap BadText (one_bad_line certificate a.0 b.0 a.3 b.3))
    at_lines (inl a) (inr b) = absurd (a.3.unread b.0 b.1 b.2)
    at_lines (inr a) (inl b) = absurd (b.3.unread a.0 a.1 a.2)
    at_lines (inr a) (inr b) = at_tables a b

    not_old : (x : Result Proof Fault) → IsOld certificate → AtLines s said chosen f g x certificate → ⊥
    not_old x old (inl b) = b.2 old
    not_old x old (inr b) =
        let clash = no_fault certificate b.0 b.1 certificates.OldVersion b.2 old in absurd (cc)

    pub at_text : AtText s said chosen f g r certificate → AtText s said chosen f g q certificate → ProofsSayTheSame r q
    at_text (inl a) (inl b) = refused_once OldVersion OldVersion a.0 b.0 refl
    at_text (inl a) (inr b) = absurd (not_old q a.1 b)
    at_text (inr a) (inl b) = absurd (not_old r b.1 a)
    at_text (inr a) (inr b) = at_lines a b
