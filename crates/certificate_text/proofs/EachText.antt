-- Each text is a certificate, or has a fault of its own.
use Rattle.std.proofs.Common.{◌≡◌, ℕ, zero, suc, ◌+◌, ◌≤◌, true, not, List, [], ◌∷◌, ◌++◌, length, refl, ap, arith, ◌⊎◌, inl, inr, length-append}
use Rattle.std.specs.Prelude.{codes, ◌==◌}
use Rattle.std.proofs.lemmas.Bool.{cases_eq}
use Rattle.std.proofs.lemmas.Bool.Decides.{nat_tests}
use Rattle.value_equality.specs.Tables.{Table}
use Rattle.step_literals.proofs.Choices.{Decided}
use Rattle.certificate_text.specs.Texts.{IsCertificate}
use Rattle.certificate_text.specs.Faults.{IsLine, IsBadLine, IsCertificateFaultOf}
use Rattle.certificate_text.specs.Laws.{EachTextIsAnswered}
use Rattle.certificate_text.specs.steps.ComputedParts.{Reading}
use Rattle.certificate_text.specs.declared.fault.CertFault.{CertFault}
use Rattle.certificate_text.specs.declared.fault.CertFault.TheVariants.{OldVersion, BadText, Memory}
use Rattle.certificate_text.specs.declared.reader.Part.{Part}
use Rattle.certificate_text.specs.declared.reader.Part.TheVariants.{Opening, Heading, FirstRounds, First, SecondRounds, Second, Ended}
use Rattle.certificate_text.proofs.Deciding.{Behind, behind_or_not, Next, next_or_not}
use Rattle.certificate_text.proofs.Lining.{Reads, begun, read_on, bad_here, bad_end, whole}

-- the first line, if it is ended
abbrev Line : List ℕ → Type 0
Line rest = (l : List ℕ) × (next : List ℕ) × IsLine l × (rest ≡ l ++ (10 ∷ next))

other : (x : ℕ) → (x ≡ 10 → ⊥) → not (x == 10) ≡ true
other x n = grind (arith, nat_tests)

line_or_none : (rest : List ℕ) → Line rest ⊎ IsLine rest
line_or_none [] = inr tt
line_or_none (x ∷ rest) = by (cases_eq x 10) (line_or_none rest)
  where
    by : (x ≡ 10) ⊎ (x ≡ 10 → ⊥) → Line rest ⊎ IsLine rest → Line (x ∷ rest) ⊎ IsLine (x ∷ rest)
    by (inl e) d = inl ([], rest, tt, ap (λ y. y ∷ rest) e)
    by (inr n) (inl q) = inl (x ∷ q.0, q.1, (other x n, q.2), ap (λ y. x ∷ y) q.3)
    by (inr n) (inr h) = inr (other x n, h)

abbrev Answer : List ℕ → Type 0
Answer text = ((s : Table) × (t : Table) × IsCertificate text s t) ⊎ ((line : ℕ) × IsBadLine text line)

ended_or_not : (p : Part) → Decided (p ≡ Ended)
ended_or_not Opening = inr (λ e. absurd (cc))
ended_or_not Heading = inr (λ e. absurd (cc))
ended_or_not FirstRounds = inr (λ e. absurd (cc))
ended_or_not First = inr (λ e. absurd (cc))
ended_or_not SecondRounds = inr (λ e. absurd (cc))
ended_or_not Second = inr (λ e. absurd (cc))
ended_or_not Ended = inl refl

at_end : (text rest : List ℕ) (line : ℕ) (a : Reading) → Reads text rest line a → IsLine rest → Decided (a.part ≡ Ended)
    → Answer text
at_end text [] line a r h (inl e) = inl (a.first, a.second, whole text [] line a r refl e)
at_end text [] line a r h (inr n) = inr (line, bad_end text [] line a r h (λ e p. n p))
at_end text (x ∷ rest) line a r h d = inr (line, bad_end text (x ∷ rest) line a r h (λ e p. absurd (cc)))

fewer : (rest l next : List ℕ) (n : ℕ) → length rest ≤ suc n → rest ≡ l ++ (10 ∷ next) → length next ≤ n
fewer rest l next n le e = omega (arith, le, ap length e, length-append l (10 ∷ next))

some_left : (rest l next : List ℕ) → length rest ≤ 0 → rest ≡ l ++ (10 ∷ next) → ⊥
some_left rest l next le e = omega (arith, le, ap length e, length-append l (10 ∷ next))

-- one line more, or none that is taken
line_on : (text rest : List ℕ) (line : ℕ) (a : Reading) → Reads text rest line a → (l next : List ℕ) → IsLine l
    → rest ≡ l ++ (10 ∷ next) → ((b : Reading) → Reads text next (line + 1) b → Answer text)
    → Decided (Next a.part a.first a.second l) → Answer text
line_on text rest line a r l next h e go (inl b) = go b.0 (read_on text rest line a b.0 l next r b.1 e)
line_on text rest line a r l next h e go (inr never) =
    inr (line, bad_here text rest line a r l next e h (λ u t. never (u, t)))

-- line by line, of at most n bytes that are left
search_on : (n : ℕ) (text rest : List ℕ) (line : ℕ) (a : Reading) → length rest ≤ n → Reads text rest line a
    → Line rest ⊎ IsLine rest → Answer text
search_on n text rest line a le r (inr h) = at_end text rest line a r h (ended_or_not a.part)
search_on zero text rest line a le r (inl q) = absurd (some_left rest q.0 q.1 le q.3)
search_on (suc n) text rest line a le r (inl q) =
    line_on text rest line a r q.0 q.1 q.2 q.3 (λ b s. search_on n text q.1 (line + 1) b (fewer rest q.0 q.1 n le q.3) s
    (line_or_none q.1)) (next_or_not a.part a.first a.second q.0)

blank : Table
blank = record { rounds = 0; classes = []; members = [] }

answer : (text : List ℕ) → Answer text
unfolding blank
answer text = search_on (length text) text text 1 (record { part = Opening; first = blank; second = blank }) (omega arith)
    (begun text (record { part = Opening; first = blank; second = blank }) refl refl refl refl refl) (line_or_none text)

pub each_text : EachTextIsAnswered
each_text text = by (behind_or_not (codes "STEPCERT 1\n") text) (answer text)
  where
    by : Decided (Behind (codes "STEPCERT 1\n") text) → Answer text → ((s : Table) × (t : Table) × IsCertificate text s t)
        ⊎ ((e : CertFault) × (e ≡ Memory → ⊥) × IsCertificateFaultOf text e)
    by (inl q) a = inr (OldVersion, (λ e. absurd (cc)), q)
    by (inr n) (inl c) = inl c
    by (inr n) (inr b) = inr (BadText b.0, (λ e. absurd (cc)), (n, b.1))
