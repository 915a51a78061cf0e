-- A text, read line by line.
use Rattle.std.proofs.Common.{◌≡◌, ℕ, suc, ◌+◌, ◌<◌, ◌≤◌, ◌^◌, List, [], ◌∷◌, ◌++◌, length, refl, sym, ap, ◌∙◌, subst, arith, ◌⊎◌, inl, inr, append-nil, append_assoc, length-append}
use Rattle.value_equality.specs.Tables.{Table}
use Rattle.std.specs.Prelude.{codes, ◌==◌}
use Rattle.std.proofs.Common.{take, drop, false, get_or}
use Rattle.std.proofs.lemmas.Bool.Decides.{nat_tests}
use Rattle.step_literals.proofs.Found.{Found, at_found, drop_found}
use Rattle.certificate_text.specs.Texts.{table_lines, certificate_lines, text_of, IsHeld, IsCertificate}
use Rattle.certificate_text.specs.Faults.{IsOld, IsLine, BeginsCertificate, IsBadLine, IsCertificateFaultOf}
use Rattle.certificate_text.specs.steps.ComputedParts.{Reading, Takes, lines_at, lines_of}
use Rattle.certificate_text.specs.declared.fault.CertFault.{CertFault}
use Rattle.certificate_text.specs.declared.fault.CertFault.TheVariants.{OldVersion, BadText, Memory}
use Rattle.certificate_text.specs.declared.reader.Part.{Part}
use Rattle.certificate_text.specs.declared.reader.Part.TheVariants.{Opening, Heading, FirstRounds, First, SecondRounds, Second, Ended}
use Rattle.certificate_text.proofs.Unbroken.{AreLines, certificate_has_lines, front_lines, back_lines, line_once, no_end, Begins, begins, text_push}
use Rattle.certificate_text.proofs.Readings.{IsReading, step, viable, continues, unfinished, nothing_more}

pub record Reads (text rest : List ℕ) (line : ℕ) (a : Reading) : Type 0 where
  pub held : IsReading a
  pub text_is : text ≡ text_of (lines_of a) ++ rest
  pub count : line ≡ suc (length (lines_of a))

lines_fit : (ls : List (List ℕ)) → length ls ≤ length (text_of ls)
lines_fit [] = omega arith
lines_fit (l ∷ ls) = omega (arith, lines_fit ls, length-append l (10 ∷ text_of ls))

front_fits : (l : List ℕ) (ls : List (List ℕ)) → 0 < length l → suc (length (l ∷ ls)) ≤ length (text_of (l ∷ ls))
front_fits l ls h = omega (arith, lines_fit ls, length-append l (10 ∷ text_of ls), h)

fits_at : (p : Part) (s t : Table) → (length (lines_at p s t) ≡ 0) ⊎ (suc (length (lines_at p s t)) ≤ length (text_of
    (lines_at p s t)))
fits_at Opening s t = inl refl
fits_at Heading s t = inr (front_fits (codes "STEPCERT 2") [] (omega arith))
fits_at FirstRounds s t = inr (front_fits (codes "STEPCERT 2") (codes "table 1" ∷ []) (omega arith))
fits_at First s t = inr (front_fits (codes "STEPCERT 2") (codes "table 1" ∷ table_lines s) (omega arith))
fits_at SecondRounds s t = inr (front_fits (codes "STEPCERT 2") (codes "table 1" ∷ (table_lines s ++ (codes "table 2" ∷ [])))
    (omega arith))
fits_at Second s t = inr (front_fits (codes "STEPCERT 2") (codes "table 1" ∷ (table_lines s ++ (codes "table 2"
    ∷ table_lines t))) (omega arith))
fits_at Ended s t = inr (front_fits (codes "STEPCERT 2") (codes "table 1" ∷ (table_lines s ++ (codes "table 2"
    ∷ (table_lines t ++ (codes "end" ∷ []))))) (omega arith))

-- there are fewer lines than bytes
pub line_below : (text rest : List ℕ) (line : ℕ) (a : Reading) → Reads text rest line a → length text < 2 ^ 64
    → 0 < length rest → line + 1 < 2 ^ 64
line_below text rest line a r lt some =
    let len : length text ≡ length (text_of (lines_of a)) + length rest =
    ap length r.text_is ∙ length-append (text_of (lines_of a)) rest in
    by len (fits_at a.part a.first a.second)
  where
    by : length text ≡ length (text_of (lines_of a)) + length rest → (length (lines_of a) ≡ 0)
        ⊎ (suc (length (lines_of a)) ≤ length (text_of (lines_of a))) → line + 1 < 2 ^ 64
    by len (inl h) = omega (arith, h, r.count)
    by len (inr h) = omega (arith, len, h, r.count, lt, some)

pub begun : (text : List ℕ) (a : Reading) → a.part ≡ Opening → a.first.classes ≡ [] → a.first.members ≡ []
    → a.second.classes ≡ [] → a.second.members ≡ [] → Reads text text 1 a
begun text a p c m d n = subst (λ x. Reads text text 1 (record { part = x; first = a.first; second = a.second })) (sym p)
    (record { held = ((c, m), (d, n)); text_is = refl; count = refl })

pub read_on : (text rest : List ℕ) (line : ℕ) (a b : Reading) (l next : List ℕ) → Reads text rest line a → Takes a l b
    → rest ≡ l ++ (10 ∷ next) → Reads text next (line + 1) b
read_on text rest line a b l next r t e =
    let g = step a.part a.first a.second l b r.held t in
    let more : length (lines_of b) ≡ length (lines_of a) + 1 = ap length g.lines ∙ length-append (lines_of a) (l ∷ []) in
    record {
      held = g.held;
      text_is = r.text_is ∙ ap (λ x. text_of (lines_of a) ++ x) e ∙ sym (text_push (lines_of a) l next)
          ∙ ap (λ x. text_of x ++ next) (sym g.lines);
      count = omega (arith, r.count, more);
    }

has_lines : (lines : List (List ℕ)) → BeginsCertificate lines → AreLines lines
has_lines lines f =
    front_lines lines f.more (subst AreLines f.lines_are (certificate_has_lines f.first f.second f.first_held f.second_held))

-- what a certificate is behind the lines that were read
behind : (text rest : List ℕ) (line : ℕ) (a : Reading) → Reads text rest line a → (s t : Table) → IsCertificate text s t
    → Begins (certificate_lines s t) (lines_of a) rest
behind text rest line a r s t c =
    begins (certificate_lines s t) (lines_of a) rest (certificate_has_lines s t c.first_held c.second_held)
    (has_lines (lines_of a) (viable a.part a.first a.second r.held)) (sym c.text_is ∙ r.text_is)

later_lines : (s t : Table) (front more : List (List ℕ)) → IsHeld s → IsHeld t → certificate_lines s t ≡ front ++ more
    → AreLines more
later_lines s t front more hs ht e = back_lines front more (subst AreLines e (certificate_has_lines s t hs ht))

-- no certificate goes on with a line that isn't taken
module _ (text rest : List ℕ) (line : ℕ) (a : Reading) (r : Reads text rest line a) (l next : List ℕ)
    (e : rest ≡ l ++ (10 ∷ next)) (unbroken : IsLine l) (never : (u : Reading) → Takes a l u → ⊥) where
  refused : (k more : List ℕ) → rest ≡ k ++ (10 ∷ more) → IsLine k → BeginsCertificate (lines_of a ++ (k ∷ [])) → ⊥
  refused k more ke kl f =
      let same : k ≡ l = (line_once k l more next kl unbroken (sym ke ∙ e)).0 in
      let q = continues f.first f.second f.first_held f.second_held a.part a.first a.second r.held k f.more
      (f.lines_are ∙ append_assoc (lines_of a) (k ∷ []) f.more) in
      never q.0 (subst (λ x. Takes a x q.0) same q.1)

  no_certificate : (s t : Table) → IsHeld s → IsHeld t → (more : List (List ℕ)) → certificate_lines s t ≡ lines_of a ++ more
      → rest ≡ text_of more → ⊥
  no_certificate s t hs ht [] c q = no_end l next [] tt (sym q ∙ e)
  no_certificate s t hs ht (k ∷ more) c q = refused k (text_of more) q (later_lines s t (lines_of a) (k ∷ more) hs ht c).0
      (record {
        first = s;
        second = t;
        first_held = hs;
        second_held = ht;
        more = more;
        lines_are = c ∙ sym (append_assoc (lines_of a) (k ∷ []) more);
      })

  pub bad_here : IsBadLine text line
  bad_here = record {
    before = lines_of a;
    left = rest;
    text_is = r.text_is;
    viable = viable a.part a.first a.second r.held;
    refused = refused;
    unread = (λ s t c. let b = behind text rest line a r s t c in
        no_certificate s t c.first_held c.second_held b.more b.lines_are b.rest_is);
    line_is = r.count;
  }

-- no certificate ends with a line that isn't ended, or too early
module _ (text rest : List ℕ) (line : ℕ) (a : Reading) (r : Reads text rest line a) (unbroken : IsLine rest)
    (never : rest ≡ [] → a.part ≡ Ended → ⊥) where
  no_whole : (s t : Table) → IsHeld s → IsHeld t → (more : List (List ℕ)) → certificate_lines s t ≡ lines_of a ++ more
      → rest ≡ text_of more → ⊥
  no_whole s t hs ht [] c q = unfinished s t hs ht a.part a.first a.second (never q) r.held (c ∙ append-nil (lines_of a))
  no_whole s t hs ht (k ∷ more) c q = no_end k (text_of more) rest unbroken q

  pub bad_end : IsBadLine text line
  bad_end = record {
    before = lines_of a;
    left = rest;
    text_is = r.text_is;
    viable = viable a.part a.first a.second r.held;
    refused = (λ k more e kl f. no_end k more rest unbroken e);
    unread = (λ s t c. let b = behind text rest line a r s t c in
        no_whole s t c.first_held c.second_held b.more b.lines_are b.rest_is);
    line_is = r.count;
  }

at_end : (text : List ℕ) (p : Part) (s t : Table) → p ≡ Ended → IsReading (record { part = p; first = s; second = t })
    → text ≡ text_of (lines_at p s t) → IsCertificate text s t
at_end text p s t e h q =
    let k : IsReading (record { part = Ended; first = s; second = t }) =
    subst (λ x. IsReading (record { part = x; first = s; second = t })) e h in
    record { first_held = k.0; second_held = k.1; text_is = q ∙ ap (λ x. text_of (lines_at x s t)) e }

pub whole : (text rest : List ℕ) (line : ℕ) (a : Reading) → Reads text rest line a → rest ≡ [] → a.part ≡ Ended
    → IsCertificate text a.first a.second
whole text rest line a r e p = at_end text a.part a.first a.second p r.held
    (r.text_is ∙ ap (λ x. text_of (lines_of a) ++ x) e ∙ append-nil (text_of (lines_of a)))

-- the laws
pub one_certificate : (text : List ℕ) (s t u v : Table) → IsCertificate text s t → IsCertificate text u v → (s ≡ u) × (t ≡ v)
one_certificate text s t u v a b =
    let q = begins (certificate_lines s t) (certificate_lines u v) [] (certificate_has_lines s t a.first_held a.second_held)
    (certificate_has_lines u v b.first_held b.second_held) (sym a.text_is ∙ b.text_is
    ∙ sym (append-nil (text_of (certificate_lines u v)))) in
    let n = nothing_more s t u v a.first_held a.second_held b.first_held b.second_held q.more q.lines_are in (n.0, n.1)

pub not_old : (text : List ℕ) (s t : Table) → IsCertificate text s t → IsOld text → ⊥
not_old text s t c old = absurd (omega (arith, ap (λ l. get_or l 9 0) (sym c.text_is ∙ old.1)))

pub no_fault : (text : List ℕ) (s t : Table) (e : CertFault) → IsCertificate text s t → IsCertificateFaultOf text e → e ≡ Memory
no_fault text s t OldVersion c h = absurd (not_old text s t c h)
no_fault text s t (BadText line) c h = absurd (h.1.unread s t c)
no_fault text s t Memory c h = refl

-- of two fronts of a text one goes on with the other's
pub data Aligned (xs ys : List (List ℕ)) (a b : List ℕ) : Type 0 where
  same : xs ≡ ys → Aligned xs ys a b
  longer : (l : List ℕ) (more : List (List ℕ)) → xs ≡ ys ++ (l ∷ more) → IsLine l → (r : List ℕ) → b ≡ l ++ (10 ∷ r)
      → Aligned xs ys a b
  shorter : (l : List ℕ) (more : List (List ℕ)) → ys ≡ xs ++ (l ∷ more) → IsLine l → (r : List ℕ) → a ≡ l ++ (10 ∷ r)
      → Aligned xs ys a b

aligned_too : (x y : List ℕ) (xs ys : List (List ℕ)) (a b : List ℕ) → x ≡ y → Aligned xs ys a b → Aligned (x ∷ xs) (y ∷ ys)
    a b
aligned_too x y xs ys a b e (same q) = same (λ i. e i ∷ q i)
aligned_too x y xs ys a b e (longer l more q h r k) = longer l more (λ i. e i ∷ q i) h r k
aligned_too x y xs ys a b e (shorter l more q h r k) = shorter l more (λ i. sym e i ∷ q i) h r k

align : (xs ys : List (List ℕ)) (a b : List ℕ) → AreLines xs → AreLines ys → text_of xs ++ a ≡ text_of ys ++ b
    → Aligned xs ys a b
align [] [] a b hx hy e = same refl
align [] (y ∷ ys) a b hx hy e = shorter y ys refl hy.0 (text_of ys ++ b) (e ∙ append_assoc y (10 ∷ text_of ys) b)
align (x ∷ xs) [] a b hx hy e = longer x xs refl hx.0 (text_of xs ++ a) (sym e ∙ append_assoc x (10 ∷ text_of xs) a)
align (x ∷ xs) (y ∷ ys) a b hx hy e =
    let cut = line_once x y (text_of xs ++ a) (text_of ys ++ b) hx.0 hy.0 (sym (append_assoc x (10 ∷ text_of xs) a) ∙ e
    ∙ append_assoc y (10 ∷ text_of ys) b) in
    aligned_too x y xs ys a b cut.0 (align xs ys a b hx.1 hy.1 cut.1)

sooner : (front back : List (List ℕ)) (l : List ℕ) (more : List (List ℕ)) → back ≡ front ++ (l ∷ more) → BeginsCertificate back
    → BeginsCertificate (front ++ (l ∷ []))
sooner front back l more e f = record {
  first = f.first;
  second = f.second;
  first_held = f.first_held;
  second_held = f.second_held;
  more = more ++ f.more;
  lines_are = f.lines_are ∙ ap (λ x. x ++ f.more) e ∙ append_assoc front (l ∷ more) f.more
      ∙ sym (append_assoc front (l ∷ []) (more ++ f.more));
}

pub one_bad_line : (text : List ℕ) (m n : ℕ) → IsBadLine text m → IsBadLine text n → m ≡ n
one_bad_line text m n a b = by (align a.before b.before a.left b.left (has_lines a.before a.viable)
    (has_lines b.before b.viable) (sym a.text_is ∙ b.text_is))
  where
    by : Aligned a.before b.before a.left b.left → m ≡ n
    by (same q) = a.line_is ∙ ap (λ x. suc (length x)) q ∙ sym b.line_is
    by (longer l more q h r k) = absurd (b.refused l r k h (sooner b.before a.before l more q a.viable))
    by (shorter l more q h r k) = absurd (a.refused l r k h (sooner a.before b.before l more q b.viable))

-- a line is cut off, and the byte that ends it
pub cut_at : (rest : List ℕ) (at : ℕ) → Found 10 rest at → (front back next : List ℕ) → front ≡ take at rest
    → back ≡ drop at rest → next ≡ drop 1 back → rest ≡ front ++ (10 ∷ next)
cut_at rest at h front back next f b n =
    at_found 10 rest at h ∙ ap (λ x. x ++ (10 ∷ drop (at + 1) rest)) (sym f) ∙ ap (λ x. front ++ (10 ∷ x))
    (sym (n ∙ ap (drop 1) b ∙ ap (drop 1) (drop_found 10 rest at h)))

pub not_none : (r : List ℕ) → (length r == 0) ≡ false → r ≡ [] → ⊥
not_none r h e = let none : length r ≡ 0 = ap length e in absurd (grind (arith, nat_tests))
