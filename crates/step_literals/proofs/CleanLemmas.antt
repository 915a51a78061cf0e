-- The bytes of a string from 32 up, and what they begin with.
use Rattle.std.proofs.Common.{◌≡◌, ℕ, zero, suc, ◌+◌, ◌≤◌, ◌<◌, Bool, true, false, List, [], ◌∷◌, ◌++◌, length, get_or, take, drop, refl, sym, ap, ◌∙◌, arith, append_assoc, take-append-drop, drop-drop, nat_le, not}
use Rattle.std.proofs.lemmas.List.{take_all}
use Rattle.std.proofs.lemmas.List.Filters.{length-filter_both}
use Rattle.std.proofs.lemmas.Bool.Decides.{nat_tests}
use Rattle.std.specs.Cmp.Lexicographic.{bytes_decides}
use Rattle.step_literals.proofs.Runs.{front_back}
use Rattle.step_literals.specs.Strings.{clean, begins_with}
use Rattle.step_literals.specs.steps.Directives.{Skips}

-- what is passed in two parts
pub skips_on : {n m : ℕ} {before between after : List ℕ} → Skips n before between → Skips m between after
    → Skips (n + m) before after
skips_on {n} {m} {before} {between} {after} h g = record {
  passed = h.passed ++ g.passed;
  split = h.split ∙ ap (λ l. h.passed ++ l) g.split ∙ sym (append_assoc h.passed g.passed after);
  left = g.left ∙ ap (λ l. drop m l) h.left ∙ drop-drop m n (clean before);
}

pub skips_as : {n m : ℕ} {before after : List ℕ} → n ≡ m → Skips n before after → Skips m before after
skips_as e h = rw e at h

pub kept : (b : ℕ) (bs : List ℕ) → 32 ≤ b → clean (b ∷ bs) ≡ b ∷ clean bs
kept b bs h = let q : nat_le 32 b ≡ true = grind (arith, nat_tests) in rw q refl

low : (b : ℕ) (bs : List ℕ) → b < 32 → clean (b ∷ bs) ≡ clean bs
low b bs h = let q : nat_le 32 b ≡ false = grind (arith, nat_tests) in rw q refl

pub skips_kept : {bytes rest after : List ℕ} {b : ℕ} → Skips 0 bytes rest → rest ≡ b ∷ after → 32 ≤ b
    → Skips 1 bytes after
skips_kept {bytes} {rest} {after} {b} h e large =
    let one : Skips 1 rest after = record {
      passed = b ∷ [];
      split = e;
      left = sym (ap (λ l. drop 1 (clean l)) e ∙ ap (λ l. drop 1 l) (kept b after large));
    } in
    skips_as (omega arith) (skips_on h one)

pub skips_low : {bytes rest after : List ℕ} {b : ℕ} → Skips 0 bytes rest → rest ≡ b ∷ after → b < 32
    → Skips 0 bytes after
skips_low {bytes} {rest} {after} {b} h e small =
    let none : Skips 0 rest after = record {
      passed = b ∷ [];
      split = e;
      left = sym (ap clean e ∙ low b after small);
    } in
    skips_as (omega arith) (skips_on h none)

pub begins_yes : (text bs rest : List ℕ) → bs ≡ text ++ rest → begins_with text bs ≡ true
begins_yes text bs rest e = (bytes_decides text (take (length text) bs)).1
    (sym (front_back bs text rest (length text) e refl).1)

-- what begins with a text has a rest
pub begins_split : (text bs : List ℕ) → begins_with text bs ≡ true → bs ≡ text ++ drop (length text) bs
begins_split text bs h =
    sym (take-append-drop (length text) bs) ∙ ap (λ l. l ++ drop (length text) bs)
    (sym ((bytes_decides text (take (length text) bs)).0 h))

begins_is : (text bs : List ℕ) (t : Bool) → begins_with text bs ≡ t → ((rest : List ℕ) → bs ≡ text ++ rest → ⊥)
    → t ≡ false
begins_is text bs true h none = absurd (none (drop (length text) bs) (begins_split text bs h))
begins_is text bs false h none = refl

pub begins_no : (text bs : List ℕ) → ((rest : List ℕ) → bs ≡ text ++ rest → ⊥) → begins_with text bs ≡ false
begins_no text bs none = begins_is text bs (begins_with text bs) refl none

same_at : (text : List ℕ) (k first : ℕ) (back rest : List ℕ) → take k text ++ first ∷ back ≡ text ++ rest
    → k < length text → first ≡ get_or text k 0
same_at [] k first back rest e lt = absurd (omega arith)
same_at (x ∷ xs) zero first back rest e lt = cc
same_at (x ∷ xs) (suc k) first back rest e lt = same_at xs k first back rest (cc) (omega arith)

-- the first difference
pub differs : (text bs : List ℕ) (k first : ℕ) (back : List ℕ) → bs ≡ take k text ++ first ∷ back → k < length text
    → (first ≡ get_or text k 0 → ⊥) → begins_with text bs ≡ false
differs text bs k first back e lt other =
    begins_no text bs (λ rest h. other (same_at text k first back rest (sym e ∙ h) lt))

pub clean_le : (bs : List ℕ) → length (clean bs) ≤ length bs
clean_le bs = omega (arith, length-filter_both (λ b. nat_le 32 b) (λ b. not (nat_le 32 b)) (λ b. refl) bs)

same_more : (text : List ℕ) (k : ℕ) (back : List ℕ) → k < length text → take k text ++ get_or text k 0
    ∷ back ≡ take (suc k) text ++ back
same_more [] k back lt = absurd (omega arith)
same_more (x ∷ xs) zero back lt = refl
same_more (x ∷ xs) (suc k) back lt = ap (λ l. x ∷ l) (same_more xs k back (omega arith))

-- one byte more of the text
pub taken_more : (text bs back : List ℕ) (k first : ℕ) → bs ≡ take k text ++ first ∷ back → k < length text
    → first ≡ get_or text k 0 → bs ≡ take (k + 1) text ++ back
taken_more text bs back k first e lt same = e ∙ ap (λ b. take k text ++ b ∷ back) same ∙ same_more text k back lt
    ∙ ap (λ n. take n text ++ back) {x = suc k} {y = k + 1} (omega arith)

-- the whole text
pub taken_all : (text bs back : List ℕ) (k : ℕ) → bs ≡ take k text ++ back → length text ≤ k → bs ≡ text ++ back
taken_all text bs back k e le = e ∙ ap (λ l. l ++ back) (take_all k text le)
